-- Where the left operand settles the value, and where the right one matters.
use Rattle.std.proofs.Common.{◌≡◌, ◌≢◌, ℤ, true, false, not, Option, MatchOption, refl, ap, sym, ◌∙◌}
use Rattle.ad_value.specs.declared.truth.Truth.{Truth}
use Rattle.ad_value.specs.declared.truth.Truth.TheVariants as is
use Rattle.ad_value.specs.Content.{Content, undefined, error, truth, integer, text, items}
use Rattle.ad_value.specs.Order.{order_of}
use Rattle.ad_value.specs.Truth.{truth_of}
use Rattle.ad_tree.specs.declared.operator.BinOp.{BinOp}
use Rattle.ad_tree.specs.declared.operator.BinOp.TheVariants as bin
use Rattle.ad_eval.specs.Operators.{both, either, same, of_numbers, arithmetic_value, comparison_result}
use Rattle.ad_eval.specs.Settling.{when_true, when_false, when_unordered, when_not_counted}
use Rattle.ad_eval.specs.Laws.{SettlesWhereRightIsIdle}
use Rattle.ad_eval.proofs.SameLemmas.{itself}

-- a function of the right operand, with the value where it is settled
abbrev Settles : Option Content → (Content → Content) → Type 0
Settles o f = MatchOption o ((b : Content) × ((c : Content) × (f b ≢ f c))) (λ v. (b : Content) → f b ≡ v)

of_either : (t : Truth) → Settles (when_true t) (λ b. either t (truth_of b))
of_either is.True = λ b. refl
of_either is.False = (truth true, (truth false, λ e. cc))
of_either is.Undefined = (truth true, (truth false, λ e. cc))
of_either is.Error = (truth true, (truth false, λ e. cc))

of_both : (t : Truth) → Settles (when_false t) (λ b. both t (truth_of b))
of_both is.False = λ b. refl
of_both is.True = (truth true, (truth false, λ e. cc))
of_both is.Undefined = (truth true, (truth false, λ e. cc))
of_both is.Error = (truth true, (truth false, λ e. cc))

of_comparison : (op : BinOp) (a : Content) → Settles (when_unordered a) (λ b. comparison_result op (order_of a b))
of_comparison op error = λ b. refl
of_comparison op (items l) = λ b. refl
of_comparison op undefined = (error, (undefined, λ e. cc))
of_comparison op (truth x) = (error, (undefined, λ e. cc))
of_comparison op (integer n) = (error, (undefined, λ e. cc))
of_comparison op (text s) = (error, (undefined, λ e. cc))

of_arithmetic : (f : ℤ → ℤ → Content) (a : Content) → Settles (when_not_counted a) (of_numbers f a)
of_arithmetic f error = λ b. refl
of_arithmetic f (text s) = λ b. refl
of_arithmetic f (items l) = λ b. refl
of_arithmetic f undefined = (error, (undefined, λ e. cc))
of_arithmetic f (truth x) = (error, (undefined, λ e. cc))
of_arithmetic f (integer n) = (error, (undefined, λ e. cc))

-- a value of another kind
abbrev another : Content → Content
another undefined = error
another a = undefined

another_is : (a : Content) → same a (another a) ≡ false
another_is undefined = refl
another_is error = refl
another_is (truth x) = refl
another_is (integer n) = refl
another_is (text s) = refl
another_is (items l) = refl

apart : (a : Content) → truth (same a a) ≢ truth (same a (another a))
apart a e = let clash : truth true ≡ truth false = sym (ap truth (itself a)) ∙ e ∙ ap truth (another_is a) in cc

apart_negated : (a : Content) → truth (not (same a a)) ≢ truth (not (same a (another a)))
apart_negated a e = let clash : truth false ≡ truth true = sym (ap (λ b. truth (not b)) (itself a)) ∙ e ∙ ap (λ b. truth (not b)) (another_is a) in cc

pub settles_where_right_is_idle : (op : BinOp) (a : Content) → SettlesWhereRightIsIdle op a
settles_where_right_is_idle bin.Or a = of_either (truth_of a)
settles_where_right_is_idle bin.And a = of_both (truth_of a)
settles_where_right_is_idle bin.Same a = (a, (another a, apart a))
settles_where_right_is_idle bin.NotSame a = (a, (another a, apart_negated a))
settles_where_right_is_idle bin.Equal a = of_comparison bin.Equal a
settles_where_right_is_idle bin.NotEqual a = of_comparison bin.NotEqual a
settles_where_right_is_idle bin.Less a = of_comparison bin.Less a
settles_where_right_is_idle bin.LessEqual a = of_comparison bin.LessEqual a
settles_where_right_is_idle bin.GreaterEqual a = of_comparison bin.GreaterEqual a
settles_where_right_is_idle bin.Greater a = of_comparison bin.Greater a
settles_where_right_is_idle bin.Add a = of_arithmetic (arithmetic_value bin.Add) a
settles_where_right_is_idle bin.Subtract a = of_arithmetic (arithmetic_value bin.Subtract) a
settles_where_right_is_idle bin.Multiply a = of_arithmetic (arithmetic_value bin.Multiply) a
settles_where_right_is_idle bin.Divide a = of_arithmetic (arithmetic_value bin.Divide) a
settles_where_right_is_idle bin.Modulo a = of_arithmetic (arithmetic_value bin.Modulo) a
