-- What the number of arguments makes of a function's definition.
use Rattle.std.proofs.Common.{◌≡◌, ◌≢◌, ◌<◌, ◌≤◌, ◌||◌, Bool, List, [], ◌∷◌, length, get_or, map, Option, Some, None, Result, Ok, Err, MatchResult, IfOk, ap, sym, ◌∙◌, refl, arith, rules, true, false}
use Rattle.std.specs.List.{list_any}
use Rattle.ad_value.specs.declared.value.Value.{Value, the_lemmas}
use Rattle.ad_value.specs.declared.memory.Memory.{Memory}
use Rattle.ad_value.specs.Content.{Content, content}
use Rattle.ad_func.specs.Arguments.{is_error, is_undefined, strict, with_one, with_two, with_three, with_one_or_two, with_two_or_three}

pub any_of : (p : Content → Bool) (vs : List Value) → list_any p (map content vs) ≡ list_any (λ v. p (content v)) vs
any_of p [] = refl
any_of p (v ∷ vs) = ap (λ b. p (content v) || b) (any_of p vs)

-- the kinds that settle a value, as contents
pub error_first : (vs : List Value) (v : Content) → list_any (λ x. is_error (content x)) vs ≡ true → strict (map content vs) v ≡ content Value.Error
error_first vs v e = rw (any_of is_error vs ∙ e) (search (rules, the_lemmas))

pub then_undefined : (vs : List Value) (v : Content) → list_any (λ x. is_error (content x)) vs ≡ false → list_any (λ x. is_undefined (content x)) vs ≡ true → strict (map content vs) v ≡ content Value.Undefined
then_undefined vs v e u = rw (any_of is_error vs ∙ e, any_of is_undefined vs ∙ u) (search (rules, the_lemmas))

-- a definition that is strict in its arguments, where a call of unless_settled has seen them
pub settled_is : {T : Type 0} (r : Result T Value) (vs : List Value) (a : T) (g : List Content → Content) (h : T → Content) → g (map content vs) ≡ strict (map content vs) (h a) → ((v : Content) → MatchResult r (λ x. (x ≡ a) × (strict (map content vs) v ≡ v)) (λ s. strict (map content vs) v ≡ content s)) → MatchResult r (λ x. g (map content vs) ≡ h x) (λ s. g (map content vs) ≡ content s)
settled_is (Ok x) vs a g h e k = e ∙ (k (h a)).1 ∙ ap h (sym (k (h a)).0)
settled_is (Err s) vs a g h e k = e ∙ k (h a)

pub one_is : (f : Content → Content) (vs : List Value) (x : Value) → 1 ≤ length vs → length vs < 2 → x ≡ get_or vs 0 x → with_one f (map content vs) ≡ strict (map content vs) (f (content x))
one_is f [] x p q e = absurd (omega (arith, p))
one_is f (v ∷ []) x p q e = ap (λ y. strict (content v ∷ []) (f (content y))) (sym e)
one_is f (v ∷ w ∷ vs) x p q e = absurd (omega (arith, q))

pub two_is : (f : Content → Content → Content) (vs : List Value) (x y : Value) → 2 ≤ length vs → length vs < 3 → x ≡ get_or vs 0 x → y ≡ get_or vs 1 y → with_two f (map content vs) ≡ strict (map content vs) (f (content x) (content y))
two_is f [] x y p q d e = absurd (omega (arith, p))
two_is f (v ∷ []) x y p q d e = absurd (omega (arith, p))
two_is f (v ∷ w ∷ []) x y p q d e = λ i. strict (content v ∷ content w ∷ []) (f (content (sym d i)) (content (sym e i)))
two_is f (v ∷ w ∷ u ∷ vs) x y p q d e = absurd (omega (arith, q))

pub three_is : (f : Content → Content → Content → Content) (vs : List Value) (x y z : Value) → 3 ≤ length vs → length vs < 4 → x ≡ get_or vs 0 x → y ≡ get_or vs 1 y → z ≡ get_or vs 2 z → with_three f (map content vs) ≡ strict (map content vs) (f (content x) (content y) (content z))
three_is f [] x y z p q c d e = absurd (omega (arith, p))
three_is f (v ∷ []) x y z p q c d e = absurd (omega (arith, p))
three_is f (v ∷ w ∷ []) x y z p q c d e = absurd (omega (arith, p))
three_is f (v ∷ w ∷ u ∷ []) x y z p q c d e = λ i. strict (content v ∷ content w ∷ content u ∷ []) (f (content (sym c i)) (content (sym d i)) (content (sym e i)))
three_is f (v ∷ w ∷ u ∷ t ∷ vs) x y z p q c d e = absurd (omega (arith, q))

-- the count says whether the last argument is there
pub last_of_one : (f : Content → Option Content → Content) (vs : List Value) → length vs ≡ 1 → with_one_or_two f (map content vs) ≡ with_one (λ a. f a None) (map content vs)
last_of_one f [] p = absurd (omega (arith, p))
last_of_one f (v ∷ []) p = refl
last_of_one f (v ∷ w ∷ vs) p = absurd (omega (arith, p))

pub last_of_two : (f : Content → Option Content → Content) (vs : List Value) → length vs ≢ 1 → with_one_or_two f (map content vs) ≡ with_two (λ a b. f a (Some b)) (map content vs)
last_of_two f [] p = refl
last_of_two f (v ∷ []) p = absurd (omega (arith, p))
last_of_two f (v ∷ w ∷ vs) p = refl

pub last_left_out : (f : Content → Content → Option Content → Content) (vs : List Value) → length vs ≡ 2 → with_two_or_three f (map content vs) ≡ with_two (λ a b. f a b None) (map content vs)
last_left_out f [] p = absurd (omega (arith, p))
last_left_out f (v ∷ []) p = absurd (omega (arith, p))
last_left_out f (v ∷ w ∷ []) p = refl
last_left_out f (v ∷ w ∷ u ∷ vs) p = absurd (omega (arith, p))

pub last_of_three : (f : Content → Content → Option Content → Content) (vs : List Value) → length vs ≢ 2 → with_two_or_three f (map content vs) ≡ with_three (λ a b c. f a b (Some c)) (map content vs)
last_of_three f [] p = refl
last_of_three f (v ∷ []) p = refl
last_of_three f (v ∷ w ∷ []) p = absurd (omega (arith, p))
last_of_three f (v ∷ w ∷ u ∷ vs) p = refl

-- the value of a call by the value of its function at the arguments
pub by_arguments : (r : Result Value Memory) (a b : Content) → a ≡ b → IfOk r (λ v. content v ≡ b) → IfOk r (λ v. content v ≡ a)
by_arguments (Ok v) a b e h = h ∙ sym e
by_arguments (Err m) a b e h = tt
