-- What a name means, one reference at a time.
use Rattle.std.proofs.Common.{◌≡◌, ℕ, zero, suc, ◌-◌, ◌<◌, ◌≤◌, List, [], ◌∷◌, ◌++◌, length, Option, Some, None, Result, Ok, Err, true, false, refl, ap, sym, ◌∙◌, arith, rules, length-append}
use Rattle.ad_value.specs.declared.memory.Memory.{Memory}
use Rattle.ad_value.specs.declared.value.Value.{Value, the_lemmas}
use Rattle.ad_value.specs.declared.value.Value.TheVariants as value
use Rattle.ad_value.specs.Content.{Content, content, undefined, error}
use Rattle.ad_value.specs.Gives.{GivesValue}
use Rattle.ad_tree.specs.declared.tree.Expr.{Expr}
use Rattle.ad_tree.specs.declared.tree.Expr as declared
use Rattle.ad_tree.specs.declared.tree.Expr.TheVariants as expr
use Rattle.ad_tree.specs.Tree.{Tree, tree, literal}
use Rattle.ad_tree.specs.declared.operator.Scope.{Scope}
use Rattle.ad_eval.specs.declared.sides.Side.{Side}
use Rattle.ad_eval.specs.declared.progress.Progress.{Progress}
use Rattle.ad_eval.specs.declared.progress.TheConstants.{MOST_IN_PROGRESS}
use Rattle.ad_eval.specs.Mean.{Ads, FoundTree, look, look_found, looked_up, found_place, tree_value, is_among}

pub look_none : (n : ℕ) (ads : Ads) (s : Side) (now : ℕ) (b : Progress) (c : Scope) (x : List ℕ) → n ≡ 0 → look n ads s now b c x ≡ error
unfolding look
look_none zero ads s now b c x e = refl
look_none (suc n) ads s now b c x e = absurd (omega arith)

pub look_more : (n : ℕ) (ads : Ads) (s : Side) (now : ℕ) (b : Progress) (c : Scope) (x : List ℕ) → 0 < n → look n ads s now b c x ≡ look_found (λ q i e. tree_value (look (n - 1) ads q now (b ++ (q, i) ∷ [])) now e) b (found_place ads s c x)
unfolding look
look_more zero ads s now b c x e = absurd (omega arith)
look_more (suc n) ads s now b c x e = let m : suc n - 1 ≡ n = omega arith in rw m refl

-- where as many are in progress as may be
pub looked_none : (ads : Ads) (s : Side) (now : ℕ) (b : Progress) (c : Scope) (x : List ℕ) → MOST_IN_PROGRESS ≤ length b → looked_up ads s now b c x ≡ error
looked_none ads s now b c x h = look_none (MOST_IN_PROGRESS - length b) ads s now b c x (omega arith)

pub looked_missing : (ads : Ads) (s : Side) (now : ℕ) (b : Progress) (c : Scope) (x : List ℕ) → length b < MOST_IN_PROGRESS → found_place ads s c x ≡ None → looked_up ads s now b c x ≡ undefined
looked_missing ads s now b c x h none = look_more (MOST_IN_PROGRESS - length b) ads s now b c x (omega arith) ∙ ap (look_found _ b) none

in_progress : (mean : Side → ℕ → Tree → Content) (b : Progress) (o : Option FoundTree) (f : FoundTree) → o ≡ Some f → is_among f.0 f.1 b ≡ true → look_found mean b o ≡ error
in_progress mean b o f there again = rw (there, again) refl

pub looked_again : (ads : Ads) (s : Side) (now : ℕ) (b : Progress) (c : Scope) (x : List ℕ) → length b < MOST_IN_PROGRESS → (f : FoundTree) → found_place ads s c x ≡ Some f → is_among f.0 f.1 b ≡ true → looked_up ads s now b c x ≡ error
looked_again ads s now b c x h f there again = look_more (MOST_IN_PROGRESS - length b) ads s now b c x (omega arith) ∙ in_progress _ b _ f there again

meant : (mean : Side → ℕ → Tree → Content) (b : Progress) (o : Option FoundTree) (f : FoundTree) → o ≡ Some f → is_among f.0 f.1 b ≡ false → look_found mean b o ≡ mean f.0 f.1 f.2
meant mean b o f there new = rw (there, new) refl

-- where it is found, and is not in progress
pub looked_found : (ads : Ads) (s : Side) (now : ℕ) (b : Progress) (c : Scope) (x : List ℕ) → length b < MOST_IN_PROGRESS → (f : FoundTree) → found_place ads s c x ≡ Some f → is_among f.0 f.1 b ≡ false → (more : Progress) → more ≡ b ++ (f.0, f.1) ∷ [] → looked_up ads s now b c x ≡ tree_value (looked_up ads f.0 now more) now f.2
looked_found ads s now b c x h f there new more is =
    let fewer : MOST_IN_PROGRESS - length b - 1 ≡ MOST_IN_PROGRESS - length more = rw is (omega (arith, length-append b ((f.0, f.1) ∷ []))) in
    look_more (MOST_IN_PROGRESS - length b) ads s now b c x (omega arith) ∙ meant _ b _ f there new ∙ rw (fewer, is) refl

-- where it is found, and is a literal
pub looked_literal : (ads : Ads) (s : Side) (now : ℕ) (b : Progress) (c : Scope) (x : List ℕ) → length b < MOST_IN_PROGRESS → (f : FoundTree) → found_place ads s c x ≡ Some f → is_among f.0 f.1 b ≡ false → (v : Content) → f.2 ≡ literal v → looked_up ads s now b c x ≡ v
looked_literal ads s now b c x h f there new v is =
    looked_found ads s now b c x h f there new (b ++ (f.0, f.1) ∷ []) refl ∙ ap (tree_value (looked_up ads f.0 now (b ++ (f.0, f.1) ∷ [])) now) is

-- the values that code gives
pub tree_of_literal : (e : Expr) (v : Value) → e ≡ expr.Lit v → tree e ≡ literal (content v)
tree_of_literal e v is = ap tree is ∙ search (rules, declared.the_lemmas)

pub gives_same : (r : Result Value Memory) (a b : Content) → a ≡ b → GivesValue r b → GivesValue r a
gives_same (Ok v) a b e h = h ∙ sym e
gives_same (Err m) a b e h = tt

pub error_is : content value.Error ≡ error
error_is = search (rules, the_lemmas)

pub undefined_is : content value.Undefined ≡ undefined
undefined_is = search (rules, the_lemmas)
