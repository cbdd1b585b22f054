-- One more slot, for the loop that chooses.
use Rattle.std.proofs.Common.{◌≡◌, ℕ, ◌+◌, ◌<◌, List, ◌∷◌, length, get_or, drop, Bool, true, false, cond, refl, sym, ap, ◌∙◌, Option, Some, None, subst}
use Rattle.std.specs.Prelude.{◌&&◌, Result, Ok, Err, IfOk, option_copied}
use Rattle.std.specs.Borrow.{Bor}
use Rattle.std.specs.List.{filter}
use Rattle.std.proofs.lemmas.List.{drop_more}
use Rattle.matchmaker.specs.Offers.{fits, is_offered}
use Rattle.matchmaker.specs.Cycle.{goes_before, is_unmatched, may_choose}
use Rattle.matchmaker.specs.Loops.{better, best_with, best_with_more}
use Rattle.pool_mail.specs.declared.matching.Request.{Request}
use Rattle.matchmaker.specs.declared.snapshot.Offer.{Offer}
use Rattle.matchmaker.specs.declared.snapshot.Snapshot.{Snapshot}
use Rattle.matchmaker.specs.declared.course.Account.{Account}
use Rattle.matchmaker.specs.declared.course.Made.{Made}

pub filter_yes : {A : Type 0} (p : A → Bool) (xs : List A) (i : ℕ) (d : A) → i < length xs → p (get_or xs i d) ≡ true →
    filter p (drop i xs) ≡ get_or xs i d ∷ filter p (drop (i + 1) xs)
filter_yes p xs i d h q = rw (drop_more xs i d h, q) refl

pub filter_no : {A : Type 0} (p : A → Bool) (xs : List A) (i : ℕ) (d : A) → i < length xs → p (get_or xs i d) ≡ false →
    filter p (drop i xs) ≡ filter p (drop (i + 1) xs)
filter_no p xs i d h q = rw (drop_more xs i d h, q) refl

choose_yes : (now : ℕ) (r : Request) (o : Option Offer) (p : Offer → Bool) (xs : List Offer) (i : ℕ) (x : Offer) → i < length xs → x ≡ get_or xs i x → p x ≡ true →
    best_with now r (Some (better now r o x)) (filter p (drop (i + 1) xs)) ≡ best_with now r o (filter p (drop i xs))
choose_yes now r o p xs i x h e q = sym (ap (best_with now r o) (filter_yes p xs i x h (subst (λ (y : Offer). p y ≡ true) e q) ∙ ap (λ (y : Offer). y ∷ filter p (drop (i + 1) xs)) (sym e))
    ∙ best_with_more now r o x (filter p (drop (i + 1) xs)))

choose_no : (now : ℕ) (r : Request) (o : Option Offer) (p : Offer → Bool) (xs : List Offer) (i : ℕ) (x : Offer) → i < length xs → x ≡ get_or xs i x → p x ≡ false →
    best_with now r o (filter p (drop (i + 1) xs)) ≡ best_with now r o (filter p (drop i xs))
choose_no now r o p xs i x h e q = ap (best_with now r o) (sym (filter_no p xs i x h (subst (λ (y : Offer). p y ≡ false) e q)))

-- the same, by what the calls gave
pub chosen_better : (now : ℕ) (r : Request) (best later : Option (Bor Offer)) (v : Bor Offer) (p : Offer → Bool) (xs : List Offer) (i : ℕ) (x : Offer) (b : Bool) → i < length xs → x ≡ get_or xs i x →
    b ≡ p x → b ≡ true → later ≡ Some v → v.now ≡ better now r (option_copied best) x →
    best_with now r (option_copied later) (filter p (drop (i + 1) xs)) ≡ best_with now r (option_copied best) (filter p (drop i xs))
chosen_better now r best later v p xs i x b h e f g is as_told =
    ap (λ (o : Option (Bor Offer)). best_with now r (option_copied o) (filter p (drop (i + 1) xs))) is
    ∙ (ap (λ (o : Offer). best_with now r (Some o) (filter p (drop (i + 1) xs))) as_told ∙ choose_yes now r (option_copied best) p xs i x h e (sym f ∙ g))

pub chosen_same : (now : ℕ) (r : Request) (best later : Option (Bor Offer)) (p : Offer → Bool) (xs : List Offer) (i : ℕ) (x : Offer) (b : Bool) → i < length xs → x ≡ get_or xs i x →
    b ≡ p x → b ≡ false → later ≡ best → best_with now r (option_copied later) (filter p (drop (i + 1) xs)) ≡ best_with now r (option_copied best) (filter p (drop i xs))
chosen_same now r best later p xs i x b h e f g is =
    ap (λ (o : Option (Bor Offer)). best_with now r (option_copied o) (filter p (drop (i + 1) xs))) is ∙ choose_no now r (option_copied best) p xs i x h e (sym f ∙ g)

-- a slot that is unmatched and offered may be chosen if it matches
pub chosen_if : {E : Type 0} (r : Result Bool E) (s : Snapshot) (u : Account) (made : List Made) (q : Request) (o : Offer) (a b : Bool) → a ≡ is_unmatched made o → a ≡ true →
    b ≡ is_offered s u q o → b ≡ true → IfOk r (λ t. t ≡ fits s.now q o) → IfOk r (λ t. t ≡ may_choose s u made q o)
unfolding may_choose
chosen_if (Ok t) s u made q o a b e f g h same = let free = sym f ∙ e in let offered = sym h ∙ g in same ∙ (λ j. free j && (offered j && fits s.now q o))
chosen_if (Err x) s u made q o a b e f g h same = tt

-- ---- the better of the best so far and one more

pub better_first : (now : ℕ) (r : Request) (best : Option (Bor Offer)) (o : Offer) → best ≡ None → o ≡ better now r (option_copied best) o
better_first now r best o e = ap (λ (b : Option (Bor Offer)). better now r (option_copied b) o) (sym e)

better_by : (now : ℕ) (r : Request) (best : Option (Bor Offer)) (b : Bor Offer) (o : Offer) (test t : Bool) → best ≡ Some b → test ≡ goes_before now r o b.now → test ≡ t →
    cond t o b.now ≡ better now r (option_copied best) o
better_by now r best b o test t e f g = ap (λ (u : Bool). cond u o b.now) (sym g ∙ f) ∙ ap (λ (x : Option (Bor Offer)). better now r (option_copied x) o) (sym e)

pub better_new : (now : ℕ) (r : Request) (best : Option (Bor Offer)) (b : Bor Offer) (o : Offer) (test : Bool) → best ≡ Some b → test ≡ goes_before now r o b.now → test ≡ true →
    o ≡ better now r (option_copied best) o
better_new now r best b o test e f g = better_by now r best b o test true e f g

pub better_old : (now : ℕ) (r : Request) (best : Option (Bor Offer)) (b : Bor Offer) (o : Offer) (test : Bool) → best ≡ Some b → test ≡ goes_before now r o b.now → test ≡ false →
    b.now ≡ better now r (option_copied best) o
better_old now r best b o test e f g = better_by now r best b o test false e f g
