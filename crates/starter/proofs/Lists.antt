-- Lists that are longer by one, and lists from which one was taken.
use Rattle.std.proofs.Common.{◌≡◌, ℕ, zero, suc, ◌-◌, ◌<◌, ◌==◌, List, [], ◌∷◌, ◌++◌, length, get_or, set, Bool, true, false, ◌&&◌, Some, slice_get, refl, sym, subst, ◌∙◌, arith}
use Rattle.std.specs.List.{All, swap_remove}
use Rattle.std.proofs.lemmas.Bool.{eqb-true}
use Rattle.std.proofs.lemmas.List.Elements.{All-take, All-set, All-get_or}
use Rattle.claim_id.specs.declared.numbers.RunNo.{RunNo}
use Rattle.pool_view.specs.Numbers.{same_claim, same_run, same_slot}
use Rattle.pool_view.proofs.Sameness.{both_true, same_run-same, same_slot-true}

pub same_run-true : (a b : RunNo) → same_run a b ≡ true → a ≡ b
same_run-true a b h =
    let parts = both_true (same_claim a.claim b.claim) (a.number == b.number) h in
    let claims = both_true (same_slot a.claim.slot b.claim.slot) ((a.claim.boot == b.claim.boot) && (a.claim.seq == b.claim.seq)) parts.0 in
    let rest = both_true (a.claim.boot == b.claim.boot) (a.claim.seq == b.claim.seq) claims.1 in
    let slot : a.claim.slot ≡ b.claim.slot = same_slot-true a.claim.slot b.claim.slot claims.0 in
    let boot : a.claim.boot ≡ b.claim.boot = eqb-true a.claim.boot b.claim.boot rest.0 in
    let seq : a.claim.seq ≡ b.claim.seq = eqb-true a.claim.seq b.claim.seq rest.1 in
    let number : a.number ≡ b.number = eqb-true a.number b.number parts.1 in
    λ i. record { claim = record { slot = slot i; boot = boot i; seq = seq i }; number = number i }

pub slice_get-longer : {A : Type 0} (xs ys : List A) (k : ℕ) (x : A) → slice_get xs k ≡ Some x → slice_get (xs ++ ys) k ≡ Some x
slice_get-longer [] ys k x is = cc
slice_get-longer (y ∷ xs) ys zero x is = is
slice_get-longer (y ∷ xs) ys (suc k) x is = slice_get-longer xs ys k x is

pub slice_get-end : {A : Type 0} (xs : List A) (x : A) → slice_get (xs ++ x ∷ []) (length xs) ≡ Some x
slice_get-end [] x = refl
slice_get-end (y ∷ xs) x = slice_get-end xs x

pub All-swap_remove : {A : Type 0} (P : A → Type 0) (xs : List A) (i : ℕ) (d : A) → i < length xs → All P xs → All P (swap_remove xs i d)
All-swap_remove P xs i d within all =
    let last : length xs - 1 < length xs = omega arith in
    All-take P (length xs - 1) (set xs i (get_or xs (length xs - 1) d)) (All-set P xs i (get_or xs (length xs - 1) d) (All-get_or P xs (length xs - 1) d last all) all)

pub slice_get-before : {A : Type 0} (xs ys : List A) (k : ℕ) → k < length xs → slice_get (xs ++ ys) k ≡ slice_get xs k
slice_get-before [] ys k within = absurd (omega arith)
slice_get-before (y ∷ xs) ys zero within = refl
slice_get-before (y ∷ xs) ys (suc k) within = slice_get-before xs ys k (omega arith)

pub same_run-flip : (a b : RunNo) → same_run a b ≡ same_run b a
same_run-flip a b = by (same_run a b) (same_run b a) refl refl
  where
    by : (x y : Bool) → same_run a b ≡ x → same_run b a ≡ y → x ≡ y
    by true true p q = refl
    by false false p q = refl
    by true false p q =
        let e : a ≡ b = same_run-true a b p in
        sym (subst (λ (r : RunNo). same_run r a ≡ true) e (same_run-same a)) ∙ q
    by false true p q =
        let e : b ≡ a = same_run-true b a q in
        sym p ∙ subst (λ (r : RunNo). same_run r b ≡ true) e (same_run-same b)
