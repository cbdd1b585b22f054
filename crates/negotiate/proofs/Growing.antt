-- More matches: what is matched stays matched, what is taken stays taken, what was given stays given.
use Rattle.std.proofs.Common.{◌≡◌, ℕ, ◌≤◌, List, [], ◌∷◌, ◌++◌, Bool, true, false, not, ◌&&◌, ◌||◌, cond, refl, sym, ap, arith, Option, Some, None, inl, inr}
use Rattle.std.specs.List.{list_any}
use Rattle.std.proofs.lemmas.List.Sums.{sum_by-append}
use Rattle.std.proofs.lemmas.Bool.{ltb-false, le-ltb, or_left, and_cases}
use Rattle.matchmaker.specs.Offers.{fits, is_offered}
use Rattle.matchmaker.specs.Cycle.{is_unmatched, may_choose, given, is_under, is_below_ceiling, same_slot}
use Rattle.negotiate.specs.Laws.{is_matched, same_job}
use Rattle.std.specs.Str.{bytes_eq}
use Rattle.pool_mail.specs.declared.matching.Request.{Request}
use Rattle.matchmaker.specs.declared.snapshot.Offer.{Offer}
use Rattle.matchmaker.specs.declared.snapshot.Snapshot.{Snapshot}
use Rattle.matchmaker.specs.declared.course.Account.{Account}
use Rattle.matchmaker.specs.declared.course.Made.{Made}

pub record Grows (made later : List Made) : Type 0 where
  pub matched : (u : Account) (r : Request) → is_matched u r made ≡ true → is_matched u r later ≡ true
  pub taken : (s : Offer) → is_unmatched made s ≡ false → is_unmatched later s ≡ false
  pub more : (u : Account) → given u made ≤ given u later

pub Grows-refl : (made : List Made) → Grows made made
Grows-refl made = record { matched = λ u r h. h; taken = λ s h. h; more = λ u. omega arith }

pub Grows-trans : {a b c : List Made} → Grows a b → Grows b c → Grows a c
Grows-trans f g = record {
  matched = λ u r h. g.matched u r (f.matched u r h);
  taken = λ s h. g.taken s (f.taken s h);
  more = λ u. omega (arith, f.more u, g.more u);
}

pub any-append : {A : Type 0} (p : A → Bool) (xs ys : List A) → list_any p (xs ++ ys) ≡ (list_any p xs || list_any p ys)
any-append p [] ys = refl
any-append p (x ∷ xs) ys = elim (p x) as (λ b. (b || list_any p (xs ++ ys)) ≡ ((b || list_any p xs) || list_any p ys)) [
  | true ↦ refl
  | false ↦ any-append p xs ys
]

not_false : (b : Bool) → not b ≡ false → b ≡ true
not_false true e = refl
not_false false e = sym e

pub Grows-push : (made : List Made) (m : Made) → Grows made (made ++ m ∷ [])
unfolding is_matched is_unmatched given
Grows-push made m = record {
  matched = λ u r h. rw (any-append (λ (n : Made). bytes_eq n.user u.user && same_job n.matched.job r.job) made (m ∷ [])) (or_left _ _ h);
  taken = λ s h. rw (any-append (λ (n : Made). same_slot n.slot s.slot) made (m ∷ [])) (ap not (or_left _ _ (not_false _ h)));
  more = λ u. omega (arith, sum_by-append (λ (n : Made). cond (bytes_eq n.user u.user) 1 0) made (m ∷ []));
}

pub stays_taken : (snap : Snapshot) {made later : List Made} → Grows made later → (u : Account) (r : Request) (s : Offer) →
    may_choose snap u made r s ≡ false → may_choose snap u later r s ≡ false
unfolding may_choose
stays_taken snap {made = made} {later = later} g u r s h = elim (and_cases (is_unmatched made s) (is_offered snap u r s && fits snap.now r s) h) [
  | inl e ↦ rw (g.taken s e) refl
  | inr e ↦ rw e (falls (is_unmatched later s))
] where
  falls : (b : Bool) → (b && false) ≡ false
  falls true = refl
  falls false = refl

under_falls : (ceiling : Option ℕ) (a b : ℕ) → a ≤ b → is_under ceiling a ≡ false → is_under ceiling b ≡ false
unfolding is_under
under_falls None a b le h = h
under_falls (Some n) a b le h = let past : n ≤ a = ltb-false a n h in le-ltb b n (omega arith)

pub stays_full : {made later : List Made} → Grows made later → (u : Account) →
    is_below_ceiling u made ≡ false → is_below_ceiling u later ≡ false
unfolding is_below_ceiling
stays_full g u h = let le = g.more u in under_falls u.ceiling _ _ (omega arith) h
