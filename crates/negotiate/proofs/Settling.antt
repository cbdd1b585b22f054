-- What one submitter's turn does: the matches grow, and a request is matched, has no slot, or is left.
use Rattle.std.proofs.Common.{◌≡◌, ℕ, zero, suc, List, [], ◌∷◌, ◌++◌, Bool, true, false, ◌&&◌, cond, refl, sym, None, inl, inr, subst}
use Rattle.std.specs.Prelude.{◌⊎◌}
use Rattle.std.specs.List.{filter}
use Rattle.std.specs.Str.{bytes_eq}
use Rattle.std.specs.Cmp.Lexicographic.{nat_list_eq_equiv}
use Rattle.std.proofs.lemmas.Bool.{eq-eqb, or_right}
use Rattle.matchmaker.specs.Cycle.{may_choose, candidates, choice, first_of, match_of, turn}
use Rattle.matchmaker.proofs.Turning.{turn_end, turn_stop, turn_none, turn_some, cases_Option}
use Rattle.negotiate.specs.Laws.{is_matched, same_job}
use Rattle.negotiate.proofs.Members.{IsIn}
use Rattle.negotiate.proofs.Growing.{Grows, Grows-refl, Grows-trans, Grows-push, stays_taken}
use Rattle.pool_mail.specs.declared.matching.Request.{Request}
use Rattle.matchmaker.specs.declared.snapshot.Offer.{Offer}
use Rattle.matchmaker.specs.declared.snapshot.Snapshot.{Snapshot}
use Rattle.matchmaker.specs.declared.course.Account.{Account}
use Rattle.matchmaker.specs.declared.course.Made.{Made}

-- ---- a request is settled: it is matched, or no slot may be chosen for it

abbrev pub HasNone : Snapshot → Account → List Made → Request → Type 0
HasNone snap u made r = (s : Offer) → IsIn s snap.slots → may_choose snap u made r s ≡ false

pub record Settled (snap : Snapshot) (u : Account) (made : List Made) (r : Request) : Type 0 where
  pub so : (is_matched u r made ≡ true) ⊎ HasNone snap u made r

pub stays_settled : {snap : Snapshot} {u : Account} {made later : List Made} {r : Request} →
    Grows made later → Settled snap u made r → Settled snap u later r
stays_settled {u = u} {r = r} g k = elim k.so [
  | inl e ↦ record { so = inl (g.matched u r e) }
  | inr f ↦ record { so = inr (λ s i. stays_taken _ g u r s (f s i)) }
]

none_chosen : (p : Offer → Bool) (now : ℕ) (r : Request) (slots : List Offer) → first_of now r (filter p slots) ≡ None → (s : Offer) → IsIn s slots → p s ≡ false
unfolding first_of
none_chosen p now r [] e s i = absurd i
none_chosen p now r (t ∷ ts) e s i = at (p t) refl i (none_chosen p now r ts) where
  at : (b : Bool) → p t ≡ b → (s ≡ t) ⊎ IsIn s ts → (first_of now r (filter p ts) ≡ None → (s : Offer) → IsIn s ts → p s ≡ false) → p s ≡ false
  at true q j k = absurd (let e' : first_of now r (cond true (t ∷ filter p ts) (filter p ts)) ≡ None = subst (λ b. first_of now r (cond b (t ∷ filter p ts) (filter p ts)) ≡ None) q e in cc)
  at false q (inl j) k = rw j q
  at false q (inr j) k = k (subst (λ b. first_of now r (cond b (t ∷ filter p ts) (filter p ts)) ≡ None) q e) s j

pub none_may : (snap : Snapshot) (u : Account) (made : List Made) (r : Request) → choice snap u made r ≡ None → HasNone snap u made r
unfolding choice candidates
none_may snap u made r e s i = none_chosen (may_choose snap u made r) snap.now r snap.slots e s i

-- ---- a turn

pub record Turned (snap : Snapshot) (u : Account) (rs : List Request) (made : List Made) (t : (List Request) × (List Made)) : Type 0 where
  pub grows : Grows made t.1
  pub fate : (r : Request) → IsIn r rs → Settled snap u t.1 r ⊎ IsIn r t.0

itself : (u : Account) (r : Request) → (bytes_eq u.user u.user && same_job r.job r.job) ≡ true
itself u r = rw (nat_list_eq_equiv.refl u.user, eq-eqb r.job.cluster r.job.cluster refl, eq-eqb r.job.proc r.job.proc refl) refl

matched_now : (snap : Snapshot) (u : Account) (r : Request) (s : Offer) (made : List Made) → is_matched u r (made ++ match_of snap u r s ∷ []) ≡ true
unfolding is_matched
matched_now snap u r s [] = rw (itself u r) refl
matched_now snap u r s (m ∷ made) = or_right _ _ (matched_now snap u r s made)

one_more : {snap : Snapshot} {u : Account} {r : Request} {rs : List Request} {made later : List Made} {t : (List Request) × (List Made)} →
    Grows made later → Settled snap u later r → Turned snap u rs later t → Turned snap u (r ∷ rs) made t
one_more {snap = snap} {u = u} {r = r} {rs = rs} {t = t} g k w = record {
  grows = Grows-trans g w.grows;
  fate = λ q i. elim i [ inl e ↦ inl (subst (λ x. Settled snap u t.1 x) (sym e) (stays_settled w.grows k)) | inr j ↦ w.fate q j ];
}

pub turned : (snap : Snapshot) (u : Account) (most : ℕ) (rs : List Request) (made : List Made) → Turned snap u rs made (turn snap u most rs made)
turned snap u most [] made = rw (turn_end snap u most made) (record { grows = Grows-refl made; fate = λ r i. absurd i })
turned snap u zero (r ∷ rs) made = rw (turn_stop snap u (r ∷ rs) made) (record { grows = Grows-refl made; fate = λ q i. inr i })
turned snap u (suc most) (r ∷ rs) made = elim (cases_Option (choice snap u made r)) [
  | inl e ↦ rw (turn_none snap u most r rs made e)
      (one_more (Grows-refl made) (record { so = inr (none_may snap u made r e) }) (turned snap u (suc most) rs made))
  | inr p ↦ rw (turn_some snap u most r rs made p.0 p.1)
      (one_more (Grows-push made (match_of snap u r p.0)) (record { so = inl (matched_now snap u r p.0 made) }) (turned snap u most rs (made ++ match_of snap u r p.0 ∷ [])))
]
