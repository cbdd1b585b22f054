-- The laws of a cycle, of the snapshot.
use Rattle.std.proofs.Common.{◌≡◌, ℕ, ◌<◌, ◌≤◌, List, get_or, map, false, sym, ap, ◌∙◌, arith, subst, inl, inr}
use Rattle.std.specs.Prelude.{◌⊎◌, Contains, nat_lt}
use Rattle.std.specs.List.{IsDistinct}
use Rattle.std.proofs.lemmas.Bool.{cases_eq, cases_Bool, ltb-true, ltb-false}
use Rattle.std.proofs.lemmas.List.{get_or_default}
use Rattle.std.proofs.lemmas.List.Sorted.{Contains-permutation, IsPermutation-sym}
use Rattle.matchmaker.specs.declared.snapshot.Snapshot.{Snapshot}
use Rattle.matchmaker.specs.declared.snapshot.Submitter.{Submitter}
use Rattle.matchmaker.specs.declared.course.Account.{Account}
use Rattle.matchmaker.specs.declared.course.Made.{Made}
use Rattle.matchmaker.specs.Offers.{is_offered}
use Rattle.matchmaker.specs.Cycle.{Bidder, account_of, cycle_of, is_below_ceiling, may_choose, match_of, same_slot}
use Rattle.matchmaker.specs.Opening.{IsBidderOf, IsOpening}
use Rattle.negotiate.specs.Laws.{is_matched, CyclesIdleForCause, CyclesAreSound, CyclesGiveOnce, UsersDiffer, CeilingsAreKept}
use Rattle.negotiate.proofs.Members.{IsIn, contains_in, in_contains, zip_along, zip_back}
use Rattle.negotiate.proofs.Idle.{idle_for_cause}
use Rattle.negotiate.proofs.Sound.{sound, gives_once, under_it}

-- ---- the submitters and the bidders

record BidderFor (snap : Snapshot) (bs : List Bidder) (b : Submitter) : Type 0 where
  bidder : Bidder
  here : IsIn bidder bs
  is : IsBidderOf snap.now b bidder

bidder_for : (snap : Snapshot) (bs : List Bidder) (b : Submitter) → IsOpening snap bs → Contains snap.submitters b → BidderFor snap bs b
bidder_for snap bs b o c =
    let p = zip_along (IsBidderOf snap.now) snap.submitters o.bidders b o.each (contains_in b snap.submitters c) in
    record { bidder = p.0; here = contains_in p.0 bs (Contains-permutation o.bidders bs p.0 o.all (in_contains p.0 o.bidders p.1)); is = p.2 }

record SubmitterFor (snap : Snapshot) (c : Bidder) : Type 0 where
  submitter : Submitter
  here : Contains snap.submitters submitter
  is : IsBidderOf snap.now submitter c

submitter_for : (snap : Snapshot) (bs : List Bidder) (c : Bidder) → IsOpening snap bs → IsIn c bs → SubmitterFor snap c
submitter_for snap bs c o i =
    let j = contains_in c o.bidders (Contains-permutation bs o.bidders c (IsPermutation-sym o.bidders bs o.all) (in_contains c bs i)) in
    let p = zip_back (IsBidderOf snap.now) snap.submitters o.bidders c o.each j in
    record { submitter = p.0; here = in_contains p.0 snap.submitters p.1; is = p.2 }

-- ---- laws

pub cycles_idle_for_cause : CyclesIdleForCause
cycles_idle_for_cause snap made cycle b r c d idle =
    let f = bidder_for snap cycle.bidders b cycle.opening c in
    let left = contains_in r f.bidder.left (Contains-permutation b.jobs f.bidder.left r f.is.requests d) in
    let e : f.bidder.account ≡ account_of b = f.is.account in
    let missed : is_matched f.bidder.account r (cycle_of snap cycle.bidders) ≡ false =
    ap (λ (u : Account). is_matched u r (cycle_of snap cycle.bidders)) e ∙ (ap (λ (ms : List Made). is_matched (account_of b) r ms) (sym cycle.gives) ∙ idle) in
    elim (idle_for_cause snap cycle.bidders f.bidder r f.here left missed) [
      | inl full ↦ inl (ap (λ (ms : List Made). is_below_ceiling (account_of b) ms) cycle.gives ∙ (ap (λ (u : Account). is_below_ceiling u (cycle_of snap cycle.bidders)) (sym e) ∙ full))
      | inr none ↦ inr (λ o k. ap (λ (ms : List Made). may_choose snap (account_of b) ms r o) cycle.gives
          ∙ (ap (λ (u : Account). may_choose snap u (cycle_of snap cycle.bidders) r o) (sym e) ∙ none o (contains_in o snap.slots k)))
    ]

pub cycles_are_sound : CyclesAreSound
cycles_are_sound snap made m cycle c =
    let k = sound snap cycle.bidders m (subst (λ (ms : List Made). IsIn m ms) cycle.gives (contains_in m made c)) in
    let f = submitter_for snap cycle.bidders k.from.bidder cycle.opening k.from.here in
    let e : k.account ≡ account_of f.submitter = sym k.from.same ∙ f.is.account in
    record {
      submitter = f.submitter;
      request = k.request;
      slot = k.slot;
      of_submitters = f.here;
      of_requests = Contains-permutation k.from.bidder.left f.submitter.jobs k.request (IsPermutation-sym f.submitter.jobs k.from.bidder.left f.is.requests) (in_contains k.request k.from.bidder.left k.from.left);
      of_slots = in_contains k.slot snap.slots k.of_slots;
      is = k.is ∙ ap (λ (u : Account). match_of snap u k.request k.slot) e;
      offered = ap (λ (u : Account). is_offered snap u k.request k.slot) (sym e) ∙ k.offered;
      matching = k.matching;
    }

pub cycles_give_once : CyclesGiveOnce
cycles_give_once snap made cycle = subst (λ (ms : List Made). IsDistinct same_slot (map (λ (m : Made). m.slot) ms)) (sym cycle.gives) (gives_once snap cycle.bidders)

one_of_user : (snap : Snapshot) (b c : Submitter) → UsersDiffer snap → Contains snap.submitters b → Contains snap.submitters c → b.user ≡ c.user → b ≡ c
one_of_user snap b c differ p q e = elim (cases_eq p.0 q.0) [
  | inl same ↦ sym p.2 ∙ (ap (λ n. get_or snap.submitters n b) same ∙ (get_or_default snap.submitters q.0 b c q.1 ∙ q.2))
  | inr other ↦ absurd (elim (lt_or p.0 q.0 other) [
    | inl l ↦ differ p.0 q.0 b l q.1 (ap (λ (x : Submitter). x.user) p.2 ∙ (e ∙ ap (λ (x : Submitter). x.user) (sym (get_or_default snap.submitters q.0 b c q.1 ∙ q.2))))
    | inr l ↦ differ q.0 p.0 c l p.1 (ap (λ (x : Submitter). x.user) q.2 ∙ (sym e ∙ ap (λ (x : Submitter). x.user) (sym (get_or_default snap.submitters p.0 c b p.1 ∙ p.2))))
  ])
] where
  lt_or : (i j : ℕ) → (i ≡ j → ⊥) → (i < j) ⊎ (j < i)
  lt_or i j ne = elim (cases_Bool (nat_lt i j)) [ inl h ↦ inl (ltb-true i j h) | inr h ↦ let le : j ≤ i = ltb-false i j h in inr (omega arith) ]

pub ceilings_are_kept : CeilingsAreKept
ceilings_are_kept snap made b c cycle differ here e =
    rw cycle.gives (under_it snap cycle.bidders (account_of b) c e (λ d i q.
    let f = submitter_for snap cycle.bidders d cycle.opening i in
    f.is.account ∙ ap account_of (one_of_user snap f.submitter b differ f.here here (ap (λ (u : Account). u.user) (sym f.is.account) ∙ q))))
