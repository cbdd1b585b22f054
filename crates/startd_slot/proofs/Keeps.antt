-- Each small change of a slot keeps it consistent.
use Rattle.std.proofs.Common.{◌≡◌, ℕ, ◌<◌, Bool, true, false, max, Option, Some, None, IfSome, IsTrue, is_some, option_map, refl, sym, ◌∙◌, subst, arith, if◌then◌else◌}
use Rattle.claim_id.specs.declared.numbers.ClaimId.{ClaimId}
use Rattle.claim_id.specs.declared.numbers.ClaimNo.{ClaimNo}
use Rattle.claim_id.specs.declared.numbers.RunNo.{RunNo}
use Rattle.claim_id.specs.declared.numbers.SlotId.{SlotId}
use Rattle.pool_mail.specs.declared.end.How.{How}
use Rattle.pool_view.specs.Numbers.{same_claim}
use Rattle.claim_id.specs.declared.pair.Pair.{Pair}
use Rattle.claim_id.specs.States.{has_claim, has_run}
use Rattle.startd_slot.specs.declared.held.Held.{Held}
use Rattle.startd_slot.specs.declared.held.Rival.{Rival}
use Rattle.startd_slot.specs.declared.held.Running.{Running}
use Rattle.startd_slot.specs.declared.slot.SlotState.{SlotState}
use Rattle.startd_slot.specs.Consistent.{IsConsistent, IsNextClaim, IsOwnClaim, IsOwnRun, HasOwnRuns, is_leaving}
use Rattle.startd_slot.specs.SlotStates.{heard_claim, heard_of, claim_with_number, with_number, claim_with_running, with_held, with_running, lengthened}

-- ---- the pair alone
waits_on : (from to : Pair) (o : Option Rival) (P : Rival → Type 0)
    → (is_leaving from ≡ true → is_leaving to ≡ true)
    → IfSome o (λ r. P r × IsTrue (is_leaving from)) → IfSome o (λ r. P r × IsTrue (is_leaving to))
waits_on from to None P leaves h = tt
waits_on from to (Some r) P leaves h = (h.0, leaves h.1)

pub pair_kept : (boot : ℕ) (slot : SlotId) (s : SlotState) (to : Pair) (reading : ℕ)
    → has_claim s.pair ≡ has_claim to → has_run s.pair ≡ has_run to
    → (is_leaving s.pair ≡ true → is_leaving to ≡ true)
    → IsConsistent boot slot s → IsConsistent boot slot (record s { pair = to; entered = reading })
pair_kept boot slot s to reading claim run leaves c = record {
  claimed = c.claimed ∙ claim;
  busy = c.busy ∙ run;
  counted = c.counted;
  held = c.held;
  offer = c.offer;
  rival = waits_on s.pair to s.rival (λ r. IsNextClaim boot slot s r.claim.no) leaves c.rival;
}

-- ---- the offer alone
pub offer_kept : (boot : ℕ) (slot : SlotId) (s : SlotState) → IsConsistent boot slot s
    → IsConsistent boot slot (record s { offer = None })
offer_kept boot slot s c = record {
  claimed = c.claimed;
  busy = c.busy;
  counted = c.counted;
  held = c.held;
  offer = tt;
  rival = c.rival;
}

-- ---- the rival alone
pub rival_kept : (boot : ℕ) (slot : SlotId) (s : SlotState) → IsConsistent boot slot s
    → IsConsistent boot slot (record s { rival = None })
rival_kept boot slot s c = record {
  claimed = c.claimed;
  busy = c.busy;
  counted = c.counted;
  held = c.held;
  offer = c.offer;
  rival = tt;
}

-- ---- what is held
later_than : (a b : Held) (o : Option ClaimId) (P : ClaimId → Type 0) → b.claim ≡ a.claim
    → IfSome o (λ c. P c × (a.claim.no.seq < c.no.seq)) → IfSome o (λ c. P c × (b.claim.no.seq < c.no.seq))
later_than a b None P same h = tt
later_than a b (Some c) P same h = (h.0, subst (λ (x : ClaimId). x.no.seq < c.no.seq) (sym same) h.1)

rival_later_than : (a b : Held) (o : Option Rival) (P : Rival → Type 0) (leaves : Bool) → b.claim ≡ a.claim
    → IfSome o (λ r. (P r × (a.claim.no.seq < r.claim.no.seq)) × (leaves ≡ true)) → IfSome o (λ r. (P r × (b.claim.no.seq < r.claim.no.seq)) × (leaves ≡ true))
rival_later_than a b None P leaves same h = tt
rival_later_than a b (Some r) P leaves same h = ((h.0.0, subst (λ (x : ClaimId). x.no.seq < r.claim.no.seq) (sym same) h.0.1), h.1)

pub held_kept : (boot : ℕ) (slot : SlotId) (s : SlotState) (change : Held → Held)
    → ((h : Held) → (change h).claim ≡ h.claim)
    → ((h : Held) → is_some (change h).running ≡ is_some h.running)
    → ((h : Held) → HasOwnRuns h → HasOwnRuns (change h))
    → IsConsistent boot slot s → IsConsistent boot slot (with_held change s)
held_kept boot slot s change claim running own c = by_held s.held c
  where
    by_held : (o : Option Held) → IsConsistent boot slot (record s { held = o })
        → IsConsistent boot slot (record s { held = option_map change o })
    by_held None c = c
    by_held (Some h) c = record {
      claimed = c.claimed;
      busy = running h ∙ c.busy;
      counted = c.counted;
      held = (subst (λ (x : ClaimId). IsOwnClaim boot slot s x.no) (sym (claim h)) c.held.0, own h c.held.1);
      offer = later_than h (change h) s.offer (λ x. IsOwnClaim boot slot s x.no) (claim h) c.offer;
      rival = rival_later_than h (change h) s.rival (λ r. IsOwnClaim boot slot s r.claim.no) (is_leaving s.pair) (claim h) c.rival;
    }

-- its claim is heard of
heard_is : (P : Held → Type 0) (h : Held) (b : Bool) (reading : ℕ) → ((x : ℕ) → P (record h { heard = x }))
    → P (if b then record h { heard = reading } else h)
heard_is P h true reading each = each reading
heard_is P h false reading each = each h.heard

pub heard_kept : (boot : ℕ) (slot : SlotId) (s : SlotState) (claim : ClaimNo) (reading : ℕ)
    → IsConsistent boot slot s → IsConsistent boot slot (heard_of claim reading s)
heard_kept boot slot s claim reading c = held_kept boot slot s (heard_claim claim reading)
    (λ h. heard_is (λ k. k.claim ≡ h.claim) h (same_claim h.claim.no claim) reading (λ x. refl))
    (λ h. heard_is (λ k. is_some k.running ≡ is_some h.running) h (same_claim h.claim.no claim) reading (λ x. refl))
    (λ h own. heard_is HasOwnRuns h (same_claim h.claim.no claim) reading (λ x. own)) c

-- it uses a number
used_run : (h : Held) (n : ℕ) (o : Option Running) → IfSome o (λ r. IsOwnRun h r.run) → IfSome o (λ r. IsOwnRun (claim_with_number n h) r.run)
used_run h n None own = tt
used_run h n (Some r) own = (own.0, omega (arith, own.1))

used_end : (h : Held) (n : ℕ) (o : Option (RunNo × How)) → IfSome o (λ e. IsOwnRun h e.0) → IfSome o (λ e. IsOwnRun (claim_with_number n h) e.0)
used_end h n None own = tt
used_end h n (Some e) own = (own.0, omega (arith, own.1))

pub number_kept : (boot : ℕ) (slot : SlotId) (s : SlotState) (n : ℕ)
    → IsConsistent boot slot s → IsConsistent boot slot (with_number n s)
number_kept boot slot s n c = held_kept boot slot s (claim_with_number n) (λ h. refl) (λ h. refl)
    (λ h own. (used_run h n h.running own.0, used_end h n h.ended own.1, own.2)) c

-- its run changes, and stays the same run
changed_run : (h : Held) (change : Running → Running) → ((r : Running) → (change r).run ≡ r.run) → (o : Option Running) → IfSome o (λ r. IsOwnRun h r.run) → IfSome (option_map change o) (λ r. IsOwnRun h r.run)
changed_run h change same None own = tt
changed_run h change same (Some r) own = subst (IsOwnRun h) (sym (same r)) own

changed_after : (n : ℕ) (change : Running → Running) → ((r : Running) → (change r).run ≡ r.run) → (o : Option Running) → IfSome o (λ r. n < r.run.number) → IfSome (option_map change o) (λ r. n < r.run.number)
changed_after n change same None own = tt
changed_after n change same (Some r) own = subst (λ (x : RunNo). n < x.number) (sym (same r)) own

changed_order : (change : Running → Running) → ((r : Running) → (change r).run ≡ r.run) → (o : Option Running) (e : Option (RunNo × How)) → IfSome e (λ e. IfSome o (λ r. e.0.number < r.run.number))
    → IfSome e (λ e. IfSome (option_map change o) (λ r. e.0.number < r.run.number))
changed_order change same o None own = tt
changed_order change same o (Some e) own = changed_after e.0.number change same o own

changed_some : (change : Running → Running) (o : Option Running) → is_some (option_map change o) ≡ is_some o
changed_some change None = refl
changed_some change (Some r) = refl

pub running_kept : (boot : ℕ) (slot : SlotId) (s : SlotState) (change : Running → Running)
    → ((r : Running) → (change r).run ≡ r.run)
    → IsConsistent boot slot s → IsConsistent boot slot (with_running change s)
running_kept boot slot s change same c = held_kept boot slot s (claim_with_running change) (λ h. refl)
    (λ h. changed_some change h.running)
    (λ h own. (changed_run h change same h.running own.0, own.1, changed_order change same h.running h.ended own.2)) c

lengthened_same : (until : ℕ) (b : Bool) (r : Running) → (if b then record r { until = max r.until until } else r).run ≡ r.run
lengthened_same until true r = refl
lengthened_same until false r = refl

pub lengthened_run : (until reading : ℕ) (r : Running) → (lengthened until reading r).run ≡ r.run
lengthened_run until reading r = lengthened_same until _ r
