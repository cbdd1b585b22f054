-- What a mail, the end of a run, a tick and a boot make of one slot: its spent runs stay so, and no
-- run comes on it but one that is started.
use Rattle.std.proofs.Common.{◌≡◌, ◌⊎◌, inl, inr, ℕ, ℤ, ◌≤◌, max, Bool, true, false, nat_lt, List, Option, Some, None, IfSome, true≢false, refl, sym, ◌∙◌, ap, subst, arith, if◌then◌else◌}
use Rattle.std.specs.Prelude.{option_map}
use Rattle.claim_id.specs.declared.numbers.ClaimId.{ClaimId}
use Rattle.claim_id.specs.declared.numbers.ClaimNo.{ClaimNo}
use Rattle.claim_id.specs.declared.numbers.RunNo.{RunNo}
use Rattle.claim_id.specs.declared.numbers.SlotId.{SlotId}
use Rattle.pool_view.specs.AbstractPool.{IsSpentAt}
use Rattle.pool_mail.specs.declared.end.How.{How}
use Rattle.pool_view.specs.Numbers.{same_claim, same_run}
use Rattle.claim_id.specs.declared.pair.Pair.{Pair}
use Rattle.startd_slot.specs.declared.held.Held.{Held}
use Rattle.startd_slot.specs.declared.held.Running.{Running}
use Rattle.startd_slot.specs.declared.slot.SlotState.{SlotState}
use Rattle.startd_slot.specs.Consistent.{IsConsistent, IsOwnClaim, HasOwnRuns}
use Rattle.startd_slot.specs.SlotMoves.{held_mark, mark_of}
use Rattle.startd_slot.specs.SlotStates.{claim_after_run, claim_with_number, claim_with_running, heard_claim, heard_of, in_pair, is_run, lengthened, passed_with, running_in, runs_on, with_claim, with_held, with_number, with_running, without_claim, without_run}

-- ---- what is asked of two states of a slot
-- perhaps in another boot; some runs are started
pub record SlotGoes (boot next : ℕ) (started : RunNo → Bool) (s t : SlotState) : Type 0 where
  pub spent : (run : RunNo) → IsSpentAt run (mark_of boot s) → IsSpentAt run (mark_of next t)
  pub runs : (run : RunNo) → runs_on t run ≡ true → (runs_on s run ≡ true) ⊎ (started run ≡ true)

abbrev pub no_run : RunNo → Bool
no_run run = false

-- in the same boot, without a new run
abbrev pub Stays : ℕ → SlotState → SlotState → Type 0
Stays boot s t = SlotGoes boot boot no_run s t

pub stays : (boot : ℕ) (s t : SlotState) → t.passed ≡ s.passed → t.held ≡ s.held → Stays boot s t
stays boot s t passed held = record {
  spent = λ run spent. subst (λ o. IsSpentAt run (record { boot = boot; ended = t.passed; held = option_map held_mark o })) (sym held) (subst (λ n. IsSpentAt run (record { boot = boot; ended = n; held = option_map held_mark s.held })) (sym passed) spent);
  runs = λ run here. inl (subst (λ o. is_run (running_in o) run ≡ true) held here);
}

pub stays_same : (boot : ℕ) (s : SlotState) → Stays boot s s
stays_same boot s = record { spent = λ run spent. spent; runs = λ run here. inl here }

pub no_new : (run : RunNo) (A : Type 0) → A ⊎ (no_run run ≡ true) → A
no_new run A (inl a) = a
no_new run A (inr h) = absurd (true≢false (sym h))

-- first without a new run, then perhaps with one
pub goes_after : (boot next : ℕ) (started : RunNo → Bool) (s t u : SlotState) → Stays boot s t → SlotGoes boot next started t u → SlotGoes boot next started s u
goes_after boot next started s t u a b = record {
  spent = λ run spent. b.spent run (a.spent run spent);
  runs = λ run here. elim (b.runs run here) [ inl old ↦ inl (no_new run (runs_on s run ≡ true) (a.runs run old)) | inr new ↦ inr new ];
}

pub goes_before : (boot next : ℕ) (started : RunNo → Bool) (s t u : SlotState) → SlotGoes boot next started s t → Stays next t u → SlotGoes boot next started s u
goes_before boot next started s t u a b = record {
  spent = λ run spent. b.spent run (a.spent run spent);
  runs = λ run here. a.runs run (no_new run (runs_on t run ≡ true) (b.runs run here));
}

-- the more runs may be started the less is said
pub starts_more : (boot next : ℕ) (started : RunNo → Bool) (s t : SlotState) → SlotGoes boot next no_run s t → SlotGoes boot next started s t
starts_more boot next started s t a = record { spent = a.spent; runs = λ run here. inl (no_new run (runs_on s run ≡ true) (a.runs run here)) }

-- ---- small changes
pub cue_stays : (boot : ℕ) (o : Option Pair) (reading : ℕ) (s : SlotState) → Stays boot s (in_pair o reading s)
cue_stays boot None reading s = stays_same boot s
cue_stays boot (Some pair) reading s = stays boot s (in_pair (Some pair) reading s) refl refl

-- a change of the held claim that takes nothing back
record IsGentle (change : Held → Held) : Type 0 where
  claim : (h : Held) → (change h).claim ≡ h.claim
  last : (h : Held) → h.last ≤ (change h).last
  runs : (h : Held) (run : RunNo) → is_run (change h).running run ≡ true → is_run h.running run ≡ true

held_stays : (boot : ℕ) (change : Held → Held) (s : SlotState) → IsGentle change → Stays boot s (with_held change s)
held_stays boot change s gentle = record { spent = λ run. by_spent run s.held; runs = λ run here. inl (by_run run s.held here) }
  where
    by_spent : (run : RunNo) (o : Option Held) → IsSpentAt run (record { boot = boot; ended = s.passed; held = option_map held_mark o }) → IsSpentAt run (record { boot = boot; ended = s.passed; held = option_map held_mark (option_map change o) })
    by_spent run o (inl earlier) = inl earlier
    by_spent run o (inr (inl ended)) = inr (inl ended)
    by_spent run None (inr (inr is_used)) = absurd is_used
    by_spent run (Some h) (inr (inr is_used)) =
        let up = gentle.last h in
        let within = is_used.1 in
        inr (inr (ap (λ (c : ClaimId). c.no) (gentle.claim h) ∙ is_used.0, omega (arith, up, within)))

    by_run : (run : RunNo) (o : Option Held) → is_run (running_in (option_map change o)) run ≡ true → is_run (running_in o) run ≡ true
    by_run run None here = here
    by_run run (Some h) here = gentle.runs h run here

heard_gentle : (claim : ClaimNo) (reading : ℕ) → IsGentle (heard_claim claim reading)
heard_gentle claim reading = record { claim = λ h. by_claim h (same_claim h.claim.no claim); last = λ h. by_last h (same_claim h.claim.no claim); runs = λ h run. by_runs h run (same_claim h.claim.no claim) }
  where
    by_claim : (h : Held) (b : Bool) → (if b then record h { heard = reading } else h).claim ≡ h.claim
    by_claim h true = refl
    by_claim h false = refl

    by_last : (h : Held) (b : Bool) → h.last ≤ (if b then record h { heard = reading } else h).last
    by_last h true = omega arith
    by_last h false = omega arith

    by_runs : (h : Held) (run : RunNo) (b : Bool) → is_run (if b then record h { heard = reading } else h).running run ≡ true → is_run h.running run ≡ true
    by_runs h run true here = here
    by_runs h run false here = here

pub heard_stays : (boot : ℕ) (claim : ClaimNo) (reading : ℕ) (s : SlotState) → Stays boot s (heard_of claim reading s)
heard_stays boot claim reading s = held_stays boot (heard_claim claim reading) s (heard_gentle claim reading)

pub number_stays : (boot number : ℕ) (s : SlotState) → Stays boot s (with_number number s)
number_stays boot number s = held_stays boot (claim_with_number number) s (record { claim = λ h. refl; last = λ h. omega arith; runs = λ h run here. here })

pub ended_stays : (boot : ℕ) (run : RunNo) (how : How) (reading : ℕ) (s : SlotState) → Stays boot s (without_run run how reading s)
ended_stays boot run how reading s = held_stays boot (claim_after_run run how reading) s (record { claim = λ h. refl; last = λ h. omega arith; runs = λ h other here. absurd (true≢false (sym here)) })

-- the run on the slot changes, but for its number
pub running_stays : (boot : ℕ) (change : Running → Running) (s : SlotState) → ((r : Running) → (change r).run ≡ r.run) → Stays boot s (with_running change s)
running_stays boot change s same = held_stays boot (claim_with_running change) s (record { claim = λ h. refl; last = λ h. omega arith; runs = λ h run. by h.running run })
  where
    by : (o : Option Running) (run : RunNo) → is_run (option_map change o) run ≡ true → is_run o run ≡ true
    by None run here = here
    by (Some r) run here = subst (λ (x : RunNo). same_run x run ≡ true) (same r) here

pub lengthened_run : (until reading : ℕ) (r : Running) → (lengthened until reading r).run ≡ r.run
lengthened_run until reading r = by (nat_lt reading until)
  where
    by : (b : Bool) → (if b then record r { until = max r.until until } else r).run ≡ r.run
    by true = refl
    by false = refl

-- the held claim, where there is one, is of the machine's boot
abbrev pub IsOfBoot : ℕ → SlotState → Type 0
IsOfBoot boot s = IfSome s.held (λ h. h.claim.no.boot ≡ boot)

pub of_boot : (boot : ℕ) (slot : SlotId) (s : SlotState) → IsConsistent boot slot s → IsOfBoot boot s
of_boot boot slot s c = by s.held c.held
  where
    by : (o : Option Held) → IfSome o (λ h. IsOwnClaim boot slot s h.claim.no × HasOwnRuns h) → IfSome o (λ h. h.claim.no.boot ≡ boot)
    by None own = tt
    by (Some h) own = own.0.1

-- it ends
pub over_stays : (boot : ℕ) (s : SlotState) → IsOfBoot boot s → Stays boot s (without_claim s)
over_stays boot s own = record { spent = λ run. by run s.held own; runs = λ run here. absurd (true≢false (sym here)) }
  where
    by : (run : RunNo) (o : Option Held) → IfSome o (λ h. h.claim.no.boot ≡ boot) → IsSpentAt run (record { boot = boot; ended = s.passed; held = option_map held_mark o })
        → IsSpentAt run (record { boot = boot; ended = passed_with o s.passed; held = None })
    by run o own (inl earlier) = inl earlier
    by run None own (inr (inl ended)) = inr (inl ended)
    by run (Some h) own (inr (inl ended)) = let within = ended.1 in inr (inl (ended.0, omega (arith, within)))
    by run None own (inr (inr is_used)) = absurd is_used
    by run (Some h) own (inr (inr is_used)) =
        let seq : h.claim.no.seq ≡ run.claim.seq = ap (λ (c : ClaimNo). c.seq) is_used.0 in
        inr (inl (sym (ap (λ (c : ClaimNo). c.boot) is_used.0) ∙ own, omega (arith, seq)))

-- a claim is held where none was
pub claimed_stays : (boot : ℕ) (claim : ClaimId) (user : List ℕ) (rank : ℤ) (reading : ℕ) (s : SlotState) → s.held ≡ None → Stays boot s (with_claim claim user rank reading s)
claimed_stays boot claim user rank reading s none = record { spent = λ run spent. by run (subst (λ o. IsSpentAt run (record { boot = boot; ended = s.passed; held = option_map held_mark o })) none spent); runs = λ run here. absurd (true≢false (sym here)) }
  where
    by : (run : RunNo) → IsSpentAt run (record { boot = boot; ended = s.passed; held = None }) → IsSpentAt run (mark_of boot (with_claim claim user rank reading s))
    by run (inl earlier) = inl earlier
    by run (inr (inl ended)) = inr (inl ended)
    by run (inr (inr is_used)) = absurd is_used
