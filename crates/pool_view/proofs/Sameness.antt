-- What the tests tell of whether two numbers are one.
use Rattle.std.proofs.Common.{◌≡◌, ◌≢◌, ℕ, Bool, true, false, ◌&&◌, ◌==◌, refl, ◌∙◌, ap, subst, eq-eqb}
use Rattle.std.proofs.lemmas.Bool.{eqb-true}
use Rattle.claim_id.specs.declared.numbers.JobId.{JobId}
use Rattle.claim_id.specs.declared.numbers.RunNo.{RunNo}
use Rattle.claim_id.specs.declared.numbers.SlotId.{SlotId}
use Rattle.pool_view.specs.Numbers.{same_job, same_slot, same_claim, same_run}

pub both_true : (a b : Bool) → (a && b) ≡ true → (a ≡ true) × (b ≡ true)
both_true true true h = (refl, refl)
both_true true false h = cc
both_true false b h = cc

-- ---- jobs
pub same_job-true : (a b : JobId) → same_job a b ≡ true → a ≡ b
same_job-true a b h =
    let both = both_true (a.cluster == b.cluster) (a.proc == b.proc) h in
    let cluster : a.cluster ≡ b.cluster = eqb-true a.cluster b.cluster both.0 in
    let proc : a.proc ≡ b.proc = eqb-true a.proc b.proc both.1 in
    let with_cluster : ℕ → JobId = λ n. record { cluster = n; proc = a.proc } in
    let with_proc : ℕ → JobId = λ n. record { cluster = b.cluster; proc = n } in
    ap with_cluster cluster ∙ ap with_proc proc

pub same_job-same : (a : JobId) → same_job a a ≡ true
same_job-same a = rw (eq-eqb a.cluster a.cluster refl, eq-eqb a.proc a.proc refl)

pub other_job : (q job : JobId) → same_job q job ≡ false → q ≢ job
other_job q job is same = let itself = subst (λ k. same_job q k ≡ true) same (same_job-same q) in cc

-- ---- slots
pub same_slot-true : (a b : SlotId) → same_slot a b ≡ true → a ≡ b
same_slot-true a b h =
    let both = both_true (a.machine == b.machine) (a.slot == b.slot) h in
    let machine : a.machine ≡ b.machine = eqb-true a.machine b.machine both.0 in
    let slot : a.slot ≡ b.slot = eqb-true a.slot b.slot both.1 in
    let with_machine : ℕ → SlotId = λ n. record { machine = n; slot = a.slot } in
    let with_slot : ℕ → SlotId = λ n. record { machine = b.machine; slot = n } in
    ap with_machine machine ∙ ap with_slot slot

pub same_slot-same : (a : SlotId) → same_slot a a ≡ true
same_slot-same a = rw (eq-eqb a.machine a.machine refl, eq-eqb a.slot a.slot refl)

pub other_slot : (q slot : SlotId) → same_slot q slot ≡ false → q ≢ slot
other_slot q slot is same = let itself = subst (λ k. same_slot q k ≡ true) same (same_slot-same q) in cc

-- ---- runs
pub same_run-same : (a : RunNo) → same_run a a ≡ true
same_run-same a = rw (eq-eqb a.claim.slot.machine a.claim.slot.machine refl, eq-eqb a.claim.slot.slot a.claim.slot.slot refl, eq-eqb a.claim.boot a.claim.boot refl, eq-eqb a.claim.seq a.claim.seq refl, eq-eqb a.number a.number refl)

-- one run has one number
pub same_number : (a b : RunNo) → same_run a b ≡ true → a.number ≡ b.number
same_number a b is = eqb-true a.number b.number (both_true (same_claim a.claim b.claim) (a.number == b.number) is).1
