-- What the tests tell of whether two claims, or two runs, are one.
use Rattle.std.proofs.Common.{◌≡◌, ℕ, true, ◌&&◌, ◌==◌, refl, ◌∙◌, ap, eq-eqb}
use Rattle.std.proofs.lemmas.Bool.{eqb-true}
use Rattle.claim_id.specs.declared.numbers.ClaimId.{ClaimId}
use Rattle.claim_id.specs.declared.numbers.ClaimNo.{ClaimNo}
use Rattle.claim_id.specs.declared.numbers.RunNo.{RunNo}
use Rattle.claim_id.specs.declared.numbers.SlotId.{SlotId}
use Rattle.pool_view.specs.Numbers.{same_slot, same_claim, same_run}
use Rattle.pool_view.proofs.Sameness.{both_true, same_slot-true}
use Rattle.startd_slot.specs.SlotStates.{same_claim_id}

pub same_claim-true : (a b : ClaimNo) → same_claim a b ≡ true → a ≡ b
same_claim-true a b h =
    let both = both_true (same_slot a.slot b.slot) ((a.boot == b.boot) && (a.seq == b.seq)) h in
    let rest = both_true (a.boot == b.boot) (a.seq == b.seq) both.1 in
    let slot : a.slot ≡ b.slot = same_slot-true a.slot b.slot both.0 in
    let boot : a.boot ≡ b.boot = eqb-true a.boot b.boot rest.0 in
    let seq : a.seq ≡ b.seq = eqb-true a.seq b.seq rest.1 in
    let with_slot : SlotId → ClaimNo = λ x. record { slot = x; boot = a.boot; seq = a.seq } in
    let with_boot : ℕ → ClaimNo = λ n. record { slot = b.slot; boot = n; seq = a.seq } in
    let with_seq : ℕ → ClaimNo = λ n. record { slot = b.slot; boot = b.boot; seq = n } in
    ap with_slot slot ∙ (ap with_boot boot ∙ ap with_seq seq)

pub same_claim-same : (a : ClaimNo) → same_claim a a ≡ true
same_claim-same a = rw (eq-eqb a.slot.machine a.slot.machine refl, eq-eqb a.slot.slot a.slot.slot refl, eq-eqb a.boot a.boot refl, eq-eqb a.seq a.seq refl)

pub same_run-true : (a b : RunNo) → same_run a b ≡ true → a ≡ b
same_run-true a b h =
    let both = both_true (same_claim a.claim b.claim) (a.number == b.number) h in
    let claim : a.claim ≡ b.claim = same_claim-true a.claim b.claim both.0 in
    let number : a.number ≡ b.number = eqb-true a.number b.number both.1 in
    let with_claim : ClaimNo → RunNo = λ x. record { claim = x; number = a.number } in
    let with_number : ℕ → RunNo = λ n. record { claim = b.claim; number = n } in
    ap with_claim claim ∙ ap with_number number

pub same_claim_id-true : (a b : ClaimId) → same_claim_id a b ≡ true → a ≡ b
same_claim_id-true a b h =
    let both = both_true (same_claim a.no b.no) (a.secret == b.secret) h in
    let no : a.no ≡ b.no = same_claim-true a.no b.no both.0 in
    let secret : a.secret ≡ b.secret = eqb-true a.secret b.secret both.1 in
    let with_no : ClaimNo → ClaimId = λ x. record { no = x; secret = a.secret } in
    let with_secret : ℕ → ClaimId = λ n. record { no = b.no; secret = n } in
    ap with_no no ∙ ap with_secret secret
