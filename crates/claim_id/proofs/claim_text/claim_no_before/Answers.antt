-- The pieces of a claim's number, one after the other.
use Rattle.std.proofs.Common.{decimal, ◌∷◌, ◌++◌, sym, ◌∙◌}
use Rattle.claim_id.proofs.Pieces.{same_rest, claim_no_text-pieces, same_claim_no}
use Rattle.claim_id.proofs.claim_text.claim_no_before.Goals as goal

pub returns-in_err-slot-clause-only : goal.returns-in_err-slot-clause-only
returns-in_err-slot-clause-only c = λ n rest is text.
    let first = c.slot_before.ensures.only n.slot (35 ∷ (decimal n.boot ++ 35 ∷ (decimal n.seq ++ 35 ∷ rest))) is.slot_is (text ∙ claim_no_text-pieces n rest) in
    let none : ⊥ = rw c.in_err-slot.was at first in
    absurd none

pub returns-in_err-rest-clause-only : goal.returns-in_err-rest-clause-only
returns-in_err-rest-clause-only c = λ n rest is text.
    let first = c.slot_before.ensures.only n.slot (35 ∷ (decimal n.boot ++ 35 ∷ (decimal n.seq ++ 35 ∷ rest))) is.slot_is (text ∙ claim_no_text-pieces n rest) in
    let slot = rw c.in_ok-slot.was at first in
    let marks = rw c.in_err-rest.was at c.after_mark.ensures in
    absurd (marks _ slot.1)

pub returns-in_err-boot-clause-only : goal.returns-in_err-boot-clause-only
returns-in_err-boot-clause-only c = λ n rest is text.
    let first = c.slot_before.ensures.only n.slot (35 ∷ (decimal n.boot ++ 35 ∷ (decimal n.seq ++ 35 ∷ rest))) is.slot_is (text ∙ claim_no_text-pieces n rest) in
    let slot = rw c.in_ok-slot.was at first in
    let inside = same_rest 35 _ _ (sym c.in_ok-rest.ensures ∙ slot.1) in
    let second = c.number_before.ensures.only n.boot (decimal n.seq ++ 35 ∷ rest) is.boot_to inside in
    let none : ⊥ = rw c.in_err-boot.was at second in
    absurd none

pub returns-in_err-seq-clause-only : goal.returns-in_err-seq-clause-only
returns-in_err-seq-clause-only c = λ n rest is text.
    let first = c.slot_before.ensures.only n.slot (35 ∷ (decimal n.boot ++ 35 ∷ (decimal n.seq ++ 35 ∷ rest))) is.slot_is (text ∙ claim_no_text-pieces n rest) in
    let slot = rw c.in_ok-slot.was at first in
    let inside = same_rest 35 _ _ (sym c.in_ok-rest.ensures ∙ slot.1) in
    let second = c.number_before.ensures.only n.boot (decimal n.seq ++ 35 ∷ rest) is.boot_to inside in
    let boot = rw c.in_ok-boot.was at second in
    let third = c.number_before-2.ensures.only n.seq rest is.seq_to boot.1 in
    let none : ⊥ = rw c.in_err-seq.was at third in
    absurd none

pub returns-clause-only : goal.returns-clause-only
returns-clause-only c = λ n rest is text.
    let first = c.slot_before.ensures.only n.slot (35 ∷ (decimal n.boot ++ 35 ∷ (decimal n.seq ++ 35 ∷ rest))) is.slot_is (text ∙ claim_no_text-pieces n rest) in
    let slot = rw c.in_ok-slot.was at first in
    let inside = same_rest 35 _ _ (sym c.in_ok-rest.ensures ∙ slot.1) in
    let second = c.number_before.ensures.only n.boot (decimal n.seq ++ 35 ∷ rest) is.boot_to inside in
    let boot = rw c.in_ok-boot.was at second in
    let third = c.number_before-2.ensures.only n.seq rest is.seq_to boot.1 in
    let seq = rw c.in_ok-seq.was at third in
    (same_claim_no n _ _ _ slot.0 boot.0 seq.0, seq.1)
