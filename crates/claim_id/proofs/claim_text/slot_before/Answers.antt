-- The pieces of a slot's text, one after the other.
use Rattle.std.proofs.Common.{decimal, ◌∷◌, ◌++◌, sym, ◌∙◌, arith}
use Rattle.claim_id.proofs.Pieces.{same_value, no_value, same_rest, slot_text-pieces, slot_text-from_pieces}
use Rattle.claim_id.proofs.claim_text.slot_before.Goals as goal

pub returns-in_err-slot_id-clause-only : goal.returns-in_err-slot_id-clause-only
returns-in_err-slot_id-clause-only c = λ s rest is text.
    let inside = same_rest 60 _ _ (sym c.in_ok-rest.ensures ∙ text ∙ slot_text-pieces s rest) in
    let first = c.number_before.ensures.only s.machine (decimal s.slot ++ 62 ∷ rest) (let h = is.machine_to in omega arith) inside in
    let machine = rw c.in_ok-machine.was at first in
    let second = c.number_before-2.ensures.only s.slot rest (let h = is.slot_to in omega arith) machine.1 in
    let slot = rw c.in_ok-slot.was at second in
    absurd (no_value s c.in_err-slot_id.was ((c.slot_id.ensures s).1 (is, machine.0, slot.0)))

pub returns-clause-found : goal.returns-clause-found
returns-clause-found c =
    let s = c.in_ok-slot_id.field-0 in
    let facts = (c.slot_id.ensures s).0 c.in_ok-slot_id.was in
    (facts.0, slot_text-from_pieces s _ _ _ _ _ _ c.in_ok-rest.ensures c.in_ok-machine.ensures.found c.in_ok-slot.ensures.found facts.1 facts.2)

pub returns-clause-only : goal.returns-clause-only
returns-clause-only c = λ s rest is text.
    let inside = same_rest 60 _ _ (sym c.in_ok-rest.ensures ∙ text ∙ slot_text-pieces s rest) in
    let first = c.number_before.ensures.only s.machine (decimal s.slot ++ 62 ∷ rest) (let h = is.machine_to in omega arith) inside in
    let machine = rw c.in_ok-machine.was at first in
    let second = c.number_before-2.ensures.only s.slot rest (let h = is.slot_to in omega arith) machine.1 in
    let slot = rw c.in_ok-slot.was at second in
    (same_value _ s c.in_ok-slot_id.was ((c.slot_id.ensures s).1 (is, machine.0, slot.0)), slot.1)
