use Rattle.std.proofs.Common.{◌↔◌, IsTrue}
use Rattle.pool_rules.proofs.Judged.{IsFreeMatch, IsOfferedMatch, IsPossible, as_denied, as_told, asked_same, both_fail, both_tell, impossible, live_at, slot_same}
use Rattle.pool_rules.proofs.judging.is_live.Goals.{then-is_asked_by, else-is_asked_by, then-not-is_engaged, else-not-is_engaged, then-is_offered, else-is_offered}
use Rattle.pool_rules.proofs.judging.is_live.Goals as goal

pub returns-then-is_slots : goal.returns-then-is_slots
returns-then-is_slots c =
    let s = c.args.state.now in
    let m = c.args.found.now in
    let judged = c.args.judged.now in
    let asked = asked_same s m.job c.job.ensures c.is_asked_by.ensures in
    let free : IsTrue c.if-is_asked_by.value ↔ IsFreeMatch s m judged = elim c.if-is_asked_by.branch [
      | then-is_asked_by w ↦ both_tell w.value-is w.if-is_asked_by.true asked (as_denied w.is_engaged.ensures)
      | else-is_asked_by w ↦ both_fail w.value-is w.if-is_asked_by.false asked
    ] in
    let offered : IsTrue c.if-not-is_engaged.value ↔ IsOfferedMatch s m judged = elim c.if-not-is_engaged.branch [
      | then-not-is_engaged w ↦ both_tell w.value-is w.if-not-is_engaged.true free (as_told w.is_offered.ensures)
      | else-not-is_engaged w ↦ both_fail w.value-is w.if-not-is_engaged.false free
    ] in
    let possible : IsTrue c.if-is_offered.value ↔ IsPossible s m judged = elim c.if-is_offered.branch [
      | then-is_offered w ↦ both_tell w.value-is w.if-is_offered.true offered (slot_same s m.claim.no.slot w.slot.ensures w.is_slots.ensures)
      | else-is_offered w ↦ both_fail w.value-is w.if-is_offered.false offered
    ] in
    live_at s m judged c.args.reading c.if-is_slots.true possible c.at.ensures

pub returns-else-is_slots : goal.returns-else-is_slots
returns-else-is_slots c =
    let s = c.args.state.now in
    let m = c.args.found.now in
    let judged = c.args.judged.now in
    let asked = asked_same s m.job c.job.ensures c.is_asked_by.ensures in
    let free : IsTrue c.if-is_asked_by.value ↔ IsFreeMatch s m judged = elim c.if-is_asked_by.branch [
      | then-is_asked_by w ↦ both_tell w.value-is w.if-is_asked_by.true asked (as_denied w.is_engaged.ensures)
      | else-is_asked_by w ↦ both_fail w.value-is w.if-is_asked_by.false asked
    ] in
    let offered : IsTrue c.if-not-is_engaged.value ↔ IsOfferedMatch s m judged = elim c.if-not-is_engaged.branch [
      | then-not-is_engaged w ↦ both_tell w.value-is w.if-not-is_engaged.true free (as_told w.is_offered.ensures)
      | else-not-is_engaged w ↦ both_fail w.value-is w.if-not-is_engaged.false free
    ] in
    let possible : IsTrue c.if-is_offered.value ↔ IsPossible s m judged = elim c.if-is_offered.branch [
      | then-is_offered w ↦ both_tell w.value-is w.if-is_offered.true offered (slot_same s m.claim.no.slot w.slot.ensures w.is_slots.ensures)
      | else-is_offered w ↦ both_fail w.value-is w.if-is_offered.false offered
    ] in
    impossible s m judged c.args.reading c.if-is_slots.false possible
