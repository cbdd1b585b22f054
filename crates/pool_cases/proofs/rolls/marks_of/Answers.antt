use Rattle.std.proofs.Common.{◌≡◌, ℕ, ◌+◌, ◌<◌, List, [], ◌∷◌, ◌++◌, length, get_or, take, map, ap, sym, ◌∙◌}
use Rattle.std.proofs.lemmas.List.{map_more}
use Rattle.pool_mail.specs.declared.end.Ending.{Ending}
use Rattle.receipt_roll.specs.Values.{RollMark, RollValue}
use Rattle.pool_cases.specs.Marks.{mark_of}
use Rattle.pool_cases.proofs.rolls.marks_of.Goals as goal

one_more : (rolls : List (RollValue Ending)) (i : ℕ) (roll : RollValue Ending) (mark : RollMark) (before after : List RollMark) → i < length rolls → roll ≡ get_or rolls i roll → mark ≡ roll.mark
    → before ≡ map mark_of (take i rolls) → after ≡ before ++ mark ∷ [] → after ≡ map mark_of (take (i + 1) rolls)
one_more rolls i roll mark before after less at same so_far pushed =
    pushed
    ∙ ap (λ (marks : List RollMark). marks ++ mark ∷ []) so_far
    ∙ ap (λ (m : RollMark). map mark_of (take i rolls) ++ m ∷ []) (same ∙ ap (λ (r : RollValue Ending). r.mark) at)
    ∙ sym (map_more (λ (r : RollValue Ending). r.mark) rolls i roll less)

pub loop-roll-preserved : goal.loop-roll-preserved
loop-roll-preserved c =
    one_more c.args.rolls.now c.loop-roll.roll-index c.roll-item.result c.mark.result c.loop-roll.marks.items c.push.new.self.items
    c.loop-roll-test.true c.roll-item.is c.mark.ensures c.loop-roll.invariant c.in_ok-push.ensures.items
