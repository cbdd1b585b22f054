use Rattle.std.proofs.Common.{◌≡◌, true, false, true≢false, sym, ◌∙◌}
use Rattle.std.specs.Prelude.{slice_get}
use Rattle.std.specs.Option.{option_copied}
use Rattle.pool_rules.proofs.Judged.{fair_as_told, nothing_was_given}
use Rattle.pool_rules.specs.Judging.{is_judged_at, nothing_given}
use Rattle.pool_rules.proofs.judging.is_fair.Goals.{else-is_judged_at-via-then-is_judged_at+else-is_nothing_given, else-is_judged_at-via-else-is_judged_at}
use Rattle.pool_rules.proofs.judging.is_fair.Goals as goal

pub returns-then-is_nothing_given : goal.returns-then-is_nothing_given
returns-then-is_nothing_given c =
    nothing_was_given c.args.state.now c.args.mail.now c.args.ad.now c.args.slot c.args.reading (option_copied c.args.judged) (option_copied c.args.none) c.if-is_judged_at.ensures c.if-is_nothing_given.ensures

pub returns : goal.returns
returns c =
    let given : is_judged_at (slice_get c.args.state.now.machines c.args.slot.machine) c.args.mail.now c.args.reading ≡ true → nothing_given (option_copied c.args.judged) (option_copied c.args.none) ≡ false = elim c.else-is_judged_at.branch [
      | else-is_judged_at-via-then-is_judged_at+else-is_nothing_given w ↦ λ asked. sym w.is_nothing_given.ensures ∙ w.if-is_nothing_given.false
      | else-is_judged_at-via-else-is_judged_at w ↦ λ asked. absurd (true≢false (sym asked ∙ sym c.is_judged_at.ensures ∙ w.if-is_judged_at.false))
    ] in
    fair_as_told c.args.state.now c.args.mail.now c.args.ad.now c.args.slot c.args.reading (option_copied c.args.judged) (option_copied c.args.none) given c.is_fair_at.ensures
