use Rattle.std.proofs.Common.{◌∙◌, ap, sym, refl}
use Rattle.std.proofs.lemmas.Option.{slice_get_past, slice_get_read}
use Rattle.schedd_plan.specs.MailTable.{is_leaving_in}
use Rattle.schedd_plan.proofs.mail.is_leaving_at.Goals as goal

pub returns-in-None : goal.returns-in-None
returns-in-None c = ap is_leaving_in (sym (slice_get_past c.args.claims.now c.args.place c.in-None.ensures.lookup.3))

pub returns-in-Some : goal.returns-in-Some
returns-in-Some c =
    c.is_leaving.ensures
    ∙ ap is_leaving_in (sym (slice_get_read c.args.claims.now _ c.args.place c.in-Some.kept.now refl c.in-Some.ensures.lookup.3.0 c.in-Some.ensures.lookup.1))
