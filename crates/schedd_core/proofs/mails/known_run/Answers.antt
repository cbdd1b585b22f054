use Rattle.std.proofs.Common.{refl, sym}
use Rattle.std.proofs.lemmas.Option.{slice_get_read}
use Rattle.schedd_core.proofs.Known.{job_of_place}
use Rattle.schedd_core.proofs.mails.known_run.Goals as goal

pub returns : goal.returns
returns c =
    job_of_place c.args.schedd.now c.runs.result.now c.runs-2.result.now c.args.run c.in_ok-place.place c.in_ok-kept.kept.now
    c.runs.ensures c.runs-2.ensures c.in_ok-place.ensures (sym (slice_get_read c.runs-2.result.now _ c.in_ok-place.place c.in_ok-kept.kept.now refl c.in_ok-kept.ensures.lookup.3.0 c.in_ok-kept.ensures.lookup.1))
