use Rattle.std.proofs.Common.{refl, sym}
use Rattle.std.proofs.lemmas.Option.{slice_get_read}
use Rattle.schedd_core.proofs.Known.{stage_of_place}
use Rattle.schedd_core.proofs.mails.known_claim.Goals as goal

pub returns : goal.returns
returns c =
    stage_of_place c.args.schedd.now c.claims.result.now c.claims-2.result.now c.args.claim c.in_ok-place.place c.in_ok-kept.kept.now
    c.claims.ensures c.claims-2.ensures c.in_ok-place.ensures (sym (slice_get_read c.claims-2.result.now _ c.in_ok-place.place c.in_ok-kept.kept.now refl c.in_ok-kept.ensures.lookup.3.0 c.in_ok-kept.ensures.lookup.1))
