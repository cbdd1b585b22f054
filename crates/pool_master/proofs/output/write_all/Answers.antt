use Rattle.std.proofs.Common.{◌∙◌, refl}
use Rattle.pool_master.proofs.Pieces.{written_more, fits_more}
use Rattle.pool_master.proofs.output.write_all.Goals as goal

pub writes-preserved : goal.writes-preserved
writes-preserved g c =
    let inv = c.writes.invariant in
    let n = c.in_ok-done.ensures in
    record {
      fits = fits_more c.args.bytes.now c.writes.done c.in_ok-done.field-0 inv.fits n.count;
      written = λ tells. written_more _ _ _ c.args.bytes.now c.writes.done c.in_ok-done.field-0 (inv.written tells) (n.taken (inv.told ∙ tells));
      told = n.told ∙ inv.told;
      quiet = n.cause.quiet refl ∙ inv.quiet;
    }
