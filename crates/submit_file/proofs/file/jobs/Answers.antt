use Rattle.std.proofs.Common.{◌∙◌}
use Rattle.submit_file.specs.OneJob.{Common}
use Rattle.submit_file.proofs.Readings.{all_read, all_refused}
use Rattle.submit_file.proofs.file.jobs.Goals as goal

pub returns-in-Ok : goal.returns-in-Ok
returns-in-Ok c =
    let h : Common = record { cluster = c.args.cluster; owner = c.args.owner.now; now = c.args.now } in
    all_read h c.args.text.now c.in_ok-file.file c.read_lines.new.self c.as_slice.result.now c.into_ads.result (c.as_slice.ensures ∙ c.in_ok-lines.ensures) c.in_ok-file.ensures c.in-Ok.ensures (c.into_ads.ensures h)

pub returns : goal.returns
returns c =
    let h : Common = record { cluster = c.args.cluster; owner = c.args.owner.now; now = c.args.now } in
    all_refused h c.args.text.now c.in_ok-file.file c.read_lines.new.self c.as_slice.result.now c.in-Err.error (c.as_slice.ensures ∙ c.in_ok-lines.ensures) c.in_ok-file.ensures c.in-Err.ensures
