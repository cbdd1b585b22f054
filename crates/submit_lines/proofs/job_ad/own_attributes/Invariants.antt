-- The own attributes among those that were looked at.
use Rattle.std.proofs.Common.{◌≡◌, ◌≤◌, take}
use Rattle.ad_rows.specs.Submitted.{own_attributes}
use Rattle.submit_lines.proofs.job_ad.own_attributes.Given as goal

abbrev pub invariant-loop-place : goal.invariant-loop-place
invariant-loop-place l = record { counted : l.count ≡ own_attributes (take l.place l.ad); within : l.count ≤ l.place }
