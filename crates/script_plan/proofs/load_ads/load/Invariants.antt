-- The ads of the jobs so far, and the number after them.
use Rattle.std.proofs.Common.{◌≡◌, ◌<◌, ◌^◌}
use Rattle.script_plan.specs.Loads.{load_ads, number_after}
use Rattle.script_plan.proofs.load_ads.load.Given as goal

abbrev pub invariant-loop-proc : goal.invariant-loop-proc
invariant-loop-proc l = record {
  ads : l.ads ≡ load_ads l.fn.number l.cluster l.owner l.now l.proc;
  number : l.number ≡ number_after l.fn.number l.proc;
  within : l.number < 2 ^ 32;
}
