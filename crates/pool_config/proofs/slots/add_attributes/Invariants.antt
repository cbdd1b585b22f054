-- What is set so far, with the attributes that are left, is the whole.
use Rattle.std.proofs.Common.{◌≡◌, drop}
use Rattle.pool_config.specs.Slots.{with_attributes}
use Rattle.pool_config.proofs.slots.add_attributes.Given as goal

abbrev pub invariant-loop-place : goal.invariant-loop-place
invariant-loop-place l = with_attributes (drop l.place l.attrs) l.ad ≡ with_attributes l.attrs l.initial.ad
