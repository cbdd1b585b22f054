-- Calls of which some fail.
use Rattle.std.specs.Prelude.{◌+◌, ◌-◌, ◌^◌, min, Contains}
use Rattle.pool_outer.specs.declared.failing.FailingCalls.{FailingCalls}

-- the next call is one of those that fail
abbrev pub NextFails : FailingCalls → Type 0
NextFails calls = Contains calls.fails.items calls.next

-- the calls after one more; the count stays at the end of its type
abbrev pub one_more : FailingCalls → FailingCalls
one_more calls = record calls { next = min (calls.next + 1) (2 ^ 64 - 1) }
