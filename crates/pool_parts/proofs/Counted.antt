-- A size that stops at the greatest number of 64 bits, once nothing is left to be counted.
use Rattle.std.proofs.Common.{◌≡◌, ℕ, ◌+◌, ◌≤◌, min, arith}

pub counted : (total rest whole : ℕ) → rest ≡ 0
    → (min (total + rest) 18446744073709551615 ≡ min whole 18446744073709551615) × (total ≤ 18446744073709551615)
    → total ≡ min whole 18446744073709551615
counted total rest whole none so_far = let all = so_far.0 in let few = so_far.1 in omega (arith, none, all, few)
