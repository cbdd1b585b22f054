-- One more weight, for the loop that sums them.
use Rattle.std.proofs.Common.{◌≡◌, ℕ, ◌+◌, ◌*◌, ◌^◌, ◌<◌, ◌≤◌, List, length, get_or, take, sym, ap, ◌∙◌, arith}
use Rattle.std.specs.List.{sum_by}
use Rattle.std.proofs.lemmas.List.Sums.{sum_by_more}
use Rattle.matchmaker.specs.declared.course.Bidder.{Bidder}
use Rattle.matchmaker.specs.Cycle.{weight}

pub weighed_more : (bs : List Bidder) (i sum more : ℕ) (b : Bidder) → i < length bs → b ≡ get_or bs i b → sum ≡ sum_by (λ (c : Bidder). weight c.account) (take i bs) → more ≡ weight b.account →
    sum + more ≡ sum_by (λ (c : Bidder). weight c.account) (take (i + 1) bs)
weighed_more bs i sum more b h e so_far one =
    (λ j. so_far j + (one ∙ ap (λ (c : Bidder). weight c.account) e) j) ∙ sym (sum_by_more (λ (c : Bidder). weight c.account) bs i b h)

pub within_more : (i sum more : ℕ) → sum ≤ i * 2 ^ 96 → more ≤ 2 ^ 96 → sum + more ≤ (i + 1) * 2 ^ 96
within_more i sum more h k = omega arith

pub some_more : (i sum more : ℕ) → i ≤ sum → 0 < more → i + 1 ≤ sum + more
some_more i sum more h k = omega arith
