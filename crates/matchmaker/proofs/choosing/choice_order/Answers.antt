use Rattle.std.proofs.Common.{◌≡◌, ◌∙◌}
use Rattle.std.specs.Cmp.Lexicographic.{slice_cmp}
use Rattle.std.specs.Option.{is_some}
use Rattle.std.specs.Ordering.{ordering_then, nat_cmp, int_cmp, bool_cmp}
use Rattle.std.proofs.Math.Facts.{to_z-of_z}
use Rattle.matchmaker.specs.Cycle.{choice_order}
use Rattle.matchmaker.proofs.choosing.choice_order.Goals as goal

pub returns : goal.returns
unfolding choice_order
returns c =
    let rank = to_z-of_z c.ranges.rank in
    let other_rank = to_z-of_z c.ranges.other_rank in
    let ranks : c.cmp.result ≡ int_cmp c.args.other_rank c.args.rank = c.cmp.ensures ∙ (λ i. int_cmp (other_rank i) (rank i)) in
    let holders : c.cmp-holders.result ≡ bool_cmp (is_some c.args.one.now.holder) (is_some c.args.other.now.holder) = c.cmp-holders.ensures ∙ (λ i. bool_cmp (c.is_some.ensures i) (c.is_some-2.ensures i)) in
    let names : c.cmp-names.result ≡ slice_cmp nat_cmp c.args.one.now.name c.args.other.now.name = c.cmp-names.ensures ∙ (λ i. slice_cmp nat_cmp (c.as_str.ensures i) (c.as_str-2.ensures i)) in
    let later : c.then.result ≡ ordering_then (bool_cmp (is_some c.args.one.now.holder) (is_some c.args.other.now.holder)) (slice_cmp nat_cmp c.args.one.now.name c.args.other.now.name) = c.then.ensures ∙ (λ i. ordering_then (holders i) (names i)) in
    c.then-2.ensures ∙ (λ i. ordering_then (ranks i) (later i))
