use Rattle.std.proofs.Common.{ℕ, ◌∙◌, ap, List}
use Rattle.std.specs.List.{filter}
use Rattle.auto_cluster.specs.Links.{is_among}
use Rattle.auto_cluster.proofs.Named.{is_part}
use Rattle.auto_cluster.proofs.parts.part_of.Goals as goal

pub returns : goal.returns
returns c = λ slots links.
    is_part slots c.args.job.now c.in_ok-part.part c.args.slot_links.now c.in_ok-list.list.items c.add_ad.new.list.items c.in_ok-names.names.items links c.in_ok-list.ensures c.in_ok-add_ad.ensures c.in_ok-names.ensures
    (c.in_ok-part.ensures ∙ ap (λ (xs : List (List ℕ)). filter (λ a. is_among xs a.0) c.args.job.now) c.as_slice.ensures.value)
