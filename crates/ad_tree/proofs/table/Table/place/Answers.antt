use Rattle.std.proofs.Common.{ap, sym, ◌∙◌, position}
use Rattle.ad_tree.specs.Ad.{place_of}
use Rattle.ad_value.specs.Names.{same_name}
use Rattle.ad_tree.proofs.AdLemmas.{names-named_trees}
use Rattle.ad_tree.proofs.table.Table.place.Goals as goal

pub returns : goal.returns
returns c =
    let name = c.args.name.now in
    c.get_index_of.ensures.index
    ∙ ap (position (same_name name)) (sym (names-named_trees c.self.inside.attributes.entries))
    ∙ ap (place_of name) c.self.view_is
