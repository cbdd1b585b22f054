use Rattle.std.proofs.Common.{◌≡◌, ◌∙◌, Some, None, length, ap, sym, rules}
use Rattle.submit_file.proofs.Places.{place_is, place_of}
use Rattle.submit_file.proofs.setting.Settings.place.Goals as goal

pub returns-in-Some-clause-value : goal.returns-in-Some-clause-value
returns-in-Some-clause-value c =
    place_is c.args.name.now c.self.inside.names.keys c.self.inside.items.items (Some c.in-Some.place) c.self.invariant (sym c.in-Some.is ∙ c.get_index_of.ensures.index)
    ∙ ap (place_of c.args.name.now) c.self.view_is

pub returns-in-None-clause-value : goal.returns-in-None-clause-value
returns-in-None-clause-value c =
    let long : c.len.result ≡ length c.self.inside.items.items = search rules in
    long ∙ place_is c.args.name.now c.self.inside.names.keys c.self.inside.items.items None c.self.invariant (sym c.in-None.is ∙ c.get_index_of.ensures.index)
    ∙ ap (place_of c.args.name.now) c.self.view_is
