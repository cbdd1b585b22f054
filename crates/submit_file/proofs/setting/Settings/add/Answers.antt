use Rattle.std.proofs.Common.{◌∙◌, ap, string_bytes, rules}
use Rattle.std.specs.List.{list_any}
use Rattle.std.specs.Str.{bytes_eq}
use Rattle.submit_file.specs.Settings.{lowercase_names}
use Rattle.submit_file.proofs.Places.{names_more}
use Rattle.submit_file.proofs.setting.Settings.add.Goals as goal

pub invariant_of-self-2 : goal.invariant_of-self-2
invariant_of-self-2 c =
    names_more c.args.key c.self.inside.names.keys c.insert.new.self.keys c.self.inside.items.items c.args.setting c.self.invariant c.requires.named
    (ap (λ ss. list_any (bytes_eq (string_bytes c.args.key)) (lowercase_names ss)) c.self.view_is ∙ c.requires.new) c.in_ok-insert.ensures.keys
    ∙ ap lowercase_names (search rules)
