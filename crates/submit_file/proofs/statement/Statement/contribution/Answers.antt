use Rattle.std.proofs.Common.{ap, sym, ◌∙◌, option_map}
use Rattle.submit_file.specs.Origins.{origin_of, preset_for}
use Rattle.submit_file.proofs.Takings.{unset_gives}
use Rattle.submit_file.proofs.statement.Statement.contribution.Goals as goal

pub returns-in-Some : goal.returns-in-Some
returns-in-Some c = c.setting_contribution.ensures (sym c.setting.ensures ∙ ap (option_map (λ s. s.now)) c.in-Some.is)

pub returns-in-None : goal.returns-in-None
returns-in-None c =
    let o = origin_of c.args.source in
    unset_gives c.args.self c.args.table.now o _ _ (sym c.setting.ensures ∙ ap (option_map (λ s. s.now)) c.in-None.is) c.name.ensures
    (c.value_contribution.ensures (preset_for c.args.self.heading.owner.now o) c.preset-value.ensures)
