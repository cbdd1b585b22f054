use Rattle.std.proofs.Common.{Ok, Err, ap, ◌∙◌, subst, option_map}
use Rattle.ad_tree.specs.Tree.{tree}
use Rattle.submit_lines.specs.Values.{GivesValue}
use Rattle.submit_file.specs.Errors.{UnlessMemory, Replaced}
use Rattle.submit_file.specs.Origins.{origin_of, name_for, value_for}
use Rattle.submit_file.proofs.Takings.{set_gives, refusal_gives}
use Rattle.submit_file.proofs.statement.Statement.setting_contribution.Goals as goal

pub returns-in-Ok : goal.returns-in-Ok
returns-in-Ok c = λ set.
    let o = origin_of c.args.source in
    let x = c.in-Ok.text in
    set_gives c.args.self c.args.table.now o c.args.setting.now x _ c.place.result _ set (subst (λ v. Replaced c.args.table.now v c.args.setting.now.line (Ok x)) c.as_str.ensures c.in-Ok.ensures) (c.name.ensures ∙ ap (name_for o) c.as_str-in-Ok-2.ensures) c.place.ensures
    (c.value_contribution.ensures (value_for o x) (subst (λ y. GivesValue (option_map tree) c.read-value.result (value_for o y)) c.as_str-in-Ok.ensures c.read-value.ensures))

pub returns-in-Err : goal.returns-in-Err
returns-in-Err c = λ set. refusal_gives c.args.self c.args.table.now (origin_of c.args.source) c.args.setting.now c.in-Err.refusal _ set (subst (λ v. UnlessMemory (Replaced c.args.table.now v c.args.setting.now.line) (Err c.in-Err.refusal)) c.as_str.ensures c.in-Err.ensures) c.refusal_contribution.ensures
