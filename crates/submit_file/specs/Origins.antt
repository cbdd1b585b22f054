-- Where the attributes of a job come from.
use Rattle.std.specs.Prelude.{ℕ, List, codes, Option, Some, None, Result, Ok}
use Rattle.ad_value.specs.Content.{text}
use Rattle.ad_value.specs.declared.names.job.TheConstants.{OWNER}
use Rattle.ad_tree.specs.Tree.{Tree, literal}
use Rattle.submit_lines.specs.declared.command.Command.{Command}
use Rattle.submit_lines.specs.declared.error.ValueError.{ValueError}
use Rattle.submit_lines.specs.Commands.{command_name, attribute_name}
use Rattle.submit_lines.specs.Values.{value_at, preset_at, some_of, tree_of_text, string_at}
use Rattle.submit_file.specs.declared.setting.LinesSoFar.{LinesSoFar}
use Rattle.submit_file.specs.declared.setting.Setting.{Setting}
use Rattle.submit_file.specs.declared.source.Source.{Source}
use Rattle.submit_file.specs.declared.source.Source.TheVariants as source
use Rattle.submit_file.specs.Settings.{setting_of}

-- the command `owner`, another command, or a line of the attribute
pub data Origin : Type 0 where
  owner_command : Origin
  other_command : Command → Origin
  own_line : Setting → Origin

-- what the program keeps of it
abbrev pub origin_of : Source → Origin
origin_of source.Owner = owner_command
origin_of (source.Command c) = other_command c
origin_of (source.Line s) = own_line s.now

-- what the file sets for the attribute
abbrev pub setting_for : LinesSoFar → Origin → Option Setting
setting_for f owner_command = setting_of (codes "owner") f.commands
setting_for f (other_command c) = setting_of (command_name c) f.commands
setting_for f (own_line s) = Some s

-- the attribute's name, where that says this text once its macros are replaced
abbrev pub name_for : Origin → List ℕ → List ℕ
name_for owner_command x = OWNER.now
name_for (other_command c) x = attribute_name c x
name_for (own_line s) x = s.name

-- what the attribute is then
abbrev pub value_for : Origin → List ℕ → Result (Option Tree) ValueError
value_for owner_command x = some_of (string_at x)
value_for (other_command c) x = value_at c x
value_for (own_line s) x = some_of (tree_of_text x)

-- what it is where the file sets nothing for it
abbrev pub preset_for : List ℕ → Origin → Result (Option Tree) ValueError
preset_for user owner_command = Ok (Some (literal (text user)))
preset_for user (other_command c) = preset_at c
preset_for user (own_line s) = Ok None
