use Rattle.std.proofs.Common.{◌∙◌, sym, ap, option_map}
use Rattle.submit_file.proofs.Begun.{program_if, no_program}
use Rattle.submit_file.proofs.file.FileSoFar.has_program.Goals as goal

pub returns-in-Some : goal.returns-in-Some
returns-in-Some c =
    program_if c.args.self.now.lines c.in-Some.setting.now c.is_empty.result (sym c.get.ensures ∙ ap (option_map (λ s. s.now)) c.in-Some.is) c.is_empty.ensures

pub returns-in-None : goal.returns-in-None
returns-in-None c = no_program c.args.self.now.lines (sym c.get.ensures ∙ ap (option_map (λ s. s.now)) c.in-None.is)
