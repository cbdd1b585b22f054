use Rattle.std.proofs.Common.{ap, ◌∙◌}
use Rattle.submit_file.specs.Drafts.{draft_of, with_given}
use Rattle.submit_file.proofs.Takings.{on_ok}
use Rattle.submit_file.proofs.plan.add_small.Goals as goal

pub returns : goal.returns
returns c = on_ok c.add.result c.add.ensures (λ e. e ∙ ap (λ t. with_given c.args.name.now t (draft_of c.args.draft.now)) c.small.ensures)
