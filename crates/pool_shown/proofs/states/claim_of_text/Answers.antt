use Rattle.std.proofs.Common.{◌∙◌}
use Rattle.schedd_state.proofs.Readers.{read_is}
use Rattle.pool_shown.proofs.states.claim_of_text.Goals as goal

pub returns : goal.returns
returns c = λ read reads. c.ok.ensures.value ∙ read_is c.read.result c.args.text.now c.read.ensures read reads
