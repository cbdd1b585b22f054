use Rattle.std.proofs.Common.{◌∙◌, ap, subst}
use Rattle.std.specs.Str.{IsUtf8}
use Rattle.queue_record.specs.Texts.{tx_text}
use Rattle.queue_log.specs.NewLog.{new_log_tx}
use Rattle.queue_log.proofs.Settled.{are_texts}
use Rattle.queue_log.proofs.new_log.new_log_text.Goals as goal

pub returns-clause-are_texts : goal.returns-clause-are_texts
returns-clause-are_texts c = are_texts new_log_tx (subst IsUtf8 (c.as_str.ensures ∙ c.in-Ok.ensures.text ∙ ap tx_text c.requires) c.as_str.utf8)
