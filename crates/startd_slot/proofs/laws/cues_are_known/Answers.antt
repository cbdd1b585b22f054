use Rattle.startd_slot.proofs.CueRows.{mail_leads, end_leads}
use Rattle.startd_slot.proofs.laws.cues_are_known.Goals as goal

pub returns-clause-mails : goal.returns-clause-mails
returns-clause-mails c = mail_leads

pub returns-clause-ends : goal.returns-clause-ends
returns-clause-ends c = λ boot slot ending reading here consistent. end_leads boot slot.id slot.state ending reading here consistent
