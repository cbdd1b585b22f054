use Rattle.ad_value.specs.Content.{text}
use Rattle.ad_parse.proofs.Reread.{again}
use Rattle.ad_rows.proofs.Readable.{readable_value, value_within, readable_integer, readable_request}
use Rattle.ad_rows.proofs.Names.{name_readable}
use Rattle.ad_rows.proofs.submitted_laws.made_expressions_are_readable.Goals as goal

pub returns-clause-read : goal.returns-clause-read
returns-clause-read c = again

pub returns-clause-integer : goal.returns-clause-integer
returns-clause-integer c = readable_integer

pub returns-clause-string : goal.returns-clause-string
returns-clause-string c = λ s. (value_within (text s), readable_value (text s))

pub returns-clause-name : goal.returns-clause-name
returns-clause-name c = name_readable

pub returns-clause-request : goal.returns-clause-request
returns-clause-request c = readable_request
