use Rattle.std.proofs.Common.{◌∙◌, ap}
use Rattle.std.specs.Result.{result_ok}
use Rattle.std.proofs.lemmas.Fmt.{parse-decimal}
use Rattle.ad_value.proofs.number.lenient_number.Goals as goal

pub returns : goal.returns
returns c = λ n is. c.ok.ensures.value ∙ ap result_ok (parse-decimal 64 n c.args.text.now c.parse.result is.0 is.0 is.1 c.parse.ensures.value.0)
