use Rattle.std.proofs.Common.{◌≡◌, ◌++◌, codes}
use Rattle.claim_id.specs.Texts.{claim_text}
use Rattle.daemon_texts.proofs.ClaimNumbers.{number_before_secret}
use Rattle.daemon_texts.proofs.ids.read_claim_no.Goals as goal

pub returns : goal.returns
returns c =
    let claim = c.in_ok-read_claim.field-0 in
    let read = (c.read_claim.ensures claim).0 c.in_ok-read_claim.was in
    let whole : c.args.text.now ++ codes "#0000000000000000" ≡ claim_text claim = cc (read.1, c.as_str.ensures.value, c.in_ok-with_secret.ensures.ok) in
    number_before_secret c.args.text.now claim (c.secret_has_16_digits.ensures.length claim.secret) whole
