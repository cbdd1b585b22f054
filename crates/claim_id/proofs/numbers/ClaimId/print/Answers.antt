-- What is written is the claim's text, piece by piece.
use Rattle.std.proofs.Common.{◌≡◌, ◌∷◌, ◌++◌, sym, ◌∙◌, ap, decimal, string_bytes}
use Rattle.hex.specs.Hex.{encode_lower}
use Rattle.claim_id.specs.Texts.{secret_text}
use Rattle.claim_id.proofs.Pieces.{claim_text-pieces}
use Rattle.claim_id.proofs.numbers.ClaimId.print.Goals as goal

pub returns : goal.returns
unfolding secret_text
returns c =
    let self = c.args.self.now in
    let secret : string_bytes c.in_ok-secret.secret ≡ secret_text self.secret = c.in_ok-secret.ensures ∙ ap encode_lower c.to_be_bytes.ensures in
    let text : string_bytes c.in_ok-format.field-0 ≡ 60 ∷ (decimal self.no.slot.machine ++ 58 ∷ (decimal self.no.slot.slot ++ 62 ∷ 35 ∷ (decimal self.no.boot ++ 35 ∷ (decimal self.no.seq ++ 35 ∷ string_bytes c.in_ok-secret.secret)))) = c.in_ok-format.ensures.ok in
    let digits = rw secret at text in
    c.from.ensures ∙ digits ∙ sym (claim_text-pieces self)
