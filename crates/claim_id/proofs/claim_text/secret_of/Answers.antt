-- What is decoded of a secret's text are the bytes of that secret.
use Rattle.std.proofs.Common.{◌≡◌, ℕ, List, Some, None, IsTrue, sym, ◌∙◌, ap}
use Rattle.std.specs.Int.{w64, to_be_bytes, from_be_bytes}
use Rattle.std.specs.Result.{result_ok}
use Rattle.std.proofs.lemmas.Nat.{from_be_bytes-to_be_bytes_8}
use Rattle.hex.specs.Hex.{decode_sized}
use Rattle.claim_id.specs.Texts.{secret_text}
use Rattle.claim_id.proofs.Secrets.{decode-secret}
use Rattle.claim_id.proofs.claim_text.secret_of.Goals as goal

pub returns-in_err-bytes-clause-only : goal.returns-in_err-bytes-clause-only
returns-in_err-bytes-clause-only c = λ n small is.
    let there = c.from_hex.ensures ∙ ap (λ (text : List ℕ). decode_sized text 8) is ∙ decode-secret n in
    let clash : None ≡ Some (to_be_bytes w64 n) = sym c.in_err-bytes.was ∙ c.ok.ensures.value ∙ ap result_ok there in
    let none : ⊥ = cc in
    absurd none

pub returns-then-is_secret-clause-only : goal.returns-then-is_secret-clause-only
returns-then-is_secret-clause-only c = λ n small is.
    let there = c.from_hex.ensures ∙ ap (λ (text : List ℕ). decode_sized text 8) is ∙ decode-secret n in
    let read : Some c.in_ok-bytes.bytes ≡ Some (to_be_bytes w64 n) = sym c.in_ok-bytes.was ∙ c.ok.ensures.value ∙ ap result_ok there in
    let bytes : c.in_ok-bytes.bytes ≡ to_be_bytes w64 n = cc in
    ap Some (c.from_be_bytes-secret.ensures ∙ ap (from_be_bytes w64) bytes ∙ from_be_bytes-to_be_bytes_8 n small)

pub returns-else-is_secret-clause-only : goal.returns-else-is_secret-clause-only
returns-else-is_secret-clause-only c = λ n small is.
    let there = c.from_hex.ensures ∙ ap (λ (text : List ℕ). decode_sized text 8) is ∙ decode-secret n in
    let read : Some c.in_ok-bytes.bytes ≡ Some (to_be_bytes w64 n) = sym c.in_ok-bytes.was ∙ c.ok.ensures.value ∙ ap result_ok there in
    let bytes : c.in_ok-bytes.bytes ≡ to_be_bytes w64 n = cc in
    let secret : c.from_be_bytes-secret.result ≡ n = c.from_be_bytes-secret.ensures ∙ ap (from_be_bytes w64) bytes ∙ from_be_bytes-to_be_bytes_8 n small in
    let yes : IsTrue c.is_secret.result = c.is_secret.ensures.1 (is ∙ ap secret_text (sym secret)) in
    let none : ⊥ = cc in
    absurd none
