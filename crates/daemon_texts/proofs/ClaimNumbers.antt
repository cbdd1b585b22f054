-- A text is that of a claim's number where, with a secret behind it, it is that of a claim.
use Rattle.std.proofs.Common.{◌≡◌, ℕ, suc, ◌+◌, List, [], ◌++◌, ◌∷◌, codes, length, take, sym, ◌∙◌, ap, append_assoc, arith}
use Rattle.std.proofs.lemmas.List.{length-append}
use Rattle.std.proofs.Math.Seq.{take-append_seam}
use Rattle.claim_id.specs.declared.numbers.ClaimId.{ClaimId}
use Rattle.claim_id.specs.Texts.{claim_no_text, claim_text, secret_text}

same_front : (a b xs ys : List ℕ) → a ++ xs ≡ b ++ ys → length xs ≡ length ys → a ≡ b
same_front a b xs ys same sizes =
    let sums : length a + length xs ≡ length b + length ys = sym (length-append a xs) ∙ ap length same ∙ length-append b ys in
    let size : length a ≡ length b = omega arith in
    sym (take-append_seam a xs) ∙ ap (λ n. take n (a ++ xs)) size ∙ ap (take (length b)) same ∙ take-append_seam b ys

pub number_before_secret : (text : List ℕ) (claim : ClaimId) → length (secret_text claim.secret) ≡ 16 → text ++ codes "#0000000000000000" ≡ claim_text claim → text ≡ claim_no_text claim.no
unfolding claim_text
number_before_secret text claim size same =
    same_front text (claim_no_text claim.no) (codes "#0000000000000000") (35 ∷ secret_text claim.secret) (same ∙ append_assoc (claim_no_text claim.no) (35 ∷ []) (secret_text claim.secret)) (ap suc (sym size))
