-- The texts of runs, and of numbers where there may be a sign or zeros in front.
use Rattle.std.specs.Prelude.{◌≡◌, ℕ, List, ◌++◌, ◌∷◌, codes, decimal}
use Rattle.std.specs.Str.Parse.{digits_value, without_leading_plus}
use Rattle.claim_id.specs.declared.numbers.RunNo.{RunNo}
use Rattle.claim_id.specs.Texts.{claim_no_text}

-- `<M:S>#BOOT#SEQ/NUMBER`
unfoldable pub run_text : RunNo → List ℕ
run_text run = claim_no_text run.claim ++ (codes "/" ++ decimal run.number)

-- what a number without a sign says, where there may be a plus or zeros in front
abbrev pub number_of : List ℕ → ℕ
number_of text = digits_value 10 (without_leading_plus text)

-- a text says a run: its claim, the mark `/` (47), and its number
pub record RunSays (text : List ℕ) (run : RunNo) : Type 0 where
  pub number : List ℕ
  pub parts : text ≡ claim_no_text run.claim ++ 47 ∷ number
  pub value : number_of number ≡ run.number
