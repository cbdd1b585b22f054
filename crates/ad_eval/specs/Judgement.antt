-- A match and the want of one, each with its proof.
use Rattle.std.specs.Prelude.{◌≡◌, ℕ, true, false, List, Option, MatchOption}
use Rattle.ad_tree.specs.Ad.{Attributes}
use Rattle.ad_eval.specs.Match.{matches, any_match}

-- a job and a slot that match at a moment
pub record Judgement : Type 0 where
  pub job : Attributes
  pub slot : Attributes
  pub at : ℕ
  pub fits : matches job slot at ≡ true

abbrev pub IsJudgementOf : Attributes → Attributes → ℕ → Judgement → Type 0
IsJudgementOf job slot now j = (j.job ≡ job) × (j.slot ≡ slot) × (j.at ≡ now)

-- the match of a job and a slot exactly where they match
abbrev pub JudgesPair : Attributes → Attributes → ℕ → Option Judgement → Type 0
JudgesPair job slot now o =
    MatchOption o (matches job slot now ≡ false) (IsJudgementOf job slot now)

-- jobs and slots of which no pair matches at a moment
pub record Mismatch : Type 0 where
  pub jobs : List Attributes
  pub slots : List Attributes
  pub at : ℕ
  pub unfit : any_match jobs slots at ≡ false

abbrev pub IsMismatchOf : List Attributes → List Attributes → ℕ → Mismatch → Type 0
IsMismatchOf jobs slots now m = (m.jobs ≡ jobs) × (m.slots ≡ slots) × (m.at ≡ now)
