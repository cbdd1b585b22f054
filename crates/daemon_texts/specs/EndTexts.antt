-- The texts of ends of runs and of denials.
use Rattle.std.specs.Prelude.{◌≡◌, ◌⊎◌, ℕ, ℤ, List, ◌++◌, ◌∷◌, codes, decimal}
use Rattle.std.specs.Fmt.{signed_decimal}
use Rattle.std.specs.Str.Parse.{signed_digits_value}
use Rattle.pool_mail.specs.declared.end.End.{End}
use Rattle.pool_mail.specs.declared.end.End.TheVariants as end
use Rattle.pool_mail.specs.declared.end.How.{How}
use Rattle.pool_mail.specs.declared.end.How.TheVariants as how
use Rattle.pool_mail.specs.declared.why.Why.{Why}
use Rattle.pool_mail.specs.declared.why.Why.TheVariants as why
use Rattle.daemon_texts.specs.NumberTexts.{number_of, run_text, RunSays}

-- ---- how a run ended
unfoldable pub how_text : How → List ℕ
how_text (how.Exited status) = codes "Exited," ++ signed_decimal status
how_text (how.Signalled number) = codes "Signalled," ++ signed_decimal number
how_text how.NotStarted = codes "NotStarted"
how_text how.Evicted = codes "Evicted"
how_text how.Stopped = codes "Stopped"

-- the same as it is read, where a number may have a plus or zeros in front: what stands before the
-- comma, and what after it
abbrev pub IsHow : List ℕ → List ℕ → How → Type 0
IsHow kind number (how.Exited status) =
    (kind ≡ codes "Exited") × (signed_digits_value 10 number ≡ status)
IsHow kind number (how.Signalled signal) =
    (kind ≡ codes "Signalled") × (signed_digits_value 10 number ≡ signal)
IsHow kind number how.NotStarted = ⊥
IsHow kind number how.Evicted = ⊥
IsHow kind number how.Stopped = ⊥

-- two parts, with a comma (44) between them
pub record TwoParts (text : List ℕ) (P : List ℕ → List ℕ → Type 0) : Type 0 where
  pub first : List ℕ
  pub second : List ℕ
  pub text_is : text ≡ first ++ 44 ∷ second
  pub parts : P first second

-- a text says how a run ended
abbrev pub HowSays : List ℕ → How → Type 0
HowSays text how = (text ≡ how_text how) ⊎ TwoParts text (λ kind number. IsHow kind number how)

-- the end of a program, as how its run ended
abbrev pub how_of : End → How
how_of (end.Exited status) = how.Exited status
how_of (end.Signalled number) = how.Signalled number
how_of end.NotStarted = how.NotStarted

-- ---- why something is denied
abbrev pub ranks_text : ℤ → ℤ → List ℕ
ranks_text old new =
    codes "RankTooLow," ++ (signed_decimal old ++ (codes "," ++ signed_decimal new))

unfoldable pub why_text : Why → List ℕ
why_text why.NoSuchClaim = codes "NoSuchClaim"
why_text why.NotMatched = codes "NotMatched"
why_text (why.RankTooLow old new) = ranks_text old new
why_text (why.Spent number last) =
    codes "Spent," ++ (decimal number ++ (codes "," ++ decimal last))
why_text (why.Occupied run) = codes "Occupied," ++ run_text run
why_text (why.LeasePast until reading) =
    codes "LeasePast," ++ (decimal until ++ (codes "," ++ decimal reading))

-- the same as it is read: what stands before the first comma, and the fields after it
abbrev pub IsWhy : List ℕ → List ℕ → Why → Type 0
IsWhy kind fields why.NoSuchClaim = ⊥
IsWhy kind fields why.NotMatched = ⊥
IsWhy kind fields (why.RankTooLow old new) = (kind ≡ codes "RankTooLow")
    × TwoParts fields (λ a b. (signed_digits_value 10 a ≡ old) × (signed_digits_value 10 b ≡ new))
IsWhy kind fields (why.Spent number last) = (kind ≡ codes "Spent")
    × TwoParts fields (λ a b. (number_of a ≡ number) × (number_of b ≡ last))
IsWhy kind fields (why.Occupied run) = (kind ≡ codes "Occupied") × RunSays fields run
IsWhy kind fields (why.LeasePast until reading) = (kind ≡ codes "LeasePast")
    × TwoParts fields (λ a b. (number_of a ≡ until) × (number_of b ≡ reading))

-- a text says why something is denied
abbrev pub WhySays : List ℕ → Why → Type 0
WhySays text why = (text ≡ why_text why) ⊎ TwoParts text (λ kind fields. IsWhy kind fields why)
