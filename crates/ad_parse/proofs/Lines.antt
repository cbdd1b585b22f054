-- Line by line: what an iterator gives next, and what is left to read.
use Rattle.std.proofs.Common.{◌≡◌, ℕ, ◌+◌, min, List, [], ◌∷◌, Some, None, Result, Ok, Err, refl, sym, ap, ◌∙◌}
use Rattle.std.specs.Borrow.{Bor}
use Rattle.std.specs.declared.str.Split.{Split}
use Rattle.std.specs.Str.Pattern.{FindsChar}
use Rattle.std.specs.Str.Iter.{split_steps}
use Rattle.std.proofs.lemmas.Iterator.{YieldsList}
use Rattle.ad_tree.specs.Ad.{Attributes}
use Rattle.ad_parse.specs.declared.error.AdError.{AdError}
use Rattle.ad_parse.specs.declared.error.AdError.TheVariants as fault
use Rattle.ad_parse.specs.AdText.{with_line, with_lines, unless_refused, next_number, FailsAd}

-- ---- the lines that `split` still gives

abbrev pub AreLeft : Split ℕ → List (List ℕ) → Type 0
AreLeft s ys = YieldsList (split_steps FindsChar (λ a b. b ≡ a)) (λ x. x.now) s ys

pub next_line : (s t : Split ℕ) (x : Bor (List ℕ)) (ys : List (List ℕ)) → AreLeft s ys → split_steps FindsChar (λ a b. b ≡ a) s (Some x) t
    → (more : List (List ℕ)) × (ys ≡ x.now ∷ more) × AreLeft t more
next_line s t x [] gives step = absurd (gives.runs x t step)
next_line s t x (y ∷ ys) gives step = let h = gives.runs.1 x t step in (ys, ap (λ z. z ∷ ys) (sym h.0), record { runs = h.1 })

pub no_line : (s t : Split ℕ) (ys : List (List ℕ)) → AreLeft s ys → split_steps FindsChar (λ a b. b ≡ a) s None t → ys ≡ []
no_line s t [] gives step = refl
no_line s t (y ∷ ys) gives step = absurd (gives.runs.0 t step)

-- ---- one line

-- what the lines from a number on make of an ad
module _ (all : Result Attributes AdError) (n : ℕ) (ad : Attributes) where
  pub lines_more : (line : List ℕ) (more lines : List (List ℕ)) (m : ℕ) (new : Attributes) → all ≡ with_lines n ad lines → lines ≡ line ∷ more
      → with_line n ad line ≡ Ok new → m ≡ min (n + 1) 4294967295 → all ≡ with_lines m new more
  unfolding with_lines
  lines_more line more lines m new left is read next =
      left ∙ ap (with_lines n ad) is ∙ ap (λ r. unless_refused r (λ x. with_lines (next_number n) x more)) read ∙ ap (λ k. with_lines k new more) (sym next)

  pub lines_end : (lines : List (List ℕ)) → all ≡ with_lines n ad lines → lines ≡ [] → all ≡ Ok ad
  unfolding with_lines
  lines_end lines left is = left ∙ ap (with_lines n ad) is

  lines_refused : (line : List ℕ) (more lines : List (List ℕ)) (f : AdError) → all ≡ with_lines n ad lines → lines ≡ line ∷ more
      → with_line n ad line ≡ Err f → all ≡ Err f
  unfolding with_lines
  lines_refused line more lines f left is read =
      left ∙ ap (with_lines n ad) is ∙ ap (λ r. unless_refused r (λ x. with_lines (next_number n) x more)) read

  pub lines_fail : (line : List ℕ) (more lines : List (List ℕ)) (f : AdError) → all ≡ with_lines n ad lines → lines ≡ line ∷ more
      → FailsAd f (with_line n ad line) → FailsAd f all
  lines_fail line more lines fault.Memory left is fails = tt
  lines_fail line more lines (fault.BadLine k) left is fails = lines_refused line more lines (fault.BadLine k) left is fails
  lines_fail line more lines (fault.Expr k e) left is fails = lines_refused line more lines (fault.Expr k e) left is fails
  lines_fail line more lines (fault.Full k) left is fails = lines_refused line more lines (fault.Full k) left is fails
