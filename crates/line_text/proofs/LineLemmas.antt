-- One line more.
use Rattle.std.proofs.Common.{◌≡◌, ℕ, ◌+◌, min, true, false, cond, List, [], ◌∷◌, ◌++◌, ap, sym, ◌∙◌, append_assoc}
use Rattle.line_text.specs.declared.logical.Line.{Line}
use Rattle.line_text.specs.Lines.{logical_from, ends_in_backslash, without_last, kept, next_number}

module _ (all list : List Line) (first n m : ℕ) (joined line : List ℕ) (more lines : List (List ℕ)) (left : all ≡ list ++ logical_from first n joined lines) (is : lines ≡ line ∷ more) (next : m ≡ min (n + 1) 4294967295) where
  pub line_joins : (j : List ℕ) → ends_in_backslash line ≡ true → j ≡ joined ++ without_last line → all ≡ list ++ logical_from first m j more
  unfolding logical_from
  line_joins j ends add =
      left ∙ ap (λ ls. list ++ logical_from first n joined ls) is
      ∙ ap (λ b. list ++ cond b (logical_from first (next_number n) (joined ++ without_last line) more) (kept first (joined ++ line) ++ logical_from (next_number n) (next_number n) [] more)) ends
      ∙ (λ i. list ++ logical_from first (sym next i) (sym add i) more)

  pub line_ends : (new : List Line) → ends_in_backslash line ≡ false → new ≡ list ++ kept first (joined ++ line) → all ≡ new ++ logical_from m m [] more
  unfolding logical_from
  line_ends new ends add =
      left ∙ ap (λ ls. list ++ logical_from first n joined ls) is
      ∙ ap (λ b. list ++ cond b (logical_from first (next_number n) (joined ++ without_last line) more) (kept first (joined ++ line) ++ logical_from (next_number n) (next_number n) [] more)) ends
      ∙ sym (append_assoc list (kept first (joined ++ line)) (logical_from (next_number n) (next_number n) [] more))
      ∙ (λ i. sym add i ++ logical_from (sym next i) (sym next i) [] more)

pub lines_end : (all list : List Line) (first n : ℕ) (joined : List ℕ) (lines : List (List ℕ)) (new : List Line) → all ≡ list ++ logical_from first n joined lines → lines ≡ [] → new ≡ list ++ kept first joined → new ≡ all
unfolding logical_from
lines_end all list first n joined lines new left is add = add ∙ sym (left ∙ ap (λ ls. list ++ logical_from first n joined ls) is)
