-- A cell that is at home stays there, whatever a step does to the cells.
use Rattle.std.proofs.Common.{◌≡◌, ℕ, ◌<◌, true, false, List, ◌++◌, length, length-append, slice_set, ap, ◌∙◌, ⊎_elim, arith}
use Rattle.std.proofs.lemmas.List.{length-set, get_or-set_same, get_or-set_other, get_or_append_left}
use Rattle.std.proofs.lemmas.Bool.{cases_eq}
use Rattle.logbook.specs.Pages.{Cell, cell}
use Rattle.receipt_roll.specs.Steps.{IsHome}

-- a cell that is brought home is there
pub home_where_set : (cells : List Cell) (key value : ℕ) → key < length cells → IsHome (slice_set cells key (value, true)) key
home_where_set cells key value there = (
  omega (arith, length-set cells key (value, true), there),
  ap (λ (c : Cell). c.1) (get_or-set_same cells key (value, true) (0, false) there),
)

-- and no other leaves
pub home_after_set : (cells : List Cell) (key other value : ℕ) → IsHome cells other → IsHome (slice_set cells key (value, true)) other
home_after_set cells key other value home =
    let set = slice_set cells key (value, true) in (
      omega (arith, length-set cells key (value, true), home.0),
      ⊎_elim
          (λ (same : other ≡ key). let there : key < length cells = omega (arith, home.0, same) in
          ap (λ (k : ℕ). (cell set k).1) same ∙ (home_where_set cells key value there).1)
          (λ apart. ap (λ (c : Cell). c.1) (get_or-set_other cells key other (value, true) (0, false) apart) ∙ home.1)
          (cases_eq other key),
    )

-- nor where cells are added
pub home_after_append : (cells more : List Cell) (key : ℕ) → IsHome cells key → IsHome (cells ++ more) key
home_after_append cells more key home = (
  omega (arith, length-append cells more, home.0),
  ap (λ (c : Cell). c.1) (get_or_append_left cells more (0, false) key home.0) ∙ home.1,
)
