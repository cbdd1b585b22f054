-- Longer logs: what they say of a roll, and that a right whose cell is away was not used.
use Rattle.std.proofs.Common.{◌≡◌, ℕ, ◌==◌, Bool, true, false, List, [], ◌∷◌, ◌++◌, slice_set, refl, ap, sym, ◌∙◌, subst, append_assoc, arith}
use Rattle.std.proofs.lemmas.List.{append-nil}
use Rattle.std.proofs.lemmas.Bool.Decides.{nat_tests}
use mathlib.Core.List.{IsPrefix}
use Rattle.logbook.specs.Pages.{Cell, cell}
use Rattle.receipt_roll.specs.declared.growth.Growth.{Growth}
use Rattle.receipt_roll.specs.declared.growth.Growth.TheVariants.{NewRight, NewItem}
use Rattle.receipt_roll.specs.Growth.{items_since, last_right, newest_right}
use Rattle.receipt_roll.specs.Steps.{AreUsedUp, GrowsBy}
use Rattle.receipt_roll.proofs.Cells.{home_after_set, home_after_append}

module _ {T : Type 0} where
  items_case : (right : ℕ) (item : T) (used next : ℕ) (log more : List (Growth T))
      → items_since next (log ++ more) ≡ items_since next log ++ items_since (last_right next log) more
      → items_since right (log ++ more) ≡ items_since right log ++ items_since (last_right right log) more
      → (b : Bool) → (used == right) ≡ b
      → items_since right ((NewItem item used next ∷ log) ++ more)
      ≡ items_since right (NewItem item used next ∷ log) ++ items_since (last_right right (NewItem item used next ∷ log)) more
  items_case right item used next log more follows passes true is = rw is (ap (λ (xs : List T). item ∷ xs) follows)
  items_case right item used next log more follows passes false is = rw is passes

  pub items_since-append : (right : ℕ) (log more : List (Growth T))
      → items_since right (log ++ more) ≡ items_since right log ++ items_since (last_right right log) more
  items_since-append right [] more = refl
  items_since-append right (NewRight made ∷ log) more = items_since-append right log more
  items_since-append right (NewItem item used next ∷ log) more =
      items_case right item used next log more (items_since-append next log more) (items_since-append right log more) (used == right) refl

  right_case : (right : ℕ) (item : T) (used next : ℕ) (log more : List (Growth T))
      → last_right next (log ++ more) ≡ last_right (last_right next log) more
      → last_right right (log ++ more) ≡ last_right (last_right right log) more
      → (b : Bool) → (used == right) ≡ b
      → last_right right ((NewItem item used next ∷ log) ++ more) ≡ last_right (last_right right (NewItem item used next ∷ log)) more
  right_case right item used next log more follows passes true is = rw is follows
  right_case right item used next log more follows passes false is = rw is passes

  pub last_right-append : (right : ℕ) (log more : List (Growth T))
      → last_right right (log ++ more) ≡ last_right (last_right right log) more
  last_right-append right [] more = refl
  last_right-append right (NewRight made ∷ log) more = last_right-append right log more
  last_right-append right (NewItem item used next ∷ log) more =
      right_case right item used next log more (last_right-append next log more) (last_right-append right log more) (used == right) refl

  pub newest_right-append : (right made : ℕ) (log : List (Growth T)) → newest_right right (log ++ NewRight made ∷ []) ≡ made
  newest_right-append right made [] = refl
  newest_right-append right made (NewRight key ∷ log) = newest_right-append key made log
  newest_right-append right made (NewItem item used next ∷ log) = newest_right-append right made log

  pub used_up-append : (cells : List Cell) (log more : List (Growth T)) → AreUsedUp cells log → AreUsedUp cells more → AreUsedUp cells (log ++ more)
  used_up-append cells [] more up further = further
  used_up-append cells (NewRight right ∷ log) more up further = used_up-append cells log more up further
  used_up-append cells (NewItem item right next ∷ log) more up further = (up.0, used_up-append cells log more up.1 further)

  used_up_rest : (cells : List Cell) (log more : List (Growth T)) → AreUsedUp cells (log ++ more) → AreUsedUp cells more
  used_up_rest cells [] more up = up
  used_up_rest cells (NewRight right ∷ log) more up = used_up_rest cells log more up
  used_up_rest cells (NewItem item right next ∷ log) more up = used_up_rest cells log more up.1

  -- a cell that is brought home leaves all as they are, and so do cells that are added
  pub used_up_after_set : (cells : List Cell) (key value : ℕ) (log : List (Growth T)) → AreUsedUp cells log
      → AreUsedUp (slice_set cells key (value, true)) log
  used_up_after_set cells key value [] up = tt
  used_up_after_set cells key value (NewRight right ∷ log) up = used_up_after_set cells key value log up
  used_up_after_set cells key value (NewItem item right next ∷ log) up =
      (home_after_set cells key right value up.0, used_up_after_set cells key value log up.1)

  pub used_up_after_append : (cells more : List Cell) (log : List (Growth T)) → AreUsedUp cells log → AreUsedUp (cells ++ more) log
  used_up_after_append cells more [] up = tt
  used_up_after_append cells more (NewRight right ∷ log) up = used_up_after_append cells more log up
  used_up_after_append cells more (NewItem item right next ∷ log) up =
      (home_after_append cells more right up.0, used_up_after_append cells more log up.1)

  nothing_added_case : (cells : List Cell) (right : ℕ) (item : T) (used next : ℕ) (log : List (Growth T))
      → (cell cells right).1 ≡ false → (cell cells used).1 ≡ true
      → (items_since right log ≡ []) × (last_right right log ≡ right) → (b : Bool) → (used == right) ≡ b
      → (items_since right (NewItem item used next ∷ log) ≡ []) × (last_right right (NewItem item used next ∷ log) ≡ right)
  nothing_added_case cells right item used next log away home rest true is =
      let same : used ≡ right = grind (arith, nat_tests) in
      let here : (cell cells right).1 ≡ true = subst (λ (key : ℕ). (cell cells key).1 ≡ true) same home in
      absurd (cc (here, away))
  nothing_added_case cells right item used next log away home rest false is = rw is rest

  -- nothing was added with a right whose cell is away
  pub nothing_added : (cells : List Cell) (right : ℕ) (log : List (Growth T)) → (cell cells right).1 ≡ false → AreUsedUp cells log
      → (items_since right log ≡ []) × (last_right right log ≡ right)
  nothing_added cells right [] away up = (refl, refl)
  nothing_added cells right (NewRight made ∷ log) away up = nothing_added cells right log away up
  nothing_added cells right (NewItem item used next ∷ log) away up =
      nothing_added_case cells right item used next log away up.0.1 (nothing_added cells right log away up.1) (used == right) refl

  -- so a roll whose last right's cell is away has not grown
  pub no_more : (cells : List Cell) (first right : ℕ) (log more : List (Growth T)) → last_right first log ≡ right
      → (cell cells right).1 ≡ false → AreUsedUp cells (log ++ more) → GrowsBy first log (log ++ more) [] right
  no_more cells first right log more is away up =
      let none = nothing_added cells (last_right first log) more (subst (λ (key : ℕ). (cell cells key).1 ≡ false) (sym is) away) (used_up_rest cells log more up) in
      (items_since-append first log more ∙ ap (λ (xs : List T). items_since first log ++ xs) none.0, last_right-append first log more ∙ (none.1 ∙ is))

  -- and it has one item more, once that right adds one
  pub one_more : (cells : List Cell) (first right next : ℕ) (item : T) (log more : List (Growth T)) → last_right first log ≡ right
      → (cell cells right).1 ≡ false → AreUsedUp cells (log ++ more)
      → GrowsBy first log ((log ++ more) ++ NewItem item right next ∷ []) (item ∷ []) next
  one_more cells first right next item log more is away up =
      let none = no_more cells first right log more is away up in
      let same : (right == right) ≡ true = grind (arith, nat_tests) in
      let items : items_since first (log ++ more) ≡ items_since first log = none.0 ∙ append-nil (items_since first log) in (
        items_since-append first (log ++ more) (NewItem item right next ∷ []) ∙ rw (none.1, same, items) refl,
        last_right-append first (log ++ more) (NewItem item right next ∷ []) ∙ rw (none.1, same) refl,
      )

  -- a longer log has a roll's items, and perhaps more
  pub items_longer : (right : ℕ) (log longer : List (Growth T)) → IsPrefix log longer → IsPrefix (items_since right log) (items_since right longer)
  items_longer right log longer prefix = (
    items_since (last_right right log) prefix.0,
    sym (items_since-append right log prefix.0) ∙ ap (λ (l : List (Growth T)). items_since right l) prefix.1,
  )

  pub prefix_trans : (xs ys zs : List (Growth T)) → IsPrefix xs ys → IsPrefix ys zs → IsPrefix xs zs
  prefix_trans xs ys zs p q = (p.0 ++ q.0, sym (append_assoc xs p.0 q.0) ∙ (ap (λ (w : List (Growth T)). w ++ q.0) p.1 ∙ q.1))
