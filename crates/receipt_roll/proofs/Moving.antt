-- Each step keeps the rule of the book, and tells what it is to tell.
use Rattle.std.proofs.Common.{◌≡◌, ℕ, ◌==◌, List, [], ◌∷◌, ◌++◌, length, slice_set, true, false, refl, ap, sym, ◌∙◌, subst, arith, append_assoc, inl, None}
use Rattle.std.proofs.lemmas.List.{append-nil, length-set, get_or_past}
use mathlib.Core.List.{IsPrefix}
use prog.Atomic.{either}
use Rattle.logbook.specs.Pages.{Cell, cell, keeps, gives, adds, Nib, no_nib, may_write, step, Moves}
use Rattle.receipt_roll.specs.declared.growth.Growth.{Growth}
use Rattle.receipt_roll.specs.declared.growth.Growth.TheVariants.{NewRight, NewItem}
use Rattle.receipt_roll.specs.Growth.{newest_right}
use Rattle.receipt_roll.specs.Steps.{AreUsedUp, IsBookOfRolls, MakesRight, SeesNoMore, AddsItem}
use Rattle.receipt_roll.proofs.Cells.{home_where_set, home_after_set, home_after_append}
use Rattle.receipt_roll.proofs.Logs.{newest_right-append, used_up-append, used_up_after_set, used_up_after_append, nothing_added, no_more, one_more}

-- the value of the word at which the steps are taken, which each step writes anew
abbrev word_value : List Cell → ℕ
word_value cells = either ((cell cells 0).0 == 0) 0 (cell cells 0).0

module _ {T : Type 0} where
  -- clients see nothing of the log, and their updates do nothing
  abbrev pub shown : List (Growth T) → List (Growth T)
  shown log = []

  abbrev pub moved : List (Growth T) → List (Growth T) → ℕ → Type 0
  moved before after answer = Unit {0}

  -- what comes after a beginning that was seen
  beginning_with_rest : (log seen whole : List (Growth T)) → (p : IsPrefix log seen) → (q : IsPrefix seen whole) → log ++ (p.0 ++ q.0) ≡ whole
  beginning_with_rest log seen whole p q = sym (append_assoc log p.0 q.0) ∙ (ap (λ (l : List (Growth T)). l ++ q.0) p.1 ∙ q.1)

  pub make_right_moves : (seen : List (Growth T)) (ask : Growth T)
      → Moves IsBookOfRolls shown moved 0 (seen, (no_nib, None)) (λ n. either (n == 0) 0 n) (MakesRight (step 0 0 0 ask) (seen, (no_nib, None)))
  make_right_moves seen ask cells log rule prefix away =
      let right = length cells in
      let more : List (Growth T) = NewRight right ∷ [] in
      let set : List Cell = slice_set cells 0 (word_value cells, true) in
      let newest : newest_right 0 (log ++ more) ≡ right = newest_right-append 0 right log in
      let up : AreUsedUp cells (log ++ more) = used_up-append cells log more rule.used_up tt in
      let none = nothing_added cells right (log ++ more) (ap (λ (c : Cell). c.1) (get_or_past cells right (0, false) (omega arith))) up in (
        rule.word.0,
        rule.word.1,
        (
          adds,
          more,
          None,
          tt,
          record {
            word = home_after_append set ((0, false) ∷ []) 0 (home_after_set cells 0 0 (word_value cells) rule.word);
            used_up = used_up_after_append set ((0, false) ∷ []) (log ++ more) (used_up_after_set cells 0 (word_value cells) (log ++ more) up);
          },
          inl (refl, refl),
          rw newest (refl, none.0, none.1),
        ),
      )

  pub look_moves : (seen : List (Growth T)) (pen : Nib) (ask : Growth T) → pen.right ≡ may_write
      → Moves IsBookOfRolls shown moved 0 (seen, (pen, None)) (λ n. either (n == 0) 0 n) (SeesNoMore (step 0 0 0 ask) (seen, (pen, None)))
  look_moves seen pen ask may cells log rule prefix away =
      let same : log ++ [] ≡ log = append-nil log in
      let up : AreUsedUp cells (log ++ []) = subst (λ (l : List (Growth T)). AreUsedUp cells l) (sym same) rule.used_up in (
        rule.word.0,
        rule.word.1,
        (
          keeps,
          [],
          None,
          tt,
          record {
            word = home_after_set cells 0 0 (word_value cells) rule.word;
            used_up = used_up_after_set cells 0 (word_value cells) (log ++ []) up;
          },
          inl (refl, refl),
          (
            refl,
            λ first was p is.
                let parts = beginning_with_rest was seen log p prefix in
                rw (same, ← parts) (no_more cells first pen.key was (p.0 ++ prefix.0) is (away may).1
                (subst (λ (l : List (Growth T)). AreUsedUp cells l) (sym parts) rule.used_up)),
          ),
        ),
      )

  pub add_item_moves : (seen : List (Growth T)) (pen : Nib) (item : T) (right next : ℕ) → pen.right ≡ may_write
      → Moves IsBookOfRolls shown moved 0 (seen, (pen, None)) (λ n. either (n == 0) 0 n) (AddsItem (step 0 0 0 (NewItem item right next)) (seen, (pen, None)))
  add_item_moves seen pen item right next may cells log rule prefix away =
      let more : List (Growth T) = NewItem item pen.key (newest_right 0 seen) ∷ [] in
      let set : List Cell = slice_set cells 0 (word_value cells, true) in
      let brought : List Cell = slice_set set pen.key (pen.value, true) in
      let used = home_where_set set pen.key pen.value (omega (arith, length-set cells 0 (word_value cells, true), (away may).0)) in
      let up : AreUsedUp brought log = used_up_after_set set pen.key pen.value log (used_up_after_set cells 0 (word_value cells) log rule.used_up) in (
        rule.word.0,
        rule.word.1,
        (
          gives,
          more,
          None,
          may,
          record {
            word = home_after_set set pen.key 0 pen.value (home_after_set cells 0 0 (word_value cells) rule.word);
            used_up = used_up-append brought log more up (used, tt);
          },
          inl (refl, refl),
          λ first was p is.
              let parts = beginning_with_rest was seen log p prefix in
              rw (← parts) (one_more cells first pen.key (newest_right 0 seen) item was (p.0 ++ prefix.0) is (away may).1
              (subst (λ (l : List (Growth T)). AreUsedUp cells l) (sym parts) rule.used_up)),
        ),
      )
