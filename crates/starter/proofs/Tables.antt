-- A table of children by their runs.
use Rattle.std.proofs.Common.{◌≡◌, ℕ, zero, suc, ◌+◌, ◌-◌, ◌<◌, ◌||◌, ◌&&◌, ◌==◌, nat_lt, not, if◌then◌else◌, Bool, true, false, true≢false, List, [], ◌∷◌, ◌++◌, Option, Some, None, IfSome, IsSomeAnd, cond, get_or, length, position, set, slice_get, swap_remove, take, refl, sym, ap, ◌∙◌, subst, arith}
use Rattle.std.specs.List.{list_any, position_or_len}
use Rattle.std.specs.Map.{keys_of, values_of}
use Rattle.std.proofs.lemmas.List.{get_or_default, length-map, map-append}
use Rattle.std.proofs.lemmas.List.Elements.{All-cons, All-head, All-push, All-tail}
use Rattle.std.proofs.lemmas.Option.{slice_get-get_or}
use Rattle.claim_id.specs.declared.numbers.RunNo.{RunNo}
use Rattle.indexmap.specs.IndexMap.{insert_entry, set_value_at}
use Rattle.indexmap.proofs.SetLemmas.{map-swap_remove}
use Rattle.pool_view.specs.Numbers.{same_run, same_slot}
use Rattle.starter.specs.declared.children.Child.{Child}
use Rattle.starter.specs.declared.children.RunKey.{RunKey}
use Rattle.starter.specs.ChildTables.{as_doomed, has_child, key_of, AreKeyed}
use Rattle.starter.proofs.Lists.{same_run-flip}

-- ---- keys

abbrev pub same_key : RunKey → RunKey → Bool
same_key a b = same_slot a.slot b.slot && ((a.boot == b.boot) && ((a.seq == b.seq) && (a.number == b.number)))

both : (p q r s : Bool) → p && (q && (r && s)) ≡ (p && (q && r)) && s
both true true r s = refl
both true false r s = refl
both false q r s = refl

pub key_tells : (run r : RunNo) → same_key (key_of run) (key_of r) ≡ same_run r run
key_tells run r = both (same_slot run.claim.slot r.claim.slot) (run.claim.boot == r.claim.boot) (run.claim.seq == r.claim.seq) (run.number == r.number) ∙ same_run-flip run r

-- ---- look-ups

-- a test of keys, and the same test of runs
module _ (t : RunKey → Bool) (u : RunNo → Bool) (tells : (r : RunNo) → t (key_of r) ≡ u r) where
  same_test : (e : RunKey × Child) → e.0 ≡ key_of e.1.run → t e.0 ≡ u e.1.run
  same_test e is = ap t is ∙ tells e.1.run

  same_place : (es : List (RunKey × Child)) → AreKeyed es → position_or_len t (keys_of es) ≡ position_or_len (λ (c : Child). u c.run) (values_of es)
  same_place [] keyed = refl
  same_place (e ∷ es) keyed =
      ap (λ (b : Bool). cond (not b) (1 + position_or_len t (keys_of es)) 0) (same_test e (All-head (λ (x : RunKey × Child). x.0 ≡ key_of x.1.run) e es keyed))
      ∙ ap (λ (n : ℕ). cond (not (u e.1.run)) (1 + n) 0) (same_place es (All-tail (λ (x : RunKey × Child). x.0 ≡ key_of x.1.run) e es keyed))

  pub places : (es : List (RunKey × Child)) → AreKeyed es → position t (keys_of es) ≡ position (λ (c : Child). u c.run) (values_of es)
  places es keyed = λ i. cond (nat_lt (same_place es keyed i) (long i)) (Some (same_place es keyed i)) None
    where
      long : length (keys_of es) ≡ length (values_of es)
      long = length-map es (λ (e : RunKey × Child). e.0) ∙ sym (length-map es (λ (e : RunKey × Child). e.1))

-- a child of a run that has none goes last
insert_entry-last : (same : RunKey → RunKey → Bool) (k : RunKey) (v : Child) (u : RunNo → Bool) → ((r : RunNo) → same k (key_of r) ≡ u r) → (es : List (RunKey × Child)) → AreKeyed es → list_any (λ (c : Child). u c.run) (values_of es) ≡ false
    → insert_entry same es k v ≡ es ++ (k, v) ∷ []
insert_entry-last same k v u tells [] keyed none = refl
insert_entry-last same k v u tells (e ∷ es) keyed none = by (u e.1.run) refl (insert_entry-last same k v u tells es (All-tail (λ (x : RunKey × Child). x.0 ≡ key_of x.1.run) e es keyed))
  where
    rest : (b : Bool) → u e.1.run ≡ b → (b || list_any (λ (c : Child). u c.run) (values_of es)) ≡ false
    rest b is = sym (ap (λ (x : Bool). x || list_any (λ (c : Child). u c.run) (values_of es)) is) ∙ none

    by : (b : Bool) → u e.1.run ≡ b → (list_any (λ (c : Child). u c.run) (values_of es) ≡ false → insert_entry same es k v ≡ es ++ (k, v) ∷ []) → insert_entry same (e ∷ es) k v ≡ e ∷ es ++ (k, v) ∷ []
    by true is last = absurd (true≢false (rest true is))
    by false is last =
        ap (λ (b : Bool). if b then (e.0, v) ∷ es else e ∷ insert_entry same es k v) (same_test (same k) u tells e (All-head (λ (x : RunKey × Child). x.0 ≡ key_of x.1.run) e es keyed) ∙ is)
        ∙ ap (λ (l : List (RunKey × Child)). e ∷ l) (last (rest false is))

pub pushed : (es new : List (RunKey × Child)) (now : List Child) (k : RunKey) (v : Child) → values_of es ≡ now → k ≡ key_of v.run → AreKeyed es → has_child v.run now ≡ false → new ≡ insert_entry same_key es k v → new ≡ es ++ (k, v) ∷ []
pushed es new now k v same own keyed none is =
    is ∙ insert_entry-last same_key k v (λ (r : RunNo). same_run r v.run) (λ (r : RunNo). ap (λ (key : RunKey). same_key key (key_of r)) own ∙ key_tells v.run r) es keyed (ap (has_child v.run) same ∙ none)

-- ---- entries that are written

some_same : (c d : Child) → Some c ≡ Some d → c ≡ d
some_same c d h = cc

values_set : (es : List (RunKey × Child)) (i : ℕ) (w : Child) → values_of (set_value_at es i w) ≡ set (values_of es) i w
values_set [] i w = refl
values_set (e ∷ es) zero w = refl
values_set (e ∷ es) (suc i) w = ap (λ (l : List Child). e.1 ∷ l) (values_set es i w)

pub values_doomed : (es : List (RunKey × Child)) (now : List Child) (i : ℕ) (c : Child) → values_of es ≡ now → slice_get (values_of es) i ≡ Some c → IsSomeAnd (slice_get now i) (λ child. values_of (set_value_at es i (as_doomed c)) ≡ set now i (as_doomed child))
values_doomed es now i c same at =
    subst (λ (l : List Child). IsSomeAnd (slice_get l i) (λ child. values_of (set_value_at es i (as_doomed c)) ≡ set l i (as_doomed child))) same
    (subst (λ (o : Option Child). IsSomeAnd o (λ child. values_of (set_value_at es i (as_doomed c)) ≡ set (values_of es) i (as_doomed child))) (sym at) (values_set es i (as_doomed c)))

pub keyed_doomed : (es : List (RunKey × Child)) (i : ℕ) (c : Child) → AreKeyed es → slice_get (values_of es) i ≡ Some c → AreKeyed (set_value_at es i (as_doomed c))
keyed_doomed [] i c keyed at = keyed
keyed_doomed (e ∷ es) zero c keyed at =
    All-cons (λ (x : RunKey × Child). x.0 ≡ key_of x.1.run) (e.0, as_doomed c) es
    (All-head (λ (x : RunKey × Child). x.0 ≡ key_of x.1.run) e es keyed ∙ ap (λ (d : Child). key_of d.run) (some_same e.1 c at))
    (All-tail (λ (x : RunKey × Child). x.0 ≡ key_of x.1.run) e es keyed)
keyed_doomed (e ∷ es) (suc i) c keyed at =
    All-cons (λ (x : RunKey × Child). x.0 ≡ key_of x.1.run) e (set_value_at es i (as_doomed c))
    (All-head (λ (x : RunKey × Child). x.0 ≡ key_of x.1.run) e es keyed)
    (keyed_doomed es i c (All-tail (λ (x : RunKey × Child). x.0 ≡ key_of x.1.run) e es keyed) at)

pub keyed_more : (es new : List (RunKey × Child)) (k : RunKey) (c : Child) → new ≡ es ++ (k, c) ∷ [] → k ≡ key_of c.run → AreKeyed es → AreKeyed new
keyed_more es new k c is own keyed = subst AreKeyed (sym is) (All-push (λ (x : RunKey × Child). x.0 ≡ key_of x.1.run) es (k, c) keyed own)

pub values_more : (es new : List (RunKey × Child)) (k : RunKey) (c : Child) → new ≡ es ++ (k, c) ∷ [] → values_of new ≡ values_of es ++ c ∷ []
values_more es new k c is = ap values_of is ∙ map-append (λ (x : RunKey × Child). x.1) es ((k, c) ∷ [])

-- what takes the place doesn't hang on the item that stands for none
pub any_swap_remove : (xs : List Child) (i : ℕ) (c d : Child) → 0 < length xs → swap_remove xs i c ≡ swap_remove xs i d
any_swap_remove xs i c d some =
    let last : length xs - 1 < length xs = omega arith in
    ap (λ (x : Child). take (length xs - 1) (set xs i x)) (get_or_default xs (length xs - 1) c d last)

no_entry : (p : RunKey × Child) (o : Option (RunKey × Child)) → o ≡ None → o ≡ Some p → ⊥
no_entry p o a b = cc

pub values_removed : (es new : List (RunKey × Child)) (i : ℕ) (r : Option (RunKey × Child)) (d : Child) → i < length (values_of es) → r ≡ slice_get es i → IfSome r (λ p. new ≡ swap_remove es i p) → values_of new ≡ swap_remove (values_of es) i d
values_removed es new i None d within at is =
    let inside : i < length es = rw (sym (length-map es (λ (e : RunKey × Child). e.1))) within in
    absurd (no_entry (get_or es i (key_of d.run, d)) (slice_get es i) (sym at) (slice_get-get_or es i (key_of d.run, d) inside))
values_removed es new i (Some p) d within at is =
    let long : length (values_of es) ≡ length es = length-map es (λ (e : RunKey × Child). e.1) in
    let some : 0 < length es = omega (arith, long, within) in
    let some_values : 0 < length (values_of es) = omega (arith, within) in
    ap values_of is ∙ (map-swap_remove (λ (e : RunKey × Child). e.1) es i p some ∙ any_swap_remove (values_of es) i p.1 d some_values)
