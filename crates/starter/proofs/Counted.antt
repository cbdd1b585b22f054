-- What the counts of a launcher say of one run, and of all.
use Rattle.std.proofs.Common.{◌≡◌, ℕ, zero, suc, ◌+◌, ◌<◌, ◌≤◌, List, [], ◌∷◌, get_or, length, map, Bool, true, false, ◌&&◌, ◌||◌, cond, Some, slice_get, refl, sym, ◌∙◌, ap, arith}
use Rattle.std.specs.List.{filter}
use Rattle.std.proofs.lemmas.List.Sums.{sum_by-cons, get_or-le-sum_by, sum_by-le-sum_by}
use Rattle.std.proofs.lemmas.Option.{slice_get_within, get_or_from_slice_get}
use Rattle.claim_id.specs.declared.numbers.RunNo.{RunNo}
use Rattle.pool_mail.specs.declared.end.End.{End}
use Rattle.pool_mail.specs.declared.end.End.TheVariants.{Exited, Signalled, NotStarted}
use Rattle.pool_mail.specs.declared.end.Ending.{Ending}
use Rattle.pool_outer.specs.declared.spawner.Launch.{Launch}
use Rattle.pool_view.specs.Numbers.{same_run}
use Rattle.pool_view.proofs.Sameness.{same_run-same}
use Rattle.starter.specs.declared.children.Child.{Child}
use Rattle.starter.specs.declared.given.Fate.{Fate}
use Rattle.starter.specs.declared.given.Fate.TheVariants as fate
use Rattle.starter.specs.declared.given.Given.{Given}
use Rattle.starter.specs.ChildTables.{has_child}
use Rattle.starter.specs.Launchers.{count_children, count_endings, count_given, every_end, is_given, is_not_started, is_run, is_seen_end, is_started, is_unstarted, one_if, times_given, what_was_started, whats_where, which_started, IsLauncher}
use Rattle.starter.specs.Spawners.{SpawnerValue}
use Rattle.starter.proofs.Keeping.{none_given}

pub whats_are : (given : List Given) → what_was_started given ≡ whats_where (which_started given) given
whats_are [] = refl
whats_are (g ∷ gs) = by (is_started g.fate) (whats_are gs)
  where
    by : (b : Bool) → what_was_started gs ≡ whats_where (which_started gs) gs → map (λ (x : Given). x.what) (cond b (g ∷ filter (λ (x : Given). is_started x.fate) gs) (filter (λ (x : Given). is_started x.fate) gs)) ≡ whats_where (b ∷ which_started gs) (g ∷ gs)
    by true rest = ap (λ (ws : List Launch). g.what ∷ ws) rest
    by false rest = rest

-- ---- of one run

-- those that were started and those that weren't are at most all
apart : (run : RunNo) (given : List Given) → count_given is_started (is_run run) given + count_given is_unstarted (is_run run) given ≤ times_given run given
apart run [] = omega arith
apart run (g ∷ gs) =
    let old = apart run gs in
    let a = sum_by-cons (λ (x : Given). one_if (is_started x.fate && same_run x.run run)) g gs in
    let b = sum_by-cons (λ (x : Given). one_if (is_unstarted x.fate && same_run x.run run)) g gs in
    let c = sum_by-cons (λ (x : Given). one_if (same_run x.run run)) g gs in
    let own : one_if (is_started g.fate && same_run g.run run) + one_if (is_unstarted g.fate && same_run g.run run) ≤ one_if (same_run g.run run) = by g.fate (same_run g.run run) in
    omega (arith, old, a, b, c, own)
  where
    by : (f : Fate) (s : Bool) → one_if (is_started f && s) + one_if (is_unstarted f && s) ≤ one_if s
    by fate.Started true = omega arith
    by fate.Started false = omega arith
    by fate.Refused true = omega arith
    by fate.Refused false = omega arith
    by fate.Declined true = omega arith
    by fate.Declined false = omega arith
    by fate.Lost true = omega arith
    by fate.Lost false = omega arith

both_ends : (run : RunNo) (endings : List Ending) → count_endings every_end (is_run run) endings ≡ count_endings is_seen_end (is_run run) endings + count_endings is_not_started (is_run run) endings
both_ends run [] = refl
both_ends run (e ∷ es) =
    let old = both_ends run es in
    let a = sum_by-cons (λ (x : Ending). one_if (is_seen_end x.end && same_run x.run run)) e es in
    let b = sum_by-cons (λ (x : Ending). one_if (is_not_started x.end && same_run x.run run)) e es in
    let c = sum_by-cons (λ (x : Ending). one_if (same_run x.run run)) e es in
    let own : one_if (same_run e.run run) ≡ one_if (is_seen_end e.end && same_run e.run run) + one_if (is_not_started e.end && same_run e.run run) = by e.end (same_run e.run run) in
    omega (arith, old, a, b, c, own)
  where
    by : (end : End) (s : Bool) → one_if s ≡ one_if (is_seen_end end && s) + one_if (is_not_started end && s)
    by (Exited code) true = refl
    by (Exited code) false = refl
    by (Signalled signal) true = refl
    by (Signalled signal) false = refl
    by NotStarted true = refl
    by NotStarted false = refl

pub ends_once : (s : SpawnerValue) (given : List Given) (children : List Child) (endings : List Ending) (run : RunNo) → IsLauncher s given children endings → count_children (is_run run) children + count_endings every_end (is_run run) endings ≤ 1
ends_once s given children endings run kept =
    let a = kept.of_started (is_run run) in
    let b = kept.of_unstarted (is_run run) in
    let c = kept.once run in
    let d = apart run given in
    let e = both_ends run endings in
    omega (arith, a, b, c, d, e)

less : (a b : Bool) → one_if (a && b) ≤ one_if b
less true b = omega arith
less false true = omega arith
less false false = omega arith

at_most : (kind : Fate → Bool) (run : RunNo) (given : List Given) → count_given kind (is_run run) given ≤ times_given run given
at_most kind run given = sum_by-le-sum_by (λ (x : Given). one_if (kind x.fate && same_run x.run run)) (λ (x : Given). one_if (same_run x.run run)) given (λ (x : Given). less (kind x.fate) (same_run x.run run))

at_least : (run : RunNo) (given : List Given) (k : ℕ) (g : Given) → slice_get given k ≡ Some g → same_run g.run run ≡ true → 1 ≤ times_given run given
at_least run given k g at same =
    let within : k < length given = slice_get_within given k g at in
    let its : one_if (same_run (get_or given k g).run run) ≡ one_if (same_run g.run run) = ap (λ (x : Given). one_if (same_run x.run run)) (get_or_from_slice_get given k g g at) in
    let one : one_if (same_run g.run run) ≡ 1 = ap one_if same in
    let all = get_or-le-sum_by (λ (x : Given). one_if (same_run x.run run)) given k g within in
    omega (arith, its, one, all)

-- a run that was given once has that fate
only : (kind : Fate → Bool) (run : RunNo) (given : List Given) (k : ℕ) (g : Given) → slice_get given k ≡ Some g → same_run g.run run ≡ true → times_given run given ≤ 1 → count_given kind (is_run run) given ≡ one_if (kind g.fate)
only kind run [] k g at same once = cc
only kind run (x ∷ xs) zero g at same once =
    let its : x ≡ g = cc in
    let a = sum_by-cons (λ (y : Given). one_if (kind y.fate && same_run y.run run)) x xs in
    let b = sum_by-cons (λ (y : Given). one_if (same_run y.run run)) x xs in
    let one : one_if (same_run x.run run) ≡ 1 = ap (λ (y : Given). one_if (same_run y.run run)) its ∙ ap one_if same in
    let own : one_if (kind x.fate && same_run x.run run) ≡ one_if (kind g.fate) = ap (λ (y : Given). one_if (kind y.fate && same_run y.run run)) its ∙ (ap (λ (t : Bool). one_if (kind g.fate && t)) same ∙ unit (kind g.fate)) in
    let rest = at_most kind run xs in
    omega (arith, a, b, one, own, rest, once)
  where
    unit : (t : Bool) → one_if (t && true) ≡ one_if t
    unit true = refl
    unit false = refl
only kind run (x ∷ xs) (suc k) g at same once =
    let a = sum_by-cons (λ (y : Given). one_if (kind y.fate && same_run y.run run)) x xs in
    let b = sum_by-cons (λ (y : Given). one_if (same_run y.run run)) x xs in
    let there = at_least run xs k g at same in
    let own = less (kind x.fate) (same_run x.run run) in
    let fewer : times_given run xs ≤ 1 = omega (arith, b, once) in
    let rest = only kind run xs k g at same fewer in
    omega (arith, a, b, there, own, rest, once)

-- what was given at a place and wasn't lost has a child or an end, and its end says that it wasn't
-- started just where it wasn't
pub each_has : (s : SpawnerValue) (given : List Given) (children : List Child) (endings : List Ending) (k : ℕ) (g : Given) → IsLauncher s given children endings → slice_get given k ≡ Some g
    → (count_children (is_run g.run) children + count_endings is_seen_end (is_run g.run) endings ≡ one_if (is_started g.fate)) × (count_endings is_not_started (is_run g.run) endings ≡ one_if (is_unstarted g.fate))
each_has s given children endings k g kept at =
    let same = same_run-same g.run in
    (sym (kept.of_started (is_run g.run)) ∙ only is_started g.run given k g at same (kept.once g.run), sym (kept.of_unstarted (is_run g.run)) ∙ only is_unstarted g.run given k g at same (kept.once g.run))

-- ---- a new run

none_counted : (run : RunNo) (children : List Child) → count_children (is_run run) children ≡ 0 → has_child run children ≡ false
none_counted run [] none = refl
none_counted run (c ∷ cs) none = by (same_run c.run run) refl (λ rest. none_counted run cs rest)
  where
    all : count_children (is_run run) (c ∷ cs) ≡ one_if (same_run c.run run) + count_children (is_run run) cs
    all = sum_by-cons (λ (x : Child). one_if (same_run x.run run)) c cs

    by : (b : Bool) → same_run c.run run ≡ b → (count_children (is_run run) cs ≡ 0 → has_child run cs ≡ false) → has_child run (c ∷ cs) ≡ false
    by true is rest =
        let one : one_if (same_run c.run run) ≡ 1 = ap one_if is in
        let sum = all in
        absurd (omega (arith, one, sum, none))
    by false is rest =
        let sum = all in
        ap (λ (b : Bool). b || has_child run cs) is ∙ rest (omega (arith, sum, none))

-- a run that was not given has no child
pub no_child_of_new : (s : SpawnerValue) (given : List Given) (children : List Child) (endings : List Ending) (run : RunNo) → IsLauncher s given children endings → is_given run given ≡ false → has_child run children ≡ false
no_child_of_new s given children endings run kept new =
    let few = at_most is_started run given in
    let times = none_given run given new in
    let sum = kept.of_started (is_run run) in
    none_counted run children (omega (arith, few, times, sum))
