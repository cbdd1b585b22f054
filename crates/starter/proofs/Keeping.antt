-- What each call leaves of a launcher.
use Rattle.std.proofs.Common.{◌≡◌, ◌≢◌, ℕ, ◌+◌, ◌<◌, ◌≤◌, ◌==◌, List, [], ◌∷◌, ◌++◌, length, get_or, set, map, Bool, true, false, true≢false, ◌||◌, ◌&&◌, cond, Option, Some, IsSomeAnd, Vec, slice_get, refl, sym, ◌∙◌, ap, subst, arith, eq-eqb}
use Rattle.std.specs.List.{All, swap_remove}
use Rattle.std.proofs.lemmas.Bool.{eqb-true}
use Rattle.std.proofs.lemmas.List.{append-nil, map-append, length-append, length-map, get_or_default}
use Rattle.std.proofs.lemmas.List.Elements.{All-push, All-set, All-weaker, All-get_or, filter-append}
use Rattle.std.proofs.lemmas.Option.{get_or_from_slice_get, slice_get_within}
use Rattle.std.proofs.lemmas.List.Sums.{sum_by-cons, sum_by_push, sum_by-set, sum_by-swap_remove}
use Rattle.claim_id.specs.declared.numbers.RunNo.{RunNo}
use Rattle.pool_mail.specs.declared.end.End.{End}
use Rattle.pool_mail.specs.declared.end.End.TheVariants.{Exited, Signalled, NotStarted}
use Rattle.pool_mail.specs.declared.end.Ending.{Ending}
use Rattle.pool_outer.specs.Children.{Sees}
use Rattle.pool_outer.specs.declared.spawner.ChildState.{ChildState}
use Rattle.pool_outer.specs.declared.spawner.ChildState.TheVariants as child
use Rattle.pool_outer.specs.declared.spawner.Launch.{Launch}
use Rattle.pool_view.specs.Numbers.{same_run}
use Rattle.starter.specs.declared.children.Child.{Child}
use Rattle.starter.specs.declared.given.Fate.{Fate}
use Rattle.starter.specs.declared.given.Fate.TheVariants as fate
use Rattle.starter.specs.declared.given.Given.{Given}
use Rattle.starter.specs.ChildTables.{as_doomed, ChildTable}
use Rattle.starter.specs.Launchers.{count_children, count_endings, count_given, ending_of, given_as, is_given, is_not_started, is_seen_end, is_started, is_unstarted, one_if, run_of_child, those_started, times_given, HasRoom, IsChildOf, IsLauncher, IsTrueEnding, WasSeen}
use Rattle.starter.specs.Spawners.{state_of, Kills, Looks, SpawnerValue, Starts}
use Rattle.starter.proofs.Lists.{same_run-true, slice_get-before, slice_get-longer, slice_get-end, All-swap_remove}

-- ---- what was seen

not_running : (end : End) → end ≢ NotStarted → state_of end ≢ child.Running
not_running (Exited code) other is = cc is
not_running (Signalled signal) other is = cc is
not_running NotStarted other is = other refl

-- an end that was seen is seen still
still_seen : (number : ℕ) (state : ChildState) (s t : SpawnerValue) (given : List Given) (e : Ending) → Sees number state s.seen t.seen → e.end ≢ NotStarted → WasSeen s given e → WasSeen t given e
still_seen number state s t given e sees other was = record { number = was.number; of = was.of; seen = by (was.number == number) refl }
  where
    by : (b : Bool) → (was.number == number) ≡ b → t.seen was.number ≡ state_of e.end
    by true is =
        let same : was.number ≡ number = eqb-true was.number number is in
        let before : s.seen number ≡ state_of e.end = ap s.seen (sym same) ∙ was.seen in
        ap t.seen same ∙ (sees.seen ∙ (sees.stays (λ r. not_running e.end other (sym before ∙ r)) ∙ before))
    by false is = sees.others was.number (λ same. let yes : (was.number == number) ≡ true = eq-eqb was.number number same in cc (is, yes)) ∙ was.seen

same_seen : (s t : SpawnerValue) (given : List Given) (e : Ending) → ((k : ℕ) → t.seen k ≡ s.seen k) → WasSeen s given e → WasSeen t given e
same_seen s t given e same was = record { number = was.number; of = was.of; seen = same was.number ∙ was.seen }

-- ---- a child has ended

seen_times : (run : RunNo) (test : RunNo → Bool) (end : End) (endings : List Ending) → end ≢ NotStarted → count_endings is_seen_end test (endings ++ record { run = run; end = end } ∷ []) ≡ count_endings is_seen_end test endings + one_if (test run)
seen_times run test end endings other = sum_by_push (λ (e : Ending). one_if (is_seen_end e.end && test e.run)) endings (record { run = run; end = end }) ∙ ap (λ n. count_endings is_seen_end test endings + n) (by end other)
  where
    by : (x : End) → x ≢ NotStarted → one_if (is_seen_end x && test run) ≡ one_if (test run)
    by (Exited code) so = refl
    by (Signalled signal) so = refl
    by NotStarted so = absurd (so refl)

seen_not_started : (run : RunNo) (test : RunNo → Bool) (end : End) (endings : List Ending) → end ≢ NotStarted → count_endings is_not_started test (endings ++ record { run = run; end = end } ∷ []) ≡ count_endings is_not_started test endings
seen_not_started run test end endings other = sum_by_push (λ (e : Ending). one_if (is_not_started e.end && test e.run)) endings (record { run = run; end = end }) ∙ by end other
  where
    by : (x : End) → x ≢ NotStarted → count_endings is_not_started test endings + one_if (is_not_started x && test run) ≡ count_endings is_not_started test endings
    by (Exited code) so = omega arith
    by (Signalled signal) so = omega arith
    by NotStarted so = absurd (so refl)

has_ended_at : (s t : SpawnerValue) (given : List Given) (children : List Child) (endings : List Ending) (place : ℕ) (c d : Child) (end : End)
    → place < length children → c ≡ get_or children place c → Looks c.number s t (Some end) → IsLauncher s given children endings
    → IsLauncher t given (swap_remove children place d) (endings ++ record { run = c.run; end = end } ∷ [])
has_ended_at s t given children endings place c d end within is looks kept = record {
  count = looks.same.count ∙ kept.count;
  launched = λ told. looks.same.launches (before told) ∙ kept.launched (before told);
  running = All-swap_remove (IsChildOf given) children place d within kept.running;
  ended = λ told.
      let sees = looks.finds.1 (before told) in
      All-push (IsTrueEnding t given) endings (record { run = c.run; end = end }) (All-weaker (IsTrueEnding s given) (IsTrueEnding t given) (λ e was other. still_seen c.number (state_of end) s t given e sees other (was other)) endings (kept.ended (before told)))
      (λ other. record { number = c.number; of = own; seen = sees.seen });
  once = kept.once;
  of_started = λ test.
      let one : count_children test (swap_remove children place d) + one_if (test (get_or children place d).run) ≡ count_children test children = sum_by-swap_remove (λ (x : Child). one_if (test x.run)) children place d within in
      let its : one_if (test (get_or children place d).run) ≡ one_if (test c.run) = ap (λ (x : Child). one_if (test x.run)) (get_or_default children place d c within ∙ sym is) in
      let more = seen_times c.run test end endings looks.finds.0 in
      let was = kept.of_started test in
      omega (arith, one, its, more, was);
  of_unstarted = λ test. kept.of_unstarted test ∙ sym (seen_not_started c.run test end endings looks.finds.0);
}
  where
    before : t.tells ≡ true → s.tells ≡ true
    before told = sym looks.same.told ∙ told

    own : IsChildOf given c
    own = subst (IsChildOf given) (sym is) (All-get_or (IsChildOf given) children place c within kept.running)

pub has_ended : (s t : SpawnerValue) (given : List Given) (children left : List Child) (endings more : List Ending) (place : ℕ) (c : Child) (found : Option End) (end : End)
    → slice_get children place ≡ Some c → left ≡ swap_remove children place c → found ≡ Some end
    → more ≡ endings ++ ending_of c.run end ∷ [] → Looks c.number s t found → IsLauncher s given children endings
    → IsLauncher t given left more
has_ended s t given children left endings more place c found end at gone its longer looks kept =
    subst (λ (xs : List Child). IsLauncher t given xs more) (sym gone)
    (subst (λ (es : List Ending). IsLauncher t given (swap_remove children place c) es) (sym longer)
    (has_ended_at s t given children endings place c c end (slice_get_within children place c at) (sym (get_or_from_slice_get children place c c at)) (subst (λ (o : Option End). Looks c.number s t o) its looks) kept))

-- ---- a permit is spent

-- of a spawner, the same is known as before
pub record Unchanged (s t : SpawnerValue) : Type 0 where
  pub told : t.tells ≡ s.tells
  pub count : t.count ≡ s.count
  pub launches : s.tells ≡ true → t.launches ≡ s.launches
  pub seen : s.tells ≡ true → (k : ℕ) → t.seen k ≡ s.seen k

still_numbered : (k : ℕ) (given : List Given) (run q : RunNo) (what : Launch) (f : Fate) → run_of_child k given ≡ Some q → run_of_child k (given ++ given_as run what f ∷ []) ≡ Some q
still_numbered k given run q what f is =
    let split : those_started (given ++ given_as run what f ∷ []) ≡ those_started given ++ those_started (given_as run what f ∷ []) = filter-append (λ (g : Given). is_started g.fate) given (given_as run what f ∷ []) in
    let all : map (λ (g : Given). g.run) (those_started (given ++ given_as run what f ∷ [])) ≡ map (λ (g : Given). g.run) (those_started given) ++ map (λ (g : Given). g.run) (those_started (given_as run what f ∷ [])) = ap (λ (gs : List Given). map (λ (g : Given). g.run) gs) split ∙ map-append (λ (g : Given). g.run) (those_started given) (those_started (given_as run what f ∷ [])) in
    ap (λ (runs : List RunNo). slice_get runs k) all ∙ slice_get-longer (map (λ (g : Given). g.run) (those_started given)) (map (λ (g : Given). g.run) (those_started (given_as run what f ∷ []))) k q is

-- whose child a number is that was there before
pub numbered_before : (k : ℕ) (given : List Given) (run : RunNo) (what : Launch) (f : Fate) → k < length (those_started given) → run_of_child k (given ++ given_as run what f ∷ []) ≡ run_of_child k given
numbered_before k given run what f before =
    let split : those_started (given ++ given_as run what f ∷ []) ≡ those_started given ++ those_started (given_as run what f ∷ []) = filter-append (λ (g : Given). is_started g.fate) given (given_as run what f ∷ []) in
    let all : map (λ (g : Given). g.run) (those_started (given ++ given_as run what f ∷ [])) ≡ map (λ (g : Given). g.run) (those_started given) ++ map (λ (g : Given). g.run) (those_started (given_as run what f ∷ [])) = ap (λ (gs : List Given). map (λ (g : Given). g.run) gs) split ∙ map-append (λ (g : Given). g.run) (those_started given) (those_started (given_as run what f ∷ [])) in
    ap (λ (runs : List RunNo). slice_get runs k) all ∙ slice_get-before (map (λ (g : Given). g.run) (those_started given)) (map (λ (g : Given). g.run) (those_started (given_as run what f ∷ []))) k (rw (length-map (those_started given) (λ (g : Given). g.run)) before)

times_more : (kind : Fate → Bool) (test : RunNo → Bool) (run : RunNo) (what : Launch) (f : Fate) (given : List Given) → count_given kind test (given ++ given_as run what f ∷ []) ≡ count_given kind test given + one_if (kind f && test run)
times_more kind test run what f given = sum_by_push (λ (g : Given). one_if (kind g.fate && test g.run)) given (record { run = run; what = what; fate = f })

ends_more : (kind : End → Bool) (test : RunNo → Bool) (run : RunNo) (endings : List Ending) → count_endings kind test (endings ++ ending_of run NotStarted ∷ []) ≡ count_endings kind test endings + one_if (kind NotStarted && test run)
ends_more kind test run endings = sum_by_push (λ (e : Ending). one_if (kind e.end && test e.run)) endings (ending_of run NotStarted)

children_more : (test : RunNo → Bool) (run : RunNo) (number : ℕ) (children : List Child) → count_children test (children ++ record { run = run; number = number; doomed = false } ∷ []) ≡ count_children test children + one_if (test run)
children_more test run number children = sum_by_push (λ (c : Child). one_if (test c.run)) children (record { run = run; number = number; doomed = false })

pub none_given : (run : RunNo) (given : List Given) → is_given run given ≡ false → times_given run given ≡ 0
none_given run [] new = refl
none_given run (g ∷ gs) new = by (same_run g.run run) refl (λ none. none_given run gs none)
  where
    by : (b : Bool) → same_run g.run run ≡ b → (is_given run gs ≡ false → times_given run gs ≡ 0) → times_given run (g ∷ gs) ≡ 0
    by true is rest = absurd (true≢false (sym (ap (λ (b : Bool). b || is_given run gs) is) ∙ new))
    by false is rest =
        let none : times_given run gs ≡ 0 = rest (sym (ap (λ (b : Bool). b || is_given run gs) is) ∙ new) in
        let one : one_if (same_run g.run run) ≡ 0 = ap one_if is in
        let all : times_given run (g ∷ gs) ≡ one_if (same_run g.run run) + times_given run gs = sum_by-cons (λ (x : Given). one_if (same_run x.run run)) g gs in
        omega (arith, none, one, all)

once_more : (given : List Given) (run : RunNo) (what : Launch) (f : Fate) → times_given run given ≡ 0 → ((q : RunNo) → times_given q given ≤ 1) → (q : RunNo) → times_given q (given ++ given_as run what f ∷ []) ≤ 1
once_more given run what f new once q = by (same_run run q) refl
  where
    more : times_given q (given ++ given_as run what f ∷ []) ≡ times_given q given + one_if (same_run run q)
    more = sum_by_push (λ (g : Given). one_if (same_run g.run q)) given (record { run = run; what = what; fate = f })

    by : (b : Bool) → same_run run q ≡ b → times_given q (given ++ given_as run what f ∷ []) ≤ 1
    by true is =
        let none : times_given q given ≡ 0 = subst (λ (r : RunNo). times_given r given ≡ 0) (same_run-true run q is) new in
        let one : one_if (same_run run q) ≡ 1 = ap one_if is in
        let all = more in
        omega (arith, none, one, all)
    by false is =
        let none : one_if (same_run run q) ≡ 0 = ap one_if is in
        let all = more in
        let old = once q in
        omega (arith, none, all, old)

not_started : (given : List Given) (run : RunNo) (what : Launch) (f : Fate) → is_started f ≡ false → those_started (given ++ given_as run what f ∷ []) ≡ those_started given
not_started given run what f is = filter-append (λ (g : Given). is_started g.fate) given (given_as run what f ∷ []) ∙ (ap (λ (b : Bool). those_started given ++ cond b (given_as run what f ∷ []) []) is ∙ append-nil (those_started given))

still_ended : (s t : SpawnerValue) (given : List Given) (run : RunNo) (what : Launch) (f : Fate) (endings : List Ending) → ((k : ℕ) → t.seen k ≡ s.seen k) → All (IsTrueEnding s given) endings → All (IsTrueEnding t (given ++ given_as run what f ∷ [])) endings
still_ended s t given run what f endings same all = All-weaker (IsTrueEnding s given) (IsTrueEnding t (given ++ given_as run what f ∷ [])) (λ e was other. let w = was other in record { number = w.number; of = still_numbered w.number given run e.run what f w.of; seen = same w.number ∙ w.seen }) endings all

still_children : (given : List Given) (run : RunNo) (what : Launch) (f : Fate) (children : List Child) → All (IsChildOf given) children → All (IsChildOf (given ++ given_as run what f ∷ [])) children
still_children given run what f children all = All-weaker (IsChildOf given) (IsChildOf (given ++ given_as run what f ∷ [])) (λ c is. still_numbered c.number given run c.run what f is) children all

-- refused or declined
unstarted_at : (s t : SpawnerValue) (given : List Given) (children : List Child) (endings : List Ending) (run : RunNo) (what : Launch) (f : Fate)
    → is_started f ≡ false → is_unstarted f ≡ true → Unchanged s t → is_given run given ≡ false → IsLauncher s given children endings
    → IsLauncher t (given ++ given_as run what f ∷ []) children (endings ++ ending_of run NotStarted ∷ [])
unstarted_at s t given children endings run what f not is same new kept = record {
  count = same.count ∙ (kept.count ∙ ap length (sym rest));
  launched = λ told. same.launches (before told) ∙ (kept.launched (before told) ∙ ap (λ (gs : List Given). map (λ (g : Given). g.what) gs) (sym rest));
  running = still_children given run what f children kept.running;
  ended = λ told. All-push (IsTrueEnding t (given ++ given_as run what f ∷ [])) endings (ending_of run NotStarted) (still_ended s t given run what f endings (same.seen (before told)) (kept.ended (before told))) (λ other. absurd (other refl));
  once = once_more given run what f (none_given run given new) kept.once;
  of_started = λ test.
      let none : one_if (is_started f && test run) ≡ 0 = ap (λ (b : Bool). one_if (b && test run)) not in
      let more = times_more is_started test run what f given in
      let ends = ends_more is_seen_end test run endings in
      let was = kept.of_started test in
      omega (arith, none, more, ends, was);
  of_unstarted = λ test.
      let one : one_if (is_unstarted f && test run) ≡ one_if (test run) = ap (λ (b : Bool). one_if (b && test run)) is in
      let more = times_more is_unstarted test run what f given in
      let ends = ends_more is_not_started test run endings in
      let was = kept.of_unstarted test in
      omega (arith, one, more, ends, was);
}
  where
    before : t.tells ≡ true → s.tells ≡ true
    before told = sym same.told ∙ told

    rest : those_started (given ++ given_as run what f ∷ []) ≡ those_started given
    rest = not_started given run what f not

pub unstarted : (s t : SpawnerValue) (given now : List Given) (children : List Child) (endings more : List Ending) (run : RunNo) (what : Launch) (f : Fate)
    → is_started f ≡ false → is_unstarted f ≡ true → Unchanged s t → is_given run given ≡ false
    → now ≡ given ++ given_as run what f ∷ [] → more ≡ endings ++ ending_of run NotStarted ∷ [] → IsLauncher s given children endings
    → IsLauncher t now children more
unstarted s t given now children endings more run what f not is same new longer ends kept =
    subst (λ (gs : List Given). IsLauncher t gs children more) (sym longer)
    (subst (λ (es : List Ending). IsLauncher t (given ++ given_as run what f ∷ []) children es) (sym ends)
    (unstarted_at s t given children endings run what f not is same new kept))

-- lost
lost_at : (s t : SpawnerValue) (given : List Given) (children : List Child) (endings : List Ending) (run : RunNo) (what : Launch)
    → Unchanged s t → is_given run given ≡ false → IsLauncher s given children endings
    → IsLauncher t (given ++ given_as run what fate.Lost ∷ []) children endings
lost_at s t given children endings run what same new kept = record {
  count = same.count ∙ (kept.count ∙ ap length (sym rest));
  launched = λ told. same.launches (before told) ∙ (kept.launched (before told) ∙ ap (λ (gs : List Given). map (λ (g : Given). g.what) gs) (sym rest));
  running = still_children given run what fate.Lost children kept.running;
  ended = λ told. still_ended s t given run what fate.Lost endings (same.seen (before told)) (kept.ended (before told));
  once = once_more given run what fate.Lost (none_given run given new) kept.once;
  of_started = λ test.
      let more = times_more is_started test run what fate.Lost given in
      let was = kept.of_started test in
      omega (arith, more, was);
  of_unstarted = λ test.
      let more = times_more is_unstarted test run what fate.Lost given in
      let was = kept.of_unstarted test in
      omega (arith, more, was);
}
  where
    before : t.tells ≡ true → s.tells ≡ true
    before told = sym same.told ∙ told

    rest : those_started (given ++ given_as run what fate.Lost ∷ []) ≡ those_started given
    rest = not_started given run what fate.Lost refl

pub lost : (s t : SpawnerValue) (given now : List Given) (children : List Child) (endings : List Ending) (run : RunNo) (what : Launch)
    → Unchanged s t → is_given run given ≡ false → now ≡ given ++ given_as run what fate.Lost ∷ [] → IsLauncher s given children endings
    → IsLauncher t now children endings
lost s t given now children endings run what same new longer kept = subst (λ (gs : List Given). IsLauncher t gs children endings) (sym longer) (lost_at s t given children endings run what same new kept)

-- started
started_at : (s t : SpawnerValue) (given : List Given) (children : List Child) (endings : List Ending) (run : RunNo) (what : Launch) (number : ℕ)
    → Starts what s t true → number ≡ s.count → is_given run given ≡ false → IsLauncher s given children endings
    → IsLauncher t (given ++ given_as run what fate.Started ∷ []) (children ++ record { run = run; number = number; doomed = false } ∷ []) endings
started_at s t given children endings run what number starts is new kept = record {
  count =
      let long : length (those_started (given ++ given_as run what fate.Started ∷ [])) ≡ length (those_started given) + 1 = ap length all ∙ length-append (those_started given) (given_as run what fate.Started ∷ []) in
      let old = kept.count in
      let one = starts.count in
      omega (arith, long, old, one);
  launched = λ told. starts.launches (before told) ∙ (ap (λ (ws : List Launch). ws ++ what ∷ []) (kept.launched (before told)) ∙ (sym (map-append (λ (g : Given). g.what) (those_started given) (given_as run what fate.Started ∷ [])) ∙ ap (λ (gs : List Given). map (λ (g : Given). g.what) gs) (sym all)));
  running = All-push (IsChildOf (given ++ given_as run what fate.Started ∷ [])) children (record { run = run; number = number; doomed = false }) (still_children given run what fate.Started children kept.running) own;
  ended = λ told. still_ended s t given run what fate.Started endings (starts.seen (before told)) (kept.ended (before told));
  once = once_more given run what fate.Started (none_given run given new) kept.once;
  of_started = λ test.
      let more = times_more is_started test run what fate.Started given in
      let child = children_more test run number children in
      let was = kept.of_started test in
      omega (arith, more, child, was);
  of_unstarted = λ test.
      let more = times_more is_unstarted test run what fate.Started given in
      let was = kept.of_unstarted test in
      omega (arith, more, was);
}
  where
    before : t.tells ≡ true → s.tells ≡ true
    before told = sym starts.told ∙ told

    all : those_started (given ++ given_as run what fate.Started ∷ []) ≡ those_started given ++ given_as run what fate.Started ∷ []
    all = filter-append (λ (g : Given). is_started g.fate) given (given_as run what fate.Started ∷ [])

    runs : map (λ (g : Given). g.run) (those_started (given ++ given_as run what fate.Started ∷ [])) ≡ map (λ (g : Given). g.run) (those_started given) ++ run ∷ []
    runs = ap (λ (gs : List Given). map (λ (g : Given). g.run) gs) all ∙ map-append (λ (g : Given). g.run) (those_started given) (given_as run what fate.Started ∷ [])

    at : number ≡ length (map (λ (g : Given). g.run) (those_started given))
    at = is ∙ (kept.count ∙ sym (length-map (those_started given) (λ (g : Given). g.run)))

    own : run_of_child number (given ++ given_as run what fate.Started ∷ []) ≡ Some run
    own = ap (λ (rs : List RunNo). slice_get rs number) runs ∙ (ap (λ (k : ℕ). slice_get (map (λ (g : Given). g.run) (those_started given) ++ run ∷ []) k) at ∙ slice_get-end (map (λ (g : Given). g.run) (those_started given)) run)

-- a child takes the room that was made
pub room_spent : {A : Type 0} (ready : Bool) (given later : Vec Given A) (table after : ChildTable) (c : Child) (spare : ℕ) → ready ≡ true → HasRoom ready given table spare → after.list ≡ table.list ++ c ∷ [] → HasRoom false later after spare
room_spent ready given later table after c spare is room longer = record {
  endings =
      let long : length after.list ≡ length table.list + 1 = ap length longer ∙ length-append table.list (c ∷ []) in
      let free = room.one_ending is in
      omega (arith, long, free);
  one_given = λ no. absurd (true≢false (sym no));
  one_child = λ no. absurd (true≢false (sym no));
  one_ending = λ no. absurd (true≢false (sym no));
}

pub begins : (s t : SpawnerValue) (given now : List Given) (children more : List Child) (endings : List Ending) (run : RunNo) (what : Launch) (number : ℕ)
    → Starts what s t true → number ≡ s.count → is_given run given ≡ false → now ≡ given ++ given_as run what fate.Started ∷ []
    → more ≡ children ++ record { run = run; number = number; doomed = false } ∷ [] → IsLauncher s given children endings
    → IsLauncher t now more endings
begins s t given now children more endings run what number starts is new longer child kept =
    subst (λ (gs : List Given). IsLauncher t gs more endings) (sym longer)
    (subst (λ (cs : List Child). IsLauncher t (given ++ given_as run what fate.Started ∷ []) cs endings) (sym child)
    (started_at s t given children endings run what number starts is new kept))

pub none_started : (s t : SpawnerValue) (what : Launch) → Starts what s t false → Unchanged s t
none_started s t what starts = record { told = starts.told; count = starts.count; launches = starts.launches; seen = starts.seen }

-- ---- a child is doomed

doomed_at : (s t : SpawnerValue) (given : List Given) (children : List Child) (endings : List Ending) (place : ℕ) (c : Child)
    → place < length children → c ≡ get_or children place c → Kills c.number s t → IsLauncher s given children endings
    → IsLauncher t given (set children place (as_doomed c)) endings
doomed_at s t given children endings place c within is kills kept = record {
  count = kills.same.count ∙ kept.count;
  launched = λ told. kills.same.launches (before told) ∙ kept.launched (before told);
  running = All-set (IsChildOf given) children place (as_doomed c) own kept.running;
  ended = λ told. All-weaker (IsTrueEnding s given) (IsTrueEnding t given) (λ e was other. same_seen s t given e (kills.seen (before told)) (was other)) endings (kept.ended (before told));
  once = kept.once;
  of_started = λ test.
      let one : count_children test (set children place (as_doomed c)) + one_if (test (get_or children place c).run) ≡ count_children test children + one_if (test c.run) = sum_by-set (λ (x : Child). one_if (test x.run)) children place (as_doomed c) c within in
      let its : one_if (test (get_or children place c).run) ≡ one_if (test c.run) = ap (λ (x : Child). one_if (test x.run)) (sym is) in
      let was = kept.of_started test in
      omega (arith, one, its, was);
  of_unstarted = kept.of_unstarted;
}
  where
    before : t.tells ≡ true → s.tells ≡ true
    before told = sym kills.same.told ∙ told

    own : IsChildOf given c
    own = subst (IsChildOf given) (sym is) (All-get_or (IsChildOf given) children place c within kept.running)

pub is_doomed : (s t : SpawnerValue) (given : List Given) (children now : List Child) (endings : List Ending) (place : ℕ) (c : Child)
    → slice_get children place ≡ Some c → IsSomeAnd (slice_get children place) (λ child. now ≡ set children place (as_doomed child)) → Kills c.number s t → IsLauncher s given children endings
    → IsLauncher t given now endings
is_doomed s t given children now endings place c at its kills kept =
    let is : now ≡ set children place (as_doomed c) = subst (λ (o : Option Child). IsSomeAnd o (λ child. now ≡ set children place (as_doomed child))) at its in
    subst (λ (cs : List Child). IsLauncher t given cs endings) (sym is) (doomed_at s t given children endings place c (slice_get_within children place c at) (sym (get_or_from_slice_get children place c c at)) kills kept)

pub unchanged : (s : SpawnerValue) → Unchanged s s
unchanged s = record { told = refl; count = refl; launches = λ tells. refl; seen = λ tells k. refl }
