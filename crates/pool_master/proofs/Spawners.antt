-- A spawner that serves the runs of its machine serves one more.
use Rattle.std.proofs.Common.{◌≡◌, ◌≢◌, ◌∙◌, inl, inr, ℕ, zero, suc, ◌+◌, ◌≤◌, ◌<◌, ◌==◌, List, [], ◌∷◌, ◌++◌, length, Bool, true, false, true≢false, Option, Some, None, IsSome, IfSome, slice_get, get_or, set, take, drop, Result, Ok, Err, IfOk, OnErr, refl, sym, ap, subst, arith, eq-eqb, if◌then◌else◌}
use Rattle.std.proofs.lemmas.Bool.{eqb-true}
use Rattle.std.proofs.lemmas.List.{append-nil, length-append, map-append}
use Rattle.std.proofs.lemmas.List.Elements.{filter-append}
use Rattle.std.proofs.lemmas.List.Sums.{sum_by-append}
use Rattle.std.proofs.lemmas.Option.{slice_get_within, slice_get-get_or}
use Rattle.std.specs.List.{All}
use Rattle.std.specs.Option.{option_map}
use Rattle.pool_outer.specs.declared.spawner.ChildState.{ChildState}
use Rattle.pool_outer.specs.declared.spawner.Launch.{Launch}
use Rattle.pool_outer.specs.Cause.{Rose, RoseBy}
use Rattle.ad_value.specs.declared.memory.Memory.{Memory}
use Rattle.claim_id.specs.declared.numbers.JobId.{JobId}
use Rattle.claim_id.specs.declared.numbers.SlotId.{SlotId}
use Rattle.pool_mail.specs.declared.end.End.{End}
use Rattle.pool_mail.specs.declared.end.End.TheVariants.{Exited, Signalled, NotStarted}
use Rattle.pool_master.specs.Runs.{JobRun, runs_on, has_ended, may_have_started, child_runs, possible_runs, not_started_count, HaveEnded, run_launches, IsLaunched, child_launch, child_state, IsSeen, EndAsSeen}
use Rattle.pool_master.specs.Follows.{IsChildCount, Follows, HasLaunched, spawner_at, IsBetween, EachGoesOn, AreUntouched, StayUntouched, RunsOne, RunsChild, RunsNoChild}
use Rattle.pool_master.specs.Seen.{SpawnerSeen}
use Rattle.pool_master.proofs.RunLists.{run_with, ended_more}

-- ---- the runs of a machine, with one more

children-more : (rs : List JobRun) (r : JobRun) → child_runs (rs ++ r ∷ []) ≡ child_runs rs ++ child_runs (r ∷ [])
children-more rs r = filter-append _ rs (r ∷ [])

possible-more : (rs : List JobRun) (r : JobRun) → possible_runs (rs ++ r ∷ []) ≡ possible_runs rs ++ possible_runs (r ∷ [])
possible-more rs r = filter-append _ rs (r ∷ [])

one_ended : (job : JobId) (slot : SlotId) (what : Launch) (end : End) → run_launches (child_runs (run_with job slot what (Some end) ∷ [])) ≡ child_launch what end
one_ended job slot what (Exited code) = refl
one_ended job slot what (Signalled signal) = refl
one_ended job slot what NotStarted = refl

launches-more : (rs : List JobRun) (job : JobId) (slot : SlotId) (what : Launch) (end : End) → run_launches (child_runs (rs ++ run_with job slot what (Some end) ∷ [])) ≡ run_launches (child_runs rs) ++ child_launch what end
launches-more rs job slot what end =
    ap run_launches (children-more rs (run_with job slot what (Some end)))
    ∙ (map-append (λ (r : JobRun). r.launch) (child_runs rs) (child_runs (run_with job slot what (Some end) ∷ []))
    ∙ ap (λ (l : List Launch). run_launches (child_runs rs) ++ l) (one_ended job slot what end))

-- a run that hasn't ended is none of those that have, and one of those that may have started
children-open : (rs : List JobRun) (job : JobId) (slot : SlotId) (what : Launch) → child_runs (rs ++ run_with job slot what None ∷ []) ≡ child_runs rs
children-open rs job slot what = children-more rs (run_with job slot what None) ∙ append-nil (child_runs rs)

possible-open : (rs : List JobRun) (job : JobId) (slot : SlotId) (what : Launch) → run_launches (possible_runs (rs ++ run_with job slot what None ∷ [])) ≡ run_launches (possible_runs rs) ++ what ∷ []
possible-open rs job slot what =
    ap run_launches (possible-more rs (run_with job slot what None))
    ∙ map-append (λ (r : JobRun). r.launch) (possible_runs rs) (run_with job slot what None ∷ [])

-- of runs that have ended, those that may have started did
same_test : (o : Option End) → IsSome o → may_have_started o ≡ has_ended o
same_test None some = absurd (true≢false (sym some))
same_test (Some (Exited code)) some = refl
same_test (Some (Signalled signal)) some = refl
same_test (Some NotStarted) some = refl

possible-ended : (rs : List JobRun) → HaveEnded rs → possible_runs rs ≡ child_runs rs
possible-ended [] ended = refl
possible-ended (r ∷ rs) ended =
    (λ i. if (same_test r.end ended.0 i) then r ∷ (possible-ended rs ended.1 i) else (possible-ended rs ended.1 i))

pub ended_on : (machine : ℕ) (rs : List JobRun) → HaveEnded rs → HaveEnded (runs_on machine rs)
ended_on machine [] ended = tt
ended_on machine (r ∷ rs) ended = by (r.slot.machine == machine) (ended_on machine rs ended.1)
  where
    by : (b : Bool) → HaveEnded (runs_on machine rs) → HaveEnded (if b then r ∷ runs_on machine rs else runs_on machine rs)
    by true rest = (ended.0, rest)
    by false rest = rest

length-launches : (rs : List JobRun) → length (run_launches rs) ≡ length rs
length-launches [] = refl
length-launches (r ∷ rs) = ap suc (length-launches rs)

count-more : (rs : List JobRun) (r : JobRun) → not_started_count (rs ++ r ∷ []) ≡ not_started_count rs + not_started_count (r ∷ [])
count-more rs r = sum_by-append _ rs (r ∷ [])

-- ---- what was seen

still_seen : (rs : List JobRun) (count : ℕ) (seen new_seen : ℕ → ChildState) → length rs ≡ count → ((k : ℕ) → k ≢ count → new_seen k ≡ seen k) → IsSeen rs seen → IsSeen rs new_seen
still_seen rs count seen new_seen len others old k r end is ends =
    let below : k < length rs = slice_get_within rs k r is in
    let other : k ≢ count = omega arith in
    others k other ∙ old k r end is ends

seen_more : (rs : List JobRun) (run : JobRun) (end : End) (seen : ℕ → ChildState) → run.end ≡ Some end → IsSeen rs seen → seen (length rs) ≡ child_state end → IsSeen (rs ++ run ∷ []) seen
seen_more [] run end seen its old new zero r e is ends =
    let same : run ≡ r = cc in
    let both : Some end ≡ Some e = sym its ∙ (ap (λ (x : JobRun). x.end) same ∙ ends) in
    let one : end ≡ e = cc in
    new ∙ ap child_state one
seen_more [] run end seen its old new (suc k) r e is ends = cc
seen_more (x ∷ rs) run end seen its old new zero r e is ends = old zero r e is ends
seen_more (x ∷ rs) run end seen its old new (suc k) r e is ends = seen_more rs run end (λ n. seen (suc n)) its (λ n q f there done. old (suc n) q f there done) new k r e is ends

ended_seen : (rs : List JobRun) (job : JobId) (slot : SlotId) (what : Launch) (end : End) (seen : ℕ → ChildState) → (end ≢ NotStarted → seen (length (child_runs rs)) ≡ child_state end) → EndAsSeen rs seen → EndAsSeen (rs ++ run_with job slot what (Some end) ∷ []) seen
ended_seen rs job slot what (Exited code) seen new old = rw (children-more rs (run_with job slot what (Some (Exited code)))) (seen_more (child_runs rs) (run_with job slot what (Some (Exited code))) (Exited code) seen refl old (new (λ no. cc)))
ended_seen rs job slot what (Signalled signal) seen new old = rw (children-more rs (run_with job slot what (Some (Signalled signal)))) (seen_more (child_runs rs) (run_with job slot what (Some (Signalled signal))) (Signalled signal) seen refl old (new (λ no. cc)))
ended_seen rs job slot what NotStarted seen new old = rw (children-more rs (run_with job slot what (Some NotStarted)), append-nil) old

-- ---- a run that has ended

counted_more : (rs : List JobRun) (job : JobId) (slot : SlotId) (what : Launch) (end : End) (old now : ℕ) → old ≡ length (child_runs rs) → now ≡ old + length (child_launch what end) → now ≡ length (child_runs (rs ++ run_with job slot what (Some end) ∷ []))
counted_more rs job slot what end old now was is =
    let all : length (run_launches (child_runs (rs ++ run_with job slot what (Some end) ∷ []))) ≡ length (run_launches (child_runs rs) ++ child_launch what end) = ap (λ (l : List Launch). length l) (launches-more rs job slot what end) in
    omega (arith, all, length-append (run_launches (child_runs rs)) (child_launch what end), length-launches (child_runs rs), length-launches (child_runs (rs ++ run_with job slot what (Some end) ∷ [])), was, is)

rises : (rs : List JobRun) (job : JobId) (slot : SlotId) (what : Launch) (end : End) (first before now : ℕ) → (end ≡ NotStarted → Rose before now) → before ≤ now → RoseBy (not_started_count rs) first before → RoseBy (not_started_count (rs ++ run_with job slot what (Some end) ∷ [])) first now
rises rs job slot what (Exited code) first before now rose later old = rw (count-more rs (run_with job slot what (Some (Exited code)))) (omega arith)
rises rs job slot what (Signalled signal) first before now rose later old = rw (count-more rs (run_with job slot what (Some (Signalled signal)))) (omega arith)
rises rs job slot what NotStarted first before now rose later old = let r : Rose before now = rose refl in rw (count-more rs (run_with job slot what (Some NotStarted))) (omega arith)

pub launched_ended : (job : JobId) (slot : SlotId) (what : Launch) (end : End) (old now : SpawnerSeen) (rs : List JobRun) → RunsChild what end old now → HasLaunched old rs → HasLaunched now (rs ++ run_with job slot what (Some end) ∷ [])
launched_ended job slot what end old now rs run has = record {
  launched = λ told.
      let tells : old.tells ≡ true = sym run.told ∙ told in
      run.launched tells ∙ (ap (λ (l : List Launch). l ++ child_launch what end) (has.launched tells) ∙ sym (launches-more rs job slot what end));
  counted = counted_more rs job slot what end old.count now.count has.counted run.counted;
}

pub follows_ended : (job : JobId) (slot : SlotId) (what : Launch) (end : End) (first old now : SpawnerSeen) (rs : List JobRun) → RunsChild what end old now → HasLaunched old rs → Follows first old rs → Follows first now (rs ++ run_with job slot what (Some end) ∷ [])
follows_ended job slot what end first old now rs run has follows =
    let after = launched_ended job slot what end old now rs run has in
    record {
      told = run.told ∙ follows.told;
      served = λ told.
          let tells : old.tells ≡ true = follows.told ∙ told in
          record {
            launched = inl (after.launched (run.told ∙ tells));
            ended = ended_seen rs job slot what end now.seen (λ yes. ap now.seen (sym has.counted) ∙ run.looked tells yes) (still_seen (child_runs rs) old.count old.seen now.seen (sym has.counted) (run.others tells) (follows.served told).ended);
            spared = λ child. run.spared tells child ∙ (follows.served told).spared child;
          };
      counted = inl after.counted;
      not_started = rises rs job slot what end first.faults old.faults now.faults run.not_started run.later follows.not_started;
    }

-- ---- a run of which no ending stands in the history

open_count : (rs : List JobRun) (job : JobId) (slot : SlotId) (what : Launch) (first before now : ℕ) → before ≤ now → RoseBy (not_started_count rs) first before → RoseBy (not_started_count (rs ++ run_with job slot what None ∷ [])) first now
open_count rs job slot what first before now later old = rw (count-more rs (run_with job slot what None)) (omega arith)

open_launched : (rs : List JobRun) (job : JobId) (slot : SlotId) (what : Launch) (end : End) (old new : List Launch) → HaveEnded rs → old ≡ run_launches (child_runs rs) → new ≡ old ++ child_launch what end → IsLaunched (rs ++ run_with job slot what None ∷ []) new
open_launched rs job slot what (Exited code) old new ended was is = inr (is ∙ (ap (λ (l : List Launch). l ++ what ∷ []) (was ∙ ap run_launches (sym (possible-ended rs ended))) ∙ sym (possible-open rs job slot what)))
open_launched rs job slot what (Signalled signal) old new ended was is = inr (is ∙ (ap (λ (l : List Launch). l ++ what ∷ []) (was ∙ ap run_launches (sym (possible-ended rs ended))) ∙ sym (possible-open rs job slot what)))
open_launched rs job slot what NotStarted old new ended was is = inl (is ∙ (append-nil old ∙ (was ∙ ap run_launches (sym (children-open rs job slot what)))))

one_more : (rs : List JobRun) (job : JobId) (slot : SlotId) (what : Launch) → HaveEnded rs → length (possible_runs (rs ++ run_with job slot what None ∷ [])) ≡ length (child_runs rs) + 1
one_more rs job slot what ended =
    let all : length (run_launches (possible_runs (rs ++ run_with job slot what None ∷ []))) ≡ length (run_launches (possible_runs rs) ++ what ∷ []) = ap (λ (l : List Launch). length l) (possible-open rs job slot what) in
    let same : length (possible_runs rs) ≡ length (child_runs rs) = ap (λ (l : List JobRun). length l) (possible-ended rs ended) in
    omega (arith, all, length-append (run_launches (possible_runs rs)) (what ∷ []), length-launches (possible_runs rs), length-launches (possible_runs (rs ++ run_with job slot what None ∷ [])), same)

open_counted : (rs : List JobRun) (job : JobId) (slot : SlotId) (what : Launch) (end : End) (old new : ℕ) → HaveEnded rs → old ≡ length (child_runs rs) → new ≡ old + length (child_launch what end) → IsChildCount (rs ++ run_with job slot what None ∷ []) new
open_counted rs job slot what (Exited code) old new ended was is = inr (omega (arith, was, is, one_more rs job slot what ended))
open_counted rs job slot what (Signalled signal) old new ended was is = inr (omega (arith, was, is, one_more rs job slot what ended))
open_counted rs job slot what NotStarted old new ended was is = inl (let same : length (child_runs (rs ++ run_with job slot what None ∷ [])) ≡ length (child_runs rs) = ap (λ (l : List JobRun). length l) (children-open rs job slot what) in omega (arith, was, is, same))

-- its child was launched and looked at
pub follows_open : (job : JobId) (slot : SlotId) (what : Launch) (end : End) (first old now : SpawnerSeen) (rs : List JobRun) → HaveEnded rs → RunsChild what end old now → HasLaunched old rs → Follows first old rs → Follows first now (rs ++ run_with job slot what None ∷ [])
follows_open job slot what end first old now rs ended run has follows = record {
  told = run.told ∙ follows.told;
  served = λ told.
      let tells : old.tells ≡ true = follows.told ∙ told in
      record {
        launched = open_launched rs job slot what end old.launches now.launches ended (has.launched tells) (run.launched tells);
        ended = rw (children-open rs job slot what) (still_seen (child_runs rs) old.count old.seen now.seen (sym has.counted) (run.others tells) (follows.served told).ended);
        spared = λ child. run.spared tells child ∙ (follows.served told).spared child;
      };
  counted = open_counted rs job slot what end old.count now.count ended has.counted run.counted;
  not_started = open_count rs job slot what first.faults old.faults now.faults run.later follows.not_started;
}

-- out of memory: nothing was launched
pub follows_no_child : (job : JobId) (slot : SlotId) (what : Launch) (first old now : SpawnerSeen) (rs : List JobRun) → RunsNoChild old now → HasLaunched old rs → Follows first old rs → Follows first now (rs ++ run_with job slot what None ∷ [])
follows_no_child job slot what first old now rs run has follows = record {
  told = run.told ∙ follows.told;
  served = λ told.
      let tells : old.tells ≡ true = follows.told ∙ told in
      record {
        launched = inl (run.launched tells ∙ (has.launched tells ∙ ap run_launches (sym (children-open rs job slot what))));
        ended = rw (children-open rs job slot what) (still_seen (child_runs rs) old.count old.seen now.seen (sym has.counted) (run.others tells) (follows.served told).ended);
        spared = λ child. run.spared tells child ∙ (follows.served told).spared child;
      };
  counted = inl (run.counted ∙ (has.counted ∙ ap (λ (l : List JobRun). length l) (sym (children-open rs job slot what))));
  not_started = open_count rs job slot what first.faults old.faults now.faults run.later follows.not_started;
}

-- ---- all machines

own-more : (machine : ℕ) (rs : List JobRun) (r : JobRun) → r.slot.machine ≡ machine → runs_on machine (rs ++ r ∷ []) ≡ runs_on machine rs ++ r ∷ []
own-more machine rs r is = filter-append _ rs (r ∷ []) ∙ ap (λ (b : Bool). runs_on machine rs ++ (if b then r ∷ [] else [])) (eq-eqb r.slot.machine machine is)

others-more : (machine : ℕ) (rs : List JobRun) (r : JobRun) → (r.slot.machine == machine) ≡ false → runs_on machine (rs ++ r ∷ []) ≡ runs_on machine rs
others-more machine rs r is = filter-append _ rs (r ∷ []) ∙ (ap (λ (b : Bool). runs_on machine rs ++ (if b then r ∷ [] else [])) is ∙ append-nil _)

is_other : (a b : ℕ) → (a == b) ≡ false → b ≢ a
is_other a b test same = true≢false (sym (eq-eqb a b (sym same)) ∙ test)

within_some : {P : Type 0} (xs : List P) (k : ℕ) → k < length xs → slice_get xs k ≡ None → ⊥
within_some [] k below none = absurd (omega arith)
within_some (x ∷ xs) zero below none = cc
within_some (x ∷ xs) (suc k) below none = within_some xs k (omega arith) none

-- what is kept by a run of its own spawner is kept of each spawner
pub each_more : {P : Type 0} (spawner : P → SpawnerSeen) (old new : List P) (rs : List JobRun) (r : JobRun) (A : SpawnerSeen → List JobRun → Type 0) → r.slot.machine < length old → ((m : ℕ) → m ≢ r.slot.machine → slice_get new m ≡ slice_get old m)
    → ((s t : P) → slice_get old r.slot.machine ≡ Some s → slice_get new r.slot.machine ≡ Some t → A (spawner s) (runs_on r.slot.machine rs) → A (spawner t) (runs_on r.slot.machine rs ++ r ∷ []))
    → (machine : ℕ) → IfSome (spawner_at spawner old machine) (λ s. A s (runs_on machine rs)) → IfSome (spawner_at spawner new machine) (λ s. A s (runs_on machine (rs ++ r ∷ [])))
each_more {P} spawner old new rs r A below others own machine was = by (r.slot.machine == machine) refl
  where
    at_own : (s t : Option P) → slice_get old r.slot.machine ≡ s → slice_get new r.slot.machine ≡ t → IfSome (option_map spawner s) (λ x. A x (runs_on r.slot.machine rs)) → IfSome (option_map spawner t) (λ x. A x (runs_on r.slot.machine rs ++ r ∷ []))
    at_own s None there here h = tt
    at_own None (Some t) there here h = absurd (no_such there)
      where
        no_such : slice_get old r.slot.machine ≡ None → ⊥
        no_such none = within_some old r.slot.machine below none
    at_own (Some s) (Some t) there here h = own s t there here h

    by : (b : Bool) → (r.slot.machine == machine) ≡ b → IfSome (spawner_at spawner new machine) (λ s. A s (runs_on machine (rs ++ r ∷ [])))
    by true is =
        let same : r.slot.machine ≡ machine = eqb-true r.slot.machine machine is in
        subst (λ (m : ℕ). IfSome (spawner_at spawner new m) (λ s. A s (runs_on m (rs ++ r ∷ [])))) same
        (rw (own-more r.slot.machine rs r refl) (at_own (slice_get old r.slot.machine) (slice_get new r.slot.machine) refl refl (subst (λ (m : ℕ). IfSome (spawner_at spawner old m) (λ s. A s (runs_on m rs))) (sym same) was)))
    by false is = rw (others-more machine rs r is, others machine (is_other r.slot.machine machine is)) was

no_snoc : {A : Type 0} (xs : List A) (x : A) → xs ++ x ∷ [] ≡ [] → ⊥
no_snoc [] x e = cc
no_snoc (y ∷ ys) x e = cc

-- the spawners of other machines are as they were
pub untouched_more : {P : Type 0} (old new : List P) (rs : List JobRun) (r : JobRun) → ((m : ℕ) → m ≢ r.slot.machine → slice_get new m ≡ slice_get old m) → StayUntouched old new rs (rs ++ r ∷ [])
untouched_more old new rs r others first untouched machine none = by (r.slot.machine == machine) refl
  where
    by : (b : Bool) → (r.slot.machine == machine) ≡ b → slice_get new machine ≡ slice_get first machine
    by true is = absurd (no_snoc (runs_on machine rs) r (sym (own-more machine rs r (eqb-true r.slot.machine machine is)) ∙ none))
    by false is = others machine (is_other r.slot.machine machine is) ∙ untouched machine (sym (others-more machine rs r is) ∙ none)

has_launched : {P : Type 0} (spawner : P → SpawnerSeen) (old : List P) (rs : List JobRun) (m : ℕ) (s : P) → IsBetween spawner old rs → slice_get old m ≡ Some s → HasLaunched (spawner s) (runs_on m rs)
has_launched {P} spawner old rs m s between was = subst (λ (o : Option P). IfSome (option_map spawner o) (λ x. HasLaunched x (runs_on m rs))) was (between.launched m)

-- each spawner goes on following, where that of the run's machine does
pub goes_on : {P : Type 0} (spawner : P → SpawnerSeen) (old new : List P) (before after : List JobRun) (r : JobRun) → after ≡ before ++ r ∷ [] → r.slot.machine < length old → ((m : ℕ) → m ≢ r.slot.machine → slice_get new m ≡ slice_get old m) → IsBetween spawner old before
    → ((s t : P) → slice_get old r.slot.machine ≡ Some s → slice_get new r.slot.machine ≡ Some t → (first : SpawnerSeen) → HaveEnded (runs_on r.slot.machine before) → HasLaunched (spawner s) (runs_on r.slot.machine before) → Follows first (spawner s) (runs_on r.slot.machine before) → Follows first (spawner t) (runs_on r.slot.machine before ++ r ∷ []))
    → EachGoesOn spawner old new before after
goes_on {P} spawner old new before after r is below others between own machine first follow =
    subst (λ (l : List JobRun). IfSome (spawner_at spawner new machine) (λ s. Follows first s (runs_on machine l))) (sym is)
    (each_more spawner old new before r (λ s l. Follows first s l) below others (λ s t was now f. own s t was now first (ended_on r.slot.machine before between.ended) (has_launched spawner old before r.slot.machine s between was) f) machine follow)

-- no run is under way again once it has ended
pub between_again : {P : Type 0} (spawner : P → SpawnerSeen) (old new : List P) (before after : List JobRun) (job : JobId) (slot : SlotId) (what : Launch) (end : End) → after ≡ before ++ run_with job slot what (Some end) ∷ [] → slot.machine < length old → ((m : ℕ) → m ≢ slot.machine → slice_get new m ≡ slice_get old m) → IsBetween spawner old before → RunsOne spawner slot.machine old new (λ s t. RunsChild what end s t) → IsBetween spawner new after
between_again spawner old new before after job slot what end is below others between run =
    let r = run_with job slot what (Some end) in
    rw is (record {
      ended = ended_more before r between.ended refl;
      launched = λ m. each_more spawner old new before r (λ s l. HasLaunched s l) below others (λ s t was now has. launched_ended job slot what end (spawner s) (spawner t) (runs_on slot.machine before) (run s t was now) has) m (between.launched m);
    })

pub stays_untouched : {P : Type 0} (old new : List P) (before after : List JobRun) (r : JobRun) → after ≡ before ++ r ∷ [] → ((m : ℕ) → m ≢ r.slot.machine → slice_get new m ≡ slice_get old m) → StayUntouched old new before after
stays_untouched old new before after r is others = rw is (untouched_more old new before r others)

-- ---- the beginning

-- a spawner that has launched nothing
pub record IsIdle (spawner : SpawnerSeen) : Type 0 where
  pub none : spawner.count ≡ 0
  pub all : spawner.tells ≡ true → length spawner.launches ≡ spawner.count
  pub spared : spawner.tells ≡ true → (k : ℕ) → spawner.killed k ≡ false

-- each of the spawners
abbrev pub AreIdle : {P : Type 0} → (P → SpawnerSeen) → List P → Type 0
AreIdle {P} spawner spawners = (m : ℕ) (s : P) → slice_get spawners m ≡ Some s → IsIdle (spawner s)

no_launches : (launches : List Launch) → length launches ≡ 0 → launches ≡ []
no_launches [] none = refl
no_launches (l ∷ ls) none = absurd (omega arith)

launched_none : (s : SpawnerSeen) → IsIdle s → HasLaunched s []
launched_none s idle = record { launched = λ told. no_launches s.launches (idle.all told ∙ idle.none); counted = idle.none }

pub follows_none : (s : SpawnerSeen) → IsIdle s → Follows s s []
follows_none s idle = record {
  told = refl;
  served = λ told. record { launched = inl (no_launches s.launches (idle.all told ∙ idle.none)); ended = λ k r end is ends. cc; spared = idle.spared told };
  counted = inl idle.none;
  not_started = omega arith;
}

pub between_none : {P : Type 0} (spawner : P → SpawnerSeen) (spawners : List P) (runs : List JobRun) → runs ≡ [] → AreIdle spawner spawners → IsBetween spawner spawners runs
between_none {P} spawner spawners runs none idle = rw none (record { ended = tt; launched = λ m. by m (slice_get spawners m) refl })
  where
    by : (m : ℕ) (o : Option P) → slice_get spawners m ≡ o → IfSome (option_map spawner o) (λ s. HasLaunched s [])
    by m None is = tt
    by m (Some s) is = launched_none (spawner s) (idle m s is)

-- what is so of all elements of a list is so of the one at a place
pub all_at : {P : Type 0} (A : P → Type 0) (xs : List P) (m : ℕ) (s : P) → All A xs → slice_get xs m ≡ Some s → A s
all_at A xs m s all is =
    let below : m < length xs = slice_get_within xs m s is in
    let there : slice_get xs m ≡ Some (get_or xs m s) = slice_get-get_or xs m s below in
    let same : get_or xs m s ≡ s = cc in
    subst A same (all m s below)

-- ---- one run on one spawner

set_own : {P : Type 0} (xs : List P) (k : ℕ) (x : P) → k < length xs → slice_get (set xs k x) k ≡ Some x
set_own [] k x below = absurd (omega arith)
set_own (y ∷ ys) zero x below = refl
set_own (y ∷ ys) (suc k) x below = set_own ys k x (omega arith)

pub set_other : {P : Type 0} (xs : List P) (k : ℕ) (x : P) (m : ℕ) → m ≢ k → slice_get (set xs k x) m ≡ slice_get xs m
set_other [] k x m other = refl
set_other (y ∷ ys) zero x zero other = absurd (other refl)
set_other (y ∷ ys) zero x (suc m) other = refl
set_other (y ∷ ys) (suc k) x zero other = refl
set_other (y ∷ ys) (suc k) x (suc m) other = set_other ys k x m (λ e. other (ap suc e))

runs_one : {P : Type 0} (spawner : P → SpawnerSeen) (old : List P) (machine : ℕ) (d new : P) (claim : SpawnerSeen → SpawnerSeen → Type 0) → machine < length old → claim (spawner (get_or old machine d)) (spawner new) → RunsOne spawner machine old (set old machine new) claim
runs_one {P} spawner old machine d new claim below holds s t was now =
    let first : Some (get_or old machine d) ≡ Some s = sym (slice_get-get_or old machine d below) ∙ was in
    let second : Some new ≡ Some t = sym (set_own old machine new below) ∙ now in
    let one : get_or old machine d ≡ s = cc in
    let two : new ≡ t = cc in
    subst (λ (x : P). claim (spawner x) (spawner t)) one (subst (λ (y : P). claim (spawner (get_or old machine d)) (spawner y)) two holds)

pub child_ran : (what : Launch) (r : Result End Memory) (old now : SpawnerSeen) → now.tells ≡ old.tells → (old.tells ≡ true → length old.launches ≡ old.count) → IfOk r (λ end. now.count ≡ old.count + length (child_launch what end)) → (old.tells ≡ true → IfOk r (λ end. now.launches ≡ old.launches ++ child_launch what end)) → (old.tells ≡ true → IfOk r (λ end. end ≢ NotStarted → now.seen old.count ≡ child_state end)) → (old.tells ≡ true → (k : ℕ) → k ≢ old.count → now.seen k ≡ old.seen k) → (old.tells ≡ true → (k : ℕ) → now.killed k ≡ old.killed k) → IfOk r (λ end. end ≡ NotStarted → Rose old.faults now.faults) → old.faults ≤ now.faults → IfOk r (λ end. RunsChild what end old now)
child_ran what (Ok end) old now told all counted launched looked others spared rose later = record { told = told; all = all; counted = counted; launched = launched; looked = looked; others = others; spared = spared; not_started = rose; later = later }
child_ran what (Err f) old now told all counted launched looked others spared rose later = tt

pub ran_on : {P : Type 0} (spawner : P → SpawnerSeen) (old : List P) (machine : ℕ) (d new : P) (what : Launch) (r : Result End Memory) → machine < length old → IfOk r (λ end. RunsChild what end (spawner (get_or old machine d)) (spawner new)) → IfOk r (λ end. RunsOne spawner machine old (set old machine new) (λ s t. RunsChild what end s t))
ran_on spawner old machine d new what (Ok end) below ran = runs_one spawner old machine d new (λ s t. RunsChild what end s t) below ran
ran_on spawner old machine d new what (Err f) below ran = tt

pub no_child_ran : (r : Result End Memory) (old now : SpawnerSeen) → now.tells ≡ old.tells → (old.tells ≡ true → length old.launches ≡ old.count) → OnErr r (now.count ≡ old.count) → (old.tells ≡ true → OnErr r (now.launches ≡ old.launches)) → (old.tells ≡ true → (k : ℕ) → k ≢ old.count → now.seen k ≡ old.seen k) → (old.tells ≡ true → (k : ℕ) → now.killed k ≡ old.killed k) → old.faults ≤ now.faults → OnErr r (RunsNoChild old now)
no_child_ran (Ok end) old now told all counted launched others spared later = tt
no_child_ran (Err f) old now told all counted launched others spared later = record { told = told; all = all; counted = counted; launched = launched; others = others; spared = spared; later = later }

pub none_ran_on : {P : Type 0} (spawner : P → SpawnerSeen) (old : List P) (machine : ℕ) (d new : P) (r : Result End Memory) → machine < length old → OnErr r (RunsNoChild (spawner (get_or old machine d)) (spawner new)) → OnErr r (RunsOne spawner machine old (set old machine new) (λ s t. RunsNoChild s t))
none_ran_on spawner old machine d new (Ok end) below ran = tt
none_ran_on spawner old machine d new (Err f) below ran = runs_one spawner old machine d new (λ s t. RunsNoChild s t) below ran

-- a lent slice that is as long as before stands for the whole
pub lent_whole : {P : Type 0} (items new : List P) (len : ℕ) → len ≡ length items → length new ≡ length items → take len (new ++ drop (length new) items) ≡ new
lent_whole [] [] len long same = rw long refl
lent_whole [] (y ∷ ys) len long same = absurd (omega arith)
lent_whole (x ∷ xs) [] len long same = absurd (omega arith)
lent_whole {P} (x ∷ xs) (y ∷ ys) len long same = rw long (ap (λ (l : List P). y ∷ l) (lent_whole xs ys (length xs) refl (omega arith)))

-- ---- a step that begins and ends no run

pub goes_on_same : {P : Type 0} (spawner : P → SpawnerSeen) (now : List P) (before after : List JobRun) → after ≡ before → (machine : ℕ) (first : SpawnerSeen) → IfSome (spawner_at spawner now machine) (λ s. Follows first s (runs_on machine before)) → IfSome (spawner_at spawner now machine) (λ s. Follows first s (runs_on machine after))
goes_on_same spawner now before after same machine first follow = rw same follow

pub between_same : {P : Type 0} (spawner : P → SpawnerSeen) (now : List P) (before after : List JobRun) → after ≡ before → IsBetween spawner now before → IsBetween spawner now after
between_same spawner now before after same between = rw same between

pub untouched_same : {P : Type 0} (first now : List P) (before after : List JobRun) → after ≡ before → AreUntouched first now before → AreUntouched first now after
untouched_same first now before after same untouched = rw same untouched
