-- What a pool's part of a run leaves: without a pool, and with one that was closed or not.
use Rattle.std.proofs.Common.{◌≡◌, ◌≢◌, ◌∙◌, ◌⊎◌, inl, inr, ℕ, ◌≤◌, Result, Err, List, [], ◌∷◌, ◌++◌, length, take, Bool, true, false, Option, Some, None, IfSome, slice_get, refl, sym, ap, subst, arith}
use Rattle.std.specs.Option.{option_map}
use Rattle.std.proofs.lemmas.List.{append-nil}
use Rattle.pool_outer.specs.Cause.{Rose}
use Rattle.pool_outer.specs.declared.limit.Which.TheVariants as which
use Rattle.pool_outer.specs.Files.{Contents}
use Rattle.thin_pool.specs.declared.history.History.{History}
use Rattle.thin_pool.specs.declared.history.Step.{Step}
use Rattle.thin_pool.specs.PoolValue.{PoolValue}
use Rattle.thin_pool.specs.Histories.{LeadsTo, IsHistory, Shows, ends_in_close, submissions_in}
use Rattle.thin_pool.specs.Moving.{EachMoves}
use Rattle.thin_pool.specs.Reactions.{opening_pool, pool_after}
use Rattle.pool_input.specs.declared.status.Status.{Status}
use Rattle.pool_input.specs.declared.status.Status.TheVariants as status
use Rattle.pool_input.specs.declared.words.WordsError.{WordsError}
use Rattle.pool_input.specs.declared.words.WordsError.TheVariants as words_error
use Rattle.pool_input.specs.Faults.{UnlessFault}
use Rattle.pool_input.specs.Input.{IsOfFiles, OfFilesFrom, OfInputFrom, IsRefusedByFiles, IsInputRefused}
use Rattle.pool_input.specs.Words.{IsRun, IsNoRun}
use Rattle.pool_input.specs.Readings.{AreRead}
use Rattle.pool_input.specs.Status.{Stage, AtWords, AtFiles, AtAnyTime, AfterClose, Later, stage_of, IsBeforePool, IsAtFiles, IsAfterFiles, IsToday, IsRefusal}
use Rattle.pool_master.specs.Runs.{JobRun, runs_in, runs_on}
use Rattle.pool_master.specs.Follows.{Follows, HasLaunched, spawner_at, IsBetween, EachGoesOn, AreUntouched, AtEach}
use Rattle.pool_master.specs.Seen.{SpawnerSeen, SinkSeen}
use Rattle.pool_master.specs.UserLog.{IsUserLog}
use Rattle.pool_master.specs.WholeRun.{last_pool, job_left, ClosesFrom, IsClosed, IsReplay, WritesPart, WritesAll, PoolRuns, HasNothing, IsPrinted, IsAllWritten}
use Rattle.pool_master.proofs.Spawners.{AreIdle, follows_none}

no_done : {A : Type 0} (s : Status) → stage_of s ≢ AfterClose → s ≡ status.Done → A
no_done s early is = absurd (early (ap stage_of is))

no_stuck : {A : Type 0} (s : Status) → stage_of s ≢ AfterClose → s ≡ status.Stuck → A
no_stuck s early is = absurd (early (ap stage_of is))

no_out_fault : {A : Type 0} (s : Status) → stage_of s ≢ AfterClose → s ≡ status.OutFault → A
no_out_fault s early is = absurd (early (ap stage_of is))

not_closed : {A : Type 0} (h : History) (left : Bool) → h.opening ≡ None → IsClosed h left → A
not_closed h left none closed = absurd (subst (λ (o : Option PoolValue). ClosesFrom o h.list left) none closed)

same_place : {P : Type 0} (xs : List P) (m : ℕ) (s t : P) → slice_get xs m ≡ Some s → slice_get xs m ≡ Some t → s ≡ t
same_place xs m s t one other = let both : Some s ≡ Some t = sym one ∙ other in cc

-- no pool was opened
pub nothing_runs : {P K : Type 0} (allows : ℕ → Type 0) (spawner : P → SpawnerSeen) (ps : List P) (sink : K → SinkSeen) (o : K) (s : Status) (h : History) → HasNothing h → h.load ≡ false → stage_of s ≢ AfterClose → AreIdle spawner ps → PoolRuns allows spawner ps ps sink o o s h
nothing_runs allows spawner ps sink o s h nothing load early idle = record {
  replay = record { replays = rw nothing.no_opening nothing.none; no_load = load };
  safe = rw nothing.no_opening tt;
  read = rw nothing.none (record { allowed = λ k d below. absurd (omega arith); in_range = λ k d below. absurd (omega arith) });
  follows = λ m a b was is. rw (nothing.none, ← same_place ps m a b was is) (follows_none (spawner a) (idle m a was));
  untouched = λ m none. refl;
  all_launched = λ left closed. not_closed h left nothing.no_opening closed;
  all_ended = λ left closed. not_closed h left nothing.no_opening closed;
  written = λ told. inl refl;
  all_written = λ told ends. record { text = []; is_log = rw nothing.no_opening refl; written = sym (append-nil _) };
  done = λ is. no_done s early is;
  done_comes = λ closed quiet. not_closed h false nothing.no_opening closed;
  stuck = λ is. no_stuck s early is;
  stuck_comes = λ closed quiet. not_closed h true nothing.no_opening closed;
  out_fault = λ is. no_out_fault s early is;
}

-- a history leads to one pool
pub leads_after : (p : PoolValue) (list : List Step) (q : PoolValue) → LeadsTo p list q → q ≡ last_pool p list
leads_after p [] q leads = leads
leads_after p (s ∷ ss) q leads = leads_after (pool_after p s.event) ss q leads.1

-- what is known of a history and the pool that it leads to
pub record IsPlayed (h : History) (p : PoolValue) : Type 0 where
  pub opening : PoolValue
  pub opening_is : h.opening ≡ Some opening
  pub opened : opening ≡ opening_pool opening.slots
  pub no_load : h.load ≡ false
  pub leads : LeadsTo opening h.list p
  pub moves : EachMoves opening h.list
  pub closed : p.closed ≡ ends_in_close h.list

pub played : (o : PoolValue) (list : List Step) (h : History) (p : PoolValue) → o ≡ opening_pool o.slots → h.list ≡ list → IsHistory o.slots h p → EachMoves o list → Shows o.slots list p → IsPlayed h p
played o list h p opened same is moves shows = record {
  opening = o;
  opening_is = is.opening ∙ ap Some (sym opened);
  opened = opened;
  no_load = is.no_load;
  leads = subst (λ (q : PoolValue). LeadsTo q h.list p) (sym opened) is.leads;
  moves = subst (λ (l : List Step). EachMoves o l) (sym same) moves;
  closed = shows.closed ∙ ap ends_in_close (sym same);
}

pub played_replay : (h : History) (p : PoolValue) → IsPlayed h p → IsReplay h
played_replay h p is = record {
  replays = rw is.opening_is (is.opened, subst (λ (q : PoolValue). LeadsTo is.opening h.list q) (leads_after is.opening h.list p is.leads) is.leads);
  no_load = is.no_load;
}

-- a history is closed where its pool is, with that pool's job left or not
pub closes : (h : History) (p : PoolValue) → IsPlayed h p → p.closed ≡ true → IsClosed h (job_left p)
closes h p is closed = rw is.opening_is (sym is.closed ∙ closed, ap job_left (sym (leads_after is.opening h.list p is.leads)))

pub closed_so : (h : History) (p : PoolValue) (left : Bool) → IsPlayed h p → IsClosed h left → (p.closed ≡ true) × (job_left p ≡ left)
closed_so h p left is closed =
    let c = subst (λ (o : Option PoolValue). ClosesFrom o h.list left) is.opening_is closed in
    (is.closed ∙ c.0, ap job_left (leads_after is.opening h.list p is.leads) ∙ c.1)

-- How the run ended, by what was printed.

done_of : (s : Status) (left : Bool) (before now : ℕ) (h : History) → IsPrinted left before now s → IsClosed h left → s ≡ status.Done → IsClosed h false × (now ≡ before)
done_of s left before now h printed closed is =
    let p = subst (IsPrinted left before now) is printed in
    (subst (IsClosed h) p.0 closed, p.1)

stuck_of : (s : Status) (left : Bool) (before now : ℕ) (h : History) → IsPrinted left before now s → IsClosed h left → s ≡ status.Stuck → IsClosed h true × (now ≡ before)
stuck_of s left before now h printed closed is =
    let p = subst (IsPrinted left before now) is printed in
    (subst (IsClosed h) p.0 closed, p.1)

out_fault_of : (s : Status) (left : Bool) (before now : ℕ) → IsPrinted left before now s → s ≡ status.OutFault → Rose before now
out_fault_of s left before now printed is = subst (IsPrinted left before now) is printed

done_comes_of : (s : Status) (left : Bool) (before now : ℕ) → IsPrinted left before now s → left ≡ false → ¬ Rose before now → (s ≡ status.Done) ⊎ (s ≡ status.Memory)
done_comes_of status.Done left before now printed is quiet = inl refl
done_comes_of status.Usage left before now printed is quiet = absurd printed
done_comes_of (status.Input file line kind) left before now printed is quiet = absurd printed
done_comes_of status.Stuck left before now printed is quiet = let clash : true ≡ false = sym printed.0 ∙ is in cc
done_comes_of status.DiskFault left before now printed is quiet = absurd printed
done_comes_of status.OutFault left before now printed is quiet = absurd (quiet printed)
done_comes_of status.Memory left before now printed is quiet = inr refl
done_comes_of (status.BadLog line) left before now printed is quiet = absurd printed
done_comes_of (status.Limit which) left before now printed is quiet = absurd printed

stuck_comes_of : (s : Status) (left : Bool) (before now : ℕ) → IsPrinted left before now s → left ≡ true → ¬ Rose before now → (s ≡ status.Stuck) ⊎ (s ≡ status.Memory)
stuck_comes_of status.Done left before now printed is quiet = let clash : false ≡ true = sym printed.0 ∙ is in cc
stuck_comes_of status.Usage left before now printed is quiet = absurd printed
stuck_comes_of (status.Input file line kind) left before now printed is quiet = absurd printed
stuck_comes_of status.Stuck left before now printed is quiet = inl refl
stuck_comes_of status.DiskFault left before now printed is quiet = absurd printed
stuck_comes_of status.OutFault left before now printed is quiet = absurd (quiet printed)
stuck_comes_of status.Memory left before now printed is quiet = inr refl
stuck_comes_of (status.BadLog line) left before now printed is quiet = absurd printed
stuck_comes_of (status.Limit which) left before now printed is quiet = absurd printed

closed_alone : (s : Status) (left : Bool) (before now : ℕ) → IsPrinted left before now s → IsAllWritten s → (s ≡ status.Done) ⊎ (s ≡ status.Stuck)
closed_alone status.Done left before now printed all = inl refl
closed_alone status.Usage left before now printed all = absurd printed
closed_alone (status.Input file line kind) left before now printed all = absurd printed
closed_alone status.Stuck left before now printed all = inr refl
closed_alone status.DiskFault left before now printed all = absurd printed
closed_alone status.OutFault left before now printed all = absurd all
closed_alone status.Memory left before now printed all = absurd all
closed_alone (status.BadLog line) left before now printed all = absurd printed
closed_alone (status.Limit which) left before now printed all = absurd printed

-- what is so of each spawner that is there, by its place
at_place : {P : Type 0} (spawner : P → SpawnerSeen) (ps : List P) (m : ℕ) (t : P) (A : SpawnerSeen → Type 0) → slice_get ps m ≡ Some t → IfSome (spawner_at spawner ps m) A → A (spawner t)
at_place {P} spawner ps m t A is all = subst (λ (o : Option P). IfSome (option_map spawner o) A) is all

of_place : {P : Type 0} (spawner : P → SpawnerSeen) (ps : List P) (m : ℕ) (t : P) (A : SpawnerSeen → Type 0) → slice_get ps m ≡ Some t → A (spawner t) → IfSome (spawner_at spawner ps m) A
of_place {P} spawner ps m t A is one = subst (λ (o : Option P). IfSome (option_map spawner o) A) (sym is) one

-- the spawners follow the runs from none on
pub follows_all : {P : Type 0} (spawner : P → SpawnerSeen) (first now : List P) (before after : List JobRun) → before ≡ [] → AreIdle spawner first → EachGoesOn spawner first now before after → AtEach first now (λ m s t. Follows (spawner s) (spawner t) (runs_on m after))
follows_all {P} spawner first now before after none idle goes m s t was is =
    at_place spawner now m t (λ x. Follows (spawner s) x (runs_on m after)) is
    (goes m (spawner s) (of_place spawner first m s (λ x. Follows (spawner s) x (runs_on m before)) was (rw none (follows_none (spawner s) (idle m s was)))))

-- the pool was closed, and its log was printed or not
pub printed_runs : {P K : Type 0} (allows : ℕ → Type 0) (spawner : P → SpawnerSeen) (first now : List P) (sink : K → SinkSeen) (o q : K) (s : Status) (h : History) (p : PoolValue) → IsPlayed h p → p.closed ≡ true → AreRead allows h.list → AtEach first now (λ m a b. Follows (spawner a) (spawner b) (runs_on m (runs_in h.list))) → AreUntouched first now (runs_in h.list) → IsBetween spawner now (runs_in h.list) → ((sink o).tells ≡ true → WritesPart h (sink o).written (sink q).written) → ((sink o).tells ≡ true → (s ≡ status.Done) ⊎ (s ≡ status.Stuck) → WritesAll h (sink o).written (sink q).written) → IsPrinted (job_left p) (sink o).faults (sink q).faults s → PoolRuns allows spawner first now sink o q s h
printed_runs allows spawner first now sink o q s h p is closed read follows untouched between part whole printed = record {
  replay = played_replay h p is;
  safe = rw is.opening_is is.moves;
  read = read;
  follows = follows;
  untouched = untouched;
  all_launched = λ left c m a b was at. at_place spawner now m b (λ x. HasLaunched x (runs_on m (runs_in h.list))) at (between.launched m);
  all_ended = λ left c. between.ended;
  written = part;
  all_written = λ told ends. whole told (closed_alone s (job_left p) _ _ printed ends);
  done = λ e. done_of s (job_left p) _ _ h printed (closes h p is closed) e;
  done_comes = λ c quiet. done_comes_of s (job_left p) _ _ printed (closed_so h p false is c).1 quiet;
  stuck = λ e. stuck_of s (job_left p) _ _ h printed (closes h p is closed) e;
  stuck_comes = λ c quiet. stuck_comes_of s (job_left p) _ _ printed (closed_so h p true is c).1 quiet;
  out_fault = λ e. (out_fault_of s (job_left p) _ _ printed e, (job_left p, closes h p is closed));
}

-- the same, where the history's list is known by another name
pub printed_after : {P K : Type 0} (allows : ℕ → Type 0) (spawner : P → SpawnerSeen) (first now : List P) (sink : K → SinkSeen) (o q : K) (s : Status) (h : History) (p : PoolValue) (list : List Step) → IsPlayed h p → h.list ≡ list → p.closed ≡ true → AreRead allows list → AtEach first now (λ m a b. Follows (spawner a) (spawner b) (runs_on m (runs_in list))) → AreUntouched first now (runs_in list) → IsBetween spawner now (runs_in list) → ((sink o).tells ≡ true → WritesPart h (sink o).written (sink q).written) → ((sink o).tells ≡ true → (s ≡ status.Done) ⊎ (s ≡ status.Stuck) → WritesAll h (sink o).written (sink q).written) → IsPrinted (job_left p) (sink o).faults (sink q).faults s → PoolRuns allows spawner first now sink o q s h
printed_after allows spawner first now sink o q s h p list is same closed read follows untouched between part whole printed =
    let back = sym same in
    printed_runs allows spawner first now sink o q s h p is closed
    (subst (λ (l : List Step). AreRead allows l) back read)
    (subst (λ (l : List Step). AtEach first now (λ m a b. Follows (spawner a) (spawner b) (runs_on m (runs_in l)))) back follows)
    (subst (λ (l : List Step). AreUntouched first now (runs_in l)) back untouched)
    (subst (λ (l : List Step). IsBetween spawner now (runs_in l)) back between)
    part whole printed

open_pool_clash : {A : Type 0} (h : History) (p : PoolValue) (left : Bool) → IsPlayed h p → p.closed ≢ true → IsClosed h left → A
open_pool_clash h p left is open_ closed = absurd (open_ (closed_so h p left is closed).0)

-- out of memory before the pool was closed
pub open_runs : {P K : Type 0} (allows : ℕ → Type 0) (spawner : P → SpawnerSeen) (first now : List P) (sink : K → SinkSeen) (o : K) (h : History) (p : PoolValue) → IsPlayed h p → p.closed ≢ true → AreRead allows h.list → AtEach first now (λ m a b. Follows (spawner a) (spawner b) (runs_on m (runs_in h.list))) → AreUntouched first now (runs_in h.list) → PoolRuns allows spawner first now sink o o status.Memory h
open_runs allows spawner first now sink o h p is open_ read follows untouched = record {
  replay = played_replay h p is;
  safe = rw is.opening_is is.moves;
  read = read;
  follows = follows;
  untouched = untouched;
  all_launched = λ left c. open_pool_clash h p left is open_ c;
  all_ended = λ left c. open_pool_clash h p left is open_ c;
  written = λ told. inl refl;
  all_written = λ told ends. absurd ends;
  done = λ e. cc;
  done_comes = λ c quiet. open_pool_clash h p false is open_ c;
  stuck = λ e. cc;
  stuck_comes = λ c quiet. open_pool_clash h p true is open_ c;
  out_fault = λ e. cc;
}

pub open_after : {P K : Type 0} (allows : ℕ → Type 0) (spawner : P → SpawnerSeen) (first now : List P) (sink : K → SinkSeen) (o : K) (h : History) (p : PoolValue) (list : List Step) → IsPlayed h p → h.list ≡ list → p.closed ≢ true → AreRead allows list → AtEach first now (λ m a b. Follows (spawner a) (spawner b) (runs_on m (runs_in list))) → AreUntouched first now (runs_in list) → PoolRuns allows spawner first now sink o o status.Memory h
open_after allows spawner first now sink o h p list is same open_ read follows untouched =
    let back = sym same in
    open_runs allows spawner first now sink o h p is open_
    (subst (λ (l : List Step). AreRead allows l) back read)
    (subst (λ (l : List Step). AtEach first now (λ m a b. Follows (spawner a) (spawner b) (runs_on m (runs_in l)))) back follows)
    (subst (λ (l : List Step). AreUntouched first now (runs_in l)) back untouched)

-- A log that was made is the log: what was written of it is a prefix of the log.
pub writes_part : (h : History) (log old new : List ℕ) → IsUserLog h log → (n : ℕ) × (new ≡ old ++ take n log) → WritesPart h old new
writes_part h log old new is part = inr (log, part.0, is, part.1)

take_all : (xs : List ℕ) → take (length xs) xs ≡ xs
take_all [] = refl
take_all (x ∷ xs) = ap (λ (t : List ℕ). x ∷ t) (take_all xs)

pub writes_whole : (h : History) (log old new : List ℕ) → IsUserLog h log → new ≡ old ++ log → WritesPart h old new
writes_whole h log old new is whole = inr (log, length log, is, whole ∙ ap (λ (t : List ℕ). old ++ t) (sym (take_all log)))

pub printed_late : (left : Bool) (before now : ℕ) (s : Status) → IsPrinted left before now s → IsAfterFiles (stage_of s)
printed_late left before now status.Done printed = tt
printed_late left before now status.Usage printed = absurd printed
printed_late left before now (status.Input file line kind) printed = absurd printed
printed_late left before now status.Stuck printed = tt
printed_late left before now status.DiskFault printed = absurd printed
printed_late left before now status.OutFault printed = tt
printed_late left before now status.Memory printed = tt
printed_late left before now (status.BadLog line) printed = absurd printed
printed_late left before now (status.Limit which) printed = absurd printed

pub files_no_close : (s : Stage) → IsAtFiles s → s ≢ AfterClose
files_no_close AtWords early = absurd early
files_no_close AtFiles early = λ is. cc
files_no_close AtAnyTime early = λ is. cc
files_no_close AfterClose early = absurd early
files_no_close Later early = absurd early

-- ---- stages

at_today : (s : Stage) → IsAtFiles s → IsToday s
at_today AtWords early = absurd early
at_today AtFiles early = tt
at_today AtAnyTime early = tt
at_today AfterClose early = tt
at_today Later early = absurd early

pub files_today : (s : Status) → IsAtFiles (stage_of s) → IsToday (stage_of s) × (s ≢ status.Usage)
files_today s early = (at_today (stage_of s) early, λ is. subst (λ (x : Status). IsAtFiles (stage_of x)) is early)

after_today : (s : Stage) → IsAfterFiles s → IsToday s
after_today AtWords late = absurd late
after_today AtFiles late = absurd late
after_today AtAnyTime late = tt
after_today AfterClose late = tt
after_today Later late = absurd late

pub late_today : (s : Status) → IsAfterFiles (stage_of s) → IsToday (stage_of s) × (s ≢ status.Usage)
late_today s late = (after_today (stage_of s) late, λ is. subst (λ (x : Status). IsAfterFiles (stage_of x)) is late)

pub late_no_fault : (s : Status) → IsAfterFiles (stage_of s) → s ≢ status.DiskFault
late_no_fault s late = λ is. subst (λ (x : Status). IsAfterFiles (stage_of x)) is late

pub late_not_early : (s : Stage) → IsAfterFiles s → IsBeforePool s → ⊥
late_not_early AtWords late early = late
late_not_early AtFiles late early = late
late_not_early AtAnyTime late early = early
late_not_early AfterClose late early = early
late_not_early Later late early = late

-- ---- what the files say

-- the history goes on submitting what it did
pub of_files : (allows : ℕ → Type 0) (file : Contents) (config : List ℕ) (submits : List (List ℕ)) (o : PoolValue) (opening : Option PoolValue) (before after : List Step) → opening ≡ Some o → submissions_in after ≡ submissions_in before → IsOfFiles allows file config submits o before → OfFilesFrom allows file config submits opening after
of_files allows file config submits o opening before after is same files = rw is (record {
  configuration = files.configuration;
  configured = files.configured;
  opening_is = files.opening_is;
  submitted = rw same files.submitted;
})

-- and the files are those that the words name
pub files_of_input : (allows : ℕ → Type 0) (file : Contents) (words : List (List ℕ)) (config : List ℕ) (submits : List (List ℕ)) (opening : Option PoolValue) (list : List Step) → IsRun words config submits → OfFilesFrom allows file config submits opening list → OfInputFrom allows file words opening list
files_of_input allows file words config submits None list is files = tt
files_of_input allows file words config submits (Some p) list is files = record { config = config; submits = submits; words_are = is; files = files }

-- a status that refuses a file is no fault of the disk and no want of memory
pub refusal_of : (P : Status → Type 0) (s : Status) → IsRefusal s → UnlessFault P s → P s
refusal_of P status.Done refuses is = absurd refuses
refusal_of P status.Usage refuses is = absurd refuses
refusal_of P (status.Input file line kind) refuses is = is
refusal_of P status.Stuck refuses is = absurd refuses
refusal_of P status.DiskFault refuses is = absurd refuses
refusal_of P status.OutFault refuses is = absurd refuses
refusal_of P status.Memory refuses is = absurd refuses
refusal_of P (status.BadLog line) refuses is = absurd refuses
refusal_of P (status.Limit which) refuses is = is

-- once the files were read, none is refused
pub late_no_refusal : (s : Status) → IsAfterFiles (stage_of s) → IsRefusal s → ⊥
late_no_refusal status.Done late refuses = refuses
late_no_refusal status.Usage late refuses = refuses
late_no_refusal (status.Input file line kind) late refuses = late
late_no_refusal status.Stuck late refuses = refuses
late_no_refusal status.DiskFault late refuses = refuses
late_no_refusal status.OutFault late refuses = refuses
late_no_refusal status.Memory late refuses = refuses
late_no_refusal (status.BadLog line) late refuses = refuses
late_no_refusal (status.Limit which.Machines) late refuses = late
late_no_refusal (status.Limit which.Slots) late refuses = late
late_no_refusal (status.Limit which.Jobs) late refuses = late
late_no_refusal (status.Limit which.Attributes) late refuses = late
late_no_refusal (status.Limit which.LogLine) late refuses = late
late_no_refusal (status.Limit which.Input) late refuses = late
late_no_refusal (status.Limit which.Bytes) late refuses = late
late_no_refusal (status.Limit which.Roll) late refuses = late
late_no_refusal (status.Limit which.Events) late refuses = late
late_no_refusal (status.Limit which.Users) late refuses = late
late_no_refusal (status.Limit which.Boots) late refuses = late

abbrev word_in : List (List ℕ) → List ℕ
word_in [] = []
word_in (w ∷ ws) = w

abbrev words_after : List (List ℕ) → List (List ℕ)
words_after [] = []
words_after (w ∷ ws) = ws

-- words name one configuration and one list of submit files
pub refusal_named : (file : Contents) (words : List (List ℕ)) (config : List ℕ) (submits : List (List ℕ)) (s : Status) → IsRun words config submits → IsInputRefused file words s → IsRefusedByFiles file config submits s
refusal_named file words config submits s is refused =
    let same = sym refused.words_are.is ∙ is.is in
    let first : refused.config ≡ config = ap (λ ws. word_in (words_after ws)) same in
    let rest : refused.submits ≡ submits = ap (λ ws. words_after (words_after ws)) same in
    subst (λ c. IsRefusedByFiles file c submits s) first (subst (λ r. IsRefusedByFiles file refused.config r s) rest refused.refused)

pub not_named : (file : Contents) (words : List (List ℕ)) (s : Status) → IsNoRun words → IsInputRefused file words s → ⊥
not_named file words s none refused = none refused.config refused.submits refused.words_are

-- a run on spawners that were lent, and are the whole again
pub runs_lent : {P K : Type 0} (allows : ℕ → Type 0) (spawner : P → SpawnerSeen) (lent first now whole : List P) (sink : K → SinkSeen) (o q : K) (status_is : Status) (history : History) → lent ≡ first → whole ≡ now → PoolRuns allows spawner lent now sink o q status_is history → PoolRuns allows spawner first whole sink o q status_is history
runs_lent {P} allows spawner lent first now whole sink o q status_is history same back runs =
    subst (λ (l : List P). PoolRuns allows spawner first l sink o q status_is history) (sym back) (subst (λ (l : List P). PoolRuns allows spawner l now sink o q status_is history) same runs)

-- no pool is of any input
pub of_no_input : (allows : ℕ → Type 0) (file : Contents) (words : List (List ℕ)) (opening : Option PoolValue) (list : List Step) → opening ≡ None → OfInputFrom allows file words opening list
of_no_input allows file words None list none = tt
of_no_input allows file words (Some p) list none = cc

pub of_no_files : (allows : ℕ → Type 0) (file : Contents) (config : List ℕ) (submits : List (List ℕ)) (opening : Option PoolValue) (list : List Step) → opening ≡ None → OfFilesFrom allows file config submits opening list
of_no_files allows file config submits None list none = tt
of_no_files allows file config submits (Some p) list none = cc

-- ---- statuses that are not each other, and counts

pub usage_early : stage_of status.Usage ≢ AfterClose
usage_early is = cc

pub memory_early : stage_of status.Memory ≢ AfterClose
memory_early is = cc

pub usage_no_fault : status.Usage ≢ status.DiskFault
usage_no_fault is = cc

pub memory_no_fault : status.Memory ≢ status.DiskFault
memory_no_fault is = cc

pub memory_no_usage : status.Memory ≢ status.Usage
memory_no_usage is = cc

-- words for which there is no memory were not refused
pub memory_no_words : {A : Type 0} (r : Result A WordsError) (w : WordsError) → r ≡ Err w → w ≡ words_error.Memory → r ≡ Err words_error.Usage → ⊥
memory_no_words r w is memory usage = cc

pub none_below : {count k : ℕ} → count ≡ 0 → count ≤ k
none_below none = omega arith
