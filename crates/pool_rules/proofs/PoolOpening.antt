-- A pool that has just been opened is kept to a protocol.
use Rattle.std.proofs.Common.{◌≡◌, ◌⊎◌, inl, inr, ℕ, zero, suc, ◌+◌, ◌*◌, ◌^◌, ◌<◌, ◌==◌, Bool, true, false, ◌&&◌, List, [], ◌∷◌, ◌++◌, length, Option, Some, None, IsSome, IsSomeAnd, is_some, slice_get, refl, sym, ◌∙◌, ap, subst, arith, true≢false, if◌then◌else◌}
use Rattle.std.specs.Prelude.{◌↔◌, filter}
use Rattle.std.specs.Ordering.{is_gt, is_lt}
use Rattle.std.specs.declared.cmp.Ordering.{Ordering}
use Rattle.std.specs.declared.cmp.Ordering.TheVariants.{Less, Equal, Greater}
use Rattle.std.proofs.lemmas.Bool.{eqb-false, eqb-true, or_cases}
use Rattle.std.proofs.lemmas.List.{length_push}
use Rattle.std.proofs.lemmas.Option.{none-some, same_Some, slice_get_within}
use Rattle.ad_tree.specs.Ad.{Attributes}
use Rattle.claim_id.specs.declared.numbers.JobId.{JobId}
use Rattle.claim_id.specs.declared.numbers.SlotId.{SlotId}
use Rattle.pool_parts.specs.Listings.{AreJobs, is_past_job}
use Rattle.pool_rules.proofs.Kept.{in_both, in_first, in_second}
use Rattle.pool_rules.proofs.Opening.{opening_linked, opening_protocol}
use Rattle.pool_rules.specs.Openings.{IsFreshStartd, IsOpeningPool}
use Rattle.pool_mail.specs.declared.slot_ad.SlotAd.{SlotAd}
use Rattle.pool_rules.specs.Parts.{awaited_of, finished_in, mail_of, parts_of}
use Rattle.pool_outer.specs.declared.gate.Daemon.{Daemon}
use Rattle.pool_outer.specs.declared.gate.Daemon.TheVariants.{Startd}
use Rattle.pool_view.specs.Protocol.{Protocol}
use Rattle.pool_state.specs.Openings.{AreListed, AreRemoved, CanOpen, IsOpenedBy, is_next_slot, is_removed, is_removed_at, is_removed_by, machinery_of, machines_after, new_startd, opening_startds, startds_from}
use Rattle.pool_state.specs.Readings.{boot_of}
use Rattle.pool_state.specs.declared.opening.Opening.{Opening}
use Rattle.pool_state.specs.declared.state.PoolState.{PoolState}
use Rattle.pool_tables.specs.DaemonTables.{first_startds, first_state, daemon_state}
use Rattle.pool_tables.specs.declared.states.DaemonState.{DaemonState}
use Rattle.pool_view.proofs.Members.{in_filter, passes, passing_in}
use Rattle.pool_view.proofs.Sameness.{both_true}
use Rattle.pool_view.specs.AbstractPool.{IsIn}
use Rattle.queue_tx.proofs.Queues.{exact_keys}
use Rattle.queue_tx.specs.Jobs.{IsJobOf, kind_under}
use Rattle.queue_tx.specs.Keys.{is_above, key_cmp}
use Rattle.queue_tx.specs.Kinds.{kind_of}
use Rattle.queue_tx.specs.Queues.{KeyedAds, ad_at}
use Rattle.queue_tx.specs.declared.key.Key.{Key}
use Rattle.queue_tx.specs.declared.key.Key.TheVariants.{Header, Proc}
use Rattle.queue_tx.specs.declared.kind.JobKind.{JobKind}
use Rattle.queue_tx.specs.declared.kind.JobKind.TheVariants as kind
use Rattle.schedd_state.specs.DueChecks.{IsPassed}
use Rattle.schedd_core.specs.ScheddParts.{IsMarked, IsOrdered, IsThere}
use Rattle.schedd_state.specs.Schedds.{IsOpened, ScheddValue}
use Rattle.schedd_plan.specs.JobAttributes.{status_of}
use Rattle.schedd_plan.specs.declared.status.JobStatus.{JobStatus}
use Rattle.schedd_plan.specs.declared.status.JobStatus.TheVariants as status
use Rattle.startd_core.proofs.Stays.{new_stays, slot_stays}
use Rattle.startd_core.specs.Sound.{IsSound}
use Rattle.startd_core.specs.Startds.{StartdValue, with_slot}
use Rattle.startd_slot.specs.SlotStates.{running_of, slot_after_boot}
use Rattle.startd_slot.specs.declared.slot.Slot.{Slot}
use Rattle.pool_rules.specs.Kept.{AreAddressed, AreInBoot, IsKept, IsPendingTx}

-- ---- the startds
-- a startd of a machine whose slots are as after a boot, in the boot of the pool
record IsFresh (o : Opening) (machine : ℕ) (v : StartdValue) : Type 0 where
  numbered : v.machine.number ≡ machine
  sound : IsSound v
  slots : (s : Slot) → IsIn s v.slots → (reading : ℕ) × (s.state ≡ slot_after_boot reading)
  boot : v.machine.boot ≡ o.pool_boot * 2 ^ 32

-- those of machines in order, from a number on
abbrev AreFresh : Opening → ℕ → List StartdValue → Type 0
AreFresh o first [] = Unit {0}
AreFresh o first (v ∷ vs) = IsFresh o first v × AreFresh o (first + 1) vs

new_fresh : (o : Opening) (machine : ℕ) → IsFresh o machine (new_startd (machinery_of o) machine)
new_fresh o machine = record { numbered = refl; sound = new_stays (new_startd (machinery_of o) machine) refl; slots = λ s there. absurd there; boot = refl }

with_fresh : (o : Opening) (machine : ℕ) (v : StartdValue) (name : List ℕ) (ad : Attributes) → IsFresh o machine v → IsFresh o machine (with_slot name ad v)
with_fresh o machine v name ad f = record {
  numbered = f.numbered;
  sound = slot_stays v name ad f.sound;
  slots = λ s there. by s (in_both s v.slots _ there);
  boot = f.boot;
}
  where
    by : (s : Slot) → IsIn s v.slots ⊎ IsIn s (record { id = record { machine = v.machine.number; slot = length v.slots + 1 }; name = name; ad = ad; state = slot_after_boot 0 } ∷ []) → (reading : ℕ) × (s.state ≡ slot_after_boot reading)
    by s (inl old) = f.slots s old
    by s (inr (inl same)) = (0, ap (λ (x : Slot). x.state) same)
    by s (inr (inr there)) = absurd there

-- the machine of the next slot
next_machine : (machines slots : ℕ) (id : SlotId) → is_next_slot machines slots id ≡ true → (id.machine ≡ machines) ⊎ (id.machine + 1 ≡ machines)
next_machine machines slots id test = by (or_cases ((id.machine == machines) && (id.slot == 1)) ((id.machine + 1 == machines) && (id.slot == slots + 1)) test)
  where
    by : (((id.machine == machines) && (id.slot == 1)) ≡ true) ⊎ (((id.machine + 1 == machines) && (id.slot == slots + 1)) ≡ true) → (id.machine ≡ machines) ⊎ (id.machine + 1 ≡ machines)
    by (inl new) = inl (eqb-true id.machine machines (both_true (id.machine == machines) (id.slot == 1) new).0)
    by (inr old) = inr (eqb-true (id.machine + 1) machines (both_true (id.machine + 1 == machines) (id.slot == slots + 1) old).0)

-- the machine after one, or at the very beginning the first
abbrev IsAfter : ℕ → ℕ → Type 0
IsAfter machines first = (machines ≡ first + 1) ⊎ ((machines ≡ 0) × (first ≡ 0))

other_is_next : (machines first machine : ℕ) → IsAfter machines first → (machine ≡ machines) ⊎ (machine + 1 ≡ machines) → (machine ≡ first → ⊥) → machine ≡ first + 1
other_is_next machines first machine (inl after) (inl is) not = is ∙ after
other_is_next machines first machine (inl after) (inr is) not = absurd (not (same machine first (is ∙ after)))
  where
    same : (a b : ℕ) → a + 1 ≡ b + 1 → a ≡ b
    same a b e = omega (arith, e)
other_is_next machines first machine (inr start) (inl is) not = absurd (not (is ∙ (start.0 ∙ sym start.1)))
other_is_next machines first machine (inr start) (inr is) not = absurd (never machine (is ∙ start.0))
  where
    never : (a : ℕ) → a + 1 ≡ 0 → ⊥
    never a e = omega (arith, e)

-- what follows a slot
abbrev Follows : Opening → SlotAd → List SlotAd → ℕ → Type 0
Follows o s ss count = (u : StartdValue) (k : ℕ) → IsFresh o k u → s.slot.machine + 1 ≡ k + 1 → machines_after (s.slot.machine + 1) s.slot.slot ss ≡ Some count → AreFresh o k (startds_from (machinery_of o) u ss)

fresh_from : (o : Opening) (v : StartdValue) (ss : List SlotAd) (first machines slots count : ℕ) → IsFresh o first v → IsAfter machines first
    → machines_after machines slots ss ≡ Some count → AreFresh o first (startds_from (machinery_of o) v ss)
fresh_from o v [] first machines slots count f after is = (f, tt)
fresh_from o v (s ∷ ss) first machines slots count f after is = by_next (is_next_slot machines slots s.slot) refl is
    (λ u k fresh at. fresh_from o u ss k (s.slot.machine + 1) s.slot.slot count fresh (inl at))
  where
    by_machine : (b : Bool) → (s.slot.machine == v.machine.number) ≡ b → (s.slot.machine ≡ machines) ⊎ (s.slot.machine + 1 ≡ machines) → machines_after (s.slot.machine + 1) s.slot.slot ss ≡ Some count → Follows o s ss count
        → AreFresh o first (if b then startds_from (machinery_of o) (with_slot s.name s.ad v) ss else v ∷ startds_from (machinery_of o) (with_slot s.name s.ad (new_startd (machinery_of o) s.slot.machine)) ss)
    by_machine true test next is rest = rest (with_slot s.name s.ad v) first (with_fresh o first v s.name s.ad f) (ap (λ n. n + 1) (eqb-true s.slot.machine v.machine.number test ∙ f.numbered)) is
    by_machine false test next is rest =
        let at : s.slot.machine ≡ first + 1 = other_is_next machines first s.slot.machine after next (λ same. eqb-false s.slot.machine v.machine.number test (same ∙ sym f.numbered)) in
        let new : IsFresh o s.slot.machine (with_slot s.name s.ad (new_startd (machinery_of o) s.slot.machine)) = with_fresh o s.slot.machine (new_startd (machinery_of o) s.slot.machine) s.name s.ad (new_fresh o s.slot.machine) in
        (f, rest (with_slot s.name s.ad (new_startd (machinery_of o) s.slot.machine)) (first + 1) (subst (λ k. IsFresh o k (with_slot s.name s.ad (new_startd (machinery_of o) s.slot.machine))) at new) (ap (λ n. n + 1) at) is)

    by_next : (b : Bool) → is_next_slot machines slots s.slot ≡ b → (if b then machines_after (s.slot.machine + 1) s.slot.slot ss else None) ≡ Some count → Follows o s ss count
        → AreFresh o first (if s.slot.machine == v.machine.number then startds_from (machinery_of o) (with_slot s.name s.ad v) ss else v ∷ startds_from (machinery_of o) (with_slot s.name s.ad (new_startd (machinery_of o) s.slot.machine)) ss)
    by_next false test is rest = absurd (none-some count is)
    by_next true test is rest = by_machine (s.slot.machine == v.machine.number) refl (next_machine machines slots s.slot test) is rest

fresh_at : (o : Opening) (first : ℕ) (vs : List StartdValue) (i : ℕ) (v : StartdValue) → AreFresh o first vs → slice_get vs i ≡ Some v → IsFresh o (first + i) v
fresh_at o first [] i v fresh at = absurd (none-some v at)
fresh_at o first (x ∷ xs) zero v fresh at = subst (λ n. IsFresh o n v) (none_more first) (subst (IsFresh o first) (same_Some x v at) fresh.0)
  where
    none_more : (n : ℕ) → n ≡ n + 0
    none_more n = omega arith
fresh_at o first (x ∷ xs) (suc i) v fresh at = subst (λ n. IsFresh o n v) (one_more first i) (fresh_at o (first + 1) xs i v fresh.1 at)
  where
    one_more : (n k : ℕ) → (n + 1) + k ≡ n + suc k
    one_more n k = omega arith

startd_fresh : (o : Opening) (machine : ℕ) (v : StartdValue) → CanOpen o → slice_get (opening_startds o) machine ≡ Some v → IsFresh o machine v
startd_fresh o machine v can at = subst (λ n. IsFresh o n v) (from_zero machine)
    (fresh_at o 0 (opening_startds o) machine v
    (fresh_from o (new_startd (machinery_of o) 0) o.slots 0 0 0 can.machines (new_fresh o 0) (inr (refl, refl)) can.slots_are) at)
  where
    from_zero : (n : ℕ) → 0 + n ≡ n
    from_zero n = omega arith

-- ---- how many there are
-- what follows a slot
abbrev Counts : Opening → SlotAd → List SlotAd → ℕ → Type 0
Counts o s ss count = (u : StartdValue) → s.slot.machine + 1 ≡ u.machine.number + 1 → machines_after (s.slot.machine + 1) s.slot.slot ss ≡ Some count → u.machine.number + length (startds_from (machinery_of o) u ss) ≡ count

-- one for each machine that has a slot
all_from : (o : Opening) (v : StartdValue) (ss : List SlotAd) (machines slots count : ℕ) → IsAfter machines v.machine.number → machines_after machines slots ss ≡ Some count → 0 < count
    → v.machine.number + length (startds_from (machinery_of o) v ss) ≡ count
all_from o v [] machines slots count after is some = by after
  where
    at : machines ≡ count
    at = same_Some machines count is

    by : IsAfter machines v.machine.number → v.machine.number + 1 ≡ count
    by (inl next) = sym next ∙ at
    by (inr start) = absurd (never machines count start.0 at some)
      where
        never : (m n : ℕ) → m ≡ 0 → m ≡ n → 0 < n → ⊥
        never m n e same less = omega (arith, e, same, less)
all_from o v (s ∷ ss) machines slots count after is some = by_next (is_next_slot machines slots s.slot) refl is
    (λ u last rest. all_from o u ss (s.slot.machine + 1) s.slot.slot count (inl last) rest some)
  where
    one_less : (n k l total : ℕ) → k ≡ n + 1 → k + l ≡ total → n + suc l ≡ total
    one_less n k l total at is = omega (arith, at, is)

    by_machine : (b : Bool) → (s.slot.machine == v.machine.number) ≡ b → (s.slot.machine ≡ machines) ⊎ (s.slot.machine + 1 ≡ machines) → machines_after (s.slot.machine + 1) s.slot.slot ss ≡ Some count → Counts o s ss count
        → v.machine.number + length (if b then startds_from (machinery_of o) (with_slot s.name s.ad v) ss else v ∷ startds_from (machinery_of o) (with_slot s.name s.ad (new_startd (machinery_of o) s.slot.machine)) ss) ≡ count
    by_machine true test next is rest = rest (with_slot s.name s.ad v) (ap (λ n. n + 1) (eqb-true s.slot.machine v.machine.number test)) is
    by_machine false test next is rest =
        one_less v.machine.number s.slot.machine (length (startds_from (machinery_of o) (with_slot s.name s.ad (new_startd (machinery_of o) s.slot.machine)) ss)) count
        (other_is_next machines v.machine.number s.slot.machine after next (eqb-false s.slot.machine v.machine.number test))
        (rest (with_slot s.name s.ad (new_startd (machinery_of o) s.slot.machine)) refl is)

    by_next : (b : Bool) → is_next_slot machines slots s.slot ≡ b → (if b then machines_after (s.slot.machine + 1) s.slot.slot ss else None) ≡ Some count → Counts o s ss count
        → v.machine.number + length (startds_from (machinery_of o) v (s ∷ ss)) ≡ count
    by_next false test is rest = absurd (none-some count is)
    by_next true test is rest = by_machine (s.slot.machine == v.machine.number) refl (next_machine machines slots s.slot test) is rest

pub startds_counted : (o : Opening) → CanOpen o → length (opening_startds o) ≡ length o.end_marks.items
startds_counted o can =
    sym (from_zero (length (opening_startds o)))
    ∙ (all_from o (new_startd (machinery_of o) 0) o.slots 0 0 can.machines (inr (refl, refl)) can.slots_are can.some ∙ sym can.marks)
  where
    from_zero : (n : ℕ) → 0 + n ≡ n
    from_zero n = omega arith

-- ---- nothing runs on them
place_in : (slots : List Slot) (place : ℕ) (slot : Slot) → slice_get slots place ≡ Some slot → IsIn slot slots
place_in [] place slot at = absurd (none-some slot at)
place_in (x ∷ xs) zero slot at = inl (sym (same_Some x slot at))
place_in (x ∷ xs) (suc place) slot at = inr (place_in xs place slot at)

pub startd_rests : (o : Opening) (machine : ℕ) (v : StartdValue) → CanOpen o → slice_get (opening_startds o) machine ≡ Some v
    → (place : ℕ) (slot : Slot) → slice_get v.slots place ≡ Some slot → running_of slot.state ≡ None
startd_rests o machine v can at place slot there = ap running_of ((startd_fresh o machine v can at).slots slot (place_in v.slots place slot there)).1

-- ---- boots
first_boots : (n boot : ℕ) (crashes : List Daemon) (x : DaemonState) → IsIn x (first_startds n boot crashes) → x.boot ≡ boot
first_boots zero boot crashes x there = absurd there
first_boots (suc n) boot crashes x there = by (in_both x (first_startds n boot crashes) (first_state boot (Startd n) crashes ∷ []) there) (first_boots n boot crashes x)
  where
    by : IsIn x (first_startds n boot crashes) ⊎ IsIn x (first_state boot (Startd n) crashes ∷ []) → (IsIn x (first_startds n boot crashes) → x.boot ≡ boot) → x.boot ≡ boot
    by (inl old) rest = rest old
    by (inr (inl same)) rest = ap (λ (y : DaemonState). y.boot) same
    by (inr (inr there)) rest = absurd there

pub so_many : (n boot : ℕ) (crashes : List Daemon) → length (first_startds n boot crashes) ≡ n
so_many zero boot crashes = refl
so_many (suc n) boot crashes = length_push (first_startds n boot crashes) (first_state boot (Startd n) crashes) ∙ more (length (first_startds n boot crashes)) n (so_many n boot crashes)
  where
    more : (k n : ℕ) → k ≡ n → k + 1 ≡ suc n
    more k n e = omega (arith, e)

boot_there : (xs : List DaemonState) (boot k : ℕ) → ((x : DaemonState) → IsIn x xs → x.boot ≡ boot) → k < length xs → boot_of (slice_get xs k) ≡ boot
boot_there [] boot k each within = absurd (never k within)
  where
    never : (k : ℕ) → k < 0 → ⊥
    never k h = omega (arith, h)
boot_there (x ∷ xs) boot zero each within = each x (inl refl)
boot_there (x ∷ xs) boot (suc k) each within = boot_there xs boot k (λ y there. each y (inr there)) (less k (length xs) within)
  where
    less : (k n : ℕ) → suc k < suc n → k < n
    less k n h = omega (arith, h)

-- ---- the jobs
same_keys : (a b : JobId) → Proc a ≡ Proc b → a ≡ b
same_keys a b e = ap job_in e
  where
    job_in : Key → JobId
    job_in Header = a
    job_in (Proc job) = job

-- each job of the kind that is later is in the list
pub kind_listed : (k : JobKind) (q : KeyedAds) (last : Option JobId) (jobs : List JobId) → AreJobs k q last jobs → (job : JobId) → IsJobOf k q (Proc job) → is_past_job last (Proc job) ≡ true → IsIn job jobs
kind_listed k q last [] are job is later = absurd (true≢false (sym later ∙ are (Proc job) is))
kind_listed k q last (x ∷ xs) are job is later =
    by (key_cmp (Proc x) (Proc job)) refl (are.0.first (Proc job) is later) (λ after. kind_listed k q (Some x) xs are.1 job is after)
  where
    by : (r : Ordering) → key_cmp (Proc x) (Proc job) ≡ r → is_gt r ≡ false → (is_lt (key_cmp (Proc x) (Proc job)) ≡ true → IsIn job xs) → (job ≡ x) ⊎ IsIn job xs
    by Less e before rest = inr (rest (ap is_lt e))
    by Equal e before rest = inl (sym (same_keys x job (exact_keys (Proc x) (Proc job) e)))
    by Greater e before rest = absurd (true≢false before)

-- each job of the list is of the kind
pub listed_kind : (k : JobKind) (q : KeyedAds) (last : Option JobId) (jobs : List JobId) → AreJobs k q last jobs → (job : JobId) → IsIn job jobs → IsJobOf k q (Proc job)
listed_kind k q last [] are job there = absurd there
listed_kind k q last (x ∷ xs) are job (inl same) = subst (λ j. IsJobOf k q (Proc j)) (sym same) are.0.meant
listed_kind k q last (x ∷ xs) are job (inr there) = listed_kind k q (Some x) xs are.1 job there

kind_there : (k : JobKind) (q : KeyedAds) (job : JobId) → IsJobOf k q (Proc job) → IsThere q job
kind_there k q job is = by (ad_at (Proc job) q) is
  where
    by : (o : Option Attributes) → kind_under (Proc job) o ≡ Some k → IsSomeAnd o (λ ad. IsSome (kind_of ad))
    by None h = none-some k h
    by (Some ad) h = ap is_some h

pub there_listed : (q : KeyedAds) (jobs : List JobId) → AreListed q jobs → (job : JobId) → IsThere q job → IsIn job jobs
there_listed q jobs (idle, held, under, are_idle, are_held, are_under, is) job there = subst (IsIn job) (sym is) (by (ad_at (Proc job) q) refl there)
  where
    by_kind : (o : Option Attributes) (k : Option JobKind) → ad_at (Proc job) q ≡ o → kind_under (Proc job) o ≡ k → IsSome k → IsIn job (idle ++ held ++ under)
    by_kind o None at is h = cc
    by_kind o (Some kind.Idle) at is h = in_first job (idle ++ held) under (in_first job idle held (kind_listed kind.Idle q None idle are_idle job (ap (kind_under (Proc job)) at ∙ is) refl))
    by_kind o (Some kind.Held) at is h = in_first job (idle ++ held) under (in_second job idle held (kind_listed kind.Held q None held are_held job (ap (kind_under (Proc job)) at ∙ is) refl))
    by_kind o (Some kind.Under) at is h = in_second job (idle ++ held) under (kind_listed kind.Under q None under are_under job (ap (kind_under (Proc job)) at ∙ is) refl)

    by : (o : Option Attributes) → ad_at (Proc job) q ≡ o → IsSomeAnd o (λ ad. IsSome (kind_of ad)) → IsIn job (idle ++ held ++ under)
    by None at h = absurd h
    by (Some ad) at h = by_kind (Some ad) (kind_of ad) at refl h

listed_there : (q : KeyedAds) (jobs : List JobId) → AreListed q jobs → (job : JobId) → IsIn job jobs → IsThere q job
listed_there q jobs (idle, held, under, are_idle, are_held, are_under, is) job there = by (in_both job (idle ++ held) under (subst (IsIn job) is there))
  where
    by_first : IsIn job idle ⊎ IsIn job held → IsThere q job
    by_first (inl h) = kind_there kind.Idle q job (listed_kind kind.Idle q None idle are_idle job h)
    by_first (inr h) = kind_there kind.Held q job (listed_kind kind.Held q None held are_held job h)

    by : IsIn job (idle ++ held) ⊎ IsIn job under → IsThere q job
    by (inl h) = by_first (in_both job idle held h)
    by (inr h) = kind_there kind.Under q job (listed_kind kind.Under q None under are_under job h)

-- the jobs that are listed are those of the queue
pub listed_jobs : (q : KeyedAds) (jobs : List JobId) → AreListed q jobs → (job : JobId) → IsIn job jobs ↔ IsThere q job
listed_jobs q jobs are job = (listed_there q jobs are job, there_listed q jobs are job)

removed_status : (s : JobStatus) → is_removed s ≡ true → s ≡ status.Removed
removed_status status.Removed h = refl
removed_status status.Idle h = cc
removed_status status.Running h = cc
removed_status status.Completed h = cc
removed_status status.Held h = cc
removed_status status.Other h = cc

-- the jobs that are to be removed are those that the queue marks so
pub removed_jobs : (q : KeyedAds) (jobs : List JobId) → AreRemoved q jobs → (job : JobId) → IsIn job jobs ↔ IsMarked q job
removed_jobs q jobs (under, are, is) job = (λ there. marked (subst (IsIn job) is there), λ mark. subst (IsIn job) (sym is) (in_list mark))
  where
    by_ad : (o : Option Attributes) → is_removed_by o ≡ true → kind_under (Proc job) o ≡ Some kind.Under → IsSomeAnd o (λ ad. (status_of ad ≡ status.Removed) × (kind_of ad ≡ Some kind.Under))
    by_ad None removed h = none-some kind.Under h
    by_ad (Some ad) removed h = (removed_status (status_of ad) removed, h)

    marked : IsIn job (filter (is_removed_at q) under) → IsMarked q job
    marked there = by_ad (ad_at (Proc job) q) (passes (is_removed_at q) job under there) (listed_kind kind.Under q None under are job (in_filter (is_removed_at q) job under there))

    under_kind : (o : Option Attributes) → IsSomeAnd o (λ ad. (status_of ad ≡ status.Removed) × (kind_of ad ≡ Some kind.Under)) → (is_removed_by o ≡ true) × (kind_under (Proc job) o ≡ Some kind.Under)
    under_kind None h = absurd h
    under_kind (Some ad) h = (ap is_removed h.0, h.1)

    in_list : IsMarked q job → IsIn job (filter (is_removed_at q) under)
    in_list mark = let h = under_kind (ad_at (Proc job) q) mark in passing_in (is_removed_at q) job under (kind_listed kind.Under q None under are job h.1 refl) h.0

-- ---- the pool
none_passed : (q : KeyedAds) (v : ScheddValue) → v.passed ≡ None → IsPassed q v
none_passed q v none key periodic past = absurd (true≢false (subst (λ b. is_above b key ≡ false) none past))

boots_are : (o : Opening) (s : PoolState) → CanOpen o → IsOpenedBy o s → AreInBoot s.daemons s.machines
boots_are o s can opened machine v at =
    let there : slice_get (opening_startds o) machine ≡ Some v = sym (ap (λ vs. slice_get vs machine) opened.machines) ∙ at in
    let n = length (opening_startds o) in
    let boot : ℕ = o.pool_boot * 2 ^ 32 in
    ap (λ d. boot_of (daemon_state (Startd machine) d)) opened.daemons
    ∙ (boot_there (first_startds n boot o.allow.crashes) boot machine (first_boots n boot o.allow.crashes)
    (subst (λ k. machine < k) (sym (so_many n boot o.allow.crashes)) (slice_get_within (opening_startds o) machine v there))
    ∙ sym (startd_fresh o machine v can there).boot)

opening_parts : (o : Opening) (s : PoolState) → CanOpen o → IsOrdered o.queue → IsOpenedBy o s → IsOpeningPool (parts_of s)
opening_parts o s can ordered opened = record {
  settings = o.settings;
  startds = λ machine v at. startds machine v (startd_fresh o machine v can (sym (ap (λ vs. slice_get vs machine) opened.machines) ∙ at));
  queue = subst IsOrdered (sym opened.queue) ordered;
  schedd = subst (λ q. IsOpened q o.settings s.schedd) (sym opened.queue) opened.schedd;
  mails = ap (Rattle.std.specs.Prelude.map mail_of) opened.mails.none;
  awaited = ap awaited_of opened.pending;
  finished = λ job. ap (λ f. finished_in f job) opened.finished;
  acked = λ job. subst (λ q. IsIn job s.acked ↔ IsThere q job) (sym opened.queue) (listed_jobs o.queue s.acked opened.acked job);
  ordered = λ job. subst (λ q. IsIn job s.ordered ↔ IsMarked q job) (sym opened.queue) (removed_jobs o.queue s.ordered opened.ordered job);
  reports = opened.reports;
}
  where
    startds : (machine : ℕ) (v : StartdValue) → IsFresh o machine v → IsFreshStartd machine v
    startds machine v f = record { numbered = f.numbered; sound = f.sound; slots = f.slots }

pub opening_kept : (o : Opening) (s : PoolState) → CanOpen o → IsOrdered o.queue → IsOpenedBy o s → IsKept (opening_protocol (parts_of s)) s
opening_kept o s can ordered opened = record {
  linked = opening_linked (parts_of s) (opening_parts o s can ordered opened);
  pending = subst IsPendingTx (sym opened.pending) tt;
  addressed = subst AreAddressed (sym opened.mails.none) (λ x there. absurd there);
  passed = none_passed s.queue s.schedd (ap (λ (v : ScheddValue). v.passed) opened.schedd.1);
  boots = boots_are o s can opened;
}

pub opening_is_kept : (o : Opening) (s : PoolState) → CanOpen o → IsOrdered o.queue → IsOpenedBy o s → (p : Protocol) × IsKept p s
opening_is_kept o s can ordered opened = (opening_protocol (parts_of s), opening_kept o s can ordered opened)
