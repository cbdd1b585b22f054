-- A view of a pool shows the abstract pool of its parts.
use Rattle.std.proofs.Common.{◌≡◌, inl, inr, ℕ, Bool, true, false, List, [], ◌∷◌, ◌++◌, map, Option, Some, None, refl, sym, ◌∙◌, ap, subst, if◌then◌else◌}
use Rattle.std.specs.Prelude.{filter_map, option_map}
use Rattle.std.specs.List.{cons_option}
use Rattle.std.proofs.lemmas.List.{map-append}
use Rattle.std.proofs.lemmas.List.Elements.{filter_map-append}
use Rattle.claim_id.specs.declared.numbers.ClaimId.{ClaimId}
use Rattle.claim_id.specs.declared.numbers.SlotId.{SlotId}
use Rattle.pool_rules.proofs.Machines.{in_place}
use Rattle.pool_rules.specs.Linked.{AreStartds, IsFinishedAs}
use Rattle.pool_rules.specs.PoolParts.{machine_parts, pool_parts}
use Rattle.pool_rules.specs.Shown.{ShowsPool}
use Rattle.pool_shown.specs.Slots.{all_slots}
use Rattle.pool_rules.specs.Parts.{finished_in, parts_of}
use Rattle.pool_outer.specs.declared.gate.Daemon.TheVariants.{Startd}
use Rattle.pool_view.specs.Protocol.{Protocol}
use Rattle.pool_view.specs.SlotPart.{SlotPart, ShowsParts, part_at}
use Rattle.pool_shown.specs.ShownSlots.{ad_on, boot_at, boot_in, mark_on, run_on}
use Rattle.pool_state.specs.PoolViews.{IsViewOf}
use Rattle.pool_state.specs.Readings.{boot_of}
use Rattle.pool_state.specs.declared.state.PoolState.{PoolState}
use Rattle.pool_tables.specs.DaemonTables.{DaemonsValue, daemon_state}
use Rattle.pool_tables.specs.declared.states.DaemonState.{DaemonState}
use Rattle.pool_view.specs.AbstractPool.{IsIn, SameMembers}
use Rattle.pool_view.specs.Numbers.{same_slot}
use Rattle.pool_view.specs.Views.{ad_at, mark_at, pool_of}
use Rattle.pool_view.specs.declared.mark.MarkEntry.{MarkEntry}
use Rattle.pool_view.specs.declared.view.SlotEntry.{SlotEntry}
use Rattle.pool_view.specs.declared.view.View.{View}
use Rattle.queue_tx.specs.Queues as queues
use Rattle.queue_tx.specs.declared.key.Key.TheVariants.{Proc}
use Rattle.schedd_core.specs.JobStates.{ShowsJob}
use Rattle.schedd_state.specs.Reopening.{IsReader}
use Rattle.schedd_plan.specs.JobPlaces.{is_left}
use Rattle.startd_core.specs.Startds.{StartdValue}
use Rattle.startd_slot.specs.SlotMoves.{mark_of, part_of}
use Rattle.startd_slot.specs.declared.slot.Slot.{Slot}
use Rattle.pool_rules.specs.Kept.{AreInBoot, IsKept}
use Rattle.pool_rules.proofs.PoolJobs.{entry_shown}

-- ---- runs
runs_of_slots : (boot : ℕ) (slots : List Slot) → filter_map run_on slots ≡ filter_map (λ s. s.run) (map (part_of boot) slots)
runs_of_slots boot [] = refl
runs_of_slots boot (s ∷ ss) = ap (cons_option (run_on s)) (runs_of_slots boot ss)

runs_shown : (vs : List StartdValue) → filter_map run_on (all_slots vs) ≡ filter_map (λ s. s.run) (pool_parts vs)
runs_shown [] = refl
runs_shown (v ∷ vs) =
    filter_map-append run_on v.slots (all_slots vs)
    ∙ ((λ i. runs_of_slots v.machine.boot v.slots i ++ runs_shown vs i)
    ∙ sym (filter_map-append (λ (s : SlotPart). s.run) (machine_parts v) (pool_parts vs)))

-- ---- marks
-- each slot's machine is in the boot of its startd
abbrev AreOfBoot : DaemonsValue → ℕ → List Slot → Type 0
AreOfBoot d boot slots = (s : Slot) → IsIn s slots → boot_at d s ≡ boot

marks_of_slots : (d : DaemonsValue) (boot : ℕ) (slot : SlotId) (slots : List Slot) (marks : List MarkEntry) (parts : List SlotPart) → AreOfBoot d boot slots
    → mark_at slot marks ≡ option_map (λ s. s.mark) (part_at slot parts)
    → mark_at slot (map (mark_on d) slots ++ marks) ≡ option_map (λ s. s.mark) (part_at slot (map (part_of boot) slots ++ parts))
marks_of_slots d boot slot [] marks parts same rest = rest
marks_of_slots d boot slot (s ∷ ss) marks parts same rest =
    by (same_slot slot s.id) (same s (inl refl)) (marks_of_slots d boot slot ss marks parts (λ t there. same t (inr there)) rest)
  where
    by : (b : Bool) → boot_at d s ≡ boot → mark_at slot (map (mark_on d) ss ++ marks) ≡ option_map (λ t. t.mark) (part_at slot (map (part_of boot) ss ++ parts))
        → (if b then Some (mark_of (boot_at d s) s.state) else mark_at slot (map (mark_on d) ss ++ marks)) ≡ option_map (λ t. t.mark) (if b then Some (part_of boot s) else part_at slot (map (part_of boot) ss ++ parts))
    by true is more = ap (λ b. Some (mark_of b s.state)) is
    by false is more = more

marks_shown : (d : DaemonsValue) (slot : SlotId) (vs : List StartdValue) → ((v : StartdValue) → IsIn v vs → AreOfBoot d v.machine.boot v.slots)
    → mark_at slot (map (mark_on d) (all_slots vs)) ≡ option_map (λ s. s.mark) (part_at slot (pool_parts vs))
marks_shown d slot [] same = refl
marks_shown d slot (v ∷ vs) same =
    ap (mark_at slot) (map-append (mark_on d) v.slots (all_slots vs))
    ∙ marks_of_slots d v.machine.boot slot v.slots (map (mark_on d) (all_slots vs)) (pool_parts vs) (same v (inl refl)) (marks_shown d slot vs (λ u there. same u (inr there)))

-- ---- ads
ads_of_slots : (boot : ℕ) (slot : SlotId) (slots : List Slot) (ads : List SlotEntry) (parts : List SlotPart)
    → ad_at slot ads ≡ option_map (λ s. s.ad) (part_at slot parts)
    → ad_at slot (map ad_on slots ++ ads) ≡ option_map (λ s. s.ad) (part_at slot (map (part_of boot) slots ++ parts))
ads_of_slots boot slot [] ads parts rest = rest
ads_of_slots boot slot (s ∷ ss) ads parts rest = by (same_slot slot s.id) (ads_of_slots boot slot ss ads parts rest)
  where
    by : (b : Bool) → ad_at slot (map ad_on ss ++ ads) ≡ option_map (λ t. t.ad) (part_at slot (map (part_of boot) ss ++ parts))
        → (if b then Some s.ad else ad_at slot (map ad_on ss ++ ads)) ≡ option_map (λ t. t.ad) (if b then Some (part_of boot s) else part_at slot (map (part_of boot) ss ++ parts))
    by true more = refl
    by false more = more

ads_shown : (slot : SlotId) (vs : List StartdValue) → ad_at slot (map ad_on (all_slots vs)) ≡ option_map (λ s. s.ad) (part_at slot (pool_parts vs))
ads_shown slot [] = refl
ads_shown slot (v ∷ vs) =
    ap (ad_at slot) (map-append ad_on v.slots (all_slots vs))
    ∙ ads_of_slots v.machine.boot slot v.slots (map ad_on (all_slots vs)) (pool_parts vs) (ads_shown slot vs)

-- ---- boots
same_boot : (o : Option DaemonState) → boot_in o ≡ boot_of o
same_boot None = refl
same_boot (Some s) = refl

slots_in_boot : (p : Protocol) (d : DaemonsValue) (vs : List StartdValue) → AreStartds p vs → AreInBoot d vs → (v : StartdValue) → IsIn v vs → AreOfBoot d v.machine.boot v.slots
slots_in_boot p d vs startds boots v there s here =
    let at = in_place v vs there in
    let startd = startds at.0 v at.1 in
    let place = in_place s v.slots here in
    let machine : s.id.machine ≡ at.0 = ap (λ (i : SlotId). i.machine) (startd.sound.slots place.0 s place.1).numbered ∙ startd.numbered in
    same_boot (daemon_state (Startd s.id.machine) d) ∙ (ap (λ m. boot_of (daemon_state (Startd m) d)) machine ∙ boots at.0 v at.1)

-- ---- the whole view
same_members : {A : Type 0} (xs ys : List A) → xs ≡ ys → SameMembers xs ys
same_members xs ys same x = (λ there. subst (IsIn x) same there, λ there. subst (IsIn x) (sym same) there)

slots_shown : (p : Protocol) (s : PoolState) (view : View) (read : List ℕ → Option ClaimId) → IsKept p s → IsViewOf read s view → ShowsParts (pool_of view) (pool_parts s.machines)
slots_shown p s view read k of = record {
  runs = same_members view.runs (filter_map (λ t. t.run) (pool_parts s.machines)) (of.runs ∙ runs_shown s.machines);
  marks = λ slot. ap (mark_at slot) of.marks ∙ marks_shown s.daemons slot s.machines (slots_in_boot p s.daemons s.machines k.linked.startds k.boots);
  slots = λ slot. ap (ad_at slot) of.slots ∙ ads_shown slot s.machines;
}

pub view_shows : (read : List ℕ → Option ClaimId) → IsReader read → (p : Protocol) (s : PoolState) (view : View) → IsKept p s → IsViewOf read s view → ShowsPool (parts_of s) (pool_of view)
view_shows read reads p s view k of = record {
  moment = of.moment;
  next = of.next;
  jobs = λ job. subst (λ e. ShowsJob (is_left job s.schedd.left) (queues.ad_at (Proc job) s.queue) e) (sym (entry_shown read reads p s view.jobs job k of.jobs)) (k.linked.schedd.jobs job);
  finished = λ job. subst (λ e. IsFinishedAs (queues.ad_at (Proc job) s.queue) (finished_in s.finished job) e) (sym (entry_shown read reads p s view.jobs job k of.jobs)) (k.linked.finished job);
  acked = same_members view.acked s.acked of.acked;
  ordered = same_members view.ordered s.ordered of.ordered;
  reports = same_members view.reports s.reports of.reports;
  slots = slots_shown p s view read k of;
}
