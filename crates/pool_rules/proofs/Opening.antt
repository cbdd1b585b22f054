-- A pool that has just been opened is linked to a protocol of its own.
use Rattle.std.proofs.Common.{◌≡◌, inl, inr, ℕ, ◌+◌, true, List, [], ◌∷◌, Option, Some, None, IfSome, IsSome, IsSomeAnd, slice_get, refl, sym, ◌∙◌, ap, subst, arith}
use Rattle.std.specs.Prelude.{option_map}
use Rattle.std.specs.List.{filter_map, cons_option}
use Rattle.std.proofs.lemmas.Option.{none-some, same_Some}
use Rattle.ad_tree.specs.Ad.{Attributes}
use Rattle.claim_id.specs.declared.numbers.JobId.{JobId}
use Rattle.claim_id.specs.declared.numbers.SlotId.{SlotId}
use Rattle.pool_view.specs.AbstractPool.{AbstractPool, IsIn}
use Rattle.pool_view.specs.Ads.{core_of}
use Rattle.pool_view.specs.declared.job.Entry.{Entry}
use Rattle.pool_view.specs.declared.job.State.{State}
use Rattle.pool_view.specs.declared.job.State.TheVariants as state
use Rattle.pool_view.specs.Facts.{IsOpening, IsUnstarted}
use Rattle.pool_view.specs.Protocol.{Protocol}
use Rattle.pool_view.specs.SlotPart.{SlotPart, AreDistinct, HasParts, ShowsParts, part_at}
use Rattle.pool_view.proofs.SameProtocol.{opening_facts, opening_safe}
use Rattle.pool_view.proofs.Whole.{part_found, parts_of_shown}
use Rattle.queue_tx.specs.declared.key.Key.TheVariants.{Proc}
use Rattle.queue_tx.specs.declared.kind.JobKind.{JobKind}
use Rattle.queue_tx.specs.declared.kind.JobKind.TheVariants as kind
use Rattle.queue_tx.specs.Kinds.{kind_of}
use Rattle.queue_tx.specs.Queues.{KeyedAds, ad_at}
use Rattle.schedd_plan.specs.JobPlaces.{is_left}
use Rattle.schedd_core.specs.JobStates.{ShowsEntry, ShowsJob}
use Rattle.schedd_state.specs.Reopening.{is_under_at, is_under_kind, under_by}
use Rattle.schedd_core.specs.ScheddParts.{IsThere}
use Rattle.schedd_core.proofs.OpenFits.{job_under, listed, opening_fits}
use Rattle.schedd_core.proofs.PlanMay.{in_left}
use Rattle.startd_slot.specs.declared.slot.Slot.{Slot}
use Rattle.startd_slot.specs.declared.slot.SlotState.{SlotState}
use Rattle.startd_slot.specs.SlotMoves.{part_of}
use Rattle.startd_slot.specs.SlotStates.{slot_after_boot}
use Rattle.pool_rules.specs.Linked.{IsFinishedAs, Awaits, IsLinked, ended_of}
use Rattle.pool_rules.specs.Openings.{IsOpeningPool}
use Rattle.pool_rules.specs.PoolParts.{PoolParts, pool_parts}
use Rattle.pool_rules.proofs.Machines.{in_place}
use Rattle.pool_rules.proofs.StartdMails.{InMachine, of_pool}

-- ---- the jobs of the queue
abbrev opening_state : JobKind → State
opening_state kind.Idle = state.Idle
opening_state kind.Held = state.Held
opening_state kind.Under = state.Left

abbrev entry_of_kind : Option JobKind → Attributes → Option Entry
entry_of_kind None ad = None
entry_of_kind (Some k) ad = Some (record { core = core_of ad; state = opening_state k })

abbrev opening_entry : Option Attributes → Option Entry
opening_entry None = None
opening_entry (Some ad) = entry_of_kind (kind_of ad) ad

abbrev opening_jobs : KeyedAds → JobId → Option Entry
opening_jobs q job = opening_entry (ad_at (Proc job) q)

opening_pool : PoolParts → AbstractPool
opening_pool a = record {
  moment = a.moment;
  next = a.schedd.next_run;
  jobs = opening_jobs a.queue;
  acked = a.acked;
  ordered = a.ordered;
  runs = [];
  marks = λ slot. option_map (λ s. s.mark) (part_at slot (pool_parts a.startds));
  reports = [];
  slots = λ slot. option_map (λ s. s.ad) (part_at slot (pool_parts a.startds));
}

pub opening_protocol : PoolParts → Protocol
opening_protocol a = record {
  pool = opening_pool a;
  grants = [];
  leases = [];
  gone = [];
  removals = a.ordered;
  pending = None;
}

-- ---- the slots
-- a slot as after a boot
fresh_part : (a : PoolParts) → IsOpeningPool a → (s : SlotPart) → IsIn s (pool_parts a.startds) → (s.run ≡ None) × (s.mark.held ≡ None)
fresh_part a o s there =
    let found = of_pool a.startds s there in
    let fresh = (o.startds found.machine found.startd found.at).slots found.slot found.there in (
      ap (λ (x : SlotPart). x.run) found.is ∙ ap (λ st. option_map (Rattle.startd_slot.specs.SlotMoves.run_in_slot found.slot.id) (Rattle.startd_slot.specs.SlotStates.running_of st)) fresh.1,
      ap (λ (x : SlotPart). x.mark.held) found.is ∙ ap (λ (st : SlotState). option_map Rattle.startd_slot.specs.SlotMoves.held_mark st.held) fresh.1,
    )

distinct_parts : (a : PoolParts) → IsOpeningPool a → AreDistinct (pool_parts a.startds)
distinct_parts a o s t here there same = by (of_pool a.startds s here) (of_pool a.startds t there)
  where
    by : InMachine a.startds s → InMachine a.startds t → s ≡ t
    by f g =
        let x = o.startds f.machine f.startd f.at in
        let y = o.startds g.machine g.startd g.at in
        let i = in_place f.slot f.startd.slots f.there in
        let j = in_place g.slot g.startd.slots g.there in
        let n = (x.sound.slots i.0 f.slot i.1).numbered in
        let m = (y.sound.slots j.0 g.slot j.1).numbered in
        let ids : f.slot.id ≡ g.slot.id = sym (ap (λ (z : SlotPart). z.slot) f.is) ∙ (same ∙ ap (λ (z : SlotPart). z.slot) g.is) in
        let machines : f.machine ≡ g.machine = sym x.numbered ∙ (sym (ap (λ (z : SlotId). z.machine) n) ∙ (ap (λ (z : SlotId). z.machine) ids ∙ (ap (λ (z : SlotId). z.machine) m ∙ y.numbered))) in
        let startd : f.startd ≡ g.startd = same_Some f.startd g.startd (sym f.at ∙ (ap (slice_get a.startds) machines ∙ g.at)) in
        let places : i.0 ≡ j.0 = same_place i.0 j.0 (sym (ap (λ (z : SlotId). z.slot) n) ∙ (ap (λ (z : SlotId). z.slot) ids ∙ ap (λ (z : SlotId). z.slot) m)) in
        let slot : f.slot ≡ g.slot = same_Some f.slot g.slot (sym i.1 ∙ ((λ k. slice_get (startd k).slots (places k)) ∙ j.1)) in
        f.is ∙ ((λ k. part_of (startd k).machine.boot (slot k)) ∙ sym g.is)
      where
        same_place : (m n : ℕ) → m + 1 ≡ n + 1 → m ≡ n
        same_place m n e = omega (arith, e)

no_runs : (xs : List SlotPart) → ((s : SlotPart) → IsIn s xs → s.run ≡ None) → filter_map (λ s. s.run) xs ≡ []
no_runs [] none = refl
no_runs (x ∷ xs) none = ap (λ o. cons_option o (filter_map (λ s. s.run) xs)) (none x (inl refl)) ∙ no_runs xs (λ s there. none s (inr there))

shows_opening : (a : PoolParts) → IsOpeningPool a → ShowsParts (opening_pool a) (pool_parts a.startds)
unfolding opening_pool
shows_opening a o = record {
  runs = λ r. (λ there. absurd there, λ there. subst (IsIn r) (no_runs (pool_parts a.startds) (λ s h. (fresh_part a o s h).0)) there);
  marks = λ slot. refl;
  slots = λ slot. refl;
}

has_parts : (a : PoolParts) → IsOpeningPool a → HasParts (opening_protocol a) (pool_parts a.startds)
unfolding opening_protocol opening_pool
has_parts a o = parts_of_shown (opening_protocol a) (pool_parts a.startds) (distinct_parts a o)
    (λ s there r is. absurd (none-some r (sym (fresh_part a o s there).0 ∙ is))) (shows_opening a o)

no_claims : (a : PoolParts) → IsOpeningPool a → (slot : SlotId) → IfSome ((opening_protocol a).pool.marks slot) (λ m. m.held ≡ None)
unfolding opening_protocol opening_pool
no_claims a o slot = by (part_at slot (pool_parts a.startds)) refl
  where
    by : (p : Option SlotPart) → part_at slot (pool_parts a.startds) ≡ p → IfSome (option_map (λ s. s.mark) p) (λ m. m.held ≡ None)
    by None is = tt
    by (Some s) is = (fresh_part a o s (part_found slot (pool_parts a.startds) s is).0).1

-- ---- the jobs
unstarted : (q : KeyedAds) (job : JobId) → IfSome (opening_jobs q job) (λ e. IsUnstarted e.state)
unstarted q job = by (ad_at (Proc job) q)
  where
    by_kind : (k : Option JobKind) (ad : Attributes) → IfSome (entry_of_kind k ad) (λ e. IsUnstarted e.state)
    by_kind None ad = tt
    by_kind (Some kind.Idle) ad = inl refl
    by_kind (Some kind.Held) ad = inr (inl refl)
    by_kind (Some kind.Under) ad = inr (inr refl)

    by : (o : Option Attributes) → IfSome (opening_entry o) (λ e. IsUnstarted e.state)
    by None = tt
    by (Some ad) = by_kind (kind_of ad) ad

entered : (q : KeyedAds) (job : JobId) → IsThere q job → IsSome (opening_jobs q job)
entered q job there = by (ad_at (Proc job) q) there
  where
    by_kind : (k : Option JobKind) (ad : Attributes) → IsSome k → IsSome (entry_of_kind k ad)
    by_kind None ad some = cc
    by_kind (Some k) ad some = refl

    by : (o : Option Attributes) → IsSomeAnd o (λ ad. IsSome (kind_of ad)) → IsSome (opening_entry o)
    by None h = absurd h
    by (Some ad) h = by_kind (kind_of ad) ad h

shows_jobs : (a : PoolParts) → IsOpeningPool a → (job : JobId) → ShowsJob (is_left job a.schedd.left) (ad_at (Proc job) a.queue) (opening_jobs a.queue job)
shows_jobs a o job = by (ad_at (Proc job) a.queue) refl
  where
    left : is_under_at a.queue job ≡ true → is_left job a.schedd.left ≡ true
    left under = in_left job a.schedd.left (listed a.queue None a.schedd.left o.schedd.0 job (job_under a.queue job under) refl)

    by_kind : (ad : Attributes) → ad_at (Proc job) a.queue ≡ Some ad → (k : Option JobKind) → kind_of ad ≡ k → ShowsEntry (is_left job a.schedd.left) ad (entry_of_kind k ad)
    by_kind ad is None what = what
    by_kind ad is (Some kind.Idle) what = (refl, what)
    by_kind ad is (Some kind.Held) what = (refl, what)
    by_kind ad is (Some kind.Under) what = (refl, (left (ap under_by is ∙ ap is_under_kind what), what))

    by : (x : Option Attributes) → ad_at (Proc job) a.queue ≡ x → ShowsJob (is_left job a.schedd.left) x (opening_entry x)
    by None is = tt
    by (Some ad) is = by_kind ad is (kind_of ad) refl

finished_none : (a : PoolParts) → IsOpeningPool a → (job : JobId) → IsFinishedAs (ad_at (Proc job) a.queue) (a.finished job) (opening_jobs a.queue job)
finished_none a o job = by (ad_at (Proc job) a.queue)
  where
    by : (x : Option Attributes) → IsFinishedAs x (a.finished job) (opening_entry x)
    by None = sym (o.finished job)
    by (Some ad) = o.finished job

-- ---- the protocol
opens : (a : PoolParts) → IsOpeningPool a → IsOpening (opening_protocol a)
unfolding opening_protocol opening_pool
opens a o = record {
  grants = refl;
  leases = refl;
  gone = refl;
  runs = refl;
  reports = refl;
  pending = refl;
  marks = no_claims a o;
  jobs = unstarted a.queue;
  acked = λ job there. entered a.queue job ((o.acked job).0 there);
  removals = λ job there. there;
}

no_ends : (s : Slot) (reading : ℕ) → s.state ≡ slot_after_boot reading → ended_of s.state.held ≡ None
no_ends s reading is = ap (λ (st : SlotState). ended_of st.held) is

pub opening_linked : (a : PoolParts) → IsOpeningPool a → IsLinked (opening_protocol a) a
unfolding opening_protocol opening_pool
opening_linked a o = record {
  facts = opening_facts (opening_protocol a) (opens a o);
  safe = opening_safe (opening_protocol a) (opens a o);
  moment = refl;
  acked = λ job. (λ there. there, λ there. there);
  ordered = λ job. (λ there. there, λ there. there);
  reports = subst (λ xs. Rattle.pool_view.specs.AbstractPool.SameMembers [] xs) (sym o.reports) (λ r. (λ there. there, λ there. there));
  slots = has_parts a o;
  schedd = record { jobs = shows_jobs a o; next = refl; marked = λ job marked. (o.ordered job).1 marked };
  finished = finished_none a o;
  startds = λ machine v at. (let x = o.startds machine v at in
      record {
        numbered = x.numbered;
        sound = x.sound;
        ends = λ s there. (let fresh = x.slots s there in
            subst (Rattle.pool_rules.specs.Linked.IsEndReported (opening_protocol a)) (sym (no_ends s fresh.0 fresh.1)) tt);
      });
  mails = subst (Rattle.pool_rules.specs.Linked.AreBorneOut (opening_protocol a)) (sym o.mails) (λ m there. absurd there);
  claims = λ c there. absurd (subst (IsIn c) (ap (λ v. v.claims) o.schedd.1) there);
  granted = λ g there. absurd there;
  awaited = subst (Awaits (opening_protocol a) a) (sym o.awaited) (record { change = refl; waiting = ap (λ v. v.waiting) o.schedd.1; fits = opening_fits a.queue o.settings a.schedd o.queue o.schedd });
}
