-- Every pool of a history is kept, and so is safe; and what its events leave and add.
use Rattle.std.proofs.Common.{◌≡◌, ◌⊎◌, inl, inr, ℕ, List, [], ◌∷◌, Option, sym, ◌∙◌, ap, subst}
use Rattle.claim_id.specs.declared.numbers.ClaimId.{ClaimId}
use Rattle.claim_id.specs.declared.numbers.JobId.{JobId}
use Rattle.pool_parts.specs.Events.{reading_of}
use Rattle.pool_parts.specs.declared.answer.Stepped.{Stepped}
use Rattle.pool_parts.specs.declared.event.Event.{Event}
use Rattle.pool_parts.specs.declared.event.Event.TheVariants as event
use Rattle.pool_rules.proofs.Opening.{opening_protocol}
use Rattle.pool_rules.proofs.Reviewing.{view_linked}
use Rattle.pool_rules.proofs.Viewing.{linked_shows, shown_safe, steps_lead}
use Rattle.pool_rules.specs.Happens.{Reacts, counts_brought, latest_after}
use Rattle.pool_rules.specs.Parts.{parts_of}
use Rattle.pool_outer.specs.declared.gate.Daemon.TheVariants.{Schedd, Startd, Matchmaker}
use Rattle.pool_view.specs.Protocol.{Protocol}
use Rattle.pool_view.specs.ProtocolMove.{all_steps, protocol_after_all}
use Rattle.pool_state.specs.declared.opening.Opening.{Opening}
use Rattle.pool_state.specs.declared.state.Counts.{Counts}
use Rattle.pool_state.specs.declared.state.PoolState.{PoolState}
use Rattle.pool_view.specs.AbstractPool.{AbstractPool, IsIn}
use Rattle.pool_view.specs.AbstractStep.{AbstractStep, Moves, Takes}
use Rattle.pool_view.specs.Safe.{Safe}
use Rattle.schedd_state.specs.Reopening.{IsReader}
use Rattle.schedd_core.specs.ScheddParts.{IsMarked}
use Rattle.pool_rules.specs.Histories.{Accepts, IsEvent, IsHistory, IsOrderedIn, LeadsTo, MovesView, OrdersOnly, HasView, Step, latest_in}
use Rattle.pool_rules.specs.Few.{AreFew}
use Rattle.pool_rules.specs.Kept.{GoesOn, IsKept}
use Rattle.pool_rules.specs.Orders.{OrdersRemoval}
use Rattle.pool_rules.specs.Steps.{AreStepsOf, IsStepOf}
use Rattle.pool_rules.proofs.HistorySteps.{Ordering, ordering}
use Rattle.pool_rules.proofs.HistoryTraces.{Traces, happens_traces}
use Rattle.pool_rules.proofs.PoolEvents.{event_keeps}
use Rattle.pool_rules.proofs.ScheddFew.{event_few, opening_few}
use Rattle.pool_rules.proofs.PoolFrames.{goes_of_more, going_on, staying}
use Rattle.pool_rules.proofs.PoolOpening.{opening_kept, removed_jobs}

-- a list of events may make any step
abbrev AnyStep : AbstractStep → Type 0
AnyStep k = Unit {0}

-- what a pool orders doesn't hang on what it counts
removal_on : (e : Event) (s : PoolState) (c : Counts) (job : JobId) → OrdersRemoval e (record s { counts = c }) job → OrdersRemoval e s job
removal_on (event.Receive Schedd boot index reading judged mismatch) s c job h = h
removal_on (event.Receive (Startd machine) boot index reading judged mismatch) s c job h = h
removal_on (event.Receive Matchmaker boot index reading judged mismatch) s c job h = h
removal_on (event.Check boot checked reading) s c job h = h
removal_on (event.Submit boot jobs reading) s c job h = h
removal_on (event.Order v of reading) s c job h = h
removal_on (event.Tick who boot reading) s c job h = h
removal_on (event.Logged boot receipt) s c job h = h
removal_on (event.Ended machine boot receipt reading) s c job h = h
removal_on (event.Crash who) s c job h = h
removal_on (event.Reopen who kept ended reading) s c job h = h
removal_on (event.Matches list judged reading) s c job h = h
removal_on (event.Close length reading mismatch) s c job h = h

-- the greatest reading is that of before or the event's; no order and no acknowledgement is forgotten,
-- and what is ordered more is ordered by the event
pub record Leaves (e : Event) (s new : PoolState) : Type 0 where
  pub latest : new.latest ≡ latest_after (reading_of e) s.latest
  pub ordered : (job : JobId) → IsIn job s.ordered → IsIn job new.ordered
  pub asked : (job : JobId) → IsIn job new.ordered → IsIn job s.ordered ⊎ OrdersRemoval e s job
  pub acked : (job : JobId) → IsIn job s.acked → IsIn job new.acked

module _ (read : List ℕ → Option ClaimId) (reads : IsReader read) where
  pub reacts_leaves : (s : PoolState) (e : Event) (r : Stepped) (new : PoolState) → Reacts s e r new → Leaves e s new
  reacts_leaves s e r new reacts =
      let t : Traces e (counts_brought e s) reacts.then_pool = happens_traces read reads e (counts_brought e s) reacts.then_pool r reacts.happens in
      let ordered : new.ordered ≡ reacts.then_pool.ordered = ap (λ (x : PoolState). x.ordered) reacts.pool in
      let acked : new.acked ≡ reacts.then_pool.acked = ap (λ (x : PoolState). x.acked) reacts.pool in
      record {
        latest = ap (λ (x : PoolState). x.latest) reacts.pool;
        ordered = λ job there. subst (IsIn job) (sym ordered) (t.ordered job there);
        asked = λ job there. by job (t.asked job (subst (IsIn job) ordered there));
        acked = λ job there. subst (IsIn job) (sym acked) (t.acked job there);
      }
    where
      by : (job : JobId) → IsIn job s.ordered ⊎ OrdersRemoval e (counts_brought e s) job → IsIn job s.ordered ⊎ OrdersRemoval e s job
      by job (inl old) = inl old
      by job (inr new) = inr (removal_on e s _ job new)

  accepted_goes : (p : Protocol) (s : PoolState) (e : Event) (r : Stepped) (new : PoolState) → IsKept p s → AreFew s → Accepts s e r new → GoesOn p (IsStepOf e s) new
  accepted_goes p s e r new k few a = event_keeps read reads p s k few e r new a.given a.accepted a.reacts

  -- the pools of a history
  record Goes (p : Protocol) (t : PoolState) : Type 0 where
    on : GoesOn p AnyStep t
    few : AreFew t

  -- ---- lists of events
  leads_goes : (p : Protocol) (s : PoolState) (list : List Step) (t : PoolState) → IsKept p s → AreFew s → LeadsTo s list t → Goes p t
  leads_goes p s [] t k few same = record { on = staying p AnyStep t (subst (IsKept p) (sym same) k); few = subst AreFew (sym same) few }
  leads_goes p s (h ∷ hs) t k few (new, accepts, rest) =
      let on = goes_of_more p (IsStepOf h.event s) AnyStep new (λ l is. tt) (accepted_goes p s h.event h.answer new k few accepts) in
      let later = leads_goes (protocol_after_all p on.moves) new hs t on.kept (event_few read reads p s new h.event h.answer k few accepts.reacts) rest in
      record { on = going_on p AnyStep on.moves t on.may on.steps later.on; few = later.few }

  -- each pool of a history is kept, and uses few clusters
  pub record Past (s : PoolState) : Type 0 where
    pub protocol : Protocol
    pub kept : IsKept protocol s
    pub few : AreFew s

  pub history_past : (o : Opening) (list : List Step) (s : PoolState) → IsHistory o list s → Past s
  history_past o list s h =
      let p : Protocol = opening_protocol (parts_of h.opening) in
      let goes = leads_goes p h.opening list s (opening_kept o h.opening h.can h.queue h.opened) (opening_few o h.opening h.can h.opened) h.leads in
      record { protocol = protocol_after_all p goes.on.moves; kept = goes.on.kept; few = goes.few }

  pub history_kept : (o : Opening) (list : List Step) (s : PoolState) → IsHistory o list s → (p : Protocol) × IsKept p s
  history_kept o list s h = let past = history_past o list s h in (past.protocol, past.kept)

  -- ---- what is shown
  pub history_shows : (o : Opening) (list : List Step) (s : PoolState) → IsHistory o list s → (v : AbstractPool) × HasView s v
  history_shows o list s h = let k = history_kept o list s h in (k.0.pool, linked_shows k.0 (parts_of s) k.1.linked)

  pub history_safe : (o : Opening) (list : List Step) (s : PoolState) (v : AbstractPool) → IsHistory o list s → HasView s v → Safe v
  history_safe o list s v h shows = let k = history_kept o list s h in shown_safe k.0 (parts_of s) v k.1.linked shows

  with_view : (p : Protocol) (s : PoolState) (v : AbstractPool) → IsKept p s → HasView s v → IsKept (record p { pool = v }) s
  with_view p s v k shows = record { linked = view_linked p (parts_of s) v k.linked shows; pending = k.pending; addressed = k.addressed; passed = k.passed; boots = k.boots }

  goes_steps : (p : Protocol) (P : AbstractStep → Type 0) (s t : PoolState) (w : AbstractPool) → IsKept p s → (on : GoesOn p P t) → HasView t w → Takes p.pool (all_steps p on.moves) w
  goes_steps p P s t w k on shows = (steps_lead p (parts_of s) (parts_of t) on.moves w k.linked (record { may = on.may; linked = on.kept.linked }) shows).0

  -- events move what is shown by steps that may be made
  pub history_moves : (o : Opening) (list more : List Step) (s t : PoolState) (v w : AbstractPool) → IsHistory o list s → LeadsTo s more t → HasView s v → HasView t w → Moves v w
  history_moves o list more s t v w h leads before after =
      let past = history_past o list s h in
      let p : Protocol = record past.protocol { pool = v } in
      let kept : IsKept p s = with_view past.protocol s v past.kept before in
      let goes = leads_goes p s more t kept past.few leads in
      (all_steps p goes.on.moves, goes_steps p AnyStep s t w kept goes.on after)

  -- an accepted event does so, by its own
  accepted_takes : (p : Protocol) (s : PoolState) (e : Event) (r : Stepped) (new : PoolState) (v w : AbstractPool) → IsKept p s → AreFew s → Accepts s e r new → HasView s v → HasView new w
      → (steps : List AbstractStep) × Takes v steps w × AreStepsOf e s steps
  accepted_takes p s e r new v w k few accepts before after =
      let q : Protocol = record p { pool = v } in
      let kept : IsKept q s = with_view p s v k before in
      let on = accepted_goes q s e r new kept few accepts in
      (all_steps q on.moves, goes_steps q (IsStepOf e s) s new w kept on after, on.steps)

  -- and orders only what it asks for
  pub accepted_steps : (p : Protocol) (s : PoolState) (e : Event) (r : Stepped) (new : PoolState) → IsKept p s → AreFew s → Accepts s e r new → MovesView e s new
  accepted_steps p s e r new k few accepts v w before after =
      let moves = accepted_takes p s e r new v w k few accepts before after in
      let found : Ordering (OrdersRemoval e s) moves.0 v w = ordering (OrdersRemoval e s) v moves.0 w known moves.1 in
      (found.steps, found.takes, (λ l there. moves.2 l (found.some l there)), found.only)
    where
      by : (job : JobId) → IsIn job s.ordered ⊎ OrdersRemoval e s job → IsIn job v.ordered ⊎ OrdersRemoval e s job
      by job (inl old) = inl ((before.ordered job).1 old)
      by job (inr new) = inr new

      known : (job : JobId) → IsIn job w.ordered → IsIn job v.ordered ⊎ OrdersRemoval e s job
      known job there = by job ((reacts_leaves s e r new accepts.reacts).asked job ((after.ordered job).0 there))

  pub event_steps : (o : Opening) (list : List Step) (s : PoolState) (e : Event) (r : Stepped) (new : PoolState) (v w : AbstractPool) → IsEvent o list s e r new v w → (steps : List AbstractStep) × Takes v steps w × AreStepsOf e s steps × OrdersOnly e s steps
  event_steps o list s e r new v w h =
      let past = history_past o list s h.history in
      accepted_steps past.protocol s e r new past.kept past.few h.accepts v w h.before h.after

  -- ---- what lists of events leave
  pub leads_latest : (s : PoolState) (list : List Step) (t : PoolState) → LeadsTo s list t → t.latest ≡ latest_in list s.latest
  leads_latest s [] t same = ap (λ (x : PoolState). x.latest) same
  leads_latest s (h ∷ hs) t (new, accepts, rest) =
      leads_latest new hs t rest ∙ ap (latest_in hs) (reacts_leaves s h.event h.answer new accepts.reacts).latest

  pub leads_acked : (s : PoolState) (list : List Step) (t : PoolState) (job : JobId) → LeadsTo s list t → IsIn job s.acked → IsIn job t.acked
  leads_acked s [] t job same there = subst (λ (x : PoolState). IsIn job x.acked) (sym same) there
  leads_acked s (h ∷ hs) t job (new, accepts, rest) there = leads_acked new hs t job rest ((reacts_leaves s h.event h.answer new accepts.reacts).acked job there)

  leads_asked : (s : PoolState) (list : List Step) (t : PoolState) (job : JobId) → LeadsTo s list t → IsIn job t.ordered → IsIn job s.ordered ⊎ IsOrderedIn s list job
  leads_asked s [] t job same there = inl (subst (λ (x : PoolState). IsIn job x.ordered) same there)
  leads_asked s (h ∷ hs) t job (new, accepts, rest) there = later (leads_asked new hs t job rest there)
    where
      now : IsIn job s.ordered ⊎ OrdersRemoval h.event s job → IsIn job s.ordered ⊎ IsOrderedIn s (h ∷ hs) job
      now (inl old) = inl old
      now (inr asked) = inr (inl asked)

      later : IsIn job new.ordered ⊎ IsOrderedIn new hs job → IsIn job s.ordered ⊎ IsOrderedIn s (h ∷ hs) job
      later (inl before) = now ((reacts_leaves s h.event h.answer new accepts.reacts).asked job before)
      later (inr more) = inr (inr (new, accepts, more))

  -- a job that is ordered was marked so at the opening, or is ordered by an event
  pub history_asked : (o : Opening) (list : List Step) (s : PoolState) (h : IsHistory o list s) (job : JobId) → IsIn job s.ordered → IsMarked o.queue job ⊎ IsOrderedIn h.opening list job
  history_asked o list s h job there = by (leads_asked h.opening list s job h.leads there)
    where
      by : IsIn job h.opening.ordered ⊎ IsOrderedIn h.opening list job → IsMarked o.queue job ⊎ IsOrderedIn h.opening list job
      by (inl first) = inl ((removed_jobs o.queue h.opening.ordered h.opened.ordered job).0 first)
      by (inr asked) = inr asked
