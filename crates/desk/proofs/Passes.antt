-- What the entries of a pass have to do with the pool goes on.
use Rattle.std.proofs.Common.{◌≡◌, ◌≢◌, inl, inr, ℕ, ◌-◌, List, [], ◌∷◌, ◌++◌, length, Option, Some, None, slice_get, refl, sym, ◌∙◌, ap, subst}
use Rattle.std.proofs.lemmas.Option.{none-some, same_Some}
use Rattle.desk.specs.declared.entry.Entry.{Entry}
use Rattle.desk.specs.declared.entry.Sort.{Sort}
use Rattle.desk.specs.Entries.{entry_of}
use Rattle.desk.specs.Given.{IsOwn}
use Rattle.desk.specs.Kinds.{AsksNothing, IsKindOf}
use Rattle.desk.specs.Logs.{IsLoggedQueue, LogSoFar, log_after, log_of, log_told, tells_logged}
use Rattle.desk.specs.Passes.{Fits}
use Rattle.desk.proofs.OneMore.{log_on}
use Rattle.pool_parts.specs.declared.answer.Answer.{Answer}
use Rattle.pool_parts.specs.declared.answer.Answer.TheVariants as answer
use Rattle.pool_parts.specs.declared.answer.Stepped.{Stepped}
use Rattle.pool_parts.specs.declared.event.Event.{Event}
use Rattle.pool_parts.specs.declared.event.Event.TheVariants as event
use Rattle.pool_parts.specs.Events.{holder_of}
use Rattle.pool_rules.specs.Happens.{Reacts, counts_brought}
use Rattle.pool_outer.specs.declared.gate.Daemon.{Daemon}
use Rattle.pool_outer.specs.declared.gate.Daemon.TheVariants.{Schedd, Startd, Matchmaker}
use Rattle.pool_rules.specs.Refusals.{IsRefusal}
use Rattle.pool_state.specs.declared.state.PoolState.{PoolState}
use Rattle.queue_tx.specs.Operations.{Operation}
use Rattle.queue_tx.specs.Queues.{KeyedAds, queue_after_all}
use Rattle.startd_core.specs.Startds.{StartdValue, unmoved}
use Rattle.desk.specs.Standing.{LogStands, RunsStand, Stands, logged_before}
use Rattle.desk.proofs.Answered.{kind_of}
use Rattle.desk.proofs.LogCourse.{kept_list, queue_stays}
use Rattle.desk.proofs.MachineCourse.{OwnDoes, others_machine, own_machine, set_there}
use Rattle.desk.proofs.PassCourse.{WellGoes, runs_fit, runs_go}
use Rattle.desk.proofs.Refused.{its_refusal}
use Rattle.desk.proofs.ScheddCourse.{HasSameLog, ScheddGoesOn, others_log, own_log}
use Rattle.desk.proofs.StartdCourse.{unmoved_goes}

-- ---- the schedd
its_log : (mine : List Entry) (s new : PoolState) (e : Event) (r : Stepped) (place : ℕ) → IsOwn (Some Schedd) e → IsRefusal e s None → Reacts s e r new → LogStands (log_of mine) s.pending s.next_tx
    → ScheddGoesOn mine s (log_after (log_of mine) (entry_of place e r.kept)) new r.answer
its_log mine s new e r place own free h stands =
    let go = own_log mine place e s h.then_pool r own (its_refusal e s free) h.happens stands in
    subst (λ (x : PoolState). ScheddGoesOn mine s (log_after (log_of mine) (entry_of place e r.kept)) x r.answer) (sym h.pool) (record { goes = go.goes; fits = go.fits; queue = go.queue })

-- an event of another changes nothing of the log
same_log : (s new : PoolState) (e : Event) (r : Stepped) → holder_of e ≢ Some Schedd → Reacts s e r new → HasSameLog s new
same_log s new e r other h =
    let same = others_log e (counts_brought e s) h.then_pool r other h.happens in
    subst (HasSameLog s) (sym h.pool) (record { pending = same.pending; next = same.next; queue = same.queue })

-- ---- a startd
its_runs : (machine : ℕ) (s new : PoolState) (e : Event) (r : Stepped) → IsOwn (Some (Startd machine)) e → Reacts s e r new → OwnDoes machine s new r
its_runs machine s new e r own h = elim (own_machine machine e (counts_brought e s) h.then_pool r own h.happens) [
  | inl acts ↦ inl (record { startd = acts.startd; at = acts.at; after = acts.after; machines = ap (λ (x : PoolState). x.machines) h.pool ∙ acts.machines; answer = acts.answer; well = acts.well })
  | inr none ↦ inr (ap (λ (x : PoolState). x.machines) h.pool ∙ none.0, none.1)
]

unmoved_well : (mine : List Entry) (v : StartdValue) → RunsStand mine v → WellGoes v (unmoved v)
unmoved_well mine v stands = record { goes = unmoved_goes v []; sound = stands.sound; new = λ permit is. cc }

runs_stand : (machine : ℕ) (mine : List Entry) (s new : PoolState) (e : Event) (r : Stepped) (place : ℕ) → IsOwn (Some (Startd machine)) e → Reacts s e r new → Stands (Some (Startd machine)) mine s
    → Stands (Some (Startd machine)) (mine ++ entry_of place e r.kept ∷ []) new
runs_stand machine mine s new e r place own h stands w at = elim (its_runs machine s new e r own h) [
  | inl acts ↦ (
      let there : Some acts.after.startd ≡ Some w = sym (ap (λ (xs : List StartdValue). slice_get xs machine) acts.machines ∙ set_there s.machines machine acts.after.startd acts.startd acts.at) ∙ at in
      let before = stands acts.startd acts.at in
      subst (RunsStand (mine ++ entry_of place e r.kept ∷ [])) (same_Some acts.after.startd w there)
      (runs_go mine (entry_of place e r.kept) acts.startd acts.after (ap (λ (x : Stepped). x.kept) acts.answer) before (acts.well before.sound)))
  | inr none ↦ (
      let before = stands w (sym (ap (λ (xs : List StartdValue). slice_get xs machine) none.0) ∙ at) in
      runs_go mine (entry_of place e r.kept) w (unmoved w) (ap (λ (x : Stepped). x.kept) none.1) before (unmoved_well mine w before))
]

runs_fits : (machine first : ℕ) (mine : List Entry) (s new : PoolState) (e : Event) (r : Stepped) → IsOwn (Some (Startd machine)) e → Reacts s e r new → Stands (Some (Startd machine)) mine s → Fits first mine r.answer
runs_fits machine first mine s new e r own h stands = elim (its_runs machine s new e r own h) [
  | inl acts ↦ (
      let before = stands acts.startd acts.at in
      subst (λ (x : Stepped). Fits first mine x.answer) (sym acts.answer) (runs_fit first mine acts.startd acts.after before (acts.well before.sound)))
  | inr none ↦ subst (λ (x : Stepped). Fits first mine x.answer) (sym none.1) tt
]

-- ---- the master and the matchmaker ask for nothing
nothing_fits : (first : ℕ) (mine : List Entry) (a : Answer) → AsksNothing a → Fits first mine a
nothing_fits first mine answer.Done nothing = tt
nothing_fits first mine (answer.Append number tx) nothing = absurd nothing
nothing_fits first mine (answer.Launch permit) nothing = absurd nothing
nothing_fits first mine (answer.Kill runs) nothing = absurd nothing

master_asks : (e : Event) (a : Answer) → IsOwn None e → IsKindOf e a → AsksNothing a
master_asks (event.Submit boot jobs reading) a own kind = absurd own
master_asks (event.Order v job reading) a own kind = kind
master_asks (event.Receive who boot index reading judged mismatch) a own kind = absurd (none-some _ (sym own))
master_asks (event.Tick who boot reading) a own kind = absurd (none-some _ (sym own))
master_asks (event.Check boot job reading) a own kind = absurd (none-some _ (sym own))
master_asks (event.Logged boot receipt) a own kind = kind
master_asks (event.Ended machine boot receipt reading) a own kind = kind
master_asks (event.Crash who) a own kind = kind
master_asks (event.Reopen who kept ended reading) a own kind = kind
master_asks (event.Matches list judged reading) a own kind = kind
master_asks (event.Close count reading mismatch) a own kind = kind

matchmaker_asks : (e : Event) (a : Answer) → IsOwn (Some Matchmaker) e → IsKindOf e a → AsksNothing a
matchmaker_asks (event.Submit boot jobs reading) a own kind = absurd own
matchmaker_asks (event.Order v job reading) a own kind = kind
matchmaker_asks (event.Receive who boot index reading judged mismatch) a own kind = by who own kind
  where
    by : (who : Daemon) → Some who ≡ Some Matchmaker → IsKindOf (event.Receive who boot index reading judged mismatch) a → AsksNothing a
    by Schedd own kind = absurd (let clash : Some Schedd ≡ Some Matchmaker = own in cc)
    by (Startd machine) own kind = absurd (let clash : Some (Startd machine) ≡ Some Matchmaker = own in cc)
    by Matchmaker own kind = kind
matchmaker_asks (event.Tick who boot reading) a own kind = by who own kind
  where
    by : (who : Daemon) → Some who ≡ Some Matchmaker → IsKindOf (event.Tick who boot reading) a → AsksNothing a
    by Schedd own kind = absurd (let clash : Some Schedd ≡ Some Matchmaker = own in cc)
    by (Startd machine) own kind = absurd (let clash : Some (Startd machine) ≡ Some Matchmaker = own in cc)
    by Matchmaker own kind = kind
matchmaker_asks (event.Check boot job reading) a own kind = absurd (let clash : Some Schedd ≡ Some Matchmaker = own in cc)
matchmaker_asks (event.Logged boot receipt) a own kind = kind
matchmaker_asks (event.Ended machine boot receipt reading) a own kind = kind
matchmaker_asks (event.Crash who) a own kind = kind
matchmaker_asks (event.Reopen who kept ended reading) a own kind = kind
matchmaker_asks (event.Matches list judged reading) a own kind = kind
matchmaker_asks (event.Close count reading mismatch) a own kind = kind

-- ---- how many were logged before all entries
other_told : (who : Option Daemon) (name : Sort) (number : Option ℕ) (log : LogSoFar) → who ≢ Some Schedd → log_told (tells_logged who name) number log ≡ log
other_told None name number log other = refl
other_told (Some Schedd) name number log other = absurd (other refl)
other_told (Some (Startd machine)) name number log other = refl
other_told (Some Matchmaker) name number log other = refl

-- one entry more logs nothing
other_list : (mine : List Entry) (e : Event) (r : Stepped) (place : ℕ) → holder_of e ≢ Some Schedd → (log_of (mine ++ entry_of place e r.kept ∷ [])).list ≡ (log_of mine).list
other_list mine e r place other =
    let x : Entry = entry_of place e r.kept in
    ap (λ (l : LogSoFar). l.list) (log_on mine x) ∙ (kept_list r.kept (log_told (tells_logged x.who x.sort) x.number (log_of mine))
    ∙ ap (λ (l : LogSoFar). l.list) (other_told x.who x.sort x.number (log_of mine) other))

other_before : (mine : List Entry) (s new : PoolState) (e : Event) (r : Stepped) (place : ℕ) → holder_of e ≢ Some Schedd → Reacts s e r new → logged_before (mine ++ entry_of place e r.kept ∷ []) new ≡ logged_before mine s
other_before mine s new e r place other h =
    ap (λ n. n - length (log_of (mine ++ entry_of place e r.kept ∷ [])).list) (same_log s new e r other h).next ∙ ap (λ (xs : List (List Operation)). s.next_tx - length xs) (other_list mine e r place other)

other_queue : (mine : List Entry) (s new : PoolState) (e : Event) (r : Stepped) (place : ℕ) (first : KeyedAds) → holder_of e ≢ Some Schedd → Reacts s e r new → IsLoggedQueue first mine s.queue
    → IsLoggedQueue first (mine ++ entry_of place e r.kept ∷ []) new.queue
other_queue mine s new e r place first other h is =
    queue_stays (log_of mine) (log_of (mine ++ entry_of place e r.kept ∷ [])) s.queue new.queue (other_list mine e r place other) (same_log s new e r other h).queue first is

-- whose it is
own_holder : (holder : Option Daemon) (e : Event) → IsOwn holder e → holder_of e ≡ holder
own_holder holder (event.Submit boot jobs reading) own = absurd own
own_holder holder (event.Order v job reading) own = own
own_holder holder (event.Receive who boot index reading judged mismatch) own = own
own_holder holder (event.Tick who boot reading) own = own
own_holder holder (event.Check boot job reading) own = own
own_holder holder (event.Logged boot receipt) own = own
own_holder holder (event.Ended machine boot receipt reading) own = own
own_holder holder (event.Crash who) own = own
own_holder holder (event.Reopen who kept ended reading) own = own
own_holder holder (event.Matches list judged reading) own = own
own_holder holder (event.Close count reading mismatch) own = own

-- ---- the laws
pub own_stands : (holder : Option Daemon) (mine : List Entry) (s new : PoolState) (e : Event) (r : Stepped) (place : ℕ) → IsOwn holder e → IsRefusal e s None → Reacts s e r new → Stands holder mine s
    → Stands holder (mine ++ entry_of place e r.kept ∷ []) new
own_stands None mine s new e r place own free h stands = tt
own_stands (Some Schedd) mine s new e r place own free h stands =
    subst (λ l. LogStands l new.pending new.next_tx) (sym (log_on mine (entry_of place e r.kept))) (its_log mine s new e r place own free h stands).goes.stands
own_stands (Some (Startd machine)) mine s new e r place own free h stands = runs_stand machine mine s new e r place own h stands
own_stands (Some Matchmaker) mine s new e r place own free h stands = tt

pub own_fits : (holder : Option Daemon) (mine : List Entry) (s new : PoolState) (e : Event) (r : Stepped) → IsOwn holder e → IsRefusal e s None → Reacts s e r new → Stands holder mine s
    → Fits (logged_before mine s) mine r.answer
own_fits None mine s new e r own free h stands = nothing_fits (logged_before mine s) mine r.answer (master_asks e r.answer own (kind_of s new e r h))
own_fits (Some Schedd) mine s new e r own free h stands = (its_log mine s new e r 0 own free h stands).fits
own_fits (Some (Startd machine)) mine s new e r own free h stands = runs_fits machine (logged_before mine s) mine s new e r own h stands
own_fits (Some Matchmaker) mine s new e r own free h stands = nothing_fits (logged_before mine s) mine r.answer (matchmaker_asks e r.answer own (kind_of s new e r h))

-- events of other holders are none of the schedd
none_not : (e : Event) → IsOwn None e → holder_of e ≢ Some Schedd
none_not e own same = none-some Schedd (sym (own_holder None e own) ∙ same)

startd_not : (machine : ℕ) (e : Event) → IsOwn (Some (Startd machine)) e → holder_of e ≢ Some Schedd
startd_not machine e own same = let clash : Some (Startd machine) ≡ Some Schedd = sym (own_holder (Some (Startd machine)) e own) ∙ same in cc

matchmaker_not : (e : Event) → IsOwn (Some Matchmaker) e → holder_of e ≢ Some Schedd
matchmaker_not e own same = let clash : Some Matchmaker ≡ Some Schedd = sym (own_holder (Some Matchmaker) e own) ∙ same in cc

pub own_before : (holder : Option Daemon) (mine : List Entry) (s new : PoolState) (e : Event) (r : Stepped) (place : ℕ) → IsOwn holder e → IsRefusal e s None → Reacts s e r new → Stands holder mine s
    → logged_before (mine ++ entry_of place e r.kept ∷ []) new ≡ logged_before mine s
own_before None mine s new e r place own free h stands = other_before mine s new e r place (none_not e own) h
own_before (Some Schedd) mine s new e r place own free h stands =
    ap (λ (l : LogSoFar). new.next_tx - length l.list) (log_on mine (entry_of place e r.kept)) ∙ (its_log mine s new e r place own free h stands).goes.before
own_before (Some (Startd machine)) mine s new e r place own free h stands = other_before mine s new e r place (startd_not machine e own) h
own_before (Some Matchmaker) mine s new e r place own free h stands = other_before mine s new e r place (matchmaker_not e own) h

pub own_queue : (holder : Option Daemon) (mine : List Entry) (s new : PoolState) (e : Event) (r : Stepped) (place : ℕ) (first : KeyedAds) → IsOwn holder e → IsRefusal e s None → Reacts s e r new → Stands holder mine s
    → IsLoggedQueue first mine s.queue → IsLoggedQueue first (mine ++ entry_of place e r.kept ∷ []) new.queue
own_queue None mine s new e r place first own free h stands is = other_queue mine s new e r place first (none_not e own) h is
own_queue (Some Schedd) mine s new e r place first own free h stands is =
    ap (λ (l : LogSoFar). queue_after_all first l.list) (log_on mine (entry_of place e r.kept)) ∙ (its_log mine s new e r place own free h stands).queue first is
own_queue (Some (Startd machine)) mine s new e r place first own free h stands is = other_queue mine s new e r place first (startd_not machine e own) h is
own_queue (Some Matchmaker) mine s new e r place first own free h stands is = other_queue mine s new e r place first (matchmaker_not e own) h is

pub others_stand : (holder : Option Daemon) (mine : List Entry) (s new : PoolState) (e : Event) (r : Stepped) → holder_of e ≢ holder → IsRefusal e s None → Reacts s e r new → Stands holder mine s → Stands holder mine new
others_stand None mine s new e r other free h stands = tt
others_stand (Some Schedd) mine s new e r other free h stands =
    let same = same_log s new e r other h in
    subst (λ o. LogStands (log_of mine) o new.next_tx) (sym same.pending) (subst (λ n. LogStands (log_of mine) s.pending n) (sym same.next) stands)
others_stand (Some (Startd machine)) mine s new e r other free h stands = λ v at.
    let same = others_machine machine e (counts_brought e s) h.then_pool r other h.happens in
    stands v (sym same ∙ (sym (ap (λ (x : PoolState). slice_get x.machines machine) h.pool) ∙ at))
others_stand (Some Matchmaker) mine s new e r other free h stands = tt

pub others_queue : (s new : PoolState) (e : Event) (r : Stepped) → holder_of e ≢ Some Schedd → IsRefusal e s None → Reacts s e r new → new.queue ≡ s.queue
others_queue s new e r other free h = (same_log s new e r other h).queue
