-- An accepted event, and what it makes of a pass.
use Rattle.std.proofs.Common.{◌≡◌, ℕ, List, [], ◌∷◌, ◌++◌, Option, Some, None, IsSome, IsSomeAnd, slice_get, sym, ◌∙◌, ap, subst}
use Rattle.desk.specs.declared.entry.Entry.{Entry}
use Rattle.desk.specs.Entries.{entry_of}
use Rattle.desk.specs.Given.{IsGivenBy, IsOwn}
use Rattle.desk.specs.Kinds.{IsKindOf}
use Rattle.desk.specs.Logs.{IsLoggedQueue}
use Rattle.desk.specs.Passes.{Fits}
use Rattle.pool_parts.specs.Appends.{CanAppend}
use Rattle.pool_parts.specs.declared.answer.Kept.{Kept}
use Rattle.pool_parts.specs.declared.answer.Stepped.{Stepped}
use Rattle.pool_parts.specs.declared.event.Event.{Event}
use Rattle.pool_rules.specs.Answers.{answered}
use Rattle.pool_rules.specs.Given.{IsGiven}
use Rattle.pool_rules.specs.Happens.{Reacts}
use Rattle.pool_outer.specs.declared.gate.Daemon.{Daemon}
use Rattle.pool_outer.specs.declared.gate.Daemon.TheVariants.{Schedd, Startd, Matchmaker}
use Rattle.desk.specs.Standing.{HasRoll, Stands, end_mark_of, logged_before, mark_or}
use Rattle.desk.proofs.Answered.{keeps_answer, kind_of}
use Rattle.desk.proofs.GivenByMarks.{own_given}
use Rattle.desk.proofs.Passes.{own_before, own_fits, own_queue, own_stands}
use Rattle.pool_rules.proofs.Rolls.{HasSameRolls, rolls_same}
use Rattle.pool_rules.specs.Refusals.{IsRefusal}
use Rattle.pool_state.specs.declared.state.PoolState.{PoolState}
use Rattle.pool_tables.specs.DaemonTables.{daemon_state}
use Rattle.queue_tx.specs.Queues.{KeyedAds}
use Rattle.receipt_roll.specs.Values.{RollMark}
use Rattle.desk.specs.SolePasses.{HasHolder, HasOneMore, SolePassValue, StandsHere}

-- ---- the pool has its holder and the roll, as it did
still_there : (holder : Option Daemon) (s new : PoolState) → HasSameRolls s new → HasHolder holder s → HasHolder holder new
still_there None s new same there = tt
still_there (Some who) s new same there = same.daemons who ∙ there

still_rolled : (holder : Option Daemon) (s new : PoolState) → HasSameRolls s new → HasRoll holder s → HasRoll holder new
still_rolled None s new same has = tt
still_rolled (Some Schedd) s new same has = tt
still_rolled (Some (Startd machine)) s new same has = subst (λ (xs : List RollMark). IsSomeAnd (slice_get xs machine) (λ mark. Unit {0})) (sym same.ends) has
still_rolled (Some Matchmaker) s new same has = tt

same_end_mark : (holder : Option Daemon) (s new : PoolState) → HasSameRolls s new → end_mark_of holder new ≡ end_mark_of holder s
same_end_mark None s new same = same.log
same_end_mark (Some Schedd) s new same = same.log
same_end_mark (Some (Startd machine)) s new same =
    ap (λ (xs : List RollMark). mark_or (slice_get xs machine) new.log_mark) same.ends ∙ ap (mark_or (slice_get s.end_marks machine)) same.log
same_end_mark (Some Matchmaker) s new same = same.log

-- ---- a pass, with one entry more
pub record Accepted (p : SolePassValue) (items : List Entry) (new : PoolState) (e : Event) (r : Stepped) : Type 0 where
  pub here : StandsHere p.holder items new
  pub first : logged_before items new ≡ logged_before p.mine p.pool
  pub log_mark : new.log_mark ≡ p.pool.log_mark
  pub end_mark : end_mark_of p.holder new ≡ end_mark_of p.holder p.pool
  pub reacts : Reacts p.pool e (answered r.answer) new
  pub kind : IsKindOf e r.answer
  pub fits : Fits (logged_before p.mine p.pool) p.mine r.answer
  pub appends : CanAppend p.pool.queue r.answer
  pub queue : (first : KeyedAds) → IsLoggedQueue first p.mine p.pool.queue → IsLoggedQueue first items new.queue
  pub gained : HasOneMore p.mine p.pool e r.answer items

pub accepted : (p : SolePassValue) (items : List Entry) (new : PoolState) (e : Event) (r : Stepped) → StandsHere p.holder p.mine p.pool → IsOwn p.holder e → IsRefusal e p.pool None → Reacts p.pool e r new → CanAppend p.pool.queue r.answer
    → items ≡ p.mine ++ entry_of p.pool.events e r.kept ∷ [] → Accepted p items new e r
accepted p items new e r here own free reacts appends is =
    let place : ℕ = p.pool.events in
    let same = rolls_same p.pool new e r reacts in
    record {
      here = record {
        there = still_there p.holder p.pool new same here.there;
        roll = still_rolled p.holder p.pool new same here.roll;
        stands = subst (λ (xs : List Entry). Stands p.holder xs new) (sym is) (own_stands p.holder p.mine p.pool new e r place own free reacts here.stands);
      };
      first = ap (λ (xs : List Entry). logged_before xs new) is ∙ own_before p.holder p.mine p.pool new e r place own free reacts here.stands;
      log_mark = same.log;
      end_mark = same_end_mark p.holder p.pool new same;
      reacts = subst (λ (x : Stepped). Reacts p.pool e x new) (λ i. record { answer = r.answer; kept = keeps_answer p.pool new e r reacts i }) reacts;
      kind = kind_of p.pool new e r reacts;
      fits = own_fits p.holder p.mine p.pool new e r own free reacts here.stands;
      appends = appends;
      queue = λ first before. subst (λ (xs : List Entry). IsLoggedQueue first xs new.queue) (sym is) (own_queue p.holder p.mine p.pool new e r place first own free reacts here.stands before);
      gained = is ∙ ap (λ (k : Kept). p.mine ++ entry_of place e k ∷ []) (keeps_answer p.pool new e r reacts);
    }

-- what is to be known of an event
pub given_here : (p : SolePassValue) (e : Event) → StandsHere p.holder p.mine p.pool → IsOwn p.holder e → IsGivenBy p.pool.log_mark (end_mark_of p.holder p.pool) e → IsGiven e p.pool
given_here p e here own given = own_given p.holder p.pool e own here.roll given

-- ---- a pass as it is seen
-- by an equal one, with its holder
pub there_where : (p : SolePassValue) (who : Daemon) → HasHolder p.holder p.pool → p.holder ≡ Some who → IsSome (daemon_state who p.pool.daemons)
there_where p who there is = subst (λ h. HasHolder h p.pool) is there
