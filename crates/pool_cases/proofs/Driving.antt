-- A pool is driven from its opening on, by whatever happens.
use Rattle.std.proofs.Common.{◌≡◌, ℕ, ◌<◌, true, List, length, IsSome, refl, sym, ◌∙◌, subst}
use Rattle.std.specs.Prelude.{Result, Ok, Err, IfOk, OnErr, OnOk}
use Rattle.std.proofs.lemmas.Bool.{ltb-true}
use Rattle.pool_parts.specs.declared.answer.Stepped.{Stepped}
use Rattle.pool_parts.specs.declared.event.Event.{Event}
use Rattle.pool_cases.specs.Marks.{RollMarks}
use Rattle.pool_rules.specs.Happens.{Reacts}
use Rattle.pool_outer.specs.declared.gate.Daemon.{Daemon}
use Rattle.pool_outer.specs.declared.gate.Daemon.TheVariants.{Schedd, Startd, Matchmaker}
use Rattle.pool_rules.proofs.Rolls.{rolls_same}
use Rattle.pool_state.specs.declared.opening.Opening.{Opening}
use Rattle.pool_state.specs.declared.state.PoolState.{PoolState}
use Rattle.pool_state.specs.Openings.{CanOpen, IsOpenedBy}
use Rattle.pool_tables.specs.declared.refusal.StepError.{StepError}
use Rattle.pool_tables.specs.DaemonTables.{daemon_state}
use Rattle.receipt_roll.specs.Values.{RollMark}
use Rattle.pool_cases.specs.Driven.{IsDriven, is_of}
use Rattle.pool_cases.proofs.Counting.{startds_there}

opened_driven : (o : Opening) (m : RollMarks) (s : PoolState) → CanOpen o → IsOpenedBy o s → o.log_mark ≡ m.log → o.end_marks.items ≡ m.ends → IsDriven m s
opened_driven o m s can opened log ends = record {
  marks = record { log = opened.log_mark ∙ log; ends = opened.end_marks ∙ ends };
  startds = λ machine small. startds_there o s machine can opened (subst (λ (marks : List RollMark). machine < length marks) (sym ends) small);
}

pub opening_driven : {E : Type 0} → (o : Opening) (m : RollMarks) (r : Result PoolState E) → OnOk r (CanOpen o) → IfOk r (IsOpenedBy o) → o.log_mark ≡ m.log → o.end_marks.items ≡ m.ends → IfOk r (IsDriven m)
opening_driven o m (Ok s) can opened log ends = opened_driven o m s can opened log ends
opening_driven o m (Err error) can opened log ends = tt

pub driven_on : (m : RollMarks) (s new : PoolState) (e : Event) (r : Result Stepped StepError) → IfOk r (λ stepped. Reacts s e stepped new) → OnErr r (new ≡ s) → IsDriven m s → IsDriven m new
driven_on m s new e (Ok stepped) reacts same d =
    let h = rolls_same s new e stepped reacts in
    record {
      marks = record { log = h.log ∙ d.marks.log; ends = h.ends ∙ d.marks.ends };
      startds = λ machine small. h.daemons (Startd machine) ∙ d.startds machine small;
    }
driven_on m s new e (Err error) reacts same d = subst (IsDriven m) (sym same) d

pub has_daemon : (who : Daemon) (machines : ℕ) (m : RollMarks) (s : PoolState) → IsDriven m s → machines ≡ length m.ends → is_of who machines ≡ true → IsSome (daemon_state who s.daemons)
has_daemon Schedd machines m s d count is = refl
has_daemon (Startd machine) machines m s d count is =
    d.startds machine (subst (λ n. machine < n) count (ltb-true machine machines is))
has_daemon Matchmaker machines m s d count is = refl
