-- What a holder gives by the marks of its rolls is what a pool is to be given.
use Rattle.std.proofs.Common.{◌≡◌, ℕ, List, [], ◌∷◌, Option, Some, None, IsSomeAnd, slice_get, slice_index_or, refl, sym, ◌∙◌, ap, subst}
use Rattle.claim_id.specs.declared.numbers.ClaimId.{ClaimId}
use Rattle.desk.specs.Given as desk
use Rattle.desk.specs.Given.{AreOfHolder, AreOfRoll, IsGivenBy, IsOwn}
use Rattle.pool_parts.specs.declared.event.Event.{Event}
use Rattle.pool_parts.specs.declared.event.Event.TheVariants as event
use Rattle.pool_mail.specs.declared.end.Ending.{Ending}
use Rattle.pool_rules.specs.Given.{AreOfDaemon, AreOfMachine, IsGiven, IsNumbered}
use Rattle.pool_outer.specs.declared.gate.Daemon.{Daemon}
use Rattle.pool_outer.specs.declared.gate.Daemon.TheVariants.{Schedd, Startd, Matchmaker}
use Rattle.pool_state.specs.declared.state.PoolState.{PoolState}
use Rattle.receipt_roll.specs.Values.{ReceiptValue, RollMark}
use Rattle.desk.specs.Standing.{HasRoll, end_mark_of, mark_or}

-- the roll of a machine, where the pool has it
its_roll : (o : Option RollMark) (other : RollMark) → IsSomeAnd o (λ mark. Unit {0}) → o ≡ Some (mark_or o other)
its_roll None other has = absurd has
its_roll (Some mark) other has = refl

machine_roll : (machine : ℕ) (s : PoolState) → HasRoll (Some (Startd machine)) s → slice_get s.end_marks machine ≡ Some (end_mark_of (Some (Startd machine)) s)
machine_roll machine s has = its_roll (slice_get s.end_marks machine) s.log_mark has

of_machine : (machine : ℕ) (s : PoolState) (mark : RollMark) (rs : List (ReceiptValue Ending)) → slice_get s.end_marks machine ≡ Some mark → AreOfRoll mark rs → AreOfMachine machine s rs
of_machine machine s mark [] is all = tt
of_machine machine s mark (r ∷ rs) is all = (is ∙ ap (λ (m : RollMark). Some m) (sym all.0), of_machine machine s mark rs is all.1)

of_daemon : (who : Daemon) (s : PoolState) (ended : List (ReceiptValue Ending)) → HasRoll (Some who) s → AreOfHolder who (end_mark_of (Some who) s) ended → AreOfDaemon who s ended
of_daemon Schedd s ended has given = given
of_daemon (Startd machine) s ended has given = of_machine machine s (end_mark_of (Some (Startd machine)) s) ended (machine_roll machine s has) given
of_daemon Matchmaker s ended has given = given

-- the numbers of a claim
numbered : (claim : ClaimId) → desk.IsNumbered claim → IsNumbered claim
numbered claim is = record { machine = is.machine; slot = is.slot; boot = is.boot; seq = is.seq; secret = is.secret }

pub own_given : (holder : Option Daemon) (s : PoolState) (e : Event) → IsOwn holder e → HasRoll holder s → IsGivenBy s.log_mark (end_mark_of holder s) e → IsGiven e s
own_given holder s (event.Submit boot jobs reading) own has given = absurd own
own_given holder s (event.Order v job reading) own has given = tt
own_given holder s (event.Receive who boot index reading judged mismatch) own has given = tt
own_given holder s (event.Tick who boot reading) own has given = tt
own_given holder s (event.Check boot job reading) own has given = tt
own_given holder s (event.Logged boot receipt) own has given = given
own_given holder s (event.Ended machine boot receipt reading) own has given =
    machine_roll machine s (subst (λ h. HasRoll h s) (sym own) has)
    ∙ ap (λ (m : RollMark). Some m) (ap (λ h. end_mark_of h s) own ∙ sym given)
own_given holder s (event.Crash who) own has given = tt
own_given holder s (event.Reopen who kept ended reading) own has given = (
  given.0,
  of_daemon who s ended (subst (λ h. HasRoll h s) (sym own) has) (subst (λ h. AreOfHolder who (end_mark_of h s) ended) (sym own) given.1),
)
own_given holder s (event.Matches list judged reading) own has given = (given.0, λ k d within. numbered (slice_index_or list k d).claim (given.1 k d within))
own_given holder s (event.Close length reading mismatch) own has given = tt
