-- One course of a protocol from an opening on, in which every kind of move is made: a job is
-- submitted, granted, started, kept on, ordered to be removed, stopped and taken out.
use Rattle.std.specs.Prelude.{ℕ, List, [], ◌∷◌, Some, None, if◌then◌else◌}
use Rattle.ad_eval.specs.Judgement.{Judgement}
use Rattle.claim_id.specs.declared.numbers.ClaimNo.{ClaimNo}
use Rattle.claim_id.specs.declared.numbers.JobId.{JobId}
use Rattle.claim_id.specs.declared.numbers.RunNo.{RunNo}
use Rattle.claim_id.specs.declared.numbers.SlotId.{SlotId}
use Rattle.pool_mail.specs.declared.end.How.TheVariants.{Stopped}
use Rattle.pool_view.specs.declared.job.Outcome.TheVariants.{Removed}
use Rattle.pool_view.specs.declared.run.Run.{Run}
use Rattle.pool_view.specs.AbstractStep.{Grant, Lengthen, Finish}
use Rattle.pool_view.specs.Ads.{core_of}
use Rattle.pool_view.specs.Numbers.{same_slot}
use Rattle.pool_view.specs.Protocol.{Lease, NewJob, Submission, OfJob, Removal, Protocol}
use Rattle.pool_view.specs.ProtocolMove.{ProtocolMove, PassTime, Pend, Commit, Drop, Confirm, TakeOrder, SendLease, HoldClaim, UseNumber, EndClaim, Reboot, StartRun, ExtendRun, StopRun, SayGone}

abbrev pub the_slot : SlotId
the_slot = record { machine = 0; slot = 1 }

abbrev pub the_job : JobId
the_job = record { cluster = 1; proc = 0 }

abbrev pub the_claim : ClaimNo
the_claim = record { slot = the_slot; boot = 7; seq = 1 }

abbrev pub the_run : RunNo
the_run = record { claim = the_claim; number = 1 }

-- a pool of one slot, without jobs
abbrev pub course_opening : Judgement → Protocol
course_opening judged = record {
  pool = record {
    moment = 0;
    next = 1;
    jobs = λ job. None;
    acked = [];
    ordered = [];
    runs = [];
    marks = λ slot. if same_slot slot the_slot
        then Some (record { boot = 7; ended = 0; held = None })
        else None;
    reports = [];
    slots = λ slot. Some judged.slot;
  };
  grants = [];
  leases = [];
  gone = [];
  removals = [];
  pending = None;
}

abbrev pub new_job : Judgement → NewJob
new_job judged = record { job = the_job; core = core_of judged.job }

abbrev pub lease_until : Judgement → ℕ → Lease
lease_until judged end =
    record { run = the_run; job = the_job; core = core_of judged.job; until = end }

abbrev pub run_until : Judgement → ℕ → Run
run_until judged end =
    record { slot = the_slot; run = the_run; job = the_job; until = end; judged = judged }

abbrev pub course : Judgement → List ProtocolMove
course judged =
    PassTime 10
    ∷ Pend (Submission (new_job judged ∷ []))
    ∷ Commit
    ∷ Confirm the_job
    ∷ HoldClaim the_claim
    -- a grant that a crash loses, and one that is logged
    ∷ Pend (OfJob (Grant the_job the_run 50))
    ∷ Drop
    ∷ Pend (OfJob (Grant the_job the_run 60))
    ∷ Commit
    ∷ SendLease (lease_until judged 60)
    ∷ StartRun (run_until judged 60)
    ∷ Pend (OfJob (Lengthen the_job 90))
    ∷ Commit
    ∷ SendLease (lease_until judged 90)
    ∷ ExtendRun (run_until judged 60) 90
    ∷ TakeOrder the_job
    ∷ Pend (Removal the_job)
    ∷ Commit
    ∷ StopRun (run_until judged 90) (Some Stopped)
    -- a late Alive of it
    ∷ UseNumber the_run
    ∷ SayGone the_run
    ∷ Pend (OfJob (Finish the_job Removed))
    ∷ EndClaim the_claim
    ∷ Reboot the_slot 8
    ∷ Commit
    ∷ []
