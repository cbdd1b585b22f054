-- What a tick makes of a schedd: what the first line that is due does.
use Rattle.std.specs.Prelude.{◌≡◌, ℕ, Bool, false, max, List, [], ◌∷◌, Option, Some, None, is_some, slice_get}
use Rattle.std.specs.declared.ops.Bound.TheVariants.{Unbounded}
use Rattle.ad_tree.specs.Ad.{Attributes}
use Rattle.claim_id.specs.declared.numbers.JobId.{JobId}
use Rattle.pool_mail.specs.declared.mail.Mail.TheVariants as mail
use Rattle.queue_tx.specs.declared.key.Key.{Key}
use Rattle.queue_tx.specs.declared.key.Key.TheVariants.{Header, Proc}
use Rattle.queue_tx.specs.Jobs.{FirstKey}
use Rattle.queue_tx.specs.Queues.{KeyedAds, ad_at}
use Rattle.schedd_plan.specs.declared.plan.JobPlan.TheVariants as plan
use Rattle.schedd_plan.specs.JobAttributes.{lease_until}
use Rattle.schedd_state.specs.declared.answer.ScheddStep.{ScheddStep}
use Rattle.schedd_plan.specs.declared.claims.KeptClaim.{KeptClaim}
use Rattle.schedd_plan.specs.declared.runs.KeptRun.{KeptRun}
use Rattle.schedd_plan.specs.declared.tick.TickLine.{TickLine}
use Rattle.schedd_plan.specs.declared.tick.TickLine.TheVariants as line
use Rattle.schedd_plan.specs.JobPlaces.{let_go}
use Rattle.schedd_plan.specs.KeptClaims.{with_job, claims_without}
use Rattle.schedd_plan.specs.KeptRuns.{runs_without, with_run, with_alive}
use Rattle.schedd_state.specs.Searches.{IsFree}
use Rattle.schedd_plan.specs.TickTable.{lease_end}
use Rattle.schedd_state.specs.Schedds.{ScheddValue, After, becomes, says, waits}
use Rattle.schedd_state.specs.DueLines.{tick_line}
use Rattle.schedd_state.specs.Leaving.{left_claims}

-- ---- the job for a claim that looks for one
abbrev pub IsSoughtBy
    : List KeptClaim → Option KeptClaim → KeyedAds → Option Key → Type 0
IsSoughtBy claims None q found = found ≡ None
IsSoughtBy claims (Some c) q found = FirstKey (IsFree claims c.ad q) Unbounded found

-- the first idle job that makes the same request as the claim's first job, and is not engaged
abbrev pub IsSought : ScheddValue → KeyedAds → TickLine → Option Key → Type 0
IsSought v q (line.Seek place) found =
    IsSoughtBy v.claims (slice_get v.claims place) q found
IsSought v q line.Nothing found = found ≡ None
IsSought v q (line.Left job) found = found ≡ None
IsSought v q (line.Past place) found = found ≡ None
IsSought v q (line.Lengthen place) found = found ≡ None
IsSought v q (line.Regrant place job) found = found ≡ None
IsSought v q (line.GiveUp place) found = found ≡ None

-- ---- what a line does
-- the job of a run whose lease is past is let go
abbrev pub after_past : ScheddValue → KeyedAds → ℕ → Option KeptRun → After
after_past v q place None = becomes v
after_past v q place (Some r) = waits (let_go q r.job) (record v {
  runs = runs_without place v.runs;
  claims = left_claims r.claim.no v.claims;
})

abbrev pub later : ℕ → Option ℕ → ℕ
later end None = end
later end (Some other) = max end other

abbrev pub lengthened_by
    : Option Attributes → ScheddValue → ℕ → KeptRun → ℕ → After
lengthened_by None v place r reading = becomes v
lengthened_by (Some ad) v place r reading =
    waits (plan.Lengthen r.job (later (lease_end ad v.settings reading) (lease_until ad)))
    (record v { runs = with_alive place reading false v.runs })

-- the lease of a run goes on, and never ends sooner than it did
abbrev pub after_lengthen : ScheddValue → KeyedAds → ℕ → Option KeptRun → ℕ → After
after_lengthen v q place None reading = becomes v
after_lengthen v q place (Some r) reading =
    lengthened_by (ad_at (Proc r.job) q) v place r reading

abbrev pub run_granted : JobId → KeptClaim → ℕ → ℕ → KeptRun
run_granted job c number reading =
    record { job = job; claim = c.claim; number = number; alive = reading; found = false }

abbrev pub granted_by
    : Option Attributes → ScheddValue → Bool → ℕ → KeptClaim → JobId → ℕ → After
granted_by None v header place c job reading = becomes v
granted_by (Some ad) v header place c job reading =
    waits (plan.Grant job c.claim v.next_run (lease_end ad v.settings reading) header) (record v {
      runs = with_run (run_granted job c v.next_run reading) v.runs;
      claims = with_job place job v.claims;
    })

-- a claim gets a job
abbrev pub after_grant
    : ScheddValue → KeyedAds → ℕ → Option KeptClaim → JobId → ℕ → After
after_grant v q place None job reading = becomes v
after_grant v q place (Some c) job reading =
    granted_by (ad_at (Proc job) q) v (is_some (ad_at Header q)) place c job reading

-- a claim is given up
abbrev pub after_give_up : ScheddValue → ℕ → Option KeptClaim → After
after_give_up v place None = becomes v
after_give_up v place (Some c) = record {
  schedd = record v { claims = claims_without place v.claims };
  step = says (mail.Release c.claim.no ∷ []);
}

abbrev pub after_seek : ScheddValue → KeyedAds → ℕ → Option Key → ℕ → After
after_seek v q place None reading = after_give_up v place (slice_get v.claims place)
after_seek v q place (Some Header) reading = after_give_up v place (slice_get v.claims place)
after_seek v q place (Some (Proc job)) reading =
    after_grant v q place (slice_get v.claims place) job reading

unfoldable pub after_line : ScheddValue → KeyedAds → TickLine → Option Key → ℕ → After
after_line v q line.Nothing found reading = becomes v
after_line v q (line.Left job) found reading = waits (let_go q job) v
after_line v q (line.Past place) found reading = after_past v q place (slice_get v.runs place)
after_line v q (line.Lengthen place) found reading =
    after_lengthen v q place (slice_get v.runs place) reading
after_line v q (line.Regrant place job) found reading =
    after_grant v q place (slice_get v.claims place) job reading
after_line v q (line.Seek place) found reading = after_seek v q place found reading
after_line v q (line.GiveUp place) found reading =
    after_give_up v place (slice_get v.claims place)

-- ---- a tick: the first line that is due is done, with the job that it looks for
pub record IsTicked (v : ScheddValue) (q : KeyedAds) (reading : ℕ) (new : ScheddValue)
    (step : ScheddStep) : Type 0 where
  pub found : Option Key
  pub sought : IsSought v q (tick_line v q reading) found
  pub schedd : new ≡ (after_line v q (tick_line v q reading) found reading).schedd
  pub done : step ≡ (after_line v q (tick_line v q reading) found reading).step
