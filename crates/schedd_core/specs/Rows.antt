-- What a mail makes of a schedd: the row that fits, and what that row does.
use Rattle.std.specs.Prelude.{ℕ, Bool, List, [], ◌∷◌, ◌++◌, Option, Some, None, is_some, slice_get, slice_set}
use Rattle.ad_tree.specs.Ad.{Attributes}
use Rattle.claim_id.specs.declared.numbers.ClaimId.{ClaimId}
use Rattle.claim_id.specs.declared.numbers.ClaimNo.{ClaimNo}
use Rattle.claim_id.specs.declared.numbers.JobId.{JobId}
use Rattle.claim_id.specs.declared.numbers.RunNo.{RunNo}
use Rattle.pool_mail.specs.Ads.{request_ad}
use Rattle.pool_mail.specs.declared.end.How.{How}
use Rattle.pool_mail.specs.declared.mail.Mail.{Mail}
use Rattle.pool_mail.specs.declared.mail.Mail.TheVariants as mail
use Rattle.queue_tx.specs.declared.key.Key.TheVariants.{Proc}
use Rattle.queue_tx.specs.Queues.{KeyedAds, ad_at}
use Rattle.schedd_plan.specs.declared.reason.Reason.TheVariants.{ByCommand}
use Rattle.schedd_plan.specs.declared.claims.KeptClaim.{KeptClaim}
use Rattle.schedd_plan.specs.declared.claims.Stage.{Stage}
use Rattle.schedd_plan.specs.declared.claims.Stage.TheVariants as stage
use Rattle.schedd_plan.specs.declared.mail.Fate.TheVariants as fate
use Rattle.schedd_plan.specs.declared.mail.MailRow.{MailRow}
use Rattle.schedd_plan.specs.declared.mail.MailRow.TheVariants as row
use Rattle.schedd_plan.specs.declared.runs.KeptRun.{KeptRun}
use Rattle.schedd_plan.specs.EndTable.{ended_ad_plan}
use Rattle.schedd_plan.specs.JobPlaces.{job_place, let_go}
use Rattle.schedd_plan.specs.KeptClaims.{place_of_claim, engages, with_stage, claims_without}
use Rattle.schedd_plan.specs.KeptRuns.{place_of_run, runs_without}
use Rattle.schedd_plan.specs.MailTable.{matched_row, granted_row, denied_row, order_row, fate_of_gone, after_fate}
use Rattle.schedd_plan.specs.OrderTable.{remove_plan, hold_plan, resume_plan}
use Rattle.schedd_state.specs.Schedds.{ScheddValue, After, becomes, says, waits}

-- ---- what is known of a claim: its place, and how far it has come
abbrev pub known_stage : ℕ → Option KeptClaim → Option (ℕ × Stage)
known_stage place None = None
known_stage place (Some c) = Some (place, c.stage)

abbrev pub known_at : List KeptClaim → Option ℕ → Option (ℕ × Stage)
known_at claims None = None
known_at claims (Some place) = known_stage place (slice_get claims place)

abbrev pub stage_known : ScheddValue → ClaimNo → Option (ℕ × Stage)
stage_known v claim = known_at v.claims (place_of_claim claim v.claims)

-- ---- what is known of a run: its place, and its job
abbrev pub known_job : ℕ → Option KeptRun → Option (ℕ × JobId)
known_job place None = None
known_job place (Some r) = Some (place, r.job)

abbrev pub run_at : List KeptRun → Option ℕ → Option (ℕ × JobId)
run_at runs None = None
run_at runs (Some place) = known_job place (slice_get runs place)

abbrev pub run_known : ScheddValue → RunNo → Option (ℕ × JobId)
run_known v run = run_at v.runs (place_of_run run v.runs)

-- ---- the row of a mail
abbrev pub seen_at : Option ℕ → MailRow
seen_at None = row.Nothing
seen_at (Some place) = row.Note place

abbrev pub seen_row : ScheddValue → RunNo → MailRow
seen_row v run = seen_at (place_of_run run v.runs)

abbrev pub gone_at : Option (ℕ × JobId) → KeyedAds → RunNo → Bool → MailRow
gone_at None q run kept = row.Nothing
gone_at (Some known) q run kept =
    row.Free known.0 (let_go q known.1) run.claim (fate_of_gone kept)

abbrev pub gone_row : ScheddValue → KeyedAds → RunNo → Bool → MailRow
gone_row v q run kept = gone_at (run_known v run) q run kept

abbrev pub ended_with : Option Attributes → ℕ × JobId → RunNo → How → ℕ → MailRow
ended_with None known run how reading = row.Nothing
ended_with (Some ad) known run how reading =
    row.Free known.0 (ended_ad_plan known.1 ad how reading) run.claim fate.Ready

abbrev pub ended_at : Option (ℕ × JobId) → KeyedAds → RunNo → How → ℕ → MailRow
ended_at None q run how reading = row.Nothing
ended_at (Some known) q run how reading =
    ended_with (ad_at (Proc known.1) q) known run how reading

abbrev pub ended_row : ScheddValue → KeyedAds → RunNo → How → ℕ → MailRow
ended_row v q run how reading = ended_at (run_known v run) q run how reading

unfoldable pub mail_row : ScheddValue → KeyedAds → Mail → ℕ → MailRow
mail_row v q (mail.Matched found) reading = matched_row (job_place q v.left found.job)
    (engages found.job v.claims) (place_of_claim found.claim.no v.claims) found
mail_row v q (mail.Granted claim job) reading = granted_row (stage_known v claim.no) claim.no
mail_row v q (mail.Denied claim run job why) reading =
    denied_row (stage_known v claim) (is_some run) why
mail_row v q (mail.Seen run until) reading = seen_row v run
mail_row v q (mail.Gone run kept) reading = gone_row v q run kept
mail_row v q (mail.Ended run how) reading = ended_row v q run how reading
mail_row v q (mail.Remove job) reading = order_row (remove_plan (job_place q v.left job) job)
mail_row v q (mail.Hold job) reading =
    order_row (hold_plan (job_place q v.left job) job ByCommand)
mail_row v q (mail.Resume job) reading = order_row (resume_plan (job_place q v.left job) job)
mail_row v q _ reading = row.Nothing

-- ---- what a row does
abbrev pub noted_in : Option KeptRun → ℕ → ℕ → ScheddValue → ScheddValue
noted_in None place reading v = v
noted_in (Some r) place reading v =
    record v { runs = slice_set v.runs place (record r { alive = reading }) }

-- the run of a place is alive
abbrev pub noted : ℕ → ℕ → ScheddValue → ScheddValue
noted place reading v = noted_in (slice_get v.runs place) place reading v

-- a claim is asked for, with the job's ad
abbrev pub claim_asked : ClaimId → JobId → Attributes → ℕ → KeptClaim
claim_asked claim job ad reading =
    record { claim = claim; job = job; stage = stage.Asked reading; ad = ad }

abbrev pub asked_in
    : Option Attributes → ScheddValue → ClaimId → JobId → Bool → ℕ → After
asked_in None v claim job by_priority reading = becomes v
asked_in (Some ad) v claim job by_priority reading = record {
  schedd = record v { claims = v.claims ++ claim_asked claim job ad reading ∷ [] };
  step = says (mail.Ask claim job (request_ad ad) by_priority ∷ []);
}

abbrev pub with_claims : List KeptClaim → ScheddValue → ScheddValue
with_claims claims v = record v { claims = claims }

unfoldable pub after_row : ScheddValue → KeyedAds → MailRow → ℕ → After
after_row v q row.Nothing reading = becomes v
after_row v q (row.Ask claim job by_priority) reading =
    asked_in (ad_at (Proc job) q) v claim job by_priority reading
after_row v q (row.Ready place) reading =
    becomes (with_claims (with_stage place stage.Ready v.claims) v)
after_row v q (row.Release claim) reading =
    record { schedd = v; step = says (mail.Release claim ∷ []) }
after_row v q (row.Forget place) reading =
    becomes (with_claims (claims_without place v.claims) v)
after_row v q (row.Leave place) reading =
    becomes (with_claims (with_stage place stage.Leaving v.claims) v)
after_row v q (row.Note place) reading = becomes (noted place reading v)
after_row v q (row.Free place plan claim f) reading = waits plan (record v {
  runs = runs_without place v.runs;
  claims = after_fate f claim v.claims;
})
after_row v q (row.Order plan) reading = waits plan v

abbrev pub after_mail : ScheddValue → KeyedAds → Mail → ℕ → After
after_mail v q m reading = after_row v q (mail_row v q m reading) reading
