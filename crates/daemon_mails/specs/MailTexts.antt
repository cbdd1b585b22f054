-- The texts of mails without an ad: `NAME FIELD=VALUE ..`.
use Rattle.std.specs.Prelude.{ℕ, Bool, List, [], ◌++◌, Option, Some, None, codes, decimal, if◌then◌else◌}
use Rattle.claim_id.specs.declared.numbers.ClaimId.{ClaimId}
use Rattle.claim_id.specs.declared.numbers.ClaimNo.{ClaimNo}
use Rattle.claim_id.specs.declared.numbers.JobId.{JobId}
use Rattle.claim_id.specs.declared.numbers.RunNo.{RunNo}
use Rattle.claim_id.specs.Texts.{claim_no_text, claim_text, job_text}
use Rattle.pool_mail.specs.declared.end.How.{How}
use Rattle.pool_mail.specs.declared.mail.Mail.{Mail}
use Rattle.pool_mail.specs.declared.mail.Mail.TheVariants.{Matched, Granted, Denied, Alive, Seen, Stop, Release, Gone, Ended, Remove, Hold, Resume}
use Rattle.pool_mail.specs.declared.matching.Match.{Match}
use Rattle.daemon_texts.specs.NumberTexts.{run_text}
use Rattle.daemon_texts.specs.EndTexts.{how_text, why_text}

abbrev pub truth_text : Bool → List ℕ
truth_text b = if b then codes "true" else codes "false"

-- a run, or `-`
abbrev pub some_run_text : Option RunNo → List ℕ
some_run_text (Some run) = run_text run
some_run_text None = codes "-"

-- `NAME job=JOB`, where NAME is empty if other fields stand before
unfoldable pub order_text : List ℕ → JobId → List ℕ
order_text name job = name ++ (codes " job=" ++ job_text job)

-- `NAME run=RUN`, and this with a lease
unfoldable pub of_run_text : List ℕ → RunNo → List ℕ
of_run_text name run = name ++ (codes " run=" ++ run_text run)

unfoldable pub run_until_text : List ℕ → RunNo → ℕ → List ℕ
run_until_text name run until = of_run_text name run ++ (codes " until=" ++ decimal until)

unfoldable pub matched_text : Match → List ℕ
matched_text found = order_text (codes "Matched") found.job
    ++ (codes " claim=" ++ (claim_text found.claim
    ++ (codes " by_priority=" ++ truth_text found.by_priority)))

unfoldable pub granted_text : ClaimId → JobId → List ℕ
granted_text claim job = codes "Granted claim=" ++ (claim_text claim ++ order_text [] job)

-- all of a Denied but its cause
unfoldable pub denied_head : ClaimNo → Option RunNo → JobId → List ℕ
denied_head claim run job = codes "Denied claim=" ++ (claim_no_text claim
    ++ (codes " run=" ++ (some_run_text run ++ (order_text [] job ++ codes " why="))))

unfoldable pub release_text : ClaimNo → List ℕ
release_text claim = codes "Release claim=" ++ claim_no_text claim

unfoldable pub gone_text : RunNo → Bool → List ℕ
gone_text run kept = of_run_text (codes "Gone") run ++ (codes " kept=" ++ truth_text kept)

unfoldable pub ended_text : RunNo → How → List ℕ
ended_text run how = of_run_text (codes "Ended") run ++ (codes " how=" ++ how_text how)

-- the text of a mail that has at most a run, or a claim or a job, and one more field
abbrev pub short_text : Mail → Option (List ℕ)
short_text (Alive run until) = Some (run_until_text (codes "Alive") run until)
short_text (Seen run until) = Some (run_until_text (codes "Seen") run until)
short_text (Stop run) = Some (of_run_text (codes "Stop") run)
short_text (Release claim) = Some (release_text claim)
short_text (Gone run kept) = Some (gone_text run kept)
short_text (Ended run how) = Some (ended_text run how)
short_text (Remove job) = Some (order_text (codes "Remove") job)
short_text (Hold job) = Some (order_text (codes "Hold") job)
short_text (Resume job) = Some (order_text (codes "Resume") job)
short_text _ = None

-- the text of a mail without an ad: no clause says how an ad is written
abbrev pub mail_text : Mail → Option (List ℕ)
mail_text (Matched found) = Some (matched_text found)
mail_text (Granted claim job) = Some (granted_text claim job)
mail_text (Denied claim run job why) = Some (denied_head claim run job ++ why_text why)
mail_text mail = short_text mail
