-- To whom mails go, and what they carry.
use Rattle.std.specs.Prelude.{List, [], ◌∷◌, Option, Some, None, option_map}
use Rattle.ad_tree.specs.Ad.{Attributes}
use Rattle.claim_id.specs.declared.numbers.ClaimNo.{ClaimNo}
use Rattle.pool_outer.specs.declared.gate.Daemon.{Daemon}
use Rattle.pool_outer.specs.declared.gate.Daemon.TheVariants.{Schedd, Startd, Matchmaker}
use Rattle.pool_mail.specs.declared.mail.Mail.{Mail}
use Rattle.pool_mail.specs.declared.mail.Mail.TheVariants.{Update, Matched, Ask, Granted, Denied, Activate, Alive, Seen, Stop, Release, Gone, Ended, Remove, Hold, Resume}

-- the startd of the claim's slot
abbrev pub startd_of : ClaimNo → Daemon
startd_of claim = Startd claim.slot.machine

abbrev pub receivers_of : Mail → List Daemon
receivers_of (Update slot) = Matchmaker ∷ []
receivers_of (Matched found) = Schedd ∷ startd_of found.claim.no ∷ []
receivers_of (Ask claim job ad by_priority) = startd_of claim.no ∷ []
receivers_of (Granted claim job) = Schedd ∷ []
receivers_of (Denied claim run job why) = Schedd ∷ []
receivers_of (Activate run job ad until) = startd_of run.claim ∷ []
receivers_of (Alive run until) = startd_of run.claim ∷ []
receivers_of (Seen run until) = Schedd ∷ []
receivers_of (Stop run) = startd_of run.claim ∷ []
receivers_of (Release claim) = startd_of claim ∷ []
receivers_of (Gone run kept) = Schedd ∷ []
receivers_of (Ended run how) = Schedd ∷ []
receivers_of (Remove job) = Schedd ∷ []
receivers_of (Hold job) = Schedd ∷ []
receivers_of (Resume job) = Schedd ∷ []

abbrev pub ad_of_mail : Mail → Option Attributes
ad_of_mail (Update slot) = Some slot.ad
ad_of_mail (Ask claim job ad by_priority) = Some ad
ad_of_mail (Activate run job ad until) = Some ad
ad_of_mail _ = None

-- the claim that a mail speaks of
abbrev pub claim_of_mail : Mail → Option ClaimNo
claim_of_mail (Update slot) = option_map (λ claim. claim.no) slot.claim
claim_of_mail (Matched found) = Some found.claim.no
claim_of_mail (Ask claim job ad by_priority) = Some claim.no
claim_of_mail (Granted claim job) = Some claim.no
claim_of_mail (Denied claim run job why) = Some claim
claim_of_mail (Activate run job ad until) = Some run.claim
claim_of_mail (Alive run until) = Some run.claim
claim_of_mail (Seen run until) = Some run.claim
claim_of_mail (Stop run) = Some run.claim
claim_of_mail (Release claim) = Some claim
claim_of_mail (Gone run kept) = Some run.claim
claim_of_mail (Ended run how) = Some run.claim
claim_of_mail (Remove job) = None
claim_of_mail (Hold job) = None
claim_of_mail (Resume job) = None
