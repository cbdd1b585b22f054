-- How many printed bytes ads count, and what has ads.
use Rattle.std.specs.Prelude.{ℕ, ◌+◌, List, [], ◌∷◌, Option, Some, None}
use Rattle.ad_eval.specs.Judgement.{Judgement, Mismatch}
use Rattle.ad_parse.specs.PrintedSize.{ad_bytes}
use Rattle.ad_tree.specs.Ad.{Attributes}
use Rattle.pool_parts.specs.declared.event.Event.{Event}
use Rattle.pool_parts.specs.declared.event.Event.TheVariants as event
use Rattle.pool_mail.specs.declared.mail.Mail.{Mail}
use Rattle.pool_mail.specs.declared.mail.Mail.TheVariants as mail
use Rattle.queue_tx.specs.Queues.{KeyedAds}

-- an ad counts 1, and the bytes of its names and of the canonical texts of its expressions
abbrev pub ad_count : Attributes → ℕ
ad_count ad = 1 + ad_bytes ad

abbrev pub ads_count : List Attributes → ℕ
ads_count [] = 0
ads_count (ad ∷ ads) = ad_count ad + ads_count ads

-- all ads of a queue
abbrev pub queue_count : KeyedAds → ℕ
queue_count [] = 0
queue_count (e ∷ q) = ad_count e.1 + queue_count q

abbrev pub count_under : Option Attributes → ℕ
count_under None = 0
count_under (Some ad) = ad_count ad

abbrev pub mail_count : Mail → ℕ
mail_count (mail.Update slot) = ad_count slot.ad
mail_count (mail.Ask claim job ad by_priority) = ad_count ad
mail_count (mail.Activate run job ad until) = ad_count ad
mail_count _ = 0

abbrev pub mails_count : List Mail → ℕ
mails_count [] = 0
mails_count (m ∷ ms) = mail_count m + mails_count ms

abbrev pub judged_count : Judgement → ℕ
judged_count judged = ad_count judged.job + ad_count judged.slot

abbrev pub judgements_count : List Judgement → ℕ
judgements_count [] = 0
judgements_count (j ∷ js) = judged_count j + judgements_count js

abbrev pub mismatch_count : Mismatch → ℕ
mismatch_count mismatch = ads_count mismatch.jobs + ads_count mismatch.slots

abbrev pub given_count : Option Judgement → ℕ
given_count None = 0
given_count (Some judged) = judged_count judged

abbrev pub none_count : Option Mismatch → ℕ
none_count None = 0
none_count (Some mismatch) = mismatch_count mismatch

-- what an event brings with it
abbrev pub event_count : Event → ℕ
event_count (event.Receive who boot index reading judged mismatch) =
    given_count judged + none_count mismatch
event_count (event.Matches list judged reading) = judgements_count judged
event_count (event.Close length reading mismatch) = mismatch_count mismatch
event_count _ = 0
