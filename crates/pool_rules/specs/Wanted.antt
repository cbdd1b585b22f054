-- Mails that are sent for the input, or for a match.
use Rattle.std.specs.Prelude.{List, ◌++◌, IsSome}
use Rattle.claim_id.specs.Texts.{IsClaim}
use Rattle.pool_mail.specs.declared.mail.Mail.{Mail}
use Rattle.pool_mail.specs.declared.mail.Mail.TheVariants as mail
use Rattle.startd_core.specs.Startds.{StartdValue}
use Rattle.pool_rules.specs.PoolParts.{PoolParts, slot_in_pool}

-- an order of a user's, or a match with a claim of a slot of the pool
abbrev pub IsWanted : List StartdValue → Mail → Type 0
IsWanted vs (mail.Matched found) = IsClaim found.claim
    × IsSome (slot_in_pool vs found.claim.no.slot)
IsWanted vs (mail.Remove job) = Unit {0}
IsWanted vs (mail.Hold job) = Unit {0}
IsWanted vs (mail.Resume job) = Unit {0}
IsWanted vs _ = ⊥

abbrev pub parts_with_mails : List Mail → PoolParts → PoolParts
parts_with_mails mails a = record a { mails = a.mails ++ mails }
