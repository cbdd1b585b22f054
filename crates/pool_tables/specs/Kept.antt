-- What always holds of mails, of their links, and of the room for more.
use Rattle.std.specs.Prelude.{ℕ, ◌+◌, ◌<◌, ◌≤◌, List, length, Option, vec_len, vec_capacity}
use Rattle.pool_tables.specs.declared.mails.Mails.TheInside.{Inside}
use Rattle.pool_tables.specs.declared.sent.Sent.{Sent}
use Rattle.pool_tables.specs.Links.{AreLinked, AreLast}
use Rattle.pool_tables.specs.MailLists.{boxes_of}
use Rattle.pool_tables.specs.Repeats.{AreCounts}

pub record AreKept (sent : List Sent) (before last : List (Option ℕ)) : Type 0 where
  pub linked : AreLinked (length last) (boxes_of sent) before
  pub lasts : AreLast (boxes_of sent) last

-- the spare mails take no memory
pub record HasRoom (m : Inside) : Type 0 where
  pub sent : 0 < m.spare → vec_len m.sent + m.spare ≤ vec_capacity m.sent
  pub before : 0 < m.spare → vec_len m.before + m.spare ≤ vec_capacity m.before

pub record AreMails (m : Inside) : Type 0 where
  pub kept : AreKept m.sent.items m.before.items m.last.items
  pub counts : AreCounts m.repeats
  pub room : HasRoom m
