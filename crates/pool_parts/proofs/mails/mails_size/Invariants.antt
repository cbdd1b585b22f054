-- The size so far, with the mails that are left, is the size of all.
use Rattle.std.proofs.Common.{◌≡◌, ◌+◌, ◌≤◌, min, drop}
use Rattle.pool_parts.specs.Sizes.{mails_count}
use Rattle.pool_parts.proofs.mails.mails_size.Given as goal

abbrev pub invariant-loop-mail : goal.invariant-loop-mail
invariant-loop-mail l = (min (l.size + mails_count (drop l.mail-index l.mails)) 18446744073709551615
    ≡ min (mails_count l.mails) 18446744073709551615)
    × (l.size ≤ 18446744073709551615)
