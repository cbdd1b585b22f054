-- The orders of the input: which are due, and which are still open.
use Rattle.std.specs.Prelude.{ℕ, nat_le, List, Bool, true, false, ◌&&◌, ◌==◌, slice_get, slice_set, Option, Some, None, is_none}
use Rattle.claim_id.specs.declared.numbers.JobId.{JobId}
use Rattle.claim_id.specs.declared.order.Verb.{Verb}
use Rattle.claim_id.specs.declared.order.Verb.TheVariants as verb
use Rattle.claim_id.specs.declared.order.Wish.{Wish}
use Rattle.pool_mail.specs.declared.mail.Mail.{Mail}
use Rattle.pool_mail.specs.declared.mail.Mail.TheVariants as mail
use Rattle.pool_view.specs.Numbers.{same_job}
use Rattle.pool_tables.specs.declared.orders.GivenWish.{GivenWish}
use Rattle.pool_tables.specs.declared.sent.Sent.{Sent}

abbrev pub not_given : Wish → GivenWish
not_given wish = record { wish = wish; mail = None }

abbrev pub same_verb : Verb → Verb → Bool
same_verb verb.Remove verb.Remove = true
same_verb verb.Hold verb.Hold = true
same_verb verb.Resume verb.Resume = true
same_verb _ _ = false

-- an order of that verb and job that isn't given, and may be given at a reading
abbrev pub is_due_for : Verb → JobId → ℕ → GivenWish → Bool
is_due_for v job reading g = is_none g.mail
    && (same_verb g.wish.verb v && (same_job g.wish.job job && nat_le g.wish.at reading))

abbrev pub given_at : Option GivenWish → ℕ → ℕ → List GivenWish → List GivenWish
given_at None place number list = list
given_at (Some g) place number list = slice_set list place (record g { mail = Some number })

-- the order of a place is given by that mail
abbrev pub given_by : ℕ → ℕ → List GivenWish → List GivenWish
given_by place number list = given_at (slice_get list place) place number list

abbrev pub is_unreceived : Option Sent → Bool
is_unreceived None = true
is_unreceived (Some s) = s.received == 0

abbrev pub is_open_by : Option ℕ → List Sent → Bool
is_open_by None sent = true
is_open_by (Some number) sent = is_unreceived (slice_get sent number)

-- an order that wasn't given, or whose mail wasn't received
abbrev pub is_open : List Sent → GivenWish → Bool
is_open sent g = is_open_by g.mail sent

abbrev pub order_mail : Verb → JobId → Mail
order_mail verb.Remove job = mail.Remove job
order_mail verb.Hold job = mail.Hold job
order_mail verb.Resume job = mail.Resume job
