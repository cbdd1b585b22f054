-- What the ads say of a request and a slot (HTCondor manual, The Negotiation Cycle).
use Rattle.std.specs.Prelude.{ℕ, ℤ, Bool, true, false, ◌&&◌, nat_lt, Option, Some, None, if◌then◌else◌}
use Rattle.std.specs.declared.cmp.Ordering.{Ordering}
use Rattle.std.specs.declared.cmp.Ordering.TheVariants.{Less, Equal, Greater}
use Rattle.std.specs.Ordering.{int_cmp}
use Rattle.ad_tree.specs.Tree.{tree}
use Rattle.ad_eval.specs.Match.{matches, rank_of, holds_as}
use Rattle.ad_eval.specs.Mean.{expression_value}
use Rattle.pool_mail.specs.declared.matching.Request.{Request}
use Rattle.matchmaker.specs.declared.snapshot.Snapshot.{Snapshot}
use Rattle.matchmaker.specs.declared.snapshot.Offer.{Offer}
use Rattle.matchmaker.specs.declared.snapshot.Holder.{Holder}
use Rattle.matchmaker.specs.declared.course.Account.{Account}
use Rattle.matchmaker.specs.declared.offering.Offering.{Offering}
use Rattle.matchmaker.specs.declared.offering.Offering.TheVariants.{Withheld, Plain, ByPriority}

-- Requirements hold both ways
unfoldable pub fits : ℕ → Request → Offer → Bool
fits now r o = matches r.ad o.ad now

-- how the request ranks the slot
unfoldable pub rank_of_slot : ℕ → Request → Offer → ℤ
rank_of_slot now r o = rank_of r.ad o.ad now

-- PREEMPTION_REQUIREMENTS, with the slot as MY and the request as TARGET
abbrev pub may_preempt : Snapshot → Request → Offer → Bool
may_preempt s r o = holds_as (expression_value o.ad r.ad s.now (tree s.preemption))

abbrev pub offering_by_priority : Snapshot → Account → Request → Offer → Holder → Offering
offering_by_priority s u r o h =
    if nat_lt u.effective h.effective && may_preempt s r o then ByPriority else Withheld

-- by how the slot ranks the request against the job that has its claim
abbrev pub offering_ranked : Ordering → Offering → Offering
offering_ranked Greater o = Plain
offering_ranked Equal o = o
offering_ranked Less o = Withheld

abbrev pub offering_over : Snapshot → Account → Request → Offer → Holder → Offering
offering_over s u r o h =
    offering_ranked (int_cmp (rank_of o.ad r.ad s.now) h.rank) (offering_by_priority s u r o h)

abbrev pub offering_held : Snapshot → Account → Request → Offer → Option Holder → Offering
offering_held s u r o None = Plain
offering_held s u r o (Some h) = offering_over s u r o h

unfoldable pub offering_of : Snapshot → Account → Request → Offer → Offering
offering_of s u r o = offering_held s u r o o.holder

abbrev pub is_offering : Offering → Bool
is_offering Withheld = false
is_offering Plain = true
is_offering ByPriority = true

abbrev pub is_taking : Offering → Bool
is_taking ByPriority = true
is_taking Plain = false
is_taking Withheld = false

unfoldable pub is_offered : Snapshot → Account → Request → Offer → Bool
is_offered s u r o = is_offering (offering_of s u r o)

-- a match of them takes the claim by priority
unfoldable pub is_by_priority : Snapshot → Account → Request → Offer → Bool
is_by_priority s u r o = is_taking (offering_of s u r o)
