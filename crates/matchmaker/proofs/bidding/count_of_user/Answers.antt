use Rattle.std.proofs.Common.{◌∙◌, rules, tests, bytes_eq}
use Rattle.std.proofs.lemmas.Iterator.{YieldsList-from_slice}
use Rattle.std.proofs.lemmas.Iterator.Consumers.{count_from_yields_List, YieldsList-from_filter, YieldsList-at}
use Rattle.std.proofs.lemmas.List.Sums.{length-filter}
use Rattle.matchmaker.specs.declared.course.Made.{Made}
use Rattle.matchmaker.proofs.bidding.count_of_user.Goals as goal

pub returns : goal.returns
returns c =
    count_from_yields_List c.filter.result _ c.count.ensures.ran (YieldsList-from_filter _ (λ (m : Made). bytes_eq m.user c.args.user.now) (YieldsList-at c.filter.ensures.source (YieldsList-from_slice c.args.made.now c.iter.ensures.rest)) c.filter.ensures.closure (λ x r q k. search (rules, tests)))
    ∙ length-filter (λ (m : Made). bytes_eq m.user c.args.user.now) c.args.made.now
