use Rattle.std.proofs.Common.{◌∙◌, ap, sym, subst, List}
use Rattle.auto_cluster.specs.Clustering.{Clustering, AreClusters, AreLinksOf}
use Rattle.auto_cluster.specs.declared.links.Link.{Link}
use Rattle.auto_cluster.proofs.Named.{one_cluster, numbered_known, numbered_new}
use Rattle.auto_cluster.proofs.clusters.Clusters.cluster_of.Goals as goal

pub returns-in_err-part-clause-apart : goal.returns-in_err-part-clause-apart
returns-in_err-part-clause-apart c = subst (λ (k : Clustering). AreClusters k.parts) c.self.view_is c.self.invariant.0

pub returns-in-Some-clause-number : goal.returns-in-Some-clause-number
returns-in-Some-clause-number c =
    let links = subst (λ (k : Clustering). AreLinksOf k.slots c.as_slice.result.now) c.self.view_is
    (subst (λ (ls : List Link). AreLinksOf c.self.inside.slots ls) (sym c.as_slice.ensures.value) c.self.invariant.1) in
    numbered_known c.number_of.result c.args.self.now c.args.job.now c.in_ok-part.part c.in-Some.place
    (c.in_ok-part.ensures c.args.self.now.slots links) c.in-Some.ensures c.number_of.ensures

pub returns-in-Some-clause-apart : goal.returns-in-Some-clause-apart
returns-in-Some-clause-apart c = subst (λ (k : Clustering). AreClusters k.parts) c.self.view_is c.self.invariant.0

pub returns-in_err-number-clause-apart : goal.returns-in_err-number-clause-apart
returns-in_err-number-clause-apart c = subst (λ (k : Clustering). AreClusters k.parts) c.self.view_is c.self.invariant.0

pub returns-in_err-put-clause-apart : goal.returns-in_err-put-clause-apart
returns-in_err-put-clause-apart c =
    subst (λ (k : Clustering). AreClusters k.parts) (c.self.view_is ∙ sym c.in_err-put.ensures.same) c.self.invariant.0

pub returns-clause-number : goal.returns-clause-number
returns-clause-number c =
    let links = subst (λ (k : Clustering). AreLinksOf k.slots c.as_slice.result.now) c.self.view_is
    (subst (λ (ls : List Link). AreLinksOf c.self.inside.slots ls) (sym c.as_slice.ensures.value) c.self.invariant.1) in
    numbered_new c.args.self.now c.put.new.self c.args.job.now c.in_ok-part.part c.in_ok-number.number
    (c.in_ok-part.ensures c.args.self.now.slots links) (c.in_ok-number.ensures ∙ c.len.ensures) c.in_ok-put.ensures.put

pub returns-clause-apart : goal.returns-clause-apart
returns-clause-apart c =
    one_cluster c.args.self.now.parts c.put.new.self.parts c.in_ok-part.part (subst (λ (k : Clustering). AreClusters k.parts) c.self.view_is c.self.invariant.0)
    c.in_default.ensures (ap (λ (k : Clustering). k.parts) c.in_ok-put.ensures.put)
