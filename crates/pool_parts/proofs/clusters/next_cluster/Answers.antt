use Rattle.std.proofs.Common.{◌≡◌, true, sym, ◌∙◌, ap, subst, inl, inr, arith}
use Rattle.pool_parts.specs.Clusters.{cluster_after, first_cluster, is_used}
use Rattle.pool_parts.proofs.InClusters.{none_used, one_on, one_used}
use Rattle.pool_parts.proofs.clusters.next_cluster.Goals as goal

pub clusters-init : goal.clusters-init
clusters-init c = (c.first_cluster-cluster.ensures, none_used (is_used c.args.queue.now c.args.finished.now) (first_cluster c.args.queue.now))

pub returns-then-not-is_used : goal.returns-then-not-is_used
returns-then-not-is_used c = record {
  steps = c.clusters.counter;
  is = c.clusters.invariant.0;
  before = c.clusters.invariant.1;
  free = inl (sym c.is_used.ensures ∙ c.if-not-is_used.true);
}

pub clusters-preserved : goal.clusters-preserved
clusters-preserved c =
    let used = sym c.is_used.ensures ∙ c.if-not-is_used.false in (
      c.cluster_after-cluster.ensures ∙ ap cluster_after c.clusters.invariant.0 ∙ one_on c.clusters.counter (first_cluster c.args.queue.now),
      one_used (is_used c.args.queue.now c.args.finished.now) (first_cluster c.args.queue.now) c.clusters.counter c.clusters.invariant.1
          (subst (λ k. is_used c.args.queue.now c.args.finished.now k ≡ true) c.clusters.invariant.0 used),
    )

pub returns : goal.returns
returns c = record {
  steps = c.clusters.counter;
  is = c.clusters.invariant.0;
  before = c.clusters.invariant.1;
  free = let end = c.clusters.auto.counter-end in let test = c.clusters-test.false in inr (omega arith);
}
