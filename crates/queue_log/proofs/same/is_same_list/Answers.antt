-- Two lists are the same where their transactions are.
use Rattle.std.proofs.Common.{◌≡◌, List, [], ◌∷◌, arith, sym, ap, ◌∙◌, refl, map, true≢false}
use Rattle.queue_tx.specs.Operations.{Operation}
use Rattle.ad_tree.proofs.TreeLemmas.{same_at, more_same, all_same}
use Rattle.queue_log.proofs.same.is_same_list.Goals as goal

themselves : (xs : List (List Operation)) → map (λ tx. tx) xs ≡ xs
themselves [] = refl
themselves (x ∷ xs) = ap (λ (l : List (List Operation)). x ∷ l) (themselves xs)

pub returns-then-not-is_same_tx : goal.returns-then-not-is_same_tx
returns-then-not-is_same_tx c =
    let here : map (λ tx. tx) c.args.a.now ≡ map (λ tx. tx) c.args.b.now → c.index-a-i.result ≡ c.index-b-i.result =
    same_at (λ tx. tx) c.args.a.now c.args.b.now c.loop-i.i c.index-a-i.result c.index-b-i.result (omega arith) (omega (arith, c.loop-i.invariant.0)) c.index-a-i.is c.index-b-i.is in (
      λ h. absurd (true≢false (sym h)),
      λ e. absurd (true≢false (sym (c.is_same_tx.ensures.1 (here (ap (map (λ tx. tx)) e))) ∙ c.if-not-is_same_tx.true)),
    )

pub loop-i-preserved : goal.loop-i-preserved
loop-i-preserved c = (
  c.loop-i.invariant.0,
  more_same (λ tx. tx) c.args.a.now c.args.b.now c.loop-i.i c.index-a-i.result c.index-b-i.result (omega arith) c.loop-i.invariant.0 c.index-a-i.is c.index-b-i.is (c.is_same_tx.ensures.0 c.if-not-is_same_tx.false) c.loop-i.invariant.1,
)

pub returns : goal.returns
returns c =
    let all = all_same (λ tx. tx) c.args.a.now c.args.b.now c.loop-i.i (omega arith) c.loop-i.invariant.0 c.loop-i.invariant.1 in
    (λ _. sym (themselves c.args.a.now) ∙ all ∙ themselves c.args.b.now, λ _. refl)
