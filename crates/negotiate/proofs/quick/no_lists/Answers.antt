use Rattle.std.proofs.Common.{◌≡◌, ℕ, ◌∷◌, [], None, length, ap, arith, subst}
use Rattle.std.proofs.lemmas.List.{length-append}
use Rattle.negotiate.specs.Parties.{AreUnmade}
use Rattle.negotiate.proofs.Numbering.{unmade_none, unmade_more}
use Rattle.negotiate.proofs.quick.no_lists.Goals as goal

pub loop-lists-init : goal.loop-lists-init
loop-lists-init c = record {
  unmade = unmade_none c.in_ok-lists.lists.items c.in_ok-lists.ensures.items;
  within = let n = ap length c.in_ok-lists.ensures.items in omega arith;
}

pub loop-lists-preserved : goal.loop-lists-preserved
loop-lists-preserved c = record {
  unmade = unmade_more c.loop-lists.lists.items c.push.new.self.items c.loop-lists.invariant.unmade c.in_ok-push.ensures.items;
  within = let n = ap length c.in_ok-push.ensures.items in
      let m = length-append c.loop-lists.lists.items (None ∷ []) in
      omega arith;
}

pub returns : goal.returns
returns c =
    let within = c.loop-lists.invariant.within in
    let same : length c.loop-lists.lists.items ≡ c.args.count = omega arith in
    subst (λ (n : ℕ). AreUnmade c.loop-lists.lists.items n) same c.loop-lists.invariant.unmade
