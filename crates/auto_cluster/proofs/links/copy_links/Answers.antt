use Rattle.std.proofs.Common.{◌≡◌, ℕ, ◌+◌, ◌<◌, List, [], ◌∷◌, ◌++◌, length, get_or, take, ap, sym, ◌∙◌}
use Rattle.std.proofs.lemmas.List.{take_all, take_more}
use Rattle.auto_cluster.specs.declared.links.Link.{Link}
use Rattle.auto_cluster.proofs.links.copy_links.Goals as goal

one_more : (links : List Link) (i : ℕ) (link copy : Link) (before after : List Link) → i < length links → link ≡ get_or links i link → copy ≡ link
    → before ≡ take i links → after ≡ before ++ copy ∷ [] → after ≡ take (i + 1) links
one_more links i link copy before after less at same so_far pushed =
    pushed
    ∙ ap (λ (ls : List Link). ls ++ copy ∷ []) so_far
    ∙ ap (λ (l : Link). take i links ++ l ∷ []) (same ∙ at)
    ∙ sym (take_more links i link less)

pub loop-link-init : goal.loop-link-init
loop-link-init c = c.in_ok-copies.ensures.items

pub loop-link-preserved : goal.loop-link-preserved
loop-link-preserved c =
    one_more c.args.list.now c.loop-link.link-index c.link-item.result c.in_ok-copy.copy c.loop-link.copies.items c.push.new.self.items
    c.loop-link-test.true c.link-item.is c.in_ok-copy.ensures c.loop-link.invariant c.in_ok-push.ensures.items

pub returns : goal.returns
returns c = c.loop-link.invariant ∙ take_all c.loop-link.link-index c.args.list.now c.loop-link-test.false
