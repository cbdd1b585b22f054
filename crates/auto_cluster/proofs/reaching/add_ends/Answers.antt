use Rattle.std.proofs.Common.{◌≡◌, ℕ, ◌+◌, ◌<◌, cond, List, [], ◌∷◌, ◌++◌, length, get_or, take, map, ap, sym, ◌∙◌, append_assoc, append-nil}
use Rattle.std.specs.Prelude.{Vec}
use Rattle.std.specs.Global.{Global}
use Rattle.std.specs.List.{filter}
use Rattle.std.proofs.lemmas.List.{map-append, take_all}
use Rattle.std.proofs.lemmas.List.Elements.{filter_more}
use Rattle.ad_value.specs.Names.{same_name}
use Rattle.auto_cluster.specs.declared.links.Link.{Link}
use Rattle.auto_cluster.specs.Links.{is_from, ends_from}
use Rattle.auto_cluster.proofs.reaching.add_ends.Goals as goal
use Rattle.auto_cluster.proofs.reaching.add_ends.Goals.{then-same_name+in_ok-end+in_ok-push, else-same_name}

one_more : (x from : List ℕ) (links : List Link) (i : ℕ) (link : Link) (first before after more : List (List ℕ)) → i < length links → link ≡ get_or links i link → from ≡ link.from
    → map (λ (l : Link). l.to) (cond (same_name x from) (link ∷ []) []) ≡ more → before ≡ first ++ ends_from x (take i links) → after ≡ before ++ more → after ≡ first ++ ends_from x (take (i + 1) links)
one_more x from links i link first before after more less at from_is more_is so_far pushed =
    let ends : List Link → List (List ℕ) = map (λ (l : Link). l.to) in
    let stepped : ends_from x (take (i + 1) links) ≡ ends_from x (take i links) ++ ends (cond (is_from x (get_or links i link)) (get_or links i link ∷ []) []) =
    ap ends (filter_more (is_from x) links i link less) ∙ map-append (λ (l : Link). l.to) (filter (is_from x) (take i links)) (cond (is_from x (get_or links i link)) (get_or links i link ∷ []) []) in
    let added : ends (cond (is_from x (get_or links i link)) (get_or links i link ∷ []) []) ≡ more =
    ap (λ (l : Link). ends (cond (is_from x l) (l ∷ []) [])) (sym at) ∙ ap (λ y. ends (cond (same_name x y) (link ∷ []) [])) (sym from_is) ∙ more_is in
    pushed
    ∙ ap (λ ends_so_far. ends_so_far ++ more) so_far
    ∙ append_assoc first (ends_from x (take i links)) more
    ∙ ap (λ es. first ++ es) (sym (stepped ∙ ap (λ es. ends_from x (take i links) ++ es) added))

pub loop-link-preserved : goal.loop-link-preserved
loop-link-preserved c = elim c.if-same_name.branch [
  | then-same_name+in_ok-end+in_ok-push w ↦
      one_more c.args.name.now c.as_str.result.now c.args.list.now c.loop-link.link-index c.link-item.result c.args.pending.now.items c.loop-link.pending.items c.if-same_name.pending.items (w.in_ok-end.end ∷ [])
      c.loop-link-test.true c.link-item.is c.as_str.ensures
      (ap (λ b. map (λ (l : Link). l.to) (cond b (c.link-item.result ∷ []) [])) (sym c.same_name.ensures ∙ w.if-same_name.true) ∙ ap (λ (e : List ℕ). e ∷ []) (sym w.in_ok-end.ensures))
      c.loop-link.invariant (ap (λ (v : Vec (List ℕ) Global). v.items) w.pending-is ∙ w.in_ok-push.ensures.items)
  | else-same_name w ↦
      one_more c.args.name.now c.as_str.result.now c.args.list.now c.loop-link.link-index c.link-item.result c.args.pending.now.items c.loop-link.pending.items c.if-same_name.pending.items []
      c.loop-link-test.true c.link-item.is c.as_str.ensures
      (ap (λ b. map (λ (l : Link). l.to) (cond b (c.link-item.result ∷ []) [])) (sym c.same_name.ensures ∙ w.if-same_name.false))
      c.loop-link.invariant (ap (λ (v : Vec (List ℕ) Global). v.items) w.pending-is ∙ sym (append-nil _))
]

pub returns : goal.returns
returns c =
    c.loop-link.invariant ∙ ap (λ (ls : List Link). c.args.pending.now.items ++ ends_from c.args.name.now ls) (take_all c.loop-link.link-index c.args.list.now c.loop-link-test.false)
