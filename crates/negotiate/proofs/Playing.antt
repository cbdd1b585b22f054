-- A submitter's weight, for the loop that sums them, and whether it takes part.
use Rattle.std.proofs.Common.{◌≡◌, ℕ, ◌+◌, ◌<◌, List, [], ◌∷◌, length, get_or, take, Bool, true, false, not, ◌&&◌, sym, ap, ◌∙◌, arith}
use Rattle.std.specs.Prelude.{◌==◌}
use Rattle.std.specs.List.{sum_by}
use Rattle.std.proofs.lemmas.Bool.{ne_eqb}
use Rattle.std.proofs.lemmas.List.Sums.{sum_by_more}
use Rattle.matchmaker.specs.declared.course.Made.{Made}
use Rattle.matchmaker.specs.Cycle.{has_left, is_below_ceiling, takes_part, weight}
use Rattle.negotiate.specs.declared.grouping.Clustered.{Clustered}
use Rattle.negotiate.specs.declared.parties.Party.{Party}
use Rattle.negotiate.specs.Parties.{bidder_of, requests_of}

pub weighed_more : (ps : List Party) (i sum more : ℕ) (p : Party) → i < length ps → p ≡ get_or ps i p → sum ≡ sum_by (λ (q : Party). weight q.account) (take i ps) → more ≡ weight p.account
    → sum + more ≡ sum_by (λ (q : Party). weight q.account) (take (i + 1) ps)
weighed_more ps i sum more p h e so_far one =
    (λ j. so_far j + (one ∙ ap (λ (q : Party). weight q.account) e) j) ∙ sym (sum_by_more (λ (q : Party). weight q.account) ps i p h)

left_of : (rs : List Clustered) (n : ℕ) → n ≡ length rs → has_left (requests_of rs) ≡ not (n == 0)
unfolding has_left
left_of [] n e = ap (λ k. not (k == 0)) (sym e)
left_of (r ∷ rs) n e = sym (ap not (ne_eqb n 0 (λ h. omega (arith, e, h))))

module _ (made : List Made) (p : Party) (none : Bool) (is : none ≡ (p.left.len == 0)) where
  pub none_plays : none ≡ true → not none ≡ takes_part made (bidder_of p)
  unfolding takes_part
  none_plays t =
      let left : has_left (requests_of p.left.items) ≡ false = left_of p.left.items p.left.len p.left.ok.0 ∙ ap not (sym is ∙ t) in
      ap not t ∙ ap (λ h. h && is_below_ceiling p.account made) (sym left)

  pub plays_below : (below : Bool) → none ≡ false → below ≡ is_below_ceiling p.account made → below ≡ takes_part made (bidder_of p)
  unfolding takes_part
  plays_below below t e =
      let left : has_left (requests_of p.left.items) ≡ true = left_of p.left.items p.left.len p.left.ok.0 ∙ ap not (sym is ∙ t) in
      e ∙ ap (λ h. h && is_below_ceiling p.account made) (sym left)
