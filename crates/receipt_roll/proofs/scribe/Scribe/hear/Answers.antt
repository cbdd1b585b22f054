use Rattle.std.proofs.Common.{◌≡◌, ℕ, ap, sym, ◌∙◌, subst}
use Rattle.std.proofs.lemmas.List.{append-nil}
use mathlib.Core.List.{IsPrefix}
use Rattle.receipt_roll.specs.Growth.{items_since, newest_right}
use Rattle.receipt_roll.proofs.Logs.{items_longer, prefix_trans}
use Rattle.receipt_roll.proofs.scribe.Scribe.hear.Goals as goal

pub returns-clause-seen : goal.returns-clause-seen
returns-clause-seen g c =
    let scribe = c.self.inside in
    let witness = c.witness.inside in
    let log = c.look.new.seen.log in
    let first = newest_right 0 scribe.first.log in
    let heard = newest_right 0 witness.first.log in
    let same_first : heard ≡ first =
    ap (λ v. v.mark.first) c.witness.view_is ∙ (ap (λ m. m.first) c.requires ∙ sym (ap (λ v. v.mark.first) c.self.view_is)) in
    let whole : items_since first log ≡ items_since first scribe.seen.log =
    (c.look.ensures.no_more first scribe.seen.log c.learn.ensures.2 (sym c.self.invariant.last)).0
    ∙ append-nil (items_since first scribe.seen.log) in
    let longer = items_longer heard witness.seen.log log
    (prefix_trans witness.seen.log c.learn.new.self.log log c.learn.ensures.3 c.look.ensures.longer) in
    let here : IsPrefix (items_since heard witness.seen.log) (items_since first log) =
    subst (λ (k : ℕ). IsPrefix (items_since heard witness.seen.log) (items_since k log)) same_first longer in
    rw (← c.witness.view_is, ← c.self.view_is, ← whole) here
