use Rattle.std.proofs.Common.{◌≡◌, true, false, ap, sym, ◌∙◌}
use Rattle.pool_shown.specs.Slots.{slot_ads}
use Rattle.pool_shown.proofs.AdsInOrder.{not_all}
use Rattle.pool_shown.proofs.machines.Machines.are_slot_ads.Goals as goal

pub returns-in-None : goal.returns-in-None
returns-in-None c =
    let same : c.args.self.now ≡ c.as_slice.result.now = sym c.self.view_is ∙ sym c.as_slice.ensures.value in (
      λ is. absurd (let no : false ≡ true = is in cc),
      λ are. absurd (not_all c.args.ads.now c.as_slice.result.now c.in-None.ensures (are ∙ ap slot_ads same)),
    )
