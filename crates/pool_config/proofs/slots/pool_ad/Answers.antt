use Rattle.std.proofs.Common.{◌≡◌, ◌∙◌, IfOk, subst}
use Rattle.ad_tree.specs.Ad.{Attributes}
use Rattle.pool_config.specs.Configuration.{machine_of}
use Rattle.pool_config.proofs.SlotLemmas.{small_rows, given_short, given_word, attributes_are}
use Rattle.pool_config.proofs.slots.pool_ad.Goals as goal

-- each number is small
pub ad_of-requires-clause-in_range : goal.ad_of-requires-clause-in_range
ad_of-requires-clause-in_range c =
    let slot = given_short c.from.result c.args.slot c.from.ensures c.ranges.slot.fits in
    let cpus = given_word c.from-2.result c.args.cpus c.from-2.ensures c.ranges.cpus.fits in
    let memory = given_word c.from-3.result c.args.memory c.from-3.ensures c.ranges.memory.fits in
    let disk = given_word c.from-4.result c.args.disk c.from-4.ensures c.ranges.disk.fits in
    small_rows _ _ _ _ _ _ _ _ _ _ _ _ _ _ _ _ _ _ _ _ _ _ _ _ slot cpus memory disk

pub returns : goal.returns
returns c =
    let made = attributes_are (machine_of c.args.machine.now) c.args.slot c.args.name.now c.as_str.result.now c.from.result c.from-2.result c.from-3.result c.from-4.result
    c.requires.named c.as_str.ensures c.from.ensures (c.from-2.ensures ∙ c.requires.cpus) (c.from-3.ensures ∙ c.requires.memory) (c.from-4.ensures ∙ c.requires.disk) in
    subst (λ (l : Attributes). IfOk c.ad_of.result (λ a. a ≡ l)) made c.ad_of.ensures
