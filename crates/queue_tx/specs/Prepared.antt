-- What a prepared change leaves under its key, and what undoes it.
use Rattle.std.specs.Prelude.{Option, Some, None, map}
use Rattle.ad_tree.specs.Ad.{Attributes}
use Rattle.queue_tx.specs.declared.key.Key.{Key}
use Rattle.queue_tx.specs.declared.prepared.Change.{Change}
use Rattle.queue_tx.specs.declared.prepared.Change.TheVariants.{Put, Remove}
use Rattle.queue_tx.specs.Queues.{KeyedAds, Changes, ad_at}

abbrev pub change_of : Change → Key × Option Attributes
change_of (Put entry) = (entry.0, Some entry.1)
change_of (Remove key) = (key, None)

-- what a queue has under a key that is changed
abbrev pub kept_at : KeyedAds → Key × Option Attributes → Key × Option Attributes
kept_at q c = (c.0, ad_at c.0 q)

-- what it has under each of them
abbrev pub undo_of : KeyedAds → Changes → Changes
undo_of q cs = map (kept_at q) cs
