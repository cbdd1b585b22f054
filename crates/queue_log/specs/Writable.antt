-- What the ads of a log's queue are, so that the log can be written anew.
use Rattle.std.specs.Prelude.{◌≤◌, List, [], ◌∷◌, length}
use Rattle.ad_tree.specs.Tree.{Tree}
use Rattle.ad_tree.specs.Ad.{Attributes}
use Rattle.ad_parse.specs.Canon.{canon}
use Rattle.queue_tx.specs.Operations.{Operation, new_ad, destroy_ad, set_attr, delete_attr}
use Rattle.queue_tx.specs.Printable.{IsPrintableKey, IsPrintableName, IsPrintableTree}
use Rattle.queue_tx.specs.Queues.{KeyedAds}
use Rattle.queue_record.specs.declared.print.TheConstants.{MAX_EXPRESSION}

-- an expression that a line of a log can say
pub record IsWritableTree (e : Tree) : Type 0 where
  pub printable : IsPrintableTree e
  pub short : length (canon e) ≤ MAX_EXPRESSION

abbrev pub IsWritableAd : Attributes → Type 0
IsWritableAd [] = Unit {0}
IsWritableAd (a ∷ ad) = IsPrintableName a.0 × IsWritableTree a.1 × IsWritableAd ad

-- the keys, names and expressions of a queue
abbrev pub IsWritableQueue : KeyedAds → Type 0
IsWritableQueue [] = Unit {0}
IsWritableQueue (e ∷ queue) = IsPrintableKey e.0 × IsWritableAd e.1 × IsWritableQueue queue

-- what an operation puts into a queue
abbrev pub PutsWritable : Operation → Type 0
PutsWritable (new_ad key kind other) = IsPrintableKey key
PutsWritable (destroy_ad key) = Unit {0}
PutsWritable (set_attr key name e) = IsPrintableKey key × IsPrintableName name × IsWritableTree e
PutsWritable (delete_attr key name) = IsPrintableKey key

abbrev pub AllPutWritable : List Operation → Type 0
AllPutWritable [] = Unit {0}
AllPutWritable (o ∷ os) = PutsWritable o × AllPutWritable os
