-- Operations, apart from where they lie in memory: two are equal where their keys, texts and trees
-- are.
use Rattle.std.specs.Prelude.{ℕ, List}
use Rattle.ad_tree.specs.Tree.{Tree, tree}
use Rattle.queue_tx.specs.declared.key.Key.{Key}
use Rattle.queue_tx.specs.declared.op.Op.{Op}
use Rattle.queue_tx.specs.declared.op.Op.TheVariants.{NewAd, DestroyAd, SetAttr, DeleteAttr}

pub data Operation : Type 0 where
  new_ad : Key → List ℕ → List ℕ → Operation
  destroy_ad : Key → Operation
  set_attr : Key → List ℕ → Tree → Operation
  delete_attr : Key → List ℕ → Operation

abbrev pub operation : Op → Operation
operation (NewAd key kind other) = new_ad key kind other
operation (DestroyAd key) = destroy_ad key
operation (SetAttr key name expr) = set_attr key name (tree expr)
operation (DeleteAttr key name) = delete_attr key name

-- the key of the ad that an operation changes
abbrev pub key_of : Operation → Key
key_of (new_ad key kind other) = key
key_of (destroy_ad key) = key
key_of (set_attr key name e) = key
key_of (delete_attr key name) = key
