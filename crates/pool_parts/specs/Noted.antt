-- Keys that are noted in two ways.
use Rattle.std.specs.Prelude.{◌≡◌, is_some}
use Rattle.std.specs.Map.{lookup}
use Rattle.queue_tx.specs.declared.key.Key.{Key}
use Rattle.queue_tx.specs.Keys.{same_key}
use Rattle.pool_parts.specs.Growth.{AreDistinct, is_among}
use Rattle.pool_parts.specs.declared.touched.Noted.{Noted}

-- no key stands twice, and both ways have the same keys
pub record AreNoted (n : Noted) : Type 0 where
  pub distinct : AreDistinct n.keys.items
  pub same : (key : Key) → is_some (lookup (same_key key) n.seen) ≡ is_among key n.keys.items
