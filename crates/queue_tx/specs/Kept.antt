-- What the queue keeps of its jobs beside the ads.
use Rattle.std.specs.Prelude.{◌≡◌, Bool, true, false, List, Option, Some, is_some, if◌then◌else◌}
use Rattle.std.specs.Map.{lookup}
use Rattle.queue_tx.specs.declared.key.Key.{Key}
use Rattle.queue_tx.specs.declared.kind.JobKind.{JobKind}
use Rattle.queue_tx.specs.declared.kind.JobKind.TheVariants.{Idle, Held, Under}
use Rattle.queue_tx.specs.declared.kept.Here.{Here}
use Rattle.queue_tx.specs.declared.kept.Kinds.{Kinds}
use Rattle.queue_tx.specs.Keys.{same_key}
use Rattle.queue_tx.specs.Jobs.{kind_at}
use Rattle.queue_tx.specs.Queues.{KeyedAds}

-- a key is one of a set
abbrev pub has_key : Key → List (Key × Here) → Bool
has_key key keys = is_some (lookup (same_key key) keys)

-- the keys of the jobs of a kind
abbrev pub of_kind : JobKind → Kinds → List (Key × Here)
of_kind Idle kinds = kinds.idle
of_kind Held kinds = kinds.held
of_kind Under kinds = kinds.under

-- one key is in a set or not, and the others are as they were
abbrev pub SetsKey : Key → Bool → List (Key × Here) → List (Key × Here) → Type 0
SetsKey key there old new =
    (other : Key) → has_key other new ≡ (if same_key key other then there else has_key other old)

abbrev pub is_kind : JobKind → Option JobKind → Bool
is_kind Idle (Some Idle) = true
is_kind Held (Some Held) = true
is_kind Under (Some Under) = true
is_kind kind other = false

-- each set has the keys of the jobs of its kind
abbrev pub AreKinds : Kinds → KeyedAds → Type 0
AreKinds kinds q = (kind : JobKind) (key : Key)
    → has_key key (of_kind kind kinds) ≡ is_kind kind (kind_at key q)
