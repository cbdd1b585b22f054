-- What holds of all transactions.
use Rattle.std.specs.Prelude.{◌≡◌, ◌<◌, ◌≤◌, ◌⊎◌, ◌↔◌, ℕ, true, false, List, ◌∷◌, ◌++◌, length, Ok, Err}
use Rattle.std.specs.declared.cmp.Ordering.TheVariants.{Less}
use Rattle.claim_id.specs.declared.numbers.JobId.{JobId}
use Rattle.ad_tree.specs.Ad.{Attributes, AreDistinct, IsAd}
use Rattle.queue_tx.specs.declared.error.ApplyError.{ApplyError}
use Rattle.queue_tx.specs.declared.key.Key.{Key}
use Rattle.queue_tx.specs.declared.key.Key.TheVariants.{Header, Proc}
use Rattle.queue_tx.specs.Keys.{key_cmp, same_key}
use Rattle.queue_tx.specs.Operations.{Operation, key_of}
use Rattle.queue_tx.specs.Requests.{SameRequest}
use Rattle.queue_tx.specs.RequestDigests.{request_digest}
use Rattle.queue_tx.specs.Room.{most_own, is_kept_name, own_count, lacks_room}
use Rattle.queue_tx.specs.Queues.{KeyedAds, IsQueue, ad_at, ad_after, after_op, queue_after}

-- the header is before every proc
abbrev pub HeaderComesFirst : Type 0
HeaderComesFirst = (job : JobId) → key_cmp Header (Proc job) ≡ Less

abbrev pub ProcsStandByCluster : Type 0
ProcsStandByCluster = (a b : JobId)
    → (key_cmp (Proc a) (Proc b) ≡ Less)
    ↔ ((a.cluster < b.cluster) ⊎ ((a.cluster ≡ b.cluster) × (a.proc < b.proc)))

abbrev pub SameKeysAreEqual : Type 0
SameKeysAreEqual = (a b : Key) → same_key a b ≡ true → a ≡ b

-- an operation makes its own of what stands under its key
abbrev pub ChangesItsKey : Type 0
ChangesItsKey = (place : ℕ) (q new : KeyedAds) (o : Operation)
    → IsQueue q → after_op place q o ≡ Ok new
    → ad_after place (ad_at (key_of o) q) o ≡ Ok (ad_at (key_of o) new)

-- and leaves alone what stands under every other
abbrev pub LeavesOtherKeys : Type 0
LeavesOtherKeys = (place : ℕ) (q new : KeyedAds) (o : Operation) (key : Key)
    → IsQueue q → after_op place q o ≡ Ok new → same_key (key_of o) key ≡ false
    → ad_at key new ≡ ad_at key q

-- what a transaction leaves is a queue
abbrev pub StaysAQueue : Type 0
StaysAQueue = (q new : KeyedAds) (tx : List Operation)
    → IsQueue q → queue_after q tx ≡ Ok new → IsQueue new

-- two transactions one after the other do what their operations do in one
abbrev pub SequenceIsOne : Type 0
SequenceIsOne = (q new : KeyedAds) (tx more : List Operation)
    → queue_after q tx ≡ Ok new → (last : KeyedAds)
    → (queue_after new more ≡ Ok last) ↔ (queue_after q (tx ++ more) ≡ Ok last)

-- A transaction that is refused has a first operation that can't be done: those before it can be,
-- and the refusal is that operation's, with its place.
pub record IsFirstRefused (q : KeyedAds) (tx : List Operation) (e : ApplyError) : Type 0 where
  pub before : List Operation
  pub refused : Operation
  pub rest : List Operation
  pub between : KeyedAds
  pub parts : tx ≡ before ++ refused ∷ rest
  pub done : queue_after q before ≡ Ok between
  pub cause : after_op (length before) between refused ≡ Err e

abbrev pub RefusesTheFirst : Type 0
RefusesTheFirst = (q : KeyedAds) (tx : List Operation) (e : ApplyError)
    → queue_after q tx ≡ Err e → IsFirstRefused q tx e

-- where the other attributes of an ad are few enough, there is room for each that the pool sets
abbrev pub RoomForThePool : Type 0
RoomForThePool = (key : Key) (ad : Attributes) (name : List ℕ)
    → IsAd ad → own_count key ad ≤ most_own key → is_kept_name key name ≡ true
    → lacks_room key name ad ≡ false

-- ads that make the same request have one digest
abbrev pub SameRequestsHaveOneDigest : Type 0
SameRequestsHaveOneDigest = (a b : Attributes)
    → AreDistinct a → AreDistinct b → SameRequest a b → request_digest a ≡ request_digest b
