-- The queue for which a log's file stands.
use Rattle.std.proofs.Common.{◌≡◌, ◌⊎◌, inl, inr, ℕ, List, [], ◌∷◌, ◌++◌, Option, Some, None, Result, Ok, Err, ap, sym, subst, ◌∙◌}
use Rattle.queue_tx.specs.declared.error.ApplyError.{ApplyError}
use Rattle.queue_tx.specs.Operations.{Operation}
use Rattle.queue_tx.specs.Queues.{KeyedAds, QueueOf, after_rest, queue_after, queue_after_all}
use Rattle.queue_record.specs.ReadSoFar.{start, fed}
use Rattle.queue_log.specs.declared.log.Halt.{Halt}
use Rattle.queue_log.specs.Logs.{IsWhole, KeepsLog, StandsForEitherQueue, StandsForLog, StandsForLogQueue, StandsForQueue}
use Rattle.queue_log.specs.Stands.{IsBeforeOrAfter, IsSettled, Stands}
use Rattle.queue_log.proofs.Sound.{sound_fed, sound_start}

-- ---- the queue of a list with one more

one_from : (first : KeyedAds) (txs : List (List Operation)) (tx : List Operation) (queue after : KeyedAds) → queue_after_all first txs ≡ Ok queue → queue_after queue tx ≡ Ok after
    → queue_after_all first (txs ++ tx ∷ []) ≡ Ok after
one_from first [] tx queue after built done =
    let same : first ≡ queue = cc in
    ap (after_rest (λ p. queue_after_all p [])) (ap (λ q. queue_after q tx) same ∙ done)
one_from first (t ∷ txs) tx queue after built done = by (queue_after first t) (λ p. one_from p txs tx queue after) built done
  where
    by : (r : Result KeyedAds ApplyError) → ((p : KeyedAds) → queue_after_all p txs ≡ Ok queue → queue_after queue tx ≡ Ok after → queue_after_all p (txs ++ tx ∷ []) ≡ Ok after)
        → after_rest (λ p. queue_after_all p txs) r ≡ Ok queue → queue_after queue tx ≡ Ok after → after_rest (λ p. queue_after_all p (txs ++ tx ∷ [])) r ≡ Ok after
    by (Ok p) on b d = on p b d
    by (Err e) on b d = absurd (cc b)

one_more : (txs : List (List Operation)) (tx : List Operation) (queue after : KeyedAds) → QueueOf txs queue → queue_after queue tx ≡ Ok after → QueueOf (txs ++ tx ∷ []) after
one_more txs tx queue after built done = one_from [] txs tx queue after built done

-- ---- what bytes stand for

settled_builds : (list : List (List Operation)) (queue : KeyedAds) (bytes : List ℕ) → IsSettled list queue bytes → QueueOf list queue
settled_builds list queue bytes s = subst (λ l. QueueOf l queue) s.listed (subst (λ q. QueueOf (fed start bytes).list q) s.queued (sound_fed start bytes sound_start).builds)

-- what always holds of a log's file, of its queue
kept_builds : (halt : Option Halt) (list : List (List Operation)) (queue : KeyedAds) (bytes : List ℕ) (solid : ℕ) → KeepsLog halt list queue bytes solid → QueueOf list queue
kept_builds None list queue bytes solid k = settled_builds list queue bytes k.settled
kept_builds (Some halt) list queue bytes solid k = settled_builds list queue k.base k.settled

queue_stands : (list : List (List Operation)) (queue : KeyedAds) (image : List ℕ) → QueueOf list queue → Stands list image → StandsForQueue queue image
queue_stands list queue image builds s = record { list = list; stands = s; builds = builds }

either_stands : (list : List (List Operation)) (queue after : KeyedAds) (tx : List Operation) (image : List ℕ) → QueueOf list queue → queue_after queue tx ≡ Ok after → IsBeforeOrAfter list tx image
    → StandsForEitherQueue queue tx image
either_stands list queue after tx image builds done (inl s) = inl (queue_stands list queue image builds s)
either_stands list queue after tx image builds done (inr s) = inr (after, done, queue_stands (list ++ tx ∷ []) after image (one_more list tx queue after builds done) s)

-- while a transaction is written
pub whole_either : (list : List (List Operation)) (queue after : KeyedAds) (tx : List Operation) (bytes image : List ℕ) (solid : ℕ) → IsWhole list queue bytes solid → queue_after queue tx ≡ Ok after → IsBeforeOrAfter list tx image
    → StandsForEitherQueue queue tx image
whole_either list queue after tx bytes image solid w done i = either_stands list queue after tx image (settled_builds list queue bytes w.settled) done i

-- of a log, halted or not
pub log_stands : (halt : Option Halt) (list : List (List Operation)) (queue : KeyedAds) (bytes image : List ℕ) (solid : ℕ) → KeepsLog halt list queue bytes solid → StandsForLog halt list image → StandsForLogQueue halt queue image
log_stands None list queue bytes image solid k s = queue_stands list queue image (settled_builds list queue bytes k.settled) s
log_stands (Some halt) list queue bytes image solid k s = either_stands list queue k.pending.after halt.pending image (settled_builds list queue k.base k.settled) k.pending.applies s

-- other bytes that stand for the list of a file that is whole
pub whole_stands : (list : List (List Operation)) (queue : KeyedAds) (bytes image : List ℕ) (solid : ℕ) → IsWhole list queue bytes solid → Stands list image → StandsForQueue queue image
whole_stands list queue bytes image solid w s = queue_stands list queue image (settled_builds list queue bytes w.settled) s
