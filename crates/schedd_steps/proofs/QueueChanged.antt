-- What is known once the queue is changed, and where that is undone.
use Rattle.std.proofs.Common.{◌≡◌, ◌∙◌, ◌+◌, ◌<◌, ℕ, refl, ap, subst}
use Rattle.pool_parts.specs.Sizes.{mails_count}
use Rattle.pool_parts.specs.declared.size.TheConstants.{MAX_BYTES}
use Rattle.pool_rules.specs.Deeds.{at_rest}
use Rattle.pool_state.specs.declared.state.PoolState.{PoolState}
use Rattle.queue_tx.specs.Queues.{Changes, KeyedAds, with_changes}
use Rattle.schedd_core.specs.Logging.{IsReopened}
use Rattle.schedd_state.specs.Schedds.{After, ScheddValue}
use Rattle.schedd_steps.specs.Counting.{IsBackTooLarge, bytes_after, logged_by}

-- ---- the change, and its undoing
pub undone : (old now end q : KeyedAds) (undo back : Changes) → end ≡ with_changes now back → now ≡ q → back ≡ undo → with_changes q undo ≡ old → end ≡ old
undone old now end q undo back is changed same undoes =
    is ∙ ap (λ (x : KeyedAds). with_changes x back) changed ∙ ap (λ (u : Changes). with_changes q u) same ∙ undoes

pub pool_with : (s : PoolState) (a b : KeyedAds) → a ≡ b → record s { queue = a } ≡ record s { queue = b }
pool_with s a b is = ap (λ (x : KeyedAds). record s { queue = x }) is

pub rest_with : (s new : PoolState) (a b : KeyedAds) → at_rest new ≡ at_rest (record s { queue = a }) → a ≡ b → at_rest new ≡ record (at_rest s) { queue = b }
rest_with s new a b same is = same ∙ ap (λ (x : KeyedAds). record (at_rest s) { queue = x }) is

pub queue_at_rest : (s new : PoolState) (a : KeyedAds) → at_rest new ≡ at_rest (record s { queue = a }) → new.queue ≡ a
queue_at_rest s new a same = ap (λ (x : PoolState). x.queue) same

pub rest_back : (s new : PoolState) (a end : KeyedAds) → at_rest new ≡ at_rest (record s { queue = a }) → end ≡ s.queue → at_rest (record new { queue = end }) ≡ at_rest s
rest_back s new a end same is =
    ap (λ (x : PoolState). record x { queue = end }) same ∙ ap (λ (x : KeyedAds). record (at_rest s) { queue = x }) is

-- ---- by the queue that it is
pub above_after : (s : PoolState) (q : KeyedAds) (bytes : ℕ) → bytes ≡ bytes_after q s → MAX_BYTES < bytes → MAX_BYTES < bytes_after q s
above_after s q bytes is above = subst (λ (n : ℕ). MAX_BYTES < n) is above

pub planned_with : (s : PoolState) (now q : KeyedAds) (bytes all : ℕ) → all ≡ bytes + mails_count (logged_by now s).step.mails → bytes ≡ bytes_after q s → now ≡ q
    → all ≡ bytes_after q s + mails_count (logged_by q s).step.mails
planned_with s now q bytes all sum is changed =
    sum ∙ ap (λ (n : ℕ). n + mails_count (logged_by now s).step.mails) is ∙ ap (λ (x : KeyedAds). bytes_after q s + mails_count (logged_by x s).step.mails) changed

pub planned_above : (s : PoolState) (now q : KeyedAds) (bytes : ℕ) → bytes ≡ bytes_after q s → now ≡ q → MAX_BYTES < bytes + mails_count (logged_by now s).step.mails
    → MAX_BYTES < bytes_after q s + mails_count (logged_by q s).step.mails
planned_above s now q bytes is changed above =
    subst (λ (n : ℕ). MAX_BYTES < n) (planned_with s now q bytes (bytes + mails_count (logged_by now s).step.mails) refl is changed) above

pub logged_with_queue : {B : Type 0} (f : After → B) (s : PoolState) (now q : KeyedAds) (b : B) → b ≡ f (logged_by now s) → now ≡ q → b ≡ f (logged_by q s)
logged_with_queue f s now q b is changed = is ∙ ap (λ (x : KeyedAds). f (logged_by x s)) changed

pub reopened_with : (v new : ScheddValue) (now q : KeyedAds) (reading : ℕ) → IsReopened v now reading new → now ≡ q → IsReopened v q reading new
reopened_with v new now q reading back changed = subst (λ (x : KeyedAds). IsReopened v x reading new) changed back

pub back_above : (s : PoolState) (now q : KeyedAds) (reading bytes : ℕ) → bytes ≡ bytes_after q s → now ≡ q → IsBackTooLarge s.schedd now reading bytes
    → IsBackTooLarge s.schedd q reading (bytes_after q s)
back_above s now q reading bytes is changed large =
    subst (λ (x : KeyedAds). IsBackTooLarge s.schedd x reading (bytes_after q s)) changed (subst (λ (n : ℕ). IsBackTooLarge s.schedd now reading n) is large)
