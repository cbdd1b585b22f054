-- What has too many bytes of ads where something else has.
use Rattle.std.proofs.Common.{◌≡◌, ℕ, ◌<◌, refl, sym, subst}
use Rattle.pool_parts.specs.declared.answer.Answer.TheVariants as answer
use Rattle.pool_parts.specs.declared.answer.Stepped.{Stepped}
use Rattle.pool_parts.specs.declared.event.Event.{Event}
use Rattle.pool_parts.specs.declared.size.TheConstants.{MAX_BYTES}
use Rattle.pool_state.specs.declared.state.PoolState.{PoolState}
use Rattle.pool_rules.specs.Answers.{answered}
use Rattle.pool_rules.specs.Happens.{Happens, Reacts, counts_brought, counts_event}
use Rattle.pool_rules.specs.Limits.{IsTooLarge}
use Rattle.pool_core.specs.Made.{IsMade}

-- what is known to come
pub made_large : (made : PoolState) (bytes : ℕ) → made.counts.bytes ≡ bytes → MAX_BYTES < bytes → IsTooLarge (IsMade made)
made_large made bytes same large = record { new = made; answer = answered answer.Done; makes = (refl, refl); above = subst (λ n. MAX_BYTES < n) (sym same) large }

-- what comes of something else, with the same bytes
pub large_after : (Before After : PoolState → Stepped → Type 0) (f : PoolState → PoolState) → ((s : PoolState) → (f s).counts.bytes ≡ s.counts.bytes) → ((s : PoolState) (r : Stepped) → Before s r → After (f s) r) → IsTooLarge Before → IsTooLarge After
large_after Before After f same makes h = record {
  new = f h.new;
  answer = h.answer;
  makes = makes h.new h.answer h.makes;
  above = subst (λ n. MAX_BYTES < n) (sym (same h.new)) h.above;
}

-- that there was an event counts nothing
pub reacts_large : (event : Event) (s : PoolState) → IsTooLarge (Happens event (counts_brought event s)) → IsTooLarge (λ new r. Reacts s event r new)
reacts_large event s h =
    large_after (Happens event (counts_brought event s)) (λ new r. Reacts s event r new) (counts_event event s) (λ new. refl) (λ new r happens. record { then_pool = new; happens = happens; pool = refl }) h
