-- What a pool of a history counts.
use Rattle.std.proofs.Common.{◌≡◌, ℕ, ◌+◌, List, [], ◌∷◌, Option, ap, sym, subst, arith}
use Rattle.claim_id.specs.declared.numbers.ClaimId.{ClaimId}
use Rattle.pool_parts.specs.Sizes.{queue_count}
use Rattle.pool_view.specs.Protocol.{Protocol}
use Rattle.pool_view.specs.ProtocolMove.{protocol_after_all}
use Rattle.pool_state.specs.declared.opening.Opening.{Opening}
use Rattle.pool_state.specs.declared.state.PoolState.{PoolState}
use Rattle.schedd_state.specs.Reopening.{IsReader}
use Rattle.pool_rules.specs.Counted.{IsCounted, brought_count, held_count, sent_count}
use Rattle.pool_rules.specs.Few.{AreFew}
use Rattle.pool_rules.specs.Histories.{IsHistory, LeadsTo, Step}
use Rattle.pool_rules.specs.Kept.{IsKept}
use Rattle.pool_rules.proofs.Counting.{event_counted, event_counts, opening_counted}
use Rattle.pool_rules.proofs.PoolEvents.{event_keeps}
use Rattle.pool_rules.proofs.PoolOpening.{opening_is_kept}
use Rattle.pool_rules.proofs.ScheddFew.{event_few, opening_few}

-- the bytes are those of what it has, and so many that events brought
record Brought (s : PoolState) (more : ℕ) : Type 0 where
  counted : IsCounted s
  bytes : s.counts.bytes ≡ held_count s + more

module _ (read : List ℕ → Option ClaimId) (reads : IsReader read) where
  leads_brought : (p : Protocol) (s t : PoolState) (list : List Step) (more : ℕ) → IsKept p s → AreFew s → Brought s more → LeadsTo s list t → Brought t (more + brought_count list)
  leads_brought p s t [] more kept few brought same = subst (λ (x : PoolState). Brought x (more + 0)) (sym same)
      (record { counted = brought.counted; bytes = (let bytes = brought.bytes in omega (arith, bytes)) })
  leads_brought p s t (h ∷ hs) more kept few brought (new, accepts, rest) =
      let on = event_keeps read reads p s kept few h.event h.answer new accepts.given accepts.accepted accepts.reacts in
      let rest_brought = leads_brought (protocol_after_all p on.moves) new t hs _ on.kept (event_few read reads p s new h.event h.answer kept few accepts.reacts) (step_brought accepts.reacts) rest in
      record { counted = rest_brought.counted; bytes = (let bytes = rest_brought.bytes in omega (arith, bytes)) }
    where
      step_brought : Rattle.pool_rules.specs.Happens.Reacts s h.event h.answer new → Brought new (more + Rattle.pool_parts.specs.Sizes.event_count h.event)
      step_brought reacts = record {
        counted = event_counted read reads p s new h.event h.answer kept brought.counted reacts;
        bytes = (let bytes = brought.bytes in let on = event_counts read reads p s new h.event h.answer kept brought.counted reacts in omega (arith, bytes, on));
      }

  history_brought : (o : Opening) (list : List Step) (s : PoolState) → IsHistory o list s → Brought s (0 + brought_count list)
  history_brought o list s h =
      let k = opening_is_kept o h.opening h.can h.queue h.opened in
      leads_brought k.0 h.opening s list 0 k.1 (opening_few o h.opening h.can h.opened)
      (record {
        counted = opening_counted o h.opening h.opened;
        bytes = (let same = ap queue_count h.opened.queue in let none = ap sent_count h.opened.mails.none in let bytes = h.opened.bytes in omega (arith, same, none, bytes));
      })
      h.leads

  pub history_counted : (o : Opening) (list : List Step) (s : PoolState) → IsHistory o list s → IsCounted s
  history_counted o list s h = (history_brought o list s h).counted

  pub history_bytes : (o : Opening) (list : List Step) (s : PoolState) → IsHistory o list s → s.counts.bytes ≡ held_count s + brought_count list
  history_bytes o list s h = let bytes = (history_brought o list s h).bytes in omega (arith, bytes)
