-- Facts of a result that is an error, and what the pool's next event asks.
use Rattle.std.proofs.Common.{◌≡◌, ◌↔◌, ◌∙◌, ℕ, ◌<◌, ◌≤◌, Option, Some, IfSome, arith, List, Bool, true, false, true≢false, None, Result, Ok, Err, is_ok, IsErr, IsTrue, OnOk, refl, sym, ap, subst}
use Rattle.ad_eval.specs.Judgement.{Mismatch}
use Rattle.thin_pool.specs.PoolValue.{PoolValue}
use Rattle.thin_pool.specs.Reactions.{refusal, pool_after}
use Rattle.thin_pool.specs.Resting.{event_of}
use Rattle.thin_pool.specs.declared.event.Event.TheVariants.{Close, Start}
use Rattle.thin_pool.specs.declared.next.Next.{Next}
use Rattle.thin_pool.specs.declared.next.Pair.{Pair}
use Rattle.thin_pool.specs.declared.next.Next.TheVariants as next
use Rattle.thin_pool.specs.declared.slot.PoolSlot.{PoolSlot}
use Rattle.pool_input.specs.Input.{ArePlaced}

module _ {T E : Type 0} where
  pub none_ok : (P : Type 0) (r : Result T E) → IsErr r → OnOk r P
  none_ok P (Ok x) err = absurd (true≢false (sym err))
  none_ok P (Err e) err = tt

  pub still_open : (r : Result T E) (closed : Bool) → IsErr r → closed ≡ false → IsTrue (is_ok r) ↔ (closed ≡ true)
  still_open (Ok x) closed err is = absurd (true≢false (sym err))
  still_open (Err e) closed err is = (λ ok. absurd (true≢false (sym ok)), λ yes. absurd (true≢false (sym yes ∙ is)))

  pub less_ok : (r : Result T E) (now old : ℕ) → OnOk r (now < old) → OnOk r (now ≤ old)
  less_ok (Ok x) now old less = omega arith
  less_ok (Err e) now old less = tt

pub now_closed : (old new : PoolValue) (reading : ℕ) (none : Mismatch) → new ≡ pool_after old (Close reading none) → IsTrue true ↔ (new.closed ≡ true)
now_closed old new reading none is = (λ ok. ap (λ (p : PoolValue). p.closed) is, λ yes. refl)

pub close_accepted : (old now : PoolValue) (reading : ℕ) (n : Next) (none : Mismatch) → old ≡ now → n ≡ next.Close none → refusal old (event_of reading n) ≡ None → refusal now (Close reading none) ≡ None
close_accepted old now reading n none same is accepted =
    subst (λ (p : PoolValue). refusal p (Close reading none) ≡ None) same (subst (λ (m : Next). refusal old (event_of reading m) ≡ None) is accepted)

pub start_accepted : (old now : PoolValue) (reading : ℕ) (n : Next) (pair : Pair) → old ≡ now → n ≡ next.Start pair → refusal old (event_of reading n) ≡ None → refusal now (Start pair.job pair.slot pair.judged reading) ≡ None
start_accepted old now reading n pair same is accepted =
    subst (λ (p : PoolValue). refusal p (Start pair.job pair.slot pair.judged reading) ≡ None) same (subst (λ (m : Next). refusal old (event_of reading m) ≡ None) is accepted)

pub placed_still : (first slots : List PoolSlot) (machines now : ℕ) → slots ≡ first → now ≡ machines → ArePlaced first machines → ArePlaced slots now
placed_still first slots machines now same long placed =
    subst (λ (n : ℕ). ArePlaced slots n) (sym long) (subst (λ (l : List PoolSlot). ArePlaced l machines) (sym same) placed)

pub pair_accepted : (old now : PoolValue) (reading : ℕ) (found : Option Pair) (pair : Pair) → old ≡ now → found ≡ Some pair → IfSome found (λ p. refusal old (Start p.job p.slot p.judged reading) ≡ None) → refusal now (Start pair.job pair.slot pair.judged reading) ≡ None
pair_accepted old now reading found pair same is accepted =
    subst (λ (p : PoolValue). refusal p (Start pair.job pair.slot pair.judged reading) ≡ None) same (subst (λ (o : Option Pair). IfSome o (λ p. refusal old (Start p.job p.slot p.judged reading) ≡ None)) is accepted)
