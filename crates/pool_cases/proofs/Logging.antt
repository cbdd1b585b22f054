-- Jobs that can be logged, one attribute at a time.
use Rattle.std.proofs.Common.{◌≡◌, ℕ, zero, suc, ◌+◌, ◌≤◌, true, List, [], ◌∷◌, Some, drop, length, slice_get, subst, arith}
use Rattle.std.specs.Prelude.{nat_le, IfSome}
use Rattle.std.proofs.lemmas.Bool.{leb-true}
use Rattle.std.proofs.lemmas.Option.{none-some, same_Some}
use Rattle.std.proofs.lemmas.List.Sums.{count_by-le-length}
use Rattle.ad_tree.specs.declared.ad.TheConstants.{MAX_ATTRIBUTES}
use Rattle.ad_tree.specs.Ad.{AreDistinct, Attributes}
use Rattle.ad_tree.specs.Tree.{Tree}
use Rattle.claim_id.specs.declared.numbers.JobId.{JobId}
use Rattle.queue_tx.specs.Roomy.{HasRoom}
use Rattle.queue_tx.specs.declared.key.Key.TheVariants.{Proc}
use Rattle.queue_tx.specs.declared.names.TheConstants.{MAX_OWN_OF_PROC}
use Rattle.queue_tx.specs.Printable.{IsPrintableAd}
use Rattle.queue_tx.specs.Room.{is_own}
use Rattle.pool_cases.specs.Logged.{IsPrintableAttribute}

-- few attributes of whatever names are few of the ad's own
pub room_of_few : (ad : Attributes) (n : ℕ) → n ≡ length ad → n ≤ MAX_ATTRIBUTES → AreDistinct ad → nat_le n MAX_OWN_OF_PROC ≡ true → (id : JobId) → HasRoom (Proc id) ad
room_of_few ad n is within distinct few id =
    let small = leb-true n 248 few in
    let own = count_by-le-length (is_own (Proc id)) ad in
    record { ad_is = (distinct, omega (arith, is, within)); own = omega (arith, is, small, own) }

-- where what stands at a place can be printed, and the rest after it, so can the rest from there on
pub printable_from : (ad : Attributes) (place : ℕ) → IfSome (slice_get ad place) IsPrintableAttribute → IsPrintableAd (drop (place + 1) ad) → IsPrintableAd (drop place ad)
printable_from [] zero here rest = tt
printable_from [] (suc place) here rest = tt
printable_from (a ∷ ad) zero here rest = (here.0, here.1, rest)
printable_from (a ∷ ad) (suc place) here rest =
    let next : suc place + 1 ≡ suc (place + 1) = omega arith in
    printable_from ad place here (subst (λ n. IsPrintableAd (drop n (a ∷ ad))) next rest)

-- each attribute of an ad that can be printed can be
pub printable_there : (ad : Attributes) (place : ℕ) (a : List ℕ × Tree) → IsPrintableAd ad → slice_get ad place ≡ Some a → IsPrintableAttribute a
printable_there [] place a is at = absurd (none-some a at)
printable_there (b ∷ ad) zero a is at = subst IsPrintableAttribute (same_Some b a at) (is.0, is.1)
printable_there (b ∷ ad) (suc place) a is at = printable_there ad place a is.2 at
