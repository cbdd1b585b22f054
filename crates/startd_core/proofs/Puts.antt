-- A slot of a startd that there is, put anew.
use Rattle.std.proofs.Common.{◌≡◌, ℕ, ◌<◌, Bool, ◌||◌, inl, inr, List, Some, length, slice_get, slice_set, sym, subst, arith}
use Rattle.std.proofs.lemmas.Option.{slice_get_cases}
use Rattle.startd_slot.specs.declared.slot.Slot.{Slot}
use Rattle.startd_core.specs.declared.conclude.Conclusion.{Conclusion}
use Rattle.startd_core.specs.Offers.{has_entered}
use Rattle.startd_core.specs.Startds.{StartdValue, startd_value, put_in, put_at}

pub put_is : (v : StartdValue) (place : ℕ) (c : Conclusion) (slots : List Slot) (restless : Bool)
    → place < length v.slots
    → ((slot : Slot) → slice_get v.slots place ≡ Some slot → slots ≡ slice_set v.slots place (record slot { state = c.state }))
    → ((slot : Slot) → slice_get v.slots place ≡ Some slot → restless ≡ (v.restless || has_entered slot.state c.state))
    → startd_value v.machine v.settings c.offers slots v.ticked restless ≡ put_at v place c
unfolding put_at
put_is v place c slots restless below put rests = elim (slice_get_cases v.slots place).1 [
  | inl found ↦ subst (λ o. startd_value v.machine v.settings c.offers slots v.ticked restless ≡ put_in v place o c) (sym found.2)
      (λ i. startd_value v.machine v.settings c.offers (put found.0 found.2 i) v.ticked (rests found.0 found.2 i))
  | inr past ↦ absurd (omega (arith, below, past.0))
]
