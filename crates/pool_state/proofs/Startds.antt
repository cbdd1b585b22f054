-- The startds of slots in order, slot by slot.
use Rattle.std.proofs.Common.{◌≡◌, ◌==◌, false, List, [], ◌∷◌, ◌++◌, Result, Ok, Err, IfOk, if◌then◌else◌, append_assoc, ap, sym, ◌∙◌}
use Rattle.pool_mail.specs.declared.slot_ad.SlotAd.{SlotAd}
use Rattle.pool_state.specs.declared.opening.Machinery.{Machinery}
use Rattle.pool_state.specs.Openings.{new_startd, startds_from}
use Rattle.startd_core.specs.Startds.{StartdValue, with_slot}

-- a slot of another machine: the last startd is done, and the next one has the slot
pub next_startd : {T E : Type 0} (r : Result T E) (m : Machinery) (slot : SlotAd) (before after : List StartdValue) (last done fresh startd : StartdValue)
    → (slot.slot.machine == last.machine.number) ≡ false → done ≡ last → after ≡ before ++ done ∷ [] → fresh ≡ new_startd m slot.slot.machine
    → IfOk r (λ _. startd ≡ with_slot slot.name slot.ad fresh)
    → IfOk r (λ _. (rest : List SlotAd) → after ++ startds_from m startd rest ≡ before ++ startds_from m last (slot ∷ rest))
next_startd (Ok x) m slot before after last done fresh startd other old put new made = λ rest.
    let next = with_slot slot.name slot.ad (new_startd m slot.slot.machine) in
    (λ i. (put i) ++ startds_from m (made i) rest)
    ∙ (λ i. (before ++ old i ∷ []) ++ startds_from m (with_slot slot.name slot.ad (new i)) rest)
    ∙ append_assoc before (last ∷ []) (startds_from m next rest)
    ∙ ap (λ b. before ++ (if b then startds_from m (with_slot slot.name slot.ad last) rest else last ∷ startds_from m next rest)) (sym other)
next_startd (Err e) m slot before after last done fresh startd other old put new made = tt

-- and is of the slot's machine
pub next_machine : {T E : Type 0} (r : Result T E) (m : Machinery) (slot : SlotAd) (fresh startd : StartdValue) → fresh ≡ new_startd m slot.slot.machine
    → IfOk r (λ _. startd ≡ with_slot slot.name slot.ad fresh) → IfOk r (λ _. startd.machine.number ≡ slot.slot.machine)
next_machine (Ok x) m slot fresh startd new made = ap (λ (v : StartdValue). v.machine.number) made ∙ ap (λ (v : StartdValue). v.machine.number) new
next_machine (Err e) m slot fresh startd new made = tt
