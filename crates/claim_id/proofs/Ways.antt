-- What holds of every way of the table holds of everything that `next_of` gives.
use Rattle.std.proofs.Common.{◌≡◌, true, List, Some, refl, sym, ◌∙◌, subst}
use Rattle.std.specs.List.{Contains, AllByRecursion}
use Rattle.std.proofs.lemmas.List.Elements.{All-from_recursion}
use Rattle.std.proofs.lemmas.Map.Views.{Contains-from_lookup}
use Rattle.claim_id.specs.declared.pair.Cue.{Cue}
use Rattle.claim_id.specs.declared.pair.Cue.TheVariants.{StartOn, StartOff, Match, Lapse, Grant, Begin, Rest, Retire, Vacate, Kill, Handover, Finish}
use Rattle.claim_id.specs.declared.pair.Pair.{Pair}
use Rattle.claim_id.specs.declared.pair.Pair.TheVariants.{OwnerIdle, UnclaimedIdle, MatchedIdle, ClaimedIdle, ClaimedBusy, ClaimedRetiring, PreemptingVacating, PreemptingKilling}
use Rattle.claim_id.specs.SlotTable.{◌⇒◌, ways_from, same_cue, next_of}

same_cue-same : (a b : Cue) → same_cue a b ≡ true → a ≡ b
same_cue-same StartOn StartOn _ = refl
same_cue-same StartOff StartOff _ = refl
same_cue-same Match Match _ = refl
same_cue-same Lapse Lapse _ = refl
same_cue-same Grant Grant _ = refl
same_cue-same Begin Begin _ = refl
same_cue-same Rest Rest _ = refl
same_cue-same Retire Retire _ = refl
same_cue-same Vacate Vacate _ = refl
same_cue-same Kill Kill _ = refl
same_cue-same Handover Handover _ = refl
same_cue-same Finish Finish _ = refl
same_cue-same _ _ e = cc

-- what `next_of` gives stands in the table
pub in_table : (from to : Pair) (by : Cue) → next_of from by ≡ Some to → Contains (ways_from from) (by ⇒ to)
in_table from to by is = Contains-from_lookup same_cue-same by to (ways_from from) is

-- what holds of each way of a list holds of a way that stands in it
of_way : (P : Cue × Pair → Type 0) (ways : List (Cue × Pair)) (way : Cue × Pair) → AllByRecursion P ways → Contains ways way → P way
of_way P ways way each (k, inside, is) = subst P is (All-from_recursion P ways each k way inside)

answers : (from : Pair) → AllByRecursion (λ way. next_of from way.0 ≡ Some way.1) (ways_from from)
answers OwnerIdle = (refl, tt)
answers UnclaimedIdle = (refl, (refl, (refl, tt)))
answers MatchedIdle = (refl, (refl, (refl, tt)))
answers ClaimedIdle = (refl, (refl, (refl, tt)))
answers ClaimedBusy = (refl, (refl, (refl, tt)))
answers ClaimedRetiring = (refl, (refl, (refl, (refl, tt))))
answers PreemptingVacating = (refl, (refl, (refl, tt)))
answers PreemptingKilling = (refl, (refl, tt))

pub table_answers : (from to : Pair) (by : Cue) → Contains (ways_from from) (by ⇒ to) → next_of from by ≡ Some to
table_answers from to by inside = of_way (λ way. next_of from way.0 ≡ Some way.1) (ways_from from) (by ⇒ to) (answers from) inside

of_next : (P : Pair → Cue → Pair → Type 0) → ((from : Pair) → AllByRecursion (λ way. P from way.0 way.1) (ways_from from)) → (from to : Pair) (by : Cue) → next_of from by ≡ Some to → P from by to
of_next P each from to by is = of_way (λ way. P from way.0 way.1) (ways_from from) (by ⇒ to) (each from) (in_table from to by is)

-- where each cue leads
end_of : Cue → Pair
end_of StartOn = UnclaimedIdle
end_of StartOff = OwnerIdle
end_of Match = MatchedIdle
end_of Lapse = OwnerIdle
end_of Grant = ClaimedIdle
end_of Begin = ClaimedBusy
end_of Rest = ClaimedIdle
end_of Retire = ClaimedRetiring
end_of Vacate = PreemptingVacating
end_of Kill = PreemptingKilling
end_of Handover = ClaimedIdle
end_of Finish = OwnerIdle

ends : (from : Pair) → AllByRecursion (λ way. way.1 ≡ end_of way.0) (ways_from from)
unfolding end_of
ends OwnerIdle = (refl, tt)
ends UnclaimedIdle = (refl, (refl, (refl, tt)))
ends MatchedIdle = (refl, (refl, (refl, tt)))
ends ClaimedIdle = (refl, (refl, (refl, tt)))
ends ClaimedBusy = (refl, (refl, (refl, tt)))
ends ClaimedRetiring = (refl, (refl, (refl, (refl, tt))))
ends PreemptingVacating = (refl, (refl, (refl, tt)))
ends PreemptingKilling = (refl, (refl, tt))

next_ends : (from to : Pair) (by : Cue) → next_of from by ≡ Some to → to ≡ end_of by
next_ends from to by is = of_next (λ _ by to. to ≡ end_of by) ends from to by is

pub one_end : (p q a b : Pair) (by : Cue) → next_of p by ≡ Some a → next_of q by ≡ Some b → a ≡ b
one_end p q a b by first second = next_ends p a by first ∙ sym (next_ends q b by second)
