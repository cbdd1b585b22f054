-- What is known of whoever was judged, and of lists of which no pair matches.
use Rattle.std.proofs.Common.{◌≡◌, Bool, true, false, true≢false, ◌&&◌, List, Some, refl, ap, sym, ◌∙◌}
use Rattle.std.specs.List.{list_any, Contains}
use Rattle.std.proofs.lemmas.Option.{slice_get-get_or}
use Rattle.std.proofs.lemmas.Map.Keys.{any_passes_from_place}
use Rattle.ad_tree.specs.Ad.{Attributes}
use Rattle.ad_eval.specs.Match.{matches, matches_any, requirements_hold}
use Rattle.ad_eval.specs.Judgement.{Judgement, Mismatch}

both_true : (a b : Bool) → (a && b) ≡ true → (a ≡ true) × (b ≡ true)
both_true true b e = (refl, e)
both_true false b e = absurd (true≢false (sym e))

pub both_hold : (j : Judgement) → (requirements_hold j.job j.slot j.at ≡ true) × (requirements_hold j.slot j.job j.at ≡ true)
both_hold j = both_true (requirements_hold j.job j.slot j.at) (requirements_hold j.slot j.job j.at) j.fits

passes : {X : Type 0} (p : X → Bool) (xs : List X) (x : X) → Contains xs x → p x ≡ true → list_any p xs ≡ true
passes p xs x h e = any_passes_from_place p xs h.0 x (slice_get-get_or xs h.0 x h.1 ∙ ap Some h.2) e

none_passes : {X : Type 0} (p : X → Bool) (xs : List X) (x : X) → Contains xs x → list_any p xs ≡ false → p x ≡ false
none_passes p xs x h none = by (p x) refl
  where
    by : (b : Bool) → p x ≡ b → b ≡ false
    by true e = absurd (true≢false (sym (passes p xs x h e) ∙ none))
    by false e = refl

pub none_fits : (m : Mismatch) (job slot : Attributes) → Contains m.jobs job → Contains m.slots slot → matches job slot m.at ≡ false
none_fits m job slot h k = none_passes (λ s. matches job s m.at) m.slots slot k (none_passes (λ j. matches_any m.slots j m.at) m.jobs job h m.unfit)
