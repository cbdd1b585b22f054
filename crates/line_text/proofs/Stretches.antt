-- A text behind the plain text that it begins with.
use Rattle.std.proofs.Common.{◌≡◌, ℕ, suc, ◌+◌, ◌-◌, Bool, true, false, cond, List, [], ◌∷◌, ◌++◌, length, take, drop, Option, Some, None, refl, ap, sym, ◌∙◌, subst, arith}
use Rattle.line_text.specs.declared.error.MacroError.{MacroError}
use Rattle.line_text.specs.declared.error.MacroError.TheVariants as fault
use Rattle.line_text.specs.Macros.{Macros}
use Rattle.line_text.specs.References.{begins_reference, stretch_length, stretch, past_stretch, reference_at, following}
use Rattle.line_text.specs.Expansion.{piece, Expands, plain, replaced, Reaches, begun, misread, circle, within, within_default, behind}
use Rattle.line_text.proofs.Pieces.{append_none}

pub past_again : (x : List ℕ) → stretch_length (past_stretch x) ≡ 0
past_again [] = refl
past_again (b ∷ bs) = by (begins_reference (b ∷ bs)) refl (past_again bs)
  where
    by : (r : Bool) → begins_reference (b ∷ bs) ≡ r → stretch_length (past_stretch bs) ≡ 0 → stretch_length (drop (cond r 0 (1 + stretch_length bs)) (b ∷ bs)) ≡ 0
    by true e rest = ap (λ r. cond r 0 (1 + stretch_length bs)) e
    by false e rest = subst (λ n. stretch_length (drop n (b ∷ bs)) ≡ 0) (let one : suc (stretch_length bs) ≡ 1 + stretch_length bs = omega arith in one) rest

stretch_past : (x : List ℕ) → stretch (past_stretch x) ≡ []
stretch_past x = ap (λ n. take n (past_stretch x)) (past_again x)

past_past : (x : List ℕ) → past_stretch (past_stretch x) ≡ past_stretch x
past_past x = ap (λ n. drop n (past_stretch x)) (past_again x)

module _ (t : Macros) (x y : List ℕ) (is : y ≡ past_stretch x) where
  same_past : past_stretch y ≡ past_stretch x
  same_past = ap past_stretch is ∙ past_past x

  same_following : following x ≡ following y
  same_following = sym (ap reference_at same_past)

  no_piece : piece (stretch y) ≡ []
  no_piece = ap piece (ap stretch is ∙ stretch_past x)

  alone : piece (stretch x) ≡ piece (stretch x) ++ piece (stretch y)
  alone = sym (append_none (piece (stretch x))) ∙ ap (λ p. piece (stretch x) ++ p) (sym no_piece)

  before : (ss : List (List ℕ)) → piece (stretch x) ++ ss ≡ piece (stretch x) ++ (piece (stretch y) ++ ss)
  before ss = ap (λ p. piece (stretch x) ++ (p ++ ss)) (sym no_piece)

  pub expand_stretch : {ts : List (List ℕ)} → Expands t y ts → Expands t x (piece (stretch x) ++ ts)
  expand_stretch (plain e) = subst (Expands t x) alone (plain (same_following ∙ e))
  expand_stretch (replaced {ss = ss} {ts = ts} r hs ht) = subst (Expands t x) (before (ss ++ ts)) (replaced (same_following ∙ r) hs ht)

  pub reach_stretch : {around whole : List ℕ} {ts : List (List ℕ)} {stop : Option MacroError} → Reaches t around whole y ts stop → Reaches t around whole x (piece (stretch x) ++ ts) stop
  reach_stretch {around = a} {whole = w} begun = subst (λ l. Reaches t a w x l None) alone begun
  reach_stretch {around = a} {whole = w} (misread e) =
      subst (λ z. Reaches t a w x (piece (stretch x) ++ piece (stretch y)) (Some (fault.Bad (length w - length z)))) (sym same_past)
      (subst (λ l. Reaches t a w x l (Some (fault.Bad (length w - length (past_stretch x))))) alone (misread (same_following ∙ e)))
  reach_stretch {around = a} {whole = w} (circle {name = name} r f c) = subst (λ l. Reaches t a w x l (Some (fault.Circular name))) alone (circle (same_following ∙ r) f c)
  reach_stretch {around = a} {whole = w} (within {ss = ss} {stop = stop} r f c h) = subst (λ l. Reaches t a w x l stop) (before ss) (within (same_following ∙ r) f c h)
  reach_stretch {around = a} {whole = w} (within_default {ss = ss} {stop = stop} r f h) = subst (λ l. Reaches t a w x l stop) (before ss) (within_default (same_following ∙ r) f h)
  reach_stretch {around = a} {whole = w} (behind {ss = ss} {ts = ts} {stop = stop} r g h) = subst (λ l. Reaches t a w x l stop) (before (ss ++ ts)) (behind (same_following ∙ r) g h)
