-- What has an expansion, although some macros have none, does not look at these.
use Rattle.std.proofs.Common.{◌≡◌, ℕ, List, Some, Result, Ok, Err, inl, inr, ◌⊎◌, ap, ◌∙◌, subst, codes, refl}
use Rattle.std.specs.Prelude.{unwrap_or}
use Rattle.ad_value.specs.Names.{lowercase}
use Rattle.line_text.specs.Macros.{Macros}
use Rattle.line_text.specs.References.{Reference, ended, broken, refers, following, begins_reference, reference_at}
use Rattle.line_text.specs.Expansion.{put_in, Expands, plain, replaced, IsExpansion}
use Rattle.submit_file.specs.declared.error.SubmitError.{SubmitError}
use Rattle.submit_file.specs.Errors.{Replaced}
use Rattle.submit_file.specs.Errors as errors
use Rattle.submit_file.specs.Plans.{macro_value, Spares}

nowhere : following (codes "$(") ≡ broken
unfolding begins_reference reference_at
nowhere = refl

no_end : {x : Reference} → x ≡ broken → x ≡ ended → ⊥
no_end e f = cc

no_reference : {x : Reference} {n d r : List ℕ} → x ≡ broken → x ≡ refers n d r → ⊥
no_reference e f = cc

no_expansion : (t : Macros) (text : List ℕ) (ss : List (List ℕ)) → text ≡ codes "$(" → Expands t text ss → ⊥
no_expansion t text _ is (plain e) = no_end (ap following is ∙ nowhere) e
no_expansion t text _ is (replaced e f g) = no_reference (ap following is ∙ nowhere) e

abbrev pub IsText : Result (List ℕ) SubmitError → Type 0
IsText (Ok x) = Unit {0}
IsText (Err f) = ⊥

module _ (t u : Macros) (spares : Spares t u) where
  spared : {text : List ℕ} {ss : List (List ℕ)} → Expands t text ss → Expands u text ss
  spared (plain e) = plain e
  spared (replaced {name = name} {default = default} {ss = ss} e f g) = replaced e (at (spares (lowercase name)) f (spared f)) (spared g)
    where
      at : (macro_value (lowercase name) t ≡ Some (codes "$(")) ⊎ (macro_value (lowercase name) t ≡ macro_value (lowercase name) u) → Expands t (put_in t name default) ss → Expands u (put_in t name default) ss → Expands u (put_in u name default) ss
      at (inl none) f h = absurd (no_expansion t (put_in t name default) ss (ap (λ o. unwrap_or o default) none) f)
      at (inr same) f h = subst (λ v. Expands u v ss) (ap (λ o. unwrap_or o default) same) h

  expansion_spared : (text x : List ℕ) → IsExpansion t text x → IsExpansion u text x
  expansion_spared text x h = record { pieces = h.pieces; written = spared h.written; is = h.is; fits = h.fits }

  pub replaced_spared : (text : List ℕ) (n : ℕ) (r : Result (List ℕ) SubmitError) → Replaced t text n r → IsText r → Replaced u text n r
  replaced_spared text n _ (errors.replaced {x = x} h) is = errors.replaced (expansion_spared text x h)
  replaced_spared text n _ (errors.refused h k) is = absurd is
