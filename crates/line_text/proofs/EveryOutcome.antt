-- A text has an expansion or a refusal.
use Rattle.std.proofs.Common.{◌≡◌, ℕ, zero, suc, ◌+◌, ◌-◌, ◌<◌, ◌≤◌, ◌==◌, ◌||◌, Bool, true, false, true≢false, cond, List, [], ◌∷◌, length, Option, Some, None, ◌⊎◌, inl, inr, refl, ap, sym, ◌∙◌, subst, arith}
use Rattle.std.proofs.lemmas.Bool.{cases_lt, eqb-true, eq-eqb}
use Rattle.std.proofs.lemmas.List.{length-drop}
use Rattle.ad_value.specs.Names.{lowercase}
use Rattle.line_text.specs.declared.error.MacroError.{MacroError}
use Rattle.line_text.specs.declared.error.MacroError.TheVariants as fault
use Rattle.line_text.specs.Macros.{Macros}
use Rattle.line_text.specs.References.{Reference, ended, broken, refers, stretch_length, past_stretch, following}
use Rattle.line_text.specs.Expansion.{joined, total, macro_of, put_in, contains, Expands, plain, replaced, Reaches, begun, misread, circle, within, within_default, behind, IsExpansion, Meets, IsRefused}
use Rattle.line_text.proofs.TableLemmas.{find_within}
use Rattle.line_text.proofs.Pieces.{length-joined, some_above}
use Rattle.line_text.proofs.Frames.{refers_shorter}
use Rattle.line_text.proofs.OneOutcome.{put_in_found, put_in_default}

-- ---- how many names are not open
abbrev shut_places : ℕ → List ℕ → ℕ
shut_places zero a = 0
shut_places (suc n) a = cond (contains n a) 0 1 + shut_places n a

shut_same : (n p : ℕ) (a : List ℕ) → shut_places n (p ∷ a) ≤ shut_places n a
shut_same zero p a = omega arith
shut_same (suc n) p a = by (n == p) (contains n a) (shut_same n p a)
  where
    by : (b c : Bool) → shut_places n (p ∷ a) ≤ shut_places n a → cond (b || c) 0 1 + shut_places n (p ∷ a) ≤ cond c 0 1 + shut_places n a
    by true true h = omega (arith, h)
    by true false h = omega (arith, h)
    by false c h = omega (arith, h)

shut_fewer : (n p : ℕ) (a : List ℕ) → p < n → contains p a ≡ false → shut_places n (p ∷ a) < shut_places n a
shut_fewer zero p a less shut = absurd (omega (arith, less))
shut_fewer (suc n) p a less shut = by (n == p) refl (shut_fewer n p a)
  where
    here : n ≡ p → cond (contains n a) 0 1 + shut_places n a ≡ 1 + shut_places n a
    here same = ap (λ b. cond b 0 1 + shut_places n a) (ap (λ k. contains k a) same ∙ shut)

    not_here : (n == p) ≡ false → p < n
    not_here other = at (cases_lt p n)
      where
        at : (p < n) ⊎ (n ≤ p) → p < n
        at (inl h) = h
        at (inr h) = absurd (true≢false (sym (eq-eqb n p (omega (arith, h, less))) ∙ other))

    by : (b : Bool) → (n == p) ≡ b → (p < n → contains p a ≡ false → shut_places n (p ∷ a) < shut_places n a) → cond (b || contains n a) 0 1 + shut_places n (p ∷ a) < cond (contains n a) 0 1 + shut_places n a
    by true same h = omega (arith, here (eqb-true n p same), shut_same n p a)
    by false other h = omega (arith, h (not_here other) shut)

-- ---- how an expansion goes on
abbrev IsMet : MacroError → Type 0
IsMet (fault.Bad at) = Unit {0}
IsMet (fault.Circular name) = Unit {0}
IsMet (fault.TooLong n) = ⊥
IsMet fault.Memory = ⊥

module _ (t : Macros) where
  -- a text is expanded whole, or a refusal is met
  data Outcome (a w x : List ℕ) : Type 0 where
    whole : (ss : List (List ℕ)) → Expands t x ss → Outcome a w x
    stops : (ts : List (List ℕ)) (e : MacroError) → IsMet e → Reaches t a w x ts (Some e) → Outcome a w x

  module _ {a w x n d r : List ℕ} (f : following x ≡ refers n d r) where
    then_rest : (ss : List (List ℕ)) → Expands t (put_in t n d) ss → Outcome a w r → Outcome a w x
    then_rest ss e (whole ts h) = whole _ (replaced f e h)
    then_rest ss e (stops ts s m h) = stops _ s m (behind f e h)

    with_value : (p : ℕ) (v : List ℕ) → macro_of t n ≡ Some (p, v) → contains p a ≡ false → Outcome (p ∷ a) v v → Outcome a w r → Outcome a w x
    with_value p v found shut (whole ss e) rest = then_rest ss (subst (λ y. Expands t y ss) (sym (put_in_found t n d p v found)) e) rest
    with_value p v found shut (stops ts s m h) rest = stops _ s m (within f found shut h)

    with_default : macro_of t n ≡ None → Outcome a d d → Outcome a w r → Outcome a w x
    with_default none (whole ss e) rest = then_rest ss (subst (λ y. Expands t y ss) (sym (put_in_default t n d none)) e) rest
    with_default none (stops ts s m h) rest = stops _ s m (within_default f none h)

  -- what each name gives that is not open
  abbrev Values : List ℕ → Type 0
  Values a = (n : List ℕ) (p : ℕ) (v : List ℕ) → macro_of t n ≡ Some (p, v) → contains p a ≡ false → Outcome (p ∷ a) v v

  at_reference : (a w x n d r : List ℕ) → following x ≡ refers n d r → Values a → Outcome a d d → Outcome a w r → Outcome a w x
  at_reference a w x n d r f values default rest = by (macro_of t n) refl
    where
      at : (p : ℕ) (v : List ℕ) → macro_of t n ≡ Some (p, v) → (b : Bool) → contains p a ≡ b → Outcome a w x
      at p v found true c = stops _ (fault.Circular n) tt (circle f found c)
      at p v found false c = with_value f p v found c (values n p v found c) rest

      by : (o : Option (ℕ × List ℕ)) → macro_of t n ≡ o → Outcome a w x
      by None none = with_default f none default rest
      by (Some m) found = at m.0 m.1 found (contains m.0 a) refl

  in_text : (a : List ℕ) → Values a → (k : ℕ) (w x : List ℕ) → length x < k → Outcome a w x
  in_text a values zero w x less = absurd (omega (arith, less))
  in_text a values (suc k) w x less = by (following x) refl (in_text a values k)
    where
      by : (q : Reference) → following x ≡ q → ((w x : List ℕ) → length x < k → Outcome a w x) → Outcome a w x
      by ended f rest = whole _ (plain f)
      by broken f rest = stops _ (fault.Bad (length w - length (past_stretch x))) tt (misread f)
      by (refers n d r) f rest =
          let short : (length d + length r) + 2 ≤ length x = omega (arith, refers_shorter n d r (past_stretch x) f, length-drop (stretch_length x) x) in
          at_reference a w x n d r f values (rest d d (omega (arith, short, less))) (rest w r (omega (arith, short, less)))

  in_names : (k : ℕ) (a : List ℕ) → shut_places (length t) a ≤ k → (w x : List ℕ) → Outcome a w x
  in_names zero a le w x = in_text a (λ n p v found c. absurd (omega (arith, le, shut_fewer (length t) p a (find_within (lowercase n) t p v found) c))) (suc (length x)) w x (omega arith)
  in_names (suc k) a le w x = in_text a (λ n p v found c. in_names k (p ∷ a) (omega (arith, le, shut_fewer (length t) p a (find_within (lowercase n) t p v found) c)) v v) (suc (length x)) w x (omega arith)

  -- a whole expansion is reached
  reached : {a w x : List ℕ} {ss : List (List ℕ)} → Expands t x ss → Reaches t a w x ss None
  reached (plain f) = begun
  reached (replaced f e h) = behind f e (reached h)

  module _ (text : List ℕ) where
    abbrev Ends : Type 0
    Ends = ((x : List ℕ) × IsExpansion t text x) ⊎ ((e : MacroError) × (e ≡ fault.Memory → ⊥) × IsRefused t text e)

    refused_long : (ts : List (List ℕ)) (stop : Option MacroError) → Reaches t [] text text ts stop → 65536 < total ts → Ends
    refused_long ts stop h over =
        let above = some_above 0 ts (omega arith) (omega (arith, over)) in
        inr (fault.TooLong above.0, no above.0, record { pieces = ts; stop = stop; reached = h; above = above.1 })
      where
        no : (n : ℕ) → fault.TooLong n ≡ fault.Memory → ⊥
        no n h = cc

    refused_met : (e : MacroError) → IsMet e → Meets t text e → Ends
    refused_met (fault.Bad at) m h = inr (fault.Bad at, no, h)
      where
        no : fault.Bad at ≡ fault.Memory → ⊥
        no h = cc
    refused_met (fault.Circular n) m h = inr (fault.Circular n, no, h)
      where
        no : fault.Circular n ≡ fault.Memory → ⊥
        no h = cc
    refused_met (fault.TooLong n) m h = absurd m
    refused_met fault.Memory m h = absurd m

    ends_so : Outcome [] text text → Ends
    ends_so (whole ss e) = by (cases_lt 65536 (total ss))
      where
        by : (65536 < total ss) ⊎ (total ss ≤ 65536) → Ends
        by (inl over) = refused_long ss None (reached e) over
        by (inr fits) = inl (joined ss, record { pieces = ss; written = e; is = refl; fits = omega (arith, fits, length-joined ss) })
    ends_so (stops ts e m h) = by (cases_lt 65536 (total ts))
      where
        by : (65536 < total ts) ⊎ (total ts ≤ 65536) → Ends
        by (inl over) = refused_long ts (Some e) h over
        by (inr fits) = refused_met e m (record { pieces = ts; reached = h; fits = fits })

pub every_outcome : (t : Macros) (text : List ℕ) → ((x : List ℕ) × IsExpansion t text x) ⊎ ((e : MacroError) × (e ≡ fault.Memory → ⊥) × IsRefused t text e)
every_outcome t text = ends_so t text (in_names t (shut_places (length t) []) [] (omega arith) text text)
