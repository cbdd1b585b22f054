-- A text has at most one refusal.
use Rattle.std.proofs.Common.{◌≡◌, ℕ, ◌+◌, ◌-◌, ◌≤◌, ◌==◌, ◌||◌, Bool, true, false, true≢false, List, [], ◌∷◌, ◌++◌, length, Option, Some, None, ◌⊎◌, inl, inr, refl, ap, sym, ◌∙◌, subst, append_assoc, arith}
use Rattle.std.proofs.lemmas.Bool.{eqb-true}
use Rattle.ad_value.specs.Names.{lowercase}
use Rattle.line_text.specs.declared.error.MacroError.{MacroError}
use Rattle.line_text.specs.declared.error.MacroError.TheVariants as fault
use Rattle.line_text.specs.Macros.{Macros, value_at}
use Rattle.line_text.specs.References.{broken, refers, stretch, past_stretch, following}
use Rattle.line_text.specs.Expansion.{piece, total, first_above, macro_of, put_in, contains, Expands, plain, replaced, Reaches, begun, misread, circle, within, within_default, behind, Meets, Passes, IsRefused}
use Rattle.line_text.proofs.TableLemmas.{value_of_found, place_in, value_in}
use Rattle.line_text.proofs.LawLemmas.{name_in, default_in, rest_in, pieces_are_one}
use Rattle.line_text.proofs.Pieces.{append_none, first_above-append, first_above-more}
use Rattle.line_text.proofs.OneOutcome.{size, sizes_agree, clash, clash_broken, put_in_found, put_in_default, IsBigger, no_stop}

some_is : {A : Type 0} (x y : A) → Some x ≡ Some y → x ≡ y
some_is x y h = cc

some_is_none : {A : Type 0} (x : A) → Some x ≡ None → ⊥
some_is_none x h = cc

-- ---- of two ways through a text one goes as far as the other

-- what is written first is the beginning of what another writes, and where it stops, both do
record Leads (ts : List (List ℕ)) (stop : Option MacroError) (us : List (List ℕ)) (end : Option MacroError) : Type 0 where
  more : List (List ℕ)
  is : us ≡ ts ++ more
  ends : (stop ≡ None) ⊎ ((more ≡ []) × (stop ≡ end))

abbrev Agree : List (List ℕ) → Option MacroError → List (List ℕ) → Option MacroError → Type 0
Agree ts stop us end = Leads ts stop us end ⊎ Leads us end ts stop

leads_after : (p ts us : List (List ℕ)) (stop end : Option MacroError) → Leads ts stop us end → Leads (p ++ ts) stop (p ++ us) end
leads_after p ts us stop end l = record {
  more = l.more;
  is = ap (λ x. p ++ x) l.is ∙ sym (append_assoc p ts l.more);
  ends = l.ends;
}

agree_after : (p ts us : List (List ℕ)) (stop end : Option MacroError) → Agree ts stop us end → Agree (p ++ ts) stop (p ++ us) end
agree_after p ts us stop end (inl l) = inl (leads_after p ts us stop end l)
agree_after p ts us stop end (inr l) = inr (leads_after p us ts end stop l)

leads_all : (us : List (List ℕ)) (end : Option MacroError) → Leads [] None us end
leads_all us end = record { more = us; is = refl; ends = inl refl }

same_way : (ts : List (List ℕ)) (stop : Option MacroError) → Agree ts stop ts stop
same_way ts stop = inl (record { more = []; is = sym (append_none ts); ends = inr (refl, refl) })

same_end : (e f : MacroError) {ts us : List (List ℕ)} → Leads ts (Some e) us (Some f) → e ≡ f
same_end e f l = by l.ends
  where
    by : (Some e ≡ None) ⊎ ((l.more ≡ []) × (Some e ≡ Some f)) → e ≡ f
    by (inl none) = absurd (some_is_none e none)
    by (inr both) = some_is e f both.1

same_pieces : (e : MacroError) {ts us : List (List ℕ)} {end : Option MacroError} → Leads ts (Some e) us end → us ≡ ts
same_pieces e {ts = ts} {us = us} {end = end} l = by l.ends
  where
    by : (Some e ≡ None) ⊎ ((l.more ≡ []) × (Some e ≡ end)) → us ≡ ts
    by (inl none) = absurd (some_is_none e none)
    by (inr both) = l.is ∙ ap (λ m. ts ++ m) both.0 ∙ append_none ts

module _ (t : Macros) where
  found_place : (n : List ℕ) (p q : ℕ) (v u : List ℕ) → macro_of t n ≡ Some (p, v) → macro_of t n ≡ Some (q, u) → p ≡ q
  found_place n p q v u f g = ap place_in (sym f ∙ g)

  found_value : (n : List ℕ) (p q : ℕ) (v u : List ℕ) → macro_of t n ≡ Some (p, v) → macro_of t n ≡ Some (q, u) → v ≡ u
  found_value n p q v u f g = ap value_in (sym f ∙ g)

  found_or_not : (n : List ℕ) (p : ℕ) (v : List ℕ) → macro_of t n ≡ Some (p, v) → macro_of t n ≡ None → ⊥
  found_or_not n p v f g = some_is_none (p, v) (sym f ∙ g)

  shut_or_open : (p q : ℕ) (a : List ℕ) → p ≡ q → contains p a ≡ true → contains q a ≡ false → ⊥
  shut_or_open p q a is c d = true≢false (sym c ∙ ap (λ k. contains k a) is ∙ d)

  -- ---- a text within the values of the open names

  -- a text has an expansion of at most this size
  record Part (x : List ℕ) (n : ℕ) : Type 0 where
    pieces : List (List ℕ)
    whole : Expands t x pieces
    fits : size t whole ≤ n

  record Split (d r : List ℕ) (n : ℕ) : Type 0 where
    firsts : List (List ℕ)
    rests : List (List ℕ)
    first : Expands t d firsts
    rest : Expands t r rests
    is : n ≡ 1 + (size t first + size t rest)

  split : {x : List ℕ} (n d r : List ℕ) {ss : List (List ℕ)} → following x ≡ refers n d r → (e : Expands t x ss) → Split (put_in t n d) r (size t e)
  split n d r f (plain e) = absurd (clash t e f)
  split n d r f (replaced {name = m} {default = e} {rest = s} {ss = ss} {ts = ts} k i j) =
      let same : refers n d r ≡ refers m e s = sym f ∙ k in
      subst (λ q. Split (put_in t (name_in q) (default_in q)) (rest_in q) (1 + (size t i + size t j))) (sym same)
      (record { firsts = ss; rests = ts; first = i; rest = j; is = refl })

  -- where the value of an open name has an expansion, the text has one within that one
  abbrev IsWithin : List ℕ → List ℕ → Type 0
  IsWithin around x = (p : ℕ) → contains p around ≡ true → (y : List ℕ) (us : List (List ℕ)) (d : Expands t y us) → y ≡ value_at t p → Part x (size t d)

  module _ (a x : List ℕ) {n d r : List ℕ} (f : following x ≡ refers n d r) (i : IsWithin a x) where
    within_put : IsWithin a (put_in t n d)
    within_put q c y us e is =
        let part = i q c y us e is in
        let s = split n d r f part.whole in
        record { pieces = s.firsts; whole = s.first; fits = omega (arith, part.fits, s.is) }

    within_rest : IsWithin a r
    within_rest q c y us e is =
        let part = i q c y us e is in
        let s = split n d r f part.whole in
        record { pieces = s.rests; whole = s.rest; fits = omega (arith, part.fits, s.is) }

    within_value : (p : ℕ) (v : List ℕ) → macro_of t n ≡ Some (p, v) → IsWithin (p ∷ a) v
    within_value p v found q c y us e is = by (q == p) refl c
      where
        by : (b : Bool) → (q == p) ≡ b → (b || contains q a) ≡ true → Part v (size t e)
        by true same c =
            let value : y ≡ v = is ∙ ap (value_at t) (eqb-true q p same) ∙ sym (value_of_found (lowercase n) t p v found) in
            let whole : Expands t v us = subst (λ k. Expands t k us) value e in
            record { pieces = us; whole = whole; fits = omega (arith, sizes_agree t (sym value) whole e) }
        by false same c = subst (λ k. Part k (size t e)) (put_in_found t n d p v found) (within_put q c y us e is)

    -- an open name has no expansion
    open_has_none : (p : ℕ) (v : List ℕ) (us : List (List ℕ)) → macro_of t n ≡ Some (p, v) → contains p a ≡ true → Expands t (put_in t n d) us → ⊥
    open_has_none p v us found c e =
        let part = i p c (put_in t n d) us e (put_in_found t n d p v found ∙ value_of_found (lowercase n) t p v found) in
        let s = split n d r f part.whole in
        omega (arith, part.fits, s.is, sizes_agree t refl s.first e)

  -- the expansions of the open names are as big as that of a text within them
  bigger : (a x y : List ℕ) (us : List (List ℕ)) (d : Expands t y us) → y ≡ x → IsWithin a x → IsBigger t a (size t d)
  bigger a x y us d same i q c z vs e is =
      let part = i q c z vs e is in
      omega (arith, part.fits, sizes_agree t same d part.whole)

  -- what is reached in a text is how its expansion begins
  module _ {a w x y : List ℕ} {ts us : List (List ℕ)} (vs : List (List ℕ)) {stop : Option MacroError} (end : Option MacroError) (i : IsWithin a x) (same : y ≡ x) (d : Expands t y us) (h : Reaches t a w x ts stop) where
    leads_whole : Leads ts stop (us ++ vs) end
    leads_whole =
        let no = no_stop t same d (λ e is. bigger a x y us d same i) h in
        record {
          more = no.1 ++ vs;
          is = ap (λ l. l ++ vs) no.2 ∙ append_assoc ts no.1 vs;
          ends = inl no.0;
        }

  -- ---- what is reached behind a reference
  data Next (a w n d r : List ℕ) : List (List ℕ) → Option MacroError → Type 0 where
    stays : Next a w n d r [] None
    circles : {p : ℕ} {v : List ℕ} → macro_of t n ≡ Some (p, v) → contains p a ≡ true → Next a w n d r [] (Some (fault.Circular n))
    enters : {p : ℕ} {v : List ℕ} {ss : List (List ℕ)} {stop : Option MacroError} → macro_of t n ≡ Some (p, v) → contains p a ≡ false → Reaches t (p ∷ a) v v ss stop → Next a w n d r ss stop
    defaults : {ss : List (List ℕ)} {stop : Option MacroError} → macro_of t n ≡ None → Reaches t a d d ss stop → Next a w n d r ss stop
    passes : {ss ts : List (List ℕ)} {stop : Option MacroError} → Expands t (put_in t n d) ss → Reaches t a w r ts stop → Next a w n d r (ss ++ ts) stop

  record Seen (a w x n d r : List ℕ) (ss : List (List ℕ)) (stop : Option MacroError) : Type 0 where
    more : List (List ℕ)
    is : ss ≡ piece (stretch x) ++ more
    next : Next a w n d r more stop

  moved : {n d r m e s : List ℕ} (a w : List ℕ) (ss : List (List ℕ)) (stop : Option MacroError) → refers n d r ≡ refers m e s → Next a w m e s ss stop → Next a w n d r ss stop
  moved a w ss stop same h = subst (λ q. Next a w (name_in q) (default_in q) (rest_in q) ss stop) (sym same) h

  seen : {a w x : List ℕ} {us : List (List ℕ)} {end : Option MacroError} (n d r : List ℕ) → following x ≡ refers n d r → Reaches t a w x us end → Seen a w x n d r us end
  seen n d r e begun = record { more = []; is = sym (append_none _); next = stays }
  seen n d r e (misread f) = absurd (clash_broken t f e)
  seen {a = a} {w = w} n d r e (circle {name = m} k f c) = record { more = []; is = sym (append_none _); next = moved a w [] (Some (fault.Circular m)) (sym e ∙ k) (circles f c) }
  seen {a = a} {w = w} n d r e (within {ss = ss} {stop = stop} k f c h) = record { more = ss; is = refl; next = moved a w ss stop (sym e ∙ k) (enters f c h) }
  seen {a = a} {w = w} n d r e (within_default {ss = ss} {stop = stop} k f h) = record { more = ss; is = refl; next = moved a w ss stop (sym e ∙ k) (defaults f h) }
  seen {a = a} {w = w} n d r e (behind {ss = ss} {ts = ts} {stop = stop} k g h) = record { more = ss ++ ts; is = refl; next = moved a w (ss ++ ts) stop (sym e ∙ k) (passes g h) }

  -- ---- two ways behind a reference
  module _ (a w x : List ℕ) {n d r : List ℕ} (f : following x ≡ refers n d r) (i : IsWithin a x) where
    circle_and : (p : ℕ) (v : List ℕ) {us : List (List ℕ)} {end : Option MacroError} → macro_of t n ≡ Some (p, v) → contains p a ≡ true → Next a w n d r us end → Agree [] (Some (fault.Circular n)) us end
    circle_and p v found c stays = inr (leads_all [] _)
    circle_and p v found c (circles g b) = same_way [] _
    circle_and p v found c (enters {p = q} {v = u} g b h) = absurd (shut_or_open p q a (found_place n p q v u found g) c b)
    circle_and p v found c (defaults g h) = absurd (found_or_not n p v found g)
    circle_and p v found c (passes {ss = ss} e h) = absurd (open_has_none a x f i p v ss found c e)

    value_and : (p : ℕ) (v : List ℕ) {ss us : List (List ℕ)} {stop end : Option MacroError} → macro_of t n ≡ Some (p, v) → contains p a ≡ false → Reaches t (p ∷ a) v v ss stop
        → ((us : List (List ℕ)) (end : Option MacroError) → Reaches t (p ∷ a) v v us end → Agree ss stop us end)
        → Next a w n d r us end → Agree ss stop us end
    value_and p v found c h rest stays = inr (leads_all _ _)
    value_and p v found c h rest (circles {p = q} {v = u} g b) = absurd (shut_or_open q p a (found_place n q p u v g found) b c)
    value_and p v found c h rest (enters {p = q} {v = u} {ss = us} {stop = end} g b k) =
        rest us end (subst (λ z. Reaches t (p ∷ a) z z us end) (found_value n q p u v g found) (subst (λ z. Reaches t (z ∷ a) u u us end) (found_place n q p u v g found) k))
    value_and p v found c h rest (defaults g k) = absurd (found_or_not n p v found g)
    value_and p v found c h rest (passes {stop = end} e k) = inl (leads_whole _ end (within_value a x f i p v found) (put_in_found t n d p v found) e h)

    default_and : {ss us : List (List ℕ)} {stop end : Option MacroError} → macro_of t n ≡ None → Reaches t a d d ss stop
        → ((us : List (List ℕ)) (end : Option MacroError) → Reaches t a d d us end → Agree ss stop us end)
        → Next a w n d r us end → Agree ss stop us end
    default_and none h rest stays = inr (leads_all _ _)
    default_and none h rest (circles {p = q} {v = u} g b) = absurd (found_or_not n q u g none)
    default_and none h rest (enters {p = q} {v = u} g b k) = absurd (found_or_not n q u g none)
    default_and none h rest (defaults {ss = us} {stop = end} g k) = rest us end k
    default_and none h rest (passes {stop = end} e k) = inl (leads_whole _ end (subst (IsWithin a) (put_in_default t n d none) (within_put a x f i)) (put_in_default t n d none) e h)

    past_and : {ss ts us : List (List ℕ)} {stop end : Option MacroError} → Expands t (put_in t n d) ss → Reaches t a w r ts stop
        → ((us : List (List ℕ)) (end : Option MacroError) → Reaches t a w r us end → Agree ts stop us end)
        → Next a w n d r us end → Agree (ss ++ ts) stop us end
    past_and e h rest stays = inr (leads_all _ _)
    past_and {ss = ss} e h rest (circles {p = q} {v = u} g b) = absurd (open_has_none a x f i q u ss g b e)
    past_and {stop = stop} e h rest (enters {p = q} {v = u} g b k) = inr (leads_whole _ stop (within_value a x f i q u g) (put_in_found t n d q u g) e k)
    past_and {stop = stop} e h rest (defaults g k) = inr (leads_whole _ stop (subst (IsWithin a) (put_in_default t n d g) (within_put a x f i)) (put_in_default t n d g) e k)
    past_and {ss = ss} {ts = ts} {stop = stop} e h rest (passes {ss = us} {ts = vs} {stop = end} g k) =
        subst (λ l. Agree (ss ++ ts) stop (l ++ vs) end) (pieces_are_one t (put_in t n d) ss us e g) (agree_after ss ts vs stop end (rest vs end k))

  -- ---- two ways through a text
  begins : {a w x : List ℕ} {us : List (List ℕ)} {end : Option MacroError} → Reaches t a w x us end → Leads (piece (stretch x)) None us end
  begins begun = record { more = []; is = sym (append_none _); ends = inl refl }
  begins (misread f) = record { more = []; is = sym (append_none _); ends = inl refl }
  begins (circle r f c) = record { more = []; is = sym (append_none _); ends = inl refl }
  begins (within {ss = ss} r f c h) = record { more = ss; is = refl; ends = inl refl }
  begins (within_default {ss = ss} r f h) = record { more = ss; is = refl; ends = inl refl }
  begins (behind {ss = ss} {ts = ts} r g h) = record { more = ss ++ ts; is = refl; ends = inl refl }

  after_seen : (a w x n d r : List ℕ) (ts us : List (List ℕ)) (stop end : Option MacroError) (s : Seen a w x n d r us end) → Agree ts stop s.more end → Agree (piece (stretch x) ++ ts) stop us end
  after_seen a w x n d r ts us stop end s h = subst (λ l. Agree (piece (stretch x) ++ ts) stop l end) (sym s.is) (agree_after (piece (stretch x)) ts s.more stop end h)

  misread_and : {a w x : List ℕ} {us : List (List ℕ)} {end : Option MacroError} → following x ≡ broken → Reaches t a w x us end → Agree (piece (stretch x)) (Some (fault.Bad (length w - length (past_stretch x)))) us end
  misread_and f begun = inr (record { more = []; is = sym (append_none _); ends = inl refl })
  misread_and f (misread g) = same_way _ _
  misread_and f (circle r g c) = absurd (clash_broken t f r)
  misread_and f (within r g c h) = absurd (clash_broken t f r)
  misread_and f (within_default r g h) = absurd (clash_broken t f r)
  misread_and f (behind r g h) = absurd (clash_broken t f r)

  agree : {a w x : List ℕ} {ts : List (List ℕ)} {stop : Option MacroError} → IsWithin a x → Reaches t a w x ts stop → (us : List (List ℕ)) (end : Option MacroError) → Reaches t a w x us end → Agree ts stop us end
  agree i begun us end k = inl (begins k)
  agree i (misread f) us end k = misread_and f k
  agree {a = a} {w = w} {x = x} i (circle {name = n} {default = d} {rest = r} {value = v} {p = p} f found c) us end k =
      let s = seen n d r f k in
      subst (λ l. Agree l (Some (fault.Circular n)) us end) (append_none (piece (stretch x))) (after_seen a w x n d r [] us _ end s (circle_and a w x f i p v found c s.next))
  agree {a = a} {w = w} {x = x} i (within {name = n} {default = d} {rest = r} {value = v} {p = p} {ss = ss} {stop = stop} f found c h) us end k =
      let s = seen n d r f k in
      after_seen a w x n d r ss us stop end s (value_and a w x f i p v found c h (agree (within_value a x f i p v found) h) s.next)
  agree {a = a} {w = w} {x = x} i (within_default {name = n} {default = d} {rest = r} {ss = ss} {stop = stop} f found h) us end k =
      let s = seen n d r f k in
      after_seen a w x n d r ss us stop end s (default_and a w x f i found h (agree (subst (IsWithin a) (put_in_default t n d found) (within_put a x f i)) h) s.next)
  agree {a = a} {w = w} {x = x} i (behind {name = n} {default = d} {rest = r} {ss = ss} {ts = ts} {stop = stop} f e h) us end k =
      let s = seen n d r f k in
      after_seen a w x n d r (ss ++ ts) us stop end s (past_and a w x f i e h (agree (within_rest a x f i) h) s.next)

  -- ---- two refusals of a text
  module _ (text : List ℕ) where
    from_start : {ts us : List (List ℕ)} {stop end : Option MacroError} → Reaches t [] text text ts stop → Reaches t [] text text us end → Agree ts stop us end
    from_start {us = us} {end = end} h k = agree (λ p c y us d is. absurd (true≢false (sym c))) h us end k

    none_above : (ss : List (List ℕ)) → total ss ≤ 65536 → first_above 0 ss ≡ None
    none_above ss fits = ap (first_above 0) (sym (append_none ss)) ∙ first_above-append 0 ss [] (omega (arith, fits))

    met_both : (e f : MacroError) → Meets t text e → Meets t text f → e ≡ f
    met_both e f g h = by (from_start g.reached h.reached)
      where
        by : Agree g.pieces (Some e) h.pieces (Some f) → e ≡ f
        by (inl l) = same_end e f l
        by (inr l) = sym (same_end f e l)

    met_or_passed : (e : MacroError) (n : ℕ) → Meets t text e → Passes t text n → ⊥
    met_or_passed e n g h = some_is_none n (sym (by (from_start g.reached h.reached)) ∙ none_above g.pieces g.fits)
      where
        by : Agree g.pieces (Some e) h.pieces h.stop → first_above 0 g.pieces ≡ Some n
        by (inl l) = ap (first_above 0) (sym (same_pieces e l)) ∙ h.above
        by (inr l) = ap (first_above 0) l.is ∙ first_above-more 0 n h.pieces l.more h.above

    passed_both : (m n : ℕ) → Passes t text m → Passes t text n → m ≡ n
    passed_both m n g h = by (from_start g.reached h.reached)
      where
        by : Agree g.pieces g.stop h.pieces h.stop → m ≡ n
        by (inl l) = some_is m n (sym (ap (first_above 0) l.is ∙ first_above-more 0 m g.pieces l.more g.above) ∙ h.above)
        by (inr l) = some_is m n (sym g.above ∙ (ap (first_above 0) l.is ∙ first_above-more 0 n h.pieces l.more h.above))

    data Cause : MacroError → Type 0 where
      met : {e : MacroError} → Meets t text e → Cause e
      passed : {n : ℕ} → Passes t text n → Cause (fault.TooLong n)

    cause : (e : MacroError) → IsRefused t text e → (e ≡ fault.Memory → ⊥) → Cause e
    cause (fault.Bad at) h other = met h
    cause (fault.Circular n) h other = met h
    cause (fault.TooLong n) h other = passed h
    cause fault.Memory h other = absurd (other refl)

    one_cause : {e f : MacroError} → Cause e → Cause f → e ≡ f
    one_cause {e = e} {f = f} (met g) (met h) = met_both e f g h
    one_cause {e = e} (met g) (passed {n = n} h) = absurd (met_or_passed e n g h)
    one_cause {f = f} (passed {n = n} g) (met h) = absurd (met_or_passed f n h g)
    one_cause (passed {n = m} g) (passed {n = n} h) = ap (λ k. fault.TooLong k) (passed_both m n g h)

pub one_refusal : (t : Macros) (text : List ℕ) (e f : MacroError) → IsRefused t text e → IsRefused t text f → (e ≡ fault.Memory → ⊥) → (f ≡ fault.Memory → ⊥) → e ≡ f
one_refusal t text e f g h i j = one_cause t text (cause t text e g i) (cause t text f h j)
