-- The steps of an expansion, and what they leave true.
use Rattle.std.proofs.Common.{◌≡◌, ℕ, zero, suc, ◌+◌, ◌-◌, ◌<◌, ◌≤◌, ◌==◌, ◌||◌, Bool, true, false, List, [], ◌∷◌, ◌++◌, length, take, drop, slice_get, slice_set, replicate, length-append, Option, Some, None, refl, ap, sym, ◌∙◌, subst, append_assoc, arith}
use Rattle.std.proofs.lemmas.List.{length-replicate}
use Rattle.std.specs.Prelude.{unwrap_or}
use Rattle.std.proofs.lemmas.Bool.{eqb-true, eq-eqb}
use Rattle.std.specs.Option.{option_map}
use Rattle.std.proofs.lemmas.List.{take-append-le, drop-append-le, length-drop, take_all, drop_all, take-append-drop}
use Rattle.line_text.specs.declared.error.MacroError.{MacroError}
use Rattle.line_text.specs.declared.error.MacroError.TheVariants as fault
use Rattle.line_text.specs.declared.expansion.Progress.{Progress}
use Rattle.line_text.specs.declared.expansion.Progress.TheVariants.{Untouched, Open, Done}
use Rattle.line_text.specs.Macros.{Macros, value_at}
use Rattle.line_text.specs.References.{stretch_length, stretch, past_stretch, reference_at, following, ended, broken, refers}
use Rattle.line_text.specs.Expansion.{piece, joined, total, macro_of, put_in, contains, Expands, plain, replaced, Reaches, begun, misread, circle, within, within_default, behind, IsExpansion, IsRefused}
use Rattle.line_text.specs.Above.{between, IsAbove, OneIsAbove}
use Rattle.line_text.specs.UnderWay.{Frame, begun_frame, places_around, with_place, IsTop, Waits, AreBelow, AreSuspended, IsValueOf, AreApart, is_open, IsDone, IsUnderWay}
use Rattle.line_text.proofs.Pieces.{append_none, length-joined, total-append, above_by_piece, above_by_pieces, between-append}
use Rattle.line_text.proofs.Stretches.{expand_stretch, reach_stretch}
use Rattle.line_text.proofs.Progresses.{set_same, set_other, length-set, open_within, marks_opened, marks_closed}

-- ---- pieces that are added
pub front_and : (from : ℕ) (w p ts : List (List ℕ)) → from ≤ length w → drop from w ++ (p ++ ts) ≡ drop from (w ++ p) ++ ts
front_and from w p ts le = sym (append_assoc (drop from w) p ts) ∙ ap (λ l. l ++ ts) (sym (drop-append-le from w p le))

grown : (w p : List (List ℕ)) (from : ℕ) → from ≤ length w → from ≤ length (w ++ p)
grown w p from le = omega (arith, length-append w p)

module _ (t : Macros) where
  done_grown : {w : List (List ℕ)} (p : List (List ℕ)) {q from to : ℕ} → IsDone t q from to w → IsDone t q from to (w ++ p)
  done_grown {w = w} p {q = q} {from = from} {to = to} d = record {
    ordered = d.ordered;
    within = grown w p to d.within;
    gives = subst (Expands t (value_at t q)) (sym (between-append from to w p d.ordered d.within)) d.gives;
  }

module _ (t : Macros) (text : List ℕ) where
  below_grown : (fs : List Frame) (other : List ℕ) (from : ℕ) (w p : List (List ℕ)) → from ≤ length w → AreBelow t text fs other (take from w) → AreBelow t text fs other (take from (w ++ p))
  below_grown fs other from w p le h = subst (AreBelow t text fs other) (sym (take-append-le from w p le)) h

  -- ---- the text up to the next reference
  module _ (progress : List Progress) (f : Frame) (fs : List Frame) (w : List (List ℕ)) (u : IsUnderWay t text progress (f ∷ fs) w) where
    top : IsTop t text (places_around (f ∷ fs)) f w
    top = u.texts.0

    pub past_text : (rest : List ℕ) → rest ≡ past_stretch f.rest → IsUnderWay t text progress ((record f { rest = rest }) ∷ fs) (w ++ piece (stretch f.rest))
    past_text rest is = record {
      texts = (
        record {
          gives = λ ts h. subst (Expands t f.whole) (front_and f.from w p ts top.from_within) (top.gives (p ++ ts) (expand_stretch t f.rest rest is h));
          stops = λ ts stop h. subst (λ l. Reaches t [] text text l stop) (sym (append_assoc w p ts)) (top.stops (p ++ ts) stop (reach_stretch t f.rest rest is h));
          from_within = grown w p f.from top.from_within;
        },
        below_grown fs f.whole f.from w p top.from_within u.texts.1,
      );
      values = u.values;
      done = λ q from to e. done_grown t p (u.done q from to e);
      marks = u.marks;
      apart = u.apart;
      known = u.known;
    }
      where
        p : List (List ℕ)
        p = piece (stretch f.rest)

    pub refused_above : (e : MacroError) → total w ≤ 65536 → IsAbove (total w + length (stretch f.rest)) e → IsRefused t text e
    refused_above (fault.Bad n) fits above = absurd above
    refused_above (fault.Circular n) fits above = absurd above
    refused_above fault.Memory fits above = tt
    refused_above (fault.TooLong n) fits above = record {
      pieces = w ++ piece (stretch f.rest);
      stop = None;
      reached = top.stops (piece (stretch f.rest)) None begun;
      above = above_by_piece w (stretch f.rest) n fits above.0 above.1;
    }

    -- ---- a text that begins with a reference, or is at its end
    module _ (stop : stretch_length f.rest ≡ 0) where
      follows : following f.rest ≡ reference_at f.rest
      follows = ap (λ n. reference_at (drop n f.rest)) stop

      no_piece : piece (stretch f.rest) ≡ []
      no_piece = ap (λ n. piece (take n f.rest)) stop

      fits_so : total w ≤ 65536 → total (w ++ piece (stretch f.rest)) ≤ 65536
      fits_so fits = subst (λ p. total (w ++ p) ≤ 65536) (sym no_piece) (omega (arith, total-append w []))

      pub refused_bad : (at : ℕ) → total w ≤ 65536 → reference_at f.rest ≡ broken → at ≡ length f.whole - length f.rest → IsRefused t text (fault.Bad at)
      refused_bad at fits bad is = record {
        pieces = w ++ piece (stretch f.rest);
        reached = subst (λ n. Reaches t [] text text (w ++ piece (stretch f.rest)) (Some (fault.Bad n))) (ap (λ n. length f.whole - length (drop n f.rest)) stop ∙ sym is) (top.stops (piece (stretch f.rest)) _ (misread (follows ∙ bad)));
        fits = fits_so fits;
      }

      -- the value of a text that has ended
      whole_given : reference_at f.rest ≡ ended → Expands t f.whole (drop f.from w)
      whole_given e = subst (Expands t f.whole) (ap (λ p. drop f.from w ++ p) no_piece ∙ append_none (drop f.from w)) (top.gives (piece (stretch f.rest)) (plain (follows ∙ e)))

      -- the text ends
      texts_closed : reference_at f.rest ≡ ended → AreSuspended t text fs w
      texts_closed e = by fs u.texts.1
        where
          parts : take f.from w ++ drop f.from w ≡ w
          parts = take-append-drop f.from w

          by : (gs : List Frame) → AreBelow t text gs f.whole (take f.from w) → AreSuspended t text gs w
          by [] h = subst (λ x. Expands t x w) h.0 (subst (Expands t f.whole) (ap (λ l. l ++ drop f.from w) (sym h.1) ∙ parts) (whole_given e))
          by (g ∷ gs) h = (
            record {
              gives = λ ts ht. subst (Expands t g.whole) (front_and g.from (take f.from w) (drop f.from w) ts h.0.from_within ∙ ap (λ l. drop g.from l ++ ts) parts) (h.0.gives (drop f.from w) ts (whole_given e) ht);
              stops = λ ts end ht. subst (λ l. Reaches t [] text text l end) (sym (append_assoc (take f.from w) (drop f.from w) ts) ∙ ap (λ l. l ++ ts) parts) (h.0.stops (drop f.from w) ts end (whole_given e) ht);
              from_within = omega (arith, h.0.from_within, length-append (take f.from w) (drop f.from w), ap length parts);
            },
            subst (AreBelow t text gs g.whole) (sym (take-append-le g.from (take f.from w) (drop f.from w) h.0.from_within) ∙ ap (take g.from) parts) h.1,
          )

      pub closed_plain : f.place ≡ None → reference_at f.rest ≡ ended → IsUnderWay t text progress fs w
      closed_plain none e = record {
        texts = texts_closed e;
        values = u.values.1;
        done = u.done;
        marks = λ q. u.marks q ∙ ap (λ o. contains q (with_place o (places_around fs))) none;
        apart = subst (λ o. AreApart (with_place o (places_around fs))) none u.apart;
        known = u.known;
      }

      module _ (p : ℕ) (some : f.place ≡ Some p) where
        marks_with : (q : ℕ) → is_open (slice_get progress q) ≡ contains q (p ∷ places_around fs)
        marks_with q = u.marks q ∙ ap (λ o. contains q (with_place o (places_around fs))) some

        pub place_within : p < length progress
        place_within = open_within progress p (marks_with p ∙ ap (λ b. b || contains p (places_around fs)) (eq-eqb p p refl))

        is_value : f.whole ≡ value_at t p
        is_value = subst (λ o. IsValueOf t o f.whole) some u.values.0

        pub closed_value : reference_at f.rest ≡ ended → IsUnderWay t text (slice_set progress p (Done f.from (length w))) fs w
        closed_value e = record {
          texts = texts_closed e;
          values = u.values.1;
          done = λ q from to at. by q from to at (q == p) refl;
          marks = marks_closed progress p (places_around fs) place_within (Done f.from (length w)) refl apart.0 marks_with;
          apart = apart.1;
          known = length-set progress p (Done f.from (length w)) ∙ u.known;
        }
          where
            apart : AreApart (p ∷ places_around fs)
            apart = subst (λ o. AreApart (with_place o (places_around fs))) some u.apart

            here : IsDone t p f.from (length w) w
            here = record {
              ordered = top.from_within;
              within = omega arith;
              gives = subst (λ l. Expands t (value_at t p) l) (sym (take_all (length w - f.from) (drop f.from w) (omega (arith, length-drop f.from w)))) (subst (λ v. Expands t v (drop f.from w)) is_value (whole_given e));
            }

            by : (q from to : ℕ) → slice_get (slice_set progress p (Done f.from (length w))) q ≡ Some (Done from to) → (b : Bool) → (q == p) ≡ b → IsDone t q from to w
            by q from to at true same =
                let is : q ≡ p = eqb-true q p same in
                let both : Some (Done f.from (length w)) ≡ Some (Done from to) = sym (set_same progress p (Done f.from (length w)) place_within) ∙ subst (λ k. slice_get (slice_set progress p (Done f.from (length w))) k ≡ Some (Done from to)) is at in
                let left : f.from ≡ from = first both in
                let right : length w ≡ to = second both in
                subst (λ k. IsDone t k from to w) (sym is) (subst (λ a. IsDone t p a to w) left (subst (λ b. IsDone t p f.from b w) right here))
              where
                first : Some (Done f.from (length w)) ≡ Some (Done from to) → f.from ≡ from
                first h = cc

                second : Some (Done f.from (length w)) ≡ Some (Done from to) → length w ≡ to
                second h = cc
            by q from to at false other = u.done q from to (sym (set_other progress p q (Done f.from (length w)) other) ∙ at)

      module _ (name default rest : List ℕ) (r : reference_at f.rest ≡ refers name default rest) where
        abbrev pub waiting : Frame
        waiting = record f { rest = rest }

        pub refused_circular : (p : ℕ) (value : List ℕ) → total w ≤ 65536 → macro_of t name ≡ Some (p, value) → slice_get progress p ≡ Some Open → IsRefused t text (fault.Circular name)
        refused_circular p value fits found at = record {
          pieces = w ++ piece (stretch f.rest);
          reached = top.stops (piece (stretch f.rest)) _ (circle (follows ∙ r) found (sym (u.marks p) ∙ ap is_open at));
          fits = fits_so fits;
        }

        -- another text is begun, for which this one waits
        waits_for : (other : List ℕ) → put_in t name default ≡ other → Waits t text other (places_around (waiting ∷ fs)) waiting w
        waits_for other is = record {
          gives = λ us ts hu ht. subst (λ p. Expands t f.whole (drop f.from w ++ (p ++ (us ++ ts)))) no_piece (top.gives _ (replaced (follows ∙ r) (subst (λ o. Expands t o us) (sym is) hu) ht));
          stops = λ us ts end hu ht. subst (λ p. Reaches t [] text text (w ++ (p ++ (us ++ ts))) end) no_piece (top.stops _ end (behind (follows ∙ r) (subst (λ o. Expands t o us) (sym is) hu) ht));
          from_within = top.from_within;
        }

        all_written : take (length w) w ≡ w
        all_written = take_all (length w) w (omega arith)

        none_written : (other : List ℕ) (ts : List (List ℕ)) → Expands t other ts → Expands t other (drop (length w) w ++ ts)
        none_written other ts h = subst (λ l. Expands t other (l ++ ts)) (sym (drop_all (length w) w (omega arith))) h

        texts_begun : (other : List ℕ) (place : Option ℕ) → put_in t name default ≡ other
            → ((ts : List (List ℕ)) (end : Option MacroError) → Reaches t (with_place place (places_around (f ∷ fs))) other other ts end → Reaches t (places_around (f ∷ fs)) f.whole f.rest (piece (stretch f.rest) ++ ts) end)
            → AreSuspended t text (begun_frame other place (length w) ∷ waiting ∷ fs) w
        texts_begun other place is enters = (
          record {
            gives = none_written other;
            stops = λ ts end h. subst (λ p. Reaches t [] text text (w ++ (p ++ ts)) end) no_piece (top.stops (piece (stretch f.rest) ++ ts) end (enters ts end h));
            from_within = omega arith;
          },
          subst (AreBelow t text (waiting ∷ fs) other) (sym all_written) (waits_for other is, u.texts.1),
        )

        pub begun_default : macro_of t name ≡ None → IsUnderWay t text progress (begun_frame default None (length w) ∷ waiting ∷ fs) w
        begun_default found = record {
          texts = texts_begun default None (ap (λ o. unwrap_or (option_map (λ m. m.1) o) default) found) (λ ts end h. within_default (follows ∙ r) found h);
          values = (tt, u.values);
          done = u.done;
          marks = u.marks;
          apart = u.apart;
          known = u.known;
        }

        module _ (p : ℕ) (value : List ℕ) (found : macro_of t name ≡ Some (p, value)) (is_value : value ≡ value_at t p) where
          stands_for : put_in t name default ≡ value
          stands_for = ap (λ o. unwrap_or (option_map (λ m. m.1) o) default) found

          pub begun_value : slice_get progress p ≡ Some Untouched → p < length progress → IsUnderWay t text (slice_set progress p Open) (begun_frame value (Some p) (length w) ∷ waiting ∷ fs) w
          begun_value at less = record {
            texts = texts_begun value (Some p) stands_for (λ ts end h. within (follows ∙ r) found shut h);
            values = (is_value, u.values);
            done = λ q from to e. u.done q from to (kept q from to e);
            marks = marks_opened progress p (places_around (f ∷ fs)) less u.marks;
            apart = (shut, u.apart);
            known = length-set progress p Open ∙ u.known;
          }
            where
              shut : contains p (places_around (f ∷ fs)) ≡ false
              shut = sym (u.marks p) ∙ ap is_open at

              kept : (q from to : ℕ) → slice_get (slice_set progress p Open) q ≡ Some (Done from to) → slice_get progress q ≡ Some (Done from to)
              kept q from to e = by (q == p) refl
                where
                  by : (b : Bool) → (q == p) ≡ b → slice_get progress q ≡ Some (Done from to)
                  by true same = absurd (clash (sym (subst (λ k. slice_get (slice_set progress p Open) k ≡ Some Open) (sym (eqb-true q p same)) (set_same progress p Open less)) ∙ e))
                    where
                      clash : Some Open ≡ Some (Done from to) → ⊥
                      clash h = cc
                  by false other = sym (set_other progress p q Open other) ∙ e

          module _ (from to : ℕ) (at : slice_get progress p ≡ Some (Done from to)) where
            abbrev pub again : List (List ℕ)
            again = between from to w

            known_value : Expands t value again
            known_value = subst (λ v. Expands t v again) (sym is_value) (u.done p from to at).gives

            pub written_again : IsUnderWay t text progress (waiting ∷ fs) (w ++ again)
            written_again = record {
              texts = (
                record {
                  gives = λ ts h. subst (Expands t f.whole) (front_and f.from w again ts top.from_within) ((waits_for value stands_for).gives again ts known_value h);
                  stops = λ ts end h. subst (λ l. Reaches t [] text text l end) (sym (append_assoc w again ts)) ((waits_for value stands_for).stops again ts end known_value h);
                  from_within = grown w again f.from top.from_within;
                },
                below_grown fs f.whole f.from w again top.from_within u.texts.1,
              );
              values = u.values;
              done = λ q from' to' e. done_grown t again (u.done q from' to' e);
              marks = u.marks;
              apart = u.apart;
              known = u.known;
            }

            pub refused_again : (e : MacroError) → total w ≤ 65536 → OneIsAbove (total w) again e → IsRefused t text e
            refused_again (fault.Bad n) fits above = absurd above
            refused_again (fault.Circular n) fits above = absurd above
            refused_again fault.Memory fits above = tt
            refused_again (fault.TooLong n) fits above = record {
              pieces = w ++ (again ++ piece (stretch rest));
              stop = None;
              reached = (waits_for value stands_for).stops again (piece (stretch rest)) None known_value begun;
              above = above_by_pieces w again (piece (stretch rest)) n fits above;
            }

-- ---- the beginning and the end
untouched : (n p : ℕ) → is_open (slice_get (replicate n Untouched) p) ≡ false
untouched zero p = refl
untouched (suc n) zero = refl
untouched (suc n) (suc p) = untouched n p

none_done : (n p from to : ℕ) → slice_get (replicate n Untouched) p ≡ Some (Done from to) → ⊥
none_done zero p from to h = clash h
  where
    clash : None ≡ Some (Done from to) → ⊥
    clash h = cc
none_done (suc n) zero from to h = clash h
  where
    clash : Some Untouched ≡ Some (Done from to) → ⊥
    clash h = cc
none_done (suc n) (suc p) from to h = none_done n p from to h

pub first_under_way : (t : Macros) (text : List ℕ) (progress : List Progress) (w : List (List ℕ)) → progress ≡ replicate (length t) Untouched → w ≡ [] → IsUnderWay t text progress (begun_frame text None 0 ∷ []) w
first_under_way t text progress w is nothing = subst (λ v. IsUnderWay t text progress (begun_frame text None 0 ∷ []) v) (sym nothing) (subst (λ ps. IsUnderWay t text ps (begun_frame text None 0 ∷ []) []) (sym is) record {
  texts = (record { gives = λ ts h. h; stops = λ ts end h. h; from_within = omega arith }, (refl, refl));
  values = (tt, tt);
  done = λ q from to e. absurd (none_done (length t) q from to e);
  marks = untouched (length t);
  apart = tt;
  known = length-replicate (length t) Untouched;
})

pub expanded : (t : Macros) (text result : List ℕ) (progress : List Progress) (fs : List Frame) (w : List (List ℕ)) → IsUnderWay t text progress fs w → fs ≡ [] → result ≡ joined w → total w ≤ 65536 → IsExpansion t text result
expanded t text result progress fs w u none is fits = record {
  pieces = w;
  written = subst (λ l. AreSuspended t text l w) none u.texts;
  is = is;
  fits = omega (arith, ap length is, length-joined w);
}

pub same_state : {t s : Macros} {text given : List ℕ} {ps qs : List Progress} {fs gs : List Frame} {v w : List (List ℕ)} → s ≡ t → given ≡ text → qs ≡ ps → gs ≡ fs → w ≡ v → IsUnderWay t text ps fs v → IsUnderWay s given qs gs w
same_state {t = t} {s = s} {text = text} {given = given} {ps = ps} {qs = qs} {fs = fs} {gs = gs} {v = v} {w = w} a b c d e u =
    subst (λ x. IsUnderWay x given qs gs w) (sym a)
    (subst (λ x. IsUnderWay t x qs gs w) (sym b)
    (subst (λ x. IsUnderWay t text x gs w) (sym c)
    (subst (λ x. IsUnderWay t text ps x w) (sym d)
    (subst (λ x. IsUnderWay t text ps fs x) (sym e) u))))
