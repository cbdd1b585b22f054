-- The steps of lexing; how many are allowed doesn't matter.
use Rattle.std.proofs.Common.{◌≡◌, ℕ, zero, suc, ◌+◌, ◌-◌, ◌<◌, ◌≤◌, Bool, true, false, cond, List, [], ◌∷◌, ◌++◌, length, drop, get_or, refl, ap, sym, ◌∙◌, subst, arith, append_assoc}
use Rattle.std.proofs.lemmas.Bool.Decides.{nat_tests}
use Rattle.std.proofs.lemmas.List.{append-nil, length-drop}
use Rattle.std.specs.Str.{IsUtf8, IsCharBoundary}
use Rattle.std.proofs.lemmas.Str.{IsUtf8-drop}
use Rattle.ad_token.specs.declared.token.Token.{Token}
use Rattle.ad_token.specs.declared.token.Placed.{Placed}
use Rattle.ad_token.specs.Lexing.{is_blank, ends_the_tokens, token_at, token_and_rest, lex_from, tokens_from}
use Rattle.ad_token.proofs.Ends.{Ends, token_at_ends}

lex_end : (n at : ℕ) → lex_from n at [] ≡ []
unfolding lex_from
lex_end zero at = refl
lex_end (suc n) at = refl

-- of a text within both
abbrev Same : ℕ → ℕ → Type 0
Same n m = (k : ℕ) (cs : List ℕ) → length cs ≤ n → length cs ≤ m → lex_from n k cs ≡ lex_from m k cs

turns : (n m at : ℕ) (bs : List ℕ) → length bs ≤ n → length bs ≤ m → lex_from n at bs ≡ lex_from m at bs
unfolding lex_from
turns n m at [] p q = lex_end n at ∙ sym (lex_end m at)
turns zero m at (b ∷ bs) p q = absurd (omega arith)
turns (suc n) zero at (b ∷ bs) p q = absurd (omega arith)
turns (suc n) (suc m) at (b ∷ bs) p q = by (is_blank b) (λ k cs h g. turns n m k cs h g)
  where
    on : Same n m → (t : Token × ℕ) → (ends_the_tokens t.0 ≡ false → Ends (b ∷ bs) t.1) → (r : Bool) → ends_the_tokens t.0 ≡ r
        → cond r [] (lex_from n (at + t.1) (drop t.1 (b ∷ bs))) ≡ cond r [] (lex_from m (at + t.1) (drop t.1 (b ∷ bs)))
    on same t ends true e = refl
    on same t ends false e =
        let len : length (drop t.1 (b ∷ bs)) ≡ suc (length bs) - t.1 = length-drop t.1 (b ∷ bs) in
        let k = ends e in
        same (at + t.1) (drop t.1 (b ∷ bs)) (omega (arith, k.some)) (omega (arith, k.some))

    by : (w : Bool) → Same n m → cond w (lex_from n (at + 1) bs) (token_and_rest (lex_from n) at (b ∷ bs) (token_at (b ∷ bs))) ≡ cond w (lex_from m (at + 1) bs) (token_and_rest (lex_from m) at (b ∷ bs) (token_at (b ∷ bs)))
    by true same = same (at + 1) bs (omega arith) (omega arith)
    by false same =
        let t = token_at (b ∷ bs) in
        ap (λ l. (let p : Placed = record { at = at; token = t.0 } in p) ∷ l) (on same t (token_at_ends (b ∷ bs) (omega arith)) (ends_the_tokens t.0) refl)

pub tokens_end : (at : ℕ) (bs : List ℕ) → length bs ≡ 0 → tokens_from at bs ≡ []
tokens_end at [] h = lex_end 0 at
tokens_end at (b ∷ bs) h = absurd (omega arith)

pub tokens_blank : (at : ℕ) (bs : List ℕ) → 0 < length bs → is_blank (get_or bs 0 0) ≡ true → tokens_from at bs ≡ tokens_from (at + 1) (drop 1 bs)
unfolding lex_from
tokens_blank at [] some h = absurd (omega arith)
tokens_blank at (b ∷ bs) some h = ap (λ w. cond w (lex_from (length bs) (at + 1) bs) (token_and_rest (lex_from (length bs)) at (b ∷ bs) (token_at (b ∷ bs)))) h

pub tokens_token : (at : ℕ) (bs : List ℕ) → 0 < length bs → is_blank (get_or bs 0 0) ≡ false → tokens_from at bs ≡ token_and_rest tokens_from at bs (token_at bs)
unfolding lex_from
tokens_token at [] some h = absurd (omega arith)
tokens_token at (b ∷ bs) some h = ap (λ w. cond w (lex_from (length bs) (at + 1) bs) (token_and_rest (lex_from (length bs)) at (b ∷ bs) (token_at (b ∷ bs)))) h ∙ ap (λ l. (let p : Placed = record { at = at; token = (token_at (b ∷ bs)).0 } in p) ∷ l) (by (ends_the_tokens (token_at (b ∷ bs)).0) refl)
  where
    by : (r : Bool) → ends_the_tokens (token_at (b ∷ bs)).0 ≡ r
        → cond r [] (lex_from (length bs) (at + (token_at (b ∷ bs)).1) (drop (token_at (b ∷ bs)).1 (b ∷ bs))) ≡ cond r [] (tokens_from (at + (token_at (b ∷ bs)).1) (drop (token_at (b ∷ bs)).1 (b ∷ bs)))
    by true e = refl
    by false e =
        let len : length (drop (token_at (b ∷ bs)).1 (b ∷ bs)) ≡ suc (length bs) - (token_at (b ∷ bs)).1 = length-drop (token_at (b ∷ bs)).1 (b ∷ bs) in
        let k = token_at_ends (b ∷ bs) (omega arith) e in
        turns (length bs) _ (at + (token_at (b ∷ bs)).1) (drop (token_at (b ∷ bs)).1 (b ∷ bs)) (omega (arith, k.some)) (omega arith)

-- where the loop stands: the tokens so far with those of the rest are the whole
module _ (whole out : List Placed) (at : ℕ) (bs : List ℕ) (so_far : whole ≡ out ++ tokens_from at bs) (some : 0 < length bs) where
  pub blank_kept : (rest : List ℕ) → is_blank (get_or bs 0 0) ≡ true → rest ≡ drop 1 bs → whole ≡ out ++ tokens_from (at + 1) rest
  blank_kept rest blank e = so_far ∙ ap (λ l. out ++ l) (tokens_blank at bs some blank) ∙ ap (λ l. out ++ tokens_from (at + 1) l) (sym e)

  pub token_kept : (new : List Placed) (t : Token) (n : ℕ) (rest : List ℕ) → is_blank (get_or bs 0 0) ≡ false → (t, n) ≡ token_at bs → ends_the_tokens t ≡ false
      → new ≡ out ++ record { at = at; token = t } ∷ [] → rest ≡ drop n bs → whole ≡ new ++ tokens_from (at + n) rest
  token_kept new t n rest blank is ok e r =
      let p : Placed = record { at = at; token = t } in
      so_far ∙ ap (λ l. out ++ l) (tokens_token at bs some blank ∙ ap (λ u. token_and_rest tokens_from at bs u) (sym is) ∙ ap (λ b. p ∷ cond b [] (tokens_from (at + n) (drop n bs))) ok)
      ∙ sym (append_assoc out (p ∷ []) (tokens_from (at + n) (drop n bs)))
      ∙ (λ i. sym e i ++ tokens_from (at + n) (sym r i))

  pub token_last : (new : List Placed) (t : Token) (n : ℕ) → is_blank (get_or bs 0 0) ≡ false → (t, n) ≡ token_at bs → ends_the_tokens t ≡ true
      → new ≡ out ++ record { at = at; token = t } ∷ [] → new ≡ whole
  token_last new t n blank is ok e =
      let p : Placed = record { at = at; token = t } in
      e ∙ sym (so_far ∙ ap (λ l. out ++ l) (tokens_token at bs some blank ∙ ap (λ u. token_and_rest tokens_from at bs u) (sym is) ∙ ap (λ b. p ∷ cond b [] (tokens_from (at + n) (drop n bs))) ok))

pub token_ends : (bs : List ℕ) (t : Token) (n : ℕ) → 0 < length bs → (t, n) ≡ token_at bs → ends_the_tokens t ≡ false → Ends bs n
token_ends bs t n some is ok = subst (λ u. Ends bs u.1) (sym is) (token_at_ends bs some (ap (λ u. ends_the_tokens u.0) (sym is) ∙ ok))

pub blank_ascii : (b : ℕ) → is_blank b ≡ true → b < 128
blank_ascii b h = grind (arith, nat_tests)

pub tokens_ended : (whole out : List Placed) (at : ℕ) (bs : List ℕ) → whole ≡ out ++ tokens_from at bs → length bs ≡ 0 → out ≡ whole
tokens_ended whole out at bs so_far h = sym (so_far ∙ ap (λ l. out ++ l) (tokens_end at bs h) ∙ append-nil out)

pub rest_utf8 : (bs rest : List ℕ) (n : ℕ) → IsUtf8 bs → IsCharBoundary bs n → rest ≡ drop n bs → IsUtf8 rest
rest_utf8 bs rest n utf8 cut e = subst (λ l. IsUtf8 l) (sym e) (IsUtf8-drop bs n utf8 cut)
