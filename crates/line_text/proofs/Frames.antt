-- Texts that are suspended, and how much is left of them.
use Rattle.std.proofs.Common.{◌≡◌, ℕ, ◌+◌, ◌≤◌, ◌==◌, Bool, true, false, cond, ltb, List, [], ◌∷◌, ◌++◌, length, get_or, take, drop, map, reverse, ap, ◌∙◌, arith, length-append}
use Rattle.std.specs.List.{prefix_len}
use Rattle.std.proofs.lemmas.List.{reverse-append, map-append, take-append-drop, length-drop}
use Rattle.line_text.specs.declared.expansion.Suspended.{Suspended}
use Rattle.line_text.specs.References.{ended, broken, refers, reference_at, after_open, after_name, after_name_at, with_default, before_close, is_name_byte}
use Rattle.line_text.specs.UnderWay.{frame_of, frames}

pub frames-push : (ss : List Suspended) (s : Suspended) → frames (ss ++ s ∷ []) ≡ frame_of s ∷ frames ss
frames-push ss s = ap reverse (map-append frame_of ss (s ∷ [])) ∙ reverse-append (map frame_of ss) (frame_of s ∷ [])

-- ---- a reference is longer than what it leaves
module _ (n d r : List ℕ) where
  clash : broken ≡ refers n d r → ⊥
  clash h = cc

  parts : (m e s : List ℕ) → refers m e s ≡ refers n d r → (e ≡ d) × (s ≡ r)
  parts m e s h = (left, right)
    where
      left : e ≡ d
      left = cc

      right : s ≡ r
      right = cc

  default_shorter : (name after : List ℕ) → with_default name after ≡ refers n d r → length d + length r ≤ length after
  default_shorter name after h = by (ltb (before_close after) (length after)) h
    where
      by : (b : Bool) → cond b (refers name (take (before_close after) after) (drop (1 + before_close after) after)) broken ≡ refers n d r → length d + length r ≤ length after
      by true h =
          let p = parts _ _ _ h in
          omega (arith, ap length p.0, ap length p.1, ap length (take-append-drop (before_close after) after), length-append (take (before_close after) after) (drop (before_close after) after), length-drop (before_close after) after, length-drop (1 + before_close after) after)
      by false h = absurd (clash h)

  name_shorter : (name after : List ℕ) → after_name name after ≡ refers n d r → length d + length r ≤ length after
  name_shorter name after h = by (get_or after 0 0 == 41) (get_or after 0 0 == 58) h
    where
      by : (a b : Bool) → cond a (refers name [] (drop 1 after)) (cond b (with_default name (drop 1 after)) broken) ≡ refers n d r → length d + length r ≤ length after
      by true b h =
          let p = parts _ _ _ h in
          omega (arith, ap length p.0, ap length p.1, length-drop 1 after)
      by false true h = omega (arith, default_shorter name (drop 1 after) h, length-drop 1 after)
      by false false h = absurd (clash h)

  open_shorter : (k : ℕ) (bs : List ℕ) → after_name_at k bs ≡ refers n d r → length d + length r ≤ length bs
  open_shorter k bs h = by (k == 0) h
    where
      by : (b : Bool) → cond b broken (after_name (take k bs) (drop k bs)) ≡ refers n d r → length d + length r ≤ length bs
      by true h = absurd (clash h)
      by false h = omega (arith, name_shorter (take k bs) (drop k bs) h, length-drop k bs)

  pub refers_shorter : (text : List ℕ) → reference_at text ≡ refers n d r → (length d + length r) + 2 ≤ length text
  unfolding reference_at
  refers_shorter [] h = absurd (no_end h)
    where
      no_end : ended ≡ refers n d r → ⊥
      no_end h = cc
  refers_shorter (b ∷ []) h = absurd (clash h)
  refers_shorter (b ∷ c ∷ cs) h = by (c == 40) h
    where
      by : (o : Bool) → cond o (after_open cs) broken ≡ refers n d r → (length d + length r) + 2 ≤ length (b ∷ c ∷ cs)
      by true h = omega (arith, open_shorter (prefix_len is_name_byte cs) cs h)
      by false h = absurd (clash h)
