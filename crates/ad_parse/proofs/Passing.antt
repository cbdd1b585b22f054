-- Runs of bytes that pass a test, at the start and at the end of a text.
use Rattle.std.proofs.Common.{◌≡◌, ℕ, suc, ◌+◌, ◌-◌, ◌<◌, ◌≤◌, Bool, true, false, List, [], ◌∷◌, ◌++◌, length, take, drop, get_or, reverse, refl, ap, sym, ◌∙◌, subst, arith}
use Rattle.std.specs.List.{AllPass, prefix_len, suffix_len}
use Rattle.std.proofs.Math.Seq.{drop-append_seam, take-append_seam, drop-length}
use Rattle.std.proofs.lemmas.List.{length-append, length-drop, length-take-le, length-reverse, get_or-take, get_or-drop, get_or-reverse, get_or_append_left, get_or-append_right}
use Rattle.std.proofs.lemmas.List.Elements.{All-cons}
use Rattle.std.proofs.lemmas.List.Folds.{length-prefix_len}
use Rattle.std.proofs.lemmas.List.Sums.{prefix_len_is, prefix_len_passes, prefix_len_stops, suffix_len_is, suffix_len-le-length}

module _ (p : ℕ → Bool) where
  -- ---- of a text that is put together

  pub run_length : (xs ys : List ℕ) → AllPass p xs → (0 < length ys → p (get_or ys 0 0) ≡ false) → prefix_len p (xs ++ ys) ≡ length xs
  run_length xs ys all stops =
      let long : length (xs ++ ys) ≡ length xs + length ys = length-append xs ys in
      let there : get_or (xs ++ ys) (length xs) 0 ≡ get_or ys (length xs - length xs) 0 = get_or-append_right xs ys (length xs) (length xs) 0 refl (omega arith) in
      let none : length xs - length xs ≡ 0 = omega arith in
      prefix_len_is p (xs ++ ys) (length xs) 0 (omega arith)
      (λ k less. subst (λ b. p b ≡ true) (sym (get_or_append_left xs ys 0 k less)) (all k 0 less))
      (λ less. subst (λ b. p b ≡ false) (sym (there ∙ ap (λ n. get_or ys n 0) none)) (stops (omega arith)))

  pub past_run : (xs ys : List ℕ) → AllPass p xs → (0 < length ys → p (get_or ys 0 0) ≡ false) → drop (prefix_len p (xs ++ ys)) (xs ++ ys) ≡ ys
  past_run xs ys all stops = ap (λ n. drop n (xs ++ ys)) (run_length xs ys all stops) ∙ drop-append_seam xs ys

  run_at_end : (xs ys : List ℕ) → AllPass p ys → (0 < length xs → p (get_or xs (length xs - 1) 0) ≡ false) → suffix_len p (xs ++ ys) ≡ length (xs ++ ys) - length xs
  run_at_end xs ys all stops =
      let long : length (xs ++ ys) ≡ length xs + length ys = length-append xs ys in
      suffix_len_is p (xs ++ ys) (length xs) 0 (omega arith)
      (λ k more less. subst (λ b. p b ≡ true) (sym (get_or-append_right xs ys (length xs) k 0 refl more)) (all (k - length xs) 0 (omega arith)))
      (λ some. subst (λ b. p b ≡ false) (sym (get_or_append_left xs ys 0 (length xs - 1) (omega arith))) (stops some))

  pub before_run : (xs ys : List ℕ) → AllPass p ys → (0 < length xs → p (get_or xs (length xs - 1) 0) ≡ false) → take (length (xs ++ ys) - suffix_len p (xs ++ ys)) (xs ++ ys) ≡ xs
  before_run xs ys all stops =
      let long : length (xs ++ ys) ≡ length xs + length ys = length-append xs ys in
      let e : length (xs ++ ys) - suffix_len p (xs ++ ys) ≡ length xs = omega (arith, run_at_end xs ys all stops) in
      ap (λ n. take n (xs ++ ys)) e ∙ take-append_seam xs ys

  pub all_append : (xs ys : List ℕ) → AllPass p xs → AllPass p ys → AllPass p (xs ++ ys)
  all_append [] ys f g = g
  all_append (x ∷ xs) ys f g = All-cons (λ b. p b ≡ true) x (xs ++ ys) (f 0 0 (omega arith)) (all_append xs ys (λ k d less. f (suc k) d (omega arith)) g)

  pub whole_run : (xs : List ℕ) → AllPass p xs → prefix_len p xs ≡ length xs
  whole_run xs all = prefix_len_is p xs (length xs) 0 (omega arith) (λ k less. all k 0 less) (λ less. absurd (omega arith))

  pub past_whole : (xs : List ℕ) → AllPass p xs → drop (prefix_len p xs) xs ≡ []
  past_whole xs all = ap (λ n. drop n xs) (whole_run xs all) ∙ drop-length xs

  -- ---- of any text

  pub start_passes : (xs : List ℕ) → AllPass p (take (prefix_len p xs) xs)
  start_passes xs k d less =
      let short : k < prefix_len p xs = omega (arith, length-prefix_len p xs) in
      subst (λ b. p b ≡ true) (sym (get_or-take (prefix_len p xs) xs k d short)) (prefix_len_passes p xs k d short)

  pub start_stops : (xs : List ℕ) → 0 < length (drop (prefix_len p xs) xs) → p (get_or (drop (prefix_len p xs) xs) 0 0) ≡ false
  start_stops xs some =
      let less : prefix_len p xs < length xs = omega (arith, length-drop (prefix_len p xs) xs) in
      let at : prefix_len p xs + 0 ≡ prefix_len p xs = omega arith in
      subst (λ b. p b ≡ false) (sym (get_or-drop (prefix_len p xs) xs 0 0 ∙ ap (λ n. get_or xs n 0) at)) (prefix_len_stops p xs 0 less)

  pub end_passes : (xs : List ℕ) → AllPass p (drop (length xs - suffix_len p xs) xs)
  end_passes xs k d less =
      let m = length xs - suffix_len p xs in
      let within : suffix_len p xs ≤ length xs = suffix_len-le-length p xs in
      let long : length (drop m xs) ≡ length xs - m = length-drop m xs in
      let j = length xs - 1 - (m + k) in
      let there : length xs - 1 - j ≡ m + k = omega arith in
      let pass : p (get_or (reverse xs) j d) ≡ true = prefix_len_passes p (reverse xs) j d (omega arith) in
      subst (λ b. p b ≡ true) (get_or-reverse xs j d (omega arith) ∙ ap (λ n. get_or xs n d) there ∙ sym (get_or-drop m xs k d)) pass

  pub end_stops : (xs : List ℕ) → 0 < length (take (length xs - suffix_len p xs) xs)
      → p (get_or (take (length xs - suffix_len p xs) xs) (length (take (length xs - suffix_len p xs) xs) - 1) 0) ≡ false
  end_stops xs some =
      let m = length xs - suffix_len p xs in
      let within : suffix_len p xs ≤ length xs = suffix_len-le-length p xs in
      let long : length (take m xs) ≡ m = length-take-le m xs (omega arith) in
      let there : length xs - 1 - suffix_len p xs ≡ m - 1 = omega arith in
      let last : length (take m xs) - 1 ≡ m - 1 = omega arith in
      let stop : p (get_or (reverse xs) (suffix_len p xs) 0) ≡ false = prefix_len_stops p (reverse xs) 0 (omega (arith, length-reverse xs)) in
      subst (λ b. p b ≡ false) (get_or-reverse xs (suffix_len p xs) 0 (omega arith) ∙ ap (λ n. get_or xs n 0) there ∙ sym (get_or-take m xs (m - 1) 0 (omega arith)) ∙ ap (λ n. get_or (take m xs) n 0) (sym last)) stop
