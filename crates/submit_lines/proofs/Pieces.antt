-- What stands first in a text of arguments or of items, and the rest.
use Rattle.std.proofs.Common.{◌≡◌, ◌≢◌, ℕ, suc, ◌+◌, ◌-◌, ◌<◌, ◌≤◌, ◌==◌, not, nat_eq, Bool, true, false, cond, ltb, List, [], ◌∷◌, ◌++◌, length, get_or, take, drop, slice_range, filter, option_map, Option, Some, None, refl, ap, sym, ◌∙◌, subst, arith}
use Rattle.std.specs.List.{position_or_len, slice_split}
use Rattle.std.proofs.lemmas.Bool.{ltb-true, ltb-false, ne_eqb}
use Rattle.std.proofs.lemmas.List.Sums.{fails_before_first}
use Rattle.std.proofs.lemmas.List.Elements.{All-from_get_or}
use Rattle.std.proofs.lemmas.List.{take_all, drop_all, append-nil}
use Rattle.std.proofs.lemmas.List.Splits.{slice_split_first, slice_split_none}
use Rattle.submit_lines.specs.Arguments.{plain_arguments, paired}
use Rattle.submit_lines.specs.Queue.{is_separator, items_of, with_item}

-- where a byte stands first
abbrev pub at : ℕ → List ℕ → ℕ
at stop bs = position_or_len (λ b. b == stop) bs

-- a text that begins with another byte has one before it
pub run_some : (stop : ℕ) (bs : List ℕ) → 0 < length bs → get_or bs 0 0 ≢ stop → 0 < at stop bs
run_some stop [] some h = absurd (omega (arith, some))
run_some stop (b ∷ bs) some h = subst (λ t. 0 < cond (not t) (1 + at stop bs) 0) (sym (ne_eqb b stop h)) (let n : 0 < 1 + at stop bs = omega arith in n)

-- ---- arguments without quotes round them

pub plain_escaped : (bs : List ℕ) → get_or bs 0 0 ≡ 92 → get_or bs 1 0 ≡ 34 → plain_arguments bs ≡ 34 ∷ plain_arguments (drop 2 bs)
unfolding plain_arguments
plain_escaped [] e f = absurd (omega (arith, e))
plain_escaped (b ∷ []) e f = absurd (omega (arith, f))
plain_escaped (b ∷ (c ∷ bs)) e f = rw (e, f) refl

pub plain_lone : (bs : List ℕ) → get_or bs 0 0 ≡ 92 → get_or bs 1 0 ≢ 34 → plain_arguments bs ≡ 92 ∷ plain_arguments (drop 1 bs)
unfolding plain_arguments
plain_lone [] e f = absurd (omega (arith, e))
plain_lone (b ∷ []) e f = rw e refl
plain_lone (b ∷ (c ∷ bs)) e f = rw (e, ne_eqb c 34 f) refl

pub plain_run : (bs : List ℕ) → plain_arguments bs ≡ take (at 92 bs) bs ++ plain_arguments (drop (at 92 bs) bs)
unfolding plain_arguments
plain_run [] = refl
plain_run (b ∷ []) = by (b == 92)
  where
    by : (t : Bool) → b ∷ [] ≡ take (cond (not t) 1 0) (b ∷ []) ++ plain_arguments (drop (cond (not t) 1 0) (b ∷ []))
    by true = refl
    by false = refl
plain_run (b ∷ (c ∷ bs)) = by (plain_run (c ∷ bs)) (b == 92) refl
  where
    Run : List ℕ → Type 0
    Run bs = plain_arguments bs ≡ take (at 92 bs) bs ++ plain_arguments (drop (at 92 bs) bs)

    one : suc (at 92 (c ∷ bs)) ≡ 1 + at 92 (c ∷ bs)
    one = omega arith

    by : Run (c ∷ bs) → (t : Bool) → (b == 92) ≡ t → plain_arguments (b ∷ (c ∷ bs)) ≡ take (cond (not t) (1 + at 92 (c ∷ bs)) 0) (b ∷ (c ∷ bs)) ++ plain_arguments (drop (cond (not t) (1 + at 92 (c ∷ bs)) 0) (b ∷ (c ∷ bs)))
    by more true e = refl
    by more false e = subst (λ n. plain_arguments (b ∷ (c ∷ bs)) ≡ take n (b ∷ (c ∷ bs)) ++ plain_arguments (drop n (b ∷ (c ∷ bs)))) one (rw e (ap (λ r. b ∷ r) more))

-- ---- arguments between quotes

pub paired_two : (bs : List ℕ) → get_or bs 0 0 ≡ 34 → get_or bs 1 0 ≡ 34 → paired bs ≡ option_map (λ r. 34 ∷ r) (paired (drop 2 bs))
unfolding paired
paired_two [] e f = absurd (omega (arith, e))
paired_two (b ∷ []) e f = absurd (omega (arith, f))
paired_two (b ∷ (c ∷ bs)) e f = rw (e, f) refl

pub paired_lone : (bs : List ℕ) → get_or bs 0 0 ≡ 34 → get_or bs 1 0 ≢ 34 → paired bs ≡ None
unfolding paired
paired_lone [] e f = absurd (omega (arith, e))
paired_lone (b ∷ []) e f = rw e refl
paired_lone (b ∷ (c ∷ bs)) e f = rw (e, ne_eqb c 34 f) refl

map_twice : (b : ℕ) (xs : List ℕ) (o : Option (List ℕ)) → option_map (λ r. b ∷ r) (option_map (λ r. xs ++ r) o) ≡ option_map (λ r. (b ∷ xs) ++ r) o
map_twice b xs None = refl
map_twice b xs (Some r) = refl

map_none : (o : Option (List ℕ)) → o ≡ option_map (λ r. [] ++ r) o
map_none None = refl
map_none (Some r) = refl

pub paired_run : (bs : List ℕ) → paired bs ≡ option_map (λ r. take (at 34 bs) bs ++ r) (paired (drop (at 34 bs) bs))
unfolding paired
paired_run [] = refl
paired_run (b ∷ []) = by (b == 34) refl
  where
    by : (t : Bool) → (b == 34) ≡ t → paired (b ∷ []) ≡ option_map (λ r. take (cond (not t) 1 0) (b ∷ []) ++ r) (paired (drop (cond (not t) 1 0) (b ∷ [])))
    by true e = map_none _
    by false e = rw e refl
paired_run (b ∷ (c ∷ bs)) = by (paired_run (c ∷ bs)) (b == 34) refl
  where
    Run : List ℕ → Type 0
    Run bs = paired bs ≡ option_map (λ r. take (at 34 bs) bs ++ r) (paired (drop (at 34 bs) bs))

    one : suc (at 34 (c ∷ bs)) ≡ 1 + at 34 (c ∷ bs)
    one = omega arith

    by : Run (c ∷ bs) → (t : Bool) → (b == 34) ≡ t → paired (b ∷ (c ∷ bs)) ≡ option_map (λ r. take (cond (not t) (1 + at 34 (c ∷ bs)) 0) (b ∷ (c ∷ bs)) ++ r) (paired (drop (cond (not t) (1 + at 34 (c ∷ bs)) 0) (b ∷ (c ∷ bs))))
    by more true e = map_none _
    by more false e = subst (λ n. paired (b ∷ (c ∷ bs)) ≡ option_map (λ r. take n (b ∷ (c ∷ bs)) ++ r) (paired (drop n (b ∷ (c ∷ bs))))) one (rw e (ap (option_map (λ r. b ∷ r)) more ∙ map_twice b _ _))

-- ---- items

pub items_first : (bs : List ℕ) → items_of bs ≡ with_item (take (position_or_len is_separator bs) bs) (items_of (drop (position_or_len is_separator bs + 1) bs))
items_first bs = by (ltb (position_or_len is_separator bs) (length bs)) refl
  where
    n : ℕ
    n = position_or_len is_separator bs

    full : List (List ℕ) → List (List ℕ)
    full is = filter (λ i. not (nat_eq (length i) 0)) is

    kept : (i : List ℕ) (is : List (List ℕ)) → full (i ∷ is) ≡ with_item i (full is)
    kept i is = keep (nat_eq (length i) 0)
      where
        keep : (t : Bool) → cond (not t) (i ∷ full is) (full is) ≡ cond t (full is) (i ∷ full is)
        keep true = refl
        keep false = refl

    by : (t : Bool) → ltb n (length bs) ≡ t → items_of bs ≡ with_item (take n bs) (items_of (drop (n + 1) bs))
    by true t = ap full (slice_split_first is_separator bs 0 (ltb-true _ _ t)) ∙ kept (take n bs) (slice_split is_separator (drop (n + 1) bs))
    by false t =
        let past : length bs ≤ n = ltb-false _ _ t in
        let none = slice_split_none is_separator bs (All-from_get_or (λ b. is_separator b ≡ false) bs 0 (λ i h. fails_before_first is_separator bs i 0 (omega (arith, h, past)))) in
        let all : take n bs ≡ bs = take_all n bs past in
        let rest : drop (n + 1) bs ≡ [] = drop_all (n + 1) bs (omega (arith, past)) in
        ap full none ∙ kept bs [] ∙ sym (λ i. with_item (all i) (items_of (rest i)))

pub items_last : (bs : List ℕ) → position_or_len is_separator bs ≡ length bs → items_of bs ≡ with_item bs []
items_last bs e =
    let past : length bs ≤ position_or_len is_separator bs = omega (arith, e) in
    let all : take (position_or_len is_separator bs) bs ≡ bs = take_all _ bs past in
    let rest : drop (position_or_len is_separator bs + 1) bs ≡ [] = drop_all (position_or_len is_separator bs + 1) bs (omega (arith, past)) in
    items_first bs ∙ (λ i. with_item (all i) (items_of (rest i)))

-- the whole is written where nothing is left
pub plain_done : (whole out rest : List ℕ) → whole ≡ out ++ plain_arguments rest → length rest ≡ 0 → out ≡ whole
unfolding plain_arguments
plain_done whole out [] h e = sym (h ∙ append-nil out)
plain_done whole out (b ∷ bs) h e = absurd (omega (arith, e))

pub paired_done : (whole : Option (List ℕ)) (out rest : List ℕ) → whole ≡ option_map (λ r. out ++ r) (paired rest) → length rest ≡ 0 → Some out ≡ whole
unfolding paired
paired_done whole out [] h e = sym (h ∙ ap Some (append-nil out))
paired_done whole out (b ∷ bs) h e = absurd (omega (arith, e))

-- ---- the two runs, at the pieces of a program

cut_at : (bs xs : List ℕ) (n : ℕ) → xs ≡ slice_range bs 0 n → xs ≡ take n bs
cut_at bs xs n f = let same : n - 0 ≡ n = omega arith in f ∙ ap (λ m. take m bs) same

pub plain_at : (bs xs ys : List ℕ) (n : ℕ) → n ≡ at 92 bs → xs ≡ slice_range bs 0 n → ys ≡ drop n bs → plain_arguments bs ≡ xs ++ plain_arguments ys
plain_at bs xs ys n e f g = rw (cut_at bs xs n f, g, e) (plain_run bs)

pub paired_at : (bs xs ys : List ℕ) (n : ℕ) → n ≡ at 34 bs → xs ≡ slice_range bs 0 n → ys ≡ drop n bs → paired bs ≡ option_map (λ r. xs ++ r) (paired ys)
paired_at bs xs ys n e f g = rw (cut_at bs xs n f, g, e) (paired_run bs)

pub ruleset plain_pieces = (plain_escaped, plain_lone, plain_run, run_some)

pub ruleset paired_pieces = (paired_two, paired_lone, paired_run, run_some)

pub ruleset item_pieces = (items_first, items_last)
