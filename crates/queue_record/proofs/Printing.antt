-- Operations that are written one after the other.
use Rattle.std.proofs.Common.{◌≡◌, ◌≢◌, ℕ, zero, suc, ◌+◌, ◌-◌, ◌<◌, ◌≤◌, Bool, true, false, cond, codes, List, [], ◌∷◌, ◌++◌, map, take, drop, length, get_or, Option, Some, None, refl, ap, sym, ◌∙◌, arith, append_assoc}
use Rattle.std.specs.Option.{option_map}
use Rattle.std.proofs.lemmas.List.{take_more, map-append, take-append-drop}
use Rattle.std.proofs.Math.Seq.{drop-cons}
use Rattle.queue_tx.specs.declared.op.Op.{Op}
use Rattle.queue_tx.specs.Operations.{Operation, operation}
use Rattle.queue_record.specs.declared.error.PrintError.{PrintError}
use Rattle.queue_record.specs.declared.error.PrintError.TheVariants.{TooLong, Memory}
use Rattle.queue_record.specs.Texts.{op_line, ops_text, is_long, first_long, IsTooLong}

pub done_more : (ops : List Op) (i : ℕ) (op : Op) → i < length ops → op ≡ get_or ops i op → map operation (take (i + 1) ops) ≡ map operation (take i ops) ++ operation op ∷ []
done_more ops i op inside is =
    ap (map operation) (take_more ops i op inside)
    ∙ map-append operation (take i ops) (get_or ops i op ∷ [])
    ∙ ap (λ (x : Op). map operation (take i ops) ++ operation x ∷ []) (sym is)

pub ops_push : (os : List Operation) (o : Operation) → ops_text (os ++ o ∷ []) ≡ ops_text os ++ (op_line o ++ codes "\n")
ops_push [] o = refl
ops_push (a ∷ os) o =
    ap (λ (t : List ℕ). op_line a ++ 10 ∷ t) (ops_push os o)
    ∙ sym (append_assoc (op_line a) (10 ∷ ops_text os) (op_line o ++ codes "\n"))

abbrev shifted : ℕ → Option ℕ → Option ℕ
shifted n m = option_map (λ k. n + k) m

no_shift : (m : Option ℕ) → m ≡ shifted 0 m
no_shift None = refl
no_shift (Some k) = ap (λ (n : ℕ). Some n) (let same : k ≡ 0 + k = omega arith in same)

one_more : (n : ℕ) (m : Option ℕ) → option_map (λ k. k + 1) (shifted n m) ≡ shifted (suc n) m
one_more n None = refl
one_more n (Some k) = ap (λ (j : ℕ). Some j) (let same : n + k + 1 ≡ suc n + k = omega arith in same)

none_in : (m : Option ℕ) → option_map (λ k. k + 1) m ≡ None → m ≡ None
none_in None h = refl
none_in (Some k) h = absurd cc

first_step : (x : Operation) (xs ys : List Operation) (b : Bool) → is_long x ≡ b → (first_long xs ≡ None → first_long (xs ++ ys) ≡ shifted (length xs) (first_long ys))
    → cond b (Some 0) (option_map (λ n. n + 1) (first_long xs)) ≡ None
    → cond (is_long x) (Some 0) (option_map (λ n. n + 1) (first_long (xs ++ ys))) ≡ shifted (length (x ∷ xs)) (first_long ys)
first_step x xs ys true e rest h = absurd cc
first_step x xs ys false e rest h =
    ap (λ (c : Bool). cond c (Some 0) (option_map (λ n. n + 1) (first_long (xs ++ ys)))) e
    ∙ ap (option_map (λ n. n + 1)) (rest (none_in (first_long xs) h))
    ∙ one_more (length xs) (first_long ys)

first_append : (xs ys : List Operation) → first_long xs ≡ None → first_long (xs ++ ys) ≡ shifted (length xs) (first_long ys)
first_append [] ys none = no_shift (first_long ys)
first_append (x ∷ xs) ys none = first_step x xs ys (is_long x) refl (first_append xs ys) none

length_mapped : (ops : List Op) → length (map operation ops) ≡ length ops
length_mapped [] = refl
length_mapped (op ∷ ops) = ap suc (length_mapped ops)

length_taken : (i : ℕ) (ops : List Op) → i ≤ length ops → length (take i ops) ≡ i
length_taken zero ops le = refl
length_taken (suc i) [] le = absurd (omega arith)
length_taken (suc i) (op ∷ ops) le = ap suc (length_taken i ops (omega arith))

pub first_push : (os : List Operation) (o : Operation) → first_long os ≡ None → is_long o ≡ false → first_long (os ++ o ∷ []) ≡ None
first_push os o none short =
    first_append os (o ∷ []) none ∙ ap (λ (b : Bool). shifted (length os) (cond b (Some 0) None)) short

pub first_at : (ops : List Op) (i : ℕ) (op : Op) → i < length ops → op ≡ get_or ops i op → first_long (map operation (take i ops)) ≡ None → is_long (operation op) ≡ true
    → first_long (map operation ops) ≡ Some i
first_at ops i op inside is none long =
    let rest = map operation (drop (suc i) ops) in
    let tail : drop i ops ≡ op ∷ drop (suc i) ops = drop-cons ops i op inside ∙ ap (λ (x : Op). x ∷ drop (suc i) ops) (sym is) in
    let parts : map operation ops ≡ map operation (take i ops) ++ (operation op ∷ rest) =
    ap (map operation) (sym (take-append-drop i ops)) ∙ map-append operation (take i ops) (drop i ops) ∙ ap (λ (t : List Op). map operation (take i ops) ++ map operation t) tail in
    let count : length (map operation (take i ops)) + 0 ≡ i = omega (arith, length_mapped (take i ops), length_taken i ops (omega arith)) in
    ap first_long parts
    ∙ first_append (map operation (take i ops)) (operation op ∷ rest) none
    ∙ ap (λ (b : Bool). shifted (length (map operation (take i ops))) (cond b (Some 0) (option_map (λ n. n + 1) (first_long rest)))) long
    ∙ ap (λ (n : ℕ). Some n) count

pub too_long : (os : List Operation) (e : PrintError) (i : ℕ) (P : Type 0) → (e ≢ Memory → (e ≡ TooLong i) × P) → (P → first_long os ≡ Some i) → IsTooLong os e
too_long os (TooLong n) i P h found =
    let both = h (λ e. cc) in
    let same : n ≡ i = ap (λ (e : PrintError). place e) both.0 in
    found both.1 ∙ ap (λ (k : ℕ). Some k) (sym same)
  where
    place : PrintError → ℕ
    place (TooLong k) = k
    place Memory = 0
too_long os Memory i P h found = tt
