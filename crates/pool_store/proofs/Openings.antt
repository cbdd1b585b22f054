-- The file of boots once it is opened, and while the next boot's line is written behind it.
use Rattle.std.proofs.Common.{◌≡◌, ◌⊎◌, inl, inr, ℕ, zero, suc, ◌+◌, ◌-◌, ◌≤◌, Bool, true, false, ltb, List, [], ◌∷◌, ◌++◌, length, take, decimal, Option, Some, None, refl, sym, ◌∙◌, ap, subst, arith, length-append}
use Rattle.std.proofs.lemmas.Bool.Decides.{nat_tests}
use Rattle.std.proofs.lemmas.List.{append-nil}
use Rattle.pool_outer.specs.Files.{Contents, Lengths, Leaves, bytes_in}
use Rattle.pool_store.specs.declared.boots.Boots.{Boots}
use Rattle.pool_store.specs.Boots.{SaysBoots, boot_lines, next_boot}
use Rattle.pool_store.specs.Moments.{IsReached}
use Rattle.pool_store.specs.Openings.{AreOpened, AreWholeLines}
use Rattle.pool_store.proofs.BootLines.{next_read, one_thing, torn_says, whole_lines}

-- the boots once the next one's line stands behind these bytes
abbrev with_next : ℕ → List ℕ → Boots
with_next next image = record { largest = Some next; whole = length image }

left_by : (file opened : Option (List ℕ)) (solid : ℕ) (boots : Boots) → AreOpened file opened solid boots → bytes_in opened ≡ take boots.whole (bytes_in file)
left_by None opened solid boots o = ap bytes_in o.cut ∙ none boots.whole
  where
    none : (n : ℕ) → bytes_in None ≡ take n (bytes_in None)
    none zero = refl
    none (suc n) = refl
left_by (Some bytes) opened solid boots o = ap bytes_in o.cut

-- how long the whole lines are
lines_length : (bytes : List ℕ) (boots : Boots) → SaysBoots bytes boots → length (take boots.whole bytes) ≡ boots.whole
lines_length bytes boots says = ap length (whole_lines bytes boots says) ∙ sym says.counted

pub whole_say : (bytes lines : List ℕ) (boots : Boots) → SaysBoots bytes boots → AreWholeLines bytes lines → SaysBoots lines boots
whole_say bytes lines boots says are =
    let same : are.boots ≡ boots = one_thing bytes are.boots boots are.says says in
    let is : lines ≡ boot_lines says.numbers = are.whole ∙ ap (λ (b : Boots). take b.whole bytes) same ∙ whole_lines bytes boots says in
    record { numbers = says.numbers; tail = []; parts = is ∙ sym (append-nil (boot_lines says.numbers)); in_range = says.in_range; torn = refl; greatest = says.greatest; counted = says.counted }

-- the whole line
written_says : (bytes image : List ℕ) (boots : Boots) (next : ℕ) → SaysBoots bytes boots → next_boot boots.largest ≡ Some next → image ≡ take boots.whole bytes ++ boot_lines (next ∷ []) → SaysBoots image (with_next next image)
written_says bytes image boots next says is image_is =
    let whole = lines_length bytes boots says in
    let long : boots.whole + (length (decimal next) + 1) ≡ length image = omega (arith, ap length image_is, length-append (take boots.whole bytes) (boot_lines (next ∷ [])), length-append (decimal next) (10 ∷ []), whole) in
    subst (λ (b : Boots). SaysBoots image b) (ap (λ (n : ℕ). record { largest = Some next; whole = n }) long)
    (subst (λ (z : List ℕ). SaysBoots z (record { largest = Some next; whole = boots.whole + (length (decimal next) + 1) })) (sym image_is) (next_read bytes boots next says is))

pub largest_in_each : (file opened : Option (List ℕ)) (solid next : ℕ) (boots : Boots) (files : Contents) (solids : Lengths) (name : List ℕ) → AreOpened file opened solid boots → next_boot boots.largest ≡ Some next
    → ((image : List ℕ) → Leaves files solids name image → image ≡ bytes_in opened ++ boot_lines (next ∷ []))
    → (image : List ℕ) → Leaves files solids name image → SaysBoots image (record { largest = Some next; whole = length image })
largest_in_each file opened solid next boots files solids name o is each image left =
    written_says (bytes_in file) image boots next o.says is (each image left ∙ ap (λ (z : List ℕ). z ++ boot_lines (next ∷ [])) (left_by file opened solid boots o))

-- a prefix that has the first bytes has them, and a prefix of the others
prefix_parts : (n : ℕ) (xs ys : List ℕ) → length xs ≤ n → take n (xs ++ ys) ≡ xs ++ take (n - length xs) ys
prefix_parts n [] ys le = let same : n ≡ n - 0 = omega arith in ap (λ k. take k ys) same
prefix_parts zero (x ∷ xs) ys le = absurd (omega arith)
prefix_parts (suc n) (x ∷ xs) ys le =
    let same : n - length xs ≡ suc n - suc (length xs) = omega arith in
    ap (λ (z : List ℕ). x ∷ z) (prefix_parts n xs ys (omega arith)) ∙ ap (λ k. (x ∷ xs) ++ take k ys) same

take_all : (n : ℕ) (xs : List ℕ) → length xs ≤ n → take n xs ≡ xs
take_all zero [] le = refl
take_all (suc n) [] le = refl
take_all zero (x ∷ xs) le = absurd (omega arith)
take_all (suc n) (x ∷ xs) le = ap (λ (z : List ℕ). x ∷ z) (take_all n xs (omega arith))

short_or_long : (k n : ℕ) → (k ≤ n) ⊎ (n + 1 ≤ k)
short_or_long k n = by (ltb n k) refl
  where
    by : (b : Bool) → ltb n k ≡ b → (k ≤ n) ⊎ (n + 1 ≤ k)
    by true h = inr (grind (arith, nat_tests))
    by false h = inl (grind (arith, nat_tests))

pub said_while_written : (file opened : Option (List ℕ)) (solid next : ℕ) (boots : Boots) (image : List ℕ) → AreOpened file opened solid boots → next_boot boots.largest ≡ Some next
    → IsReached solid (bytes_in opened) (boot_lines (next ∷ [])) image
    → SaysBoots image boots ⊎ SaysBoots image (record { largest = Some next; whole = length image })
said_while_written file opened solid next boots image o is reached =
    let line = boot_lines (next ∷ []) in
    let k = length image - length (bytes_in opened) in
    let first = o.durable in
    let then_ = reached.solid_stays in
    let parts : image ≡ bytes_in opened ++ take k line = reached.front ∙ prefix_parts (length image) (bytes_in opened) line (omega arith) in
    let image_is : image ≡ take boots.whole (bytes_in file) ++ take k line = parts ∙ ap (λ (z : List ℕ). z ++ take k line) (left_by file opened solid boots o) in
    by k image_is (short_or_long k (length (decimal next)))
  where
    by : (k : ℕ) → image ≡ take boots.whole (bytes_in file) ++ take k (boot_lines (next ∷ [])) → (k ≤ length (decimal next)) ⊎ (length (decimal next) + 1 ≤ k) → SaysBoots image boots ⊎ SaysBoots image (record { largest = Some next; whole = length image })
    by k image_is (inl short) = inl (subst (λ (z : List ℕ). SaysBoots z boots) (sym image_is) (torn_says (bytes_in file) boots next k o.says is short))
    by k image_is (inr long) =
        let all : take k (boot_lines (next ∷ [])) ≡ boot_lines (next ∷ []) = take_all k (boot_lines (next ∷ [])) (omega (arith, length-append (decimal next) (10 ∷ []))) in
        inr (written_says (bytes_in file) image boots next o.says is (image_is ∙ ap (λ (z : List ℕ). take boots.whole (bytes_in file) ++ z) all))
