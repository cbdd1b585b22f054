-- Lists that are made piece by piece.
use Rattle.std.proofs.Common.{◌≡◌, ◌∙◌, ℕ, suc, ◌+◌, ◌-◌, ◌≤◌, ◌<◌, List, [], ◌∷◌, ◌++◌, map, get_or, length, take, drop, Option, Some, None, ap, sym, subst, arith, length-drop, length-take, length-append, append_assoc}
use Rattle.std.proofs.lemmas.Grind.{common_steps}
use Rattle.std.proofs.lemmas.List.{map-append}
use Rattle.std.proofs.Math.Seq.{take-add, take-suc}
use Rattle.std.specs.Option.{option_map}
use Rattle.pool_outer.specs.Files.{ReadAt, bytes_in}

-- the bytes up to a place, and some of those behind it
pub take-rest : (bytes : List ℕ) (done n : ℕ) → take done bytes ++ take n (take (length bytes - done) (drop done bytes)) ≡ take (done + n) bytes
take-rest bytes done n = let whole : take (length bytes - done) (drop done bytes) ≡ drop done bytes = grind (arith, common_steps) in rw whole (sym (take-add done n bytes))

-- one more write
pub written_more : (old now before bytes : List ℕ) (done n : ℕ) → before ≡ old ++ take done bytes → now ≡ before ++ take n (take (length bytes - done) (drop done bytes)) → now ≡ old ++ take (done + n) bytes
written_more old now before bytes done n is more = rw (more, is, append_assoc) (ap (λ w. old ++ w) (take-rest bytes done n))

pub fits_more : (bytes : List ℕ) (done n : ℕ) → done ≤ length bytes → n ≤ length (take (length bytes - done) (drop done bytes)) → done + n ≤ length bytes
fits_more bytes done n fits count = omega (arith, length-take (length bytes - done) (drop done bytes), length-drop done bytes)

-- a piece that goes on where the bytes so far end
front_more : (file now piece : List ℕ) (n : ℕ) → now ≡ take (length now) file → take n piece ≡ take n (drop (length now) file) → n ≤ length (drop (length now) file) → n ≤ length piece → now ++ take n piece ≡ take (length (now ++ take n piece)) file
front_more file now piece n front piece_is fits room =
    let len : length (now ++ take n piece) ≡ length now + n = omega (arith, length-append now (take n piece), length-take n piece) in
    rw (len, take-add (length now) n file, ← piece_is) (ap (λ w. w ++ take n piece) front)

-- one more read
pub read_more : (file other : Option (List ℕ)) (now piece before new : List ℕ) (len n : ℕ) → other ≡ file → len ≡ length now → ReadAt other len n before piece → n ≤ length piece → now ≡ take (length now) (bytes_in file) → new ≡ now ++ take n piece → new ≡ take (length new) (bytes_in file)
read_more file other now piece before new len n same at read room front more =
    let here : ReadAt file (length now) n before piece = subst (λ f. ReadAt f (length now) n before piece) same (subst (λ k. ReadAt other k n before piece) at read) in
    rw more (front_more (bytes_in file) now piece n front here.front here.fits room)

-- all of the bytes that were asked for are there
pub taken_whole : (piece into : List ℕ) (n : ℕ) → n ≤ length piece → length into ≡ length piece → n ≡ length (take n into)
taken_whole piece into n room long = omega (arith, length-take n into)

-- a read that gives bytes comes nearer to the end
pub comes_nearer : (size old new so_far n taken : ℕ) → so_far ≡ old → so_far < size → (n ≡ 0 → ⊥) → n ≡ taken → new ≡ old + taken → size - new < size - old
comes_nearer size old new so_far n taken is below some all more = omega arith

-- the bytes so far are no more than the file has
pub no_more : (file : Option (List ℕ)) (bytes : List ℕ) (size : ℕ) → option_map length file ≡ Some size → bytes ≡ take (length bytes) (bytes_in file) → length bytes ≤ size
no_more None bytes size is front = cc
no_more (Some file) bytes size is front =
    let len : length file ≡ size = cc in
    omega (arith, ap length front, length-take (length bytes) file)

-- what is left of the bytes is no longer than was asked for
pub cut_short : (bytes new : List ℕ) (size most : ℕ) → new ≡ take size bytes → size ≤ most → length new ≤ most
cut_short bytes new size most is few = omega (arith, ap length is, length-take size bytes)

-- the values of one element more
pub mapped_more : {A B : Type 0} (f : A → B) (xs : List A) (i : ℕ) (x : A) (y : B) (before after : List B) → i < length xs → x ≡ get_or xs i x → before ≡ map f (take i xs) → y ≡ f x → after ≡ before ++ y ∷ [] → after ≡ map f (take (i + 1) xs)
mapped_more {A} {B} f xs i x y before after below is mapped value more =
    let next : suc i ≡ i + 1 = omega arith in
    let grown : map f (take (suc i) xs) ≡ map f (take i xs) ++ f x ∷ [] = ap (map f) (take-suc xs i x below) ∙ (map-append f (take i xs) (get_or xs i x ∷ []) ∙ ap (λ (v : A). map f (take i xs) ++ f v ∷ []) (sym is)) in
    more ∙ (ap (λ (l : List B). l ++ y ∷ []) mapped ∙ (ap (λ (v : B). map f (take i xs) ++ v ∷ []) value ∙ (sym grown ∙ ap (λ (n : ℕ). map f (take n xs)) next)))
