-- Reading a file piece by piece.
use Rattle.std.proofs.Common.{◌≡◌, ℕ, zero, suc, ◌+◌, ◌-◌, ◌<◌, ◌≤◌, ◌^◌, min, List, [], ◌∷◌, ◌++◌, length, take, drop, Option, Some, None, refl, ap, sym, ◌∙◌, arith, length-drop}
use Rattle.std.specs.Option.{option_map}
use Rattle.pool_outer.specs.Files.{bytes_in}
use Rattle.queue_record.specs.declared.error.RecordError.{RecordError}
use Rattle.queue_record.specs.ReadSoFar.{ReadSoFar, start, fed}
use Rattle.queue_record.proofs.Feeding.{fed_append}
use Rattle.queue_log.specs.Files.{MeetsBadLine}
use Rattle.queue_log.specs.Stands.{bad_line, line_of}
use Rattle.queue_log.proofs.Readings.{refused_stays, take_and_drop}
use Rattle.queue_log.proofs.Settled.{take_all}

-- the length of a file that is there
pub size_of : (file : Option (List ℕ)) (size : ℕ) → option_map length file ≡ Some size → size ≡ length (bytes_in file)
size_of None size h = absurd (cc h)
size_of (Some bytes) size h = cc

take_more : (m n : ℕ) (xs : List ℕ) → m ≤ length xs → take m xs ++ take n (drop m xs) ≡ take (m + n) xs
take_more zero n xs le = let same : n ≡ 0 + n = omega arith in ap (λ k. take k xs) same
take_more (suc m) n [] le = absurd (omega arith)
take_more (suc m) n (x ∷ xs) le =
    let same : suc (m + n) ≡ suc m + n = omega arith in
    ap (λ (z : List ℕ). x ∷ z) (take_more m n xs (omega arith)) ∙ ap (λ k. take k (x ∷ xs)) same

-- a further piece
pub reads_on : (reader new : ReadSoFar) (bytes piece : List ℕ) (place n next : ℕ) → reader ≡ fed start (take place bytes) → new ≡ fed reader (take n piece) → take n piece ≡ take n (drop place bytes)
    → n ≤ length (drop place bytes) → length bytes < 2 ^ 64 → place ≤ length bytes → next ≡ min (place + n) (2 ^ 64 - 1) → (new ≡ fed start (take next bytes)) × (next ≤ length bytes)
reads_on reader new bytes piece place n next is more same fits small within sum =
    let size = length-drop place bytes in
    let whole : next ≡ place + n = omega (arith, sum, size) in (
      more
          ∙ ap (λ (r : ReadSoFar). fed r (take n piece)) is
          ∙ ap (fed (fed start (take place bytes))) same
          ∙ sym (fed_append start (take place bytes) (take n (drop place bytes)))
          ∙ ap (fed start) (take_more place n bytes within)
          ∙ ap (λ k. fed start (take k bytes)) (sym whole),
      omega (arith, whole, size),
    )

-- the last piece
pub reads_all : (reader : ReadSoFar) (bytes : List ℕ) (place : ℕ) → reader ≡ fed start (take place bytes) → length bytes ≤ place → reader ≡ fed start bytes
reads_all reader bytes place is le = is ∙ ap (fed start) (take_all place bytes le)

-- ---- a bad line

has_error : (o : Option RecordError) (line : ℕ) → line_of o ≡ Some line → (e : RecordError) × (o ≡ Some e)
has_error None line h = absurd (cc h)
has_error (Some e) line h = (e, refl)

stays_bad : (r : ReadSoFar) (bs : List ℕ) (line : ℕ) → line_of r.refusal ≡ Some line → line_of (fed r bs).refusal ≡ Some line
stays_bad r bs line h =
    let e = has_error r.refusal line h in
    ap (λ (s : ReadSoFar). line_of s.refusal) (refused_stays r bs e.0 e.1) ∙ h

pub bad_line_met : (reader : ReadSoFar) (bytes : List ℕ) (place line : ℕ) → reader ≡ fed start (take place bytes) → MeetsBadLine reader bytes place line → bad_line bytes ≡ Some line
bad_line_met reader bytes place line is met =
    let rest = drop place bytes in
    let piece = take met.count rest in
    let behind = drop met.count rest in
    let parts : bytes ≡ take place bytes ++ (piece ++ behind) = take_and_drop place bytes ∙ ap (λ (z : List ℕ). take place bytes ++ z) (take_and_drop met.count rest) in
    let whole : fed start bytes ≡ fed (fed reader piece) behind =
    ap (fed start) parts ∙ fed_append start (take place bytes) (piece ++ behind) ∙ fed_append (fed start (take place bytes)) piece behind
    ∙ ap (λ (r : ReadSoFar). fed (fed r piece) behind) (sym is) in
    ap (λ (r : ReadSoFar). line_of r.refusal) whole ∙ stays_bad (fed reader piece) behind line met.bad

-- ---- the bytes of a file that is cut

pub cut_bytes : (n : ℕ) (file new : Option (List ℕ)) → new ≡ option_map (take n) file → bytes_in new ≡ take n (bytes_in file)
cut_bytes zero None new h = ap bytes_in h
cut_bytes (suc n) None new h = ap bytes_in h
cut_bytes n (Some bytes) new h = ap bytes_in h
