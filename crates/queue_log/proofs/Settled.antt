-- A transaction behind whole ones, and each prefix of its text.
use Rattle.std.proofs.Common.{◌≡◌, inl, inr, ℕ, zero, suc, ◌+◌, ◌-◌, ◌<◌, ◌≤◌, Bool, true, false, leb, List, [], ◌∷◌, ◌++◌, length, take, drop, get_or, codes, Option, Some, None, Ok, refl, ap, sym, ◌∙◌, subst, arith, append_assoc, length-append}
use Rattle.std.specs.Str.{IsUtf8}
use Rattle.std.proofs.lemmas.Bool.{leb-true, leb-false}
use Rattle.std.proofs.lemmas.Str.{IsUtf8-take, IsUtf8-drop, IsCharBoundary-before_ascii, IsCharBoundary-after_ascii}
use Rattle.pool_outer.specs.Files.{IsImage, bytes_in}
use Rattle.pool_store.specs.Moments.{IsReached}
use Rattle.queue_tx.specs.Operations.{Operation}
use Rattle.queue_tx.specs.Queues.{KeyedAds, queue_after}
use Rattle.queue_record.specs.ReadSoFar.{start, fed}
use Rattle.queue_record.specs.Logs.{Settles, Stays}
use Rattle.queue_record.specs.Texts.{AreTexts, op_line, ops_text, tx_text}
use Rattle.queue_record.proofs.Feeding.{fed_append}
use Rattle.queue_record.proofs.Transactions.{text_settles, text_stays}
use Rattle.queue_log.specs.declared.log.Halt.{Halt}
use Rattle.queue_log.specs.Logs.{IsPending, IsTorn, IsWhole, KeepsLog, StandsForLog}
use Rattle.queue_log.specs.Stands.{IsBeforeOrAfter, IsSettled, Stands}

-- ---- text is text line by line

at_end_of : (xs ys : List ℕ) (b : ℕ) → get_or (xs ++ b ∷ ys) (length xs) 0 ≡ b
at_end_of [] ys b = refl
at_end_of (x ∷ xs) ys b = at_end_of xs ys b

take_front : (xs ys : List ℕ) → take (length xs) (xs ++ ys) ≡ xs
take_front [] ys = refl
take_front (x ∷ xs) ys = ap (λ (z : List ℕ). x ∷ z) (take_front xs ys)

drop_past : (xs ys : List ℕ) (b n : ℕ) → n ≡ length xs + 1 → drop n (xs ++ b ∷ ys) ≡ ys
drop_past [] ys b zero h = absurd (omega arith)
drop_past [] ys b (suc n) h = let none : n ≡ 0 = omega arith in ap (λ k. drop k ys) none
drop_past (x ∷ xs) ys b zero h = absurd (omega arith)
drop_past (x ∷ xs) ys b (suc n) h = drop_past xs ys b n (omega arith)

within_line : (xs ys : List ℕ) → length xs < length (xs ++ 10 ∷ ys)
within_line xs ys = omega (arith, length-append xs (10 ∷ ys))

newline_ascii : (xs ys : List ℕ) → get_or (xs ++ 10 ∷ ys) (length xs) 0 < 128
newline_ascii xs ys = let e = at_end_of xs ys 10 in omega arith

line_text : (xs ys : List ℕ) → IsUtf8 (xs ++ 10 ∷ ys) → IsUtf8 xs
line_text xs ys u =
    subst IsUtf8 (take_front xs (10 ∷ ys))
    (IsUtf8-take (xs ++ 10 ∷ ys) (length xs) u (IsCharBoundary-before_ascii (xs ++ 10 ∷ ys) (length xs) (within_line xs ys) (newline_ascii xs ys)))

rest_text : (xs ys : List ℕ) → IsUtf8 (xs ++ 10 ∷ ys) → IsUtf8 ys
rest_text xs ys u =
    subst IsUtf8 (drop_past xs ys 10 (length xs + 1) refl)
    (IsUtf8-drop (xs ++ 10 ∷ ys) (length xs + 1) u (IsCharBoundary-after_ascii (xs ++ 10 ∷ ys) (length xs) u (within_line xs ys) (newline_ascii xs ys)))

ops_are_texts : (os : List Operation) (rest : List ℕ) → IsUtf8 (ops_text os ++ rest) → AreTexts os
ops_are_texts [] rest u = tt
ops_are_texts (o ∷ os) rest u =
    let v : IsUtf8 (op_line o ++ 10 ∷ (ops_text os ++ rest)) = subst IsUtf8 (append_assoc (op_line o) (10 ∷ ops_text os) rest) u in
    (line_text (op_line o) (ops_text os ++ rest) v, ops_are_texts os rest (rest_text (op_line o) (ops_text os ++ rest) v))

-- what is written of a transaction is text, and so is each of its lines
pub are_texts : (os : List Operation) → IsUtf8 (tx_text os) → AreTexts os
are_texts os u = ops_are_texts os (codes "106\n") (rest_text (codes "105") (ops_text os ++ codes "106\n") u)

-- ---- a transaction behind whole ones

pub settles : (list : List (List Operation)) (queue after : KeyedAds) (tx : List Operation) (base : List ℕ) → IsSettled list queue base → IsPending queue tx → queue_after queue tx ≡ Ok after
    → IsSettled (list ++ tx ∷ []) after (base ++ tx_text tx)
settles list queue after tx base s p done =
    let r = fed start base in
    let e = text_settles r tx after p.printable p.fits p.texts s.at_rest.good s.at_rest.no_part s.at_rest.none_open (ap (λ q. queue_after q tx) s.queued ∙ done) in
    let joined : fed r (tx_text tx) ≡ fed start (base ++ tx_text tx) = sym (fed_append start base (tx_text tx)) in
    let f : Settles r (fed start (base ++ tx_text tx)) tx after = subst (λ z. Settles r z tx after) joined e in
    record { at_rest = f.at_rest; listed = f.listed ∙ ap (λ (l : List (List Operation)). l ++ tx ∷ []) s.listed; queued = f.queued }

pub settled_stands : (list : List (List Operation)) (queue : KeyedAds) (bytes : List ℕ) → IsSettled list queue bytes → Stands list bytes
settled_stands list queue bytes s = record { good = s.at_rest.good; listed = s.listed }

begun_stands : (list : List (List Operation)) (queue : KeyedAds) (tx : List Operation) (base : List ℕ) (count : ℕ) → IsSettled list queue base → IsPending queue tx → count < length (tx_text tx)
    → Stands list (base ++ take count (tx_text tx))
begun_stands list queue tx base count s p less =
    let r = fed start base in
    let e = text_stays r tx count p.printable p.fits p.texts s.at_rest.good s.at_rest.no_part s.at_rest.none_open less in
    let joined : fed r (take count (tx_text tx)) ≡ fed start (base ++ take count (tx_text tx)) = sym (fed_append start base (take count (tx_text tx))) in
    let f : Stays r (fed start (base ++ take count (tx_text tx))) = subst (λ z. Stays r z) joined e in
    record { good = f.good; listed = f.listed ∙ s.listed }

pub take_all : (n : ℕ) (xs : List ℕ) → length xs ≤ n → take n xs ≡ xs
take_all zero [] le = refl
take_all (suc n) [] le = refl
take_all zero (x ∷ xs) le = absurd (omega arith)
take_all (suc n) (x ∷ xs) le = ap (λ (z : List ℕ). x ∷ z) (take_all n xs (omega arith))

-- whatever prefix of its text stands there
pub prefix_stands : (list : List (List Operation)) (queue : KeyedAds) (tx : List Operation) (base : List ℕ) (count : ℕ) → IsSettled list queue base → IsPending queue tx
    → IsBeforeOrAfter list tx (base ++ take count (tx_text tx))
prefix_stands list queue tx base count s p = by (leb (length (tx_text tx)) count) refl
  where
    by : (b : Bool) → leb (length (tx_text tx)) count ≡ b → IsBeforeOrAfter list tx (base ++ take count (tx_text tx))
    by true e =
        let all = take_all count (tx_text tx) (leb-true (length (tx_text tx)) count e) in
        inr (subst (λ z. Stands (list ++ tx ∷ []) (base ++ z)) (sym all)
        (settled_stands (list ++ tx ∷ []) p.after (base ++ tx_text tx) (settles list queue p.after tx base s p p.applies)))
    by false e = inl (begun_stands list queue tx base count s p (leb-false (length (tx_text tx)) count e))

-- ---- images

pub take_short : (n : ℕ) (xs : List ℕ) → length (take n xs) ≤ length xs
take_short zero xs = omega arith
take_short (suc n) [] = omega arith
take_short (suc n) (x ∷ xs) = let r = take_short n xs in omega arith

-- all of a file that is solid as a whole
pub image_whole : (bytes image : List ℕ) (solid : ℕ) → length bytes ≤ solid → IsImage solid bytes image → image ≡ bytes
image_whole bytes image solid le i = let s = i.solid_stays in i.front ∙ take_all (length image) bytes (omega arith)

-- so it is where bytes were added behind others and all made solid
pub all_solid : (bytes more image : List ℕ) (file : Option (List ℕ)) (solid : ℕ) → file ≡ Some (bytes ++ more) → solid ≡ length (bytes_in file) → IsImage solid (bytes_in file) image → image ≡ bytes ++ more
all_solid bytes more image file solid is durable i = image_whole (bytes_in file) image solid (omega arith) i ∙ ap bytes_in is

-- a prefix of bytes and more that has all the bytes
pub front_and_more : (n : ℕ) (xs ys : List ℕ) → length xs ≤ n → take n (xs ++ ys) ≡ xs ++ take (n - length xs) ys
front_and_more n [] ys le = let same : n ≡ n - 0 = omega arith in ap (λ k. take k ys) same
front_and_more zero (x ∷ xs) ys le = absurd (omega arith)
front_and_more (suc n) (x ∷ xs) ys le =
    let same : n - length xs ≡ suc n - suc (length xs) = omega arith in
    ap (λ (z : List ℕ). x ∷ z) (front_and_more n xs ys (omega arith) ∙ ap (λ k. xs ++ take k ys) same)

-- what a stop leaves while a transaction is written behind whole ones
pub reached_stands : (list : List (List Operation)) (queue : KeyedAds) (tx : List Operation) (base image : List ℕ) (solid : ℕ) → IsSettled list queue base → length base ≤ solid → IsPending queue tx
    → IsReached solid base (tx_text tx) image → IsBeforeOrAfter list tx image
reached_stands list queue tx base image solid s le p r =
    let far = r.solid_stays in
    let is : image ≡ base ++ take (length image - length base) (tx_text tx) = r.front ∙ front_and_more (length image) base (tx_text tx) (omega arith) in
    subst (λ z. IsBeforeOrAfter list tx z) (sym is) (prefix_stands list queue tx base (length image - length base) s p)

take_again : (m n : ℕ) (xs : List ℕ) → m ≤ length (take n xs) → take m (take n xs) ≡ take m xs
take_again zero n xs le = refl
take_again (suc m) zero xs le = absurd (omega arith)
take_again (suc m) (suc n) [] le = refl
take_again (suc m) (suc n) (x ∷ xs) le = ap (λ (z : List ℕ). x ∷ z) (take_again m n xs (omega arith))

take_behind : (m n : ℕ) (xs ys : List ℕ) → m ≤ length (xs ++ take n ys) → take m (xs ++ take n ys) ≡ take m (xs ++ ys)
take_behind m n [] ys le = take_again m n ys le
take_behind zero n (x ∷ xs) ys le = refl
take_behind (suc m) n (x ∷ xs) ys le = ap (λ (z : List ℕ). x ∷ z) (take_behind m n xs ys (omega arith))

torn_image : (list : List (List Operation)) (queue : KeyedAds) (tx : List Operation) (bytes image : List ℕ) (solid : ℕ) → IsTorn list queue tx bytes solid → IsImage solid bytes image → IsBeforeOrAfter list tx image
torn_image list queue tx bytes image solid t i =
    let short = let e = ap length i.front in let s = take_short (length image) bytes in (let le : length image ≤ length bytes = omega arith in le) in
    let size = ap length t.parts in
    let front : image ≡ take (length image) (t.base ++ tx_text tx) =
    i.front ∙ ap (take (length image)) t.parts ∙ take_behind (length image) t.count t.base (tx_text tx) (omega arith) in
    reached_stands list queue tx t.base image solid t.settled t.durable t.pending (record { front = front; solid_stays = i.solid_stays })

-- what a stop leaves of a log's file
pub log_image : (halt : Option Halt) (list : List (List Operation)) (queue : KeyedAds) (bytes image : List ℕ) (solid : ℕ) → KeepsLog halt list queue bytes solid → IsImage solid bytes image → StandsForLog halt list image
log_image None list queue bytes image solid k i =
    subst (λ z. Stands list z) (sym (image_whole bytes image solid k.durable i)) (settled_stands list queue bytes k.settled)
log_image (Some halt) list queue bytes image solid k i = torn_image list queue halt.pending bytes image solid k i

-- ---- after a write

pub torn_after : (list : List (List Operation)) (queue after : KeyedAds) (tx : List Operation) (bytes new : List ℕ) (solid solid' count : ℕ) → IsWhole list queue bytes solid → IsPending queue tx
    → new ≡ bytes ++ take count (tx_text tx) → solid ≤ solid' → IsTorn list queue tx new solid'
torn_after list queue after tx bytes new solid solid' count w p is le =
    let d = w.durable in
    record { base = bytes; count = count; settled = w.settled; durable = omega arith; pending = p; parts = is }

pub whole_after : (list : List (List Operation)) (queue after : KeyedAds) (tx : List Operation) (bytes new : List ℕ) (solid solid' : ℕ) → IsWhole list queue bytes solid → IsPending queue tx → queue_after queue tx ≡ Ok after
    → new ≡ bytes ++ tx_text tx → length new ≤ solid' → IsWhole (list ++ tx ∷ []) after new solid'
whole_after list queue after tx bytes new solid solid' w p done is le = record {
  settled = subst (λ z. IsSettled (list ++ tx ∷ []) after z) (sym is) (settles list queue after tx bytes w.settled p done);
  durable = le;
}
