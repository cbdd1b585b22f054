-- What a log goes on with once it has read its file again.
use Rattle.std.proofs.Common.{◌≡◌, ◌⊎◌, inl, inr, ⊎_elim, ℕ, ◌<◌, ◌≤◌, ◌^◌, Bool, true, false, leb, List, [], ◌∷◌, ◌++◌, length, take, Option, Some, None, IfSome, refl, ap, sym, ◌∙◌, subst, arith, length-append}
use Rattle.std.proofs.lemmas.Bool.{leb-true, leb-false}
use Rattle.pool_outer.specs.Files.{IsImage, bytes_in}
use Rattle.receipt_roll.specs.Values.{ReceiptValue}
use Rattle.queue_tx.specs.Operations.{Operation}
use Rattle.queue_tx.specs.Queues.{KeyedAds}
use Rattle.queue_record.specs.declared.reader.ReadLog.{ReadLog}
use Rattle.queue_record.specs.ReadSoFar.{start, fed}
use Rattle.queue_record.specs.Logs.{Stays}
use Rattle.queue_record.specs.Texts.{tx_text}
use Rattle.queue_record.proofs.Feeding.{fed_append}
use Rattle.queue_record.proofs.Transactions.{text_stays}
use Rattle.queue_log.specs.declared.error.LogError.{LogError}
use Rattle.queue_log.specs.declared.error.LogError.TheVariants.{BadRecord, Limit, Disk, Memory}
use Rattle.queue_log.specs.declared.log.Halt.{Halt}
use Rattle.queue_log.specs.declared.logged.More.{More}
use Rattle.queue_log.specs.Files.{IsReadOf, IsReadRefusal}
use Rattle.queue_log.specs.Logged.{HasOneMore, IsBeyond, IsBeyondRefused, with_more}
use Rattle.queue_log.specs.Logs.{IsPending, IsWhole, KeepsLog, StandsForLog}
use Rattle.queue_log.specs.Reattaching.{IsFound, IsForeign, IsOfPending, IsPendingRefused, IsPendingTx, IsReattachRefused, IsReread, IsRereadRefused}
use Rattle.queue_log.specs.Stands.{IsSettled, Stands, bad_line, line_of}
use Rattle.queue_log.proofs.Readings.{cut_settles, take_length, IsCut}
use Rattle.queue_log.proofs.Settled.{image_whole, log_image, settled_stands, settles, take_all}

-- ---- lists with one more

longer : {A : Type 0} (xs : List A) (x : A) → xs ≡ xs ++ x ∷ [] → ⊥
longer xs x e = let n = ap length e in let s = length-append xs (x ∷ []) in omega arith

last_is : {A : Type 0} (xs : List A) (x y : A) → xs ++ x ∷ [] ≡ xs ++ y ∷ [] → x ≡ y
last_is [] x y e = cc
last_is (z ∷ xs) x y e = let rest : xs ++ x ∷ [] ≡ xs ++ y ∷ [] = cc in last_is xs x y rest

-- ---- what the file stands for

-- the list and the queue, or the list with the pending transaction
data Says (halt : Option Halt) (list : List (List Operation)) (queue : KeyedAds) (bytes : List ℕ) : Type 0 where
  as_logged : (fed start bytes).list ≡ list → (fed start bytes).queue ≡ queue → Says halt list queue bytes
  with_pending : (h : Halt) → halt ≡ Some h → (fed start bytes).list ≡ list ++ h.pending ∷ [] → Says halt list queue bytes

record IsRead (halt : Option Halt) (list : List (List Operation)) (queue : KeyedAds) (bytes : List ℕ) : Type 0 where
  good : (fed start bytes).refusal ≡ None
  says : Says halt list queue bytes

read_torn : (halt : Option Halt) (h : Halt) (list : List (List Operation)) (queue : KeyedAds) (base : List ℕ) (count : ℕ) → halt ≡ Some h → IsSettled list queue base → IsPending queue h.pending
    → IsRead halt list queue (base ++ take count (tx_text h.pending))
read_torn halt h list queue base count is s p = by (leb (length (tx_text h.pending)) count) refl
  where
    by : (b : Bool) → leb (length (tx_text h.pending)) count ≡ b → IsRead halt list queue (base ++ take count (tx_text h.pending))
    by true e =
        let all = take_all count (tx_text h.pending) (leb-true (length (tx_text h.pending)) count e) in
        let done = settles list queue p.after h.pending base s p p.applies in
        subst (λ z. IsRead halt list queue (base ++ z)) (sym all) (record { good = done.at_rest.good; says = with_pending h is done.listed })
    by false e =
        let r = fed start base in
        let stays = text_stays r h.pending count p.printable p.fits p.texts s.at_rest.good s.at_rest.no_part s.at_rest.none_open (leb-false (length (tx_text h.pending)) count e) in
        let joined : fed r (take count (tx_text h.pending)) ≡ fed start (base ++ take count (tx_text h.pending)) = sym (fed_append start base (take count (tx_text h.pending))) in
        let f : Stays r (fed start (base ++ take count (tx_text h.pending))) = subst (λ z. Stays r z) joined stays in
        record { good = f.good; says = as_logged (f.listed ∙ s.listed) (f.queued ∙ s.queued) }

-- what always holds of a log's file, for a reader
read_log : (halt : Option Halt) (list : List (List Operation)) (queue : KeyedAds) (bytes : List ℕ) (solid : ℕ) → KeepsLog halt list queue bytes solid → IsRead halt list queue bytes
read_log None list queue bytes solid k = record { good = k.settled.at_rest.good; says = as_logged k.settled.listed k.settled.queued }
read_log (Some h) list queue bytes solid k = subst (λ z. IsRead (Some h) list queue z) (sym k.parts) (read_torn (Some h) h list queue k.base k.count refl k.settled k.pending)

-- its lines are good
none_bad : (halt : Option Halt) (list : List (List Operation)) (queue : KeyedAds) (bytes : List ℕ) (solid line : ℕ) → KeepsLog halt list queue bytes solid → bad_line bytes ≡ Some line → ⊥
none_bad halt list queue bytes solid line k bad =
    let f = read_log halt list queue bytes solid k in
    let clash : None ≡ Some line = sym (ap line_of f.good) ∙ bad in
    cc clash

-- and it is no other list
none_other : (halt : Option Halt) (list : List (List Operation)) (queue : KeyedAds) (bytes : List ℕ) (solid : ℕ) → KeepsLog halt list queue bytes solid → IsForeign halt (fed start bytes).list list → ⊥
none_other halt list queue bytes solid k other = by (read_log halt list queue bytes solid k).says
  where
    by : Says halt list queue bytes → ⊥
    by (as_logged l q) = other.not_same l
    by (with_pending h e l) = other.not_pending h.pending (subst (λ k. IsPendingTx k h.pending) (sym e) refl) l

-- so it differs only where the store tells nothing
pub refused_by : (halt : Option Halt) (list : List (List Operation)) (queue : KeyedAds) (bytes : List ℕ) (solid : ℕ) (tells : Bool) (before now : ℕ) (e : LogError) → (tells ≡ true → KeepsLog halt list queue bytes solid)
    → IsRereadRefused halt tells bytes list before now e → IsReattachRefused tells bytes list before now e
refused_by halt list queue bytes solid tells before now (BadRecord line) k r = λ t. ⊎_elim (λ bad. none_bad halt list queue bytes solid line (k t) bad) (λ other. none_other halt list queue bytes solid (k t) other.1) (r t)
refused_by halt list queue bytes solid tells before now (Limit which) k r = r
refused_by halt list queue bytes solid tells before now Disk k r = r
refused_by halt list queue bytes solid tells before now Memory k r = r

-- ---- what the log goes on with

-- the list, or the list with the pending transaction
abbrev pub GoesOn : Option Halt → List (List Operation) → KeyedAds → List ℕ → ℕ → Option More → Type 0
GoesOn halt list queue bytes solid None = IsWhole list queue bytes solid
GoesOn halt list queue bytes solid (Some m) = IsWhole (list ++ m.tx ∷ []) m.queue bytes solid × ((h : Halt) × ((halt ≡ Some h) × (m.tx ≡ h.pending)))

-- the file that is cut, whatever is beyond the list
pub goes_on : (halt : Option Halt) (list : List (List Operation)) (queue : KeyedAds) (bytes new : List ℕ) (solid solid' : ℕ) (beyond : Option More)
    → KeepsLog halt list queue bytes solid → IsReread list bytes new solid' beyond → GoesOn halt list queue new solid' beyond
goes_on halt list queue bytes new solid solid' beyond k r = by beyond r (read_log halt list queue bytes solid k).says
  where
    by : (b : Option More) → IsReread list bytes new solid' b → Says halt list queue bytes → GoesOn halt list queue new solid' b
    by None r (as_logged l q) = record { settled = record { at_rest = r.settled.at_rest; listed = r.settled.listed; queued = r.settled.queued ∙ q }; durable = r.durable }
    by None r (with_pending h e l) = absurd (longer list h.pending (sym r.stands.listed ∙ l))
    by (Some m) r (as_logged l q) = absurd (longer list m.tx (sym l ∙ r.stands.listed))
    by (Some m) r (with_pending h e l) = (
      record { settled = record { at_rest = r.settled.at_rest; listed = r.settled.listed; queued = r.settled.queued ∙ sym r.queued }; durable = r.durable },
      (h, (e, last_is list m.tx h.pending (sym r.stands.listed ∙ l))),
    )

pending_is : (halt : Option Halt) (h : Halt) (receipt : ReceiptValue (List Operation)) → halt ≡ Some h → receipt.item ≡ h.pending → IsOfPending halt receipt
pending_is None h receipt is item = let clash : None ≡ Some h = is in absurd (cc clash)
pending_is (Some k) h receipt is item = let same : k ≡ h = cc is in item ∙ ap (λ (x : Halt). x.pending) (sym same)

-- with the receipt of the pending transaction
pub found_some : (halt : Option Halt) (list : List (List Operation)) (queue : KeyedAds) (bytes new : List ℕ) (solid solid' : ℕ) (beyond : Option More) (m : More) (receipt : ReceiptValue (List Operation))
    → KeepsLog halt list queue bytes solid → IsReread list bytes new solid' beyond → beyond ≡ Some m → receipt.item ≡ m.tx → IsFound halt list bytes new (Some receipt)
found_some halt list queue bytes new solid solid' None m receipt k r is item = let clash : None ≡ Some m = is in absurd (cc clash)
found_some halt list queue bytes new solid solid' (Some b) m receipt k r is item =
    let same : b ≡ m = cc is in
    let this : receipt.item ≡ b.tx = item ∙ ap (λ (x : More). x.tx) (sym same) in
    let g = goes_on halt list queue bytes new solid solid' (Some b) k r in
    record {
      stands = subst (λ t. Stands (list ++ t ∷ []) bytes) (sym this) r.stands;
      pending = pending_is halt g.1.0 receipt g.1.1.0 (this ∙ g.1.1.1);
      cut = r.cut;
    }

-- ---- in between

-- no less of the file is solid
pub kept_on : (halt : Option Halt) (list : List (List Operation)) (queue : KeyedAds) (file file' : Option (List ℕ)) (solid solid' : ℕ) → file' ≡ file → solid ≤ solid' → KeepsLog halt list queue (bytes_in file) solid
    → KeepsLog halt list queue (bytes_in file') solid'
kept_on halt list queue file file' solid solid' same le k = subst (λ f. KeepsLog halt list queue (bytes_in f) solid') (sym same) (by halt k)
  where
    by : (h : Option Halt) → KeepsLog h list queue (bytes_in file) solid → KeepsLog h list queue (bytes_in file) solid'
    by None k = let d = k.durable in record { settled = k.settled; durable = omega arith }
    by (Some h) k =
        let d = k.durable in
        record { base = k.base; count = k.count; settled = k.settled; durable = omega arith; pending = k.pending; parts = k.parts }

-- what a stop leaves once the file is cut
image_after : (halt : Option Halt) (list : List (List Operation)) (queue : KeyedAds) (bytes image : List ℕ) (solid : ℕ) (beyond : Option More) → GoesOn halt list queue bytes solid beyond → IsImage solid bytes image → StandsForLog halt list image
image_after None list queue bytes image solid None w i = subst (λ z. Stands list z) (sym (image_whole bytes image solid w.durable i)) (settled_stands list queue bytes w.settled)
image_after (Some h) list queue bytes image solid None w i = inl (subst (λ z. Stands list z) (sym (image_whole bytes image solid w.durable i)) (settled_stands list queue bytes w.settled))
image_after None list queue bytes image solid (Some m) w i = let clash : None ≡ Some w.1.0 = w.1.1.0 in absurd (cc clash)
image_after (Some h) list queue bytes image solid (Some m) w i =
    let here : Stands (list ++ m.tx ∷ []) image = subst (λ z. Stands (list ++ m.tx ∷ []) z) (sym (image_whole bytes image solid w.0.durable i)) (settled_stands (list ++ m.tx ∷ []) m.queue bytes w.0.settled) in
    let same_halt : w.1.0 ≡ h = let e = w.1.1.0 in cc in
    inr (subst (λ z. Stands (list ++ z ∷ []) image) (w.1.1.1 ∙ ap (λ x. x.pending) same_halt) here)

-- what it leaves before the call or after it, where the file is cut and where it isn't
pub image_cut : (halt : Option Halt) (list : List (List Operation)) (queue : KeyedAds) (bytes new image : List ℕ) (solid solid' : ℕ) (beyond : Option More) → KeepsLog halt list queue bytes solid → GoesOn halt list queue new solid' beyond
    → IsImage solid bytes image ⊎ IsImage solid' new image → StandsForLog halt list image
image_cut halt list queue bytes new image solid solid' beyond k g i = ⊎_elim (λ b. log_image halt list queue bytes image solid k b) (λ a. image_after halt list queue new image solid' beyond g a) i

pub image_kept : (halt : Option Halt) (list : List (List Operation)) (queue : KeyedAds) (bytes new image : List ℕ) (solid solid' : ℕ) → KeepsLog halt list queue bytes solid → KeepsLog halt list queue new solid'
    → IsImage solid bytes image ⊎ IsImage solid' new image → StandsForLog halt list image
image_kept halt list queue bytes new image solid solid' k k' i = ⊎_elim (λ b. log_image halt list queue bytes image solid k b) (λ a. log_image halt list queue new image solid' k' a) i

-- ---- what is read

pub reread_by : (list : List (List Operation)) (bytes new : List ℕ) (solid : ℕ) (log : ReadLog) (beyond : Option More) → length bytes < 2 ^ 64 → IsReadOf bytes log → IsBeyond log.list log.queue list beyond
    → new ≡ take log.whole bytes → log.whole ≤ solid → IsReread list bytes new solid beyond
reread_by list bytes new solid log beyond small read over is durable =
    let cut : IsCut bytes = cut_settles bytes small read.good in
    let cut_is : new ≡ take (fed start bytes).whole bytes = is ∙ ap (λ n. take n bytes) read.wholly in
    let s = subst (λ z. IsSettled (fed start bytes).list (fed start bytes).queue z) (sym cut_is) cut.settled in
    let listed : (fed start bytes).list ≡ with_more list beyond = sym read.listed ∙ over.0 in
    let long = ap length cut_is in
    let l = take_length (fed start bytes).whole bytes cut.within in
    let w = read.wholly in
    record {
      stands = record { good = read.good; listed = listed };
      queued = subst (λ q. IfSome beyond (λ m. m.queue ≡ q)) read.queued over.1;
      cut = cut_is;
      settled = record { at_rest = s.at_rest; listed = s.listed ∙ listed; queued = s.queued };
      durable = omega arith;
    }

-- why it can't be read
pub read_refused : (halt : Option Halt) (tells : Bool) (bytes : List ℕ) (list : List (List Operation)) (before now : ℕ) (e : LogError) → IsReadRefusal (λ line. tells ≡ true → bad_line bytes ≡ Some line) before now e → IsRereadRefused halt tells bytes list before now e
read_refused halt tells bytes list before now (BadRecord line) h = λ t. inl (h t)
read_refused halt tells bytes list before now (Limit which) h = absurd h
read_refused halt tells bytes list before now Disk h = h
read_refused halt tells bytes list before now Memory h = tt

-- or is of no use
pub beyond_refused : (halt : Option Halt) (tells : Bool) (bytes : List ℕ) (list : List (List Operation)) (log : ReadLog) (before now : ℕ) (e : LogError) → (tells ≡ true → IsReadOf bytes log) → IsPendingRefused halt log.list list e
    → IsRereadRefused halt tells bytes list before now e
beyond_refused halt tells bytes list log before now (BadRecord line) read h = λ t. inr (h.0, subst (λ l. IsForeign halt l list) (read t).listed h.1)
beyond_refused halt tells bytes list log before now (Limit which) read h = (h.0, h.2, λ t. subst (λ l. HasOneMore l list) (read t).listed h.1)
beyond_refused halt tells bytes list log before now Disk read h = absurd h
beyond_refused halt tells bytes list log before now Memory read h = tt

-- ---- what is pending

-- a list that is no other for any transaction is foreign
pub foreign_of : (halt : Option Halt) (list roll : List (List Operation)) (e : LogError) → IsBeyondRefused list roll e → IsPendingRefused halt list roll e
foreign_of halt list roll (BadRecord line) h = (h.0, record { not_same = h.1.not_same; not_pending = λ tx is l. h.1.not_more (tx, l) })
foreign_of halt list roll (Limit which) h = h
foreign_of halt list roll Disk h = h
foreign_of halt list roll Memory h = h

-- so is one with another transaction
pub other_pending : (halt : Option Halt) (list roll : List (List Operation)) (tx : List Operation) → (IsPendingTx halt tx → ⊥) → list ≡ roll ++ tx ∷ [] → IsForeign halt list roll
other_pending halt list roll tx other is = record {
  not_same = λ same. longer roll tx (sym same ∙ is);
  not_pending = λ pending this l. other (subst (IsPendingTx halt) (last_is roll pending tx (sym l ∙ is)) this);
}
