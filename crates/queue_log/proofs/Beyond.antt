-- What a list that was read has beyond the roll.
use Rattle.std.proofs.Common.{◌≡◌, ℕ, ◌+◌, ◌<◌, ◌≤◌, List, [], ◌∷◌, ◌++◌, length, Option, Some, None, MatchOption, Result, Ok, Err, IfOk, IsSomeAnd, refl, ap, sym, ◌∙◌, arith, length-append}
use Rattle.queue_tx.specs.declared.error.ApplyError.{ApplyError}
use Rattle.queue_tx.specs.Operations.{Operation}
use Rattle.queue_tx.specs.Queues.{KeyedAds, QueueOf, after_rest, queue_after, queue_after_all}
use Rattle.queue_log.specs.declared.error.LogError.{LogError}
use Rattle.queue_log.specs.declared.logged.More.{More}
use Rattle.queue_log.specs.Logged.{IsBeyond, IsOtherList}

-- how a list is split at its last transaction
abbrev pub IsSplit : List (List Operation) → List (List Operation) → ℕ → Option (List Operation) → Type 0
IsSplit list txs count last = MatchOption last ((txs ≡ list) × (length list ≤ count)) (λ tx. (list ≡ txs ++ tx ∷ []) × (count < length list))

longer : (xs : List (List Operation)) (x : List Operation) → length (xs ++ x ∷ []) ≡ length xs + 1
longer xs x = omega (arith, length-append xs (x ∷ []))

init_is : (xs ys : List (List Operation)) (x y : List Operation) → xs ++ x ∷ [] ≡ ys ++ y ∷ [] → xs ≡ ys
init_is [] [] x y e = refl
init_is [] (z ∷ ys) x y e = let n = ap length e in let s = longer ys y in absurd (omega arith)
init_is (z ∷ xs) [] x y e = let n = ap length e in let s = longer xs x in absurd (omega arith)
init_is (z ∷ xs) (w ∷ ys) x y e =
    let first : z ≡ w = cc in
    let rest : xs ++ x ∷ [] ≡ ys ++ y ∷ [] = cc in
    let same : xs ≡ ys = init_is xs ys x y rest in
    cc (first, same)

pub other_list : (list txs roll : List (List Operation)) (last : Option (List Operation)) → IsSplit list txs (length roll) last → (txs ≡ roll → ⊥) → IsOtherList list roll
other_list list txs roll None split differs = record {
  not_same = λ e. differs (split.0 ∙ e);
  not_more = λ one. (let n = ap length one.1 in let s = longer roll one.0 in let le = split.1 in omega arith);
}
other_list list txs roll (Some tx) split differs = record {
  not_same = λ e. (let n = ap length e in let far = split.1 in omega arith);
  not_more = λ one. differs (init_is txs roll tx one.0 (sym split.0 ∙ one.1));
}

pub none_beyond : (list txs roll : List (List Operation)) (count : ℕ) (queue : KeyedAds) (last : Option (List Operation)) → IsSplit list txs count last → last ≡ None → txs ≡ roll → IsBeyond list queue roll None
none_beyond list txs roll count queue None split is same = (sym split.0 ∙ same, tt)
none_beyond list txs roll count queue (Some tx) split is same = absurd (cc is)

pub one_beyond : (list txs roll : List (List Operation)) (count : ℕ) (last : Option (List Operation)) (tx : List Operation) → IsSplit list txs count last → last ≡ Some tx → txs ≡ roll → list ≡ roll ++ tx ∷ []
one_beyond list txs roll count None tx split is same = absurd (cc is)
one_beyond list txs roll count (Some t) tx split is same =
    let this : t ≡ tx = cc is in
    split.0 ∙ ap (λ (l : List (List Operation)). l ++ t ∷ []) same ∙ ap (λ (x : List Operation). roll ++ x ∷ []) this

pub more_beyond : (list roll : List (List Operation)) (queue : KeyedAds) (tx : List Operation) (r : Result (Option More) LogError) → list ≡ roll ++ tx ∷ [] → IfOk r (λ more. IsSomeAnd more (λ m. (m.tx ≡ tx) × (m.queue ≡ queue)))
    → IfOk r (IsBeyond list queue roll)
more_beyond list roll queue tx (Ok (Some m)) is h = (is ∙ ap (λ (x : List Operation). roll ++ x ∷ []) (sym h.0), h.1)
more_beyond list roll queue tx (Ok None) is h = absurd h
more_beyond list roll queue tx (Err e) is h = tt

-- ---- the queue of a list with one more

last_alone : (tx : List Operation) (q : KeyedAds) (r : Result KeyedAds ApplyError) → after_rest (λ p. Ok p) r ≡ Ok q → r ≡ Ok q
last_alone tx q (Ok p) e = e
last_alone tx q (Err f) e = absurd (cc e)

last_from : (first : KeyedAds) (txs : List (List Operation)) (tx : List Operation) (queue next : KeyedAds) → queue_after_all first txs ≡ Ok queue → queue_after_all first (txs ++ tx ∷ []) ≡ Ok next
    → queue_after queue tx ≡ Ok next
last_from first [] tx queue next done more =
    let same : first ≡ queue = cc in
    ap (λ q. queue_after q tx) (sym same) ∙ last_alone tx next (queue_after first tx) more
last_from first (t ∷ txs) tx queue next done more = by (queue_after first t) (λ p. last_from p txs tx queue next) done more
  where
    by : (r : Result KeyedAds ApplyError) → ((p : KeyedAds) → queue_after_all p txs ≡ Ok queue → queue_after_all p (txs ++ tx ∷ []) ≡ Ok next → queue_after queue tx ≡ Ok next)
        → after_rest (λ p. queue_after_all p txs) r ≡ Ok queue → after_rest (λ p. queue_after_all p (txs ++ tx ∷ [])) r ≡ Ok next → queue_after queue tx ≡ Ok next
    by (Ok p) on d m = on p d m
    by (Err e) on d m = absurd (cc d)

-- what the last transaction of a list does to the queue before it
pub last_applies : (txs : List (List Operation)) (tx : List Operation) (queue next : KeyedAds) → QueueOf txs queue → QueueOf (txs ++ tx ∷ []) next → queue_after queue tx ≡ Ok next
last_applies txs tx queue next done more = last_from [] txs tx queue next done more
