use Rattle.std.proofs.Common.{◌≡◌, ◌∙◌, ◌++◌, ◌∷◌, ◌+◌, ◌<◌, ◌≤◌, [], List, length, ℕ, OnOk, ap, sym, subst, append_assoc, arith}
use Rattle.std.specs.Vec.Iter.{into_iter_items}
use Rattle.queue_tx.specs.Operations.{Operation}
use Rattle.queue_log.proofs.logged.fill.Goals as goal

-- the first of the rest goes to the end of the list
one_more : (list list' rest rest' whole : List (List Operation)) (tx : List Operation) → list ++ rest ≡ whole → rest ≡ tx ∷ rest' → list' ≡ list ++ tx ∷ [] → list' ++ rest' ≡ whole
one_more list list' rest rest' whole tx so_far next now =
    ap (λ (l : List (List Operation)). l ++ rest') now ∙ append_assoc list (tx ∷ []) rest' ∙ ap (λ (l : List (List Operation)). list ++ l) (sym next) ∙ so_far

-- and takes room for one
less_room : (rest rest' : List (List Operation)) (tx : List Operation) (spare spare' : ℕ) → length rest ≤ spare → rest ≡ tx ∷ rest' → (0 < spare → spare' + 1 ≡ spare) → length rest' ≤ spare'
less_room rest rest' tx spare spare' room next takes =
    let long = ap length next in
    let one = takes (omega arith) in
    omega arith

pub items-preserved : goal.items-preserved
items-preserved c =
    let old = c.items.roll in
    let new = c.append.new.self in
    let rest = into_iter_items c.items.tx-iterator in
    let rest' = into_iter_items c.next.new.self in
    let tx = c.in-Some.tx in
    let next = c.in-Some.ensures.steps.0 in
    let listed : new.list ≡ old.list ++ tx ∷ [] = subst (λ r. OnOk r (new.list ≡ old.list ++ tx ∷ [])) c.unwrap-receipt.ensures c.append.ensures.list in
    record {
      list = one_more old.list new.list rest rest' _ tx c.items.invariant.list next listed;
      room = less_room rest rest' tx old.spare new.spare c.items.invariant.room next c.append.ensures.spare;
    }
