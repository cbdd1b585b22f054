use Rattle.std.proofs.Common.{List, ap, get_or, sym, take, ℕ, [], ◌+◌, ◌++◌, ◌<◌, ◌∙◌, ◌∷◌, ◌≡◌, length}
use Rattle.std.proofs.lemmas.List.{take_all, take_more}
use Rattle.pool_core.proofs.history.copy_numbers.Goals as goal

-- the next number comes to the copy
one_more : (numbers : List ℕ) (i d : ℕ) (before after : List ℕ) → i < length numbers → before ≡ take i numbers → after ≡ before ++ get_or numbers i d ∷ [] → after ≡ take (i + 1) numbers
one_more numbers i d before after less so_far pushed = pushed ∙ ap (λ (l : List ℕ). l ++ get_or numbers i d ∷ []) so_far ∙ sym (take_more numbers i d less)

pub loop-number-preserved : goal.loop-number-preserved
loop-number-preserved c = one_more c.args.numbers.now c.loop-number.number-index 0 c.loop-number.copied c.push.new.self c.loop-number-test.true c.loop-number.invariant c.in_ok-push.ensures.ok

pub returns : goal.returns
returns c = c.loop-number.invariant ∙ take_all c.loop-number.number-index c.args.numbers.now c.loop-number-test.false
