-- A text that is written in two pieces, where the last may fail.
use Rattle.std.proofs.Common.{◌≡◌, ℕ, List, ◌++◌, Result, Ok, Err, OnOk, ap, ◌∙◌, append_assoc}

-- the first has a name, a value and a mark
pub after_mark : {E : Type 0} (r : Result (Unit {0}) E) (s t u name value mark b : List ℕ) → t ≡ s ++ (name ++ (value ++ mark)) → OnOk r (u ≡ t ++ b) → OnOk r (u ≡ s ++ (name ++ (value ++ (mark ++ b))))
after_mark (Ok o) s t u name value mark b first second =
    second
    ∙ ap (λ x. x ++ b) first
    ∙ append_assoc s (name ++ (value ++ mark)) b
    ∙ ap (λ x. s ++ x) (append_assoc name (value ++ mark) b ∙ ap (λ x. name ++ x) (append_assoc value mark b))
after_mark (Err o) s t u name value mark b first second = tt
