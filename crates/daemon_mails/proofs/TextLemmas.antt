-- Texts that are written piece by piece, where the last piece may fail.
use Rattle.std.specs.Prelude.{IfSome}
use Rattle.std.proofs.Common.{◌≡◌, ℕ, List, ◌++◌, Option, Result, Ok, Err, OnOk, is_ok, if◌then◌else◌, ap, sym, subst, ◌∙◌, append_assoc}

-- two pieces
added : (s t u a b : List ℕ) → t ≡ s ++ a → u ≡ t ++ b → u ≡ s ++ (a ++ b)
added s t u a b first second = second ∙ ap (λ x. x ++ b) first ∙ append_assoc s a b

pub pushed : {E : Type 0} (r : Result (Unit {0}) E) (s t a : List ℕ) → t ≡ (if is_ok r then s ++ a else s) → OnOk r (t ≡ s ++ a)
pushed (Ok o) s t a more = more
pushed (Err o) s t a more = tt

pub two_added : {E : Type 0} (r : Result (Unit {0}) E) (s t u a b : List ℕ) → t ≡ s ++ a → OnOk r (u ≡ t ++ b) → OnOk r (u ≡ s ++ (a ++ b))
two_added (Ok o) s t u a b one two = added s t u a b one two
two_added (Err o) s t u a b one two = tt

pub three_added : {E : Type 0} (r : Result (Unit {0}) E) (s t u v a b c : List ℕ) → t ≡ s ++ a → u ≡ t ++ b → OnOk r (v ≡ u ++ c) → OnOk r (v ≡ s ++ (a ++ (b ++ c)))
three_added r s t u v a b c one two three = two_added r s t v a (b ++ c) one (two_added r t u v b c two three)

pub four_added : {E : Type 0} (r : Result (Unit {0}) E) (s t u v w a b c d : List ℕ) → t ≡ s ++ a → u ≡ t ++ b → v ≡ u ++ c → OnOk r (w ≡ v ++ d) → OnOk r (w ≡ s ++ (a ++ (b ++ (c ++ d))))
four_added r s t u v w a b c d one two three four = two_added r s t w a (b ++ (c ++ d)) one (three_added r t u v w b c d two three four)

pub six_added : {E : Type 0} (r : Result (Unit {0}) E) (s t u v w x y a b c d e f : List ℕ) → t ≡ s ++ a → u ≡ t ++ b → v ≡ u ++ c → w ≡ v ++ d → x ≡ w ++ e → y ≡ (if is_ok r then x ++ f else x) → OnOk r (y ≡ s ++ (a ++ (b ++ (c ++ (d ++ (e ++ f))))))
six_added r s t u v w x y a b c d e f one two three four five six =
    two_added r s t y a (b ++ (c ++ (d ++ (e ++ f)))) one (two_added r t u y b (c ++ (d ++ (e ++ f))) two (four_added r u v w x y c d e f three four five (pushed r x y f six)))

-- the first has a name and a mark
pub after_name : {E : Type 0} (r : Result (Unit {0}) E) (s t u name mark b : List ℕ) → t ≡ s ++ (name ++ mark) → OnOk r (u ≡ t ++ b) → OnOk r (u ≡ s ++ (name ++ (mark ++ b)))
after_name (Ok o) s t u name mark b one two = added s t u (name ++ mark) b one two ∙ ap (λ x. s ++ x) (append_assoc name mark b)
after_name (Err o) s t u name mark b one two = tt

-- the text of x, where x is known to be y
pub known : {X E : Type 0} (text : X → List ℕ) (r : Result (Unit {0}) E) (s t : List ℕ) (x y : X) → x ≡ y → OnOk r (t ≡ s ++ text y) → OnOk r (t ≡ s ++ text x)
known text r s t x y same written = subst (λ z. OnOk r (t ≡ s ++ text z)) (sym same) written

-- the same where not each x has a text
pub known_some : {X E : Type 0} (text : X → Option (List ℕ)) (r : Result (Unit {0}) E) (s t : List ℕ) (x y : X) → x ≡ y → IfSome (text y) (λ a. OnOk r (t ≡ s ++ a)) → IfSome (text x) (λ a. OnOk r (t ≡ s ++ a))
known_some text r s t x y same written = subst (λ z. IfSome (text z) (λ a. OnOk r (t ≡ s ++ a))) (sym same) written
