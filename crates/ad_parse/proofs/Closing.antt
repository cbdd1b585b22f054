-- Each state can be closed, and what takes the machine to its end is a text of the grammar.
use Rattle.std.proofs.Common.{◌≡◌, ℕ, suc, ◌+◌, ◌<◌, ◌≤◌, leb, List, [], ◌∷◌, ◌++◌, Bool, true, false, Option, Some, None, Result, Ok, Err, inl, inr, refl, sym, ap, ◌∙◌, subst, arith}
use Rattle.std.proofs.lemmas.Bool.{lt-leb, leb-false}
use Rattle.ad_value.specs.Content.{Content}
use Rattle.ad_tree.specs.declared.operator.Scope.TheVariants.{Bare, My, Target}
use Rattle.ad_tree.specs.declared.operator.UnOp.{UnOp}
use Rattle.ad_tree.specs.Tree.{Tree}
use Rattle.ad_token.specs.declared.token.Bracket.{Bracket}
use Rattle.ad_token.specs.declared.token.Bracket.TheVariants.{Round, Curly}
use Rattle.ad_token.specs.declared.token.Token.{Token}
use Rattle.ad_token.specs.declared.token.Token.TheVariants as token
use Rattle.ad_token.specs.declared.token.Placed.{Placed}
use Rattle.ad_parse.specs.declared.error.ParseError.{ParseError}
use Rattle.ad_parse.specs.Operators.{prefix_of, literal_of}
use Rattle.ad_parse.specs.Grammar.{IsCond}
use Rattle.ad_parse.specs.Reader.{is_same_bracket, is_closing_mark, cond_at}
use Rattle.ad_parse.specs.Misfit.{BeginsWithin, CanGoOn, operand_there}
use Rattle.ad_parse.proofs.Sound.{some_is, read_is_spelled}
use Rattle.ad_parse.proofs.Machine.{Frame, in_round, in_items, in_yes, Mode, wanted, wanted_or_none, there, State, closed, closed_items, next_item, other_branch, begun_with, begun_as, begun_by, begun, or_none, called, gone_on, step, step_if, step_within, is_deep, unless, is_blocked, goes, start, ends, Comes, goes_none, goes_append, shallow}
use Rattle.ad_parse.proofs.Drives.{same_bracket, close_same}
use Rattle.ad_parse.proofs.Outcomes.{Why, Outcome, CantGoOn, Ends, Cond, past_cond, past_is}
use Rattle.ad_parse.proofs.Runs.{runs}

abbrev mark : Token → Placed
mark k = record { at = 0; token = k }

-- tokens that close what is open
closers : List Frame → List Placed
closers [] = []
closers (in_round c ∷ fs) = mark (token.Close Round) ∷ closers fs
closers (in_items b c i ∷ fs) = mark (token.Close b) ∷ closers fs
closers (in_yes i ∷ fs) = mark token.Colon ∷ (operand_there ∷ closers fs)

-- the other branches may still stand
abbrev Closable : ℕ → List Frame → Type 0
Closable n [] = Unit {0}
Closable n (in_round c ∷ fs) = Closable n fs
Closable n (in_items b c i ∷ fs) = Closable n fs
Closable n (in_yes i ∷ fs) = (i < n) × Closable n fs

closes : (n : ℕ) (o : Option ℕ) (c : ℕ) (fs : List Frame) → Closable n fs → ends (goes n (Some (there o, c, fs)) (closers fs)) ≡ true
unfolding closers
closes n o c [] h = refl
closes n o c (in_round a ∷ fs) h = closes n None a fs h
closes n o c (in_items b a i ∷ fs) h = ap (λ x. ends (goes n (closed_items x a fs) (closers fs))) (same_bracket b) ∙ closes n None a fs h
closes n o c (in_yes i ∷ fs) h = ap (λ x. ends (goes n (step_if x (Some (there None, i, fs))) (closers fs))) (shallow n i h.0) ∙ closes n None i fs h.1

-- What the machine keeps: the branches that are still to come may stand.
abbrev Opened : ℕ → Bracket → List Frame → Type 0
Opened n b (in_items a c i ∷ fs) = (a ≡ b) × Closable n fs
Opened n b _ = ⊥

abbrev Kept : ℕ → Mode → List Frame → Type 0
Kept n (wanted d) fs = leb n d ≡ false → Closable n fs
Kept n (wanted_or_none b d) fs = Opened n b fs
Kept n (there o) fs = Closable n fs

opened_closable : (n : ℕ) (b : Bracket) (fs : List Frame) → Opened n b fs → Closable n fs
opened_closable n b (in_items a c i ∷ fs) h = h.1
opened_closable n b [] h = absurd h
opened_closable n b (in_round c ∷ fs) h = absurd h
opened_closable n b (in_yes i ∷ fs) h = absurd h

kept_at : (n : ℕ) (s t : State) → Some s ≡ Some t → Kept n s.0 s.2 → Kept n t.0 t.2
kept_at n s t e h = subst (λ x. Kept n x.0 x.2) (some_is s t e) h

closed_items_kept : (n : ℕ) (x : Bool) (c : ℕ) (fs : List Frame) (t : State) → Closable n fs → closed_items x c fs ≡ Some t → Kept n t.0 t.2
closed_items_kept n true c fs t h e = kept_at n _ t e h
closed_items_kept n false c fs t h e = cc

closed_kept : (n : ℕ) (b : Bracket) (fs : List Frame) (t : State) → Closable n fs → closed b fs ≡ Some t → Kept n t.0 t.2
closed_kept n b [] t h e = cc
closed_kept n Round (in_round c ∷ fs) t h e = kept_at n _ t e h
closed_kept n Curly (in_round c ∷ fs) t h e = cc
closed_kept n b (in_items a c i ∷ fs) t h e = closed_items_kept n (is_same_bracket a b) c fs t h e
closed_kept n b (in_yes i ∷ fs) t h e = cc

other_kept : (n : ℕ) (fs : List Frame) (t : State) → Closable n fs → other_branch fs ≡ Some t → Kept n t.0 t.2
other_kept n (in_yes i ∷ fs) t h e = kept_at n _ t e (λ low. h.1)
other_kept n [] t h e = cc
other_kept n (in_round c ∷ fs) t h e = cc
other_kept n (in_items b c i ∷ fs) t h e = cc

next_kept : (n : ℕ) (fs : List Frame) (t : State) → Closable n fs → next_item fs ≡ Some t → Kept n t.0 t.2
next_kept n (in_items b c i ∷ fs) t h e = kept_at n _ t e (λ low. h)
next_kept n [] t h e = cc
next_kept n (in_round c ∷ fs) t h e = cc
next_kept n (in_yes i ∷ fs) t h e = cc

called_kept : (n : ℕ) (o : Option ℕ) (c : ℕ) (fs : List Frame) (t : State) → Closable n fs → called o c fs ≡ Some t → Kept n t.0 t.2
called_kept n (Some d) c fs t h e = kept_at n _ t e (refl, h)
called_kept n None c fs t h e = cc

gone_on_kept : (n : ℕ) (o : Option ℕ) (c : ℕ) (fs : List Frame) (k : Token) (t : State) → Closable n fs → gone_on o c fs k ≡ Some t → Kept n t.0 t.2
gone_on_kept n o c fs (token.Op op) t h e = kept_at n _ t e (λ low. h)
gone_on_kept n o c fs token.Question t h e = kept_at n _ t e (λ low. (leb-false n (suc c) low, h))
gone_on_kept n o c fs token.OrElse t h e = kept_at n _ t e (λ low. h)
gone_on_kept n o c fs token.Colon t h e = other_kept n fs t h e
gone_on_kept n o c fs (token.Open Round) t h e = called_kept n o c fs t h e
gone_on_kept n o c fs (token.Close b) t h e = closed_kept n b fs t h e
gone_on_kept n o c fs token.Comma t h e = next_kept n fs t h e
gone_on_kept n o c fs _ t h e = cc

begun_with_kept : (n d c : ℕ) (fs : List Frame) (k : Token) (t : State) → Closable n fs → begun_with d c fs k ≡ Some t → Kept n t.0 t.2
begun_with_kept n d c fs (token.Name Bare x) t h e = kept_at n _ t e h
begun_with_kept n d c fs (token.Name My x) t h e = kept_at n _ t e h
begun_with_kept n d c fs (token.Name Target x) t h e = kept_at n _ t e h
begun_with_kept n d c fs (token.Open Round) t h e = kept_at n _ t e (λ low. h)
begun_with_kept n d c fs (token.Open Curly) t h e = kept_at n _ t e (refl, h)
begun_with_kept n d c fs _ t h e = cc

begun_as_kept : (n d c : ℕ) (fs : List Frame) (k : Token) (o : Option Content) (t : State) → Closable n fs → begun_as d c fs k o ≡ Some t → Kept n t.0 t.2
begun_as_kept n d c fs k (Some v) t h e = kept_at n _ t e h
begun_as_kept n d c fs k None t h e = begun_with_kept n d c fs k t h e

begun_by_kept : (n d c : ℕ) (fs : List Frame) (k : Token) (o : Option UnOp) (t : State) → Closable n fs → begun_by d c fs k o ≡ Some t → Kept n t.0 t.2
begun_by_kept n d c fs k (Some op) t h e = kept_at n _ t e (λ low. h)
begun_by_kept n d c fs k None t h e = begun_as_kept n d c fs k (literal_of k) t h e

wanted_kept : (n d c : ℕ) (fs : List Frame) (k : Token) (t : State) (x : Bool) → leb n d ≡ x → (leb n d ≡ false → Closable n fs) → step_if x (begun d c fs k) ≡ Some t → Kept n t.0 t.2
wanted_kept n d c fs k t true i h e = cc
wanted_kept n d c fs k t false i h e = begun_by_kept n d c fs k (prefix_of k) t (h i) e

item_kept : (n : ℕ) (b : Bracket) (d c : ℕ) (fs : List Frame) (k : Token) (t : State) (x : Bool) → Closable n fs → step_if (unless x (leb n d)) (or_none x b fs (begun d c fs k)) ≡ Some t → Kept n t.0 t.2
item_kept n b d c fs k t true h e = closed_kept n b fs t h e
item_kept n b d c fs k t false h e = wanted_kept n d c fs k t (leb n d) refl (λ low. h) e

step_kept : (n : ℕ) (m : Mode) (c : ℕ) (fs : List Frame) (k : Token) (t : State) → Kept n m fs → step_within n m c fs k ≡ Some t → Kept n t.0 t.2
step_kept n (wanted d) c fs k t h e = wanted_kept n d c fs k t (leb n d) refl h e
step_kept n (wanted_or_none b d) c fs k t h e = item_kept n b d c fs k t (is_closing_mark b k) (opened_closable n b fs h) e
step_kept n (there o) c fs k t h e = gone_on_kept n o c fs k t h e

goes_kept : (n : ℕ) (o : Option State) (ts : List Placed) (t : State) → ((s : State) → o ≡ Some s → Kept n s.0 s.2) → goes n o ts ≡ Some t → Kept n t.0 t.2
goes_kept n None ts t h g = let z : None ≡ Some t = sym (goes_none n ts) ∙ g in cc
goes_kept n (Some s) [] t h g = h t g
goes_kept n (Some s) (p ∷ ts) t h g = goes_kept n (step_within n s.0 s.1 s.2 p.token) ts t (λ u e. step_kept n s.0 s.1 s.2 p.token u (h s refl) e) g

start_kept : (n : ℕ) (s : State) → Some start ≡ Some s → Kept n s.0 s.2
start_kept n s e = kept_at n start s e (λ low. tt)

-- whether the operand that must come would stand too deep
abbrev pub is_shut : ℕ → Mode → Bool
is_shut n (wanted d) = leb n d
is_shut n (wanted_or_none b d) = false
is_shut n (there o) = false

opened_closes : (n : ℕ) (b : Bracket) (d c : ℕ) (fs : List Frame) → Opened n b fs → (more : List Placed) × (ends (goes n (Some (wanted_or_none b d, c, fs)) more) ≡ true)
opened_closes n b d c (in_items a e i ∷ fs) h = (
  mark (token.Close b) ∷ closers fs,
  ap (λ x. ends (goes n (step_if (unless x (leb n d)) (or_none x b (in_items a e i ∷ fs) None)) (closers fs))) (close_same b)
      ∙ ap (λ x. ends (goes n (closed_items (is_same_bracket x b) e fs) (closers fs))) h.0
      ∙ ap (λ x. ends (goes n (closed_items x e fs) (closers fs))) (same_bracket b) ∙ closes n None e fs h.1,
)
opened_closes n b d c [] h = absurd h
opened_closes n b d c (in_round e ∷ fs) h = absurd h
opened_closes n b d c (in_yes i ∷ fs) h = absurd h

can_close : (n : ℕ) (m : Mode) (c : ℕ) (fs : List Frame) → Kept n m fs → is_shut n m ≡ false → (more : List Placed) × (ends (goes n (Some (m, c, fs)) more) ≡ true)
can_close n (wanted d) c fs h low = (operand_there ∷ closers fs, ap (λ x. ends (goes n (step_if x (Some (there None, c, fs))) (closers fs))) low ∙ closes n None c fs (h low))
can_close n (wanted_or_none b d) c fs h low = opened_closes n b d c fs h
can_close n (there o) c fs h low = (closers fs, closes n o c fs h)

-- the rest of what goes to the end goes there too
rest_ends : (n : ℕ) (s t : State) (ts us : List Placed) → Comes n s ts t us → ends (goes n (Some s) ts) ≡ true → ends (goes n (Some t) us) ≡ true
rest_ends n s t ts us c h = ap (λ o. ends (goes n o us)) (sym c.leads) ∙ ap ends (sym (goes_append n (Some s) c.taken us)) ∙ ap (λ x. ends (goes n (Some s) x)) (sym c.parts) ∙ h

pub none_ends : (n : ℕ) (us : List Placed) → ends (goes n None us) ≡ true → ⊥
none_ends n us h = let z : false ≡ true = ap ends (sym (goes_none n us)) ∙ h in cc

pub step_if_none : (b : Bool) → step_if b None ≡ None
step_if_none true = refl
step_if_none false = refl

no_top : (k : Token) → past_cond [] k ≡ None
no_top token.Colon = refl
no_top (token.Close b) = refl
no_top token.Comma = refl
no_top _ = refl

-- after a whole condition nothing goes on
pub top_stops : (o : Option ℕ) (c : ℕ) (k : Token) → CantGoOn o k → gone_on o c [] k ≡ None
top_stops o c k h = past_is o c [] k h ∙ no_top k

nothing_left : (n : ℕ) (o : Option ℕ) (c : ℕ) (us : List Placed) → Ends o us → ends (goes n (Some (there o, c, [])) us) ≡ true → us ≡ []
nothing_left n o c [] e h = refl
nothing_left n o c (p ∷ us) e h = absurd (none_ends n us (ap (λ x. ends (goes n x us)) (sym (top_stops o c p.token e)) ∙ h))

not_stuck : (n : ℕ) (s : State) (us : List Placed) (f : ParseError) → Why 0 n s us f → ends (goes n (Some s) us) ≡ true → ⊥
not_stuck n s [] f w h = let z : false ≡ true = sym w.1 ∙ h in cc
not_stuck n s (p ∷ us) f (inl w) h =
    none_ends n us (ap (λ x. ends (goes n x us)) (sym (ap (step_if (is_blocked n s.0 p.token)) w.1 ∙ step_if_none (is_blocked n s.0 p.token))) ∙ h)
not_stuck n s (p ∷ us) f (inr w) h = none_ends n us (ap (λ x. ends (goes n (step_if x (step s.0 s.1 s.2 p.token)) us)) (sym w.1) ∙ h)

text_by : (n : ℕ) (ts : List Placed) (r : Result (Tree × List Placed) ParseError) → cond_at 0 n ts ≡ r → Outcome 0 n Cond [] start ts r → ends (goes n (Some start) ts) ≡ true → (e : Tree) × IsCond n ts e []
text_by n ts (Ok x) is k h =
    let z = nothing_left n k.name k.depth x.1 k.found (rest_ends n start (there k.name, k.depth, []) ts x.1 k.comes h) in
    (x.0, subst (λ us. IsCond n ts x.0 us) z ((read_is_spelled 0 n).conds ts x.1 x.0 is))
text_by n ts (Err f) is k h = absurd (not_stuck n k.state k.left f k.why (rest_ends n start k.state ts k.left k.comes h))

-- What takes the machine to its end is a text of the grammar.
pub is_text : (n : ℕ) (ts : List Placed) → ends (goes n (Some start) ts) ≡ true → (e : Tree) × IsCond n ts e []
is_text n ts h = text_by n ts (cond_at 0 n ts) refl ((runs 0 n n).conds 0 (omega arith) [] ts).outcome h

-- What the machine takes begins a text of the grammar, unless an operand must come that would stand too deep.
pub begins_within : (n : ℕ) (ts : List Placed) (s : State) → goes n (Some start) ts ≡ Some s → is_shut n s.0 ≡ false → BeginsWithin n ts
begins_within n ts s h low =
    let kept = goes_kept n (Some start) ts s (start_kept n) h in
    let more = can_close n s.0 s.1 s.2 kept low in
    let w = is_text n (ts ++ more.0) (ap ends (goes_append n (Some start) ts more.0) ∙ ap (λ o. ends (goes n o more.0)) h ∙ more.1) in
    (more.0, w.0, w.1)

-- a wider limit
unless_wider : (n m : ℕ) → n ≤ m → (x : Bool) (d : ℕ) → unless x (leb n d) ≡ false → unless x (leb m d) ≡ false
unless_wider n m fit true d h = refl
unless_wider n m fit false d h = let low = leb-false n d h in lt-leb m d (omega arith)

blocked_wider : (n m : ℕ) → n ≤ m → (s : Mode) (k : Token) → is_blocked n s k ≡ false → is_blocked m s k ≡ false
blocked_wider n m fit (wanted d) k h = unless_wider n m fit false d h
blocked_wider n m fit (wanted_or_none b d) k h = unless_wider n m fit (is_closing_mark b k) d h
blocked_wider n m fit (there o) k h = refl

step_wider : (m : ℕ) (x y : Bool) (o : Option State) (ts : List Placed) (t : State) → (x ≡ false → y ≡ false) → goes m (step_if x o) ts ≡ Some t → goes m (step_if y o) ts ≡ Some t
step_wider m true y o ts t f h = let z : None ≡ Some t = sym (goes_none m ts) ∙ h in cc
step_wider m false y o ts t f h = ap (λ b. goes m (step_if b o) ts) (f refl) ∙ h

goes_on_wider : (n m : ℕ) → n ≤ m → (o : Option State) (ts : List Placed) (t : State) → goes n o ts ≡ Some t → goes m o ts ≡ Some t
goes_on_wider n m fit None ts t h = let z : None ≡ Some t = sym (goes_none n ts) ∙ h in cc
goes_on_wider n m fit (Some s) [] t h = h
goes_on_wider n m fit (Some s) (p ∷ ts) t h =
    step_wider m (is_blocked n s.0 p.token) (is_blocked m s.0 p.token) (step s.0 s.1 s.2 p.token) ts t (blocked_wider n m fit s.0 p.token) (goes_on_wider n m fit (step_within n s.0 s.1 s.2 p.token) ts t h)

pub goes_wider : (n m : ℕ) → n ≤ m → (s : State) (ts : List Placed) (t : State) → goes n (Some s) ts ≡ Some t → goes m (Some s) ts ≡ Some t
goes_wider n m fit s ts t h = goes_on_wider n m fit (Some s) ts t h

-- a limit at which the operand may stand
abbrev pub room : ℕ → Mode → ℕ
room n (wanted d) = n + d + 1
room n (wanted_or_none b d) = n + d + 1
room n (there o) = n

pub room_fits : (n : ℕ) (m : Mode) → n ≤ room n m
room_fits n (wanted d) = omega arith
room_fits n (wanted_or_none b d) = omega arith
room_fits n (there o) = omega arith

pub room_deep : (n : ℕ) (m : Mode) → is_deep (room n m) m ≡ false
room_deep n (wanted d) = lt-leb (n + d + 1) d (omega arith)
room_deep n (wanted_or_none b d) = lt-leb (n + d + 1) d (omega arith)
room_deep n (there o) = refl

pub room_open : (n : ℕ) (m : Mode) → is_shut (room n m) m ≡ false
room_open n (wanted d) = lt-leb (n + d + 1) d (omega arith)
room_open n (wanted_or_none b d) = refl
room_open n (there o) = refl

-- What the machine takes with some limit begins a text of the grammar.
pub alive : (n : ℕ) (ts : List Placed) (s : State) → goes n (Some start) ts ≡ Some s → CanGoOn ts
alive n ts s h = (room n s.0, begins_within (room n s.0) ts s (goes_wider n (room n s.0) (room_fits n s.0) start ts s h) (room_open n s.0))
