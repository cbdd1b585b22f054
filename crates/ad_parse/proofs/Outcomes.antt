-- What a reader does on the machine: it takes it to where an operand stands, or to where the machine is stuck.
use Rattle.std.proofs.Common.{◌≡◌, ℕ, suc, ◌<◌, ◌≤◌, List, [], ◌∷◌, length, Bool, true, false, cond, Option, Some, None, Result, Ok, Err, ◌⊎◌, inl, inr, if◌then◌else◌, refl, sym, ap, ◌∙◌, subst, arith}
use Rattle.std.proofs.lemmas.Bool.{eq-eqb}
use Rattle.std.proofs.Math.Nat.{eq-or-lt_of_le}
use Rattle.ad_tree.specs.declared.operator.BinOp.{BinOp}
use Rattle.ad_tree.specs.declared.operator.BinOp.TheVariants as bin
use Rattle.ad_token.specs.declared.token.Bracket.TheVariants.{Round}
use Rattle.ad_token.specs.declared.token.Token.{Token}
use Rattle.ad_token.specs.declared.token.Token.TheVariants as token
use Rattle.ad_token.specs.declared.token.Placed.{Placed}
use Rattle.ad_parse.specs.declared.error.ParseError.{ParseError}
use Rattle.ad_parse.specs.declared.error.ParseError.TheVariants as fault
use Rattle.ad_parse.specs.Operators.{level_of}
use Rattle.ad_parse.specs.Reader.{◌>>=◌, misplaced_token, depth_refusal_at, pass_mark, infix_of, infix_at, open_of, open_at}
use Rattle.ad_parse.proofs.Machine.{Frame, there, State, closed, next_item, other_branch, called, gone_on, step, is_deep, is_blocked, is_end, Comes, stays, comes_on, comes_shorter, one}

-- why the machine is stuck before these tokens
abbrev pub Why : ℕ → ℕ → State → List Placed → ParseError → Type 0
Why end m s [] f = (f ≡ fault.Syntax end) × (is_end s.0 s.2 ≡ false)
Why end m s (p ∷ us) f = ((f ≡ misplaced_token p.token p.at) × (step s.0 s.1 s.2 p.token ≡ None) × (is_deep m s.0 ≡ false)) ⊎ ((f ≡ depth_refusal_at p.token p.at) × (is_blocked m s.0 p.token ≡ true))

pub record Stuck (end m : ℕ) (s : State) (ts : List Placed) (f : ParseError) : Type 0 where
  pub state : State
  pub left : List Placed
  pub comes : Comes m s ts state left
  pub why : Why end m state left f

-- to where an operand stands
pub record Reached (Q : Option ℕ → ℕ → List Placed → Type 0) (m : ℕ) (fs : List Frame) (s : State) (ts us : List Placed) : Type 0 where
  pub name : Option ℕ
  pub depth : ℕ
  pub comes : Comes m s ts (there name, depth, fs) us
  pub found : Q name depth us

abbrev pub Outcome : {A : Type 0} → ℕ → ℕ → (Option ℕ → ℕ → List Placed → Type 0) → List Frame → State → List Placed → Result (A × List Placed) ParseError → Type 0
Outcome end m Q fs s ts (Ok x) = Reached Q m fs s ts x.1
Outcome end m Q fs s ts (Err f) = Stuck end m s ts f

pub record Does {A : Type 0} (end m : ℕ) (Q : Option ℕ → ℕ → List Placed → Type 0) (fs : List Frame) (s : State) (ts : List Placed) (r : Result (A × List Placed) ParseError) : Type 0 where
  pub outcome : Outcome end m Q fs s ts r

-- no operator of a level up to l goes on
abbrev pub Past : ℕ → List Placed → Type 0
Past l [] = Unit {0}
Past l (p ∷ us) = (op : BinOp) → p.token ≡ token.Op op → l < level_of op

-- no bracket goes on with a call
abbrev pub Uncalled : Option ℕ → List Placed → Type 0
Uncalled o [] = Unit {0}
Uncalled o (p ∷ us) = p.token ≡ token.Open Round → o ≡ None

pub record Level (l c : ℕ) (o : Option ℕ) (e : ℕ) (us : List Placed) : Type 0 where
  pub same : e ≡ c
  pub uncalled : Uncalled o us
  pub past : Past l us

-- nothing goes on
pub record CantGoOn (o : Option ℕ) (k : Token) : Type 0 where
  pub operator : (op : BinOp) → k ≡ token.Op op → ⊥
  pub question : k ≡ token.Question → ⊥
  pub or_else : k ≡ token.OrElse → ⊥
  pub call : k ≡ token.Open Round → o ≡ None

abbrev pub Ends : Option ℕ → List Placed → Type 0
Ends o [] = Unit {0}
Ends o (p ∷ us) = CantGoOn o p.token

abbrev pub Cond : Option ℕ → ℕ → List Placed → Type 0
Cond o c us = Ends o us

-- what may follow a whole condition
abbrev pub past_cond : List Frame → Token → Option State
past_cond fs token.Colon = other_branch fs
past_cond fs (token.Close b) = closed b fs
past_cond fs token.Comma = next_item fs
past_cond fs _ = None

pub past_is : (o : Option ℕ) (c : ℕ) (fs : List Frame) (k : Token) → CantGoOn o k → gone_on o c fs k ≡ past_cond fs k
past_is o c fs (token.Op op) h = absurd (h.operator op refl)
past_is o c fs token.Question h = absurd (h.question refl)
past_is o c fs token.OrElse h = absurd (h.or_else refl)
past_is o c fs (token.Open Round) h = ap (λ x. called x c fs) (h.call refl)
past_is o c fs _ h = refl

level_bounds : (op : BinOp) → (0 < level_of op) × (level_of op ≤ 6)
level_bounds bin.Multiply = (omega arith, omega arith)
level_bounds bin.Divide = (omega arith, omega arith)
level_bounds bin.Modulo = (omega arith, omega arith)
level_bounds bin.Add = (omega arith, omega arith)
level_bounds bin.Subtract = (omega arith, omega arith)
level_bounds bin.Less = (omega arith, omega arith)
level_bounds bin.LessEqual = (omega arith, omega arith)
level_bounds bin.GreaterEqual = (omega arith, omega arith)
level_bounds bin.Greater = (omega arith, omega arith)
level_bounds bin.Equal = (omega arith, omega arith)
level_bounds bin.NotEqual = (omega arith, omega arith)
level_bounds bin.Same = (omega arith, omega arith)
level_bounds bin.NotSame = (omega arith, omega arith)
level_bounds bin.And = (omega arith, omega arith)
level_bounds bin.Or = (omega arith, omega arith)

pub past_zero : (us : List Placed) → Past 0 us
past_zero [] = tt
past_zero (p ∷ us) = λ op i. (level_bounds op).0

pub past_six : (p : Placed) (us : List Placed) → Past 6 (p ∷ us) → (op : BinOp) → p.token ≡ token.Op op → ⊥
past_six p us h op i = let a = h op i in let b = (level_bounds op).1 in absurd (omega arith)

some_here : (l : ℕ) (op : BinOp) (ts : List Placed) → level_of op ≡ l → infix_of l (token.Op op) ts ≡ Some (op, ts)
some_here l op ts h = ap (λ b. cond b (Some (op, ts)) None) (eq-eqb (level_of op) l h)

past_by : (l : ℕ) (p : Placed) (ts : List Placed) (op : BinOp) → infix_of (suc l) p.token ts ≡ None → p.token ≡ token.Op op → (suc l ≡ level_of op) ⊎ (suc l < level_of op) → suc l < level_of op
past_by l p ts op none i (inl e) =
    let here : infix_of (suc l) p.token ts ≡ Some (op, ts) = ap (λ k. infix_of (suc l) k ts) i ∙ some_here (suc l) op ts (sym e) in
    absurd (cc)
past_by l p ts op none i (inr h) = h

pub past_next : (l : ℕ) (ts : List Placed) → Past l ts → infix_at (suc l) ts ≡ None → Past (suc l) ts
past_next l [] h none = tt
past_next l (p ∷ ts) h none = λ op i. let low = h op i in past_by l p ts op none i (eq-or-lt_of_le low)

pub unopened : (o : Option ℕ) (ts : List Placed) → open_at ts ≡ None → Uncalled o ts
unopened o [] h = tt
unopened o (p ∷ ts) h = λ i. let here : open_of p.token ts ≡ Some ts = ap (λ k. open_of k ts) i in cc

pub uncalled_none : (ts : List Placed) → Uncalled None ts
uncalled_none [] = tt
uncalled_none (p ∷ ts) = λ i. refl

-- how the outcomes of readers are put together
module _ (end m : ℕ) where
  pub does_ok : {A : Type 0} {Q : Option ℕ → ℕ → List Placed → Type 0} {fs : List Frame} (o : Option ℕ) (c : ℕ) (x : A) (us : List Placed) → Q o c us → Does {A = A} end m Q fs (there o, c, fs) us (Ok (x, us))
  does_ok {fs = fs} o c x us h = record { outcome = record { name = o; depth = c; comes = stays m (there o, c, fs) us; found = h } }

  pub does_err : {A : Type 0} {Q : Option ℕ → ℕ → List Placed → Type 0} {fs : List Frame} (s : State) (ts : List Placed) (f : ParseError) → Why end m s ts f → Does {A = A} end m Q fs s ts (Err f)
  does_err s ts f h = record { outcome = record { state = s; left = ts; comes = stays m s ts; why = h } }

  after_by : {A : Type 0} {Q : Option ℕ → ℕ → List Placed → Type 0} {fs : List Frame} (s t : State) (ts us : List Placed) (r : Result (A × List Placed) ParseError) → Comes m s ts t us → Does end m Q fs t us r → Outcome end m Q fs s ts r
  after_by {fs = fs} s t ts us (Ok x) a h = let h = h.outcome in record { name = h.name; depth = h.depth; comes = comes_on m s t (there h.name, h.depth, fs) ts us x.1 a h.comes; found = h.found }
  after_by s t ts us (Err f) a h = let h = h.outcome in record { state = h.state; left = h.left; comes = comes_on m s t h.state ts us h.left a h.comes; why = h.why }

  pub does_after : {A : Type 0} {Q : Option ℕ → ℕ → List Placed → Type 0} {fs : List Frame} (s t : State) (ts us : List Placed) (r : Result (A × List Placed) ParseError) → Comes m s ts t us → Does end m Q fs t us r → Does end m Q fs s ts r
  does_after s t ts us r a h = record { outcome = after_by s t ts us r a h }

  pub does_bind : {A B : Type 0} {P Q : Option ℕ → ℕ → List Placed → Type 0} {gs fs : List Frame} (s : State) (ts : List Placed) (r : Result (A × List Placed) ParseError) (f : A × List Placed → Result (B × List Placed) ParseError)
      → Does end m P gs s ts r → ((x : A × List Placed) (o : Option ℕ) (c : ℕ) → length x.1 ≤ length ts → P o c x.1 → Does end m Q fs (there o, c, gs) x.1 (f x)) → Does end m Q fs s ts (r >>= f)
  does_bind {gs = gs} s ts (Ok x) f h k = let h = h.outcome in does_after s (there h.name, h.depth, gs) ts x.1 (f x) h.comes (k x h.name h.depth (comes_shorter m s (there h.name, h.depth, gs) ts x.1 h.comes) h.found)
  does_bind s ts (Err e) f h k = record { outcome = h.outcome }

  pub does_if : {A : Type 0} {Q : Option ℕ → ℕ → List Placed → Type 0} {fs : List Frame} (s : State) (ts : List Placed) (b : Bool) (x y : Result (A × List Placed) ParseError) → (b ≡ true → Does end m Q fs s ts x) → (b ≡ false → Does end m Q fs s ts y) → Does end m Q fs s ts (cond b x y)
  does_if s ts true x y f g = f refl
  does_if s ts false x y f g = g refl

  pub does_at : {A : Type 0} {Q : Option ℕ → ℕ → List Placed → Type 0} {gs fs : List Frame} (o : Option ℕ) (c d : ℕ) (ts : List Placed) (r : Result (A × List Placed) ParseError) → d ≡ c → Does end m Q gs (there o, c, fs) ts r → Does end m Q gs (there o, d, fs) ts r
  does_at {A = A} {Q = Q} {gs = gs} {fs = fs} o c d ts r e h = subst (λ x. Does end m Q gs (there o, x, fs) ts r) (sym e) h

  -- a mark that must stand after a condition
  pass_by : {B : Type 0} {Q : Option ℕ → ℕ → List Placed → Type 0} {fs : List Frame} (o : Option ℕ) (c : ℕ) (g : Frame) (gs : List Frame) (t : State) (p : Placed) (ts : List Placed) (f : List Placed → Result (B × List Placed) ParseError) (b : Bool)
      → CantGoOn o p.token → (b ≡ true → gone_on o c (g ∷ gs) p.token ≡ Some t) → (b ≡ false → past_cond (g ∷ gs) p.token ≡ None) → Does end m Q fs t ts (f ts)
      → Does end m Q fs (there o, c, g ∷ gs) (p ∷ ts) ((if b then Ok ts else Err (misplaced_token p.token p.at)) >>= f)
  pass_by o c g gs t p ts f true h goes_to none k = does_after (there o, c, g ∷ gs) t (p ∷ ts) ts (f ts) (one m (there o) c (g ∷ gs) p ts p.token t refl refl (goes_to refl)) k
  pass_by o c g gs t p ts f false h goes_to none k = does_err (there o, c, g ∷ gs) (p ∷ ts) (misplaced_token p.token p.at) (inl (refl, past_is o c (g ∷ gs) p.token h ∙ none refl, refl))

  pub does_pass : {B : Type 0} {Q : Option ℕ → ℕ → List Placed → Type 0} {fs : List Frame} (mark : Token → Bool) (o : Option ℕ) (c : ℕ) (g : Frame) (gs : List Frame) (t : State) (ts : List Placed) (f : List Placed → Result (B × List Placed) ParseError)
      → Ends o ts → ((k : Token) → mark k ≡ true → gone_on o c (g ∷ gs) k ≡ Some t) → ((p : Placed) (vs : List Placed) → ts ≡ p ∷ vs → mark p.token ≡ false → past_cond (g ∷ gs) p.token ≡ None) → ((us : List Placed) → Does end m Q fs t us (f us))
      → Does end m Q fs (there o, c, g ∷ gs) ts (pass_mark mark end ts >>= f)
  does_pass mark o c g gs t [] f h goes_to none k = does_err (there o, c, g ∷ gs) [] (fault.Syntax end) (refl, refl)
  does_pass mark o c g gs t (p ∷ ts) f h goes_to none k = pass_by o c g gs t p ts f (mark p.token) h (goes_to p.token) (none p ts refl) (k ts)
