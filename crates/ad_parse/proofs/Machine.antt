-- Which tokens may come next: a machine with a state after each token, that knows what is open and how deep an operand would stand.
use Rattle.std.proofs.Common.{◌≡◌, ℕ, suc, ◌<◌, ◌≤◌, leb, List, [], ◌∷◌, ◌++◌, length, Bool, true, false, Option, Some, None, refl, sym, ap, ◌∙◌, arith, append_assoc, length-append}
use Rattle.std.proofs.lemmas.Bool.{lt-leb}
use Rattle.ad_value.specs.Content.{Content}
use Rattle.ad_tree.specs.declared.operator.Scope.TheVariants.{Bare, My, Target}
use Rattle.ad_tree.specs.declared.operator.UnOp.{UnOp}
use Rattle.ad_token.specs.declared.token.Bracket.{Bracket}
use Rattle.ad_token.specs.declared.token.Bracket.TheVariants.{Round, Curly}
use Rattle.ad_token.specs.declared.token.Token.{Token}
use Rattle.ad_token.specs.declared.token.Token.TheVariants as token
use Rattle.ad_token.specs.declared.token.Placed.{Placed}
use Rattle.ad_parse.specs.Operators.{prefix_of, literal_of}
use Rattle.ad_parse.specs.Reader.{is_same_bracket, is_closing_mark}

-- What is open: round brackets, with the depth of the operands around them; arguments or items, with the depth of the operands
-- around them and in them; the branch before a colon, with the depth of both branches.
pub data Frame : Type 0 where
  in_round : ℕ → Frame
  in_items : Bracket → ℕ → ℕ → Frame
  in_yes : ℕ → Frame

-- An operand is wanted, this deep; or that or a closing bracket of this kind; or an operand stands there, and if it is a bare name, this deep.
pub data Mode : Type 0 where
  wanted : ℕ → Mode
  wanted_or_none : Bracket → ℕ → Mode
  there : Option ℕ → Mode

-- the mode, the depth of the operands of this chain, and what is open
abbrev pub State : Type 0
State = Mode × ℕ × List Frame

abbrev pub closed_items : Bool → ℕ → List Frame → Option State
closed_items true c fs = Some (there None, c, fs)
closed_items false c fs = None

abbrev pub closed_round : Bracket → ℕ → List Frame → Option State
closed_round Round c fs = Some (there None, c, fs)
closed_round Curly c fs = None

abbrev pub closed : Bracket → List Frame → Option State
closed b (in_round c ∷ fs) = closed_round b c fs
closed b (in_items a c i ∷ fs) = closed_items (is_same_bracket a b) c fs
closed b _ = None

abbrev pub next_item : List Frame → Option State
next_item (in_items b c i ∷ fs) = Some (wanted i, i, in_items b c i ∷ fs)
next_item _ = None

abbrev pub other_branch : List Frame → Option State
other_branch (in_yes i ∷ fs) = Some (wanted i, i, fs)
other_branch _ = None

-- where an operand is wanted
abbrev pub begun_with : ℕ → ℕ → List Frame → Token → Option State
begun_with d c fs (token.Name Bare x) = Some (there (Some d), c, fs)
begun_with d c fs (token.Name My x) = Some (there None, c, fs)
begun_with d c fs (token.Name Target x) = Some (there None, c, fs)
begun_with d c fs (token.Open Round) = Some (wanted (suc d), suc d, in_round c ∷ fs)
begun_with d c fs (token.Open Curly) = Some (wanted_or_none Curly (suc d), suc d, in_items Curly c (suc d) ∷ fs)
begun_with d c fs _ = None

abbrev pub begun_as : ℕ → ℕ → List Frame → Token → Option Content → Option State
begun_as d c fs k (Some v) = Some (there None, c, fs)
begun_as d c fs k None = begun_with d c fs k

abbrev pub begun_by : ℕ → ℕ → List Frame → Token → Option UnOp → Option State
begun_by d c fs k (Some op) = Some (wanted (suc d), c, fs)
begun_by d c fs k None = begun_as d c fs k (literal_of k)

abbrev pub begun : ℕ → ℕ → List Frame → Token → Option State
begun d c fs k = begun_by d c fs k (prefix_of k)

-- or where a bracket may close; the truth value says whether it does
abbrev pub or_none : Bool → Bracket → List Frame → Option State → Option State
or_none true b fs o = closed b fs
or_none false b fs o = o

-- where one stands
abbrev pub called : Option ℕ → ℕ → List Frame → Option State
called (Some d) c fs = Some (wanted_or_none Round (suc d), suc d, in_items Round c (suc d) ∷ fs)
called None c fs = None

abbrev pub gone_on : Option ℕ → ℕ → List Frame → Token → Option State
gone_on o c fs (token.Op op) = Some (wanted c, c, fs)
gone_on o c fs token.Question = Some (wanted (suc c), suc c, in_yes (suc c) ∷ fs)
gone_on o c fs token.OrElse = Some (wanted (suc c), suc c, fs)
gone_on o c fs token.Colon = other_branch fs
gone_on o c fs (token.Open Round) = called o c fs
gone_on o c fs (token.Close b) = closed b fs
gone_on o c fs token.Comma = next_item fs
gone_on o c fs _ = None

abbrev pub step : Mode → ℕ → List Frame → Token → Option State
step (wanted d) c fs k = begun d c fs k
step (wanted_or_none b d) c fs k = or_none (is_closing_mark b k) b fs (begun d c fs k)
step (there o) c fs k = gone_on o c fs k

-- whether an operand is wanted that has n or more around it
abbrev pub is_deep : ℕ → Mode → Bool
is_deep n (wanted d) = leb n d
is_deep n (wanted_or_none b d) = leb n d
is_deep n (there o) = false

abbrev pub unless : Bool → Bool → Bool
unless true x = false
unless false x = x

-- and this token is not the closing bracket that may stand there
abbrev pub is_blocked : ℕ → Mode → Token → Bool
is_blocked n (wanted d) k = leb n d
is_blocked n (wanted_or_none b d) k = unless (is_closing_mark b k) (leb n d)
is_blocked n (there o) k = false

abbrev pub step_if : Bool → Option State → Option State
step_if true o = None
step_if false o = o

abbrev pub step_within : ℕ → Mode → ℕ → List Frame → Token → Option State
step_within n m c fs k = step_if (is_blocked n m k) (step m c fs k)

-- the state after some tokens, where no operand may have n or more around it
abbrev pub goes : ℕ → Option State → List Placed → Option State
goes n None ts = None
goes n (Some s) [] = Some s
goes n (Some s) (p ∷ ts) = goes n (step_within n s.0 s.1 s.2 p.token) ts

abbrev pub start : State
start = (wanted 0, 0, [])

-- whether a text may end here
abbrev pub is_end : Mode → List Frame → Bool
is_end (there o) [] = true
is_end _ _ = false

abbrev pub ends : Option State → Bool
ends (Some s) = is_end s.0 s.2
ends None = false

-- from one state and these tokens to another state and those that are left
pub record Comes (n : ℕ) (s : State) (ts : List Placed) (t : State) (us : List Placed) : Type 0 where
  pub taken : List Placed
  pub parts : ts ≡ taken ++ us
  pub leads : goes n (Some s) taken ≡ Some t

pub goes_none : (n : ℕ) (ts : List Placed) → goes n None ts ≡ None
goes_none n [] = refl
goes_none n (p ∷ ts) = refl

pub goes_append : (n : ℕ) (o : Option State) (a b : List Placed) → goes n o (a ++ b) ≡ goes n (goes n o a) b
goes_append n None [] b = refl
goes_append n None (p ∷ a) b = refl
goes_append n (Some s) [] b = refl
goes_append n (Some s) (p ∷ a) b = goes_append n (step_within n s.0 s.1 s.2 p.token) a b

pub stays : (n : ℕ) (s : State) (ts : List Placed) → Comes n s ts s ts
stays n s ts = record { taken = []; parts = refl; leads = refl }

pub comes_on : (n : ℕ) (s t u : State) (as' bs cs : List Placed) → Comes n s as' t bs → Comes n t bs u cs → Comes n s as' u cs
comes_on n s t u as' bs cs a b = record {
  taken = a.taken ++ b.taken;
  parts = a.parts ∙ ap (λ x. a.taken ++ x) b.parts ∙ sym (append_assoc a.taken b.taken cs);
  leads = goes_append n (Some s) a.taken b.taken ∙ ap (λ o. goes n o b.taken) a.leads ∙ b.leads;
}

pub comes_shorter : (n : ℕ) (s t : State) (ts us : List Placed) → Comes n s ts t us → length us ≤ length ts
comes_shorter n s t ts us c = omega (arith, ap length c.parts, length-append c.taken us)

-- one token
pub one : (n : ℕ) (m : Mode) (c : ℕ) (fs : List Frame) (p : Placed) (ts : List Placed) (k : Token) (t : State) → p.token ≡ k → is_blocked n m k ≡ false → step m c fs k ≡ Some t → Comes n (m, c, fs) (p ∷ ts) t ts
one n m c fs p ts k t i un h = record {
  taken = p ∷ [];
  parts = refl;
  leads = ap (λ x. goes n (step_within n m c fs x) []) i ∙ ap (λ b. goes n (step_if b (step m c fs k)) []) un ∙ ap (λ o. goes n o []) h;
}

-- an operand that may stand where it is wanted
pub shallow : (n d : ℕ) → d < n → leb n d ≡ false
shallow n d h = lt-leb n d h
