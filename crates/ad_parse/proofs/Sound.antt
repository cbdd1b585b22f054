-- What is read is spelled so.
use Rattle.std.proofs.Common.{◌≡◌, ℕ, zero, suc, List, [], ◌∷◌, length, Bool, true, false, cond, Option, Some, None, Result, Ok, Err, ◌⊎◌, inl, inr, nat_eq, refl, sym, ap, ◌∙◌, subst}
use Rattle.std.proofs.lemmas.Bool.{eqb-true}
use Rattle.ad_value.specs.Content.{Content}
use Rattle.ad_tree.specs.declared.operator.Scope.{Scope}
use Rattle.ad_tree.specs.declared.operator.Scope.TheVariants.{Bare, My, Target}
use Rattle.ad_tree.specs.declared.operator.BinOp.{BinOp}
use Rattle.ad_tree.specs.declared.operator.UnOp.{UnOp}
use Rattle.ad_tree.specs.Tree.{Tree, Rests, no_rests, and_rest, Trees}
use Rattle.ad_token.specs.declared.token.Bracket.{Bracket}
use Rattle.ad_token.specs.declared.token.Bracket.TheVariants.{Round, Curly}
use Rattle.ad_token.specs.declared.token.Token.{Token}
use Rattle.ad_token.specs.declared.token.Token.TheVariants as token
use Rattle.ad_token.specs.declared.token.Placed.{Placed}
use Rattle.ad_parse.specs.declared.error.ParseError.{ParseError}
use Rattle.ad_parse.specs.Operators.{level_of, prefix_of, literal_of}
use Rattle.ad_parse.specs.Grammar.{IsCond, alone, chosen, otherwise, IsLevel, operand, single, chained, IsRests, ended, more, IsOperand, prefixed, literally, named, called, bracketed, listed, IsItems, none, some, IsMore, last, another}
use Rattle.ad_parse.specs.Reader.{Read, ◌>>=◌, is_colon, is_closing_mark, pass_mark, infix_of, infix_at, rests_by, rests_at, chain_of, level_at, branches_at, choice_by, choice_at, comma_of, comma_at, no_more_items_at, more_items_by, more_items_at, items_at, open_of, open_at, call_by, name_at, primary_by, literal_or, operand_by, operand_with, operand_at, cond_at}

pub bind_ok : {A B : Type 0} (r : Result A ParseError) (f : A → Result B ParseError) (y : B) → (r >>= f) ≡ Ok y → (x : A) × (r ≡ Ok x) × (f x ≡ Ok y)
bind_ok (Ok x) f y h = (x, refl, h)
bind_ok (Err e) f y h = cc

pub cases_if : {A : Type 0} (b : Bool) (x y z : A) → cond b x y ≡ z → ((b ≡ true) × (x ≡ z)) ⊎ ((b ≡ false) × (y ≡ z))
cases_if true x y z h = inl (refl, h)
cases_if false x y z h = inr (refl, h)

abbrev ok_of : {A : Type 0} → A → Result A ParseError → A
ok_of d (Ok x) = x
ok_of d (Err e) = d

pub ok_is : {A : Type 0} (x y : A) → (let r : Result A ParseError = Ok x in r) ≡ Ok y → x ≡ y
ok_is x y h = ap (ok_of x) h

abbrev option_of : {A : Type 0} → A → Option A → A
option_of d (Some x) = x
option_of d None = d

pub some_is : {A : Type 0} (x y : A) → Some x ≡ Some y → x ≡ y
some_is x y h = ap (option_of x) h

pub is_colon-is : (k : Token) → is_colon k ≡ true → k ≡ token.Colon
is_colon-is token.Colon h = refl
is_colon-is _ h = cc

pub is_closing_mark-is : (b : Bracket) (k : Token) → is_closing_mark b k ≡ true → k ≡ token.Close b
is_closing_mark-is Round (token.Close Round) h = refl
is_closing_mark-is Curly (token.Close Curly) h = refl
is_closing_mark-is Round (token.Close Curly) h = cc
is_closing_mark-is Curly (token.Close Round) h = cc
is_closing_mark-is b _ h = cc

-- a mark that was passed stood there
pub pass_is : (mark : Token → Bool) (end : ℕ) (ts us : List Placed) → pass_mark mark end ts ≡ Ok us → (p : Placed) × (ts ≡ p ∷ us) × (mark p.token ≡ true)
pass_is mark end [] us h = cc
pass_is mark end (p ∷ ts) us h = elim (cases_if (mark p.token) _ _ _ h) [ inl w ↦ (p, ap (λ x. p ∷ x) (ok_is ts us w.1), w.0) | inr w ↦ cc w.1 ]

pub infix_of-is : (l : ℕ) (k : Token) (ts : List Placed) (o : BinOp × List Placed) → infix_of l k ts ≡ Some o → (k ≡ token.Op o.0) × (level_of o.0 ≡ l) × (ts ≡ o.1)
infix_of-is l (token.Op op) ts o h = elim (cases_if (nat_eq (level_of op) l) _ _ _ h) [
  | inl w ↦ let e : (op, ts) ≡ o = some_is _ _ w.1 in (ap (λ x. token.Op x.0) e, ap (λ x. level_of x.0) (sym e) ∙ eqb-true _ _ w.0, ap (λ x. x.1) e)
  | inr w ↦ cc w.1
]
infix_of-is l _ ts o h = cc

pub infix_at-is : (l : ℕ) (ts : List Placed) (o : BinOp × List Placed) → infix_at l ts ≡ Some o → (p : Placed) × (ts ≡ p ∷ o.1) × (p.token ≡ token.Op o.0) × (level_of o.0 ≡ l)
infix_at-is l [] o h = cc
infix_at-is l (p ∷ ts) o h = let w = infix_of-is l p.token ts o h in (p, ap (λ x. p ∷ x) w.2, w.0, w.1)

pub comma_of-is : (k : Token) (ts us : List Placed) → comma_of k ts ≡ Some us → (k ≡ token.Comma) × (ts ≡ us)
comma_of-is token.Comma ts us h = (refl, some_is ts us h)
comma_of-is _ ts us h = cc

pub comma_at-is : (ts us : List Placed) → comma_at ts ≡ Some us → (p : Placed) × (ts ≡ p ∷ us) × (p.token ≡ token.Comma)
comma_at-is [] us h = cc
comma_at-is (p ∷ ts) us h = let w = comma_of-is p.token ts us h in (p, ap (λ x. p ∷ x) w.1, w.0)

pub open_of-is : (k : Token) (ts us : List Placed) → open_of k ts ≡ Some us → (k ≡ token.Open Round) × (ts ≡ us)
open_of-is (token.Open Round) ts us h = (refl, some_is ts us h)
open_of-is (token.Open Curly) ts us h = cc
open_of-is _ ts us h = cc

pub open_at-is : (ts us : List Placed) → open_at ts ≡ Some us → (p : Placed) × (ts ≡ p ∷ us) × (p.token ≡ token.Open Round)
open_at-is [] us h = cc
open_at-is (p ∷ ts) us h = let w = open_of-is p.token ts us h in (p, ap (λ x. p ∷ x) w.1, w.0)

ended_at : {l n : ℕ} {ts us : List Placed} {rs : Rests} → no_rests ≡ rs → ts ≡ us → IsRests l n ts rs us
ended_at {l} {n} {ts} {us} e f = subst (λ r. IsRests l n ts r us) e (subst (λ x. IsRests l n ts no_rests x) f ended)

no_rests-ended : {l n : ℕ} {ts us : List Placed} → IsRests l n ts no_rests us → ts ≡ us
no_rests-ended ended = refl

chained_or_single : (l n : ℕ) (ts us vs : List Placed) (e : Tree) (rs : Rests) → IsLevel l n ts e us → IsRests l n us rs vs → IsLevel (suc l) n ts (chain_of e rs) vs
chained_or_single l n ts us vs e no_rests a b = single (subst (λ x. IsLevel l n ts e x) (no_rests-ended b) a)
chained_or_single l n ts us vs e (and_rest op f rs) a b = chained a b

-- of what a level reads, where the operands are sound
module _ (n end : ℕ) (p : Read Tree) (sound : (ts us : List Placed) (e : Tree) → p ts ≡ Ok (e, us) → IsOperand n ts e us) where
  module _ (l : ℕ) (inner : (ts us : List Placed) (e : Tree) → level_at p l ts ≡ Ok (e, us) → IsLevel l n ts e us) where
    rests_by_sound : (m : ℕ) (more_sound : (ts us : List Placed) (rs : Rests) → rests_at (level_at p l) (suc l) m ts ≡ Ok (rs, us) → IsRests l n ts rs us) (ts us : List Placed) (rs : Rests) (o : Option (BinOp × List Placed)) → infix_at (suc l) ts ≡ o → rests_by (level_at p l) (rests_at (level_at p l) (suc l) m) ts o ≡ Ok (rs, us) → IsRests l n ts rs us
    rests_by_sound m more_sound ts us rs None is h = let e = ok_is _ _ h in ended_at (ap (λ x. x.0) e) (ap (λ x. x.1) e)
    rests_by_sound m more_sound ts us rs (Some o) is h =
        let a = bind_ok _ _ _ h in
        let b = bind_ok _ _ _ a.2 in
        let e = ok_is _ _ b.2 in
        let w = infix_at-is (suc l) ts o is in
        let got = more {rs = b.0.0} w.2 w.3 (inner o.1 a.0.1 a.0.0 a.1) (more_sound a.0.1 b.0.1 b.0.0 b.1) in
        subst (λ x. IsRests l n x rs us) (sym w.1) (subst (λ y. IsRests l n (w.0 ∷ o.1) y.0 y.1) e got)

    pub rests_sound : (m : ℕ) (ts us : List Placed) (rs : Rests) → rests_at (level_at p l) (suc l) m ts ≡ Ok (rs, us) → IsRests l n ts rs us
    unfolding rests_at
    rests_sound zero ts us rs h = let e = ok_is _ _ h in ended_at (ap (λ x. x.0) e) (ap (λ x. x.1) e)
    rests_sound (suc m) ts us rs h = rests_by_sound m (rests_sound m) ts us rs (infix_at (suc l) ts) refl h

  pub level_sound : (l : ℕ) (ts us : List Placed) (e : Tree) → level_at p l ts ≡ Ok (e, us) → IsLevel l n ts e us
  unfolding level_at
  level_sound zero ts us e h = operand (sound ts us e h)
  level_sound (suc l) ts us e h =
      let a = bind_ok _ _ _ h in
      let b = bind_ok _ _ _ a.2 in
      let f = ok_is _ _ b.2 in
      let first = level_sound l ts a.0.1 a.0.0 a.1 in
      let others = rests_sound l (level_sound l) (length a.0.1) a.0.1 b.0.1 b.0.0 b.1 in
      subst (λ y. IsLevel (suc l) n ts y.0 y.1) f (chained_or_single l n ts a.0.1 b.0.1 a.0.0 b.0.0 first others)

-- of what stands in brackets or after an operator, where conditions are sound
module _ (n end : ℕ) (inner : Read Tree) (sound : (ts us : List Placed) (e : Tree) → inner ts ≡ Ok (e, us) → IsCond n ts e us) where
  branches_sound : (ts us vs : List Placed) (p : Placed) (t e : Tree) → IsLevel 6 (suc n) ts t (p ∷ us) → p.token ≡ token.Question → branches_at end inner t us ≡ Ok (e, vs) → IsCond (suc n) ts e vs
  branches_sound ts us vs p t e test is h =
      let a = bind_ok _ _ _ h in
      let b = bind_ok _ _ _ a.2 in
      let d = bind_ok _ _ _ b.2 in
      let f = ok_is _ _ d.2 in
      let w = pass_is is_colon end a.0.1 b.0 b.1 in
      let yes = subst (λ x. IsCond n us a.0.0 x) w.1 (sound us a.0.1 a.0.0 a.1) in
      subst (λ y. IsCond (suc n) ts y.0 y.1) f (chosen test is yes (is_colon-is w.0.token w.2) (sound b.0 d.0.1 d.0.0 d.1))

  choice_by_sound : (ts us vs : List Placed) (p : Placed) (k : Token) (t e : Tree) → IsLevel 6 (suc n) ts t (p ∷ us) → p.token ≡ k → choice_by end inner t p k us ≡ Ok (e, vs) → IsCond (suc n) ts e vs
  choice_by_sound ts us vs p token.Question t e test is h = branches_sound ts us vs p t e test is h
  choice_by_sound ts us vs p token.OrElse t e test is h =
      let a = bind_ok _ _ _ h in
      subst (λ y. IsCond (suc n) ts y.0 y.1) (ok_is _ _ a.2) (otherwise test is (sound us a.0.1 a.0.0 a.1))
  choice_by_sound ts us vs p _ t e test is h = subst (λ y. IsCond (suc n) ts y.0 y.1) (ok_is _ _ h) (alone test)

  choice_sound : (ts us vs : List Placed) (t e : Tree) → IsLevel 6 (suc n) ts t us → choice_at end inner t us ≡ Ok (e, vs) → IsCond (suc n) ts e vs
  choice_sound ts [] vs t e test h = subst (λ y. IsCond (suc n) ts y.0 y.1) (ok_is _ _ h) (alone test)
  choice_sound ts (p ∷ us) vs t e test h = choice_by_sound ts us vs p p.token t e test refl h

  module _ (b : Bracket) where
    last_sound : (ts us : List Placed) (es : Trees) → no_more_items_at b end ts ≡ Ok (es, us) → IsMore b n ts es us
    last_sound ts us es h =
        let a = bind_ok _ _ _ h in
        let w = pass_is (is_closing_mark b) end ts a.0 a.1 in
        subst (λ x. IsMore b n x es us) (sym w.1) (subst (λ y. IsMore b n (w.0 ∷ a.0) y.0 y.1) (ok_is _ _ a.2) (last (is_closing_mark-is b w.0.token w.2)))

    more_by_sound : (m : ℕ) (more_sound : (ts us : List Placed) (es : Trees) → more_items_at b end inner m ts ≡ Ok (es, us) → IsMore b n ts es us) (ts us : List Placed) (es : Trees) (o : Option (List Placed)) → comma_at ts ≡ o → more_items_by b end inner (more_items_at b end inner m) ts o ≡ Ok (es, us) → IsMore b n ts es us
    more_by_sound m more_sound ts us es None is h = last_sound ts us es h
    more_by_sound m more_sound ts us es (Some vs) is h =
        let a = bind_ok _ _ _ h in
        let d = bind_ok _ _ _ a.2 in
        let w = comma_at-is ts vs is in
        let got = another w.2 (sound vs a.0.1 a.0.0 a.1) (more_sound a.0.1 d.0.1 d.0.0 d.1) in
        subst (λ x. IsMore b n x es us) (sym w.1) (subst (λ y. IsMore b n (w.0 ∷ vs) y.0 y.1) (ok_is _ _ d.2) got)

    pub more_sound : (m : ℕ) (ts us : List Placed) (es : Trees) → more_items_at b end inner m ts ≡ Ok (es, us) → IsMore b n ts es us
    unfolding more_items_at
    more_sound zero ts us es h = last_sound ts us es h
    more_sound (suc m) ts us es h = more_by_sound m (more_sound m) ts us es (comma_at ts) refl h

    pub items_sound : (ts us : List Placed) (es : Trees) → items_at b end inner ts ≡ Ok (es, us) → IsItems b n ts es us
    items_sound [] us es h = cc
    items_sound (p ∷ ts) us es h = elim (cases_if (is_closing_mark b p.token) _ _ _ h) [
      | inl w ↦ subst (λ y. IsItems b n (p ∷ ts) y.0 y.1) (ok_is _ _ w.1) (none (is_closing_mark-is b p.token w.0))
      | inr w ↦
          let a = bind_ok _ _ _ w.1 in
          let d = bind_ok _ _ _ a.2 in
          subst (λ y. IsItems b n (p ∷ ts) y.0 y.1) (ok_is _ _ d.2) (some (sound (p ∷ ts) a.0.1 a.0.0 a.1) (more_sound (length a.0.1) a.0.1 d.0.1 d.0.0 d.1))
    ]

  called_sound : (p : Placed) (x : List ℕ) (ts us : List Placed) (e : Tree) (o : Option (List Placed)) → p.token ≡ token.Name Bare x → open_at ts ≡ o → call_by end inner x ts o ≡ Ok (e, us) → IsOperand (suc n) (p ∷ ts) e us
  called_sound p x ts us e None is next h = subst (λ y. IsOperand (suc n) (p ∷ ts) y.0 y.1) (ok_is _ _ h) (named is)
  called_sound p x ts us e (Some vs) is next h =
      let a = bind_ok _ _ _ h in
      let w = open_at-is ts vs next in
      let got = called is w.2 (items_sound Round vs a.0.1 a.0.0 a.1) in
      subst (λ z. IsOperand (suc n) (p ∷ z) e us) (sym w.1) (subst (λ y. IsOperand (suc n) (p ∷ w.0 ∷ vs) y.0 y.1) (ok_is _ _ a.2) got)

  named_sound : (p : Placed) (s : Scope) (x : List ℕ) (ts us : List Placed) (e : Tree) → p.token ≡ token.Name s x → name_at end inner s x ts ≡ Ok (e, us) → IsOperand (suc n) (p ∷ ts) e us
  named_sound p Bare x ts us e is h = called_sound p x ts us e (open_at ts) is refl h
  named_sound p My x ts us e is h = subst (λ y. IsOperand (suc n) (p ∷ ts) y.0 y.1) (ok_is _ _ h) (named is)
  named_sound p Target x ts us e is h = subst (λ y. IsOperand (suc n) (p ∷ ts) y.0 y.1) (ok_is _ _ h) (named is)

  primary_sound : (p : Placed) (k : Token) (ts us : List Placed) (e : Tree) → p.token ≡ k → primary_by end inner k p.at ts ≡ Ok (e, us) → IsOperand (suc n) (p ∷ ts) e us
  primary_sound p (token.Name s x) ts us e is h = named_sound p s x ts us e is h
  primary_sound p (token.Open Round) ts us e is h =
      let a = bind_ok _ _ _ h in
      let d = bind_ok _ _ _ a.2 in
      let w = pass_is (is_closing_mark Round) end a.0.1 d.0 d.1 in
      let found = subst (λ x. IsCond n ts a.0.0 x) w.1 (sound ts a.0.1 a.0.0 a.1) in
      subst (λ y. IsOperand (suc n) (p ∷ ts) y.0 y.1) (ok_is _ _ d.2) (bracketed is found (is_closing_mark-is Round w.0.token w.2))
  primary_sound p (token.Open Curly) ts us e is h =
      let a = bind_ok _ _ _ h in
      subst (λ y. IsOperand (suc n) (p ∷ ts) y.0 y.1) (ok_is _ _ a.2) (listed is (items_sound Curly ts a.0.1 a.0.0 a.1))
  primary_sound p _ ts us e is h = cc

  literal_or_sound : (p : Placed) (ts us : List Placed) (e : Tree) (o : Option Content) → literal_of p.token ≡ o → literal_or end inner p ts o ≡ Ok (e, us) → IsOperand (suc n) (p ∷ ts) e us
  literal_or_sound p ts us e None is h = primary_sound p p.token ts us e refl h
  literal_or_sound p ts us e (Some c) is h = subst (λ y. IsOperand (suc n) (p ∷ ts) y.0 y.1) (ok_is _ _ h) (literally is)

  operand_by_sound : (prior : Read Tree) (inner_sound : (ts us : List Placed) (e : Tree) → prior ts ≡ Ok (e, us) → IsOperand n ts e us) (p : Placed) (ts us : List Placed) (e : Tree) (o : Option UnOp) → prefix_of p.token ≡ o → operand_by end prior inner p ts o ≡ Ok (e, us) → IsOperand (suc n) (p ∷ ts) e us
  operand_by_sound prior inner_sound p ts us e None is h = literal_or_sound p ts us e (literal_of p.token) refl h
  operand_by_sound prior inner_sound p ts us e (Some op) is h =
      let a = bind_ok _ _ _ h in
      subst (λ y. IsOperand (suc n) (p ∷ ts) y.0 y.1) (ok_is _ _ a.2) (prefixed is (inner_sound ts a.0.1 a.0.0 a.1))

  operand_with_sound : (prior : Read Tree) (inner_sound : (ts us : List Placed) (e : Tree) → prior ts ≡ Ok (e, us) → IsOperand n ts e us) (ts us : List Placed) (e : Tree) → operand_with end prior inner ts ≡ Ok (e, us) → IsOperand (suc n) ts e us
  operand_with_sound prior inner_sound [] us e h = cc
  operand_with_sound prior inner_sound (p ∷ ts) us e h = operand_by_sound prior inner_sound p ts us e (prefix_of p.token) refl h

pub record Sound (end n : ℕ) : Type 0 where
  pub operands : (ts us : List Placed) (e : Tree) → operand_at end n ts ≡ Ok (e, us) → IsOperand n ts e us
  pub conds : (ts us : List Placed) (e : Tree) → cond_at end n ts ≡ Ok (e, us) → IsCond n ts e us

-- What is read is spelled so.
pub read_is_spelled : (end n : ℕ) → Sound end n
unfolding operand_at
read_is_spelled end zero = record { operands = λ ts us e h. cc h; conds = λ ts us e h. cc h }
read_is_spelled end (suc n) =
    let below = read_is_spelled end n in
    let os = operand_with_sound n end (cond_at end n) below.conds (operand_at end n) below.operands in
    record {
      operands = os;
      conds = λ ts us e h.
          let a = bind_ok _ _ _ h in
          choice_sound n end (cond_at end n) below.conds ts a.0.1 us a.0.0 e (level_sound (suc n) end (operand_with end (operand_at end n) (cond_at end n)) os 6 ts a.0.1 a.0.0 a.1) a.2;
    }
