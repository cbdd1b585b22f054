-- The steps of reading several operands or items.
use Rattle.std.proofs.Common.{◌≡◌, ℕ, zero, suc, ◌+◌, ◌-◌, ◌<◌, ◌≤◌, List, [], ◌∷◌, ◌++◌, length, Option, Some, None, Result, Ok, Err, map, Bool, true, false, cond, ◌⊎◌, inl, inr, nat_eq, refl, sym, ap, ◌∙◌, arith, if◌then◌else◌}
use Rattle.std.proofs.Math.Dec.{eqb-suc-zero}
use Rattle.ad_tree.specs.declared.operator.BinOp.{BinOp}
use Rattle.ad_tree.specs.declared.operator.UnOp.{UnOp}
use Rattle.ad_tree.specs.declared.tree.Rest.{Rest}
use Rattle.ad_tree.specs.declared.tree.RestList.{RestList, out-RestList, fold_out-RestList}
use Rattle.ad_tree.specs.Tree.{Tree, Rests, no_rests, and_rest, Trees, no_trees, and_tree, rests_of, trees_of, rests, rest, chain, tree_step, trees_step, rest_step, rests_step}
use Rattle.ad_token.specs.declared.token.Bracket.{Bracket}
use Rattle.ad_token.specs.declared.token.Token.{Token}
use Rattle.ad_token.specs.declared.token.Token.TheVariants as token
use Rattle.ad_token.specs.declared.token.Placed.{Placed}
use Rattle.ad_parse.specs.declared.error.ParseError.{ParseError}
use Rattle.ad_parse.specs.declared.error.ParseError.TheVariants as fault
use Rattle.ad_parse.specs.Operators.{prefix_of, level_of}
use Rattle.ad_parse.specs.Gives.{Fails}
use Rattle.ad_parse.specs.Reader.{Read, ◌>>=◌, depth_refusal, infix_at, infix_of, rests_by, more_items_by, chain_of, chain_from, choice_at, comma_of, rests_at, more_items_at, operand_at, operand_by, operand_with, prefix_at, primary_at, comma_at, pass_mark, is_closing_mark, cond_at, level_at}

-- one step of the recursion
abbrev pub operand_body : ℕ → ℕ → Read Tree
operand_body end n ts = if nat_eq n 0 then Err (depth_refusal end ts) else operand_with end (operand_at end (n - 1)) (cond_at end (n - 1)) ts

abbrev pub cond_body : ℕ → ℕ → Read Tree
cond_body end n ts = if nat_eq n 0 then Err (depth_refusal end ts) else level_at (operand_at end n) 6 ts >>= (λ x. choice_at end (cond_at end (n - 1)) x.0 x.1)

abbrev pub level_body : Read Tree → ℕ → Read Tree
level_body operand l ts = if nat_eq l 0 then operand ts else level_at operand (l - 1) ts >>= (λ x. chain_from (level_at operand (l - 1)) l x.0 x.1)

-- these operands, and then those
abbrev pub join_rests : List (BinOp × Tree) → Rests → Rests
join_rests [] ys = ys
join_rests (r ∷ rs) ys = and_rest r.0 r.1 (join_rests rs ys)

abbrev pub after_rests : List (BinOp × Tree) → Result (Rests × List Placed) ParseError → Result (Rests × List Placed) ParseError
after_rests rs r = r >>= (λ y. Ok (join_rests rs y.0, y.1))

pub join_rests-append : (rs : List (BinOp × Tree)) (r : BinOp × Tree) (ys : Rests) → join_rests (rs ++ r ∷ []) ys ≡ join_rests rs (and_rest r.0 r.1 ys)
join_rests-append [] r ys = refl
join_rests-append (x ∷ rs) r ys = ap (and_rest x.0 x.1) (join_rests-append rs r ys)

pub join_rests-none : (rs : List (BinOp × Tree)) → join_rests rs no_rests ≡ rests_of rs
join_rests-none [] = refl
join_rests-none (x ∷ rs) = ap (and_rest x.0 x.1) (join_rests-none rs)

abbrev pub join_trees : List Tree → Trees → Trees
join_trees [] ys = ys
join_trees (e ∷ es) ys = and_tree e (join_trees es ys)

abbrev pub after_trees : List Tree → Result (Trees × List Placed) ParseError → Result (Trees × List Placed) ParseError
after_trees es r = r >>= (λ y. Ok (join_trees es y.0, y.1))

join_trees-append : (es : List Tree) (e : Tree) (ys : Trees) → join_trees (es ++ e ∷ []) ys ≡ join_trees es (and_tree e ys)
join_trees-append [] e ys = refl
join_trees-append (x ∷ es) e ys = ap (and_tree x) (join_trees-append es e ys)

join_trees-none : (es : List Tree) → join_trees es no_trees ≡ trees_of es
join_trees-none [] = refl
join_trees-none (x ∷ es) = ap (and_tree x) (join_trees-none es)

pub operand_is : (end n : ℕ) (ts : List Placed) → operand_at end n ts ≡ operand_body end n ts
unfolding operand_at
operand_is end zero ts = refl
operand_is end (suc n) ts = let e : suc n - 1 ≡ n = omega arith in rw (e, eqb-suc-zero) refl

pub cond_is : (end n : ℕ) (ts : List Placed) → cond_at end n ts ≡ cond_body end n ts
unfolding operand_at
cond_is end zero ts = refl
cond_is end (suc n) ts = let e : suc n - 1 ≡ n = omega arith in rw (e, eqb-suc-zero) refl

pub level_is : (p : Read Tree) (l : ℕ) (ts : List Placed) → level_at p l ts ≡ level_body p l ts
unfolding level_at
level_is p zero ts = refl
level_is p (suc l) ts = let e : suc l - 1 ≡ l = omega arith in rw (e, eqb-suc-zero) refl

pub level_more : (p : Read Tree) (l : ℕ) (ts us : List Placed) (e : Tree) → 0 < l → level_at p (l - 1) ts ≡ Ok (e, us) → level_at p l ts ≡ chain_from (level_at p (l - 1)) l e us
level_more p zero ts us e pos h = absurd (omega arith)
level_more p (suc l) ts us e pos h = level_is p (suc l) ts ∙ rw eqb-suc-zero (ap (λ r. r >>= (λ x. chain_from (level_at p (suc l - 1)) (suc l) x.0 x.1)) h)

pub operand_prefixed : (end n : ℕ) (p : Placed) (ts : List Placed) (op : UnOp) → 0 < n → prefix_of p.token ≡ Some op → operand_at end n (p ∷ ts) ≡ prefix_at (operand_at end (n - 1)) op ts
operand_prefixed end zero p ts op pos h = absurd (omega arith)
operand_prefixed end (suc n) p ts op pos h =
    let e : suc n - 1 ≡ n = omega arith in
    operand_is end (suc n) (p ∷ ts) ∙ rw eqb-suc-zero (ap (operand_by end (operand_at end (suc n - 1)) (cond_at end (suc n - 1)) p ts) h)

pub operand_primary : (end n : ℕ) (p : Placed) (ts : List Placed) → 0 < n → prefix_of p.token ≡ None → operand_at end n (p ∷ ts) ≡ primary_at end (cond_at end (n - 1)) p ts
operand_primary end zero p ts pos h = absurd (omega arith)
operand_primary end (suc n) p ts pos h =
    operand_is end (suc n) (p ∷ ts) ∙ rw eqb-suc-zero (ap (operand_by end (operand_at end (suc n - 1)) (cond_at end (suc n - 1)) p ts) h)

module _ (p : Read Tree) (l : ℕ) where
  pub rests_none : (n : ℕ) (ts : List Placed) → infix_at l ts ≡ None → rests_at p l n ts ≡ Ok (no_rests, ts)
  unfolding rests_at
  rests_none zero ts h = refl
  rests_none (suc n) ts h = ap (rests_by p (rests_at p l n) ts) h

  pub rests_more : (n : ℕ) (ts us : List Placed) (op : BinOp) → 0 < n → infix_at l ts ≡ Some (op, us) → rests_at p l n ts ≡ (p us >>= (λ x. rests_at p l (n - 1) x.1 >>= (λ y. Ok (and_rest op x.0 y.0, y.1))))
  unfolding rests_at
  rests_more zero ts us op pos h = absurd (omega arith)
  rests_more (suc n) ts us op pos h = let e : suc n - 1 ≡ n = omega arith in rw e (ap (rests_by p (rests_at p l n) ts) h)

chosen : {A : Type 0} (b : Bool) (x y z : A) → cond b x y ≡ z → ((b ≡ true) × (x ≡ z)) ⊎ ((b ≡ false) × (y ≡ z))
chosen true x y z h = inl (refl, h)
chosen false x y z h = inr (refl, h)

-- where reading a part fails, reading the whole does
pub fails_on : {A B : Type 0} (e : ParseError) (a : Result A ParseError) (b : Result B ParseError) → ((f : ParseError) → a ≡ Err f → b ≡ Err f) → Fails e a → Fails e b
fails_on fault.Memory a b h w = tt
fails_on (fault.TooLong length) a b h w = h _ w
fails_on (fault.Real at) a b h w = h _ w
fails_on (fault.Range at) a b h w = h _ w
fails_on (fault.TooDeep at) a b h w = h _ w
fails_on (fault.Syntax at) a b h w = h _ w

pub fails_with : {B : Type 0} (e : ParseError) (b : Result B ParseError) → b ≡ Err e → Fails e b
fails_with fault.Memory b h = tt
fails_with (fault.TooLong length) b h = h
fails_with (fault.Real at) b h = h
fails_with (fault.Range at) b h = h
fails_with (fault.TooDeep at) b h = h
fails_with (fault.Syntax at) b h = h

pub rests_out : (r : RestList) → rests r ≡ map rest (out-RestList r).items.items
rests_out = fold_out-RestList Tree (List Tree) (BinOp × Tree) (List (BinOp × Tree)) tree_step trees_step rest_step rests_step

chain_of-empty : (e : Tree) (xs : List Rest) → length xs ≡ 0 → chain_of e (rests_of (map rest xs)) ≡ e
chain_of-empty e [] h = refl
chain_of-empty e (x ∷ xs) h = absurd (omega arith)

chain_of-some : (e : Tree) (xs : List Rest) → 0 < length xs → chain_of e (rests_of (map rest xs)) ≡ chain e (rests_of (map rest xs))
chain_of-some e [] h = absurd (omega arith)
chain_of-some e (x ∷ xs) h = refl

pub chain_of-none : (e : Tree) (r : RestList) → length (out-RestList r).items.items ≡ 0 → chain_of e (rests_of (rests r)) ≡ e
chain_of-none e r h = ap (λ rs. chain_of e (rests_of rs)) (rests_out r) ∙ chain_of-empty e (out-RestList r).items.items h

pub chain_of-rests : (e : Tree) (r : RestList) → 0 < length (out-RestList r).items.items → chain_of e (rests_of (rests r)) ≡ chain e (rests_of (rests r))
chain_of-rests e r h = ap (λ rs. chain_of e (rests_of rs)) (rests_out r) ∙ chain_of-some e (out-RestList r).items.items h ∙ ap (λ rs. chain e (rests_of rs)) (sym (rests_out r))

abbrev the_rest : List Placed → Option (BinOp × List Placed) → List Placed
the_rest d None = d
the_rest d (Some x) = x.1

infix_of_rest : (l : ℕ) (k : Token) (ts us : List Placed) (op : BinOp) → infix_of l k ts ≡ Some (op, us) → ts ≡ us
infix_of_rest l (token.Op o) ts us op h = elim (chosen (nat_eq (level_of o) l) _ _ _ h) [ inl w ↦ ap (the_rest ts) w.1 | inr w ↦ cc w.1 ]
infix_of_rest l _ ts us op h = cc

pub infix_shorter : (l : ℕ) (ts us : List Placed) (op : BinOp) → infix_at l ts ≡ Some (op, us) → length us + 1 ≤ length ts
infix_shorter l [] us op h = cc
infix_shorter l (p ∷ ts) us op h = let e = ap length (infix_of_rest l p.token ts us op h) in omega arith

comma_of_rest : (k : Token) (ts us : List Placed) → comma_of k ts ≡ Some us → ts ≡ us
comma_of_rest token.Comma ts us h = cc
comma_of_rest _ ts us h = cc

pub comma_shorter : (ts us : List Placed) → comma_at ts ≡ Some us → length us + 1 ≤ length ts
comma_shorter [] us h = cc
comma_shorter (p ∷ ts) us h = let e = ap length (comma_of_rest p.token ts us h) in omega arith

after_rests-join : (rs : List (BinOp × Tree)) (op : BinOp) (e : Tree) (r : Result (Rests × List Placed) ParseError) → after_rests rs (r >>= (λ y. Ok (and_rest op e y.0, y.1))) ≡ after_rests (rs ++ (op, e) ∷ []) r
after_rests-join rs op e (Err f) = refl
after_rests-join rs op e (Ok y) = ap (λ z. Ok (z, y.1)) (sym (join_rests-append rs (op, e) y.0))

module _ (p : Read Tree) (l n : ℕ) (ts us : List Placed) (rs : List (BinOp × Tree)) (total : Result (Rests × List Placed) ParseError) (long : length ts ≤ n) (so_far : total ≡ after_rests rs (rests_at p l n ts)) where
  more_rests : (op : BinOp) → infix_at l ts ≡ Some (op, us) → rests_at p l n ts ≡ (p us >>= (λ x. rests_at p l (n - 1) x.1 >>= (λ y. Ok (and_rest op x.0 y.0, y.1))))
  more_rests op h = rests_more p l n ts us op (let some = infix_shorter l ts us op h in omega arith) h

  pub rests_turn : (op : BinOp) (e : Tree) (vs : List Placed) → infix_at l ts ≡ Some (op, us) → p us ≡ Ok (e, vs) → total ≡ after_rests (rs ++ (op, e) ∷ []) (rests_at p l (n - 1) vs)
  rests_turn op e vs h got = so_far ∙ ap (after_rests rs) (more_rests op h ∙ ap (λ r. r >>= (λ x. rests_at p l (n - 1) x.1 >>= (λ y. Ok (and_rest op x.0 y.0, y.1)))) got) ∙ after_rests-join rs op e (rests_at p l (n - 1) vs)

  pub rests_fail : (op : BinOp) → infix_at l ts ≡ Some (op, us) → (f : ParseError) → p us ≡ Err f → total ≡ Err f
  rests_fail op h f got = so_far ∙ ap (after_rests rs) (more_rests op h ∙ ap (λ r. r >>= (λ x. rests_at p l (n - 1) x.1 >>= (λ y. Ok (and_rest op x.0 y.0, y.1)))) got)

  pub rests_end : (ys : List (BinOp × Tree)) → ys ≡ rs → infix_at l ts ≡ None → total ≡ Ok (rests_of ys, ts)
  rests_end ys same h = so_far ∙ ap (after_rests rs) (rests_none p l n ts h) ∙ ap (λ z. Ok (z, ts)) (join_rests-none rs ∙ ap rests_of (sym same))

after_trees-join : (es : List Tree) (e : Tree) (r : Result (Trees × List Placed) ParseError) → after_trees es (r >>= (λ y. Ok (and_tree e y.0, y.1))) ≡ after_trees (es ++ e ∷ []) r
after_trees-join es e (Err f) = refl
after_trees-join es e (Ok y) = ap (λ z. Ok (z, y.1)) (sym (join_trees-append es e y.0))

module _ (b : Bracket) (end : ℕ) (p : Read Tree) where
  pub items_none : (n : ℕ) (ts : List Placed) → comma_at ts ≡ None → more_items_at b end p n ts ≡ (pass_mark (is_closing_mark b) end ts >>= (λ us. Ok (no_trees, us)))
  unfolding more_items_at
  items_none zero ts h = refl
  items_none (suc n) ts h = ap (more_items_by b end p (more_items_at b end p n) ts) h

  pub items_more : (n : ℕ) (ts us : List Placed) → 0 < n → comma_at ts ≡ Some us → more_items_at b end p n ts ≡ (p us >>= (λ x. more_items_at b end p (n - 1) x.1 >>= (λ y. Ok (and_tree x.0 y.0, y.1))))
  unfolding more_items_at
  items_more zero ts us pos h = absurd (omega arith)
  items_more (suc n) ts us pos h = let e : suc n - 1 ≡ n = omega arith in rw e (ap (more_items_by b end p (more_items_at b end p n) ts) h)

module _ (b : Bracket) (end : ℕ) (p : Read Tree) (n : ℕ) (ts : List Placed) (es : List Tree) (total : Result (Trees × List Placed) ParseError) (long : length ts ≤ n) (so_far : total ≡ after_trees es (more_items_at b end p n ts)) where
  more_items : (us : List Placed) → comma_at ts ≡ Some us → more_items_at b end p n ts ≡ (p us >>= (λ x. more_items_at b end p (n - 1) x.1 >>= (λ y. Ok (and_tree x.0 y.0, y.1))))
  more_items us h = items_more b end p n ts us (let some = comma_shorter ts us h in omega arith) h

  pub items_turn : (us : List Placed) (e : Tree) (vs : List Placed) → comma_at ts ≡ Some us → p us ≡ Ok (e, vs) → total ≡ after_trees (es ++ e ∷ []) (more_items_at b end p (n - 1) vs)
  items_turn us e vs h got = so_far ∙ ap (after_trees es) (more_items us h ∙ ap (λ r. r >>= (λ x. more_items_at b end p (n - 1) x.1 >>= (λ y. Ok (and_tree x.0 y.0, y.1)))) got) ∙ after_trees-join es e (more_items_at b end p (n - 1) vs)

  pub items_fail : (us : List Placed) → comma_at ts ≡ Some us → (f : ParseError) → p us ≡ Err f → total ≡ Err f
  items_fail us h f got = so_far ∙ ap (after_trees es) (more_items us h ∙ ap (λ r. r >>= (λ x. more_items_at b end p (n - 1) x.1 >>= (λ y. Ok (and_tree x.0 y.0, y.1)))) got)

  pub items_end : (us : List Placed) → comma_at ts ≡ None → pass_mark (is_closing_mark b) end ts ≡ Ok us → total ≡ Ok (trees_of es, us)
  items_end us h got = so_far ∙ ap (after_trees es) (items_none b end p n ts h ∙ ap (λ r. r >>= (λ us. Ok (no_trees, us))) got) ∙ ap (λ z. Ok (z, us)) (join_trees-none es)

  pub items_open : comma_at ts ≡ None → (f : ParseError) → pass_mark (is_closing_mark b) end ts ≡ Err f → total ≡ Err f
  items_open h f got = so_far ∙ ap (after_trees es) (items_none b end p n ts h ∙ ap (λ r. r >>= (λ us. Ok (no_trees, us))) got)

pub ruleset operand_steps = (operand_is, operand_prefixed, operand_primary)
