-- A text of the grammar takes the machine to its end.
use Rattle.std.proofs.Common.{◌≡◌, ℕ, suc, ◌+◌, ◌≤◌, leb, List, [], ◌∷◌, ◌++◌, Bool, true, false, cond, Option, Some, None, refl, sym, ap, ◌∙◌, arith}
use Rattle.std.proofs.lemmas.List.{append-nil}
use Rattle.ad_value.specs.Content.{Content}
use Rattle.ad_tree.specs.declared.operator.Scope.{Scope}
use Rattle.ad_tree.specs.declared.operator.Scope.TheVariants.{Bare, My, Target}
use Rattle.ad_tree.specs.declared.operator.UnOp.{UnOp}
use Rattle.ad_tree.specs.Tree.{Tree, Rests, Trees}
use Rattle.ad_token.specs.declared.token.Bracket.{Bracket}
use Rattle.ad_token.specs.declared.token.Bracket.TheVariants.{Round, Curly}
use Rattle.ad_token.specs.declared.token.Token.{Token}
use Rattle.ad_token.specs.declared.token.Token.TheVariants as token
use Rattle.ad_token.specs.declared.token.Placed.{Placed}
use Rattle.ad_parse.specs.Operators.{prefix_of, literal_of}
use Rattle.ad_parse.specs.Grammar.{IsCond, alone, chosen, otherwise, IsLevel, operand, single, chained, IsRests, ended, more, IsOperand, prefixed, literally, named, called, bracketed, listed, IsItems, none, some, IsMore, last, another}
use Rattle.ad_parse.specs.Reader.{is_same_bracket, is_closing_mark}
use Rattle.ad_parse.proofs.Machine.{Frame, in_round, in_items, in_yes, Mode, wanted, wanted_or_none, there, State, closed_items, begun_as, begun_by, begun, or_none, step, step_if, unless, step_within, goes, start, ends, Comes, stays, comes_on, one, shallow}

pub literal_plain : (k : Token) (v : Content) → literal_of k ≡ Some v → prefix_of k ≡ None
literal_plain (token.Op op) v h = cc
literal_plain token.Not v h = cc
literal_plain _ v h = refl

pub literal_begins : (d c : ℕ) (fs : List Frame) (k : Token) (v : Content) → literal_of k ≡ Some v → begun d c fs k ≡ Some (there None, c, fs)
literal_begins d c fs k v h = ap (begun_by d c fs k) (literal_plain k v h) ∙ ap (begun_as d c fs k) h

-- what a name leaves
abbrev pub name_depth : Scope → ℕ → Option ℕ
name_depth Bare d = Some d
name_depth My d = None
name_depth Target d = None

pub name_begins : (d c : ℕ) (fs : List Frame) (s : Scope) (x : List ℕ) → begun d c fs (token.Name s x) ≡ Some (there (name_depth s d), c, fs)
name_begins d c fs Bare x = refl
name_begins d c fs My x = refl
name_begins d c fs Target x = refl

pub same_bracket : (b : Bracket) → is_same_bracket b b ≡ true
same_bracket Round = refl
same_bracket Curly = refl

pub close_same : (b : Bracket) → is_closing_mark b (token.Close b) ≡ true
close_same b = same_bracket b

abbrev pub is_closing : Token → Bool
is_closing (token.Close b) = true
is_closing _ = false

not_close : (b : Bracket) (k : Token) → is_closing k ≡ false → is_closing_mark b k ≡ false
not_close b (token.Close a) h = cc
not_close b _ h = refl

pub first_same : (n d c : ℕ) (b : Bracket) (fs : List Frame) (k : Token) → is_closing_mark b k ≡ false → step_within n (wanted_or_none b d) c fs k ≡ step_within n (wanted d) c fs k
first_same n d c b fs k h = ap (λ x. step_if (unless x (leb n d)) (or_none x b fs (begun d c fs k))) h

pub items_close : (b : Bracket) (i c : ℕ) (fs : List Frame) → step (wanted_or_none b i) i (in_items b c i ∷ fs) (token.Close b) ≡ Some (there None, c, fs)
items_close b i c fs = ap (λ x. or_none x b (in_items b c i ∷ fs) None) (close_same b) ∙ ap (λ x. closed_items x c fs) (same_bracket b)

-- what is spelled begins with no closing bracket
abbrev pub is_item : List Placed → Bool
is_item [] = false
is_item (p ∷ ts) = cond (is_closing p.token) false true

is_item_at : (p : Placed) (ts : List Placed) → is_closing p.token ≡ false → is_item (p ∷ ts) ≡ true
is_item_at p ts h = ap (λ b. cond b false true) h

not_closing : (b : Bool) → cond b false true ≡ true → b ≡ false
not_closing true h = cc
not_closing false h = refl

prefix_not_closing : (k : Token) (op : UnOp) → prefix_of k ≡ Some op → is_closing k ≡ false
prefix_not_closing (token.Close b) op h = cc
prefix_not_closing _ op h = refl

literal_not_closing : (k : Token) (v : Content) → literal_of k ≡ Some v → is_closing k ≡ false
literal_not_closing (token.Close b) v h = cc
literal_not_closing _ v h = refl

mutual
  begins_cond : {n : ℕ} {ts us : List Placed} {e : Tree} → IsCond n ts e us → is_item ts ≡ true
  begins_cond (alone a) = begins_level a
  begins_cond (chosen a q b c d) = begins_level a
  begins_cond (otherwise a q b) = begins_level a

  begins_level : {l n : ℕ} {ts us : List Placed} {e : Tree} → IsLevel l n ts e us → is_item ts ≡ true
  begins_level (operand a) = begins_operand a
  begins_level (single a) = begins_level a
  begins_level (chained a b) = begins_level a

  begins_operand : {n : ℕ} {ts us : List Placed} {e : Tree} → IsOperand n ts e us → is_item ts ≡ true
  begins_operand (prefixed {p = p} {ts = ts} {op = op} i a) = is_item_at p ts (prefix_not_closing p.token op i)
  begins_operand (literally {p = p} {ts = ts} {c = v} i) = is_item_at p ts (literal_not_closing p.token v i)
  begins_operand (named {p = p} {ts = ts} i) = is_item_at p ts (ap is_closing i)
  begins_operand (called {p = p} {q = q} {ts = ts} i j a) = is_item_at p (q ∷ ts) (ap is_closing i)
  begins_operand (bracketed {p = p} {ts = ts} i a c) = is_item_at p ts (ap is_closing i)
  begins_operand (listed {p = p} {ts = ts} i a) = is_item_at p ts (ap is_closing i)

abbrev pub mode_of : Option State → Mode
mode_of (Some s) = s.0
mode_of None = there None

first_taken : (n d c : ℕ) (b : Bracket) (fs gs : List Frame) (o : Option ℕ) (e : ℕ) (p : Placed) (ts us : List Placed) → is_closing_mark b p.token ≡ false → (taken : List Placed) → p ∷ ts ≡ taken ++ us → goes n (Some (wanted d, c, fs)) taken ≡ Some (there o, e, gs) → Comes n (wanted_or_none b d, c, fs) (p ∷ ts) (there o, e, gs) us
first_taken n d c b fs gs o e p ts us h [] parts g = let z : wanted d ≡ there o = ap mode_of g in cc
first_taken n d c b fs gs o e p ts us h (q ∷ taken) parts g =
    let same : p ≡ q = cc in
    record { taken = q ∷ taken; parts = parts; leads = ap (λ s. goes n s taken) (first_same n d c b fs q.token (ap (λ x. is_closing_mark b x.token) (sym same) ∙ h)) ∙ g }

pub first_comes : (n d c : ℕ) (b : Bracket) (fs gs : List Frame) (o : Option ℕ) (e : ℕ) (p : Placed) (ts us : List Placed) → is_closing_mark b p.token ≡ false → Comes n (wanted d, c, fs) (p ∷ ts) (there o, e, gs) us → Comes n (wanted_or_none b d, c, fs) (p ∷ ts) (there o, e, gs) us
first_comes n d c b fs gs o e p ts us h a = first_taken n d c b fs gs o e p ts us h a.taken a.parts a.leads

first_item : (n d c : ℕ) (b : Bracket) (fs gs : List Frame) (o : Option ℕ) (e : ℕ) (ts us : List Placed) → is_item ts ≡ true → Comes n (wanted d, c, fs) ts (there o, e, gs) us → Comes n (wanted_or_none b d, c, fs) ts (there o, e, gs) us
first_item n d c b fs gs o e [] us h a = cc
first_item n d c b fs gs o e (p ∷ ts) us h a = first_comes n d c b fs gs o e p ts us (not_close b p.token (not_closing (is_closing p.token) h)) a

-- to where an operand stands
pub record Stands (n : ℕ) (s : State) (ts : List Placed) (c : ℕ) (fs : List Frame) (us : List Placed) : Type 0 where
  pub name : Option ℕ
  pub comes : Comes n s ts (there name, c, fs) us

module _ (m : ℕ) where
  and_then : (s t : State) (ts us vs : List Placed) (c : ℕ) (fs : List Frame) → Comes m s ts t us → Stands m t us c fs vs → Stands m s ts c fs vs
  and_then s t ts us vs c fs a b = record { name = b.name; comes = comes_on m s t (there b.name, c, fs) ts us vs a b.comes }

  mutual
    pub drives_cond : {n : ℕ} {ts us : List Placed} {e : Tree} → IsCond n ts e us → (d : ℕ) → d + n ≤ m → (fs : List Frame) → (c : ℕ) × Stands m (wanted d, d, fs) ts c fs us
    drives_cond (alone a) d fit fs = (d, drives_level a d fit fs)
    drives_cond (chosen {us = us} {vs = vs} {p = p} {q = q} a i b j e) d fit fs =
        let x = drives_level a d fit fs in
        let y = drives_cond b (suc d) (omega arith) (in_yes (suc d) ∷ fs) in
        let z = drives_cond e (suc d) (omega arith) fs in (
          z.0,
          and_then _ _ _ _ _ _ _ x.comes
              (and_then _ _ _ _ _ _ _ (one m (there x.name) d fs p us token.Question (wanted (suc d), suc d, in_yes (suc d) ∷ fs) i refl refl)
              (and_then _ _ _ _ _ _ _ y.1.comes
              (and_then _ _ _ _ _ _ _ (one m (there y.1.name) y.0 (in_yes (suc d) ∷ fs) q vs token.Colon (wanted (suc d), suc d, fs) j refl refl) z.1))),
        )
    drives_cond (otherwise {us = us} {p = p} a i b) d fit fs =
        let x = drives_level a d fit fs in
        let y = drives_cond b (suc d) (omega arith) fs in
        (y.0, and_then _ _ _ _ _ _ _ x.comes (and_then _ _ _ _ _ _ _ (one m (there x.name) d fs p us token.OrElse (wanted (suc d), suc d, fs) i refl refl) y.1))

    drives_level : {l n : ℕ} {ts us : List Placed} {e : Tree} → IsLevel l n ts e us → (d : ℕ) → d + n ≤ m → (fs : List Frame) → Stands m (wanted d, d, fs) ts d fs us
    drives_level (operand a) d fit fs = drives_operand a d d fit fs
    drives_level (single a) d fit fs = drives_level a d fit fs
    drives_level (chained a b) d fit fs = let x = drives_level a d fit fs in and_then _ _ _ _ _ _ _ x.comes (drives_rests b d fit x.name fs)

    drives_rests : {l n : ℕ} {ts us : List Placed} {rs : Rests} → IsRests l n ts rs us → (d : ℕ) → d + n ≤ m → (o : Option ℕ) (fs : List Frame) → Stands m (there o, d, fs) ts d fs us
    drives_rests (ended {ts = ts}) d fit o fs = record { name = o; comes = stays m (there o, d, fs) ts }
    drives_rests (more {p = p} {ts = ts} {op = op} i k a b) d fit o fs =
        let x = drives_level a d fit fs in
        and_then _ _ _ _ _ _ _ (one m (there o) d fs p ts (token.Op op) (wanted d, d, fs) i refl refl) (and_then _ _ _ _ _ _ _ x.comes (drives_rests b d fit x.name fs))

    drives_operand : {n : ℕ} {ts us : List Placed} {e : Tree} → IsOperand n ts e us → (d c : ℕ) → d + n ≤ m → (fs : List Frame) → Stands m (wanted d, c, fs) ts c fs us
    drives_operand (prefixed {p = p} {ts = ts} i a) d c fit fs =
        and_then _ _ _ _ _ _ _ (one m (wanted d) c fs p ts p.token (wanted (suc d), c, fs) refl (shallow m d (omega arith)) (ap (begun_by d c fs p.token) i)) (drives_operand a (suc d) c (omega arith) fs)
    drives_operand (literally {p = p} {ts = ts} {c = v} i) d c fit fs =
        record { name = None; comes = one m (wanted d) c fs p ts p.token (there None, c, fs) refl (shallow m d (omega arith)) (literal_begins d c fs p.token v i) }
    drives_operand (named {p = p} {ts = ts} {s = s} {x = x} i) d c fit fs =
        record { name = name_depth s d; comes = one m (wanted d) c fs p ts (token.Name s x) (there (name_depth s d), c, fs) i (shallow m d (omega arith)) (name_begins d c fs s x) }
    drives_operand (called {p = p} {q = q} {ts = ts} {x = x} i j a) d c fit fs =
        and_then _ _ _ _ _ _ _ (one m (wanted d) c fs p (q ∷ ts) (token.Name Bare x) (there (Some d), c, fs) i (shallow m d (omega arith)) refl)
        (and_then _ _ _ _ _ _ _ (one m (there (Some d)) c fs q ts (token.Open Round) (wanted_or_none Round (suc d), suc d, in_items Round c (suc d) ∷ fs) j refl refl)
        (drives_items a (suc d) c (omega arith) fs))
    drives_operand (bracketed {p = p} {q = q} {ts = ts} {us = us} i a j) d c fit fs =
        let x = drives_cond a (suc d) (omega arith) (in_round c ∷ fs) in
        and_then _ _ _ _ _ _ _ (one m (wanted d) c fs p ts (token.Open Round) (wanted (suc d), suc d, in_round c ∷ fs) i (shallow m d (omega arith)) refl)
        (and_then _ _ _ _ _ _ _ x.1.comes
        (record { name = None; comes = one m (there x.1.name) x.0 (in_round c ∷ fs) q us (token.Close Round) (there None, c, fs) j refl refl }))
    drives_operand (listed {p = p} {ts = ts} i a) d c fit fs =
        and_then _ _ _ _ _ _ _ (one m (wanted d) c fs p ts (token.Open Curly) (wanted_or_none Curly (suc d), suc d, in_items Curly c (suc d) ∷ fs) i (shallow m d (omega arith)) refl)
        (drives_items a (suc d) c (omega arith) fs)

    drives_items : {b : Bracket} {n : ℕ} {ts us : List Placed} {es : Trees} → IsItems b n ts es us → (i c : ℕ) → i + n ≤ m → (fs : List Frame) → Stands m (wanted_or_none b i, i, in_items b c i ∷ fs) ts c fs us
    drives_items (none {b = b} {p = p} {ts = ts} h) i c fit fs =
        record { name = None; comes = one m (wanted_or_none b i) i (in_items b c i ∷ fs) p ts (token.Close b) (there None, c, fs) h (ap (λ x. unless x (leb m i)) (close_same b)) (items_close b i c fs) }
    drives_items (some {b = b} {ts = ts} {us = us} a r) i c fit fs =
        let x = drives_cond a i fit (in_items b c i ∷ fs) in
        and_then _ _ _ _ _ _ _ (first_item m i i b (in_items b c i ∷ fs) (in_items b c i ∷ fs) x.1.name x.0 ts us (begins_cond a) x.1.comes) (drives_more r i c x.0 fit x.1.name fs)

    drives_more : {b : Bracket} {n : ℕ} {ts us : List Placed} {es : Trees} → IsMore b n ts es us → (i c k : ℕ) → i + n ≤ m → (o : Option ℕ) (fs : List Frame) → Stands m (there o, k, in_items b c i ∷ fs) ts c fs us
    drives_more (last {b = b} {p = p} {ts = ts} h) i c k fit o fs =
        record { name = None; comes = one m (there o) k (in_items b c i ∷ fs) p ts (token.Close b) (there None, c, fs) h refl (ap (λ x. closed_items x c fs) (same_bracket b)) }
    drives_more (another {b = b} {p = p} {ts = ts} h a r) i c k fit o fs =
        let x = drives_cond a i fit (in_items b c i ∷ fs) in
        and_then _ _ _ _ _ _ _ (one m (there o) k (in_items b c i ∷ fs) p ts token.Comma (wanted i, i, in_items b c i ∷ fs) h refl refl)
        (and_then _ _ _ _ _ _ _ x.1.comes (drives_more r i c x.0 fit x.1.name fs))

-- A text of the grammar with a limit of nesting takes the machine with that limit, or a wider one, to its end.
pub text_ends : (n m : ℕ) (ts : List Placed) (e : Tree) → n ≤ m → IsCond n ts e [] → ends (goes m (Some start) ts) ≡ true
text_ends n m ts e fit a =
    let x = drives_cond m a 0 (omega arith) [] in
    ap (λ us. ends (goes m (Some start) us)) (x.1.comes.parts ∙ append-nil x.1.comes.taken) ∙ ap ends x.1.comes.leads
