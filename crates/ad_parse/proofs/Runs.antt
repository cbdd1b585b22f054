-- Reading takes the machine to where an operand stands and the text can't go on, or to where the machine is stuck.
use Rattle.std.proofs.Common.{◌≡◌, ℕ, zero, suc, ◌+◌, ◌≤◌, leb, List, [], ◌∷◌, ◌++◌, length, true, false, Option, Some, None, Result, Ok, Err, inl, inr, refl, sym, ap, ◌∙◌, subst, arith}
use Rattle.std.proofs.lemmas.Bool.{le-leb}
use Rattle.ad_value.specs.Content.{Content}
use Rattle.ad_tree.specs.declared.operator.Scope.{Scope}
use Rattle.ad_tree.specs.declared.operator.Scope.TheVariants.{Bare, My, Target}
use Rattle.ad_tree.specs.declared.operator.UnOp.{UnOp}
use Rattle.ad_tree.specs.declared.operator.BinOp.{BinOp}
use Rattle.ad_tree.specs.Tree.{Tree, no_rests}
use Rattle.ad_token.specs.declared.token.Bracket.{Bracket}
use Rattle.ad_token.specs.declared.token.Bracket.TheVariants.{Round, Curly}
use Rattle.ad_token.specs.declared.token.Token.{Token}
use Rattle.ad_token.specs.declared.token.Token.TheVariants as token
use Rattle.ad_token.specs.declared.token.Placed.{Placed}
use Rattle.ad_parse.specs.declared.error.ParseError.{ParseError}
use Rattle.ad_parse.specs.declared.error.ParseError.TheVariants as fault
use Rattle.ad_parse.specs.Operators.{prefix_of, literal_of}
use Rattle.ad_parse.specs.Reader.{Read, misplaced_token, depth_refusal, is_colon, is_closing_mark, infix_at, rests_by, rests_at, level_at, branches_at, or_else_at, choice_by, choice_at, comma_of, comma_at, no_more_items_at, more_items_by, more_items_at, items_at, brackets_at, list_at, open_at, call_by, name_at, primary_by, literal_or, operand_by, operand_with, operand_at, cond_at}
use Rattle.ad_parse.proofs.Sound.{some_is, infix_at-is, comma_at-is, open_at-is}
use Rattle.ad_parse.proofs.Machine.{Frame, in_round, in_items, in_yes, wanted, wanted_or_none, there, closed_items, begun_with, begun_as, begun_by, begun, or_none, gone_on, step, unless, goes, Comes, stays, one, shallow}
use Rattle.ad_parse.proofs.Drives.{literal_begins, same_bracket, name_depth, name_begins, first_same, first_comes}
use Rattle.ad_parse.proofs.Outcomes.{Why, Stuck, Outcome, Does, Past, Uncalled, Level, Ends, Cond, past_cond, past_zero, past_six, past_next, unopened, uncalled_none, does_ok, does_err, does_after, does_bind, does_if, does_at, does_pass}

-- chains, where their operands are as wanted
module _ (end m : ℕ) (p : Read Tree) (d : ℕ) (operand_does : (fs : List Frame) (ts : List Placed) → Does end m (Level 0 d) fs (wanted d, d, fs) ts (p ts)) where
  module _ (l : ℕ) (inner : (fs : List Frame) (ts : List Placed) → Does end m (Level l d) fs (wanted d, d, fs) ts (level_at p l ts)) where
    rests_by_does : (n : ℕ) (below : (o : Option ℕ) (fs : List Frame) (ts : List Placed) → length ts ≤ n → Uncalled o ts → Past l ts → Does end m (Level (suc l) d) fs (there o, d, fs) ts (rests_at (level_at p l) (suc l) n ts)) (o : Option ℕ) (fs : List Frame) (ts : List Placed) → length ts ≤ suc n → Uncalled o ts → Past l ts → (x : Option (BinOp × List Placed)) → infix_at (suc l) ts ≡ x → Does end m (Level (suc l) d) fs (there o, d, fs) ts (rests_by (level_at p l) (rests_at (level_at p l) (suc l) n) ts x)
    rests_by_does n below o fs ts long un past None is = does_ok end m o d no_rests ts (record { same = refl; uncalled = un; past = past_next l ts past is })
    rests_by_does n below o fs ts long un past (Some x) is =
        let w = infix_at-is (suc l) ts x is in
        let size = ap length w.1 in
        let first : Comes m (there o, d, fs) ts (wanted d, d, fs) x.1 = subst (λ y. Comes m (there o, d, fs) y (wanted d, d, fs) x.1) (sym w.1) (one m (there o) d fs w.0 x.1 (token.Op x.0) (wanted d, d, fs) w.2 refl refl) in
        does_after end m _ _ _ _ _ first (does_bind end m _ _ _ _ (inner fs x.1) (λ y q c fit found.
        does_at end m q d c y.1 _ found.same (does_bind end m _ _ _ _ (below q fs y.1 (omega arith) found.uncalled found.past) (λ z q c fit found.
        does_ok end m q c _ z.1 found))))

    rests_does : (n : ℕ) (o : Option ℕ) (fs : List Frame) (ts : List Placed) → length ts ≤ n → Uncalled o ts → Past l ts → Does end m (Level (suc l) d) fs (there o, d, fs) ts (rests_at (level_at p l) (suc l) n ts)
    unfolding rests_at
    rests_does zero o fs [] long un past = does_ok end m o d no_rests [] (record { same = refl; uncalled = tt; past = tt })
    rests_does zero o fs (q ∷ ts) long un past = absurd (omega arith)
    rests_does (suc n) o fs ts long un past = rests_by_does n (rests_does n) o fs ts long un past (infix_at (suc l) ts) refl

  level_does : (l : ℕ) (fs : List Frame) (ts : List Placed) → Does end m (Level l d) fs (wanted d, d, fs) ts (level_at p l ts)
  unfolding level_at
  level_does zero fs ts = operand_does fs ts
  level_does (suc l) fs ts = does_bind end m _ _ _ _ (level_does l fs ts) (λ x o c fit found.
      does_at end m o d c x.1 _ found.same (does_bind end m _ _ _ _ (rests_does l (level_does l) (length x.1) o fs x.1 (omega arith) found.uncalled found.past) (λ y q c fit found.
      does_ok end m q c _ y.1 found)))

not_colon : (i : ℕ) (fs : List Frame) (k : Token) → is_colon k ≡ false → past_cond (in_yes i ∷ fs) k ≡ None
not_colon i fs token.Colon h = cc
not_colon i fs _ h = refl

colon_goes : (o : Option ℕ) (c i : ℕ) (fs : List Frame) (k : Token) → is_colon k ≡ true → gone_on o c (in_yes i ∷ fs) k ≡ Some (wanted i, i, fs)
colon_goes o c i fs token.Colon h = refl
colon_goes o c i fs _ h = cc

not_round : (c : ℕ) (fs : List Frame) (k : Token) → is_closing_mark Round k ≡ false → past_cond (in_round c ∷ fs) k ≡ None
not_round c fs (token.Close Round) h = cc
not_round c fs _ h = refl

round_goes : (o : Option ℕ) (e c : ℕ) (fs : List Frame) (k : Token) → is_closing_mark Round k ≡ true → gone_on o e (in_round c ∷ fs) k ≡ Some (there None, c, fs)
round_goes o e c fs (token.Close Round) h = refl
round_goes o e c fs _ h = cc

not_last : (b : Bracket) (c i : ℕ) (fs : List Frame) (k : Token) (ts : List Placed) → comma_of k ts ≡ None → is_closing_mark b k ≡ false → past_cond (in_items b c i ∷ fs) k ≡ None
not_last b c i fs token.Comma ts none h = cc
not_last b c i fs (token.Close a) ts none h = ap (λ x. closed_items x c fs) h
not_last b c i fs _ ts none h = refl

last_goes : (o : Option ℕ) (e : ℕ) (b : Bracket) (c i : ℕ) (fs : List Frame) (k : Token) → is_closing_mark b k ≡ true → gone_on o e (in_items b c i ∷ fs) k ≡ Some (there None, c, fs)
last_goes o e b c i fs (token.Close a) h = ap (λ x. closed_items x c fs) h
last_goes o e b c i fs _ h = cc

none_goes : (b : Bracket) (c i : ℕ) (fs : List Frame) (k : Token) → is_closing_mark b k ≡ true → step (wanted_or_none b i) i (in_items b c i ∷ fs) k ≡ Some (there None, c, fs)
none_goes b c i fs (token.Close a) h = ap (λ x. or_none x b (in_items b c i ∷ fs) None) h ∙ ap (λ x. closed_items x c fs) (same_bracket b)
none_goes b c i fs _ h = cc

-- at the beginning of a list its closing bracket may stand too
first_why : (end m i : ℕ) (b : Bracket) (gs : List Frame) (p : Placed) (ts : List Placed) (f : ParseError) → is_closing_mark b p.token ≡ false → Why end m (wanted i, i, gs) (p ∷ ts) f → Why end m (wanted_or_none b i, i, gs) (p ∷ ts) f
first_why end m i b gs p ts f h (inl w) = inl (w.0, ap (λ x. or_none x b gs (begun i i gs p.token)) h ∙ w.1, w.2)
first_why end m i b gs p ts f h (inr w) = inr (w.0, ap (λ x. unless x (leb m i)) h ∙ w.1)

first_stuck : (end m i : ℕ) (b : Bracket) (gs : List Frame) (p : Placed) (ts : List Placed) (f : ParseError) → is_closing_mark b p.token ≡ false → (k : Stuck end m (wanted i, i, gs) (p ∷ ts) f) → (taken : List Placed) → p ∷ ts ≡ taken ++ k.left → goes m (Some (wanted i, i, gs)) taken ≡ Some k.state → Stuck end m (wanted_or_none b i, i, gs) (p ∷ ts) f
first_stuck end m i b gs p ts f h k [] e g = record {
  state = (wanted_or_none b i, i, gs);
  left = p ∷ ts;
  comes = stays m _ (p ∷ ts);
  why = first_why end m i b gs p ts f h (subst (λ x. Why end m x (p ∷ ts) f) (sym (some_is _ _ g)) (subst (λ u. Why end m k.state u f) (sym e) k.why));
}
first_stuck end m i b gs p ts f h k (q ∷ taken) e g =
    let same : p ≡ q = cc in
    record {
      state = k.state;
      left = k.left;
      comes = record { taken = q ∷ taken; parts = e; leads = ap (λ s. goes m s taken) (first_same m i i b gs q.token (ap (λ x. is_closing_mark b x.token) (sym same) ∙ h)) ∙ g };
      why = k.why;
    }

first_by : {A : Type 0} {Q : Option ℕ → ℕ → List Placed → Type 0} {fs : List Frame} (end m i : ℕ) (b : Bracket) (gs : List Frame) (p : Placed) (ts : List Placed) (r : Result (A × List Placed) ParseError) → is_closing_mark b p.token ≡ false → Does end m Q fs (wanted i, i, gs) (p ∷ ts) r → Outcome end m Q fs (wanted_or_none b i, i, gs) (p ∷ ts) r
first_by {fs = fs} end m i b gs p ts (Ok x) h k = let k = k.outcome in record { name = k.name; depth = k.depth; comes = first_comes m i i b gs fs k.name k.depth p ts x.1 h k.comes; found = k.found }
first_by end m i b gs p ts (Err f) h k = let k = k.outcome in first_stuck end m i b gs p ts f h k k.comes.taken k.comes.parts k.comes.leads

does_first : {A : Type 0} {Q : Option ℕ → ℕ → List Placed → Type 0} {fs : List Frame} (end m i : ℕ) (b : Bracket) (gs : List Frame) (p : Placed) (ts : List Placed) (r : Result (A × List Placed) ParseError) → is_closing_mark b p.token ≡ false → Does end m Q fs (wanted i, i, gs) (p ∷ ts) r → Does end m Q fs (wanted_or_none b i, i, gs) (p ∷ ts) r
does_first end m i b gs p ts r h k = record { outcome = first_by end m i b gs p ts r h k }

closed_level : (c : ℕ) (us : List Placed) → Level 0 c None c us
closed_level c us = record { same = refl; uncalled = uncalled_none us; past = past_zero us }

-- what stands in brackets and branches, where conditions are as wanted
module _ (end m : ℕ) (inner : Read Tree) (i : ℕ) (inner_does : (fs : List Frame) (ts : List Placed) → Does end m Cond fs (wanted i, i, fs) ts (inner ts)) where
  branches_does : (t : Tree) (fs : List Frame) (ts : List Placed) → Does end m Cond fs (wanted i, i, in_yes i ∷ fs) ts (branches_at end inner t ts)
  branches_does t fs ts = does_bind end m _ _ _ _ (inner_does (in_yes i ∷ fs) ts) (λ y o c fit found.
      does_pass end m is_colon o c (in_yes i) fs (wanted i, i, fs) y.1 _ found (colon_goes o c i fs) (λ p vs e h. not_colon i fs p.token h) (λ us.
      does_bind end m _ _ _ _ (inner_does fs us) (λ n o c fit found. does_ok end m o c _ n.1 found)))

  otherwise_does : (t : Tree) (fs : List Frame) (ts : List Placed) → Does end m Cond fs (wanted i, i, fs) ts (or_else_at inner t ts)
  otherwise_does t fs ts = does_bind end m _ _ _ _ (inner_does fs ts) (λ f o c fit found. does_ok end m o c _ f.1 found)

  last_does : (b : Bracket) (c : ℕ) (fs : List Frame) (o : Option ℕ) (k : ℕ) (ts : List Placed) → Ends o ts → comma_at ts ≡ None → Does end m (Level 0 c) fs (there o, k, in_items b c i ∷ fs) ts (no_more_items_at b end ts)
  last_does b c fs o k ts h none = does_pass end m (is_closing_mark b) o k (in_items b c i) fs (there None, c, fs) ts _ h (last_goes o k b c i fs) (λ p vs e un. not_last b c i fs p.token vs (ap comma_at (sym e) ∙ none) un) (λ us.
      does_ok end m None c _ us (closed_level c us))

  more_by_does : (b : Bracket) (c : ℕ) (fs : List Frame) (n : ℕ) (below : (o : Option ℕ) (k : ℕ) (ts : List Placed) → length ts ≤ n → Ends o ts → Does end m (Level 0 c) fs (there o, k, in_items b c i ∷ fs) ts (more_items_at b end inner n ts)) (o : Option ℕ) (k : ℕ) (ts : List Placed) → length ts ≤ suc n → Ends o ts → (x : Option (List Placed)) → comma_at ts ≡ x → Does end m (Level 0 c) fs (there o, k, in_items b c i ∷ fs) ts (more_items_by b end inner (more_items_at b end inner n) ts x)
  more_by_does b c fs n below o k ts long h None is = last_does b c fs o k ts h is
  more_by_does b c fs n below o k ts long h (Some us) is =
      let w = comma_at-is ts us is in
      let size = ap length w.1 in
      let first : Comes m (there o, k, in_items b c i ∷ fs) ts (wanted i, i, in_items b c i ∷ fs) us = subst (λ y. Comes m (there o, k, in_items b c i ∷ fs) y (wanted i, i, in_items b c i ∷ fs) us) (sym w.1) (one m (there o) k (in_items b c i ∷ fs) w.0 us token.Comma (wanted i, i, in_items b c i ∷ fs) w.2 refl refl) in
      does_after end m _ _ _ _ _ first (does_bind end m _ _ _ _ (inner_does (in_items b c i ∷ fs) us) (λ x o k fit found.
      does_bind end m _ _ _ _ (below o k x.1 (omega arith) found) (λ y o k fit found. does_ok end m o k _ y.1 found)))

  more_does : (b : Bracket) (c : ℕ) (fs : List Frame) (n : ℕ) (o : Option ℕ) (k : ℕ) (ts : List Placed) → length ts ≤ n → Ends o ts → Does end m (Level 0 c) fs (there o, k, in_items b c i ∷ fs) ts (more_items_at b end inner n ts)
  unfolding more_items_at
  more_does b c fs zero o k [] long h = last_does b c fs o k [] h refl
  more_does b c fs zero o k (p ∷ ts) long h = absurd (omega arith)
  more_does b c fs (suc n) o k ts long h = more_by_does b c fs n (more_does b c fs n) o k ts long h (comma_at ts) refl

  items_does : (b : Bracket) (c : ℕ) (fs : List Frame) (ts : List Placed) → Does end m (Level 0 c) fs (wanted_or_none b i, i, in_items b c i ∷ fs) ts (items_at b end inner ts)
  items_does b c fs [] = does_err end m (wanted_or_none b i, i, in_items b c i ∷ fs) [] (fault.Syntax end) (refl, refl)
  items_does b c fs (p ∷ ts) = does_if end m _ _ (is_closing_mark b p.token) _ _
      (λ h. does_after end m _ _ _ _ _ (one m (wanted_or_none b i) i (in_items b c i ∷ fs) p ts p.token (there None, c, fs) refl (ap (λ x. unless x (leb m i)) h) (none_goes b c i fs p.token h)) (does_ok end m None c _ ts (closed_level c ts)))
      (λ h. does_first end m i b (in_items b c i ∷ fs) p ts _ h (does_bind end m _ _ _ _ (inner_does (in_items b c i ∷ fs) (p ∷ ts)) (λ x o k fit found.
      does_bind end m _ _ _ _ (more_does b c fs (length x.1) o k x.1 (omega arith) found) (λ y o k fit found. does_ok end m o k _ y.1 found))))

  bracketed_does : (c : ℕ) (fs : List Frame) (ts : List Placed) → Does end m (Level 0 c) fs (wanted i, i, in_round c ∷ fs) ts (brackets_at end inner ts)
  bracketed_does c fs ts = does_bind end m _ _ _ _ (inner_does (in_round c ∷ fs) ts) (λ x o k fit found.
      does_pass end m (is_closing_mark Round) o k (in_round c) fs (there None, c, fs) x.1 _ found (round_goes o k c fs) (λ p vs e h. not_round c fs p.token h) (λ us. does_ok end m None c _ us (closed_level c us)))

  listed_does : (c : ℕ) (fs : List Frame) (ts : List Placed) → Does end m (Level 0 c) fs (wanted_or_none Curly i, i, in_items Curly c i ∷ fs) ts (list_at end inner ts)
  listed_does c fs ts = does_bind end m _ _ _ _ (items_does Curly c fs ts) (λ x o k fit found. does_ok end m o k _ x.1 found)

-- what may follow the test, and what an operand begins with
module _ (end m : ℕ) (inner : Read Tree) (d : ℕ) (inner_does : (fs : List Frame) (ts : List Placed) → Does end m Cond fs (wanted (suc d), suc d, fs) ts (inner ts)) where
  choice_by_does : (o : Option ℕ) (t : Tree) (fs : List Frame) (p : Placed) (k : Token) (ts : List Placed) → p.token ≡ k → Past 6 (p ∷ ts) → Uncalled o (p ∷ ts) → Does end m Cond fs (there o, d, fs) (p ∷ ts) (choice_by end inner t p k ts)
  choice_by_does o t fs p token.Question ts i past un = does_after end m _ _ _ _ _ (one m (there o) d fs p ts token.Question (wanted (suc d), suc d, in_yes (suc d) ∷ fs) i refl refl) (branches_does end m inner (suc d) inner_does t fs ts)
  choice_by_does o t fs p token.OrElse ts i past un = does_after end m _ _ _ _ _ (one m (there o) d fs p ts token.OrElse (wanted (suc d), suc d, fs) i refl refl) (otherwise_does end m inner (suc d) inner_does t fs ts)
  choice_by_does o t fs p _ ts i past un = does_ok end m o d t (p ∷ ts) (record { operator = past_six p ts past; question = λ j. cc; or_else = λ j. cc; call = un })

  choice_does : (o : Option ℕ) (t : Tree) (fs : List Frame) (ts : List Placed) → Past 6 ts → Uncalled o ts → Does end m Cond fs (there o, d, fs) ts (choice_at end inner t ts)
  choice_does o t fs [] past un = does_ok end m o d t [] tt
  choice_does o t fs (p ∷ ts) past un = choice_by_does o t fs p p.token ts refl past un

  called_by_does : (x : List ℕ) (c : ℕ) (fs : List Frame) (ts : List Placed) (o : Option (List Placed)) → open_at ts ≡ o → Does end m (Level 0 c) fs (there (Some d), c, fs) ts (call_by end inner x ts o)
  called_by_does x c fs ts None is = does_ok end m (Some d) c _ ts (record { same = refl; uncalled = unopened (Some d) ts is; past = past_zero ts })
  called_by_does x c fs ts (Some us) is =
      let w = open_at-is ts us is in
      let first : Comes m (there (Some d), c, fs) ts (wanted_or_none Round (suc d), suc d, in_items Round c (suc d) ∷ fs) us = subst (λ y. Comes m (there (Some d), c, fs) y (wanted_or_none Round (suc d), suc d, in_items Round c (suc d) ∷ fs) us) (sym w.1) (one m (there (Some d)) c fs w.0 us (token.Open Round) (wanted_or_none Round (suc d), suc d, in_items Round c (suc d) ∷ fs) w.2 refl refl) in
      does_after end m _ _ _ _ _ first (does_bind end m _ _ _ _ (items_does end m inner (suc d) inner_does Round c fs us) (λ y o k fit found. does_ok end m o k _ y.1 found))

  named_by_does : (s : Scope) (x : List ℕ) (c : ℕ) (fs : List Frame) (ts : List Placed) → Does end m (Level 0 c) fs (there (name_depth s d), c, fs) ts (name_at end inner s x ts)
  named_by_does Bare x c fs ts = called_by_does x c fs ts (open_at ts) refl
  named_by_does My x c fs ts = does_ok end m None c _ ts (closed_level c ts)
  named_by_does Target x c fs ts = does_ok end m None c _ ts (closed_level c ts)

  module _ (fits : leb m d ≡ false) where
    primary_by_does : (p : Placed) (k : Token) (c : ℕ) (fs : List Frame) (ts : List Placed) → p.token ≡ k → prefix_of p.token ≡ None → literal_of p.token ≡ None → Does end m (Level 0 c) fs (wanted d, c, fs) (p ∷ ts) (primary_by end inner k p.at ts)
    primary_by_does p (token.Name s x) c fs ts i plain un = does_after end m _ _ _ _ _ (one m (wanted d) c fs p ts (token.Name s x) (there (name_depth s d), c, fs) i fits (name_begins d c fs s x)) (named_by_does s x c fs ts)
    primary_by_does p (token.Open Round) c fs ts i plain un = does_after end m _ _ _ _ _ (one m (wanted d) c fs p ts (token.Open Round) (wanted (suc d), suc d, in_round c ∷ fs) i fits refl) (bracketed_does end m inner (suc d) inner_does c fs ts)
    primary_by_does p (token.Open Curly) c fs ts i plain un = does_after end m _ _ _ _ _ (one m (wanted d) c fs p ts (token.Open Curly) (wanted_or_none Curly (suc d), suc d, in_items Curly c (suc d) ∷ fs) i fits refl) (listed_does end m inner (suc d) inner_does c fs ts)
    primary_by_does p _ c fs ts i plain un =
        does_err end m (wanted d, c, fs) (p ∷ ts) _ (inl (ap (λ x. misplaced_token x p.at) (sym i), ap (begun_by d c fs p.token) plain ∙ ap (begun_as d c fs p.token) un ∙ ap (begun_with d c fs) i, fits))

    literal_or_does : (p : Placed) (c : ℕ) (fs : List Frame) (ts : List Placed) (o : Option Content) → prefix_of p.token ≡ None → literal_of p.token ≡ o → Does end m (Level 0 c) fs (wanted d, c, fs) (p ∷ ts) (literal_or end inner p ts o)
    literal_or_does p c fs ts (Some v) plain is = does_after end m _ _ _ _ _ (one m (wanted d) c fs p ts p.token (there None, c, fs) refl fits (literal_begins d c fs p.token v is)) (does_ok end m None c _ ts (closed_level c ts))
    literal_or_does p c fs ts None plain is = primary_by_does p p.token c fs ts refl plain is

    operand_by_does : (prior : Read Tree) (prior_does : (c : ℕ) (fs : List Frame) (ts : List Placed) → Does end m (Level 0 c) fs (wanted (suc d), c, fs) ts (prior ts)) (p : Placed) (c : ℕ) (fs : List Frame) (ts : List Placed) (o : Option UnOp) → prefix_of p.token ≡ o → Does end m (Level 0 c) fs (wanted d, c, fs) (p ∷ ts) (operand_by end prior inner p ts o)
    operand_by_does prior prior_does p c fs ts (Some op) is = does_after end m _ _ _ _ _ (one m (wanted d) c fs p ts p.token (wanted (suc d), c, fs) refl fits (ap (begun_by d c fs p.token) is)) (does_bind end m _ _ _ _ (prior_does c fs ts) (λ x o k fit found. does_ok end m o k _ x.1 found))
    operand_by_does prior prior_does p c fs ts None is = literal_or_does p c fs ts (literal_of p.token) is refl

    operand_with_does : (prior : Read Tree) (prior_does : (c : ℕ) (fs : List Frame) (ts : List Placed) → Does end m (Level 0 c) fs (wanted (suc d), c, fs) ts (prior ts)) (c : ℕ) (fs : List Frame) (ts : List Placed) → Does end m (Level 0 c) fs (wanted d, c, fs) ts (operand_with end prior inner ts)
    operand_with_does prior prior_does c fs [] = does_err end m (wanted d, c, fs) [] (fault.Syntax end) (refl, refl)
    operand_with_does prior prior_does c fs (p ∷ ts) = operand_by_does prior prior_does p c fs ts (prefix_of p.token) refl

deep_does : (end m d c : ℕ) (Q : Option ℕ → ℕ → List Placed → Type 0) (fs : List Frame) (ts : List Placed) → m ≤ d → Does {A = Tree} end m Q fs (wanted d, c, fs) ts (Err (depth_refusal end ts))
deep_does end m d c Q fs [] h = does_err end m (wanted d, c, fs) [] (fault.Syntax end) (refl, refl)
deep_does end m d c Q fs (p ∷ ts) h = does_err end m (wanted d, c, fs) (p ∷ ts) _ (inr (refl, le-leb m d h))

-- what readers do where n more may hold an operand
pub record Runs (end m n : ℕ) : Type 0 where
  pub operands : (d : ℕ) → d + n ≡ m → (c : ℕ) (fs : List Frame) (ts : List Placed) → Does end m (Level 0 c) fs (wanted d, c, fs) ts (operand_at end n ts)
  pub conds : (d : ℕ) → d + n ≡ m → (fs : List Frame) (ts : List Placed) → Does end m Cond fs (wanted d, d, fs) ts (cond_at end n ts)

pub runs : (end m n : ℕ) → Runs end m n
unfolding operand_at
runs end m zero = record {
  operands = λ d e c fs ts. deep_does end m d c (Level 0 c) fs ts (omega arith);
  conds = λ d e fs ts. deep_does end m d d Cond fs ts (omega arith);
}
runs end m (suc n) =
    let below = runs end m n in
    record {
      operands = λ d e c fs ts. operand_with_does end m (cond_at end n) d (below.conds (suc d) (omega arith)) (shallow m d (omega arith)) (operand_at end n) (below.operands (suc d) (omega arith)) c fs ts;
      conds = λ d e fs ts.
          let inner = below.conds (suc d) (omega arith) in
          let os = operand_with_does end m (cond_at end n) d inner (shallow m d (omega arith)) (operand_at end n) (below.operands (suc d) (omega arith)) d in
          does_bind end m _ _ _ _ (level_does end m (operand_with end (operand_at end n) (cond_at end n)) d os 6 fs ts) (λ x o c fit found.
          does_at end m o d c x.1 _ found.same (choice_does end m (cond_at end n) d inner o x.0 fs x.1 found.past found.uncalled));
    }
