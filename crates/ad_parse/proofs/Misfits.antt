-- A refusal is at the first misfit, and there is only one.
use Rattle.std.proofs.Common.{◌≡◌, ℕ, pos, ◌+◌, leb, List, [], ◌∷◌, ◌++◌, Bool, true, false, Option, Some, None, Result, Ok, Err, ◌⊎◌, inl, inr, refl, sym, ap, ◌∙◌, subst, arith}
use Rattle.std.specs.Prelude.{IfErr}
use Rattle.std.proofs.lemmas.List.{append-nil}
use Rattle.ad_tree.specs.Tree.{Tree}
use Rattle.ad_token.specs.declared.token.Bracket.{Bracket}
use Rattle.ad_token.specs.declared.token.Bracket.TheVariants.{Round, Curly}
use Rattle.ad_token.specs.declared.token.Token.{Token}
use Rattle.ad_token.specs.declared.token.Token.TheVariants as token
use Rattle.ad_token.specs.declared.token.Placed.{Placed}
use Rattle.ad_parse.specs.declared.error.ParseError.{ParseError}
use Rattle.ad_parse.specs.declared.error.ParseError.TheVariants as fault
use Rattle.ad_parse.specs.Grammar.{IsCond}
use Rattle.ad_parse.specs.Reader.{◌>>=◌, misplaced_token, depth_refusal_at, is_same_bracket, is_closing_mark, cond_at, whole_at, text_at}
use Rattle.ad_parse.specs.Gives.{Fails, Gives}
use Rattle.ad_token.specs.Lexing.{ends_the_tokens}
use Rattle.ad_parse.specs.Misfit.{BeginsWithin, CanGoOn, operand_there, TooDeepAfter, IsShallow, IsMisfit, deep, strange, FirstMisfit}
use Rattle.ad_parse.proofs.Machine.{Frame, in_round, in_items, in_yes, Mode, wanted, wanted_or_none, there, State, closed, closed_items, begun, or_none, step, step_if, step_within, is_deep, unless, is_blocked, goes, start, is_end, ends, goes_none, goes_append}
use Rattle.ad_parse.proofs.Drives.{mode_of, text_ends}
use Rattle.ad_parse.proofs.Outcomes.{Why, Stuck, Reached, Outcome, Cond}
use Rattle.ad_parse.proofs.Runs.{runs}
use Rattle.ad_parse.proofs.Closing.{is_shut, none_ends, step_if_none, top_stops, begins_within, goes_wider, room, room_fits, room_deep, alive}

-- one more token
goes_one : (n : ℕ) (ts : List Placed) (s : State) (p : Placed) → goes n (Some start) ts ≡ Some s → goes n (Some start) (ts ++ p ∷ []) ≡ goes n (step_within n s.0 s.1 s.2 p.token) []
goes_one n ts s p h = goes_append n (Some start) ts (p ∷ []) ∙ ap (λ o. goes n o (p ∷ [])) h

goes_nil : (n : ℕ) (o : Option State) → goes n o [] ≡ o
goes_nil n None = refl
goes_nil n (Some s) = refl

-- a text doesn't go on where the machine doesn't
pub no_step_ends : (n : ℕ) (ts : List Placed) (s : State) (p : Placed) (more : List Placed) → goes n (Some start) ts ≡ Some s → step_within n s.0 s.1 s.2 p.token ≡ None → ends (goes n (Some start) ((ts ++ p ∷ []) ++ more)) ≡ true → ⊥
no_step_ends n ts s p more h none e =
    none_ends n more (ap (λ o. ends (goes n o more)) (sym (goes_one n ts s p h ∙ ap (λ o. goes n o []) none)) ∙ ap ends (sym (goes_append n (Some start) (ts ++ p ∷ []) more)) ∙ e)

dead : (n : ℕ) (ts : List Placed) (s : State) (p : Placed) → goes n (Some start) ts ≡ Some s → step s.0 s.1 s.2 p.token ≡ None → CanGoOn (ts ++ p ∷ []) → ⊥
dead n ts s p h none g =
    let m = n + g.0 in
    no_step_ends m ts s p g.1.0 (goes_wider n m (omega arith) start ts s h) (ap (step_if (is_blocked m s.0 p.token)) none ∙ step_if_none (is_blocked m s.0 p.token)) (text_ends g.0 m ((ts ++ p ∷ []) ++ g.1.0) g.1.1 (omega arith) g.1.2)

dead_within : (n : ℕ) (ts : List Placed) (s : State) (p : Placed) → goes n (Some start) ts ≡ Some s → is_blocked n s.0 p.token ≡ true → BeginsWithin n (ts ++ p ∷ []) → ⊥
dead_within n ts s p h b g =
    no_step_ends n ts s p g.0 h (ap (λ x. step_if x (step s.0 s.1 s.2 p.token)) b) (text_ends n n ((ts ++ p ∷ []) ++ g.0) g.1 (omega arith) g.2)

unfinished : (m : ℕ) (ts : List Placed) (s : State) → goes m (Some start) ts ≡ Some s → is_end s.0 s.2 ≡ false → (n : ℕ) (e : Tree) → IsCond n ts e [] → ⊥
unfinished m ts s h un n e c =
    let z : false ≡ true = sym un ∙ ap ends (sym (goes_wider m (m + n) (omega arith) start ts s h)) ∙ text_ends n (m + n) ts e (omega arith) c in
    cc

-- where an operand is wanted too deep
zero_steps : (n : ℕ) (m : Mode) (c : ℕ) (fs : List Frame) → is_deep n m ≡ false → ((o : Option ℕ) → m ≡ there o → ⊥) → step_within n m c fs (token.Int (pos 0)) ≡ Some (there None, c, fs)
zero_steps n (wanted d) c fs h un = ap (λ x. step_if x (Some (there None, c, fs))) h
zero_steps n (wanted_or_none b d) c fs h un = ap (λ x. step_if x (Some (there None, c, fs))) h
zero_steps n (there o) c fs h un = absurd (un o refl)

zero_goes : (n : ℕ) (ts : List Placed) (s : State) → goes n (Some start) ts ≡ Some s → is_deep n s.0 ≡ false → ((o : Option ℕ) → s.0 ≡ there o → ⊥) → goes n (Some start) (ts ++ operand_there ∷ []) ≡ Some (there None, s.1, s.2)
zero_goes n ts s h low un = goes_one n ts s operand_there h ∙ ap (λ o. goes n o []) (zero_steps n s.0 s.1 s.2 low un)

deep_blocks : (n : ℕ) (m : Mode) → is_deep n m ≡ true → is_blocked n m (token.Int (pos 0)) ≡ true
deep_blocks n (wanted d) h = h
deep_blocks n (wanted_or_none b d) h = h
deep_blocks n (there o) h = cc

deep_wants : (n : ℕ) (m : Mode) → is_deep n m ≡ true → (o : Option ℕ) → m ≡ there o → ⊥
deep_wants n (wanted d) h o e = cc
deep_wants n (wanted_or_none b d) h o e = cc
deep_wants n (there q) h o e = cc

unless_blocks : (x y : Bool) → unless x y ≡ true → y ≡ true
unless_blocks true y h = cc
unless_blocks false y h = h

blocked_deep : (n : ℕ) (m : Mode) (k : Token) → is_blocked n m k ≡ true → is_deep n m ≡ true
blocked_deep n (wanted d) k h = h
blocked_deep n (wanted_or_none b d) k h = unless_blocks (is_closing_mark b k) (leb n d) h
blocked_deep n (there o) k h = cc

too_deep_after : (ts : List Placed) (s : State) → goes 65 (Some start) ts ≡ Some s → is_deep 65 s.0 ≡ true → TooDeepAfter ts
too_deep_after ts s h d = record {
  wanted = alive (room 65 s.0) (ts ++ operand_there ∷ []) (there None, s.1, s.2) (zero_goes (room 65 s.0) ts s (goes_wider 65 (room 65 s.0) (room_fits 65 s.0) start ts s h) (room_deep 65 s.0) (deep_wants 65 s.0 d));
  too_deep = dead_within 65 ts s operand_there h (deep_blocks 65 s.0 d);
}

not_too_deep_by : (ts : List Placed) (m : Mode) (c : ℕ) (fs : List Frame) → goes 65 (Some start) ts ≡ Some (m, c, fs) → is_deep 65 m ≡ false → TooDeepAfter ts → ⊥
not_too_deep_by ts (wanted d) c fs h low t = t.too_deep (begins_within 65 (ts ++ operand_there ∷ []) (there None, c, fs) (zero_goes 65 ts (wanted d, c, fs) h low (λ o e. cc)) refl)
not_too_deep_by ts (wanted_or_none b d) c fs h low t = t.too_deep (begins_within 65 (ts ++ operand_there ∷ []) (there None, c, fs) (zero_goes 65 ts (wanted_or_none b d, c, fs) h low (λ o e. cc)) refl)
not_too_deep_by ts (there o) c fs h low t = dead 65 ts (there o, c, fs) operand_there h refl t.wanted

not_too_deep : (ts : List Placed) (s : State) → goes 65 (Some start) ts ≡ Some s → is_deep 65 s.0 ≡ false → TooDeepAfter ts → ⊥
not_too_deep ts s h low t = not_too_deep_by ts s.0 s.1 s.2 h low t

-- what steps from there closes a bracket
open_at_once : (n c : ℕ) (fs : List Frame) (u : State) → Some (there None, c, fs) ≡ Some u → is_shut n u.0 ≡ false
open_at_once n c fs u h = ap (λ x. is_shut n (mode_of x)) (sym h)

closed_items_open : (n : ℕ) (x : Bool) (c : ℕ) (fs : List Frame) (u : State) → closed_items x c fs ≡ Some u → is_shut n u.0 ≡ false
closed_items_open n true c fs u h = open_at_once n c fs u h
closed_items_open n false c fs u h = cc

closed_open : (n : ℕ) (b : Bracket) (fs : List Frame) (u : State) → closed b fs ≡ Some u → is_shut n u.0 ≡ false
closed_open n b [] u h = cc
closed_open n Round (in_round c ∷ fs) u h = open_at_once n c fs u h
closed_open n Curly (in_round c ∷ fs) u h = cc
closed_open n b (in_items a c i ∷ fs) u h = closed_items_open n (is_same_bracket a b) c fs u h
closed_open n b (in_yes i ∷ fs) u h = cc

deep_item_steps : (n : ℕ) (b : Bracket) (fs : List Frame) (o : Option State) (u : State) (x y : Bool) → y ≡ true → step_if (unless x y) (or_none x b fs o) ≡ Some u → is_shut n u.0 ≡ false
deep_item_steps n b fs o u true y d h = closed_open n b fs u h
deep_item_steps n b fs o u false y d h = let z : None ≡ Some u = ap (λ x. step_if x o) (sym d) ∙ h in cc

deep_steps : (n : ℕ) (m : Mode) (c : ℕ) (fs : List Frame) (k : Token) (u : State) → is_deep n m ≡ true → step_within n m c fs k ≡ Some u → is_shut n u.0 ≡ false
deep_steps n (wanted d) c fs k u h e = let z : None ≡ Some u = ap (λ x. step_if x (begun d c fs k)) (sym h) ∙ e in cc
deep_steps n (wanted_or_none b d) c fs k u h e = deep_item_steps n b fs (begun d c fs k) u (is_closing_mark b k) (leb n d) h e
deep_steps n (there o) c fs k u h e = cc

-- where the machine goes no token stands too deep
shallow_step : (front : List Placed) (s : State) (p : Placed) (left : List Placed) (t : State) → goes 65 (Some start) front ≡ Some s → (o : Option State) → step_within 65 s.0 s.1 s.2 p.token ≡ o → goes 65 o left ≡ Some t → (x : Bool) → is_deep 65 s.0 ≡ x → TooDeepAfter front → BeginsWithin 65 (front ++ p ∷ [])
shallow_step front s p left t h None i g x d w = let z : None ≡ Some t = sym (goes_none 65 left) ∙ g in cc
shallow_step front s p left t h (Some u) i g true d w = begins_within 65 (front ++ p ∷ []) u (goes_one 65 front s p h ∙ ap (λ o. goes 65 o []) i) (deep_steps 65 s.0 s.1 s.2 p.token u d i)
shallow_step front s p left t h (Some u) i g false d w = absurd (not_too_deep front s h d w)

shallow_by : (front : List Placed) (p : Placed) (left : List Placed) (t : State) → (o : Option State) → goes 65 (Some start) front ≡ o → goes 65 o (p ∷ left) ≡ Some t → TooDeepAfter front → BeginsWithin 65 (front ++ p ∷ [])
shallow_by front p left t None h g w = let z : None ≡ Some t = g in cc
shallow_by front p left t (Some s) h g w = shallow_step front s p left t h (step_within 65 s.0 s.1 s.2 p.token) refl g (is_deep 65 s.0) refl w

is_shallow : (ts : List Placed) (t : State) → goes 65 (Some start) ts ≡ Some t → IsShallow ts
is_shallow ts t h front p left e w = shallow_by front p left t (goes 65 (Some start) front) refl (sym (goes_append 65 (Some start) front (p ∷ left)) ∙ ap (goes 65 (Some start)) (sym e) ∙ h) w

-- from where the machine is stuck to the first misfit
foreign_deep : (k : Token) (at : ℕ) → ends_the_tokens k ≡ true → depth_refusal_at k at ≡ misplaced_token k at
foreign_deep token.Real at h = refl
foreign_deep token.Range at h = refl
foreign_deep token.Bad at h = refl
foreign_deep _ at h = cc

plain_deep : (k : Token) (at : ℕ) → ends_the_tokens k ≡ false → depth_refusal_at k at ≡ fault.TooDeep at
plain_deep token.Real at h = cc
plain_deep token.Range at h = cc
plain_deep token.Bad at h = cc
plain_deep _ at h = refl

plain_misplaced : (k : Token) (at : ℕ) → ends_the_tokens k ≡ false → misplaced_token k at ≡ fault.Syntax at
plain_misplaced token.Real at h = cc
plain_misplaced token.Range at h = cc
plain_misplaced _ at h = refl

abbrev Reason : State → Placed → ParseError → Type 0
Reason s p f = ((f ≡ misplaced_token p.token p.at) × (step s.0 s.1 s.2 p.token ≡ None) × (is_deep 65 s.0 ≡ false)) ⊎ ((f ≡ depth_refusal_at p.token p.at) × (is_blocked 65 s.0 p.token ≡ true))

foreign_by : (s : State) (p : Placed) (f : ParseError) → Reason s p f → ends_the_tokens p.token ≡ true → f ≡ misplaced_token p.token p.at
foreign_by s p f (inl w) h = w.0
foreign_by s p f (inr w) h = w.0 ∙ foreign_deep p.token p.at h

misfit_by : (before : List Placed) (s : State) (p : Placed) (f : ParseError) → goes 65 (Some start) before ≡ Some s → Reason s p f → ends_the_tokens p.token ≡ false → IsMisfit before p f
misfit_by before s p f g (inl w) h = subst (λ x. IsMisfit before p x) (sym (w.0 ∙ plain_misplaced p.token p.at h)) (strange (not_too_deep before s g w.2) (dead 65 before s p g w.1))
misfit_by before s p f g (inr w) h = subst (λ x. IsMisfit before p x) (sym (w.0 ∙ plain_deep p.token p.at h)) (deep (too_deep_after before s g (blocked_deep 65 s.0 p.token w.1)) (dead_within 65 before s p g w.1))

stuck_misfit : (end : ℕ) (ts before left : List Placed) (s : State) (f : ParseError) → ts ≡ before ++ left → goes 65 (Some start) before ≡ Some s → Why end 65 s left f → FirstMisfit end ts f
stuck_misfit end ts before [] s f e g w = record {
  before = before;
  left = [];
  parts = e;
  begins = alive 65 before s g;
  shallow = is_shallow before s g;
  at_end = λ z. (w.0, unfinished 65 ts s (ap (goes 65 (Some start)) (e ∙ append-nil before) ∙ g) w.1);
  foreign = λ p vs z. cc z;
  misfit = λ p vs z. cc z;
}
stuck_misfit end ts before (p ∷ us) s f e g w = record {
  before = before;
  left = p ∷ us;
  parts = e;
  begins = alive 65 before s g;
  shallow = is_shallow before s g;
  at_end = λ z. cc z;
  foreign = λ q vs z h. let same : p ≡ q = cc z in foreign_by s q f (subst (λ x. Reason s x f) same w) h;
  misfit = λ q vs z h. let same : p ≡ q = cc z in misfit_by before s q f g (subst (λ x. Reason s x f) same w) h;
}

abbrev err_of : {A : Type 0} → ParseError → Result A ParseError → ParseError
err_of d (Ok x) = d
err_of d (Err e) = e

abbrev failed_in : (A : Type 0) → ParseError → Result A ParseError
failed_in A e = Err e

err_is : (e f : ParseError) → failed_in Tree e ≡ Err f → e ≡ f
err_is e f h = ap (err_of e) h

whole_stuck : (end : ℕ) (ts : List Placed) (f : ParseError) (e : Tree) (us : List Placed) → Reached Cond 65 [] start ts us → whole_at end e us ≡ Err f → Stuck end 65 start ts f
whole_stuck end ts f e [] k h = cc
whole_stuck end ts f e (p ∷ us) k h = record {
  state = (there k.name, k.depth, []);
  left = p ∷ us;
  comes = k.comes;
  why = inl (sym (err_is (misplaced_token p.token p.at) f h), top_stops k.name k.depth p.token k.found, refl);
}

read_stuck : (end : ℕ) (ts : List Placed) (f : ParseError) (r : Result (Tree × List Placed) ParseError) → Outcome end 65 Cond [] start ts r → (r >>= (λ x. whole_at end x.0 x.1)) ≡ Err f → Stuck end 65 start ts f
read_stuck end ts f (Ok x) k h = whole_stuck end ts f x.0 x.1 k h
read_stuck end ts f (Err g) k h = subst (λ x. Stuck end 65 start ts x) (err_is g f h) k

-- What reading refuses is refused at the first misfit.
pub first_misfit : (end : ℕ) (ts : List Placed) (f : ParseError) → text_at end ts ≡ Err f → FirstMisfit end ts f
first_misfit end ts f h =
    let k = read_stuck end ts f (cond_at end 65 ts) ((runs end 65 65).conds 0 (omega arith) [] ts).outcome h in
    stuck_misfit end ts k.comes.taken k.left k.state f k.comes.parts k.comes.leads k.why

fault_misfit : (end : ℕ) (ts : List Placed) (f : ParseError) → Fails f (text_at end ts) → (f ≡ fault.Memory → ⊥) → FirstMisfit end ts f
fault_misfit end ts fault.Memory h un = absurd (un refl)
fault_misfit end ts (fault.TooLong length) h un = first_misfit end ts _ h
fault_misfit end ts (fault.Real at) h un = first_misfit end ts _ h
fault_misfit end ts (fault.Range at) h un = first_misfit end ts _ h
fault_misfit end ts (fault.TooDeep at) h un = first_misfit end ts _ h
fault_misfit end ts (fault.Syntax at) h un = first_misfit end ts _ h

pub misfit_if_err : {X : Type 0} (view : X → Tree) (end : ℕ) (ts : List Placed) (r : Result X ParseError) → Gives view r (text_at end ts) → IfErr r (λ f. (f ≡ fault.Memory → ⊥) → FirstMisfit end ts f)
misfit_if_err view end ts (Ok x) h = tt
misfit_if_err view end ts (Err f) h = fault_misfit end ts f h
