-- A text has at most one first misfit, and a text of the grammar has none.
use Rattle.std.proofs.Common.{◌≡◌, ℕ, List, [], ◌∷◌, ◌++◌, Bool, true, false, Option, Some, None, Result, Ok, Err, ◌⊎◌, inl, inr, refl, sym, ap, ◌∙◌, subst, arith, append_assoc}
use Rattle.ad_tree.specs.Tree.{Tree}
use Rattle.ad_token.specs.declared.token.Token.{Token}
use Rattle.ad_token.specs.declared.token.Token.TheVariants as token
use Rattle.ad_token.specs.declared.token.Placed.{Placed}
use Rattle.ad_parse.specs.declared.error.ParseError.{ParseError}
use Rattle.ad_parse.specs.Grammar.{IsCond, IsText}
use Rattle.ad_parse.specs.Reader.{cond_at, whole_at, text_at}
use Rattle.ad_token.specs.Lexing.{ends_the_tokens}
use Rattle.ad_parse.specs.Misfit.{BeginsWithin, CanGoOn, IsShallow, IsMisfit, deep, strange, FirstMisfit}
use Rattle.ad_parse.proofs.Machine.{Frame, Mode, wanted, wanted_or_none, there, State, step, step_if, is_blocked, goes, start, ends, goes_append}
use Rattle.ad_parse.proofs.Drives.{text_ends}
use Rattle.ad_parse.proofs.Closing.{none_ends, step_if_none}
use Rattle.ad_parse.proofs.Misfits.{no_step_ends, first_misfit}
use Rattle.ad_parse.proofs.Sound.{bind_ok, ok_is, read_is_spelled}

-- no text goes on with a token that is none of the grammar
foreign_step : (m : Mode) (c : ℕ) (fs : List Frame) (k : Token) → ends_the_tokens k ≡ true → step m c fs k ≡ None
foreign_step (wanted d) c fs token.Real h = refl
foreign_step (wanted d) c fs token.Range h = refl
foreign_step (wanted d) c fs token.Bad h = refl
foreign_step (wanted d) c fs _ h = cc
foreign_step (wanted_or_none b d) c fs token.Real h = refl
foreign_step (wanted_or_none b d) c fs token.Range h = refl
foreign_step (wanted_or_none b d) c fs token.Bad h = refl
foreign_step (wanted_or_none b d) c fs _ h = cc
foreign_step (there o) c fs token.Real h = refl
foreign_step (there o) c fs token.Range h = refl
foreign_step (there o) c fs token.Bad h = refl
foreign_step (there o) c fs _ h = cc

no_foreign_by : (n : ℕ) (ts : List Placed) (p : Placed) (more : List Placed) (o : Option State) → goes n (Some start) ts ≡ o → ends_the_tokens p.token ≡ true → ends (goes n (Some start) ((ts ++ p ∷ []) ++ more)) ≡ true → ⊥
no_foreign_by n ts p more None h k e =
    none_ends n more (ap (λ o. ends (goes n (goes n o (p ∷ [])) more)) (sym h) ∙ ap (λ o. ends (goes n o more)) (sym (goes_append n (Some start) ts (p ∷ []))) ∙ ap ends (sym (goes_append n (Some start) (ts ++ p ∷ []) more)) ∙ e)
no_foreign_by n ts p more (Some s) h k e =
    no_step_ends n ts s p more h (ap (step_if (is_blocked n s.0 p.token)) (foreign_step s.0 s.1 s.2 p.token k) ∙ step_if_none (is_blocked n s.0 p.token)) e

no_foreign : (ts : List Placed) (p : Placed) → ends_the_tokens p.token ≡ true → CanGoOn (ts ++ p ∷ []) → ⊥
no_foreign ts p k g = no_foreign_by g.0 ts p g.1.0 (goes g.0 (Some start) ts) refl k (text_ends g.0 g.0 ((ts ++ p ∷ []) ++ g.1.0) g.1.1 (omega arith) g.1.2)

-- what begins a text with more tokens begins it with one of them
fewer : (ts : List Placed) (p : Placed) (left more : List Placed) → (ts ++ p ∷ left) ++ more ≡ (ts ++ p ∷ []) ++ (left ++ more)
fewer ts p left more = append_assoc ts (p ∷ left) more ∙ sym (append_assoc ts (p ∷ []) (left ++ more))

begins_fewer : (n : ℕ) (ts : List Placed) (p : Placed) (left : List Placed) → BeginsWithin n (ts ++ p ∷ left) → BeginsWithin n (ts ++ p ∷ [])
begins_fewer n ts p left g = (left ++ g.0, g.1, subst (λ x. IsCond n x g.1 []) (fewer ts p left g.0) g.2)

text_begins : (n : ℕ) (ts before : List Placed) (p : Placed) (left : List Placed) (e : Tree) → ts ≡ before ++ p ∷ left → IsCond n ts e [] → BeginsWithin n (before ++ p ∷ [])
text_begins n ts before p left e h c = (left, e, subst (λ x. IsCond n x e []) (h ∙ sym (append_assoc before (p ∷ []) left)) c)

-- a misfit begins no text that is nested no deeper
misfit_begins : (before : List Placed) (p : Placed) (f : ParseError) → IsMisfit before p f → BeginsWithin 65 (before ++ p ∷ []) → ⊥
misfit_begins before p f (deep t un) g = un g
misfit_begins before p f (strange t un) g = un (65, g)

text_misfit : (end : ℕ) (ts : List Placed) (f : ParseError) (e : Tree) (a : FirstMisfit end ts f) → IsText ts e → (p : Placed) (vs : List Placed) → a.left ≡ p ∷ vs → (x : Bool) → ends_the_tokens p.token ≡ x → ⊥
text_misfit end ts f e a c p vs h true k = no_foreign a.before p k (65, text_begins 65 ts a.before p vs e (a.parts ∙ ap (λ x. a.before ++ x) h) c)
text_misfit end ts f e a c p vs h false k = misfit_begins a.before p f (a.misfit p vs h k) (text_begins 65 ts a.before p vs e (a.parts ∙ ap (λ x. a.before ++ x) h) c)

text_fits_by : (end : ℕ) (ts : List Placed) (f : ParseError) (e : Tree) (a : FirstMisfit end ts f) → IsText ts e → (left : List Placed) → a.left ≡ left → ⊥
text_fits_by end ts f e a c [] h = (a.at_end h).1 65 e c
text_fits_by end ts f e a c (p ∷ vs) h = text_misfit end ts f e a c p vs h (ends_the_tokens p.token) refl

-- No text of the grammar has a misfit.
pub text_fits : (end : ℕ) (ts : List Placed) (f : ParseError) (e : Tree) → FirstMisfit end ts f → IsText ts e → ⊥
text_fits end ts f e a c = text_fits_by end ts f e a c a.left refl

-- two beginnings of the same tokens
abbrev Longer : List Placed → List Placed → List Placed → List Placed → Type 0
Longer xs us ys vs = (p : Placed) × (more : List Placed) × (ys ≡ xs ++ p ∷ more) × (us ≡ p ∷ (more ++ vs))

beginnings_on : (p q : Placed) (xs us ys vs : List Placed) → p ≡ q → ((xs ≡ ys) × (us ≡ vs)) ⊎ (Longer xs us ys vs ⊎ Longer ys vs xs us) → ((p ∷ xs ≡ q ∷ ys) × (us ≡ vs)) ⊎ (Longer (p ∷ xs) us (q ∷ ys) vs ⊎ Longer (q ∷ ys) vs (p ∷ xs) us)
beginnings_on p q xs us ys vs e (inl w) = let z : p ∷ xs ≡ q ∷ ys = cc in inl (z, w.1)
beginnings_on p q xs us ys vs e (inr (inl l)) = let z : q ∷ ys ≡ p ∷ (xs ++ l.0 ∷ l.1) = cc in inr (inl (l.0, l.1, z, l.3))
beginnings_on p q xs us ys vs e (inr (inr l)) = let z : p ∷ xs ≡ q ∷ (ys ++ l.0 ∷ l.1) = cc in inr (inr (l.0, l.1, z, l.3))

beginnings : (xs us ys vs : List Placed) → xs ++ us ≡ ys ++ vs → ((xs ≡ ys) × (us ≡ vs)) ⊎ (Longer xs us ys vs ⊎ Longer ys vs xs us)
beginnings [] us [] vs h = inl (refl, h)
beginnings [] us (q ∷ ys) vs h = inr (inl (q, ys, refl, h))
beginnings (p ∷ xs) us [] vs h = inr (inr (p, xs, refl, sym h))
beginnings (p ∷ xs) us (q ∷ ys) vs h =
    let first : p ≡ q = cc in
    let others : xs ++ us ≡ ys ++ vs = cc in
    beginnings_on p q xs us ys vs first (beginnings xs us ys vs others)

-- a misfit is not gone past
passed_misfit : (before : List Placed) (p : Placed) (f : ParseError) (more : List Placed) → IsMisfit before p f → IsShallow (before ++ p ∷ more) → CanGoOn (before ++ p ∷ []) → ⊥
passed_misfit before p f more (deep t un) s g = un (s before p more refl t)
passed_misfit before p f more (strange t un) s g = un g

passed_by : (end : ℕ) (ts : List Placed) (f : ParseError) (a : FirstMisfit end ts f) (p : Placed) (vs more : List Placed) → a.left ≡ p ∷ vs → IsShallow (a.before ++ p ∷ more) → CanGoOn (a.before ++ p ∷ []) → (x : Bool) → ends_the_tokens p.token ≡ x → ⊥
passed_by end ts f a p vs more h s g true k = no_foreign a.before p k g
passed_by end ts f a p vs more h s g false k = passed_misfit a.before p f more (a.misfit p vs h k) s g

passed : (end : ℕ) (ts : List Placed) (f g : ParseError) (a : FirstMisfit end ts f) (b : FirstMisfit end ts g) → Longer a.before a.left b.before b.left → ⊥
passed end ts f g a b l =
    let s = subst IsShallow l.2 b.shallow in
    let more = begins_fewer b.begins.0 a.before l.0 l.1 (subst (BeginsWithin b.begins.0) l.2 b.begins.1) in
    passed_by end ts f a l.0 (l.1 ++ b.left) l.1 l.3 s (b.begins.0, more) (ends_the_tokens l.0.token) refl

-- at one token
one_misfit : (before : List Placed) (p : Placed) (f g : ParseError) → IsMisfit before p f → IsMisfit before p g → f ≡ g
one_misfit before p _ _ (deep t un) (deep w vn) = refl
one_misfit before p _ _ (deep t un) (strange w vn) = absurd (w t)
one_misfit before p _ _ (strange t un) (deep w vn) = absurd (t w)
one_misfit before p _ _ (strange t un) (strange w vn) = refl

same_token : (end : ℕ) (ts : List Placed) (f g : ParseError) (a : FirstMisfit end ts f) (b : FirstMisfit end ts g) → a.before ≡ b.before → (p : Placed) (vs : List Placed) → a.left ≡ p ∷ vs → b.left ≡ p ∷ vs → (x : Bool) → ends_the_tokens p.token ≡ x → f ≡ g
same_token end ts f g a b e p vs h i true k = a.foreign p vs h k ∙ sym (b.foreign p vs i k)
same_token end ts f g a b e p vs h i false k = one_misfit b.before p f g (subst (λ x. IsMisfit x p f) e (a.misfit p vs h k)) (b.misfit p vs i k)

same_place : (end : ℕ) (ts : List Placed) (f g : ParseError) (a : FirstMisfit end ts f) (b : FirstMisfit end ts g) → a.before ≡ b.before → (left : List Placed) → a.left ≡ left → b.left ≡ left → f ≡ g
same_place end ts f g a b e [] h i = (a.at_end h).0 ∙ sym (b.at_end i).0
same_place end ts f g a b e (p ∷ vs) h i = same_token end ts f g a b e p vs h i (ends_the_tokens p.token) refl

determined_by : (end : ℕ) (ts : List Placed) (f g : ParseError) (a : FirstMisfit end ts f) (b : FirstMisfit end ts g) → ((a.before ≡ b.before) × (a.left ≡ b.left)) ⊎ (Longer a.before a.left b.before b.left ⊎ Longer b.before b.left a.before a.left) → f ≡ g
determined_by end ts f g a b (inl w) = same_place end ts f g a b w.0 b.left w.1 refl
determined_by end ts f g a b (inr (inl l)) = absurd (passed end ts f g a b l)
determined_by end ts f g a b (inr (inr l)) = absurd (passed end ts g f b a l)

-- A text has at most one first misfit.
pub misfit_is_determined : (end : ℕ) (ts : List Placed) (f g : ParseError) → FirstMisfit end ts f → FirstMisfit end ts g → f ≡ g
misfit_is_determined end ts f g a b = determined_by end ts f g a b (beginnings a.before a.left b.before b.left (sym a.parts ∙ b.parts))

whole_fits : (end : ℕ) (ts us : List Placed) (d e : Tree) → cond_at end 65 ts ≡ Ok (d, us) → whole_at end d us ≡ Ok e → IsText ts e
whole_fits end ts [] d e h w = subst (λ x. IsText ts x) (ok_is d e w) ((read_is_spelled end 65).conds ts [] d h)
whole_fits end ts (p ∷ us) d e h w = cc

read_fits : (end : ℕ) (ts : List Placed) (e : Tree) → text_at end ts ≡ Ok e → IsText ts e
read_fits end ts e h = let a = bind_ok _ _ _ h in whole_fits end ts a.0.1 a.0.0 e a.1 a.2

abbrev failed : ParseError → Result Tree ParseError
failed f = Err f

read_by : (end : ℕ) (ts : List Placed) (f : ParseError) → FirstMisfit end ts f → (r : Result Tree ParseError) → text_at end ts ≡ r → r ≡ Err f
read_by end ts f a (Ok e) h = absurd (text_fits end ts f e a (read_fits end ts e h))
read_by end ts f a (Err g) h = ap (λ x. failed x) (misfit_is_determined end ts g f (first_misfit end ts g h) a)

-- A text that has a first misfit is refused there.
pub misfit_is_refused : (end : ℕ) (ts : List Placed) (f : ParseError) → FirstMisfit end ts f → text_at end ts ≡ Err f
misfit_is_refused end ts f a = read_by end ts f a (text_at end ts) refl
