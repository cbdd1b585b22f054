-- A text says an expression where reading gives it, and is refused for what reading refuses.
use Rattle.std.proofs.Common.{◌≡◌, ◌≢◌, ℕ, ◌<◌, ◌≤◌, ◌⊎◌, inl, inr, nat_lt, List, length, Bool, true, false, cond, Result, Ok, Err, IfOk, IfErr, refl, sym, ap, ◌∙◌, subst, arith}
use Rattle.std.proofs.lemmas.Bool.{ltb-true, ltb-false}
use Rattle.ad_tree.specs.Tree.{Tree}
use Rattle.ad_token.specs.Lexing.{tokens_of}
use Rattle.ad_parse.specs.declared.error.ParseError.{ParseError}
use Rattle.ad_parse.specs.declared.error.ParseError.TheVariants as fault
use Rattle.ad_parse.specs.Canon.{canon}
use Rattle.ad_parse.specs.Grammar.{IsText}
use Rattle.ad_parse.specs.Reader.{◌>>=◌, text_at}
use Rattle.ad_parse.specs.ExprText.{IsExprText, IsRefused, long, misfit, prints_long, when_short, expression_at}
use Rattle.ad_parse.specs.Gives.{Gives, Fails}
use Rattle.ad_parse.proofs.Sound.{ok_is}
use Rattle.ad_parse.proofs.Complete.{if_true, if_false, bind_at, found, only}
use Rattle.ad_parse.proofs.Misfits.{first_misfit}
use Rattle.ad_parse.proofs.OneMisfit.{misfit_is_refused}

less_is : (m n : ℕ) → m < n → nat_lt m n ≡ true
less_is m n less = by (nat_lt m n) refl
  where
    by : (b : Bool) → nat_lt m n ≡ b → b ≡ true
    by true is = refl
    by false is = absurd (omega (arith, ltb-false m n is))

not_less_is : (m n : ℕ) → n ≤ m → nat_lt m n ≡ false
not_less_is m n less = by (nat_lt m n) refl
  where
    by : (b : Bool) → nat_lt m n ≡ b → b ≡ false
    by true is = absurd (omega (arith, ltb-true m n is))
    by false is = refl

-- what a text says is read
pub said_is_read : (text : List ℕ) (e : Tree) → IsExprText text e → expression_at text ≡ Ok e
said_is_read text e is =
    if_false (nat_lt 8192 (length text)) _ _ _ (not_less_is 8192 (length text) is.short)
    (bind_at (text_at (length text) (tokens_of text)) when_short e (Ok e) (only (length text) (tokens_of text) e is.spelled)
    (if_false (nat_lt 8192 (length (canon e))) _ _ _ (not_less_is 8192 (length (canon e)) is.prints_short) refl))

-- a text is refused for its cause
pub cause_is_read : (text : List ℕ) (f : ParseError) → IsRefused text f → expression_at text ≡ Err f
cause_is_read text _ (long more) = if_true (nat_lt 8192 (length text)) _ _ _ (less_is 8192 (length text) more) refl
cause_is_read text _ (misfit {f} less is) =
    if_false (nat_lt 8192 (length text)) _ _ _ (not_less_is 8192 (length text) less)
    (ap (λ r. r >>= when_short) (misfit_is_refused (length text) (tokens_of text) f is))
cause_is_read text _ (prints_long {e} less spelled more) =
    if_false (nat_lt 8192 (length text)) _ _ _ (not_less_is 8192 (length text) less)
    (bind_at (text_at (length text) (tokens_of text)) when_short e _ (only (length text) (tokens_of text) e spelled)
    (if_true (nat_lt 8192 (length (canon e))) _ _ _ (less_is 8192 (length (canon e)) more) refl))

-- what is read, with its reason
abbrev pub IsReading : List ℕ → Result Tree ParseError → Type 0
IsReading text (Ok e) = IsExprText text e
IsReading text (Err f) = IsRefused text f

read_short : (text : List ℕ) (e : Tree) → length text ≤ 8192 → IsText (tokens_of text) e → IsReading text (when_short e)
read_short text e less spelled = by (nat_lt 8192 (length (canon e))) refl
  where
    by : (b : Bool) → nat_lt 8192 (length (canon e)) ≡ b → IsReading text (cond b (Err (fault.TooLong (length (canon e)))) (Ok e))
    by true is = prints_long less spelled (ltb-true 8192 (length (canon e)) is)
    by false is = record { short = less; spelled = spelled; prints_short = ltb-false 8192 (length (canon e)) is }

read_tokens : (text : List ℕ) → length text ≤ 8192 → (r : Result Tree ParseError) → text_at (length text) (tokens_of text) ≡ r → IsReading text (r >>= when_short)
read_tokens text less (Ok e) is = read_short text e less (found (length text) (tokens_of text) e is)
read_tokens text less (Err f) is = misfit less (first_misfit (length text) (tokens_of text) f is)

pub is_reading : (text : List ℕ) → IsReading text (expression_at text)
is_reading text = by (nat_lt 8192 (length text)) refl
  where
    by : (b : Bool) → nat_lt 8192 (length text) ≡ b → IsReading text (cond b (Err (fault.TooLong (length text))) (text_at (length text) (tokens_of text) >>= when_short))
    by true is = long (ltb-true 8192 (length text) is)
    by false is = read_tokens text (ltb-false 8192 (length text) is) (text_at (length text) (tokens_of text)) refl

-- ---- what a function gives that gives what reading does

pub found_by : {X : Type 0} (view : X → Tree) (text : List ℕ) (r : Result X ParseError) → Gives view r (expression_at text) → IfOk r (λ x. IsExprText text (view x))
found_by view text (Ok x) gives = subst (IsReading text) gives (is_reading text)
found_by view text (Err f) gives = tt

refused_by : (text : List ℕ) (f : ParseError) → Fails f (expression_at text) → f ≢ fault.Memory → IsRefused text f
refused_by text fault.Memory fails other = absurd (other refl)
refused_by text (fault.TooLong n) fails other = subst (IsReading text) fails (is_reading text)
refused_by text (fault.Real at) fails other = subst (IsReading text) fails (is_reading text)
refused_by text (fault.Range at) fails other = subst (IsReading text) fails (is_reading text)
refused_by text (fault.TooDeep at) fails other = subst (IsReading text) fails (is_reading text)
refused_by text (fault.Syntax at) fails other = subst (IsReading text) fails (is_reading text)

pub refused_if_err : {X : Type 0} (view : X → Tree) (text : List ℕ) (r : Result X ParseError) → Gives view r (expression_at text) → IfErr r (λ f. f ≢ fault.Memory → IsRefused text f)
refused_if_err view text (Ok x) gives = tt
refused_if_err view text (Err f) gives = refused_by text f gives

-- ---- one reading

err_is : {A : Type 0} (f g : ParseError) → (let r : Result A ParseError = Err f in r) ≡ Err g → f ≡ g
err_is {A} f g e = ap error_in e
  where
    error_in : Result A ParseError → ParseError
    error_in (Ok x) = f
    error_in (Err h) = h

pub one_tree : (text : List ℕ) (e g : Tree) → IsExprText text e → IsExprText text g → e ≡ g
one_tree text e g first second = ok_is e g (sym (said_is_read text e first) ∙ said_is_read text g second)

pub one_cause : (text : List ℕ) (f g : ParseError) → IsRefused text f → IsRefused text g → f ≡ g
one_cause text f g first second = err_is {A = Tree} f g (sym (cause_is_read text f first) ∙ cause_is_read text g second)

pub not_both : (text : List ℕ) (e : Tree) (f : ParseError) → IsExprText text e → IsRefused text f → ⊥
not_both text e f says refuses = let z : (let r : Result Tree ParseError = Ok e in r) ≡ Err f = sym (said_is_read text e says) ∙ cause_is_read text f refuses in cc

pub either : (text : List ℕ) → ((e : Tree) × IsExprText text e) ⊎ ((f : ParseError) × IsRefused text f)
either text = by (expression_at text) (is_reading text)
  where
    by : (r : Result Tree ParseError) → IsReading text r → ((e : Tree) × IsExprText text e) ⊎ ((f : ParseError) × IsRefused text f)
    by (Ok e) is = inl (e, is)
    by (Err f) is = inr (f, is)
