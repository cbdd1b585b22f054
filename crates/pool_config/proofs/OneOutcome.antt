-- A text has one outcome.
use Rattle.std.proofs.Common.{◌≡◌, ◌≢◌, ◌⊎◌, inl, inr, ℕ, Bool, true, false, List, [], ◌∷◌, Option, Some, None, Result, Ok, Err, refl, ap, sym, ◌∙◌, subst}
use Rattle.line_text.specs.declared.error.MacroError.{MacroError}
use Rattle.line_text.specs.declared.error.MacroError.TheVariants as macro
use Rattle.line_text.specs.declared.logical.Line.{Line}
use Rattle.line_text.specs.Expansion.{IsExpansion, IsRefused}
use Rattle.line_text.specs.Lines.{logical_lines}
use Rattle.line_text.specs.Macros.{Macros}
use Rattle.line_text.proofs.EveryOutcome.{every_outcome}
use Rattle.line_text.proofs.LawLemmas.{texts_are_one}
use Rattle.line_text.proofs.OneOutcome.{not_met, not_passed}
use Rattle.line_text.proofs.OneRefusal.{one_refusal}
use Rattle.pool_config.specs.declared.error.ConfigError.{ConfigError}
use Rattle.pool_config.specs.declared.error.ConfigError.TheVariants as error
use Rattle.pool_config.specs.Configuration.{Configuration, ConfiguredMachine}
use Rattle.pool_config.specs.Keys.{Sets}
use Rattle.pool_config.specs.Names.{name_sets, setting_in}
use Rattle.pool_config.specs.Settings.{set_to, whole, is_homeless}
use Rattle.pool_config.specs.Lines.{LinesSoFar, ReadResult, TakesValue, no_expansion, expanded, TakesKey, homeless, takes, TakesSetting, unknown, known, TakesLine, no_setting, sets, Reads, ended, no_machine, refuses, and_line, and_macro, begun, IsConfiguration}
use Rattle.pool_config.specs.Laws.{none, one_more, IsFirstRefused}

abbrev pub LinesResult : Type 0
LinesResult = Result LinesSoFar ConfigError

-- ---- a value

not_both : (t : Macros) (text x : List ℕ) (f : MacroError) → IsExpansion t text x → IsRefused t text f → f ≢ macro.Memory → ⊥
not_both t text x macro.Memory is refused told = told refl
not_both t text x (macro.Bad at) is refused told = not_met t text x (macro.Bad at) is refused
not_both t text x (macro.Circular name) is refused told = not_met t text x (macro.Circular name) is refused
not_both t text x (macro.TooLong n) is refused told = not_passed t text x n is refused

-- two ways to take one value, the second being told by what it comes to
ValueView : LinesSoFar → ℕ → Sets → List ℕ → List ℕ → LinesResult → Type 0
ValueView r n k name value q =
    ((f : MacroError) × IsRefused r.table value f × (f ≢ macro.Memory) × (q ≡ Err (error.Macro n f)))
    ⊎ ((x : List ℕ) × IsExpansion r.table value x × (q ≡ and_macro name x r.table (set_to k x n r.settings)))

value_view : (r : LinesSoFar) (n : ℕ) (k : Sets) (name value : List ℕ) (q : LinesResult) → TakesValue r n k name value q → ValueView r n k name value q
unfolding ValueView
value_view r n k name value _ (no_expansion {f = f} refused told) = inl (f, refused, told, refl)
value_view r n k name value _ (expanded {x = x} is) = inr (x, is, refl)

one_of_views : (r : LinesSoFar) (n : ℕ) (k : Sets) (name value : List ℕ) (q p : LinesResult) → ValueView r n k name value q → ValueView r n k name value p → q ≡ p
unfolding ValueView
one_of_views r n k name value q p (inl a) (inl b) =
    a.3 ∙ ap (λ f. Err (error.Macro n f)) (one_refusal r.table value a.0 b.0 a.1 b.1 a.2 b.2) ∙ sym b.3
one_of_views r n k name value q p (inl a) (inr b) = absurd (not_both r.table value b.0 a.0 b.1 a.1 a.2)
one_of_views r n k name value q p (inr a) (inl b) = absurd (not_both r.table value a.0 b.0 a.1 b.1 b.2)
one_of_views r n k name value q p (inr a) (inr b) =
    a.2 ∙ ap (λ x. and_macro name x r.table (set_to k x n r.settings)) (texts_are_one r.table value a.0 b.0 a.1 b.1) ∙ sym b.2

one_value : (r : LinesSoFar) (n : ℕ) (k : Sets) (name value : List ℕ) (q p : LinesResult) → TakesValue r n k name value q → TakesValue r n k name value p → q ≡ p
one_value r n k name value q p a b =
    one_of_views r n k name value q p (value_view r n k name value q a) (value_view r n k name value p b)

-- ---- a key, a name, a line

KeyView : LinesSoFar → ℕ → Sets → List ℕ → List ℕ → Bool → LinesResult → Type 0
KeyView r n k name value true q = q ≡ Err (error.BadLine n)
KeyView r n k name value false q = TakesValue r n k name value q

key_view : (r : LinesSoFar) (n : ℕ) (k : Sets) (name value : List ℕ) (q : LinesResult) → TakesKey r n k name value q → KeyView r n k name value (is_homeless k r.settings) q
unfolding KeyView
key_view r n k name value _ (homeless home) = subst (λ b. KeyView r n k name value b (Err (error.BadLine n))) (sym home) refl
key_view r n k name value q (takes home taken) = subst (λ b. KeyView r n k name value b q) (sym home) taken

one_of_keys : (r : LinesSoFar) (n : ℕ) (k : Sets) (name value : List ℕ) (b : Bool) (q p : LinesResult) → KeyView r n k name value b q → KeyView r n k name value b p → q ≡ p
unfolding KeyView
one_of_keys r n k name value true q p a b = a ∙ sym b
one_of_keys r n k name value false q p a b = one_value r n k name value q p a b

one_key : (r : LinesSoFar) (n : ℕ) (k : Sets) (name value : List ℕ) (q p : LinesResult) → TakesKey r n k name value q → TakesKey r n k name value p → q ≡ p
one_key r n k name value q p a b =
    one_of_keys r n k name value (is_homeless k r.settings) q p (key_view r n k name value q a) (key_view r n k name value p b)

SettingView : LinesSoFar → ℕ → List ℕ → List ℕ → Option Sets → LinesResult → Type 0
SettingView r n name value None q = q ≡ Err (error.Unknown n)
SettingView r n name value (Some k) q = TakesKey r n k name value q

setting_view : (r : LinesSoFar) (n : ℕ) (name value : List ℕ) (q : LinesResult) → TakesSetting r n name value q → SettingView r n name value (name_sets name) q
unfolding SettingView
setting_view r n name value _ (unknown is) = subst (λ o. SettingView r n name value o (Err (error.Unknown n))) (sym is) refl
setting_view r n name value q (known is taken) = subst (λ o. SettingView r n name value o q) (sym is) taken

one_of_settings : (r : LinesSoFar) (n : ℕ) (name value : List ℕ) (o : Option Sets) (q p : LinesResult) → SettingView r n name value o q → SettingView r n name value o p → q ≡ p
unfolding SettingView
one_of_settings r n name value None q p a b = a ∙ sym b
one_of_settings r n name value (Some k) q p a b = one_key r n k name value q p a b

one_setting : (r : LinesSoFar) (n : ℕ) (name value : List ℕ) (q p : LinesResult) → TakesSetting r n name value q → TakesSetting r n name value p → q ≡ p
one_setting r n name value q p a b =
    one_of_settings r n name value (name_sets name) q p (setting_view r n name value q a) (setting_view r n name value p b)

LineView : LinesSoFar → Line → Option (List ℕ × List ℕ) → LinesResult → Type 0
LineView r l None q = q ≡ Err (error.BadLine l.number)
LineView r l (Some p) q = TakesSetting r l.number p.0 p.1 q

line_view : (r : LinesSoFar) (l : Line) (q : LinesResult) → TakesLine r l q → LineView r l (setting_in l.text) q
unfolding LineView
line_view r l _ (no_setting is) = subst (λ o. LineView r l o (Err (error.BadLine l.number))) (sym is) refl
line_view r l q (sets is taken) = subst (λ o. LineView r l o q) (sym is) taken

one_of_lines : (r : LinesSoFar) (l : Line) (o : Option (List ℕ × List ℕ)) (q p : LinesResult) → LineView r l o q → LineView r l o p → q ≡ p
unfolding LineView
one_of_lines r l None q p a b = a ∙ sym b
one_of_lines r l (Some s) q p a b = one_setting r l.number s.0 s.1 q p a b

pub one_line : (r : LinesSoFar) (l : Line) (q p : LinesResult) → TakesLine r l q → TakesLine r l p → q ≡ p
one_line r l q p a b = one_of_lines r l (setting_in l.text) q p (line_view r l q a) (line_view r l p b)

-- ---- each line has an outcome

some_value : (r : LinesSoFar) (n : ℕ) (k : Sets) (name value : List ℕ) → (q : LinesResult) × TakesValue r n k name value q
some_value r n k name value = by (every_outcome r.table value)
  where
    by : (((x : List ℕ) × IsExpansion r.table value x) ⊎ ((e : MacroError) × (e ≡ macro.Memory → ⊥) × IsRefused r.table value e)) → (q : LinesResult) × TakesValue r n k name value q
    by (inl a) = (and_macro name a.0 r.table (set_to k a.0 n r.settings), expanded a.1)
    by (inr a) = (Err (error.Macro n a.0), no_expansion a.2 a.1)

some_by_home : (r : LinesSoFar) (n : ℕ) (k : Sets) (name value : List ℕ) (b : Bool) → is_homeless k r.settings ≡ b → (q : LinesResult) × TakesKey r n k name value q
some_by_home r n k name value true home = (Err (error.BadLine n), homeless home)
some_by_home r n k name value false home =
    let v = some_value r n k name value in
    (v.0, takes home v.1)

some_by_sets : (r : LinesSoFar) (n : ℕ) (name value : List ℕ) (o : Option Sets) → name_sets name ≡ o → (q : LinesResult) × TakesSetting r n name value q
some_by_sets r n name value None is = (Err (error.Unknown n), unknown is)
some_by_sets r n name value (Some k) is =
    let v = some_by_home r n k name value (is_homeless k r.settings) refl in
    (v.0, known is v.1)

some_by_setting : (r : LinesSoFar) (l : Line) (o : Option (List ℕ × List ℕ)) → setting_in l.text ≡ o → (q : LinesResult) × TakesLine r l q
some_by_setting r l None is = (Err (error.BadLine l.number), no_setting is)
some_by_setting r l (Some p) is =
    let v = some_by_sets r l.number p.0 p.1 (name_sets p.0) refl in
    (v.0, sets is v.1)

some_line : (r : LinesSoFar) (l : Line) → (q : LinesResult) × TakesLine r l q
some_line r l = some_by_setting r l (setting_in l.text) refl

-- ---- the lines

End : Configuration → Option ConfiguredMachine → ReadResult → Type 0
End c None q = q ≡ Err error.NoMachine
End c (Some m) q = q ≡ Ok c

Then : List Line → LinesResult → ReadResult → Type 0
Then ls (Ok s) q = Reads ls s q
Then ls (Err f) q = q ≡ Err f

View : List Line → LinesSoFar → ReadResult → Type 0
View [] r q = End (whole r.settings) r.settings.last q
View (l ∷ ls) r q = (p : LinesResult) × TakesLine r l p × Then ls p q

view : (ls : List Line) (r : LinesSoFar) (q : ReadResult) → Reads ls r q → View ls r q
unfolding View Then End
view _ r _ (ended is) = subst (λ o. End (whole r.settings) o (Ok (whole r.settings))) (sym is) refl
view _ r _ (no_machine is) = subst (λ o. End (whole r.settings) o (Err error.NoMachine)) (sym is) refl
view _ r _ (refuses {f = f} a) = (Err f, a, refl)
view _ r q (and_line {s = s} a more) = (Ok s, a, more)

one_reading : (ls : List Line) (r : LinesSoFar) (q p : ReadResult) → Reads ls r q → View ls r p → q ≡ p
unfolding View Then End
one_reading _ r _ p (ended is) v = sym (subst (λ o. End (whole r.settings) o p) is v)
one_reading _ r _ p (no_machine is) v = sym (subst (λ o. End (whole r.settings) o p) is v)
one_reading _ r _ p (refuses {l = l} {ls = ls} {f = f} a) v = sym (subst (λ t. Then ls t p) (one_line r l v.0 (Err f) v.1 a) v.2)
one_reading _ r q p (and_line {s = s} {l = l} {ls = ls} a more) v =
    one_reading ls s q p more (view ls s p (subst (λ t. Then ls t p) (one_line r l v.0 (Ok s) v.1 a) v.2))

pub one_outcome : (text : List ℕ) (q p : ReadResult) → IsConfiguration text q → IsConfiguration text p → q ≡ p
one_outcome text q p a b = one_reading (logical_lines text) begun q p a (view (logical_lines text) begun p b)

some_end : (r : LinesSoFar) (o : Option ConfiguredMachine) → r.settings.last ≡ o → (q : ReadResult) × Reads [] r q
some_end r None is = (Err error.NoMachine, no_machine is)
some_end r (Some m) is = (Ok (whole r.settings), ended is)

abbrev HasReading : List Line → LinesSoFar → Type 0
HasReading ls r = (q : ReadResult) × Reads ls r q

and_reading : (l : Line) (ls : List Line) (r : LinesSoFar) → ((s : LinesSoFar) → HasReading ls s) → (q : LinesResult) → TakesLine r l q → HasReading (l ∷ ls) r
and_reading l ls r rest (Err f) a = (Err f, refuses a)
and_reading l ls r rest (Ok s) a =
    let more = rest s in
    (more.0, and_line a more.1)

some_reading : (ls : List Line) (r : LinesSoFar) → HasReading ls r
some_reading [] r = some_end r r.settings.last refl
some_reading (l ∷ ls) r =
    let first = some_line r l in
    and_reading l ls r (λ s. some_reading ls s) first.0 first.1

pub every_text : (text : List ℕ) → (q : ReadResult) × IsConfiguration text q
every_text text = some_reading (logical_lines text) begun

-- ---- the first line that is refused

FirstRefused : List Line → LinesSoFar → ReadResult → Type 0
FirstRefused ls r (Ok c) = Unit {0}
FirstRefused ls r (Err f) = (f ≢ error.NoMachine) → IsFirstRefused ls r f

further : (l : Line) (ls : List Line) (r s : LinesSoFar) (q : ReadResult) → TakesLine r l (Ok s) → FirstRefused ls s q → FirstRefused (l ∷ ls) r q
unfolding FirstRefused
further l ls r s (Ok c) a first = tt
further l ls r s (Err f) a first = λ told.
    let i = first told in
    record {
      before = l ∷ i.before;
      line = i.line;
      after = i.after;
      lines = ap (λ ls. l ∷ ls) i.lines;
      state = i.state;
      taken = one_more a i.taken;
      refused = i.refused;
    }

first_of : (ls : List Line) (r : LinesSoFar) (q : ReadResult) → Reads ls r q → FirstRefused ls r q
unfolding FirstRefused
first_of _ r _ (ended is) = tt
first_of _ r _ (no_machine is) = λ told. absurd (told refl)
first_of _ r _ (refuses {l = l} {ls = ls} a) = λ told. record {
  before = [];
  line = l;
  after = ls;
  lines = refl;
  state = r;
  taken = none;
  refused = a;
}
first_of _ r q (and_line {s = s} {l = l} {ls = ls} a more) = further l ls r s q a (first_of ls s q more)

pub first_refused : (text : List ℕ) (f : ConfigError) → IsConfiguration text (Err f) → f ≢ error.NoMachine → IsFirstRefused (logical_lines text) begun f
unfolding FirstRefused
first_refused text f is = first_of (logical_lines text) begun (Err f) is
