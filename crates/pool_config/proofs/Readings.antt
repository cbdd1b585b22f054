-- Lines that are taken one after the other.
use Rattle.std.proofs.Math.Seq.{drop-cons}
use Rattle.std.proofs.lemmas.List.{drop_all}
use Rattle.std.proofs.Common.{◌≡◌, ℕ, suc, ◌+◌, ◌<◌, ◌≤◌, true, false, true≢false, List, [], ◌∷◌, ◌++◌, length, get_or, drop, append-nil, Option, Some, None, is_some, option_map, Bor, Result, Ok, Err, refl, ap, sym, ◌∙◌, subst, arith}
use Rattle.line_text.specs.declared.error.MacroError.{MacroError}
use Rattle.line_text.specs.declared.error.MacroError.TheVariants as macro
use Rattle.line_text.specs.declared.logical.Line.{Line}
use Rattle.line_text.specs.Lines.{logical_lines}
use Rattle.line_text.specs.Expansion.{IsExpansion, IsRefused}
use Rattle.pool_config.specs.declared.error.ConfigError.{ConfigError}
use Rattle.pool_config.specs.declared.error.ConfigError.TheVariants as error
use Rattle.pool_config.specs.declared.key.Key.{Key}
use Rattle.pool_config.specs.Configuration.{ConfiguredMachine}
use Rattle.pool_config.specs.Errors.{UnlessMemory, changed_to, Becomes}
use Rattle.pool_config.specs.Keys.{Sets, sets_of}
use Rattle.pool_config.specs.Names.{setting_in, name_sets}
use Rattle.pool_config.specs.Settings.{set_to, whole, is_homeless}
use Rattle.pool_config.specs.Lines.{LinesSoFar, ReadResult, TakesValue, no_expansion, expanded, TakesKey, homeless, takes, TakesSetting, unknown, known, TakesLine, no_setting, sets, Reads, ended, no_machine, refuses, and_line, TakesLines, macro_fault, and_macro, begun, IsConfiguration}

pub unless : {X : Type 0} (P : Result X ConfigError → Type 0) (r : Result X ConfigError) → P r → UnlessMemory P r
unless P (Ok x) h = h
unless P (Err error.Memory) h = tt
unless P (Err (error.BadLine n)) h = h
unless P (Err (error.Unknown n)) h = h
unless P (Err (error.BadValue n)) h = h
unless P (Err (error.Macro n f)) h = h
unless P (Err (error.Machines n)) h = h
unless P (Err (error.Slots n)) h = h
unless P (Err (error.Full n)) h = h
unless P (Err error.NoMachine) h = h

pub unless_map : {X Y : Type 0} (P : Result X ConfigError → Type 0) (Q : Result Y ConfigError → Type 0) (e : ConfigError) → (P (Err e) → Q (Err e)) → UnlessMemory P (Err e) → UnlessMemory Q (Err e)
unless_map P Q error.Memory f h = tt
unless_map P Q (error.BadLine n) f h = f h
unless_map P Q (error.Unknown n) f h = f h
unless_map P Q (error.BadValue n) f h = f h
unless_map P Q (error.Macro n g) f h = f h
unless_map P Q (error.Machines n) f h = f h
unless_map P Q (error.Slots n) f h = f h
unless_map P Q (error.Full n) f h = f h
unless_map P Q error.NoMachine f h = f h

-- ---- a value

-- its expansion is refused
pub value_refused : (r : LinesSoFar) (n : ℕ) (k : Sets) (name value : List ℕ) (f : MacroError) (e : ConfigError) → IsRefused r.table value f → e ≡ macro_fault n f → UnlessMemory (TakesValue r n k name value) (Err e)
value_refused r n k name value f e is same = subst (λ e. UnlessMemory (TakesValue r n k name value) (Err e)) (sym same) (by f is)
  where
    by : (f : MacroError) → IsRefused r.table value f → UnlessMemory (TakesValue r n k name value) (Err (macro_fault n f))
    by macro.Memory h = tt
    by (macro.Bad at) h = no_expansion h (λ e. cc)
    by (macro.Circular x) h = no_expansion h (λ e. cc)
    by (macro.TooLong l) h = no_expansion h (λ e. cc)

-- it is expanded, and what it then sets is taken or refused
pub value_put : (r new : LinesSoFar) (n : ℕ) (k : Sets) (name value x y : List ℕ) (q : Result (Unit {0}) ConfigError) → IsExpansion r.table value x → y ≡ x → Becomes new q (and_macro name y r.table (set_to k y n r.settings)) → UnlessMemory (TakesValue r n k name value) (changed_to new q)
value_put r new n k name value x y (Ok u) is same set =
    subst (TakesValue r n k name value) (sym set) (expanded (subst (IsExpansion r.table value) (sym same) is))
value_put r new n k name value x y (Err f) is same set =
    unless_map (λ (p : Result LinesSoFar ConfigError). p ≡ and_macro name y r.table (set_to k y n r.settings)) (TakesValue r n k name value) f
    (λ e. subst (TakesValue r n k name value) (sym e) (expanded (subst (IsExpansion r.table value) (sym same) is))) set

-- ---- a line

along : {X : Type 0} (P Q : Result X ConfigError → Type 0) (q : Result X ConfigError) → ((p : Result X ConfigError) → P p → Q p) → UnlessMemory P q → UnlessMemory Q q
along P Q (Ok x) f h = f (Ok x) h
along P Q (Err e) f h = unless_map P Q e (f (Err e)) h

pub key_homeless : (r : LinesSoFar) (n : ℕ) (k : Sets) (name value : List ℕ) → is_homeless k r.settings ≡ true → TakesKey r n k name value (Err (error.BadLine n))
key_homeless r n k name value home = homeless home

pub key_taken : (r new : LinesSoFar) (n : ℕ) (k : Sets) (name value : List ℕ) (q : Result (Unit {0}) ConfigError) → is_homeless k r.settings ≡ false → UnlessMemory (TakesValue r n k name value) (changed_to new q) → UnlessMemory (TakesKey r n k name value) (changed_to new q)
key_taken r new n k name value q home = along (TakesValue r n k name value) (TakesKey r n k name value) (changed_to new q) (λ p taken. takes home taken)

abbrev pub sets_seen : Option Key → Option Sets
sets_seen o = option_map sets_of o

pub setting_known : (r new : LinesSoFar) (n : ℕ) (name value : List ℕ) (o : Option Key) (k : Key) (q : Result (Unit {0}) ConfigError) → sets_seen o ≡ name_sets name → o ≡ Some k → UnlessMemory (TakesKey r n (sets_of k) name value) (changed_to new q) → UnlessMemory (TakesSetting r n name value) (changed_to new q)
setting_known r new n name value o k q e is =
    along (TakesKey r n (sets_of k) name value) (TakesSetting r n name value) (changed_to new q) (λ p taken. known (sym e ∙ ap sets_seen is) taken)

pub setting_unknown : (r : LinesSoFar) (n : ℕ) (name value : List ℕ) (o : Option Key) → sets_seen o ≡ name_sets name → o ≡ None → TakesSetting r n name value (Err (error.Unknown n))
setting_unknown r n name value o e is = unknown (sym e ∙ ap sets_seen is)

abbrev pub Cut : Type 0
Cut = Option (Bor (List ℕ) × Bor (List ℕ))

abbrev pub cut_seen : Cut → Option (List ℕ × List ℕ)
cut_seen o = option_map (λ p. (p.0.now, p.1.now)) o

pub line_set : (r new : LinesSoFar) (l : Line) (t : List ℕ) (o : Cut) (a b : Bor (List ℕ)) (q : Result (Unit {0}) ConfigError) → cut_seen o ≡ setting_in t → t ≡ l.text → o ≡ Some (a, b) → UnlessMemory (TakesSetting r l.number a.now b.now) (changed_to new q) → UnlessMemory (TakesLine r l) (changed_to new q)
line_set r new l t o a b q e same is =
    along (TakesSetting r l.number a.now b.now) (TakesLine r l) (changed_to new q) (λ p taken. sets (ap setting_in (sym same) ∙ sym e ∙ ap cut_seen is) taken)

pub line_bad : (r : LinesSoFar) (l : Line) (t : List ℕ) (o : Cut) → cut_seen o ≡ setting_in t → t ≡ l.text → o ≡ None → TakesLine r l (Err (error.BadLine l.number))
line_bad r l t o e same is = no_setting (ap setting_in (sym same) ∙ sym e ∙ ap cut_seen is)

-- ---- the lines

next : (ls : List Line) (i : ℕ) (l : Line) → i < length ls → l ≡ get_or ls i l → drop i ls ≡ l ∷ drop (suc i) ls
next ls i l lt is = drop-cons ls i l lt ∙ ap (λ l. l ∷ drop (suc i) ls) (sym is)

pub next_line : (r mid : LinesSoFar) (ls : List Line) (i : ℕ) (l : Line) → i < length ls → l ≡ get_or ls i l → TakesLine r l (Ok mid) → (rest : List Line) (q : ReadResult) → Reads (drop (i + 1) ls ++ rest) mid q → Reads (drop i ls ++ rest) r q
next_line r mid ls i l lt is step rest q more =
    let one : i + 1 ≡ suc i = omega arith in
    subst (λ ls. Reads (ls ++ rest) r q) (sym (next ls i l lt is))
    (and_line step (subst (λ j. Reads (drop j ls ++ rest) mid q) one more))

pub last_line : (r : LinesSoFar) (ls : List Line) (i : ℕ) → length ls ≤ i → (rest : List Line) (q : ReadResult) → Reads rest r q → Reads (drop i ls ++ rest) r q
last_line r ls i le rest q more = subst (λ ls. Reads (ls ++ rest) r q) (sym (drop_all i ls le)) more

pub lines_err : (r mid : LinesSoFar) (ls : List Line) (i : ℕ) (l : Line) (e : ConfigError) → i < length ls → l ≡ get_or ls i l → ((rest : List Line) (q : ReadResult) → Reads (drop i ls ++ rest) mid q → Reads (ls ++ rest) r q) → UnlessMemory (TakesLine mid l) (Err e) → UnlessMemory (TakesLines ls r) (Err e)
lines_err r mid ls i l e lt is made =
    unless_map (TakesLine mid l) (TakesLines ls r) e
    (λ g rest. made rest (Err e) (subst (λ ls. Reads (ls ++ rest) mid (Err e)) (sym (next ls i l lt is)) (refuses g)))

-- ---- the text

all_of : (text : List ℕ) (r : LinesSoFar) (ls : List Line) (q : ReadResult) → ls ≡ logical_lines text → r ≡ begun → Reads (ls ++ []) r q → IsConfiguration text q
all_of text r ls q lined from made =
    subst (λ ls. Reads ls begun q) lined (subst (λ r. Reads ls r q) from (subst (λ ls. Reads ls r q) (append-nil ls) made))

pub all_read : (text : List ℕ) (r new : LinesSoFar) (ls : List Line) (q : ReadResult) → ls ≡ logical_lines text → r ≡ begun → TakesLines ls r (Ok new) → UnlessMemory (Reads [] new) q → UnlessMemory (IsConfiguration text) q
all_read text r new ls (Ok c) lined from taken end = all_of text r ls (Ok c) lined from (taken [] (Ok c) end)
all_read text r new ls (Err e) lined from taken end =
    unless_map (Reads [] new) (IsConfiguration text) e (λ h. all_of text r ls (Err e) lined from (taken [] (Err e) h)) end

pub all_refused : (text : List ℕ) (r : LinesSoFar) (ls : List Line) (e : ConfigError) → ls ≡ logical_lines text → r ≡ begun → UnlessMemory (TakesLines ls r) (Err e) → UnlessMemory (IsConfiguration text) (Err e)
all_refused text r ls e lined from =
    unless_map (TakesLines ls r) (IsConfiguration text) e (λ g. all_of text r ls (Err e) lined from (g []))

-- ---- the end

pub end_read : (r : LinesSoFar) (q : ReadResult) → is_some r.settings.last ≡ true → UnlessMemory (λ p. p ≡ Ok (whole r.settings)) q → UnlessMemory (Reads [] r) q
end_read r q some = along (λ p. p ≡ Ok (whole r.settings)) (Reads [] r) q (λ p e. subst (Reads [] r) (sym e) (by r.settings.last refl some))
  where
    by : (o : Option ConfiguredMachine) → r.settings.last ≡ o → is_some o ≡ true → Reads [] r (Ok (whole r.settings))
    by (Some m) is some = ended is
    by None is some = absurd (true≢false (sym some))

pub end_bad : (r : LinesSoFar) → is_some r.settings.last ≡ false → Reads [] r (Err error.NoMachine)
end_bad r none = by r.settings.last refl none
  where
    by : (o : Option ConfiguredMachine) → r.settings.last ≡ o → is_some o ≡ false → Reads [] r (Err error.NoMachine)
    by None is none = no_machine is
    by (Some m) is none = absurd (true≢false none)
