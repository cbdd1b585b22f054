-- What clap makes of the words of a run: it takes them, and finds the configuration in the second
-- and the submit files in the others.
use Rattle.std.proofs.Common.{◌≡◌, ◌∙◌, ◌≤◌, ◌&&◌, ◌||◌, ℕ, is_some, le-leb, Bool, true, false, refl, sym, ap, ap₂, cond, List, [], ◌∷◌, ◌++◌, length, codes, arith, nat_le, Some, None, true≢false, append-nil, append_assoc}
use Rattle.std.specs.List.{fold, list_all}
use Rattle.std.specs.Prelude.{◌==◌, option_and_then}
use Rattle.std.specs.Str.{bytes_eq}
use Rattle.clap.specs.Lexer.{long_of_rest, short_of_rest, strip_byte, usize_max}
use Rattle.clap.specs.Walk.{Held, Row, Rule, Step, Text, Waiting, Walk, after_step, finished, idle, long_or_other, nothing_held, option, plain_word, positional, short_or_plain, subcommand_or_other, trailing, value, walk, walk_from, walked, word_met}
use Rattle.clap.specs.Simple.{App, Shape, built, entered, filled, is_simple, names_of, subcommand_of, with_index}
use Rattle.clap.specs.Takes.{bundle_passes, default_passes, entered_passes, flag_word_passes, is_valid, level_passes, other_passes, settle_passes, step_passes, takes, turn_passes, values_pass, walk_passes, word_passes}
use Rattle.std.specs.Option.{option_map_or}
use Rattle.clap.proofs.SimpleLemmas.{is_false}
use Rattle.clap.proofs.WalkLemmas.{both, walk_stopped}
use Rattle.pool_input.specs.Words.{is_plain}
use Rattle.pool_input.specs.Command.{command_line, config_row, config_rule, run_shape, submit_rows, submit_rule}

abbrev line : App
line = built command_line

abbrev others : Rule
others = with_index 2 (filled submit_rule)

-- the arguments of `run`, as clap builds them
abbrev rules : List Rule
rules = with_index 1 (filled config_rule) ∷ others ∷ []

abbrev start : Walk
start = walk_from nothing_held

pub line_is_simple : is_simple command_line ≡ true
line_is_simple = refl

-- ---- a plain word goes to the positional that is next

abbrev is_ready : Waiting → Bool
is_ready (option id) = false
is_ready waiting = true

-- a word that begins with no `-` is no flag
as_plain : (waiting : Waiting) (position x : ℕ) (xs : Text) (h : Held) → (x == 45) ≡ false
    → subcommand_or_other rules None waiting position (x ∷ xs) h ≡ plain_word rules waiting (x ∷ xs) h
as_plain waiting position x xs h other =
    ap (λ b. cond (b && bytes_eq xs (45 ∷ [])) (h, trailing position)
    (long_or_other rules waiting (x ∷ xs) (option_and_then long_of_rest (option_and_then (strip_byte 45) (cond b (Some xs) None))) h)) other
    ∙ ap (λ b. short_or_plain rules waiting (x ∷ xs) (option_and_then short_of_rest (cond b (Some xs) None)) h) other

plain_met : (waiting : Waiting) (position : ℕ) (word : Text) (h : Held) → is_plain word ≡ true → is_ready waiting ≡ true
    → word_met rules [] false waiting position word h ≡ (h, value)
plain_met waiting position [] h plain ready = absurd (true≢false (sym plain))
plain_met (option id) position (x ∷ xs) h plain ready = absurd (true≢false (sym ready))
plain_met idle position (x ∷ xs) h plain ready = as_plain idle position x xs h (is_false (x == 45) plain)
plain_met positional position (x ∷ xs) h plain ready = as_plain positional position x xs h (is_false (x == 45) plain)

abbrev after_config : List ℕ → Walk
after_config config = record {
  held = record { rows = []; pending = Some (codes "CONFIG", config ∷ []); skip = 0 };
  waiting = idle;
  position = 2;
  is_trailing = false;
  stopped = None;
}

abbrev after_submits : List ℕ → List (List ℕ) → Walk
after_submits config names = record {
  held = record { rows = config_row config ∷ []; pending = Some (codes "SUBMIT", names); skip = 0 };
  waiting = positional;
  position = 2;
  is_trailing = false;
  stopped = None;
}

config_met : (config : List ℕ) → is_plain config ≡ true → walked rules [] start config ≡ after_config config
unfolding walked
config_met config plain = ap (λ (m : Held × Step). after_step rules config start m.0 m.1) (plain_met idle 1 config nothing_held plain refl)

submit_met : (config name : List ℕ) → is_plain name ≡ true → walked rules [] (after_config config) name ≡ after_submits config (name ∷ [])
unfolding walked
submit_met config name plain =
    ap (λ (m : Held × Step). after_step rules name (after_config config) m.0 m.1) (plain_met idle 2 name (after_config config).held plain refl)

another_met : (config name : List ℕ) (seen : List (List ℕ)) → is_plain name ≡ true
    → walked rules [] (after_submits config seen) name ≡ after_submits config (seen ++ name ∷ [])
unfolding walked
another_met config name seen plain =
    ap (λ (m : Held × Step). after_step rules name (after_submits config seen) m.0 m.1) (plain_met positional 2 name (after_submits config seen).held plain refl)

others_met : (config : List ℕ) (seen names : List (List ℕ)) → list_all is_plain names ≡ true
    → fold (walked rules []) (after_submits config seen) names ≡ after_submits config (seen ++ names)
others_met config seen [] plain = ap (after_submits config) (sym (append-nil seen))
others_met config seen (name ∷ names) plain =
    let parts = both _ _ plain in
    ap (λ (w : Walk). fold (walked rules []) w names) (another_met config name seen parts.0)
    ∙ others_met config (seen ++ name ∷ []) names parts.1
    ∙ ap (after_submits config) (append_assoc seen (name ∷ []) names)

abbrev after_all : List ℕ → List (List ℕ) → Walk
after_all config [] = after_config config
after_all config (name ∷ names) = after_submits config (name ∷ names)

all_met : (config : List ℕ) (submits : List (List ℕ)) → is_plain config ≡ true → list_all is_plain submits ≡ true
    → walk rules [] nothing_held (config ∷ submits) ≡ after_all config submits
all_met config [] plain all = config_met config plain
all_met config (name ∷ names) plain all =
    let parts = both _ _ all in
    ap (λ (w : Walk). fold (walked rules []) w (name ∷ names)) (config_met config plain)
    ∙ ap (λ (w : Walk). fold (walked rules []) w names) (submit_met config name parts.0)
    ∙ others_met config (name ∷ []) names parts.1

found : (config : List ℕ) (submits : List (List ℕ)) → finished rules (after_all config submits).held ≡ config_row config ∷ submit_rows submits
found config [] = refl
found config (name ∷ names) = refl

-- ---- the first word names the command `run`, which reads the others

run_met : (words : List (List ℕ)) → walk line.top.rules (names_of line) nothing_held (codes "run" ∷ words) ≡ record start { stopped = Some (codes "run", words) }
unfolding walked
run_met words = sym (walk_stopped line.top.rules (names_of line) start (codes "run") [] words)

pub all_read : (config : List ℕ) (submits : List (List ℕ)) → is_plain config ≡ true → list_all is_plain submits ≡ true
    → subcommand_of command_line (codes "run" ∷ config ∷ submits) ≡ Some (codes "run", config_row config ∷ submit_rows submits)
all_read config submits plain all =
    ap (λ (w : Walk). entered line w.stopped) (run_met (config ∷ submits))
    ∙ ap (λ (w : Walk). Some (codes "run", finished rules w.held)) (all_met config submits plain all)
    ∙ ap (λ (rows : List Row). Some (codes "run", rows)) (found config submits)

-- ---- clap refuses none of the words

abbrev run : Shape
run = record run_shape {
  rules = rules;
  no_binary_name = true;
  disable_help_subcommand = true;
  is_built = true;
}

as_passing : (x : ℕ) (xs : Text) (h : Held) → (x == 45) ≡ false → other_passes run None (x ∷ xs) h ≡ true
as_passing x xs h other =
    ap (λ b. (b && bytes_eq xs (45 ∷ [])) || flag_word_passes rules false (option_and_then long_of_rest (option_and_then (strip_byte 45) (cond b (Some xs) None))) (x ∷ xs) h) other
    ∙ ap (λ b. option_map_or (λ flags. bundle_passes rules false flags h) (option_and_then short_of_rest (cond b (Some xs) None)) true) other

plain_passes : (waiting : Waiting) (word : Text) (h : Held) → is_plain word ≡ true → is_ready waiting ≡ true → word_passes run [] false waiting word h ≡ true
plain_passes waiting [] h plain ready = absurd (true≢false (sym plain))
plain_passes (option id) (x ∷ xs) h plain ready = absurd (true≢false (sym ready))
plain_passes idle (x ∷ xs) h plain ready = as_passing x xs h (is_false (x == 45) plain)
plain_passes positional (x ∷ xs) h plain ready = as_passing x xs h (is_false (x == 45) plain)

config_passes : (config : List ℕ) → is_plain config ≡ true → turn_passes run [] start config ≡ true
config_passes config plain =
    ap₂ (λ (b : Bool) (m : Held × Step). b && step_passes run 1 m.0 m.1) (plain_passes idle config nothing_held plain refl) (plain_met idle 1 config nothing_held plain refl)

submit_passes : (config name : List ℕ) → is_plain name ≡ true → turn_passes run [] (after_config config) name ≡ true
submit_passes config name plain =
    ap₂ (λ (b : Bool) (m : Held × Step). b && step_passes run 2 m.0 m.1) (plain_passes idle name (after_config config).held plain refl)
    (plain_met idle 2 name (after_config config).held plain refl)

another_passes : (config name : List ℕ) (seen : List (List ℕ)) → is_plain name ≡ true → turn_passes run [] (after_submits config seen) name ≡ true
another_passes config name seen plain =
    ap₂ (λ (b : Bool) (m : Held × Step). b && step_passes run 2 m.0 m.1) (plain_passes positional name (after_submits config seen).held plain refl)
    (plain_met positional 2 name (after_submits config seen).held plain refl)

others_pass : (config : List ℕ) (seen names : List (List ℕ)) → list_all is_plain names ≡ true → walk_passes run [] (after_submits config seen) names ≡ true
unfolding walk_passes
others_pass config seen [] all = refl
others_pass config seen (name ∷ names) all =
    let parts = both _ _ all in
    ap₂ (λ (b : Bool) (w : Walk). b && walk_passes run [] w names) (another_passes config name seen parts.0) (another_met config name seen parts.0)
    ∙ others_pass config (seen ++ name ∷ []) names parts.1

submits_pass : (config : List ℕ) (submits : List (List ℕ)) → list_all is_plain submits ≡ true → walk_passes run [] (after_config config) submits ≡ true
unfolding walk_passes
submits_pass config [] all = refl
submits_pass config (name ∷ names) all =
    let parts = both _ _ all in
    ap₂ (λ (b : Bool) (w : Walk). b && walk_passes run [] w names) (submit_passes config name parts.0) (submit_met config name parts.0)
    ∙ others_pass config (name ∷ []) names parts.1

all_pass : (config : List ℕ) (submits : List (List ℕ)) → is_plain config ≡ true → list_all is_plain submits ≡ true → walk_passes run [] start (config ∷ submits) ≡ true
unfolding walk_passes
all_pass config submits plain all =
    ap₂ (λ (b : Bool) (w : Walk). b && walk_passes run [] w submits) (config_passes config plain) (config_met config plain) ∙ submits_pass config submits all

any_text_passes : (names : List (List ℕ)) → values_pass others names ≡ true
any_text_passes [] = refl
any_text_passes (name ∷ names) = any_text_passes names

-- what is left to be used at the end has as many values as there may be
end_passes : (config : List ℕ) (submits : List (List ℕ)) → length submits ≤ usize_max → settle_passes rules false (after_all config submits).held ≡ true
end_passes config [] few = refl
end_passes config (name ∷ names) few =
    ap (λ b. b && (nat_le (length (name ∷ names)) usize_max && values_pass others (name ∷ names))) (le-leb 0 (length (name ∷ names)) (omega arith))
    ∙ ap₂ (λ (b d : Bool). b && d) (le-leb (length (name ∷ names)) usize_max few) (any_text_passes (name ∷ names))

run_passes : (config : List ℕ) (submits : List (List ℕ)) → is_plain config ≡ true → list_all is_plain submits ≡ true → length submits ≤ usize_max
    → level_passes run [] nothing_held (config ∷ submits) false ≡ true
run_passes config submits plain all few =
    ap₂ (λ (b : Bool) (w : Walk). b && (settle_passes rules false w.held && (list_all default_passes rules && is_valid run (finished rules w.held) false)))
    (all_pass config submits plain all) (all_met config submits plain all)
    ∙ ap₂ (λ (b : Bool) (rows : List Row). b && (list_all default_passes rules && is_valid run rows false)) (end_passes config submits few) (found config submits)

-- the words after that of a command are left to it
rest_passes : (name : List ℕ) (seen words : List (List ℕ)) → walk_passes line.top (names_of line) (record start { stopped = Some (name, seen) }) words ≡ true
unfolding walk_passes walked
rest_passes name seen [] = refl
rest_passes name seen (word ∷ words) = rest_passes name (seen ++ word ∷ []) words

first_passes : (words : List (List ℕ)) → walk_passes line.top (names_of line) start (codes "run" ∷ words) ≡ true
unfolding walk_passes walked
first_passes words = rest_passes (codes "run") [] words

pub all_taken : (config : List ℕ) (submits : List (List ℕ)) → is_plain config ≡ true → list_all is_plain submits ≡ true → length submits ≤ usize_max
    → takes command_line (codes "run" ∷ config ∷ submits) ≡ true
all_taken config submits plain all few =
    let words = config ∷ submits in
    ap₂ (λ (b : Bool) (w : Walk). entered_passes line w.stopped && (b && (settle_passes line.top.rules false w.held && (list_all default_passes line.top.rules
    && is_valid line.top (finished line.top.rules w.held) (is_some (entered line w.stopped)))))) (first_passes words) (run_met words)
    ∙ ap (λ b. b && true) (run_passes config submits plain all few)
