-- What a launch looks up, and what it does not.
use Rattle.std.proofs.Common.{◌≡◌, ℕ, ◌+◌, ◌*◌, ◌==◌, Bool, true, false, cond, ◌||◌, List, [], ◌∷◌, map, Option, Some, None, is_some, IsSome, refl, ap, sym, ◌∙◌}
use Rattle.std.specs.Prelude.{chars, unwrap_or}
use Rattle.std.specs.List.{count_by, list_any}
use Rattle.std.proofs.lemmas.Str.{chars-nil}
use Rattle.ad_value.specs.Bytes.{code}
use Rattle.ad_value.specs.Content.{text}
use Rattle.ad_value.specs.Names.{same_name}
use Rattle.ad_value.specs.declared.names.job.TheConstants.{CMD, ARGS, ARGUMENTS, IWD, IN, OUT, ERR}
use Rattle.ad_tree.specs.Ad.{Attributes, lookup, with_attribute, without}
use Rattle.ad_tree.specs.NameLaws.{same_name_equivalence}
use Rattle.ad_tree.specs.Tree.{Tree, literal}
use Rattle.line_text.specs.declared.words.Place.TheVariants.{Between}
use Rattle.line_text.specs.Quoting.{quoted_words, word_bytes}
use Rattle.line_text.specs.Words.{words_of, words_from}
use Rattle.line_text.proofs.LawLemmas.{words_read}
use Rattle.job_launch.proofs.QuoteLemmas.{odd_quotes}
use Rattle.job_launch.specs.Launches.{literal_text, literal_string, words_under, launch_words, launch_names, launch_of}

-- ---- a change under another name is not seen
apart : (x y z : List ℕ) → same_name y x ≡ false → same_name x z ≡ true → same_name y z ≡ false
apart x y z h p = same_name_equivalence.symm y z ∙ sym (same_name_equivalence.congr x z y p) ∙ same_name_equivalence.symm x y ∙ h

set_elsewhere : (x y : List ℕ) (e : Tree) (ad : Attributes) → same_name y x ≡ false → lookup y (with_attribute x e ad) ≡ lookup y ad
set_elsewhere x y e [] h = ap (λ b. cond b (Some e) None) h
set_elsewhere x y e (a ∷ ad) h = by (same_name x a.0) refl (set_elsewhere x y e ad h)
  where
    by : (b : Bool) → same_name x a.0 ≡ b → lookup y (with_attribute x e ad) ≡ lookup y ad → lookup y (cond b ((a.0, e) ∷ ad) (a ∷ with_attribute x e ad)) ≡ cond (same_name y a.0) (Some a.1) (lookup y ad)
    by true p rest = ap (λ b. cond b (Some e) (lookup y ad)) (apart x y a.0 h p) ∙ sym (ap (λ b. cond b (Some a.1) (lookup y ad)) (apart x y a.0 h p))
    by false p rest = ap (λ o. cond (same_name y a.0) (Some a.1) o) rest

removed_elsewhere : (x y : List ℕ) (ad : Attributes) → same_name y x ≡ false → lookup y (without x ad) ≡ lookup y ad
removed_elsewhere x y [] h = refl
removed_elsewhere x y (a ∷ ad) h = by (same_name x a.0) refl (removed_elsewhere x y ad h)
  where
    by : (b : Bool) → same_name x a.0 ≡ b → lookup y (without x ad) ≡ lookup y ad → lookup y (cond b ad (a ∷ without x ad)) ≡ cond (same_name y a.0) (Some a.1) (lookup y ad)
    by true p rest = sym (ap (λ b. cond b (Some a.1) (lookup y ad)) (apart x y a.0 h p))
    by false p rest = ap (λ o. cond (same_name y a.0) (Some a.1) o) rest

-- ---- a launch is told by its look-ups
abbrev words_for : Option Tree → Option Tree → List (List ℕ)
words_for arguments args = cond (is_some arguments) (unwrap_or (words_of true (literal_text arguments)) []) (unwrap_or (words_of false (literal_text args)) [])

same_words : (a b : Attributes) → lookup ARGUMENTS.now a ≡ lookup ARGUMENTS.now b → lookup ARGS.now a ≡ lookup ARGS.now b → launch_words a ≡ launch_words b
same_words a b arguments args = λ i. words_for (arguments i) (args i)

-- Args is not looked at
same_arguments : (a b : Attributes) → lookup ARGUMENTS.now a ≡ lookup ARGUMENTS.now b → IsSome (lookup ARGUMENTS.now b) → launch_words a ≡ launch_words b
same_arguments a b arguments there =
    ap (λ o. words_for o (lookup ARGS.now a)) arguments
    ∙ ap (λ is. cond is quoted (words_for None (lookup ARGS.now a))) there
    ∙ sym (ap (λ is. cond is quoted (words_for None (lookup ARGS.now b))) there)
  where
    quoted : List (List ℕ)
    quoted = unwrap_or (words_of true (literal_text (lookup ARGUMENTS.now b))) []

-- the look-ups beside those of the words
record SameFiles (a b : Attributes) : Type 0 where
  program : lookup CMD.now a ≡ lookup CMD.now b
  folder : lookup IWD.now a ≡ lookup IWD.now b
  input : lookup IN.now a ≡ lookup IN.now b
  output : lookup OUT.now a ≡ lookup OUT.now b
  errors : lookup ERR.now a ≡ lookup ERR.now b

same_launch : (a b : Attributes) → SameFiles a b → launch_words a ≡ launch_words b → launch_of a ≡ launch_of b
same_launch a b same words = λ i. record {
  program = literal_text (same.program i);
  words = words i;
  folder = literal_text (same.folder i);
  input = literal_text (same.input i);
  output = literal_text (same.output i);
  errors = literal_text (same.errors i);
}

-- ---- an attribute that no launch is made of
not_first : (b c : Bool) → (b || c) ≡ false → (b ≡ false) × (c ≡ false)
not_first true c h = absurd (no h)
  where
    no : true ≡ false → ⊥
    no h = cc
not_first false c h = (refl, h)

abbrev Apart : List ℕ → List (List ℕ) → Type 0
Apart x [] = Unit {0}
Apart x (n ∷ ns) = (same_name n x ≡ false) × Apart x ns

all_apart : (x : List ℕ) (ns : List (List ℕ)) → list_any (same_name x) ns ≡ false → Apart x ns
all_apart x [] h = tt
all_apart x (n ∷ ns) h = (same_name_equivalence.symm n x ∙ parts.0, all_apart x ns parts.1)
  where
    parts : (same_name x n ≡ false) × (list_any (same_name x) ns ≡ false)
    parts = not_first (same_name x n) (list_any (same_name x) ns) h

module _ (x : List ℕ) (a b : Attributes) (elsewhere : (y : List ℕ) → same_name y x ≡ false → lookup y a ≡ lookup y b) where
  same_without : list_any (same_name x) launch_names ≡ false → launch_of a ≡ launch_of b
  same_without h =
      same_launch a b
      (record {
        program = elsewhere CMD.now r.0;
        folder = elsewhere IWD.now r.1.0;
        input = elsewhere IN.now r.1.1.0;
        output = elsewhere OUT.now r.1.1.1.0;
        errors = elsewhere ERR.now r.1.1.1.1.0;
      })
      (same_words a b (elsewhere ARGUMENTS.now r.1.1.1.1.1.0) (elsewhere ARGS.now r.1.1.1.1.1.1.0))
    where
      r : Apart x launch_names
      r = all_apart x launch_names h

pub set_other : (ad : Attributes) (name : List ℕ) (e : Tree) → list_any (same_name name) launch_names ≡ false → launch_of (with_attribute name e ad) ≡ launch_of ad
set_other ad name e h = same_without name (with_attribute name e ad) ad (λ y apart. set_elsewhere name y e ad apart) h

pub removed_other : (ad : Attributes) (name : List ℕ) → list_any (same_name name) launch_names ≡ false → launch_of (without name ad) ≡ launch_of ad
removed_other ad name h = same_without name (without name ad) ad (λ y apart. removed_elsewhere name y ad apart) h

-- ---- Args beside Arguments
beside_args : (a b : Attributes) → ((y : List ℕ) → same_name y ARGS.now ≡ false → lookup y a ≡ lookup y b) → IsSome (lookup ARGUMENTS.now b) → launch_of a ≡ launch_of b
beside_args a b elsewhere there =
    same_launch a b
    (record {
      program = elsewhere CMD.now refl;
      folder = elsewhere IWD.now refl;
      input = elsewhere IN.now refl;
      output = elsewhere OUT.now refl;
      errors = elsewhere ERR.now refl;
    })
    (same_arguments a b (elsewhere ARGUMENTS.now refl) there)

pub set_args : (ad : Attributes) (e : Tree) → IsSome (lookup ARGUMENTS.now ad) → launch_of (with_attribute ARGS.now e ad) ≡ launch_of ad
set_args ad e there = beside_args (with_attribute ARGS.now e ad) ad (λ y apart. set_elsewhere ARGS.now y e ad apart) there

pub removed_args : (ad : Attributes) → IsSome (lookup ARGUMENTS.now ad) → launch_of (without ARGS.now ad) ≡ launch_of ad
removed_args ad there = beside_args (without ARGS.now ad) ad (λ y apart. removed_elsewhere ARGS.now y ad apart) there

-- ---- words
empty_words : (quoted : Bool) (line : List ℕ) → line ≡ [] → unwrap_or (words_of quoted line) [] ≡ []
unfolding words_from
empty_words quoted line is = ap (λ cs. unwrap_or (words_from quoted Between [] cs) []) (ap chars is ∙ chars-nil)

pub no_words : (ad : Attributes) → lookup ARGUMENTS.now ad ≡ None → lookup ARGS.now ad ≡ None → launch_words ad ≡ []
no_words ad arguments args = (λ i. words_for (arguments i) (args i)) ∙ empty_words false [] refl

pub no_quoted_words : (ad : Attributes) → IsSome (lookup ARGUMENTS.now ad) → literal_string ad ARGUMENTS.now ≡ [] → launch_words ad ≡ []
no_quoted_words ad there is =
    ap (λ b. cond b (words_under ad ARGUMENTS.now true) (words_under ad ARGS.now false)) there
    ∙ empty_words true (literal_string ad ARGUMENTS.now) is

pub words_reach : (ad : Attributes) (words : List (List ℕ)) (line : List ℕ) → lookup ARGUMENTS.now ad ≡ Some (literal (text line)) → chars line ≡ quoted_words words → launch_words ad ≡ map word_bytes words
words_reach ad words line arguments is =
    ap (λ o. words_for o (lookup ARGS.now ad)) arguments
    ∙ ap (λ cs. unwrap_or (words_from true Between [] cs) []) is
    ∙ ap (λ o. unwrap_or o []) (words_read words)

pub unclosed : (ad : Attributes) (line : List ℕ) (n : ℕ) → lookup ARGUMENTS.now ad ≡ Some (literal (text line)) → count_by (λ c. c == code "'") (chars line) ≡ 2 * n + 1 → launch_words ad ≡ []
unclosed ad line n arguments odd =
    ap (λ o. words_for o (lookup ARGS.now ad)) arguments
    ∙ ap (λ o. unwrap_or o []) (odd_quotes line n odd)
