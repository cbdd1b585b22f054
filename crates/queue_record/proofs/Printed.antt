-- The line of an operation is read as that operation.
use Rattle.std.proofs.Common.{◌≡◌, ◌≢◌, ℕ, ◌+◌, ◌<◌, ◌≤◌, ◌^◌, ◌==◌, ◌&&◌, ◌||◌, not, codes, decimal, pos, negsuc, Bool, true, false, cond, List, [], ◌∷◌, ◌++◌, length, Option, Some, None, refl, ap, sym, ◌∙◌, subst, arith, append_assoc}
use Rattle.std.specs.List.{list_all, flat_map}
use Rattle.std.specs.Str.{IsUtf8}
use Rattle.std.specs.Int.{IsInRange}
use Rattle.std.proofs.lemmas.Bool.{eqb-true, ltb-true, leb-true, ltb-false}
use Rattle.std.proofs.lemmas.Bool.Decides.{nat_tests}
use Rattle.std.proofs.lemmas.Fmt.{digits_decimal}
use Rattle.std.proofs.lemmas.List.{append-nil}
use Rattle.std.proofs.lemmas.List.Elements.{All-from_get_or}
use Rattle.std.proofs.lemmas.List.Folds.{list_all-append}
use Rattle.std.proofs.lemmas.List.Sums.{list_all-from_AllPass}
use Rattle.std.proofs.lemmas.Str.Parse.{numerals_by_value, tells_by_index}
use Rattle.ad_value.specs.Literal.{quoted_text, escape_text}
use Rattle.ad_tree.specs.Tree.{Tree}
use Rattle.ad_tree.specs.declared.operator.BinOp.{BinOp}
use Rattle.ad_tree.specs.declared.operator.BinOp.TheVariants as bin
use Rattle.ad_tree.specs.declared.operator.Scope.{Scope}
use Rattle.ad_tree.specs.declared.operator.Scope.TheVariants.{Bare, My, Target}
use Rattle.ad_token.specs.declared.token.Bracket.TheVariants.{Round, Curly}
use Rattle.ad_token.specs.declared.token.Token.{Token}
use Rattle.ad_token.specs.declared.token.Token.TheVariants as token
use Rattle.ad_token.specs.Lexing.{is_blank}
use Rattle.ad_token.specs.Names.{is_name, is_name_byte}
use Rattle.ad_token.specs.Canonical.{operator_text, scope_text, token_text, is_line, is_proper, joined_text, are_apart, ends_at}
use Rattle.ad_parse.specs.Canon.{canon}
use Rattle.ad_parse.proofs.Pieces.{pieces, joined_is_canon}
use Rattle.ad_parse.proofs.Apart.{pieces_apart}
use Rattle.ad_parse.proofs.Proper.{what_is_read_is_proper}
use Rattle.claim_id.specs.Texts.{job_text}
use Rattle.claim_id.proofs.Pieces.{job_text-pieces}
use Rattle.queue_tx.specs.declared.key.Key.{Key}
use Rattle.queue_tx.specs.declared.key.Key.TheVariants.{Header, Proc}
use Rattle.queue_tx.specs.Operations.{Operation, new_ad, destroy_ad, set_attr, delete_attr}
use Rattle.queue_tx.specs.Printable.{IsPrintableKey, IsWord, IsPrintableTree, IsPrintableOp}
use Rattle.queue_record.specs.Keys.{key_text}
use Rattle.queue_record.specs.Texts.{op_line, prints_short, is_long}
use Rattle.queue_record.specs.Entries.{does, entry_at}
use Rattle.queue_record.specs.ReadSoFar.{HasNoNewline}
use Rattle.queue_record.specs.Records.{IsNextWord, both, Record, IsShort, may_end_before}
use Rattle.queue_record.proofs.Newlines.{decimal_line}
use Rattle.queue_record.proofs.RecordLemmas.{record_is_read}

abbrev is_solid : ℕ → Bool
is_solid b = not (is_blank b)

abbrev no_newline : ℕ → Bool
no_newline b = not (b == 10)

parts : (a b : Bool) → (a && b) ≡ true → (a ≡ true) × (b ≡ true)
parts true true h = (refl, refl)
parts true false h = absurd cc
parts false b h = absurd cc

joint : (a b : Bool) → a ≡ true → b ≡ true → (a && b) ≡ true
joint a b p q = ap (λ (t : Bool). t && b) p ∙ q

all_append : (p : ℕ → Bool) (xs ys : List ℕ) → list_all p xs ≡ true → list_all p ys ≡ true → list_all p (xs ++ ys) ≡ true
all_append p xs ys a b = list_all-append p xs ys ∙ joint (list_all p xs) (list_all p ys) a b

all_weaker : (p q : ℕ → Bool) → ((b : ℕ) → p b ≡ true → q b ≡ true) → (xs : List ℕ) → list_all p xs ≡ true → list_all q xs ≡ true
all_weaker p q f [] h = refl
all_weaker p q f (x ∷ xs) h = let a = parts (p x) (list_all p xs) h in joint (q x) (list_all q xs) (f x a.0) (all_weaker p q f xs a.1)

-- ---- keys, words and names have neither blanks nor newlines

digit_solid : (b : ℕ) → IsInRange 48 57 b → is_solid b ≡ true
digit_solid b h = grind (arith, nat_tests)

decimal_solid : (n : ℕ) → n < 2 ^ 64 → list_all is_solid (decimal n) ≡ true
decimal_solid n small =
    list_all-from_AllPass is_solid (decimal n)
    (All-from_get_or (λ b. is_solid b ≡ true) (decimal n) 0
    (λ i inside. digit_solid _ (digits_decimal (numerals_by_value _ tells_by_index) n small i inside)))

key_passes : (p : ℕ → Bool) → p 46 ≡ true → p 48 ≡ true → ((n : ℕ) → n < 2 ^ 64 → list_all p (decimal n) ≡ true) → (key : Key) → IsPrintableKey key → list_all p (key_text key) ≡ true
key_passes p point nought digits Header is = joint (p 48) _ nought (joint (p 46) _ point (joint (p 48) true nought refl))
key_passes p point nought digits (Proc job) is =
    let c = is.cluster_to in
    let r = is.proc_to in
    ap (list_all p) (job_text-pieces job)
    ∙ all_append p (decimal job.cluster) (46 ∷ decimal job.proc) (digits job.cluster (omega arith)) (joint (p 46) _ point (digits job.proc (omega arith)))

key_solid : (key : Key) → IsPrintableKey key → list_all is_solid (key_text key) ≡ true
key_solid key is = key_passes is_solid refl refl decimal_solid key is

key_line : (key : Key) → IsPrintableKey key → HasNoNewline (key_text key)
key_line key is = key_passes no_newline refl refl decimal_line key is

differs : (b c : ℕ) → b ≢ c → (b == c) ≡ false
differs b c other = by (b == c) refl
  where
    by : (t : Bool) → (b == c) ≡ t → (b == c) ≡ false
    by true e = absurd (other (eqb-true b c e))
    by false e = e

solid_byte : (b : ℕ) → b ≢ 32 → b ≢ 9 → is_solid b ≡ true
solid_byte b x y = λ i. not (differs b 32 x i || differs b 9 y i)

line_byte : (b : ℕ) → b ≢ 10 → no_newline b ≡ true
line_byte b x = λ i. not (differs b 10 x i)

word_solid : (word : List ℕ) → IsWord word → list_all is_solid word ≡ true
word_solid [] is = refl
word_solid (b ∷ bs) is = joint (is_solid b) (list_all is_solid bs) (solid_byte b is.0 is.1) (word_solid bs is.3)

word_line : (word : List ℕ) → IsWord word → HasNoNewline word
word_line [] is = refl
word_line (b ∷ bs) is = joint (no_newline b) (list_all no_newline bs) (line_byte b is.2) (word_line bs is.3)

clash : (b : ℕ) → is_name_byte b ≡ true → (c : ℕ) → is_name_byte c ≡ false → b ≢ c
clash b h c other same = let t : true ≡ false = sym h ∙ ap is_name_byte same ∙ other in let none : ⊥ = cc in none

name_bytes : (name : List ℕ) → is_name name ≡ true → list_all is_name_byte name ≡ true
unfolding is_name
name_bytes name h = (parts _ _ (parts _ _ h).1).0

name_solid : (name : List ℕ) → is_name name ≡ true → list_all is_solid name ≡ true
name_solid name h = all_weaker is_name_byte is_solid (λ b n. solid_byte b (clash b n 32 refl) (clash b n 9 refl)) name (name_bytes name h)

name_line : (name : List ℕ) → is_name name ≡ true → HasNoNewline name
name_line name h = all_weaker is_name_byte no_newline (λ b n. line_byte b (clash b n 10 refl)) name (name_bytes name h)

-- ---- a canonical text stands on one line

escaped_line : (s : List ℕ) → list_all no_newline s ≡ true → list_all no_newline (flat_map escape_text s) ≡ true
escaped_line [] h = refl
escaped_line (b ∷ bs) h =
    let a = parts (no_newline b) (list_all no_newline bs) h in
    all_append no_newline (escape_text b) (flat_map escape_text bs) (by ((b == 34) || (b == 92)) a.0) (escaped_line bs a.1)
  where
    by : (t : Bool) → no_newline b ≡ true → list_all no_newline (cond t (92 ∷ b ∷ []) (b ∷ [])) ≡ true
    by true h = joint (no_newline b) true h refl
    by false h = joint (no_newline b) true h refl

string_line : (s : List ℕ) → is_line s ≡ true → list_all no_newline (quoted_text s) ≡ true
unfolding is_line
string_line s h = all_append no_newline (34 ∷ flat_map escape_text s) (34 ∷ []) (escaped_line s h) refl

operator_line : (op : BinOp) → list_all no_newline (operator_text op) ≡ true
operator_line bin.Or = refl
operator_line bin.And = refl
operator_line bin.Equal = refl
operator_line bin.NotEqual = refl
operator_line bin.Same = refl
operator_line bin.NotSame = refl
operator_line bin.Less = refl
operator_line bin.LessEqual = refl
operator_line bin.GreaterEqual = refl
operator_line bin.Greater = refl
operator_line bin.Add = refl
operator_line bin.Subtract = refl
operator_line bin.Multiply = refl
operator_line bin.Divide = refl
operator_line bin.Modulo = refl

scope_line : (s : Scope) → list_all no_newline (scope_text s) ≡ true
scope_line Bare = refl
scope_line My = refl
scope_line Target = refl

token_line : (t : Token) → is_proper t ≡ true → list_all no_newline (token_text t) ≡ true
token_line token.Undefined h = refl
token_line token.Error h = refl
token_line token.True h = refl
token_line token.False h = refl
token_line (token.Int (pos n)) h = let small = ltb-true n (2 ^ 63) h in decimal_line n (omega arith)
token_line (token.Int (negsuc n)) h = absurd cc
token_line (token.Str s) h = string_line s h
token_line (token.Name scope x) h = all_append no_newline (scope_text scope) x (scope_line scope) (name_line x h)
token_line (token.Op op) h = operator_line op
token_line token.Not h = refl
token_line token.Question h = refl
token_line token.Colon h = refl
token_line token.OrElse h = refl
token_line (token.Open Round) h = refl
token_line (token.Open Curly) h = refl
token_line (token.Close Round) h = refl
token_line (token.Close Curly) h = refl
token_line token.Comma h = refl
token_line token.Real h = refl
token_line token.Range h = refl
token_line token.Bad h = refl

joined_line : (ps : List (Option Token)) → are_apart ps ≡ true → list_all no_newline (joined_text ps) ≡ true
joined_line [] h = refl
joined_line (None ∷ ps) h = joined_line ps h
joined_line (Some t ∷ ps) h =
    let a = parts (is_proper t) (ends_at t (joined_text ps) && are_apart ps) h in
    let b = parts (ends_at t (joined_text ps)) (are_apart ps) a.1 in
    all_append no_newline (token_text t) (joined_text ps) (token_line t a.0) (joined_line ps b.1)

canon_line : (e : Tree) → IsPrintableTree e → HasNoNewline (canon e)
canon_line e is =
    let proper = what_is_read_is_proper (canon e) e is in
    subst (λ t. list_all no_newline t ≡ true) (joined_is_canon e proper) (joined_line (pieces e []) (pieces_apart e proper))

-- ---- the line of an operation

spaced : List ℕ → List ℕ → List ℕ
spaced word after = 32 ∷ (word ++ after)

next : (word after : List ℕ) → list_all is_solid word ≡ true → may_end_before after ≡ true → IsNextWord (32 ∷ (word ++ after)) word after
next word after solid ended = record { blank = 32; rest = word ++ after; parts = refl; divides = refl; word_is = record { parts = refl; solid = solid; ended = ended } }

last : (word : List ℕ) → list_all is_solid word ≡ true → IsNextWord (32 ∷ word) word []
last word solid = record { blank = 32; rest = word; parts = refl; divides = refl; word_is = record { parts = sym (append-nil word); solid = solid; ended = refl } }

record IsLineOf (line : List ℕ) (o : Operation) : Type 0 where
  one : HasNoNewline line
  says : IsUtf8 line → Record line (does o)

line_is : (line line' : List ℕ) (o : Operation) → line ≡ line' → IsLineOf line' o → IsLineOf line o
line_is line line' o same is = subst (λ l. IsLineOf l o) (sym same) is

short_tree : (a b : Bool) → (not a || b) ≡ false → a ≡ true
short_tree true b h = refl
short_tree false b h = absurd cc

op_line_is : (o : Operation) → IsPrintableOp o → is_long o ≡ false → IsLineOf (op_line o) o
op_line_is (new_ad key kind other) is short =
    let k = key_text key in
    let after = 32 ∷ (k ++ (32 ∷ (kind ++ (32 ∷ other)))) in
    line_is _ (codes "101" ++ after) _
    (append_assoc (codes "101 " ++ k) (32 ∷ kind) (32 ∷ other) ∙ append_assoc (codes "101 ") k (32 ∷ (kind ++ (32 ∷ other))))
    (record {
      one = all_append no_newline k (32 ∷ (kind ++ (32 ∷ other))) (key_line key is.0) (all_append no_newline kind (32 ∷ other) (word_line kind is.1) (word_line other is.2));
      says = λ utf8. record {
        is_text = utf8;
        after = after;
        code = record { parts = refl; solid = refl; ended = refl };
        says = (kind ∷ other ∷ [], ((k, ((is.0, refl), ([], ((32 ∷ (kind ++ (32 ∷ other)), (next k _ (key_solid key is.0) refl, (32 ∷ other, (next kind _ (word_solid kind is.1) refl, ([], (last other (word_solid other is.2), refl)))))), refl)))), both));
      };
    })
op_line_is (destroy_ad key) is short =
    let k = key_text key in
    record {
      one = key_line key is;
      says = λ utf8. record {
        is_text = utf8;
        after = 32 ∷ k;
        code = record { parts = refl; solid = refl; ended = refl };
        says = (k, ((is, refl), ([], (([], (last k (key_solid key is), refl)), refl))));
      };
    }
op_line_is (set_attr key name e) is short =
    let k = key_text key in
    let after = 32 ∷ (k ++ (32 ∷ (name ++ (32 ∷ canon e)))) in
    let fits : length (canon e) ≤ 8192 = leb-true (length (canon e)) 8192 (short_tree (prints_short (set_attr key name e)) _ short) in
    line_is _ (codes "103" ++ after) _
    (append_assoc (codes "103 " ++ k) (32 ∷ name) (32 ∷ canon e) ∙ append_assoc (codes "103 ") k (32 ∷ (name ++ (32 ∷ canon e))))
    (record {
      one = all_append no_newline k (32 ∷ (name ++ (32 ∷ canon e))) (key_line key is.0) (all_append no_newline name (32 ∷ canon e) (name_line name is.1) (canon_line e is.2));
      says = λ utf8. record {
        is_text = utf8;
        after = after;
        code = record { parts = refl; solid = refl; ended = refl };
        says = record {
          word = k;
          after = 32 ∷ canon e;
          blank = 32;
          blanks = [];
          expression = canon e;
          key_is = (is.0, refl);
          words = (32 ∷ (name ++ (32 ∷ canon e)), (next k _ (key_solid key is.0) refl, (32 ∷ canon e, (next name _ (name_solid name is.1) refl, refl))));
          name_fits = is.1;
          parts = refl;
          divides = refl;
          are_blanks = refl;
          says = record { short = fits; spelled = is.2; prints_short = fits };
        };
      };
    })
op_line_is (delete_attr key name) is short =
    let k = key_text key in
    let after = 32 ∷ (k ++ (32 ∷ name)) in
    line_is _ (codes "104" ++ after) _
    (append_assoc (codes "104 ") k (32 ∷ name))
    (record {
      one = all_append no_newline k (32 ∷ name) (key_line key is.0) (name_line name is.1);
      says = λ utf8. record {
        is_text = utf8;
        after = after;
        code = record { parts = refl; solid = refl; ended = refl };
        says = ((k, ((is.0, refl), ([], ((32 ∷ name, (next k _ (key_solid key is.0) refl, ([], (last name (name_solid name is.1), refl)))), refl)))), is.1);
      };
    })

pub printed_line : (o : Operation) → IsPrintableOp o → is_long o ≡ false → HasNoNewline (op_line o)
printed_line o is short = (op_line_is o is short).one

pub printed_record : (o : Operation) → IsPrintableOp o → is_long o ≡ false → IsUtf8 (op_line o) → Record (op_line o) (does o)
printed_record o is short utf8 = (op_line_is o is short).says utf8

long_line : (a b : Bool) → (not a || b) ≡ false → b ≡ false
long_line true b h = h
long_line false b h = absurd cc

pub printed_short : (o : Operation) → is_long o ≡ false → IsShort (op_line o)
printed_short o short = ltb-false 16384 (length (op_line o)) (long_line (prints_short o) _ short)

pub printed_entry : (o : Operation) → IsPrintableOp o → is_long o ≡ false → IsUtf8 (op_line o) → entry_at (op_line o) ≡ Some (does o)
printed_entry o is short utf8 = record_is_read (op_line o) (does o) (printed_record o is short utf8)
