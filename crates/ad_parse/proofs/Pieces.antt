-- The tokens and blanks of a tree's canonical text: joined they are its canonical text, and without blanks its spelling.
use Rattle.std.proofs.Common.{◌≡◌, ℕ, pos, negsuc, ◌-◌, List, [], ◌∷◌, ◌++◌, Bool, true, false, cond, Option, Some, None, codes, refl, sym, ap, ◌∙◌, append_assoc}
use Rattle.std.specs.Prelude.{nat_le}
use Rattle.std.proofs.lemmas.List.{append-nil}
use Rattle.ad_value.specs.Content.{Content, undefined, error, truth, integer, text}
use Rattle.ad_value.specs.Content as content
use Rattle.ad_value.specs.Literal as value
use Rattle.ad_tree.specs.declared.operator.Scope.{Scope}
use Rattle.ad_tree.specs.declared.operator.Scope.TheVariants.{Bare, My, Target}
use Rattle.ad_tree.specs.declared.operator.UnOp.{UnOp}
use Rattle.ad_tree.specs.declared.operator.UnOp.TheVariants as un
use Rattle.ad_tree.specs.declared.operator.BinOp.{BinOp}
use Rattle.ad_tree.specs.Tree.{Tree, literal, reference, unary, chain, choice, or_else, call, items, Rests, no_rests, and_rest, Trees, no_trees, and_tree}
use Rattle.ad_token.specs.declared.token.Bracket.{Bracket}
use Rattle.ad_token.specs.declared.token.Bracket.TheVariants.{Round, Curly}
use Rattle.ad_token.specs.declared.token.Token.{Token}
use Rattle.ad_token.specs.declared.token.Token.TheVariants as token
use Rattle.ad_token.specs.Names.{is_name}
use Rattle.ad_token.specs.Canonical.{operator_text, scope_text, token_text, is_proper, joined_text, joined_tokens}
use Rattle.ad_parse.specs.Operators.{level_of}
use Rattle.ad_parse.specs.Canon.{prefix_text, infix_text, rests_level, looseness, canon_within, canon, canon_rests, canon_items, canon_more}
use Rattle.ad_parse.specs.Spelling.{literal_token, prefix_token, spell_within, spell, spell_rests, spell_items, spell_more}

-- a token, or a blank
abbrev pub Pieces : Type 0
Pieces = List (Option Token)

-- ---- what stands before other pieces

-- an operand, in brackets where b is false
abbrev pub enclose : Bool → (Pieces → Pieces) → Pieces → Pieces
enclose b inner ps = cond b (inner ps) (Some (token.Open Round) ∷ inner (Some (token.Close Round) ∷ ps))

abbrev mutual
  pub pieces : Tree → Pieces → Pieces
  pieces (literal c) ps = Some (literal_token c) ∷ ps
  pieces (reference s x) ps = Some (token.Name s x) ∷ ps
  pieces (unary op e) ps = Some (prefix_token op) ∷ enclose (nat_le (looseness e) 0) (pieces e) ps
  pieces (chain e rs) ps = enclose (nat_le (looseness e) (rests_level rs - 1)) (pieces e) (rest_pieces rs ps)
  pieces (choice t y n) ps = enclose (nat_le (looseness t) 6) (pieces t) (None ∷ Some token.Question ∷ None ∷ pieces y (None ∷ Some token.Colon ∷ None ∷ pieces n ps))
  pieces (or_else e f) ps = enclose (nat_le (looseness e) 6) (pieces e) (None ∷ Some token.OrElse ∷ None ∷ pieces f ps)
  pieces (call x es) ps = Some (token.Name Bare x) ∷ Some (token.Open Round) ∷ item_pieces Round es ps
  pieces (items es) ps = Some (token.Open Curly) ∷ item_pieces Curly es ps

  -- the operators of a chain and their operands
  pub rest_pieces : Rests → Pieces → Pieces
  rest_pieces no_rests ps = ps
  rest_pieces (and_rest op e rs) ps = None ∷ Some (token.Op op) ∷ None ∷ enclose (nat_le (looseness e) (level_of op - 1)) (pieces e) (rest_pieces rs ps)

  -- items and the closing bracket
  pub item_pieces : Bracket → Trees → Pieces → Pieces
  item_pieces b no_trees ps = Some (token.Close b) ∷ ps
  item_pieces b (and_tree e es) ps = pieces e (more_pieces b es ps)

  pub more_pieces : Bracket → Trees → Pieces → Pieces
  more_pieces b no_trees ps = Some (token.Close b) ∷ ps
  more_pieces b (and_tree e es) ps = Some token.Comma ∷ None ∷ pieces e (more_pieces b es ps)

-- ---- trees whose names and literals can be read

abbrev mutual
  pub Proper : Tree → Type 0
  Proper (literal c) = is_proper (literal_token c) ≡ true
  Proper (reference s x) = is_name x ≡ true
  Proper (unary op e) = Proper e
  Proper (chain e rs) = Proper e × ProperRests rs
  Proper (choice t y n) = Proper t × Proper y × Proper n
  Proper (or_else e f) = Proper e × Proper f
  Proper (call x es) = (is_name x ≡ true) × ProperTrees es
  Proper (items es) = ProperTrees es

  pub ProperRests : Rests → Type 0
  ProperRests no_rests = Unit {0}
  ProperRests (and_rest op e rs) = Proper e × ProperRests rs

  pub ProperTrees : Trees → Type 0
  ProperTrees no_trees = Unit {0}
  ProperTrees (and_tree e es) = Proper e × ProperTrees es

-- ---- joined they are the canonical text

literal_same : (c : Content) → is_proper (literal_token c) ≡ true → token_text (literal_token c) ≡ value.literal_text c
literal_same undefined h = refl
literal_same error h = refl
literal_same (truth true) h = refl
literal_same (truth false) h = refl
literal_same (integer (pos n)) h = refl
literal_same (integer (negsuc n)) h = cc
literal_same (text s) h = refl
literal_same (content.items cs) h = cc

name_same : (s : Scope) (x : List ℕ) → token_text (token.Name s x) ≡ scope_text s ++ x
name_same Bare x = refl
name_same My x = refl
name_same Target x = refl

prefix_same : (op : UnOp) → token_text (prefix_token op) ≡ prefix_text op
prefix_same un.Minus = refl
prefix_same un.Plus = refl
prefix_same un.Not = refl

infix_same : (op : BinOp) (bs : List ℕ) → 32 ∷ (operator_text op ++ 32 ∷ bs) ≡ infix_text op ++ bs
infix_same op bs = ap (λ l. 32 ∷ l) (sym (append_assoc (operator_text op) (32 ∷ []) bs))

enclosed_text : (b : Bool) (inner : Pieces → Pieces) (bs : List ℕ) → ((ps : Pieces) → joined_text (inner ps) ≡ bs ++ joined_text ps)
    → (ps : Pieces) → joined_text (enclose b inner ps) ≡ cond b bs (codes "(" ++ bs ++ codes ")") ++ joined_text ps
enclosed_text true inner bs h ps = h ps
enclosed_text false inner bs h ps = ap (λ l. 40 ∷ l) (h (Some (token.Close Round) ∷ ps) ∙ sym (append_assoc bs (41 ∷ []) (joined_text ps)))

mutual
  text_of : (e : Tree) → Proper e → (ps : Pieces) → joined_text (pieces e ps) ≡ canon e ++ joined_text ps
  text_of (literal c) h ps = ap (λ l. l ++ joined_text ps) (literal_same c h)
  text_of (reference s x) h ps = ap (λ l. l ++ joined_text ps) (name_same s x)
  text_of (unary op e) h ps =
      ap (λ l. token_text (prefix_token op) ++ l) (enclosed_text (nat_le (looseness e) 0) (pieces e) (canon e) (text_of e h) ps)
      ∙ ap (λ l. l ++ (canon_within 0 (looseness e) (canon e) ++ joined_text ps)) (prefix_same op)
      ∙ sym (append_assoc (prefix_text op) (canon_within 0 (looseness e) (canon e)) (joined_text ps))
  text_of (chain e rs) h ps =
      let first = canon_within (rests_level rs - 1) (looseness e) (canon e) in
      enclosed_text (nat_le (looseness e) (rests_level rs - 1)) (pieces e) (canon e) (text_of e h.0) (rest_pieces rs ps)
      ∙ ap (λ l. first ++ l) (text_of_rests rs h.1 ps)
      ∙ sym (append_assoc first (canon_rests rs) (joined_text ps))
  text_of (choice t y n) h ps =
      let first = canon_within 6 (looseness t) (canon t) in
      let last = canon n ++ joined_text ps in
      enclosed_text (nat_le (looseness t) 6) (pieces t) (canon t) (text_of t h.0) (None ∷ Some token.Question ∷ None ∷ pieces y (None ∷ Some token.Colon ∷ None ∷ pieces n ps))
      ∙ ap (λ l. first ++ (codes " ? " ++ l)) (text_of y h.1 (None ∷ Some token.Colon ∷ None ∷ pieces n ps) ∙ ap (λ l. canon y ++ (codes " : " ++ l)) (text_of n h.2 ps))
      ∙ sym (append_assoc first (codes " ? ") (canon y ++ (codes " : " ++ last)))
      ∙ sym (append_assoc (first ++ codes " ? ") (canon y) (codes " : " ++ last))
      ∙ sym (append_assoc (first ++ codes " ? " ++ canon y) (codes " : ") last)
      ∙ sym (append_assoc (first ++ codes " ? " ++ canon y ++ codes " : ") (canon n) (joined_text ps))
  text_of (or_else e f) h ps =
      let first = canon_within 6 (looseness e) (canon e) in
      enclosed_text (nat_le (looseness e) 6) (pieces e) (canon e) (text_of e h.0) (None ∷ Some token.OrElse ∷ None ∷ pieces f ps)
      ∙ ap (λ l. first ++ (codes " ?: " ++ l)) (text_of f h.1 ps)
      ∙ sym (append_assoc first (codes " ?: ") (canon f ++ joined_text ps))
      ∙ sym (append_assoc (first ++ codes " ?: ") (canon f) (joined_text ps))
  text_of (call x es) h ps =
      ap (λ l. x ++ (codes "(" ++ l)) (text_of_items Round es h.1 ps)
      ∙ sym (append_assoc x (codes "(") (canon_items es ++ (codes ")" ++ joined_text ps)))
      ∙ sym (append_assoc (x ++ codes "(") (canon_items es) (codes ")" ++ joined_text ps))
      ∙ sym (append_assoc (x ++ codes "(" ++ canon_items es) (codes ")") (joined_text ps))
  text_of (items es) h ps =
      ap (λ l. codes "{" ++ l) (text_of_items Curly es h ps)
      ∙ sym (append_assoc (codes "{" ++ canon_items es) (codes "}") (joined_text ps))

  text_of_rests : (rs : Rests) → ProperRests rs → (ps : Pieces) → joined_text (rest_pieces rs ps) ≡ canon_rests rs ++ joined_text ps
  text_of_rests no_rests h ps = refl
  text_of_rests (and_rest op e rs) h ps =
      let arg = canon_within (level_of op - 1) (looseness e) (canon e) in
      ap (λ l. 32 ∷ (operator_text op ++ 32 ∷ l)) (enclosed_text (nat_le (looseness e) (level_of op - 1)) (pieces e) (canon e) (text_of e h.0) (rest_pieces rs ps) ∙ ap (λ l. arg ++ l) (text_of_rests rs h.1 ps))
      ∙ infix_same op (arg ++ (canon_rests rs ++ joined_text ps))
      ∙ sym (append_assoc (infix_text op) arg (canon_rests rs ++ joined_text ps))
      ∙ sym (append_assoc (infix_text op ++ arg) (canon_rests rs) (joined_text ps))

  text_of_items : (b : Bracket) (es : Trees) → ProperTrees es → (ps : Pieces) → joined_text (item_pieces b es ps) ≡ canon_items es ++ (token_text (token.Close b) ++ joined_text ps)
  text_of_items b no_trees h ps = refl
  text_of_items b (and_tree e es) h ps =
      text_of e h.0 (more_pieces b es ps)
      ∙ ap (λ l. canon e ++ l) (text_of_more b es h.1 ps)
      ∙ sym (append_assoc (canon e) (canon_more es) (token_text (token.Close b) ++ joined_text ps))

  text_of_more : (b : Bracket) (es : Trees) → ProperTrees es → (ps : Pieces) → joined_text (more_pieces b es ps) ≡ canon_more es ++ (token_text (token.Close b) ++ joined_text ps)
  text_of_more b no_trees h ps = refl
  text_of_more b (and_tree e es) h ps =
      ap (λ l. codes ", " ++ l) (text_of e h.0 (more_pieces b es ps) ∙ ap (λ l. canon e ++ l) (text_of_more b es h.1 ps))
      ∙ sym (append_assoc (codes ", " ++ canon e) (canon_more es) (token_text (token.Close b) ++ joined_text ps))

pub joined_is_canon : (e : Tree) → Proper e → joined_text (pieces e []) ≡ canon e
joined_is_canon e h = text_of e h [] ∙ append-nil (canon e)

-- ---- without blanks they are the spelling

enclosed_tokens : (b : Bool) (inner : Pieces → Pieces) (ts : List Token) → ((ps : Pieces) → joined_tokens (inner ps) ≡ ts ++ joined_tokens ps)
    → (ps : Pieces) → joined_tokens (enclose b inner ps) ≡ cond b ts (token.Open Round ∷ (ts ++ token.Close Round ∷ [])) ++ joined_tokens ps
enclosed_tokens true inner ts h ps = h ps
enclosed_tokens false inner ts h ps = ap (λ l. token.Open Round ∷ l) (h (Some (token.Close Round) ∷ ps) ∙ sym (append_assoc ts (token.Close Round ∷ []) (joined_tokens ps)))

mutual
  tokens_of : (e : Tree) (ps : Pieces) → joined_tokens (pieces e ps) ≡ spell e ++ joined_tokens ps
  tokens_of (literal c) ps = refl
  tokens_of (reference s x) ps = refl
  tokens_of (unary op e) ps = ap (λ l. prefix_token op ∷ l) (enclosed_tokens (nat_le (looseness e) 0) (pieces e) (spell e) (tokens_of e) ps)
  tokens_of (chain e rs) ps =
      let first = spell_within (rests_level rs - 1) (looseness e) (spell e) in
      enclosed_tokens (nat_le (looseness e) (rests_level rs - 1)) (pieces e) (spell e) (tokens_of e) (rest_pieces rs ps)
      ∙ ap (λ l. first ++ l) (tokens_of_rests rs ps)
      ∙ sym (append_assoc first (spell_rests rs) (joined_tokens ps))
  tokens_of (choice t y n) ps =
      let first = spell_within 6 (looseness t) (spell t) in
      enclosed_tokens (nat_le (looseness t) 6) (pieces t) (spell t) (tokens_of t) (None ∷ Some token.Question ∷ None ∷ pieces y (None ∷ Some token.Colon ∷ None ∷ pieces n ps))
      ∙ ap (λ l. first ++ (token.Question ∷ l))
      (tokens_of y (None ∷ Some token.Colon ∷ None ∷ pieces n ps) ∙ ap (λ l. spell y ++ (token.Colon ∷ l)) (tokens_of n ps) ∙ sym (append_assoc (spell y) (token.Colon ∷ spell n) (joined_tokens ps)))
      ∙ sym (append_assoc first (token.Question ∷ (spell y ++ (token.Colon ∷ spell n))) (joined_tokens ps))
  tokens_of (or_else e f) ps =
      let first = spell_within 6 (looseness e) (spell e) in
      enclosed_tokens (nat_le (looseness e) 6) (pieces e) (spell e) (tokens_of e) (None ∷ Some token.OrElse ∷ None ∷ pieces f ps)
      ∙ ap (λ l. first ++ (token.OrElse ∷ l)) (tokens_of f ps)
      ∙ sym (append_assoc first (token.OrElse ∷ spell f) (joined_tokens ps))
  tokens_of (call x es) ps = ap (λ l. token.Name Bare x ∷ token.Open Round ∷ l) (tokens_of_items Round es ps)
  tokens_of (items es) ps = ap (λ l. token.Open Curly ∷ l) (tokens_of_items Curly es ps)

  tokens_of_rests : (rs : Rests) (ps : Pieces) → joined_tokens (rest_pieces rs ps) ≡ spell_rests rs ++ joined_tokens ps
  tokens_of_rests no_rests ps = refl
  tokens_of_rests (and_rest op e rs) ps =
      let arg = spell_within (level_of op - 1) (looseness e) (spell e) in
      ap (λ l. token.Op op ∷ l)
      (enclosed_tokens (nat_le (looseness e) (level_of op - 1)) (pieces e) (spell e) (tokens_of e) (rest_pieces rs ps)
      ∙ ap (λ l. arg ++ l) (tokens_of_rests rs ps)
      ∙ sym (append_assoc arg (spell_rests rs) (joined_tokens ps)))

  tokens_of_items : (b : Bracket) (es : Trees) (ps : Pieces) → joined_tokens (item_pieces b es ps) ≡ spell_items b es ++ joined_tokens ps
  tokens_of_items b no_trees ps = refl
  tokens_of_items b (and_tree e es) ps =
      tokens_of e (more_pieces b es ps) ∙ ap (λ l. spell e ++ l) (tokens_of_more b es ps) ∙ sym (append_assoc (spell e) (spell_more b es) (joined_tokens ps))

  tokens_of_more : (b : Bracket) (es : Trees) (ps : Pieces) → joined_tokens (more_pieces b es ps) ≡ spell_more b es ++ joined_tokens ps
  tokens_of_more b no_trees ps = refl
  tokens_of_more b (and_tree e es) ps =
      ap (λ l. token.Comma ∷ l) (tokens_of e (more_pieces b es ps) ∙ ap (λ l. spell e ++ l) (tokens_of_more b es ps) ∙ sym (append_assoc (spell e) (spell_more b es) (joined_tokens ps)))

pub joined_is_spelling : (e : Tree) → joined_tokens (pieces e []) ≡ spell e
joined_is_spelling e = tokens_of e [] ∙ append-nil (spell e)
