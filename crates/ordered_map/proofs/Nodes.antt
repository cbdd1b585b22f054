-- A tree whose entries are those of a node, by the order of a key and the node's.
use Rattle.std.proofs.Common.{◌≡◌, ◌<◌, length, arith, length-append, true, false, cond, refl, List, ◌∷◌, ◌++◌, Option, Some, None, ap, sym, ◌∙◌, subst}
use Rattle.std.specs.Prelude.{find}
use Rattle.std.specs.Option.{option_or, option_map}
use Rattle.std.proofs.lemmas.List.Folds.{find-append}
use Rattle.std.specs.declared.cmp.Ordering.{Ordering}
use Rattle.std.specs.declared.cmp.Ordering.TheVariants.{Less, Equal, Greater}
use Rattle.std.specs.declared.ops.Bound.{Bound}
use denote.Ref.{Bor}
use Rattle.std.specs.Cmp.{IsTotalOrder}
use Rattle.std.specs.List.Sorted.{IsStrictlySortedBy}
use Rattle.std.specs.Map.{lookup, remove_entry, keys_of}
use Rattle.std.specs.BTreeMap.{insert_entry, is_at}
use Rattle.ordered_map.specs.declared.tree.Fork.{Fork}
use Rattle.ordered_map.specs.Trees.{entries_in, is_past}
use Rattle.ordered_map.proofs.Splits as split
use Rattle.ordered_map.proofs.Orders as order

module _ {K V : Type 0} (n : Fork K V) (es : List (K × V)) (is : es ≡ entries_in n) where
  pub shorter_left : length n.left < length es
  shorter_left = let e = ap length is in let a = length-append n.left ((n.key, n.value) ∷ n.right) in omega arith

  pub shorter_right : length n.right < length es
  shorter_right = let e = ap length is in let a = length-append n.left ((n.key, n.value) ∷ n.right) in omega arith

module _ {K V : Type 0} {R : K → K → Ordering} (o : IsTotalOrder R) (n : Fork K V) (es : List (K × V)) (is : es ≡ entries_in n) (s : IsStrictlySortedBy R (keys_of es)) where
  abbrev here : K × V
  here = (n.key, n.value)

  sorted : IsStrictlySortedBy R (keys_of (n.left ++ here ∷ n.right))
  sorted = subst (λ (l : List (K × V)). IsStrictlySortedBy R (keys_of l)) is s

  pub sorted_left : IsStrictlySortedBy R (keys_of n.left)
  sorted_left = (split.split_at R n.left here n.right sorted).left

  pub sorted_right : IsStrictlySortedBy R (keys_of n.right)
  sorted_right = (split.split_at R n.left here n.right sorted).right

  pub lookup_left : (q : K) → R q n.key ≡ Less → lookup (is_at (R q)) es ≡ lookup (is_at (R q)) n.left
  lookup_left q h = ap (lookup (is_at (R q))) is ∙ split.lookup_left o n.left here n.right sorted q h

  pub lookup_here : (q : K) → R q n.key ≡ Equal → lookup (is_at (R q)) es ≡ Some n.value
  lookup_here q h = ap (lookup (is_at (R q))) is ∙ split.lookup_here o n.left here n.right sorted q h

  pub lookup_right : (q : K) → R q n.key ≡ Greater → lookup (is_at (R q)) es ≡ lookup (is_at (R q)) n.right
  lookup_right q h = ap (lookup (is_at (R q))) is ∙ split.lookup_right o n.left here n.right sorted q h

  pub insert_left : (q : K) (v : V) → R q n.key ≡ Less → insert_entry R es q v ≡ insert_entry R n.left q v ++ here ∷ n.right
  insert_left q v h = ap (λ l. insert_entry R l q v) is ∙ split.insert_before R q v n.left here n.right h

  pub insert_here : (q : K) (v : V) → R q n.key ≡ Equal → insert_entry R es q v ≡ n.left ++ (n.key, v) ∷ n.right
  insert_here q v h = ap (λ l. insert_entry R l q v) is ∙ split.insert_here o n.left here n.right sorted q v h

  pub insert_right : (q : K) (v : V) → R q n.key ≡ Greater → insert_entry R es q v ≡ n.left ++ here ∷ insert_entry R n.right q v
  insert_right q v h = ap (λ l. insert_entry R l q v) is ∙ split.insert_right o n.left here n.right sorted q v h

  pub remove_left : (q : K) → R q n.key ≡ Less → remove_entry (is_at (R q)) es ≡ remove_entry (is_at (R q)) n.left ++ here ∷ n.right
  remove_left q h = ap (remove_entry (is_at (R q))) is ∙ split.remove_left o n.left here n.right sorted q h

  pub remove_here : (q : K) → R q n.key ≡ Equal → remove_entry (is_at (R q)) es ≡ n.left ++ n.right
  remove_here q h = ap (remove_entry (is_at (R q))) is ∙ split.remove_here o n.left here n.right sorted q h

  pub remove_right : (q : K) → R q n.key ≡ Greater → remove_entry (is_at (R q)) es ≡ n.left ++ here ∷ remove_entry (is_at (R q)) n.right
  remove_right q h = ap (remove_entry (is_at (R q))) is ∙ split.remove_right o n.left here n.right sorted q h

  -- ---- the first entry past a bound

  pub first_right : (start : Bound (Bor K)) → is_past R start n.key ≡ false → find (λ e. is_past R start e.0) es ≡ find (λ e. is_past R start e.0) n.right
  first_right start h = ap (find (λ e. is_past R start e.0)) is ∙ order.first_right o start n.left here n.right sorted h

  pub first_or_here : (start : Bound (Bor K)) → is_past R start n.key ≡ true → find (λ e. is_past R start e.0) es ≡ option_or (find (λ e. is_past R start e.0) n.left) (Some here)
  first_or_here start h =
      ap (find (λ e. is_past R start e.0)) is
      ∙ find-append (λ (e : K × V). is_past R start e.0) n.left (here ∷ n.right)
      ∙ ap (λ c. option_or (find (λ e. is_past R start e.0) n.left) (cond c (Some here) (find (λ e. is_past R start e.0) n.right))) h

pub map_or : {A B : Type 0} (f : A → B) (a b : Option A) → option_map f (option_or a b) ≡ option_or (option_map f a) (option_map f b)
map_or f None b = refl
map_or f (Some x) b = refl

-- what a comparison said of nodes behind their boxes
pub of_node : {K V : Type 0} (R : K → K → Ordering) (q : K) (b b' : Fork K V) (r : Ordering) → b' ≡ b → r ≡ R q b'.key → R q b.key ≡ r
of_node R q b b' r e h = ap (λ (f : Fork _ _). R q f.key) (sym e) ∙ sym h

pub of_nodes : {K V : Type 0} (R : K → K → Ordering) (a a' b b' : Fork K V) (r : Ordering) → a' ≡ a → b' ≡ b → r ≡ R a'.key b'.key → R a.key b.key ≡ r
of_nodes R a a' b b' r d e h = ap (λ (f : Fork _ _). R f.key b.key) (sym d) ∙ of_node R a'.key b b' r e h
