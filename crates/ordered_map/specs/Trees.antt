-- The entries of a tree, from left to right.
use Rattle.std.specs.Prelude.{◌≡◌, Bool, true, not, List, [], ◌∷◌, ◌++◌}
use Rattle.std.specs.Ordering.{is_lt, is_gt}
use Rattle.std.specs.declared.cmp.Ordering.{Ordering}
use Rattle.std.specs.declared.ops.Bound.{Bound}
use Rattle.std.specs.declared.ops.Bound.TheVariants.{Included, Excluded, Unbounded}
use denote.Ref.{Bor}
use Rattle.ordered_map.specs.declared.tree.Fork.{Fork}
use Rattle.ordered_map.specs.declared.tree.Top.{Top}
use Rattle.ordered_map.specs.declared.tree.Top.TheVariants.{Empty, Node}

abbrev pub entries_in : {K V : Type 0} → Fork K V → List (K × V)
entries_in f = f.left ++ (f.key, f.value) ∷ f.right

abbrev pub entries_of : {K V : Type 0} → Top K V → List (K × V)
entries_of Empty = []
entries_of (Node n) = entries_in n.value

-- a node with nothing on its sides
abbrev pub IsLone : {K V : Type 0} → Fork K V → Type 0
IsLone f = (f.left ≡ []) × (f.right ≡ [])

-- a key is past a bound
abbrev pub is_past : {K : Type 0} → (K → K → Ordering) → Bound (Bor K) → K → Bool
is_past cmp (Included least) k = not (is_gt (cmp least.now k))
is_past cmp (Excluded below) k = is_lt (cmp below.now k)
is_past cmp Unbounded k = true
