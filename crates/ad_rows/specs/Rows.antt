-- Ads as tables: names of attributes, and what each is set to.
use Rattle.std.specs.Prelude.{ℕ, pos, List, [], ◌∷◌}
use Rattle.std.specs.Borrow.{Bor}
use Rattle.ad_value.specs.Content.{truth, integer, text}
use Rattle.ad_tree.specs.declared.operator.Scope.TheVariants.{Bare}
use Rattle.ad_tree.specs.Ad.{Attributes, with_attribute}
use Rattle.ad_tree.specs.Tree.{Tree, tree, literal, reference}
use Rattle.ad_rows.specs.declared.rows.Given.{Given}
use Rattle.ad_rows.specs.declared.rows.Given.TheVariants.{Integer, Text, Truth, Name, Expression, Enough}
use Rattle.ad_rows.specs.Requests.{enough}

abbrev pub integer_literal : ℕ → Tree
integer_literal n = literal (integer (pos n))

abbrev pub text_literal : List ℕ → Tree
text_literal bytes = literal (text bytes)

-- the expression that a row gives
abbrev pub given_tree : Given → Tree
given_tree (Integer n) = integer_literal n
given_tree (Text bytes) = text_literal bytes.now
given_tree (Truth b) = literal (truth b)
given_tree (Name name) = reference Bare name.now
given_tree (Expression e) = tree e.now
given_tree Enough = enough

-- the ad with the rows of a table set, one after the other
abbrev pub with_rows : List (Bor (List ℕ) × Given) → Attributes → Attributes
with_rows [] ad = ad
with_rows (r ∷ rs) ad = with_rows rs (with_attribute r.0.now (given_tree r.1) ad)
