-- Which attributes of a job can influence a match with some slots (HTCondor manual,
-- condor_negotiator, significant attributes and autoclusters). Names are without case.
use Rattle.std.specs.Prelude.{◌≡◌, ◌↔◌, ℕ, Bool, true, false, ◌&&◌, ◌||◌, List, ◌∷◌, filter}
use Rattle.std.specs.List.{list_any}
use Rattle.ad_value.specs.Names.{same_name}
use Rattle.ad_value.specs.declared.names.matching.TheConstants.{REQUIREMENTS, RANK}
use Rattle.ad_tree.specs.Tree.{Tree, Trees, Rests, literal, reference, unary, chain, choice, or_else, call, items, no_trees, and_tree, no_rests, and_rest}
use Rattle.ad_tree.specs.Ad.{Attributes, names}

-- whether an expression refers to a name, by itself or by MY or TARGET
abbrev mutual
  pub refers_to : Tree → List ℕ → Bool
  refers_to (literal c) x = false
  refers_to (reference s y) x = same_name x y
  refers_to (unary op e) x = refers_to e x
  refers_to (chain e rs) x = refers_to e x || rests_refer_to rs x
  refers_to (choice t y n) x = refers_to t x || (refers_to y x || refers_to n x)
  refers_to (or_else e f) x = refers_to e x || refers_to f x
  refers_to (call y es) x = trees_refer_to es x
  refers_to (items es) x = trees_refer_to es x

  pub trees_refer_to : Trees → List ℕ → Bool
  trees_refer_to no_trees x = false
  trees_refer_to (and_tree e es) x = refers_to e x || trees_refer_to es x

  pub rests_refer_to : Rests → List ℕ → Bool
  rests_refer_to no_rests x = false
  rests_refer_to (and_rest op e rs) x = refers_to e x || rests_refer_to rs x

-- whether the expression of a name in an ad refers to another name
abbrev pub leads_to : List ℕ → List ℕ → Attributes → Bool
leads_to x y ad = list_any (λ a. same_name x a.0 && refers_to a.1 y) ad

-- the least set of names without case that holds the first ones and, with a name, each that it
-- leads to
pub data Reach (first : List ℕ → Bool) (leads : List ℕ → List ℕ → Bool)
    : List ℕ → Type 0 where
  begins : (x : List ℕ) → first x ≡ true → Reach first leads x
  goes_on : (x y : List ℕ) → Reach first leads x → leads x y ≡ true → Reach first leads y
  without_case : (x y : List ℕ) → Reach first leads x → same_name x y ≡ true → Reach first leads y

abbrev pub is_first_name : List ℕ → Bool
is_first_name x = same_name x REQUIREMENTS.now || same_name x RANK.now

-- what Requirements and Rank of a job and of slots reach, through all of their expressions
abbrev pub MatchReach : List Attributes → Attributes → List ℕ → Type 0
MatchReach slots job x = Reach is_first_name (λ y z. list_any (leads_to y z) (job ∷ slots)) x

-- the significant attributes of a job: those whose names are reached, in the order of the job
pub record IsSignificantPart (slots : List Attributes) (job part : Attributes) : Type 0 where
  pub chosen : List ℕ → Bool
  pub reached : (x : List ℕ) → (chosen x ≡ true) ↔ MatchReach slots job x
  pub are : part ≡ filter (λ a. chosen a.0) job

-- their names, as the job spells them
pub record Significant (slots : List Attributes) (job : Attributes) (xs : List (List ℕ)) :
    Type 0 where
  pub part : Attributes
  pub of_job : IsSignificantPart slots job part
  pub are : xs ≡ names part
