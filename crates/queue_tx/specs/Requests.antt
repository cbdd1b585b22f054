-- When two jobs make the same request: where they agree in all that a machine is asked for.
use Rattle.std.specs.Prelude.{◌≡◌, ℕ, true, not, Bool, List, Option, Some, None, IsSomeAnd}
use Rattle.std.specs.List.{list_any}
use Rattle.ad_value.specs.Names.{same_name}
use Rattle.ad_value.specs.Groups.{names_beside_request}
use Rattle.ad_tree.specs.Tree.{Tree}
use Rattle.ad_tree.specs.Ad.{Attributes, lookup}
use Rattle.queue_tx.specs.declared.key.Key.{Key}
use Rattle.queue_tx.specs.declared.kind.JobKind.TheVariants.{Idle}
use Rattle.queue_tx.specs.Jobs.{IsJobOf}
use Rattle.queue_tx.specs.Queues.{KeyedAds, ad_at}

-- a name in which jobs that make the same request agree
abbrev pub is_asked : List ℕ → Bool
is_asked name = not (list_any (same_name name) names_beside_request)

-- each such attribute has one expression in both, or is in neither: spelling and order don't count
abbrev pub SameRequest : Attributes → Attributes → Type 0
SameRequest a b = (name : List ℕ) → is_asked name ≡ true → lookup name a ≡ lookup name b

-- what one has of such attributes the other has too
abbrev pub AsksWithin : Attributes → Attributes → Type 0
AsksWithin a b = (name : List ℕ) (e : Tree)
    → is_asked name ≡ true → lookup name a ≡ Some e → lookup name b ≡ Some e

-- of one attribute
abbrev pub AgreesAt : Attributes → Option (List ℕ × Tree) → Type 0
AgreesAt b None = Unit {0}
AgreesAt b (Some a) = is_asked a.0 ≡ true → lookup a.0 b ≡ Some a.1

-- an idle job whose ad makes the same request
abbrev pub IsIdleAsking : Attributes → KeyedAds → Key → Type 0
IsIdleAsking ad q key =
    IsJobOf Idle q key × IsSomeAnd (ad_at key q) (λ other. SameRequest ad other)
