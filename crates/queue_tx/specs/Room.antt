-- How many attributes an ad of the queue may have: there is always room for what the pool sets
-- later.
use Rattle.std.specs.Prelude.{ℕ, ◌&&◌, ◌||◌, not, nat_le, Bool, List, [], ◌∷◌, count_by, slice_get, is_some, if◌then◌else◌}
use Rattle.std.specs.Option.{option_map_or}
use Rattle.std.specs.List.{list_any}
use Rattle.ad_value.specs.Names.{same_name}
use Rattle.ad_value.specs.Groups.{pool_names}
use Rattle.ad_tree.specs.Tree.{Tree}
use Rattle.ad_tree.specs.Ad.{Attributes, lookup}
use Rattle.ad_parse.specs.AdText.{is_full_for}
use Rattle.queue_tx.specs.declared.key.Key.{Key}
use Rattle.queue_tx.specs.declared.key.Key.TheVariants.{Header, Proc}
use Rattle.queue_tx.specs.declared.names.TheConstants.{NEXT_CLUSTER_NUM, NEXT_RUN_NUM, MOVING, MAX_OWN_OF_PROC, MAX_OWN_OF_HEADER}

-- what the header's ad is there for
abbrev pub header_names : List (List ℕ)
header_names = NEXT_CLUSTER_NUM.now ∷ NEXT_RUN_NUM.now ∷ MOVING.now ∷ []

-- what the pool itself sets in the ad under a key
abbrev pub kept_names : Key → List (List ℕ)
kept_names Header = header_names
kept_names (Proc job) = pool_names

-- how many other attributes there may be
abbrev pub most_own : Key → ℕ
most_own Header = MAX_OWN_OF_HEADER
most_own (Proc job) = MAX_OWN_OF_PROC

abbrev pub is_kept_name : Key → List ℕ → Bool
is_kept_name key name = list_any (same_name name) (kept_names key)

-- one of the others
abbrev pub is_own : Key → List ℕ × Tree → Bool
is_own key a = not (is_kept_name key a.0)

-- how many others there are
abbrev pub own_count : Key → Attributes → ℕ
own_count key ad = count_by (is_own key) ad

abbrev pub own_at : Key → Attributes → ℕ → ℕ
own_at key ad place =
    option_map_or (λ a. if is_own key a then 1 else 0) (slice_get ad place) 0

-- a new name that is none of those would be one too many of the others
abbrev pub is_full_of_own : Key → List ℕ → Attributes → Bool
is_full_of_own key name ad =
    not (is_some (lookup name ad))
    && (not (is_kept_name key name) && nat_le (most_own key) (own_count key ad))

-- the name would be one too many
abbrev pub lacks_room : Key → List ℕ → Attributes → Bool
lacks_room key name ad = is_full_for name ad || is_full_of_own key name ad
