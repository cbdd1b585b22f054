-- The jobs of a queue by their kinds.
use Rattle.std.specs.Prelude.{◌≡◌, true, false, Option, Some, None, MatchOption}
use Rattle.std.specs.declared.ops.Bound.{Bound}
use denote.Ref.{Bor}
use Rattle.std.specs.Ordering.{is_gt}
use Rattle.ordered_map.specs.Trees.{is_past}
use Rattle.ad_tree.specs.Ad.{Attributes}
use Rattle.queue_tx.specs.declared.key.Key.{Key}
use Rattle.queue_tx.specs.declared.key.Key.TheVariants.{Header, Proc}
use Rattle.queue_tx.specs.declared.kind.JobKind.{JobKind}
use Rattle.queue_tx.specs.Keys.{key_cmp}
use Rattle.queue_tx.specs.Kinds.{kind_of}
use Rattle.queue_tx.specs.Queues.{KeyedAds, ad_at}

-- what stands under a key is a job of that kind, by its ad; the header is no job
abbrev pub kind_under : Key → Option Attributes → Option JobKind
kind_under Header ad = None
kind_under (Proc job) None = None
kind_under (Proc job) (Some ad) = kind_of ad

abbrev pub kind_at : Key → KeyedAds → Option JobKind
kind_at key q = kind_under key (ad_at key q)

-- a job of that kind stands under a key
abbrev pub IsJobOf : JobKind → KeyedAds → Key → Type 0
IsJobOf kind q key = kind_at key q ≡ Some kind

-- a key that is meant and past the bound, before which no other is
pub record IsFirstKey (IsMeant : Key → Type 0) (start : Bound (Bor Key)) (key : Key) : Type 0 where
  pub meant : IsMeant key
  pub past : is_past key_cmp start key ≡ true
  pub first : (other : Key) → IsMeant other → is_past key_cmp start other ≡ true
      → is_gt (key_cmp key other) ≡ false

-- the first key past a bound of those that are meant, or none
abbrev pub FirstKey : (Key → Type 0) → Bound (Bor Key) → Option Key → Type 0
FirstKey IsMeant start found =
    MatchOption found
    ((key : Key) → IsMeant key → is_past key_cmp start key ≡ false)
    (λ key. IsFirstKey IsMeant start key)
