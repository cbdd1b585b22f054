-- That the queue keeps its jobs by kind.
use Rattle.std.proofs.Common.{◌≡◌, Bool, true, false, cond, List, [], Option, Some, None, is_some, refl, ap, sym, ◌∙◌}
use Rattle.std.specs.Prelude.{find}
use Rattle.std.specs.declared.ops.Bound.{Bound}
use denote.Ref.{Bor}
use Rattle.std.specs.List.Sorted.{IsStrictlySortedBy}
use Rattle.std.specs.Map.{lookup, remove_entry, keys_of}
use Rattle.std.specs.BTreeMap.{insert_entry}
use Rattle.ad_tree.specs.Ad.{Attributes}
use Rattle.ordered_map.specs.Trees.{is_past}
use Rattle.ordered_map.proofs.Maps.{lookup-insert_entry, lookup-removed}
use Rattle.ordered_map.proofs.Firsts.{none_found_past, found_is_first}
use Rattle.queue_tx.specs.declared.key.Key.{Key}
use Rattle.queue_tx.specs.declared.key.Key.TheVariants.{Header, Proc}
use Rattle.queue_tx.specs.declared.kept.Here.{Here}
use Rattle.queue_tx.specs.declared.kept.Kinds.{Kinds}
use Rattle.queue_tx.specs.declared.kind.JobKind.{JobKind}
use Rattle.queue_tx.specs.declared.kind.JobKind.TheVariants.{Idle, Held, Under}
use Rattle.queue_tx.specs.Keys.{key_cmp, key_cmp_total, same_key}
use Rattle.queue_tx.specs.Jobs.{kind_under, kind_at, IsJobOf, IsFirstKey}
use Rattle.queue_tx.specs.Kept.{has_key, of_kind, is_kind, SetsKey, AreKinds}
use Rattle.queue_tx.specs.Queues.{KeyedAds, IsQueue, ad_at, with_ad}
use Rattle.queue_tx.proofs.Queues.{found_with}
use Rattle.queue_tx.proofs.Transactions.{same_keys}

-- ---- one key of a set

pub key_set : (k : Key) (v : Here) (es new : List (Key × Here)) → new ≡ insert_entry key_cmp es k v → SetsKey k true es new
key_set k v es new h p =
    ap (has_key p) h ∙ ap is_some (lookup-insert_entry key_cmp_total p k v es) ∙ by (same_key k p)
  where
    by : (b : Bool) → is_some (cond b (Some v) (lookup (same_key p) es)) ≡ cond b true (is_some (lookup (same_key p) es))
    by true = refl
    by false = refl

pub key_cleared : (k : Key) (es new : List (Key × Here)) → IsStrictlySortedBy key_cmp (keys_of es) → new ≡ remove_entry (same_key k) es → SetsKey k false es new
key_cleared k es new s h p =
    ap (has_key p) h ∙ ap is_some (lookup-removed key_cmp_total p k es s) ∙ by (same_key k p)
  where
    by : (b : Bool) → is_some (cond b None (lookup (same_key p) es)) ≡ cond b false (is_some (lookup (same_key p) es))
    by true = refl
    by false = refl

pub by_kinds : (P : JobKind → Type 0) → P Idle → P Held → P Under → (k : JobKind) → P k
by_kinds P idle held under Idle = idle
by_kinds P idle held under Held = held
by_kinds P idle held under Under = under

-- ---- the sets of a queue

no_job : (p : Key) → kind_under p None ≡ None
no_job Header = refl
no_job (Proc job) = refl

not_kind : (k : JobKind) → is_kind k None ≡ false
not_kind Idle = refl
not_kind Held = refl
not_kind Under = refl

pub no_kinds : (kinds : Kinds) (q : KeyedAds) → ((k : JobKind) → of_kind k kinds ≡ []) → q ≡ [] → AreKinds kinds q
no_kinds kinds q none empty k p =
    ap (has_key p) (none k) ∙ sym (ap (is_kind k) (ap (kind_at p) empty ∙ no_job p) ∙ not_kind k)

pub kinds_with : (old new : Kinds) (key : Key) (kind : Option JobKind) (ad : Option Attributes) (q r : KeyedAds) → IsQueue q → AreKinds old q
    → ((k : JobKind) → SetsKey key (is_kind k kind) (of_kind k old) (of_kind k new)) → kind ≡ kind_under key ad → r ≡ with_ad key ad q → AreKinds new r
kinds_with old new key kind ad q r s are sets is changed k p =
    sets k p
    ∙ by (same_key key p) refl
    ∙ ap (λ a. is_kind k (kind_under p a)) (sym (ap (ad_at p) changed ∙ found_with p key ad q s))
  where
    by : (b : Bool) → same_key key p ≡ b → cond b (is_kind k kind) (has_key p (of_kind k old)) ≡ is_kind k (kind_under p (cond b ad (ad_at p q)))
    by true h = ap (is_kind k) (is ∙ ap (λ x. kind_under x ad) (same_keys key p h))
    by false h = are k p

pub kinds_without : (old new : Kinds) (key : Key) (q r : KeyedAds) → IsQueue q → AreKinds old q
    → ((k : JobKind) → SetsKey key false (of_kind k old) (of_kind k new)) → r ≡ with_ad key None q → AreKinds new r
kinds_without old new key q r s are sets changed =
    kinds_with old new key None None q r s are (λ k p. sets k p ∙ ap (λ (b : Bool). cond (same_key key p) b (has_key p (of_kind k old))) (sym (not_kind k))) (sym (no_job key)) changed

-- ---- the first of a kind

pub kind_from : (k : JobKind) (o : Option JobKind) → is_kind k o ≡ true → o ≡ Some k
kind_from Idle (Some Idle) h = refl
kind_from Held (Some Held) h = refl
kind_from Under (Some Under) h = refl
kind_from Idle None h = cc
kind_from Held None h = cc
kind_from Under None h = cc
kind_from Idle (Some Held) h = cc
kind_from Idle (Some Under) h = cc
kind_from Held (Some Idle) h = cc
kind_from Held (Some Under) h = cc
kind_from Under (Some Idle) h = cc
kind_from Under (Some Held) h = cc

pub kind_itself : (k : JobKind) → is_kind k (Some k) ≡ true
kind_itself Idle = refl
kind_itself Held = refl
kind_itself Under = refl

pub first_found : (kinds : Kinds) (q : KeyedAds) (kind : JobKind) (start : Bound (Bor Key)) (es : List (Key × Here)) (f : Key × Here) → AreKinds kinds q → es ≡ of_kind kind kinds
    → IsStrictlySortedBy key_cmp (keys_of es) → Some f ≡ find (λ e. is_past key_cmp start e.0) es → IsFirstKey (IsJobOf kind q) start f.0
first_found kinds q kind start es f are is s h =
    let r = found_is_first key_cmp_total start es f s (sym h) in
    let same = λ (k : Key). ap (has_key k) is ∙ are kind k in
    record {
      meant = kind_from kind (kind_at f.0 q) (sym (same f.0) ∙ ap is_some r.there);
      past = r.past;
      first = λ k p past. r.first k (same k ∙ ap (is_kind kind) p ∙ kind_itself kind) past;
    }

pub none_found : (kinds : Kinds) (q : KeyedAds) (kind : JobKind) (start : Bound (Bor Key)) (es : List (Key × Here)) → AreKinds kinds q → es ≡ of_kind kind kinds
    → None ≡ find (λ e. is_past key_cmp start e.0) es → (k : Key) → IsJobOf kind q k → is_past key_cmp start k ≡ false
none_found kinds q kind start es are is h k p =
    none_found_past key_cmp_total start es k (sym h) (ap (has_key k) is ∙ are kind k ∙ ap (is_kind kind) p ∙ kind_itself kind)
