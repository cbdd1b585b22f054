-- An operation that is done leaves room in the ad under its key, and so do changes in a queue.
use Rattle.std.proofs.Common.{◌≡◌, ℕ, ◌+◌, ◌≤◌, ◌<◌, Bool, true, false, not, ◌||◌, ◌&&◌, cond, List, [], ◌∷◌, length, Option, Some, None, is_some, Result, Ok, Err, IfOk, refl, ap, sym, ◌∙◌, subst, arith}
use Rattle.std.specs.Prelude.{nat_eq, nat_le, IfSome}
use Rattle.std.specs.declared.cmp.Ordering.{Ordering}
use Rattle.std.specs.declared.cmp.Ordering.TheVariants.{Less, Equal, Greater}
use Rattle.std.specs.Ordering.{match_ordering}
use Rattle.std.specs.BTreeMap.{insert_entry}
use Rattle.std.specs.Map.{lookup as entry_of, remove_entry}
use Rattle.std.proofs.lemmas.Bool.{eq-eqb, leb-false}
use Rattle.ad_value.specs.Names.{same_name}
use Rattle.ad_tree.specs.Tree.{Tree}
use Rattle.ad_tree.specs.Ad.{Attributes, lookup, with_attribute, without}
use Rattle.ad_tree.proofs.AdLemmas.{AreDistinct-with_attribute, AreDistinct-without, length-with_attribute-within, length-without-le}
use Rattle.ad_parse.specs.AdText.{is_full_for}
use Rattle.queue_tx.specs.declared.error.ApplyError.TheVariants.{Full}
use Rattle.queue_tx.specs.declared.key.Key.{Key}
use Rattle.queue_tx.specs.Keys.{key_cmp, same_key}
use Rattle.queue_tx.specs.Operations.{Operation, new_ad, destroy_ad, set_attr, delete_attr, key_of}
use Rattle.queue_tx.specs.Queues.{KeyedAds, Changes, IsQueue, ad_at, ad_after, with_ad}
use Rattle.queue_tx.specs.Room.{most_own, is_kept_name, is_own, own_count, is_full_of_own, lacks_room}
use Rattle.queue_tx.specs.Roomy.{HasRoom, IsRoomy, LeaveRoom}
use Rattle.queue_tx.proofs.Queues.{exact_keys, found_with}
use Rattle.queue_tx.proofs.Rooms.{tally, tally_is}
use Rattle.queue_tx.proofs.Transactions.{same_keys}

-- ---- how many attributes are an ad's own, from the front
abbrev pub mine : Key → Attributes → ℕ
mine key ad = tally (is_own key) ad

pub mine_is : (key : Key) (ad : Attributes) → mine key ad ≡ own_count key ad
mine_is key ad = tally_is (is_own key) ad

abbrev one_for : Bool → ℕ
one_for true = 0
one_for false = 1

mine_set : (key : Key) (x : List ℕ) (e : Tree) (ad : Attributes) → mine key (with_attribute x e ad) ≤ mine key ad + one_for (is_kept_name key x)
mine_set key x e [] = by (is_kept_name key x)
  where
    by : (b : Bool) → cond (not b) (1 + 0) 0 ≤ 0 + one_for b
    by true = omega arith
    by false = omega arith
mine_set key x e (a ∷ ad) = by (same_name x a.0) (mine_set key x e ad)
  where
    one_more : (d : Bool) (m n k : ℕ) → m ≤ n + k → cond d (1 + m) m ≤ cond d (1 + n) n + k
    one_more true m n k h = omega (arith, h)
    one_more false m n k h = h

    by : (b : Bool) → mine key (with_attribute x e ad) ≤ mine key ad + one_for (is_kept_name key x)
        → mine key (cond b ((a.0, e) ∷ ad) (a ∷ with_attribute x e ad)) ≤ mine key (a ∷ ad) + one_for (is_kept_name key x)
    by true rest = omega arith
    by false rest = one_more (is_own key a) (mine key (with_attribute x e ad)) (mine key ad) (one_for (is_kept_name key x)) rest

-- a name that is there keeps its spelling
mine_there : (key : Key) (x : List ℕ) (e : Tree) (ad : Attributes) → (lookup x ad ≡ None → ⊥) → mine key (with_attribute x e ad) ≡ mine key ad
mine_there key x e [] there = absurd (there refl)
mine_there key x e (a ∷ ad) there = by (same_name x a.0) refl (mine_there key x e ad)
  where
    by : (b : Bool) → same_name x a.0 ≡ b → ((lookup x ad ≡ None → ⊥) → mine key (with_attribute x e ad) ≡ mine key ad)
        → mine key (cond b ((a.0, e) ∷ ad) (a ∷ with_attribute x e ad)) ≡ mine key (a ∷ ad)
    by true p rest = refl
    by false p rest = ap (λ n. cond (is_own key a) (1 + n) n) (rest (λ none. there (ap (λ c. cond c (Some a.1) (lookup x ad)) p ∙ none)))

mine_without : (key : Key) (x : List ℕ) (ad : Attributes) → mine key (without x ad) ≤ mine key ad
mine_without key x [] = omega arith
mine_without key x (a ∷ ad) = by (same_name x a.0) (mine_without key x ad)
  where
    no_less : (d : Bool) (n : ℕ) → n ≤ cond d (1 + n) n
    no_less true n = omega arith
    no_less false n = omega arith

    both : (d : Bool) (m n : ℕ) → m ≤ n → cond d (1 + m) m ≤ cond d (1 + n) n
    both true m n h = omega (arith, h)
    both false m n h = h

    by : (b : Bool) → mine key (without x ad) ≤ mine key ad → mine key (cond b ad (a ∷ without x ad)) ≤ mine key (a ∷ ad)
    by true rest = no_less (is_own key a) (mine key ad)
    by false rest = both (is_own key a) (mine key (without x ad)) (mine key ad) rest

-- ---- what an operation leaves under its key
pub either_false : (a b : Bool) → (a || b) ≡ false → (a ≡ false) × (b ≡ false)
either_false true b h = cc
either_false false b h = (refl, h)

less_by : (m n : ℕ) → nat_le m n ≡ false → n < m
less_by m n h = (let no = leb-false m n h in omega (arith, no))

pub set_room : (key : Key) (ad : Attributes) (name : List ℕ) (e : Tree) → HasRoom key ad → lacks_room key name ad ≡ false → HasRoom key (with_attribute name e ad)
set_room key ad name e r room = record {
  ad_is = (AreDistinct-with_attribute name e ad r.ad_is.0, length-with_attribute-within name e ad not_full r.ad_is.1);
  own = omega (arith, few (lookup name ad) refl parts.1, mine_is key (with_attribute name e ad));
}
  where
    parts : (is_full_for name ad ≡ false) × (is_full_of_own key name ad ≡ false)
    parts = either_false (is_full_for name ad) (is_full_of_own key name ad) room

    not_full : (lookup name ad ≡ None) × (length ad ≡ 256) → ⊥
    not_full h =
        let full : is_full_for name ad ≡ true = ap (λ o. not (is_some o) && nat_eq (length ad) 256) h.0 ∙ eq-eqb (length ad) 256 h.1 in
        let clash : true ≡ false = sym full ∙ parts.0 in cc

    by_kept : (k : Bool) → is_kept_name key name ≡ k → (not k && nat_le (most_own key) (own_count key ad)) ≡ false → mine key (with_attribute name e ad) ≤ most_own key
    by_kept true kept h =
        let more = mine_set key name e ad in
        let none : one_for (is_kept_name key name) ≡ 0 = ap one_for kept in
        omega (arith, more, none, mine_is key ad, r.own)
    by_kept false kept h =
        let more = mine_set key name e ad in
        let one : one_for (is_kept_name key name) ≡ 1 = ap one_for kept in
        let less = less_by (most_own key) (own_count key ad) h in
        omega (arith, more, one, mine_is key ad, less)

    few : (o : Option Tree) → lookup name ad ≡ o → is_full_of_own key name ad ≡ false → mine key (with_attribute name e ad) ≤ most_own key
    few (Some t) is h =
        let same = mine_there key name e ad (λ none. let clash : Some t ≡ None = sym is ∙ none in cc) in
        omega (arith, same, mine_is key ad, r.own)
    few None is h =
        by_kept (is_kept_name key name) refl (sym (ap (λ o. not (is_some o) && (not (is_kept_name key name) && nat_le (most_own key) (own_count key ad))) is) ∙ h)

pub without_room : (key : Key) (ad : Attributes) (name : List ℕ) → HasRoom key ad → HasRoom key (without name ad)
without_room key ad name r = record {
  ad_is = (AreDistinct-without name ad r.ad_is.0, (let less = length-without-le name ad in let most = r.ad_is.1 in omega (arith, less, most)));
  own = omega (arith, mine_without key name ad, mine_is key ad, mine_is key (without name ad), r.own);
}

pub no_attributes : (key : Key) → HasRoom key []
no_attributes key = record { ad_is = (tt, omega arith); own = omega (arith, mine_is key []) }

pub ad_has_room : (n : ℕ) (o : Operation) (a made : Option Attributes) → IfSome a (HasRoom (key_of o)) → ad_after n a o ≡ Ok made → IfSome made (HasRoom (key_of o))
ad_has_room n (new_ad key kind other) None made r h = let same : Some [] ≡ made = cc in subst (λ m. IfSome m (HasRoom key)) same (no_attributes key)
ad_has_room n (new_ad key kind other) (Some ad) made r h = cc
ad_has_room n (destroy_ad key) None made r h = cc
ad_has_room n (destroy_ad key) (Some ad) made r h = let same : None ≡ made = cc in subst (λ m. IfSome m (HasRoom key)) same tt
ad_has_room n (set_attr key name e) None made r h = cc
ad_has_room n (set_attr key name e) (Some ad) made r h = by (lacks_room key name ad) refl h
  where
    by : (b : Bool) → lacks_room key name ad ≡ b → cond b (Err (Full n)) (Ok (Some (with_attribute name e ad))) ≡ Ok made → IfSome made (HasRoom key)
    by true is h = cc
    by false is h =
        let same : Some (with_attribute name e ad) ≡ made = cc in
        subst (λ m. IfSome m (HasRoom key)) same (set_room key ad name e r is)
ad_has_room n (delete_attr key name) None made r h = cc
ad_has_room n (delete_attr key name) (Some ad) made r h = let same : Some (without name ad) ≡ made = cc in subst (λ m. IfSome m (HasRoom key)) same (without_room key ad name r)

-- ---- of changes
pub room_found : (key : Key) (cs : Changes) → LeaveRoom cs → IfSome (entry_of (same_key key) cs) (λ a. IfSome a (HasRoom key))
room_found key [] h = tt
room_found key (c ∷ cs) h = by (same_key key c.0) refl (room_found key cs h.1)
  where
    by : (b : Bool) → same_key key c.0 ≡ b → IfSome (entry_of (same_key key) cs) (λ a. IfSome a (HasRoom key)) → IfSome (cond b (Some c.1) (entry_of (same_key key) cs)) (λ a. IfSome a (HasRoom key))
    by true is rest = subst (λ k. IfSome c.1 (HasRoom k)) (sym (same_keys key c.0 is)) h.0
    by false is rest = rest

pub room_removed : (key : Key) (cs : Changes) → LeaveRoom cs → LeaveRoom (remove_entry (same_key key) cs)
room_removed key [] h = tt
room_removed key (c ∷ cs) h = by (same_key key c.0) (room_removed key cs h.1)
  where
    by : (b : Bool) → LeaveRoom (remove_entry (same_key key) cs) → LeaveRoom (cond b cs (c ∷ remove_entry (same_key key) cs))
    by true rest = h.1
    by false rest = (h.0, rest)

pub room_inserted : (key : Key) (a : Option Attributes) (cs : Changes) → IfSome a (HasRoom key) → LeaveRoom cs → LeaveRoom (insert_entry key_cmp cs key a)
room_inserted key a [] r h = (r, tt)
room_inserted key a (c ∷ cs) r h = by (key_cmp key c.0) refl (room_inserted key a cs r h.1)
  where
    by : (o : Ordering) → key_cmp key c.0 ≡ o → LeaveRoom (insert_entry key_cmp cs key a)
        → LeaveRoom (match_ordering o ((key, a) ∷ c ∷ cs) ((c.0, a) ∷ cs) (c ∷ insert_entry key_cmp cs key a))
    by Less is rest = (r, h)
    by Equal is rest = (subst (λ k. IfSome a (HasRoom k)) (exact_keys key c.0 is) r, h.1)
    by Greater is rest = (h.0, rest)

-- a copy has what it is a copy of
pub copy_has_room : {E : Type 0} (key : Key) (x : Option Attributes) (r : Result (Option Attributes) E) → IfOk r (λ a. a ≡ x) → IfSome x (HasRoom key)
    → IfOk r (λ a. IfSome a (HasRoom key))
copy_has_room key x (Ok a) same has = subst (λ o. IfSome o (HasRoom key)) (sym same) has
copy_has_room key x (Err e) same has = tt

-- one operation more
pub op_leaves_room : (place : ℕ) (key : Key) (o : Operation) (cs left new : Changes) (a made : Option Attributes) → key ≡ key_of o
    → IfSome a (HasRoom key) → LeaveRoom cs → left ≡ remove_entry (same_key key) cs → ad_after place a o ≡ Ok made → new ≡ insert_entry key_cmp left key made → LeaveRoom new
op_leaves_room place key o cs left new a made named r h rest done is =
    let has = ad_has_room place o a made (subst (λ k. IfSome a (HasRoom k)) named r) done in
    subst LeaveRoom (sym is)
    (room_inserted key made left (subst (λ k. IfSome made (HasRoom k)) (sym named) has) (subst LeaveRoom (sym rest) (room_removed key cs h)))

-- ---- of a queue
pub room_with : (key : Key) (a : Option Attributes) (q : KeyedAds) → IsQueue q → IfSome a (HasRoom key) → IsRoomy q → IsRoomy (with_ad key a q)
room_with key a q s r roomy p = subst (λ o. IfSome o (HasRoom p)) (sym (found_with p key a q s)) (by (same_key key p) refl)
  where
    by : (b : Bool) → same_key key p ≡ b → IfSome (cond b a (ad_at p q)) (HasRoom p)
    by true is = subst (λ k. IfSome a (HasRoom k)) (same_keys key p is) r
    by false is = roomy p
