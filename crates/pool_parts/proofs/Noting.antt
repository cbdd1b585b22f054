-- Keys that are noted, one after the other.
use Rattle.std.proofs.Common.{◌≡◌, ◌||◌, Bool, true, false, cond, List, [], ◌∷◌, ◌++◌, length, is_some, map, drop, get_or, ◌<◌, ◌+◌, ℕ, Some, refl, ap, sym, ◌∙◌, subst}
use Rattle.std.specs.Global.{Vec}
use Rattle.std.specs.BTreeMap.{insert_entry}
use Rattle.std.specs.Map.{lookup}
use Rattle.std.proofs.lemmas.List.{at_drop_more}
use Rattle.ordered_map.proofs.Maps.{lookup-insert_entry}
use Rattle.pool_parts.specs.declared.touched.Noted.{Noted}
use Rattle.pool_parts.specs.Noted.{AreNoted}
use Rattle.pool_parts.specs.Growth.{AreDistinct, is_among, is_touched}
use Rattle.queue_tx.specs.declared.key.Key.{Key}
use Rattle.queue_tx.specs.Keys.{key_cmp, key_cmp_total, same_key, same_key_laws}
use Rattle.queue_tx.specs.declared.op.Op.{Op}
use Rattle.queue_tx.specs.Operations.{key_of, operation}
use Rattle.queue_tx.proofs.Transactions.{same_keys}

pub among_more : (p k : Key) (ks : List Key) → is_among p (ks ++ k ∷ []) ≡ is_among p ks || same_key p k
among_more p k [] = by (same_key p k)
  where
    by : (b : Bool) → cond b true false ≡ b
    by true = refl
    by false = refl
among_more p k (x ∷ ks) = by (same_key p x) (among_more p k ks)
  where
    by : (b : Bool) → is_among p (ks ++ k ∷ []) ≡ is_among p ks || same_key p k → cond b true (is_among p (ks ++ k ∷ [])) ≡ cond b true (is_among p ks) || same_key p k
    by true rest = refl
    by false rest = rest

pub distinct_more : (k : Key) (ks : List Key) → AreDistinct ks → is_among k ks ≡ false → AreDistinct (ks ++ k ∷ [])
distinct_more k [] d h = (refl, tt)
distinct_more k (x ∷ ks) d h = by (same_key k x) refl h (distinct_more k ks d.1)
  where
    by : (b : Bool) → same_key k x ≡ b → cond b true (is_among k ks) ≡ false → (is_among k ks ≡ false → AreDistinct (ks ++ k ∷ [])) → AreDistinct (x ∷ ks ++ k ∷ [])
    by true e h rest = cc
    by false e h rest =
        (among_more x k ks ∙ ap (λ b. b || same_key x k) d.0 ∙ same_key_laws.symm x k ∙ e, rest h)

-- a key that is there already
pub among_again : (p k : Key) (ks : List Key) → is_among k ks ≡ true → is_among p ks ≡ is_among p ks || same_key p k
among_again p k ks h = by (same_key p k) refl
  where
    or_false : (b : Bool) → b ≡ b || false
    or_false true = refl
    or_false false = refl

    by : (b : Bool) → same_key p k ≡ b → is_among p ks ≡ is_among p ks || b
    by false e = or_false (is_among p ks)
    by true e = let here = ap (λ x. is_among x ks) (same_keys p k e) ∙ h in here ∙ sym (ap (λ b. b || true) here)

-- ---- one key more, noted in both ways
pub noted_more : (n : Noted) (key : Key) (keys : Vec Key) (seen : List (Key × Bool)) (e : Key × Bool) → AreNoted n → is_some (lookup (same_key key) n.seen) ≡ false
    → keys.items ≡ n.keys.items ++ key ∷ [] → e ≡ (key, true) → seen ≡ insert_entry key_cmp n.seen e.0 e.1
    → AreNoted (record { keys = keys; seen = seen })
noted_more n key keys seen e noted new_key k is s = record {
  distinct = subst AreDistinct (sym k) (distinct_more key n.keys.items noted.distinct (sym (noted.same key) ∙ new_key));
  same = λ p.
      ap (λ (m : List (Key × Bool)). is_some (lookup (same_key p) m)) (s ∙ ap (λ (x : Key × Bool). insert_entry key_cmp n.seen x.0 x.1) is)
      ∙ ap is_some (lookup-insert_entry key_cmp_total p key true n.seen)
      ∙ by p (same_key key p) refl
      ∙ sym (ap (is_among p) k ∙ among_more p key n.keys.items);
}
  where
    or_true : (b : Bool) → true ≡ b || true
    or_true true = refl
    or_true false = refl

    or_false : (b : Bool) → b ≡ b || false
    or_false true = refl
    or_false false = refl

    by : (p : Key) (b : Bool) → same_key key p ≡ b → is_some (cond b (Some true) (lookup (same_key p) n.seen)) ≡ is_among p n.keys.items || same_key p key
    by p true h = or_true (is_among p n.keys.items) ∙ sym (ap (λ b. is_among p n.keys.items || b) (same_key_laws.symm p key ∙ h))
    by p false h = noted.same p ∙ or_false (is_among p n.keys.items) ∙ sym (ap (λ b. is_among p n.keys.items || b) (same_key_laws.symm p key ∙ h))

-- ---- operation by operation
or_cond : (a s t : Bool) → a || cond s true t ≡ (a || s) || t
or_cond true s t = refl
or_cond false true t = refl
or_cond false false t = refl

pub touched_on : (p : Key) (os : List Op) (i : ℕ) (o : Op) (k : Key) (among more whole : Bool) → i < length os → o ≡ get_or os i o → k ≡ key_of (operation o)
    → more ≡ among || same_key p k
    → among || is_touched p (map operation (drop i os)) ≡ whole
    → more || is_touched p (map operation (drop (i + 1) os)) ≡ whole
touched_on p os i o k among more whole within item key m so_far =
    let rest = is_touched p (map operation (drop (i + 1) os)) in
    ap (λ b. b || rest) (m ∙ ap (λ x. among || same_key p x) key)
    ∙ sym (or_cond among (same_key p (key_of (operation o))) rest)
    ∙ ap (λ (x : Op). among || cond (same_key p (key_of (operation x))) true rest) item
    ∙ sym (ap (λ b. among || b) (at_drop_more (λ (l : List Op). is_touched p (map operation l)) os i o within))
    ∙ so_far

pub touched_end : (p : Key) (os : List Op) (rest : List Op) (among : Bool) → rest ≡ [] → among || is_touched p (map operation rest) ≡ is_touched p (map operation os)
    → among ≡ is_touched p (map operation os)
touched_end p os rest among none so_far =
    or_nothing among ∙ sym (ap (λ (l : List Op). among || is_touched p (map operation l)) none) ∙ so_far
  where
    or_nothing : (a : Bool) → a ≡ a || false
    or_nothing true = refl
    or_nothing false = refl
