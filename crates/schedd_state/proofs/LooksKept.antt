-- That the looks by time are those by job.
use Rattle.std.proofs.Common.{◌≡◌, ◌⊎◌, inl, inr, ◌<◌, ◌≤◌, ℕ, Bool, true, false, cond, List, [], Option, Some, None, is_some, refl, ap, sym, ◌∙◌}
use Rattle.std.specs.Prelude.{find}
use Rattle.std.specs.declared.cmp.Ordering.{Ordering}
use Rattle.std.specs.declared.cmp.Ordering.TheVariants.{Less, Equal, Greater}
use Rattle.std.specs.declared.ops.Bound.{Bound}
use Rattle.std.specs.declared.ops.Bound.TheVariants.{Unbounded}
use denote.Ref.{Bor}
use Rattle.std.specs.Ordering.{is_eq, is_gt, nat_cmp, ordering_then}
use Rattle.std.specs.Cmp.{tied_itself, nat_cmp_is}
use Rattle.std.proofs.lemmas.Bool.{cases_lt}
use Rattle.std.specs.List.Sorted.{IsStrictlySortedBy}
use Rattle.std.specs.Map.{lookup, remove_entry, keys_of}
use Rattle.std.specs.BTreeMap.{insert_entry}
use Rattle.std.proofs.lemmas.Map.Lookups.{CmpEqualImpliesEq, exact_unsigned}
use Rattle.ordered_map.specs.Trees.{is_past}
use Rattle.ordered_map.proofs.Maps.{lookup-insert_entry, lookup-removed}
use Rattle.ordered_map.proofs.Firsts.{none_found_past, found_is_first}
use Rattle.queue_tx.specs.declared.key.Key.{Key}
use Rattle.queue_tx.specs.Keys.{key_cmp, key_cmp_total, same_key}
use Rattle.queue_tx.proofs.Queues.{exact_keys, then_equal}
use Rattle.queue_tx.proofs.Transactions.{same_keys}
use Rattle.schedd_state.specs.declared.looks.Look.{Look}
use Rattle.schedd_state.specs.declared.looks.Noted.{Noted}
use Rattle.schedd_state.specs.Looks.{look_cmp, look_cmp_total, same_look, look_of, is_look, has_look, SetsTimes, AreTimes, IsOldest, IsLookOf, IsFirstLook}

pub exact_looks : CmpEqualImpliesEq look_cmp
exact_looks a b h =
    let parts = then_equal (nat_cmp a.at b.at) (key_cmp a.key b.key) h in
    let times = exact_unsigned a.at b.at parts.0 in
    let keys = exact_keys a.key b.key parts.1 in
    λ i. record { at = times i; key = keys i }

equal_from : (r : Ordering) → is_eq r ≡ true → r ≡ Equal
equal_from Less h = cc
equal_from Equal h = refl
equal_from Greater h = cc

look_itself : (l : Look) → same_look l l ≡ true
look_itself l = ap is_eq (tied_itself look_cmp_total l)

-- ---- one look given up, or taken
pub given_up : (k : Look) (es new : List (Look × Noted)) → IsStrictlySortedBy look_cmp (keys_of es) → new ≡ remove_entry (same_look k) es → SetsTimes (Some k) None es new
given_up k es new s h l = ap (has_look l) h ∙ ap is_some (lookup-removed look_cmp_total l k es s) ∙ by (same_look k l)
  where
    by : (b : Bool) → is_some (cond b None (lookup (same_look l) es)) ≡ cond b false (is_some (lookup (same_look l) es))
    by true = refl
    by false = refl

pub taken : (k : Look) (v : Noted) (es new : List (Look × Noted)) → new ≡ insert_entry look_cmp es k v → SetsTimes None (Some k) es new
taken k v es new h l = ap (has_look l) h ∙ ap is_some (lookup-insert_entry look_cmp_total l k v es) ∙ by (same_look k l)
  where
    by : (b : Bool) → is_some (cond b (Some v) (lookup (same_look l) es)) ≡ cond b true (is_some (lookup (same_look l) es))
    by true = refl
    by false = refl

tail_differs : (r s : Ordering) → is_eq s ≡ false → is_eq (ordering_then r s) ≡ false
tail_differs Less s h = refl
tail_differs Equal s h = h
tail_differs Greater s h = refl

-- a look at another key
elsewhere : (key : Key) (o : Option ℕ) (l : Look) → same_key key l.key ≡ false → is_look (look_of key o) l ≡ false
elsewhere key None l apart = refl
elsewhere key (Some at) l apart = tail_differs (nat_cmp at l.at) (key_cmp key l.key) apart

module _ (jobs : List (Key × ℕ)) (es : List (Look × Noted)) (are : AreTimes es jobs) (key : Key) where
  -- what was at that key
  was : (l : Look) → key ≡ l.key → has_look l es ≡ is_look (look_of key (lookup (same_key key) jobs)) l
  was l same = are l ∙ ap (λ k. is_look (look_of k (lookup (same_key k) jobs)) l) (sym same)

  pub times_put : (at : ℕ) (mid new : List (Look × Noted)) (after : List (Key × ℕ)) → SetsTimes (look_of key (lookup (same_key key) jobs)) None es mid → SetsTimes None (Some (record { at = at; key = key })) mid new
      → after ≡ insert_entry key_cmp jobs key at → AreTimes new after
  times_put at mid new after gave took is l =
      took l ∙ ap (cond (same_look (record { at = at; key = key }) l) true) (gave l) ∙ by (same_key key l.key) refl
      ∙ sym (ap (λ o. is_look (look_of l.key o) l) (ap (lookup (same_key l.key)) is ∙ lookup-insert_entry key_cmp_total l.key key at jobs))
    where
      replaces : (c g : Bool) → cond c true (cond g false g) ≡ c
      replaces true g = refl
      replaces false true = refl
      replaces false false = refl

      by : (b : Bool) → same_key key l.key ≡ b
          → cond (same_look (record { at = at; key = key }) l) true (cond (is_look (look_of key (lookup (same_key key) jobs)) l) false (has_look l es))
          ≡ is_look (look_of l.key (cond b (Some at) (lookup (same_key l.key) jobs))) l
      by true same =
          let keys = same_keys key l.key same in
          ap (λ h. cond (same_look (record { at = at; key = key }) l) true (cond (is_look (look_of key (lookup (same_key key) jobs)) l) false h)) (was l keys)
          ∙ replaces (same_look (record { at = at; key = key }) l) (is_look (look_of key (lookup (same_key key) jobs)) l)
          ∙ ap (λ k. same_look (record { at = at; key = k }) l) keys
      by false apart =
          ap (λ b. cond b true (cond (is_look (look_of key (lookup (same_key key) jobs)) l) false (has_look l es))) (elsewhere key (Some at) l apart)
          ∙ ap (λ b. cond b false (has_look l es)) (elsewhere key (lookup (same_key key) jobs) l apart)
          ∙ are l

  pub times_removed : (new : List (Look × Noted)) (after : List (Key × ℕ)) → IsStrictlySortedBy key_cmp (keys_of jobs) → SetsTimes (look_of key (lookup (same_key key) jobs)) None es new → after ≡ remove_entry (same_key key) jobs → AreTimes new after
  times_removed new after s gave is l =
      gave l ∙ by (same_key key l.key) refl ∙ sym (ap (λ o. is_look (look_of l.key o) l) (ap (lookup (same_key l.key)) is ∙ lookup-removed key_cmp_total l.key key jobs s))
    where
      gone : (g : Bool) → cond g false g ≡ false
      gone true = refl
      gone false = refl

      by : (b : Bool) → same_key key l.key ≡ b
          → cond (is_look (look_of key (lookup (same_key key) jobs)) l) false (has_look l es) ≡ is_look (look_of l.key (cond b None (lookup (same_key l.key) jobs))) l
      by true same =
          ap (λ h. cond (is_look (look_of key (lookup (same_key key) jobs)) l) false h) (was l (same_keys key l.key same))
          ∙ gone (is_look (look_of key (lookup (same_key key) jobs)) l)
      by false apart = ap (λ b. cond b false (has_look l es)) (elsewhere key (lookup (same_key key) jobs) l apart) ∙ are l

pub no_times : (es : List (Look × Noted)) (jobs : List (Key × ℕ)) → es ≡ [] → jobs ≡ [] → AreTimes es jobs
no_times es jobs none empty l = ap (has_look l) none ∙ sym (ap (λ j. is_look (look_of l.key (lookup (same_key l.key) j)) l) empty)

-- ---- the first by time
look_at : (key : Key) (o : Option ℕ) (l : Look) → is_look (look_of key o) l ≡ true → (key ≡ l.key) × (o ≡ Some l.at)
look_at key None l h = cc
look_at key (Some at) l h =
    let same : record { at = at; key = key } ≡ l = exact_looks (record { at = at; key = key }) l (equal_from (look_cmp (record { at = at; key = key }) l) h) in
    (ap (λ m. m.key) same, ap (λ m. Some m.at) same)

pub at_most : (a b : ℕ) (r : Ordering) → is_gt (ordering_then (nat_cmp a b) r) ≡ false → a ≤ b
at_most a b r h = by (cases_lt b a)
  where
    by : (b < a) ⊎ (a ≤ b) → a ≤ b
    by (inl less) = let clash : true ≡ false = ap (λ (o : Ordering). is_gt (ordering_then o r)) (nat_cmp_is a b Greater less) ∙ h in cc
    by (inr most) = most

module _ (jobs : List (Key × ℕ)) (es : List (Look × Noted)) (are : AreTimes es jobs) where
  listed : (key : Key) (at : ℕ) → lookup (same_key key) jobs ≡ Some at → has_look (record { at = at; key = key }) es ≡ true
  listed key at is = are (record { at = at; key = key }) ∙ ap (λ o. is_look (look_of key o) (record { at = at; key = key })) is ∙ look_itself (record { at = at; key = key })

  pub none_oldest : None ≡ find (λ (e : Look × Noted). is_past look_cmp Unbounded e.0) es → IsOldest jobs None
  none_oldest h key = by (lookup (same_key key) jobs) refl
    where
      by : (o : Option ℕ) → lookup (same_key key) jobs ≡ o → lookup (same_key key) jobs ≡ None
      by None is = is
      by (Some at) is = let clash : true ≡ false = none_found_past look_cmp_total Unbounded es (record { at = at; key = key }) (sym h) (listed key at is) in cc

  pub first_oldest : (f : Look × Noted) → IsStrictlySortedBy look_cmp (keys_of es) → Some f ≡ find (λ (e : Look × Noted). is_past look_cmp Unbounded e.0) es → IsOldest jobs (Some (f.0.key, f.0.at))
  first_oldest f s h =
      let r = found_is_first look_cmp_total Unbounded es f s (sym h) in
      let at = look_at f.0.key (lookup (same_key f.0.key) jobs) f.0 (sym (are f.0) ∙ ap is_some r.there) in
      (at.1, λ key time is. at_most f.0.at time (key_cmp f.0.key key) (r.first (record { at = time; key = key }) (listed key time is) refl))

  -- ---- the first past a bound
  pub none_past : (start : Bound (Bor Look)) → None ≡ find (λ (e : Look × Noted). is_past look_cmp start e.0) es → (look : Look) → IsLookOf jobs look → is_past look_cmp start look ≡ false
  none_past start h look is = none_found_past look_cmp_total start es look (sym h) (listed look.key look.at is)

  pub first_past : (start : Bound (Bor Look)) (f : Look × Noted) → IsStrictlySortedBy look_cmp (keys_of es) → Some f ≡ find (λ (e : Look × Noted). is_past look_cmp start e.0) es → IsFirstLook jobs start f.0
  first_past start f s h =
      let r = found_is_first look_cmp_total start es f s (sym h) in
      let at = look_at f.0.key (lookup (same_key f.0.key) jobs) f.0 (sym (are f.0) ∙ ap is_some r.there) in
      record { is = at.1; past = r.past; first = λ other is past. r.first other (listed other.key other.at is) past }
