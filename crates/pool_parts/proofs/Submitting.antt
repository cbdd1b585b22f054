-- The transaction of a submission can be logged over a queue that has room, as a new cluster.
use Rattle.std.proofs.Common.{◌≡◌, ℕ, ◌+◌, ◌<◌, ◌≤◌, ◌^◌, Bool, true, false, not, ◌||◌, ◌&&◌, cond, List, [], ◌∷◌, ◌++◌, length, map, Some, None, is_some, Ok, Err, append_assoc, append-nil, refl, ap, sym, ◌∙◌, subst, arith}
use Rattle.std.specs.Prelude.{nat_eq, nat_le, is_ok}
use Rattle.std.proofs.lemmas.Bool.{ne_eqb}
use Rattle.std.proofs.lemmas.List.{length-append}
use Rattle.ad_tree.specs.Tree.{Tree}
use Rattle.ad_tree.specs.Ad.{Attributes, lookup, with_attribute}
use Rattle.ad_tree.proofs.AdLemmas.{lookup-before, with_attribute-new}
use Rattle.ad_parse.specs.AdText.{is_full_for}
use Rattle.ad_rows.specs.Submitted.{AreReadable, AreSubmitted}
use Rattle.pool_parts.specs.Submissions.{ad_ops, attribute_op, header_ops, job_numbered, jobs_ops, new_ad_op, next_cluster_op, submission_ops}
use Rattle.claim_id.specs.Texts.{IsJob}
use Rattle.queue_tx.specs.declared.error.ApplyError.TheVariants.{Full}
use Rattle.queue_tx.specs.declared.key.Key.{Key}
use Rattle.queue_tx.specs.declared.key.Key.TheVariants.{Header, Proc}
use Rattle.queue_tx.specs.declared.names.TheConstants.{NEXT_CLUSTER_NUM}
use Rattle.queue_tx.specs.Keys.{number_of, same_key, same_key_laws}
use Rattle.queue_tx.specs.Operations.{Operation}
use Rattle.queue_tx.specs.Printable.{IsPrintable, IsPrintableAd}
use Rattle.queue_tx.specs.Queues.{KeyedAds, IsQueue, ad_at, with_ad, queue_after}
use Rattle.queue_tx.specs.Room.{most_own, is_kept_name, is_own, own_count, is_full_of_own, lacks_room}
use Rattle.queue_tx.specs.Roomy.{HasRoom, IsRoomy}
use Rattle.queue_tx.proofs.Queues.{found_with}
use Rattle.queue_tx.proofs.RoomKept.{mine, mine_is, no_attributes, set_room}
use Rattle.queue_tx.proofs.Transactions.{same_keys, sequence_is_one}
use Rattle.pool_parts.specs.Loggable.{AreAds, AreLoggableJobs, CanBeLogged, IsNewCluster}
use Rattle.pool_parts.proofs.Doing.{IsReady, none_if, one_op, put, stands_if}
use Rattle.pool_parts.proofs.Printing.{both_print, integer_prints, next_cluster, words_print}

joined : (q mid last : KeyedAds) (xs ys : List Operation) → queue_after q xs ≡ Ok mid → queue_after mid ys ≡ Ok last → queue_after q (xs ++ ys) ≡ Ok last
joined q mid last xs ys h g = (sequence_is_one q mid xs ys h last).0 g

-- ---- a queue that the next jobs of a cluster can come into
record IsOpenFor (cluster proc : ℕ) (q : KeyedAds) : Type 0 where
  pub queue : IsQueue q
  pub roomy : IsRoomy q
  pub none : (n : ℕ) → proc ≤ n → ad_at (Proc (job_numbered cluster n)) q ≡ None

-- one of them has come into it so far
record IsFilling (cluster proc : ℕ) (so_far : Attributes) (q : KeyedAds) : Type 0 where
  pub open_for : IsOpenFor cluster (proc + 1) q
  pub here : ad_at (Proc (job_numbered cluster proc)) q ≡ Some so_far

abbrev NoKey : Key → Type 0
NoKey key = ⊥

put_job : (cluster proc : ℕ) (q : KeyedAds) (made : Attributes) → HasRoom (Proc (job_numbered cluster proc)) made → IsQueue q → IsRoomy q
    → ((n : ℕ) → proc < n → ad_at (Proc (job_numbered cluster n)) q ≡ None)
    → IsFilling cluster proc made (with_ad (Proc (job_numbered cluster proc)) (Some made) q)
put_job cluster proc q made room s roomy none = record {
  open_for = record { queue = kept.queue; roomy = kept.roomy; none = others };
  here = found_with key key (Some made) q s ∙ ap (λ b. cond b (Some made) (ad_at key q)) (same_key_laws.refl key);
}
  where
    key : Key
    key = Proc (job_numbered cluster proc)

    kept : IsReady NoKey (with_ad (Proc (job_numbered cluster proc)) (Some made) q)
    kept = put NoKey NoKey q (Proc (job_numbered cluster proc)) made (λ k t. absurd t) room (record { queue = s; roomy = roomy; there = λ k t. absurd t })

    others : (n : ℕ) → proc + 1 ≤ n → ad_at (Proc (job_numbered cluster n)) (with_ad (Proc (job_numbered cluster proc)) (Some made) q) ≡ None
    others n less = found_with (Proc (job_numbered cluster n)) (Proc (job_numbered cluster proc)) (Some made) q s ∙ by (same_key (Proc (job_numbered cluster proc)) (Proc (job_numbered cluster n))) refl
      where
        by : (b : Bool) → same_key (Proc (job_numbered cluster proc)) (Proc (job_numbered cluster n)) ≡ b → cond b (Some made) (ad_at (Proc (job_numbered cluster n)) q) ≡ None
        by true is =
            let same : proc ≡ n = ap number_of (same_keys (Proc (job_numbered cluster proc)) (Proc (job_numbered cluster n)) is) in
            absurd (omega (arith, same, less))
        by false is = none n (omega (arith, less))

-- ---- there is room for each attribute of an ad that has room
mine_both : (key : Key) (xs ys : Attributes) → mine key (xs ++ ys) ≡ mine key xs + mine key ys
mine_both key [] ys = omega arith
mine_both key (a ∷ xs) ys = by (is_own key a) (mine_both key xs ys)
  where
    by : (b : Bool) → mine key (xs ++ ys) ≡ mine key xs + mine key ys → cond b (1 + mine key (xs ++ ys)) (mine key (xs ++ ys)) ≡ cond b (1 + mine key xs) (mine key xs) + mine key ys
    by true rest = omega (arith, rest)
    by false rest = rest

fits_next : (key : Key) (xs more : Attributes) (a : List ℕ × Tree) → HasRoom key (xs ++ a ∷ more) → lookup a.0 xs ≡ None → lacks_room key a.0 xs ≡ false
fits_next key xs more a room new = λ i. full i || of_own i
  where
    shorter : length xs < 256
    shorter = let long = length-append xs (a ∷ more) in let most = room.ad_is.1 in omega (arith, long, most)

    not_256 : nat_eq (length xs) 256 ≡ false
    not_256 = ne_eqb (length xs) 256 (λ e. omega (arith, e, shorter))

    full : is_full_for a.0 xs ≡ false
    full = by (not (is_some (lookup a.0 xs)))
      where
        by : (b : Bool) → (b && nat_eq (length xs) 256) ≡ false
        by true = not_256
        by false = refl

    fewer : is_own key a ≡ true → own_count key xs < most_own key
    fewer own =
        let whole = mine_both key xs (a ∷ more) in
        let one : mine key (a ∷ more) ≡ 1 + mine key more = ap (λ b. cond b (1 + mine key more) (mine key more)) own in
        omega (arith, whole, one, mine_is key xs, mine_is key (xs ++ a ∷ more), room.own)

    by_kept : (k : Bool) → is_kept_name key a.0 ≡ k → (not k && nat_le (most_own key) (own_count key xs)) ≡ false
    by_kept true is = refl
    by_kept false is = not_most (most_own key) (own_count key xs) (fewer (ap not is))
      where
        not_most : (m n : ℕ) → n < m → nat_le m n ≡ false
        not_most m n less = by (nat_le m n) refl
          where
            by : (b : Bool) → nat_le m n ≡ b → b ≡ false
            by false e = refl
            by true e = let most = Rattle.std.proofs.lemmas.Bool.leb-true m n e in absurd (omega (arith, most, less))

    of_own : is_full_of_own key a.0 xs ≡ false
    of_own = by (not (is_some (lookup a.0 xs)))
      where
        by : (b : Bool) → (b && (not (is_kept_name key a.0) && nat_le (most_own key) (own_count key xs))) ≡ false
        by true = by_kept (is_kept_name key a.0) refl
        by false = refl

-- ---- one job
record Fills (cluster proc : ℕ) (ad : Attributes) (q : KeyedAds) (os : List Operation) : Type 0 where
  pub new : KeyedAds
  pub made : queue_after q os ≡ Ok new
  pub filled : IsFilling cluster proc ad new

fill : (cluster proc : ℕ) (ad xs rest : Attributes) → HasRoom (Proc (job_numbered cluster proc)) ad → xs ++ rest ≡ ad → HasRoom (Proc (job_numbered cluster proc)) xs
    → (q : KeyedAds) → IsFilling cluster proc xs q → Fills cluster proc ad q (map (attribute_op (Proc (job_numbered cluster proc))) rest)
fill cluster proc ad xs [] room whole now q f = record {
  new = q;
  made = refl;
  filled = subst (λ l. IsFilling cluster proc l q) (sym (append-nil xs) ∙ whole) f;
}
fill cluster proc ad xs (a ∷ rest) room whole now q f =
    let key = Proc (job_numbered cluster proc) in
    let all = subst (HasRoom key) (sym whole) room in
    let new_name = lookup-before xs a rest all.ad_is.0 in
    let fits = fits_next key xs rest a all new_name in
    let longer = with_attribute-new a.0 a.1 xs new_name in
    let has = set_room key xs a.0 a.1 now fits in
    let next = put_job cluster proc q (with_attribute a.0 a.1 xs) has f.open_for.queue f.open_for.roomy (λ n less. f.open_for.none n (omega (arith, less))) in
    let mid = with_ad key (Some (with_attribute a.0 a.1 xs)) q in
    let more = fill cluster proc ad (xs ++ a ∷ []) rest room (append_assoc xs (a ∷ []) rest ∙ whole) (subst (HasRoom key) longer has) mid (subst (λ l. IsFilling cluster proc l mid) longer next) in
    record {
      new = more.new;
      made = joined q mid more.new (attribute_op key a ∷ []) (map (attribute_op key) rest)
          (one_op q (attribute_op key a) (Some xs) (Some (with_attribute a.0 a.1 xs)) f.here (ap (λ b. cond b (Err (Full 0)) (Ok (Some (with_attribute a.0 a.1 xs)))) fits))
          more.made;
      filled = more.filled;
    }

one_job : (cluster proc : ℕ) (ad : Attributes) → HasRoom (Proc (job_numbered cluster proc)) ad → (q : KeyedAds) → IsOpenFor cluster proc q → Fills cluster proc ad q (ad_ops (Proc (job_numbered cluster proc)) ad)
one_job cluster proc ad room q o =
    let key = Proc (job_numbered cluster proc) in
    let mid = with_ad key (Some []) q in
    let begun = put_job cluster proc q [] (no_attributes key) o.queue o.roomy (λ n less. o.none n (omega (arith, less))) in
    let more = fill cluster proc ad [] ad room refl (no_attributes key) mid begun in
    record {
      new = more.new;
      made = joined q mid more.new (new_ad_op key ∷ []) (map (attribute_op key) ad) (one_op q (new_ad_op key) None (Some []) (o.none proc (omega arith)) refl) more.made;
      filled = more.filled;
    }

-- ---- all of them
jobs_done : (cluster proc : ℕ) (ads : List Attributes) → AreLoggableJobs ads → (q : KeyedAds) → IsOpenFor cluster proc q → (new : KeyedAds) × (queue_after q (jobs_ops cluster proc ads) ≡ Ok new)
jobs_done cluster proc [] are q o = (q, refl)
jobs_done cluster proc (ad ∷ ads) are q o =
    let first = one_job cluster proc ad (are.0.room (job_numbered cluster proc)) q o in
    let rest = jobs_done cluster (proc + 1) ads are.1 first.new first.filled.open_for in
    (rest.0, joined q first.new rest.0 (ad_ops (Proc (job_numbered cluster proc)) ad) (jobs_ops cluster (proc + 1) ads) first.made rest.1)

-- ---- the header
abbrev IsHeader : Key → Type 0
IsHeader key = key ≡ Header

-- no job comes into the queue by what is set in the header
none_by_header : (q new : KeyedAds) (o : Operation) (cluster n : ℕ) → IsQueue q → same_key (Rattle.queue_tx.specs.Operations.key_of o) (Proc (job_numbered cluster n)) ≡ false → Rattle.queue_tx.specs.Queues.after_op 0 q o ≡ Ok new
    → ad_at (Proc (job_numbered cluster n)) q ≡ None → ad_at (Proc (job_numbered cluster n)) new ≡ None
none_by_header q new o cluster n s apart h none = Rattle.queue_tx.proofs.Transactions.leaves_other_keys 0 q new o (Proc (job_numbered cluster n)) s h apart ∙ none

put_header : (cluster : ℕ) (q : KeyedAds) (made : Attributes) → HasRoom Header made → IsOpenFor cluster 0 q → IsOpenFor cluster 0 (with_ad Header (Some made) q)
put_header cluster q made room o =
    let kept = put NoKey NoKey q Header made (λ k t. absurd t) room (record { queue = o.queue; roomy = o.roomy; there = λ k t. absurd t }) in
    record { queue = kept.queue; roomy = kept.roomy; none = λ n less. found_with (Proc (job_numbered cluster n)) Header (Some made) q o.queue ∙ o.none n less }

record Opens (cluster : ℕ) (q : KeyedAds) (os : List Operation) : Type 0 where
  pub new : KeyedAds
  pub done : queue_after q os ≡ Ok new
  pub opened : IsOpenFor cluster 0 new

counted : (cluster : ℕ) (q : KeyedAds) (header : Attributes) → ad_at Header q ≡ Some header → IsOpenFor cluster 0 q → Opens cluster q (next_cluster_op cluster ∷ [])
counted cluster q header at o =
    let room : HasRoom Header header = subst (λ a. Rattle.std.specs.Prelude.IfSome a (HasRoom Header)) at (o.roomy Header) in
    let fits = Rattle.queue_tx.proofs.Rooms.room_for_the_pool Header header NEXT_CLUSTER_NUM.now room.ad_is room.own refl in
    let e = Rattle.ad_rows.specs.Rows.integer_literal (cluster + 1) in
    record {
      new = with_ad Header (Some (with_attribute NEXT_CLUSTER_NUM.now e header)) q;
      done = one_op q (next_cluster_op cluster) (Some header) (Some (with_attribute NEXT_CLUSTER_NUM.now e header)) at (ap (λ b. cond b (Err (Full 0)) (Ok (Some (with_attribute NEXT_CLUSTER_NUM.now e header)))) fits);
      opened = put_header cluster q (with_attribute NEXT_CLUSTER_NUM.now e header) (set_room Header header NEXT_CLUSTER_NUM.now e room fits) o;
    }

headed : (cluster : ℕ) (q : KeyedAds) (header : Bool) → header ≡ is_some (ad_at Header q) → IsOpenFor cluster 0 q → Opens cluster q (header_ops header ++ next_cluster_op cluster ∷ [])
headed cluster q true knows o = let s = stands_if Header q (sym knows) in counted cluster q s.0 s.1 o
headed cluster q false knows o =
    let mid = with_ad Header (Some []) q in
    let next = counted cluster mid [] (found_with Header Header (Some []) q o.queue) (put_header cluster q [] (no_attributes Header) o) in
    record {
      new = next.new;
      done = joined q mid next.new (new_ad_op Header ∷ []) (next_cluster_op cluster ∷ []) (one_op q (new_ad_op Header) None (Some []) (none_if Header q (sym knows)) refl) next.done;
      opened = next.opened;
    }

submission_done : (q : KeyedAds) (cluster : ℕ) (ads : List Attributes) → IsQueue q → IsRoomy q → IsNewCluster q cluster → AreLoggableJobs ads
    → (new : KeyedAds) × (queue_after q (submission_ops (is_some (ad_at Header q)) cluster ads) ≡ Ok new)
submission_done q cluster ads s room new are =
    let header = is_some (ad_at Header q) in
    let first = headed cluster q header refl (record { queue = s; roomy = room; none = λ n less. new n }) in
    let rest = jobs_done cluster 0 ads are first.new first.opened in (
      rest.0,
      ap (queue_after q) (sym (append_assoc (header_ops header) (next_cluster_op cluster ∷ []) (jobs_ops cluster 0 ads)))
          ∙ joined q first.new rest.0 (header_ops header ++ next_cluster_op cluster ∷ []) (jobs_ops cluster 0 ads) first.done rest.1,
    )

-- ---- it can be printed
attributes_print : (cluster proc : ℕ) (ad : Attributes) → IsJob (job_numbered cluster proc) → IsPrintableAd ad → IsPrintable (map (attribute_op (Proc (job_numbered cluster proc))) ad)
attributes_print cluster proc [] is h = tt
attributes_print cluster proc (a ∷ ad) is h = ((is, h.0, h.1), attributes_print cluster proc ad is h.2)

jobs_print : (cluster proc : ℕ) (ads : List Attributes) → 0 < cluster → cluster < 2 ^ 32 → proc + length ads ≤ 2 ^ 32 → AreLoggableJobs ads → IsPrintable (jobs_ops cluster proc ads)
jobs_print cluster proc [] some small few are = tt
jobs_print cluster proc (ad ∷ ads) some small few are =
    let is : IsJob (job_numbered cluster proc) = record { cluster_from = some; cluster_to = small; proc_to = omega (arith, few) } in
    both_print (ad_ops (Proc (job_numbered cluster proc)) ad) (jobs_ops cluster (proc + 1) ads)
    ((is, words_print.0, words_print.1), attributes_print cluster proc ad is are.0.printable)
    (jobs_print cluster (proc + 1) ads some small (omega (arith, few)) are.1)

submission_prints : (header : Bool) (cluster : ℕ) (ads : List Attributes) → 0 < cluster → cluster < 2 ^ 32 → length ads ≤ 2 ^ 32 → AreLoggableJobs ads → IsPrintable (submission_ops header cluster ads)
submission_prints header cluster ads some small few are = both_print (header_ops header) (next_cluster_op cluster ∷ jobs_ops cluster 0 ads) (of_header header)
    ((tt, next_cluster, integer_prints (cluster + 1) (omega (arith, small))), jobs_print cluster 0 ads some small (omega (arith, few)) are)
  where
    of_header : (b : Bool) → IsPrintable (header_ops b)
    of_header true = tt
    of_header false = ((tt, words_print.0, words_print.1), tt)

pub submission_logs : (q : KeyedAds) (cluster : ℕ) (ads : List Attributes) → IsQueue q → IsRoomy q → IsNewCluster q cluster → 0 < cluster → cluster < 2 ^ 32 → length ads ≤ 2 ^ 32 → AreLoggableJobs ads
    → CanBeLogged (submission_ops (is_some (ad_at Header q)) cluster ads) q
submission_logs q cluster ads s room new some small few are = record {
  done = ap is_ok (submission_done q cluster ads s room new are).1;
  printable = submission_prints (is_some (ad_at Header q)) cluster ads some small few are;
}

-- ---- the jobs of a submit file
printed : (ad : Attributes) → AreReadable ad → IsPrintableAd ad
printed [] h = tt
printed (a ∷ ad) h = (h.0, h.1.spelled, printed ad h.2)

pub submitted_are_loggable : (cluster proc : ℕ) (ads : List Attributes) → AreAds ads → AreSubmitted cluster proc ads → AreLoggableJobs ads
submitted_are_loggable cluster proc [] are h = tt
submitted_are_loggable cluster proc (ad ∷ ads) are h = (
  record { room = λ job. record { ad_is = are.0; own = h.0.small }; printable = printed ad h.0.readable },
  submitted_are_loggable cluster (proc + 1) ads are.1 h.1,
)
