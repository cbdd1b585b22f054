-- The job whose check is due first.
use Rattle.std.proofs.Common.{◌≡◌, ◌≤◌, ◌+◌, ℕ, Bool, true, false, true≢false, ◌&&◌, List, Option, Some, None, is_some, IfSome, refl, ap, sym, ◌∙◌, subst, arith}
use Rattle.std.proofs.lemmas.Bool.{leb-false, lt-leb}
use Rattle.ad_tree.specs.Ad.{Attributes}
use Rattle.claim_id.specs.declared.numbers.JobId.{JobId}
use Rattle.queue_tx.specs.declared.key.Key.{Key}
use Rattle.queue_tx.specs.declared.key.Key.TheVariants.{Header, Proc}
use Rattle.queue_tx.specs.Keys.{is_above}
use Rattle.queue_tx.specs.Periodic.{has_periodic, is_periodic, IsPeriodic}
use Rattle.queue_tx.specs.Queues.{KeyedAds, ad_at}
use Rattle.schedd_plan.specs.TickTable.{is_after}
use Rattle.schedd_state.specs.DueChecks.{is_unchecked_since, is_unchecked, is_check_due_by, is_check_due, checked_at, was_checked, job_of_key, IsNoLater, IsFirstDue, IsPassedTo, IsFresh, IsDueKey, IsDueKeyFirst, FirstDueKey, IsOldestPeriodic, OldestPeriodic, IsAgain, FirstAgain}
use Rattle.schedd_state.specs.Schedds.{ScheddValue}

none_of : (o : Option ℕ) → is_some o ≡ false → o ≡ None
none_of None h = refl
none_of (Some at) h = cc

at_of : (o : Option ℕ) → is_some o ≡ true → (at : ℕ) × (o ≡ Some at)
at_of None h = cc
at_of (Some at) h = (at, refl)

-- ---- of those that were looked at
not_sooner : (at other seconds reading : ℕ) → at ≤ other → is_after at seconds reading ≡ false → is_after other seconds reading ≡ false
not_sooner at other seconds reading h before =
    let less = leb-false (at + seconds) reading before in
    lt-leb (other + seconds) reading (omega (arith, h, less))

pub none_again : (q : KeyedAds) (looks : List (Key × ℕ)) (seconds reading : ℕ) → OldestPeriodic q looks None → FirstAgain q looks seconds reading None
none_again q looks seconds reading none key at periodic is =
    let clash : true ≡ false = sym (ap is_some is) ∙ none key periodic in cc

pub not_again : (q : KeyedAds) (looks : List (Key × ℕ)) (seconds reading : ℕ) (found : Key × ℕ) → IsOldestPeriodic q looks found → is_after found.1 seconds reading ≡ false → FirstAgain q looks seconds reading None
not_again q looks seconds reading found oldest before key at periodic is = not_sooner found.1 at seconds reading (oldest.first key at periodic is) before

-- ---- of all
module _ (q : KeyedAds) (looks : List (Key × ℕ)) (seconds reading : ℕ) where
  pub fresh_due : (key : Key) → IsFresh q looks key → IsDueKey q looks seconds reading key
  fresh_due key f = (f.0, ap (λ o. is_unchecked_since o seconds reading) (none_of (checked_at looks key) f.1))

  again_due : (key : Key) → IsAgain q looks seconds reading key → IsDueKey q looks seconds reading key
  again_due key a = (a.oldest.periodic, ap (λ o. is_unchecked_since o seconds reading) a.oldest.at ∙ a.due)

  pub found_due : (found : Option Key) → FirstAgain q looks seconds reading found → IfSome found (λ key. IsDueKey q looks seconds reading key)
  found_due None none = tt
  found_due (Some key) a = again_due key a

  pub fresh_first : (key : Key) → IsFresh q looks key → IsDueKeyFirst q looks seconds reading key
  fresh_first key f = record {
    due = fresh_due key f;
    first = λ other due. subst (λ o. IsNoLater o (checked_at looks other)) (sym (none_of (checked_at looks key) f.1)) tt;
  }

  all_checked : (passed : Option Key) → IsPassedTo q looks passed → ((key : Key) → IsFresh q looks key → is_above passed key ≡ false) → (key : Key) → IsPeriodic q key → was_checked looks key ≡ true
  all_checked passed to none key periodic = by (was_checked looks key) refl
    where
      by : (b : Bool) → was_checked looks key ≡ b → was_checked looks key ≡ true
      by true is = is
      by false is = to key periodic (none key (periodic, is))

  pub again_first : (passed : Option Key) → ((key : Key) → IsFresh q looks key → is_above passed key ≡ false) → (found : Option Key) → FirstAgain q looks seconds reading found → IsPassedTo q looks passed → FirstDueKey q looks seconds reading found
  again_first passed none None not_due to = λ key due.
      let at = at_of (checked_at looks key) (all_checked passed to none key due.0) in
      let clash : true ≡ false = sym due.1 ∙ (ap (λ o. is_unchecked_since o seconds reading) at.1 ∙ not_due key at.0 due.0 at.1) in
      true≢false clash
  again_first passed none (Some key) a to = record {
    due = again_due key a;
    first = λ other due.
        let at = at_of (checked_at looks other) (all_checked passed to none other due.0) in
        subst (λ o. IsNoLater o (checked_at looks other)) (sym a.oldest.at) (subst (λ o. IsNoLater (Some a.at) o) (sym at.1) (a.oldest.first other at.0 due.0 at.1));
  }

-- ---- the job under the key
module _ (v : ScheddValue) (q : KeyedAds) (reading : ℕ) where
  abbrev IsDueHere : Key → Type 0
  IsDueHere key = IsDueKey q v.checked v.settings.periodic_interval reading key

  both : (b c : Bool) → (b && c) ≡ true → (b ≡ true) × (c ≡ true)
  both true c h = (refl, h)
  both false c h = cc

  due_key : (job : JobId) → is_check_due v q job reading ≡ true → IsDueHere (Proc job)
  due_key job h = by (ad_at (Proc job) q) refl h
    where
      by : (a : Option Attributes) → ad_at (Proc job) q ≡ a → is_check_due_by a v job reading ≡ true → IsDueHere (Proc job)
      by None is h = cc
      by (Some ad) is h =
          let parts = both (has_periodic ad) (is_unchecked v job reading) h in
          (ap (is_periodic (Proc job)) is ∙ parts.0, parts.1)

  key_due : (job : JobId) → IsDueHere (Proc job) → is_check_due v q job reading ≡ true
  key_due job d = by (ad_at (Proc job) q) refl d.0
    where
      by : (a : Option Attributes) → ad_at (Proc job) q ≡ a → is_periodic (Proc job) a ≡ true → is_check_due v q job reading ≡ true
      by None is h = cc
      by (Some ad) is h = ap (λ o. is_check_due_by o v job reading) is ∙ (ap (λ b. b && is_unchecked v job reading) h ∙ d.1)

  pub job_due : (found : Option Key) → IfSome found IsDueHere → IfSome (job_of_key found) (λ job. is_check_due v q job reading ≡ true)
  job_due None d = tt
  job_due (Some Header) d = tt
  job_due (Some (Proc job)) d = key_due job d

  pub job_first : (found : Option Key) → FirstDueKey q v.checked v.settings.periodic_interval reading found → IsFirstDue v q reading (job_of_key found)
  job_first None none = λ job. by job (is_check_due v q job reading) refl
    where
      by : (job : JobId) (b : Bool) → is_check_due v q job reading ≡ b → b ≡ false
      by job true is = absurd (none (Proc job) (due_key job is))
      by job false is = refl
  job_first (Some Header) f = let clash : true ≡ false = sym f.due.0 in cc
  job_first (Some (Proc job)) f = record { due = key_due job f.due; first = λ other due. f.first (Proc other) (due_key other due) }
