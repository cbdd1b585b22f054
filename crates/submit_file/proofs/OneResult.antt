-- A file has one result.
use Rattle.std.proofs.Common.{◌≡◌, ℕ, cond, List, [], ◌∷◌, ◌++◌, Option, Some, None, Result, Ok, Err, refl, ap, sym, ◌∙◌, subst, arith}
use Rattle.std.specs.Prelude.{unwrap_or}
use Rattle.ad_tree.specs.Ad.{Attributes}
use Rattle.line_text.specs.declared.error.MacroError.{MacroError}
use Rattle.line_text.specs.declared.error.MacroError.TheVariants as macro
use Rattle.line_text.specs.declared.logical.Line.{Line}
use Rattle.line_text.specs.Expansion.{IsExpansion, IsRefused}
use Rattle.line_text.specs.Macros.{Macros}
use Rattle.line_text.proofs.LawLemmas.{texts_are_one}
use Rattle.line_text.proofs.OneOutcome.{not_met, not_passed}
use Rattle.line_text.proofs.OneRefusal.{one_refusal}
use Rattle.submit_lines.specs.declared.line.LineFault.{LineFault}
use Rattle.submit_lines.specs.declared.queue.Queue.{Queue}
use Rattle.submit_lines.specs.Lines as meaning
use Rattle.submit_lines.specs.Lines.{LineResult, line_of}
use Rattle.submit_lines.specs.Queue.{queue_of}
use Rattle.submit_file.specs.declared.error.SubmitError.{SubmitError}
use Rattle.submit_file.specs.declared.error.SubmitError.TheVariants as error
use Rattle.submit_file.specs.declared.file.FileSoFar.{FileSoFar}
use Rattle.submit_file.specs.declared.setting.LinesSoFar.{LinesSoFar}
use Rattle.submit_file.specs.Errors.{Replaced, replaced, refused}
use Rattle.submit_file.specs.SubmittedJobs.{line_error, AdsResult, MakesJobs, jobs_end, stops, and_job, Asks, too_many, no_program, no_jobs, jobs, Queues, unreadable, no_form, asks, Reads, ended, no_queue, refuses, sets, sets_attribute, refuses_queue, queues, with_name, with_attribute_line, with_ads, SubmittedJobs}
use Rattle.submit_file.specs.Drafts.{JobDraft, Effect, with_effect, ad_of}
use Rattle.submit_file.specs.Origins.{Origin}
use Rattle.submit_file.specs.OneJob.{Common, place_of, effect_at, Gives, nothing_set, is_set, Takes, takes, TakesAll, all_taken, and_takes, origins, queued, Fills, fills, IsJob, is_job}

some_is : {A : Type 0} {x y : A} → Some x ≡ Some y → x ≡ y
some_is {x = x} e = ap (λ o. unwrap_or o x) e

none_is_some : {A : Type 0} {x : A} {o : Option A} → o ≡ None → o ≡ Some x → ⊥
none_is_some e f = cc

abbrev error_in : {X : Type 0} → Result X SubmitError → SubmitError
error_in (Ok x) = error.NoQueue
error_in (Err f) = f

clash : {X E : Type 0} {x : X} {e : E} → Err e ≡ Ok x → ⊥
clash e = cc

abbrev text_in : Result (List ℕ) SubmitError → List ℕ
text_in (Ok x) = x
text_in (Err f) = []

-- ---- a value

no_refusal : (t : Macros) (text x : List ℕ) (f : MacroError) → IsExpansion t text x → IsRefused t text f → (f ≡ macro.Memory → ⊥) → ⊥
no_refusal t text x (macro.Bad at) h r other = not_met t text x (macro.Bad at) h r
no_refusal t text x (macro.Circular name) h r other = not_met t text x (macro.Circular name) h r
no_refusal t text x (macro.TooLong n) h r other = not_passed t text x n h r
no_refusal t text x macro.Memory h r other = other refl

module _ {t : Macros} {text : List ℕ} {n : ℕ} where
  one_text : {r q : Result (List ℕ) SubmitError} → Replaced t text n r → Replaced t text n q → r ≡ q
  one_text (replaced {x = x} h) (replaced {x = y} k) = ap (λ x. Ok x) (texts_are_one t text x y h k)
  one_text (replaced {x = x} h) (refused {f = f} k other) = absurd (no_refusal t text x f h k other)
  one_text (refused {f = f} h other) (replaced {x = x} k) = absurd (no_refusal t text x f k h other)
  one_text (refused {f = f} h other) (refused {f = g} k another) = ap (λ f. Err (error.Macro n f)) (one_refusal t text f g h k other another)

-- ---- a job

module _ {h : Common} {f : LinesSoFar} {t : Macros} {n : ℕ} where
  one_effect : {o : Origin} {e g : Effect} → Gives h f t n o e → Gives h f t n o g → e ≡ g
  one_effect (nothing_set p) (nothing_set q) = refl
  one_effect (nothing_set p) (is_set q r) = absurd (none_is_some p q)
  one_effect (is_set q r) (nothing_set p) = absurd (none_is_some p q)
  one_effect {o = o} (is_set {s = s} {r = a} p r) (is_set {s = u} {r = b} q k) =
      let same : s ≡ u = some_is (sym p ∙ q) in
      let text : a ≡ b = one_text r (subst (λ u. Replaced t u.value u.line b) (sym same) k) in
      (λ i. effect_at o (place_of (same i) n) (text i))

  one_taken : {o : Origin} {d e g : JobDraft} → Takes h f t n o d e → Takes h f t n o d g → e ≡ g
  one_taken {d = d} (takes p) (takes q) = ap (λ e. with_effect e d) (one_effect p q)

  all_one : {os : List Origin} {d e g : JobDraft} → TakesAll h f t n os d e → TakesAll h f t n os d g → e ≡ g
  all_one all_taken all_taken = refl
  all_one {g = g} (and_takes {os = os} p more) (and_takes q rest) =
      all_one more (subst (λ m. TakesAll h f t n os m g) (sym (one_taken p q)) rest)

  one_filled : {proc : ℕ} {d e g : JobDraft} → Fills h f t proc n d e → Fills h f t proc n d g → e ≡ g
  one_filled {g = g} (fills p more) (fills q rest) =
      all_one more (subst (λ m. TakesAll h f t n (origins f) (queued h m) g) (sym (one_taken p q)) rest)

  one_ad : {proc : ℕ} {r q : Result Attributes SubmitError} → IsJob h f t proc n r → IsJob h f t proc n q → r ≡ q
  one_ad (is_job p) (is_job q) = ap (ad_of n) (one_filled p q)

-- ---- a queue statement

abbrev ad_in : Result Attributes SubmitError → Attributes
ad_in (Ok ad) = ad
ad_in (Err f) = []

module _ {h : Common} {f : LinesSoFar} {n : ℕ} where
  all_jobs : {is : List (Option (List ℕ × List ℕ))} {ads : List Attributes} {r q : AdsResult} → MakesJobs h f n is ads r → MakesJobs h f n is ads q → r ≡ q
  all_jobs jobs_end jobs_end = refl
  all_jobs (stops p) (stops q) = ap (λ f. Err f) (ap error_in (one_ad p q))
  all_jobs (stops p) (and_job q rest) = absurd (clash (one_ad p q))
  all_jobs (and_job p more) (stops q) = absurd (clash (one_ad q p))
  all_jobs {ads = ads} {q = q} (and_job {is = is} p more) (and_job k rest) =
      all_jobs more (subst (λ ad. MakesJobs h f n is (ads ++ ad ∷ []) q) (sym (ap ad_in (one_ad p k))) rest)

module _ {h : Common} {f : FileSoFar} {n : ℕ} where
  one_asked : {q : Queue} {r s : AdsResult} → Asks h f n q r → Asks h f n q s → r ≡ s
  one_asked (too_many p) (too_many q) = refl
  one_asked (too_many p) (no_program q none k) = absurd (p q)
  one_asked (too_many p) (no_jobs q none k) = absurd (p q)
  one_asked (too_many p) (jobs q some k) = absurd (p q)
  one_asked (no_program p none k) (too_many q) = absurd (q p)
  one_asked (no_program p none k) (no_program q also l) = refl
  one_asked (no_program p none k) (no_jobs q also l) = absurd (k l)
  one_asked (no_program p none k) (jobs q some l) = absurd (omega (arith, none, some))
  one_asked (no_jobs p none k) (too_many q) = absurd (q p)
  one_asked (no_jobs p none k) (no_program q also l) = absurd (l k)
  one_asked (no_jobs p none k) (no_jobs q also l) = refl
  one_asked (no_jobs p none k) (jobs q some l) = absurd (omega (arith, none, some))
  one_asked (jobs p some k) (too_many q) = absurd (q p)
  one_asked (jobs p some k) (no_program q none l) = absurd (omega (arith, none, some))
  one_asked (jobs p some k) (no_jobs q none l) = absurd (omega (arith, none, some))
  one_asked (jobs p some k) (jobs q also l) = all_jobs k l

  one_queued : {s : List ℕ} {r q : AdsResult} → Queues h f n s r → Queues h f n s q → r ≡ q
  one_queued (unreadable p) (unreadable q) = ap (λ f. Err f) (ap error_in (one_text p q))
  one_queued (unreadable p) (no_form q k) = absurd (clash (one_text p q))
  one_queued (unreadable p) (asks q k l) = absurd (clash (one_text p q))
  one_queued (no_form p k) (unreadable q) = absurd (clash (one_text q p))
  one_queued (no_form p k) (no_form q l) = refl
  one_queued (no_form p k) (asks q l m) = absurd (none_is_some k (ap queue_of (ap text_in (one_text p q)) ∙ l))
  one_queued (asks p k l) (unreadable q) = absurd (clash (one_text q p))
  one_queued (asks p k l) (no_form q m) = absurd (none_is_some (ap queue_of (ap text_in (one_text p q)) ∙ m) k)
  one_queued {q = z} (asks p k l) (asks q m o) =
      one_asked l (subst (λ q. Asks h f n q z) (sym (some_is (sym k ∙ ap queue_of (ap text_in (one_text p q)) ∙ m))) o)

-- ---- the lines

abbrev name_in : LineResult → List ℕ
name_in (Ok (meaning.setting x v)) = x
name_in (Ok (meaning.attribute x v)) = x
name_in (Ok (meaning.queue q)) = q
name_in (Err g) = []

abbrev value_in : LineResult → List ℕ
value_in (Ok (meaning.setting x v)) = v
value_in (Ok (meaning.attribute x v)) = v
value_in (Ok (meaning.queue q)) = []
value_in (Err g) = []

abbrev fault_in : LineResult → LineFault → LineFault
fault_in (Ok m) g = g
fault_in (Err f) g = f

setting_not_fault : {r : LineResult} {x v : List ℕ} {g : LineFault} → r ≡ Ok (meaning.setting x v) → r ≡ Err g → ⊥
setting_not_fault e k = cc

attribute_not_fault : {r : LineResult} {x v : List ℕ} {g : LineFault} → r ≡ Ok (meaning.attribute x v) → r ≡ Err g → ⊥
attribute_not_fault e k = cc

queue_not_fault : {r : LineResult} {q : List ℕ} {g : LineFault} → r ≡ Ok (meaning.queue q) → r ≡ Err g → ⊥
queue_not_fault e k = cc

setting_not_attribute : {r : LineResult} {x v y w : List ℕ} → r ≡ Ok (meaning.setting x v) → r ≡ Ok (meaning.attribute y w) → ⊥
setting_not_attribute e k = cc

setting_not_queue : {r : LineResult} {x v q : List ℕ} → r ≡ Ok (meaning.setting x v) → r ≡ Ok (meaning.queue q) → ⊥
setting_not_queue e k = cc

attribute_not_queue : {r : LineResult} {x v q : List ℕ} → r ≡ Ok (meaning.attribute x v) → r ≡ Ok (meaning.queue q) → ⊥
attribute_not_queue e k = cc

-- what comes after a queue statement
data AfterQueue (h : Common) (f : FileSoFar) (n : ℕ) (q : List ℕ) (ls : List Line) : AdsResult → Type 0 where
  stopped : {g : SubmitError} → Queues h f n q (Err g) → AfterQueue h f n q ls (Err g)
  went_on : {ads : List Attributes} {r : AdsResult} → Queues h f n q (Ok ads) → Reads h ls (with_ads ads f) r → AfterQueue h f n q ls r

module _ {h : Common} {f : FileSoFar} {l : Line} {ls : List Line} where
  at_fault : {g : LineFault} {r : AdsResult} → line_of l.text ≡ Err g → Reads h (l ∷ ls) f r → r ≡ Err (line_error l.number g)
  at_fault {g = g} e (refuses k) = ap (λ m. Err (line_error l.number (fault_in m g))) (sym k ∙ e)
  at_fault e (sets k more) = absurd (setting_not_fault k e)
  at_fault e (sets_attribute k more) = absurd (attribute_not_fault k e)
  at_fault e (refuses_queue k q) = absurd (queue_not_fault k e)
  at_fault e (queues k q more) = absurd (queue_not_fault k e)

  at_setting : {x v : List ℕ} {r : AdsResult} → line_of l.text ≡ Ok (meaning.setting x v) → Reads h (l ∷ ls) f r → Reads h ls (with_name x v l.number f) r
  at_setting e (refuses k) = absurd (setting_not_fault e k)
  at_setting {r = r} e (sets k more) = subst (λ m. Reads h ls (with_name (name_in m) (value_in m) l.number f) r) (sym k ∙ e) more
  at_setting e (sets_attribute k more) = absurd (setting_not_attribute e k)
  at_setting e (refuses_queue k q) = absurd (setting_not_queue e k)
  at_setting e (queues k q more) = absurd (setting_not_queue e k)

  at_attribute : {x v : List ℕ} {r : AdsResult} → line_of l.text ≡ Ok (meaning.attribute x v) → Reads h (l ∷ ls) f r → Reads h ls (with_attribute_line x v l.number f) r
  at_attribute e (refuses k) = absurd (attribute_not_fault e k)
  at_attribute e (sets k more) = absurd (setting_not_attribute k e)
  at_attribute {r = r} e (sets_attribute k more) = subst (λ m. Reads h ls (with_attribute_line (name_in m) (value_in m) l.number f) r) (sym k ∙ e) more
  at_attribute e (refuses_queue k q) = absurd (attribute_not_queue e k)
  at_attribute e (queues k q more) = absurd (attribute_not_queue e k)

  at_queue : {q : List ℕ} {r : AdsResult} → line_of l.text ≡ Ok (meaning.queue q) → Reads h (l ∷ ls) f r → AfterQueue h f l.number q ls r
  at_queue e (refuses k) = absurd (queue_not_fault e k)
  at_queue e (sets k more) = absurd (setting_not_queue k e)
  at_queue e (sets_attribute k more) = absurd (attribute_not_queue k e)
  at_queue e (refuses_queue {g = g} k q) = stopped (subst (λ m. Queues h f l.number (name_in m) (Err g)) (sym k ∙ e) q)
  at_queue e (queues {ads = ads} k q more) = went_on (subst (λ m. Queues h f l.number (name_in m) (Ok ads)) (sym k ∙ e) q) more

abbrev ads_in : AdsResult → List Attributes
ads_in (Ok ads) = ads
ads_in (Err f) = []

at_end : {h : Common} {f : FileSoFar} {r : AdsResult} → Reads h [] f r → r ≡ cond f.has_queue (Ok f.ads) (Err error.NoQueue)
at_end {f = f} (ended e) = sym (ap (λ b. cond b (Ok f.ads) (Err error.NoQueue)) e)
at_end {f = f} (no_queue e) = sym (ap (λ b. cond b (Ok f.ads) (Err error.NoQueue)) e)

module _ {h : Common} where
  one_read : {ls : List Line} {f : FileSoFar} {r q : AdsResult} → Reads h ls f r → Reads h ls f q → r ≡ q
  one_read {f = f} (ended e) other = at_end {h = h} {f = f} (ended e) ∙ sym (at_end other)
  one_read {f = f} (no_queue e) other = at_end {h = h} {f = f} (no_queue e) ∙ sym (at_end other)
  one_read (refuses e) other = sym (at_fault e other)
  one_read (sets e more) other = one_read more (at_setting e other)
  one_read (sets_attribute e more) other = one_read more (at_attribute e other)
  one_read (refuses_queue e p) other = by p (at_queue e other)
    where
      by : {f : FileSoFar} {n : ℕ} {s : List ℕ} {ls : List Line} {g : SubmitError} {q : AdsResult} → Queues h f n s (Err g) → AfterQueue h f n s ls q → Err g ≡ q
      by p (stopped k) = ap (λ f. Err f) (ap error_in (one_queued p k))
      by p (went_on k rest) = absurd (clash (one_queued p k))
  one_read {f = f} (queues {l = l} {ls = ls} {q = s} {ads = ads} {r = r} e p more) other = by (at_queue e other) (λ q rest. one_read more rest)
    where
      by : {q : AdsResult} → AfterQueue h f l.number s ls q → ((q : AdsResult) → Reads h ls (with_ads ads f) q → r ≡ q) → r ≡ q
      by (stopped k) all = absurd (clash (one_queued k p))
      by {q = q} (went_on k rest) all = all q (subst (λ ads. Reads h ls (with_ads ads f) q) (sym (ap ads_in (one_queued p k))) rest)

pub one_result : (text : List ℕ) (h : Common) (r q : AdsResult) → SubmittedJobs text h r → SubmittedJobs text h q → r ≡ q
one_result text h r q p k = one_read p k
