-- A file at another reading.
use Rattle.std.proofs.Common.{◌≡◌, ℕ, suc, ◌+◌, ◌≤◌, Bool, true, false, true≢false, cond, not, ◌&&◌, List, [], ◌∷◌, ◌++◌, length, Option, Some, None, Result, Ok, Err, refl, ap, sym, ◌∙◌, subst}
use Rattle.std.specs.Prelude.{unwrap_or, decimal, is_some, nat_eq, nat_le}
use Rattle.std.specs.Str.{bytes_eq}
use Rattle.std.specs.Cmp.Lexicographic.{bytes_decides}
use Rattle.std.specs.List.{AllZip, fold, list_any}
use Rattle.std.proofs.lemmas.Bool.{false≢true}
use Rattle.ad_value.specs.Names.{lowercase, same_name}
use Rattle.ad_value.specs.Groups.{pool_names}
use Rattle.ad_value.specs.declared.names.job.TheConstants.{Q_DATE, JOB_STATUS, JOB_UNIVERSE}
use Rattle.ad_tree.specs.Ad.{Attributes, lookup, with_attribute}
use Rattle.ad_tree.specs.Tree.{Tree}
use Rattle.ad_parse.specs.AdText.{is_full_for}
use Rattle.ad_rows.specs.Submitted.{own_attributes}
use Rattle.line_text.specs.declared.logical.Line.{Line}
use Rattle.line_text.specs.Macros.{Macros}
use Rattle.submit_lines.specs.declared.queue.Queue.{Queue}
use Rattle.submit_lines.specs.JobAds.{added, finished}
use Rattle.submit_file.specs.declared.error.SubmitError.{SubmitError}
use Rattle.submit_file.specs.declared.error.SubmitError.TheVariants as error
use Rattle.submit_file.specs.declared.file.FileSoFar.{FileSoFar}
use Rattle.submit_file.specs.declared.setting.LinesSoFar.{LinesSoFar}
use Rattle.submit_file.specs.declared.error.TheConstants.{MAX_JOBS}
use Rattle.submit_file.specs.Drafts.{JobDraft, Effect, named_value, macro_refusal, with_given, with_effect, with_room, ad_or, ad_of}
use Rattle.submit_file.specs.Errors.{earlier, error_at}
use Rattle.submit_file.specs.Origins.{Origin}
use Rattle.submit_file.specs.OtherReadings.{at_reading, IsSameButDate, AgreeButDate, HaveOneResult}
use Rattle.submit_file.specs.OneJob.{Common, whole, Gives, nothing_set, is_set, Takes, takes, TakesAll, all_taken, and_takes, numbered, queued, fills, nothing, IsJob, is_job}
use Rattle.submit_file.specs.SubmittedJobs.{AdsResult, MakesJobs, jobs_end, stops, and_job, jobs_in, FitsIn, Asks, too_many, no_program, no_jobs, jobs, Queues, unreadable, no_form, asks, Reads, ended, no_queue, refuses, sets, sets_attribute, refuses_queue, queues, SubmittedJobs}
use Rattle.submit_file.specs.JobMacros.{job_macros}
use Rattle.submit_file.proofs.OneResult.{one_result}

-- ---- ads

found_alike : (x : List ℕ) (ad bd : Attributes) → AgreeButDate ad bd → is_some (lookup x ad) ≡ is_some (lookup x bd)
found_alike x [] [] agree = refl
found_alike x [] (b ∷ bd) agree = absurd agree
found_alike x (a ∷ ad) [] agree = absurd agree
found_alike x (a ∷ ad) (b ∷ bd) agree = by (same_name x a.0) (same_name x b.0) (ap (same_name x) agree.0.0) (found_alike x ad bd agree.1)
  where
    by : (s t : Bool) → s ≡ t → is_some (lookup x ad) ≡ is_some (lookup x bd) → is_some (cond s (Some a.1) (lookup x ad)) ≡ is_some (cond t (Some b.1) (lookup x bd))
    by true true same more = refl
    by true false same more = absurd (true≢false same)
    by false true same more = absurd (false≢true same)
    by false false same more = more

as_long : {A B : Type 0} (R : A → B → Type 0) (xs : List A) (ys : List B) → AllZip R xs ys → length xs ≡ length ys
as_long R [] [] all = refl
as_long R [] (y ∷ ys) all = absurd all
as_long R (x ∷ xs) [] all = absurd all
as_long R (x ∷ xs) (y ∷ ys) all = ap suc (as_long R xs ys all.1)

full_alike : (x : List ℕ) (ad bd : Attributes) → AgreeButDate ad bd → is_full_for x ad ≡ is_full_for x bd
full_alike x ad bd agree =
    let found = found_alike x ad bd agree in
    let long = as_long IsSameButDate ad bd agree in
    (λ i. not (found i) && nat_eq (long i) 256)

with_alike : (x : List ℕ) (e g : Tree) (ad bd : Attributes) → (same_name Q_DATE.now x ≡ false → e ≡ g) → AgreeButDate ad bd → AgreeButDate (with_attribute x e ad) (with_attribute x g bd)
with_alike x e g [] [] same agree = ((refl, same), tt)
with_alike x e g [] (b ∷ bd) same agree = absurd agree
with_alike x e g (a ∷ ad) [] same agree = absurd agree
with_alike x e g (a ∷ ad) (b ∷ bd) same agree = by (same_name x a.0) refl (same_name x b.0) (ap (same_name x) agree.0.0) (with_alike x e g ad bd same agree.1)
  where
    by : (s : Bool) → same_name x a.0 ≡ s → (t : Bool) → s ≡ t → AgreeButDate (with_attribute x e ad) (with_attribute x g bd) → AgreeButDate (cond s ((a.0, e) ∷ ad) (a ∷ with_attribute x e ad)) (cond t ((b.0, g) ∷ bd) (b ∷ with_attribute x g bd))
    by true is true both more =
        ((agree.0.0, λ other. same (ap (bytes_eq (lowercase Q_DATE.now)) ((bytes_decides (lowercase x) (lowercase a.0)).0 is) ∙ other)), agree.1)
    by true is false both more = absurd (true≢false both)
    by false is true both more = absurd (false≢true both)
    by false is false both more = (agree.0, more)

own_alike : (n : ℕ) (ad bd : Attributes) → AgreeButDate ad bd
    → fold (λ s a. s + cond (not (list_any (same_name a.0) pool_names)) 1 0) n ad ≡ fold (λ s a. s + cond (not (list_any (same_name a.0) pool_names)) 1 0) n bd
own_alike n [] [] agree = refl
own_alike n [] (b ∷ bd) agree = absurd agree
own_alike n (a ∷ ad) [] agree = absurd agree
own_alike n (a ∷ ad) (b ∷ bd) agree =
    let own : cond (not (list_any (same_name a.0) pool_names)) 1 0 ≡ cond (not (list_any (same_name b.0) pool_names)) 1 0 = ap (λ x. cond (not (list_any (same_name x) pool_names)) 1 0) agree.0.0 in
    own_alike (n + cond (not (list_any (same_name a.0) pool_names)) 1 0) ad bd agree.1
    ∙ ap (λ m. fold (λ s a. s + cond (not (list_any (same_name a.0) pool_names)) 1 0) (n + m) bd) own

-- ---- an ad in the making

abbrev MayAgree : Option Attributes → Option Attributes → Type 0
MayAgree None None = Unit {0}
MayAgree None (Some bd) = ⊥
MayAgree (Some ad) None = ⊥
MayAgree (Some ad) (Some bd) = AgreeButDate ad bd

record Alike (d c : JobDraft) : Type 0 where
  ad : MayAgree d.ad c.ad
  refusal : d.refusal ≡ c.refusal

added_alike : (x : List ℕ) (e g : Tree) (o p : Option Attributes) → (same_name Q_DATE.now x ≡ false → e ≡ g) → MayAgree o p → MayAgree (added x e o) (added x g p)
added_alike x e g None None same agree = tt
added_alike x e g None (Some bd) same agree = absurd agree
added_alike x e g (Some ad) None same agree = absurd agree
added_alike x e g (Some ad) (Some bd) same agree = by (is_full_for x ad) (is_full_for x bd) (full_alike x ad bd agree)
  where
    by : (s t : Bool) → s ≡ t → MayAgree (cond s None (Some (with_attribute x e ad))) (cond t None (Some (with_attribute x g bd)))
    by true true both = tt
    by true false both = absurd (true≢false both)
    by false true both = absurd (false≢true both)
    by false false both = with_alike x e g ad bd same agree

given_alike : (x : List ℕ) (e g : Tree) (d c : JobDraft) → (same_name Q_DATE.now x ≡ false → e ≡ g) → Alike d c → Alike (with_given x e d) (with_given x g c)
given_alike x e g d c same a = record { ad = added_alike x e g d.ad c.ad same a.ad; refusal = a.refusal }

effect_alike : (e : Effect) (d c : JobDraft) → Alike d c → Alike (with_effect e d) (with_effect e c)
effect_alike (named_value x p (Ok (Some e))) d c a = given_alike x e e d c (λ other. refl) a
effect_alike (named_value x p (Ok None)) d c a = a
effect_alike (named_value x p (Err f)) d c a = record { ad = a.ad; refusal = ap (earlier (error_at f p)) a.refusal }
effect_alike (macro_refusal f) d c a = record { ad = a.ad; refusal = ap (earlier f) a.refusal }

some_is : {A : Type 0} {x y : A} → Some x ≡ Some y → x ≡ y
some_is {x = x} e = ap (λ o. unwrap_or o x) e

some_none : {A : Type 0} {x : A} → Some x ≡ None → ⊥
some_none e = cc

none_some : {A : Type 0} {x : A} → None ≡ Some x → ⊥
none_some e = cc

abbrev SameAd : Result Attributes SubmitError → Result Attributes SubmitError → Type 0
SameAd (Ok ad) (Ok bd) = AgreeButDate ad bd
SameAd (Ok ad) (Err g) = ⊥
SameAd (Err f) (Ok bd) = ⊥
SameAd (Err f) (Err g) = f ≡ g

room_alike : (n : ℕ) (o p : Option Attributes) → MayAgree o p → SameAd (with_room n (finished o)) (with_room n (finished p))
room_alike n None None agree = refl
room_alike n None (Some bd) agree = absurd agree
room_alike n (Some ad) None agree = absurd agree
room_alike n (Some ad) (Some bd) agree = by (nat_le (own_attributes ad) 248) (nat_le (own_attributes bd) 248) (ap (λ m. nat_le m 248) (own_alike 0 ad bd agree))
  where
    by : (s t : Bool) → s ≡ t → SameAd (with_room n (cond s (Some ad) None)) (with_room n (cond t (Some bd) None))
    by true true both = agree
    by true false both = absurd (true≢false both)
    by false true both = absurd (false≢true both)
    by false false both = refl

ad_alike : (n : ℕ) (o p : Option Attributes) (r s : Option SubmitError) → MayAgree o p → r ≡ s → SameAd (ad_or n o r) (ad_or n p s)
ad_alike n o p (Some f) (Some g) agree same = some_is same
ad_alike n o p (Some f) None agree same = absurd (some_none same)
ad_alike n o p None (Some g) agree same = absurd (none_some same)
ad_alike n o p None None agree same = room_alike n o p agree

-- ---- a job

-- an ad in the making that is made so and like this one
record Made (P : JobDraft → Type 0) (d : JobDraft) : Type 0 where
  other : JobDraft
  made : P other
  alike : Alike d other

record MadeJob (P : Result Attributes SubmitError → Type 0) (r : Result Attributes SubmitError) : Type 0 where
  other : Result Attributes SubmitError
  made : P other
  same : SameAd r other

record MadeJobs (P : AdsResult → Type 0) (r : AdsResult) : Type 0 where
  other : AdsResult
  made : P other
  same : HaveOneResult r other

push_alike : (ads others : List Attributes) (ad bd : Attributes) → AllZip AgreeButDate ads others → AgreeButDate ad bd → AllZip AgreeButDate (ads ++ ad ∷ []) (others ++ bd ∷ [])
push_alike [] [] ad bd all agree = (agree, tt)
push_alike [] (b ∷ bs) ad bd all agree = absurd all
push_alike (a ∷ us) [] ad bd all agree = absurd all
push_alike (a ∷ us) (b ∷ bs) ad bd all agree = (all.0, push_alike us bs ad bd all.1 agree)

module _ (h : Common) (later : ℕ) where
  gives_again : {f : LinesSoFar} {t : Macros} {n : ℕ} {o : Origin} {e : Effect} → Gives h f t n o e → Gives (at_reading later h) f t n o e
  gives_again (nothing_set p) = nothing_set p
  gives_again (is_set p r) = is_set p r

  takes_again : {f : LinesSoFar} {t : Macros} {n : ℕ} {o : Origin} {d g : JobDraft} (c : JobDraft) → Takes h f t n o d g → Alike d c → Made (Takes (at_reading later h) f t n o c) g
  takes_again {d = d} c (takes {e = e} gives) a = record { other = with_effect e c; made = takes (gives_again gives); alike = effect_alike e d c a }

  all_again : {f : LinesSoFar} {t : Macros} {n : ℕ} {os : List Origin} {d g : JobDraft} (c : JobDraft) → TakesAll h f t n os d g → Alike d c → Made (TakesAll (at_reading later h) f t n os c) g
  all_again c all_taken a = record { other = c; made = all_taken; alike = a }
  all_again c (and_takes one rest) a =
      let first = takes_again c one a in
      let others = all_again first.other rest first.alike in
      record { other = others.other; made = and_takes first.made others.made; alike = others.alike }

  queued_alike : (d c : JobDraft) → Alike d c → Alike (queued h d) (queued (at_reading later h) c)
  queued_alike d c a =
      let dated = given_alike Q_DATE.now (whole h.now) (whole later) d c (λ other. absurd (true≢false other)) a in
      let at = given_alike JOB_UNIVERSE.now (whole 5) (whole 5) (with_given Q_DATE.now (whole h.now) d) (with_given Q_DATE.now (whole later) c) (λ other. refl) dated in
      given_alike JOB_STATUS.now (whole 1) (whole 1) (with_given JOB_UNIVERSE.now (whole 5) (with_given Q_DATE.now (whole h.now) d)) (with_given JOB_UNIVERSE.now (whole 5) (with_given Q_DATE.now (whole later) c)) (λ other. refl) at

  same_draft : (d : JobDraft) → Alike d d
  same_draft d = record { ad = by d.ad; refusal = refl }
    where
      each : (ad : Attributes) → AgreeButDate ad ad
      each [] = tt
      each (a ∷ ad) = ((refl, λ other. refl), each ad)

      by : (o : Option Attributes) → MayAgree o o
      by None = tt
      by (Some ad) = each ad

  job_again : {f : LinesSoFar} {t : Macros} {proc n : ℕ} {r : Result Attributes SubmitError} → IsJob h f t proc n r → MadeJob (IsJob (at_reading later h) f t proc n) r
  job_again {proc = proc} {n = n} (is_job {d = d} (fills {e = e} own rest)) =
      let owner = takes_again (numbered h proc nothing) own (same_draft (numbered h proc nothing)) in
      let all = all_again (queued (at_reading later h) owner.other) rest (queued_alike e owner.other owner.alike) in
      record {
        other = ad_of n all.other;
        made = is_job (fills owner.made all.made);
        same = ad_alike n d.ad all.other.ad d.refusal all.other.refusal all.alike.ad all.alike.refusal;
      }

  -- ---- a queue statement

  jobs_again : {f : LinesSoFar} {n : ℕ} {is : List (Option (List ℕ × List ℕ))} {ads : List Attributes} {r : AdsResult} (others : List Attributes) → MakesJobs h f n is ads r → AllZip AgreeButDate ads others → MadeJobs (MakesJobs (at_reading later h) f n is others) r
  jobs_again others jobs_end all = record { other = Ok others; made = jobs_end; same = all }
  jobs_again {f = f} {n = n} {ads = ads} others (stops {i = i} {is = is} {g = g} job) all = let j = job_again job in by j.other j.made j.same
    where
      by : (x : Result Attributes SubmitError) → IsJob (at_reading later h) f (job_macros (decimal (length ads)) i f.table) (length ads) n x → SameAd (Err g) x → MadeJobs (MakesJobs (at_reading later h) f n (i ∷ is) others) (Err g)
      by (Ok bd) made same = absurd same
      by (Err k) made same = record {
        other = Err k;
        made = stops (subst (λ m. IsJob (at_reading later h) f (job_macros (decimal m) i f.table) m n (Err k)) (as_long AgreeButDate ads others all) made);
        same = same;
      }
  jobs_again {f = f} {n = n} {ads = ads} {r = r} others (and_job {i = i} {is = is} {ad = ad} job more) all = let j = job_again job in by j.other j.made j.same (λ bd agree. jobs_again (others ++ bd ∷ []) more (push_alike ads others ad bd all agree))
    where
      by : (x : Result Attributes SubmitError) → IsJob (at_reading later h) f (job_macros (decimal (length ads)) i f.table) (length ads) n x → SameAd (Ok ad) x
          → ((bd : Attributes) → AgreeButDate ad bd → MadeJobs (MakesJobs (at_reading later h) f n is (others ++ bd ∷ [])) r)
          → MadeJobs (MakesJobs (at_reading later h) f n (i ∷ is) others) r
      by (Err k) made same rest = absurd same
      by (Ok bd) made same rest =
          let m = rest bd same in
          record {
            other = m.other;
            made = and_job (subst (λ m. IsJob (at_reading later h) f (job_macros (decimal m) i f.table) m n (Ok bd)) (as_long AgreeButDate ads others all) made) m.made;
            same = m.same;
          }

  abbrev with_others : List Attributes → FileSoFar → FileSoFar
  with_others others f = record { lines = f.lines; has_queue = f.has_queue; ads = others }

  fits_again : (f : FileSoFar) (q : Queue) (others : List Attributes) → length f.ads ≡ length others → FitsIn f q → FitsIn (with_others others f) q
  fits_again f q others long fits = (fits.0, subst (λ m. m + jobs_in q.copies q.over ≤ MAX_JOBS) long fits.1)

  fits_before : (f : FileSoFar) (q : Queue) (others : List Attributes) → length f.ads ≡ length others → FitsIn (with_others others f) q → FitsIn f q
  fits_before f q others long fits = (fits.0, subst (λ m. m + jobs_in q.copies q.over ≤ MAX_JOBS) (sym long) fits.1)

  asked_again : {f : FileSoFar} {n : ℕ} {q : Queue} {r : AdsResult} (others : List Attributes) → Asks h f n q r → AllZip AgreeButDate f.ads others → MadeJobs (Asks (at_reading later h) (with_others others f) n q) r
  asked_again {f = f} {q = q} others (too_many over) all = record { other = _; made = too_many (λ fits. over (fits_before f q others (as_long AgreeButDate f.ads others all) fits)); same = refl }
  asked_again {f = f} {q = q} others (no_program fits none absent) all = record { other = _; made = no_program (fits_again f q others (as_long AgreeButDate f.ads others all) fits) none absent; same = refl }
  asked_again {f = f} {q = q} others (no_jobs fits none program) all = record { other = Ok others; made = no_jobs (fits_again f q others (as_long AgreeButDate f.ads others all) fits) none program; same = all }
  asked_again {f = f} {q = q} others (jobs fits some made) all =
      let m = jobs_again others made all in
      record { other = m.other; made = jobs (fits_again f q others (as_long AgreeButDate f.ads others all) fits) some m.made; same = m.same }

  queued_again : {f : FileSoFar} {n : ℕ} {s : List ℕ} {r : AdsResult} (others : List Attributes) → Queues h f n s r → AllZip AgreeButDate f.ads others → MadeJobs (Queues (at_reading later h) (with_others others f) n s) r
  queued_again others (unreadable {g = g} bad) all = record { other = Err g; made = unreadable bad; same = refl }
  queued_again others (no_form rep none) all = record { other = _; made = no_form rep none; same = refl }
  queued_again others (asks rep is asked) all =
      let m = asked_again others asked all in
      record { other = m.other; made = asks rep is m.made; same = m.same }

  -- ---- the lines

  read_again : {ls : List Line} {f : FileSoFar} {r : AdsResult} (others : List Attributes) → Reads h ls f r → AllZip AgreeButDate f.ads others → MadeJobs (Reads (at_reading later h) ls (with_others others f)) r
  read_again others (ended e) all = record { other = Ok others; made = ended e; same = all }
  read_again others (no_queue e) all = record { other = Err error.NoQueue; made = no_queue e; same = refl }
  read_again others (refuses e) all = record { other = _; made = refuses e; same = refl }
  read_again others (sets e more) all =
      let m = read_again others more all in
      record { other = m.other; made = sets e m.made; same = m.same }
  read_again others (sets_attribute e more) all =
      let m = read_again others more all in
      record { other = m.other; made = sets_attribute e m.made; same = m.same }
  read_again {f = f} others (refuses_queue {l = l} {ls = ls} {q = q} {g = g} e stopped) all = let m = queued_again others stopped all in by m.other m.made m.same
    where
      by : (x : AdsResult) → Queues (at_reading later h) (with_others others f) l.number q x → HaveOneResult (Err g) x → MadeJobs (Reads (at_reading later h) (l ∷ ls) (with_others others f)) (Err g)
      by (Ok ads) made same = absurd same
      by (Err k) made same = record { other = Err k; made = refuses_queue e made; same = same }
  read_again {f = f} {r = r} others (queues {l = l} {ls = ls} {q = q} {ads = ads} e asked more) all = let m = queued_again others asked all in by m.other m.made m.same (λ next agree. read_again next more agree)
    where
      by : (x : AdsResult) → Queues (at_reading later h) (with_others others f) l.number q x → HaveOneResult (Ok ads) x
          → ((next : List Attributes) → AllZip AgreeButDate ads next → MadeJobs (Reads (at_reading later h) ls (record { lines = f.lines; has_queue = true; ads = next })) r)
          → MadeJobs (Reads (at_reading later h) (l ∷ ls) (with_others others f)) r
      by (Err k) made same rest = absurd same
      by (Ok next) made same rest =
          let m = rest next same in
          record { other = m.other; made = queues e made m.made; same = m.same }

pub at_other_reading : (text : List ℕ) (h : Common) (later : ℕ) (r q : AdsResult) → SubmittedJobs text h r → SubmittedJobs text (at_reading later h) q → HaveOneResult r q
at_other_reading text h later r q one other =
    let m = read_again h later [] one tt in
    subst (HaveOneResult r) (one_result text (at_reading later h) m.other q m.made other) m.same
