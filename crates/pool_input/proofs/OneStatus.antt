-- Whatever the clock reads, files are refused with one status, or not at all.
use Rattle.std.proofs.Common.{◌≡◌, ◌∙◌, inl, inr, ℕ, ◌+◌, cond, List, [], ◌∷◌, length, Option, Some, None, Result, Ok, Err, IfOk, IfErr, IsErrAnd, refl, sym, ap, subst, arith, length-append}
use Rattle.std.specs.Prelude.{unwrap_or, nat_lt}
use Rattle.std.specs.List.{AllZip}
use Rattle.std.specs.Str.{IsUtf8}
use Rattle.ad_tree.specs.Ad.{Attributes}
use Rattle.pool_outer.specs.Files.{Contents}
use Rattle.pool_config.specs.Configuration.{Configuration}
use Rattle.pool_config.specs.declared.error.ConfigError.{ConfigError}
use Rattle.pool_config.specs.Lines.{IsConfiguration, ReadResult}
use Rattle.pool_config.proofs.OneOutcome.{one_outcome}
use Rattle.submit_file.specs.SubmittedJobs.{AdsResult, SubmittedJobs}
use Rattle.submit_file.specs.OtherReadings.{AgreeButDate, HaveOneResult}
use Rattle.submit_file.proofs.OtherReadings.{at_other_reading}
use Rattle.thin_pool.specs.declared.answer.StepError.TheVariants.{Closed, Jobs}
use Rattle.thin_pool.specs.declared.event.Event.TheVariants.{Submit}
use Rattle.thin_pool.specs.declared.history.Step.{Step}
use Rattle.thin_pool.specs.declared.job.TheConstants.{MAX_JOBS}
use Rattle.thin_pool.specs.CourseValue.{CourseValue}
use Rattle.thin_pool.specs.Histories.{submissions_in}
use Rattle.thin_pool.specs.PoolValue.{PoolValue}
use Rattle.thin_pool.specs.Reactions.{next_cluster, pool_after, refusal, last_cluster_after, numbered_jobs, opening_pool}
use Rattle.thin_pool.proofs.Tables.{length-numbered}
use Rattle.pool_input.specs.declared.fault.Fault.{Fault}
use Rattle.pool_input.specs.declared.status.Status.{Status}
use Rattle.pool_input.specs.declared.status.Status.TheVariants as status
use Rattle.pool_input.specs.Faults.{config_fault, submit_fault, fault_status, UnlessFault, IsStatusUnlessFault}
use Rattle.pool_input.specs.Input.{IsConfigFile, IsConfigRefused, IsOfFiles, IsRefusedOf, at_config, at_submit, pool_slots}
use Rattle.pool_input.specs.Input as input
use Rattle.pool_input.specs.Submissions.{IsTextOf, HasNoText, AsksFor, IsSubmitRefused, no_text, refused, no_room, Submits, submits_end, stops, and_submits}

some_is : {A : Type 0} {x y : A} → Some x ≡ Some y → x ≡ y
some_is {x = x} e = ap (λ o. unwrap_or o x) e

-- ---- one file

no_text_no_bytes : (file : Option (List ℕ)) (text : List ℕ) (f : Fault) → HasNoText file f → IsTextOf file text → ⊥
no_text_no_bytes None text f none is = let there : None ≡ Some text = is.there in cc
no_text_no_bytes (Some bytes) text f (inl none) is =
    let same : length bytes ≡ length text = ap length (some_is is.there) in
    let short = is.short in
    omega (arith, none.0, same, short)
no_text_no_bytes (Some bytes) text f (inr none) is = none.1 (subst IsUtf8 (sym (some_is is.there)) is.utf8)

one_no_text : (file : Option (List ℕ)) (f g : Fault) → HasNoText file f → HasNoText file g → f ≡ g
one_no_text None f g none other = none ∙ sym other
one_no_text (Some bytes) f g (inl none) (inl other) = none.1 ∙ sym other.1
one_no_text (Some bytes) f g (inl none) (inr other) = absurd (omega (arith, none.0, other.0))
one_no_text (Some bytes) f g (inr none) (inl other) = absurd (omega (arith, none.0, other.0))
one_no_text (Some bytes) f g (inr none) (inr other) = none.2 ∙ sym other.2

text_is_one : (file : Option (List ℕ)) (text other : List ℕ) → IsTextOf file text → IsTextOf file other → text ≡ other
text_is_one file text other is also = some_is (sym is.there ∙ also.there)

-- ---- what a submit file asks for

asked_alike : (file : Option (List ℕ)) (owner : List ℕ) (cluster number t u : ℕ) (r q : AdsResult) → cluster ≡ number → AsksFor file owner cluster t r → AsksFor file owner number u q → HaveOneResult r q
asked_alike file owner cluster number t u r q same a b =
    let text = text_is_one file b.text a.text b.text_is a.text_is in
    let jobs = subst (λ x. SubmittedJobs x (record { cluster = number; owner = owner; now = u }) q) text b.jobs in
    at_other_reading a.text (record { cluster = cluster; owner = owner; now = t }) u r q a.jobs
    (subst (λ n. SubmittedJobs a.text (record { cluster = n; owner = owner; now = u }) q) (sym same) jobs)

as_many : (jobs others : List Attributes) → AllZip AgreeButDate jobs others → length jobs ≡ length others
as_many [] [] all = refl
as_many [] (b ∷ bs) all = absurd all
as_many (a ∷ us) [] all = absurd all
as_many (a ∷ us) (b ∷ bs) all = let more = as_many us bs all.1 in omega (arith, more)

-- ---- pools that take and refuse the same files

record Even (p q : PoolValue) : Type 0 where
  number : p.last_cluster ≡ q.last_cluster
  closed : p.closed ≡ q.closed
  count : length p.jobs ≡ length q.jobs

same_refusal : (p q : PoolValue) (jobs others : List Attributes) (t u : ℕ) → Even p q → length jobs ≡ length others → refusal p (Submit jobs t) ≡ refusal q (Submit others u)
same_refusal p q jobs others t u even long = λ i. cond (even.closed i) (Some Closed) (cond (nat_lt MAX_JOBS (even.count i + long i)) (Some Jobs) None)

number_after : (k n : ℕ) (jobs others : List Attributes) → k ≡ n → length jobs ≡ length others → last_cluster_after k jobs ≡ last_cluster_after n others
number_after k n [] [] same long = ap (λ m. last_cluster_after m []) same
number_after k n [] (b ∷ bs) same long = absurd (omega (arith, long))
number_after k n (a ∷ us) [] same long = absurd (omega (arith, long))
number_after k n (a ∷ us) (b ∷ bs) same long = ap (λ m. m + 1) same

even_after : (p q : PoolValue) (jobs others : List Attributes) (t u : ℕ) → Even p q → length jobs ≡ length others → Even (pool_after p (Submit jobs t)) (pool_after q (Submit others u))
even_after p q jobs others t u even long =
    let count = even.count in
    let one = length-append p.jobs (numbered_jobs (next_cluster p) 0 jobs) in
    let two = length-append q.jobs (numbered_jobs (next_cluster q) 0 others) in
    let mine = length-numbered (next_cluster p) 0 jobs in
    let theirs = length-numbered (next_cluster q) 0 others in
    record {
      number = number_after p.last_cluster q.last_cluster jobs others even.number long;
      closed = even.closed;
      count = omega (arith, one, two, mine, theirs, count, long);
    }

even_again : (p q : PoolValue) → Even p q → Even q p
even_again p q even = record { number = sym even.number; closed = sym even.closed; count = sym even.count }

-- ---- submit files

module _ (a b : ℕ → Type 0) (file : Option (List ℕ)) (owner : List ℕ) where
  one_fault : (p q : PoolValue) (f g : Fault) → Even p q → IsSubmitRefused a file owner p f → IsSubmitRefused b file owner q g → f ≡ g
  one_fault p q f g even (no_text none) (no_text other) = one_no_text file f g none other
  one_fault p q f _ even (no_text none) (refused may asks) = absurd (no_text_no_bytes file asks.text f none asks.text_is)
  one_fault p q f _ even (no_text none) (no_room may asks full) = absurd (no_text_no_bytes file asks.text f none asks.text_is)
  one_fault p q _ g even (refused may asks) (no_text none) = absurd (no_text_no_bytes file asks.text g none asks.text_is)
  one_fault p q _ _ even (refused {t = t} {e = e} may asks) (refused {t = u} {e = k} also other) =
      let same : e ≡ k = asked_alike file owner (next_cluster p) (next_cluster q) t u (Err e) (Err k) (ap (λ n. n + 1) even.number) asks other in
      ap submit_fault same
  one_fault p q _ _ even (refused {t = t} {e = e} may asks) (no_room {t = u} {jobs = jobs} also other full) =
      absurd (asked_alike file owner (next_cluster p) (next_cluster q) t u (Err e) (Ok jobs) (ap (λ n. n + 1) even.number) asks other)
  one_fault p q _ g even (no_room may asks full) (no_text none) = absurd (no_text_no_bytes file asks.text g none asks.text_is)
  one_fault p q _ _ even (no_room {t = t} {jobs = jobs} may asks full) (refused {t = u} {e = k} also other) =
      absurd (asked_alike file owner (next_cluster p) (next_cluster q) t u (Ok jobs) (Err k) (ap (λ n. n + 1) even.number) asks other)
  one_fault p q _ _ even (no_room may asks full) (no_room also other none) = refl

  not_taken : (p q : PoolValue) (f : Fault) (jobs : List Attributes) (u : ℕ) → Even p q → IsSubmitRefused a file owner p f → AsksFor file owner (next_cluster q) u (Ok jobs) → refusal q (Submit jobs u) ≡ None → ⊥
  not_taken p q f jobs u even (no_text none) asks taken = no_text_no_bytes file asks.text f none asks.text_is
  not_taken p q _ jobs u even (refused {t = t} {e = e} may is) asks taken =
      asked_alike file owner (next_cluster p) (next_cluster q) t u (Err e) (Ok jobs) (ap (λ n. n + 1) even.number) is asks
  not_taken p q _ jobs u even (no_room {t = t} {jobs = others} may is full) asks taken =
      let all = asked_alike file owner (next_cluster p) (next_cluster q) t u (Ok others) (Ok jobs) (ap (λ n. n + 1) even.number) is asks in
      let both : Some Jobs ≡ None = sym full ∙ same_refusal p q others jobs t u even (as_many others jobs all) ∙ taken in
      cc

one_end : (a b : ℕ → Type 0) (file : Contents) (owner : List ℕ) (names : List (List ℕ)) (p q : PoolValue) (done more : List (List Attributes × ℕ)) (end other : Option Status) → Even p q → Submits a file owner names p done end → Submits b file owner names q more other → end ≡ other
one_end a b file owner _ p q _ _ _ _ even submits_end submits_end = refl
one_end a b file owner _ p q _ _ _ _ even (stops {name = name} {f = f} is) (stops {f = g} also) =
    ap (λ f. Some (fault_status name f)) (one_fault a b (file name) owner p q f g even is also)
one_end a b file owner _ p q _ _ _ _ even (stops {name = name} {f = f} is) (and_submits {jobs = jobs} {t = u} may asks taken rest) =
    absurd (not_taken a b (file name) owner p q f jobs u even is asks taken)
one_end a b file owner _ p q _ _ _ _ even (and_submits {name = name} {jobs = jobs} {t = t} may asks taken rest) (stops {f = g} is) =
    absurd (not_taken b a (file name) owner q p g jobs t (even_again p q even) is asks taken)
one_end a b file owner _ p q _ _ end other even (and_submits {name = name} {names = names} {jobs = jobs} {t = t} {rest = done} may asks taken rest) (and_submits {jobs = others} {t = u} {rest = more} also other_asks other_taken other_rest) =
    let all = asked_alike (file name) owner (next_cluster p) (next_cluster q) t u (Ok jobs) (Ok others) (ap (λ n. n + 1) even.number) asks other_asks in
    one_end a b file owner names (pool_after p (Submit jobs t)) (pool_after q (Submit others u)) done more end other
    (even_after p q jobs others t u even (as_many jobs others all)) rest other_rest

-- ---- the configuration

abbrev error_in : ReadResult → ConfigError → ConfigError
error_in (Ok c) g = g
error_in (Err f) g = f

abbrev config_in : ReadResult → Configuration → Configuration
config_in (Ok c) d = c
config_in (Err f) d = d

config_clash : {c : Configuration} {e : ConfigError} → Ok c ≡ Err e → ⊥
config_clash is = cc

not_both : (file : Option (List ℕ)) (c : Configuration) (f : Fault) → IsConfigFile file c → IsConfigRefused file f → ⊥
not_both file c f is (input.no_text none) = no_text_no_bytes file is.text f none is.text_is
not_both file c _ is (input.refused {text = text} {e = e} there bad) =
    let same = text_is_one file text is.text there is.text_is in
    config_clash (one_outcome is.text (Ok c) (Err e) is.is (subst (λ x. IsConfiguration x (Err e)) same bad))

one_config_fault : (file : Option (List ℕ)) (f g : Fault) → IsConfigRefused file f → IsConfigRefused file g → f ≡ g
one_config_fault file f g (input.no_text none) (input.no_text other) = one_no_text file f g none other
one_config_fault file f _ (input.no_text none) (input.refused {text = text} there bad) = absurd (no_text_no_bytes file text f none there)
one_config_fault file _ g (input.refused {text = text} there bad) (input.no_text none) = absurd (no_text_no_bytes file text g none there)
one_config_fault file _ _ (input.refused {text = text} {e = e} there bad) (input.refused {text = other} {e = k} also worse) =
    let same = text_is_one file other text also there in
    let one = one_outcome text (Err e) (Err k) bad (subst (λ x. IsConfiguration x (Err k)) same worse) in
    ap config_fault (ap (λ r. error_in r e) one)

one_config : (file : Option (List ℕ)) (c d : Configuration) → IsConfigFile file c → IsConfigFile file d → c ≡ d
one_config file c d is also =
    let same = text_is_one file also.text is.text also.text_is is.text_is in
    let one = one_outcome is.text (Ok c) (Ok d) is.is (subst (λ x. IsConfiguration x (Ok d)) same also.is) in
    ap (λ r. config_in r c) one

-- ---- all files

module _ (a b : ℕ → Type 0) (file : Contents) (config : List ℕ) (submits : List (List ℕ)) where
  opened_even : (c d : Configuration) → c ≡ d → Even (opening_pool (pool_slots c)) (opening_pool (pool_slots d))
  opened_even c d same = record { number = refl; closed = refl; count = refl }

  one_status : (s r : Status) → IsRefusedOf a file config submits s → IsRefusedOf b file config submits r → s ≡ r
  one_status _ _ (at_config {f = f} is) (at_config {f = g} also) = ap (fault_status config) (one_config_fault (file config) f g is also)
  one_status _ r (at_config {f = f} is) (at_submit {c = c} there stop) = absurd (not_both (file config) c f there is)
  one_status s _ (at_submit {c = c} there stop) (at_config {f = f} is) = absurd (not_both (file config) c f there is)
  one_status s r (at_submit {c = c} there stop) (at_submit {c = d} also other) =
      let same = one_config (file config) c d there also in
      let second = subst (λ e. Submits b file e.owner submits (opening_pool (pool_slots e)) other.0 (Some r)) (sym same) other.1 in
      some_is (one_end a b file c.owner submits (opening_pool (pool_slots c)) (opening_pool (pool_slots c)) stop.0 other.0 (Some s) (Some r) (opened_even c c refl) stop.1 second)

  not_refused : (opening : PoolValue) (list : List Step) (s : Status) → IsOfFiles a file config submits opening list → IsRefusedOf b file config submits s → ⊥
  not_refused opening list s is (at_config {f = f} bad) = not_both (file config) is.configuration f is.configured bad
  not_refused opening list s is (at_submit {c = d} also other) =
      let c = is.configuration in
      let same = one_config (file config) c d is.configured also in
      let second = subst (λ e. Submits b file e.owner submits (opening_pool (pool_slots e)) other.0 (Some s)) (sym same) other.1 in
      let first = subst (λ p. Submits a file c.owner submits p (submissions_in list) None) is.opening_is is.submitted in
      let both : None ≡ Some s = one_end a b file c.owner submits (opening_pool (pool_slots c)) (opening_pool (pool_slots c)) (submissions_in list) other.0 None (Some s) (opened_even c c refl) first second in
      cc

  came : (s t : Status) → IsRefusedOf b file config submits s → UnlessFault (IsRefusedOf a file config submits) t → IsStatusUnlessFault s t
  came s status.Done bad is = inl (one_status status.Done s is bad)
  came s status.Usage bad is = inl (one_status status.Usage s is bad)
  came s (status.Input name line kind) bad is = inl (one_status (status.Input name line kind) s is bad)
  came s status.Stuck bad is = inl (one_status status.Stuck s is bad)
  came s status.DiskFault bad is = inr (inr refl)
  came s status.OutFault bad is = inl (one_status status.OutFault s is bad)
  came s status.Memory bad is = inr (inl refl)
  came s (status.BadLog line) bad is = inl (one_status (status.BadLog line) s is bad)
  came s (status.Limit which) bad is = inl (one_status (status.Limit which) s is bad)

  pub refusal_comes : (r : Result CourseValue Status) → IfOk r (λ c. IsOfFiles a file config submits c.opening c.list) → IfErr r (UnlessFault (IsRefusedOf a file config submits))
      → (s : Status) → IsRefusedOf b file config submits s → IsErrAnd r (IsStatusUnlessFault s)
  refusal_comes (Ok c) taken stopped s bad = not_refused c.opening c.list s taken bad
  refusal_comes (Err t) taken stopped s bad = came s t bad stopped
