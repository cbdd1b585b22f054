-- The ads of a file's jobs meet what is asked of a submission.
use Rattle.std.proofs.Common.{◌≡◌, ℕ, zero, suc, ◌+◌, ◌*◌, ◌<◌, ◌≤◌, ◌^◌, Bool, true, false, cond, List, [], ◌∷◌, ◌++◌, map, length, replicate, length-append, Option, Some, None, Result, Ok, Err, refl, ap, sym, ◌∙◌, subst, arith}
use Rattle.std.specs.Prelude.{pos, nat_le, decimal, codes, ◌||◌}
use Rattle.std.specs.Str.{bytes_eq}
use Rattle.std.specs.Cmp.Lexicographic.{bytes_decides}
use Rattle.std.proofs.lemmas.Bool.{leb-true}
use Rattle.ad_value.specs.Content.{text}
use Rattle.ad_value.specs.Names.{lowercase, same_name}
use Rattle.ad_value.specs.declared.names.job.TheConstants.{CLUSTER_ID, PROC_ID, OWNER, Q_DATE, JOB_STATUS, JOB_UNIVERSE}
use Rattle.ad_value.specs.declared.names.pool.TheConstants.{RUN_CLAIM, RUN_NUMBER, LEASE_UNTIL}
use Rattle.ad_token.specs.Names.{is_name}
use Rattle.ad_tree.specs.Ad.{Attributes, lookup, with_attribute}
use Rattle.ad_tree.specs.Tree.{Tree}
use Rattle.ad_parse.specs.AdText.{is_full_for}
use Rattle.ad_parse.specs.ValueText.{HasReadableLiteral}
use Rattle.ad_rows.specs.Submitted.{IsReadable, AreReadable, IsSubmitted, AreSubmitted, own_attributes}
use Rattle.ad_rows.proofs.Lists.{submitted_more}
use Rattle.ad_rows.proofs.Readable.{readable_value, readable_integer}
use Rattle.line_text.specs.declared.logical.Line.{Line}
use Rattle.line_text.specs.Macros.{Macros}
use Rattle.submit_lines.specs.declared.queue.Queue.{Queue}
use Rattle.submit_lines.specs.declared.queue.Over.{Over}
use Rattle.submit_lines.specs.declared.command.Command.{Command}
use Rattle.submit_lines.specs.declared.command.Command.TheVariants as command
use Rattle.submit_lines.specs.declared.error.ValueError.{ValueError}
use Rattle.submit_lines.specs.declared.error.ValueError.TheVariants as fault
use Rattle.submit_lines.specs.JobAds.{added}
use Rattle.submit_lines.specs.Commands.{attribute_name}
use Rattle.submit_lines.specs.Values.{value_at, preset_at, some_of, tree_of_text, string_at}
use Rattle.submit_file.specs.declared.error.SubmitError.{SubmitError}
use Rattle.submit_file.specs.declared.error.SubmitError.TheVariants as error
use Rattle.submit_file.specs.declared.file.FileSoFar.{FileSoFar}
use Rattle.submit_file.specs.declared.setting.LinesSoFar.{LinesSoFar}
use Rattle.submit_file.specs.declared.setting.Setting.{Setting}
use Rattle.submit_file.specs.Drafts.{JobDraft, Effect, named_value, macro_refusal, with_effect, ad_or, with_room}
use Rattle.submit_file.specs.Origins.{Origin, owner_command, other_command, own_line, name_for, preset_for}
use Rattle.submit_file.specs.OneJob.{Common, whole, place_of, effect_at, Gives, nothing_set, is_set, Takes, takes, TakesAll, all_taken, and_takes, commands, origins, numbered, queued, Fills, fills, nothing, IsJob, is_job}
use Rattle.submit_file.specs.SubmittedJobs.{AdsResult, MakesJobs, jobs_end, stops, and_job, over_items, items_of, jobs_in, Asks, too_many, no_program, no_jobs, jobs, Queues, unreadable, no_form, asks, Reads, ended, no_queue, refuses, sets, sets_attribute, refuses_queue, queues, name_set, with_name, with_attribute_line, with_ads, begun, SubmittedJobs}
use Rattle.submit_file.specs.JobMacros.{job_macros}
use Rattle.submit_lines.specs.Names.{is_built_in}
use Rattle.submit_file.proofs.Names.{IsFree, free_owner, free_date, free_universe, cluster_is_name, proc_is_name, status_is_name, free_command, frees_line, AllFree, all_free_with}
use Rattle.submit_file.proofs.Kept.{KeepsSome, some_keeps, text_keeps, string_keeps, value_keeps, preset_keeps}

-- ---- a look-up after an attribute was set

same : (x : List ℕ) → same_name x x ≡ true
same x = (bytes_decides (lowercase x) (lowercase x)).1 refl

lookup_other : (y x : List ℕ) (e : Tree) (ad : Attributes) → same_name y x ≡ false → lookup y (with_attribute x e ad) ≡ lookup y ad
lookup_other y x e [] apart = ap (λ b. cond b (Some e) None) apart
lookup_other y x e (a ∷ ad) apart = by (same_name x a.0) refl (lookup_other y x e ad apart)
  where
    by : (b : Bool) → same_name x a.0 ≡ b → lookup y (with_attribute x e ad) ≡ lookup y ad → lookup y (cond b ((a.0, e) ∷ ad) (a ∷ with_attribute x e ad)) ≡ cond (same_name y a.0) (Some a.1) (lookup y ad)
    by true is more =
        let other : same_name y a.0 ≡ false = ap (bytes_eq (lowercase y)) (sym ((bytes_decides (lowercase x) (lowercase a.0)).0 is)) ∙ apart in
        ap (λ b. cond b (Some e) (lookup y ad)) other ∙ sym (ap (λ b. cond b (Some a.1) (lookup y ad)) other)
    by false is more = ap (λ o. cond (same_name y a.0) (Some a.1) o) more

lookup_set : (x : List ℕ) (e : Tree) (ad : Attributes) → lookup x (with_attribute x e ad) ≡ Some e
lookup_set x e [] = ap (λ b. cond b (Some e) None) (same x)
lookup_set x e (a ∷ ad) = by (same_name x a.0) refl (lookup_set x e ad)
  where
    by : (b : Bool) → same_name x a.0 ≡ b → lookup x (with_attribute x e ad) ≡ Some e → lookup x (cond b ((a.0, e) ∷ ad) (a ∷ with_attribute x e ad)) ≡ Some e
    by true is more = ap (λ b. cond b (Some e) (lookup x ad)) is
    by false is more = ap (λ b. cond b (Some a.1) (lookup x (with_attribute x e ad))) is ∙ more

readable_with : (x : List ℕ) (e : Tree) (ad : Attributes) → is_name x ≡ true → IsReadable e → AreReadable ad → AreReadable (with_attribute x e ad)
readable_with x e [] named kept all = (named, kept, tt)
readable_with x e (a ∷ ad) named kept all = by (same_name x a.0) (readable_with x e ad named kept all.2)
  where
    by : (b : Bool) → AreReadable (with_attribute x e ad) → AreReadable (cond b ((a.0, e) ∷ ad) (a ∷ with_attribute x e ad))
    by true more = (all.0, kept, all.2)
    by false more = (all.0, all.1, more)

-- ---- an ad in the making

record Facts (cluster proc : ℕ) (status : Option Tree) (ad : Attributes) : Type 0 where
  cluster_id : lookup CLUSTER_ID.now ad ≡ Some (whole cluster)
  proc_id : lookup PROC_ID.now ad ≡ Some (whole proc)
  job_status : lookup JOB_STATUS.now ad ≡ status
  no_claim : lookup RUN_CLAIM.now ad ≡ None
  no_number : lookup RUN_NUMBER.now ad ≡ None
  no_lease : lookup LEASE_UNTIL.now ad ≡ None
  readable : AreReadable ad

abbrev FactsIf : ℕ → ℕ → Option Tree → Option Attributes → Type 0
FactsIf c p s None = Unit {0}
FactsIf c p s (Some ad) = Facts c p s ad

module _ (c p : ℕ) where
  facts_with : (s : Option Tree) (x : List ℕ) (e : Tree) (ad : Attributes) → IsFree x → IsReadable e → Facts c p s ad → Facts c p s (with_attribute x e ad)
  facts_with s x e ad free kept h = record {
    cluster_id = lookup_other CLUSTER_ID.now x e ad free.cluster ∙ h.cluster_id;
    proc_id = lookup_other PROC_ID.now x e ad free.proc ∙ h.proc_id;
    job_status = lookup_other JOB_STATUS.now x e ad free.status ∙ h.job_status;
    no_claim = lookup_other RUN_CLAIM.now x e ad free.claim ∙ h.no_claim;
    no_number = lookup_other RUN_NUMBER.now x e ad free.number ∙ h.no_number;
    no_lease = lookup_other LEASE_UNTIL.now x e ad free.lease ∙ h.no_lease;
    readable = readable_with x e ad free.name kept h.readable;
  }

  facts_idle : (ad : Attributes) → Facts c p None ad → Facts c p (Some (whole 1)) (with_attribute JOB_STATUS.now (whole 1) ad)
  facts_idle ad h = record {
    cluster_id = lookup_other CLUSTER_ID.now JOB_STATUS.now (whole 1) ad refl ∙ h.cluster_id;
    proc_id = lookup_other PROC_ID.now JOB_STATUS.now (whole 1) ad refl ∙ h.proc_id;
    job_status = lookup_set JOB_STATUS.now (whole 1) ad;
    no_claim = lookup_other RUN_CLAIM.now JOB_STATUS.now (whole 1) ad refl ∙ h.no_claim;
    no_number = lookup_other RUN_NUMBER.now JOB_STATUS.now (whole 1) ad refl ∙ h.no_number;
    no_lease = lookup_other LEASE_UNTIL.now JOB_STATUS.now (whole 1) ad refl ∙ h.no_lease;
    readable = readable_with JOB_STATUS.now (whole 1) ad status_is_name (readable_integer (pos 1) (omega arith)) h.readable;
  }

  added_if : (s u : Option Tree) (x : List ℕ) (e : Tree) (o : Option Attributes) → ((ad : Attributes) → Facts c p s ad → Facts c p u (with_attribute x e ad)) → FactsIf c p s o → FactsIf c p u (added x e o)
  added_if s u x e None step h = tt
  added_if s u x e (Some ad) step h = by (is_full_for x ad)
    where
      by : (b : Bool) → FactsIf c p u (cond b None (Some (with_attribute x e ad)))
      by true = tt
      by false = step ad h

  added_free : (s : Option Tree) (x : List ℕ) (e : Tree) (o : Option Attributes) → IsFree x → IsReadable e → FactsIf c p s o → FactsIf c p s (added x e o)
  added_free s x e o free kept h = added_if s s x e o (λ ad. facts_with s x e ad free kept) h

-- ---- what an attribute gives

abbrev IsGood : Effect → Type 0
IsGood (named_value x p (Ok (Some e))) = IsFree x × IsReadable e
IsGood (named_value x p (Ok None)) = Unit {0}
IsGood (named_value x p (Err f)) = Unit {0}
IsGood (macro_refusal f) = Unit {0}

good_value : (x : List ℕ) (p : _) (v : Result (Option Tree) ValueError) → IsFree x → KeepsSome v → IsGood (named_value x p v)
good_value x p (Ok (Some e)) free kept = (free, kept)
good_value x p (Ok None) free kept = tt
good_value x p (Err f) free kept = tt

good_either : (x : List ℕ) (p : _) (f : ValueError) (b : Bool) → IsGood (named_value x p (cond b (Ok None) (Err f)))
good_either x p f true = tt
good_either x p f false = tt

good_command : (c : Command) (x : List ℕ) (p : _) → IsGood (named_value (attribute_name c x) p (value_at c x))
good_command command.Executable x p = good_value (attribute_name command.Executable x) p (value_at command.Executable x) (free_command command.Executable x tt) (value_keeps command.Executable x)
good_command command.Arguments x p = good_value (attribute_name command.Arguments x) p (value_at command.Arguments x) (free_command command.Arguments x tt) (value_keeps command.Arguments x)
good_command command.Universe x p = good_either [] p fault.Universe (same_name x (codes "vanilla") || bytes_eq x (codes "5"))
good_command command.InitialDir x p = good_value (attribute_name command.InitialDir x) p (value_at command.InitialDir x) (free_command command.InitialDir x tt) (value_keeps command.InitialDir x)
good_command command.Input x p = good_value (attribute_name command.Input x) p (value_at command.Input x) (free_command command.Input x tt) (value_keeps command.Input x)
good_command command.Output x p = good_value (attribute_name command.Output x) p (value_at command.Output x) (free_command command.Output x tt) (value_keeps command.Output x)
good_command command.Error x p = good_value (attribute_name command.Error x) p (value_at command.Error x) (free_command command.Error x tt) (value_keeps command.Error x)
good_command command.Log x p = good_value (attribute_name command.Log x) p (value_at command.Log x) (free_command command.Log x tt) (value_keeps command.Log x)
good_command command.Priority x p = good_value (attribute_name command.Priority x) p (value_at command.Priority x) (free_command command.Priority x tt) (value_keeps command.Priority x)
good_command command.Requirements x p = good_value (attribute_name command.Requirements x) p (value_at command.Requirements x) (free_command command.Requirements x tt) (value_keeps command.Requirements x)
good_command command.Rank x p = good_value (attribute_name command.Rank x) p (value_at command.Rank x) (free_command command.Rank x tt) (value_keeps command.Rank x)
good_command command.RequestCpus x p = good_value (attribute_name command.RequestCpus x) p (value_at command.RequestCpus x) (free_command command.RequestCpus x tt) (value_keeps command.RequestCpus x)
good_command command.RequestMemory x p = good_value (attribute_name command.RequestMemory x) p (value_at command.RequestMemory x) (free_command command.RequestMemory x tt) (value_keeps command.RequestMemory x)
good_command command.RequestDisk x p = good_value (attribute_name command.RequestDisk x) p (value_at command.RequestDisk x) (free_command command.RequestDisk x tt) (value_keeps command.RequestDisk x)
good_command command.JobLeaseDuration x p = good_value (attribute_name command.JobLeaseDuration x) p (value_at command.JobLeaseDuration x) (free_command command.JobLeaseDuration x tt) (value_keeps command.JobLeaseDuration x)
good_command command.OnExitHold x p = good_value (attribute_name command.OnExitHold x) p (value_at command.OnExitHold x) (free_command command.OnExitHold x tt) (value_keeps command.OnExitHold x)
good_command command.OnExitRemove x p = good_value (attribute_name command.OnExitRemove x) p (value_at command.OnExitRemove x) (free_command command.OnExitRemove x tt) (value_keeps command.OnExitRemove x)
good_command command.PeriodicHold x p = good_value (attribute_name command.PeriodicHold x) p (value_at command.PeriodicHold x) (free_command command.PeriodicHold x tt) (value_keeps command.PeriodicHold x)
good_command command.PeriodicRemove x p = good_value (attribute_name command.PeriodicRemove x) p (value_at command.PeriodicRemove x) (free_command command.PeriodicRemove x tt) (value_keeps command.PeriodicRemove x)
good_command command.PeriodicRelease x p = good_value (attribute_name command.PeriodicRelease x) p (value_at command.PeriodicRelease x) (free_command command.PeriodicRelease x tt) (value_keeps command.PeriodicRelease x)

good_preset : (c : Command) (p : _) → IsGood (named_value (attribute_name c []) p (preset_at c))
good_preset command.Executable p = tt
good_preset command.Arguments p = good_value (attribute_name command.Arguments []) p (preset_at command.Arguments) (free_command command.Arguments [] tt) (preset_keeps command.Arguments)
good_preset command.Universe p = tt
good_preset command.InitialDir p = good_value (attribute_name command.InitialDir []) p (preset_at command.InitialDir) (free_command command.InitialDir [] tt) (preset_keeps command.InitialDir)
good_preset command.Input p = good_value (attribute_name command.Input []) p (preset_at command.Input) (free_command command.Input [] tt) (preset_keeps command.Input)
good_preset command.Output p = good_value (attribute_name command.Output []) p (preset_at command.Output) (free_command command.Output [] tt) (preset_keeps command.Output)
good_preset command.Error p = good_value (attribute_name command.Error []) p (preset_at command.Error) (free_command command.Error [] tt) (preset_keeps command.Error)
good_preset command.Log p = tt
good_preset command.Priority p = good_value (attribute_name command.Priority []) p (preset_at command.Priority) (free_command command.Priority [] tt) (preset_keeps command.Priority)
good_preset command.Requirements p = good_value (attribute_name command.Requirements []) p (preset_at command.Requirements) (free_command command.Requirements [] tt) (preset_keeps command.Requirements)
good_preset command.Rank p = good_value (attribute_name command.Rank []) p (preset_at command.Rank) (free_command command.Rank [] tt) (preset_keeps command.Rank)
good_preset command.RequestCpus p = good_value (attribute_name command.RequestCpus []) p (preset_at command.RequestCpus) (free_command command.RequestCpus [] tt) (preset_keeps command.RequestCpus)
good_preset command.RequestMemory p = good_value (attribute_name command.RequestMemory []) p (preset_at command.RequestMemory) (free_command command.RequestMemory [] tt) (preset_keeps command.RequestMemory)
good_preset command.RequestDisk p = good_value (attribute_name command.RequestDisk []) p (preset_at command.RequestDisk) (free_command command.RequestDisk [] tt) (preset_keeps command.RequestDisk)
good_preset command.JobLeaseDuration p = tt
good_preset command.OnExitHold p = tt
good_preset command.OnExitRemove p = tt
good_preset command.PeriodicHold p = tt
good_preset command.PeriodicRemove p = tt
good_preset command.PeriodicRelease p = tt

abbrev IsGoodOrigin : Origin → Type 0
IsGoodOrigin owner_command = Unit {0}
IsGoodOrigin (other_command c) = Unit {0}
IsGoodOrigin (own_line s) = IsFree s.name

-- ---- the origins of a file's attributes

abbrev AreGood : List Origin → Type 0
AreGood [] = Unit {0}
AreGood (o ∷ os) = IsGoodOrigin o × AreGood os

good_lines : (ss : List Setting) → AllFree ss → AreGood (map (λ s. own_line s) ss)
good_lines [] free = tt
good_lines (s ∷ ss) free = (free.0, good_lines ss free.1)

good_commands : (cs : List Command) (os : List Origin) → AreGood os → AreGood (map (λ c. other_command c) cs ++ os)
good_commands [] os good = good
good_commands (c ∷ cs) os good = (tt, good_commands cs os good)

good_origins : (f : LinesSoFar) → AllFree f.attributes → AreGood (origins f)
good_origins f free = good_commands commands (map (λ s. own_line s) f.attributes) (good_lines f.attributes free)

abbrev ad_in : Result Attributes SubmitError → Attributes
ad_in (Ok ad) = ad
ad_in (Err f) = []

-- how many jobs a statement asks for

length-replicate : {X : Type 0} (n : ℕ) (x : X) → length (replicate n x) ≡ n
length-replicate zero x = refl
length-replicate (suc n) x = ap suc (length-replicate n x)

length-over_items : (n : ℕ) (v : List ℕ) (is : List (List ℕ)) → length (over_items n v is) ≡ n * length is
length-over_items n v [] = omega arith
length-over_items n v (i ∷ is) =
    let more = length-over_items n v is in
    let first : length (replicate n (Some (v, i))) ≡ n = length-replicate n (Some (v, i)) in
    length-append (replicate n (Some (v, i))) (over_items n v is) ∙ (λ k. first k + more k) ∙ sym (times n (length is))
  where
    times : (n m : ℕ) → n * (suc m) ≡ n + n * m
    times n m = grind arith

length-items_of : (n : ℕ) (o : Option Over) → length (items_of n o) ≡ jobs_in n o
length-items_of n None = length-replicate n None
length-items_of n (Some o) = length-over_items n o.variable o.items

module _ (h : Common) (owner : HasReadableLiteral (text h.owner)) where
  good_unset : (o : Origin) (p : _) → IsGood (named_value (name_for o []) p (preset_for h.owner o))
  good_unset owner_command p = (free_owner, readable_value (text h.owner) owner)
  good_unset (other_command c) p = good_preset c p
  good_unset (own_line s) p = tt

  good_set : (o : Origin) (p : _) (r : Result (List ℕ) SubmitError) → IsGoodOrigin o → IsGood (effect_at o p r)
  good_set o p (Err f) good = tt
  good_set owner_command p (Ok x) good = good_value OWNER.now p (some_of (string_at x)) free_owner (some_keeps (string_at x) (string_keeps x))
  good_set (other_command c) p (Ok x) good = good_command c x p
  good_set (own_line s) p (Ok x) good = good_value s.name p (some_of (tree_of_text x)) good (some_keeps (tree_of_text x) (text_keeps x))

  module _ (f : LinesSoFar) (t : Macros) (n : ℕ) where
    good_effect : (o : Origin) (e : Effect) → IsGoodOrigin o → Gives h f t n o e → IsGood e
    good_effect o _ good (nothing_set none) = good_unset o (record { line = n; statement = n })
    good_effect o _ good (is_set {s = s} {r = r} set _) = good_set o (place_of s n) r good

    module _ (c p : ℕ) (s : Option Tree) where
      taken_keeps : (e : Effect) (d : JobDraft) → IsGood e → FactsIf c p s d.ad → FactsIf c p s (with_effect e d).ad
      taken_keeps (named_value x q (Ok (Some e))) d good h = added_free c p s x e d.ad good.0 good.1 h
      taken_keeps (named_value x q (Ok None)) d good h = h
      taken_keeps (named_value x q (Err f)) d good h = h
      taken_keeps (macro_refusal f) d good h = h

      takes_keeps : (o : Origin) (d g : JobDraft) → IsGoodOrigin o → Takes h f t n o d g → FactsIf c p s d.ad → FactsIf c p s g.ad
      takes_keeps o d _ good (takes {e = e} gives) k = taken_keeps e d (good_effect o e good gives) k

      all_keep : (os : List Origin) (d g : JobDraft) → AreGood os → TakesAll h f t n os d g → FactsIf c p s d.ad → FactsIf c p s g.ad
      all_keep _ d _ good all_taken k = k
      all_keep _ d g good (and_takes {o = o} {os = os} {e = e} first more) k = all_keep os e g good.1 more (takes_keeps o d e good.0 first k)

-- ---- a job

module _ (h : Common) (owner : HasReadableLiteral (text h.owner)) (clustered : h.cluster < 2 ^ 63) (dated : h.now < 2 ^ 63) where
  first_facts : (proc : ℕ) → proc < 2 ^ 63 → FactsIf h.cluster proc None (numbered h proc nothing).ad
  first_facts proc less = record {
    cluster_id = refl;
    proc_id = refl;
    job_status = refl;
    no_claim = refl;
    no_number = refl;
    no_lease = refl;
    readable = (cluster_is_name, readable_integer (pos h.cluster) clustered, (proc_is_name, readable_integer (pos proc) less, tt));
  }

  queued_facts : (proc : ℕ) (d : JobDraft) → FactsIf h.cluster proc None d.ad → FactsIf h.cluster proc (Some (whole 1)) (queued h d).ad
  queued_facts proc d k =
      let one = added_free h.cluster proc None Q_DATE.now (whole h.now) d.ad free_date (readable_integer (pos h.now) dated) k in
      let two = added_free h.cluster proc None JOB_UNIVERSE.now (whole 5) (added Q_DATE.now (whole h.now) d.ad) free_universe (readable_integer (pos 5) (omega arith)) one in
      added_if h.cluster proc None (Some (whole 1)) JOB_STATUS.now (whole 1) (added JOB_UNIVERSE.now (whole 5) (added Q_DATE.now (whole h.now) d.ad)) (facts_idle h.cluster proc) two

  filled_facts : (f : LinesSoFar) (t : Macros) (proc n : ℕ) (d : JobDraft) → AllFree f.attributes → proc < 2 ^ 63 → Fills h f t proc n nothing d → FactsIf h.cluster proc (Some (whole 1)) d.ad
  filled_facts f t proc n d free less (fills {e = e} own rest) =
      all_keep h owner f t n h.cluster proc (Some (whole 1)) (origins f) (queued h e) d (good_origins f free) rest
      (queued_facts proc e (takes_keeps h owner f t n h.cluster proc None owner_command (numbered h proc nothing) e tt own (first_facts proc less)))

  submitted_of : (proc n : ℕ) (o : Option Attributes) (r : Option SubmitError) (ad : Attributes) → FactsIf h.cluster proc (Some (whole 1)) o → ad_or n o r ≡ Ok ad → IsSubmitted h.cluster proc ad
  submitted_of proc n o (Some f) ad k is = absurd (no is)
    where
      no : Err f ≡ Ok ad → ⊥
      no e = cc
  submitted_of proc n None None ad k is = absurd (no is)
    where
      no : Err (error.Full n) ≡ Ok ad → ⊥
      no e = cc
  submitted_of proc n (Some a) None ad k is = by (nat_le (own_attributes a) 248) refl is
    where
      no : Err (error.Full n) ≡ Ok ad → ⊥
      no e = cc

      by : (b : Bool) → nat_le (own_attributes a) 248 ≡ b → with_room n (cond b (Some a) None) ≡ Ok ad → IsSubmitted h.cluster proc ad
      by true few e = subst (IsSubmitted h.cluster proc) (ap ad_in e) (record {
        cluster_id = k.cluster_id;
        proc_id = k.proc_id;
        job_status = k.job_status;
        no_claim = k.no_claim;
        no_number = k.no_number;
        no_lease = k.no_lease;
        small = leb-true (own_attributes a) 248 few;
        readable = k.readable;
      })
      by false few e = absurd (no e)

  job_submitted : (f : LinesSoFar) (t : Macros) (proc n : ℕ) (r : Result Attributes SubmitError) (ad : Attributes) → AllFree f.attributes → proc < 2 ^ 63 → IsJob h f t proc n r → r ≡ Ok ad → IsSubmitted h.cluster proc ad
  job_submitted f t proc n _ ad free less (is_job {d = d} filled) is = submitted_of proc n d.ad d.refusal ad (filled_facts f t proc n d free less filled) is

  -- ---- the jobs of a statement

  abbrev AreGoodAds : AdsResult → Type 0
  AreGoodAds (Ok ads) = AreSubmitted h.cluster 0 ads
  AreGoodAds (Err f) = Unit {0}

  made_submitted : (f : LinesSoFar) (n : ℕ) (is : List (Option (List ℕ × List ℕ))) (ads : List Attributes) (r : AdsResult) → AllFree f.attributes → length ads + length is ≤ 10000 → AreSubmitted h.cluster 0 ads → MakesJobs h f n is ads r → AreGoodAds r
  made_submitted f n _ ads _ free few all jobs_end = all
  made_submitted f n _ ads _ free few all (stops job) = tt
  made_submitted f n _ ads r free few all (and_job {i = i} {is = is} {ad = ad} job more) =
      let one : length (ads ++ ad ∷ []) ≡ length ads + 1 = length-append ads (ad ∷ []) in
      made_submitted f n is (ads ++ ad ∷ []) r free (omega (arith, few, one))
      (submitted_more h.cluster 0 ads ad all (subst (λ k. IsSubmitted h.cluster k ad) (omega arith) (job_submitted f (job_macros (decimal (length ads)) i f.table) (length ads) n (Ok ad) ad free (omega (arith, few)) job refl)))
      more

  asked_submitted : (f : FileSoFar) (n : ℕ) (q : Queue) (r : AdsResult) → AllFree f.lines.attributes → AreSubmitted h.cluster 0 f.ads → Asks h f n q r → AreGoodAds r
  asked_submitted f n q _ free all (too_many over) = tt
  asked_submitted f n q _ free all (no_program fits none absent) = tt
  asked_submitted f n q _ free all (no_jobs fits none program) = all
  asked_submitted f n q r free all (jobs fits some made) =
      let many = length-items_of q.copies q.over in
      let most = fits.1 in
      made_submitted f.lines n (items_of q.copies q.over) f.ads r free (omega (arith, many, most)) all made

  queued_submitted : (f : FileSoFar) (n : ℕ) (s : List ℕ) (r : AdsResult) → AllFree f.lines.attributes → AreSubmitted h.cluster 0 f.ads → Queues h f n s r → AreGoodAds r
  queued_submitted f n s _ free all (unreadable rep) = tt
  queued_submitted f n s _ free all (no_form rep none) = tt
  queued_submitted f n s r free all (asks {q = q} rep is asked) = asked_submitted f n q r free all asked

  -- ---- the lines

  set_free : (b : Bool) (x v : List ℕ) (n : ℕ) (l : LinesSoFar) → AllFree l.attributes → AllFree (name_set b x v n l).attributes
  set_free true x v n l free = free
  set_free false x v n l free = free

  read_submitted : (ls : List Line) (f : FileSoFar) (r : AdsResult) → AllFree f.lines.attributes → AreSubmitted h.cluster 0 f.ads → Reads h ls f r → AreGoodAds r
  read_submitted _ f _ free all (ended e) = all
  read_submitted _ f _ free all (no_queue e) = tt
  read_submitted _ f _ free all (refuses e) = tt
  read_submitted _ f r free all (sets {l = l} {ls = ls} {x = x} {v = v} e more) =
      read_submitted ls (with_name x v l.number f) r (set_free (is_built_in x) x v l.number f.lines free) all more
  read_submitted _ f r free all (sets_attribute {l = l} {ls = ls} {x = x} {v = v} e more) =
      read_submitted ls (with_attribute_line x v l.number f) r (all_free_with x v l.number f.lines.attributes (frees_line l.text x v e) free) all more
  read_submitted _ f _ free all (refuses_queue e q) = tt
  read_submitted _ f r free all (queues {l = l} {ls = ls} {q = q} {ads = ads} e asked more) =
      read_submitted ls (with_ads ads f) r free (queued_submitted f l.number q (Ok ads) free all asked) more

pub all_submitted : (bs : List ℕ) (h : Common) (ads : List Attributes) → h.cluster < 2 ^ 63 → h.now < 2 ^ 63 → HasReadableLiteral (text h.owner) → SubmittedJobs bs h (Ok ads) → AreSubmitted h.cluster 0 ads
all_submitted bs h ads clustered dated owner read = read_submitted h owner clustered dated _ (begun h.cluster) (Ok ads) tt tt read
