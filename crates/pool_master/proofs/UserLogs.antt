-- The user log, event by event.
use Rattle.std.proofs.Common.{◌≡◌, ◌∙◌, ℕ, zero, suc, ◌+◌, ◌-◌, ◌<◌, ◌≤◌, Bool, true, false, List, [], ◌∷◌, ◌++◌, length, Option, Some, None, if◌then◌else◌, refl, sym, ap, subst, arith, append_assoc, codes}
use Rattle.std.proofs.lemmas.List.{append-nil}
use Rattle.std.specs.List.{All}
use Rattle.jiff.specs.Words.{date_text, time_text}
use Rattle.jiff.specs.declared.civil.DateTime.{DateTime}
use Rattle.jiff.proofs.Family.{same_datetime}
use Rattle.ad_tree.specs.Ad.{Attributes}
use Rattle.claim_id.specs.declared.numbers.JobId.{JobId}
use Rattle.pool_mail.specs.declared.end.End.{End}
use Rattle.pool_mail.specs.declared.end.End.TheVariants.{Exited, Signalled, NotStarted}
use Rattle.thin_pool.specs.declared.event.Event.{Event}
use Rattle.thin_pool.specs.declared.event.Event.TheVariants.{Submit, Start, Ended, Close}
use Rattle.thin_pool.specs.declared.history.Step.{Step}
use Rattle.thin_pool.specs.declared.slot.PoolSlot.{PoolSlot}
use Rattle.thin_pool.specs.PoolValue.{PoolValue}
use Rattle.thin_pool.specs.Reactions.{takes_number, last_cluster_after}
use Rattle.pool_master.specs.UserLog.{IsStamp, IsEntry, AreEntries, IsSubmitLines, IsStartLines, IsEndLines, IsLines, ArePrinted, IsLogOf, never_starts, numbers_text, submitted_text, submission_text, last_cluster_with}

-- one entry
pub enters_one : (number : List ℕ) (cluster proc reading : ℕ) (said numbers stamp text : List ℕ) → text ≡ number ++ (codes " " ++ (numbers ++ (codes " " ++ (stamp ++ (codes " " ++ said))))) → numbers ≡ numbers_text cluster proc → IsStamp reading stamp → IsEntry number cluster proc reading said text
enters_one number cluster proc reading said numbers stamp text is same stamped = record {
  stamp = stamp;
  stamp_is = stamped;
  is = is ∙ ap (λ (t : List ℕ). number ++ (codes " " ++ (t ++ (codes " " ++ (stamp ++ (codes " " ++ said)))))) same;
}

-- one event more
pub prints_on : (slots : List PoolSlot) (start last after_it : ℕ) (all rest after : List Step) (step : Step) (text new first : List ℕ) → rest ≡ step ∷ after → IsLines slots last after step.event first → after_it ≡ last_cluster_with last step.event → new ≡ text ++ first → ((more : List ℕ) → ArePrinted slots last rest more → ArePrinted slots start all (text ++ more)) → (more : List ℕ) → ArePrinted slots after_it after more → ArePrinted slots start all (new ++ more)
prints_on slots start last after_it all rest after step text new first is printed count grown so_far more later =
    rw (grown, append_assoc) (so_far (first ++ more) (rw is (first, more, refl, printed, rw count at later)))

pub prints_all : (slots : List PoolSlot) (start last : ℕ) (all rest : List Step) (text : List ℕ) → rest ≡ [] → ((more : List ℕ) → ArePrinted slots last rest more → ArePrinted slots start all (text ++ more)) → ArePrinted slots start all text
prints_all slots start last all rest text is so_far = let whole = so_far [] (rw is refl) in rw append-nil at whole

-- one entry of a submission more
pub enters_on : (cluster count reading proc : ℕ) (text new first : List ℕ) → proc < count → IsEntry (codes "000") cluster proc reading submitted_text first → new ≡ text ++ first → ((more : List ℕ) → AreEntries cluster proc (count - proc) reading more → AreEntries cluster 0 count reading (text ++ more)) → (more : List ℕ) → AreEntries cluster (proc + 1) (count - (proc + 1)) reading more → AreEntries cluster 0 count reading (new ++ more)
enters_on cluster count reading proc text new first below entered grown so_far more later =
    let one : count - proc ≡ suc (count - (proc + 1)) = omega arith in
    rw (grown, append_assoc) (so_far (first ++ more) (rw one (first, more, refl, entered, later)))

pub enters_all : (cluster count reading proc : ℕ) (text : List ℕ) → count - proc ≡ 0 → ((more : List ℕ) → AreEntries cluster proc (count - proc) reading more → AreEntries cluster 0 count reading (text ++ more)) → AreEntries cluster 0 count reading text
enters_all cluster count reading proc text is so_far = let whole = so_far [] (rw is refl) in rw append-nil at whole

pub none_left : (rest : List Step) → length rest ≡ 0 → rest ≡ []
none_left [] none = refl
none_left (s ∷ ss) none = absurd (omega arith)

pub all_behind : (P : Step → Type 0) (rest after : List Step) (step : Step) → rest ≡ step ∷ after → All P rest → All P after
all_behind P rest after step is all = λ k d h. let whole : All P (step ∷ after) = subst (All P) is all in whole (suc k) d (omega arith)

more_with : (last : ℕ) (ads : List Attributes) → last_cluster_after last ads ≤ last + 1
more_with last ads = by_test (takes_number last ads)
  where
    by_test : (b : Bool) → (if b then last + 1 else last) ≤ last + 1
    by_test true = omega arith
    by_test false = omega arith

-- an event is one more cluster at most
pub last_cluster_grows : (last : ℕ) (ev : Event) → last_cluster_with last ev ≤ last + 1
last_cluster_grows last (Submit jobs reading) = more_with last jobs
last_cluster_grows last (Start job slot judged reading) = omega arith
last_cluster_grows last (Ended job end reading) = omega arith
last_cluster_grows last (Close reading none) = omega arith

-- The text is determined by the history.

same_stamp : (reading : ℕ) (a b : List ℕ) → IsStamp reading a → IsStamp reading b → a ≡ b
same_stamp reading a b x y =
    let civil : x.civil ≡ y.civil = same_datetime x.civil y.civil (x.is ∙ sym y.is) in
    x.shown ∙ (ap (λ (c : DateTime). date_text c.date ++ 32 ∷ time_text None c.time) civil ∙ sym y.shown)

same_entry : (number : List ℕ) (cluster proc reading : ℕ) (said a b : List ℕ) → IsEntry number cluster proc reading said a → IsEntry number cluster proc reading said b → a ≡ b
same_entry number cluster proc reading said a b x y =
    let stamp : x.stamp ≡ y.stamp = same_stamp reading x.stamp y.stamp x.stamp_is y.stamp_is in
    x.is ∙ (ap (λ (s : List ℕ). number ++ (codes " " ++ (numbers_text cluster proc ++ (codes " " ++ (s ++ (codes " " ++ said)))))) stamp ∙ sym y.is)

same_entries : (cluster proc count reading : ℕ) (a b : List ℕ) → AreEntries cluster proc count reading a → AreEntries cluster proc count reading b → a ≡ b
same_entries cluster proc zero reading a b x y = x ∙ sym y
same_entries cluster proc (suc count) reading a b x y =
    let first : x.0 ≡ y.0 = same_entry _ cluster proc reading _ x.0 y.0 x.3 y.3 in
    let rest : x.1 ≡ y.1 = same_entries cluster (proc + 1) count reading x.1 y.1 x.4 y.4 in
    x.2 ∙ (ap (λ (t : List ℕ). t ++ x.1) first ∙ (ap (λ (t : List ℕ). y.0 ++ t) rest ∙ sym y.2))

same_submit_lines : (cluster count reading : ℕ) (a b : List ℕ) → IsSubmitLines cluster count reading a → IsSubmitLines cluster count reading b → a ≡ b
same_submit_lines cluster count reading a b x y =
    let entries : x.0 ≡ y.0 = same_entries cluster 0 count reading x.0 y.0 x.2 y.2 in
    x.1 ∙ (ap (λ (t : List ℕ). t ++ submission_text count cluster) entries ∙ sym y.1)

same_start_lines : (never : Bool) (job : JobId) (slot : List ℕ) (reading : ℕ) (a b : List ℕ) → IsStartLines never job slot reading a → IsStartLines never job slot reading b → a ≡ b
same_start_lines true job slot reading a b x y = x ∙ sym y
same_start_lines false job slot reading a b x y = same_entry _ job.cluster job.proc reading _ a b x y

same_end_lines : (end : End) (job : JobId) (reading : ℕ) (a b : List ℕ) → IsEndLines end job reading a → IsEndLines end job reading b → a ≡ b
same_end_lines (Exited code) job reading a b x y = same_entry _ job.cluster job.proc reading _ a b x y
same_end_lines (Signalled signal) job reading a b x y = same_entry _ job.cluster job.proc reading _ a b x y
same_end_lines NotStarted job reading a b x y = same_entry _ job.cluster job.proc reading _ a b x y

same_lines : (slots : List PoolSlot) (last : ℕ) (behind : List Step) (ev : Event) (a b : List ℕ) → IsLines slots last behind ev a → IsLines slots last behind ev b → a ≡ b
same_lines slots last behind (Submit jobs reading) a b x y = same_submit_lines (last + 1) (length jobs) reading a b x y
same_lines slots last behind (Start job slot judged reading) a b x y = same_start_lines (never_starts job behind) job _ reading a b x y
same_lines slots last behind (Ended job end reading) a b x y = same_end_lines end job reading a b x y
same_lines slots last behind (Close reading none) a b x y = x ∙ sym y

same_printed : (slots : List PoolSlot) (last : ℕ) (steps : List Step) (a b : List ℕ) → ArePrinted slots last steps a → ArePrinted slots last steps b → a ≡ b
same_printed slots last [] a b x y = x ∙ sym y
same_printed slots last (s ∷ ss) a b x y =
    let first : x.0 ≡ y.0 = same_lines slots last ss s.event x.0 y.0 x.3 y.3 in
    let rest : x.1 ≡ y.1 = same_printed slots (last_cluster_with last s.event) ss x.1 y.1 x.4 y.4 in
    x.2 ∙ (ap (λ (t : List ℕ). t ++ x.1) first ∙ (ap (λ (t : List ℕ). y.0 ++ t) rest ∙ sym y.2))

pub same_log : (opening : Option PoolValue) (steps : List Step) (a b : List ℕ) → IsLogOf opening steps a → IsLogOf opening steps b → a ≡ b
same_log None steps a b x y = x ∙ sym y
same_log (Some p) steps a b x y = same_printed p.slots 0 steps a b x y
