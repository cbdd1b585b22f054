-- The input of a run, of its configuration and its submit files.
use Rattle.std.proofs.Common.{◌≡◌, ◌∙◌, ◌≤◌, inl, inr, ℕ, List, Option, None, Result, Ok, Err, IfOk, IfErr, refl, sym, ap, subst, arith}
use Rattle.ad_tree.specs.Ad.{Attributes}
use Rattle.pool_outer.specs.Cause.{Rose}
use Rattle.pool_outer.specs.Files.{Contents}
use Rattle.pool_config.specs.Configuration.{Configuration}
use Rattle.thin_pool.specs.CourseValue.{CourseValue}
use Rattle.thin_pool.specs.Histories.{submissions_in}
use Rattle.thin_pool.specs.declared.slot.PoolSlot.{PoolSlot}
use Rattle.thin_pool.specs.PoolValue.{PoolValue}
use Rattle.thin_pool.specs.Reactions.{opening_pool}
use Rattle.thin_pool.specs.Resting.{IsResting}
use Rattle.pool_input.specs.declared.fault.Fault.{Fault}
use Rattle.pool_input.specs.declared.fault.Fault.TheVariants as fault
use Rattle.pool_input.specs.declared.status.Status.{Status}
use Rattle.pool_input.specs.declared.status.Status.TheVariants as status
use Rattle.pool_input.specs.Faults.{fault_status, UnlessOut, UnlessFault, IsStatus}
use Rattle.pool_input.specs.Input.{IsConfigFile, IsConfigRefused, IsOfFiles, IsRefusedOf, at_config, at_submit, pool_slots, ArePlaced, HasSubmitted}
use Rattle.pool_input.specs.Readings.{AreRead}
use Rattle.pool_input.specs.Submissions.{Submits, StopsAt, submit_steps}

-- a status that is no fault of the disk and no want of memory tells more
unless_more : (P Q : Status → Type 0) (s : Status) → ((t : Status) → P t → Q t) → UnlessFault P s → UnlessFault Q s
unless_more P Q status.Done more is = more status.Done is
unless_more P Q status.Usage more is = more status.Usage is
unless_more P Q (status.Input file line kind) more is = more (status.Input file line kind) is
unless_more P Q status.Stuck more is = more status.Stuck is
unless_more P Q status.DiskFault more is = tt
unless_more P Q status.OutFault more is = more status.OutFault is
unless_more P Q status.Memory more is = tt
unless_more P Q (status.BadLog line) more is = more (status.BadLog line) is
unless_more P Q (status.Limit which) more is = more (status.Limit which) is

pub input_of : (allows : ℕ → Type 0) (file now : Contents) (config : List ℕ) (submits : List (List ℕ)) (c : Configuration) (r : Result CourseValue Status) → ((name : List ℕ) → now name ≡ file name) → IsConfigFile (file config) c
    → IfOk r (λ x. x.opening ≡ opening_pool (pool_slots c)) → IfOk r (λ x. Submits allows now c.owner submits x.opening (submissions_in x.list) None) → IfOk r (λ x. IsOfFiles allows file config submits x.opening x.list)
input_of allows file now config submits c (Ok x) same configured opening submitted = record {
  configuration = c;
  configured = configured;
  opening_is = opening;
  submitted = subst (λ (f : Contents). Submits allows f c.owner submits x.opening (submissions_in x.list) None) (λ i name. same name i) submitted;
}
input_of allows file now config submits c (Err s) same configured opening submitted = tt

pub submit_stops : (allows : ℕ → Type 0) (file now : Contents) (config : List ℕ) (submits : List (List ℕ)) (c : Configuration) (r : Result CourseValue Status) → ((name : List ℕ) → now name ≡ file name) → IsConfigFile (file config) c
    → IfErr r (UnlessFault (StopsAt allows now c.owner submits (opening_pool (pool_slots c)))) → IfErr r (UnlessFault (IsRefusedOf allows file config submits))
submit_stops allows file now config submits c (Ok x) same configured refused = tt
submit_stops allows file now config submits c (Err s) same configured refused =
    unless_more (StopsAt allows now c.owner submits (opening_pool (pool_slots c))) (IsRefusedOf allows file config submits) s
    (λ t stops. at_submit configured (subst (λ (f : Contents). StopsAt allows f c.owner submits (opening_pool (pool_slots c)) t) (λ i name. same name i) stops)) refused

pub config_stops : (allows : ℕ → Type 0) (file : Contents) (config : List ℕ) (submits : List (List ℕ)) (f : Fault) (s : Status) → UnlessOut (IsConfigRefused (file config)) f → IsStatus (fault_status config f) s → UnlessFault (IsRefusedOf allows file config submits) s
config_stops allows file config submits (fault.Refused line kind) s refused (inl is) = rw is (at_config refused)
config_stops allows file config submits (fault.Refused line kind) s refused (inr is) = rw is tt
config_stops allows file config submits (fault.Limit which) s refused (inl is) = rw is (at_config refused)
config_stops allows file config submits (fault.Limit which) s refused (inr is) = rw is tt
config_stops allows file config submits fault.Disk s refused (inl is) = rw is tt
config_stops allows file config submits fault.Disk s refused (inr is) = rw is tt
config_stops allows file config submits fault.Memory s refused (inl is) = rw is tt
config_stops allows file config submits fault.Memory s refused (inr is) = rw is tt

-- a fault of the disk has come since a call that came before
pub disk_since : (r : Result CourseValue Status) (before then now : ℕ) → before ≤ then → IfErr r (λ s. s ≡ status.DiskFault → Rose then now) → IfErr r (λ s. s ≡ status.DiskFault → Rose before now)
disk_since (Ok c) before then now later rose = tt
disk_since (Err s) before then now later rose = λ disk. let since = rose disk in omega arith

pub no_disk_memory : status.Memory ≡ status.DiskFault → ⊥
no_disk_memory is = cc

-- a pool that was opened, and to which only submissions have happened since
pub submitted_of : (allows : ℕ → Type 0) (slots : List PoolSlot) (old new : CourseValue) → old.opening ≡ opening_pool slots → old.pool ≡ old.opening → ArePlaced old.opening.slots 64 → new.opening ≡ old.opening → new.pool.slots ≡ old.pool.slots → new.list ≡ submit_steps (submissions_in new.list) → AreRead allows new.list → IsResting new.pool → HasSubmitted allows new
submitted_of allows slots old new opening begun placed kept same steps read rests =
    let now : new.opening ≡ opening_pool slots = kept ∙ opening in
    record {
      opened = now ∙ ap opening_pool (sym (ap (λ (p : PoolValue). p.slots) now));
      slots = same ∙ (ap (λ (p : PoolValue). p.slots) begun ∙ ap (λ (p : PoolValue). p.slots) (sym kept));
      placed = rw kept placed;
      steps = steps;
      read = read;
      rests = rests;
    }

pub submits_with : (allows : ℕ → Type 0) (file : Contents) (said owner : List ℕ) (names : List (List ℕ)) (p q : PoolValue) (done : List (List Attributes × ℕ)) (end : Option Status) → said ≡ owner → p ≡ q → Submits allows file said names p done end → Submits allows file owner names q done end
submits_with allows file said owner names p q done end same begun submits = subst (λ (o : List ℕ). Submits allows file o names q done end) same (subst (λ (r : PoolValue). Submits allows file said names r done end) begun submits)

pub stops_with : (allows : ℕ → Type 0) (file : Contents) (said owner : List ℕ) (names : List (List ℕ)) (p q : PoolValue) (s : Status) → said ≡ owner → p ≡ q → UnlessFault (StopsAt allows file said names p) s → UnlessFault (StopsAt allows file owner names q) s
stops_with allows file said owner names p q s same begun stops = subst (λ (o : List ℕ). UnlessFault (StopsAt allows file o names q) s) same (subst (λ (r : PoolValue). UnlessFault (StopsAt allows file said names r) s) begun stops)

pub opening_rests : (o p : PoolValue) (slots : List PoolSlot) → p ≡ o → o ≡ opening_pool slots → IsResting p
opening_rests o p slots begun opening = rw (begun, opening) (record { is_open = refl; no_runs = refl })
