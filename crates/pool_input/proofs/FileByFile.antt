-- What submit files submit, file by file.
use Rattle.std.proofs.Common.{◌≡◌, ◌∙◌, ◌+◌, ◌<◌, ◌≤◌, ℕ, suc, length, drop, drop-cons, drop_of_length-le, get_or, List, [], ◌∷◌, ◌++◌, Bool, true, Option, Some, None, Ok, inl, inr, refl, sym, ap, subst, arith, append_assoc}
use Rattle.std.proofs.lemmas.List.{append-nil, map-append}
use Rattle.std.proofs.lemmas.List.Elements.{filter_map-append}
use Rattle.ad_tree.specs.Ad.{Attributes}
use Rattle.pool_outer.specs.Files.{Contents}
use Rattle.thin_pool.specs.declared.history.Step.{Step}
use Rattle.thin_pool.specs.CourseValue.{CourseValue}
use Rattle.thin_pool.specs.Histories.{submissions_in}
use Rattle.thin_pool.specs.PoolValue.{PoolValue}
use Rattle.thin_pool.specs.Reactions.{next_cluster}
use Rattle.thin_pool.specs.Resting.{IsResting}
use Rattle.pool_input.specs.declared.fault.Fault.{Fault}
use Rattle.pool_input.specs.declared.fault.Fault.TheVariants as fault
use Rattle.pool_input.specs.declared.status.Status.{Status}
use Rattle.pool_input.specs.declared.status.Status.TheVariants as status
use Rattle.pool_input.specs.Faults.{fault_status, UnlessOut, UnlessFault, IsStatus}
use Rattle.pool_input.specs.Readings.{AreRead}
use Rattle.pool_input.specs.Submissions.{AsksFor, IsSubmitRefused, Submits, submits_end, stops, and_submits, StopsAt, TakesSubmission, submit_step, submit_steps}
use Rattle.std.specs.Borrow.{Bor}
use Rattle.pool_input.specs.Words.{file_names}
use Rattle.pool_input.proofs.Reading.{read_more}

pub submits-more : (list : List Step) (s : List Attributes × ℕ) → submissions_in (list ++ submit_step s ∷ []) ≡ submissions_in list ++ s ∷ []
submits-more list s = filter_map-append _ list (submit_step s ∷ [])

-- what was submitted so far, and whatever the other files submit, is what all of them submit
abbrev pub SoFar : (ℕ → Type 0) → Contents → List ℕ → List (List ℕ) → PoolValue → List (List ℕ) → CourseValue → Type 0
SoFar allows file owner all opening rest now = (more : List (List Attributes × ℕ)) (end : Option Status)
    → Submits allows file owner rest now.pool more end → Submits allows file owner all opening (submissions_in now.list ++ more) end

pub so_far_first : (allows : ℕ → Type 0) (file : Contents) (owner : List ℕ) (names : List (List ℕ)) (now : CourseValue) → now.list ≡ [] → SoFar allows file owner names now.pool names now
so_far_first allows file owner names now none more end rest = rw none rest

pub so_far_next : (allows : ℕ → Type 0) (tells : Bool) (told : tells ≡ true) (file : Contents) (here : Option (List ℕ)) (owner name : List ℕ) (names all : List (List ℕ)) (opening : PoolValue) (old new : CourseValue) → here ≡ file name → TakesSubmission allows tells here owner old new → SoFar allows file owner all opening (name ∷ names) old → SoFar allows file owner all opening names new
so_far_next allows tells told file here owner name names all opening old new same takes so_far more end rest =
    let s : List Attributes × ℕ = (takes.jobs, takes.reading) in
    let asks : AsksFor (file name) owner (next_cluster old.pool) takes.reading (Ok takes.jobs) = subst (λ (f : Option (List ℕ)). AsksFor f owner (next_cluster old.pool) takes.reading (Ok takes.jobs)) same (takes.of_file told) in
    let next = so_far (s ∷ more) end (and_submits takes.allowed asks takes.accepted (subst (λ (p : PoolValue). Submits allows file owner names p more end) takes.pool rest)) in
    let list : submissions_in new.list ≡ submissions_in old.list ++ s ∷ [] = ap submissions_in takes.list ∙ submits-more old.list s in
    subst (λ (l : List (List Attributes × ℕ)). Submits allows file owner all opening l end) (sym (append_assoc (submissions_in old.list) (s ∷ []) more) ∙ ap (λ (l : List (List Attributes × ℕ)). l ++ more) (sym list)) next

pub so_far_all : (allows : ℕ → Type 0) (file : Contents) (owner : List ℕ) (all : List (List ℕ)) (opening : PoolValue) (now : CourseValue) → SoFar allows file owner all opening [] now → Submits allows file owner all opening (submissions_in now.list) None
so_far_all allows file owner all opening now so_far = subst (λ (l : List (List Attributes × ℕ)). Submits allows file owner all opening l None) (append-nil (submissions_in now.list)) (so_far [] None submits_end)

-- the name at a place is the first of those from there on
first_at : (names : List (Bor (List ℕ))) (i : ℕ) (d : Bor (List ℕ)) → i < length names → file_names (drop i names) ≡ (get_or names i d).now ∷ file_names (drop (i + 1) names)
first_at names i d lt =
    let next : suc i ≡ i + 1 = omega arith in
    ap file_names (drop-cons names i d lt) ∙ ap (λ k. (get_or names i d).now ∷ file_names (drop k names)) next

pub no_names : (names : List (Bor (List ℕ))) (i : ℕ) → length names ≤ i → file_names (drop i names) ≡ []
no_names names i past = ap file_names (drop_of_length-le names past)

-- the next file is refused
stops_so : (allows : ℕ → Type 0) (file : Contents) (owner name : List ℕ) (names all : List (List ℕ)) (opening : PoolValue) (now : CourseValue) (f : Fault) → SoFar allows file owner all opening (name ∷ names) now → IsSubmitRefused allows (file name) owner now.pool f → StopsAt allows file owner all opening (fault_status name f)
stops_so allows file owner name names all opening now f so_far why = (submissions_in now.list ++ [], so_far [] (Some (fault_status name f)) (stops why))

pub so_far_stops : (allows : ℕ → Type 0) (file : Contents) (owner name : List ℕ) (names all : List (List ℕ)) (opening : PoolValue) (now : CourseValue) (f : Fault) (s : Status) → SoFar allows file owner all opening (name ∷ names) now → UnlessOut (IsSubmitRefused allows (file name) owner now.pool) f → IsStatus (fault_status name f) s → UnlessFault (StopsAt allows file owner all opening) s
so_far_stops allows file owner name names all opening now (fault.Refused line kind) s so_far refused (inl is) = rw is (stops_so allows file owner name names all opening now (fault.Refused line kind) so_far refused)
so_far_stops allows file owner name names all opening now (fault.Refused line kind) s so_far refused (inr is) = rw is tt
so_far_stops allows file owner name names all opening now (fault.Limit which) s so_far refused (inl is) = rw is (stops_so allows file owner name names all opening now (fault.Limit which) so_far refused)
so_far_stops allows file owner name names all opening now (fault.Limit which) s so_far refused (inr is) = rw is tt
so_far_stops allows file owner name names all opening now fault.Disk s so_far refused (inl is) = rw is tt
so_far_stops allows file owner name names all opening now fault.Disk s so_far refused (inr is) = rw is tt
so_far_stops allows file owner name names all opening now fault.Memory s so_far refused (inl is) = rw is tt
so_far_stops allows file owner name names all opening now fault.Memory s so_far refused (inr is) = rw is tt

-- the fault of the disk is the status that says so
pub disk_of : (name : List ℕ) (f : Fault) (s : Status) → IsStatus (fault_status name f) s → s ≡ status.DiskFault → f ≡ fault.Disk
disk_of name (fault.Refused line kind) s (inl is) disk = let clash : status.Input name line kind ≡ status.DiskFault = sym is ∙ disk in cc
disk_of name (fault.Limit which) s (inl is) disk = let clash : status.Limit which ≡ status.DiskFault = sym is ∙ disk in cc
disk_of name fault.Disk s (inl is) disk = refl
disk_of name fault.Memory s (inl is) disk = let clash : status.Memory ≡ status.DiskFault = sym is ∙ disk in cc
disk_of name f s (inr is) disk = let clash : status.Memory ≡ status.DiskFault = sym is ∙ disk in cc

-- ---- the same, by the place of a name in the list

pub so_far_at : (allows : ℕ → Type 0) (tells : Bool) (told : tells ≡ true) (file here : Contents) (owner : List ℕ) (names : List (Bor (List ℕ))) (i : ℕ) (d : Bor (List ℕ)) (opening : PoolValue) (old new : CourseValue) → i < length names → ((n : List ℕ) → here n ≡ file n) → TakesSubmission allows tells (here (get_or names i d).now) owner old new → SoFar allows file owner (file_names names) opening (file_names (drop i names)) old → SoFar allows file owner (file_names names) opening (file_names (drop (i + 1) names)) new
so_far_at allows tells told file here owner names i d opening old new lt same takes so_far =
    let name = (get_or names i d).now in
    so_far_next allows tells told file (here name) owner name (file_names (drop (i + 1) names)) (file_names names) opening old new (same name) takes
    (subst (λ (l : List (List ℕ)). SoFar allows file owner (file_names names) opening l old) (first_at names i d lt) so_far)

pub stops_at : (allows : ℕ → Type 0) (file here : Contents) (owner : List ℕ) (names : List (Bor (List ℕ))) (i : ℕ) (d : Bor (List ℕ)) (opening : PoolValue) (now : CourseValue) (f : Fault) (s : Status) → i < length names → ((n : List ℕ) → here n ≡ file n) → SoFar allows file owner (file_names names) opening (file_names (drop i names)) now → UnlessOut (IsSubmitRefused allows (here (get_or names i d).now) owner now.pool) f → IsStatus (fault_status (get_or names i d).now f) s → UnlessFault (StopsAt allows file owner (file_names names) opening) s
stops_at allows file here owner names i d opening now f s lt same so_far refused is =
    let name = (get_or names i d).now in
    so_far_stops allows file owner name (file_names (drop (i + 1) names)) (file_names names) opening now f s
    (subst (λ (l : List (List ℕ)). SoFar allows file owner (file_names names) opening l now) (first_at names i d lt) so_far)
    (subst (λ (o : Option (List ℕ)). UnlessOut (IsSubmitRefused allows o owner now.pool) f) (same name) refused) is

-- ---- the pool and its history, after one more submission

pub rests_next : (allows : ℕ → Type 0) (tells : Bool) (here : Option (List ℕ)) (owner : List ℕ) (old new : CourseValue) → TakesSubmission allows tells here owner old new → IsResting old.pool → IsResting new.pool
rests_next allows tells here owner old new takes rests = rw takes.pool (record { is_open = rests.is_open; no_runs = rests.no_runs })

pub slots_next : (allows : ℕ → Type 0) (tells : Bool) (here : Option (List ℕ)) (owner : List ℕ) (old new : CourseValue) → TakesSubmission allows tells here owner old new → new.pool.slots ≡ old.pool.slots
slots_next allows tells here owner old new takes = ap (λ (p : PoolValue). p.slots) takes.pool

pub steps_next : (allows : ℕ → Type 0) (tells : Bool) (here : Option (List ℕ)) (owner : List ℕ) (old new : CourseValue) → TakesSubmission allows tells here owner old new → old.list ≡ submit_steps (submissions_in old.list) → new.list ≡ submit_steps (submissions_in new.list)
steps_next allows tells here owner old new takes steps =
    let s : List Attributes × ℕ = (takes.jobs, takes.reading) in
    takes.list
    ∙ (ap (λ (l : List Step). l ++ submit_step s ∷ []) steps
    ∙ (sym (map-append submit_step (submissions_in old.list) (s ∷ []))
    ∙ ap submit_steps (sym (ap submissions_in takes.list ∙ submits-more old.list s))))

pub read_next : (allows : ℕ → Type 0) (tells : Bool) (here : Option (List ℕ)) (owner : List ℕ) (old new : CourseValue) → TakesSubmission allows tells here owner old new → AreRead allows old.list → AreRead allows new.list
read_next allows tells here owner old new takes read = rw takes.list (read_more allows old.list (submit_step (takes.jobs, takes.reading)) read takes.allowed takes.in_range)

pub read_none : (allows : ℕ → Type 0) (list : List Step) → list ≡ [] → AreRead allows list
read_none allows list none = rw none (record { allowed = λ k d below. absurd (omega arith); in_range = λ k d below. absurd (omega arith) })
