-- Jobs that are added to a table, one by one.
use Rattle.std.proofs.Common.{◌≡◌, ℕ, suc, ◌+◌, ◌≤◌, List, [], ◌∷◌, ◌++◌, length, refl, sym, ◌∙◌, ap, subst, arith, append_assoc}
use Rattle.std.proofs.lemmas.List.{append-nil}
use Rattle.indexmap.specs.IndexMap.{insert_entry}
use Rattle.ad_tree.specs.Ad.{Attributes}
use Rattle.claim_id.specs.declared.numbers.JobId.{JobId}
use Rattle.pool_view.specs.Numbers.{same_job}
use Rattle.thin_pool.specs.declared.job.Job.{Job}
use Rattle.thin_pool.specs.declared.job.Phase.TheVariants as phase
use Rattle.thin_pool.specs.Reactions.{numbered_jobs}
use Rattle.thin_pool.proofs.Entries.{insert_entry-last}
use Rattle.thin_pool.proofs.Tables.{AreBefore, free_before, before_next}

-- what the table has, with the jobs that are left, is the whole; there is room for them, and their numbers are new
pub record Adds (entries : List (JobId × Job)) (room cluster proc : ℕ) (left : List Attributes) (whole : List (JobId × Job)) : Type 0 where
  pub all : entries ++ numbered_jobs cluster proc left ≡ whole
  pub before : AreBefore cluster proc entries
  pub enough : length left ≤ room
  pub few : proc + length left ≤ 10000

pub adds_next : (entries : List (JobId × Job)) (room cluster proc : ℕ) (left : List Attributes) (ad : Attributes) (more : List Attributes) (whole new : List (JobId × Job)) (new_room : ℕ)
    → Adds entries room cluster proc left whole → left ≡ ad ∷ more
    → new ≡ insert_entry same_job entries (record { cluster = cluster; proc = proc }) (record { ad = ad; phase = phase.Idle }) → room ≤ new_room + 1
    → Adds new new_room cluster (proc + 1) more whole
adds_next entries room cluster proc left ad more whole new new_room a here put used =
    let id : JobId = record { cluster = cluster; proc = proc } in
    let job : Job = record { ad = ad; phase = phase.Idle } in
    let last : new ≡ entries ++ (id, job) ∷ [] = put ∙ insert_entry-last same_job id job entries (free_before cluster proc entries a.before) in
    let long : length left ≡ suc (length more) = ap length here in
    record {
      all = ap (λ l. l ++ numbered_jobs cluster (proc + 1) more) last ∙ append_assoc entries ((id, job) ∷ []) (numbered_jobs cluster (proc + 1) more) ∙ ap (λ l. entries ++ numbered_jobs cluster proc l) (sym here) ∙ a.all;
      before = subst (AreBefore cluster (proc + 1)) (sym last) (before_next cluster proc job entries a.before);
      enough = omega (arith, a.enough, long);
      few = omega (arith, a.few, long);
    }

pub adds_all : (entries : List (JobId × Job)) (room cluster proc : ℕ) (left : List Attributes) (whole : List (JobId × Job)) → Adds entries room cluster proc left whole → left ≡ [] → entries ≡ whole
adds_all entries room cluster proc left whole a none = sym (append-nil entries) ∙ ap (λ l. entries ++ numbered_jobs cluster proc l) (sym none) ∙ a.all

pub nothing_left : {A : Type 0} (xs : List A) → length xs ≡ 0 → xs ≡ []
nothing_left [] h = refl
nothing_left (x ∷ xs) h = absurd (omega arith)
