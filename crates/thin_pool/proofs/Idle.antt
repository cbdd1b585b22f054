-- Tables and lists of ads, as a loop comes to their items one by one.
use Rattle.std.proofs.Common.{◌≡◌, ◌≢◌, ◌<◌, ◌+◌, ◌-◌, ◌==◌, ◌↔◌, ℕ, zero, suc, List, [], ◌∷◌, ◌++◌, length, take, drop, drop-cons, get_or, slice_get, Some, None, Bool, true, false, true≢false, IsTrue, refl, sym, ◌∙◌, ap, subst, arith, append_assoc, eq-eqb, if◌then◌else◌}
use Rattle.std.specs.List.{cons_option}
use Rattle.std.proofs.lemmas.List.{map_more}
use Rattle.std.proofs.lemmas.Bool.{eqb-true}
use Rattle.ad_tree.specs.Ad.{Attributes}
use Rattle.claim_id.specs.declared.numbers.JobId.{JobId}
use Rattle.thin_pool.specs.declared.job.Job.{Job}
use Rattle.thin_pool.specs.declared.slot.PoolSlot.{PoolSlot}
use Rattle.thin_pool.specs.Jobs.{idle_jobs}
use Rattle.thin_pool.specs.PoolValue.{is_idle}
use Rattle.thin_pool.specs.Reactions.{idle_ads, slot_ads}
use Rattle.thin_pool.proofs.Adding.{nothing_left}

-- ---- the first job of a table, and the idle ones
idle_first : (e : JobId × Job) (es : List (JobId × Job)) → true ≡ is_idle e.1.phase → idle_ads (e ∷ es) ≡ e.1.ad ∷ idle_ads es
idle_first e es is = ap (λ b. cons_option (if b then Some e.1.ad else None) (idle_ads es)) (sym is)

busy_first : (e : JobId × Job) (es : List (JobId × Job)) → false ≡ is_idle e.1.phase → idle_ads (e ∷ es) ≡ idle_ads es
busy_first e es is = ap (λ b. cons_option (if b then Some e.1.ad else None) (idle_ads es)) (sym is)

idle_job_first : (e : JobId × Job) (es : List (JobId × Job)) → true ≡ is_idle e.1.phase → idle_jobs (e ∷ es) ≡ (e.0, e.1.ad) ∷ idle_jobs es
idle_job_first e es is = ap (λ b. cons_option (if b then Some (e.0, e.1.ad) else None) (idle_jobs es)) (sym is)

busy_job_first : (e : JobId × Job) (es : List (JobId × Job)) → false ≡ is_idle e.1.phase → idle_jobs (e ∷ es) ≡ idle_jobs es
busy_job_first e es is = ap (λ b. cons_option (if b then Some (e.0, e.1.ad) else None) (idle_jobs es)) (sym is)

-- ---- ads that are copied
pub passed_ad : (done all : List Attributes) (left : List (JobId × Job)) (e : JobId × Job) (more : List (JobId × Job)) → left ≡ e ∷ more → false ≡ is_idle e.1.phase → done ++ idle_ads left ≡ all → done ++ idle_ads more ≡ all
passed_ad done all left e more here busy whole = ap (λ l. done ++ l) (sym (ap idle_ads here ∙ busy_first e more busy)) ∙ whole

pub copied_ad : (done new all : List Attributes) (left : List (JobId × Job)) (e : JobId × Job) (more : List (JobId × Job)) → left ≡ e ∷ more → true ≡ is_idle e.1.phase → new ≡ done ++ e.1.ad ∷ [] → done ++ idle_ads left ≡ all → new ++ idle_ads more ≡ all
copied_ad done new all left e more here idle put whole =
    ap (λ l. l ++ idle_ads more) put ∙ append_assoc done (e.1.ad ∷ []) (idle_ads more) ∙ ap (λ l. done ++ l) (sym (ap idle_ads here ∙ idle_first e more idle)) ∙ whole

pub copied_slot_ad : (slots : List PoolSlot) (i : ℕ) (slot : PoolSlot) (done new : List Attributes) → i < length slots → slot ≡ get_or slots i slot → done ≡ slot_ads (take i slots) → new ≡ done ++ slot.ad ∷ [] → new ≡ slot_ads (take (i + 1) slots)
copied_slot_ad slots i slot done new below here so_far put =
    put ∙ (λ j. so_far j ++ (here j).ad ∷ []) ∙ sym (map_more (λ (s : PoolSlot). s.ad) slots i slot below)

-- ---- ads that are compared: P says that all are the same, which is whether those that are left are
pub nothing_left_over : {P : Type 0} (b : Bool) (left rest : List Attributes) → P ↔ (left ≡ rest) → rest ≡ [] → b ≡ (length left == 0) → IsTrue b ↔ P
nothing_left_over b left rest same none is = (
  λ yes. same.1 (nothing_left left (eqb-true (length left) 0 (sym is ∙ yes)) ∙ sym none),
  λ p. is ∙ eq-eqb (length left) 0 (ap length (same.0 p ∙ none)),
)

pub another_first : {P : Type 0} (left rest : List Attributes) (ad : Attributes) (more : List Attributes) → P ↔ (left ≡ rest) → rest ≡ ad ∷ more → ((tail : List Attributes) → left ≢ ad ∷ tail) → IsTrue false ↔ P
another_first left rest ad more same here other = (λ yes. absurd (true≢false (sym yes)), λ p. absurd (other more (same.0 p ∙ here)))

pub another_idle_ad : {P : Type 0} (left : List Attributes) (jobs : List (JobId × Job)) (e : JobId × Job) (more : List (JobId × Job)) → P ↔ (left ≡ idle_ads jobs) → jobs ≡ e ∷ more → true ≡ is_idle e.1.phase → ((tail : List Attributes) → left ≢ e.1.ad ∷ tail) → IsTrue false ↔ P
another_idle_ad left jobs e more same here idle = another_first left (idle_ads jobs) e.1.ad (idle_ads more) same (ap idle_ads here ∙ idle_first e more idle)

pub same_idle_ad : {P : Type 0} (left rest : List Attributes) (jobs : List (JobId × Job)) (e : JobId × Job) (more : List (JobId × Job)) → P ↔ (left ≡ idle_ads jobs) → jobs ≡ e ∷ more → true ≡ is_idle e.1.phase → left ≡ e.1.ad ∷ rest → P ↔ (rest ≡ idle_ads more)
same_idle_ad left rest jobs e more same here idle first =
    let all : idle_ads jobs ≡ e.1.ad ∷ idle_ads more = ap idle_ads here ∙ idle_first e more idle in
    (λ p. tails_same e.1.ad rest (idle_ads more) (sym first ∙ same.0 p ∙ all), λ h. same.1 (first ∙ ap (λ l. e.1.ad ∷ l) h ∙ sym all))
  where
    tails_same : (x : Attributes) (xs ys : List Attributes) → x ∷ xs ≡ x ∷ ys → xs ≡ ys
    tails_same x xs ys h = cc

pub no_idle_ad : {P : Type 0} (left : List Attributes) (jobs : List (JobId × Job)) (e : JobId × Job) (more : List (JobId × Job)) → P ↔ (left ≡ idle_ads jobs) → jobs ≡ e ∷ more → false ≡ is_idle e.1.phase → P ↔ (left ≡ idle_ads more)
no_idle_ad {P = P} left jobs e more same here busy = subst (λ l. P ↔ (left ≡ l)) (ap idle_ads here ∙ busy_first e more busy) same

pub another_slot_ad : {P : Type 0} (left : List Attributes) (slots : List PoolSlot) (i : ℕ) (slot : PoolSlot) → P ↔ (left ≡ slot_ads (drop i slots)) → i < length slots → slot ≡ get_or slots i slot → ((tail : List Attributes) → left ≢ slot.ad ∷ tail) → IsTrue false ↔ P
another_slot_ad left slots i slot same below is =
    another_first left (slot_ads (drop i slots)) slot.ad (slot_ads (drop (suc i) slots)) same (ap slot_ads (drop-cons slots i slot below) ∙ ap (λ (s : PoolSlot). s.ad ∷ slot_ads (drop (suc i) slots)) (sym is))

-- ---- the idle job at a place
pub passed_job : (left all : List (JobId × Job)) (e : JobId × Job) (more : List (JobId × Job)) (n place : ℕ) → left ≡ e ∷ more → false ≡ is_idle e.1.phase → slice_get (idle_jobs left) n ≡ slice_get (idle_jobs all) place → slice_get (idle_jobs more) n ≡ slice_get (idle_jobs all) place
passed_job left all e more n place here busy found = ap (λ l. slice_get l n) (sym (ap idle_jobs here ∙ busy_job_first e more busy)) ∙ found

pub counted_job : (left all : List (JobId × Job)) (e : JobId × Job) (more : List (JobId × Job)) (n place : ℕ) → left ≡ e ∷ more → true ≡ is_idle e.1.phase → n ≢ 0 → slice_get (idle_jobs left) n ≡ slice_get (idle_jobs all) place → slice_get (idle_jobs more) (n - 1) ≡ slice_get (idle_jobs all) place
counted_job left all e more zero place here idle later found = absurd (later refl)
counted_job left all e more (suc n) place here idle later found =
    let one_less : suc n - 1 ≡ n = omega arith in
    ap (slice_get (idle_jobs more)) one_less ∙ ap (λ l. slice_get l (suc n)) (sym (ap idle_jobs here ∙ idle_job_first e more idle)) ∙ found

pub found_job : (left all : List (JobId × Job)) (e : JobId × Job) (more : List (JobId × Job)) (n place : ℕ) → left ≡ e ∷ more → true ≡ is_idle e.1.phase → n ≡ 0 → slice_get (idle_jobs left) n ≡ slice_get (idle_jobs all) place → Some (e.0, e.1.ad) ≡ slice_get (idle_jobs all) place
found_job left all e more n place here idle now found = sym (ap (λ m. slice_get (idle_jobs left) m) now ∙ ap (λ l. slice_get l 0) (ap idle_jobs here ∙ idle_job_first e more idle)) ∙ found
