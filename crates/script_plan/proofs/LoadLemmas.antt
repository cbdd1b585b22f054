-- One job more of a load.
use Rattle.std.proofs.Common.{◌≡◌, ℕ, ◌+◌, ◌≤◌, ◌<◌, ◌^◌, ◌⊎◌, ◌↔◌, zero, suc, List, [], ◌∷◌, ◌++◌, length, Some, refl, sym, ap, subst, ◌∙◌, inl, inr, arith, add-one, length-append}
use Rattle.std.specs.List.{slice_get}
use Rattle.std.proofs.lemmas.Bool.{cases_lt}
use Rattle.claim_id.specs.declared.numbers.JobId.{JobId}
use Rattle.std.specs.Prelude.{pos, codes}
use Rattle.ad_value.specs.Content.{text}
use Rattle.ad_tree.specs.Ad.{Attributes}
use Rattle.ad_token.specs.Canonical.{is_line}
use Rattle.ad_token.specs.Names.{is_name, word_of}
use Rattle.ad_parse.specs.ValueText.{HasReadableLiteral}
use Rattle.ad_rows.specs.Rows.{integer_literal, text_literal}
use Rattle.ad_rows.specs.Submitted.{IsReadable, IsSubmitted, AreSubmitted}
use Rattle.ad_rows.proofs.Lists.{submitted_more, submitted_last}
use Rattle.ad_rows.proofs.Readable.{readable_value, value_within, readable_integer, readable_request}
use Rattle.script_plan.specs.Loads.{load_ads, load_ad, job_of_load, number_after, next_number, memory_of}
use Rattle.pool_outer.specs.declared.clock.TheConstants.{LAST_READING}

pub load_none : (number cluster : ℕ) (owner : List ℕ) (now : ℕ) → [] ≡ load_ads number cluster owner now 0
unfolding load_ads
load_none number cluster owner now = refl

pub number_none : (number : ℕ) → number ≡ number_after number 0
unfolding number_after
number_none number = refl

pub load_more : (number cluster : ℕ) (owner : List ℕ) (now jobs : ℕ) → load_ads number cluster owner now (jobs + 1) ≡ load_ads number cluster owner now jobs ++ job_of_load number cluster owner now jobs ∷ []
unfolding load_ads
load_more number cluster owner now jobs = ap (load_ads number cluster owner now) (add-one jobs)

pub number_more : (number jobs : ℕ) → number_after number (jobs + 1) ≡ next_number (number_after number jobs)
unfolding number_after
number_more number jobs = rw add-one refl

pub count : (number cluster now jobs : ℕ) (owner : List ℕ) → length (load_ads number cluster owner now jobs) ≡ jobs
unfolding load_ads
count number cluster now zero owner = refl
count number cluster now (suc jobs) owner =
    length-append (load_ads number cluster owner now jobs) (job_of_load number cluster owner now jobs ∷ [])
    ∙ ap (λ n. n + 1) (count number cluster now jobs owner)
    ∙ add-one jobs

get_left : {X : Type 0} (xs ys : List X) (k : ℕ) → k < length xs → slice_get (xs ++ ys) k ≡ slice_get xs k
get_left [] ys k inside = absurd (omega arith)
get_left (x ∷ xs) ys zero inside = refl
get_left (x ∷ xs) ys (suc k) inside = get_left xs ys k (omega arith)

get_last : {X : Type 0} (xs : List X) (y : X) → slice_get (xs ++ y ∷ []) (length xs) ≡ Some y
get_last [] y = refl
get_last (x ∷ xs) y = get_last xs y

pub each : (number cluster now jobs proc : ℕ) (owner : List ℕ) → proc < jobs → slice_get (load_ads number cluster owner now jobs) proc ≡ Some (job_of_load number cluster owner now proc)
unfolding load_ads
each number cluster now zero proc owner inside = absurd (omega arith)
each number cluster now (suc jobs) proc owner inside =
    let before = load_ads number cluster owner now jobs in
    let many = count number cluster now jobs owner in
    elim (cases_lt proc jobs) [
      | inl less ↦ get_left before (job_of_load number cluster owner now jobs ∷ []) proc (omega arith) ∙ each number cluster now jobs proc owner less
      | inr least ↦
          let last : proc ≡ jobs = omega arith in
          ap (slice_get (before ++ job_of_load number cluster owner now jobs ∷ [])) (last ∙ sym many)
          ∙ get_last before (job_of_load number cluster owner now jobs)
          ∙ ap (λ p. Some (job_of_load number cluster owner now p)) (sym last)
    ]

submitted : (job : JobId) (owner : List ℕ) (now memory : ℕ) → job.cluster < 2 ^ 63 → job.proc < 2 ^ 63 → now < 2 ^ 63 → memory < 2 ^ 63 → HasReadableLiteral (text owner) → IsSubmitted job.cluster job.proc (load_ad job owner now memory)
unfolding is_name word_of is_line
submitted job owner now memory clustered numbered dated sized owned =
    let empty : IsReadable (text_literal []) = readable_value (text []) (record { plain = refl; shallow = omega arith; short = omega arith }) in
    let program : IsReadable (text_literal (codes "/bin/true")) = readable_value (text (codes "/bin/true")) (record { plain = refl; shallow = omega arith; short = omega arith }) in
    let zero : IsReadable (integer_literal 0) = readable_integer (pos 0) (omega arith) in
    let one : IsReadable (integer_literal 1) = readable_integer (pos 1) (omega arith) in
    let cluster : IsReadable (integer_literal job.cluster) = readable_integer (pos job.cluster) clustered in
    let proc : IsReadable (integer_literal job.proc) = readable_integer (pos job.proc) numbered in
    let name : IsReadable (text_literal owner) = readable_value (text owner) owned in
    let date : IsReadable (integer_literal now) = readable_integer (pos now) dated in
    let universe : IsReadable (integer_literal 5) = readable_integer (pos 5) (omega arith) in
    let size : IsReadable (integer_literal memory) = readable_integer (pos memory) sized in
    let disk : IsReadable (integer_literal 1024) = readable_integer (pos 1024) (omega arith) in
    record {
      cluster_id = refl;
      proc_id = refl;
      job_status = refl;
      no_claim = refl;
      no_number = refl;
      no_lease = refl;
      small = omega arith;
      readable = (refl, cluster, (refl, proc, (refl, name, (refl, date, (refl, universe, (refl, one, (refl, program, (refl, empty, (refl, empty, (refl, empty, (refl, empty, (refl, empty, (refl, zero, (refl, readable_request, (refl, zero, (refl, one, (refl, size, (refl, disk, tt))))))))))))))))));
    }

small_memory : (x : ℕ) → memory_of x < 2 ^ 63
small_memory x = omega arith

pub all_submitted : (number cluster now jobs : ℕ) (owner : List ℕ) → cluster < 2 ^ 32 → jobs < 2 ^ 32 → now ≤ LAST_READING → HasReadableLiteral (text owner) → AreSubmitted cluster 0 (load_ads number cluster owner now jobs)
unfolding load_ads
all_submitted number cluster now zero owner clustered few dated owned = tt
all_submitted number cluster now (suc jobs) owner clustered few dated owned =
    let before = load_ads number cluster owner now jobs in
    let many = count number cluster now jobs owner in
    let long : jobs ≡ 0 + length before = omega (arith, many) in
    let job : JobId = record { cluster = cluster; proc = jobs } in
    let last = submitted job owner now (memory_of (number_after number (jobs + 1))) (omega (arith, clustered)) (omega (arith, few)) (omega (arith, dated)) (small_memory (number_after number (jobs + 1))) owned in
    submitted_more cluster 0 before (job_of_load number cluster owner now jobs)
    (all_submitted number cluster now jobs owner clustered (omega (arith, few)) dated owned)
    (subst (λ k. IsSubmitted cluster k (job_of_load number cluster owner now jobs)) long last)

pub loaded_submitted : (number cluster now jobs : ℕ) (owner : List ℕ) (ads : List Attributes) → ads ≡ load_ads number cluster owner now jobs → cluster < 2 ^ 32 → jobs < 2 ^ 32 → now ≤ LAST_READING → HasReadableLiteral (text owner) → AreSubmitted cluster 0 ads
loaded_submitted number cluster now jobs owner ads are clustered few dated owned =
    subst (AreSubmitted cluster 0) (sym are) (all_submitted number cluster now jobs owner clustered few dated owned)

owner_within : (number cluster now jobs : ℕ) (owner : List ℕ) → AreSubmitted cluster 0 (load_ads number cluster owner now jobs) → (jobs ≡ 0) ⊎ HasReadableLiteral (text owner)
unfolding load_ads
owner_within number cluster now zero owner all = inl refl
owner_within number cluster now (suc jobs) owner all =
    let last = submitted_last cluster 0 (load_ads number cluster owner now jobs) (job_of_load number cluster owner now jobs) all in
    inr (value_within (text owner) last.readable.2.2.1)

no_jobs : (number cluster now : ℕ) (owner : List ℕ) → AreSubmitted cluster 0 (load_ads number cluster owner now 0)
unfolding load_ads
no_jobs number cluster now owner = tt

pub exactly : (number cluster now jobs : ℕ) (owner : List ℕ) → cluster < 2 ^ 32 → jobs < 2 ^ 32 → now ≤ LAST_READING
    → AreSubmitted cluster 0 (load_ads number cluster owner now jobs) ↔ ((jobs ≡ 0) ⊎ HasReadableLiteral (text owner))
exactly number cluster now jobs owner clustered few dated = (
  owner_within number cluster now jobs owner,
  λ either. elim either [
    | inl none ↦ subst (λ n. AreSubmitted cluster 0 (load_ads number cluster owner now n)) (sym none) (no_jobs number cluster now owner)
    | inr owned ↦ all_submitted number cluster now jobs owner clustered few dated owned
  ],
)
