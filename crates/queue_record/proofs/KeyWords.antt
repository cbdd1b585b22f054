-- The only key whose text a word is.
use Rattle.std.proofs.Common.{◌≡◌, ℕ, suc, ◌+◌, ◌<◌, ◌^◌, ◌==◌, ◌&&◌, not, Bool, true, false, cond, codes, decimal, List, [], ◌∷◌, ◌++◌, take, drop, length, Option, Some, None, refl, ap, sym, ◌∙◌, subst, arith}
use Rattle.std.specs.List.{list_all}
use Rattle.std.specs.Int.{IsInRange}
use Rattle.std.specs.Str.{bytes_eq}
use Rattle.std.specs.Str.Parse.{digits_value}
use Rattle.std.specs.Cmp.Lexicographic.{bytes_decides}
use Rattle.std.proofs.lemmas.Bool.Decides.{nat_tests}
use Rattle.std.proofs.lemmas.Bool.{lt-ltb, ltb-true}
use Rattle.std.proofs.lemmas.Fmt.{digits_decimal, digits_value-decimal}
use Rattle.std.proofs.lemmas.List.Elements.{All-from_get_or}
use Rattle.std.proofs.lemmas.List.Sums.{list_all-from_AllPass}
use Rattle.std.proofs.lemmas.Str.Parse.{numerals_by_value, tells_by_index}
use Rattle.claim_id.specs.declared.numbers.JobId.{JobId}
use Rattle.claim_id.specs.Texts.{job_text, IsJob}
use Rattle.claim_id.proofs.Pieces.{job_text-pieces}
use Rattle.queue_tx.specs.declared.key.Key.{Key}
use Rattle.queue_tx.specs.declared.key.Key.TheVariants.{Header, Proc}
use Rattle.queue_record.specs.Keys.{key_at, job_at, job_in, has_job, before_point, IsKeyWord}

abbrev is_no_point : ℕ → Bool
is_no_point b = not (b == 46)

digit_passes : (b : ℕ) → IsInRange 48 57 b → is_no_point b ≡ true
digit_passes b h = grind (arith, nat_tests)

first_and_rest : (a b : Bool) → (a && b) ≡ true → (a ≡ true) × (b ≡ true)
first_and_rest true true h = (refl, refl)
first_and_rest true false h = absurd cc
first_and_rest false b h = absurd cc

decimal_passes : (n : ℕ) → n < 2 ^ 64 → list_all is_no_point (decimal n) ≡ true
decimal_passes n small =
    list_all-from_AllPass is_no_point (decimal n)
    (All-from_get_or (λ b. is_no_point b ≡ true) (decimal n) 0
    (λ i inside. digit_passes _ (digits_decimal (numerals_by_value _ tells_by_index) n small i inside)))

point_at : (ds rest : List ℕ) → list_all is_no_point ds ≡ true → before_point (ds ++ 46 ∷ rest) ≡ length ds
point_at [] rest h = refl
point_at (d ∷ ds) rest h =
    let both = first_and_rest (is_no_point d) (list_all is_no_point ds) h in
    let more : before_point (ds ++ 46 ∷ rest) ≡ length ds = point_at ds rest both.1 in
    let one : 1 + before_point (ds ++ 46 ∷ rest) ≡ suc (length ds) = omega (arith, more) in
    rw both.0 one

take_front : (xs ys : List ℕ) → take (length xs) (xs ++ ys) ≡ xs
take_front [] ys = refl
take_front (x ∷ xs) ys = ap (λ (t : List ℕ). x ∷ t) (take_front xs ys)

drop_front : (xs ys : List ℕ) → drop (length xs) (xs ++ ys) ≡ ys
drop_front [] ys = refl
drop_front (x ∷ xs) ys = drop_front xs ys

value_of : (n : ℕ) → n < 2 ^ 64 → digits_value 10 (decimal n) ≡ n
value_of n small = digits_value-decimal (numerals_by_value _ tells_by_index) n small

job_in_pieces : (job : JobId) → IsJob job → job_in (decimal job.cluster ++ 46 ∷ decimal job.proc) ≡ job
job_in_pieces job is =
    let c = is.cluster_to in
    let p = is.proc_to in
    let cluster_small : job.cluster < 2 ^ 64 = omega arith in
    let proc_small : job.proc < 2 ^ 64 = omega arith in
    let ds = decimal job.cluster in
    let text = decimal job.cluster ++ 46 ∷ decimal job.proc in
    let at : before_point text ≡ length ds = point_at ds (decimal job.proc) (decimal_passes job.cluster cluster_small) in
    let cluster : digits_value 10 (take (before_point text) text) ≡ job.cluster =
    ap (λ (n : ℕ). digits_value 10 (take n text)) at ∙ ap (digits_value 10) (take_front ds (46 ∷ decimal job.proc)) ∙ value_of job.cluster cluster_small in
    let proc : digits_value 10 (drop 1 (drop (before_point text) text)) ≡ job.proc =
    ap (λ (n : ℕ). digits_value 10 (drop 1 (drop n text))) at ∙ ap (λ (t : List ℕ). digits_value 10 (drop 1 t)) (drop_front ds (46 ∷ decimal job.proc)) ∙ value_of job.proc proc_small in
    λ i. record { cluster = cluster i; proc = proc i }

pub job_in_text : (job : JobId) → IsJob job → job_in (job_text job) ≡ job
job_in_text job is = ap job_in (job_text-pieces job) ∙ job_in_pieces job is

has_it : (job : JobId) → IsJob job → has_job job ≡ true
has_it job is = rw (lt-ltb 0 job.cluster is.cluster_from, lt-ltb job.cluster (2 ^ 32) is.cluster_to, lt-ltb job.proc (2 ^ 32) is.proc_to) refl

is_it : (job : JobId) → has_job job ≡ true → IsJob job
is_it job h =
    let a = first_and_rest _ _ h in
    let b = first_and_rest _ _ a.1 in
    record { cluster_from = ltb-true _ _ a.0; cluster_to = ltb-true _ _ b.0; proc_to = ltb-true _ _ b.1 }

job_at_is : (word : List ℕ) (job : JobId) → IsJob job → word ≡ job_text job → job_at word ≡ Some (Proc job)
job_at_is word job is same =
    let there : job_in word ≡ job = ap job_in same ∙ job_in_text job is in
    let has : has_job (job_in word) ≡ true = ap has_job there ∙ has_it job is in
    let text : word ≡ job_text (job_in word) = same ∙ ap job_text (sym there) in
    let equal : bytes_eq word (job_text (job_in word)) ≡ true = (bytes_decides word (job_text (job_in word))).1 text in
    ap (λ (b : Bool). cond (b && bytes_eq word (job_text (job_in word))) (Some (Proc (job_in word))) None) has
    ∙ ap (λ (b : Bool). cond b (Some (Proc (job_in word))) None) equal
    ∙ ap (λ (j : JobId). Some (Proc j)) there

no_header : (job : JobId) → IsJob job → job_text job ≡ codes "0.0" → ⊥
no_header job is same =
    let zeros : job_in (codes "0.0") ≡ job = ap job_in (sym same) ∙ job_in_text job is in
    let none : 0 ≡ job.cluster = ap (λ (j : JobId). j.cluster) zeros in
    let some = is.cluster_from in
    omega arith

false_from : (b : Bool) → (b ≡ true → ⊥) → b ≡ false
false_from true h = absurd (h refl)
false_from false h = refl

pub key_at_header : (word : List ℕ) → bytes_eq word (codes "0.0") ≡ true → key_at word ≡ Some Header
unfolding key_at
key_at_header word h = ap (λ (b : Bool). cond b (Some Header) (job_at word)) h

pub key_at_job : (word : List ℕ) (job : JobId) → IsJob job → word ≡ job_text job → key_at word ≡ Some (Proc job)
unfolding key_at
key_at_job word job is same =
    let other : bytes_eq word (codes "0.0") ≡ false = false_from _ (λ h. no_header job is (sym same ∙ (bytes_decides word (codes "0.0")).0 h)) in
    ap (λ (b : Bool). cond b (Some Header) (job_at word)) other ∙ job_at_is word job is same

pub key_at_none : (word : List ℕ) → bytes_eq word (codes "0.0") ≡ false → ((job : JobId) → IsJob job → word ≡ job_text job → ⊥) → key_at word ≡ None
unfolding key_at
key_at_none word other none = ap (λ (b : Bool). cond b (Some Header) (job_at word)) other ∙ by (has_job (job_in word)) (bytes_eq word (job_text (job_in word))) refl refl
  where
    by : (b c : Bool) → has_job (job_in word) ≡ b → bytes_eq word (job_text (job_in word)) ≡ c → job_at word ≡ None
    by true true h same = absurd (none (job_in word) (is_it (job_in word) h) ((bytes_decides word (job_text (job_in word))).0 same))
    by true false h same = ap (λ (b : Bool). cond (b && bytes_eq word (job_text (job_in word))) (Some (Proc (job_in word))) None) h ∙ ap (λ (b : Bool). cond b (Some (Proc (job_in word))) None) same
    by false c h same = ap (λ (b : Bool). cond (b && bytes_eq word (job_text (job_in word))) (Some (Proc (job_in word))) None) h

-- a key in its range is what its text is
pub key_word_is : (word : List ℕ) (key : Key) → IsKeyWord word key → key_at word ≡ Some key
key_word_is word Header is = key_at_header word ((bytes_decides word (codes "0.0")).1 is.1)
key_word_is word (Proc job) is = key_at_job word job is.0 is.1

pub key_at_is : (word : List ℕ) (key : Key) → key_at word ≡ Some key → IsKeyWord word key
unfolding key_at
key_at_is word key is = by (bytes_eq word (codes "0.0")) (has_job (job_in word)) (bytes_eq word (job_text (job_in word))) refl refl refl is
  where
    key_or : Option Key → Key
    key_or None = Header
    key_or (Some k) = k

    by : (a b c : Bool) → bytes_eq word (codes "0.0") ≡ a → has_job (job_in word) ≡ b → bytes_eq word (job_text (job_in word)) ≡ c
        → cond a (Some Header) (cond (b && c) (Some (Proc (job_in word))) None) ≡ Some key → IsKeyWord word key
    by true b c e f g is =
        let same : Header ≡ key = ap key_or is in
        subst (λ k. IsKeyWord word k) same (tt, (bytes_decides word (codes "0.0")).0 e)
    by false true true e f g is =
        let same : Proc (job_in word) ≡ key = ap key_or is in
        subst (λ k. IsKeyWord word k) same (is_it (job_in word) f, (bytes_decides word (job_text (job_in word))).0 g)
    by false true false e f g is = absurd cc
    by false false c e f g is = absurd cc
