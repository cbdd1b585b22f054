-- A submission can be printed.
use Rattle.std.proofs.Common.{◌≡◌, ◌≢◌, ℕ, ◌<◌, ◌^◌, ◌==◌, ◌&&◌, not, true, false, Bool, List, [], ◌∷◌, codes, pos, Result, Ok, Err, IfOk, refl, sym, subst, arith}
use Rattle.std.specs.List.{list_all}
use Rattle.std.proofs.lemmas.Bool.Decides.{nat_tests}
use Rattle.std.proofs.lemmas.Fmt.{length-decimal-le}
use Rattle.ad_value.specs.Content.{integer}
use Rattle.ad_rows.specs.Rows.{integer_literal}
use Rattle.ad_token.specs.Names.{is_name, word_of}
use Rattle.ad_parse.proofs.Literals.{literal_says}
use Rattle.ad_parse.proofs.Reread.{again}
use Rattle.queue_tx.specs.Operations.{Operation}
use Rattle.queue_tx.specs.Printable.{IsPrintable, IsPrintableTree, IsWord}
use Rattle.log_hammer.specs.Submissions.{submission}

both : (a b : Bool) → (a && b) ≡ true → (a ≡ true) × (b ≡ true)
both true true h = (refl, refl)
both true false h = absurd (cc h)
both false b h = absurd (cc h)

not_equal : (b c : ℕ) → not (b == c) ≡ true → b ≢ c
not_equal b c h e = grind (arith, nat_tests)

as_word : (bs : List ℕ) → list_all (λ b. not (b == 32) && (not (b == 9) && not (b == 10))) bs ≡ true → IsWord bs
as_word [] h = tt
as_word (b ∷ bs) h =
    let all = both (not (b == 32) && (not (b == 9) && not (b == 10))) (list_all (λ b. not (b == 32) && (not (b == 9) && not (b == 10))) bs) h in
    let here = both (not (b == 32)) (not (b == 9) && not (b == 10)) all.0 in
    let next = both (not (b == 9)) (not (b == 10)) here.1 in
    (not_equal b 32 here.0, not_equal b 9 next.0, not_equal b 10 next.1, as_word bs all.1)

one_printable : IsPrintableTree (integer_literal 1)
one_printable =
    let long = length-decimal-le 1 1 (omega arith) (omega arith) (omega arith) in
    let says = literal_says (integer (pos 1)) (record { plain = omega arith; shallow = omega arith; short = omega arith }) in
    (again _ (integer_literal 1) says).spelled

status_is_name : is_name (codes "JobStatus") ≡ true
unfolding is_name word_of
status_is_name = refl

submission_printable : (cluster : ℕ) → 0 < cluster → cluster < 2 ^ 32 → IsPrintable (submission cluster)
submission_printable cluster some small = (
  (record { cluster_from = some; cluster_to = small; proc_to = omega arith }, as_word (codes "Job") refl, as_word (codes "Machine") refl),
  ((record { cluster_from = some; cluster_to = small; proc_to = omega arith }, status_is_name, one_printable), tt),
)

pub printable_if_ok : {E : Type 0} (r : Result (List Operation) E) (cluster : ℕ) → 0 < cluster → cluster < 2 ^ 32 → IfOk r (λ tx. tx ≡ submission cluster) → IfOk r (λ tx. IsPrintable tx)
printable_if_ok (Ok tx) cluster some small is = subst IsPrintable (sym is) (submission_printable cluster some small)
printable_if_ok (Err e) cluster some small is = tt
