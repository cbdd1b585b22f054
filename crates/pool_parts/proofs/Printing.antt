-- A plan whose numbers are short, and that names a claim, can be printed.
use Rattle.std.proofs.Common.{◌≡◌, ◌≢◌, ℕ, ◌+◌, ◌<◌, ◌^◌, ◌==◌, ◌&&◌, ◌||◌, not, codes, decimal, ℤ, pos, Bool, true, false, List, [], ◌∷◌, ◌++◌, refl, ap, sym, ◌∙◌, arith}
use Rattle.std.specs.Char.{is_ascii_digit}
use Rattle.std.specs.Int.{IsInRange, is_in_range}
use Rattle.std.specs.List.{list_all}
use Rattle.std.proofs.lemmas.Bool.{lt-ltb}
use Rattle.std.proofs.lemmas.Bool.Decides.{nat_tests}
use Rattle.std.proofs.lemmas.Fmt.{digits_decimal}
use Rattle.std.proofs.lemmas.List.Elements.{All-from_get_or}
use Rattle.std.proofs.lemmas.List.Folds.{list_all-append}
use Rattle.std.proofs.lemmas.List.Sums.{list_all-from_AllPass}
use Rattle.std.proofs.lemmas.Str.Parse.{numerals_by_value, tells_by_index}
use Rattle.ad_value.specs.declared.names.job.TheConstants.{JOB_STATUS}
use Rattle.ad_value.specs.declared.names.pool.TheConstants.{HOLD_REASON, EXIT_BY_SIGNAL, EXIT_CODE, EXIT_SIGNAL, RUN_CLAIM, RUN_NUMBER, LEASE_UNTIL}
use Rattle.ad_value.specs.Content.{integer, text, truth}
use Rattle.ad_rows.specs.Rows.{integer_literal, text_literal}
use Rattle.ad_tree.specs.Tree.{literal}
use Rattle.ad_token.specs.Canonical.{is_line}
use Rattle.ad_token.specs.Lexing.{tokens_of}
use Rattle.ad_token.specs.Names.{is_name, word_of}
use Rattle.ad_parse.specs.Canon.{canon}
use Rattle.ad_parse.specs.Grammar.{IsText, operand, literally}
use Rattle.ad_parse.specs.Spelling.{spell}
use Rattle.ad_parse.specs.ValueText.{IsShortInteger}
use Rattle.ad_parse.proofs.Again.{place, alone_at, lift, spelled_again}
use Rattle.ad_parse.proofs.Reread.{canon_spells}
use Rattle.claim_id.specs.declared.numbers.ClaimId.{ClaimId}
use Rattle.claim_id.specs.declared.numbers.JobId.{JobId}
use Rattle.claim_id.specs.Texts.{IsClaim, IsJob, claim_text, secret_text}
use Rattle.claim_id.proofs.Pieces.{claim_text-pieces}
use Rattle.claim_id.proofs.Secrets.{digits-secret}
use Rattle.ad_rows.proofs.Readable.{readable_integer}
use Rattle.queue_tx.specs.declared.names.TheConstants.{NEXT_CLUSTER_NUM, NEXT_RUN_NUM}
use Rattle.queue_tx.specs.Operations.{Operation}
use Rattle.queue_tx.specs.Printable.{IsPrintable, IsPrintableName, IsPrintableOp, IsPrintableTree, IsWord}
use Rattle.schedd_plan.specs.declared.plan.Completion.{Completion}
use Rattle.schedd_plan.specs.declared.plan.Completion.TheVariants.{Exited, Signalled}
use Rattle.schedd_plan.specs.declared.plan.JobPlan.{JobPlan}
use Rattle.schedd_plan.specs.declared.plan.JobPlan.TheVariants as plan
use Rattle.schedd_plan.specs.declared.reason.Reason.{Reason}
use Rattle.schedd_plan.specs.declared.reason.Reason.TheVariants.{ByCommand, ByPolicy, FailedToStart}
use Rattle.schedd_plan.specs.JobAttributes.{reason_text}
use Rattle.schedd_plan.specs.Plans.{exit_ops, job_of, plan_ops, status_op, run_ops, next_run_ops, truth_literal, whole_literal}
use Rattle.pool_parts.specs.Loggable.{HasShortNumbers, IsShortEnd, NamesClaim}

-- ---- lists
pub both_print : (xs ys : List Operation) → IsPrintable xs → IsPrintable ys → IsPrintable (xs ++ ys)
both_print [] ys p r = r
both_print (x ∷ xs) ys p r = (p.0, both_print xs ys p.1 r)

parts : (a b : Bool) → (a && b) ≡ true → (a ≡ true) × (b ≡ true)
parts true true h = (refl, refl)
parts true false h = absurd (cc h)
parts false b h = absurd (cc h)

joint : (a b : Bool) → a ≡ true → b ≡ true → (a && b) ≡ true
joint a b p q = ap (λ (t : Bool). t && b) p ∙ q

-- ---- words and names
not_equal : (b c : ℕ) → not (b == c) ≡ true → b ≢ c
not_equal b c h e = grind (arith, nat_tests)

as_word : (bs : List ℕ) → list_all (λ b. not (b == 32) && (not (b == 9) && not (b == 10))) bs ≡ true → IsWord bs
as_word [] h = tt
as_word (b ∷ bs) h =
    let all = parts (not (b == 32) && (not (b == 9) && not (b == 10))) (list_all (λ b. not (b == 32) && (not (b == 9) && not (b == 10))) bs) h in
    let here = parts (not (b == 32)) (not (b == 9) && not (b == 10)) all.0 in
    let next = parts (not (b == 9)) (not (b == 10)) here.1 in
    (not_equal b 32 here.0, not_equal b 9 next.0, not_equal b 10 next.1, as_word bs all.1)

pub words_print : IsWord (codes "Job") × IsWord (codes "Machine")
words_print = (as_word (codes "Job") refl, as_word (codes "Machine") refl)

job_status : IsPrintableName JOB_STATUS.now
unfolding is_name word_of
job_status = refl

hold_reason : IsPrintableName HOLD_REASON.now
unfolding is_name word_of
hold_reason = refl

by_signal : IsPrintableName EXIT_BY_SIGNAL.now
unfolding is_name word_of
by_signal = refl

exit_code : IsPrintableName EXIT_CODE.now
unfolding is_name word_of
exit_code = refl

exit_signal : IsPrintableName EXIT_SIGNAL.now
unfolding is_name word_of
exit_signal = refl

run_claim : IsPrintableName RUN_CLAIM.now
unfolding is_name word_of
run_claim = refl

run_number : IsPrintableName RUN_NUMBER.now
unfolding is_name word_of
run_number = refl

lease_until : IsPrintableName LEASE_UNTIL.now
unfolding is_name word_of
lease_until = refl

pub next_cluster : IsPrintableName NEXT_CLUSTER_NUM.now
unfolding is_name word_of
next_cluster = refl

next_run : IsPrintableName NEXT_RUN_NUM.now
unfolding is_name word_of
next_run = refl

-- ---- literals
pub integer_prints : (n : ℕ) → n < 2 ^ 63 → IsPrintableTree (integer_literal n)
integer_prints n small =
    let e = literal (integer (pos n)) in
    let spells : IsText (place (spell e) []) e = alone_at 65 (place (spell e) []) [] e (lift 0 6 65 (place (spell e) []) [] e (omega arith) (operand (literally refl))) in
    spelled_again (place (spell e) []) (tokens_of (canon e)) e spells (canon_spells e (lt-ltb n (2 ^ 63) small))

text_prints : (s : List ℕ) → is_line s ≡ true → IsPrintableTree (text_literal s)
text_prints s line =
    let e = literal (text s) in
    let spells : IsText (place (spell e) []) e = alone_at 65 (place (spell e) []) [] e (lift 0 6 65 (place (spell e) []) [] e (omega arith) (operand (literally refl))) in
    spelled_again (place (spell e) []) (tokens_of (canon e)) e spells (canon_spells e line)

truth_prints : (b : Bool) → IsPrintableTree (truth_literal b)
truth_prints true =
    let e = literal (truth true) in
    let spells : IsText (place (spell e) []) e = alone_at 65 (place (spell e) []) [] e (lift 0 6 65 (place (spell e) []) [] e (omega arith) (operand (literally refl))) in
    spelled_again (place (spell e) []) (tokens_of (canon e)) e spells (canon_spells e refl)
truth_prints false =
    let e = literal (truth false) in
    let spells : IsText (place (spell e) []) e = alone_at 65 (place (spell e) []) [] e (lift 0 6 65 (place (spell e) []) [] e (omega arith) (operand (literally refl))) in
    spelled_again (place (spell e) []) (tokens_of (canon e)) e spells (canon_spells e refl)

whole_prints : (n : ℤ) → IsShortInteger n → IsPrintableTree (whole_literal n)
whole_prints n small = (readable_integer n small).spelled

reason_line : (reason : Reason) → is_line (reason_text reason) ≡ true
unfolding is_line
reason_line ByCommand = refl
reason_line ByPolicy = refl
reason_line FailedToStart = refl

-- ---- the text of a claim
abbrev no_newline : ℕ → Bool
no_newline b = not (b == 10)

all_append : (xs ys : List ℕ) → list_all no_newline xs ≡ true → list_all no_newline ys ≡ true → list_all no_newline (xs ++ ys) ≡ true
all_append xs ys a b = list_all-append no_newline xs ys ∙ joint (list_all no_newline xs) (list_all no_newline ys) a b

digit_line : (b : ℕ) → IsInRange 48 57 b → no_newline b ≡ true
digit_line b h = grind (arith, nat_tests)

decimal_line : (n : ℕ) → n < 2 ^ 64 → list_all no_newline (decimal n) ≡ true
decimal_line n small =
    list_all-from_AllPass no_newline (decimal n)
    (All-from_get_or (λ b. no_newline b ≡ true) (decimal n) 0
    (λ i inside. digit_line _ (digits_decimal (numerals_by_value _ tells_by_index) n small i inside)))

secret_line : (n : ℕ) → list_all no_newline (secret_text n) ≡ true
secret_line n =
    list_all-from_AllPass no_newline (secret_text n)
    (λ i d at. hex_line _ (digits-secret n i d at))
  where
    hex_line : (b : ℕ) → (is_ascii_digit b || is_in_range 97 102 b) ≡ true → no_newline b ≡ true
    hex_line b h = by (b == 10) refl
      where
        by : (t : Bool) → (b == 10) ≡ t → not t ≡ true
        by false is = refl
        by true is =
            let ten : b ≡ 10 = Rattle.std.proofs.lemmas.Bool.eqb-true b 10 is in
            let clash : true ≡ false = sym h ∙ ap (λ c. is_ascii_digit c || is_in_range 97 102 c) ten in cc

claim_line : (claim : ClaimId) → IsClaim claim → is_line (claim_text claim) ≡ true
unfolding is_line
claim_line claim is =
    let slot = is.no_is.slot_is in
    let machine_to = slot.machine_to in
    let slot_to = slot.slot_to in
    ap (list_all no_newline) (claim_text-pieces claim)
    ∙ all_append (decimal claim.no.slot.machine) _ (decimal_line claim.no.slot.machine (omega (arith, machine_to)))
    (all_append (decimal claim.no.slot.slot) _ (decimal_line claim.no.slot.slot (omega (arith, slot_to)))
    (all_append (decimal claim.no.boot) _ (decimal_line claim.no.boot is.no_is.boot_to)
    (all_append (decimal claim.no.seq) _ (decimal_line claim.no.seq is.no_is.seq_to)
    (secret_line claim.secret))))

-- ---- plans
status_prints : (job : JobId) (n : ℕ) → n < 2 ^ 63 → IsJob job → IsPrintableOp (status_op job n)
status_prints job n small is = (is, job_status, integer_prints n small)

without_prints : (job : JobId) → IsJob job → IsPrintable (Rattle.schedd_plan.specs.Plans.without_run job)
without_prints job is = ((is, run_claim), ((is, run_number), ((is, lease_until), tt)))

exit_prints : (job : JobId) (c : Completion) → IsShortEnd c → IsJob job → IsPrintable (exit_ops job c)
exit_prints job (Exited code) short is = ((is, by_signal, truth_prints false), ((is, exit_code, whole_prints code short), tt))
exit_prints job (Signalled signal) short is = ((is, by_signal, truth_prints true), ((is, exit_signal, whole_prints signal short), tt))

run_prints : (job : JobId) (claim : ClaimId) (number until : ℕ) → IsClaim claim → number + 1 < 2 ^ 63 → until < 2 ^ 63 → IsJob job → IsPrintable (run_ops job claim number until)
run_prints job claim number until c n u is = (
  status_prints job 2 (omega arith) is,
  (
    (is, run_claim, text_prints (claim_text claim) (claim_line claim c)),
    (
      (is, run_number, integer_prints number (omega (arith, n))),
      ((is, lease_until, integer_prints until u), tt),
    ),
  ),
)

next_prints : (number : ℕ) → number + 1 < 2 ^ 63 → IsPrintable (next_run_ops number)
next_prints number n = ((tt, next_run, integer_prints (number + 1) n), tt)

pub plan_prints : (p : JobPlan) → IsJob (job_of p) → NamesClaim p → HasShortNumbers p → IsPrintable (plan_ops p)
unfolding plan_ops
plan_prints (plan.PutIdle job) is named short = (status_prints job 1 (omega arith) is, without_prints job is)
plan_prints (plan.PutHeld job reason) is named short =
    (status_prints job 5 (omega arith) is, ((is, hold_reason, text_prints (reason_text reason) (reason_line reason)), without_prints job is))
plan_prints (plan.Complete job completion) is named short =
    (status_prints job 4 (omega arith) is, both_print (exit_ops job completion) _ (exit_prints job completion short is) (is, tt))
plan_prints (plan.Remove job) is named short = (status_prints job 3 (omega arith) is, (is, tt))
plan_prints (plan.MarkRemoved job) is named short = (status_prints job 3 (omega arith) is, tt)
plan_prints (plan.MarkHeld job reason) is named short = (status_prints job 5 (omega arith) is, ((is, hold_reason, text_prints (reason_text reason) (reason_line reason)), tt))
plan_prints (plan.MarkRunning job) is named short = (status_prints job 2 (omega arith) is, tt)
plan_prints (plan.Lengthen job until) is named short = ((is, lease_until, integer_prints until short), tt)
plan_prints (plan.Grant job claim number until true) is named short =
    both_print (run_ops job claim number until) (next_run_ops number) (run_prints job claim number until named short.0 short.1 is) (next_prints number short.0)
plan_prints (plan.Grant job claim number until false) is named short = (
  (tt, words_print.0, words_print.1),
  both_print (next_run_ops number) (run_ops job claim number until) (next_prints number short.0) (run_prints job claim number until named short.0 short.1 is),
)
