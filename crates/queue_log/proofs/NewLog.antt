-- The text of a new log is read as its one transaction.
use Rattle.std.proofs.Common.{◌≡◌, ◌≢◌, ℕ, ◌<◌, ◌≤◌, ◌^◌, ◌==◌, ◌&&◌, not, codes, decimal, pos, Bool, true, false, cond, ltb, List, [], ◌∷◌, ◌++◌, length, None, Ok, refl, ap, sym, ◌∙◌, subst, arith}
use Rattle.std.specs.Char.{is_ascii_digit}
use Rattle.std.specs.Int.{IsInRange}
use Rattle.std.specs.List.{list_all}
use Rattle.std.specs.Str.{IsAscii}
use Rattle.std.proofs.lemmas.Bool.{ltb-true}
use Rattle.std.proofs.lemmas.Bool.Decides.{nat_tests}
use Rattle.std.proofs.lemmas.Fmt.{IsAscii-decimal, decimal_nonempty, digits_decimal, length-decimal-le}
use Rattle.std.proofs.lemmas.List.{append-nil}
use Rattle.std.proofs.lemmas.List.Elements.{All-from_get_or}
use Rattle.std.proofs.lemmas.List.Sums.{list_all-from_AllPass}
use Rattle.std.proofs.lemmas.Str.{IsUtf8-append, IsUtf8-from_ascii}
use Rattle.std.proofs.lemmas.Str.Ascii.{IsAscii-nil, IsAscii-cons}
use Rattle.std.proofs.lemmas.Str.Parse.{numerals_by_value, tells_by_index}
use Rattle.ad_value.specs.Content.{integer}
use Rattle.ad_rows.specs.Rows.{integer_literal}
use Rattle.ad_token.specs.Lexing.{is_blank}
use Rattle.ad_token.specs.Names.{is_name, word_of}
use Rattle.ad_parse.proofs.Literals.{literal_says}
use Rattle.ad_parse.proofs.Reread.{again}
use Rattle.queue_tx.specs.Printable.{IsPrintable, IsPrintableName, IsPrintableTree, IsWord}
use Rattle.queue_tx.specs.declared.names.TheConstants.{NEXT_CLUSTER_NUM, NEXT_RUN_NUM}
use Rattle.queue_tx.specs.Operations.{Operation}
use Rattle.queue_tx.specs.Queues.{KeyedAds, after_rest, queue_after}
use Rattle.queue_record.specs.declared.error.RecordError.TheVariants.{TooLong}
use Rattle.queue_record.specs.Entries.{stamped, entry_at}
use Rattle.queue_record.specs.ReadSoFar.{ReadSoFar, start, refused, stamps, after_entry, with_bytes, fed}
use Rattle.queue_record.specs.Records.{Record}
use Rattle.queue_record.specs.Texts.{AreTexts, first_long, tx_text}
use Rattle.queue_record.specs.Logs.{Settles}
use Rattle.queue_record.proofs.Feeding.{fed_append, fed_line}
use Rattle.queue_record.proofs.LogLemmas.{kept_fits}
use Rattle.queue_record.proofs.Newlines.{decimal_line}
use Rattle.queue_record.proofs.RecordLemmas.{record_is_read}
use Rattle.queue_record.proofs.Transactions.{text_settles}
use Rattle.queue_log.specs.Logged.{IsLogged}
use Rattle.queue_log.proofs.Writings.{printed_puts, writable_after}
use Rattle.queue_log.specs.NewLog.{new_log_text, new_log_tx, stamp_line}
use Rattle.queue_log.specs.Stands.{IsSettled}

-- ---- bytes by a test

first_and_rest : (a b : Bool) → (a && b) ≡ true → (a ≡ true) × (b ≡ true)
first_and_rest true true h = (refl, refl)
first_and_rest true false h = absurd (cc h)
first_and_rest false b h = absurd (cc h)

joint : (a b : Bool) → a ≡ true → b ≡ true → (a && b) ≡ true
joint true b h k = k
joint false b h k = absurd (cc h)

all_digits : (p : ℕ → Bool) → ((b : ℕ) → IsInRange 48 57 b → p b ≡ true) → (n : ℕ) → n < 2 ^ 64 → list_all p (decimal n) ≡ true
all_digits p each n small =
    list_all-from_AllPass p (decimal n)
    (All-from_get_or (λ b. p b ≡ true) (decimal n) 0
    (λ i inside. each _ (digits_decimal (numerals_by_value _ tells_by_index) n small i inside)))

ascii_all : (bs : List ℕ) → list_all (λ b. ltb b 128) bs ≡ true → IsAscii bs
ascii_all [] h = IsAscii-nil
ascii_all (b ∷ bs) h =
    let both = first_and_rest (ltb b 128) (list_all (λ b. ltb b 128) bs) h in
    IsAscii-cons b bs (ltb-true b 128 both.0) (ascii_all bs both.1)

-- ---- the stamp

digit_solid : (b : ℕ) → IsInRange 48 57 b → not (is_blank b) ≡ true
digit_solid b h = grind (arith, nat_tests)

digit_is_one : (b : ℕ) → IsInRange 48 57 b → is_ascii_digit b ≡ true
digit_is_one b h = grind (arith, nat_tests)

some_bytes : (n : ℕ) → 0 < n → not (n == 0) ≡ true
some_bytes n h = grind (arith, nat_tests)

stamp_says : (n : ℕ) → n < 2 ^ 64 → Record (stamp_line n) (stamped 1)
stamp_says n small = record {
  is_text = IsUtf8-append (codes "107 1 CreationTimestamp ") (decimal n) (IsUtf8-from_ascii (codes "107 1 CreationTimestamp ") (ascii_all (codes "107 1 CreationTimestamp ") refl)) (IsUtf8-from_ascii (decimal n) (IsAscii-decimal n small));
  after = codes " 1 CreationTimestamp " ++ decimal n;
  code = record { parts = refl; solid = refl; ended = refl };
  says = record {
    number = codes "1";
    time = decimal n;
    words = (
      [],
      (
        (
          codes " CreationTimestamp " ++ decimal n,
          (
            record { blank = 32; rest = codes "1 CreationTimestamp " ++ decimal n; parts = refl; divides = refl; word_is = record { parts = refl; solid = refl; ended = refl } },
            (
              codes " " ++ decimal n,
              (
                record { blank = 32; rest = codes "CreationTimestamp " ++ decimal n; parts = refl; divides = refl; word_is = record { parts = refl; solid = refl; ended = refl } },
                (
                  [],
                  (
                    record { blank = 32; rest = decimal n; parts = refl; divides = refl; word_is = record { parts = sym (append-nil (decimal n)); solid = all_digits (λ b. not (is_blank b)) digit_solid n small; ended = refl } },
                    refl,
                  ),
                ),
              ),
            ),
          ),
        ),
        refl,
      ),
    );
    number_fits = refl;
    time_fits = joint (not (length (decimal n) == 0)) (list_all is_ascii_digit (decimal n)) (some_bytes (length (decimal n)) (decimal_nonempty n small)) (all_digits is_ascii_digit digit_is_one n small);
    says = refl;
  };
}

stamp_read : (n : ℕ) → n < 2 ^ 64 → fed start (stamp_line n ++ codes "\n") ≡ stamps (with_bytes start (stamp_line n)) 1
stamp_read n small =
    let line = stamp_line n in
    let full = with_bytes start line in
    let long = length-decimal-le 20 n (omega arith) (omega arith) small in
    let short : length line ≤ 16384 = omega arith in
    let part : full.part ≡ line = kept_fits [] line (omega arith) in
    let near : ltb 16384 (length line) ≡ false = grind (arith, nat_tests) in
    let fits : ltb 16384 (length full.part) ≡ false = ap (λ (p : List ℕ). ltb 16384 (length p)) part ∙ near in
    fed_line start line [] refl (decimal_line n small)
    ∙ ap (λ (t : Bool). cond t (refused (TooLong 1)) (after_entry full None (entry_at full.part))) fits
    ∙ ap (λ (p : List ℕ). after_entry full None (entry_at p)) part
    ∙ ap (after_entry full None) (record_is_read line (stamped 1) (stamp_says n small))

-- ---- the transaction

not_equal : (b c : ℕ) → not (b == c) ≡ true → b ≢ c
not_equal b c h e = grind (arith, nat_tests)

word_if_plain : (bs : List ℕ) → list_all (λ b. not (b == 32) && (not (b == 9) && not (b == 10))) bs ≡ true → IsWord bs
word_if_plain [] h = tt
word_if_plain (b ∷ bs) h =
    let both = first_and_rest (not (b == 32) && (not (b == 9) && not (b == 10))) (list_all (λ b. not (b == 32) && (not (b == 9) && not (b == 10))) bs) h in
    let here = first_and_rest (not (b == 32)) (not (b == 9) && not (b == 10)) both.0 in
    let next = first_and_rest (not (b == 9)) (not (b == 10)) here.1 in
    (not_equal b 32 here.0, not_equal b 9 next.0, not_equal b 10 next.1, word_if_plain bs both.1)

one_printable : IsPrintableTree (integer_literal 1)
one_printable =
    let long = length-decimal-le 1 1 (omega arith) (omega arith) (omega arith) in
    let says = literal_says (integer (pos 1)) (record { plain = omega arith; shallow = omega arith; short = omega arith }) in
    (again _ (integer_literal 1) says).spelled

cluster_named : IsPrintableName NEXT_CLUSTER_NUM.now
unfolding is_name word_of
cluster_named = refl

run_named : IsPrintableName NEXT_RUN_NUM.now
unfolding is_name word_of
run_named = refl

pub new_printable : IsPrintable new_log_tx
unfolding new_log_tx
new_printable = (
  (tt, word_if_plain (codes "Job") refl, word_if_plain (codes "Machine") refl),
  ((tt, cluster_named, one_printable), ((tt, run_named, one_printable), tt)),
)

-- ---- the log

text_parts : (n : ℕ) → new_log_text n ≡ (stamp_line n ++ codes "\n") ++ tx_text new_log_tx
unfolding new_log_text
text_parts n = refl

pub new_logged : (list : List (List Operation)) (queue : KeyedAds) → list ≡ new_log_tx ∷ [] → first_long new_log_tx ≡ None → queue_after [] new_log_tx ≡ Ok queue → IsLogged list queue
new_logged list queue is fits done = subst (λ l. IsLogged l queue) (sym is) (record {
  builds = ap (after_rest (λ q. Ok q)) done;
  writable = writable_after [] queue new_log_tx tt (printed_puts new_log_tx new_printable fits) done;
})

pub record IsNew (n : ℕ) (queue : KeyedAds) : Type 0 where
  pub settled : IsSettled (new_log_tx ∷ []) queue (new_log_text n)
  pub sequenced : (fed start (new_log_text n)).sequence ≡ 1

pub new_is : (n : ℕ) (queue : KeyedAds) → n < 2 ^ 64 → first_long new_log_tx ≡ None → AreTexts new_log_tx → queue_after [] new_log_tx ≡ Ok queue → IsNew n queue
new_is n queue small fits texts done =
    let r = stamps (with_bytes start (stamp_line n)) 1 in
    let e = text_settles r new_log_tx queue new_printable fits texts refl refl refl done in
    let joined : fed r (tx_text new_log_tx) ≡ fed start (new_log_text n) =
    ap (λ (z : ReadSoFar). fed z (tx_text new_log_tx)) (sym (stamp_read n small)) ∙ sym (fed_append start (stamp_line n ++ codes "\n") (tx_text new_log_tx)) ∙ ap (fed start) (sym (text_parts n)) in
    let f : Settles r (fed start (new_log_text n)) new_log_tx queue = subst (λ z. Settles r z new_log_tx queue) joined e in
    record { settled = record { at_rest = f.at_rest; listed = f.listed; queued = f.queued }; sequenced = f.sequenced }
