-- The lines of numbers.
use Rattle.std.proofs.Common.{◌≡◌, ◌≢◌, ℕ, ◌+◌, ◌<◌, ◌≤◌, ◌^◌, List, [], ◌∷◌, ◌++◌, length, take, decimal, Option, Some, None, cond, ltb, max, Bool, true, false, refl, sym, ◌∙◌, ap, subst, arith, append_assoc, length-append}
use Rattle.std.specs.List.{All}
use Rattle.std.proofs.lemmas.Bool.Decides.{nat_tests}
use Rattle.std.proofs.lemmas.Fmt.{decimal_injective}
use Rattle.std.proofs.lemmas.List.{append-nil, take-append-le}
use Rattle.std.proofs.lemmas.List.Elements.{All-nil, All-head, All-tail, All-push, All-weaker}
use Rattle.pool_store.specs.declared.boots.Boots.{Boots}
use Rattle.pool_store.specs.declared.error.BootError.{BootError}
use Rattle.pool_store.specs.declared.error.BootError.TheVariants.{BadNumber}
use Rattle.pool_store.specs.Boots.{IsBoot, boot_lines, HasNoNewline, with_number, largest_of, SaysBoots, next_boot}
use Rattle.pool_store.specs.BadNumbers.{IsBadLine, IsRefused}
use Rattle.pool_store.proofs.Newlines.{one_cut, no_line_within, decimal_line, take_line}
use Rattle.pool_store.proofs.Largest.{largest_push, largest_is_above, no_largest}

abbrev NL : ℕ
NL = 10

boot_small : (n : ℕ) → IsBoot n → n < 2 ^ 64
boot_small n b = let le = b.to in omega arith

boot_line : (n : ℕ) → IsBoot n → HasNoNewline (decimal n)
boot_line n b = decimal_line n (boot_small n b)

-- a line, and what follows it
pub lines_cons : (n : ℕ) (ns more : List ℕ) → boot_lines (n ∷ ns) ++ more ≡ decimal n ++ 10 ∷ (boot_lines ns ++ more)
lines_cons n ns more = append_assoc (decimal n) (10 ∷ boot_lines ns) more

pub lines_append : (ns ms : List ℕ) → boot_lines (ns ++ ms) ≡ boot_lines ns ++ boot_lines ms
lines_append [] ms = refl
lines_append (n ∷ ns) ms = ap (λ (t : List ℕ). decimal n ++ 10 ∷ t) (lines_append ns ms) ∙ sym (lines_cons n ns (boot_lines ms))

-- a line more at the end of those that were read
pub lines_push : (ns : List ℕ) (n : ℕ) (more : List ℕ) → boot_lines (ns ++ n ∷ []) ++ more ≡ boot_lines ns ++ (decimal n ++ 10 ∷ more)
lines_push ns n more =
    ap (λ (t : List ℕ). t ++ more) (lines_append ns (n ∷ []))
    ∙ append_assoc (boot_lines ns) (boot_lines (n ∷ [])) more
    ∙ ap (λ (t : List ℕ). boot_lines ns ++ t) (lines_cons n [] more)

pub lines_long : (ns : List ℕ) → length ns ≤ length (boot_lines ns)
lines_long [] = omega arith
lines_long (n ∷ ns) = let le = lines_long ns in omega (arith, length-append (decimal n) (10 ∷ boot_lines ns))

-- one list of numbers
same_numbers : (ns ms t u : List ℕ) → All IsBoot ns → All IsBoot ms → HasNoNewline t → HasNoNewline u → boot_lines ns ++ t ≡ boot_lines ms ++ u → ns ≡ ms
same_numbers [] [] t u in_ns in_ms p q same = refl
same_numbers [] (m ∷ ms) t u in_ns in_ms p q same = absurd (no_line_within t (decimal m) (boot_lines ms ++ u) p (same ∙ lines_cons m ms u))
same_numbers (n ∷ ns) [] t u in_ns in_ms p q same = absurd (no_line_within u (decimal n) (boot_lines ns ++ t) q (sym same ∙ lines_cons n ns t))
same_numbers (n ∷ ns) (m ∷ ms) t u in_ns in_ms p q same =
    let n_is : IsBoot n = All-head IsBoot n ns in_ns in
    let m_is : IsBoot m = All-head IsBoot m ms in_ms in
    let both = one_cut (decimal n) (decimal m) (boot_lines ns ++ t) (boot_lines ms ++ u) (boot_line n n_is) (boot_line m m_is) (sym (lines_cons n ns t) ∙ same ∙ lines_cons m ms u) in
    let first : n ≡ m = decimal_injective n m (boot_small n n_is) (boot_small m m_is) both.0 in
    let rest : ns ≡ ms = same_numbers ns ms t u (All-tail IsBoot n ns in_ns) (All-tail IsBoot m ms in_ms) p q both.1 in
    cc (first, rest)

pub one_thing : (bytes : List ℕ) (one other : Boots) → SaysBoots bytes one → SaysBoots bytes other → one ≡ other
one_thing bytes one other s o =
    let same : s.numbers ≡ o.numbers = same_numbers s.numbers o.numbers s.tail o.tail s.in_range o.in_range s.torn o.torn (sym s.parts ∙ o.parts) in
    let largest : one.largest ≡ other.largest = s.greatest ∙ ap largest_of same ∙ sym o.greatest in
    let whole : one.whole ≡ other.whole = s.counted ∙ ap (λ (ns : List ℕ). length (boot_lines ns)) same ∙ sym o.counted in
    λ i. record { largest = largest i; whole = whole i }

-- a file of boots has no bad line
no_bad_line : (ns ms t line after : List ℕ) → All IsBoot ns → All IsBoot ms → HasNoNewline t → HasNoNewline line → ((n : ℕ) → IsBoot n → line ≢ decimal n) → boot_lines ns ++ t ≡ boot_lines ms ++ (line ++ 10 ∷ after) → ⊥
no_bad_line [] [] t line after in_ns in_ms p q bad same = no_line_within t line after p same
no_bad_line [] (m ∷ ms) t line after in_ns in_ms p q bad same = no_line_within t (decimal m) (boot_lines ms ++ (line ++ 10 ∷ after)) p (same ∙ lines_cons m ms (line ++ 10 ∷ after))
no_bad_line (n ∷ ns) [] t line after in_ns in_ms p q bad same =
    let n_is : IsBoot n = All-head IsBoot n ns in_ns in
    let both = one_cut (decimal n) line (boot_lines ns ++ t) after (boot_line n n_is) q (sym (lines_cons n ns t) ∙ same) in
    bad n n_is (sym both.0)
no_bad_line (n ∷ ns) (m ∷ ms) t line after in_ns in_ms p q bad same =
    let n_is : IsBoot n = All-head IsBoot n ns in_ns in
    let m_is : IsBoot m = All-head IsBoot m ms in_ms in
    let both = one_cut (decimal n) (decimal m) (boot_lines ns ++ t) (boot_lines ms ++ (line ++ 10 ∷ after)) (boot_line n n_is) (boot_line m m_is) (sym (lines_cons n ns t) ∙ same ∙ lines_cons m ms (line ++ 10 ∷ after)) in
    no_bad_line ns ms t line after (All-tail IsBoot n ns in_ns) (All-tail IsBoot m ms in_ms) p q bad both.1

pub not_refused : (bytes : List ℕ) (boots : Boots) (e : BootError) → SaysBoots bytes boots → IsRefused bytes e → ⊥
not_refused bytes boots (BadNumber line) s r = no_bad_line s.numbers r.before s.tail r.line r.after s.in_range r.in_range s.torn r.one_line r.no_number (sym s.parts ∙ r.parts)

-- ---- the next boot

pub record IsNext (m : Option ℕ) (next : ℕ) : Type 0 where
  pub is_boot : IsBoot next
  pub above : (x : ℕ) → m ≡ Some x → x < next
  pub takes : with_number m next ≡ Some next

abbrev value_or_0 : Option ℕ → ℕ
value_or_0 None = 0
value_or_0 (Some n) = n

pub next_is : (m : Option ℕ) (next : ℕ) → next_boot m ≡ Some next → IsNext m next
next_is None next is =
    let one : 1 ≡ next = ap value_or_0 is in
    record { is_boot = record { from = omega arith; to = omega arith }; above = λ x h. absurd (cc h); takes = refl }
next_is (Some n) next is = by (ltb n 2147483647) refl is
  where
    by : (b : Bool) → ltb n 2147483647 ≡ b → cond b (Some (n + 1)) None ≡ Some next → IsNext (Some n) next
    by true h is =
        let more : n + 1 ≡ next = ap value_or_0 is in
        let small : n < 2147483647 = grind (arith, nat_tests) in
        record {
          is_boot = record { from = omega arith; to = omega arith };
          above = λ x e. (let same : n ≡ x = ap value_or_0 e in omega arith);
          takes = ap (λ (k : ℕ). Some k) (let top : max n next ≡ next = omega arith in top);
        }
    by false h is = absurd cc

above_all : (ns : List ℕ) (next : ℕ) (m : Option ℕ) → m ≡ largest_of ns → IsNext m next → All (λ n. n < next) ns
above_all ns next None is next_is = subst (λ (xs : List ℕ). All (λ n. n < next) xs) (sym (no_largest ns (sym is))) (All-nil (λ n. n < next))
above_all ns next (Some x) is next_is =
    let far : x < next = next_is.above x refl in
    let above = largest_is_above None ns x (sym is) in
    All-weaker (λ n. n ≤ x) (λ n. n < next) (λ n le. omega arith) ns above.each

pub next_is_above : (bytes : List ℕ) (boots : Boots) (next : ℕ) (says : SaysBoots bytes boots) → next_boot boots.largest ≡ Some next → IsBoot next × All (λ n. n < next) says.numbers
next_is_above bytes boots next says is =
    let n = next_is boots.largest next is in
    (n.is_boot, above_all says.numbers next boots.largest says.greatest n)

pub whole_lines : (bytes : List ℕ) (boots : Boots) (says : SaysBoots bytes boots) → take boots.whole bytes ≡ boot_lines says.numbers
whole_lines bytes boots says =
    ap (λ (k : ℕ). take k bytes) says.counted
    ∙ ap (take (length (boot_lines says.numbers))) says.parts
    ∙ take-append-le (length (boot_lines says.numbers)) (boot_lines says.numbers) says.tail (omega arith)
    ∙ take_all (boot_lines says.numbers)
  where
    take_all : (xs : List ℕ) → take (length xs) xs ≡ xs
    take_all [] = refl
    take_all (x ∷ xs) = ap (λ (t : List ℕ). x ∷ t) (take_all xs)

pub next_read : (bytes : List ℕ) (boots : Boots) (next : ℕ) → SaysBoots bytes boots → next_boot boots.largest ≡ Some next
    → SaysBoots (take boots.whole bytes ++ boot_lines (next ∷ [])) (record { largest = Some next; whole = boots.whole + (length (decimal next) + 1) })
next_read bytes boots next says is =
    let n = next_is boots.largest next is in
    let cut = whole_lines bytes boots says in
    let more : boot_lines (says.numbers ++ next ∷ []) ≡ boot_lines says.numbers ++ boot_lines (next ∷ []) = lines_append says.numbers (next ∷ []) in
    let size = length-append (boot_lines says.numbers) (boot_lines (next ∷ [])) in
    let line = length-append (decimal next) (10 ∷ []) in
    let count = says.counted in
    record {
      numbers = says.numbers ++ next ∷ [];
      tail = [];
      parts = ap (λ (t : List ℕ). t ++ boot_lines (next ∷ [])) cut ∙ sym more ∙ sym (append-nil (boot_lines (says.numbers ++ next ∷ [])));
      in_range = All-push IsBoot says.numbers next says.in_range n.is_boot;
      torn = refl;
      greatest = sym (largest_push None says.numbers next ∙ ap (λ (m : Option ℕ). with_number m next) (sym says.greatest) ∙ n.takes);
      counted = (let total : boots.whole + (length (decimal next) + 1) ≡ length (boot_lines says.numbers ++ boot_lines (next ∷ [])) = omega arith in total) ∙ ap length (sym more);
    }

pub torn_says : (bytes : List ℕ) (boots : Boots) (next count : ℕ) → SaysBoots bytes boots → next_boot boots.largest ≡ Some next → count ≤ length (decimal next)
    → SaysBoots (take boots.whole bytes ++ take count (boot_lines (next ∷ []))) boots
torn_says bytes boots next count says is le =
    let n = next_is boots.largest next is in
    record {
      numbers = says.numbers;
      tail = take count (boot_lines (next ∷ []));
      parts = ap (λ (t : List ℕ). t ++ take count (boot_lines (next ∷ []))) (whole_lines bytes boots says);
      in_range = says.in_range;
      torn = take_line count (decimal next) (10 ∷ []) le (boot_line next n.is_boot);
      greatest = says.greatest;
      counted = says.counted;
    }

-- ---- reading

-- the lines that were read, and the rest
pub record IsReadUpTo (bytes rest : List ℕ) (boots : Boots) (line : ℕ) : Type 0 where
  pub numbers : List ℕ
  pub parts : bytes ≡ boot_lines numbers ++ rest
  pub in_range : All IsBoot numbers
  pub greatest : boots.largest ≡ largest_of numbers
  pub counted : boots.whole ≡ length (boot_lines numbers)
  pub numbered : line ≡ length numbers + 1

pub read_none : (bytes : List ℕ) (boots : Boots) (line : ℕ) → boots.largest ≡ None → boots.whole ≡ 0 → line ≡ 1 → IsReadUpTo bytes bytes boots line
read_none bytes boots line l w n = record { numbers = []; parts = refl; in_range = All-nil IsBoot; greatest = l; counted = w; numbered = n }

pub read_more : (bytes rest text after : List ℕ) (boots new : Boots) (line next number : ℕ) → IsReadUpTo bytes rest boots line
    → rest ≡ text ++ 10 ∷ after → text ≡ decimal number → IsBoot number
    → new.largest ≡ with_number boots.largest number → new.whole ≡ boots.whole + (length text + 1) → next ≡ line + 1
    → IsReadUpTo bytes after new next
read_more bytes rest text after boots new line next number r is text_is boot l w n =
    let more = r.numbers ++ number ∷ [] in
    let size = length-append (boot_lines r.numbers) (boot_lines (number ∷ [])) in
    let one = length-append (decimal number) (10 ∷ []) in
    let same = ap length text_is in
    let count = r.counted in
    let lines = r.numbered in
    let pushed = length-append r.numbers (number ∷ []) in
    record {
      numbers = more;
      parts = r.parts ∙ ap (λ (t : List ℕ). boot_lines r.numbers ++ t) (is ∙ ap (λ (t : List ℕ). t ++ 10 ∷ after) text_is) ∙ sym (lines_push r.numbers number after);
      in_range = All-push IsBoot r.numbers number r.in_range boot;
      greatest = l ∙ ap (λ (m : Option ℕ). with_number m number) r.greatest ∙ sym (largest_push None r.numbers number);
      counted = (let total : new.whole ≡ length (boot_lines r.numbers ++ boot_lines (number ∷ [])) = omega arith in total) ∙ ap length (sym (lines_append r.numbers (number ∷ [])));
      numbered = omega arith;
    }

pub read_all : (bytes rest : List ℕ) (boots : Boots) (line : ℕ) → IsReadUpTo bytes rest boots line → HasNoNewline rest → SaysBoots bytes boots
read_all bytes rest boots line r torn = record { numbers = r.numbers; tail = rest; parts = r.parts; in_range = r.in_range; torn = torn; greatest = r.greatest; counted = r.counted }

pub read_bad : (bytes rest text after : List ℕ) (boots : Boots) (line : ℕ) → IsReadUpTo bytes rest boots line
    → rest ≡ text ++ 10 ∷ after → HasNoNewline text → ((n : ℕ) → IsBoot n → text ≢ decimal n) → IsBadLine bytes line
read_bad bytes rest text after boots line r is one_line bad = record { before = r.numbers; line = text; after = after; parts = r.parts ∙ ap (λ (t : List ℕ). boot_lines r.numbers ++ t) is; in_range = r.in_range; one_line = one_line; no_number = bad; counted = r.numbered }

-- neither the bytes nor the lines are too many to count
pub read_fits : (bytes rest text after : List ℕ) (boots : Boots) (line : ℕ) → IsReadUpTo bytes rest boots line → rest ≡ text ++ 10 ∷ after
    → (boots.whole + (length text + 1) ≤ length bytes) × (line ≤ length bytes)
read_fits bytes rest text after boots line r is =
    let size = ap length r.parts ∙ length-append (boot_lines r.numbers) rest in
    let parts = ap length is ∙ length-append text (10 ∷ after) in
    let count = r.counted in
    let lines = r.numbered in
    let le = lines_long r.numbers in
    (omega arith, omega arith)
