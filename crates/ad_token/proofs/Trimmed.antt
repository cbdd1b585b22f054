-- Where a text may be cut at its blanks.
use Rattle.std.proofs.Common.{◌≡◌, ℕ, zero, suc, ◌+◌, ◌-◌, ◌<◌, ◌≤◌, true, List, length, get_or, reverse, refl, subst, arith}
use Rattle.std.specs.List.{prefix_len, suffix_len}
use Rattle.std.specs.Str.{IsUtf8, IsCharBoundary}
use Rattle.std.proofs.lemmas.Bool.Decides.{nat_tests}
use Rattle.std.proofs.lemmas.List.Sums.{prefix_len_passes, prefix_len-le-length, suffix_len-le-length}
use Rattle.std.proofs.lemmas.List.{get_or-reverse}
use Rattle.std.proofs.lemmas.Str.{IsCharBoundary-start, IsCharBoundary-end, IsCharBoundary-after_ascii, IsCharBoundary-before_ascii}
use Rattle.ad_token.specs.Lexing.{is_blank}

blank_ascii : (b : ℕ) → is_blank b ≡ true → b < 128
blank_ascii b h = grind (arith, nat_tests)

start_at : (bs : List ℕ) (n : ℕ) → n ≡ prefix_len is_blank bs → IsUtf8 bs → IsCharBoundary bs n
start_at bs zero e utf8 = IsCharBoundary-start bs utf8
start_at bs (suc n) e utf8 =
    let le : prefix_len is_blank bs ≤ length bs = prefix_len-le-length is_blank bs in
    let one : n + 1 ≡ suc n = omega arith in
    subst (λ m. IsCharBoundary bs m) one (IsCharBoundary-after_ascii bs n utf8 (omega arith) (blank_ascii _ (prefix_len_passes is_blank bs n 0 (omega arith))))

pub start_boundary : (bs : List ℕ) → IsUtf8 bs → IsCharBoundary bs (prefix_len is_blank bs)
start_boundary bs utf8 = start_at bs _ refl utf8

end_at : (bs : List ℕ) (n : ℕ) → n ≡ suffix_len is_blank bs → IsUtf8 bs → IsCharBoundary bs (length bs - n)
end_at bs zero e utf8 = subst (λ n. IsCharBoundary bs n) (let all : length bs ≡ length bs - 0 = omega arith in all) (IsCharBoundary-end bs)
end_at bs (suc n) e utf8 =
    let le : suffix_len is_blank bs ≤ length bs = suffix_len-le-length is_blank bs in
    let blank : is_blank (get_or (reverse bs) n 0) ≡ true = prefix_len_passes is_blank (reverse bs) n 0 (omega arith) in
    let there : length bs - 1 - n ≡ length bs - suc n = omega arith in
    IsCharBoundary-before_ascii bs (length bs - suc n) (omega arith)
    (blank_ascii _ (subst (λ k. is_blank (get_or bs k 0) ≡ true) there (subst (λ b. is_blank b ≡ true) (get_or-reverse bs n 0 (omega arith)) blank)))

pub end_boundary : (bs : List ℕ) → IsUtf8 bs → IsCharBoundary bs (length bs - suffix_len is_blank bs)
end_boundary bs utf8 = end_at bs _ refl utf8
