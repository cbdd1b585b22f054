use Rattle.std.proofs.Common.{rules, ◌≡◌, ℕ, ◌<◌, ◌^◌, ◌&&◌, not, Bool, true, false, cond, List, [], ◌∷◌, length, nat_le, nat_eq, Result, Ok, Err, IfErr, refl, sym, arith}
use Rattle.std.specs.Char.{is_ascii_digit}
use Rattle.std.specs.List.{list_all}
use Rattle.std.specs.Str.Parse.{digits_value, ParsesUnsigned}
use Rattle.std.proofs.lemmas.Bool.{leb-true}
use Rattle.std.proofs.lemmas.Str.Parse.{numerals_by_value, parse_digits, IsNumeralModel}
use Rattle.queue_record.specs.Entries.{is_numeral, sequence_of, counted_on}
use Rattle.queue_record.proofs.stamp.sequence_of.Goals as goal

own : IsNumeralModel (λ ds. list_all is_ascii_digit ds ≡ true) (digits_value 10)
own = numerals_by_value _ (search rules)

parts : (a b : Bool) → (a && b) ≡ true → (a ≡ true) × (b ≡ true)
parts true true h = (refl, refl)
parts true false h = absurd cc
parts false b h = absurd cc

some : (ds : List ℕ) → not (nat_eq (length ds) 0) ≡ true → 0 < length ds
some [] h = absurd cc
some (d ∷ ds) h = omega arith

large : (v : ℕ) → (v < 2 ^ 32 → ⊥) → counted_on v ≡ 0
large v h = by (nat_le v 4294967294) refl
  where
    by : (b : Bool) → nat_le v 4294967294 ≡ b → cond b v 0 ≡ 0
    by true e = let le = leb-true v 4294967294 e in absurd (h (omega arith))
    by false e = refl

too_large : {E : Type 0} (ds : List ℕ) (r : Result ℕ E) → ParsesUnsigned 32 10 ds r → is_numeral ds ≡ true → IfErr r (λ e. 0 ≡ sequence_of ds)
too_large ds (Ok n) h numeral = tt
too_large ds (Err e) h numeral =
    let both = parts (not (nat_eq (length ds) 0)) (list_all is_ascii_digit ds) numeral in
    let refused = parse_digits own 32 ds (Err e) h both.1 in
    sym (large (digits_value 10 ds) (λ small. refused (some ds both.0, small)))

pub returns-in-Err : goal.returns-in-Err
returns-in-Err c = too_large c.args.digits.now (Err c.in-Err.field-0) c.in-Err.ensures.value.0 c.requires
