-- One slot more, and the slots of one machine more.
use Rattle.std.proofs.Common.{◌≡◌, ◌<◌, ◌≤◌, ◌+◌, ◌^◌, ℕ, zero, suc, Bool, true, false, true≢false, Bor, List, [], ◌∷◌, ◌++◌, length, map, get_or, drop, All, refl, ap, sym, ◌∙◌, subst, arith, add-one, codes, append-nil, append_assoc, length-append}
use Rattle.std.specs.List.{slice_get}
use Rattle.std.proofs.Math.Seq.{drop-cons}
use Rattle.std.proofs.lemmas.List.{drop_all}
use Rattle.std.proofs.lemmas.List.Elements.{All-from_recursion}
use Rattle.ad_value.specs.declared.names.matching.TheConstants.{RANK, REQUIREMENTS}
use Rattle.ad_value.specs.declared.names.slot.TheConstants.{ARCH, CPUS, DISK, MACHINE, MEMORY, MY_TYPE, NAME, OP_SYS, SLOT_ID, START}
use Rattle.ad_rows.specs.Rows.{integer_literal, text_literal}
use Rattle.ad_rows.specs.declared.rows.Given.{Given}
use Rattle.ad_rows.specs.declared.rows.Given.TheVariants as given
use Rattle.ad_tree.specs.Ad.{Attributes}
use Rattle.ad_tree.specs.Tree.{reference}
use Rattle.ad_tree.specs.declared.operator.Scope.TheVariants.{Bare}
use Rattle.ad_tree.specs.declared.tree.Expr.{Expr}
use Rattle.pool_config.specs.declared.config.Machine.{Machine}
use Rattle.pool_config.specs.Configuration.{Configuration, ConfiguredMachine, machine_of, total_slots}
use Rattle.pool_config.specs.declared.slots.ConfiguredSlot.{ConfiguredSlot}
use Rattle.pool_config.specs.Slots.{slot_name, pool_attributes, and_attribute, with_attributes, configured_slot, configured_slots, slots_upto, slots_from}

pub upto_none : (slots : List ConfiguredSlot) (place : ℕ) (m : ConfiguredMachine) → slots ≡ slots ++ slots_upto place m 0
unfolding slots_upto
upto_none slots place m = sym (append-nil slots)

pub upto_more : (place : ℕ) (m : ConfiguredMachine) (n : ℕ) → slots_upto place m (n + 1) ≡ slots_upto place m n ++ configured_slot m (record { machine = place; slot = n + 1 }) ∷ []
unfolding slots_upto
upto_more place m n = ap (slots_upto place m) (add-one n)

pub from_none : (place : ℕ) → slots_from place [] ≡ []
unfolding slots_from
from_none place = refl

pub from_more : (place : ℕ) (m : ConfiguredMachine) (ms : List ConfiguredMachine) → slots_from place (m ∷ ms) ≡ slots_upto place m m.slots ++ slots_from (place + 1) ms
unfolding slots_from
from_more place m ms = refl

count_upto : (place : ℕ) (m : ConfiguredMachine) (n : ℕ) → length (slots_upto place m n) ≡ n
unfolding slots_upto
count_upto place m zero = refl
count_upto place m (suc n) =
    let rest = count_upto place m n in
    omega (arith, rest, length-append (slots_upto place m n) (configured_slot m (record { machine = place; slot = n + 1 }) ∷ []))

count_from : (place : ℕ) (ms : List ConfiguredMachine) → length (slots_from place ms) ≡ total_slots ms
unfolding slots_from
count_from place [] = refl
count_from place (m ∷ ms) =
    let rest = count_from (place + 1) ms in
    omega (arith, rest, count_upto place m m.slots, length-append (slots_upto place m m.slots) (slots_from (place + 1) ms))

pub counted : (c : Configuration) → length (configured_slots c) ≡ total_slots c.machines
counted c = count_from 0 c.machines

-- one attribute more is set
pub one_attribute : (rest : Attributes) (i : ℕ) (ad : Attributes) → i < length rest → with_attributes (drop (i + 1) rest) (and_attribute (slice_get rest i) ad) ≡ with_attributes (drop i rest) ad
one_attribute [] i ad inside = absurd (omega arith)
one_attribute (a ∷ rest) zero ad inside = refl
one_attribute (a ∷ rest) (suc i) ad inside =
    let more : suc i + 1 ≡ suc (i + 1) = omega arith in
    ap (λ n. with_attributes (drop n (a ∷ rest)) (and_attribute (slice_get rest i) ad)) more ∙ one_attribute rest i ad (omega (arith, inside))

-- ---- machine by machine

pub slots_more : (ms : List Machine) (i : ℕ) (m : Machine) (old new whole : List ConfiguredSlot) (place : ℕ) → i < length ms → m ≡ get_or ms i m → place ≡ i → new ≡ old ++ slots_upto place (machine_of m) m.slots → old ++ slots_from i (map machine_of (drop i ms)) ≡ whole → new ++ slots_from (i + 1) (map machine_of (drop (i + 1) ms)) ≡ whole
slots_more ms i m old new whole place inside is at add before =
    let one : suc i ≡ i + 1 = omega arith in
    let rest = slots_from (i + 1) (map machine_of (drop (i + 1) ms)) in
    let cut : drop i ms ≡ m ∷ drop (i + 1) ms = drop-cons ms i m inside ∙ ap (λ k. k ∷ drop (suc i) ms) (sym is) ∙ ap (λ k. m ∷ drop k ms) one in
    ap (λ l. l ++ rest) (add ∙ ap (λ p. old ++ slots_upto p (machine_of m) m.slots) at)
    ∙ append_assoc old (slots_upto i (machine_of m) m.slots) rest
    ∙ ap (λ l. old ++ l) (sym (from_more i (machine_of m) (map machine_of (drop (i + 1) ms))))
    ∙ ap (λ l. old ++ slots_from i (map machine_of l)) (sym cut)
    ∙ before

pub slots_end : (ms : List Machine) (i : ℕ) (slots whole : List ConfiguredSlot) → length ms ≤ i → slots ++ slots_from i (map machine_of (drop i ms)) ≡ whole → slots ≡ whole
slots_end ms i slots whole end all =
    sym (append-nil slots) ∙ ap (λ l. slots ++ l) (sym (from_none i))
    ∙ ap (λ l. slots ++ slots_from i (map machine_of l)) (sym (drop_all i ms end)) ∙ all

-- ---- rows of an ad

is_integer : Given → Bool
is_integer (given.Integer n) = true
is_integer g = false

integer_in : Given → ℕ
integer_in (given.Integer n) = n
integer_in g = 0

other_row : (g : Given) → is_integer g ≡ false → (n : ℕ) → g ≡ given.Integer n → n < 2 ^ 63
unfolding is_integer
other_row g other n e = absurd (true≢false (sym (ap is_integer e) ∙ other))

text_row : (t : Bor (List ℕ)) (n : ℕ) → given.Text t ≡ given.Integer n → n < 2 ^ 63
unfolding is_integer
text_row t = other_row (given.Text t) refl

name_row : (t : Bor (List ℕ)) (n : ℕ) → given.Name t ≡ given.Integer n → n < 2 ^ 63
unfolding is_integer
name_row t = other_row (given.Name t) refl

expression_row : (e : Bor Expr) (n : ℕ) → given.Expression e ≡ given.Integer n → n < 2 ^ 63
unfolding is_integer
expression_row e = other_row (given.Expression e) refl

integer_row : (k : ℕ) → k < 2 ^ 63 → (n : ℕ) → given.Integer k ≡ given.Integer n → n < 2 ^ 63
unfolding integer_in
integer_row k small n e = subst (λ m. m < 2 ^ 63) (ap integer_in e) small

abbrev pub IsSmall : Bor (List ℕ) × Given → Type 0
IsSmall r = (n : ℕ) → r.1 ≡ given.Integer n → n < 2 ^ 63

-- the rows that the pool gives a slot's ad
pub small_rows : (a1 a2 a3 a4 a5 a6 a7 a8 a9 a10 a11 a12 : Bor (List ℕ)) (g1 g2 g3 g5 g6 g11 : Bor (List ℕ)) (g4 g7 g8 g9 : ℕ) (g10 g12 : Bor Expr) → g4 < 2 ^ 63 → g7 < 2 ^ 63 → g8 < 2 ^ 63 → g9 < 2 ^ 63 → All IsSmall ((a1, given.Text g1) ∷ (a2, given.Text g2) ∷ (a3, given.Text g3) ∷ (a4, given.Integer g4) ∷ (a5, given.Text g5) ∷ (a6, given.Text g6) ∷ (a7, given.Integer g7) ∷ (a8, given.Integer g8) ∷ (a9, given.Integer g9) ∷ (a10, given.Expression g10) ∷ (a11, given.Name g11) ∷ (a12, given.Expression g12) ∷ [])
small_rows a1 a2 a3 a4 a5 a6 a7 a8 a9 a10 a11 a12 g1 g2 g3 g5 g6 g11 g4 g7 g8 g9 g10 g12 s4 s7 s8 s9 =
    All-from_recursion IsSmall ((a1, given.Text g1) ∷ (a2, given.Text g2) ∷ (a3, given.Text g3) ∷ (a4, given.Integer g4) ∷ (a5, given.Text g5) ∷ (a6, given.Text g6) ∷ (a7, given.Integer g7) ∷ (a8, given.Integer g8) ∷ (a9, given.Integer g9) ∷ (a10, given.Expression g10) ∷ (a11, given.Name g11) ∷ (a12, given.Expression g12) ∷ [])
    (text_row g1, (text_row g2, (text_row g3, (integer_row g4 s4, (text_row g5, (text_row g6, (integer_row g7 s7, (integer_row g8 s8, (integer_row g9 s9, (expression_row g10, (name_row g11, (expression_row g12, tt))))))))))))

-- a number of 16 or of 32 bits is small
pub given_short : (k n : ℕ) → k ≡ n → n < 2 ^ 16 → k < 2 ^ 63
given_short k n is small = omega (arith, is, small)

pub given_word : (k n : ℕ) → k ≡ n → n < 2 ^ 32 → k < 2 ^ 63
given_word k n is small = omega (arith, is, small)

-- the attributes that these rows make
pub attributes_are : (m : ConfiguredMachine) (k : ℕ) (name machine : List ℕ) (n cpus memory disk : ℕ) → name ≡ slot_name m.name k → machine ≡ m.name → n ≡ k → cpus ≡ m.cpus → memory ≡ m.memory → disk ≡ m.disk →
    (MY_TYPE.now, text_literal (codes "Machine")) ∷ (NAME.now, text_literal name) ∷ (MACHINE.now, text_literal machine) ∷ (SLOT_ID.now, integer_literal n) ∷ (OP_SYS.now, text_literal (codes "LINUX")) ∷ (ARCH.now, text_literal (codes "X86_64")) ∷ (CPUS.now, integer_literal cpus) ∷ (MEMORY.now, integer_literal memory) ∷ (DISK.now, integer_literal disk) ∷ (START.now, m.start) ∷ (REQUIREMENTS.now, reference Bare START.now) ∷ (RANK.now, m.rank) ∷ [] ≡ pool_attributes m k
attributes_are m k name machine n cpus memory disk p q r s t u =
    λ i. (MY_TYPE.now, text_literal (codes "Machine")) ∷ (NAME.now, text_literal (p i)) ∷ (MACHINE.now, text_literal (q i)) ∷ (SLOT_ID.now, integer_literal (r i)) ∷ (OP_SYS.now, text_literal (codes "LINUX")) ∷ (ARCH.now, text_literal (codes "X86_64")) ∷ (CPUS.now, integer_literal (s i)) ∷ (MEMORY.now, integer_literal (t i)) ∷ (DISK.now, integer_literal (u i)) ∷ (START.now, m.start) ∷ (REQUIREMENTS.now, reference Bare START.now) ∷ (RANK.now, m.rank) ∷ []
