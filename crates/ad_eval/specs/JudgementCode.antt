-- Codes of matches and of the want of one, by which a proof tells them apart: each is its parts,
-- whatever the proof in it.
use Rattle.std.specs.Prelude.{◌≡◌, ℕ, true, false, List}
use Rattle.std.proofs.Common.{ap, subst}
use Rattle.std.proofs.Math.Bool.{Bool-set}
use Rattle.std.specs.Coded.{Coded, coded×, coded_list, coded_ℕ}
use Rattle.ad_tree.specs.Ad.{Attributes}
use Rattle.ad_tree.specs.TreeCode.{attributes_code}
use Rattle.ad_eval.specs.Match.{matches, any_match}
use Rattle.ad_eval.specs.Judgement.{Judgement, Mismatch}

-- ---- a match

abbrev pub JudgedParts : Type 0
JudgedParts = Attributes × (Attributes × ℕ)

abbrev PartsMatch : JudgedParts → Type 0
PartsMatch x = matches x.0 x.1.0 x.1.1 ≡ true

abbrev judgement : (x : JudgedParts) → PartsMatch x → Judgement
judgement x fits = record { job = x.0; slot = x.1.0; at = x.1.1; fits = fits }

abbrev pub judged_parts : Judgement → JudgedParts
judged_parts j = (j.job, (j.slot, j.at))

same_judgement_by :
    (x y : JudgedParts) → x ≡ y → (f : PartsMatch x) (g : PartsMatch y)
    → judgement x f ≡ judgement y g
same_judgement_by x y e f =
    subst
    (λ z. (g : PartsMatch z) → judgement x f ≡ judgement z g)
    e
    (λ g. ap (judgement x) (Bool-set (matches x.0 x.1.0 x.1.1) true f g))

-- a match is its parts
pub same_judgement : (a b : Judgement) → judged_parts a ≡ judged_parts b → a ≡ b
same_judgement a b e = same_judgement_by (judged_parts a) (judged_parts b) e a.fits b.fits

abbrev parts_code : Coded JudgedParts
parts_code = coded× attributes_code (coded× attributes_code coded_ℕ)

abbrev pub judgement_code : Coded Judgement
judgement_code = record {
  code = λ j. parts_code.code (judged_parts j);
  inj = λ a b e. same_judgement a b (parts_code.inj (judged_parts a) (judged_parts b) e);
}

-- ---- the want of one

abbrev pub MismatchedParts : Type 0
MismatchedParts = List Attributes × (List Attributes × ℕ)

abbrev NoPartsMatch : MismatchedParts → Type 0
NoPartsMatch x = any_match x.0 x.1.0 x.1.1 ≡ false

abbrev mismatch : (x : MismatchedParts) → NoPartsMatch x → Mismatch
mismatch x unfit = record { jobs = x.0; slots = x.1.0; at = x.1.1; unfit = unfit }

abbrev pub mismatched_parts : Mismatch → MismatchedParts
mismatched_parts m = (m.jobs, (m.slots, m.at))

same_mismatch_by :
    (x y : MismatchedParts) → x ≡ y → (f : NoPartsMatch x) (g : NoPartsMatch y)
    → mismatch x f ≡ mismatch y g
same_mismatch_by x y e f =
    subst
    (λ z. (g : NoPartsMatch z) → mismatch x f ≡ mismatch z g)
    e
    (λ g. ap (mismatch x) (Bool-set (any_match x.0 x.1.0 x.1.1) false f g))

-- the want of a match is its parts
pub same_mismatch : (a b : Mismatch) → mismatched_parts a ≡ mismatched_parts b → a ≡ b
same_mismatch a b e = same_mismatch_by (mismatched_parts a) (mismatched_parts b) e a.unfit b.unfit

abbrev lists_code : Coded MismatchedParts
lists_code = coded× (coded_list attributes_code) (coded× (coded_list attributes_code) coded_ℕ)

abbrev pub mismatch_code : Coded Mismatch
mismatch_code = record {
  code = λ m. lists_code.code (mismatched_parts m);
  inj = λ a b e. same_mismatch a b (lists_code.inj (mismatched_parts a) (mismatched_parts b) e);
}
