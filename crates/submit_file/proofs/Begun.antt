-- What is kept of the lines of a file, and whether they say which program.
use Rattle.std.proofs.Common.{◌≡◌, ◌<◌, ◌↔◌, ℕ, Bool, true, false, not, true≢false, IsTrue, List, [], ◌∷◌, length, codes, Some, None, refl, ap, sym, ◌∙◌, subst, arith}
use Rattle.std.specs.Prelude.{decimal}
use Rattle.ad_tree.specs.Ad.{Attributes}
use Rattle.line_text.specs.Macros.{Macros}
use Rattle.submit_lines.specs.Names.{is_built_in}
use Rattle.submit_file.specs.declared.file.FileSoFar.{FileSoFar}
use Rattle.submit_file.specs.declared.setting.LinesSoFar.{LinesSoFar}
use Rattle.submit_file.specs.declared.setting.Setting.{Setting}
use Rattle.submit_file.specs.JobMacros.{with_own}
use Rattle.submit_file.specs.Settings.{with_setting, setting_of}
use Rattle.submit_file.specs.SubmittedJobs.{HasProgram, name_set, with_lines, with_name, begun}

-- a file so far, by all that is kept of it
abbrev pub file_of : Macros → List Setting → List Setting → Bool → List Attributes → FileSoFar
file_of t cs own queue ads = record { lines = record { table = t; commands = cs; attributes = own }; has_queue = queue; ads = ads }

-- nothing but the number of the cluster, which two texts give
pub begun_is : (cluster : ℕ) (n m : List ℕ) (t u v : Macros) (cs own : List Setting) (ads : List Attributes) → t ≡ [] → n ≡ decimal cluster → m ≡ decimal cluster → u ≡ with_own (codes "Cluster") n t → v ≡ with_own (codes "ClusterId") m u → cs ≡ [] → own ≡ [] → ads ≡ [] → file_of v cs own false ads ≡ begun cluster
begun_is cluster n m t u v cs own ads empty one two first second no_commands no_lines no_ads =
    let table : v ≡ with_own (codes "ClusterId") (decimal cluster) (with_own (codes "Cluster") (decimal cluster) []) = second ∙ (λ i. with_own (codes "ClusterId") (two i) ((first ∙ (λ j. with_own (codes "Cluster") (one j) (empty j))) i)) in
    (λ i. file_of (table i) (no_commands i) (no_lines i) false (no_ads i))

-- a name that is none of a job's own macros
pub name_put : (f : FileSoFar) (x v : List ℕ) (n : ℕ) (b : Bool) (t : Macros) (cs : List Setting) → b ≡ is_built_in x → b ≡ false → t ≡ with_own x v f.lines.table → cs ≡ with_setting x v n f.lines.commands → file_of t cs f.lines.attributes f.has_queue f.ads ≡ with_name x v n f
name_put f x v n b t cs built other set put =
    (λ i. file_of (set i) (put i) f.lines.attributes f.has_queue f.ads) ∙ ap (λ b. with_lines f (name_set b x v n f.lines)) (sym other ∙ built)

-- ---- which program

some_if : (v : List ℕ) (b : Bool) → IsTrue b ↔ (v ≡ []) → IsTrue (not b) ↔ (0 < length v)
some_if [] true same = (λ yes. absurd (true≢false (sym yes)), λ some. absurd (omega (arith, some)))
some_if [] false same = absurd (true≢false (sym (same.1 refl)))
some_if (x ∷ v) true same = absurd (one_at_least (same.0 refl))
  where
    one_at_least : x ∷ v ≡ [] → ⊥
    one_at_least e = cc
some_if (x ∷ v) false same = (λ yes. omega arith, λ some. refl)

pub program_if : (f : LinesSoFar) (s : Setting) (b : Bool) → setting_of (codes "executable") f.commands ≡ Some s → IsTrue b ↔ (s.value ≡ []) → IsTrue (not b) ↔ HasProgram f
program_if f s b is empty = (
  λ yes. record { setting = s; is = is; some = (some_if s.value b empty).0 yes },
  λ p. (some_if s.value b empty).1 (subst (λ (s : Setting). 0 < length s.value) (one p.setting (sym p.is ∙ is)) p.some),
)
  where
    one : (t : Setting) → Some t ≡ Some s → t ≡ s
    one t e = cc

pub no_program : (f : LinesSoFar) → setting_of (codes "executable") f.commands ≡ None → IsTrue false ↔ HasProgram f
no_program f none = (λ yes. absurd (true≢false (sym yes)), λ p. absurd (other p.setting (sym none ∙ p.is)))
  where
    other : (s : Setting) → None ≡ Some s → ⊥
    other s e = cc
