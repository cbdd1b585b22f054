-- A text is one script, and is then not refused.
use Rattle.std.proofs.Common.{◌≡◌, ℕ, ◌≤◌, List, [], ◌∷◌, ◌++◌, length, filter_map, refl, sym, ◌∙◌, ap, subst, arith, append_assoc, length-append}
use Rattle.std.specs.List.{AllZip}
use Rattle.std.proofs.lemmas.List.Elements.{filter_map-append}
use Rattle.line_text.specs.declared.logical.Line.{Line}
use Rattle.line_text.specs.Lines.{logical_lines}
use Rattle.script_plan.specs.declared.entry.Entry.{Entry}
use Rattle.script_plan.specs.declared.script.Script.{Script}
use Rattle.script_plan.specs.Entries.{wish_in, load_in}
use Rattle.script_plan.specs.Scripts.{LineSays, Holds, IsScript, IsFirstBad}
use Rattle.script_plan.proofs.ByTime.{one_by_time}
use Rattle.script_plan.proofs.LineLemmas.{all_zip_one}
use Rattle.script_plan.proofs.OneEntry.{one_entry}

-- what goes with the front of a list
record Front {A B : Type 0} (R : A → B → Type 0) (xs : List A) (zs : List B) : Type 0 where
  front : List B
  back : List B
  whole : zs ≡ front ++ back
  each : AllZip R xs front

front_of : {A B : Type 0} (R : A → B → Type 0) (xs ys : List A) (zs : List B) → AllZip R (xs ++ ys) zs → Front R xs zs
front_of R [] ys zs each = record { front = []; back = zs; whole = refl; each = tt }
front_of R (x ∷ xs) ys [] each = absurd each
front_of R (x ∷ xs) ys (z ∷ zs) each =
    let f = front_of R xs ys zs each.1 in
    record { front = z ∷ f.front; back = f.back; whole = ap (λ l. z ∷ l) f.whole; each = (each.0, f.each) }

pub not_refused : (machines : List (List ℕ)) (text : List ℕ) (script : Script) (line : ℕ) → IsScript machines text script → ¬ IsFirstBad machines (logical_lines text) line
not_refused machines text script line is = λ bad.
    let whole : logical_lines text ≡ (bad.before ++ bad.bad ∷ []) ++ bad.after = bad.whole ∙ sym (append_assoc bad.before (bad.bad ∷ []) bad.after) in
    let f = front_of (LineSays machines) (bad.before ++ bad.bad ∷ []) bad.after is.entries (subst (λ (ls : List Line). AllZip (LineSays machines) ls is.entries) whole is.said.said) in
    let loads = ap (λ (es : List Entry). length (filter_map load_in es)) f.whole ∙ ap length (filter_map-append load_in f.front f.back) ∙ length-append (filter_map load_in f.front) (filter_map load_in f.back) in
    let few = is.said.one_load in
    let one : length (filter_map load_in f.front) ≤ 1 = omega arith in
    bad.unsaid f.front (record { said = f.each; one_load = one })

pub one_script : (machines : List (List ℕ)) (text : List ℕ) (one other : Script) → IsScript machines text one → IsScript machines text other → one ≡ other
one_script machines text one other a b =
    let same = all_zip_one (LineSays machines) (one_entry machines) (logical_lines text) b.entries a.entries b.said.said a.said.said in
    let held = subst (λ (es : List Entry). Holds es other) same b.held in
    let wishes = one_by_time (filter_map wish_in a.entries) one.wishes other.wishes a.held.wishes held.wishes in
    let lose = a.held.lose ∙ sym held.lose in
    let again = a.held.repeat ∙ sym held.repeat in
    let late = a.held.late ∙ sym held.late in
    let crash = a.held.crash ∙ sym held.crash in
    let load = a.held.load ∙ sym held.load in
    λ i. record { wishes = wishes i; lose = lose i; repeat = again i; late = late i; crash = crash i; load = load i }
