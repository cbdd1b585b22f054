use Rattle.std.proofs.Common.{◌≡◌, ap, sym, ◌∙◌, Some}
use Rattle.std.specs.Option.{option_map}
use Rattle.line_text.specs.Macros.{macros_of, find_macro, place_of, value_at}
use Rattle.line_text.proofs.TableLemmas.{place_of-macros_of, value_at-macros_of}
use Rattle.line_text.proofs.table.MacroTable.find.Goals as goal

pub returns-in-Some-clause-value : goal.returns-in-Some-clause-value
returns-in-Some-clause-value c =
    let name = c.args.name.now in
    let es = c.self.inside.entries.entries in
    let ms = macros_of es in
    let place : place_of name ms ≡ Some c.in-Some.place = place_of-macros_of name es ∙ sym c.in-Some.ensures.index in
    let value : value_at ms c.in-Some.place ≡ c.in-Some.value.now = value_at-macros_of es c.in-Some.place _ _ c.in-Some.ensures.entry in
    ap (λ v. Some (c.in-Some.place, v)) (c.as_str.ensures ∙ sym value)
    ∙ sym (ap (option_map (λ p. (p, value_at ms p))) place)
    ∙ ap (find_macro name) c.self.view_is

pub returns-in-None-clause-value : goal.returns-in-None-clause-value
returns-in-None-clause-value c =
    let name = c.args.name.now in
    let es = c.self.inside.entries.entries in
    let ms = macros_of es in
    ap (option_map (λ p. (p, value_at ms p))) (c.in-None.ensures.index ∙ sym (place_of-macros_of name es)) ∙ ap (find_macro name) c.self.view_is
