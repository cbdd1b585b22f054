-- Each turn moves one name from what is left to what was copied.
use Rattle.std.proofs.Common.{◌≡◌, ap, sym, ◌∙◌, subst, ◌++◌, ◌∷◌, string_bytes}
use Rattle.std.specs.Map.Iter.{deref_pair}
use Rattle.std.proofs.lemmas.Map.Iter.{rest_more}
use Rattle.line_text.specs.Macros.{macros_of, with_macro}
use Rattle.line_text.proofs.TableLemmas.{copied_more, distinct_from, AreDistinct}
use Rattle.line_text.proofs.table.MacroTableCopied.copy.Goals as goal

pub loop-name-preserved : goal.loop-name-preserved
loop-name-preserved c =
    let name = string_bytes c.in-Some.name.now in
    let value = c.in-Some.value.now in
    let done = macros_of c.loop-name.entries.entries in
    let more = macros_of c.next.new.self in
    let left = rest_more deref_pair c.loop-name.name-iterator c.next.new.self c.next.result (c.in-Some.name, c.in-Some.value) c.in-Some.is c.next.ensures.steps in
    let whole : done ++ (name, value) ∷ more ≡ c.args.self.now = sym (ap (λ l. done ++ macros_of l) left) ∙ c.loop-name.invariant in
    let put : macros_of c.put_copy.new.entries.entries ≡ with_macro name value done = c.in_ok-put_copy.ensures in
    ap (λ l. l ++ more) put ∙ copied_more done (name, value) more c.args.self.now whole (subst AreDistinct c.self.view_is (distinct_from c.self.inside.entries.entries c.iter-name-items.ensures.unique))
