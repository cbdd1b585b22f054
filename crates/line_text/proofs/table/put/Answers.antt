use Rattle.std.proofs.Common.{ap, sym, ◌∙◌, map, string_bytes}
use Rattle.std.specs.List.{position}
use Rattle.std.specs.Str.{bytes_eq}
use Rattle.line_text.specs.Macros.{macros_of}
use Rattle.line_text.proofs.TableLemmas.{macros-insert_entry, macros-set_value_at}
use Rattle.line_text.proofs.table.put.Goals as goal

pub returns-clause-ok : goal.returns-clause-ok
returns-clause-ok c =
    ap macros_of c.in_ok-insert.ensures.entries ∙ macros-insert_entry c.args.entries.now.entries c.args.name c.args.value

pub returns-in-Some-clause-ok : goal.returns-in-Some-clause-ok
returns-in-Some-clause-ok c =
    let es = c.args.entries.now.entries in
    macros-set_value_at es c.args.name c.args.value c.in-Some.place
    (ap (λ x. position (λ k. bytes_eq x (string_bytes k)) (map (λ e. e.0) es)) (sym c.as_str.ensures.value) ∙ sym c.get_index_of.ensures.index ∙ c.in-Some.is)
