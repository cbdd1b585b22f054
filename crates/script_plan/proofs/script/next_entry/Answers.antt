use Rattle.std.proofs.Common.{refl, ap, sym, ◌∙◌}
use Rattle.script_plan.specs.Scripts.{is_second_load}
use Rattle.script_plan.proofs.Values.{same_value}
use Rattle.script_plan.proofs.script.next_entry.Goals as goal

pub returns-in_default-clause-refused : goal.returns-in_default-clause-refused
returns-in_default-clause-refused c = (
  refl,
  λ e said.
      let is = (c.in_ok-entry.ensures e).1 said in
      let none = c.in_default.is in
      absurd cc,
)

pub returns-then-is_second_load-clause-refused : goal.returns-then-is_second_load-clause-refused
returns-then-is_second_load-clause-refused c = (
  refl,
  λ e said.
      let same = same_value e c.in-Some.entry ((c.in_ok-entry.ensures e).1 said) c.in-Some.is in
      ap (is_second_load c.args.before.now) same ∙ sym c.is_second_load.ensures ∙ c.if-is_second_load.true,
)

pub returns-clause-ok : goal.returns-clause-ok
returns-clause-ok c = record {
  said = (c.in_ok-entry.ensures c.in-Some.entry).0 c.in-Some.is;
  lone = sym c.is_second_load.ensures ∙ c.if-is_second_load.false;
}
