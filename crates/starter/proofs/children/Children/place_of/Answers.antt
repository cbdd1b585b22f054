use Rattle.std.proofs.Common.{◌<◌, ◌∙◌, IfSome, length, position, ap, subst, sym, ℕ}
use Rattle.std.proofs.lemmas.List.{length-map}
use Rattle.pool_view.specs.Numbers.{same_run}
use Rattle.claim_id.specs.declared.numbers.RunNo.{RunNo}
use Rattle.starter.specs.declared.children.Child.{Child}
use Rattle.starter.specs.declared.children.RunKey.{RunKey}
use Rattle.starter.specs.ChildTables.{ChildTable, key_of}
use Rattle.starter.proofs.Tables.{key_tells, places, same_key}
use Rattle.starter.proofs.children.Children.place_of.Goals as goal

pub returns : goal.returns
returns c =
    let run = c.args.run in
    let entries = c.self.inside.by_run.entries in
    record {
      place =
          c.get_index_of.ensures.index
          ∙ places (same_key c.key_of.result) (λ (r : RunNo). same_run r run) (λ (r : RunNo). ap (λ (key : RunKey). same_key key (key_of r)) c.key_of.ensures ∙ key_tells run r) entries c.self.invariant
          ∙ ap (λ (t : ChildTable). position (λ (child : Child). same_run child.run run) t.list) c.self.view_is;
      within = subst (λ (n : ℕ). IfSome c.get_index_of.result (λ i. i < n)) (sym (length-map entries (λ (e : RunKey × Child). e.1)) ∙ ap (λ (t : ChildTable). length t.list) c.self.view_is) c.get_index_of.ensures.within;
    }
