use Rattle.std.proofs.Common.{ap, sym, ◌∙◌}
use Rattle.pool_parts.specs.Growth.{is_among}
use Rattle.pool_parts.proofs.Noting.{among_again, among_more, noted_more}
use Rattle.pool_parts.proofs.touched.Noted.note.Goals as goal

pub returns-then-has-clause-keys : goal.returns-then-has-clause-keys
returns-then-has-clause-keys c = λ k.
    among_again k c.args.key c.args.self.now.keys.items (sym (c.requires.noted.same c.args.key) ∙ sym c.has.ensures ∙ c.if-has.true)

pub returns-clause-keys : goal.returns-clause-keys
returns-clause-keys c = λ k.
    ap (is_among k) c.in_ok-push.ensures.items ∙ among_more k c.args.key c.args.self.now.keys.items

pub returns-clause-noted : goal.returns-clause-noted
returns-clause-noted c =
    noted_more c.args.self.now c.args.key c.push.new.self c.put.new.self c.in_ok-entry.entry c.requires.noted (sym c.has.ensures ∙ c.if-has.false) c.in_ok-push.ensures.items c.in_ok-entry.ensures c.put.ensures.entries
