use Rattle.std.proofs.Common.{◌≡◌, ◌∙◌, true, refl, arith, rules, ap}
use Rattle.pool_input.proofs.Pieces.{read_more, no_more, taken_whole, comes_nearer, cut_short}
use Rattle.pool_input.proofs.Stores.{quiet_so_far, no_rise, not_refused, not_too_long, cause_handed, not_missed, same_after, same_twice}
use Rattle.pool_input.proofs.files.read_file.Goals as goal
use Rattle.pool_input.proofs.files.read_file.Goals.{else-pieces-test, then-pieces-test+in_ok-count+then-count-eq0}

pub pieces-preserved : goal.pieces-preserved
pieces-preserved g c =
    let inv = c.pieces.invariant in
    let read = c.in_ok-count.ensures in
    let front = λ (tells : g.D.Store.tells c.args.store.now ≡ true). read_more (g.D.Store.file c.args.store.now c.args.name.now) (g.D.Store.file c.pieces.store c.args.name.now) c.pieces.bytes.items c.read_at.new.into c.pieces.piece c.extend_from_slice.new.self.items c.len-in-pieces.result c.in_ok-count.count (inv.same tells c.args.name.now).0 (search rules) (read.read (inv.told ∙ tells)) (omega (arith, read.count)) (inv.front tells) c.in_ok-extend_from_slice.ensures.items in
    record {
      size = inv.size;
      front = front;
      short = inv.short;
      room = λ tells. no_more _ c.extend_from_slice.new.self.items c.in_ok-size.size (inv.size tells) (front tells);
      same = λ tells n. let now = read.same (inv.told ∙ tells) n in let before = inv.same tells n in (now.0 ∙ before.0, now.1 ∙ before.1);
      known = read.known.learnt;
      told = read.told ∙ inv.told;
      quiet = read.cause.quiet refl ∙ inv.quiet;
    }

pub slice_bounds-extend_from_slice-end : goal.slice_bounds-extend_from_slice-end
slice_bounds-extend_from_slice-end g c = taken_whole c.pieces.piece c.read_at.new.into c.in_ok-count.count c.in_ok-count.ensures.count c.read_at.auto.into

pub pieces-smaller : goal.pieces-smaller
pieces-smaller g c = comes_nearer c.in_ok-size.size _ _ c.len.result c.in_ok-count.count _ c.len.ensures c.pieces-test.true c.if-count-eq0.false
    (taken_whole c.pieces.piece c.read_at.new.into c.in_ok-count.count c.in_ok-count.ensures.count c.read_at.auto.into) c.in_ok-extend_from_slice.ensures.len

pub returns-clause-cause : goal.returns-clause-cause
returns-clause-cause g c = quiet_so_far _ _ c.truncate.new.self (elim c.pieces-test.branch [
  | else-pieces-test w ↦ ap g.D.Store.faults w.store-is ∙ c.pieces.invariant.quiet
  | then-pieces-test+in_ok-count+then-count-eq0 w ↦ ap g.D.Store.faults w.store-is ∙ w.in_ok-count.ensures.cause.quiet refl ∙ c.pieces.invariant.quiet
])

pub returns-clause-told : goal.returns-clause-told
returns-clause-told g c = elim c.pieces-test.branch [
  | else-pieces-test w ↦ ap g.D.Store.tells w.store-is ∙ c.pieces.invariant.told
  | then-pieces-test+in_ok-count+then-count-eq0 w ↦ ap g.D.Store.tells w.store-is ∙ w.in_ok-count.ensures.told ∙ c.pieces.invariant.told
]

pub returns-clause-same : goal.returns-clause-same
returns-clause-same g c = λ told.
    elim c.pieces-test.branch [
      | else-pieces-test w ↦ same_after g.D.Store.file g.D.Store.solid c.args.store.now _ _ w.store-is (c.pieces.invariant.same told)
      | then-pieces-test+in_ok-count+then-count-eq0 w ↦ same_after g.D.Store.file g.D.Store.solid c.args.store.now _ _ w.store-is
          (same_twice g.D.Store.file g.D.Store.solid c.args.store.now c.pieces.store _ (c.pieces.invariant.same told) (w.in_ok-count.ensures.same (c.pieces.invariant.told ∙ told)))
    ]

pub returns-clause-short : goal.returns-clause-short
returns-clause-short g c = cut_short c.pieces.bytes.items c.truncate.new.self.items c.in_ok-size.size _ c.truncate.ensures.items c.pieces.invariant.short

pub returns-clause-too_long : goal.returns-clause-too_long
returns-clause-too_long g c = λ told refused. not_refused c.truncate.new.self _ refused

pub returns-then-is_too_long-clause-too_long : goal.returns-then-is_too_long-clause-too_long
returns-then-is_too_long-clause-too_long g c = λ told refused. (c.in_ok-size.size, c.in_ok-size.ensures.size told, c.is_too_long.ensures.yes c.if-is_too_long.true)

pub returns-then-is_too_long-clause-cause : goal.returns-then-is_too_long-clause-cause
returns-then-is_too_long-clause-cause g c = no_rise _ _ (c.in_ok-size.ensures.cause.quiet refl)

pub returns-in_err-count-clause-told : goal.returns-in_err-count-clause-told
returns-in_err-count-clause-told g c = c.in_err-count.ensures.told ∙ c.pieces.invariant.told

pub returns-in_err-count-clause-same : goal.returns-in_err-count-clause-same
returns-in_err-count-clause-same g c = λ told. same_twice g.D.Store.file g.D.Store.solid c.args.store.now c.pieces.store _ (c.pieces.invariant.same told) (c.in_err-count.ensures.same (c.pieces.invariant.told ∙ told))

pub returns-in_err-count-clause-cause : goal.returns-in_err-count-clause-cause
returns-in_err-count-clause-cause g c = cause_handed c.from_residual-in_err-count.result c.in_err-count.field-0.0 _ _ _ c.from_residual-in_err-count.ensures c.pieces.invariant.quiet c.in_err-count.ensures.cause

pub returns-in_err-count-clause-too_long : goal.returns-in_err-count-clause-too_long
returns-in_err-count-clause-too_long g c = λ told. not_too_long c.from_residual-in_err-count.result c.in_err-count.field-0.0 c.from_residual-in_err-count.ensures

pub returns-in_err-count-clause-missing : goal.returns-in_err-count-clause-missing
returns-in_err-count-clause-missing g c = λ told. not_missed c.from_residual-in_err-count.result c.in_err-count.field-0.0 _ c.from_residual-in_err-count.ensures c.pieces.invariant.known c.in_err-count.ensures.missing.unknown

pub returns-in_err-size-clause-cause : goal.returns-in_err-size-clause-cause
returns-in_err-size-clause-cause g c = cause_handed c.from_residual.result c.in_err-size.field-0.0 _ _ _ c.from_residual.ensures refl c.in_err-size.ensures.cause

pub returns-in_err-size-clause-too_long : goal.returns-in_err-size-clause-too_long
returns-in_err-size-clause-too_long g c = λ told. not_too_long c.from_residual.result c.in_err-size.field-0.0 c.from_residual.ensures
