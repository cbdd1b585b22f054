use Rattle.std.proofs.Common.{◌≡◌, ◌∙◌, true, Some, length, take, refl, ap, sym, arith}
use Rattle.pool_outer.specs.Files.{bytes_in}
use Rattle.pool_store.proofs.Moments.{changed_behind, kept_either}
use Rattle.queue_log.proofs.Opened.{whole_within}
use Rattle.queue_log.proofs.Others.{others_both}
use Rattle.queue_log.proofs.Pieces.{cut_bytes, size_of}
use Rattle.queue_log.proofs.Reattached.{beyond_refused, read_refused, reread_by}
use Rattle.queue_log.proofs.Refusals.{not_missed, store_refused}
use Rattle.queue_log.specs.Stands.{bad_line}
use Rattle.queue_log.proofs.reattach.reread.Goals as goal

pub cut_after-requires-clause-within : goal.cut_after-requires-clause-within
cut_after-requires-clause-within g c tells =
    let m = g.D.Store in
    let old = c.args.store.now in
    let mid = c.read_again.new.store in
    let n = c.args.name.now in
    let e = c.in-Ok.ensures in
    let tells' : m.tells old ≡ true = sym e.told ∙ tells in
    let size : c.in-Ok.again.0 ≡ length (bytes_in (m.file mid n)) = size_of (m.file mid n) c.in-Ok.again.0 (e.size tells') in
    let same = ap (λ f. length (bytes_in f)) (e.keeps tells').same in
    let within = whole_within (bytes_in (m.file old n)) (e.small tells') c.in-Ok.again.1 (e.read tells') in
    omega (arith, within, size, same)

pub returns-in-Err : goal.returns-in-Err
returns-in-Err g c =
    let m = g.D.Store in
    let old = c.args.store.now in
    let new = c.read_again.new.store in
    let n = c.args.name.now in
    let e = c.read_again.ensures in
    record {
      reread = λ tells. tt;
      next = tt;
      pending = tt;
      refused = read_refused c.args.halt.now (m.tells old) (bytes_in (m.file old n)) c.args.logged.now.list (m.faults old) (m.faults new) c.in-Err.error c.in-Err.ensures.refused;
      list = refl;
      queue = refl;
      mark = refl;
      same = λ tells. (e.keeps tells).same;
      no_less = λ tells. (e.keeps tells).no_less;
      any_moment = λ tells. kept_either m.file m.solid m.moment m.left_since n old new (e.keeps tells);
      others = e.others;
      known = e.known;
      told = e.told;
      later = e.later;
      steady = tt;
    }

pub returns-in-Err-pending_beyond : goal.returns-in-Err-pending_beyond
returns-in-Err-pending_beyond g c =
    let m = g.D.Store in
    let old = c.args.store.now in
    let new = c.read_again.new.store in
    let n = c.args.name.now in
    let e = c.in-Ok.ensures in
    let b = c.in-Err-pending_beyond.ensures in
    record {
      reread = λ tells. tt;
      next = tt;
      pending = tt;
      refused = beyond_refused c.args.halt.now (m.tells old) (bytes_in (m.file old n)) c.args.logged.now.list c.in-Ok.again.1 (m.faults old) (m.faults new) c.in-Err-pending_beyond.error e.read b.refused;
      list = b.list;
      queue = b.queue;
      mark = b.mark;
      same = λ tells. (e.keeps tells).same;
      no_less = λ tells. (e.keeps tells).no_less;
      any_moment = λ tells. kept_either m.file m.solid m.moment m.left_since n old new (e.keeps tells);
      others = e.others;
      known = e.known;
      told = e.told;
      later = e.later;
      steady = tt;
    }

pub returns-in-Ok-cut_after : goal.returns-in-Ok-cut_after
returns-in-Ok-cut_after g c =
    let m = g.D.Store in
    let old = c.args.store.now in
    let mid = c.read_again.new.store in
    let new = c.cut_after.new.store in
    let n = c.args.name.now in
    let log = c.in-Ok.again.1 in
    let e = c.in-Ok.ensures in
    let b = c.in-Ok-pending_beyond.ensures in
    let cut = c.in-Ok-cut_after.ensures in
    record {
      reread = λ tells.
          let is = cut_bytes log.whole (m.file mid n) (m.file new n) (cut.cut (e.told ∙ tells)) ∙ ap (λ f. take log.whole (bytes_in f)) (e.keeps tells).same in
          reread_by c.args.logged.now.list (bytes_in (m.file old n)) (bytes_in (m.file new n)) (m.solid new n) log c.in-Ok-pending_beyond.more (e.small tells) (e.read tells) b.beyond is (cut.solid (e.told ∙ tells));
      next = b.next;
      pending = b.pending;
      refused = tt;
      list = b.list;
      queue = b.queue;
      mark = b.mark;
      same = λ tells. tt;
      no_less = λ tells. tt;
      any_moment = λ tells. changed_behind m.file m.solid m.moment m.left_since n old mid new (e.keeps tells) (cut.any_moment (e.told ∙ tells));
      others = λ tells. others_both m.file m.solid m.moment m.left_since n old mid new (e.others tells) (record { same = cut.others (e.told ∙ tells); quiet = cut.quiet (e.told ∙ tells) });
      known = λ other k. cut.known other (e.known other k);
      told = cut.told ∙ e.told;
      later = let a = e.later in let b = cut.cause.later in omega arith;
      steady = cut.cause.quiet refl ∙ e.steady;
    }

pub returns-in-Err-cut_after : goal.returns-in-Err-cut_after
returns-in-Err-cut_after g c =
    let m = g.D.Store in
    let old = c.args.store.now in
    let mid = c.read_again.new.store in
    let new = c.cut_after.new.store in
    let n = c.args.name.now in
    let bytes = bytes_in (m.file old n) in
    let e = c.in-Ok.ensures in
    let b = c.in-Ok-pending_beyond.ensures in
    let cut = c.in-Err-cut_after.ensures in
    let error = c.in-Err-cut_after.error in
    record {
      reread = λ tells. tt;
      next = tt;
      pending = tt;
      refused = read_refused c.args.halt.now (m.tells old) bytes c.args.logged.now.list (m.faults old) (m.faults new) c.from.result
          (store_refused (λ line. m.tells old ≡ true → bad_line bytes ≡ Some line) (m.faults mid) (m.faults old) (m.faults new) error c.from.result e.later c.from.ensures
          (not_missed (m.tells mid) (m.file mid) (m.known mid) n error (e.known n c.requires) cut.missing) cut.cause);
      list = b.list;
      queue = b.queue;
      mark = b.mark;
      same = λ tells. (cut.refused (e.told ∙ tells) n).0 ∙ (e.keeps tells).same;
      no_less = λ tells. (let a = (cut.refused (e.told ∙ tells) n).1 in let k = (e.keeps tells).no_less in omega arith);
      any_moment = λ tells. changed_behind m.file m.solid m.moment m.left_since n old mid new (e.keeps tells) (cut.any_moment (e.told ∙ tells));
      others = λ tells. others_both m.file m.solid m.moment m.left_since n old mid new (e.others tells) (record { same = cut.others (e.told ∙ tells); quiet = cut.quiet (e.told ∙ tells) });
      known = λ other k. cut.known other (e.known other k);
      told = cut.told ∙ e.told;
      later = let a = e.later in let b = cut.cause.later in omega arith;
      steady = tt;
    }
