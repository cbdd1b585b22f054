use Rattle.std.proofs.Common.{◌≡◌, ◌∙◌, ◌<◌, ◌^◌, inl, inr, true, Some, length, take, sym, ap, arith, refl}
use Rattle.pool_outer.specs.Files.{bytes_in}
use Rattle.pool_store.proofs.Moments.{leaves_fewer}
use Rattle.queue_log.proofs.Opened.{image_after, opened_by, read_refused, too_many, whole_within}
use Rattle.queue_log.proofs.Others.{others_both}
use Rattle.queue_log.proofs.Pieces.{cut_bytes, size_of}
use Rattle.queue_log.proofs.Recovery.{behind_cut, kept_opening, stands_as}
use Rattle.queue_log.proofs.Refusals.{not_missed, store_refused}
use Rattle.queue_log.specs.Stands.{bad_line}
use Rattle.queue_log.proofs.recover.resume.Goals as goal

pub cut_after-requires-clause-within : goal.cut_after-requires-clause-within
cut_after-requires-clause-within g c tells =
    let m = g.D.Store in
    let old = c.args.store.now in
    let n = c.args.name.now in
    let tells' : m.tells old ≡ true = sym c.read_log.ensures.told ∙ tells in
    let bytes = bytes_in (m.file old n) in
    let size : c.args.size ≡ length bytes = size_of (m.file old n) c.args.size (c.requires.size tells') in
    let small : length bytes < 2 ^ 64 = omega (arith, size, c.ranges.size.fits) in
    let within = whole_within bytes small c.in-Ok.read (c.in-Ok.ensures.read tells') in
    omega (arith, within, size)

pub returns-in-Err : goal.returns-in-Err
returns-in-Err g c =
    let m = g.D.Store in
    let old = c.args.store.now in
    let new = c.read_log.new.store in
    let n = c.args.name.now in
    let e = c.read_log.ensures in
    record {
      named = tt;
      opened = λ tells. tt;
      refused = read_refused (m.tells old) (bytes_in (m.file old n)) (m.faults old) (m.faults new) c.in-Err.error c.in-Err.ensures.refused;
      uncut = λ tells. ap bytes_in (e.keeps tells).same;
      any_moment = λ tells reading. kept_opening m.file m.solid m.moment m.left_since n reading old new (e.keeps tells);
      others = e.others;
      known = e.known;
      told = e.told;
      later = e.later;
      steady = tt;
    }

pub returns-in-Err-opening_of : goal.returns-in-Err-opening_of
returns-in-Err-opening_of g c =
    let m = g.D.Store in
    let old = c.args.store.now in
    let new = c.read_log.new.store in
    let n = c.args.name.now in
    let e = c.read_log.ensures in
    record {
      named = tt;
      opened = λ tells. tt;
      refused = too_many (m.tells old) (bytes_in (m.file old n)) c.in-Ok.read (m.faults old) (m.faults new) c.in-Err-opening_of.error c.in-Ok.ensures.read c.in-Err-opening_of.ensures.refused;
      uncut = λ tells. ap bytes_in (e.keeps tells).same;
      any_moment = λ tells reading. kept_opening m.file m.solid m.moment m.left_since n reading old new (e.keeps tells);
      others = e.others;
      known = e.known;
      told = e.told;
      later = e.later;
      steady = tt;
    }

pub returns-in-Ok-cut_after : goal.returns-in-Ok-cut_after
returns-in-Ok-cut_after g c =
    let m = g.D.Store in
    let old = c.args.store.now in
    let mid = c.read_log.new.store in
    let new = c.cut_after.new.store in
    let n = c.args.name.now in
    let log = c.in-Ok.read in
    let bytes = bytes_in (m.file old n) in
    let e = c.in-Ok.ensures in
    let cut = c.in-Ok-cut_after.ensures in
    let o = c.in-Ok-opening_of.ensures.opening in
    let size = λ (tells : m.tells old ≡ true). size_of (m.file old n) c.args.size (c.requires.size tells) in
    let small = λ (tells : m.tells old ≡ true). (let long = size tells in let fits : length bytes < 2 ^ 64 = omega (arith, long, c.ranges.size.fits) in fits) in
    let is = λ (tells : m.tells old ≡ true). cut_bytes log.whole (m.file mid n) (m.file new n) (cut.cut (e.told ∙ tells)) ∙ ap (λ f. take log.whole (bytes_in f)) (e.keeps tells).same in
    record {
      named = o.0;
      opened = λ tells reading.
          let some : 0 < length bytes = (let long = size tells in omega (arith, long, c.requires.some)) in
          opened_by bytes (small tells) log (e.read tells) (bytes_in (m.file new n)) (m.solid new n) reading c.in-Ok-opening_of.opening some (is tells) (cut.solid (e.told ∙ tells)) o.2 o.3 o.1;
      refused = tt;
      uncut = λ tells. tt;
      any_moment = λ tells reading. behind_cut m.file m.solid m.moment m.left_since n reading old mid new (e.keeps tells) (cut.any_moment (e.told ∙ tells))
          (λ image left. inr (inl (stands_as bytes image (e.read tells).good (image_after bytes (small tells) log (e.read tells) (bytes_in (m.file new n)) image (m.solid new n) (is tells) (cut.solid (e.told ∙ tells)) left))));
      others = λ tells. others_both m.file m.solid m.moment m.left_since n old mid new (e.others tells) (record { same = cut.others (e.told ∙ tells); quiet = cut.quiet (e.told ∙ tells) });
      known = λ other k. cut.known other (e.known other k);
      told = cut.told ∙ e.told;
      later = let a = e.later in let b = cut.cause.later in omega arith;
      steady = cut.cause.quiet refl ∙ e.steady;
    }

pub returns-in-Err-cut_after : goal.returns-in-Err-cut_after
returns-in-Err-cut_after g c =
    let m = g.D.Store in
    let old = c.args.store.now in
    let mid = c.read_log.new.store in
    let new = c.cut_after.new.store in
    let n = c.args.name.now in
    let bytes = bytes_in (m.file old n) in
    let e = c.in-Ok.ensures in
    let cut = c.in-Err-cut_after.ensures in
    let error = c.in-Err-cut_after.error in
    record {
      named = tt;
      opened = λ tells. tt;
      refused = read_refused (m.tells old) bytes (m.faults old) (m.faults new) c.from.result
          (store_refused (λ line. m.tells old ≡ true → bad_line bytes ≡ Some line) (m.faults mid) (m.faults old) (m.faults new) error c.from.result e.later c.from.ensures
          (not_missed (m.tells mid) (m.file mid) (m.known mid) n error (e.known n c.requires.known) cut.missing) cut.cause);
      uncut = λ tells. ap bytes_in ((cut.refused (e.told ∙ tells) n).0 ∙ (e.keeps tells).same);
      any_moment = λ tells reading.
          let keeps = e.keeps tells in
          let same = cut.refused (e.told ∙ tells) n in
          behind_cut m.file m.solid m.moment m.left_since n reading old mid new keeps (cut.any_moment (e.told ∙ tells))
          (λ image left. inl (leaves_fewer (m.file old) (m.file new) (m.solid old) (m.solid new) n image (same.0 ∙ keeps.same) (let a = same.1 in let b = keeps.no_less in omega arith) left));
      others = λ tells. others_both m.file m.solid m.moment m.left_since n old mid new (e.others tells) (record { same = cut.others (e.told ∙ tells); quiet = cut.quiet (e.told ∙ tells) });
      known = λ other k. cut.known other (e.known other k);
      told = cut.told ∙ e.told;
      later = let a = e.later in let b = cut.cause.later in omega arith;
      steady = tt;
    }

pub opening_of-requires : goal.opening_of-requires
opening_of-requires g c = c.in-Ok.ensures.logged
