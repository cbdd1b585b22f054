use Rattle.std.proofs.Common.{◌≡◌, ◌∙◌, true, Some, ap, sym, subst, arith, refl}
use Rattle.pool_outer.specs.Files.{bytes_in}
use Rattle.queue_record.specs.ReadSoFar.{ReadSoFar, start, fed}
use Rattle.pool_store.proofs.Moments.{keeps_both, keeps_sync}
use Rattle.queue_log.proofs.Others.{others_both, others_call}
use Rattle.queue_log.proofs.Pieces.{size_of}
use Rattle.queue_log.proofs.Refusals.{not_missed, refusal_on, store_refused}
use Rattle.queue_log.specs.Stands.{bad_line}
use Rattle.queue_log.proofs.read.read_log.Goals as goal

pub returns-in-Err : goal.returns-in-Err
returns-in-Err g c =
    let m = g.D.Store in
    let old = c.args.store.now in
    let new = c.sync.new.self in
    let name = c.args.name.now in
    let e = c.sync.ensures in
    record {
      logged = tt;
      read = λ tells. tt;
      refused = store_refused (λ line. m.tells old ≡ true → bad_line (bytes_in (m.file old name)) ≡ Some line) (m.faults old) (m.faults old) (m.faults new) c.in-Err.error c.from.result (omega arith) c.from.ensures
          (not_missed (m.tells old) (m.file old) (m.known old) name c.in-Err.error c.requires.known c.in-Err.ensures.missing) c.in-Err.ensures.cause;
      keeps = λ tells. keeps_sync m.file m.solid m.moment m.left_since name old new c.sync.result (λ image left. g.met.D.Store.only_now old name image tells left) (e.syncs tells) (e.time tells);
      others = λ tells. others_call m.file m.solid m.moment m.left_since name old new (λ other image left. g.met.D.Store.only_now old other image tells left) (e.syncs tells).others (e.time tells);
      solid = λ tells. tt;
      small = λ tells. tt;
      known = λ other k. e.known.stays other k;
      told = e.told;
      later = e.cause.later;
      steady = tt;
    }

pub returns-in-Err-read_pieces : goal.returns-in-Err-read_pieces
returns-in-Err-read_pieces g c =
    let m = g.D.Store in
    let old = c.args.store.now in
    let mid = c.sync.new.self in
    let new = c.read_pieces.new.store in
    let name = c.args.name.now in
    let s = c.sync.ensures in
    let e = c.read_pieces.ensures in
    record {
      logged = tt;
      read = λ tells. tt;
      refused = refusal_on
          (λ line. m.tells mid ≡ true → bad_line (bytes_in (m.file mid name)) ≡ Some line)
          (λ line. m.tells old ≡ true → bad_line (bytes_in (m.file old name)) ≡ Some line)
          (m.faults mid) (m.faults old) (m.faults new) c.in-Err-read_pieces.error
          (λ line bad tells. subst (λ f. bad_line (bytes_in f) ≡ Some line) (s.syncs tells).same (bad (s.told ∙ tells)))
          s.cause.later c.in-Err-read_pieces.ensures.refused;
      keeps = λ tells. keeps_both m.file m.solid m.moment m.left_since name old mid new
          (keeps_sync m.file m.solid m.moment m.left_since name old mid c.sync.result (λ image left. g.met.D.Store.only_now old name image tells left) (s.syncs tells) (s.time tells)) (e.keeps (s.told ∙ tells));
      others = λ tells. others_both m.file m.solid m.moment m.left_since name old mid new (others_call m.file m.solid m.moment m.left_since name old mid (λ other image left. g.met.D.Store.only_now old other image tells left) (s.syncs tells).others (s.time tells)) (e.others (s.told ∙ tells));
      solid = λ tells. tt;
      small = λ tells. tt;
      known = λ other k. e.known other (s.known.stays other k);
      told = e.told ∙ s.told;
      later = let a = e.later in let b = s.cause.later in omega arith;
      steady = tt;
    }

pub returns-in-Ok : goal.returns-in-Ok
returns-in-Ok g c =
    let m = g.D.Store in
    let old = c.args.store.now in
    let mid = c.sync.new.self in
    let new = c.read_pieces.new.store in
    let name = c.args.name.now in
    let bytes = bytes_in (m.file old name) in
    let reader = c.read_pieces.new.reader in
    let s = c.in_default.ensures in
    let e = c.in-Ok.ensures in
    let ended = c.end.ensures in
    let size = λ (tells : m.tells old ≡ true). size_of (m.file old name) c.args.size (c.requires.size tells) in
    record {
      logged = rw (ended.list, ended.queue) (record { builds = e.sound.builds; writable = e.sound.writable });
      read = λ tells.
          let is : reader ≡ fed start bytes = e.read (s.told ∙ tells) ∙ ap (λ f. fed start (bytes_in f)) (s.syncs tells).same in
          record {
            good = sym (ap (λ (r : ReadSoFar). r.refusal) is) ∙ e.good;
            listed = ended.list ∙ ap (λ (r : ReadSoFar). r.list) is;
            queued = ended.queue ∙ ap (λ (r : ReadSoFar). r.queue) is;
            wholly = ended.whole ∙ ap (λ (r : ReadSoFar). r.whole) is;
            sequenced = ended.sequence ∙ ap (λ (r : ReadSoFar). r.sequence) is;
          };
      refused = tt;
      keeps = λ tells. keeps_both m.file m.solid m.moment m.left_since name old mid new
          (keeps_sync m.file m.solid m.moment m.left_since name old mid c.sync.result (λ image left. g.met.D.Store.only_now old name image tells left) (c.sync.ensures.syncs tells) (s.time tells)) (e.keeps (s.told ∙ tells));
      others = λ tells. others_both m.file m.solid m.moment m.left_since name old mid new (others_call m.file m.solid m.moment m.left_since name old mid (λ other image left. g.met.D.Store.only_now old other image tells left) (s.syncs tells).others (s.time tells)) (e.others (s.told ∙ tells));
      solid = λ tells.
          let long = size tells in
          let durable = (s.syncs tells).durable in
          let no_less = (e.keeps (s.told ∙ tells)).no_less in
          omega arith;
      small = λ tells. (let long = size tells in omega (arith, long, c.ranges.size.fits));
      known = λ other k. e.known other (s.known.stays other k);
      told = e.told ∙ s.told;
      later = let a = e.later in let b = s.cause.later in omega arith;
      steady = e.steady ∙ s.cause.quiet refl;
    }
