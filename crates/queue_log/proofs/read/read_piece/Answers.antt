use Rattle.std.proofs.Common.{◌≡◌, true, take, arith, refl}
use Rattle.pool_outer.specs.Files.{bytes_in}
use Rattle.pool_store.proofs.Moments.{keeps_same}
use Rattle.queue_log.proofs.Others.{others_same}
use Rattle.queue_log.proofs.Refusals.{feed_refused, not_missed, store_refused}
use Rattle.queue_log.specs.Files.{MeetsBadLine}
use Rattle.queue_log.proofs.read.read_piece.Goals as goal

pub returns-in-Err : goal.returns-in-Err
returns-in-Err g c =
    let m = g.D.Store in
    let old = c.args.store.now in
    let new = c.read_at.new.self in
    let name = c.args.name.now in
    let bytes = bytes_in (m.file old name) in
    let e = c.read_at.ensures in
    record {
      good = tt;
      read = tt;
      piece = λ tells. tt;
      fits = λ tells. tt;
      goes_on = λ tells. tt;
      refused = store_refused (λ line. m.tells old ≡ true → MeetsBadLine c.args.reader.now bytes c.args.place line) (m.faults old) (m.faults old) (m.faults new) c.in-Err.error c.from.result (omega arith) c.from.ensures
          (not_missed (m.tells old) (m.file old) (m.known old) name c.in-Err.error c.requires.known c.in-Err.ensures.missing) c.in-Err.ensures.cause;
      keeps = λ tells. keeps_same m.file m.solid m.moment m.left_since name old new (λ image left. g.met.D.Store.only_now old name image tells left) (e.same tells) (e.time tells);
      others = λ tells. others_same m.file m.solid m.moment m.left_since name old new (λ other image left. g.met.D.Store.only_now old other image tells left) (e.same tells) (e.time tells);
      known = λ other k. e.known.stays other k;
      told = e.told;
      later = e.cause.later;
      steady = tt;
    }

pub returns-in-Ok-feed : goal.returns-in-Ok-feed
returns-in-Ok-feed g c =
    let m = g.D.Store in
    let old = c.args.store.now in
    let new = c.read_at.new.self in
    let name = c.args.name.now in
    let e = c.in-Ok.ensures in
    let fed_on = c.in-Ok-feed.ensures.fed c.requires.good in
    record {
      good = fed_on.1;
      read = fed_on.0;
      piece = λ tells. (e.read tells).front;
      fits = λ tells. (e.read tells).fits;
      goes_on = λ tells. (e.read tells).goes_on c.requires.room;
      refused = tt;
      keeps = λ tells. keeps_same m.file m.solid m.moment m.left_since name old new (λ image left. g.met.D.Store.only_now old name image tells left) (e.same tells) (e.time tells);
      others = λ tells. others_same m.file m.solid m.moment m.left_since name old new (λ other image left. g.met.D.Store.only_now old other image tells left) (e.same tells) (e.time tells);
      known = λ other k. e.known.stays other k;
      told = e.told;
      later = e.cause.later;
      steady = e.cause.quiet refl;
    }

pub returns-in-Err-feed : goal.returns-in-Err-feed
returns-in-Err-feed g c =
    let m = g.D.Store in
    let old = c.args.store.now in
    let new = c.read_at.new.self in
    let name = c.args.name.now in
    let bytes = bytes_in (m.file old name) in
    let e = c.in-Ok.ensures in
    let n = c.in-Ok.count in
    record {
      good = tt;
      read = tt;
      piece = λ tells. tt;
      fits = λ tells. tt;
      goes_on = λ tells. tt;
      refused = feed_refused c.args.reader.now bytes (take n c.read_at.new.into) n c.args.place (m.faults old) (m.faults new) (m.tells old) c.in-Err-feed.error c.from-in-Err-feed.result c.from-in-Err-feed.ensures
          (c.in-Err-feed.ensures.fed c.requires.good).1 (λ tells. (e.read tells).front);
      keeps = λ tells. keeps_same m.file m.solid m.moment m.left_since name old new (λ image left. g.met.D.Store.only_now old name image tells left) (e.same tells) (e.time tells);
      others = λ tells. others_same m.file m.solid m.moment m.left_since name old new (λ other image left. g.met.D.Store.only_now old other image tells left) (e.same tells) (e.time tells);
      known = λ other k. e.known.stays other k;
      told = e.told;
      later = e.cause.later;
      steady = tt;
    }
