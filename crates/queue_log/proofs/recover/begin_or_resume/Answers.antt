use Rattle.std.proofs.Common.{◌∙◌, IfOk, Err, OnErr, ap, subst, refl, arith}
use Rattle.pool_outer.specs.Files.{bytes_in}
use Rattle.queue_log.specs.Logs.{IsOpened, IsUncut}
use Rattle.pool_store.proofs.Moments.{keeps_same}
use Rattle.queue_log.proofs.Opened.{recover_refused}
use Rattle.queue_log.proofs.Others.{others_both, others_same, there_not_missed}
use Rattle.queue_log.proofs.Recovery.{behind_kept, kept_opening, uncut_same}
use Rattle.queue_log.proofs.Results.{at_ok, if_err, if_ok, on_err, on_ok}
use Rattle.queue_log.proofs.recover.begin_or_resume.Goals as goal

pub returns-in-Ok-eq0 : goal.returns-in-Ok-eq0
returns-in-Ok-eq0 g c =
    let m = g.D.Store in
    let old = c.args.store.now in
    let mid = c.size.new.self in
    let new = c.begin.new.store in
    let n = c.args.name.now in
    let reading = c.args.reading in
    let s = c.size.ensures in
    let e = c.begin.ensures in
    let r = c.begin.result in
    record {
      named = e.named;
      opened = λ tells. subst (λ f. IfOk r (IsOpened (bytes_in f) (bytes_in (m.file new n)) (m.solid new n) reading)) (s.same tells n).0 (e.opened (s.told ∙ tells));
      refused = if_err r e.refused (λ error h. recover_refused (m.tells old) (m.tells mid) (m.file old n) (m.file mid n) (m.faults old) (m.faults mid) (m.faults new) error s.told (λ tells. (s.same tells n).0) s.cause.later h);
      uncut = λ tells. subst (λ f. OnErr r (IsUncut (bytes_in f) (bytes_in (m.file new n)) reading)) (s.same tells n).0 (e.uncut (s.told ∙ tells));
      any_moment = λ tells. behind_kept m.file m.solid m.moment m.left_since n reading old mid new
          (keeps_same m.file m.solid m.moment m.left_since n old mid (λ image left. g.met.D.Store.only_now old n image tells left) (s.same tells) (s.time tells)) (e.any_moment (s.told ∙ tells));
      others = λ tells. others_both m.file m.solid m.moment m.left_since n old mid new (others_same m.file m.solid m.moment m.left_since n old mid (λ other image left. g.met.D.Store.only_now old other image tells left) (s.same tells) (s.time tells)) (e.others (s.told ∙ tells));
      known = e.known;
      stays = λ other k. e.stays other (s.known.stays other k);
      told = e.told ∙ s.told;
      later = let a = e.later in let b = s.cause.later in omega arith;
      steady = λ there. on_ok r e.steady (λ same. same ∙ c.in-Ok-eq0.ensures.cause.quiet refl);
    }

pub returns-in-Ok : goal.returns-in-Ok
returns-in-Ok g c =
    let m = g.D.Store in
    let old = c.args.store.now in
    let mid = c.size.new.self in
    let new = c.resume.new.store in
    let n = c.args.name.now in
    let reading = c.args.reading in
    let s = c.size.ensures in
    let e = c.resume.ensures in
    let r = c.resume.result in
    record {
      named = e.named;
      opened = λ tells. subst (λ f. IfOk r (IsOpened (bytes_in f) (bytes_in (m.file new n)) (m.solid new n) reading)) (s.same tells n).0 (if_ok r (e.opened (s.told ∙ tells)) (λ opening h. h reading));
      refused = if_err r e.refused (λ error h. recover_refused (m.tells old) (m.tells mid) (m.file old n) (m.file mid n) (m.faults old) (m.faults mid) (m.faults new) error s.told (λ tells. (s.same tells n).0) s.cause.later h);
      uncut = λ tells. on_err r (e.uncut (s.told ∙ tells)) (λ same. uncut_same (bytes_in (m.file old n)) (bytes_in (m.file new n)) reading (same ∙ ap bytes_in (s.same tells n).0));
      any_moment = λ tells. behind_kept m.file m.solid m.moment m.left_since n reading old mid new
          (keeps_same m.file m.solid m.moment m.left_since n old mid (λ image left. g.met.D.Store.only_now old n image tells left) (s.same tells) (s.time tells)) (e.any_moment (s.told ∙ tells) reading);
      others = λ tells. others_both m.file m.solid m.moment m.left_since n old mid new (others_same m.file m.solid m.moment m.left_since n old mid (λ other image left. g.met.D.Store.only_now old other image tells left) (s.same tells) (s.time tells)) (e.others (s.told ∙ tells));
      known = at_ok r (e.known n c.in-Ok.ensures.known.learnt);
      stays = λ other k. e.known other (s.known.stays other k);
      told = e.told ∙ s.told;
      later = let a = e.later in let b = s.cause.later in omega arith;
      steady = λ there. on_ok r e.steady (λ same. same ∙ c.in-Ok.ensures.cause.quiet refl);
    }

pub returns-in-Err-Missing : goal.returns-in-Err-Missing
returns-in-Err-Missing g c =
    let m = g.D.Store in
    let old = c.args.store.now in
    let mid = c.size.new.self in
    let new = c.begin-in-Err-Missing.new.store in
    let n = c.args.name.now in
    let reading = c.args.reading in
    let s = c.size.ensures in
    let e = c.begin-in-Err-Missing.ensures in
    let r = c.begin-in-Err-Missing.result in
    record {
      named = e.named;
      opened = λ tells. subst (λ f. IfOk r (IsOpened (bytes_in f) (bytes_in (m.file new n)) (m.solid new n) reading)) (s.same tells n).0 (e.opened (s.told ∙ tells));
      refused = if_err r e.refused (λ error h. recover_refused (m.tells old) (m.tells mid) (m.file old n) (m.file mid n) (m.faults old) (m.faults mid) (m.faults new) error s.told (λ tells. (s.same tells n).0) s.cause.later h);
      uncut = λ tells. subst (λ f. OnErr r (IsUncut (bytes_in f) (bytes_in (m.file new n)) reading)) (s.same tells n).0 (e.uncut (s.told ∙ tells));
      any_moment = λ tells. behind_kept m.file m.solid m.moment m.left_since n reading old mid new
          (keeps_same m.file m.solid m.moment m.left_since n old mid (λ image left. g.met.D.Store.only_now old n image tells left) (s.same tells) (s.time tells)) (e.any_moment (s.told ∙ tells));
      others = λ tells. others_both m.file m.solid m.moment m.left_since n old mid new (others_same m.file m.solid m.moment m.left_since n old mid (λ other image left. g.met.D.Store.only_now old other image tells left) (s.same tells) (s.time tells)) (e.others (s.told ∙ tells));
      known = e.known;
      stays = λ other k. e.stays other (s.known.stays other k);
      told = e.told ∙ s.told;
      later = let a = e.later in let b = s.cause.later in omega arith;
      steady = λ there. absurd (there_not_missed (m.tells old) (m.file old) (m.known old) n _ c.in-Err-Missing.field-0-is c.in-Err-Missing.ensures.missing there);
    }

pub returns-in-Err-Failed : goal.returns-in-Err-Failed
returns-in-Err-Failed g c =
    let m = g.D.Store in
    let old = c.args.store.now in
    let new = c.size.new.self in
    let n = c.args.name.now in
    let s = c.size.ensures in
    record {
      named = tt;
      opened = λ tells. tt;
      refused = c.in-Err-Failed.ensures.cause.rose (ap Err c.in-Err-Failed.field-0-is);
      uncut = λ tells. uncut_same (bytes_in (m.file old n)) (bytes_in (m.file new n)) c.args.reading (ap bytes_in (s.same tells n).0);
      any_moment = λ tells. kept_opening m.file m.solid m.moment m.left_since n c.args.reading old new
          (keeps_same m.file m.solid m.moment m.left_since n old new (λ image left. g.met.D.Store.only_now old n image tells left) (s.same tells) (s.time tells));
      others = λ tells. others_same m.file m.solid m.moment m.left_since n old new (λ other image left. g.met.D.Store.only_now old other image tells left) (s.same tells) (s.time tells);
      known = tt;
      stays = λ other k. s.known.stays other k;
      told = s.told;
      later = s.cause.later;
      steady = λ there. tt;
    }

pub returns-in-Err-Memory : goal.returns-in-Err-Memory
returns-in-Err-Memory g c =
    let m = g.D.Store in
    let old = c.args.store.now in
    let new = c.size.new.self in
    let n = c.args.name.now in
    let s = c.size.ensures in
    record {
      named = tt;
      opened = λ tells. tt;
      refused = tt;
      uncut = λ tells. uncut_same (bytes_in (m.file old n)) (bytes_in (m.file new n)) c.args.reading (ap bytes_in (s.same tells n).0);
      any_moment = λ tells. kept_opening m.file m.solid m.moment m.left_since n c.args.reading old new
          (keeps_same m.file m.solid m.moment m.left_since n old new (λ image left. g.met.D.Store.only_now old n image tells left) (s.same tells) (s.time tells));
      others = λ tells. others_same m.file m.solid m.moment m.left_since n old new (λ other image left. g.met.D.Store.only_now old other image tells left) (s.same tells) (s.time tells);
      known = tt;
      stays = λ other k. s.known.stays other k;
      told = s.told;
      later = s.cause.later;
      steady = λ there. tt;
    }
