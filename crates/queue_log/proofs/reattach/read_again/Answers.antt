use Rattle.std.proofs.Common.{◌≡◌, ◌∙◌, ◌<◌, ◌^◌, true, Option, List, ℕ, Some, length, ap, subst, arith, refl}
use Rattle.std.specs.Option.{option_map}
use Rattle.pool_outer.specs.Files.{bytes_in}
use Rattle.queue_log.specs.Files.{IsReadOf}
use Rattle.pool_store.proofs.Moments.{keeps_both, keeps_same}
use Rattle.queue_log.proofs.Others.{others_both, others_same}
use Rattle.queue_log.proofs.Refusals.{not_missed, refusal_on, store_refused}
use Rattle.queue_log.specs.Stands.{bad_line}
use Rattle.queue_log.proofs.reattach.read_again.Goals as goal

pub returns-in-Err : goal.returns-in-Err
returns-in-Err g c =
    let m = g.D.Store in
    let old = c.args.store.now in
    let new = c.size.new.self in
    let name = c.args.name.now in
    let e = c.size.ensures in
    record {
      logged = tt;
      read = λ tells. tt;
      size = λ tells. tt;
      solid = λ tells. tt;
      small = λ tells. tt;
      refused = store_refused (λ line. m.tells old ≡ true → bad_line (bytes_in (m.file old name)) ≡ Some line) (m.faults old) (m.faults old) (m.faults new) c.in-Err.error c.from.result (omega arith) c.from.ensures
          (not_missed (m.tells old) (m.file old) (m.known old) name c.in-Err.error c.requires c.in-Err.ensures.missing) c.in-Err.ensures.cause;
      keeps = λ tells. keeps_same m.file m.solid m.moment m.left_since name old new (λ image left. g.met.D.Store.only_now old name image tells left) (e.same tells) (e.time tells);
      others = λ tells. others_same m.file m.solid m.moment m.left_since name old new (λ other image left. g.met.D.Store.only_now old other image tells left) (e.same tells) (e.time tells);
      known = λ other k. e.known.stays other k;
      told = e.told;
      later = e.cause.later;
      steady = tt;
    }

pub returns-in-Err-read_log : goal.returns-in-Err-read_log
returns-in-Err-read_log g c =
    let m = g.D.Store in
    let old = c.args.store.now in
    let mid = c.size.new.self in
    let new = c.read_log.new.store in
    let name = c.args.name.now in
    let s = c.size.ensures in
    let e = c.read_log.ensures in
    record {
      logged = tt;
      read = λ tells. tt;
      size = λ tells. tt;
      solid = λ tells. tt;
      small = λ tells. tt;
      refused = refusal_on
          (λ line. m.tells mid ≡ true → bad_line (bytes_in (m.file mid name)) ≡ Some line)
          (λ line. m.tells old ≡ true → bad_line (bytes_in (m.file old name)) ≡ Some line)
          (m.faults mid) (m.faults old) (m.faults new) c.in-Err-read_log.error
          (λ line bad tells. subst (λ f. bad_line (bytes_in f) ≡ Some line) (s.same tells name).0 (bad (s.told ∙ tells)))
          s.cause.later c.in-Err-read_log.ensures.refused;
      keeps = λ tells. keeps_both m.file m.solid m.moment m.left_since name old mid new
          (keeps_same m.file m.solid m.moment m.left_since name old mid (λ image left. g.met.D.Store.only_now old name image tells left) (s.same tells) (s.time tells)) (e.keeps (s.told ∙ tells));
      others = λ tells. others_both m.file m.solid m.moment m.left_since name old mid new (others_same m.file m.solid m.moment m.left_since name old mid (λ other image left. g.met.D.Store.only_now old other image tells left) (s.same tells) (s.time tells)) (e.others (s.told ∙ tells));
      known = λ other k. e.known other (s.known.stays other k);
      told = e.told ∙ s.told;
      later = let a = e.later in let b = s.cause.later in omega arith;
      steady = tt;
    }

pub returns-in-Ok-read_log : goal.returns-in-Ok-read_log
returns-in-Ok-read_log g c =
    let m = g.D.Store in
    let old = c.args.store.now in
    let mid = c.size.new.self in
    let new = c.read_log.new.store in
    let name = c.args.name.now in
    let s = c.in-Ok.ensures in
    let e = c.in-Ok-read_log.ensures in
    record {
      logged = e.logged;
      read = λ tells. subst (λ f. IsReadOf (bytes_in f) c.in-Ok-read_log.read) (s.same tells name).0 (e.read (s.told ∙ tells));
      size = λ tells. ap (λ (f : Option (List ℕ)). option_map length f) ((e.keeps (s.told ∙ tells)).same ∙ (s.same tells name).0) ∙ s.size tells;
      solid = λ tells. e.solid (s.told ∙ tells);
      small = λ tells. subst (λ f. length (bytes_in f) < 2 ^ 64) (s.same tells name).0 (e.small (s.told ∙ tells));
      refused = tt;
      keeps = λ tells. keeps_both m.file m.solid m.moment m.left_since name old mid new
          (keeps_same m.file m.solid m.moment m.left_since name old mid (λ image left. g.met.D.Store.only_now old name image tells left) (s.same tells) (s.time tells)) (e.keeps (s.told ∙ tells));
      others = λ tells. others_both m.file m.solid m.moment m.left_since name old mid new (others_same m.file m.solid m.moment m.left_since name old mid (λ other image left. g.met.D.Store.only_now old other image tells left) (s.same tells) (s.time tells)) (e.others (s.told ∙ tells));
      known = λ other k. e.known other (s.known.stays other k);
      told = e.told ∙ s.told;
      later = let a = e.later in let b = s.cause.later in omega arith;
      steady = e.steady ∙ s.cause.quiet refl;
    }
