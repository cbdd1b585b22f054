use Rattle.std.proofs.Common.{◌≡◌, ◌∙◌, true, Some, Err, refl, ap, arith}
use Rattle.pool_outer.specs.Files.{bytes_in}
use Rattle.pool_store.proofs.Moments.{keeps_none}
use Rattle.queue_log.specs.NewLog.{new_log_text}
use Rattle.queue_log.specs.Stands.{bad_line}
use Rattle.queue_log.proofs.Opened.{begun_by, nothing_before, read_refused}
use Rattle.queue_log.proofs.Others.{others_none}
use Rattle.queue_log.proofs.Recovery.{begun_opening, kept_opening, uncut_part, uncut_same}
use Rattle.queue_log.proofs.Refusals.{store_refused}
use Rattle.queue_log.proofs.recover.begin.Goals as goal

pub returns-in-Ok-append_solid : goal.returns-in-Ok-append_solid
returns-in-Ok-append_solid g c =
    let m = g.D.Store in
    let old = c.args.store.now in
    let new = c.append_solid.new.store in
    let n = c.args.name.now in
    let reading = c.args.reading in
    let e = c.in-Ok.ensures in
    let b = e.begun in
    let text : c.as_bytes.result.now ≡ new_log_text reading = c.as_bytes.ensures.value ∙ c.as_str.ensures.value ∙ e.text in
    record {
      named = e.named;
      opened = λ tells.
          let is : bytes_in (m.file new n) ≡ new_log_text reading =
          ap bytes_in (c.in-Ok-append_solid.ensures.added tells) ∙ nothing_before (bytes_in (m.file old n)) c.as_bytes.result.now (c.requires tells) ∙ text in
          begun_by (bytes_in (m.file old n)) (bytes_in (m.file new n)) (m.solid new n) reading c.in-Ok.opening.logged.queue c.in-Ok.opening (c.requires tells) is
          (let s = c.in-Ok-append_solid.ensures.solid tells in omega arith) b.settled b.stamped b.listed refl b.sequenced;
      refused = tt;
      uncut = λ tells. tt;
      any_moment = λ tells. begun_opening m.file m.solid m.moment m.left_since n reading old new c.as_bytes.result.now c.in-Ok.opening.logged.queue
          (c.requires tells) text b.settled (c.append_solid.ensures.any_moment tells);
      others = λ tells. record { same = c.append_solid.ensures.others tells; quiet = c.append_solid.ensures.quiet tells };
      known = c.in-Ok-append_solid.ensures.known.learnt;
      stays = λ other k. c.append_solid.ensures.known.stays other k;
      told = c.append_solid.ensures.told;
      later = c.append_solid.ensures.cause.later;
      steady = c.in-Ok-append_solid.ensures.cause.quiet refl;
    }

pub returns-in_default : goal.returns-in_default
returns-in_default g c =
    let m = g.D.Store in
    let old = c.args.store.now in
    let n = c.args.name.now in
    let bytes = bytes_in (m.file old n) in
    record {
      named = tt;
      opened = λ tells. tt;
      refused = tt;
      uncut = λ tells. uncut_same bytes bytes c.args.reading refl;
      any_moment = λ tells. kept_opening m.file m.solid m.moment m.left_since n c.args.reading old old
          (keeps_none m.file m.solid m.moment m.left_since n old (λ image left. g.met.D.Store.only_now old n image tells left));
      others = λ tells. others_none m.file m.solid m.moment m.left_since n old (λ other image left. g.met.D.Store.only_now old other image tells left);
      known = tt;
      stays = λ other k. k;
      told = refl;
      later = omega arith;
      steady = tt;
    }

pub returns : goal.returns
returns g c =
    let m = g.D.Store in
    let old = c.args.store.now in
    let new = c.append_solid.new.store in
    let n = c.args.name.now in
    let reading = c.args.reading in
    let bytes = bytes_in (m.file old n) in
    let e = c.in-Ok.ensures in
    let text : c.as_bytes.result.now ≡ new_log_text reading = c.as_bytes.ensures.value ∙ c.as_str.ensures.value ∙ e.text in
    record {
      named = tt;
      opened = λ tells. tt;
      refused = read_refused (m.tells old) bytes (m.faults old) (m.faults new) c.from.result
          (store_refused (λ line. m.tells old ≡ true → bad_line bytes ≡ Some line) (m.faults old) (m.faults old) (m.faults new) c.in-Err.error c.from.result (omega arith) c.from.ensures
          (λ missing. c.append_solid.ensures.present (c.in-Err.is ∙ ap Err missing)) c.in-Err.ensures.cause);
      uncut = λ tells.
          let part = c.append_solid.ensures.part tells in
          uncut_part bytes (bytes_in (m.file new n)) c.as_bytes.result.now part.0 reading (c.requires tells) text part.1;
      any_moment = λ tells. begun_opening m.file m.solid m.moment m.left_since n reading old new c.as_bytes.result.now c.in-Ok.opening.logged.queue
          (c.requires tells) text e.begun.settled (c.append_solid.ensures.any_moment tells);
      others = λ tells. record { same = c.append_solid.ensures.others tells; quiet = c.append_solid.ensures.quiet tells };
      known = tt;
      stays = λ other k. c.append_solid.ensures.known.stays other k;
      told = c.append_solid.ensures.told;
      later = c.append_solid.ensures.cause.later;
      steady = tt;
    }
