use Rattle.std.proofs.Common.{◌≡◌, ◌∙◌, ℕ, zero, suc, ◌≤◌, ◌<◌, ◌^◌, List, [], ◌∷◌, ◌++◌, true, Some, length, take, drop, refl, sym, ap, subst, arith, rules}
use Rattle.pool_outer.specs.Files.{bytes_in}
use Rattle.pool_store.proofs.Moments.{keeps_both, keeps_none}
use Rattle.queue_log.specs.Files.{IsSound, MeetsBadLine}
use Rattle.queue_log.specs.Stands.{bad_line}
use Rattle.queue_log.proofs.Others.{others_both, others_none}
use Rattle.queue_log.proofs.Pieces.{bad_line_met, reads_all, reads_on, size_of}
use Rattle.queue_log.proofs.Refusals.{refusal_on}
use Rattle.queue_log.proofs.Sound.{sound_fed, sound_start}
use Rattle.queue_log.proofs.read.read_pieces.Goals as goal

pub pieces-init : goal.pieces-init
pieces-init g c =
    let m = g.D.Store in
    let old = c.args.store.now in
    let name = c.args.name.now in
    record {
      sound = subst IsSound (sym c.requires.new) sound_start;
      good = ap (λ r. r.refusal) c.requires.new;
      room = search rules;
      read = λ tells. c.requires.new;
      within = λ tells. omega arith;
      keeps = λ tells. keeps_none m.file m.solid m.moment m.left_since name old (λ image left. g.met.D.Store.only_now old name image tells left);
      others = λ tells. others_none m.file m.solid m.moment m.left_since name old (λ other image left. g.met.D.Store.only_now old other image tells left);
      known = λ other k. k;
      told = refl;
      later = omega arith;
      steady = refl;
    }

pub returns-in_default : goal.returns-in_default
returns-in_default g c =
    let m = g.D.Store in
    let old = c.args.store.now in
    let name = c.args.name.now in
    record {
      sound = tt;
      good = tt;
      read = λ tells. tt;
      refused = tt;
      keeps = λ tells. keeps_none m.file m.solid m.moment m.left_since name old (λ image left. g.met.D.Store.only_now old name image tells left);
      others = λ tells. others_none m.file m.solid m.moment m.left_since name old (λ other image left. g.met.D.Store.only_now old other image tells left);
      known = λ other k. k;
      told = refl;
      later = omega arith;
      steady = tt;
    }

pub returns-in-Err : goal.returns-in-Err
returns-in-Err g c =
    let m = g.D.Store in
    let old = c.args.store.now in
    let name = c.args.name.now in
    let inv = c.pieces.invariant in
    let mid = c.pieces.store in
    let e = c.read_piece.ensures in
    record {
      sound = tt;
      good = tt;
      read = λ tells. tt;
      refused = refusal_on
          (λ line. m.tells mid ≡ true → MeetsBadLine c.pieces.reader (bytes_in (m.file mid name)) c.pieces.place line)
          (λ line. m.tells old ≡ true → bad_line (bytes_in (m.file old name)) ≡ Some line)
          (m.faults mid) (m.faults old) (m.faults c.read_piece.new.store) c.in-Err.error
          (λ line bad tells. bad_line_met c.pieces.reader (bytes_in (m.file old name)) c.pieces.place line (inv.read tells)
          (subst (λ f. MeetsBadLine c.pieces.reader (bytes_in f) c.pieces.place line) (inv.keeps tells).same (bad (inv.told ∙ tells))))
          inv.later c.in-Err.ensures.refused;
      keeps = λ tells. keeps_both m.file m.solid m.moment m.left_since name old mid c.read_piece.new.store (inv.keeps tells) (e.keeps (inv.told ∙ tells));
      others = λ tells. others_both m.file m.solid m.moment m.left_since name old mid c.read_piece.new.store (inv.others tells) (e.others (inv.told ∙ tells));
      known = λ other k. e.known other (inv.known other k);
      told = e.told ∙ inv.told;
      later = let a = e.later in let b = inv.later in omega arith;
      steady = tt;
    }

pub returns-then-count-eq0 : goal.returns-then-count-eq0
returns-then-count-eq0 g c =
    let m = g.D.Store in
    let old = c.args.store.now in
    let name = c.args.name.now in
    let inv = c.pieces.invariant in
    let mid = c.pieces.store in
    let e = c.in-Ok-read_piece.ensures in
    record {
      sound = subst IsSound (sym e.read) (sound_fed c.pieces.reader (take c.in-Ok-read_piece.count c.read_piece.new.piece) inv.sound);
      good = e.good;
      read = λ tells.
          let size = size_of (m.file old name) c.args.size (c.requires.size tells) in
          let same = ap (λ f. length (bytes_in f)) (inv.keeps tells).same in
          let some = e.goes_on (inv.told ∙ tells) (omega arith) in
          absurd (omega arith);
      refused = tt;
      keeps = λ tells. keeps_both m.file m.solid m.moment m.left_since name old mid c.read_piece.new.store (inv.keeps tells) (e.keeps (inv.told ∙ tells));
      others = λ tells. others_both m.file m.solid m.moment m.left_since name old mid c.read_piece.new.store (inv.others tells) (e.others (inv.told ∙ tells));
      known = λ other k. e.known other (inv.known other k);
      told = e.told ∙ inv.told;
      later = let a = e.later in let b = inv.later in omega arith;
      steady = e.steady ∙ inv.steady;
    }

-- a buffer that is written to keeps some length
kept_room : (len : ℕ) (new old : List ℕ) → 0 < length old → 0 < len → 0 < length (take len (new ++ drop (length new) old))
kept_room zero new old some long = long
kept_room (suc n) [] [] some long = some
kept_room (suc n) [] (x ∷ old) some long = omega arith
kept_room (suc n) (x ∷ new) old some long = omega arith

pub pieces-preserved : goal.pieces-preserved
pieces-preserved g c =
    let m = g.D.Store in
    let old = c.args.store.now in
    let name = c.args.name.now in
    let inv = c.pieces.invariant in
    let mid = c.pieces.store in
    let e = c.in-Ok-read_piece.ensures in
    let n = c.in-Ok-read_piece.count in
    let bytes = bytes_in (m.file old name) in
    let on = λ (tells : m.tells old ≡ true).
    let same = (inv.keeps tells).same in
    let size = size_of (m.file old name) c.args.size (c.requires.size tells) in
    let small : length bytes < 2 ^ 64 = omega (arith, size, c.ranges.size.fits) in
    let fits : n ≤ length (drop c.pieces.place bytes) = subst (λ f. n ≤ length (drop c.pieces.place (bytes_in f))) same (e.fits (inv.told ∙ tells)) in
    reads_on c.pieces.reader c.read_piece.new.reader bytes c.read_piece.new.piece c.pieces.place n c.saturating_add-place.result (inv.read tells) e.read
    (e.piece (inv.told ∙ tells) ∙ ap (λ f. take n (drop c.pieces.place (bytes_in f))) same) fits small (inv.within tells) c.saturating_add-place.ensures in
    record {
      sound = subst IsSound (sym e.read) (sound_fed c.pieces.reader (take n c.read_piece.new.piece) inv.sound);
      good = e.good;
      room = kept_room c.pieces.piece.len c.read_piece.new.piece c.pieces.piece.items inv.room (subst (λ k. 0 < k) (sym c.pieces.piece.ok.0) inv.room);
      read = λ tells. (on tells).0;
      within = λ tells. (on tells).1;
      keeps = λ tells. keeps_both m.file m.solid m.moment m.left_since name old mid c.read_piece.new.store (inv.keeps tells) (c.read_piece.ensures.keeps (inv.told ∙ tells));
      others = λ tells. others_both m.file m.solid m.moment m.left_since name old mid c.read_piece.new.store (inv.others tells) (c.read_piece.ensures.others (inv.told ∙ tells));
      known = λ other k. c.read_piece.ensures.known other (inv.known other k);
      told = c.read_piece.ensures.told ∙ inv.told;
      later = let a = c.read_piece.ensures.later in let b = inv.later in omega arith;
      steady = e.steady ∙ inv.steady;
    }

pub returns : goal.returns
returns g c =
    let m = g.D.Store in
    let name = c.args.name.now in
    let inv = c.pieces.invariant in
    record {
      sound = inv.sound;
      good = inv.good;
      read = λ tells.
          let size = size_of (m.file c.args.store.now name) c.args.size (c.requires.size tells) in
          reads_all c.pieces.reader (bytes_in (m.file c.args.store.now name)) c.pieces.place (inv.read tells) (omega arith);
      refused = tt;
      keeps = inv.keeps;
      others = inv.others;
      known = inv.known;
      told = inv.told;
      later = inv.later;
      steady = inv.steady;
    }
