use Rattle.std.proofs.Common.{◌<◌, length, slice_set, arith, sym, subst}
use Rattle.line_text.specs.declared.expansion.Progress.TheVariants.{Done}
use Rattle.line_text.specs.UnderWay.{IsUnderWay, frame_of, frames}
use Rattle.line_text.proofs.Progresses.{work_done}
use Rattle.line_text.proofs.Steps.{place_within, closed_value, closed_plain}
use Rattle.line_text.proofs.expansion.Expansion.close.Goals as goal

pub index_mut-requires : goal.index_mut-requires
index_mut-requires c =
    let s = c.args.self.now in
    let less : c.in-Some.place < length s.progress.items = place_within s.table.now s.given.now s.progress.items (frame_of c.args.current) (frames s.suspended.items) s.written c.requires.sound c.requires.stop c.in-Some.place c.in-Some.is in
    omega (arith, less, s.progress.ok.0)

pub returns-in-Some-clause-sound : goal.returns-in-Some-clause-sound
returns-in-Some-clause-sound c =
    let s = c.args.self.now in
    subst (λ n. IsUnderWay s.table.now s.given.now (slice_set s.progress.items c.in-Some.place (Done c.args.current.from n)) (frames s.suspended.items) s.written) (sym c.count-to.ensures.count)
    (closed_value s.table.now s.given.now s.progress.items (frame_of c.args.current) (frames s.suspended.items) s.written c.requires.sound c.requires.stop c.in-Some.place c.in-Some.is c.requires.ended)

pub returns-in-Some-clause-less : goal.returns-in-Some-clause-less
returns-in-Some-clause-less c =
    let s = c.args.self.now in
    omega (arith, work_done s.progress.items s.table.now c.in-Some.place c.args.current.from c.count-to.result)

pub returns-in_default-clause-sound : goal.returns-in_default-clause-sound
returns-in_default-clause-sound c =
    let s = c.args.self.now in
    closed_plain s.table.now s.given.now s.progress.items (frame_of c.args.current) (frames s.suspended.items) s.written c.requires.sound c.requires.stop c.in_default.is c.requires.ended
