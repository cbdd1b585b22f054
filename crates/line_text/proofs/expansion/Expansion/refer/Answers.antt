use Rattle.std.proofs.Common.{◌≡◌, None, arith, ap, sym}
use Rattle.line_text.specs.Expansion.{macro_of}
use Rattle.line_text.specs.UnderWay.{frame_of, frames, left_of, work}
use Rattle.line_text.proofs.Frames.{refers_shorter}
use Rattle.line_text.proofs.Results.{on_ok}
use Rattle.line_text.proofs.Steps.{begun_default, same_state}
use Rattle.line_text.proofs.expansion.Expansion.refer.Goals as goal

pub returns-in-None-clause-sound : goal.returns-in-None-clause-sound
returns-in-None-clause-sound c =
    let s = c.args.self.now in
    let b = c.begin.ensures in
    let found : macro_of s.table.now c.args.name.now ≡ None = sym (rw c.in-None.is at c.in_ok-place.ensures.value) in
    on_ok c.begin.result b.begun (λ begun. same_state b.table b.given b.progress begun b.written
    (begun_default s.table.now s.given.now s.progress.items (frame_of c.args.current) (frames s.suspended.items) s.written c.requires.sound c.requires.stop c.args.name.now c.args.default.now c.args.rest.now c.requires.reference found))

pub returns-in-None-clause-less : goal.returns-in-None-clause-less
returns-in-None-clause-less c =
    let s = c.args.self.now in
    let b = c.begin.ensures in
    let same : work c.begin.new.self.progress.items c.begin.new.self.table.now ≡ work s.progress.items s.table.now = (λ i. work (b.progress i) (b.table i)) in
    on_ok c.begin.result b.begun (λ begun. omega (arith, same, ap left_of begun, refers_shorter c.args.name.now c.args.default.now c.args.rest.now c.args.current.rest.now c.requires.reference))
