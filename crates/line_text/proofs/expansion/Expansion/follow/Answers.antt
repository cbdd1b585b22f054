use Rattle.std.proofs.Common.{ap, sym, ◌∙◌}
use Rattle.line_text.specs.Next.{reference_of}
use Rattle.line_text.specs.UnderWay.{frame_of, frames}
use Rattle.line_text.proofs.Steps.{refused_bad}
use Rattle.line_text.proofs.expansion.Expansion.follow.Goals as goal

pub returns-in-Bad-clause-refused : goal.returns-in-Bad-clause-refused
returns-in-Bad-clause-refused c =
    let s = c.args.self.now in
    refused_bad s.table.now s.given.now s.progress.items (frame_of c.args.current) (frames s.suspended.items) s.written c.requires.sound c.requires.stop _ c.requires.fits (sym (ap reference_of (sym c.in-Bad.is) ∙ c.reference.ensures)) c.saturating_sub.ensures
