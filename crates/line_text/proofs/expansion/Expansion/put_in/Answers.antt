use Rattle.std.proofs.Common.{◌≡◌, ◌<◌, length, slice_get, slice_set, Some, arith, ap, sym, ◌∙◌, subst, refl}
use Rattle.std.proofs.lemmas.Option.{slice_get-get_or}
use Rattle.std.proofs.lemmas.Result.{err_from_is_err_and}
use Rattle.line_text.specs.declared.error.MacroError.TheVariants as fault
use Rattle.line_text.specs.declared.expansion.Progress.TheVariants.{Untouched, Open, Done}
use Rattle.line_text.specs.Macros.{value_at}
use Rattle.ad_value.specs.Names.{lowercase}
use Rattle.line_text.specs.Expansion.{Meets}
use Rattle.line_text.specs.UnderWay.{frame_of, frames, left_of, work}
use Rattle.line_text.proofs.TableLemmas.{value_of_found}
use Rattle.line_text.proofs.Frames.{frames-push, refers_shorter}
use Rattle.line_text.proofs.Progresses.{work_opened}
use Rattle.line_text.proofs.Results.{on_ok}
use Rattle.line_text.proofs.Steps.{refused_circular, refused_again, written_again, begun_value, same_state}
use Rattle.line_text.proofs.expansion.Expansion.put_in.Goals as goal

pub add_again-requires-clause-ordered : goal.add_again-requires-clause-ordered
add_again-requires-clause-ordered c =
    let s = c.args.self.now in
    let less : c.args.place < length s.progress.items = omega (arith, c.requires.sound.known, c.requires.reference.within) in
    let at : slice_get s.progress.items c.args.place ≡ Some (Done c.in-Done.from c.in-Done.to) = slice_get-get_or s.progress.items c.args.place c.index.result.now less ∙ ap Some (sym c.index.ensures ∙ c.in-Done.is) in
    (c.requires.sound.done c.args.place _ _ at).ordered

pub add_again-requires-clause-within : goal.add_again-requires-clause-within
add_again-requires-clause-within c =
    let s = c.args.self.now in
    let less : c.args.place < length s.progress.items = omega (arith, c.requires.sound.known, c.requires.reference.within) in
    let at : slice_get s.progress.items c.args.place ≡ Some (Done c.in-Done.from c.in-Done.to) = slice_get-get_or s.progress.items c.args.place c.index.result.now less ∙ ap Some (sym c.index.ensures ∙ c.in-Done.is) in
    (c.requires.sound.done c.args.place _ _ at).within

pub returns-in_err-add_again-in-Done-clause-refused : goal.returns-in_err-add_again-in-Done-clause-refused
returns-in_err-add_again-in-Done-clause-refused c =
    let s = c.args.self.now in
    let t = s.table.now in
    let r = c.requires.reference in
    let less : c.args.place < length s.progress.items = omega (arith, c.requires.sound.known, r.within) in
    let at : slice_get s.progress.items c.args.place ≡ Some (Done c.in-Done.from c.in-Done.to) = slice_get-get_or s.progress.items c.args.place c.index.result.now less ∙ ap Some (sym c.index.ensures ∙ c.in-Done.is) in
    let p = err_from_is_err_and c.from_residual-in_err-add_again-in-Done.result c.from_residual-in_err-add_again-in-Done.ensures.1 in
    rw (p.1, p.2) (refused_again t s.given.now s.progress.items (frame_of c.args.current) (frames s.suspended.items) s.written c.requires.sound c.requires.stop c.args.name.now r.default c.args.rest.now r.refers c.args.place c.args.value.now r.found (value_of_found (lowercase c.args.name.now) t c.args.place c.args.value.now r.found) c.in-Done.from c.in-Done.to at c.in_err-add_again-in-Done.field-0.0 c.in_err-add_again-in-Done.ensures.within c.in_err-add_again-in-Done.ensures.err)

pub returns-in-Untouched-clause-sound : goal.returns-in-Untouched-clause-sound
returns-in-Untouched-clause-sound c =
    let s = c.args.self.now in
    let t = s.table.now in
    let r = c.requires.reference in
    let b = c.begin.ensures in
    let less : c.args.place < length s.progress.items = omega (arith, c.requires.sound.known, r.within) in
    let at : slice_get s.progress.items c.args.place ≡ Some Untouched = slice_get-get_or s.progress.items c.args.place c.index.result.now less ∙ ap Some (sym c.index.ensures ∙ c.in-Untouched.is) in
    on_ok c.begin.result b.begun (λ begun. same_state b.table b.given b.progress begun b.written
    (begun_value t s.given.now s.progress.items (frame_of c.args.current) (frames s.suspended.items) s.written c.requires.sound c.requires.stop c.args.name.now r.default c.args.rest.now r.refers c.args.place c.args.value.now r.found (value_of_found (lowercase c.args.name.now) t c.args.place c.args.value.now r.found) at less))

pub returns-in-Untouched-clause-less : goal.returns-in-Untouched-clause-less
returns-in-Untouched-clause-less c =
    let s = c.args.self.now in
    let t = s.table.now in
    let r = c.requires.reference in
    let b = c.begin.ensures in
    let less : c.args.place < length s.progress.items = omega (arith, c.requires.sound.known, r.within) in
    let at : slice_get s.progress.items c.args.place ≡ Some Untouched = slice_get-get_or s.progress.items c.args.place c.index.result.now less ∙ ap Some (sym c.index.ensures ∙ c.in-Untouched.is) in
    let opened = work_opened s.progress.items t c.args.place c.requires.sound.known at in
    let same : work c.begin.new.self.progress.items c.begin.new.self.table.now ≡ work (slice_set s.progress.items c.args.place Open) t = (λ i. work (b.progress i) (b.table i)) in
    let long : length c.args.value.now ≡ length (value_at t c.args.place) = ap length (value_of_found (lowercase c.args.name.now) t c.args.place c.args.value.now r.found) in
    on_ok c.begin.result b.begun (λ begun. omega (arith, same, opened, long, ap left_of begun, refers_shorter c.args.name.now r.default c.args.rest.now c.args.current.rest.now r.refers))

pub returns-in_ok-from_str-in-Open-clause-refused : goal.returns-in_ok-from_str-in-Open-clause-refused
returns-in_ok-from_str-in-Open-clause-refused c =
    let s = c.args.self.now in
    let t = s.table.now in
    let r = c.requires.reference in
    let less : c.args.place < length s.progress.items = omega (arith, c.requires.sound.known, r.within) in
    let at : slice_get s.progress.items c.args.place ≡ Some Open = slice_get-get_or s.progress.items c.args.place c.index.result.now less ∙ ap Some (sym c.index.ensures ∙ c.in-Open.is) in
    subst (λ n. Meets t s.given.now (fault.Circular n)) (sym c.in_ok-from_str-in-Open.ensures)
    (refused_circular t s.given.now s.progress.items (frame_of c.args.current) (frames s.suspended.items) s.written c.requires.sound c.requires.stop c.args.name.now r.default c.args.rest.now r.refers c.args.place c.args.value.now c.requires.fits r.found at)

pub returns-in_ok-push-in-Done-clause-sound : goal.returns-in_ok-push-in-Done-clause-sound
returns-in_ok-push-in-Done-clause-sound c =
    let s = c.args.self.now in
    let t = s.table.now in
    let r = c.requires.reference in
    let less : c.args.place < length s.progress.items = omega (arith, c.requires.sound.known, r.within) in
    let at : slice_get s.progress.items c.args.place ≡ Some (Done c.in-Done.from c.in-Done.to) = slice_get-get_or s.progress.items c.args.place c.index.result.now less ∙ ap Some (sym c.index.ensures ∙ c.in-Done.is) in
    same_state refl refl refl (ap frames c.in_ok-push-in-Done.ensures.items ∙ frames-push s.suspended.items _) c.in_ok-add_again-in-Done.ensures.ok
    (written_again t s.given.now s.progress.items (frame_of c.args.current) (frames s.suspended.items) s.written c.requires.sound c.requires.stop c.args.name.now r.default c.args.rest.now r.refers c.args.place c.args.value.now r.found (value_of_found (lowercase c.args.name.now) t c.args.place c.args.value.now r.found) c.in-Done.from c.in-Done.to at)

pub returns-in_ok-push-in-Done-clause-less : goal.returns-in_ok-push-in-Done-clause-less
returns-in_ok-push-in-Done-clause-less c =
    let s = c.args.self.now in
    let r = c.requires.reference in
    omega (arith, ap left_of (ap frames c.in_ok-push-in-Done.ensures.items ∙ frames-push s.suspended.items _), refers_shorter c.args.name.now r.default c.args.rest.now c.args.current.rest.now r.refers)
