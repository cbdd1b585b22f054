use Rattle.std.proofs.Common.{◌≡◌, ◌∙◌, ◌++◌, List, ℕ, arith, ap, subst, take}
use Rattle.std.specs.Str.{IsUtf8}
use Rattle.pool_outer.specs.Files.{bytes_in}
use Rattle.pool_store.specs.Moments.{IsReached, LeavesOnly}
use Rattle.pool_store.proofs.Moments.{weaker}
use Rattle.queue_record.specs.Texts.{tx_text}
use Rattle.queue_log.specs.Logs.{IsPending}
use Rattle.queue_log.specs.Stands.{IsBeforeOrAfter}
use Rattle.queue_log.proofs.Results.{on_ok2}
use Rattle.queue_log.proofs.Settled.{are_texts, reached_stands, torn_after, whole_after}
use Rattle.queue_log.proofs.log.write_tx.Goals as goal

pub returns-clause-whole : goal.returns-clause-whole
returns-clause-whole g c tells list queue after w done =
    let m = g.D.Store in
    let old = c.args.store.now in
    let new = c.append_solid.new.store in
    let n = c.args.name.now in
    let tx = c.args.tx.now in
    let texts = are_texts tx (subst IsUtf8 c.requires.text c.utf8.text) in
    let text : c.as_bytes.result.now ≡ tx_text tx = c.as_bytes.ensures.value ∙ c.requires.text in
    let p : IsPending queue tx = record { printable = c.requires.printable; fits = c.requires.fits; texts = texts; after = after; applies = done } in
    on_ok2 c.append_solid.result (c.append_solid.ensures.added tells) (c.append_solid.ensures.solid tells)
    (λ added solid. whole_after list queue after tx (bytes_in (m.file old n)) (bytes_in (m.file new n)) (m.solid old n) (m.solid new n) w p done
    (ap bytes_in added ∙ ap (λ (z : List ℕ). bytes_in (m.file old n) ++ z) text) (omega (arith, solid)))

pub returns-clause-torn : goal.returns-clause-torn
returns-clause-torn g c tells list queue after w done =
    let m = g.D.Store in
    let old = c.args.store.now in
    let new = c.append_solid.new.store in
    let n = c.args.name.now in
    let tx = c.args.tx.now in
    let texts = are_texts tx (subst IsUtf8 c.requires.text c.utf8.text) in
    let text : c.as_bytes.result.now ≡ tx_text tx = c.as_bytes.ensures.value ∙ c.requires.text in
    let p : IsPending queue tx = record { printable = c.requires.printable; fits = c.requires.fits; texts = texts; after = after; applies = done } in
    let part = c.append_solid.ensures.part tells in
    torn_after list queue after tx (bytes_in (m.file old n)) (bytes_in (m.file new n)) (m.solid old n) (m.solid new n) part.0 w p
    (part.1 ∙ ap (λ (z : List ℕ). bytes_in (m.file old n) ++ take part.0 z) text) (c.append_solid.ensures.no_less tells)

pub returns-clause-any_moment : goal.returns-clause-any_moment
returns-clause-any_moment g c tells list queue after w done =
    let m = g.D.Store in
    let old = c.args.store.now in
    let new = c.append_solid.new.store in
    let n = c.args.name.now in
    let tx = c.args.tx.now in
    let texts = are_texts tx (subst IsUtf8 c.requires.text c.utf8.text) in
    let text : c.as_bytes.result.now ≡ tx_text tx = c.as_bytes.ensures.value ∙ c.requires.text in
    let p : IsPending queue tx = record { printable = c.requires.printable; fits = c.requires.fits; texts = texts; after = after; applies = done } in
    let reached : LeavesOnly m.moment m.left_since n old new (IsReached (m.solid old n) (bytes_in (m.file old n)) (tx_text tx)) =
    subst (λ (z : List ℕ). LeavesOnly m.moment m.left_since n old new (IsReached (m.solid old n) (bytes_in (m.file old n)) z)) text (c.append_solid.ensures.any_moment tells) in
    weaker m.moment m.left_since n old new (IsReached (m.solid old n) (bytes_in (m.file old n)) (tx_text tx)) (IsBeforeOrAfter list tx) reached
    (λ image r. reached_stands list queue tx (bytes_in (m.file old n)) image (m.solid old n) w.settled w.durable p r)

pub returns-clause-others : goal.returns-clause-others
returns-clause-others g c tells = record { same = c.append_solid.ensures.others tells; quiet = c.append_solid.ensures.quiet tells }
