use Rattle.std.proofs.Common.{◌≡◌, ◌++◌, ◌∷◌, ◌∙◌, sym, ap}
use Rattle.std.proofs.lemmas.List.{append-nil}
use Rattle.std.specs.Map.Iter.{deref_pair}
use Rattle.std.proofs.lemmas.Map.Iter.{rest_more}
use Rattle.indexmap.specs.IndexMap.{insert_entry}
use Rattle.pool_view.specs.Numbers.{same_job}
use Rattle.thin_pool.proofs.Entries.{copied_more}
use Rattle.thin_pool.proofs.Tables.{jobs_told}
use Rattle.thin_pool.proofs.jobs.copy_jobs.Goals as goal

pub loop-id-preserved-in_ok-insert : goal.loop-id-preserved-in_ok-insert
loop-id-preserved-in_ok-insert c =
    let done = c.loop-id.table.entries in
    let more = c.next.new.self in
    let left = rest_more deref_pair c.loop-id.id-iterator more c.next.result (c.in-Some.id, c.in-Some.job) c.in-Some.is c.next.ensures.steps in
    let whole : done ++ (c.in-Some.id.now, c.in-Some.job.now) ∷ more ≡ c.args.jobs.now.entries = sym (ap (λ l. done ++ l) left) ∙ c.loop-id.invariant in
    let put : c.insert.new.self.entries ≡ insert_entry same_job done c.in-Some.id.now c.in-Some.job.now = c.in_ok-insert.ensures.entries ∙ ap (insert_entry same_job done c.in-Some.id.now) c.in_ok-copy.ensures in
    ap (λ l. l ++ more) put ∙ copied_more jobs_told done (c.in-Some.id.now, c.in-Some.job.now) more c.args.jobs.now.entries whole c.requires

pub loop-id-preserved : goal.loop-id-preserved
loop-id-preserved c =
    let done = c.loop-id.table.entries in
    let more = c.next.new.self in
    let left = rest_more deref_pair c.loop-id.id-iterator more c.next.result (c.in-Some.id, c.in-Some.job) c.in-Some.is c.next.ensures.steps in
    let whole : done ++ (c.in-Some.id.now, c.in-Some.job.now) ∷ more ≡ c.args.jobs.now.entries = sym (ap (λ l. done ++ l) left) ∙ c.loop-id.invariant in
    let put : c.insert.new.self.entries ≡ insert_entry same_job done c.in-Some.id.now c.in-Some.job.now = c.in_ok-insert.ensures.entries ∙ ap (insert_entry same_job done c.in-Some.id.now) c.in_ok-copy.ensures in
    ap (λ l. l ++ more) put ∙ copied_more jobs_told done (c.in-Some.id.now, c.in-Some.job.now) more c.args.jobs.now.entries whole c.requires

pub returns : goal.returns
returns c =
    let done = c.loop-id.table.entries in
    sym (append-nil done) ∙ ap (λ l. done ++ l) (sym c.in-None.ensures.steps.0) ∙ c.loop-id.invariant

pub loop-id-init : goal.loop-id-init
loop-id-init c =
    let given : c.into_iter-id-iterator.result ≡ c.args.jobs.now.entries = c.into_iter-id-iterator.ensures.into_iter_gives.0 in
    ap (λ l. l ++ c.into_iter-id-iterator.result) c.new-table.ensures.empty ∙ given
