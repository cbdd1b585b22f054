use Rattle.std.proofs.Common.{◌≡◌, ◌++◌, ◌∷◌, ◌∙◌, sym, ap}
use Rattle.std.proofs.lemmas.List.{append-nil}
use Rattle.std.specs.Map.Iter.{deref_pair}
use Rattle.std.proofs.lemmas.Map.Iter.{rest_more}
use Rattle.indexmap.specs.IndexMap.{insert_entry}
use Rattle.pool_view.specs.Numbers.{same_slot}
use Rattle.thin_pool.proofs.Entries.{copied_more}
use Rattle.thin_pool.proofs.Tables.{slots_told}
use Rattle.thin_pool.proofs.runs.copy_runs.Goals as goal

pub loop-slot-preserved-in_ok-insert : goal.loop-slot-preserved-in_ok-insert
loop-slot-preserved-in_ok-insert c =
    let done = c.loop-slot.table.entries in
    let more = c.next.new.self in
    let left = rest_more deref_pair c.loop-slot.slot-iterator more c.next.result (c.in-Some.slot, c.in-Some.value) c.in-Some.is c.next.ensures.steps in
    let whole : done ++ (c.in-Some.slot.now, c.in-Some.value.now) ∷ more ≡ c.args.runs.now.entries = sym (ap (λ l. done ++ l) left) ∙ c.loop-slot.invariant in
    let put : c.insert.new.self.entries ≡ insert_entry same_slot done c.in-Some.slot.now c.in-Some.value.now = c.in_ok-insert.ensures.entries ∙ ap (insert_entry same_slot done c.in-Some.slot.now) c.in_ok-copy.ensures in
    ap (λ l. l ++ more) put ∙ copied_more slots_told done (c.in-Some.slot.now, c.in-Some.value.now) more c.args.runs.now.entries whole c.requires

pub loop-slot-preserved : goal.loop-slot-preserved
loop-slot-preserved c =
    let done = c.loop-slot.table.entries in
    let more = c.next.new.self in
    let left = rest_more deref_pair c.loop-slot.slot-iterator more c.next.result (c.in-Some.slot, c.in-Some.value) c.in-Some.is c.next.ensures.steps in
    let whole : done ++ (c.in-Some.slot.now, c.in-Some.value.now) ∷ more ≡ c.args.runs.now.entries = sym (ap (λ l. done ++ l) left) ∙ c.loop-slot.invariant in
    let put : c.insert.new.self.entries ≡ insert_entry same_slot done c.in-Some.slot.now c.in-Some.value.now = c.in_ok-insert.ensures.entries ∙ ap (insert_entry same_slot done c.in-Some.slot.now) c.in_ok-copy.ensures in
    ap (λ l. l ++ more) put ∙ copied_more slots_told done (c.in-Some.slot.now, c.in-Some.value.now) more c.args.runs.now.entries whole c.requires

pub returns : goal.returns
returns c =
    let done = c.loop-slot.table.entries in
    sym (append-nil done) ∙ ap (λ l. done ++ l) (sym c.in-None.ensures.steps.0) ∙ c.loop-slot.invariant

pub loop-slot-init : goal.loop-slot-init
loop-slot-init c =
    let given : c.into_iter-slot-iterator.result ≡ c.args.runs.now.entries = c.into_iter-slot-iterator.ensures.into_iter_gives.0 in
    ap (λ l. l ++ c.into_iter-slot-iterator.result) c.new-table.ensures.empty ∙ given
