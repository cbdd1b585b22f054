use Rattle.std.proofs.Common.{Some, ◌<◌, ◌≤◌, ap, sym, ◌∙◌, subst, get_or, length}
use Rattle.submit_file.specs.OneJob.{common}
use Rattle.submit_file.specs.JobMacros.{AreJobMacros}
use Rattle.submit_file.proofs.MadeJobs.{items_ok, items_err, items_end, counted_more, counted_none}
use Rattle.submit_file.proofs.copies.add_items.Goals as goal

pub add_copies-requires-clause-plan : goal.add_copies-requires-clause-plan
add_copies-requires-clause-plan c = λ t are. c.requires.plan t (subst (λ v. AreJobMacros (Some v) c.args.plan.now.statement.file.now.table t) c.as_str-variable.ensures are)

pub add_copies-requires-clause-table : goal.add_copies-requires-clause-table
add_copies-requires-clause-table c = subst (λ v. AreJobMacros (Some v) c.args.plan.now.statement.file.now.table c.loop-item.table) (sym c.as_str-variable.ensures) c.loop-item.invariant.table

pub loop-item-init : goal.loop-item-init
loop-item-init c = record {
  made = λ rest r more. more;
  count = counted_none (length c.args.ads.now) c.args.copies;
  table = c.requires.table;
}

pub loop-item-preserved : goal.loop-item-preserved
loop-item-preserved c =
    let s = c.args.plan.now.statement in
    let is = c.args.over.now.items in
    let inside : c.loop-item.item-index < length is = subst (λ is. c.loop-item.item-index < length is) c.as_slice-item-items.ensures c.loop-item-test.true in
    record {
      made = items_ok (common s.heading) s.file.now s.line c.args.over.now.variable c.as_str-variable.result.now c.item-item.result c.as_str.result.now is c.args.copies c.loop-item.item-index c.args.ads.now c.loop-item.ads c.add_copies.new.ads
          inside (c.item-item.is ∙ ap (λ is. get_or is c.loop-item.item-index c.item-item.result) c.as_slice-item-items.ensures) c.as_str-variable.ensures c.as_str.ensures c.loop-item.invariant.made c.in-Ok.ensures.made;
      count = counted_more (length c.args.ads.now) (length c.loop-item.ads) (length c.add_copies.new.ads) c.args.copies c.loop-item.item-index c.loop-item.invariant.count c.in-Ok.ensures.count;
      table = subst (λ v. AreJobMacros (Some v) s.file.now.table c.add_copies.new.table) c.as_str-variable.ensures c.in-Ok.ensures.table;
    }

pub returns-in-Err : goal.returns-in-Err
returns-in-Err c =
    let s = c.args.plan.now.statement in
    let is = c.args.over.now.items in
    let inside : c.loop-item.item-index < length is = subst (λ is. c.loop-item.item-index < length is) c.as_slice-item-items.ensures c.loop-item-test.true in
    items_err (common s.heading) s.file.now s.line c.args.over.now.variable c.as_str-variable.result.now c.item-item.result c.as_str.result.now is c.args.copies c.loop-item.item-index c.args.ads.now c.loop-item.ads c.add_copies.new.ads c.in-Err.error
    inside (c.item-item.is ∙ ap (λ is. get_or is c.loop-item.item-index c.item-item.result) c.as_slice-item-items.ensures) c.as_str-variable.ensures c.as_str.ensures c.loop-item.invariant.made c.in-Err.ensures.made

pub returns : goal.returns
returns c =
    let s = c.args.plan.now.statement in
    items_end (common s.heading) s.file.now s.line c.args.over.now.variable c.args.over.now.items c.args.copies c.loop-item.item-index c.args.ads.now c.loop-item.ads
    (subst (λ is. length is ≤ c.loop-item.item-index) c.as_slice-item-items.ensures c.loop-item-test.false) c.loop-item.invariant.made
