use Rattle.matchmaker.proofs.Named.{place_at, put_found, put_found_kept, put_end, put_end_is}
use Rattle.matchmaker.proofs.kept.put.Goals as goal

pub returns-in-Ok-clause-kept : goal.returns-in-Ok-clause-kept
returns-in-Ok-clause-kept c = put_found c.args.one c.args.kept.now.items c.in-Ok.place
    (place_at _ _ _ _ _ _ c.as_str.ensures c.deref.ensures.value c.in-Ok.is c.place_of.ensures)

pub returns-in-Ok-clause-order : goal.returns-in-Ok-clause-order
returns-in-Ok-clause-order c = put_found_kept c.args.one c.args.kept.now.items c.in-Ok.place c.requires
    (place_at _ _ _ _ _ _ c.as_str.ensures c.deref.ensures.value c.in-Ok.is c.place_of.ensures)

pub returns-in-Err-clause-order : goal.returns-in-Err-clause-order
returns-in-Err-clause-order c = put_end c.insert_at.result c.args.one c.args.kept.now.items _ c.in-Err.place c.requires
    (place_at _ _ _ _ _ _ c.as_str.ensures c.deref.ensures.value c.in-Err.is c.place_of.ensures)
    c.insert_at.ensures.kept c.insert_at.ensures.room c.insert_at.ensures.same

pub returns-in-Err-clause-kept : goal.returns-in-Err-clause-kept
returns-in-Err-clause-kept c = put_end_is c.insert_at.result c.args.one c.args.kept.now.items c.insert_at.new.kept.items c.in-Err.place
    (place_at _ _ _ _ _ _ c.as_str.ensures c.deref.ensures.value c.in-Err.is c.place_of.ensures)
    c.insert_at.ensures.kept
