use Rattle.std.proofs.Common.{◌≡◌, ◌∙◌, ◌++◌, take, ap, rules, sym}
use Rattle.pool_master.specs.UserLog.{IsUserLog}
use Rattle.pool_master.proofs.PoolRun.{writes_part, writes_whole}
use Rattle.pool_master.proofs.run.print.Goals as goal

pub returns-in-Ok-write_all-clause-written : goal.returns-in-Ok-write_all-clause-written
returns-in-Ok-write_all-clause-written g c = λ told.
    let is : IsUserLog c.args.history.now c.in-Ok.text = search rules in
    let whole : g.K.Sink.written c.write_all.new.out ≡ g.K.Sink.written c.args.out.now ++ c.in-Ok.text = c.in-Ok-write_all.ensures.written told ∙ ap (λ t. g.K.Sink.written c.args.out.now ++ t) (search rules) in
    writes_whole c.args.history.now c.in-Ok.text _ _ is whole

pub returns-in-Ok-2-clause-written : goal.returns-in-Ok-2-clause-written
returns-in-Ok-2-clause-written g c = λ told.
    let is : IsUserLog c.args.history.now c.in-Ok.text = search rules in
    let whole : g.K.Sink.written c.write_all.new.out ≡ g.K.Sink.written c.args.out.now ++ c.in-Ok.text = c.in-Ok-2.ensures.written told ∙ ap (λ t. g.K.Sink.written c.args.out.now ++ t) (search rules) in
    writes_whole c.args.history.now c.in-Ok.text _ _ is whole

pub returns-in-Ok-2-clause-printed : goal.returns-in-Ok-2-clause-printed
returns-in-Ok-2-clause-printed g c = (sym c.has_unfinished.ensures ∙ c.if-has_unfinished.false, c.in-Ok-2.ensures.quiet)

pub returns-clause-written : goal.returns-clause-written
returns-clause-written g c = λ told.
    let is : IsUserLog c.args.history.now c.in-Ok.text = search rules in
    let part = c.in-Err-write_all.ensures.part told in
    let bytes : c.as_bytes.result.now ≡ c.in-Ok.text = search rules in
    writes_part c.args.history.now c.in-Ok.text _ _ is (part.0, part.1 ∙ ap (λ t. g.K.Sink.written c.args.out.now ++ take part.0 t) bytes)

pub returns-in-Ok-2-clause-all_written : goal.returns-in-Ok-2-clause-all_written
returns-in-Ok-2-clause-all_written g c = λ told ends. record {
  text = c.in-Ok.text;
  is_log = c.in-Ok.ensures;
  written = c.in-Ok-2.ensures.written told ∙ ap (λ t. g.K.Sink.written c.args.out.now ++ t) (c.as_bytes.ensures.value ∙ c.as_str.ensures);
}

pub returns-in-Ok-write_all-clause-all_written : goal.returns-in-Ok-write_all-clause-all_written
returns-in-Ok-write_all-clause-all_written g c = λ told ends. record {
  text = c.in-Ok.text;
  is_log = c.in-Ok.ensures;
  written = c.in-Ok-write_all.ensures.written told ∙ ap (λ t. g.K.Sink.written c.args.out.now ++ t) (c.as_bytes.ensures.value ∙ c.as_str.ensures);
}
