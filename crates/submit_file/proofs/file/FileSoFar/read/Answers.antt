use Rattle.std.proofs.Common.{Ok, ap, ◌∙◌}
use Rattle.submit_file.specs.OneJob.{common}
use Rattle.submit_file.proofs.Readings.{line_is, name_taken, attribute_taken, queue_taken, line_refused}
use Rattle.submit_file.proofs.file.FileSoFar.read.Goals as goal

pub returns-in_ok-set-in-Ok-Setting : goal.returns-in_ok-set-in-Ok-Setting
returns-in_ok-set-in-Ok-Setting c =
    name_taken (common c.args.heading) c.args.self.now c.set.new.self c.args.line.now c.in-Ok-Setting.name.now c.in-Ok-Setting.value.now
    (line_is c.read_line.result _ _ c.args.line.now.text c.read_line.ensures c.as_str.ensures (c.in-Ok-Setting.is ∙ ap Ok c.in-Ok-Setting.field-0-is)) c.in_ok-set-in-Ok-Setting.ensures

pub returns-in_ok-put-in-Ok-Attribute : goal.returns-in_ok-put-in-Ok-Attribute
returns-in_ok-put-in-Ok-Attribute c =
    attribute_taken (common c.args.heading) c.args.self.now c.put.new.self c.args.line.now c.in-Ok-Attribute.name.now c.in-Ok-Attribute.value.now
    (line_is c.read_line.result _ _ c.args.line.now.text c.read_line.ensures c.as_str.ensures (c.in-Ok-Attribute.is ∙ ap Ok c.in-Ok-Attribute.field-0-is)) c.in_ok-put-in-Ok-Attribute.ensures.ok

pub returns-in-Ok-Queue : goal.returns-in-Ok-Queue
returns-in-Ok-Queue c =
    queue_taken (common c.args.heading) c.args.self.now c.queue.new.self c.args.line.now c.in-Ok-Queue.text.now c.queue.result
    (line_is c.read_line.result _ _ c.args.line.now.text c.read_line.ensures c.as_str.ensures (c.in-Ok-Queue.is ∙ ap Ok c.in-Ok-Queue.field-0-is)) c.queue.ensures

pub returns-in-Err : goal.returns-in-Err
returns-in-Err c =
    line_refused (common c.args.heading) c.args.self.now c.args.self.now c.args.line.now c.in-Err.fault c.line_error.result
    (line_is c.read_line.result _ _ c.args.line.now.text c.read_line.ensures c.as_str.ensures c.in-Err.is) c.line_error.ensures
