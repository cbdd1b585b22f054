use Rattle.std.proofs.Common.{◌≡◌, true, sym, ap, ◌∙◌, append_assoc, arith, ◌++◌, List, ℕ, map, take, string_bytes, codes}
use Rattle.queue_tx.specs.Operations.{operation, Operation}
use Rattle.queue_record.specs.declared.error.PrintError.TheVariants.{TooLong}
use Rattle.queue_record.specs.Texts.{op_line, ops_text, is_long, first_long}
use Rattle.queue_record.proofs.Printing.{done_more, ops_push, first_push, first_at, too_long}
use Rattle.queue_record.proofs.print.print_ops.Goals as goal

pub returns-in-Err-clause-refused : goal.returns-in-Err-clause-refused
returns-in-Err-clause-refused c =
    too_long (map operation c.args.ops.now) c.in-Err.error c.loop-op.op-index (is_long (operation c.op-item.result) ≡ true)
    (λ other. let both = c.in-Err.ensures.refused other in (both.0 ∙ ap (λ (n : ℕ). TooLong n) c.loop-op.invariant.place, both.1))
    (λ long. first_at c.args.ops.now c.loop-op.op-index c.op-item.result c.loop-op-test.true c.op-item.is c.loop-op.invariant.fits long)

pub loop-op-preserved : goal.loop-op-preserved
loop-op-preserved c =
    let done = map operation (take c.loop-op.op-index c.args.ops.now) in
    let o = operation c.op-item.result in
    let more = done_more c.args.ops.now c.loop-op.op-index c.op-item.result c.loop-op-test.true c.op-item.is in
    let begun = string_bytes c.args.text.now in
    let place = c.loop-op.invariant.place in
    record {
      text = c.in_default.ensures.text
          ∙ ap (λ (t : List ℕ). t ++ (op_line o ++ codes "\n")) c.loop-op.invariant.text
          ∙ append_assoc begun (ops_text done) (op_line o ++ codes "\n")
          ∙ ap (λ (t : List ℕ). begun ++ t) (sym (ops_push done o))
          ∙ ap (λ (os : List Operation). begun ++ ops_text os) (sym more);
      place = omega arith;
      fits = ap first_long more ∙ first_push done o c.loop-op.invariant.fits c.in_default.ensures.fits;
    }
