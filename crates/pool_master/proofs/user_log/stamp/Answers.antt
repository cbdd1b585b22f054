use Rattle.std.proofs.Common.{◌≡◌, ◌∙◌, ap, arith, ◌++◌, ◌∷◌, pos, w64, None, to_z}
use Rattle.std.proofs.lemmas.Int.{to_z_pos}
use Rattle.jiff.specs.Words.{date_text, time_text}
use Rattle.pool_master.proofs.user_log.stamp.Goals as goal

pub returns : goal.returns
returns c =
    record {
      civil = c.to_datetime-civil.result;
      is = (let small : to_z w64 c.args.reading ≡ pos c.args.reading = to_z_pos w64 c.args.reading (omega arith) in let value = rw c.unwrap-instant.ensures at c.from_second.ensures.value in rw (c.to_datetime-civil.ensures, value, small) (ap pos (omega arith)));
      shown = c.in_ok-format.ensures.ok ∙ (ap (λ d. date_text d ++ 32 ∷ time_text None c.time-time.result) c.date-date.ensures ∙ ap (λ t. date_text c.to_datetime-civil.result.date ++ 32 ∷ time_text None t) c.time-time.ensures);
    }
