use Rattle.std.proofs.Common.{◌∙◌, [], ◌∷◌, string_bytes, ap, sym, subst}
use Rattle.queue_log.specs.NewLog.{new_log_text, new_log_tx}
use Rattle.queue_log.specs.Stands.{IsSettled}
use Rattle.queue_log.proofs.recover.new_opening.Goals as goal

pub returns-in-Ok-opening_of : goal.returns-in-Ok-opening_of
returns-in-Ok-opening_of c =
    let e = c.in-Ok.ensures in
    let parts = c.into_parts-text.ensures in
    let o = c.in-Ok-opening_of.ensures.opening in
    record {
      named = o.0;
      text = ap (λ p. string_bytes p.0) parts ∙ e.text;
      begun = record {
        settled = subst (λ q. IsSettled (new_log_tx ∷ []) q (new_log_text c.args.reading)) (sym (o.3 ∙ ap (λ p. p.2) parts)) e.settled;
        stamped = e.sequence;
        listed = o.2 ∙ ap (λ p. p.1) parts ∙ e.list;
        sequenced = o.1;
      };
    }
