use Rattle.std.proofs.Common.{◌≡◌, ◌∙◌, ◌∷◌, true≢false, codes, sym, ap, rules}
use Rattle.pool_input.specs.Words.{IsRun, texts}
use Rattle.pool_input.proofs.form.is_run.Goals as goal
use Rattle.pool_input.proofs.form.is_run.Goals.{then-eq, else-eq}

pub returns-then-is_plain-clause-yes : goal.returns-then-is_plain-clause-yes
returns-then-is_plain-clause-yes c = λ all.
    let config = c.in-Some.config.now in
    let submits = texts c.in-Some.submits.now in
    elim c.if-eq.branch [
      | then-eq w ↦
          let run : c.in-Some.run'.now ≡ codes "run" = search rules in
          let is : IsRun (texts c.args.words.now) config submits = record {
            is = c.in-Some.ensures ∙ ap (λ r. r ∷ config ∷ submits) run;
            config_is = sym w.is_plain.ensures ∙ (sym w.value-is ∙ c.if-is_plain.true);
            submits_are = sym c.are_plain.ensures ∙ all;
          } in
          (config, (submits, is))
      | else-eq w ↦ absurd (true≢false (sym c.if-is_plain.true ∙ (w.value-is ∙ w.if-eq.false)))
    ]
