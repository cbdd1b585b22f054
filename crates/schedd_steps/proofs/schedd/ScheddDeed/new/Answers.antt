use Rattle.std.proofs.Common.{◌∙◌, ◌+◌, ◌<◌, List, ap, inl, refl, subst}
use Rattle.pool_mail.specs.declared.mail.Mail.{Mail}
use Rattle.pool_parts.specs.Sizes.{mails_count}
use Rattle.pool_parts.specs.declared.size.TheConstants.{MAX_BYTES}
use Rattle.pool_rules.specs.Answers.{pending_by}
use Rattle.pool_tables.specs.declared.refusal.StepError.TheVariants as error
use Rattle.schedd_state.specs.declared.answer.ScheddStep.{ScheddStep}
use Rattle.schedd_steps.proofs.Refused.{is_limit, limit_passed, no_bytes, no_err, no_ok}
use Rattle.schedd_steps.proofs.schedd.ScheddDeed.new.Goals as goal

pub returns : goal.returns
returns c =
    let old = c.args.state.now in
    let mails = c.as_slice.ensures ∙ ap (λ (s : ScheddStep). s.mails) c.step.ensures in
    record {
      prepared = refl;
      begun = c.in_ok-begun.ensures ∙ ap (λ (s : ScheddStep). pending_by old.next_tx s.plan) c.step-2.ensures;
      ordered = c.in_ok-ordered.ensures.items;
      places = c.in_ok-ordered.ensures.places;
      bytes = c.in_ok-bytes.ensures.sum ∙ ap (λ (ms : List Mail). old.counts.bytes + mails_count ms) mails;
      limit = c.in_ok-bytes.ensures.within;
      large = λ is. no_err _ error.Bytes is;
      refused = tt;
    }

pub returns-in_err-ordered : goal.returns-in_err-ordered
returns-in_err-ordered c =
    let r = c.from_residual-in_err-ordered.result in
    let memory = c.from_residual-in_err-ordered.ensures.1 in
    record {
      prepared = no_ok _ error.Memory r memory;
      begun = no_ok _ error.Memory r memory;
      ordered = no_ok _ error.Memory r memory;
      places = no_ok _ error.Memory r memory;
      bytes = no_ok _ error.Memory r memory;
      limit = no_ok _ error.Memory r memory;
      large = λ is. no_bytes _ r memory is;
      refused = is_limit r memory;
    }

pub returns-in_err-begun : goal.returns-in_err-begun
returns-in_err-begun c =
    let r = c.from_residual-in_err-begun.result in
    let memory = c.from_residual-in_err-begun.ensures.1 in
    record {
      prepared = no_ok _ error.Memory r memory;
      begun = no_ok _ error.Memory r memory;
      ordered = no_ok _ error.Memory r memory;
      places = no_ok _ error.Memory r memory;
      bytes = no_ok _ error.Memory r memory;
      limit = no_ok _ error.Memory r memory;
      large = λ is. no_bytes _ r memory is;
      refused = is_limit r memory;
    }

pub returns-in_err-bytes : goal.returns-in_err-bytes
returns-in_err-bytes c =
    let e = c.in_err-bytes.field-0.0 in
    let r = c.from_residual.result in
    let is_e = c.from_residual.ensures.1 in
    let mails = c.as_slice.ensures ∙ ap (λ (s : ScheddStep). s.mails) c.step.ensures in
    record {
      prepared = no_ok _ e r is_e;
      begun = no_ok _ e r is_e;
      ordered = no_ok _ e r is_e;
      places = no_ok _ e r is_e;
      bytes = no_ok _ e r is_e;
      limit = no_ok _ e r is_e;
      large = λ is. subst (λ (ms : List Mail). MAX_BYTES < c.args.state.now.counts.bytes + mails_count ms) mails c.in_err-bytes.ensures.large;
      refused = limit_passed e r is_e (inl c.in_err-bytes.ensures.refused);
    }
