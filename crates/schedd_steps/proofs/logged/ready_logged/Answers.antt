use Rattle.std.proofs.Common.{◌∙◌, ◌+◌, ◌≤◌, ◌<◌, ℕ, List, ap, inl, length, refl, subst}
use Rattle.pool_mail.specs.declared.mail.Mail.{Mail}
use Rattle.pool_parts.specs.Sizes.{mails_count}
use Rattle.pool_parts.specs.declared.size.TheConstants.{MAX_BYTES}
use Rattle.pool_rules.specs.Deeds.{at_rest}
use Rattle.pool_tables.specs.declared.refusal.StepError.TheVariants as error
use Rattle.pool_tables.specs.MailLists.{MailsValue}
use Rattle.schedd_state.specs.declared.answer.ScheddStep.{ScheddStep}
use Rattle.schedd_steps.proofs.Refused.{is_limit, limit_passed, no_bytes, no_err, no_ok}
use Rattle.schedd_steps.proofs.logged.ready_logged.Goals as goal

pub returns : goal.returns
returns c =
    let old = c.args.state.now in
    let e = c.in_ok-prepared.ensures in
    record {
      same = ap (λ (m : MailsValue). at_rest (record old { mails = m })) c.in_ok-room.ensures.same;
      schedd = e.schedd;
      step = e.step;
      claims = e.room;
      room = subst (λ (n : ℕ). n ≤ c.room.new.self.spare) (c.len.ensures ∙ ap (λ (s : ScheddStep). length s.mails) c.step-2.ensures) c.in_ok-room.ensures.room;
      bytes = c.in_ok-bytes.ensures.sum ∙ ap (λ (ms : List Mail). c.args.bytes + mails_count ms) (c.as_slice.ensures ∙ ap (λ (s : ScheddStep). s.mails) (c.step.ensures ∙ e.step));
      limit = c.in_ok-bytes.ensures.within;
      large = λ is. no_err _ error.Bytes is;
      refused = tt;
    }

pub returns-in_err-room : goal.returns-in_err-room
returns-in_err-room c =
    let r = c.from_residual-in_err-room.result in
    let memory = c.from_residual-in_err-room.ensures.1 in
    record {
      same = ap (λ (m : MailsValue). at_rest (record c.args.state.now { mails = m })) c.in_err-room.ensures.same;
      schedd = no_ok _ error.Memory r memory;
      step = no_ok _ error.Memory r memory;
      claims = no_ok _ error.Memory r memory;
      room = no_ok _ error.Memory r memory;
      bytes = no_ok _ error.Memory r memory;
      limit = no_ok _ error.Memory r memory;
      large = λ is. no_bytes _ r memory is;
      refused = is_limit r memory;
    }

pub returns-in_err-bytes : goal.returns-in_err-bytes
returns-in_err-bytes c =
    let e = c.in_err-bytes.field-0.0 in
    let r = c.from_residual-in_err-bytes.result in
    let is_e = c.from_residual-in_err-bytes.ensures.1 in
    let mails = c.as_slice.ensures ∙ ap (λ (s : ScheddStep). s.mails) (c.step.ensures ∙ c.in_ok-prepared.ensures.step) in
    record {
      same = refl;
      schedd = no_ok _ e r is_e;
      step = no_ok _ e r is_e;
      claims = no_ok _ e r is_e;
      room = no_ok _ e r is_e;
      bytes = no_ok _ e r is_e;
      limit = no_ok _ e r is_e;
      large = λ is. subst (λ (ms : List Mail). MAX_BYTES < c.args.bytes + mails_count ms) mails c.in_err-bytes.ensures.large;
      refused = limit_passed e r is_e (inl c.in_err-bytes.ensures.refused);
    }

pub returns-in_err-prepared : goal.returns-in_err-prepared
returns-in_err-prepared c =
    let r = c.from_residual.result in
    let memory = c.from_residual.ensures.1 in
    record {
      same = refl;
      schedd = no_ok _ error.Memory r memory;
      step = no_ok _ error.Memory r memory;
      claims = no_ok _ error.Memory r memory;
      room = no_ok _ error.Memory r memory;
      bytes = no_ok _ error.Memory r memory;
      limit = no_ok _ error.Memory r memory;
      large = λ is. no_bytes _ r memory is;
      refused = is_limit r memory;
    }
