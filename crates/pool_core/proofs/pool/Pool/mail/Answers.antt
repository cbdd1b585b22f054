use Rattle.std.proofs.Common.{◌≡◌, ◌≢◌, Some, IfErr, IfOk, IfSome, subst}
use Rattle.std.specs.Prelude.{IsErrOf}
use Rattle.pool_state.specs.declared.state.PoolState.{PoolState}
use Rattle.pool_tables.specs.MailLists.{IsMailTo, mail_error}
use Rattle.pool_tables.specs.declared.refusal.MailError.TheVariants as error
use Rattle.pool_core.proofs.pool.Pool.mail.Goals as goal

pub returns : goal.returns
returns c = record {
  mail = subst (λ (s : PoolState). IfOk c.mail.result (λ mail. IsMailTo c.args.who c.args.index s.mails mail)) c.self.view_is c.mail.ensures.mail;
  refused = subst (λ (s : PoolState). IfErr c.mail.result (λ e. e ≢ error.Memory → mail_error c.args.who c.args.index s.mails ≡ Some e)) c.self.view_is c.mail.ensures.refused;
  cause = subst (λ (s : PoolState). IfSome (mail_error c.args.who c.args.index s.mails) (λ e. IsErrOf c.mail.result e)) c.self.view_is c.mail.ensures.cause;
}
