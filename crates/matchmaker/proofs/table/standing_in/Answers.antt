use Rattle.std.proofs.Common.{◌≡◌, sym, ◌∙◌, subst, IfSome}
use Rattle.matchmaker.specs.Accounts.{lookup, IsStanding}
use Rattle.matchmaker.specs.Tables.{named_users}
use Rattle.matchmaker.proofs.Users.{lookup-named, standing_found}
use Rattle.matchmaker.proofs.table.standing_in.Goals as goal

found : (c : goal.After-copied) → c.copied.result ≡ lookup c.args.user.now (named_users c.args.users.now.entries)
found c = c.copied.ensures ∙ c.get.ensures.value ∙ sym (lookup-named c.args.user.now c.args.users.now.entries)

pub returns-clause-found : goal.returns-clause-found
returns-clause-found c = found c

pub returns-clause-within : goal.returns-clause-within
returns-clause-within c =
    subst (λ o. IfSome o IsStanding) (sym (found c)) (standing_found c.args.user.now (named_users c.args.users.now.entries) c.requires.0)
