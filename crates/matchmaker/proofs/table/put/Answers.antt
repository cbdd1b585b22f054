use Rattle.std.proofs.Common.{◌≡◌, Some, ap, sym, ◌∙◌, subst}
use Rattle.std.specs.String.{string_eq}
use Rattle.indexmap.specs.IndexMap.{insert_entry}
use Rattle.matchmaker.specs.Accounts.{lookup, with_standing, AreUsers}
use Rattle.matchmaker.specs.Tables.{named_users}
use Rattle.matchmaker.proofs.Users.{named-insert_entry, named-set_value, lookup-named, users_with}
use Rattle.matchmaker.proofs.table.put.Goals as goal

pub returns-in-Some-clause-ok : goal.returns-in-Some-clause-ok
returns-in-Some-clause-ok c =
    let old = c.args.users.now.entries in
    let there : lookup c.args.user.now (named_users old) ≡ Some c.in-Some.known.now = lookup-named c.args.user.now old ∙ sym c.in-Some.ensures.value in
    ap named_users (c.get_mut.follows.holds c.args.standing).0
    ∙ named-set_value c.args.user.now c.args.standing old c.in-Some.known.now there

pub returns-clause-ok : goal.returns-clause-ok
returns-clause-ok c =
    let old = c.args.users.now.entries in
    let none = ap (λ m. m.entries) c.get_mut.follows.holds-at-none in
    ap named_users (c.in_ok-insert.ensures.entries ∙ ap (λ l. insert_entry string_eq l c.in_ok-name.name c.args.standing) none)
    ∙ named-insert_entry old c.in_ok-name.name c.args.standing
    ∙ ap (λ n. with_standing n c.args.standing (named_users old)) c.in_ok-name.ensures.ok

pub returns-in-Some-clause-table : goal.returns-in-Some-clause-table
returns-in-Some-clause-table c =
    subst AreUsers (sym (returns-in-Some-clause-ok c)) (users_with c.args.user.now c.args.standing (named_users c.args.users.now.entries) c.requires.standing c.requires.table c.requires.room)

pub returns-clause-table : goal.returns-clause-table
returns-clause-table c =
    subst AreUsers (sym (returns-clause-ok c)) (users_with c.args.user.now c.args.standing (named_users c.args.users.now.entries) c.requires.standing c.requires.table c.requires.room)
