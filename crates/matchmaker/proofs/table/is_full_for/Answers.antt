use Rattle.std.proofs.Common.{◌≡◌, true≢false, not, Option, Some, None, is_some, IsTrue, length, ap, sym, ◌∙◌, refl, subst}
use borrow.Author.Tests.{ne_eqb}
use Rattle.matchmaker.specs.declared.accountant.TheConstants.{MAX_USERS}
use Rattle.matchmaker.specs.Accounts.{lookup}
use Rattle.matchmaker.specs.Tables.{named_users}
use Rattle.matchmaker.proofs.Users.{lookup-named, length-named}
use Rattle.matchmaker.proofs.table.is_full_for.Goals as goal

none_or_some : {X : Type 0} (o : Option X) → (IsTrue (not (is_some o)) → o ≡ None) × (o ≡ None → IsTrue (not (is_some o)))
none_or_some None = (λ h. refl, λ h. refl)
none_or_some (Some x) = (λ h. cc, λ h. cc)

pub returns-then-len-eq-MAX_USERS : goal.returns-then-len-eq-MAX_USERS
returns-then-len-eq-MAX_USERS c =
    let es = c.args.users.now.entries in
    let o = lookup c.args.user.now (named_users es) in
    let same : c.contains_key.result ≡ is_some o = c.contains_key.ensures ∙ ap is_some (sym (lookup-named c.args.user.now es)) in
    let full : length (named_users es) ≡ MAX_USERS = length-named es ∙ sym c.len.ensures.len ∙ c.if-len-eq-MAX_USERS.true in
    let by = none_or_some o in
    (λ h. (by.0 (subst (λ b. IsTrue (not b)) same h), full), λ h. subst (λ b. IsTrue (not b)) (sym same) (by.1 h.0))

pub returns-else-len-eq-MAX_USERS : goal.returns-else-len-eq-MAX_USERS
returns-else-len-eq-MAX_USERS c = (
  λ h. absurd (true≢false (sym h ∙ ne_eqb c.len.result MAX_USERS c.if-len-eq-MAX_USERS.false)),
  λ h. absurd (c.if-len-eq-MAX_USERS.false (c.len.ensures.len ∙ sym (length-named c.args.users.now.entries) ∙ h.1)),
)
