-- What stands at a place is the same where name and expression are.
use Rattle.std.proofs.Common.{sym, ◌∙◌, refl, true≢false}
use Rattle.std.specs.Cmp.Lexicographic.{bytes_decides}
use Rattle.ad_tree.specs.Tree.{tree}
use Rattle.ad_tree.proofs.SameLemmas.{never, both_hold, first_fails, same_entries, some_none}
use Rattle.ad_tree.proofs.ad.Ad.same_at.Goals as goal

pub returns-then-eq : goal.returns-then-eq
returns-then-eq c = same_entries _ _ _ _ c.in-Some-Some.ensures c.in-Some-Some.ensures' (both_hold ((bytes_decides _ _).0 (sym c.eq.ensures ∙ c.if-eq.true)) c.same.ensures)

pub returns-else-eq : goal.returns-else-eq
returns-else-eq c = same_entries _ _ _ (tree c.in-Some-Some.other_expr.now) c.in-Some-Some.ensures c.in-Some-Some.ensures' (first_fails c.if-eq.false (λ e. true≢false (sym ((bytes_decides _ _).1 e) ∙ sym c.eq.ensures ∙ c.if-eq.false)))

pub returns-in-None-None : goal.returns-in-None-None
returns-in-None-None c = (λ _. sym c.in-None-None.ensures ∙ c.in-None-None.ensures', λ _. refl)

pub returns-in_default : goal.returns-in_default
returns-in_default c = never (λ h. some_none (c.in_default.ensures ∙ h ∙ sym c.in_default.ensures'))

pub returns-in_default-2 : goal.returns-in_default-2
returns-in_default-2 c = never (λ h. some_none (c.in_default.ensures' ∙ sym h ∙ sym c.in_default.ensures))
