use Rattle.std.proofs.Common.{◌<◌, refl}
use Rattle.pool_view.specs.AbstractPool.{IsSpentAt}
use Rattle.pool_view.specs.Protocol.{IsHeldBefore, IsHeldIn}
use Rattle.pool_view.specs.ProtocolMove.{IsFreeFor}
use Rattle.pool_view.proofs.Parts.{mark_known, free_known, not_run_known}
use Rattle.pool_view.proofs.slots.slots_show_conditions.Goals as goal

pub returns-clause-held : goal.returns-clause-held
returns-clause-held c = λ p s claim part at held. mark_known p s claim.slot (λ m. IsHeldIn m claim) part at held

pub returns-clause-held_before : goal.returns-clause-held_before
returns-clause-held_before c = λ p s run part at held. mark_known p s run.claim.slot (λ m. IsHeldBefore m run) part at held

pub returns-clause-free : goal.returns-clause-free
returns-clause-free c = λ p s claim part at free. mark_known p s claim.slot (IsFreeFor claim) part at free

pub returns-clause-earlier : goal.returns-clause-earlier
returns-clause-earlier c = λ p s boot part earlier. mark_known p s s.slot (λ m. m.boot < boot) part refl earlier

pub returns-clause-spent : goal.returns-clause-spent
returns-clause-spent c = λ p s run part at spent. mark_known p s run.claim.slot (IsSpentAt run) part at spent

pub returns-clause-no_run : goal.returns-clause-no_run
returns-clause-no_run c = λ p s part none. free_known p s s.slot part refl none

pub returns-clause-other_run : goal.returns-clause-other_run
returns-clause-other_run c = not_run_known

pub returns-clause-own_run : goal.returns-clause-own_run
returns-clause-own_run c = λ p s r part its. part.own r its

pub returns-clause-ad : goal.returns-clause-ad
returns-clause-ad c = λ p s part. part.ad
