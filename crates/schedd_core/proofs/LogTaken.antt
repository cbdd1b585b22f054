-- What comes of a plan that was logged, and what is sent then.
use Rattle.std.proofs.Common.{◌≡◌, ◌⊎◌, inl, inr, ℕ, ◌+◌, List, [], ◌∷◌, ◌++◌, Bool, true, false, Option, Some, None, ap, sym, ◌∙◌}
use Rattle.ad_tree.specs.Ad.{Attributes}
use Rattle.claim_id.specs.declared.numbers.ClaimId.{ClaimId}
use Rattle.claim_id.specs.declared.numbers.JobId.{JobId}
use Rattle.claim_id.specs.declared.numbers.RunNo.{RunNo}
use Rattle.pool_mail.specs.Ads.{request_ad}
use Rattle.pool_mail.specs.declared.mail.Mail.{Mail}
use Rattle.pool_mail.specs.declared.mail.Mail.TheVariants as mail
use Rattle.schedd_plan.specs.declared.plan.Completion.{Completion}
use Rattle.schedd_plan.specs.declared.plan.JobPlan.{JobPlan}
use Rattle.schedd_plan.specs.declared.plan.JobPlan.TheVariants as plan
use Rattle.schedd_plan.specs.declared.reason.Reason.{Reason}
use Rattle.schedd_state.specs.declared.change.ClaimsChange.TheVariants as claims
use Rattle.schedd_state.specs.declared.change.LeftChange.{LeftChange}
use Rattle.schedd_state.specs.declared.change.LeftChange.TheVariants as left
use Rattle.schedd_state.specs.declared.change.LooksChange.{LooksChange}
use Rattle.schedd_state.specs.declared.change.LooksChange.TheVariants as looks
use Rattle.schedd_state.specs.declared.change.RunsChange.TheVariants as runs
use Rattle.schedd_state.specs.declared.change.ScheddChange.{ScheddChange}
use Rattle.schedd_state.specs.PreparedSchedds.{change_after}
use Rattle.schedd_state.specs.Schedds.{ScheddValue}
use Rattle.schedd_core.specs.Logging.{activates, after_plan, alives, stops}

-- ---- what it changes
abbrev logged_change : ℕ → LeftChange → LooksChange → ScheddChange
logged_change next l k = record { next_run = next; left = l; claims = claims.Same; runs = runs.Same; looks = k; waiting = None }

logged_so : (v : ScheddValue) (change : ScheddChange) (next number : ℕ) (l : LeftChange) (k : LooksChange) → change ≡ logged_change next l k → next ≡ number → change_after change v ≡ change_after (logged_change number l k) v
logged_so v change next number l k is same = ap (λ (c : ScheddChange). change_after c v) is ∙ ap (λ n. change_after (logged_change n l k) v) same

pub put_settled : (v : ScheddValue) (change : ScheddChange) (next : ℕ) (job : JobId) (p : JobPlan)
    → change ≡ logged_change next (left.TakeOff job) looks.Same → next ≡ v.next_run → (p ≡ plan.PutIdle job) ⊎ ((reason : Reason) × (p ≡ plan.PutHeld job reason)) → change_after change v ≡ after_plan p v
unfolding after_plan
put_settled v change next job p is same (inl idle) = logged_so v change next v.next_run (left.TakeOff job) looks.Same is same ∙ ap (λ (x : JobPlan). after_plan x v) (sym idle)
put_settled v change next job p is same (inr held) = logged_so v change next v.next_run (left.TakeOff job) looks.Same is same ∙ ap (λ (x : JobPlan). after_plan x v) (sym held.1)

pub completed_settled : (v : ScheddValue) (change : ScheddChange) (next : ℕ) (job : JobId) (p : JobPlan)
    → change ≡ logged_change next (left.TakeOff job) (looks.Forget job) → next ≡ v.next_run → ((completion : Completion) × (p ≡ plan.Complete job completion)) ⊎ (p ≡ plan.Remove job) → change_after change v ≡ after_plan p v
unfolding after_plan
completed_settled v change next job p is same (inl ended) = logged_so v change next v.next_run (left.TakeOff job) (looks.Forget job) is same ∙ ap (λ (x : JobPlan). after_plan x v) (sym ended.1)
completed_settled v change next job p is same (inr removed) = logged_so v change next v.next_run (left.TakeOff job) (looks.Forget job) is same ∙ ap (λ (x : JobPlan). after_plan x v) (sym removed)

pub grant_settled : (v : ScheddValue) (change : ScheddChange) (next : ℕ) (p : JobPlan) (job : JobId) (claim : ClaimId) (number until : ℕ) (header : Bool)
    → change ≡ logged_change next left.Same looks.Same → next ≡ number + 1 → p ≡ plan.Grant job claim number until header → change_after change v ≡ after_plan p v
unfolding after_plan
grant_settled v change next p job claim number until header is more granted =
    logged_so v change next (number + 1) left.Same looks.Same is more ∙ ap (λ (x : JobPlan). after_plan x v) (sym granted)

-- ---- what is sent
pub none_told : (mails : List Mail) (o : Option RunNo) (stopped : Bool) (until : ℕ) → mails ≡ [] → None ≡ o → mails ≡ alives o stopped until
none_told mails o stopped until empty none = empty ∙ ap (λ (x : Option RunNo). alives x stopped until) none

pub run_told : (mails : List Mail) (run : RunNo) (o : Option RunNo) (stopped : Bool) (until : ℕ) (new told : List Mail)
    → new ≡ [] → told ≡ new ++ mail.Alive run until ∷ [] → Some run ≡ o → mails ≡ told → false ≡ stopped → mails ≡ alives o stopped until
run_told mails run o stopped until new told empty put at same going =
    same ∙ put ∙ ap (λ (l : List Mail). l ++ mail.Alive run until ∷ []) empty ∙ ap (λ b. alives (Some run) b until) going ∙ ap (λ (x : Option RunNo). alives x stopped until) at

pub stop_told : (mails : List Mail) (run : RunNo) (o : Option RunNo) (stopped : Bool) (until : ℕ) (new told both : List Mail)
    → new ≡ [] → told ≡ new ++ mail.Alive run until ∷ [] → Some run ≡ o → both ≡ told ++ mail.Stop run ∷ [] → mails ≡ both → true ≡ stopped → mails ≡ alives o stopped until
stop_told mails run o stopped until new told both empty put at more same marked =
    same ∙ more ∙ ap (λ (l : List Mail). l ++ mail.Stop run ∷ []) (put ∙ ap (λ (l : List Mail). l ++ mail.Alive run until ∷ []) empty)
    ∙ ap (λ b. alives (Some run) b until) marked ∙ ap (λ (x : Option RunNo). alives x stopped until) at

pub none_stopped : (mails new : List Mail) (o : Option RunNo) → new ≡ [] → None ≡ o → mails ≡ new → mails ≡ stops o
none_stopped mails new o empty none same = same ∙ empty ∙ ap stops none

pub run_stopped : (mails : List Mail) (run : RunNo) (o : Option RunNo) (new told : List Mail) → new ≡ [] → told ≡ new ++ mail.Stop run ∷ [] → Some run ≡ o → mails ≡ told → mails ≡ stops o
run_stopped mails run o new told empty put at same = same ∙ put ∙ ap (λ (l : List Mail). l ++ mail.Stop run ∷ []) empty ∙ ap stops at

pub none_activated : (mails : List Mail) (run : RunNo) (job : JobId) (until : ℕ) (o : Option Attributes) (new : List Mail) → new ≡ [] → None ≡ o → mails ≡ new → mails ≡ activates o run job until
none_activated mails run job until o new empty none same = same ∙ empty ∙ ap (λ (x : Option Attributes). activates x run job until) none

pub run_activated : (mails : List Mail) (run : RunNo) (job : JobId) (until : ℕ) (ad request : Attributes) (o : Option Attributes) (new told : List Mail)
    → new ≡ [] → told ≡ new ++ mail.Activate run job request until ∷ [] → request ≡ request_ad ad → Some ad ≡ o → mails ≡ told → mails ≡ activates o run job until
run_activated mails run job until ad request o new told empty put requested at same =
    same ∙ put ∙ ap (λ (l : List Mail). l ++ mail.Activate run job request until ∷ []) empty
    ∙ ap (λ (x : Attributes). mail.Activate run job x until ∷ []) requested ∙ ap (λ (x : Option Attributes). activates x run job until) at
