-- Histories go on.
use Rattle.std.proofs.Common.{◌≡◌, refl, sym, ◌∙◌, ap, subst, List, [], ◌∷◌, ◌++◌, Bool, Some, IfSome, map}
use Rattle.std.proofs.lemmas.List.{map-append}
use Rattle.pool_parts.specs.declared.answer.Stepped.{Stepped}
use Rattle.pool_parts.specs.declared.event.Event.{Event}
use Rattle.pool_rules.specs.Histories as accepted
use Rattle.pool_rules.specs.Histories.{Accepts, IsHistory, LeadsTo}
use Rattle.pool_state.specs.declared.opening.Opening.{Opening}
use Rattle.pool_state.specs.declared.state.PoolState.{PoolState}
use Rattle.pool_state.specs.Openings.{CanOpen, IsOpenedBy}
use Rattle.schedd_core.specs.ScheddParts.{IsOrdered}
use Rattle.pool_core.specs.declared.history.History.{History}
use Rattle.pool_core.specs.declared.history.Step.{Step}
use Rattle.pool_core.specs.Leading.{LeadsFromOpening, kept_step}

leads_on : (s : PoolState) (list : List accepted.Step) (t : PoolState) (e : Event) (r : Stepped) (new : PoolState) → LeadsTo s list t → Accepts t e r new → LeadsTo s (list ++ record { event = e; answer = r } ∷ []) new
leads_on s [] t e r new same a = (new, subst (λ (x : PoolState). Accepts x e r new) same a, refl)
leads_on s (h ∷ hs) t e r new (next, accepts, rest) a = (next, accepts, leads_on next hs t e r new rest a)

pub begins : (load : Bool) (s : PoolState) → LeadsFromOpening (record { opening = Some s; load = load; list = [] }) s
begins load s = record { opening = s; opened = refl; steps = []; kept = refl; leads = refl }

pub grows : (h : History) (s : PoolState) (e : Event) (r : Stepped) (new : PoolState) → LeadsFromOpening h s → Accepts s e r new → LeadsFromOpening (record h { list = h.list ++ record { event = e; kept = r.kept } ∷ [] }) new
grows h s e r new l a =
    let last : List accepted.Step = record { event = e; answer = r } ∷ [] in
    record {
      opening = l.opening;
      opened = l.opened;
      steps = l.steps ++ last;
      kept = ap (λ (list : List Step). list ++ record { event = e; kept = r.kept } ∷ []) l.kept ∙ sym (map-append kept_step l.steps last);
      leads = leads_on l.opening l.steps s e r new l.leads a;
    }

pub replays : (o : Opening) (h : History) (s : PoolState) → CanOpen o → IsOrdered o.queue → IfSome h.opening (IsOpenedBy o) → LeadsFromOpening h s → (list : List accepted.Step) × (h.list ≡ map kept_step list) × IsHistory o list s
replays o h s can queue opened l = (
  l.steps,
  l.kept,
  record {
    opening = l.opening;
    can = can;
    queue = queue;
    opened = subst (λ x. IfSome x (IsOpenedBy o)) l.opened opened;
    leads = l.leads;
  },
)
