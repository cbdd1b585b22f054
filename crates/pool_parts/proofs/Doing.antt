-- A plan of a job of a queue that has room can be done.
use Rattle.std.proofs.Common.{◌≡◌, inl, inr, ◌⊎◌, ℕ, ◌+◌, Bool, true, false, cond, List, [], ◌∷◌, ◌++◌, Option, Some, None, is_some, IsSome, Ok, Err, refl, ap, sym, ◌∙◌, subst}
use Rattle.std.specs.Prelude.{IfSome}
use Rattle.ad_tree.specs.Tree.{Tree}
use Rattle.ad_tree.specs.Ad.{Attributes, with_attribute, without}
use Rattle.claim_id.specs.declared.numbers.JobId.{JobId}
use Rattle.queue_tx.specs.declared.error.ApplyError.TheVariants.{Full}
use Rattle.queue_tx.specs.declared.key.Key.{Key}
use Rattle.queue_tx.specs.declared.key.Key.TheVariants.{Header, Proc}
use Rattle.queue_tx.specs.Keys.{same_key, same_key_laws}
use Rattle.queue_tx.specs.Operations.{Operation, new_ad, destroy_ad, set_attr, delete_attr, key_of}
use Rattle.queue_tx.specs.Queues.{KeyedAds, IsQueue, ad_at, ad_after, put_back, with_ad, after_ops, after_rest, queue_after}
use Rattle.queue_tx.specs.Room.{is_kept_name}
use Rattle.queue_tx.proofs.Queues.{found_with, ordered_with}
use Rattle.queue_tx.specs.Roomy.{HasRoom, IsRoomy}
use Rattle.queue_tx.proofs.RoomKept.{no_attributes, set_room, without_room}
use Rattle.queue_tx.proofs.Rooms.{room_for_the_pool}
use Rattle.queue_tx.proofs.Transactions.{same_keys, sequence_is_one}
use Rattle.schedd_plan.specs.declared.plan.Completion.{Completion}
use Rattle.schedd_plan.specs.declared.plan.Completion.TheVariants.{Exited, Signalled}
use Rattle.schedd_plan.specs.declared.plan.JobPlan.{JobPlan}
use Rattle.schedd_plan.specs.declared.plan.JobPlan.TheVariants as plan
use Rattle.schedd_plan.specs.Plans.{job_of, plan_ops, idle_ops, held_ops, mark_held_ops, status_op, exit_ops, lease_ops, run_ops, next_run_ops, header_op, grant_ops}
use Rattle.pool_parts.specs.Loggable.{KnowsHeader}

-- ---- a queue in which certain keys stand
abbrev pub Stands : Key → KeyedAds → Type 0
Stands key q = (ad : Attributes) × (ad_at key q ≡ Some ad)

pub record IsReady (T : Key → Type 0) (q : KeyedAds) : Type 0 where
  pub queue : IsQueue q
  pub roomy : IsRoomy q
  pub there : (key : Key) → T key → Stands key q

-- operations lead to one
pub record Goes (T : Key → Type 0) (q : KeyedAds) (os : List Operation) : Type 0 where
  pub new : KeyedAds
  pub done : queue_after q os ≡ Ok new
  pub ready : IsReady T new

abbrev pub IsDone : KeyedAds → List Operation → Type 0
IsDone q os = (new : KeyedAds) × (queue_after q os ≡ Ok new)

pub goes_on : (T U : Key → Type 0) (q : KeyedAds) (xs ys : List Operation) → Goes T q xs → ((new : KeyedAds) → IsReady T new → Goes U new ys) → Goes U q (xs ++ ys)
goes_on T U q xs ys g more =
    let then = more g.new g.ready in
    record { new = then.new; done = (sequence_is_one q g.new xs ys g.done then.new).0 then.done; ready = then.ready }

pub ends_so : (T : Key → Type 0) (q : KeyedAds) (xs ys : List Operation) → Goes T q xs → ((new : KeyedAds) → IsReady T new → IsDone new ys) → IsDone q (xs ++ ys)
ends_so T q xs ys g more =
    let last = more g.new g.ready in
    (last.0, (sequence_is_one q g.new xs ys g.done last.0).0 last.1)

-- an ad is put under a key
pub put : (T U : Key → Type 0) (q : KeyedAds) (k : Key) (made : Attributes) → ((key : Key) → U key → T key ⊎ (key ≡ k)) → HasRoom k made → IsReady T q → IsReady U (with_ad k (Some made) q)
put T U q k made from room r = record {
  queue = ordered_with k (Some made) q r.queue;
  roomy = λ key. subst (λ o. IfSome o (HasRoom key)) (sym (found_with key k (Some made) q r.queue)) (roomy_by key (same_key k key) refl);
  there = λ key t. there_by key (same_key k key) refl (from key t);
}
  where
    roomy_by : (key : Key) (b : Bool) → same_key k key ≡ b → IfSome (cond b (Some made) (ad_at key q)) (HasRoom key)
    roomy_by key true is = subst (λ j. HasRoom j made) (same_keys k key is) room
    roomy_by key false is = r.roomy key

    there_by : (key : Key) (b : Bool) → same_key k key ≡ b → T key ⊎ (key ≡ k) → Stands key (with_ad k (Some made) q)
    there_by key true is t = (made, found_with key k (Some made) q r.queue ∙ ap (λ b. cond b (Some made) (ad_at key q)) is)
    there_by key false is (inl t) =
        let s = r.there key t in
        (s.0, found_with key k (Some made) q r.queue ∙ ap (λ b. cond b (Some made) (ad_at key q)) is ∙ s.1)
    there_by key false is (inr e) = let clash : true ≡ false = sym (same_key_laws.refl k) ∙ ap (same_key k) (sym e) ∙ is in cc

-- ---- one operation
pub one_op : (q : KeyedAds) (o : Operation) (a made : Option Attributes) → ad_at (key_of o) q ≡ a → ad_after 0 a o ≡ Ok made → queue_after q (o ∷ []) ≡ Ok (with_ad (key_of o) made q)
one_op q o a made at after =
    ap (after_rest (λ p. after_ops (0 + 1) p [])) (ap (λ x. put_back (key_of o) q (ad_after 0 x o)) at ∙ ap (put_back (key_of o) q) after)

pub room_at : (T : Key → Type 0) (q : KeyedAds) (k : Key) (ad : Attributes) → ad_at k q ≡ Some ad → IsReady T q → HasRoom k ad
room_at T q k ad at r = subst (λ o. IfSome o (HasRoom k)) at (r.roomy k)

pub set_goes : (T : Key → Type 0) (q : KeyedAds) (k : Key) (name : List ℕ) (e : Tree) → T k → is_kept_name k name ≡ true → IsReady T q → Goes T q (set_attr k name e ∷ [])
set_goes T q k name e t kept r =
    let s = r.there k t in
    let room = room_at T q k s.0 s.1 r in
    let fits = room_for_the_pool k s.0 name room.ad_is room.own kept in
    record {
      new = with_ad k (Some (with_attribute name e s.0)) q;
      done = one_op q (set_attr k name e) (Some s.0) (Some (with_attribute name e s.0)) s.1 (ap (λ b. cond b (Err (Full 0)) (Ok (Some (with_attribute name e s.0)))) fits);
      ready = put T T q k (with_attribute name e s.0) (λ key t. inl t) (set_room k s.0 name e room fits) r;
    }

pub delete_goes : (T : Key → Type 0) (q : KeyedAds) (k : Key) (name : List ℕ) → T k → IsReady T q → Goes T q (delete_attr k name ∷ [])
delete_goes T q k name t r =
    let s = r.there k t in
    record {
      new = with_ad k (Some (without name s.0)) q;
      done = one_op q (delete_attr k name) (Some s.0) (Some (without name s.0)) s.1 refl;
      ready = put T T q k (without name s.0) (λ key t. inl t) (without_room k s.0 name (room_at T q k s.0 s.1 r)) r;
    }

pub new_goes : (T U : Key → Type 0) (q : KeyedAds) (k : Key) (kind other : List ℕ) → ad_at k q ≡ None → ((key : Key) → U key → T key ⊎ (key ≡ k)) → IsReady T q → Goes U q (new_ad k kind other ∷ [])
new_goes T U q k kind other none from r = record {
  new = with_ad k (Some []) q;
  done = one_op q (new_ad k kind other) None (Some []) none refl;
  ready = put T U q k [] from (no_attributes k) r;
}

destroy_done : (T : Key → Type 0) (q : KeyedAds) (k : Key) → T k → IsReady T q → IsDone q (destroy_ad k ∷ [])
destroy_done T q k t r = let s = r.there k t in (with_ad k None q, one_op q (destroy_ad k) (Some s.0) None s.1 refl)

-- ---- operations that set what the pool sets
abbrev pub AreSettings : (Key → Type 0) → List Operation → Type 0
AreSettings T [] = Unit {0}
AreSettings T (new_ad key kind other ∷ os) = ⊥
AreSettings T (destroy_ad key ∷ os) = ⊥
AreSettings T (set_attr key name e ∷ os) = T key × (is_kept_name key name ≡ true) × AreSettings T os
AreSettings T (delete_attr key name ∷ os) = T key × AreSettings T os

pub settings_go : (T : Key → Type 0) (q : KeyedAds) (os : List Operation) → AreSettings T os → IsReady T q → Goes T q os
settings_go T q [] are r = record { new = q; done = refl; ready = r }
settings_go T q (new_ad key kind other ∷ os) are r = absurd are
settings_go T q (destroy_ad key ∷ os) are r = absurd are
settings_go T q (set_attr key name e ∷ os) are r =
    goes_on T T q (set_attr key name e ∷ []) os (set_goes T q key name e are.0 are.1 r) (λ new s. settings_go T new os are.2 s)
settings_go T q (delete_attr key name ∷ os) are r =
    goes_on T T q (delete_attr key name ∷ []) os (delete_goes T q key name are.0 r) (λ new s. settings_go T new os are.1 s)

set_all : (T : Key → Type 0) (q : KeyedAds) (os : List Operation) → AreSettings T os → IsReady T q → IsDone q os
set_all T q os are r = let g = settings_go T q os are r in (g.new, g.done)

-- ---- plans
abbrev OfJob : JobId → Key → Type 0
OfJob job key = key ≡ Proc job

abbrev OfBoth : JobId → Key → Type 0
OfBoth job key = (key ≡ Proc job) ⊎ (key ≡ Header)

pub stands_if : (key : Key) (q : KeyedAds) → is_some (ad_at key q) ≡ true → Stands key q
stands_if key q some = by (ad_at key q) refl some
  where
    by : (o : Option Attributes) → ad_at key q ≡ o → is_some o ≡ true → Stands key q
    by None is h = cc
    by (Some ad) is h = (ad, is)

pub none_if : (key : Key) (q : KeyedAds) → is_some (ad_at key q) ≡ false → ad_at key q ≡ None
none_if key q none = by (ad_at key q) none
  where
    by : (o : Option Attributes) → is_some o ≡ false → o ≡ None
    by None h = refl
    by (Some ad) h = cc

abbrev of_exit : (job : JobId) (c : Completion) → AreSettings (OfJob job) (status_op job 4 ∷ exit_ops job c)
of_exit job (Exited code) = (refl, refl, (refl, refl, (refl, refl, tt)))
of_exit job (Signalled signal) = (refl, refl, (refl, refl, (refl, refl, tt)))

ready_for : (q : KeyedAds) (job : JobId) → IsQueue q → IsRoomy q → IsSome (ad_at (Proc job) q) → IsReady (OfJob job) q
ready_for q job s room some = record {
  queue = s;
  roomy = room;
  there = λ key is. subst (λ k. Stands k q) (sym is) (stands_if (Proc job) q some);
}

grant_done : (q : KeyedAds) (job : JobId) (claim : Rattle.claim_id.specs.declared.numbers.ClaimId.ClaimId) (number until : ℕ) (header : Bool) → header ≡ is_some (ad_at Header q) → IsReady (OfJob job) q → IsDone q (grant_ops job claim number until header)
grant_done q job claim number until true knows r =
    set_all (OfBoth job) q (grant_ops job claim number until true)
    (inl refl, refl, (inl refl, refl, (inl refl, refl, (inl refl, refl, (inr refl, refl, tt)))))
    (record { queue = r.queue; roomy = r.roomy; there = there })
  where
    there : (key : Key) → OfBoth job key → Stands key q
    there key (inl is) = r.there key is
    there key (inr is) = subst (λ k. Stands k q) (sym is) (stands_if Header q (sym knows))
grant_done q job claim number until false knows r =
    ends_so (OfBoth job) q (header_op ∷ []) (next_run_ops number ++ run_ops job claim number until)
    (new_goes (OfJob job) (OfBoth job) q Header _ _ (none_if Header q (sym knows)) (λ key t. t) r)
    (λ new s. set_all (OfBoth job) new (next_run_ops number ++ run_ops job claim number until)
    (inr refl, refl, (inl refl, refl, (inl refl, refl, (inl refl, refl, (inl refl, refl, tt))))) s)

pub plan_done : (q : KeyedAds) (p : JobPlan) → IsQueue q → IsRoomy q → IsSome (ad_at (Proc (job_of p)) q) → KnowsHeader q p → IsDone q (plan_ops p)
unfolding plan_ops
plan_done q (plan.PutIdle job) s room some knows = set_all (OfJob job) q (idle_ops job) (refl, refl, (refl, (refl, (refl, tt)))) (ready_for q job s room some)
plan_done q (plan.PutHeld job reason) s room some knows = set_all (OfJob job) q (held_ops job reason) (refl, refl, (refl, refl, (refl, (refl, (refl, tt))))) (ready_for q job s room some)
plan_done q (plan.Complete job (Exited code)) s room some knows =
    ends_so (OfJob job) q (status_op job 4 ∷ exit_ops job (Exited code)) (destroy_ad (Proc job) ∷ [])
    (settings_go (OfJob job) q (status_op job 4 ∷ exit_ops job (Exited code)) (of_exit job (Exited code)) (ready_for q job s room some))
    (λ new r. destroy_done (OfJob job) new (Proc job) refl r)
plan_done q (plan.Complete job (Signalled signal)) s room some knows =
    ends_so (OfJob job) q (status_op job 4 ∷ exit_ops job (Signalled signal)) (destroy_ad (Proc job) ∷ [])
    (settings_go (OfJob job) q (status_op job 4 ∷ exit_ops job (Signalled signal)) (of_exit job (Signalled signal)) (ready_for q job s room some))
    (λ new r. destroy_done (OfJob job) new (Proc job) refl r)
plan_done q (plan.Remove job) s room some knows =
    ends_so (OfJob job) q (status_op job 3 ∷ []) (destroy_ad (Proc job) ∷ [])
    (settings_go (OfJob job) q (status_op job 3 ∷ []) (refl, refl, tt) (ready_for q job s room some))
    (λ new r. destroy_done (OfJob job) new (Proc job) refl r)
plan_done q (plan.MarkRemoved job) s room some knows = set_all (OfJob job) q (status_op job 3 ∷ []) (refl, refl, tt) (ready_for q job s room some)
plan_done q (plan.MarkHeld job reason) s room some knows = set_all (OfJob job) q (mark_held_ops job reason) (refl, refl, (refl, refl, tt)) (ready_for q job s room some)
plan_done q (plan.MarkRunning job) s room some knows = set_all (OfJob job) q (status_op job 2 ∷ []) (refl, refl, tt) (ready_for q job s room some)
plan_done q (plan.Lengthen job until) s room some knows = set_all (OfJob job) q (lease_ops job until) (refl, refl, tt) (ready_for q job s room some)
plan_done q (plan.Grant job claim number until header) s room some knows = grant_done q job claim number until header knows (ready_for q job s room some)
