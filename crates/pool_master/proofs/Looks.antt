-- A child that was launched and looked at until it had ended.
use Rattle.std.proofs.Common.{◌≡◌, ◌≢◌, ◌∙◌, ◌+◌, ◌++◌, ◌∷◌, [], ◌≤◌, ℕ, ℤ, true, List, length, Result, Ok, IfOk, sym, ap, subst, arith}
use Rattle.pool_outer.specs.Cause.{HasCause}
use Rattle.pool_outer.specs.Children.{Sees}
use Rattle.pool_outer.specs.declared.spawner.ChildState.{ChildState}
use Rattle.pool_outer.specs.declared.spawner.Launch.{Launch}
use Rattle.pool_outer.specs.declared.spawner.SpawnError.{SpawnError}
use Rattle.pool_mail.specs.declared.end.End.{End}
use Rattle.pool_mail.specs.declared.end.End.TheVariants.{Exited, Signalled, NotStarted}
use Rattle.pool_master.specs.Runs.{child_launch, child_state}
use Rattle.pool_master.specs.Follows.{RunsChild}
use Rattle.pool_master.specs.Seen.{SpawnerSeen}

-- what the looks so far have left, all of which found it running
pub record IsLookedAt (what : Launch) (child : ℕ) (old now : SpawnerSeen) : Type 0 where
  pub child_is : child ≡ old.count
  pub count : now.count ≡ old.count + 1
  pub launched : old.tells ≡ true → now.launches ≡ old.launches ++ what ∷ []
  pub others : old.tells ≡ true → (k : ℕ) → k ≢ old.count → now.seen k ≡ old.seen k
  pub spared : old.tells ≡ true → (k : ℕ) → now.killed k ≡ old.killed k
  pub told : now.tells ≡ old.tells
  pub later : old.faults ≤ now.faults

-- what the last look does, which finds that it has ended
pub record IsLastLook (child : ℕ) (state : ChildState) (old now : SpawnerSeen) : Type 0 where
  pub sees : old.tells ≡ true → Sees child state old.seen now.seen
  pub count : now.count ≡ old.count
  pub launched : old.tells ≡ true → now.launches ≡ old.launches
  pub spared : old.tells ≡ true → (k : ℕ) → now.killed k ≡ old.killed k
  pub told : now.tells ≡ old.tells
  pub later : old.faults ≤ now.faults

pub last_look : (child : ℕ) (r : Result ChildState SpawnError) (found state : ChildState) (fault : SpawnError) (old now : SpawnerSeen) → r ≡ Ok found → found ≡ state → (old.tells ≡ true → IfOk r (λ s. Sees child s old.seen now.seen)) → now.count ≡ old.count → (old.tells ≡ true → now.launches ≡ old.launches) → (old.tells ≡ true → (k : ℕ) → now.killed k ≡ old.killed k) → now.tells ≡ old.tells → HasCause fault old.faults now.faults r → IsLastLook child state old now
last_look child r found state fault old now is same sees count launched spared told cause = record {
  sees = λ tells. subst (λ (s : ChildState). Sees child s old.seen now.seen) same (subst (λ (q : Result ChildState SpawnError). IfOk q (λ s. Sees child s old.seen now.seen)) is (sees tells));
  count = count;
  launched = launched;
  spared = spared;
  told = told;
  later = cause.later;
}

pub has_ended : (what : Launch) (end : End) (state : ChildState) (child : ℕ) (old mid now : SpawnerSeen) → child_launch what end ≡ what ∷ [] → state ≡ child_state end → end ≢ NotStarted → (old.tells ≡ true → length old.launches ≡ old.count) → IsLookedAt what child old mid → IsLastLook child state mid now → RunsChild what end old now
has_ended what end state child old mid now one shown started all before last = record {
  told = last.told ∙ before.told;
  all = all;
  counted = last.count ∙ (before.count ∙ ap (λ (l : List Launch). old.count + length l) (sym one));
  launched = λ tells. last.launched (before.told ∙ tells) ∙ (before.launched tells ∙ ap (λ (l : List Launch). old.launches ++ l) (sym one));
  looked = λ tells yes. ap now.seen (sym before.child_is) ∙ ((last.sees (before.told ∙ tells)).seen ∙ shown);
  others = λ tells k other. (last.sees (before.told ∙ tells)).others k (λ is. other (is ∙ before.child_is)) ∙ before.others tells k other;
  spared = λ tells k. last.spared (before.told ∙ tells) k ∙ before.spared tells k;
  not_started = λ is. absurd (started is);
  later = let a = before.later in let b = last.later in omega arith;
}

pub exited_started : (code : ℤ) → Exited code ≢ NotStarted
exited_started code is = cc

pub signalled_started : (signal : ℤ) → Signalled signal ≢ NotStarted
signalled_started signal is = cc
