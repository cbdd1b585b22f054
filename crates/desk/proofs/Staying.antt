-- A pass that stays as it is.
use Rattle.std.proofs.Common.{◌≡◌, Bool, List, Option, sym, ◌∙◌, ap, subst}
use Rattle.desk.specs.declared.entry.Entry.{Entry}
use Rattle.desk.specs.Logs.{IsLoggedQueue}
use Rattle.desk.specs.SolePasses.{SolePassValue}
use Rattle.desk.specs.Standing.{end_mark_of, logged_before}
use Rattle.pool_outer.specs.declared.gate.Daemon.{Daemon}
use Rattle.pool_state.specs.declared.state.PoolState.{PoolState}
use Rattle.queue_tx.specs.Queues.{KeyedAds}

pub record Stays (who : Option Daemon) (items : List Entry) (s : PoolState) (p : SolePassValue) : Type 0 where
  pub holder : who ≡ p.holder
  pub first : logged_before items s ≡ logged_before p.mine p.pool
  pub log_mark : s.log_mark ≡ p.pool.log_mark
  pub end_mark : end_mark_of who s ≡ end_mark_of p.holder p.pool
  pub same : s ≡ p.pool
  pub queue : (q : KeyedAds) → IsLoggedQueue q p.mine p.pool.queue → IsLoggedQueue q items s.queue
  pub refused : items ≡ p.mine

pub stays : (holder : Option Daemon) (items mine : List Entry) (closed : Bool) (s pool : PoolState) (p : SolePassValue) → items ≡ mine → s ≡ pool → p ≡ record { holder = holder; mine = mine; closed = closed; pool = pool } → Stays holder items s p
stays holder items mine closed s pool p items_are pool_is view_is =
    let now : SolePassValue = record { holder = holder; mine = items; closed = closed; pool = s } in
    let before : SolePassValue = record { holder = holder; mine = mine; closed = closed; pool = pool } in
    let unchanged : now ≡ before = λ i. record { holder = holder; mine = items_are i; closed = closed; pool = pool_is i } in
    let is : now ≡ p = unchanged ∙ sym view_is in
    record {
      holder = ap (λ (p : SolePassValue). p.holder) is;
      first = ap (λ (p : SolePassValue). logged_before p.mine p.pool) is;
      log_mark = ap (λ (p : SolePassValue). p.pool.log_mark) is;
      end_mark = ap (λ (p : SolePassValue). end_mark_of p.holder p.pool) is;
      same = ap (λ (p : SolePassValue). p.pool) is;
      queue = λ q logged. subst (λ (p : SolePassValue). IsLoggedQueue q p.mine p.pool.queue) (sym is) logged;
      refused = ap (λ (p : SolePassValue). p.mine) is;
    }
