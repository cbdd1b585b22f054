-- The pool that opens, by its parts.
use Rattle.std.proofs.Common.{◌≡◌, ℕ, ◌+◌, ◌*◌, ◌^◌, ◌≤◌, List, length, map, min, ap, sym, ◌∙◌, subst, arith}
use Rattle.pool_parts.specs.Sizes.{queue_count}
use Rattle.pool_state.specs.declared.opening.Opening.{Opening}
use Rattle.pool_state.specs.declared.opening.QueueParts.{QueueParts}
use Rattle.pool_state.specs.declared.opening.Tables.{Tables}
use Rattle.pool_state.specs.declared.state.PoolState.{PoolState}
use Rattle.pool_state.specs.Openings.{AreListed, AreRemoved, CanOpen, HasNoMails, IsJoined, IsOpenedBy, opening_startds, startds_of}
use Rattle.pool_tables.specs.DaemonTables.{first_daemons}
use Rattle.pool_tables.specs.OrderTables.{not_given}
use Rattle.schedd_state.specs.Schedds.{IsOpened}
use Rattle.startd_core.specs.Startds.{StartdValue}

-- what was made of an opening
pub record IsMade (o : Opening) (boot machines : ℕ) (startds : List StartdValue) (t : Tables) (p : QueueParts) : Type 0 where
  pub boot_is : boot ≡ o.pool_boot * 2 ^ 32 + 0
  pub startds_are : startds ≡ startds_of (record { settings = o.settings; boot = boot; secret_key = o.secret_key }) o.slots
  pub count : machines ≡ length startds
  pub daemons : t.daemons ≡ first_daemons machines boot o.allow.crashes
  pub mails : HasNoMails machines o.allow.repeats t.mails
  pub orders : t.orders ≡ map not_given o.wishes
  pub schedd : IsOpened o.queue o.settings p.schedd
  pub acked : AreListed o.queue p.acked
  pub ordered : AreRemoved o.queue p.ordered

none_more : (n : ℕ) → n + 0 ≡ n
none_more n = omega arith

few_bytes : (n : ℕ) → n ≤ 268435456 → min n 18446744073709551615 ≡ n
few_bytes n few = omega (arith, few)

pub opened : (o : Opening) (boot machines : ℕ) (startds : List StartdValue) (t : Tables) (p : QueueParts) (s : PoolState)
    → CanOpen o → IsMade o boot machines startds t p → IsJoined o startds t p s → IsOpenedBy o s
opened o boot machines startds t p s can made joined =
    let boot_same : boot ≡ o.pool_boot * 2 ^ 32 = made.boot_is ∙ none_more (o.pool_boot * 2 ^ 32) in
    let all : startds ≡ opening_startds o =
    made.startds_are ∙ ap (λ b. startds_of (record { settings = o.settings; boot = b; secret_key = o.secret_key }) o.slots) boot_same in
    let count : machines ≡ length (opening_startds o) = made.count ∙ ap length all in
    record {
      machines = joined.machines ∙ all;
      daemons = joined.daemons ∙ made.daemons ∙ (λ i. first_daemons (count i) (boot_same i) o.allow.crashes);
      mails = subst (λ m. HasNoMails (length (opening_startds o)) o.allow.repeats m) (sym joined.mails)
          (subst (λ n. HasNoMails n o.allow.repeats t.mails) count made.mails);
      orders = joined.orders ∙ made.orders;
      schedd = subst (λ v. IsOpened o.queue o.settings v) (sym joined.schedd) made.schedd;
      queue = joined.queue;
      pending = joined.pending;
      next_tx = joined.next_tx;
      finished = joined.finished;
      acked = subst (λ jobs. AreListed o.queue jobs) (sym joined.acked) made.acked;
      ordered = subst (λ jobs. AreRemoved o.queue jobs) (sym joined.ordered) made.ordered;
      reports = joined.reports;
      log_mark = joined.log_mark;
      end_marks = joined.end_marks;
      settings = joined.settings;
      latest = joined.latest;
      events = joined.events;
      closed = joined.closed;
      jobs = joined.jobs ∙ ap length (sym joined.acked);
      bytes = joined.bytes ∙ few_bytes (queue_count o.queue) can.bytes;
    }
