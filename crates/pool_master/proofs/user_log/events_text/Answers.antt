use Rattle.std.proofs.Common.{◌≡◌, ◌∷◌, [], suc, length, string_bytes, rules, arith, ap}
use Rattle.thin_pool.specs.Events.{reading_of}
use Rattle.pool_input.specs.Readings.{IsInCalendar}
use Rattle.pool_master.specs.UserLog.{IsLines}
use Rattle.pool_master.proofs.UserLogs.{prints_on, prints_all, none_left, all_behind, last_cluster_grows}
use Rattle.pool_master.proofs.user_log.events_text.Goals as goal

pub steps-preserved : goal.steps-preserved
steps-preserved c =
    let inv = c.steps.invariant in
    let first : c.steps.rest.now ≡ c.in-Some.step.now ∷ c.in-Some.after.now = search rules in
    let printed : IsLines c.args.slots.now c.steps.last c.in-Some.after.now c.in-Some.step.now.event (string_bytes c.in_ok-lines.lines) = c.in_ok-lines.ensures in
    let more = last_cluster_grows c.steps.last c.in-Some.step.now.event in
    let len : length c.steps.rest.now ≡ suc (length c.in-Some.after.now) = ap length first in
    record {
      so_far = prints_on c.args.slots.now 0 c.steps.last c.last_cluster_with-last.result c.args.steps.now c.steps.rest.now c.in-Some.after.now c.in-Some.step.now (string_bytes c.steps.text) (string_bytes c.push_str.new.self) (string_bytes c.in_ok-lines.lines) first printed c.last_cluster_with-last.ensures (rw c.as_str.ensures.value at c.in_ok-push_str.ensures.bytes) inv.so_far;
      in_range = all_behind (λ s. IsInCalendar (reading_of s.event)) c.steps.rest.now c.in-Some.after.now c.in-Some.step.now first inv.in_range;
      few = let f = inv.few in let count = c.last_cluster_with-last.ensures in omega arith;
    }

pub returns : goal.returns
returns c =
    let none : c.steps.rest.now ≡ [] = none_left c.steps.rest.now (search rules) in
    prints_all c.args.slots.now 0 c.steps.last c.args.steps.now c.steps.rest.now (string_bytes c.steps.text) none c.steps.invariant.so_far
