-- A machine's startd: what it keeps, and what each event makes of it.
use Rattle.std.specs.Prelude.{ℕ, ◌+◌, ◌-◌, ◌==◌, Bool, false, ◌&&◌, ◌||◌, List, [], ◌∷◌, ◌++◌, length, slice_get, slice_set, Option, Some, None, nat_le, nat_lt, if◌then◌else◌}
use Rattle.ad_tree.specs.Ad.{Attributes}
use Rattle.ad_eval.specs.Judgement.{Judgement}
use Rattle.claim_id.specs.declared.numbers.ClaimNo.{ClaimNo}
use Rattle.claim_id.specs.declared.numbers.RunNo.{RunNo}
use Rattle.claim_id.specs.declared.numbers.SlotId.{SlotId}
use Rattle.pool_mail.specs.declared.end.Ending.{Ending}
use Rattle.pool_mail.specs.declared.mail.Mail.{Mail}
use Rattle.pool_mail.specs.declared.settings.Settings.{Settings}
use Rattle.startd_core.specs.declared.answer.StartdAnswer.{StartdAnswer}
use Rattle.startd_core.specs.declared.answer.StartdAnswer.TheVariants as answer
use Rattle.startd_core.specs.declared.answer.StartdStep.{StartdStep}
use Rattle.startd_core.specs.declared.conclude.Conclusion.{Conclusion}
use Rattle.startd_core.specs.declared.conclude.Made.{Made}
use Rattle.startd_core.specs.declared.offers.Machine.{Machine}
use Rattle.startd_slot.specs.declared.reaction.Reaction.{Reaction}
use Rattle.startd_slot.specs.declared.reaction.Task.{Task}
use Rattle.startd_slot.specs.declared.reaction.Task.TheVariants as task
use Rattle.startd_slot.specs.declared.slot.Slot.{Slot}
use Rattle.startd_slot.specs.declared.slot.SlotState.{SlotState}
use Rattle.startd_core.specs.declared.tick.TickRow.{TickRow}
use Rattle.startd_core.specs.declared.ticks.Ticks.{Ticks}
use Rattle.startd_slot.specs.EndingTable.{after_ending}
use Rattle.startd_core.specs.Offers.{Settled, settled, update_of, with_told, has_changed, has_entered}
use Rattle.startd_slot.specs.Mails.{asked_claim, reaction_to, is_judged}
use Rattle.startd_slot.specs.SlotStates.{slot_after_boot, runs_on}
use Rattle.startd_core.specs.TickTable.{is_update_due, slot_row, after_tick_row, killed_by}

pub record StartdValue : Type 0 where
  pub machine : Machine
  pub settings : Settings
  pub offers : ℕ  -- how many claims the machine has offered, over all its boots
  pub slots : List Slot  -- in order, with the numbers from 1
  pub ticked : Option ℕ  -- the reading of the last tick of this boot
  pub restless : Bool  -- a slot entered Owner, Retiring or Vacating in the last tick or after it

abbrev pub startd_value : Machine → Settings → ℕ → List Slot → Option ℕ → Bool → StartdValue
startd_value m set offers slots ticked restless = record {
  machine = m;
  settings = set;
  offers = offers;
  slots = slots;
  ticked = ticked;
  restless = restless;
}

-- one more slot, in Owner/Idle
abbrev pub with_slot : List ℕ → Attributes → StartdValue → StartdValue
with_slot name ad v = record v {
  slots = v.slots ++ record {
    id = record { machine = v.machine.number; slot = length v.slots + 1 };
    name = name;
    ad = ad;
    state = slot_after_boot 0;
  } ∷ [];
}

-- ---- what a reaction comes to, with the slot's offer and its Update
abbrev pub told : Slot → Settled → List Mail → Bool → ℕ → Conclusion
told slot s mails tells reading = if tells
    then record {
      state = with_told reading s.state;
      offers = s.offers;
      mails = mails ++ update_of slot (with_told reading s.state) reading ∷ [];
    }
    else record { state = s.state; offers = s.offers; mails = mails }

abbrev pub told_where_changed : Slot → Settled → List Mail → ℕ → Conclusion
told_where_changed slot s mails reading =
    told slot s mails (has_changed slot.state s.state) reading

abbrev pub concluded : Machine → Slot → ℕ → Reaction → ℕ → Conclusion
concluded m slot offers r reading =
    told_where_changed slot (settled m slot.id r.state offers) r.mails reading

abbrev pub answer_of : Task → StartdAnswer
answer_of task.Nothing = answer.Done
answer_of (task.Launch run job what) = answer.Launch (record { run = run; job = job; what = what })
answer_of (task.Kill run) = answer.Kill (run ∷ [])

-- ---- a startd and an event
-- the startd then, and what is sent and done
pub record After : Type 0 where
  pub startd : StartdValue
  pub step : StartdStep

-- nothing happens
abbrev pub nothing_done : StartdStep
nothing_done = record { mails = []; answer = answer.Done }

abbrev pub unmoved : StartdValue → After
unmoved v = record { startd = v; step = nothing_done }

-- a slot of the machine, by its number
abbrev pub place_of : StartdValue → SlotId → Option ℕ
place_of v slot = if (slot.machine == v.machine.number) && nat_lt 0 slot.slot
    && nat_le slot.slot (length v.slots)
    then Some (slot.slot - 1)
    else None

abbrev pub slot_in : StartdValue → Option ℕ → Option Slot
slot_in v None = None
slot_in v (Some place) = slice_get v.slots place

abbrev pub slot_of : StartdValue → SlotId → Option Slot
slot_of v slot = slot_in v (place_of v slot)

-- the slot of a place stands so, after a reaction
abbrev pub with_conclusion : StartdValue → ℕ → Slot → Conclusion → StartdValue
with_conclusion v place slot c = record v {
  offers = c.offers;
  slots = slice_set v.slots place (record slot { state = c.state });
  restless = v.restless || has_entered slot.state c.state;
}

abbrev pub put_in : StartdValue → ℕ → Option Slot → Conclusion → StartdValue
put_in v place None c = v
put_in v place (Some slot) c = with_conclusion v place slot c

unfoldable pub put_at : StartdValue → ℕ → Conclusion → StartdValue
put_at v place c = put_in v place (slice_get v.slots place) c

-- what a reaction of a slot comes to, and what is to be done
unfoldable pub made_by : Machine → ℕ → Slot → Reaction → ℕ → Made
made_by m offers slot r reading = record {
  conclusion = concluded m slot offers r reading;
  answer = answer_of r.task;
}

abbrev pub after_made : StartdValue → ℕ → Made → After
after_made v place made = record {
  startd = put_at v place made.conclusion;
  step = record { mails = made.conclusion.mails; answer = made.answer };
}

-- ---- a mail is received
-- a slot that the machine doesn't have knows of no claim
abbrev pub nowhere : Machine → ℕ → Slot
nowhere m reading = record {
  id = record { machine = m.number; slot = 0 };
  name = [];
  ad = [];
  state = slot_after_boot reading;
}

abbrev pub stranger_step : Machine → Mail → ℕ → StartdStep
stranger_step m mail reading = record {
  mails = (reaction_to m.boot (nowhere m reading) mail None reading).mails;
  answer = answer.Done;
}

abbrev pub after_stranger : StartdValue → Mail → ℕ → After
after_stranger v mail reading =
    record { startd = v; step = stranger_step v.machine mail reading }

abbrev pub received_at : StartdValue → ℕ → Option Slot → Mail → Option Judgement → ℕ → After
received_at v place None mail judged reading = unmoved v
received_at v place (Some slot) mail judged reading = after_made v place
    (made_by v.machine v.offers slot (reaction_to v.machine.boot slot mail judged reading) reading)

abbrev pub received_in : StartdValue → Option ℕ → Mail → Option Judgement → ℕ → After
received_in v None mail judged reading = after_stranger v mail reading
received_in v (Some place) mail judged reading =
    received_at v place (slice_get v.slots place) mail judged reading

abbrev pub received_of : StartdValue → Option ClaimNo → Mail → Option Judgement → ℕ → After
received_of v None mail judged reading = unmoved v
received_of v (Some claim) mail judged reading =
    received_in v (place_of v claim.slot) mail judged reading

abbrev pub after_mail : StartdValue → Mail → Option Judgement → ℕ → After
after_mail v mail judged reading = received_of v (asked_claim mail) mail judged reading

-- ---- a run's program ends
-- where it runs on the slot
abbrev pub ended_where : Bool → StartdValue → ℕ → Slot → Ending → ℕ → After
ended_where runs v place slot ending reading = if runs
    then after_made v place
    (made_by v.machine v.offers slot (after_ending ending reading slot.state) reading)
    else unmoved v

abbrev pub ended_at : StartdValue → ℕ → Option Slot → Ending → ℕ → After
ended_at v place None ending reading = unmoved v
ended_at v place (Some slot) ending reading =
    ended_where (runs_on slot.state ending.run) v place slot ending reading

abbrev pub ended_in : StartdValue → Option ℕ → Ending → ℕ → After
ended_in v None ending reading = unmoved v
ended_in v (Some place) ending reading = ended_at v place (slice_get v.slots place) ending reading

abbrev pub after_end : StartdValue → Ending → ℕ → After
after_end v ending reading = ended_in v (place_of v ending.run.claim.slot) ending reading

-- ---- with which slot's ad a mail is judged
abbrev pub judge_where : Bool → SlotId → Option SlotId
judge_where judged slot = if judged then Some slot else None

abbrev pub judged_slot : ℕ → Option Slot → Mail → ℕ → Option SlotId
judged_slot boot None mail reading = None
judged_slot boot (Some slot) mail reading = judge_where (is_judged boot slot mail reading) slot.id

abbrev pub slot_of_claim : StartdValue → Option ClaimNo → Option Slot
slot_of_claim v None = None
slot_of_claim v (Some claim) = slot_of v claim.slot

abbrev pub judges : StartdValue → Mail → ℕ → Option SlotId
judges v mail reading =
    judged_slot v.machine.boot (slot_of_claim v (asked_claim mail)) mail reading

-- ---- time passes
-- whether a slot tells how it stands, and what its row makes of it
abbrev pub tells_at : Slot → SlotState → Settings → ℕ → Bool
tells_at slot new set reading =
    has_changed slot.state new || is_update_due slot.state set reading

abbrev pub row_made : Machine → Slot → TickRow → ℕ → ℕ → Settled
row_made m slot r offers reading = settled m slot.id (after_tick_row r reading slot.state) offers

abbrev pub ticked_slot : Machine → Settings → Slot → TickRow → ℕ → Ticks → Conclusion
ticked_slot m set slot r reading t = let s = row_made m slot r t.offers reading in
    told slot s t.mails (tells_at slot s.state set reading) reading

-- the slots that were looked at, with one more
abbrev pub with_ticked : Slot → Conclusion → List RunNo → Ticks → Ticks
with_ticked slot c killed t = record {
  slots = t.slots ++ record slot { state = c.state } ∷ [];
  offers = c.offers;
  mails = c.mails;
  killed = t.killed ++ killed;
  restless = t.restless || has_entered slot.state c.state;
}

abbrev pub after_row : Machine → Settings → Slot → TickRow → ℕ → Ticks → Ticks
after_row m set slot r reading t =
    with_ticked slot (ticked_slot m set slot r reading t) (killed_by r slot.state) t

abbrev pub after_slot : Machine → Settings → Slot → ℕ → Ticks → Ticks
after_slot m set slot reading t = after_row m set slot (slot_row slot set reading) reading t

-- the slots in order
abbrev pub after_slots : Machine → Settings → List Slot → ℕ → Ticks → Ticks
after_slots m set [] reading t = t
after_slots m set (slot ∷ slots) reading t =
    after_slots m set slots reading (after_slot m set slot reading t)

-- none was looked at
abbrev pub no_ticks : ℕ → Ticks
no_ticks offers =
    record { slots = []; offers = offers; mails = []; killed = []; restless = false }

abbrev pub kill_answer : List RunNo → StartdAnswer
kill_answer [] = answer.Done
kill_answer (run ∷ runs) = answer.Kill (run ∷ runs)

abbrev pub after_ticks : StartdValue → Ticks → ℕ → After
after_ticks v t reading = record {
  startd = record v {
    offers = t.offers;
    slots = t.slots;
    ticked = Some reading;
    restless = t.restless;
  };
  step = record { mails = t.mails; answer = kill_answer t.killed };
}

abbrev pub after_tick : StartdValue → ℕ → After
after_tick v reading = after_ticks v
    (after_slots v.machine v.settings v.slots reading (no_ticks v.offers)) reading

-- ---- the machine boots
abbrev pub booted_slot : Slot → ℕ → Ticks → Conclusion
booted_slot slot reading t = told slot
    (record { state = slot_after_boot reading; offers = t.offers }) t.mails
    (has_changed slot.state (slot_after_boot reading)) reading

abbrev pub after_booted : Slot → ℕ → Ticks → Ticks
after_booted slot reading t = with_ticked slot (booted_slot slot reading t) [] t

abbrev pub after_boots : List Slot → ℕ → Ticks → Ticks
after_boots [] reading t = t
after_boots (slot ∷ slots) reading t = after_boots slots reading (after_booted slot reading t)

abbrev pub booted : StartdValue → Ticks → After
booted v t = record {
  startd = record v {
    machine = record v.machine { boot = v.machine.boot + 1 };
    slots = t.slots;
    ticked = None;
    restless = false;
  };
  step = record { mails = t.mails; answer = answer.Done };
}

abbrev pub after_reboot : StartdValue → ℕ → After
after_reboot v reading = booted v (after_boots v.slots reading (no_ticks v.offers))
