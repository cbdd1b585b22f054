use Rattle.std.proofs.Common.{◌≡◌, ◌∙◌, List, ◌++◌, length, take, drop, refl, ap}
use Rattle.pool_master.proofs.PoolRun.{runs_lent}
use Rattle.pool_master.proofs.Spawners.{lent_whole}
use Rattle.pool_master.proofs.run.run_pool.Goals as goal

pub run-status-requires : goal.run-status-requires
run-status-requires g c = rw c.as_mut_slice-places.ensures.value (record { machines = c.requires.machines; idle = c.requires.idle })

pub returns : goal.returns
returns g c =
    let items = c.args.spawners.items in
    let new = c.run-status.new.spawners in
    let value = c.as_mut_slice-places.ensures.value in
    let long : c.args.spawners.len ≡ length items = c.args.spawners.ok.0 in
    let same : length new ≡ length items = c.run-status.auto.spawners ∙ ap (λ (l : List g.row.P.Denot). length l) value in
    let whole = lent_whole items new c.args.spawners.len long same in
    let e = c.run-status.ensures in
    let runs = runs_lent _ _ c.as_mut_slice-places.result.now items new (take c.args.spawners.len (new ++ drop (length new) items)) _ c.args.out.now c.run-status.new.out c.run-status.result.0 c.run-status.result.1 value whole e.runs in
    record {
      history = runs.replay;
      history_input = e.history_input;
      history_readings = runs.read;
      safe = runs.safe;
      refused = refl;
      launched = λ m s t was is told. ((runs.follows m s t was is).served told).launched;
      all_launched = λ m s t was is told left closed. (runs.all_launched left closed m s t was is).launched ((runs.follows m s t was is).told ∙ told);
      counted = λ m s t was is. (runs.follows m s t was is).counted;
      all_counted = λ m s t was is left closed. (runs.all_launched left closed m s t was is).counted;
      ended = λ m s t was is told. ((runs.follows m s t was is).served told).ended;
      spared = λ m s t was is told. ((runs.follows m s t was is).served told).spared;
      not_started = λ m s t was is. (runs.follows m s t was is).not_started;
      untouched = runs.untouched;
      machines = ap (λ (l : List g.row.P.Denot). length l) whole ∙ (same ∙ c.requires.machines);
      written = runs.written;
      all_written = runs.all_written;
      status_usage = e.status_usage;
      status_refused = e.status_refused;
      status_refused_comes = e.status_refused_comes;
      status_done = runs.done;
      status_done_comes = runs.done_comes;
      status_stuck = runs.stuck;
      status_stuck_comes = runs.stuck_comes;
      status_disk_fault = e.status_disk_fault;
      status_out_fault = runs.out_fault;
      status_early = e.status_early;
      status_today = e.status_today;
      store_usage = e.store_usage;
      store = e.store;
    }
