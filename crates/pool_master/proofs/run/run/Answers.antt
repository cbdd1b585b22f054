use Rattle.std.proofs.Common.{◌≡◌, ◌∙◌, inl, inr, Err, refl, ap}
use Rattle.pool_input.specs.Words.{IsNoRun, file_names, texts}
use Rattle.pool_input.specs.declared.status.Status.TheVariants as status
use Rattle.pool_master.proofs.Spawners.{all_at}
use Rattle.pool_master.proofs.PoolRun.{nothing_runs, files_of_input, refusal_named, not_named, of_no_input, usage_early, usage_no_fault, memory_early, memory_no_fault, memory_no_usage, memory_no_words, none_below}
use Rattle.pool_master.proofs.run.run.Goals as goal

pub run_files-requires : goal.run_files-requires
run_files-requires g c = record { machines = c.requires.machines; idle = c.requires.idle }

pub returns-in-Ok : goal.returns-in-Ok
returns-in-Ok g c =
    let e = c.run_files.ensures in
    let words = texts c.args.words.now in
    let config = c.in-Ok.named.config.now in
    let submits = file_names c.in-Ok.named.submits.items in
    let are = c.in-Ok.ensures.files in
    record {
      runs = e.runs;
      history_input = λ told. files_of_input _ _ words config submits c.run_files.result.1.opening c.run_files.result.1.list are (e.files told);
      status_usage = (λ is. absurd (e.today.1 is), λ none. absurd (none config submits are));
      status_refused = λ told refuses. record { config = config; submits = submits; words_are = are; refused = e.refused told refuses };
      status_refused_comes = λ told s refused. e.refused_comes told s (refusal_named _ words config submits s are refused);
      status_disk_fault = e.disk_fault;
      status_early = e.early;
      status_today = e.today.0;
      store_usage = λ is. absurd (e.today.1 is);
      store = e.store;
    }

pub returns-in-Err-Usage : goal.returns-in-Err-Usage
returns-in-Err-Usage g c =
    let h = c.no_history.result in
    let e = c.no_history.ensures in
    let words = texts c.args.words.now in
    let none : IsNoRun words = c.read.ensures.usage.0 (c.in-Err-Usage.is ∙ ap Err c.in-Err-Usage.field-0-is) in
    record {
      runs = nothing_runs _ _ c.args.spawners.now _ c.args.out.now status.Usage h e.nothing e.load usage_early
          (λ m s is. let zero = all_at (λ x. g.P.Spawner.count x ≡ 0) c.args.spawners.now m s c.requires.idle is in record { none = zero; all = g.met.P.Spawner.counted s; spared = λ told k. (g.met.P.Spawner.unborn s k told (none_below zero)).1 });
      history_input = λ told. of_no_input _ _ words h.opening h.list e.nothing.no_opening;
      status_usage = (λ is. none, λ no. refl);
      status_refused = λ told refuses. absurd refuses;
      status_refused_comes = λ told s refused. absurd (not_named _ words s none refused);
      status_disk_fault = λ is. absurd (usage_no_fault is);
      status_early = λ early. e.nothing;
      status_today = tt;
      store_usage = λ is. refl;
      store = λ told name. (refl, refl);
    }

pub returns-in-Err-Memory : goal.returns-in-Err-Memory
returns-in-Err-Memory g c =
    let h = c.no_history-in-Err-Memory.result in
    let e = c.no_history-in-Err-Memory.ensures in
    let words = texts c.args.words.now in
    record {
      runs = nothing_runs _ _ c.args.spawners.now _ c.args.out.now status.Memory h e.nothing e.load memory_early
          (λ m s is. let zero = all_at (λ x. g.P.Spawner.count x ≡ 0) c.args.spawners.now m s c.requires.idle is in record { none = zero; all = g.met.P.Spawner.counted s; spared = λ told k. (g.met.P.Spawner.unborn s k told (none_below zero)).1 });
      history_input = λ told. of_no_input _ _ words h.opening h.list e.nothing.no_opening;
      status_usage = (λ is. absurd (memory_no_usage is), λ none. absurd (memory_no_words c.read.result c.in-Err-Memory.field-0 c.in-Err-Memory.is c.in-Err-Memory.field-0-is (c.read.ensures.usage.1 none)));
      status_refused = λ told refuses. absurd refuses;
      status_refused_comes = λ told s refused. inr (inl refl);
      status_disk_fault = λ is. absurd (memory_no_fault is);
      status_early = λ early. absurd early;
      status_today = tt;
      store_usage = λ is. refl;
      store = λ told name. (refl, refl);
    }
