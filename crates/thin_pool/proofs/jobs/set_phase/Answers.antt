use Rattle.std.proofs.Common.{◌∙◌, sym, ap}
use Rattle.std.specs.Option.{option_copied_mut}
use Rattle.pool_view.specs.Numbers.{same_job}
use Rattle.thin_pool.specs.declared.job.Job.{Job}
use Rattle.thin_pool.proofs.Entries.{lookup-value_at, set_value-with_phase, with_phase-none}
use Rattle.thin_pool.proofs.jobs.set_phase.Goals as goal

pub returns-in-Some : goal.returns-in-Some
returns-in-Some c =
    let entries = c.args.jobs.now.entries in
    let w : Job = record { ad = c.in-Some.job.now.ad; phase = c.args.phase } in
    (c.get_mut.follows.holds w).0 ∙ set_value-with_phase c.args.job c.args.phase entries c.in-Some.job.now (sym c.in-Some.ensures.value)

pub returns-in_default : goal.returns-in_default
returns-in_default c =
    let entries = c.args.jobs.now.entries in
    let none = sym (lookup-value_at same_job c.args.job entries) ∙ sym c.get_mut.ensures.value ∙ ap option_copied_mut c.in_default.is in
    ap (λ m. m.entries) c.get_mut.follows.holds-at-none ∙ sym (with_phase-none c.args.job c.args.phase entries none)
