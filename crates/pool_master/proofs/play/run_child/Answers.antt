use Rattle.std.proofs.Common.{◌≡◌, ◌∙◌, true≢false, refl, sym, subst, ap, rules, w32}
use Rattle.std.specs.Int.RustNames.{FitsSigned}
use Rattle.std.proofs.lemmas.Int.{to_z-of_z}
use Rattle.pool_outer.specs.declared.spawner.ChildState.TheVariants as child
use Rattle.pool_mail.specs.declared.end.End.{End}
use Rattle.pool_mail.specs.declared.end.End.TheVariants.{Exited, Signalled}
use Rattle.pool_master.specs.Follows.{RunsChild}
use Rattle.pool_master.specs.Seen.{spawner_seen}
use Rattle.pool_master.proofs.Looks.{IsLookedAt, last_look, has_ended, exited_started, signalled_started}
use Rattle.pool_master.proofs.play.run_child.Goals as goal
use Rattle.pool_master.proofs.play.run_child.Goals.{in-None, in-Some+in-Ok-Exited, in-Some+in-Ok-Signalled}

pub returns : goal.returns
returns g c =
    let spawner = spawner_seen g.P.Spawner.tells g.P.Spawner.count g.P.Spawner.launches g.P.Spawner.seen g.P.Spawner.killed g.P.Spawner.faults in
    let old = spawner c.args.spawner.now in
    let inv = c.looks.invariant in
    let before : IsLookedAt c.args.what.now c.in-Ok.child old (spawner c.looks.spawner) = record { child_is = inv.child; count = inv.count; launched = inv.launched; others = inv.others; spared = inv.spared; told = inv.told; later = inv.later } in
    let ran : RunsChild c.args.what.now c.match-next.end old (spawner c.match-next.spawner) = elim c.match-next.branch [
      | in-None w ↦ absurd (true≢false (sym w.in-None.ensures.steps))
      | in-Some+in-Ok-Exited w ↦
          let p = w.poll.ensures in
          let last = last_look c.in-Ok.child w.poll.result w.in-Ok-Exited.field-0 (child.Exited w.in-Ok-Exited.code) _ (spawner c.looks.spawner) (spawner w.poll.new.self) w.in-Ok-Exited.is w.in-Ok-Exited.field-0-is p.state p.count p.launched p.killed p.told p.cause in
          let fits : FitsSigned w32 w.in-Ok-Exited.code = search rules in
          let is : c.match-next.end ≡ Exited w.in-Ok-Exited.code = w.end-is ∙ ap Exited (to_z-of_z w32 w.in-Ok-Exited.code fits) in
          subst (λ (s : g.row.P.Denot). RunsChild c.args.what.now c.match-next.end old (spawner s)) (sym w.spawner-is)
          (subst (λ (e : End). RunsChild c.args.what.now e old (spawner w.poll.new.self)) (sym is)
          (has_ended c.args.what.now (Exited w.in-Ok-Exited.code) (child.Exited w.in-Ok-Exited.code) c.in-Ok.child old (spawner c.looks.spawner) (spawner w.poll.new.self) refl refl (exited_started w.in-Ok-Exited.code) (g.met.P.Spawner.counted c.args.spawner.now) before last))
      | in-Some+in-Ok-Signalled w ↦
          let p = w.poll.ensures in
          let last = last_look c.in-Ok.child w.poll.result w.in-Ok-Signalled.field-0 (child.Signalled w.in-Ok-Signalled.signal) _ (spawner c.looks.spawner) (spawner w.poll.new.self) w.in-Ok-Signalled.is w.in-Ok-Signalled.field-0-is p.state p.count p.launched p.killed p.told p.cause in
          let fits : FitsSigned w32 w.in-Ok-Signalled.signal = search rules in
          let is : c.match-next.end ≡ Signalled w.in-Ok-Signalled.signal = w.end-is ∙ ap Signalled (to_z-of_z w32 w.in-Ok-Signalled.signal fits) in
          subst (λ (s : g.row.P.Denot). RunsChild c.args.what.now c.match-next.end old (spawner s)) (sym w.spawner-is)
          (subst (λ (e : End). RunsChild c.args.what.now e old (spawner w.poll.new.self)) (sym is)
          (has_ended c.args.what.now (Signalled w.in-Ok-Signalled.signal) (child.Signalled w.in-Ok-Signalled.signal) c.in-Ok.child old (spawner c.looks.spawner) (spawner w.poll.new.self) refl refl (signalled_started w.in-Ok-Signalled.signal) (g.met.P.Spawner.counted c.args.spawner.now) before last))
    ] in
    record {
      launched = ran.launched;
      refused = λ told. tt;
      count = ran.counted;
      uncounted = tt;
      seen = ran.looked;
      others = ran.others;
      spared = ran.spared;
      not_started = ran.not_started;
      later = ran.later;
      told = ran.told;
    }
