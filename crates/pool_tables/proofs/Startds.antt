-- The startds of a pool at its opening.
use Rattle.std.proofs.Common.{◌≡◌, ℕ, zero, suc, ◌+◌, List, [], ◌∷◌, ◌++◌, length, refl, ap, ◌∙◌, add-one, length-append}
use Rattle.pool_outer.specs.declared.gate.Daemon.{Daemon}
use Rattle.pool_outer.specs.declared.gate.Daemon.TheVariants.{Startd}
use Rattle.pool_tables.specs.DaemonTables.{first_startds, first_state}

pub one_startd : (machine boot : ℕ) (crashes : List Daemon) → first_startds (machine + 1) boot crashes ≡ first_startds machine boot crashes ++ first_state boot (Startd machine) crashes ∷ []
one_startd machine boot crashes = ap (λ n. first_startds n boot crashes) (add-one machine)

pub count_startds : (machines boot : ℕ) (crashes : List Daemon) → length (first_startds machines boot crashes) ≡ machines
count_startds zero boot crashes = refl
count_startds (suc machines) boot crashes = length-append (first_startds machines boot crashes) (first_state boot (Startd machines) crashes ∷ []) ∙ ap (λ n. n + 1) (count_startds machines boot crashes) ∙ add-one machines
