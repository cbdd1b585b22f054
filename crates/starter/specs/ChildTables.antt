-- Children that run, and the table in which they stand by their runs.
use Rattle.std.specs.Prelude.{◌≡◌, ℕ, Bool, true, List, All}
use Rattle.std.specs.List.{list_any}
use Rattle.claim_id.specs.declared.numbers.RunNo.{RunNo}
use Rattle.pool_view.specs.Numbers.{same_run}
use Rattle.starter.specs.declared.children.Child.{Child}
use Rattle.starter.specs.declared.children.RunKey.{RunKey}

pub record ChildTable : Type 0 where
  pub list : List Child
  -- so many more children take no memory
  pub spare : ℕ

abbrev pub key_of : RunNo → RunKey
key_of run = record {
  slot = run.claim.slot;
  boot = run.claim.boot;
  seq = run.claim.seq;
  number = run.number;
}

-- each child stands under its run
abbrev pub AreKeyed : List (RunKey × Child) → Type 0
AreKeyed entries = All (λ e. e.0 ≡ key_of e.1.run) entries

-- the run has a child
abbrev pub has_child : RunNo → List Child → Bool
has_child run children = list_any (λ child. same_run child.run run) children

-- the child is to be killed
abbrev pub as_doomed : Child → Child
as_doomed child = record child { doomed = true }
