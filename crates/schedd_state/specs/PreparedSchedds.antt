-- What was prepared makes of a schedd.
use Rattle.std.specs.Prelude.{◌≡◌, ℕ, ◌<◌, List, [], ◌∷◌, ◌++◌, length, Option, None, vec_capacity, vec_len}
use Rattle.std.specs.BTreeMap.{insert_entry}
use Rattle.std.specs.Global.{Vec}
use Rattle.std.specs.Map.{remove_entry}
use Rattle.claim_id.specs.declared.numbers.JobId.{JobId}
use Rattle.queue_tx.specs.declared.key.Key.{Key}
use Rattle.queue_tx.specs.declared.key.Key.TheVariants.{Proc}
use Rattle.queue_tx.specs.Keys.{key_cmp, same_key}
use Rattle.schedd_plan.specs.declared.claims.KeptClaim.{KeptClaim}
use Rattle.schedd_plan.specs.declared.runs.KeptRun.{KeptRun}
use Rattle.schedd_plan.specs.JobPlaces.{taken_off}
use Rattle.schedd_plan.specs.KeptClaims.{with_stage, with_job, claims_without}
use Rattle.schedd_plan.specs.KeptRuns.{runs_without, with_alive}
use Rattle.schedd_plan.specs.MailTable.{after_fate}
use Rattle.schedd_state.specs.declared.change.ClaimsChange.{ClaimsChange}
use Rattle.schedd_state.specs.declared.change.ClaimsChange.TheVariants as claims
use Rattle.schedd_state.specs.declared.change.LeftChange.{LeftChange}
use Rattle.schedd_state.specs.declared.change.LeftChange.TheVariants as left
use Rattle.schedd_state.specs.declared.change.LooksChange.{LooksChange}
use Rattle.schedd_state.specs.declared.change.LooksChange.TheVariants as looks
use Rattle.schedd_state.specs.declared.change.RunsChange.{RunsChange}
use Rattle.schedd_state.specs.declared.change.RunsChange.TheVariants as runs
use Rattle.schedd_state.specs.declared.change.ScheddChange.{ScheddChange}
use Rattle.schedd_state.specs.declared.prepared.PreparedSchedd.{PreparedSchedd}
use Rattle.schedd_state.specs.Leaving.{left_claims}
use Rattle.schedd_state.specs.Schedds.{ScheddValue}

-- ---- part by part
abbrev pub left_after : LeftChange → List JobId → List JobId
left_after left.Same jobs = jobs
left_after (left.TakeOff job) jobs = taken_off job jobs
left_after (left.All list) jobs = list

abbrev pub claims_after : ClaimsChange → List KeptClaim → List KeptClaim
claims_after claims.Same cs = cs
claims_after (claims.Put claim room) cs = cs ++ claim ∷ []
claims_after (claims.Stage place stage) cs = with_stage place stage cs
claims_after (claims.Job place job) cs = with_job place job cs
claims_after (claims.Remove place) cs = claims_without place cs
claims_after (claims.Settle claim fate) cs = after_fate fate claim cs
claims_after (claims.Leave claim) cs = left_claims claim cs
claims_after (claims.All list) cs = list.items

abbrev pub runs_after : RunsChange → List KeptRun → List KeptRun
runs_after runs.Same rs = rs
runs_after (runs.Alive place alive found) rs = with_alive place alive found rs
runs_after (runs.Remove place) rs = runs_without place rs
runs_after (runs.All list) rs = list.items

abbrev pub looks_after : LooksChange → List (Key × ℕ) → List (Key × ℕ)
looks_after looks.Same ls = ls
looks_after (looks.Put look) ls = insert_entry key_cmp ls look.0 look.1
looks_after (looks.Forget job) ls = remove_entry (same_key (Proc job)) ls
looks_after looks.Clear ls = []

abbrev pub passed_after : LooksChange → Option Key → Option Key
passed_after looks.Same passed = passed
passed_after (looks.Put look) passed = passed
passed_after (looks.Forget job) passed = passed
passed_after looks.Clear passed = None

-- an empty list with room for one more than there are
pub record IsRoomFor (cs : List KeptClaim) (room : Vec KeptClaim) : Type 0 where
  pub empty : room.items ≡ []
  pub none : vec_len room ≡ 0
  pub more : length cs < vec_capacity room

-- where one more is to come, there is room for it
abbrev pub CanPut : ClaimsChange → List KeptClaim → Type 0
CanPut (claims.Put claim room) cs = IsRoomFor cs room
CanPut _ cs = Unit {0}

-- ---- all of it
abbrev pub change_after : ScheddChange → ScheddValue → ScheddValue
change_after c v = record v {
  next_run = c.next_run;
  left = left_after c.left v.left;
  claims = claims_after c.claims v.claims;
  runs = runs_after c.runs v.runs;
  checked = looks_after c.looks v.checked;
  passed = passed_after c.looks v.passed;
  waiting = c.waiting;
}

abbrev pub schedd_after : PreparedSchedd → ScheddValue → ScheddValue
schedd_after p v = change_after p.change v

-- there is room for a claim more than a schedd has, where one more is to come
abbrev pub HasClaimRoom : PreparedSchedd → ScheddValue → Type 0
HasClaimRoom p v = CanPut p.change.claims v.claims
