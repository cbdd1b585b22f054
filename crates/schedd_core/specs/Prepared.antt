-- What is prepared for an event is all that comes of it.
use Rattle.std.specs.Prelude.{◌≡◌, [], ◌∷◌}
use Rattle.pool_mail.specs.declared.mail.Mail.{Mail}
use Rattle.schedd_state.specs.declared.prepared.PreparedSchedd.{PreparedSchedd}
use Rattle.schedd_state.specs.PreparedSchedds.{HasClaimRoom, schedd_after}
use Rattle.schedd_state.specs.Schedds.{ScheddValue, After, says}

pub record IsPrepared (v : ScheddValue) (p : PreparedSchedd) (a : After) : Type 0 where
  pub schedd : schedd_after p v ≡ a.schedd
  pub step : p.step ≡ a.step
  pub room : HasClaimRoom p v

abbrev pub sends : Mail → ScheddValue → After
sends m v = record { schedd = v; step = says (m ∷ []) }
