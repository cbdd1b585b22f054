-- One more reading of a history.
use Rattle.std.proofs.Common.{ℕ, List, [], ◌∷◌, ◌++◌}
use Rattle.std.proofs.lemmas.List.Elements.{All-push}
use Rattle.thin_pool.specs.declared.history.Step.{Step}
use Rattle.thin_pool.specs.Events.{reading_of}
use Rattle.pool_input.specs.Readings.{AreRead, IsInCalendar}

pub read_more : (allows : ℕ → Type 0) (list : List Step) (s : Step) → AreRead allows list → allows (reading_of s.event) → IsInCalendar (reading_of s.event) → AreRead allows (list ++ s ∷ [])
read_more allows list s old allowed in_range = record {
  allowed = All-push (λ (x : Step). allows (reading_of x.event)) list s old.allowed allowed;
  in_range = All-push (λ (x : Step). IsInCalendar (reading_of x.event)) list s old.in_range in_range;
}
