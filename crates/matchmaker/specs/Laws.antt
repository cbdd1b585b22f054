-- What holds of all that a collector was told.
use Rattle.std.specs.Prelude.{◌↔◌, ℕ, Contains, List, []}
use Rattle.matchmaker.specs.declared.kept.KeptAd.{KeptAd}
use Rattle.matchmaker.specs.Heard.{Told, kept_after, IsHeard}

-- a collector keeps exactly what was heard
abbrev pub KeepsWhatIsHeard : Type 0
KeepsWhatIsHeard = (lifetime : ℕ) (told : List Told) (k : KeptAd)
    → (Contains (kept_after lifetime [] told) k ↔ IsHeard lifetime told k)
