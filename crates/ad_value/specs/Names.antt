-- Names of attributes and of functions, which are the same without ASCII case (HTCondor manual,
-- "ClassAd syntax").
use Rattle.std.specs.Prelude.{ℕ, Bool, List, map}
use Rattle.std.specs.Char.{to_ascii_lowercase}
use Rattle.std.specs.Str.{bytes_eq}

abbrev pub lowercase : List ℕ → List ℕ
lowercase n = map to_ascii_lowercase n

abbrev pub same_name : List ℕ → List ℕ → Bool
same_name x y = bytes_eq (lowercase x) (lowercase y)
