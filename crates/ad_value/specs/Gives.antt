-- What a computation gives that ends in a value.
use Rattle.std.specs.Prelude.{◌≡◌, Result, IfOk, MatchResult}
use Rattle.ad_value.specs.declared.memory.Memory.{Memory}
use Rattle.ad_value.specs.declared.value.Value.{Value}
use Rattle.ad_value.specs.Content.{Content, content}

-- the value of that content, unless memory runs out
abbrev pub GivesValue : Result Value Memory → Content → Type 0
GivesValue r c = IfOk r (λ v. content v ≡ c)

-- what comes of operands or of arguments: what f makes of them, or a value already
abbrev pub ComesTo : {T : Type 0} → Result T Value → Content → (T → Content) → Type 0
ComesTo r c f = MatchResult r (λ x. c ≡ f x) (λ v. c ≡ content v)
