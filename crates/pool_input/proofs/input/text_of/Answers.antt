use Rattle.std.proofs.Common.{◌∙◌, ℕ, Vec, Global, ap, subst}
use Rattle.std.specs.Str.{IsUtf8}
use Rattle.std.proofs.lemmas.Str.{IsUtf8-string_bytes}
use Rattle.pool_input.proofs.input.text_of.Goals as goal

pub returns-in-Ok : goal.returns-in-Ok
returns-in-Ok c = (c.from.ensures ∙ ap (λ (v : Vec ℕ Global). v.items) c.in-Ok.ensures.ok, subst (λ (v : Vec ℕ Global). IsUtf8 v.items) c.in-Ok.ensures.ok (IsUtf8-string_bytes c.in-Ok.text))
