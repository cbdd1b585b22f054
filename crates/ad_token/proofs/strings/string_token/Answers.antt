use Rattle.std.proofs.Common.{ap, sym, ◌∙◌, false}
use Rattle.ad_token.specs.Strings.{closing_quote}
use Rattle.ad_token.proofs.Escapes.{closing_boundary}
use Rattle.ad_token.proofs.strings.string_token.Goals as goal

pub range-requires-clause-end_boundary : goal.range-requires-clause-end_boundary
range-requires-clause-end_boundary c =
    closing_boundary c.range_from-rest.result.now c.in-Some.n (ap (λ l. closing_quote false l) (sym c.as_bytes.ensures.value) ∙ sym c.closing_quote.ensures ∙ c.in-Some.is)
