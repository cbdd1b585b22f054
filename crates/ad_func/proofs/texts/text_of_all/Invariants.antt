-- What is joined so far stands before the rest.
use Rattle.std.proofs.Common.{◌≡◌, Some, map, drop, string_bytes}
use Rattle.ad_value.specs.Content.{content}
use Rattle.ad_func.specs.Texts.{strcat_text, text_of_all}
use Rattle.ad_func.proofs.texts.text_of_all.Given as goal

abbrev pub invariant-loop-value : goal.invariant-loop-value
invariant-loop-value l = text_of_all (map content l.values) ≡ strcat_text (Some (string_bytes l.text)) (text_of_all (map content (drop l.value-index l.values)))
