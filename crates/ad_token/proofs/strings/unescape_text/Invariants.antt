-- What is written, with what the bytes that are left give, is the whole.
use Rattle.std.proofs.Common.{◌≡◌, ◌++◌, false, string_bytes}
use Rattle.ad_token.specs.Strings.{unescape_text}
use Rattle.ad_token.proofs.strings.unescape_text.Given as goal

abbrev pub invariant-loop-c : goal.invariant-loop-c
invariant-loop-c l = string_bytes l.text ++ unescape_text l.held l.c-iterator.rest.now ≡ unescape_text false l.body
