use Rattle.std.proofs.Common.{◌≡◌, ◌<◌, length, get_or, true, false, refl, arith, rules}
use Rattle.ad_token.specs.Lexing.{is_blank, ends_the_tokens}
use Rattle.ad_token.proofs.Prefixes.{past_first}
use Rattle.ad_token.proofs.Ends.{Ends, ends_boundary}
use Rattle.ad_token.proofs.Turns.{blank_kept, token_kept, token_last, token_ends, blank_ascii, tokens_ended, rest_utf8}
use Rattle.ad_token.proofs.lexer.tokens.Goals as goal

pub split_at-requires : goal.split_at-requires
split_at-requires c =
    let some : 0 < length c.loop-rest.rest.now = search rules in
    let blank : is_blank (get_or c.loop-rest.rest.now 0 0) ≡ true = search rules in
    past_first c.loop-rest.rest.now _ c.loop-rest.invariant.2 some refl (blank_ascii _ blank)

pub loop-rest-preserved-then-is_blank : goal.loop-rest-preserved-then-is_blank
loop-rest-preserved-then-is_blank c =
    let some : 0 < length c.loop-rest.rest.now = search rules in
    let blank : is_blank (get_or c.loop-rest.rest.now 0 0) ≡ true = search rules in (
      blank_kept _ _ _ c.loop-rest.rest.now c.loop-rest.invariant.0 some _ blank c.split_at.ensures.back,
      omega (arith, c.loop-rest.invariant.1, c.split_at.ensures.back_len),
      rest_utf8 c.loop-rest.rest.now _ 1 c.loop-rest.invariant.2 (past_first c.loop-rest.rest.now _ c.loop-rest.invariant.2 some refl (blank_ascii _ blank)) c.split_at.ensures.back,
    )

pub returns-then-ends : goal.returns-then-ends
returns-then-ends c =
    let some : 0 < length c.loop-rest.rest.now = search rules in
    let blank : is_blank (get_or c.loop-rest.rest.now 0 0) ≡ false = search rules in
    let refused : ends_the_tokens c.in_ok-token.token ≡ true = search rules in
    token_last _ _ _ c.loop-rest.rest.now c.loop-rest.invariant.0 some _ _ _ blank c.in_ok-token.ensures refused c.in_ok-push.ensures.items

pub split_at-requires-in-loop-rest : goal.split_at-requires-in-loop-rest
split_at-requires-in-loop-rest c =
    let some : 0 < length c.loop-rest.rest.now = search rules in
    let fine : ends_the_tokens c.in_ok-token.token ≡ false = search rules in
    ends_boundary c.loop-rest.rest.now _ c.loop-rest.invariant.2 (token_ends _ _ _ some c.in_ok-token.ensures fine)

pub loop-rest-smaller : goal.loop-rest-smaller
loop-rest-smaller c =
    let some : 0 < length c.loop-rest.rest.now = search rules in
    let fine : ends_the_tokens c.in_ok-token.token ≡ false = search rules in
    let ends : Ends c.loop-rest.rest.now c.in_ok-token.length = token_ends _ _ _ some c.in_ok-token.ensures fine in
    omega (arith, ends.some, c.split_at-in-loop-rest.ensures.back_len)

pub loop-rest-preserved : goal.loop-rest-preserved
loop-rest-preserved c =
    let some : 0 < length c.loop-rest.rest.now = search rules in
    let blank : is_blank (get_or c.loop-rest.rest.now 0 0) ≡ false = search rules in
    let fine : ends_the_tokens c.in_ok-token.token ≡ false = search rules in (
      token_kept _ _ _ c.loop-rest.rest.now c.loop-rest.invariant.0 some _ _ _ _ blank c.in_ok-token.ensures fine c.in_ok-push.ensures.items c.split_at-in-loop-rest.ensures.back,
      omega (arith, c.loop-rest.invariant.1, c.split_at-in-loop-rest.ensures.back_len),
      rest_utf8 c.loop-rest.rest.now _ c.in_ok-token.length c.loop-rest.invariant.2 (ends_boundary c.loop-rest.rest.now _ c.loop-rest.invariant.2 (token_ends _ _ _ some c.in_ok-token.ensures fine)) c.split_at-in-loop-rest.ensures.back,
    )

pub returns : goal.returns
returns c = tokens_ended _ _ _ c.loop-rest.rest.now c.loop-rest.invariant.0 (search rules)
