use Rattle.std.proofs.Common.{◌≡◌, ◌≤◌, ◌-◌, [], length, drop, sym, ◌∙◌, ap, arith, eq-eqb, length-drop}
use Rattle.std.proofs.lemmas.Bool.{eqb-true}
use Rattle.std.proofs.lemmas.List.{drop_all}
use Rattle.pool_mail.specs.Ads.{request_ad}
use Rattle.pool_parts.proofs.asking.is_request_of.Goals as goal

pub returns : goal.returns
returns c =
    let past : length c.args.ad.now ≤ c.loop-own.own = omega arith in
    let none_left : request_ad (drop c.loop-own.own c.args.ad.now) ≡ [] = ap request_ad (drop_all c.loop-own.own c.args.ad.now past) in
    let within : c.loop-own.place ≤ length c.args.request.now = c.loop-own.invariant.0 in (
      λ is.
          (let all : c.loop-own.place ≡ c.len-length.result = eqb-true c.loop-own.place c.len-length.result is in
          let no_more : length c.args.request.now ≤ c.loop-own.place = omega arith in
          c.loop-own.invariant.1.1 (drop_all c.loop-own.place c.args.request.now no_more ∙ sym none_left)),
      λ same.
          (let empty : drop c.loop-own.place c.args.request.now ≡ [] = c.loop-own.invariant.1.0 same ∙ none_left in
          let rest : length c.args.request.now - c.loop-own.place ≡ 0 = sym (length-drop c.loop-own.place c.args.request.now) ∙ ap length empty in
          eq-eqb c.loop-own.place c.len-length.result (omega arith)),
    )
