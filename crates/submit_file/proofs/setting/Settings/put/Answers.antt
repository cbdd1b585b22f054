use Rattle.std.proofs.Common.{◌≡◌, ◌≤◌, ◌<◌, ◌∙◌, length, string_bytes, refl, ap, sym, subst, arith}
use Rattle.submit_file.proofs.Places.{absent, names_stay, place_of, then_ok}
use Rattle.submit_file.proofs.Puts.{put_copied, add_copied}
use Rattle.submit_file.proofs.setting.Settings.put.Goals as goal

pub invariant_of-self : goal.invariant_of-self
invariant_of-self c =
    let inside : c.place-place.result < length c.self.inside.items.items = subst (λ n. c.place-place.result < n) (c.len.ensures ∙ c.self.inside.items.ok.0) c.if-place-len.true in
    c.self.invariant ∙ sym (names_stay c.in_ok-value.value c.args.line c.place-place.result c.self.inside.items.items c.index_mut-setting.result.now inside c.index_mut-setting.ensures.value)

pub add-requires-clause-new : goal.add-requires-clause-new
add-requires-clause-new c =
    let at : c.place-place.result ≡ place_of (string_bytes c.in_ok-key.key) c.args.self.now = c.place-place.ensures.value ∙ ap (λ x. place_of x c.args.self.now) c.as_str.ensures.value in
    let past : length c.args.self.now ≤ c.place-place.result = subst (λ n. n ≤ c.place-place.result) (c.len.ensures ∙ c.self.inside.items.ok.0 ∙ ap length c.self.view_is) c.if-place-len.false in
    absent (string_bytes c.in_ok-key.key) c.args.self.now (omega (arith, past, at))

pub returns-clause-ok : goal.returns-clause-ok
returns-clause-ok c =
    let past : length c.args.self.now ≤ c.place-place.result = subst (λ n. n ≤ c.place-place.result) (c.len.ensures ∙ c.self.inside.items.ok.0 ∙ ap length c.self.view_is) c.if-place-len.false in
    then_ok c.add.result
    (add_copied c.args.name.now c.args.value.now _ _ c.args.line c.place-place.result c.args.self.now c.args.self.now c.add.new.self refl c.in_ok-name.ensures c.in_ok-value.ensures
    (c.place-place.ensures.value ∙ ap (λ x. place_of x c.args.self.now) (c.as_str.ensures.value ∙ c.in_ok-key.ensures.ok)) past)
    c.add.ensures.ok

pub returns-then-place-len-clause-ok : goal.returns-then-place-len-clause-ok
returns-then-place-len-clause-ok c =
    let inside : c.place-place.result < length c.self.inside.items.items = subst (λ n. c.place-place.result < n) (c.len.ensures ∙ c.self.inside.items.ok.0) c.if-place-len.true in
    put_copied c.args.name.now c.args.value.now c.in_ok-value.value c.args.line c.place-place.result c.args.self.now c.self.inside.items.items c.index_mut-setting.result.now c.self.view_is c.in_ok-value.ensures
    (c.place-place.ensures.value ∙ ap (λ x. place_of x c.args.self.now) (c.as_str.ensures.value ∙ c.in_ok-key.ensures.ok)) inside c.index_mut-setting.ensures.value
