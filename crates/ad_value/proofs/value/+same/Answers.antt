-- Two list values are the same where their items are, and two lists where their contents are.
use Rattle.std.proofs.Common.{◌≡◌, rules, arith, sym, ap, ◌∙◌, refl, map, get_or, true≢false}
use Rattle.std.proofs.lemmas.List.{take_all}
use Rattle.ad_value.specs.Content.{content}
use Rattle.ad_value.proofs.ContentLemmas.{same_at, contents-map}
use Rattle.ad_value.proofs.ValueLemmas.{same_undefined, same_errors, same_truths, same_integers, same_items, no_undefined, no_error, no_truth, no_integer, no_text, no_items, never, other_length}
use Rattle.ad_value.proofs.value.+same.Goals as goal

pub Value::same-returns-in-Undefined-Undefined : goal.Value::same-returns-in-Undefined-Undefined
Value::same-returns-in-Undefined-Undefined t c = same_undefined _ _ c.in-Undefined-Undefined.is-0 c.in-Undefined-Undefined.is-1

pub Value::same-returns-in-Error-Error : goal.Value::same-returns-in-Error-Error
Value::same-returns-in-Error-Error t c = same_errors _ _ c.in-Error-Error.is-0 c.in-Error-Error.is-1

pub Value::same-returns-in-Bool-Bool : goal.Value::same-returns-in-Bool-Bool
Value::same-returns-in-Bool-Bool t c = same_truths _ _ _ _ c.in-Bool-Bool.is-0 c.in-Bool-Bool.is-1 (search rules)

pub Value::same-returns-in-Int-Int : goal.Value::same-returns-in-Int-Int
Value::same-returns-in-Int-Int t c = same_integers _ _ _ _ c.in-Int-Int.is-0 c.in-Int-Int.is-1 (search rules)

pub Value::same-returns-in-List-List : goal.Value::same-returns-in-List-List
Value::same-returns-in-List-List t c = same_items _ _ _ _ c.in-List-List.is-0 c.in-List-List.is-1 c.same.ensures

pub Value::same-returns-in_default : goal.Value::same-returns-in_default
Value::same-returns-in_default t c = no_undefined _ _ c.in_default.is-0 c.in_default.not-Undefined-1

pub Value::same-returns-in_default-2 : goal.Value::same-returns-in_default-2
Value::same-returns-in_default-2 t c = no_error _ _ c.in_default.is-0 c.in_default.not-Error-1

pub Value::same-returns-in_default-3 : goal.Value::same-returns-in_default-3
Value::same-returns-in_default-3 t c = no_truth _ _ _ c.in_default.is-0 c.in_default.not-Bool-1

pub Value::same-returns-in_default-4 : goal.Value::same-returns-in_default-4
Value::same-returns-in_default-4 t c = no_integer _ _ _ c.in_default.is-0 c.in_default.not-Int-1

pub Value::same-returns-in_default-5 : goal.Value::same-returns-in_default-5
Value::same-returns-in_default-5 t c = no_text _ _ _ c.in_default.is-0 c.in_default.not-Str-1

pub Value::same-returns-in_default-6 : goal.Value::same-returns-in_default-6
Value::same-returns-in_default-6 t c = no_items _ _ _ c.in_default.is-0 c.in_default.not-List-1

pub ValueList::same-returns-then-len : goal.ValueList::same-returns-then-len
ValueList::same-returns-then-len t c = never (λ h. other_length content _ _ (λ e. c.if-len.true (omega (arith, e, c.len.ensures, c.len-2.ensures, c.args.self.now.items.ok.0, c.args.other.now.items.ok.0))) (sym (contents-map c.args.self.now) ∙ h ∙ contents-map c.args.other.now))

pub ValueList::same-returns-then-not-same : goal.ValueList::same-returns-then-not-same
ValueList::same-returns-then-not-same t c =
    let xs = c.args.self.now.items.items in
    let ys = c.args.other.now.items.items in
    let here = c.item-item.is ∙ ap (λ l. get_or l c.loop-i.i c.item-item.result) c.deref-item-items.ensures.value in (
      λ h. absurd (true≢false (sym h)),
      λ e. absurd (true≢false (sym (c.same.ensures.1 (same_at xs ys c.loop-i.i c.item-item.result c.index.result.now (omega arith) (omega (arith, c.loop-i.invariant.0)) here c.index.ensures (sym (contents-map c.args.self.now) ∙ e ∙ contents-map c.args.other.now))) ∙ c.if-not-same.true)),
    )

pub ValueList::same-returns : goal.ValueList::same-returns
ValueList::same-returns t c =
    let xs = c.args.self.now.items.items in
    let ys = c.args.other.now.items.items in
    let all : map content xs ≡ map content ys = sym (ap (map content) (take_all c.loop-i.i xs (omega arith))) ∙ c.loop-i.invariant.1 ∙ ap (map content) (take_all c.loop-i.i ys (omega (arith, c.loop-i.invariant.0))) in
    (λ _. contents-map c.args.self.now ∙ all ∙ sym (contents-map c.args.other.now), λ _. refl)
