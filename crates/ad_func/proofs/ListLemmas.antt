-- A list that has an equal item, as values and as contents.
use Rattle.std.proofs.Common.{◌≡◌, ℕ, ◌<◌, Bool, true, false, List, length, get_or, map, ap, sym, ◌∙◌, refl, rules}
use Rattle.std.proofs.lemmas.List.Folds.{list_any_at}
use Rattle.ad_value.specs.declared.value.Value.{Value, the_lemmas}
use Rattle.ad_value.specs.declared.value.Value.TheVariants as value
use Rattle.ad_value.specs.declared.value.ValueList.{ValueList}
use Rattle.ad_value.specs.Content.{Content, content, contents, contents_of, list_content, Contents, items, truth}
use Rattle.ad_value.specs.Order.{order_of}
use Rattle.ad_func.specs.declared.function.ValueKind.TheVariants as kind
use Rattle.ad_func.specs.Kinds.{is_of_kind}
use Rattle.ad_func.specs.Lists.{is_equal, has_equal, member}
use Rattle.ad_func.proofs.ArgumentLemmas.{any_of}
use Rattle.ad_func.proofs.NumberLemmas.{listed_is, content_of_list}

pub equal_found : (x : Content) (vs : List Value) (i : ℕ) (v : Value) → i < length vs → v ≡ get_or vs i v → is_equal (order_of x (content v)) ≡ true → has_equal x (map content vs) ≡ true
equal_found x vs i v p at e =
    any_of (λ c. is_equal (order_of x c)) vs ∙ list_any_at (λ w. is_equal (order_of x (content w))) vs i v p (ap (λ w. is_equal (order_of x (content w))) (sym at) ∙ e)

pub member_is : (x : Content) (v : Value) (l : ValueList) (b : Bool) → v ≡ value.List l → is_of_kind kind.List x ≡ false → b ≡ has_equal x (map content l.items.items) → content (value.Bool b) ≡ member x (content v)
member_is x v l b e k h =
    content_of_truth b ∙ ap truth (h ∙ ap (has_equal x) (sym (listed_is l))) ∙ sym (in_list x (contents_of (contents l)) k) ∙ ap (member x) (sym (ap content e ∙ content_of_list l))
  where
    content_of_truth : (t : Bool) → content (value.Bool t) ≡ truth t
    content_of_truth t = search (rules, the_lemmas)

    in_list : (y : Content) (cs : Contents) → is_of_kind kind.List y ≡ false → member y (items cs) ≡ truth (has_equal y (list_content cs))
    in_list y cs n = rw n refl
