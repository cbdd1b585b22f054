-- A value, apart from where it lies in memory: two values are equal where their contents are.
use Rattle.std.specs.Prelude.{◌≡◌, ℕ, ℤ, Bool, List, [], ◌∷◌, refl}
use Rattle.std.proofs.Common.{ap, sym, ◌∙◌}
use Rattle.ad_value.specs.declared.value.Value.{Value, fold-Value}
use Rattle.ad_value.specs.declared.value.Value.TheOpen.{Value-F, ValueList-F}
use Rattle.ad_value.specs.declared.value.ValueList.{ValueList, fold-ValueList}

mutual
  pub data Content : Type 0 where
    undefined : Content
    error : Content
    truth : Bool → Content
    integer : ℤ → Content
    text : List ℕ → Content
    items : Contents → Content

  pub data Contents : Type 0 where
    no_contents : Contents
    and_content : Content → Contents → Contents

-- a list's contents, and the list of them again
abbrev pub contents_of : List Content → Contents
contents_of [] = no_contents
contents_of (c ∷ cs) = and_content c (contents_of cs)

abbrev pub list_content : Contents → List Content
list_content no_contents = []
list_content (and_content c cs) = c ∷ list_content cs

abbrev pub content_step : Value-F Content (List Content) → Content
content_step Value-F.Undefined = undefined
content_step Value-F.Error = error
content_step (Value-F.Bool b) = truth b
content_step (Value-F.Int n) = integer n
content_step (Value-F.Str s) = text s
content_step (Value-F.List cs) = items (contents_of cs)

abbrev pub contents_step : ValueList-F Content (List Content) → List Content
contents_step l = l.items.items

abbrev pub content : Value → Content
content = fold-Value Content (List Content) content_step contents_step

abbrev pub contents : ValueList → List Content
contents = fold-ValueList Content (List Content) content_step contents_step

pub list_content-contents_of : (cs : List Content) → list_content (contents_of cs) ≡ cs
list_content-contents_of [] = refl
list_content-contents_of (c ∷ cs) = ap (λ l. c ∷ l) (list_content-contents_of cs)

pub contents_of-injective : (cs ds : List Content) → contents_of cs ≡ contents_of ds → cs ≡ ds
contents_of-injective cs ds e =
    sym (list_content-contents_of cs) ∙ ap list_content e ∙ list_content-contents_of ds
