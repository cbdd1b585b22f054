-- The text of a list whose elements stand behind tabs.
use Rattle.std.proofs.Common.{◌≡◌, ℕ, ◌+◌, ◌<◌, List, [], ◌∷◌, ◌++◌, length, take, get_or, ap, sym, ◌∙◌, append_assoc}
use Rattle.std.proofs.lemmas.List.{flat_map_more, take_more}
use Rattle.daemon_texts.specs.ListTexts.{behind_tabs}

-- one element more: a tab, and then its text
pub one_more_behind_tab : {X : Type 0} (text : X → List ℕ) (bs s t u : List ℕ) (xs : List X) (i : ℕ) (d : X) → s ≡ bs ++ behind_tabs text (take i xs) → t ≡ s ++ 9 ∷ [] → u ≡ t ++ text (get_or xs i d) → i < length xs → u ≡ bs ++ behind_tabs text (take (i + 1) xs)
one_more_behind_tab text bs s t u xs i d so_far tab more below =
    more
    ∙ ap (λ v. v ++ text (get_or xs i d)) (tab ∙ ap (λ v. v ++ 9 ∷ []) so_far)
    ∙ append_assoc (bs ++ behind_tabs text (take i xs)) (9 ∷ []) (text (get_or xs i d))
    ∙ flat_map_more (λ x. 9 ∷ text x) bs (take i xs) (get_or xs i d)
    ∙ ap (λ ys. bs ++ behind_tabs text ys) (sym (take_more xs i d below))
