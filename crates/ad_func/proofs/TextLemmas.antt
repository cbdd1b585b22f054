-- Texts that are joined one after another.
use Rattle.std.proofs.Common.{◌≡◌, ℕ, suc, ◌+◌, ◌≤◌, ◌++◌, List, map, drop, length, get_or, Some, None, arith}
use Rattle.std.proofs.lemmas.Grind.{common_steps}
use Rattle.ad_value.specs.Content.{content}
use Rattle.ad_value.specs.declared.value.Value.{Value}
use Rattle.ad_func.specs.Texts.{plain_text, strcat_text, text_of_all}

-- s is the text of the first i of these values, where the texts of all are
abbrev pub IsJoined : List Value → List ℕ → ℕ → Type 0
IsJoined vs s i = text_of_all (map content vs) ≡ strcat_text (Some s) (text_of_all (map content (drop i vs)))

pub all_joined : (vs : List Value) (s : List ℕ) (i : ℕ) → IsJoined vs s i → length vs ≤ i → Some s ≡ text_of_all (map content vs)
all_joined vs s i so_far all = grind (arith, common_steps)

pub none_joined : (vs : List Value) (s : List ℕ) (i : ℕ) (d v : Value) → IsJoined vs s i → suc i ≤ length vs → get_or vs i d ≡ v → None ≡ plain_text (content v) → None ≡ text_of_all (map content vs)
none_joined vs s i d v so_far more here none = grind (arith, common_steps)

pub one_more_joined : (vs : List Value) (s t : List ℕ) (i : ℕ) (d v : Value) → IsJoined vs s i → suc i ≤ length vs → get_or vs i d ≡ v → Some t ≡ plain_text (content v) → IsJoined vs (s ++ t) (i + 1)
one_more_joined vs s t i d v so_far more here some = grind (arith, common_steps)
