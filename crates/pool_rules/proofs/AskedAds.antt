-- Ads that are what jobs ask for, one job after another.
use Rattle.std.proofs.Common.{◌≡◌, ◌≢◌, ◌↔◌, ℕ, ◌+◌, ◌<◌, ◌≤◌, ◌==◌, Bool, false, List, [], ◌∷◌, ◌++◌, length, get_or, drop, IsTrue, sym, ◌∙◌, ap, true≢false}
use Rattle.std.proofs.lemmas.Bool.{eq-eqb, eqb-true}
use Rattle.std.proofs.lemmas.List.{append_cancel_left, drop_all, drop_more, nil_from_length}
use Rattle.ad_tree.specs.Ad.{Attributes}
use Rattle.claim_id.specs.declared.numbers.JobId.{JobId}
use Rattle.pool_rules.proofs.Judged.{heads, not_so}
use Rattle.pool_rules.specs.Judging.{asked_ad, asked_ads}
use Rattle.queue_tx.specs.Queues.{KeyedAds, ad_at}
use Rattle.queue_tx.specs.declared.key.Key.TheVariants.{Proc}

pub another_first : {b : Bool} {ads rest : List Attributes} {first asked : Attributes} → b ≡ false → IsTrue b ↔ (first ≡ asked) → ads ≡ first ∷ rest → (more : List Attributes) → ads ≢ asked ∷ more
another_first {rest = rest} {first = first} {asked = asked} is told here more same = true≢false (sym (told.1 (heads first asked rest more (sym here ∙ same))) ∙ is)

-- the next job and those after it
next_asked : (q : KeyedAds) (jobs : List JobId) (i : ℕ) (d : JobId) → i < length jobs → asked_ads q (drop i jobs) ≡ asked_ad (ad_at (Proc (get_or jobs i d)) q) ++ asked_ads q (drop (i + 1) jobs)
next_asked q jobs i d below = ap (asked_ads q) (drop_more jobs i d below)

-- P says that the ads are those of all jobs, which is whether those that are left are of the jobs that are left
pub not_next : {P : Type 0} (q : KeyedAds) (jobs : List JobId) (i : ℕ) (d : JobId) (left : List Attributes) → P ↔ (left ≡ asked_ads q (drop i jobs)) → i < length jobs
    → ((more : List Attributes) → left ≢ asked_ad (ad_at (Proc (get_or jobs i d)) q) ++ more) → IsTrue false ↔ P
not_next q jobs i d left same below none = not_so (λ p. none (asked_ads q (drop (i + 1) jobs)) (same.0 p ∙ next_asked q jobs i d below))

pub one_more_asked : {P : Type 0} (q : KeyedAds) (jobs : List JobId) (i : ℕ) (d : JobId) (left rest : List Attributes) → P ↔ (left ≡ asked_ads q (drop i jobs)) → i < length jobs
    → left ≡ asked_ad (ad_at (Proc (get_or jobs i d)) q) ++ rest → P ↔ (rest ≡ asked_ads q (drop (i + 1) jobs))
one_more_asked q jobs i d left rest same below here =
    let first = asked_ad (ad_at (Proc (get_or jobs i d)) q) in
    let all = next_asked q jobs i d below in
    (λ p. append_cancel_left first rest (asked_ads q (drop (i + 1) jobs)) (sym here ∙ same.0 p ∙ all), λ h. same.1 (here ∙ ap (λ l. first ++ l) h ∙ sym all))

pub all_asked : {P : Type 0} {b : Bool} (q : KeyedAds) (jobs : List JobId) (i : ℕ) (left : List Attributes) → P ↔ (left ≡ asked_ads q (drop i jobs)) → length jobs ≤ i → b ≡ (length left == 0) → IsTrue b ↔ P
all_asked q jobs i left same over is =
    let none : asked_ads q (drop i jobs) ≡ [] = ap (asked_ads q) (drop_all i jobs over) in
    (λ yes. same.1 (nil_from_length left (eqb-true (length left) 0 (sym is ∙ yes)) ∙ sym none), λ p. is ∙ eq-eqb (length left) 0 (ap length (same.0 p ∙ none)))
