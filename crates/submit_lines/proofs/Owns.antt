-- How many attributes are a job's own, one more at a time.
use Rattle.std.proofs.Common.{◌≡◌, ℕ, ◌+◌, ◌<◌, ◌≤◌, Bool, true, false, cond, List, [], length, get_or, take, refl, ap, ◌∙◌, arith}
use Rattle.std.specs.Option.{option_map_or}
use Rattle.std.proofs.lemmas.Option.{slice_get-get_or}
use Rattle.std.proofs.lemmas.List.{take_all}
use Rattle.std.proofs.lemmas.List.Sums.{count_by_more_yes, count_by_more_no}
use Rattle.ad_value.specs.Content.{undefined}
use Rattle.ad_tree.specs.Tree.{Tree, literal}
use Rattle.ad_tree.specs.Ad.{Attributes}
use Rattle.ad_rows.specs.Submitted.{is_own, own_attributes}
use Rattle.submit_lines.specs.JobAds.{own_at}

none : List ℕ × Tree
none = ([], literal undefined)

at : (ad : Attributes) (i : ℕ) → i < length ad → own_at ad i ≡ cond (is_own (get_or ad i none)) 1 0
at ad i l = ap (λ o. option_map_or (λ a. cond (is_own a) 1 0) o 0) (slice_get-get_or ad i none l)

at_most : (b : Bool) → cond b 1 0 ≤ 1
at_most true = omega arith
at_most false = omega arith

pub own_most : (ad : Attributes) (i : ℕ) → i < length ad → own_at ad i ≤ 1
own_most ad i l = let e = at ad i l in let m = at_most (is_own (get_or ad i none)) in omega (arith, e, m)

pub own_step : (ad : Attributes) (i : ℕ) → i < length ad → own_attributes (take (i + 1) ad) ≡ own_attributes (take i ad) + own_at ad i
own_step ad i l = by (is_own (get_or ad i none)) refl
  where
    by : (t : Bool) → is_own (get_or ad i none) ≡ t → own_attributes (take (i + 1) ad) ≡ own_attributes (take i ad) + own_at ad i
    by true e =
        let one : own_at ad i ≡ 1 = at ad i l ∙ ap (λ b. cond b 1 0) e in
        let more = count_by_more_yes is_own ad i none l e in omega (arith, one, more)
    by false e =
        let zero : own_at ad i ≡ 0 = at ad i l ∙ ap (λ b. cond b 1 0) e in
        let more = count_by_more_no is_own ad i none l e in omega (arith, zero, more)

pub own_all : (ad : Attributes) (i : ℕ) → length ad ≤ i → own_attributes (take i ad) ≡ own_attributes ad
own_all ad i l = ap own_attributes (take_all i ad l)

pub ruleset steps = (own_most, own_step, own_all)
