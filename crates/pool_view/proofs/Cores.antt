-- The core of a job's ad.
use Rattle.std.proofs.Common.{◌≡◌, Bool, true, false, cond, not, ◌||◌, List, [], ◌∷◌, filter, refl, sym, ◌∙◌, ap}
use Rattle.std.specs.List.{list_any}
use Rattle.ad_value.specs.declared.names.job.TheConstants.{JOB_STATUS}
use Rattle.ad_value.specs.declared.names.pool.TheConstants.{HOLD_REASON, EXIT_BY_SIGNAL, EXIT_CODE, EXIT_SIGNAL}
use Rattle.ad_value.specs.Groups.{run_names, pool_names}
use Rattle.ad_tree.specs.Ad.{Attributes}
use Rattle.ad_value.specs.Names.{same_name}
use Rattle.pool_mail.specs.Ads.{request_ad}
use Rattle.pool_view.specs.Ads.{core_of}

-- what passes the second test passes the first
filter_through : {A : Type 0} (p q : A → Bool) → ((x : A) → p x ≡ false → q x ≡ false) → (xs : List A) → filter q (filter p xs) ≡ filter q xs
filter_through p q within [] = refl
filter_through p q within (x ∷ xs) = by (p x) refl (filter_through p q within xs)
  where
    by : (b : Bool) → p x ≡ b → filter q (filter p xs) ≡ filter q xs → filter q (cond b (x ∷ filter p xs) (filter p xs)) ≡ cond (q x) (x ∷ filter q xs) (filter q xs)
    by true is rest = ap (λ l. cond (q x) (x ∷ l) l) rest
    by false is rest = rest ∙ sym (ap (λ b. cond b (x ∷ filter q xs) (filter q xs)) (within x is))

or_last : (a b c d e r : Bool) → not r ≡ false → not (a || (b || (c || (d || (e || r))))) ≡ false
or_last true b c d e r h = refl
or_last false true c d e r h = refl
or_last false false true d e r h = refl
or_last false false false true e r h = refl
or_last false false false false true r h = refl
or_last false false false false false r h = h

pub core_of_request : (ad : Attributes) → core_of (request_ad ad) ≡ core_of ad
core_of_request ad =
    filter_through (λ a. not (list_any (same_name a.0) run_names)) (λ a. not (list_any (same_name a.0) pool_names))
    (λ a is. or_last (same_name a.0 JOB_STATUS.now) (same_name a.0 HOLD_REASON.now) (same_name a.0 EXIT_BY_SIGNAL.now) (same_name a.0 EXIT_CODE.now) (same_name a.0 EXIT_SIGNAL.now) (list_any (same_name a.0) run_names) is) ad
