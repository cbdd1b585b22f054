-- What is pushed one after the other.
use Rattle.std.proofs.Common.{◌≡◌, ℕ, zero, suc, ◌+◌, ◌<◌, [], ◌∷◌, ◌++◌, List, Some, drop, get_or, length, map, slice_get, refl, ap, sym, ◌∙◌, arith}
use Rattle.std.proofs.lemmas.List.{append_assoc, drop_more}
use Rattle.ad_tree.specs.Ad.{Attributes}
use Rattle.ad_tree.specs.Tree.{Tree}
use Rattle.queue_tx.specs.declared.key.Key.{Key}
use Rattle.queue_tx.specs.Operations.{Operation}
use Rattle.pool_parts.specs.Submissions.{ad_ops, attribute_op, attribute_ops, jobs_ops, job_numbered}
use Rattle.queue_tx.specs.declared.key.Key.TheVariants.{Proc}

pub at_place : (ad : Attributes) (i : ℕ) (d : List ℕ × Tree) → i < length ad → slice_get ad i ≡ Some (get_or ad i d)
at_place [] i d h = absurd (omega arith)
at_place (a ∷ ad) zero d h = refl
at_place (a ∷ ad) (suc i) d h = at_place ad i d (omega arith)

-- one attribute more, of those that are left
pub attribute_more : (key : Key) (ad : Attributes) (i : ℕ) (d : List ℕ × Tree) (whole before after : List Operation) → i < length ad
    → before ++ map (attribute_op key) (drop i ad) ≡ whole → after ≡ before ++ attribute_ops key (slice_get ad i) → after ++ map (attribute_op key) (drop (i + 1) ad) ≡ whole
attribute_more key ad i d whole before after less left pushed =
    ap (λ l. l ++ map (attribute_op key) (drop (i + 1) ad)) (pushed ∙ ap (λ o. before ++ attribute_ops key o) (at_place ad i d less))
    ∙ append_assoc before (attribute_op key (get_or ad i d) ∷ []) (map (attribute_op key) (drop (i + 1) ad))
    ∙ ap (λ l. before ++ map (attribute_op key) l) (sym (drop_more ad i d less))
    ∙ left

-- one job more, of those that are left
pub job_more : (cluster proc : ℕ) (ads : List Attributes) (i : ℕ) (d : Attributes) (whole before after : List Operation) → i < length ads
    → before ++ jobs_ops cluster proc (drop i ads) ≡ whole → after ≡ before ++ ad_ops (Proc (job_numbered cluster proc)) (get_or ads i d) → after ++ jobs_ops cluster (proc + 1) (drop (i + 1) ads) ≡ whole
job_more cluster proc ads i d whole before after less left pushed =
    ap (λ l. l ++ jobs_ops cluster (proc + 1) (drop (i + 1) ads)) pushed
    ∙ append_assoc before (ad_ops (Proc (job_numbered cluster proc)) (get_or ads i d)) (jobs_ops cluster (proc + 1) (drop (i + 1) ads))
    ∙ ap (λ l. before ++ jobs_ops cluster proc l) (sym (drop_more ads i d less))
    ∙ left
