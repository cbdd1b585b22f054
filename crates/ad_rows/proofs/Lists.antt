-- Lists of submitted ads that grow at their end.
use Rattle.std.proofs.Common.{ℕ, ◌+◌, List, [], ◌∷◌, ◌++◌, length, subst, arith}
use Rattle.ad_tree.specs.Ad.{Attributes}
use Rattle.ad_rows.specs.Submitted.{IsSubmitted, AreSubmitted}

module _ (cluster : ℕ) where
  pub submitted_more : (proc : ℕ) (ads : List Attributes) (ad : Attributes) → AreSubmitted cluster proc ads → IsSubmitted cluster (proc + length ads) ad → AreSubmitted cluster proc (ads ++ ad ∷ [])
  submitted_more proc [] ad all is = (subst (λ k. IsSubmitted cluster k ad) (omega arith) is, tt)
  submitted_more proc (a ∷ ads) ad all is = (all.0, submitted_more (proc + 1) ads ad all.1 (subst (λ k. IsSubmitted cluster k ad) (omega arith) is))

  pub submitted_last : (proc : ℕ) (ads : List Attributes) (ad : Attributes) → AreSubmitted cluster proc (ads ++ ad ∷ []) → IsSubmitted cluster (proc + length ads) ad
  submitted_last proc [] ad all = subst (λ k. IsSubmitted cluster k ad) (omega arith) all.0
  submitted_last proc (a ∷ ads) ad all = subst (λ k. IsSubmitted cluster k ad) (omega arith) (submitted_last (proc + 1) ads ad all.1)
