-- Calls of a store, one after the other, and the files that they leave as they were.
use Rattle.std.proofs.Common.{◌≡◌, ◌≢◌, ◌⊎◌, inl, inr, ◌∙◌, ℕ, Bool, true, List, None, Option, IsSome, Err, refl, ap, sym, subst, arith, true≢false}
use Rattle.pool_outer.specs.declared.store.StoreError.{StoreError}
use Rattle.pool_outer.specs.declared.store.StoreError.TheVariants.{Missing}
use Rattle.pool_outer.specs.Files.{Contents, Images, Lengths, Leaves, Elapses, Misses, Names, SameFiles, SameOthers}
use Rattle.pool_store.specs.Moments.{LeavesOnly}
use Rattle.pool_store.proofs.Moments.{begins, goes_on, joins, leaves_fewer, weaker}
use Rattle.queue_log.specs.Others.{IsSurelyThere, KeepsOthers}

module _ {D : Type 0} (file : D → Contents) (solid : D → Lengths) (moment : D → ℕ) (left_since : D → Images) (name : List ℕ) where
  -- one call
  pub others_call : (old new : D) → ((other image : List ℕ) → left_since old other (moment old) image → Leaves (file old) (solid old) other image) → SameOthers name (file old) (file new) (solid old) (solid new)
      → Elapses (moment old) (moment new) (left_since old) (left_since new) (file new) (solid new) → KeepsOthers file solid moment left_since name old new
  others_call old new only same time = record {
    same = same;
    quiet = λ other apart.
        let s = same other apart in
        goes_on moment left_since other old old new (file new) (solid new) (Leaves (file old) (solid old) other)
        (begins moment left_since other old (Leaves (file old) (solid old) other) (only other)) time
        (λ image left. leaves_fewer (file old) (file new) (solid old) (solid new) other image s.0 (let e = s.1 in omega arith) left);
  }

  pub others_same : (old new : D) → ((other image : List ℕ) → left_since old other (moment old) image → Leaves (file old) (solid old) other image) → SameFiles (file old) (file new) (solid old) (solid new)
      → Elapses (moment old) (moment new) (left_since old) (left_since new) (file new) (solid new) → KeepsOthers file solid moment left_since name old new
  others_same old new only same time = others_call old new only (λ other apart. same other) time

  -- no call
  pub others_none : (old : D) → ((other image : List ℕ) → left_since old other (moment old) image → Leaves (file old) (solid old) other image) → KeepsOthers file solid moment left_since name old old
  others_none old only = record {
    same = λ other apart. (refl, refl);
    quiet = λ other apart. begins moment left_since other old (Leaves (file old) (solid old) other) (only other);
  }

  -- two runs of calls
  pub others_both : (old mid new : D) → KeepsOthers file solid moment left_since name old mid → KeepsOthers file solid moment left_since name mid new → KeepsOthers file solid moment left_since name old new
  others_both old mid new a b = record {
    same = λ other apart. (
      (b.same other apart).0 ∙ (a.same other apart).0,
      (b.same other apart).1 ∙ (a.same other apart).1,
    );
    quiet = λ other apart.
        let s = a.same other apart in
        joins moment left_since other old mid new (Leaves (file old) (solid old) other) (a.quiet other apart)
        (weaker moment left_since other mid new (Leaves (file mid) (solid mid) other) (Leaves (file old) (solid old) other) (b.quiet other apart)
        (λ image left. leaves_fewer (file old) (file mid) (solid old) (solid mid) other image s.0 (let e = s.1 in omega arith) left));
  }

-- a file that is there is not missed
pub there_not_missed : {T : Type 0} (tells : Bool) (file : Contents) (known : Names) (name : List ℕ) (e : StoreError) → e ≡ Missing → Misses {T = T} tells file known name (Err e) → IsSurelyThere tells file known name → ⊥
there_not_missed tells file known name e missing m (inl is) = true≢false (sym is ∙ m.unknown (ap Err missing))
there_not_missed tells file known name e missing m (inr there) = by (file name) (m.absent there.0 (ap Err missing)) there.1
  where
    by : (f : Option (List ℕ)) → f ≡ None → IsSome f → ⊥
    by f is some = true≢false (sym (subst IsSome is some))
