-- Calls of a store, one after the other.
use Rattle.std.proofs.Common.{◌≡◌, ◌⊎◌, inl, inr, ⊎_elim, ℕ, zero, suc, ◌≤◌, List, [], ◌∷◌, ◌++◌, length, take, refl, ap, sym, ◌∙◌, subst, arith}
use Rattle.std.specs.Prelude.{Result}
use Rattle.pool_outer.specs.declared.store.StoreError.{StoreError}
use Rattle.pool_outer.specs.Files.{Contents, Images, Lengths, IsImage, Leaves, Elapses, SameFiles, Syncs, bytes_in}
use Rattle.pool_store.specs.Moments.{IsReached, KeepsFile, LeavesOnly}

module _ {D : Type 0} (moment : D → ℕ) (left_since : D → Images) (name : List ℕ) where
  -- before the first call
  pub begins : (old : D) (P : List ℕ → Type 0) → ((image : List ℕ) → left_since old name (moment old) image → P image) → LeavesOnly moment left_since name old old P
  begins old P now = record { later = omega arith; each = now; before = λ t c le s. inl s }

  -- one call more, after which a stop leaves what has P
  pub goes_on : (old mid new : D) (file : Contents) (solid : Lengths) (P : List ℕ → Type 0) → LeavesOnly moment left_since name old mid P
      → Elapses (moment mid) (moment new) (left_since mid) (left_since new) file solid → ((image : List ℕ) → Leaves file solid name image → P image)
      → LeavesOnly moment left_since name old new P
  goes_on old mid new file solid P so_far time here =
      let le = so_far.later in
      let le' = time.later in
      record {
        later = omega arith;
        each = λ c s. ⊎_elim (λ p. so_far.each c p) (λ n. here c n) (time.nothing_else name (moment old) c so_far.later s);
        before = λ t c h s. ⊎_elim (λ p. so_far.before t c h p) (λ n. inr (here c n)) (time.nothing_else name t c (omega arith) s);
      }

  pub weaker : (old new : D) (P Q : List ℕ → Type 0) → LeavesOnly moment left_since name old new P → ((image : List ℕ) → P image → Q image) → LeavesOnly moment left_since name old new Q
  weaker old new P Q l f = record { later = l.later; each = λ c s. f c (l.each c s); before = λ t c h s. ⊎_elim (λ p. inl p) (λ p. inr (f c p)) (l.before t c h s) }

  -- two runs of calls
  pub joins : (old mid new : D) (P : List ℕ → Type 0) → LeavesOnly moment left_since name old mid P → LeavesOnly moment left_since name mid new P → LeavesOnly moment left_since name old new P
  joins old mid new P first second =
      let le = first.later in
      let le' = second.later in
      record {
        later = omega arith;
        each = λ c s. ⊎_elim (λ p. first.each c p) (λ p. p) (second.before (moment old) c first.later s);
        before = λ t c h s. ⊎_elim (λ p. first.before t c h p) (λ p. inr p) (second.before t c (omega arith) s);
      }

-- ---- prefixes

take_within : (n : ℕ) (xs ys : List ℕ) → n ≤ length xs → take n (xs ++ ys) ≡ take n xs
take_within zero xs ys le = refl
take_within (suc n) [] ys le = absurd (omega arith)
take_within (suc n) (x ∷ xs) ys le = ap (λ (z : List ℕ). x ∷ z) (take_within n xs ys (omega arith))

take_short : (n : ℕ) (xs : List ℕ) → length (take n xs) ≤ length xs
take_short zero xs = omega arith
take_short (suc n) [] = omega arith
take_short (suc n) (x ∷ xs) = let r = take_short n xs in omega arith

-- a prefix of a prefix
take_again : (m n : ℕ) (xs : List ℕ) → m ≤ length (take n xs) → take m (take n xs) ≡ take m xs
take_again zero n xs le = refl
take_again (suc m) zero xs le = absurd (omega arith)
take_again (suc m) (suc n) [] le = refl
take_again (suc m) (suc n) (x ∷ xs) le = ap (λ (z : List ℕ). x ∷ z) (take_again m n xs (omega arith))

-- a prefix of bytes with a prefix of more behind them
take_behind : (m n : ℕ) (xs ys : List ℕ) → m ≤ length (xs ++ take n ys) → take m (xs ++ take n ys) ≡ take m (xs ++ ys)
take_behind m n [] ys le = take_again m n ys le
take_behind zero n (x ∷ xs) ys le = refl
take_behind (suc m) n (x ∷ xs) ys le = ap (λ (z : List ℕ). x ∷ z) (take_behind m n xs ys (omega arith))

image_short : (solid : ℕ) (bytes image : List ℕ) → IsImage solid bytes image → length image ≤ length bytes
image_short solid bytes image i = let e = ap length i.front in let s = take_short (length image) bytes in omega arith

-- before bytes are written
pub reached_before : (solid : ℕ) (bytes more image : List ℕ) → IsImage solid bytes image → IsReached solid bytes more image
reached_before solid bytes more image i = record {
  front = i.front ∙ sym (take_within (length image) bytes more (image_short solid bytes image i));
  solid_stays = i.solid_stays;
}

-- and while they are
pub reached_after : (solid solid' n : ℕ) (bytes more new image : List ℕ) → new ≡ bytes ++ take n more → solid ≤ solid' → IsImage solid' new image → IsReached solid bytes more image
reached_after solid solid' n bytes more new image is le i =
    let j : IsImage solid' (bytes ++ take n more) image = subst (λ (z : List ℕ). IsImage solid' z image) is i in
    let s = i.solid_stays in
    record {
      front = j.front ∙ take_behind (length image) n bytes more (image_short solid' (bytes ++ take n more) image j);
      solid_stays = omega arith;
    }

-- no more images than before
pub leaves_fewer : (file file' : Contents) (solid solid' : Lengths) (name image : List ℕ) → file' name ≡ file name → solid name ≤ solid' name → Leaves file' solid' name image → Leaves file solid name image
leaves_fewer file file' solid solid' name image same le i =
    let s = i.solid_stays in
    record { front = i.front ∙ ap (λ f. take (length image) (bytes_in f)) same; solid_stays = omega arith }

-- ---- calls that keep a file

module _ {D : Type 0} (file : D → Contents) (solid : D → Lengths) (moment : D → ℕ) (left_since : D → Images) (name : List ℕ) where
  -- one call
  pub keeps_call : (old new : D) → ((image : List ℕ) → left_since old name (moment old) image → Leaves (file old) (solid old) name image) → file new name ≡ file old name → solid old name ≤ solid new name
      → Elapses (moment old) (moment new) (left_since old) (left_since new) (file new) (solid new) → KeepsFile file solid moment left_since name old new
  keeps_call old new only same le time = record {
    same = same;
    no_less = le;
    quiet = goes_on moment left_since name old old new (file new) (solid new) (λ image. Leaves (file old) (solid old) name image)
        (begins moment left_since name old (λ image. Leaves (file old) (solid old) name image) only) time
        (λ image left. leaves_fewer (file old) (file new) (solid old) (solid new) name image same le left);
  }

  pub keeps_same : (old new : D) → ((image : List ℕ) → left_since old name (moment old) image → Leaves (file old) (solid old) name image) → SameFiles (file old) (file new) (solid old) (solid new)
      → Elapses (moment old) (moment new) (left_since old) (left_since new) (file new) (solid new) → KeepsFile file solid moment left_since name old new
  keeps_same old new only same time = keeps_call old new only (same name).0 (let e = (same name).1 in omega arith) time

  pub keeps_sync : {T : Type 0} (old new : D) (r : Result T StoreError) → ((image : List ℕ) → left_since old name (moment old) image → Leaves (file old) (solid old) name image)
      → Syncs name (file old) (file new) (solid old) (solid new) r → Elapses (moment old) (moment new) (left_since old) (left_since new) (file new) (solid new) → KeepsFile file solid moment left_since name old new
  keeps_sync old new r only s time = keeps_call old new only s.same s.no_less time

  -- no call
  pub keeps_none : (old : D) → ((image : List ℕ) → left_since old name (moment old) image → Leaves (file old) (solid old) name image) → KeepsFile file solid moment left_since name old old
  keeps_none old only = record { same = refl; no_less = omega arith; quiet = begins moment left_since name old (λ image. Leaves (file old) (solid old) name image) only }

  -- two runs of calls
  pub keeps_both : (old mid new : D) → KeepsFile file solid moment left_since name old mid → KeepsFile file solid moment left_since name mid new → KeepsFile file solid moment left_since name old new
  keeps_both old mid new a b =
      let le = a.no_less in
      let le' = b.no_less in
      record {
        same = b.same ∙ a.same;
        no_less = omega arith;
        quiet = joins moment left_since name old mid new (λ image. Leaves (file old) (solid old) name image) a.quiet
            (weaker moment left_since name mid new (λ image. Leaves (file mid) (solid mid) name image) (λ image. Leaves (file old) (solid old) name image) b.quiet
            (λ image left. leaves_fewer (file old) (file mid) (solid old) (solid mid) name image a.same a.no_less left));
      }

  -- what is left before or after, where the file is kept
  pub kept_either : (old new : D) → KeepsFile file solid moment left_since name old new
      → LeavesOnly moment left_since name old new (λ image. Leaves (file old) (solid old) name image ⊎ Leaves (file new) (solid new) name image)
  kept_either old new k = weaker moment left_since name old new (λ image. Leaves (file old) (solid old) name image) (λ image. Leaves (file old) (solid old) name image ⊎ Leaves (file new) (solid new) name image) k.quiet (λ image left. inl left)

  -- and where it is changed behind that
  pub changed_behind : (old mid new : D) → KeepsFile file solid moment left_since name old mid → LeavesOnly moment left_since name mid new (λ image. Leaves (file mid) (solid mid) name image ⊎ Leaves (file new) (solid new) name image)
      → LeavesOnly moment left_since name old new (λ image. Leaves (file old) (solid old) name image ⊎ Leaves (file new) (solid new) name image)
  changed_behind old mid new k l =
      joins moment left_since name old mid new (λ image. Leaves (file old) (solid old) name image ⊎ Leaves (file new) (solid new) name image)
      (weaker moment left_since name old mid (λ image. Leaves (file old) (solid old) name image) (λ image. Leaves (file old) (solid old) name image ⊎ Leaves (file new) (solid new) name image) k.quiet (λ image left. inl left))
      (weaker moment left_since name mid new (λ image. Leaves (file mid) (solid mid) name image ⊎ Leaves (file new) (solid new) name image) (λ image. Leaves (file old) (solid old) name image ⊎ Leaves (file new) (solid new) name image) l by)
    where
      by : (image : List ℕ) → Leaves (file mid) (solid mid) name image ⊎ Leaves (file new) (solid new) name image → Leaves (file old) (solid old) name image ⊎ Leaves (file new) (solid new) name image
      by image (inl left) = inl (leaves_fewer (file old) (file mid) (solid old) (solid mid) name image k.same k.no_less left)
      by image (inr left) = inr left

  -- and where calls behind that leave nothing else than before them
  pub quiet_behind : (old mid new : D) → file mid name ≡ file old name → solid mid name ≡ solid old name → LeavesOnly moment left_since name old mid (Leaves (file old) (solid old) name)
      → LeavesOnly moment left_since name mid new (Leaves (file mid) (solid mid) name) → LeavesOnly moment left_since name old new (Leaves (file old) (solid old) name)
  quiet_behind old mid new same solid_same first second =
      joins moment left_since name old mid new (Leaves (file old) (solid old) name) first
      (weaker moment left_since name mid new (Leaves (file mid) (solid mid) name) (Leaves (file old) (solid old) name) second
      (λ image left. leaves_fewer (file old) (file mid) (solid old) (solid mid) name image same (omega arith) left))
