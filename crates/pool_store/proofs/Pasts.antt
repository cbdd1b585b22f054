-- Files in memory go on from one moment to the next.
use Rattle.std.proofs.Common.{◌≡◌, ◌⊎◌, inl, inr, ⊎_elim, ℕ, zero, suc, ◌≤◌, List, [], ◌∷◌, ◌++◌, length, drop, Vec, refl, ap, sym, ◌∙◌, subst, arith, length-append}
use Rattle.std.specs.declared.alloc.Global.{Global}
use Rattle.std.specs.declared.snapshot.Snapshot.{Snapshot}
use Rattle.pool_outer.specs.Files.{Elapses}
use Rattle.pool_store.specs.declared.memory.file.MemFile.{MemFile}
use Rattle.pool_store.specs.MemoryFiles.{file_in, solid_in}
use Rattle.pool_store.specs.Past.{Past, LeftNow, LeftThen, LeftSince}

earlier_stays : (past : Past) (was : Snapshot (Vec MemFile Global)) (name image : List ℕ) → LeftThen past name image → LeftThen (past ++ was ∷ []) name image
earlier_stays [] was name image left = absurd left
earlier_stays (old ∷ past) was name image (inl here) = inl here
earlier_stays (old ∷ past) was name image (inr left) = inr (earlier_stays past was name image left)

last_counts : (past : Past) (was : Snapshot (Vec MemFile Global)) (name image : List ℕ) → LeftNow was.value.items name image → LeftThen (past ++ was ∷ []) name image
last_counts [] was name image left = inl left
last_counts (old ∷ past) was name image left = inr (last_counts past was name image left)

only_last : (past : Past) (was : Snapshot (Vec MemFile Global)) (name image : List ℕ) → LeftThen (past ++ was ∷ []) name image → LeftThen past name image ⊎ LeftNow was.value.items name image
only_last [] was name image (inl here) = inr here
only_last [] was name image (inr left) = absurd left
only_last (old ∷ past) was name image (inl here) = inl (inl here)
only_last (old ∷ past) was name image (inr left) = ⊎_elim (λ l. inl (inr l)) (λ l. inr l) (only_last past was name image left)

drop_push : (moment : ℕ) (past : Past) (was : Snapshot (Vec MemFile Global)) → moment ≤ length past → drop moment (past ++ was ∷ []) ≡ drop moment past ++ was ∷ []
drop_push zero past was le = refl
drop_push (suc moment) [] was le = absurd (omega arith)
drop_push (suc moment) (old ∷ past) was le = drop_push moment past was (omega arith)

-- one more moment, after which the files are others
pub elapses : (past now : Past) (was : Snapshot (Vec MemFile Global)) (old new : List MemFile) → was.value.items ≡ old → now ≡ past ++ was ∷ []
    → Elapses (length past) (length now) (LeftSince past old) (LeftSince now new) (file_in new) (solid_in new)
elapses past now was old new is grown = record {
  later = omega (arith, ap length grown, length-append past (was ∷ []));
  keeps = λ name moment image le left. inr (subst (λ (l : Past). LeftThen l name image) (sym (ap (λ (l : Past). drop moment l) grown ∙ drop_push moment past was le))
      (⊎_elim (λ here. last_counts (drop moment past) was name image (subst (λ files. LeftNow files name image) (sym is) here)) (λ then_left. earlier_stays (drop moment past) was name image then_left) left));
  nothing_else = λ name moment image le left. ⊎_elim (λ here. inr here)
      (λ then_left. inl (⊎_elim (λ l. inr l) (λ here. inl (subst (λ files. LeftNow files name image) is here))
      (only_last (drop moment past) was name image (subst (λ (l : Past). LeftThen l name image) (ap (λ (l : Past). drop moment l) grown ∙ drop_push moment past was le) then_left)))) left;
}

-- what was kept as a moment ended
pub ended : (past now : Past) (old : Vec MemFile Global) (new : List MemFile) → ((was : Snapshot (Vec MemFile Global)) × ((was.value ≡ old) × (now ≡ past ++ was ∷ [])))
    → Elapses (length past) (length now) (LeftSince past old.items) (LeftSince now new) (file_in new) (solid_in new)
ended past now old new (was, (is, grown)) = elapses past now was old.items new (ap (λ (v : Vec MemFile Global). v.items) is) grown
