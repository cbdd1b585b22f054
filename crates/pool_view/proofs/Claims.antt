-- What a startd does to its slot's mark keeps every spent run spent, and every running run's claim held.
use Rattle.std.proofs.Common.{◌≡◌, ℕ, ◌<◌, ◌≤◌, ◌⊎◌, inl, inr, Option, Some, None, Bool, true, false, refl, sym, ◌∙◌, ap, subst, arith, if◌then◌else◌, IfSome, IsSomeAnd}
use Rattle.std.specs.Prelude.{option_map}
use Rattle.claim_id.specs.declared.numbers.SlotId.{SlotId}
use Rattle.claim_id.specs.declared.numbers.RunNo.{RunNo}
use Rattle.claim_id.specs.declared.numbers.ClaimNo.{ClaimNo}
use Rattle.pool_view.specs.Numbers.{same_slot}
use Rattle.pool_view.specs.declared.run.Run.{Run}
use Rattle.pool_view.specs.declared.mark.HeldClaim.{HeldClaim}
use Rattle.pool_view.specs.declared.mark.SlotMark.{SlotMark}
use Rattle.pool_view.specs.AbstractPool.{Marks, AbstractPool, IsIn, IsUsed, IsSpentAt, IsSpentBy, KeepsSpent}
use Rattle.pool_view.proofs.Sameness.{same_slot-true, same_slot-same}
use Rattle.pool_view.specs.Protocol.{HasMark, Holds, HoldsBefore, IsHeldIn, marks_with, mark_with_claim, claim_with_number, mark_with_number, mark_after_claim, mark_after_boot}
use Rattle.pool_view.specs.ProtocolMove.{HasNoRun, IsFreeFor}
use Rattle.pool_view.specs.Facts.{IsSound, MarksSound, IsClaimed}

-- a fact of a slot's mark, where the slot is the one whose mark was changed, or another
pub at_slot : (marks : Marks) (slot : SlotId) (change : SlotMark → SlotMark) (q : SlotId) (P : Option SlotMark → Type 0)
    → (q ≡ slot → P (option_map change (marks q))) → P (marks q) → P (marks_with marks slot change q)
at_slot marks slot change q P own other = by_test (same_slot q slot) refl
  where
    by_test : (b : Bool) → same_slot q slot ≡ b → P (if b then option_map change (marks slot) else marks q)
    by_test true is = let same = same_slot-true q slot is in subst (λ k. P (option_map change (marks k))) same (own same)
    by_test false is = other

pub at_own : (marks : Marks) (slot : SlotId) (change : SlotMark → SlotMark) (P : Option SlotMark → Type 0) → P (option_map change (marks slot)) → P (marks_with marks slot change slot)
at_own marks slot change P own = subst (λ b. P (if b then option_map change (marks slot) else marks slot)) (sym (same_slot-same slot)) own

-- what is known of the mark that is changed
keeps_spent : (marks : Marks) (slot : SlotId) (change : SlotMark → SlotMark) (F : SlotMark → Type 0) → HasMark marks slot F
    → ((m : SlotMark) (run : RunNo) → F m → IsSpentAt run m → IsSpentAt run (change m))
    → KeepsSpent marks (marks_with marks slot change)
keeps_spent marks slot change F has each run spent =
    at_slot marks slot change run.claim.slot (λ o. IsSomeAnd o (IsSpentAt run)) (λ same. by_mark (marks run.claim.slot) spent (subst (λ k. IsSomeAnd (marks k) F) (sym same) has)) spent
  where
    by_mark : (o : Option SlotMark) → IsSomeAnd o (IsSpentAt run) → IsSomeAnd o F → IsSomeAnd (option_map change o) (IsSpentAt run)
    by_mark None h known = h
    by_mark (Some m) h known = each m run known h

keeps_sound : (marks : Marks) (slot : SlotId) (change : SlotMark → SlotMark) (F : SlotMark → Type 0) → HasMark marks slot F
    → ((m : SlotMark) → F m → IsSound slot m → IsSound slot (change m))
    → MarksSound marks → MarksSound (marks_with marks slot change)
keeps_sound marks slot change F has each sound q =
    at_slot marks slot change q (λ o. IfSome o (IsSound q)) (λ same. by_mark same (marks q) (subst (λ k. IsSomeAnd (marks k) F) (sym same) has) (sound q)) (sound q)
  where
    by_mark : q ≡ slot → (o : Option SlotMark) → IsSomeAnd o F → IfSome o (IsSound q) → IfSome (option_map change o) (IsSound q)
    by_mark same None known h = absurd known
    by_mark same (Some m) known h = subst (λ k. IsSound k (change m)) (sym same) (each m known (subst (λ k. IsSound k m) same h))

keeps_held : (marks : Marks) (slot : SlotId) (change : SlotMark → SlotMark) (F : SlotMark → Type 0) (claim : ClaimNo) → HasMark marks slot F
    → (claim.slot ≡ slot → (m : SlotMark) → F m → IsHeldIn m claim → IsHeldIn (change m) claim)
    → Holds marks claim → Holds (marks_with marks slot change) claim
keeps_held marks slot change F claim has each holds =
    at_slot marks slot change claim.slot (λ o. IsSomeAnd o (λ m. IsHeldIn m claim)) (λ same. by_mark same (marks claim.slot) (subst (λ k. IsSomeAnd (marks k) F) (sym same) has) holds) holds
  where
    by_mark : claim.slot ≡ slot → (o : Option SlotMark) → IsSomeAnd o F → IsSomeAnd o (λ m. IsHeldIn m claim) → IsSomeAnd (option_map change o) (λ m. IsHeldIn m claim)
    by_mark same None known h = h
    by_mark same (Some m) known h = each same m known h

pub with_sound : (marks : Marks) (slot : SlotId) (F : SlotMark → Type 0) → HasMark marks slot F → MarksSound marks → HasMark marks slot (λ m. F m × IsSound slot m)
with_sound marks slot F has sound = by_mark (marks slot) has (sound slot)
  where
    by_mark : (o : Option SlotMark) → IsSomeAnd o F → IfSome o (IsSound slot) → IsSomeAnd o (λ m. F m × IsSound slot m)
    by_mark None h s = absurd h
    by_mark (Some m) h s = (h, s)

-- New marks serve: no spent run stops being so, held claims are sound, and the claims of the runs are still held.
pub record Serves (v : AbstractPool) (marks : Marks) : Type 0 where
  pub spent : KeepsSpent v.marks marks
  pub sound : MarksSound marks
  pub held : (s : Run) → IsIn s v.runs → Holds marks s.run.claim

abbrev AreClaimed : AbstractPool → Type 0
AreClaimed v = (s : Run) → IsIn s v.runs → IsClaimed v.marks s

-- ---- a claim is granted
free_spent : (claim : ClaimNo) (m : SlotMark) (run : RunNo) → IsFreeFor claim m → IsSpentAt run m → IsSpentAt run (mark_with_claim claim m)
free_spent claim m run free (inl earlier) = inl earlier
free_spent claim m run free (inr (inl ended)) = inr (inl ended)
free_spent claim m run free (inr (inr is_used)) = absurd (subst (λ o. IsUsed o run) free.2 is_used)

pub hold_claim : (v : AbstractPool) (claim : ClaimNo) → AreClaimed v → MarksSound v.marks → HasMark v.marks claim.slot (IsFreeFor claim) → Serves v (marks_with v.marks claim.slot (mark_with_claim claim))
hold_claim v claim claimed sound free = record {
  spent = keeps_spent v.marks claim.slot (mark_with_claim claim) (IsFreeFor claim) free (free_spent claim);
  sound = keeps_sound v.marks claim.slot (mark_with_claim claim) (IsFreeFor claim) free (λ m f s. (refl, f.0, f.1)) sound;
  held = λ s there. keeps_held v.marks claim.slot (mark_with_claim claim) (IsFreeFor claim) s.run.claim free (λ same m f h. absurd (subst (λ o. IsSomeAnd o (λ x. x.claim ≡ s.run.claim)) f.2 h)) (claimed s there).1;
}

-- ---- its numbers are used
abbrev IsUsing : ClaimNo → SlotMark → Type 0
IsUsing claim m = IsHeldIn m claim

used_spent : (number : ℕ) (m : SlotMark) (run : RunNo) → IsSpentAt run m → IsSpentAt run (mark_with_number number m)
used_spent number m run (inl earlier) = inl earlier
used_spent number m run (inr (inl ended)) = inr (inl ended)
used_spent number m run (inr (inr is_used)) = inr (inr (by_claim m.held is_used))
  where
    by_claim : (o : Option HeldClaim) → IsUsed o run → IsUsed (option_map (claim_with_number number) o) run
    by_claim None h = h
    by_claim (Some h) (same, within) = (same, omega (arith, within))

used_sound : (number : ℕ) (slot : SlotId) (m : SlotMark) → IsSound slot m → IsSound slot (mark_with_number number m)
used_sound number slot m sound = by_claim m.held sound
  where
    by_claim : (o : Option HeldClaim) → IfSome o (λ h. (h.claim.slot ≡ slot) × (h.claim.boot ≡ m.boot) × (m.ended < h.claim.seq)) → IfSome (option_map (claim_with_number number) o) (λ h. (h.claim.slot ≡ slot) × (h.claim.boot ≡ m.boot) × (m.ended < h.claim.seq))
    by_claim None h = tt
    by_claim (Some x) h = h

used_held : (number : ℕ) (m : SlotMark) (claim : ClaimNo) → IsHeldIn m claim → IsHeldIn (mark_with_number number m) claim
used_held number m claim holds = by_claim m.held holds
  where
    by_claim : (o : Option HeldClaim) → IsSomeAnd o (λ h. h.claim ≡ claim) → IsSomeAnd (option_map (claim_with_number number) o) (λ h. h.claim ≡ claim)
    by_claim None h = h
    by_claim (Some x) h = h

pub use_number : (v : AbstractPool) (run : RunNo) → AreClaimed v → MarksSound v.marks → Holds v.marks run.claim → Serves v (marks_with v.marks run.claim.slot (mark_with_number run.number))
use_number v run claimed sound holds = record {
  spent = keeps_spent v.marks run.claim.slot (mark_with_number run.number) (IsUsing run.claim) holds (λ m n known h. used_spent run.number m n h);
  sound = keeps_sound v.marks run.claim.slot (mark_with_number run.number) (IsUsing run.claim) holds (λ m known h. used_sound run.number run.claim.slot m h) sound;
  held = λ s there. keeps_held v.marks run.claim.slot (mark_with_number run.number) (IsUsing run.claim) s.run.claim holds (λ same m known h. used_held run.number m s.run.claim h) (claimed s there).1;
}

-- and the run of that number is spent
pub number_used : (marks : Marks) (run : RunNo) → Holds marks run.claim → IsSpentBy (marks_with marks run.claim.slot (mark_with_number run.number)) run × Holds (marks_with marks run.claim.slot (mark_with_number run.number)) run.claim
number_used marks run holds = (
  at_own marks run.claim.slot (mark_with_number run.number) (λ o. IsSomeAnd o (IsSpentAt run)) (by_mark (marks run.claim.slot) holds),
  keeps_held marks run.claim.slot (mark_with_number run.number) (IsUsing run.claim) run.claim holds (λ same m known h. used_held run.number m run.claim h) holds,
)
  where
    by_claim : (o : Option HeldClaim) → IsSomeAnd o (λ h. h.claim ≡ run.claim) → IsUsed (option_map (claim_with_number run.number) o) run
    by_claim None h = h
    by_claim (Some x) h = (h, omega arith)

    by_mark : (o : Option SlotMark) → IsSomeAnd o (λ m. IsHeldIn m run.claim) → IsSomeAnd (option_map (mark_with_number run.number) o) (IsSpentAt run)
    by_mark None h = h
    by_mark (Some m) h = inr (inr (by_claim m.held h))

-- ---- it ends
abbrev IsEndable : ClaimNo → SlotMark → Type 0
IsEndable claim m = IsHeldIn m claim × IsSound claim.slot m

ended_spent : (claim : ClaimNo) (m : SlotMark) (run : RunNo) → IsEndable claim m → IsSpentAt run m → IsSpentAt run (mark_after_claim claim m)
ended_spent claim m run known spent = by_claim m.held known.0 known.1 spent
  where
    by_claim : (o : Option HeldClaim) → IsSomeAnd o (λ h. h.claim ≡ claim) → IfSome o (λ h. (h.claim.slot ≡ claim.slot) × (h.claim.boot ≡ m.boot) × (m.ended < h.claim.seq))
        → (run.claim.boot < m.boot) ⊎ (((run.claim.boot ≡ m.boot) × (run.claim.seq ≤ m.ended)) ⊎ IsUsed o run) → IsSpentAt run (mark_after_claim claim m)
    by_claim None holds sound s = absurd holds
    by_claim (Some h) holds sound (inl earlier) = inl earlier
    by_claim (Some h) holds sound (inr (inl (boot, seq))) =
        let ends : h.claim.seq ≡ claim.seq = ap (λ c. c.seq) holds in
        let later : m.ended < h.claim.seq = sound.2 in
        inr (inl (boot, omega arith))
    by_claim (Some h) holds sound (inr (inr (same, within))) =
        let ends : h.claim.seq ≡ claim.seq = ap (λ c. c.seq) holds in
        let seq : h.claim.seq ≡ run.claim.seq = ap (λ c. c.seq) same in
        inr (inl (sym (ap (λ c. c.boot) same) ∙ sound.1, omega arith))

no_claim : (v : AbstractPool) (slot : SlotId) (s : Run) → AreClaimed v → HasNoRun v slot → IsIn s v.runs → s.run.claim.slot ≡ slot → ⊥
no_claim v slot s claimed none there same = none s there ((claimed s there).0 ∙ same)

pub end_claim : (v : AbstractPool) (claim : ClaimNo) → AreClaimed v → MarksSound v.marks → Holds v.marks claim → HasNoRun v claim.slot → Serves v (marks_with v.marks claim.slot (mark_after_claim claim))
end_claim v claim claimed sound holds none =
    let known : HasMark v.marks claim.slot (IsEndable claim) = with_sound v.marks claim.slot (λ m. IsHeldIn m claim) holds sound in
    record {
      spent = keeps_spent v.marks claim.slot (mark_after_claim claim) (IsEndable claim) known (ended_spent claim);
      sound = keeps_sound v.marks claim.slot (mark_after_claim claim) (IsEndable claim) known (λ m k s. tt) sound;
      held = λ s there. keeps_held v.marks claim.slot (mark_after_claim claim) (IsEndable claim) s.run.claim known (λ same m k h. absurd (no_claim v claim.slot s claimed none there same)) (claimed s there).1;
    }

-- ---- a machine boots
abbrev IsBootable : SlotId → ℕ → SlotMark → Type 0
IsBootable slot boot m = (m.boot < boot) × IsSound slot m

booted_spent : (slot : SlotId) (boot : ℕ) (m : SlotMark) (run : RunNo) → IsBootable slot boot m → IsSpentAt run m → IsSpentAt run (mark_after_boot boot m)
booted_spent slot boot m run known spent = by_claim m.held known.1 spent
  where
    by_claim : (o : Option HeldClaim) → IfSome o (λ h. (h.claim.slot ≡ slot) × (h.claim.boot ≡ m.boot) × (m.ended < h.claim.seq))
        → (run.claim.boot < m.boot) ⊎ (((run.claim.boot ≡ m.boot) × (run.claim.seq ≤ m.ended)) ⊎ IsUsed o run) → IsSpentAt run (mark_after_boot boot m)
    by_claim o sound (inl earlier) = inl (omega arith)
    by_claim o sound (inr (inl ended)) = inl (omega arith)
    by_claim None sound (inr (inr is_used)) = absurd is_used
    by_claim (Some h) sound (inr (inr (same, within))) =
        let boot_is : run.claim.boot ≡ m.boot = sym (ap (λ c. c.boot) same) ∙ sound.1 in
        inl (omega arith)

pub reboot : (v : AbstractPool) (slot : SlotId) (boot : ℕ) → AreClaimed v → MarksSound v.marks → HasMark v.marks slot (λ m. m.boot < boot) → HasNoRun v slot → Serves v (marks_with v.marks slot (mark_after_boot boot))
reboot v slot boot claimed sound later none =
    let known : HasMark v.marks slot (IsBootable slot boot) = with_sound v.marks slot (λ m. m.boot < boot) later sound in
    record {
      spent = keeps_spent v.marks slot (mark_after_boot boot) (IsBootable slot boot) known (booted_spent slot boot);
      sound = keeps_sound v.marks slot (mark_after_boot boot) (IsBootable slot boot) known (λ m k s. tt) sound;
      held = λ s there. keeps_held v.marks slot (mark_after_boot boot) (IsBootable slot boot) s.run.claim known (λ same m k h. absurd (no_claim v slot s claimed none there same)) (claimed s there).1;
    }

-- ---- a run whose number isn't used yet is not spent
pub held_before : (marks : Marks) (run : RunNo) → HoldsBefore marks run → Holds marks run.claim
held_before marks run before = by_mark (marks run.claim.slot) before
  where
    by_claim : (o : Option HeldClaim) → IsSomeAnd o (λ h. (h.claim ≡ run.claim) × (h.last < run.number)) → IsSomeAnd o (λ h. h.claim ≡ run.claim)
    by_claim None h = h
    by_claim (Some x) h = h.0

    by_mark : (o : Option SlotMark) → IsSomeAnd o (λ m. IsSomeAnd m.held (λ h. (h.claim ≡ run.claim) × (h.last < run.number))) → IsSomeAnd o (λ m. IsHeldIn m run.claim)
    by_mark None h = h
    by_mark (Some m) h = by_claim m.held h

pub unspent : (marks : Marks) (run : RunNo) → MarksSound marks → HoldsBefore marks run → ¬ IsSpentBy marks run
unspent marks run sound before spent = by_mark (marks run.claim.slot) before (sound run.claim.slot) spent
  where
    by_claim : (m : SlotMark) (o : Option HeldClaim) → IsSomeAnd o (λ h. (h.claim ≡ run.claim) × (h.last < run.number))
        → IfSome o (λ h. (h.claim.slot ≡ run.claim.slot) × (h.claim.boot ≡ m.boot) × (m.ended < h.claim.seq))
        → (run.claim.boot < m.boot) ⊎ (((run.claim.boot ≡ m.boot) × (run.claim.seq ≤ m.ended)) ⊎ IsUsed o run) → ⊥
    by_claim m None first known s = first
    by_claim m (Some h) (same, below) known (inl earlier) =
        let boot : h.claim.boot ≡ run.claim.boot = ap (λ c. c.boot) same in
        let own : h.claim.boot ≡ m.boot = known.1 in
        omega arith
    by_claim m (Some h) (same, below) known (inr (inl (boot, ended))) =
        let seq : h.claim.seq ≡ run.claim.seq = ap (λ c. c.seq) same in
        let later : m.ended < h.claim.seq = known.2 in
        omega arith
    by_claim m (Some h) (same, below) known (inr (inr (again, within))) = omega arith

    by_mark : (o : Option SlotMark) → IsSomeAnd o (λ m. IsSomeAnd m.held (λ h. (h.claim ≡ run.claim) × (h.last < run.number)))
        → IfSome o (IsSound run.claim.slot) → IsSomeAnd o (IsSpentAt run) → ⊥
    by_mark None h known s = h
    by_mark (Some m) h known s = by_claim m m.held h known s
