-- The slots stay parts of the protocol over every move, and from them the runs, the marks and the
-- ads of the pool follow.
use Rattle.std.proofs.Common.{◌≡◌, ◌⊎◌, inl, inr, List, [], ◌∷◌, map, Option, Some, None, Bool, true, false, not, refl, sym, ◌∙◌, ap, subst, if◌then◌else◌, IsSome}
use Rattle.std.specs.Prelude.{option_map}
use Rattle.std.specs.List.{filter_map, cons_option}
use Rattle.claim_id.specs.declared.numbers.SlotId.{SlotId}
use Rattle.pool_view.specs.declared.mark.SlotMark.{SlotMark}
use Rattle.pool_view.specs.declared.run.Run.{Run}
use Rattle.pool_view.specs.Numbers.{same_slot, same_run}
use Rattle.pool_view.specs.AbstractPool.{Marks, IsIn}
use Rattle.pool_view.specs.AbstractStep.{Extend}
use Rattle.pool_view.specs.Safe.{Safe}
use Rattle.pool_view.proofs.Members.{in_filter, in_map, map_in, has_some}
use Rattle.pool_view.proofs.Sameness.{same_slot-true, other_slot}
use Rattle.pool_view.specs.Protocol.{Protocol, marks_with, mark_with_claim, mark_with_number, mark_after_claim, mark_after_boot}
use Rattle.pool_view.specs.ProtocolMove.{ProtocolMove, PassTime, Pend, Commit, Drop, Confirm, TakeOrder, SendLease, HoldClaim, UseNumber, EndClaim, Reboot, StartRun, ExtendRun, StopRun, SayGone, MayMove, MayAll, protocol_after, protocol_after_all}
use Rattle.pool_view.specs.Facts.{Facts}
use Rattle.pool_view.specs.SlotPart.{SlotPart, IsPart, is_of_slot, own_part_after, part_after, part_after_all, part_at, HasParts, ShowsParts, AreDistinct, ArePlaced}
use Rattle.pool_view.proofs.Sources.{RunBefore, run_before}
use Rattle.pool_view.proofs.Claims.{at_slot}
use Rattle.pool_view.proofs.Moves.{move_good}
use Rattle.pool_view.proofs.Parts.{of_pending, part_on}

-- ---- a list of parts
pub part_found : (slot : SlotId) (parts : List SlotPart) (s : SlotPart) → part_at slot parts ≡ Some s → IsIn s parts × (s.slot ≡ slot)
part_found slot [] s is = cc
part_found slot (t ∷ ts) s is = by_test (same_slot slot t.slot) refl is (part_found slot ts s)
  where
    by_test : (b : Bool) → same_slot slot t.slot ≡ b → (if b then Some t else part_at slot ts) ≡ Some s → (part_at slot ts ≡ Some s → IsIn s ts × (s.slot ≡ slot)) → IsIn s (t ∷ ts) × (s.slot ≡ slot)
    by_test true same now rest = let its : t ≡ s = cc in (inl (sym its), ap (λ x. x.slot) (sym its) ∙ sym (same_slot-true slot t.slot same))
    by_test false same now rest = let found = rest now in (inr found.0, found.1)

-- a change that keeps the slots' numbers
part_at-map : (f : SlotPart → SlotPart) → ((s : SlotPart) → (f s).slot ≡ s.slot) → (slot : SlotId) (parts : List SlotPart) → part_at slot (map f parts) ≡ option_map f (part_at slot parts)
part_at-map f keeps slot [] = refl
part_at-map f keeps slot (s ∷ ss) =
    ap (λ q. if same_slot slot q then Some (f s) else part_at slot (map f ss)) (keeps s) ∙ by_test (same_slot slot s.slot) (part_at-map f keeps slot ss)
  where
    by_test : (b : Bool) → part_at slot (map f ss) ≡ option_map f (part_at slot ss) → (if b then Some (f s) else part_at slot (map f ss)) ≡ option_map f (if b then Some s else part_at slot ss)
    by_test true rest = refl
    by_test false rest = rest

none_before : {A B : Type 0} (f : A → B) (o : Option A) → option_map f o ≡ None → o ≡ None
none_before f None is = refl
none_before f (Some x) is = cc

own_slot : (m : ProtocolMove) (s : SlotPart) → (own_part_after s m).slot ≡ s.slot
own_slot (PassTime moment) s = refl
own_slot (Pend change) s = refl
own_slot Commit s = refl
own_slot Drop s = refl
own_slot (Confirm job) s = refl
own_slot (TakeOrder job) s = refl
own_slot (SendLease l) s = refl
own_slot (HoldClaim claim) s = refl
own_slot (UseNumber run) s = refl
own_slot (EndClaim claim) s = refl
own_slot (Reboot slot boot) s = refl
own_slot (StartRun r) s = refl
own_slot (ExtendRun r until) s = refl
own_slot (StopRun r how) s = refl
own_slot (SayGone run) s = refl

slot_stays : (m : ProtocolMove) (s : SlotPart) → (part_after m s).slot ≡ s.slot
slot_stays m s = by_test (is_of_slot s.slot m)
  where
    by_test : (b : Bool) → (let t : SlotPart = (if b then own_part_after s m else s) in t.slot) ≡ s.slot
    by_test true = own_slot m s
    by_test false = refl

-- ---- what comes new
-- a run after a move was there before, in that slot, or its slot has a mark
run_after : (p : Protocol) (m : ProtocolMove) (r : Run) → Facts p → MayMove p m → IsIn r (protocol_after p m).pool.runs → ((z : Run) × IsIn z p.pool.runs × (z.slot ≡ r.slot)) ⊎ IsSome (p.pool.marks r.slot)
run_after p (PassTime moment) r facts may there = inl (r, there, refl)
run_after p (Pend change) r facts may there = inl (r, there, refl)
run_after p Commit r facts may there = inl (r, subst (IsIn r) (of_pending p.pool p.pending facts.pending).runs there, refl)
run_after p Drop r facts may there = inl (r, there, refl)
run_after p (Confirm job) r facts may there = inl (r, there, refl)
run_after p (TakeOrder job) r facts may there = inl (r, there, refl)
run_after p (SendLease l) r facts may there = inl (r, there, refl)
run_after p (HoldClaim claim) r facts may there = inl (r, there, refl)
run_after p (UseNumber run) r facts may there = inl (r, there, refl)
run_after p (EndClaim claim) r facts may there = inl (r, there, refl)
run_after p (Reboot slot boot) r facts may there = inl (r, there, refl)
run_after p (StartRun new) r facts may (inl same) =
    let marked : IsSome (p.pool.marks new.run.claim.slot) = has_some (p.pool.marks new.run.claim.slot) _ may.held in
    inr (subst (λ q. IsSome (p.pool.marks q)) (sym (ap (λ z. z.slot) same ∙ may.slot)) marked)
run_after p (StartRun new) r facts may (inr there) = inl (r, there, refl)
run_after p (ExtendRun old until) r facts may there = by_source (run_before p.pool (Extend old until) r there)
  where
    by_source : RunBefore p.pool (Extend old until) r → ((z : Run) × IsIn z p.pool.runs × (z.slot ≡ r.slot)) ⊎ IsSome (p.pool.marks r.slot)
    by_source (inl (z, before, run, job, slot)) = inl (z, before, slot)
    by_source (inr (marks, is)) = cc
run_after p (StopRun old how) r facts may there = inl (r, in_filter (λ x. not (same_run x.run old.run)) r p.pool.runs there, refl)
run_after p (SayGone run) r facts may there = inl (r, there, refl)

-- a slot without a mark gets none
no_mark : (marks : Marks) (slot q : SlotId) (change : SlotMark → SlotMark) → marks q ≡ None → marks_with marks slot change q ≡ None
no_mark marks slot q change none = at_slot marks slot change q (λ o. o ≡ None) (λ same. ap (option_map change) none) none

-- and what is no slot stays none
others_after : (p : Protocol) (m : ProtocolMove) (q : SlotId) → Facts p → p.pool.marks q ≡ None → p.pool.slots q ≡ None → ((protocol_after p m).pool.marks q ≡ None) × ((protocol_after p m).pool.slots q ≡ None)
others_after p (PassTime moment) q facts mark ad = (mark, ad)
others_after p (Pend change) q facts mark ad = (mark, ad)
others_after p Commit q facts mark ad = let same = of_pending p.pool p.pending facts.pending in (ap (λ f. f q) same.marks ∙ mark, ap (λ f. f q) same.slots ∙ ad)
others_after p Drop q facts mark ad = (mark, ad)
others_after p (Confirm job) q facts mark ad = (mark, ad)
others_after p (TakeOrder job) q facts mark ad = (mark, ad)
others_after p (SendLease l) q facts mark ad = (mark, ad)
others_after p (HoldClaim claim) q facts mark ad = (no_mark p.pool.marks claim.slot q (mark_with_claim claim) mark, ad)
others_after p (UseNumber run) q facts mark ad = (no_mark p.pool.marks run.claim.slot q (mark_with_number run.number) mark, ad)
others_after p (EndClaim claim) q facts mark ad = (no_mark p.pool.marks claim.slot q (mark_after_claim claim) mark, ad)
others_after p (Reboot slot boot) q facts mark ad = (no_mark p.pool.marks slot q (mark_after_boot boot) mark, ad)
others_after p (StartRun r) q facts mark ad = (no_mark p.pool.marks r.run.claim.slot q (mark_with_number r.run.number) mark, ad)
others_after p (ExtendRun r until) q facts mark ad = (mark, ad)
others_after p (StopRun r how) q facts mark ad = (mark, ad)
others_after p (SayGone run) q facts mark ad = (mark, ad)

-- ---- the slots stay parts
abbrev Covers : List SlotPart → SlotId → Type 0
Covers parts slot = (s : SlotPart) × IsIn s parts × (s.slot ≡ slot)

none_is_none : (o : Option SlotMark) → o ≡ None → IsSome o → ⊥
none_is_none None is some = cc
none_is_none (Some m) is some = cc

-- a slot that has a mark is covered
marked_covered : (p : Protocol) (parts : List SlotPart) (slot : SlotId) → HasParts p parts → IsSome (p.pool.marks slot) → Covers parts slot
marked_covered p parts slot has marked = by_part (part_at slot parts) refl
  where
    by_part : (o : Option SlotPart) → part_at slot parts ≡ o → Covers parts slot
    by_part None is = absurd (none_is_none (p.pool.marks slot) (has.others slot is).0 marked)
    by_part (Some s) is = let found = part_found slot parts s is in (s, found.0, found.1)

covered_after : (m : ProtocolMove) (parts : List SlotPart) (slot : SlotId) → Covers parts slot → Covers (map (part_after m) parts) slot
covered_after m parts slot (s, there, same) = (part_after m s, map_in (part_after m) s parts there, slot_stays m s ∙ same)

pub parts_on : (p : Protocol) (m : ProtocolMove) (parts : List SlotPart) → Facts p → Safe p.pool → MayMove p m → HasParts p parts → HasParts (protocol_after p m) (map (part_after m) parts)
parts_on p m parts facts safe may has = record {
  each = λ t there. (let found = in_map (part_after m) t parts there in subst (IsPart (protocol_after p m)) (sym found.2) (part_on p m found.0 facts safe may (has.each found.0 found.1)));
  covered = λ r there. covered_after m parts r.slot (by_source r (run_after p m r facts may there));
  others = λ slot none. (let before = has.others slot (none_before (part_after m) (part_at slot parts) (sym (part_at-map (part_after m) (slot_stays m) slot parts) ∙ none)) in others_after p m slot facts before.0 before.1);
}
  where
    by_source : (r : Run) → ((z : Run) × IsIn z p.pool.runs × (z.slot ≡ r.slot)) ⊎ IsSome (p.pool.marks r.slot) → Covers parts r.slot
    by_source r (inl (z, before, same)) = let found = has.covered z before in (found.0, found.1, found.2 ∙ same)
    by_source r (inr marked) = marked_covered p parts r.slot has marked

-- ---- lists of moves
pub part_on_all : (p : Protocol) (ms : List ProtocolMove) (s : SlotPart) → Facts p → Safe p.pool → MayAll p ms → IsPart p s → IsPart (protocol_after_all p ms) (part_after_all ms s)
part_on_all p [] s facts safe may part = part
part_on_all p (m ∷ ms) s facts safe may part =
    let next = move_good p m facts safe may.0 in
    part_on_all (protocol_after p m) ms (part_after m s) next.0 next.1 may.1 (part_on p m s facts safe may.0 part)

map_twice : {A B C : Type 0} (f : A → B) (g : B → C) (xs : List A) → map g (map f xs) ≡ map (λ x. g (f x)) xs
map_twice f g [] = refl
map_twice f g (x ∷ xs) = ap (λ l. g (f x) ∷ l) (map_twice f g xs)

map_same : {A : Type 0} (xs : List A) → map (λ x. x) xs ≡ xs
map_same [] = refl
map_same (x ∷ xs) = ap (λ l. x ∷ l) (map_same xs)

pub parts_on_all : (p : Protocol) (ms : List ProtocolMove) (parts : List SlotPart) → Facts p → Safe p.pool → MayAll p ms → HasParts p parts → HasParts (protocol_after_all p ms) (map (part_after_all ms) parts)
parts_on_all p [] parts facts safe may has = subst (HasParts p) (sym (map_same parts)) has
parts_on_all p (m ∷ ms) parts facts safe may has =
    let next = move_good p m facts safe may.0 in
    subst (HasParts (protocol_after_all (protocol_after p m) ms)) (map_twice (part_after m) (part_after_all ms) parts)
    (parts_on_all (protocol_after p m) ms (map (part_after m) parts) next.0 next.1 may.1 (parts_on p m parts facts safe may.0 has))

-- ---- what the pool has of its slots
abbrev RunOf : List SlotPart → Run → Type 0
RunOf parts r = (s : SlotPart) × IsIn s parts × (s.run ≡ Some r)

runs_out : (parts : List SlotPart) (r : Run) → IsIn r (filter_map (λ s. s.run) parts) → RunOf parts r
runs_out [] r there = absurd there
runs_out (t ∷ ts) r there = by_run t.run refl there (runs_out ts r)
  where
    more : RunOf ts r → RunOf (t ∷ ts) r
    more found = (found.0, inr found.1, found.2)

    by_run : (o : Option Run) → t.run ≡ o → IsIn r (cons_option o (filter_map (λ s. s.run) ts)) → (IsIn r (filter_map (λ s. s.run) ts) → RunOf ts r) → RunOf (t ∷ ts) r
    by_run None is h rest = more (rest h)
    by_run (Some x) is (inl same) rest = (t, inl refl, is ∙ ap (λ y. Some y) (sym same))
    by_run (Some x) is (inr h) rest = more (rest h)

runs_back : (parts : List SlotPart) (r : Run) → RunOf parts r → IsIn r (filter_map (λ s. s.run) parts)
runs_back [] r found = absurd found.1
runs_back (t ∷ ts) r (s, inl same, is) = subst (λ o. IsIn r (cons_option o (filter_map (λ s. s.run) ts))) (sym is ∙ ap (λ s. s.run) same) (inl refl)
runs_back (t ∷ ts) r (s, inr there, is) = later t.run (runs_back ts r (s, there, is))
  where
    later : (o : Option Run) → IsIn r (filter_map (λ s. s.run) ts) → IsIn r (cons_option o (filter_map (λ s. s.run) ts))
    later None h = h
    later (Some x) h = inr h

pub shown : (p : Protocol) (parts : List SlotPart) → HasParts p parts → ShowsParts p.pool parts
shown p parts has = record {
  runs = λ r. (λ there. to r there (has.covered r there), λ there. back r (runs_out parts r there));
  marks = λ slot. (by_part slot (part_at slot parts) refl).0;
  slots = λ slot. (by_part slot (part_at slot parts) refl).1;
}
  where
    to : (r : Run) → IsIn r p.pool.runs → Covers parts r.slot → IsIn r (filter_map (λ s. s.run) parts)
    to r there (s, in_parts, same) = runs_back parts r (s, in_parts, (has.each s in_parts).runs r there (sym same))

    back : (r : Run) → RunOf parts r → IsIn r p.pool.runs
    back r (s, in_parts, is) = (has.each s in_parts).own r is

    by_part : (slot : SlotId) (o : Option SlotPart) → part_at slot parts ≡ o → (p.pool.marks slot ≡ option_map (λ s. s.mark) o) × (p.pool.slots slot ≡ option_map (λ s. s.ad) o)
    by_part slot None is = has.others slot is
    by_part slot (Some s) is =
        let found = part_found slot parts s is in
        let part = has.each s found.0 in
        (ap p.pool.marks (sym found.1) ∙ part.mark, ap p.pool.slots (sym found.1) ∙ part.ad)

-- ---- a pool that has the runs, the marks and the ads of distinct slots has them as parts
none_found : (s : SlotPart) (parts : List SlotPart) → IsIn s parts → part_at s.slot parts ≡ None → ⊥
none_found s [] there none = there
none_found s (t ∷ ts) there none = by_test (same_slot s.slot t.slot) refl none there (none_found s ts)
  where
    by_test : (b : Bool) → same_slot s.slot t.slot ≡ b → (if b then Some t else part_at s.slot ts) ≡ None → (s ≡ t) ⊎ IsIn s ts → (IsIn s ts → part_at s.slot ts ≡ None → ⊥) → ⊥
    by_test true is now place rest = cc
    by_test false is now (inl same) rest = other_slot s.slot t.slot is (ap (λ x. x.slot) same)
    by_test false is now (inr later) rest = rest later now

part_at_own : (s : SlotPart) (parts : List SlotPart) → AreDistinct parts → IsIn s parts → part_at s.slot parts ≡ Some s
part_at_own s parts distinct there = by_part (part_at s.slot parts) refl
  where
    by_part : (o : Option SlotPart) → part_at s.slot parts ≡ o → part_at s.slot parts ≡ Some s
    by_part None is = absurd (none_found s parts there is)
    by_part (Some t) is = let found = part_found s.slot parts t is in is ∙ ap (λ x. Some x) (distinct t s found.0 there found.1)

pub parts_of_shown : (p : Protocol) (parts : List SlotPart) → AreDistinct parts → ArePlaced parts → ShowsParts p.pool parts → HasParts p parts
parts_of_shown p parts distinct placed shows = record {
  each = λ s there. record {
    mark = shows.marks s.slot ∙ ap (option_map (λ x. x.mark)) (part_at_own s parts distinct there);
    ad = shows.slots s.slot ∙ ap (option_map (λ x. x.ad)) (part_at_own s parts distinct there);
    runs = λ r in_runs same. own_run s there r same (runs_out parts r ((shows.runs r).0 in_runs));
    own = λ r its. (shows.runs r).1 (runs_back parts r (s, there, its));
    placed = placed s there;
  };
  covered = λ r in_runs. covering r (runs_out parts r ((shows.runs r).0 in_runs));
  others = λ slot none. (shows.marks slot ∙ ap (option_map (λ x. x.mark)) none, shows.slots slot ∙ ap (option_map (λ x. x.ad)) none);
}
  where
    own_run : (s : SlotPart) → IsIn s parts → (r : Run) → r.slot ≡ s.slot → RunOf parts r → s.run ≡ Some r
    own_run s there r same (t, in_parts, its) =
        let one : t ≡ s = distinct t s in_parts there (sym (placed t in_parts r its) ∙ same) in
        ap (λ x. x.run) (sym one) ∙ its

    covering : (r : Run) → RunOf parts r → Covers parts r.slot
    covering r (t, in_parts, its) = (t, in_parts, sym (placed t in_parts r its))
