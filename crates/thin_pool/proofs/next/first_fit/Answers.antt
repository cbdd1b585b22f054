use Rattle.std.proofs.Common.{◌≡◌, ◌∙◌, ◌<◌, ◌+◌, ◌||◌, ℕ, List, [], ◌∷◌, false, length, get_or, take, take_all, sym, ap, ap₂, refl, arith}
use Rattle.std.proofs.lemmas.List.{take_more}
use Rattle.std.proofs.lemmas.List.Folds.{list_any-append}
use Rattle.std.proofs.lemmas.Option.{slice_get_read}
use Rattle.ad_tree.specs.Ad.{Attributes}
use Rattle.ad_eval.specs.Match.{matches}
use Rattle.thin_pool.specs.declared.slot.PoolSlot.{PoolSlot}
use Rattle.thin_pool.specs.Pairs.{fits_any}
use Rattle.thin_pool.proofs.next.first_fit.Goals as goal

none_more : (slots : List PoolSlot) (ad : Attributes) (now i : ℕ) (slot : PoolSlot) → i < length slots → slot ≡ get_or slots i slot → fits_any (take i slots) ad now ≡ false → matches ad slot.ad now ≡ false → fits_any (take (i + 1) slots) ad now ≡ false
none_more slots ad now i slot below is none unfit =
    let last : fits_any (get_or slots i slot ∷ []) ad now ≡ false = ap (λ (s : PoolSlot). matches ad s.ad now || false) (sym is) ∙ ap (λ b. b || false) unfit in
    ap (λ (l : List PoolSlot). fits_any l ad now) (take_more slots i slot below)
    ∙ (list_any-append (λ (s : PoolSlot). matches ad s.ad now) (take i slots) (get_or slots i slot ∷ []) ∙ ap₂ ◌||◌ none last)

pub returns-in-Some : goal.returns-in-Some
returns-in-Some g c =
    let judged = rw c.in-Some.is at c.in_ok-judged.ensures.judged in
    record {
      place = c.loop-slot.slot-index;
      slot = c.slot-item.result;
      there = slice_get_read c.args.slots.now _ c.loop-slot.slot-index c.slot-item.result refl (omega arith) c.slot-item.is;
      its_number = refl;
      of_job = judged.0;
      of_slot = judged.1;
      at_now = judged.2;
      none_before = c.loop-slot.invariant;
    }

pub loop-slot-preserved : goal.loop-slot-preserved
loop-slot-preserved g c =
    none_more c.args.slots.now c.args.ad.now c.args.now c.loop-slot.slot-index c.slot-item.result (omega arith) c.slot-item.is c.loop-slot.invariant (rw c.in_default.is at c.in_ok-judged.ensures.judged)

pub returns : goal.returns
returns g c = ap (λ (l : List PoolSlot). fits_any l c.args.ad.now c.args.now) (sym (take_all c.loop-slot.slot-index c.args.slots.now c.loop-slot-test.false)) ∙ c.loop-slot.invariant
