-- One job more, and the slots of one machine more.
use Rattle.std.proofs.Common.{◌≡◌, ℕ, suc, ◌+◌, ◌<◌, List, ◌∷◌, ◌++◌, length, map, drop, get_or, append_assoc, add-one, Option, Some, None, refl, ap, sym, ◌∙◌}
use Rattle.std.proofs.Math.Seq.{drop-cons}
use Rattle.std.proofs.lemmas.List.{map-append}
use Rattle.std.proofs.lemmas.List.Elements.{filter_map-append}
use Rattle.std.specs.Prelude.{filter_map}
use Rattle.claim_id.specs.declared.numbers.JobId.{JobId}
use Rattle.pool_shown.specs.Slots.{all_slots}
use Rattle.pool_shown.specs.declared.slots.ShownSlots.{ShownSlots}
use Rattle.pool_shown.specs.ShownJobs.{one_entry}
use Rattle.pool_shown.specs.ShownSlots.{ad_on, mark_on, run_on, with_slots}
use Rattle.pool_tables.specs.DaemonTables.{DaemonsValue}
use Rattle.pool_view.specs.declared.job.JobEntry.{JobEntry}
use Rattle.startd_core.specs.Startds.{StartdValue}
use Rattle.startd_slot.specs.declared.slot.Slot.{Slot}

-- ---- jobs
pub first_entry : {A : Type 0} (f : A → Option JobEntry) (x : A) (xs : List A) → filter_map f (x ∷ xs) ≡ one_entry (f x) ++ filter_map f xs
first_entry f x xs = by (f x) refl
  where
    by : (o : Option JobEntry) → f x ≡ o → filter_map f (x ∷ xs) ≡ one_entry (f x) ++ filter_map f xs
    by None is = search
    by (Some entry) is = search

pub jobs_on : (f : JobId → Option JobEntry) (all : List JobId) (i : ℕ) (d : JobId) (entries new whole : List JobEntry)
    → i < length all → entries ++ filter_map f (drop i all) ≡ whole → new ≡ entries ++ one_entry (f (get_or all i d))
    → new ++ filter_map f (drop (i + 1) all) ≡ whole
jobs_on f all i d entries new whole inside before pushed =
    ap (λ l. l ++ filter_map f (drop (i + 1) all)) pushed
    ∙ append_assoc entries (one_entry (f (get_or all i d))) (filter_map f (drop (i + 1) all))
    ∙ ap (λ l. entries ++ l) (sym (first_entry f (get_or all i d) (drop (i + 1) all)) ∙ sym (ap (filter_map f) dropped))
    ∙ before
  where
    dropped : drop i all ≡ get_or all i d ∷ drop (i + 1) all
    dropped = drop-cons all i d inside ∙ ap (λ n. get_or all i d ∷ drop n all) (sym (add-one i))

-- ---- slots
with_more : (d : DaemonsValue) (shown : ShownSlots) (some more : List Slot) → with_slots d (with_slots d shown some) more ≡ with_slots d shown (some ++ more)
with_more d shown some more = λ i. record { runs = runs i; marks = marks i; ads = ads i }
  where
    runs : (shown.runs ++ filter_map run_on some) ++ filter_map run_on more ≡ shown.runs ++ filter_map run_on (some ++ more)
    runs =
        append_assoc shown.runs (filter_map run_on some) (filter_map run_on more)
        ∙ ap (λ l. shown.runs ++ l) (sym (filter_map-append run_on some more))

    marks : (shown.marks ++ map (mark_on d) some) ++ map (mark_on d) more ≡ shown.marks ++ map (mark_on d) (some ++ more)
    marks =
        append_assoc shown.marks (map (mark_on d) some) (map (mark_on d) more)
        ∙ ap (λ l. shown.marks ++ l) (sym (map-append (mark_on d) some more))

    ads : (shown.ads ++ map ad_on some) ++ map ad_on more ≡ shown.ads ++ map ad_on (some ++ more)
    ads =
        append_assoc shown.ads (map ad_on some) (map ad_on more)
        ∙ ap (λ l. shown.ads ++ l) (sym (map-append ad_on some more))

pub slots_on : (d : DaemonsValue) (all : List StartdValue) (i : ℕ) (v : StartdValue) (shown new whole : ShownSlots)
    → i < length all → v ≡ get_or all i v → with_slots d shown (all_slots (drop i all)) ≡ whole → new ≡ with_slots d shown v.slots
    → with_slots d new (all_slots (drop (i + 1) all)) ≡ whole
slots_on d all i v shown new whole inside is before pushed =
    ap (λ s. with_slots d s (all_slots (drop (i + 1) all))) pushed
    ∙ with_more d shown v.slots (all_slots (drop (i + 1) all))
    ∙ sym (ap (λ (vs : List StartdValue). with_slots d shown (all_slots vs)) dropped)
    ∙ before
  where
    dropped : drop i all ≡ v ∷ drop (i + 1) all
    dropped =
        drop-cons all i v inside
        ∙ (ap (λ (w : StartdValue). w ∷ drop (suc i) all) (sym is) ∙ ap (λ n. v ∷ drop n all) (sym (add-one i)))
