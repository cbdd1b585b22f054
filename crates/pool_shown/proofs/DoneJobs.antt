-- The jobs that have left the queue, one after the other.
use Rattle.std.proofs.Common.{◌≡◌, ◌<◌, length, List, [], ◌∷◌, ◌++◌, append_assoc, Option, Some, None, refl, ap, sym, ◌∙◌}
use Rattle.std.specs.Prelude.{filter_map, find}
use Rattle.std.specs.List.Sorted.{IsStrictlySortedBy}
use Rattle.std.specs.Map.{keys_of}
use Rattle.pool_parts.specs.declared.finished.FinishedJob.{FinishedJob}
use Rattle.pool_parts.proofs.Walks.{all_at_first, fewer_next, next_first, none_next, rest_of}
use Rattle.pool_shown.proofs.Steps.{first_entry}
use Rattle.pool_shown.specs.ShownJobs.{done_by, done_entry, one_entry}
use Rattle.pool_view.specs.declared.job.JobEntry.{JobEntry}
use Rattle.queue_tx.specs.declared.key.Key.{Key}
use Rattle.queue_tx.specs.Keys.{is_above, key_cmp}

one_first : (e : Key × FinishedJob) (es : List (Key × FinishedJob)) → filter_map done_entry (e ∷ es) ≡ one_entry (done_by e.0 e.1) ++ filter_map done_entry es
one_first e es = first_entry done_entry e es

append_none : (entries : List JobEntry) → entries ++ [] ≡ entries
append_none [] = refl
append_none (e ∷ entries) = ap (λ l. e ∷ l) (append_none entries)

-- the entries so far, with those that are yet to come, are all
pub one_more : (last : Option Key) (es : List (Key × FinishedJob)) (f : Key × FinishedJob) (entries more : List JobEntry)
    → IsStrictlySortedBy key_cmp (keys_of es) → Some f ≡ find (λ e. is_above last e.0) es → more ≡ entries ++ one_entry (done_by f.0 f.1)
    → more ++ filter_map done_entry (rest_of (Some f.0) es) ≡ entries ++ filter_map done_entry (rest_of last es)
one_more last es f entries more s h is =
    ap (λ l. l ++ filter_map done_entry (rest_of (Some f.0) es)) is
    ∙ append_assoc entries (one_entry (done_by f.0 f.1)) (filter_map done_entry (rest_of (Some f.0) es))
    ∙ ap (λ l. entries ++ l) (sym (one_first f (rest_of (Some f.0) es)) ∙ sym (ap (filter_map done_entry) (next_first last es f s h)))

pub none_more : (last : Option Key) (es : List (Key × FinishedJob)) (entries whole : List JobEntry) → None ≡ find (λ e. is_above last e.0) es
    → entries ++ filter_map done_entry (rest_of last es) ≡ whole → entries ≡ whole
none_more last es entries whole h is = sym (append_none entries) ∙ sym (ap (λ l. entries ++ filter_map done_entry l) (none_next last es h)) ∙ is

pub fewer_more : (last : Option Key) (es : List (Key × FinishedJob)) (f : Key × FinishedJob) → IsStrictlySortedBy key_cmp (keys_of es)
    → Some f ≡ find (λ e. is_above last e.0) es → length (rest_of (Some f.0) es) < length (rest_of last es)
fewer_more last es f s h = fewer_next last es f s h

pub all_to_come : (es : List (Key × FinishedJob)) (entries : List JobEntry)
    → entries ++ filter_map done_entry (rest_of None es) ≡ entries ++ filter_map done_entry es
all_to_come es entries = ap (λ l. entries ++ filter_map done_entry l) (all_at_first es)
