-- One more step of a history: which runs have begun, and how they have ended.
use Rattle.std.proofs.Common.{◌≡◌, ◌∙◌, ℕ, List, [], ◌∷◌, ◌++◌, map, Option, Some, None, IsSome, Bool, true≢false, refl, sym, ap, append_assoc, if◌then◌else◌}
use Rattle.std.proofs.lemmas.List.{append-nil, map-append}
use Rattle.std.proofs.lemmas.List.Elements.{filter_map-append}
use Rattle.std.specs.List.{filter_map}
use Rattle.ad_tree.specs.Ad.{Attributes}
use Rattle.ad_eval.specs.Judgement.{Judgement, Mismatch}
use Rattle.pool_outer.specs.declared.spawner.Launch.{Launch}
use Rattle.claim_id.specs.declared.numbers.JobId.{JobId}
use Rattle.claim_id.specs.declared.numbers.SlotId.{SlotId}
use Rattle.pool_mail.specs.declared.end.End.{End}
use Rattle.pool_view.proofs.Sameness.{same_job-same}
use Rattle.thin_pool.specs.declared.answer.Kept.{Kept}
use Rattle.thin_pool.specs.declared.answer.Kept.TheVariants as kept
use Rattle.thin_pool.specs.declared.event.Event.{Event}
use Rattle.thin_pool.specs.declared.event.Event.TheVariants.{Submit, Start, Ended, Close}
use Rattle.thin_pool.specs.declared.history.Step.{Step}
use Rattle.thin_pool.specs.Histories.{submissions_in, submission_in}
use Rattle.pool_input.specs.Submissions.{submit_steps}
use Rattle.pool_master.specs.Runs.{JobRun, end_in, first_end, end_after, run_begun, runs_in, HaveEnded}

pub submits-more : (ss : List Step) (s : Step) → submissions_in (ss ++ s ∷ []) ≡ submissions_in ss ++ filter_map (λ (x : Step). submission_in x.event) (s ∷ [])
submits-more ss s = filter_map-append _ ss (s ∷ [])

-- ---- endings

first_end-none : (e : Option End) → first_end e None ≡ e
first_end-none None = refl
first_end-none (Some x) = refl

first_end-assoc : (a b c : Option End) → first_end (first_end a b) c ≡ first_end a (first_end b c)
first_end-assoc None b c = refl
first_end-assoc (Some x) b c = refl

end_after-more : (job : JobId) (ss : List Step) (s : Step) → end_after job (ss ++ s ∷ []) ≡ first_end (end_after job ss) (end_in job s.event)
end_after-more job [] s = first_end-none (end_in job s.event)
end_after-more job (x ∷ ss) s = ap (first_end (end_in job x.event)) (end_after-more job ss s) ∙ sym (first_end-assoc (end_in job x.event) (end_after job ss) (end_in job s.event))

-- ---- runs

-- a run, with what one more event tells of its ending
abbrev pub with_event : Event → JobRun → JobRun
with_event ev r = record r { end = first_end r.end (end_in r.job ev) }

begun-more : (ev : Event) (k : Kept) (after : List Step) (s : Step) → run_begun ev k (after ++ s ∷ []) ≡ map (with_event s.event) (run_begun ev k after)
begun-more (Submit jobs reading) k after s = refl
begun-more (Start job slot judged reading) kept.Done after s = refl
begun-more (Start job slot judged reading) (kept.Launch what) after s = ap (λ (e : Option End). record { job = job; slot = slot; launch = what; end = e } ∷ []) (end_after-more job after s)
begun-more (Ended job end reading) k after s = refl
begun-more (Close reading none) k after s = refl

pub runs-more : (ss : List Step) (s : Step) → runs_in (ss ++ s ∷ []) ≡ map (with_event s.event) (runs_in ss) ++ run_begun s.event s.kept []
runs-more [] s = append-nil _
runs-more (x ∷ ss) s =
    (λ i. (begun-more x.event x.kept ss s i) ++ (runs-more ss s i))
    ∙ (sym (append_assoc (map (with_event s.event) (run_begun x.event x.kept ss)) (map (with_event s.event) (runs_in ss)) (run_begun s.event s.kept []))
    ∙ ap (λ (l : List JobRun). l ++ run_begun s.event s.kept []) (sym (map-append (with_event s.event) (run_begun x.event x.kept ss) (runs_in ss))))

ended_same : (ev : Event) (r : JobRun) → IsSome r.end → with_event ev r ≡ r
ended_same ev r some = by r.end refl some
  where
    by : (o : Option End) → r.end ≡ o → IsSome o → with_event ev r ≡ r
    by None is some = absurd (true≢false (sym some))
    by (Some e) is some = ap (λ (x : Option End). record { job = r.job; slot = r.slot; launch = r.launch; end = x }) (ap (λ (o : Option End). first_end o (end_in r.job ev)) is ∙ sym is)

-- nothing more is told of runs that have ended
pub same_ended : (ev : Event) (rs : List JobRun) → HaveEnded rs → map (with_event ev) rs ≡ rs
same_ended ev [] h = refl
same_ended ev (r ∷ rs) h = λ i. (ended_same ev r h.0 i) ∷ (same_ended ev rs h.1 i)

-- ---- the steps of a run of the pool

abbrev pub start_step : JobId → SlotId → Judgement → ℕ → Launch → Step
start_step job slot judged reading what = record { event = Start job slot judged reading; kept = kept.Launch what }

abbrev pub end_step : JobId → End → ℕ → Step
end_step job end reading = record { event = Ended job end reading; kept = kept.Done }

abbrev pub close_step : ℕ → Mismatch → Step
close_step reading none = record { event = Close reading none; kept = kept.Done }

abbrev pub run_with : JobId → SlotId → Launch → Option End → JobRun
run_with job slot what end = record { job = job; slot = slot; launch = what; end = end }

pub start_runs : (list : List Step) (job : JobId) (slot : SlotId) (judged : Judgement) (reading : ℕ) (what : Launch) → HaveEnded (runs_in list) → runs_in (list ++ start_step job slot judged reading what ∷ []) ≡ runs_in list ++ run_with job slot what None ∷ []
start_runs list job slot judged reading what ended =
    runs-more list (start_step job slot judged reading what)
    ∙ ap (λ (l : List JobRun). l ++ run_with job slot what None ∷ []) (same_ended (Start job slot judged reading) (runs_in list) ended)

pub end_runs : (list : List Step) (job : JobId) (slot : SlotId) (judged : Judgement) (reading : ℕ) (what : Launch) (end : End) (late : ℕ) → HaveEnded (runs_in list)
    → runs_in ((list ++ start_step job slot judged reading what ∷ []) ++ end_step job end late ∷ []) ≡ runs_in list ++ run_with job slot what (Some end) ∷ []
end_runs list job slot judged reading what end late ended =
    let ev = Ended job end late in
    let own : end_in job ev ≡ Some end = ap (λ (b : Bool). if b then Some end else None) (same_job-same job) in
    runs-more (list ++ start_step job slot judged reading what ∷ []) (end_step job end late)
    ∙ (append-nil _
    ∙ (ap (map (with_event ev)) (start_runs list job slot judged reading what ended)
    ∙ (map-append (with_event ev) (runs_in list) (run_with job slot what None ∷ [])
    ∙ (λ i. (same_ended ev (runs_in list) ended i) ++ run_with job slot what (own i) ∷ []))))

pub close_runs : (list : List Step) (reading : ℕ) (none : Mismatch) → HaveEnded (runs_in list) → runs_in (list ++ close_step reading none ∷ []) ≡ runs_in list
close_runs list reading none ended = runs-more list (close_step reading none) ∙ (append-nil _ ∙ same_ended (Close reading none) (runs_in list) ended)

-- submissions begin no run
pub submits_no_runs : (submissions : List (List Attributes × ℕ)) → runs_in (submit_steps submissions) ≡ []
submits_no_runs [] = refl
submits_no_runs (s ∷ ss) = submits_no_runs ss

-- one more run that has ended
pub ended_more : (rs : List JobRun) (r : JobRun) → HaveEnded rs → IsSome r.end → HaveEnded (rs ++ r ∷ [])
ended_more [] r ended is = (is, tt)
ended_more (x ∷ xs) r ended is = (ended.0, ended_more xs r ended.1 is)
