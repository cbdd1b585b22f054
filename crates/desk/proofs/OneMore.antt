-- One more entry: which transactions were logged then, and which runs were launched.
use Rattle.std.proofs.Common.{◌≡◌, ◌<◌, Bool, true, false, ◌||◌, List, [], ◌∷◌, ◌++◌, None, length, refl, ◌∙◌, ap, arith, length-append}
use Rattle.claim_id.specs.declared.numbers.RunNo.{RunNo}
use Rattle.desk.specs.declared.entry.Entry.{Entry}
use Rattle.desk.specs.Entries.{Gained, entry_of}
use Rattle.desk.specs.Launches.{is_launch_of, was_launched}
use Rattle.desk.specs.Logs.{LogSoFar, log_after, log_after_all, log_of}
use Rattle.pool_parts.specs.declared.answer.Answer.{Answer}
use Rattle.pool_parts.specs.declared.event.Event.{Event}
use Rattle.pool_parts.specs.Answers.{kept_of}

pub log_all_on : (log : LogSoFar) (es : List Entry) (e : Entry) → log_after_all log (es ++ e ∷ []) ≡ log_after (log_after_all log es) e
log_all_on log [] e = refl
log_all_on log (x ∷ es) e = log_all_on (log_after log x) es e

pub log_on : (es : List Entry) (e : Entry) → log_of (es ++ e ∷ []) ≡ log_after (log_of es) e
log_on es e = log_all_on (record { list = []; unlogged = None }) es e

or_false : (b : Bool) → b || false ≡ b
or_false true = refl
or_false false = refl

or_over : (a b c : Bool) → a || (b || c) ≡ (a || b) || c
or_over true b c = refl
or_over false b c = refl

pub launched_on : (run : RunNo) (es : List Entry) (e : Entry) → was_launched run (es ++ e ∷ []) ≡ (was_launched run es || is_launch_of run e.kept)
launched_on run [] e = or_false (is_launch_of run e.kept)
launched_on run (x ∷ es) e =
    ap (λ b. is_launch_of run x.kept || b) (launched_on run es e)
    ∙ or_over (is_launch_of run x.kept) (was_launched run es) (is_launch_of run e.kept)

-- ---- of a pass
pub gained_log : (before : List Entry) (e : Event) (a : Answer) (now : List Entry) (g : Gained before e a now)
    → log_of now ≡ log_after (log_of before) (entry_of g.place e (kept_of a))
gained_log before e a now g = ap log_of g.is ∙ log_on before (entry_of g.place e (kept_of a))

pub gained_launches : (run : RunNo) (before : List Entry) (e : Event) (a : Answer) (now : List Entry) → Gained before e a now
    → was_launched run now ≡ (was_launched run before || is_launch_of run (kept_of a))
gained_launches run before e a now g =
    ap (was_launched run) g.is ∙ launched_on run before (entry_of g.place e (kept_of a))

pub gained_longer : (before : List Entry) (e : Event) (a : Answer) (now : List Entry) → Gained before e a now → length before < length now
gained_longer before e a now g =
    let l = ap length g.is in omega (arith, l, length-append before (entry_of g.place e (kept_of a) ∷ []))
