-- Statements and lines that are taken one after the other.
use Rattle.std.proofs.Math.Seq.{drop-cons}
use Rattle.std.proofs.lemmas.List.{drop_all}
use Rattle.std.proofs.Common.{◌≡◌, ℕ, suc, ◌+◌, ◌<◌, ◌≤◌, ◌↔◌, Bool, true, false, true≢false, IsTrue, IsFalse, List, [], ◌∷◌, ◌++◌, length, get_or, drop, append-nil, Some, Result, Ok, Err, ap, sym, ◌∙◌, subst, arith}
use Rattle.line_text.specs.declared.logical.Line.{Line}
use Rattle.line_text.specs.Lines.{logical_lines}
use Rattle.submit_lines.specs.declared.line.LineFault.{LineFault}
use Rattle.submit_lines.specs.declared.line.SubmitLine.{SubmitLine}
use Rattle.submit_lines.specs.declared.queue.Queue.{Queue}
use Rattle.submit_lines.specs.Lines as meaning
use Rattle.submit_lines.specs.Lines.{line_result_of, line_of}
use Rattle.submit_lines.specs.Queue.{queue_of}
use Rattle.submit_file.specs.declared.error.SubmitError.{SubmitError}
use Rattle.submit_file.specs.declared.file.FileSoFar.{FileSoFar}
use Rattle.submit_file.specs.declared.setting.Setting.{Setting}
use Rattle.submit_file.specs.Errors.{UnlessMemory, Replaced}
use Rattle.submit_file.specs.SubmittedJobs.{line_error, AdsResult, MakesJobs, jobs_end, AddsJobs, items_of, jobs_in, FitsIn, Asks, jobs, Queues, asks, Reads, refuses, sets, sets_attribute, refuses_queue, queues, with_name, TakesQueue, TakesLines, begun, SubmittedJobs}
use Rattle.submit_file.specs.Settings.{with_setting}
use Rattle.submit_file.specs.OneJob.{Common}
use Rattle.submit_file.proofs.Takings.{unless}
use Rattle.submit_file.proofs.MadeJobs.{unless_map}

pub not_if_true : {P : Type 0} (b : Bool) → (IsFalse b ↔ P) → b ≡ true → P → ⊥
not_if_true b same is p = true≢false (sym is ∙ same.1 p)

pub not_if_false : {P : Type 0} (b : Bool) → (IsTrue b ↔ P) → b ≡ false → P → ⊥
not_if_false b same is p = true≢false (sym (same.1 p) ∙ is)

-- ---- a statement

pub jobs_added : (h : Common) (f new : FileSoFar) (n : ℕ) (q : Queue) (r : Result (Unit {0}) SubmitError) → FitsIn f q → 0 < jobs_in q.copies q.over → UnlessMemory (AddsJobs h f.lines n (items_of q.copies q.over) f.ads new.ads) r → new.lines ≡ f.lines → new.has_queue ≡ true → UnlessMemory (TakesQueue (Asks h f n q) f new) r
jobs_added h f new n q (Ok x) fits some made lines queue = (
  jobs fits some (subst (λ is. MakesJobs h f.lines n is f.ads (Ok new.ads)) (append-nil (items_of q.copies q.over)) (made [] (Ok new.ads) jobs_end)),
  (λ i. record { lines = lines i; has_queue = queue i; ads = new.ads }),
)
jobs_added h f new n q (Err e) fits some made lines queue =
    unless_map (AddsJobs h f.lines n (items_of q.copies q.over) f.ads new.ads) (TakesQueue (Asks h f n q) f new) e
    (λ g. jobs fits some (subst (λ is. MakesJobs h f.lines n is f.ads (Err e)) (append-nil (items_of q.copies q.over)) (g []))) made

pub statement_taken : (h : Common) (f new : FileSoFar) (n : ℕ) (s x : List ℕ) (q : Queue) (r : Result (Unit {0}) SubmitError) → Replaced f.lines.table s n (Ok x) → queue_of x ≡ Some q → UnlessMemory (TakesQueue (Asks h f n q) f new) r → UnlessMemory (TakesQueue (Queues h f n s) f new) r
statement_taken h f new n s x q (Ok y) rep is taken = (asks rep is taken.0, taken.1)
statement_taken h f new n s x q (Err e) rep is taken =
    unless_map (TakesQueue (Asks h f n q) f new) (TakesQueue (Queues h f n s) f new) e (λ g. asks rep is g) taken

-- ---- a line

pub line_is : (r g : Result SubmitLine LineFault) (t u : List ℕ) → line_result_of r ≡ line_of t → t ≡ u → r ≡ g → line_of u ≡ line_result_of g
line_is r g t u e at is = ap line_of (sym at) ∙ sym e ∙ ap line_result_of is

pub name_taken : (h : Common) (f new : FileSoFar) (l : Line) (x v : List ℕ) → line_of l.text ≡ Ok (meaning.setting x v) → new ≡ with_name x v l.number f → TakesLines h (l ∷ []) f new (Ok tt)
name_taken h f new l x v is e = λ rest r more. sets is (subst (λ f. Reads h rest f r) e more)

abbrev pub with_own_lines : List Setting → FileSoFar → FileSoFar
with_own_lines a f = record {
  lines = record { table = f.lines.table; commands = f.lines.commands; attributes = a };
  has_queue = f.has_queue;
  ads = f.ads;
}

pub attribute_taken : (h : Common) (f : FileSoFar) (a : List Setting) (l : Line) (x v : List ℕ) → line_of l.text ≡ Ok (meaning.attribute x v) → a ≡ with_setting x v l.number f.lines.attributes → TakesLines h (l ∷ []) f (with_own_lines a f) (Ok tt)
attribute_taken h f a l x v is e = λ rest r more. sets_attribute is (subst (λ a. Reads h rest (with_own_lines a f) r) e more)

pub queue_taken : (h : Common) (f new : FileSoFar) (l : Line) (q : List ℕ) (r : Result (Unit {0}) SubmitError) → line_of l.text ≡ Ok (meaning.queue q) → UnlessMemory (TakesQueue (Queues h f l.number q) f new) r → UnlessMemory (TakesLines h (l ∷ []) f new) r
queue_taken h f new l q (Ok x) is taken = λ rest r more. queues is taken.0 (subst (λ f. Reads h rest f r) taken.1 more)
queue_taken h f new l q (Err e) is taken =
    unless_map (TakesQueue (Queues h f l.number q) f new) (TakesLines h (l ∷ []) f new) e (λ g rest. refuses_queue is g) taken

pub line_refused : (h : Common) (f new : FileSoFar) (l : Line) (g : LineFault) (e : SubmitError) → line_of l.text ≡ Err g → e ≡ line_error l.number g → UnlessMemory (TakesLines h (l ∷ []) f new) (Err e)
line_refused h f new l g e is same =
    unless (TakesLines h (l ∷ []) f new) (Err e) (subst (λ e. TakesLines h (l ∷ []) f new (Err e)) (sym same) (λ rest. refuses is))

-- ---- the lines

next : (ls : List Line) (i : ℕ) (l : Line) → i < length ls → l ≡ get_or ls i l → drop i ls ≡ l ∷ drop (suc i) ls
next ls i l lt is = drop-cons ls i l lt ∙ ap (λ l. l ∷ drop (suc i) ls) (sym is)

pub next_line : (h : Common) (f mid : FileSoFar) (ls : List Line) (i : ℕ) (l : Line) → i < length ls → l ≡ get_or ls i l → TakesLines h (l ∷ []) f mid (Ok tt) → (rest : List Line) (r : AdsResult) → Reads h (drop (i + 1) ls ++ rest) mid r → Reads h (drop i ls ++ rest) f r
next_line h f mid ls i l lt is step rest r more =
    let one : i + 1 ≡ suc i = omega arith in
    subst (λ ls. Reads h (ls ++ rest) f r) (sym (next ls i l lt is))
    (step (drop (suc i) ls ++ rest) r (subst (λ j. Reads h (drop j ls ++ rest) mid r) one more))

pub last_line : (h : Common) (f : FileSoFar) (ls : List Line) (i : ℕ) → length ls ≤ i → (rest : List Line) (r : AdsResult) → Reads h rest f r → Reads h (drop i ls ++ rest) f r
last_line h f ls i le rest r more = subst (λ ls. Reads h (ls ++ rest) f r) (sym (drop_all i ls le)) more

pub lines_err : (h : Common) (f mid new last : FileSoFar) (ls : List Line) (i : ℕ) (l : Line) (e : SubmitError) → i < length ls → l ≡ get_or ls i l → ((rest : List Line) (r : AdsResult) → Reads h (drop i ls ++ rest) mid r → Reads h (ls ++ rest) f r) → UnlessMemory (TakesLines h (l ∷ []) mid new) (Err e) → UnlessMemory (TakesLines h ls f last) (Err e)
lines_err h f mid new last ls i l e lt is made =
    unless_map (TakesLines h (l ∷ []) mid new) (TakesLines h ls f last) e
    (λ g rest. made rest (Err e) (subst (λ ls. Reads h (ls ++ rest) mid (Err e)) (sym (next ls i l lt is)) (g (drop (suc i) ls ++ rest))))

-- ---- the file

all_of : (h : Common) (text : List ℕ) (f : FileSoFar) (ls : List Line) (r : AdsResult) → ls ≡ logical_lines text → f ≡ begun h.cluster → Reads h (ls ++ []) f r → SubmittedJobs text h r
all_of h text f ls r lined from made =
    subst (λ ls. Reads h ls (begun h.cluster) r) lined (subst (λ f. Reads h ls f r) from (subst (λ ls. Reads h ls f r) (append-nil ls) made))

pub all_read : (h : Common) (text : List ℕ) (f new : FileSoFar) (ls : List Line) (r : AdsResult) → ls ≡ logical_lines text → f ≡ begun h.cluster → TakesLines h ls f new (Ok tt) → Reads h [] new r → UnlessMemory (SubmittedJobs text h) r
all_read h text f new ls r lined from taken end =
    unless (SubmittedJobs text h) r (all_of h text f ls r lined from (taken [] r end))

pub all_refused : (h : Common) (text : List ℕ) (f new : FileSoFar) (ls : List Line) (e : SubmitError) → ls ≡ logical_lines text → f ≡ begun h.cluster → UnlessMemory (TakesLines h ls f new) (Err e) → UnlessMemory (SubmittedJobs text h) (Err e)
all_refused h text f new ls e lined from =
    unless_map (TakesLines h ls f new) (SubmittedJobs text h) e (λ g. all_of h text f ls (Err e) lined from (g []))
