use Rattle.std.proofs.Common.{◌≡◌, ℕ, List, Bool, true, false, cond, None, IfOk, ap, sym, ◌∙◌, subst, refl}
use Rattle.std.specs.Option.{option_map}
use Rattle.std.specs.Str.{IsUtf8, is_utf8}
use Rattle.std.proofs.lemmas.Str.{IsUtf8-from_is_utf8, is_utf8-from_IsUtf8}
use Rattle.queue_record.specs.Words.{first_word, past_word}
use Rattle.queue_record.specs.Entries.{entry, entry_at, entry_by}
use Rattle.queue_record.proofs.entry.entry_of.Goals as goal

at_text : (line : List ℕ) → IsUtf8 line → entry_at line ≡ entry_by (first_word line) (past_word line)
unfolding entry_at
at_text line utf8 = ap (λ (b : Bool). cond b (entry_by (first_word line) (past_word line)) None) (is_utf8-from_IsUtf8 line utf8)

at_bytes : (line : List ℕ) → (IsUtf8 line → ⊥) → entry_at line ≡ None
unfolding entry_at
at_bytes line bad = ap (λ (b : Bool). cond b (entry_by (first_word line) (past_word line)) None) (by (is_utf8 line) refl)
  where
    by : (b : Bool) → is_utf8 line ≡ b → is_utf8 line ≡ false
    by true e = absurd (bad (IsUtf8-from_is_utf8 line e))
    by false e = e

pub returns-in-Ok : goal.returns-in-Ok
returns-in-Ok c =
    let text = c.in-Ok.ensures.cases in
    subst (λ x. IfOk c.entry_in.result (λ e. option_map entry e ≡ x))
    (ap (λ (t : List ℕ). entry_by (first_word t) (past_word t)) text.0 ∙ sym (at_text c.args.line.now text.1)) c.entry_in.ensures

pub returns-in-Err : goal.returns-in-Err
returns-in-Err c = sym (at_bytes c.args.line.now c.in-Err.ensures.cases.0)
