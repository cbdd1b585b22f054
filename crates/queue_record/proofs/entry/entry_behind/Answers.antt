use Rattle.std.proofs.Common.{◌≡◌, ℕ, List, Bool, true, false, None, codes, refl, sym}
use Rattle.std.specs.Str.{bytes_eq}
use Rattle.std.specs.Cmp.Lexicographic.{bytes_decides}
use Rattle.queue_record.specs.Entries.{entry_by}
use Rattle.queue_record.proofs.entry.entry_behind.Goals as goal

differs : (xs ys : List ℕ) → (xs ≡ ys → ⊥) → bytes_eq xs ys ≡ false
differs xs ys other = by (bytes_eq xs ys) refl
  where
    by : (b : Bool) → bytes_eq xs ys ≡ b → bytes_eq xs ys ≡ false
    by true e = absurd (other ((bytes_decides xs ys).0 e))
    by false e = e

no_entry : (code after : List ℕ) → (code ≡ codes "101" → ⊥) → (code ≡ codes "102" → ⊥) → (code ≡ codes "103" → ⊥) → (code ≡ codes "104" → ⊥)
    → (code ≡ codes "105" → ⊥) → (code ≡ codes "106" → ⊥) → (code ≡ codes "107" → ⊥) → entry_by code after ≡ None
unfolding entry_by
no_entry code after a b c d e f g =
    rw (
      differs code (codes "101") a,
      differs code (codes "102") b,
      differs code (codes "103") c,
      differs code (codes "104") d,
      differs code (codes "105") e,
      differs code (codes "106") f,
      differs code (codes "107") g,
    ) refl

pub returns-in_default : goal.returns-in_default
returns-in_default c =
    let h = c.in_default in
    sym (no_entry c.args.code.now c.args.after.now h.not-text h.not-text-2 h.not-text-3 h.not-text-4 h.not-text-5 h.not-text-6 h.not-text-7)
