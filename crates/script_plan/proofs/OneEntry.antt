-- A line says one thing.
use Rattle.std.proofs.Common.{◌≡◌, ℕ, List, [], ◌∷◌, Option, Some, None, false, refl, sym, ◌∙◌, ap, subst}
use Rattle.std.proofs.lemmas.Bool.{true≢false}
use Rattle.std.proofs.lemmas.Slice.Eq.{bytes_eq-Decides}
use Rattle.std.specs.Str.{bytes_eq}
use Rattle.std.proofs.lemmas.Fmt.{decimal_injective}
use Rattle.claim_id.specs.declared.order.Verb.{Verb}
use Rattle.claim_id.specs.declared.order.Verb.TheVariants as verb
use Rattle.claim_id.specs.declared.order.Wish.{Wish}
use Rattle.claim_id.proofs.OneText.{one_job}
use Rattle.line_text.specs.declared.logical.Line.{Line}
use Rattle.script_plan.specs.declared.entry.Crash.{Crash}
use Rattle.script_plan.specs.declared.entry.Entry.{Entry}
use Rattle.script_plan.specs.declared.entry.Entry.TheVariants as entry
use Rattle.script_plan.specs.declared.entry.Load.{Load}
use Rattle.ad_value.specs.Decimals.{IsNumber}
use Rattle.script_plan.specs.Entries.{IsVerb, IsOrder, IsMail, IsDaemon, IsCrash, IsLoad, SaysAfter, Says}
use Rattle.script_plan.specs.Scripts.{LineSays}
use Rattle.script_plan.proofs.Values.{same_value}

-- a word that is two
clash : (word x y : List ℕ) → word ≡ x → word ≡ y → bytes_eq x y ≡ false → ⊥
clash word x y is_x is_y differ = true≢false (sym ((bytes_eq-Decides x y).1 (sym is_x ∙ is_y)) ∙ differ)

one_number : (word : List ℕ) (m n : ℕ) → IsNumber word m → IsNumber word n → m ≡ n
one_number word m n a b = decimal_injective m n a.0 b.0 (sym a.1 ∙ b.1)

one_verb : (word : List ℕ) (v w : Verb) → IsVerb word v → IsVerb word w → v ≡ w
one_verb word verb.Remove verb.Remove a b = refl
one_verb word verb.Hold verb.Hold a b = refl
one_verb word verb.Resume verb.Resume a b = refl
one_verb word v w a b = absurd (clash word _ _ a b refl)

one_order : (words : List (List ℕ)) (v w : Wish) → IsOrder words v → IsOrder words w → v ≡ w
one_order (time ∷ word ∷ job ∷ []) v w a b =
    let at = one_number time v.at w.at a.0.0 b.0.0 in
    let same_verb = one_verb word v.verb w.verb a.1 b.1 in
    let same_job = one_job v.job w.job a.2.0 b.2.0 (sym a.2.1 ∙ b.2.1) in
    λ i. record { at = at i; verb = same_verb i; job = same_job i }
one_order words v w a b = absurd a

one_mail : (words : List (List ℕ)) (m n : ℕ) → IsMail words m → IsMail words n → m ≡ n
one_mail (number ∷ []) m n a b = one_number number m n a b
one_mail words m n a b = absurd a

one_daemon : (machines : List (List ℕ)) (word : List ℕ) (d e : Option ℕ) → IsDaemon machines word d → IsDaemon machines word e → d ≡ e
one_daemon machines word None None a b = refl
one_daemon machines word None (Some l) a b = absurd (b.0 a)
one_daemon machines word (Some k) None a b = absurd (a.0 b)
one_daemon machines word (Some k) (Some l) a b = sym a.1 ∙ b.1

one_crash : (machines words : List (List ℕ)) (c d : Crash) → IsCrash machines words c → IsCrash machines words d → c ≡ d
one_crash machines (daemon ∷ point ∷ []) c d a b =
    let machine = one_daemon machines daemon c.machine d.machine a.0 b.0 in
    let same_point = one_number point c.point d.point a.1.0 b.1.0 in
    λ i. record { machine = machine i; point = same_point i }
one_crash machines words c d a b = absurd a

one_load : (words : List (List ℕ)) (l m : Load) → IsLoad words l → IsLoad words m → l ≡ m
one_load (number ∷ jobs ∷ []) l m a b =
    let same_number = one_number number l.number m.number a.0.0 b.0.0 in
    let same_jobs = one_number jobs l.jobs m.jobs a.1.0 b.1.0 in
    λ i. record { number = same_number i; jobs = same_jobs i }
one_load words l m a b = absurd a

one_after : (machines : List (List ℕ)) (first : List ℕ) (rest : List (List ℕ)) (d e : Entry) → SaysAfter machines first rest d → SaysAfter machines first rest e → d ≡ e
one_after machines first rest (entry.Order v) (entry.Order w) a b = ap entry.Order (one_order rest v w a.1 b.1)
one_after machines first rest (entry.Lose m) (entry.Lose n) a b = ap entry.Lose (one_mail rest m n a.1 b.1)
one_after machines first rest (entry.Repeat m) (entry.Repeat n) a b = ap entry.Repeat (one_mail rest m n a.1 b.1)
one_after machines first rest (entry.Late m) (entry.Late n) a b = ap entry.Late (one_mail rest m n a.1 b.1)
one_after machines first rest (entry.Crash c) (entry.Crash d) a b = ap entry.Crash (one_crash machines rest c d a.1 b.1)
one_after machines first rest (entry.Load l) (entry.Load m) a b = ap entry.Load (one_load rest l m a.1 b.1)
one_after machines first rest d e a b = absurd (clash first _ _ a.0 b.0 refl)

one_says : (machines words : List (List ℕ)) (d e : Entry) → Says machines words d → Says machines words e → d ≡ e
one_says machines [] d e a b = absurd a
one_says machines (first ∷ rest) d e a b = one_after machines first rest d e a b

pub one_entry : (machines : List (List ℕ)) (line : Line) (d e : Entry) → LineSays machines line d → LineSays machines line e → d ≡ e
one_entry machines line d e a b =
    let words = same_value a.0 b.0 a.1 b.1 in
    one_says machines b.0 d e (subst (λ (ws : List (List ℕ)). Says machines ws d) words a.2) b.2
