-- What a draft takes.
use Rattle.std.proofs.Math.Seq.{drop-cons}
use Rattle.std.proofs.lemmas.List.{drop_all, take_more}
use Rattle.std.proofs.Common.{◌≡◌, ℕ, zero, suc, ◌+◌, ◌<◌, ◌≤◌, false, ◌∷◌, ◌++◌, map, length, get_or, take, drop, append_assoc, arith, List, Option, Some, None, Result, Ok, Err, OnOk, IfOk, [], refl, ap, sym, ◌∙◌, subst, option_map}
use Rattle.ad_value.specs.declared.names.job.TheConstants.{CLUSTER_ID, PROC_ID, Q_DATE, JOB_UNIVERSE, JOB_STATUS}
use Rattle.ad_tree.specs.Ad.{Attributes}
use Rattle.ad_tree.specs.declared.tree.Expr.{Expr}
use Rattle.ad_tree.specs.Tree.{Tree, tree}
use Rattle.submit_lines.specs.declared.error.ValueError.{ValueError}
use Rattle.submit_lines.specs.declared.error.ValueError.TheVariants as value
use Rattle.submit_lines.specs.Values.{GivesValue, FailsValue, some_of}
use Rattle.ad_value.specs.declared.memory.Memory.{Memory}
use Rattle.submit_file.specs.declared.draft.Place.{Place}
use Rattle.submit_file.specs.declared.error.SubmitError.{SubmitError}
use Rattle.submit_file.specs.declared.error.SubmitError.TheVariants as error
use Rattle.submit_file.specs.declared.setting.LinesSoFar.{LinesSoFar}
use Rattle.submit_file.specs.declared.plan.Part.{Part}
use Rattle.submit_file.specs.declared.setting.Setting.{Setting}
use Rattle.submit_file.specs.declared.statement.Contribution.{Contribution}
use Rattle.submit_file.specs.declared.statement.Contribution.TheVariants as contribution
use Rattle.submit_file.specs.declared.statement.NamedValue.{NamedValue}
use Rattle.submit_file.specs.declared.statement.Statement.{Statement}
use Rattle.line_text.specs.Macros.{Macros}
use Rattle.submit_file.specs.Errors.{IsNoMemory, Replaced, UnlessMemory}
use Rattle.submit_file.specs.Drafts.{JobDraft, Effect, named_value, macro_refusal, with_given, with_effect, value_of, ad_of}
use Rattle.submit_file.specs.Origins.{Origin, owner_command, origin_of, setting_for, name_for, value_for, preset_for}
use Rattle.submit_file.specs.OneJob.{Common, common, place_of, effect_at, Gives, nothing_set, is_set, Takes, takes, TakesAll, all_taken, and_takes, whole, origins, numbered, queued, Fills, fills, nothing, IsJob, is_job}
use Rattle.submit_file.specs.Plans.{effect_of, effect_of_value, value_in, is_memory_value, origins_of, Spares, GivesFor, IsFixedFor, IsPartFor, ArePartsFor}
use Rattle.submit_file.proofs.Spared.{IsText, replaced_spared}

pub on_ok : {X E P Q : Type 0} (r : Result X E) → OnOk r P → (P → Q) → OnOk r Q
on_ok (Ok x) p f = f p
on_ok (Err e) p f = tt

-- ---- a value

pub some_fails : (f : ValueError) (g : Result Tree ValueError) → FailsValue f g → FailsValue f (some_of g)
some_fails value.Memory g fails = tt
some_fails value.NoExecutable g fails = ap some_of fails
some_fails value.Universe g fails = ap some_of fails
some_fails value.Quotes g fails = ap some_of fails
some_fails value.BadExpr g fails = ap some_of fails

-- what is given is what the definition says, where memory did not run out
pub value_given : (v : Result (Option Expr) ValueError) (g : Result (Option Tree) ValueError) → is_memory_value v ≡ false → GivesValue (option_map tree) v g → value_of v ≡ g
value_given (Ok e) g other given = sym given
value_given (Err value.Memory) g other given = cc
value_given (Err value.NoExecutable) g other given = sym given
value_given (Err value.Universe) g other given = sym given
value_given (Err value.Quotes) g other given = sym given
value_given (Err value.BadExpr) g other given = sym given

pub told : {X : Type 0} (P : Result X SubmitError → Type 0) (f : SubmitError) → UnlessMemory P (Err f) → IsNoMemory f → P (Err f)
told P error.Memory h tells = cc
told P (error.BadLine n) h tells = h
told P (error.Unsupported n) h tells = h
told P (error.Universe n) h tells = h
told P (error.NoExecutable n) h tells = h
told P (error.BadExpr n) h tells = h
told P (error.Count n) h tells = h
told P (error.Full n) h tells = h
told P (error.Macro n g) h tells = h
told P error.NoQueue h tells = h

-- ---- what is fixed before there is a job

abbrev IsValue : Effect → Type 0
IsValue (named_value x p v) = Unit {0}
IsValue (macro_refusal f) = ⊥

is_text : (o : Origin) (s : Setting) (n : ℕ) (r : Result (List ℕ) SubmitError) → IsValue (effect_at o (place_of s n) r) → IsText r
is_text o s n (Ok x) is = tt
is_text o s n (Err f) is = is

gives_spared : (h : Common) (f : LinesSoFar) (t u : Macros) (n : ℕ) (o : Origin) (e : Effect) → Spares t u → Gives h f t n o e → IsValue e → Gives h f u n o e
gives_spared h f t u n o _ spares (nothing_set none) is = nothing_set none
gives_spared h f t u n o _ spares (is_set {s = s} {r = r} set h2) is = is_set set (replaced_spared t u spares s.value s.line r h2 (is_text o s n r is))

pub fixed_spared : (s : Statement) (t u : Macros) (o : Origin) (c : Contribution) → Spares t u → GivesFor s t o (effect_of c) → IsFixedFor s u o (value_in c)
fixed_spared s t u o (contribution.Value v) spares gives = gives_spared (common s.heading) s.file.now t u s.line o (effect_of_value v) spares gives tt
fixed_spared s t u o (contribution.Refusal f) spares gives = tt

-- ---- what a source gives

if_ok : {X E : Type 0} {P Q : X → Type 0} (r : Result X E) → ((x : X) → P x → Q x) → IfOk r P → IfOk r Q
if_ok (Ok x) f p = f x p
if_ok (Err e) f p = tt

-- an effect that is given, where it is that of what comes back
gives_as : (s : Statement) (t : Macros) (o : Origin) (e : Effect) (r : Result Contribution Memory) → GivesFor s t o e → IfOk r (λ c. effect_of c ≡ e) → IfOk r (λ c. GivesFor s t o (effect_of c))
gives_as s t o e r given = if_ok r (λ c is. subst (GivesFor s t o) (sym is) given)

given_set : (s : Statement) (t : Macros) (o : Origin) (g : Setting) (x : List ℕ) → setting_for s.file.now o ≡ Some g → Replaced t g.value g.line (Ok x) → GivesFor s t o (named_value (name_for o x) (place_of g s.line) (value_for o x))
given_set s t o g x set rep = is_set {s = g} {r = Ok x} set rep

same_named : (x y : List ℕ) (p q : Place) (v : Result (Option Tree) ValueError) → x ≡ y → p ≡ q → named_value x p v ≡ named_value y q v
same_named x y p q v named placed = (λ i. named_value (named i) (placed i) v)

pub set_gives : (s : Statement) (t : Macros) (o : Origin) (g : Setting) (x nm : List ℕ) (p : Place) (r : Result Contribution Memory) → setting_for s.file.now o ≡ Some g → Replaced t g.value g.line (Ok x) → nm ≡ name_for o x → p ≡ place_of g s.line → IfOk r (λ c. effect_of c ≡ named_value nm p (value_for o x)) → IfOk r (λ c. GivesFor s t o (effect_of c))
set_gives s t o g x nm p r set rep named place =
    gives_as s t o (named_value nm p (value_for o x)) r (subst (GivesFor s t o) (sym (same_named nm (name_for o x) p (place_of g s.line) (value_for o x) named place)) (given_set s t o g x set rep))

pub unset_gives : (s : Statement) (t : Macros) (o : Origin) (nm : List ℕ) (r : Result Contribution Memory) → setting_for s.file.now o ≡ None → nm ≡ name_for o [] → IfOk r (λ c. effect_of c ≡ named_value nm (record { line = s.line; statement = s.line }) (preset_for s.heading.owner.now o)) → IfOk r (λ c. GivesFor s t o (effect_of c))
unset_gives s t o nm r none named =
    if_ok r (λ c is. subst (GivesFor s t o) (sym (is ∙ ap (λ x. named_value x (record { line = s.line; statement = s.line }) (preset_for s.heading.owner.now o)) named)) (nothing_set none))

pub refusal_gives : (s : Statement) (t : Macros) (o : Origin) (g : Setting) (f : SubmitError) (r : Result Contribution Memory) → setting_for s.file.now o ≡ Some g → UnlessMemory (Replaced t g.value g.line) (Err f) → IfOk r (λ c. (effect_of c ≡ macro_refusal f) × IsNoMemory f) → IfOk r (λ c. GivesFor s t o (effect_of c))
refusal_gives s t o g f r set rep =
    if_ok r (λ c is. subst (GivesFor s t o) (sym is.0) (is_set set (told (Replaced t g.value g.line) f rep is.1)))

pub takes_fixed : (s : Statement) (t : Macros) (p : Part) (v : NamedValue) (old new : JobDraft) → IsPartFor s t p → p.fixed ≡ Some v → new ≡ with_effect (effect_of_value v) old → Takes (common s.heading) s.file.now t s.line (origin_of p.source) old new
takes_fixed s t p v old new part is e =
    subst (λ d. Takes (common s.heading) s.file.now t s.line (origin_of p.source) old d) (sym e) (takes (subst (IsFixedFor s t (origin_of p.source)) is part))

pub takes_given : (s : Statement) (t : Macros) (o : Origin) (b c : Contribution) (old new : JobDraft) → GivesFor s t o (effect_of b) → b ≡ c → new ≡ with_effect (effect_of c) old → Takes (common s.heading) s.file.now t s.line o old new
takes_given s t o b c old new gives is e =
    subst (λ d. Takes (common s.heading) s.file.now t s.line o old d) (sym e) (takes (subst (λ c. GivesFor s t o (effect_of c)) is gives))

-- ---- parts, one more of them

are_parts-append : (s : Statement) (t : Macros) (ps : List Part) (p : Part) → ArePartsFor s t ps → IsPartFor s t p → ArePartsFor s t (ps ++ p ∷ [])
are_parts-append s t [] p are is = (is, tt)
are_parts-append s t (q ∷ ps) p are is = (are.0, are_parts-append s t ps p are.1 is)

origins_of-append : (ps : List Part) (p : Part) → origins_of (ps ++ p ∷ []) ≡ origins_of ps ++ origin_of p.source ∷ []
origins_of-append [] p = refl
origins_of-append (q ∷ ps) p = ap (λ l. origin_of q.source ∷ l) (origins_of-append ps p)

-- the origins of the parts, where one was added
pub origins_more : {X : Type 0} (f : X → Origin) (xs : List X) (i : ℕ) (x : X) (old now new : List Part) (p : Part) → i < length xs → x ≡ get_or xs i x → origins_of now ≡ origins_of old ++ map f (take i xs) → new ≡ now ++ p ∷ [] → origin_of p.source ≡ f x → origins_of new ≡ origins_of old ++ map f (take (i + 1) xs)
origins_more f xs i x old now new p l at are is from =
    ap origins_of is ∙ origins_of-append now p
    ∙ (λ k. are k ++ from k ∷ [])
    ∙ append_assoc (origins_of old) (map f (take i xs)) (f x ∷ [])
    ∙ ap (λ l. origins_of old ++ l) (sym (map_append f (take i xs) (x ∷ [])) ∙ ap (map f) (ap (λ x. take i xs ++ x ∷ []) at ∙ sym (take_more xs i x l)))
  where
    map_append : {X Y : Type 0} (f : X → Y) (xs ys : List X) → map f (xs ++ ys) ≡ map f xs ++ map f ys
    map_append f [] ys = refl
    map_append f (x ∷ xs) ys = ap (λ l. f x ∷ l) (map_append f xs ys)

pub parts_more : (s : Statement) (t : Macros) (now new : List Part) (p : Part) → new ≡ now ++ p ∷ [] → ArePartsFor s t now → IsPartFor s t p → ArePartsFor s t new
parts_more s t now new p is are part = subst (ArePartsFor s t) (sym is) (are_parts-append s t now p are part)

pub part_at : (s : Statement) (t : Macros) (ps : List Part) (i : ℕ) (p : Part) → i < length ps → p ≡ get_or ps i p → ArePartsFor s t ps → IsPartFor s t p
part_at s t [] i p l e are = absurd (omega (arith, l))
part_at s t (q ∷ ps) zero p l e are = subst (IsPartFor s t) (sym e) are.0
part_at s t (q ∷ ps) (suc i) p l e are = part_at s t ps i p (omega (arith, l)) e are.1

pub chain_part : (h : Common) (f : LinesSoFar) (t : Macros) (n : ℕ) (ps : List Part) (i : ℕ) (old mid g : JobDraft) (p : Part) → i < length ps → p ≡ get_or ps i p → Takes h f t n (origin_of p.source) old mid → TakesAll h f t n (origins_of (drop (i + 1) ps)) mid g → TakesAll h f t n (origins_of (drop i ps)) old g
chain_part h f t n ps i old mid g p l e step more =
    let one : i + 1 ≡ suc i = omega arith in
    subst (λ l. TakesAll h f t n (origins_of l) old g) (sym (drop-cons ps i p l ∙ ap (λ p. p ∷ drop (suc i) ps) (sym e)))
    (and_takes step (subst (λ j. TakesAll h f t n (origins_of (drop j ps)) mid g) one more))

pub last_part : (h : Common) (f : LinesSoFar) (t : Macros) (n : ℕ) (ps : List Part) (i : ℕ) (d : JobDraft) → length ps ≤ i → TakesAll h f t n (origins_of (drop i ps)) d d
last_part h f t n ps i d l = subst (λ l. TakesAll h f t n (origins_of l) d d) (sym (drop_all i ps l)) all_taken

-- ---- a job

pub fill_made : (h : Common) (f : LinesSoFar) (t : Macros) (proc n : ℕ) (d0 d1 d2 e q1 q2 q3 g : JobDraft) (o : Origin) (os : List Origin) → o ≡ owner_command → os ≡ origins f → d1 ≡ with_given CLUSTER_ID.now (whole h.cluster) d0 → d2 ≡ with_given PROC_ID.now (whole proc) d1 → Takes h f t n o d2 e → q1 ≡ with_given Q_DATE.now (whole h.now) e → q2 ≡ with_given JOB_UNIVERSE.now (whole 5) q1 → q3 ≡ with_given JOB_STATUS.now (whole 1) q2 → TakesAll h f t n os q3 g → Fills h f t proc n d0 g
fill_made h f t proc n d0 d1 d2 e q1 q2 q3 g o os own all a1 a2 owned b1 b2 b3 rest =
    let two : d2 ≡ numbered h proc d0 = a2 ∙ ap (with_given PROC_ID.now (whole proc)) a1 in
    let three : q3 ≡ queued h e = b3 ∙ ap (with_given JOB_STATUS.now (whole 1)) (b2 ∙ ap (with_given JOB_UNIVERSE.now (whole 5)) b1) in
    fills (subst (λ d. Takes h f t n owner_command d e) two (subst (λ o. Takes h f t n o d2 e) own owned)) (subst (λ d. TakesAll h f t n (origins f) d g) three (subst (λ os. TakesAll h f t n os q3 g) all rest))

pub unless : {X : Type 0} (P : Result X SubmitError → Type 0) (r : Result X SubmitError) → P r → UnlessMemory P r
unless P (Ok x) h = h
unless P (Err error.Memory) h = tt
unless P (Err (error.BadLine n)) h = h
unless P (Err (error.Unsupported n)) h = h
unless P (Err (error.Universe n)) h = h
unless P (Err (error.NoExecutable n)) h = h
unless P (Err (error.BadExpr n)) h = h
unless P (Err (error.Count n)) h = h
unless P (Err (error.Full n)) h = h
unless P (Err (error.Macro n g)) h = h
unless P (Err error.NoQueue) h = h

pub job_made : (h : Common) (f : LinesSoFar) (t : Macros) (proc n : ℕ) (d e : JobDraft) (r : Result Attributes SubmitError) → d ≡ nothing → Fills h f t proc n d e → r ≡ ad_of n e → UnlessMemory (IsJob h f t proc n) r
job_made h f t proc n d e r from filled is =
    unless (IsJob h f t proc n) r (subst (λ r. IsJob h f t proc n r) (sym is) (is_job (subst (λ d. Fills h f t proc n d e) from filled)))
