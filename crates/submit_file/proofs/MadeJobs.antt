-- Jobs that are made one after the other.
use Rattle.std.proofs.Common.{◌≡◌, ℕ, zero, suc, ◌+◌, ◌*◌, ◌-◌, ◌<◌, ◌≤◌, List, [], ◌∷◌, ◌++◌, length, get_or, take, drop, flat_map, append_assoc, replicate, Option, Some, Result, Ok, Err, refl, ap, sym, ◌∙◌, subst, arith}
use Rattle.std.specs.Prelude.{decimal}
use Rattle.std.proofs.lemmas.List.{take_more, take_all, flat_map_more}
use Rattle.ad_tree.specs.Ad.{Attributes}
use Rattle.line_text.specs.Macros.{Macros}
use Rattle.submit_file.specs.declared.error.SubmitError.{SubmitError}
use Rattle.submit_file.specs.declared.error.SubmitError.TheVariants as error
use Rattle.submit_file.specs.declared.setting.LinesSoFar.{LinesSoFar}
use Rattle.submit_file.specs.Errors.{UnlessMemory}
use Rattle.submit_file.specs.OneJob.{Common, IsJob}
use Rattle.submit_file.specs.JobMacros.{job_macros}
use Rattle.submit_file.specs.SubmittedJobs.{MakesJobs, stops, and_job, AddsJobs, over_items}

pub unless_map : {X Y : Type 0} (P : Result X SubmitError → Type 0) (Q : Result Y SubmitError → Type 0) (e : SubmitError) → (P (Err e) → Q (Err e)) → UnlessMemory P (Err e) → UnlessMemory Q (Err e)
unless_map P Q error.Memory f h = tt
unless_map P Q (error.BadLine n) f h = f h
unless_map P Q (error.Unsupported n) f h = f h
unless_map P Q (error.Universe n) f h = f h
unless_map P Q (error.NoExecutable n) f h = f h
unless_map P Q (error.BadExpr n) f h = f h
unless_map P Q (error.Count n) f h = f h
unless_map P Q (error.Full n) f h = f h
unless_map P Q (error.Macro n g) f h = f h
unless_map P Q error.NoQueue f h = f h

add_ok : (h : Common) (f : LinesSoFar) (n : ℕ) (i : Option (List ℕ × List ℕ)) (old new : List Attributes) (ad : Attributes) → IsJob h f (job_macros (decimal (length old)) i f.table) (length old) n (Ok ad) → new ≡ old ++ ad ∷ [] → AddsJobs h f n (i ∷ []) old new (Ok tt)
add_ok h f n i old new ad job e = λ rest r more. and_job job (subst (λ ads. MakesJobs h f n rest ads r) e more)

add_err : (h : Common) (f : LinesSoFar) (n : ℕ) (i : Option (List ℕ × List ℕ)) (old new : List Attributes) (e : SubmitError) → UnlessMemory (IsJob h f (job_macros (decimal (length old)) i f.table) (length old) n) (Err e) → UnlessMemory (AddsJobs h f n (i ∷ []) old new) (Err e)
add_err h f n i old new e = unless_map (IsJob h f (job_macros (decimal (length old)) i f.table) (length old) n) (AddsJobs h f n (i ∷ []) old new) e (λ job rest. stops job)

-- the same, in the words of a job's macros and number
pub job_ok : (h : Common) (f : LinesSoFar) (n : ℕ) (i : Option (List ℕ × List ℕ)) (old new : List Attributes) (ad : Attributes) (t : Macros) (proc : ℕ) → proc ≡ length old → t ≡ job_macros (decimal proc) i f.table → IsJob h f t proc n (Ok ad) → new ≡ old ++ ad ∷ [] → AddsJobs h f n (i ∷ []) old new (Ok tt)
job_ok h f n i old new ad t proc many is job =
    add_ok h f n i old new ad (subst (λ p. IsJob h f (job_macros (decimal p) i f.table) p n (Ok ad)) many (subst (λ t. IsJob h f t proc n (Ok ad)) is job))

pub job_err : (h : Common) (f : LinesSoFar) (n : ℕ) (i : Option (List ℕ × List ℕ)) (old new : List Attributes) (e : SubmitError) (t : Macros) (proc : ℕ) → proc ≡ length old → t ≡ job_macros (decimal proc) i f.table → UnlessMemory (IsJob h f t proc n) (Err e) → UnlessMemory (AddsJobs h f n (i ∷ []) old new) (Err e)
job_err h f n i old new e t proc many is job =
    add_err h f n i old new e (subst (λ p. UnlessMemory (IsJob h f (job_macros (decimal p) i f.table) p n) (Err e)) many (subst (λ t. UnlessMemory (IsJob h f t proc n) (Err e)) is job))

rep : {X : Type 0} (x : X) (rest : List X) (k m c : ℕ) → c ≡ k + (1 + m) → replicate k x ++ (x ∷ (replicate m x ++ rest)) ≡ replicate c x ++ rest
rep x rest zero m c e =
    let same : suc m ≡ c = omega (arith, e) in
    subst (λ c. x ∷ (replicate m x ++ rest) ≡ replicate c x ++ rest) same refl
rep x rest (suc k) m zero e = absurd (omega (arith, e))
rep x rest (suc k) m (suc c) e = ap (λ l. x ∷ l) (rep x rest k m c (omega (arith, e)))

pub copies_err : (h : Common) (f : LinesSoFar) (n : ℕ) (i : Option (List ℕ × List ℕ)) (copies k : ℕ) (old mid new : List Attributes) (e : SubmitError) → k < copies → AddsJobs h f n (replicate k i) old mid (Ok tt) → UnlessMemory (AddsJobs h f n (i ∷ []) mid new) (Err e) → UnlessMemory (AddsJobs h f n (replicate copies i) old new) (Err e)
copies_err h f n i copies k old mid new e l made =
    unless_map (AddsJobs h f n (i ∷ []) mid new) (AddsJobs h f n (replicate copies i) old new) e
    (λ g rest. subst (λ is. MakesJobs h f n is old (Err e)) (rep i rest k (copies - (k + 1)) copies (omega (arith, l)))
    (made (i ∷ (replicate (copies - (k + 1)) i ++ rest)) (Err e) (g (replicate (copies - (k + 1)) i ++ rest))))

pub copies_ok : (h : Common) (f : LinesSoFar) (n : ℕ) (i : Option (List ℕ × List ℕ)) (k : ℕ) (old mid new : List Attributes) → AddsJobs h f n (replicate k i) old mid (Ok tt) → AddsJobs h f n (i ∷ []) mid new (Ok tt) → AddsJobs h f n (replicate (k + 1) i) old new (Ok tt)
copies_ok h f n i k old mid new made step = λ rest r more.
    subst (λ is. MakesJobs h f n is old r) (rep i rest k 0 (k + 1) (omega arith)) (made (i ∷ rest) r (step rest r more))

-- ---- the items

pieces : {X Y : Type 0} (g : X → List Y) (rest : List Y) (is : List X) (k : ℕ) (i : X) → k < length is → i ≡ get_or is k i → flat_map g (take k is) ++ (g i ++ (flat_map g (drop (suc k) is) ++ rest)) ≡ flat_map g is ++ rest
pieces g rest [] k i l e = absurd (omega (arith, l))
pieces g rest (x ∷ xs) zero i l e = ap (λ x. g x ++ (flat_map g xs ++ rest)) e ∙ sym (append_assoc (g x) (flat_map g xs) rest)
pieces g rest (x ∷ xs) (suc k) i l e =
    append_assoc (g x) (flat_map g (take k xs)) _ ∙ ap (λ l. g x ++ l) (pieces g rest xs k i (omega (arith, l)) e) ∙ sym (append_assoc (g x) (flat_map g xs) rest)

pub items_err : (h : Common) (f : LinesSoFar) (n : ℕ) (v w i j : List ℕ) (is : List (List ℕ)) (copies k : ℕ) (old mid new : List Attributes) (e : SubmitError) → k < length is → i ≡ get_or is k i → w ≡ v → j ≡ i → AddsJobs h f n (over_items copies v (take k is)) old mid (Ok tt) → UnlessMemory (AddsJobs h f n (replicate copies (Some (w, j))) mid new) (Err e) → UnlessMemory (AddsJobs h f n (over_items copies v is) old new) (Err e)
items_err h f n v w i j is copies k old mid new e l at named itemed made =
    unless_map (AddsJobs h f n (replicate copies (Some (w, j))) mid new) (AddsJobs h f n (over_items copies v is) old new) e
    (λ g rest.
    let r = over_items copies v (drop (suc k) is) ++ rest in
    let same : replicate copies (Some (w, j)) ≡ replicate copies (Some (v, i)) = (λ k. replicate copies (Some (named k, itemed k))) in
    subst (λ q. MakesJobs h f n q old (Err e)) (pieces (λ i. replicate copies (Some (v, i))) rest is k i l at)
    (made (replicate copies (Some (v, i)) ++ r) (Err e) (subst (λ q. MakesJobs h f n (q ++ r) mid (Err e)) same (g r))))

pub items_ok : (h : Common) (f : LinesSoFar) (n : ℕ) (v w i j : List ℕ) (is : List (List ℕ)) (copies k : ℕ) (old mid new : List Attributes) → k < length is → i ≡ get_or is k i → w ≡ v → j ≡ i → AddsJobs h f n (over_items copies v (take k is)) old mid (Ok tt) → AddsJobs h f n (replicate copies (Some (w, j))) mid new (Ok tt) → AddsJobs h f n (over_items copies v (take (k + 1) is)) old new (Ok tt)
items_ok h f n v w i j is copies k old mid new l at named itemed made step = λ rest r more.
    subst (λ q. MakesJobs h f n q old r)
    ((λ t. over_items copies v (take k is) ++ (replicate copies (Some (named t, itemed t)) ++ rest)) ∙ sym (append_assoc (over_items copies v (take k is)) (jobs_of i) rest) ∙ ap (λ q. q ++ rest) next)
    (made (replicate copies (Some (w, j)) ++ rest) r (step rest r more))
  where
    jobs_of : List ℕ → List (Option (List ℕ × List ℕ))
    jobs_of i = replicate copies (Some (v, i))

    next : over_items copies v (take k is) ++ jobs_of i ≡ over_items copies v (take (k + 1) is)
    next = flat_map_more jobs_of [] (take k is) i ∙ ap (flat_map jobs_of) (ap (λ x. take k is ++ x ∷ []) at ∙ sym (take_more is k i l))

pub items_end : (h : Common) (f : LinesSoFar) (n : ℕ) (v : List ℕ) (is : List (List ℕ)) (copies k : ℕ) (old new : List Attributes) → length is ≤ k → AddsJobs h f n (over_items copies v (take k is)) old new (Ok tt) → AddsJobs h f n (over_items copies v is) old new (Ok tt)
items_end h f n v is copies k old new past made = subst (λ is. AddsJobs h f n (over_items copies v is) old new (Ok tt)) (take_all k is past) made

-- how many jobs there are, after those of one more item
pub counted_more : (old mid new copies k : ℕ) → mid ≡ old + copies * k → new ≡ mid + copies → new ≡ old + copies * (k + 1)
counted_more old mid new copies k so_far more = omega (arith, so_far, more)

pub counted_none : (n copies : ℕ) → n ≡ n + copies * 0
counted_none n copies = omega arith
