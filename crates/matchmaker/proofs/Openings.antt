-- In which order a cycle comes to submitters and requests.
use Rattle.std.proofs.Common.{◌≡◌, ℕ, ℤ, zero, suc, ◌+◌, ◌<◌, List, [], ◌∷◌, ◌++◌, length, get_or, take, map, Bool, refl, sym, ap, ◌∙◌, arith, subst}
use Rattle.std.specs.List.{All, AllZip}
use Rattle.std.specs.List.Sorted.{IsPermutation, IsSortedBy}
use Rattle.std.specs.Ordering.{is_lt}
use Rattle.std.specs.Cmp.{IsTotalOrder, then_total, on_total, nat_cmp_total}
use Rattle.std.specs.Cmp.Lexicographic.{on_texts}
use Rattle.std.proofs.lemmas.List.{get_or-map, length-map, map_push, take_more}
use Rattle.std.proofs.lemmas.List.Elements.{All-push}
use Rattle.std.proofs.lemmas.List.Sorted.{IsPermutation-map, All-permutation, length_permutation}
use Rattle.ad_value.specs.declared.names.job.TheConstants.{JOB_PRIO, Q_DATE}
use Rattle.pool_mail.specs.declared.matching.Request.{Request}
use Rattle.matchmaker.specs.declared.snapshot.Snapshot.{Snapshot}
use Rattle.matchmaker.specs.declared.snapshot.Submitter.{Submitter}
use Rattle.matchmaker.specs.declared.course.Account.{Account}
use Rattle.matchmaker.specs.declared.course.Bidder as code
use Rattle.matchmaker.specs.declared.opening.Keyed.{Keyed}
use Rattle.matchmaker.specs.Cycle.{account_of}
use Rattle.matchmaker.specs.Loops.{bidder_of}
use Rattle.matchmaker.specs.Keyed.{keyed_cmp, IsKeyed}
use Rattle.matchmaker.specs.Opening.{number_in, request_cmp, account_cmp, IsBidderOf, IsOpening}

pub sorted_map : {A B : Type 0} (f : A → B) (lt : B → B → Bool) (xs : List A) → IsSortedBy (λ x y. lt (f x) (f y)) xs → IsSortedBy lt (map f xs)
sorted_map f lt [] up k d low high = absurd (omega arith)
sorted_map f lt (x ∷ xs) up k d low high =
    let n = length-map (x ∷ xs) f in
    let h : k + 1 < length (x ∷ xs) = omega arith in
    let l : k < length (x ∷ xs) = omega arith in
    rw (get_or-map f (x ∷ xs) (k + 1) x d h, get_or-map f (x ∷ xs) k x d l) (up k x low h)

keyed_same : (now : ℕ) (k l : Keyed) → IsKeyed now k → IsKeyed now l → keyed_cmp k l ≡ request_cmp now k.request l.request
unfolding request_cmp
keyed_same now k l p q = rw (p.priority, p.date, q.priority, q.date) refl

-- an equal request with its numbers
pub keyed_of : (now : ℕ) (r q : Request) (priority date : ℤ) → priority ≡ number_in now r JOB_PRIO.now → date ≡ number_in now r Q_DATE.now → q ≡ r →
    (q ≡ r) × IsKeyed now (record { priority = priority; date = date; request = q })
keyed_of now r q priority date e f same = (
  same,
  record {
    priority = e ∙ ap (λ (x : Request). number_in now x JOB_PRIO.now) (sym same);
    date = f ∙ ap (λ (x : Request). number_in now x Q_DATE.now) (sym same);
  },
)

by_requests : (now : ℕ) (ks : List Keyed) → All (IsKeyed now) ks → IsSortedBy (λ k l. is_lt (keyed_cmp k l)) ks →
    IsSortedBy (λ (k l : Keyed). is_lt (request_cmp now k.request l.request)) ks
by_requests now ks all up k d low high =
    let l : k < length ks = omega arith in
    ap is_lt (sym (keyed_same now (get_or ks (k + 1) d) (get_or ks k d) (all (k + 1) d high) (all k d l))) ∙ up k d low high

pub requests_sorted : (now : ℕ) (before after : List Keyed) (left : List Request) → All (IsKeyed now) before → IsPermutation before after →
    IsSortedBy (λ k l. is_lt (keyed_cmp k l)) after → left ≡ map (λ (k : Keyed). k.request) after →
    IsSortedBy (λ r q. is_lt (request_cmp now r q)) left
requests_sorted now before after left all p up e = subst (λ (rs : List Request). IsSortedBy (λ r q. is_lt (request_cmp now r q)) rs) (sym e)
    (sorted_map (λ (k : Keyed). k.request) (λ r q. is_lt (request_cmp now r q)) after (by_requests now after (All-permutation (IsKeyed now) before after p all) up))

pub requests_permuted : (requests left : List Request) (before after : List Keyed) → map (λ (k : Keyed). k.request) before ≡ requests → IsPermutation before after →
    left ≡ map (λ (k : Keyed). k.request) after → IsPermutation requests left
requests_permuted requests left before after e p f =
    subst (λ (rs : List Request). IsPermutation requests rs) (sym f)
    (subst (λ (rs : List Request). IsPermutation rs (map (λ (k : Keyed). k.request) after)) e (IsPermutation-map (λ (k : Keyed). k.request) before after p))

pub account_total : IsTotalOrder account_cmp
unfolding account_cmp
account_total = then_total (on_total (λ (u : Account). u.effective) nat_cmp_total) (on_texts (λ (u : Account). u.user))

-- ---- the opening

pub opened : (snap : Snapshot) (given after : List code.Bidder) → AllZip (IsBidderOf snap.now) snap.submitters (map bidder_of given) → IsPermutation given after →
    IsSortedBy (λ (b c : code.Bidder). is_lt (account_cmp b.account c.account)) after → IsOpening snap (map bidder_of after)
opened snap given after each p up = record {
  bidders = map bidder_of given;
  each = each;
  all = IsPermutation-map bidder_of given after p;
  in_order = sorted_map bidder_of (λ b c. is_lt (account_cmp b.account c.account)) after up;
}

zip_positive : (now : ℕ) (bs : List Submitter) (cs : List code.Bidder) → AllZip (IsBidderOf now) bs (map bidder_of cs) → All (λ (b : Submitter). 0 < b.effective) bs →
    All (λ (c : code.Bidder). 0 < c.account.effective) cs
zip_positive now bs [] z all i d h = absurd (omega arith)
zip_positive now [] (c ∷ cs) z all i d h = absurd z
zip_positive now (b ∷ bs) (c ∷ cs) z all zero d h = subst (λ (u : Account). 0 < u.effective) (sym z.0.account) (all 0 b (omega arith))
zip_positive now (b ∷ bs) (c ∷ cs) z all (suc i) d h = zip_positive now bs cs z.1 (λ j e k. all (suc j) e (omega arith)) i d (omega arith)

pub all_positive : (now : ℕ) (bs : List Submitter) (given after : List code.Bidder) → AllZip (IsBidderOf now) bs (map bidder_of given) → IsPermutation given after →
    All (λ (b : Submitter). 0 < b.effective) bs → All (λ (c : code.Bidder). 0 < c.account.effective) after
all_positive now bs given after z p all = All-permutation (λ (c : code.Bidder). 0 < c.account.effective) given after p (zip_positive now bs given z all)

zip_length : {A B : Type 0} (R : A → B → Type 0) (xs : List A) (ys : List B) → AllZip R xs ys → length xs ≡ length ys
zip_length R [] [] z = refl
zip_length R [] (y ∷ ys) z = absurd z
zip_length R (x ∷ xs) [] z = absurd z
zip_length R (x ∷ xs) (y ∷ ys) z = ap suc (zip_length R xs ys z.1)

pub as_many : (now : ℕ) (bs : List Submitter) (given after : List code.Bidder) → AllZip (IsBidderOf now) bs (map bidder_of given) → IsPermutation given after →
    length after ≡ length bs
as_many now bs given after z p =
    length_permutation given after p ∙ (sym (length-map given bidder_of) ∙ sym (zip_length (IsBidderOf now) bs (map bidder_of given) z))

-- an equal account with the requests in order
pub bidder_is : (now : ℕ) (b : Submitter) (u : Account) (jobs left : List Request) → u ≡ account_of b → jobs ≡ b.jobs → IsPermutation jobs left →
    IsSortedBy (λ r q. is_lt (request_cmp now r q)) left → IsBidderOf now b (record { account = u; left = left })
bidder_is now b u jobs left same e p up = record {
  account = same;
  requests = subst (λ (rs : List Request). IsPermutation rs left) e p;
  in_order = up;
}

-- ---- one more, for the loops

take_one : {A : Type 0} (xs : List A) (i : ℕ) (x : A) → i < length xs → x ≡ get_or xs i x → take (i + 1) xs ≡ take i xs ++ x ∷ []
take_one {A = A} xs i x h e = take_more xs i x h ∙ ap (λ (y : A). take i xs ++ y ∷ []) (sym e)

pub record KeyedSoFar (now : ℕ) (ks : List Keyed) (rs : List Request) : Type 0 where
  pub same : map (λ (k : Keyed). k.request) ks ≡ rs
  pub each : All (IsKeyed now) ks

pub keyed_more : (now : ℕ) (ks later : List Keyed) (rs : List Request) (i : ℕ) (x : Request) (k : Keyed) → i < length rs → x ≡ get_or rs i x →
    KeyedSoFar now ks (take i rs) → (k.request ≡ x) × IsKeyed now k → later ≡ ks ++ k ∷ [] → KeyedSoFar now later (take (i + 1) rs)
keyed_more now ks later rs i x k h e s p more = subst (λ (l : List Keyed). KeyedSoFar now l (take (i + 1) rs)) (sym more) (record {
  same = map_push (λ (j : Keyed). j.request) ks k ∙ ((λ j. s.same j ++ p.0 j ∷ []) ∙ sym (take_one rs i x h e));
  each = All-push (IsKeyed now) ks k s.each p.1;
})

zip_push : {A B : Type 0} (R : A → B → Type 0) (xs : List A) (ys : List B) (x : A) (y : B) → AllZip R xs ys → R x y → AllZip R (xs ++ x ∷ []) (ys ++ y ∷ [])
zip_push R [] [] x y z r = (r, z)
zip_push R [] (b ∷ ys) x y z r = absurd z
zip_push R (a ∷ xs) [] x y z r = absurd z
zip_push R (a ∷ xs) (b ∷ ys) x y z r = (z.0, zip_push R xs ys x y z.1 r)

pub bidders_more : (now : ℕ) (bs : List Submitter) (cs later : List code.Bidder) (i : ℕ) (x : Submitter) (c : code.Bidder) → i < length bs → x ≡ get_or bs i x →
    AllZip (IsBidderOf now) (take i bs) (map bidder_of cs) → IsBidderOf now x (bidder_of c) → later ≡ cs ++ c ∷ [] →
    AllZip (IsBidderOf now) (take (i + 1) bs) (map bidder_of later)
bidders_more now bs cs later i x c h e z one more = subst (λ (l : List code.Bidder). AllZip (IsBidderOf now) (take (i + 1) bs) (map bidder_of l)) (sym more)
    (rw (take_one bs i x h e, map_push bidder_of cs c) (zip_push (IsBidderOf now) (take i bs) (map bidder_of cs) x (bidder_of c) z one))

pub none_keyed : (now : ℕ) (ks : List Keyed) → ks ≡ [] → KeyedSoFar now ks []
none_keyed now ks e = subst (λ (l : List Keyed). KeyedSoFar now l []) (sym e) (record { same = refl; each = λ i d h. absurd (omega arith) })
