-- Mails that are sent, one after the other.
use Rattle.std.proofs.Common.{◌≡◌, ℕ, zero, suc, ◌+◌, ◌<◌, ◌^◌, [], ◌∷◌, ◌++◌, List, map, slice_get, take, IfSome, refl, ap, sym, subst, ◌∙◌, add-one, arith}
use Rattle.std.proofs.lemmas.List.{append-nil, append_assoc}
use Rattle.pool_mail.specs.declared.mail.Mail.{Mail}
use Rattle.pool_mail.specs.declared.matching.Match.{Match}
use Rattle.pool_tables.specs.declared.sent.Sent.{Sent}
use Rattle.pool_tables.specs.MailLists.{MailsValue, receiver_of, with_mail, with_mails}
use Rattle.pool_rules.specs.Deeds.{posted, posts, rested, sends}
use Rattle.pool_rules.specs.Masters.{mails_at, mails_of_matches, match_mails}

pub posted_all : (ms : List Mail) (m : MailsValue) → rested (with_mails ms m) ≡ posts ms m
posted_all [] m = ap (λ (l : List Sent). record m { sent = l; spare = 0 }) (sym (append-nil m.sent))
posted_all (x ∷ ms) m =
    posted_all ms (with_mail x (receiver_of x) m) ∙ ap (λ (l : List Sent). record m { sent = l; spare = 0 }) (append_assoc m.sent (posted x ∷ []) (map posted ms))

-- mails more, after others
pub sent_more : (before more : List Sent) (m : MailsValue) → sends more (sends before m) ≡ sends (before ++ more) m
sent_more before more m = ap (λ (l : List Sent). record m { sent = l; spare = 0 }) (append_assoc m.sent before more)

pub no_matches : (m : MailsValue) → rested m ≡ sends (mails_of_matches []) m
no_matches m = ap (λ (l : List Sent). record m { sent = l; spare = 0 }) (sym (append-nil m.sent))

taken_suc : (ms : List Match) (i : ℕ) → mails_of_matches (take (suc i) ms) ≡ mails_of_matches (take i ms) ++ mails_at (slice_get ms i)
taken_suc [] zero = refl
taken_suc [] (suc i) = refl
taken_suc (m ∷ ms) zero = append-nil (match_mails m)
taken_suc (m ∷ ms) (suc i) =
    ap (λ (l : List Sent). match_mails m ++ l) (taken_suc ms i) ∙ sym (append_assoc (match_mails m) (mails_of_matches (take i ms)) (mails_at (slice_get ms i)))

-- one match more
pub match_more : (ms : List Match) (i : ℕ) (before after start : MailsValue)
    → rested before ≡ sends (mails_of_matches (take i ms)) start → rested after ≡ sends (mails_at (slice_get ms i)) before → rested after ≡ sends (mails_of_matches (take (i + 1) ms)) start
match_more ms i before after start so_far told =
    told
    ∙ ap (λ (b : MailsValue). sends (mails_at (slice_get ms i)) b) so_far
    ∙ sent_more (mails_of_matches (take i ms)) (mails_at (slice_get ms i)) start
    ∙ ap (λ (l : List Sent). sends l start) (sym (ap (λ n. mails_of_matches (take n ms)) (add-one i) ∙ taken_suc ms i))

pub no_mails : (m : MailsValue) → rested m ≡ sends [] m
no_mails m = no_matches m

-- ---- what was sent may be received as before
fits_once : (P : Sent → Type 0) → (xs : List Sent) (ms : List Mail) (i : ℕ) → ((m : Mail) → P (posted m)) → IfSome (slice_get xs i) P → IfSome (slice_get (xs ++ map posted ms) i) P
fits_once P [] [] zero new h = h
fits_once P [] [] (suc i) new h = h
fits_once P [] (m ∷ ms) zero new h = new m
fits_once P [] (m ∷ ms) (suc i) new h = fits_once P [] ms i new tt
fits_once P (x ∷ xs) ms zero new h = h
fits_once P (x ∷ xs) ms (suc i) new h = fits_once P xs ms i new h

abbrev MayGrow : Sent → Type 0
MayGrow s = s.received + 1 < 2 ^ 64

pub receivable : (xs : List Sent) (ms : List Mail) (all : List Sent) (i : ℕ) → all ≡ xs ++ map posted ms → IfSome (slice_get xs i) (λ s. s.received + 1 < 2 ^ 64)
    → IfSome (slice_get all i) (λ s. s.received + 1 < 2 ^ 64)
receivable xs ms all i is h = subst (λ (l : List Sent). IfSome (slice_get l i) MayGrow) (sym is) (fits_once MayGrow xs ms i (λ m. omega arith) h)
