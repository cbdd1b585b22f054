-- Mails that a pool sends and receives: to whom they go, and which they are.
use Rattle.std.proofs.Common.{◌≡◌, ◌⊎◌, inl, inr, ℕ, zero, suc, ◌+◌, List, [], ◌∷◌, ◌++◌, map, Option, Some, None, slice_get, slice_set, refl, sym, ◌∙◌, ap, subst}
use Rattle.std.proofs.lemmas.List.{map-append}
use Rattle.std.proofs.lemmas.Option.{none-some, same_Some}
use Rattle.pool_mail.specs.Mails.{receivers_of}
use Rattle.pool_mail.specs.declared.mail.Mail.{Mail}
use Rattle.pool_mail.specs.declared.mail.Mail.TheVariants.{Update, Matched, Ask, Granted, Denied, Activate, Alive, Seen, Stop, Release, Gone, Ended, Remove, Hold, Resume}
use Rattle.pool_tables.specs.declared.sent.Sent.{Sent}
use Rattle.pool_tables.specs.MailLists.{receiver_of, received_once, with_received}
use Rattle.pool_view.specs.AbstractPool.{IsIn}
use Rattle.pool_rules.proofs.Kept.{in_both}
use Rattle.pool_rules.specs.Deeds.{posted}
use Rattle.pool_rules.specs.Parts.{mail_of}
use Rattle.pool_rules.specs.Kept.{AreAddressed}

-- ---- mails that were received more often
-- each of these is one of those, but for how often it was received
abbrev pub AreAmong : List Sent → List Sent → Type 0
AreAmong xs ys = (x : Sent) → IsIn x xs → (y : Sent) × IsIn y ys × (x.mail ≡ y.mail) × (x.to ≡ y.to)

pub among_self : (xs : List Sent) → AreAmong xs xs
among_self xs x there = (x, there, refl, refl)

put_among : (xs : List Sent) (i : ℕ) (old new : Sent) → slice_get xs i ≡ Some old → new.mail ≡ old.mail → new.to ≡ old.to → AreAmong (slice_set xs i new) xs
put_among [] i old new at mail to x there = absurd (none-some old at)
put_among (y ∷ ys) zero old new at mail to x (inl same) =
    let is : old ≡ y = sym (same_Some y old at) in (
      y,
      inl refl,
      ap (λ (z : Sent). z.mail) same ∙ (mail ∙ ap (λ (z : Sent). z.mail) is),
      ap (λ (z : Sent). z.to) same ∙ (to ∙ ap (λ (z : Sent). z.to) is),
    )
put_among (y ∷ ys) zero old new at mail to x (inr there) = (x, inr there, refl, refl)
put_among (y ∷ ys) (suc i) old new at mail to x (inl same) = (y, inl refl, ap (λ (z : Sent). z.mail) same, ap (λ (z : Sent). z.to) same)
put_among (y ∷ ys) (suc i) old new at mail to x (inr there) = let found = put_among ys i old new at mail to x there in (found.0, inr found.1, found.2, found.3)

-- one is received once more
pub received_among : (index : ℕ) (sent : List Sent) → AreAmong (with_received index sent) sent
received_among index sent = by (slice_get sent index) refl
  where
    by : (o : Option Sent) → slice_get sent index ≡ o → AreAmong (received_once o index sent) sent
    by None at = among_self sent
    by (Some s) at = put_among sent index s (record s { received = s.received + 1 }) at refl refl

-- ---- to whom they go
pub addressed_among : (xs ys : List Sent) → AreAmong xs ys → AreAddressed ys → AreAddressed xs
addressed_among xs ys among are x there =
    let found = among x there in
    subst (λ who. IsIn who (receivers_of x.mail)) (sym found.3) (subst (λ mail. IsIn found.0.to (receivers_of mail)) (sym found.2) (are found.0 found.1))

pub addressed_both : (xs ys : List Sent) → AreAddressed xs → AreAddressed ys → AreAddressed (xs ++ ys)
addressed_both xs ys first second x there = by (in_both x xs ys there)
  where
    by : IsIn x xs ⊎ IsIn x ys → IsIn x.to (receivers_of x.mail)
    by (inl here) = first x here
    by (inr later) = second x later

-- the first of those for whom a mail is
pub receiver_first : (mail : Mail) → IsIn (receiver_of mail) (receivers_of mail)
receiver_first (Update slot) = inl refl
receiver_first (Matched found) = inl refl
receiver_first (Ask claim job ad by_priority) = inl refl
receiver_first (Granted claim job) = inl refl
receiver_first (Denied claim run job why) = inl refl
receiver_first (Activate run job ad until) = inl refl
receiver_first (Alive run until) = inl refl
receiver_first (Seen run until) = inl refl
receiver_first (Stop run) = inl refl
receiver_first (Release claim) = inl refl
receiver_first (Gone run kept) = inl refl
receiver_first (Ended run how) = inl refl
receiver_first (Remove job) = inl refl
receiver_first (Hold job) = inl refl
receiver_first (Resume job) = inl refl

pub addressed_posted : (mails : List Mail) → AreAddressed (map posted mails)
addressed_posted [] x there = absurd there
addressed_posted (m ∷ ms) x (inl same) = subst (λ (s : Sent). IsIn s.to (receivers_of s.mail)) (sym same) (receiver_first m)
addressed_posted (m ∷ ms) x (inr there) = addressed_posted ms x there

-- mails that are sent in order, to whom they go first
pub addressed_posts : (sent : List Sent) (mails : List Mail) → AreAddressed sent → AreAddressed (sent ++ map posted mails)
addressed_posts sent mails are = addressed_both sent (map posted mails) are (addressed_posted mails)

-- ---- which they are
in_mails : (m : Mail) (xs : List Sent) → IsIn m (map mail_of xs) → (x : Sent) × IsIn x xs × (m ≡ x.mail)
in_mails m [] there = absurd there
in_mails m (x ∷ xs) (inl same) = (x, inl refl, same)
in_mails m (x ∷ xs) (inr there) = let found = in_mails m xs there in (found.0, inr found.1, found.2)

pub mail_in : (x : Sent) (xs : List Sent) → IsIn x xs → IsIn x.mail (map mail_of xs)
mail_in x [] there = absurd there
mail_in x (y ∷ ys) (inl same) = inl (ap (λ (z : Sent). z.mail) same)
mail_in x (y ∷ ys) (inr there) = inr (mail_in x ys there)

pub mails_among : (xs ys : List Sent) → AreAmong xs ys → (m : Mail) → IsIn m (map mail_of xs) → IsIn m (map mail_of ys)
mails_among xs ys among m there =
    let found = in_mails m xs there in
    let old = among found.0 found.1 in
    subst (λ k. IsIn k (map mail_of ys)) (sym (found.2 ∙ old.2)) (mail_in old.0 ys old.1)

mails_posted : (mails : List Mail) → map mail_of (map posted mails) ≡ mails
mails_posted [] = refl
mails_posted (m ∷ ms) = ap (λ xs. m ∷ xs) (mails_posted ms)

pub mails_of_posts : (sent : List Sent) (mails : List Mail) → map mail_of (sent ++ map posted mails) ≡ map mail_of sent ++ mails
mails_of_posts sent mails = map-append mail_of sent (map posted mails) ∙ ap (λ xs. map mail_of sent ++ xs) (mails_posted mails)

-- what was sent before, and what is sent now
pub mails_kept : (xs sent : List Sent) (mails : List Mail) → AreAmong xs (sent ++ map posted mails) → (m : Mail) → IsIn m (map mail_of xs) → IsIn m (map mail_of sent ++ mails)
mails_kept xs sent mails among m there = subst (IsIn m) (mails_of_posts sent mails) (mails_among xs (sent ++ map posted mails) among m there)
