-- Mails that are sent for an order of the input or for matches, and mails that are received, keep a
-- pool.
use Rattle.std.proofs.Common.{◌≡◌, ◌⊎◌, inl, inr, ℕ, zero, suc, ◌+◌, ◌-◌, ◌<◌, ◌==◌, Bool, true, false, List, [], ◌∷◌, length, map, position, Option, Some, None, IsSome, IsSomeAnd, slice_get, slice_set, refl, sym, ◌∙◌, ap, subst, arith, if◌then◌else◌}
use Rattle.std.proofs.lemmas.Bool.{eqb-false}
use Rattle.std.proofs.lemmas.List.{map-append}
use Rattle.ad_eval.specs.Judgement.{Judgement}
use Rattle.claim_id.specs.declared.numbers.JobId.{JobId}
use Rattle.claim_id.specs.declared.numbers.SlotId.{SlotId}
use Rattle.claim_id.specs.declared.order.Verb.{Verb}
use Rattle.claim_id.specs.declared.order.Verb.TheVariants as verb
use Rattle.claim_id.specs.Texts.{IsClaim}
use Rattle.pool_parts.specs.declared.answer.Stepped.{Stepped}
use Rattle.pool_parts.specs.declared.event.Event.TheVariants as event
use Rattle.pool_rules.proofs.Kept.{in_both}
use Rattle.pool_rules.proofs.Machines.{at_place}
use Rattle.pool_rules.proofs.Wanting.{wanted_linked}
use Rattle.pool_rules.specs.Linked.{IsLinked}
use Rattle.pool_rules.specs.PoolParts.{slot_in_pool, slot_of_startd}
use Rattle.pool_rules.specs.Wanted.{IsWanted}
use Rattle.pool_shown.specs.Slots.{slot_at, slot_of_machine}
use Rattle.pool_mail.specs.Mails.{receivers_of}
use Rattle.pool_mail.specs.declared.mail.Mail.{Mail}
use Rattle.pool_mail.specs.declared.mail.Mail.TheVariants as mail
use Rattle.pool_mail.specs.declared.matching.Match.{Match}
use Rattle.pool_rules.specs.Deeds.{receives, sends}
use Rattle.pool_rules.specs.Given.{AreNumbered, IsGiven, IsNumbered}
use Rattle.pool_rules.specs.Happens.{Happens, AreLive}
use Rattle.pool_rules.specs.Masters.{gives, mails_of_matches}
use Rattle.pool_rules.specs.Parts.{mail_of, parts_of}
use Rattle.pool_outer.specs.declared.gate.Daemon.TheVariants.{Schedd}
use Rattle.pool_view.specs.Protocol.{Protocol}
use Rattle.pool_rules.specs.Judging.{IsLive}
use Rattle.pool_state.specs.declared.state.PoolState.{PoolState}
use Rattle.pool_tables.specs.MailLists.{received_once, sent_now, with_received}
use Rattle.pool_tables.specs.OrderTables.{given_by, is_due_for, order_mail}
use Rattle.pool_tables.specs.declared.orders.GivenWish.{GivenWish}
use Rattle.pool_tables.specs.declared.sent.Sent.{Sent}
use Rattle.pool_view.proofs.Each.{each_of_all}
use Rattle.pool_view.specs.AbstractPool.{IsIn}
use Rattle.startd_core.proofs.Places.{slot_there}
use Rattle.startd_core.specs.Startds.{StartdValue, slot_of}
use Rattle.startd_slot.specs.declared.slot.Slot.{Slot}
use Rattle.pool_rules.specs.Kept.{IsKept, GoesOn, at_reading}
use Rattle.pool_rules.specs.Steps.{IsStepOf}
use Rattle.pool_rules.proofs.PoolFrames.{read_on, staying}

-- ---- mails that are sent
pub sent_kept : (p : Protocol) (s : PoolState) (more : List Sent) (orders : List GivenWish) → IsKept p s
    → ((x : Sent) → IsIn x more → IsIn x.to (receivers_of x.mail))
    → ((m : Mail) → IsIn m (map mail_of more) → IsWanted s.machines m)
    → IsKept p (record s { mails = sends more s.mails; orders = orders })
sent_kept p s more orders k to wanted = record {
  linked = subst (λ ms. IsLinked p (record (parts_of s) { mails = ms })) (sym (map-append mail_of s.mails.sent more))
      (wanted_linked p (parts_of s) (map mail_of more) k.linked wanted).linked;
  pending = k.pending;
  addressed = λ x there. elim (in_both x s.mails.sent more there) [
    | inl old ↦ k.addressed x old
    | inr new ↦ to x new
  ];
  passed = k.passed;
  boots = k.boots;
}

-- ---- an order
order_to : (v : Verb) (job : JobId) → IsIn Schedd (receivers_of (order_mail v job))
order_to verb.Remove job = inl refl
order_to verb.Hold job = inl refl
order_to verb.Resume job = inl refl

order_wanted : (vs : List StartdValue) (v : Verb) (job : JobId) → IsWanted vs (order_mail v job)
order_wanted vs verb.Remove job = tt
order_wanted vs verb.Hold job = tt
order_wanted vs verb.Resume job = tt

gives_kept : (p : Protocol) (s : PoolState) (place : Option ℕ) (v : Verb) (job : JobId) (reading : ℕ) → IsKept p (at_reading reading s) → IsKept p (at_reading reading (gives place v job s))
gives_kept p s None v job reading k = k
gives_kept p s (Some place) v job reading k = sent_kept p (at_reading reading s) (sent_now (order_mail v job) Schedd ∷ []) (given_by place (length s.mails.sent) s.orders) k to wanted
  where
    to : (x : Sent) → IsIn x (sent_now (order_mail v job) Schedd ∷ []) → IsIn x.to (receivers_of x.mail)
    to x (inl same) = subst (λ (y : Sent). IsIn y.to (receivers_of y.mail)) (sym same) (order_to v job)
    to x (inr there) = absurd there

    wanted : (m : Mail) → IsIn m (map mail_of (sent_now (order_mail v job) Schedd ∷ [])) → IsWanted s.machines m
    wanted m (inl same) = subst (IsWanted s.machines) (sym same) (order_wanted s.machines v job)
    wanted m (inr there) = absurd there

pub orders_keep : (p : Protocol) (s : PoolState) (v : Verb) (job : JobId) (reading : ℕ) (new : PoolState) (r : Stepped) → IsKept p s → Happens (event.Order v job reading) s new r → GoesOn p (IsStepOf (event.Order v job reading) s) (at_reading reading new)
unfolding Happens
orders_keep p s v job reading new r k happens = subst (λ t. GoesOn p (IsStepOf (event.Order v job reading) s) (at_reading reading t)) (sym happens.0)
    (read_on p (IsStepOf (event.Order v job reading) s) s _ reading refl k (λ q kept. staying q (IsStepOf (event.Order v job reading) s) _ (gives_kept q s (position (is_due_for v job reading) s.orders) v job reading kept)))

-- ---- matches
-- a match that is passed is one that was given, and it is live
record IsPassed (s : PoolState) (ms : List Match) (reading : ℕ) (m : Match) : Type 0 where
  given : IsIn m ms
  judged : Judgement
  live : IsLive s m judged reading

one_more : (s : PoolState) (x : Match) (xs : List Match) (reading : ℕ) (m : Match) → IsPassed s xs reading m → IsPassed s (x ∷ xs) reading m
one_more s x xs reading m is = record { given = inr is.given; judged = is.judged; live = is.live }

passed_live : (s : PoolState) (ms : List Match) (js : List Judgement) (reading : ℕ) (live : List Match) → AreLive s ms js reading live → (m : Match) → IsIn m live → IsPassed s ms reading m
passed_live s [] js reading live are m there = absurd (subst (IsIn m) are there)
passed_live s (x ∷ xs) [] reading live are m there = absurd (subst (IsIn m) are there)
passed_live s (x ∷ xs) (j ∷ js) reading live (inr other) m there = one_more s x xs reading m (passed_live s xs js reading live other.1 m there)
passed_live s (x ∷ xs) (j ∷ js) reading live (inl first) m there = by (subst (IsIn m) first.are there) (passed_live s xs js reading first.rest first.more m)
  where
    by : (m ≡ x) ⊎ IsIn m first.rest → (IsIn m first.rest → IsPassed s xs reading m) → IsPassed s (x ∷ xs) reading m
    by (inl same) rest = record { given = inl same; judged = j; live = subst (λ y. IsLive s y j reading) (sym same) first.is }
    by (inr more) rest = one_more s x xs reading m (rest more)

-- a slot that is looked up is one of the pool, and its number isn't 0
record IsHere (vs : List StartdValue) (id : SlotId) : Type 0 where
  above : 0 < id.slot
  there : IsSome (slot_in_pool vs id)

slot_here : (p : Protocol) (s : PoolState) (id : SlotId) (P : Slot → Type 0) → IsKept p s → IsSomeAnd (slot_at id s.machines) P → IsHere s.machines id
slot_here p s id P k is = by_startd (slice_get s.machines id.machine) refl is
  where
    here : (o : Option StartdValue) → slice_get s.machines id.machine ≡ o → 0 < id.slot → IsSome (slot_of_startd o id) → IsHere s.machines id
    here o at above there = record { above = above; there = subst (λ x. IsSome (slot_of_startd x id)) (sym at) there }

    found : (o : Option Slot) (x : Slot) → o ≡ Some x → IsSome o
    found None x same = cc
    found (Some y) x same = refl

    by_slot : (v : StartdValue) → slice_get s.machines id.machine ≡ Some v → 0 < id.slot → (o : Option Slot) → slice_get v.slots (id.slot - 1) ≡ o → IsSomeAnd o P → IsHere s.machines id
    by_slot v at above None none h = absurd h
    by_slot v at above (Some x) there h =
        let startd = k.linked.startds id.machine v at in
        let place = startd.sound.slots (id.slot - 1) x there in
        let number : (id.slot - 1) + 1 ≡ id.slot = omega (arith, above) in
        let is : x.id ≡ id = place.numbered ∙ (λ i. record { machine = startd.numbered i; slot = number i }) in
        here (Some v) at above (found (slot_of v id) x (subst (λ i. slot_of v i ≡ Some x) is (slot_there v (id.slot - 1) x there place)))

    above_zero : (n : ℕ) → (n ≡ 0 → ⊥) → 0 < n
    above_zero n not = omega (arith, not)

    by_zero : (v : StartdValue) → slice_get s.machines id.machine ≡ Some v → (b : Bool) → (id.slot == 0) ≡ b → IsSomeAnd (if b then None else slice_get v.slots (id.slot - 1)) P → IsHere s.machines id
    by_zero v at true test h = absurd h
    by_zero v at false test h = by_slot v at (above_zero id.slot (eqb-false id.slot 0 test)) (slice_get v.slots (id.slot - 1)) refl h

    by_startd : (o : Option StartdValue) → slice_get s.machines id.machine ≡ o → IsSomeAnd (slot_of_machine id.slot o) P → IsHere s.machines id
    by_startd None at h = absurd h
    by_startd (Some v) at h = by_zero v at (id.slot == 0) refl h

match_wanted : (p : Protocol) (s : PoolState) (m : Match) (j : Judgement) (reading : ℕ) → IsKept p s → IsLive s m j reading → IsNumbered m.claim → IsWanted s.machines (mail.Matched m)
match_wanted p s m j reading k live n =
    let here = slot_here p s m.claim.no.slot (λ sl. j.slot ≡ sl.ad) k live.slot in
    let claim : IsClaim m.claim = record {
      no_is = record {
        slot_is = record { machine_to = n.machine; slot_from = here.above; slot_to = n.slot };
        boot_to = n.boot;
        seq_to = n.seq;
      };
      secret_to = n.secret;
    } in
    (claim, here.there)

-- each mail of matches tells one of them, to one of those for whom it is
record IsPost (ms : List Match) (x : Sent) : Type 0 where
  found : Match
  of : IsIn found ms
  says : x.mail ≡ mail.Matched found
  goes : IsIn x.to (receivers_of x.mail)

post_more : (m : Match) (ms : List Match) (x : Sent) → IsPost ms x → IsPost (m ∷ ms) x
post_more m ms x is = record { found = is.found; of = inr is.of; says = is.says; goes = is.goes }

are_posts : (ms : List Match) (x : Sent) → IsIn x (mails_of_matches ms) → IsPost ms x
are_posts [] x there = absurd there
are_posts (m ∷ ms) x (inl same) = record { found = m; of = inl refl; says = ap (λ (y : Sent). y.mail) same; goes = subst (λ (y : Sent). IsIn y.to (receivers_of y.mail)) (sym same) (inl refl) }
are_posts (m ∷ ms) x (inr (inl same)) = record { found = m; of = inl refl; says = ap (λ (y : Sent). y.mail) same; goes = subst (λ (y : Sent). IsIn y.to (receivers_of y.mail)) (sym same) (inr (inl refl)) }
are_posts (m ∷ ms) x (inr (inr there)) = post_more m ms x (are_posts ms x there)

mailed : (xs : List Sent) (m : Mail) → IsIn m (map mail_of xs) → (x : Sent) × IsIn x xs × (m ≡ x.mail)
mailed [] m there = absurd there
mailed (x ∷ xs) m (inl same) = (x, inl refl, same)
mailed (x ∷ xs) m (inr there) = let found = mailed xs m there in (found.0, inr found.1, found.2)

are_wanted : (p : Protocol) (s : PoolState) (ms : List Match) (js : List Judgement) (reading : ℕ) (live : List Match) → IsKept p s → AreNumbered ms → AreLive s ms js reading live → (m : Mail) → IsIn m (map mail_of (mails_of_matches live)) → IsWanted s.machines m
are_wanted p s ms js reading live k numbered are m there =
    let found = mailed (mails_of_matches live) m there in
    let post = are_posts live found.0 found.1 in
    subst (IsWanted s.machines) (sym (found.2 ∙ post.says)) (passed_wanted post.found (passed_live s ms js reading live are post.found post.of))
  where
    passed_wanted : (m : Match) → IsPassed s ms reading m → IsWanted s.machines (mail.Matched m)
    passed_wanted m is = match_wanted p s m is.judged reading k is.live (each_of_all (λ (x : Match). IsNumbered x.claim) ms numbered m is.given)

pub matches_keep : (p : Protocol) (s : PoolState) (ms : List Match) (js : List Judgement) (reading : ℕ) (new : PoolState) (r : Stepped) → IsKept p s → IsGiven (event.Matches ms js reading) s → Happens (event.Matches ms js reading) s new r
    → GoesOn p (IsStepOf (event.Matches ms js reading) s) (at_reading reading new)
unfolding Happens
matches_keep p s ms js reading new r k given happens = subst (λ t. GoesOn p (IsStepOf (event.Matches ms js reading) s) (at_reading reading t)) (sym happens.pool)
    (read_on p (IsStepOf (event.Matches ms js reading) s) s _ reading refl k (λ q kept. staying q (IsStepOf (event.Matches ms js reading) s) _ (sent_kept q (at_reading reading s) (mails_of_matches happens.live) s.orders kept
    (λ x there. (are_posts happens.live x there).goes) (are_wanted p s ms js reading happens.live k given.1 happens.are))))

-- ---- a mail is received
same_mails : (xs : List Sent) (n : ℕ) (x y : Sent) → slice_get xs n ≡ Some x → y.mail ≡ x.mail → map mail_of (slice_set xs n y) ≡ map mail_of xs
same_mails [] n x y at same = refl
same_mails (z ∷ zs) zero x y at same = ap (λ m. m ∷ map mail_of zs) (same ∙ sym (ap (mail_in z) at))
  where
    mail_in : Sent → Option Sent → Mail
    mail_in d None = d.mail
    mail_in d (Some u) = u.mail
same_mails (z ∷ zs) (suc n) x y at same = ap (λ ms. z.mail ∷ ms) (same_mails zs n x y at same)

put_or_old : (xs : List Sent) (n : ℕ) (y z : Sent) → IsIn z (slice_set xs n y) → (z ≡ y) ⊎ IsIn z xs
put_or_old [] n y z there = inr there
put_or_old (x ∷ xs) zero y z (inl same) = inl same
put_or_old (x ∷ xs) zero y z (inr there) = inr (inr there)
put_or_old (x ∷ xs) (suc n) y z (inl same) = inr (inl same)
put_or_old (x ∷ xs) (suc n) y z (inr there) = elim (put_or_old xs n y z there) [
  | inl new ↦ inl new
  | inr old ↦ inr (inr old)
]

pub received_mails : (index : ℕ) (sent : List Sent) → map mail_of (with_received index sent) ≡ map mail_of sent
received_mails index sent = by (slice_get sent index) refl
  where
    by : (o : Option Sent) → slice_get sent index ≡ o → map mail_of (received_once o index sent) ≡ map mail_of sent
    by None at = refl
    by (Some x) at = same_mails sent index x (record x { received = x.received + 1 }) at refl

pub received_addressed : (index : ℕ) (sent : List Sent) → ((x : Sent) → IsIn x sent → IsIn x.to (receivers_of x.mail)) → (x : Sent) → IsIn x (with_received index sent) → IsIn x.to (receivers_of x.mail)
received_addressed index sent to x there = by (slice_get sent index) refl there
  where
    by : (o : Option Sent) → slice_get sent index ≡ o → IsIn x (received_once o index sent) → IsIn x.to (receivers_of x.mail)
    by None at h = to x h
    by (Some y) at h = elim (put_or_old sent index (record y { received = y.received + 1 }) x h) [
      | inl same ↦ subst (λ (z : Sent). IsIn z.to (receivers_of z.mail)) (sym same) (to y (at_place y sent index at))
      | inr old ↦ to x old
    ]

pub received_kept : (p : Protocol) (s : PoolState) (index : ℕ) → IsKept p s → IsKept p (receives index s)
received_kept p s index k = record {
  linked = subst (λ ms. IsLinked p (record (parts_of s) { mails = ms })) (sym (received_mails index s.mails.sent)) k.linked;
  pending = k.pending;
  addressed = received_addressed index s.mails.sent k.addressed;
  passed = k.passed;
  boots = k.boots;
}
