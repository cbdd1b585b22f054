-- What each event makes of a machine's startd: its own what the startd's tables say, and others
-- nothing.
use Rattle.std.proofs.Common.{◌≡◌, ◌≢◌, ◌⊎◌, inl, inr, ℕ, zero, suc, Bool, true, false, List, [], ◌∷◌, Option, Some, None, IsSomeAnd, is_some, slice_get, slice_set, position, refl, ◌∙◌, ap, subst}
use Rattle.std.proofs.lemmas.Option.{none-some}
use Rattle.desk.specs.Given.{IsOwn}
use Rattle.pool_parts.specs.declared.answer.Stepped.{Stepped}
use Rattle.pool_parts.specs.declared.event.Event.{Event}
use Rattle.pool_parts.specs.declared.event.Event.TheVariants as event
use Rattle.pool_parts.specs.Events.{holder_of}
use Rattle.pool_mail.specs.declared.mail.Mail.{Mail}
use Rattle.pool_rules.specs.Deeds.{startd_answer}
use Rattle.pool_rules.specs.Happens.{ComesBack, Happens, IsDone, Receives, Ticks}
use Rattle.pool_rules.specs.Logging.{IsBackWith, IsLogged, Leaver, ScheddIsBack, after_unfinished, leaver_of}
use Rattle.pool_rules.specs.Masters.{gives}
use Rattle.pool_rules.specs.Startds.{IsReceivedStep, IsStartdStep, StartdDoes, ends_after}
use Rattle.pool_outer.specs.declared.gate.Daemon.{Daemon}
use Rattle.pool_outer.specs.declared.gate.Daemon.TheVariants.{Schedd, Startd, Matchmaker}
use Rattle.pool_parts.specs.declared.pending.Pending.{Pending}
use Rattle.pool_parts.specs.declared.pending.Unfinished.{Unfinished}
use Rattle.pool_parts.specs.declared.pending.Unfinished.TheVariants.{Submission, Plan}
use Rattle.pool_state.specs.declared.state.PoolState.{PoolState}
use Rattle.pool_tables.specs.declared.sent.Sent.{Sent}
use Rattle.pool_tables.specs.OrderTables.{is_due_for}
use Rattle.queue_tx.specs.Queues.{KeyedAds}
use Rattle.startd_core.specs.Sound.{IsSound}
use Rattle.startd_core.specs.Startds.{After, StartdValue, after_end, after_mail, after_reboot, after_tick}
use Rattle.desk.proofs.PassCourse.{WellGoes, boot_well, end_well, mail_well, tick_well}
use Rattle.pool_rules.proofs.Readers.{some_reads}

-- ---- machines, one of which stands anew
set_elsewhere : (xs : List StartdValue) (i place : ℕ) (x : StartdValue) → i ≢ place → slice_get (slice_set xs i x) place ≡ slice_get xs place
set_elsewhere [] i place x other = refl
set_elsewhere (y ∷ ys) zero zero x other = absurd (other refl)
set_elsewhere (y ∷ ys) zero (suc place) x other = refl
set_elsewhere (y ∷ ys) (suc i) zero x other = refl
set_elsewhere (y ∷ ys) (suc i) (suc place) x other = set_elsewhere ys i place x (λ same. other (ap suc same))

pub set_there : (xs : List StartdValue) (i : ℕ) (x old : StartdValue) → slice_get xs i ≡ Some old → slice_get (slice_set xs i x) i ≡ Some x
set_there [] i x old is = absurd (none-some old is)
set_there (y ∷ ys) zero x old is = refl
set_there (y ∷ ys) (suc i) x old is = set_there ys i x old is

-- ---- events of others
abbrev pub HasSameStartd : ℕ → PoolState → PoolState → Type 0
HasSameStartd machine s new = slice_get new.machines machine ≡ slice_get s.machines machine

by_machines : (machine : ℕ) (s to new : PoolState) → to.machines ≡ s.machines → new ≡ to → HasSameStartd machine s new
by_machines machine s to new same is = ap (λ (x : PoolState). slice_get x.machines machine) is ∙ ap (λ (xs : List StartdValue). slice_get xs machine) same

other_machine : (machine other : ℕ) → Some (Startd other) ≢ Some (Startd machine) → other ≢ machine
other_machine machine other not_same same = not_same (ap (λ n. Some (Startd n)) same)

by_other : (machine other : ℕ) (s new : PoolState) (x : StartdValue) → Some (Startd other) ≢ Some (Startd machine) → new.machines ≡ slice_set s.machines other x → HasSameStartd machine s new
by_other machine other s new x not_same is = ap (λ (xs : List StartdValue). slice_get xs machine) is ∙ set_elsewhere s.machines other machine x (other_machine machine other not_same)

gives_same : (place : Option ℕ) (v : _) (job : _) (s : PoolState) → (gives place v job s).machines ≡ s.machines
gives_same None v job s = refl
gives_same (Some place) v job s = refl

logged_same : (q : KeyedAds) (leaver : Leaver) (what : Unfinished) (s : PoolState) → (after_unfinished q leaver what s).machines ≡ s.machines
logged_same q leaver (Submission cluster count) s = refl
logged_same q leaver (Plan p) s = refl

does_other : (machine other : ℕ) (f : StartdValue → After) (s new : PoolState) (r : Stepped) → Some (Startd other) ≢ Some (Startd machine) → StartdDoes other f s new r → HasSameStartd machine s new
does_other machine other f s new r not_same does = by (slice_get s.machines other) does
  where
    by : (o : Option StartdValue) → IsSomeAnd o (λ v. IsStartdStep other (f v) [] s new r) → HasSameStartd machine s new
    by None does = absurd does
    by (Some v) does = by_other machine other s new (f v).startd not_same (ap (λ (x : PoolState). x.machines) does.pool)

mail_other : (machine : ℕ) (who : Daemon) (index : ℕ) (m : Mail) (reading : ℕ) (judged : _) (s new : PoolState) (r : Stepped) → Some who ≢ Some (Startd machine) → Receives who index m reading judged s new r → HasSameStartd machine s new
mail_other machine Schedd index m reading judged s new r other h = by_machines machine s _ new refl h.pool
mail_other machine (Startd its) index m reading judged s new r other h = by (slice_get s.machines its) h
  where
    by : (o : Option StartdValue) → IsSomeAnd o (λ v. IsReceivedStep its index (after_mail v m judged reading) s new r) → HasSameStartd machine s new
    by None does = absurd does
    by (Some v) does = by_other machine its s new (after_mail v m judged reading).startd other (ap (λ (x : PoolState). x.machines) does.pool)
mail_other machine Matchmaker index m reading judged s new r other h = by_machines machine s _ new refl h.0

tick_other : (machine : ℕ) (who : Daemon) (reading : ℕ) (s new : PoolState) (r : Stepped) → Some who ≢ Some (Startd machine) → Ticks who reading s new r → HasSameStartd machine s new
tick_other machine Schedd reading s new r other h = by_machines machine s _ new refl h.pool
tick_other machine (Startd its) reading s new r other h = does_other machine its (λ v. after_tick v reading) s new r other h
tick_other machine Matchmaker reading s new r other h = by_machines machine s s new refl h.0

schedd_same : (machine : ℕ) (kept : Bool) (reading : ℕ) (s new : PoolState) → ScheddIsBack s kept reading new → HasSameStartd machine s new
schedd_same machine false reading s new h = by_machines machine s _ new refl h.pool
schedd_same machine true reading s new h = by s.pending h
  where
    by : (o : Option Pending) → IsSomeAnd o (λ p. IsBackWith s p reading new) → HasSameStartd machine s new
    by None h = absurd h
    by (Some p) h = by_machines machine s _ new refl (h.pool some_reads.0 some_reads.1)

back_other : (machine : ℕ) (who : Daemon) (kept : Bool) (reading : ℕ) (s new : PoolState) (r : Stepped) → Some who ≢ Some (Startd machine) → ComesBack who kept reading s new r → HasSameStartd machine s new
back_other machine Schedd kept reading s new r other h = schedd_same machine kept reading s new h.0
back_other machine (Startd its) kept reading s new r other h = does_other machine its (λ v. after_reboot v reading) s new r other h
back_other machine Matchmaker kept reading s new r other h = by_machines machine s s new refl h.0

pub others_machine : (machine : ℕ) (e : Event) (s new : PoolState) (r : Stepped) → holder_of e ≢ Some (Startd machine) → Happens e s new r → HasSameStartd machine s new
unfolding Happens
others_machine machine (event.Submit boot jobs reading) s new r other h = by_machines machine s _ new refl h.pool
others_machine machine (event.Order v job reading) s new r other h = by_machines machine s _ new (gives_same (position (is_due_for v job reading) s.orders) v job s) h.0
others_machine machine (event.Receive who boot index reading judged mismatch) s new r other h = by (slice_get s.mails.sent index) h
  where
    by : (o : Option Sent) → IsSomeAnd o (λ sent. Receives who index sent.mail reading judged s new r) → HasSameStartd machine s new
    by None h = absurd h
    by (Some sent) h = mail_other machine who index sent.mail reading judged s new r other h
others_machine machine (event.Tick who boot reading) s new r other h = tick_other machine who reading s new r other h
others_machine machine (event.Check boot job reading) s new r other h = by_machines machine s _ new refl h.pool
others_machine machine (event.Logged boot receipt) s new r other h = by s.pending h
  where
    by : (o : Option Pending) → IsSomeAnd o (λ p. IsLogged s p new r) → HasSameStartd machine s new
    by None h = absurd h
    by (Some p) h = by_machines machine s _ new (logged_same h.queue (leaver_of some_reads.0 s.queue p.what) p.what s) (h.pool some_reads.0 some_reads.1)
others_machine machine (event.Ended its boot receipt reading) s new r other h = by (slice_get s.machines its) h
  where
    f : StartdValue → After
    f v = after_end v receipt.item reading

    by : (o : Option StartdValue) → IsSomeAnd o (λ v. IsStartdStep its (f v) (ends_after receipt.item.run v (f v)) s new r) → HasSameStartd machine s new
    by None h = absurd h
    by (Some v) h = by_other machine its s new (f v).startd other (ap (λ (x : PoolState). x.machines) h.pool)
others_machine machine (event.Crash who) s new r other h = by_machines machine s _ new refl h.0
others_machine machine (event.Reopen who kept ended reading) s new r other h =
    ap (λ (x : PoolState). slice_get x.machines machine) h.pool ∙ back_other machine who (is_some kept) reading s h.back r other h.comes
others_machine machine (event.Matches list judged reading) s new r other h = by_machines machine s _ new refl h.pool
others_machine machine (event.Close count reading mismatch) s new r other h = by_machines machine s _ new refl h.0

-- ---- events of the machine's startd
pub record Acts (machine : ℕ) (s new : PoolState) (r : Stepped) : Type 0 where
  pub startd : StartdValue
  pub at : slice_get s.machines machine ≡ Some startd
  pub after : After
  pub machines : new.machines ≡ slice_set s.machines machine after.startd
  pub answer : r ≡ startd_answer after.step
  pub well : IsSound startd → WellGoes startd after

does_acts : (machine : ℕ) (f : StartdValue → After) (s new : PoolState) (r : Stepped) → ((v : StartdValue) → IsSound v → WellGoes v (f v)) → StartdDoes machine f s new r → Acts machine s new r
does_acts machine f s new r well does = by (slice_get s.machines machine) refl does
  where
    by : (o : Option StartdValue) → slice_get s.machines machine ≡ o → IsSomeAnd o (λ v. IsStartdStep machine (f v) [] s new r) → Acts machine s new r
    by None at does = absurd does
    by (Some v) at does = record { startd = v; at = at; after = f v; machines = ap (λ (x : PoolState). x.machines) does.pool; answer = does.answer; well = well v }

-- it acts, or nothing happens
abbrev pub OwnDoes : ℕ → PoolState → PoolState → Stepped → Type 0
OwnDoes machine s new r = Acts machine s new r ⊎ ((new.machines ≡ s.machines) × IsDone r)

mail_acts : (machine : ℕ) (who : Daemon) (index : ℕ) (m : Mail) (reading : ℕ) (judged : _) (s new : PoolState) (r : Stepped) → Some who ≡ Some (Startd machine) → Receives who index m reading judged s new r → Acts machine s new r
mail_acts machine Schedd index m reading judged s new r own h = absurd (let clash : Some Schedd ≡ Some (Startd machine) = own in cc)
mail_acts machine (Startd its) index m reading judged s new r own h = subst (λ n. Acts n s new r) (let same : Some (Startd its) ≡ Some (Startd machine) = own in cc) (by (slice_get s.machines its) refl h)
  where
    by : (o : Option StartdValue) → slice_get s.machines its ≡ o → IsSomeAnd o (λ v. IsReceivedStep its index (after_mail v m judged reading) s new r) → Acts its s new r
    by None at does = absurd does
    by (Some v) at does = record { startd = v; at = at; after = after_mail v m judged reading; machines = ap (λ (x : PoolState). x.machines) does.pool; answer = does.answer; well = mail_well v m judged reading }
mail_acts machine Matchmaker index m reading judged s new r own h = absurd (let clash : Some Matchmaker ≡ Some (Startd machine) = own in cc)

tick_acts : (machine : ℕ) (who : Daemon) (reading : ℕ) (s new : PoolState) (r : Stepped) → Some who ≡ Some (Startd machine) → Ticks who reading s new r → Acts machine s new r
tick_acts machine Schedd reading s new r own h = absurd (let clash : Some Schedd ≡ Some (Startd machine) = own in cc)
tick_acts machine (Startd its) reading s new r own h = subst (λ n. Acts n s new r) (let same : Some (Startd its) ≡ Some (Startd machine) = own in cc) (does_acts its (λ v. after_tick v reading) s new r (λ v sound. tick_well v reading sound) h)
tick_acts machine Matchmaker reading s new r own h = absurd (let clash : Some Matchmaker ≡ Some (Startd machine) = own in cc)

back_acts : (machine : ℕ) (who : Daemon) (kept : Bool) (reading : ℕ) (s new : PoolState) (r : Stepped) → Some who ≡ Some (Startd machine) → ComesBack who kept reading s new r → Acts machine s new r
back_acts machine Schedd kept reading s new r own h = absurd (let clash : Some Schedd ≡ Some (Startd machine) = own in cc)
back_acts machine (Startd its) kept reading s new r own h = subst (λ n. Acts n s new r) (let same : Some (Startd its) ≡ Some (Startd machine) = own in cc) (does_acts its (λ v. after_reboot v reading) s new r (λ v sound. boot_well v reading sound) h)
back_acts machine Matchmaker kept reading s new r own h = absurd (let clash : Some Matchmaker ≡ Some (Startd machine) = own in cc)

pub own_machine : (machine : ℕ) (e : Event) (s new : PoolState) (r : Stepped) → IsOwn (Some (Startd machine)) e → Happens e s new r → OwnDoes machine s new r
unfolding Happens
own_machine machine (event.Submit boot jobs reading) s new r own h = absurd own
own_machine machine (event.Order v job reading) s new r own h = absurd (none-some _ own)
own_machine machine (event.Receive who boot index reading judged mismatch) s new r own h = inl (by (slice_get s.mails.sent index) h)
  where
    by : (o : Option Sent) → IsSomeAnd o (λ sent. Receives who index sent.mail reading judged s new r) → Acts machine s new r
    by None h = absurd h
    by (Some sent) h = mail_acts machine who index sent.mail reading judged s new r own h
own_machine machine (event.Tick who boot reading) s new r own h = inl (tick_acts machine who reading s new r own h)
own_machine machine (event.Check boot job reading) s new r own h = absurd (let clash : Some Schedd ≡ Some (Startd machine) = own in cc)
own_machine machine (event.Logged boot receipt) s new r own h = absurd (let clash : Some Schedd ≡ Some (Startd machine) = own in cc)
own_machine machine (event.Ended its boot receipt reading) s new r own h = inl (subst (λ n. Acts n s new r) (let same : Some (Startd its) ≡ Some (Startd machine) = own in cc) (by (slice_get s.machines its) refl h))
  where
    f : StartdValue → After
    f v = after_end v receipt.item reading

    by : (o : Option StartdValue) → slice_get s.machines its ≡ o → IsSomeAnd o (λ v. IsStartdStep its (f v) (ends_after receipt.item.run v (f v)) s new r) → Acts its s new r
    by None at h = absurd h
    by (Some v) at h = record { startd = v; at = at; after = f v; machines = ap (λ (x : PoolState). x.machines) h.pool; answer = h.answer; well = end_well v receipt.item reading }
own_machine machine (event.Crash who) s new r own h = inr (ap (λ (x : PoolState). x.machines) h.0, h.1)
own_machine machine (event.Reopen who kept ended reading) s new r own h =
    let acts = back_acts machine who (is_some kept) reading s h.back r own h.comes in
    inl (record { startd = acts.startd; at = acts.at; after = acts.after; machines = ap (λ (x : PoolState). x.machines) h.pool ∙ acts.machines; answer = acts.answer; well = acts.well })
own_machine machine (event.Matches list judged reading) s new r own h = absurd (let clash : Some Matchmaker ≡ Some (Startd machine) = own in cc)
own_machine machine (event.Close count reading mismatch) s new r own h = absurd (none-some _ own)
