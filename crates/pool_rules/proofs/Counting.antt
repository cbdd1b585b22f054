-- What an event makes of the jobs and of the bytes that a pool counts.
use Rattle.std.proofs.Common.{◌≡◌, ℕ, ◌+◌, ◌-◌, Bool, true, false, List, [], ◌∷◌, ◌++◌, map, Ok, Option, Some, None, is_some, IsSomeAnd, slice_get, position, refl, sym, ◌∙◌, ap, subst, arith}
use Rattle.ad_eval.specs.Judgement.{Judgement}
use Rattle.claim_id.specs.declared.numbers.ClaimId.{ClaimId}
use Rattle.claim_id.specs.declared.numbers.JobId.{JobId}
use Rattle.claim_id.specs.declared.order.Verb.{Verb}
use Rattle.claim_id.specs.declared.order.Verb.TheVariants as verb
use Rattle.pool_parts.specs.declared.answer.Stepped.{Stepped}
use Rattle.pool_parts.specs.declared.event.Event.{Event}
use Rattle.pool_parts.specs.declared.event.Event.TheVariants as event
use Rattle.pool_parts.specs.Sizes.{mail_count, mails_count, queue_count}
use Rattle.pool_mail.specs.declared.mail.Mail.{Mail}
use Rattle.pool_mail.specs.declared.matching.Match.{Match}
use Rattle.pool_outer.specs.declared.gate.Daemon.{Daemon}
use Rattle.pool_outer.specs.declared.gate.Daemon.TheVariants.{Schedd, Startd, Matchmaker}
use Rattle.pool_parts.specs.declared.pending.Pending.{Pending}
use Rattle.pool_parts.specs.declared.pending.Unfinished.{Unfinished}
use Rattle.pool_parts.specs.declared.pending.Unfinished.TheVariants.{Submission, Plan}
use Rattle.pool_view.specs.Protocol.{Protocol}
use Rattle.pool_state.specs.Openings.{IsJobCount, IsOpenedBy}
use Rattle.pool_state.specs.declared.opening.Opening.{Opening}
use Rattle.pool_state.specs.declared.state.Counts.{Counts as Counters}
use Rattle.pool_state.specs.declared.state.PoolState.{PoolState}
use Rattle.pool_tables.specs.MailLists.{MailsValue, with_received}
use Rattle.pool_tables.specs.OrderTables.{is_due_for, order_mail}
use Rattle.pool_tables.specs.declared.sent.Sent.{Sent}
use Rattle.pool_view.specs.declared.run.EndReport.{EndReport}
use Rattle.queue_tx.specs.Operations.{Operation}
use Rattle.queue_tx.specs.Queues.{KeyedAds, queue_after}
use Rattle.schedd_state.specs.Reopening.{IsReader}
use Rattle.schedd_core.specs.Rows.{after_mail as schedd_after}
use Rattle.schedd_state.specs.Schedds.{After as ScheddAfter}
use Rattle.startd_core.specs.Startds.{After, StartdValue, after_end, after_mail, after_reboot, after_tick}
use Rattle.pool_rules.specs.Deeds.{ordered_by, posted, receives, schedd_acts, startd_acts}
use Rattle.pool_rules.specs.Happens.{ComesBack, Happens, Reacts, Receives, Ticks, counts_brought, crashes, is_known}
use Rattle.pool_rules.specs.Schedds.{after_receipt_of}
use Rattle.pool_rules.specs.Logging.{IsBackWith, IsLogged, Leaver, ScheddIsBack, after_unfinished, jobs_after, leaver_of}
use Rattle.pool_rules.specs.Masters.{gives, mails_of_matches, passes}
use Rattle.pool_rules.specs.Startds.{IsReceivedStep, IsStartdStep, ends_after}
use Rattle.pool_rules.specs.Counted.{CountsBytes, IsCounted, held_count, sent_count}
use Rattle.pool_rules.specs.Kept.{IsKept, IsPendingTx, IsTxOf}
use Rattle.pool_rules.specs.Parts.{awaited_by, awaited_of, mail_of}
use Rattle.pool_rules.proofs.JobCounts.{jobs_logged}
use Rattle.pool_rules.proofs.PoolSent.{received_mails}

-- ---- the bytes of mails
sent_both : (xs ys : List Sent) → sent_count (xs ++ ys) ≡ sent_count xs + sent_count ys
sent_both [] ys = omega arith
sent_both (x ∷ xs) ys = let rest = sent_both xs ys in omega (arith, rest)

posted_count : (mails : List Mail) → sent_count (map posted mails) ≡ mails_count mails
posted_count [] = refl
posted_count (m ∷ ms) = ap (λ n. mail_count m + n) (posted_count ms)

mapped_count : (xs : List Sent) → sent_count xs ≡ mails_count (map mail_of xs)
mapped_count [] = refl
mapped_count (x ∷ xs) = ap (λ n. mail_count x.mail + n) (mapped_count xs)

received_count : (index : ℕ) (sent : List Sent) → sent_count (with_received index sent) ≡ sent_count sent
received_count index sent = mapped_count (with_received index sent) ∙ (ap mails_count (received_mails index sent) ∙ sym (mapped_count sent))

sent_more : (n : ℕ) (sent : List Sent) (mails : List Mail) → n + mails_count mails + sent_count sent ≡ n + sent_count (sent ++ map posted mails)
sent_more n sent mails =
    let both = sent_both sent (map posted mails) in
    let more = posted_count mails in omega (arith, both, more)

sent_none : (n : ℕ) (sent more : List Sent) → sent_count more ≡ 0 → n + sent_count sent ≡ n + sent_count (sent ++ more)
sent_none n sent more none = let both = sent_both sent more in omega (arith, both, none)

order_count : (v : Verb) (job : JobId) → mail_count (order_mail v job) ≡ 0
order_count verb.Remove job = refl
order_count verb.Hold job = refl
order_count verb.Resume job = refl

matches_count : (ms : List Match) → sent_count (mails_of_matches ms) ≡ 0
matches_count [] = refl
matches_count (m ∷ ms) = let rest = matches_count ms in omega (arith, rest)

-- ---- what leaves the queue
record Quiet (s t : PoolState) : Type 0 where
  queue : t.queue ≡ s.queue
  jobs : t.counts.jobs ≡ s.counts.jobs
  bytes : t.counts.bytes + sent_count s.mails.sent ≡ s.counts.bytes + sent_count t.mails.sent

quiet_by : (s t u : PoolState) → t ≡ u → Quiet s u → Quiet s t
quiet_by s t u is quiet = subst (λ (x : PoolState). Quiet s x) (sym is) quiet

given_quiet : (s : PoolState) (o : Option ℕ) (v : Verb) (job : JobId) → Quiet s (gives o v job s)
given_quiet s None v job = record { queue = refl; jobs = refl; bytes = refl }
given_quiet s (Some place) v job = record {
  queue = refl;
  jobs = refl;
  bytes = sent_none s.counts.bytes s.mails.sent _ (let none = order_count v job in omega (arith, none));
}

startd_quiet : (s t : PoolState) (r : Stepped) (machine : ℕ) (o : Option StartdValue) (does : StartdValue → After) (ends : StartdValue → List EndReport) → IsSomeAnd o (λ v. IsStartdStep machine (does v) (ends v) s t r) → Quiet s t
startd_quiet s t r machine None does ends h = absurd h
startd_quiet s t r machine (Some v) does ends h = quiet_by s t (startd_acts machine (does v).startd (does v).step (ends v) s) h.pool
    (record { queue = refl; jobs = refl; bytes = sent_more s.counts.bytes s.mails.sent (does v).step.mails })

received_quiet : (s t : PoolState) (index : ℕ) → Quiet s t → Quiet s (receives index t)
received_quiet s t index quiet = record {
  queue = quiet.queue;
  jobs = quiet.jobs;
  bytes = (let same = received_count index t.mails.sent in let was = quiet.bytes in omega (arith, same, was));
}

mailed_quiet : (s t : PoolState) (r : Stepped) (machine index : ℕ) (o : Option StartdValue) (does : StartdValue → After) → IsSomeAnd o (λ v. IsReceivedStep machine index (does v) s t r) → Quiet s t
mailed_quiet s t r machine index None does h = absurd h
mailed_quiet s t r machine index (Some v) does h = quiet_by s t (receives index (startd_acts machine (does v).startd (does v).step [] s)) h.pool
    (received_quiet s (startd_acts machine (does v).startd (does v).step [] s) index
    (record { queue = refl; jobs = refl; bytes = sent_more s.counts.bytes s.mails.sent (does v).step.mails }))

same_quiet : (s : PoolState) → Quiet s s
same_quiet s = record { queue = refl; jobs = refl; bytes = refl }

receipt_quiet : (s : PoolState) (index : ℕ) (m : Mail) (known : Bool) (a : ScheddAfter) → Quiet s (after_receipt_of index m known a s)
receipt_quiet s index m known a = received_quiet s (schedd_acts a.schedd a.step (ordered_by m known) s) index
    (record { queue = refl; jobs = refl; bytes = sent_more s.counts.bytes s.mails.sent a.step.mails })

heard_quiet : (who : Daemon) (index reading : ℕ) (judged : Option Judgement) (s t : PoolState) (r : Stepped) (o : Option Sent) → IsSomeAnd o (λ sent. Receives who index sent.mail reading judged s t r) → Quiet s t
heard_quiet who index reading judged s t r None h = absurd h
heard_quiet Schedd index reading judged s t r (Some sent) h = quiet_by s t _ h.pool
    (receipt_quiet s index sent.mail (is_known sent.mail s) (schedd_after s.schedd s.queue sent.mail reading))
heard_quiet (Startd machine) index reading judged s t r (Some sent) h = mailed_quiet s t r machine index (slice_get s.machines machine) (λ v. after_mail v sent.mail judged reading) h
heard_quiet Matchmaker index reading judged s t r (Some sent) h = quiet_by s t (receives index s) h.0 (received_quiet s s index (same_quiet s))

ticked_quiet : (who : Daemon) (reading : ℕ) (s t : PoolState) (r : Stepped) → Ticks who reading s t r → Quiet s t
ticked_quiet Schedd reading s t r h = quiet_by s t (schedd_acts h.schedd h.step [] s) h.pool (record { queue = refl; jobs = refl; bytes = sent_more s.counts.bytes s.mails.sent h.step.mails })
ticked_quiet (Startd machine) reading s t r h = startd_quiet s t r machine (slice_get s.machines machine) (λ v. after_tick v reading) (λ v. []) h
ticked_quiet Matchmaker reading s t r h = quiet_by s t s h.0 (same_quiet s)

-- ---- what is counted then
record Counts (s t : PoolState) : Type 0 where
  jobs : IsJobCount t.queue t.counts.jobs
  bytes : t.counts.bytes + held_count s ≡ s.counts.bytes + held_count t

quiet_counts : (s t : PoolState) → IsCounted s → Quiet s t → Counts s t
quiet_counts s t counted quiet = record {
  jobs = subst (λ n. IsJobCount t.queue n) (sym quiet.jobs) (subst (λ q. IsJobCount q s.counts.jobs) (sym quiet.queue) counted.jobs);
  bytes = (let same = ap queue_count quiet.queue in let bytes = quiet.bytes in omega (arith, same, bytes));
}

-- what was unfinished is logged
record Logs (s t : PoolState) (q : KeyedAds) (what : Unfinished) : Type 0 where
  queue : t.queue ≡ q
  jobs : t.counts.jobs ≡ jobs_after what s.counts.jobs
  bytes : t.counts.bytes + sent_count s.mails.sent ≡ s.counts.bytes + queue_count q - queue_count s.queue + sent_count t.mails.sent

unfinished_logs : (s : PoolState) (q : KeyedAds) (leaver : Leaver) (what : Unfinished) → Logs s (after_unfinished q leaver what s) q what
unfinished_logs s q leaver (Submission cluster count) = record { queue = refl; jobs = refl; bytes = refl }
unfinished_logs s q leaver (Plan pl) = record {
  queue = refl;
  jobs = refl;
  bytes = sent_more (s.counts.bytes + queue_count q - queue_count s.queue) s.mails.sent _;
}

logs_by : (s t u : PoolState) (q : KeyedAds) (what : Unfinished) → t ≡ u → Logs s u q what → Logs s t q what
logs_by s t u q what is logs = subst (λ (x : PoolState). Logs s x q what) (sym is) logs

-- ---- each event
module _ (read : List ℕ → Option ClaimId) (reads : IsReader read) (p : Protocol) (s : PoolState) (kept : IsKept p s) (counted : IsCounted s) where
  logs_count : (tx : List Operation) (what : Unfinished) (q : KeyedAds) (t : PoolState) → awaited_of s.pending ≡ Some (awaited_by tx what) → IsTxOf what tx → queue_after s.queue tx ≡ Ok q → Logs s t q what → Counts s t
  logs_count tx what q t awaited of h logs = record {
    jobs = subst (λ n. IsJobCount t.queue n) (sym logs.jobs)
        (subst (λ x. IsJobCount x (jobs_after what s.counts.jobs)) (sym logs.queue) (jobs_logged p s kept tx what q s.counts.jobs awaited of h counted.jobs));
    bytes = (let same = ap queue_count logs.queue in let bytes = logs.bytes in let enough = counted.bytes in omega (arith, same, bytes, enough));
  }

  logged_counts : (o : Option Pending) (t : PoolState) (r : Stepped) → s.pending ≡ o → IsPendingTx o → IsSomeAnd o (λ x. IsLogged s x t r) → Counts s t
  logged_counts None t r is tx does = absurd does
  logged_counts (Some x) t r is tx does =
      logs_count x.tx x.what does.queue t (ap awaited_of is) tx does.done
      (logs_by s t (after_unfinished does.queue (leaver_of read s.queue x.what) x.what s) does.queue x.what (does.pool read reads) (unfinished_logs s does.queue (leaver_of read s.queue x.what) x.what))

  with_counts : (o : Option Pending) (t : PoolState) (reading : ℕ) → s.pending ≡ o → IsPendingTx o → IsSomeAnd o (λ x. IsBackWith s x reading t) → Counts s t
  with_counts None t reading is tx does = absurd does
  with_counts (Some x) t reading is tx does =
      logs_count x.tx x.what does.queue t (ap awaited_of is) tx does.done
      (logs_by s t _ does.queue x.what (does.pool read reads) (record { queue = refl; jobs = refl; bytes = refl }))

  quiet : (t : PoolState) → Quiet s t → Counts s t
  quiet t h = quiet_counts s t counted h

  back_counts : (kept_tx : Bool) (t : PoolState) (reading : ℕ) → ScheddIsBack s kept_tx reading t → Counts s t
  back_counts false t reading does = quiet t (quiet_by s t _ does.pool (record { queue = refl; jobs = refl; bytes = refl }))
  back_counts true t reading does = with_counts s.pending t reading refl kept.pending does

  comes_counts : (who : Daemon) (kept_tx : Bool) (reading : ℕ) (b : PoolState) (r : Stepped) → ComesBack who kept_tx reading s b r → Counts s b
  comes_counts Schedd kept_tx reading b r h = back_counts kept_tx b reading h.0
  comes_counts (Startd machine) kept_tx reading b r h = quiet b (startd_quiet s b r machine (slice_get s.machines machine) (λ v. after_reboot v reading) (λ v. []) h)
  comes_counts Matchmaker kept_tx reading b r h = quiet b (quiet_by s b s h.0 (same_quiet s))

  -- but for how the daemons are
  booted_counts : (b t : PoolState) → t.queue ≡ b.queue → t.counts ≡ b.counts → t.mails ≡ b.mails → Counts s b → Counts s t
  booted_counts b t queue counts mails was = record {
    jobs = subst (λ (c : Counters). IsJobCount t.queue c.jobs) (sym counts) (subst (λ q. IsJobCount q b.counts.jobs) (sym queue) was.jobs);
    bytes = (let bytes = was.bytes in let one = ap (λ (c : Counters). c.bytes) counts in let two = ap queue_count queue in let three = ap (λ (m : MailsValue). sent_count m.sent) mails in omega (arith, bytes, one, two, three));
  }

  happens_counts : (e : Event) (t : PoolState) (r : Stepped) → Happens e s t r → Counts s t
  unfolding Happens
  happens_counts (event.Submit boot jobs reading) t r h = quiet t (quiet_by s t _ h.pool (record { queue = refl; jobs = refl; bytes = refl }))
  happens_counts (event.Order v job reading) t r h = quiet t (quiet_by s t (gives (position (is_due_for v job reading) s.orders) v job s) h.0 (given_quiet s (position (is_due_for v job reading) s.orders) v job))
  happens_counts (event.Receive who boot index reading judged mismatch) t r h = quiet t (heard_quiet who index reading judged s t r (slice_get s.mails.sent index) h)
  happens_counts (event.Tick who boot reading) t r h = quiet t (ticked_quiet who reading s t r h)
  happens_counts (event.Check boot job reading) t r h = quiet t (quiet_by s t _ h.pool (record { queue = refl; jobs = refl; bytes = sent_more s.counts.bytes s.mails.sent _ }))
  happens_counts (event.Logged boot receipt) t r h = logged_counts s.pending t r refl kept.pending h
  happens_counts (event.Ended machine boot receipt reading) t r h = quiet t
      (startd_quiet s t r machine (slice_get s.machines machine) (λ v. after_end v receipt.item reading) (λ v. ends_after receipt.item.run v (after_end v receipt.item reading)) h)
  happens_counts (event.Crash who) t r h = quiet t (quiet_by s t (crashes who s) h.0 (record { queue = refl; jobs = refl; bytes = refl }))
  happens_counts (event.Reopen who kept_tx ended reading) t r h =
      booted_counts h.back t (ap (λ (x : PoolState). x.queue) h.pool) (ap (λ (x : PoolState). x.counts) h.pool) (ap (λ (x : PoolState). x.mails) h.pool)
      (comes_counts who (is_some kept_tx) reading h.back r h.comes)
  happens_counts (event.Matches list judged reading) t r h = quiet t (quiet_by s t (passes h.live s) h.pool
      (record { queue = refl; jobs = refl; bytes = sent_none s.counts.bytes s.mails.sent (mails_of_matches h.live) (matches_count h.live) }))
  happens_counts (event.Close length reading mismatch) t r h = quiet t (quiet_by s t _ h.0 (record { queue = refl; jobs = refl; bytes = refl }))

-- ---- with what the event brings
brought_kept : (p : Protocol) (e : Event) (s : PoolState) → IsKept p s → IsKept p (counts_brought e s)
brought_kept p e s kept = record {
  linked = kept.linked;
  pending = kept.pending;
  addressed = kept.addressed;
  passed = kept.passed;
  boots = kept.boots;
}

brought_counted : (e : Event) (s : PoolState) → IsCounted s → IsCounted (counts_brought e s)
brought_counted e s counted = record {
  jobs = counted.jobs;
  bytes = (let enough = counted.bytes in omega (arith, enough));
}

module _ (read : List ℕ → Option ClaimId) (reads : IsReader read) (p : Protocol) (s new : PoolState) (e : Event) (r : Stepped) (kept : IsKept p s) (counted : IsCounted s) (reacts : Reacts s e r new) where
  counts : Counts (counts_brought e s) reacts.then_pool
  counts = happens_counts read reads p (counts_brought e s) (brought_kept p e s kept) (brought_counted e s counted) e reacts.then_pool r reacts.happens

  pub event_counts : CountsBytes e s new
  event_counts = subst (λ (x : PoolState). CountsBytes e s x) (sym reacts.pool) counts.bytes

  pub event_counted : IsCounted new
  event_counted = subst (λ (x : PoolState). IsCounted x) (sym reacts.pool) (record {
    jobs = counts.jobs;
    bytes = (let bytes = counts.bytes in let enough = counted.bytes in omega (arith, bytes, enough));
  })

-- ---- the opening
pub opening_counted : (o : Opening) (s : PoolState) → IsOpenedBy o s → IsCounted s
opening_counted o s opened = record {
  jobs = subst (λ q. IsJobCount q s.counts.jobs) (sym opened.queue) (s.acked, opened.acked, opened.jobs);
  bytes = (let same = ap queue_count opened.queue in let none = ap sent_count opened.mails.none in let bytes = opened.bytes in omega (arith, same, none, bytes));
}
