-- Names that leave alone what the pool looks at in a submitted job's ad.
use Rattle.std.proofs.Common.{◌≡◌, ℕ, Bool, true, false, true≢false, cond, List, [], ◌∷◌, ◌&&◌, ◌||◌, not, Option, Some, None, Ok, Err, refl, ap, subst}
use Rattle.std.specs.Prelude.{slice_index, ◌==◌, codes, length, drop, nat_eq}
use Rattle.ad_value.specs.Bytes.{code}
use Rattle.ad_value.specs.Names.{same_name}
use Rattle.ad_value.specs.declared.names.job.TheConstants.{CLUSTER_ID, PROC_ID, OWNER, Q_DATE, JOB_STATUS, JOB_UNIVERSE, ARGS, ARGUMENTS}
use Rattle.ad_value.specs.declared.names.pool.TheConstants.{RUN_CLAIM, RUN_NUMBER, LEASE_UNTIL}
use Rattle.ad_token.specs.Blanks.{trimmed_text}
use Rattle.ad_token.specs.Names.{is_name, word_of}
use Rattle.ad_tree.proofs.AdLemmas.{other_way}
use Rattle.submit_lines.specs.declared.line.LineFault.{LineFault}
use Rattle.submit_lines.specs.declared.line.LineFault.TheVariants as fault
use Rattle.submit_lines.specs.Lines as meaning
use Rattle.submit_lines.specs.Lines.{LineResult, line_of, plus_line, plus_with, attribute_line, plain_line, named_with, word_line, value_of, ends_at}
use Rattle.submit_lines.specs.Names.{is_reserved, is_unsupported, macro_name, after_name, past_my}
use Rattle.submit_file.specs.declared.setting.Setting.{Setting}
use Rattle.submit_file.specs.Settings.{with_setting}
use Rattle.submit_lines.specs.declared.command.Command.{Command}
use Rattle.submit_lines.specs.declared.command.Command.TheVariants as submit
use Rattle.submit_lines.specs.Commands.{attribute_name}

-- the attribute is none that a submitted ad must have as it is, or must not have
pub record IsFree (x : List ℕ) : Type 0 where
  pub cluster : same_name CLUSTER_ID.now x ≡ false
  pub proc : same_name PROC_ID.now x ≡ false
  pub status : same_name JOB_STATUS.now x ≡ false
  pub claim : same_name RUN_CLAIM.now x ≡ false
  pub number : same_name RUN_NUMBER.now x ≡ false
  pub lease : same_name LEASE_UNTIL.now x ≡ false
  pub name : is_name x ≡ true

-- ---- the names that are constants

pub free_owner : IsFree OWNER.now
unfolding is_name word_of
free_owner = record { cluster = refl; proc = refl; status = refl; claim = refl; number = refl; lease = refl; name = refl }

pub free_date : IsFree Q_DATE.now
unfolding is_name word_of
free_date = record { cluster = refl; proc = refl; status = refl; claim = refl; number = refl; lease = refl; name = refl }

pub free_universe : IsFree JOB_UNIVERSE.now
unfolding is_name word_of
free_universe = record { cluster = refl; proc = refl; status = refl; claim = refl; number = refl; lease = refl; name = refl }

pub cluster_is_name : is_name CLUSTER_ID.now ≡ true
unfolding is_name word_of
cluster_is_name = refl

pub proc_is_name : is_name PROC_ID.now ≡ true
unfolding is_name word_of
proc_is_name = refl

pub status_is_name : is_name JOB_STATUS.now ≡ true
unfolding is_name word_of
status_is_name = refl

free_arguments : (b : Bool) → IsFree (cond b ARGUMENTS.now ARGS.now)
unfolding is_name word_of
free_arguments true = record { cluster = refl; proc = refl; status = refl; claim = refl; number = refl; lease = refl; name = refl }
free_arguments false = record { cluster = refl; proc = refl; status = refl; claim = refl; number = refl; lease = refl; name = refl }

-- the universe sets no attribute
abbrev pub SetsAttribute : Command → Type 0
SetsAttribute submit.Universe = ⊥
SetsAttribute _ = Unit {0}

pub free_command : (c : Command) (x : List ℕ) → SetsAttribute c → IsFree (attribute_name c x)
unfolding is_name word_of
free_command submit.Executable x is = record { cluster = refl; proc = refl; status = refl; claim = refl; number = refl; lease = refl; name = refl }
free_command submit.Arguments x is = free_arguments (slice_index x 0 == code "\"")
free_command submit.Universe x is = absurd is
free_command submit.InitialDir x is = record { cluster = refl; proc = refl; status = refl; claim = refl; number = refl; lease = refl; name = refl }
free_command submit.Input x is = record { cluster = refl; proc = refl; status = refl; claim = refl; number = refl; lease = refl; name = refl }
free_command submit.Output x is = record { cluster = refl; proc = refl; status = refl; claim = refl; number = refl; lease = refl; name = refl }
free_command submit.Error x is = record { cluster = refl; proc = refl; status = refl; claim = refl; number = refl; lease = refl; name = refl }
free_command submit.Log x is = record { cluster = refl; proc = refl; status = refl; claim = refl; number = refl; lease = refl; name = refl }
free_command submit.Priority x is = record { cluster = refl; proc = refl; status = refl; claim = refl; number = refl; lease = refl; name = refl }
free_command submit.Requirements x is = record { cluster = refl; proc = refl; status = refl; claim = refl; number = refl; lease = refl; name = refl }
free_command submit.Rank x is = record { cluster = refl; proc = refl; status = refl; claim = refl; number = refl; lease = refl; name = refl }
free_command submit.RequestCpus x is = record { cluster = refl; proc = refl; status = refl; claim = refl; number = refl; lease = refl; name = refl }
free_command submit.RequestMemory x is = record { cluster = refl; proc = refl; status = refl; claim = refl; number = refl; lease = refl; name = refl }
free_command submit.RequestDisk x is = record { cluster = refl; proc = refl; status = refl; claim = refl; number = refl; lease = refl; name = refl }
free_command submit.JobLeaseDuration x is = record { cluster = refl; proc = refl; status = refl; claim = refl; number = refl; lease = refl; name = refl }
free_command submit.OnExitHold x is = record { cluster = refl; proc = refl; status = refl; claim = refl; number = refl; lease = refl; name = refl }
free_command submit.OnExitRemove x is = record { cluster = refl; proc = refl; status = refl; claim = refl; number = refl; lease = refl; name = refl }
free_command submit.PeriodicHold x is = record { cluster = refl; proc = refl; status = refl; claim = refl; number = refl; lease = refl; name = refl }
free_command submit.PeriodicRemove x is = record { cluster = refl; proc = refl; status = refl; claim = refl; number = refl; lease = refl; name = refl }
free_command submit.PeriodicRelease x is = record { cluster = refl; proc = refl; status = refl; claim = refl; number = refl; lease = refl; name = refl }

-- ---- the names of attributes' own lines

none_of_both : (a b : Bool) → (a || b) ≡ false → (a ≡ false) × (b ≡ false)
none_of_both true b e = absurd (true≢false e)
none_of_both false b e = (refl, e)

free_from : (x : List ℕ) → is_name x ≡ true → is_reserved x ≡ false → IsFree x
unfolding is_reserved
free_from x named e =
    let a = none_of_both (same_name x CLUSTER_ID.now) _ e in
    let b = none_of_both (same_name x PROC_ID.now) _ a.1 in
    let c = none_of_both (same_name x OWNER.now) _ b.1 in
    let d = none_of_both (same_name x Q_DATE.now) _ c.1 in
    let f = none_of_both (same_name x JOB_STATUS.now) _ d.1 in
    let g = none_of_both (same_name x RUN_CLAIM.now) _ f.1 in
    let h = none_of_both (same_name x RUN_NUMBER.now) _ g.1 in
    let i = none_of_both (same_name x LEASE_UNTIL.now) false h.1 in
    record {
      cluster = other_way x CLUSTER_ID.now a.0;
      proc = other_way x PROC_ID.now b.0;
      status = other_way x JOB_STATUS.now f.0;
      claim = other_way x RUN_CLAIM.now g.0;
      number = other_way x RUN_NUMBER.now h.0;
      lease = other_way x LEASE_UNTIL.now i.0;
      name = named;
    }

abbrev name_in : LineResult → List ℕ
name_in (Ok (meaning.setting x v)) = x
name_in (Ok (meaning.attribute x v)) = x
name_in (Ok (meaning.queue q)) = q
name_in (Err g) = []

-- an attribute's own line has a free name
abbrev Frees : LineResult → Type 0
Frees r = (x v : List ℕ) → r ≡ Ok (meaning.attribute x v) → IsFree x

frees_fault : (g : LineFault) → Frees (Err g)
frees_fault g x v e = absurd (no e)
  where
    no : Err g ≡ Ok (meaning.attribute x v) → ⊥
    no e = cc

frees_setting : (y w : List ℕ) → Frees (Ok (meaning.setting y w))
frees_setting y w x v e = absurd (no (Ok (meaning.setting y w)) refl e)
  where
    no : (r : LineResult) → r ≡ Ok (meaning.setting y w) → r ≡ Ok (meaning.attribute x v) → ⊥
    no r e f = cc

frees_queue : (q : List ℕ) → Frees (Ok (meaning.queue q))
frees_queue q x v e = absurd (no (Ok (meaning.queue q)) refl e)
  where
    no : (r : LineResult) → r ≡ Ok (meaning.queue q) → r ≡ Ok (meaning.attribute x v) → ⊥
    no r e f = cc

frees_either : (b : Bool) (r s : LineResult) → Frees r → Frees s → Frees (cond b r s)
frees_either true r s h k = h
frees_either false r s h k = k

frees_attribute : (y w : List ℕ) → Frees (attribute_line y w)
frees_attribute y w = by (is_name y) (is_reserved y) refl refl
  where
    by : (a b : Bool) → is_name y ≡ a → is_reserved y ≡ b → Frees (cond (a && not b) (Ok (meaning.attribute y w)) (Err fault.Bad))
    by true true e f = frees_fault fault.Bad
    by true false e f = λ x v g. subst IsFree (ap name_in g) (free_from y e f)
    by false b e f = frees_fault fault.Bad

frees_plus : (y : List ℕ) (o : Option (List ℕ)) → Frees (plus_with y o)
frees_plus y None = frees_fault fault.Bad
frees_plus y (Some w) = frees_attribute y w

frees_plain : (y w : List ℕ) → Frees (plain_line y w)
frees_plain y w =
    frees_either (nat_eq (length y) 0) (Err fault.Bad) _ (frees_fault fault.Bad)
    (frees_either (is_unsupported y) (Err fault.Unsupported) (Ok (meaning.setting y w)) (frees_fault fault.Unsupported) (frees_setting y w))

frees_named : (o : Option (List ℕ)) (y w : List ℕ) → Frees (named_with o y w)
frees_named None y w = frees_plain y w
frees_named (Some own) y w = frees_attribute own w

frees_word : (t y : List ℕ) (o : Option (List ℕ)) → Frees (word_line t y o)
frees_word t y None = frees_either (same_name y (codes "queue") && ends_at (length y) t) (Ok (meaning.queue t)) (Err fault.Bad) (frees_queue t) (frees_fault fault.Bad)
frees_word t y (Some w) = frees_named (past_my y) y w

pub frees_line : (t : List ℕ) → Frees (line_of t)
frees_line t =
    let bs = trimmed_text t in
    frees_either (slice_index bs 0 == code "+") (plus_line (drop 1 bs)) (word_line bs (macro_name bs) (value_of (after_name bs)))
    (frees_plus (macro_name (drop 1 bs)) (value_of (after_name (drop 1 bs)))) (frees_word bs (macro_name bs) (value_of (after_name bs)))

-- ---- what the lines of attributes have set

abbrev pub AllFree : List Setting → Type 0
AllFree [] = Unit {0}
AllFree (s ∷ ss) = IsFree s.name × AllFree ss

pub all_free_with : (x v : List ℕ) (n : ℕ) (ss : List Setting) → IsFree x → AllFree ss → AllFree (with_setting x v n ss)
all_free_with x v n [] free all = (free, tt)
all_free_with x v n (s ∷ ss) free all = by (same_name s.name x) (all_free_with x v n ss free all.1)
  where
    by : (b : Bool) → AllFree (with_setting x v n ss) → AllFree (cond b (record { name = s.name; value = v; line = n } ∷ ss) (s ∷ with_setting x v n ss))
    by true more = all
    by false more = (all.0, more)
