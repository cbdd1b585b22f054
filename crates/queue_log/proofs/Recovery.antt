-- What a stop while a log is recovered leaves of its file.
use Rattle.std.proofs.Common.{◌≡◌, ◌⊎◌, inl, inr, ℕ, ◌≤◌, List, [], ◌∷◌, ◌++◌, length, take, None, refl, ap, sym, ◌∙◌, subst, arith}
use Rattle.pool_outer.specs.Files.{Contents, Images, Lengths, Leaves, IsImage, bytes_in}
use Rattle.pool_store.specs.Moments.{IsReached, KeepsFile, LeavesOnly}
use Rattle.pool_store.proofs.Moments.{joins, leaves_fewer, weaker}
use Rattle.queue_tx.specs.Queues.{KeyedAds}
use Rattle.queue_record.specs.ReadSoFar.{start, fed}
use Rattle.queue_log.specs.Logs.{IsUncut, LeavesOpening, StandsForOpening}
use Rattle.queue_log.specs.NewLog.{new_log_text, new_log_tx}
use Rattle.queue_log.specs.Stands.{IsSettled, Stands, StandsAs, bad_line, line_of}
use Rattle.queue_log.proofs.Readings.{one_or_none}
use Rattle.queue_log.proofs.Settled.{image_whole}

-- ---- bytes that say the same

pub same_as : (bytes image : List ℕ) → image ≡ bytes → StandsAs bytes image
same_as bytes image is = record { same_line = ap bad_line is; listed = ap (λ b. (fed start b).list) is }

pub stands_as : (bytes image : List ℕ) → (fed start bytes).refusal ≡ None → Stands (fed start bytes).list image → StandsAs bytes image
stands_as bytes image good s = record { same_line = ap line_of s.good ∙ sym (ap line_of good); listed = s.listed }

-- what a stop leaves of a file that is solid as a whole
pub solid_as : (bytes image : List ℕ) (solid reading : ℕ) → length bytes ≤ solid → IsImage solid bytes image → StandsForOpening bytes reading image
solid_as bytes image solid reading le i = inl (same_as bytes image (image_whole bytes image solid le i))

-- ---- a new log's text, and each prefix of it

begun_as : (image : List ℕ) (reading : ℕ) (queue : KeyedAds) → IsSettled (new_log_tx ∷ []) queue (new_log_text reading) → image ≡ take (length image) (new_log_text reading) → StandsForOpening [] reading image
begun_as image reading queue s front = by (one_or_none (new_log_text reading) image new_log_tx s.at_rest.good s.listed front)
  where
    by : Stands [] image ⊎ Stands (new_log_tx ∷ []) image → StandsForOpening [] reading image
    by (inl none) = inl (stands_as [] image refl none)
    by (inr one) = inr (stands_as (new_log_text reading) image s.at_rest.good (record { good = one.good; listed = one.listed ∙ sym s.listed }))

pub begun_reached : (bytes text image : List ℕ) (solid reading : ℕ) (queue : KeyedAds) → length bytes ≡ 0 → text ≡ new_log_text reading → IsSettled (new_log_tx ∷ []) queue (new_log_text reading) → IsReached solid bytes text image
    → StandsForOpening bytes reading image
begun_reached [] text image solid reading queue none is s r = begun_as image reading queue s (r.front ∙ ap (take (length image)) is)
begun_reached (b ∷ bytes) text image solid reading queue none is s r = absurd (omega arith)

-- ---- what an error leaves

pub uncut_same : (bytes new : List ℕ) (reading : ℕ) → new ≡ bytes → IsUncut bytes new reading
uncut_same [] new reading is = (0, is)
uncut_same (b ∷ bytes) new reading is = is

pub uncut_part : (bytes new text : List ℕ) (n reading : ℕ) → length bytes ≡ 0 → text ≡ new_log_text reading → new ≡ bytes ++ take n text → IsUncut bytes new reading
uncut_part [] new text n reading none text_is is = (n, is ∙ ap (take n) text_is)
uncut_part (b ∷ bytes) new text n reading none text_is is = absurd (omega arith)

-- ---- calls, one after the other

module _ {D : Type 0} (file : D → Contents) (solid : D → Lengths) (moment : D → ℕ) (left_since : D → Images) (name : List ℕ) (reading : ℕ) where
  abbrev Before : D → List ℕ → Type 0
  Before s image = Leaves (file s) (solid s) name image

  abbrev Opens : D → List ℕ → Type 0
  Opens s image = Before s image ⊎ StandsForOpening (bytes_in (file s name)) reading image

  kept_opens : (old mid : D) (image : List ℕ) → KeepsFile file solid moment left_since name old mid → Opens mid image → Opens old image
  kept_opens old mid image k (inl left) = inl (leaves_fewer (file old) (file mid) (solid old) (solid mid) name image k.same k.no_less left)
  kept_opens old mid image k (inr s) = inr (subst (λ f. StandsForOpening (bytes_in f) reading image) k.same s)

  -- calls that keep the file
  pub kept_opening : (old new : D) → KeepsFile file solid moment left_since name old new → LeavesOpening file solid moment left_since name reading old new
  kept_opening old new k = weaker moment left_since name old new (Before old) (Opens old) k.quiet (λ image left. inl left)

  -- and others behind them
  pub behind_kept : (old mid new : D) → KeepsFile file solid moment left_since name old mid → LeavesOpening file solid moment left_since name reading mid new → LeavesOpening file solid moment left_since name reading old new
  behind_kept old mid new k l =
      joins moment left_since name old mid new (Opens old) (kept_opening old mid k)
      (weaker moment left_since name mid new (Opens mid) (Opens old) l (λ image p. kept_opens old mid image k p))

  -- and a cut behind them
  pub behind_cut : (old mid new : D) → KeepsFile file solid moment left_since name old mid → LeavesOnly moment left_since name mid new (λ image. Leaves (file mid) (solid mid) name image ⊎ Leaves (file new) (solid new) name image)
      → ((image : List ℕ) → Leaves (file new) (solid new) name image → Opens old image) → LeavesOpening file solid moment left_since name reading old new
  behind_cut old mid new k l at_last =
      joins moment left_since name old mid new (Opens old) (kept_opening old mid k)
      (weaker moment left_since name mid new (λ image. Leaves (file mid) (solid mid) name image ⊎ Leaves (file new) (solid new) name image) (Opens old) l by)
    where
      by : (image : List ℕ) → Before mid image ⊎ Before new image → Opens old image
      by image (inl left) = kept_opens old mid image k (inl left)
      by image (inr left) = at_last image left

  -- a new log's text
  pub begun_opening : (old new : D) (text : List ℕ) (queue : KeyedAds) → length (bytes_in (file old name)) ≡ 0 → text ≡ new_log_text reading → IsSettled (new_log_tx ∷ []) queue (new_log_text reading)
      → LeavesOnly moment left_since name old new (IsReached (solid old name) (bytes_in (file old name)) text) → LeavesOpening file solid moment left_since name reading old new
  begun_opening old new text queue none is s l =
      weaker moment left_since name old new (IsReached (solid old name) (bytes_in (file old name)) text) (Opens old) l
      (λ image r. inr (begun_reached (bytes_in (file old name)) text image (solid old name) reading queue none is s r))

  -- where all of the file is solid before
  pub solid_opening : (old new : D) → length (bytes_in (file old name)) ≤ solid old name → LeavesOpening file solid moment left_since name reading old new
      → LeavesOnly moment left_since name old new (StandsForOpening (bytes_in (file old name)) reading)
  solid_opening old new le l = weaker moment left_since name old new (Opens old) (StandsForOpening (bytes_in (file old name)) reading) l by
    where
      by : (image : List ℕ) → Opens old image → StandsForOpening (bytes_in (file old name)) reading image
      by image (inl left) = solid_as (bytes_in (file old name)) image (solid old name) reading le left
      by image (inr s) = s
