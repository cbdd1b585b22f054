-- The texts of keys: `0.0` of the header, `C.P` of a proc.
use Rattle.std.specs.Prelude.{◌≡◌, ℕ, ◌==◌, ◌&&◌, ◌^◌, not, nat_lt, Bool, List, take, drop, codes, Option, Some, None, if◌then◌else◌}
use Rattle.std.specs.List.{prefix_len}
use Rattle.std.specs.Str.{bytes_eq}
use Rattle.std.specs.Str.Parse.{digits_value}
use Rattle.ad_value.specs.Bytes.{code}
use Rattle.claim_id.specs.declared.numbers.JobId.{JobId}
use Rattle.claim_id.specs.Texts.{job_text}
use Rattle.queue_tx.specs.declared.key.Key.{Key}
use Rattle.queue_tx.specs.declared.key.Key.TheVariants.{Header, Proc}
use Rattle.queue_tx.specs.Printable.{IsPrintableKey}

abbrev pub key_text : Key → List ℕ
key_text Header = codes "0.0"
key_text (Proc job) = job_text job

-- a key in its range, and its text
abbrev pub IsKeyWord : List ℕ → Key → Type 0
IsKeyWord word key = IsPrintableKey key × (word ≡ key_text key)

-- ---- the same as a function

-- how many bytes stand before the point
abbrev pub before_point : List ℕ → ℕ
before_point word = prefix_len (λ b. not (b == code ".")) word

-- the only job whose text a word can be
abbrev pub job_in : List ℕ → JobId
job_in word = record {
  cluster = digits_value 10 (take (before_point word) word);
  proc = digits_value 10 (drop 1 (drop (before_point word) word));
}

abbrev pub has_job : JobId → Bool
has_job job = nat_lt 0 job.cluster && (nat_lt job.cluster (2 ^ 32) && nat_lt job.proc (2 ^ 32))

abbrev pub job_at : List ℕ → Option Key
job_at word =
    if has_job (job_in word) && bytes_eq word (job_text (job_in word))
    then Some (Proc (job_in word))
    else None

-- the key that a word is
unfoldable pub key_at : List ℕ → Option Key
key_at word = if bytes_eq word (codes "0.0") then Some Header else job_at word
