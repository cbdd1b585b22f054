-- The texts of jobs and claims.
use Rattle.std.specs.Prelude.{ℕ, ◌<◌, ◌^◌, List, ◌++◌, codes, decimal}
use Rattle.std.specs.Int.{w64, to_be_bytes}
use Rattle.hex.specs.Hex.{encode_lower}
use Rattle.claim_id.specs.declared.numbers.ClaimId.{ClaimId}
use Rattle.claim_id.specs.declared.numbers.ClaimNo.{ClaimNo}
use Rattle.claim_id.specs.declared.numbers.JobId.{JobId}
use Rattle.claim_id.specs.declared.numbers.SlotId.{SlotId}

-- `C.P`: cluster and proc
unfoldable pub job_text : JobId → List ℕ
job_text job = decimal job.cluster ++ codes "." ++ decimal job.proc

-- `<M:S>`: machine and slot
unfoldable pub slot_text : SlotId → List ℕ
slot_text s = codes "<" ++ decimal s.machine ++ codes ":" ++ decimal s.slot ++ codes ">"

-- `<M:S>#BOOT#SEQ`
unfoldable pub claim_no_text : ClaimNo → List ℕ
claim_no_text c = slot_text c.slot ++ codes "#" ++ decimal c.boot ++ codes "#" ++ decimal c.seq

-- a number of 64 bits in 16 hexadecimal digits: two of each byte, in lower case, the highest byte
-- first
unfoldable pub secret_text : ℕ → List ℕ
secret_text secret = encode_lower (to_be_bytes w64 secret)

-- `<M:S>#BOOT#SEQ#SECRET`
unfoldable pub claim_text : ClaimId → List ℕ
claim_text claim = claim_no_text claim.no ++ codes "#" ++ secret_text claim.secret

-- a job whose numbers are in their ranges
pub record IsJob (job : JobId) : Type 0 where
  pub cluster_from : 0 < job.cluster
  pub cluster_to : job.cluster < 2 ^ 32
  pub proc_to : job.proc < 2 ^ 32

-- a slot whose numbers are in their ranges
pub record IsSlot (s : SlotId) : Type 0 where
  pub machine_to : s.machine < 2 ^ 16
  pub slot_from : 0 < s.slot
  pub slot_to : s.slot < 2 ^ 16

-- a claim's number whose parts are in their ranges
pub record IsClaimNo (c : ClaimNo) : Type 0 where
  pub slot_is : IsSlot c.slot
  pub boot_to : c.boot < 2 ^ 64
  pub seq_to : c.seq < 2 ^ 64

-- a claim whose numbers are in their ranges
pub record IsClaim (claim : ClaimId) : Type 0 where
  pub no_is : IsClaimNo claim.no
  pub secret_to : claim.secret < 2 ^ 64
