-- Pieces of a text, one after the other.
use Rattle.std.proofs.Common.{◌≡◌, ℕ, List, [], ◌∷◌, ◌++◌, Option, Some, None, IfSome, decimal, refl, ap, sym, ◌∙◌, append_assoc}
use Rattle.claim_id.specs.declared.numbers.ClaimId.{ClaimId}
use Rattle.claim_id.specs.declared.numbers.ClaimNo.{ClaimNo}
use Rattle.claim_id.specs.declared.numbers.JobId.{JobId}
use Rattle.claim_id.specs.declared.numbers.SlotId.{SlotId}
use Rattle.claim_id.specs.Texts.{claim_no_text, claim_text, job_text, secret_text, slot_text}

-- what holds of the value that there is, if there is one
pub IfSome-from_each : {A : Type 0} (P : A → Type 0) (found : Option A) → ((a : A) → found ≡ Some a → P a) → IfSome found P
IfSome-from_each P None each = tt
IfSome-from_each P (Some a) each = each a refl

-- two answers to one question
pub same_value : {A : Type 0} {answer : Option A} (a b : A) → answer ≡ Some a → answer ≡ Some b → a ≡ b
same_value a b first second = let same = sym first ∙ second in cc

pub no_value : {A : Type 0} {answer : Option A} (b : A) → answer ≡ None → answer ≡ Some b → ⊥
no_value b first second = let same = sym first ∙ second in cc

-- what follows one byte
pub same_rest : (b : ℕ) (xs ys : List ℕ) → b ∷ xs ≡ b ∷ ys → xs ≡ ys
same_rest b xs ys same = cc

-- a job's text, and a slot's, a claim's number and a claim's with what follows, piece by piece
pub job_text-pieces : (job : JobId) → job_text job ≡ decimal job.cluster ++ 46 ∷ decimal job.proc
unfolding job_text
job_text-pieces job = append_assoc (decimal job.cluster) (46 ∷ []) (decimal job.proc)

pub slot_text-pieces : (s : SlotId) (rest : List ℕ) → slot_text s ++ rest ≡ 60 ∷ (decimal s.machine ++ 58 ∷ (decimal s.slot ++ 62 ∷ rest))
unfolding slot_text
slot_text-pieces s rest = simp append_assoc

pub job_text-from_pieces : (job : JobId) (text rest : List ℕ) (cluster proc : ℕ) → text ≡ decimal cluster ++ 46 ∷ rest → rest ≡ decimal proc → cluster ≡ job.cluster → proc ≡ job.proc → text ≡ job_text job
job_text-from_pieces job text rest cluster proc first second a b = cc (job_text-pieces job)

pub slot_text-from_pieces : (s : SlotId) (text one two rest : List ℕ) (machine slot : ℕ) → text ≡ 60 ∷ one → one ≡ decimal machine ++ 58 ∷ two → two ≡ decimal slot ++ 62 ∷ rest → machine ≡ s.machine → slot ≡ s.slot → text ≡ slot_text s ++ rest
slot_text-from_pieces s text one two rest machine slot first second third a b = cc (slot_text-pieces s rest)

pub claim_text-pieces : (c : ClaimId) → claim_text c ≡ 60 ∷ (decimal c.no.slot.machine ++ 58 ∷ (decimal c.no.slot.slot ++ 62 ∷ 35 ∷ (decimal c.no.boot ++ 35 ∷ (decimal c.no.seq ++ 35 ∷ secret_text c.secret))))
unfolding claim_text claim_no_text slot_text
claim_text-pieces c = simp append_assoc

pub claim_no_text-pieces : (c : ClaimNo) (rest : List ℕ) → claim_no_text c ++ 35 ∷ rest ≡ slot_text c.slot ++ 35 ∷ (decimal c.boot ++ 35 ∷ (decimal c.seq ++ 35 ∷ rest))
unfolding claim_no_text
claim_no_text-pieces c rest = simp append_assoc

-- a claim's number, by its parts
abbrev claim_no_of : SlotId → ℕ → ℕ → ClaimNo
claim_no_of slot boot seq = record { slot = slot; boot = boot; seq = seq }

pub same_claim_no : (c : ClaimNo) (slot : SlotId) (boot seq : ℕ) → slot ≡ c.slot → boot ≡ c.boot → seq ≡ c.seq → claim_no_of slot boot seq ≡ c
same_claim_no c slot boot seq same_slot same_boot same_seq =
    ap (λ s. claim_no_of s boot seq) same_slot
    ∙ ap (λ b. claim_no_of c.slot b seq) same_boot
    ∙ ap (claim_no_of c.slot c.boot) same_seq
