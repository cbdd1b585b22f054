-- A text is that of one job, and of one claim.
use Rattle.std.proofs.Common.{◌≡◌, ◌≢◌, ℕ, ◌<◌, ◌^◌, ◌⊎◌, List, [], ◌∷◌, ◌++◌, length, get_or, decimal, suc, refl, sym, ◌∙◌, ap, inl, inr, arith}
use Rattle.std.specs.Int.{w64, to_be_bytes, from_be_bytes}
use Rattle.std.proofs.lemmas.Fmt.{decimal_injective}
use Rattle.std.proofs.lemmas.Nat.{from_be_bytes-to_be_bytes_8}
use Rattle.hex.specs.Hex.{decode_sized}
use Rattle.claim_id.specs.declared.numbers.ClaimId.{ClaimId}
use Rattle.claim_id.specs.declared.numbers.JobId.{JobId}
use Rattle.claim_id.specs.Texts.{claim_text, job_text, secret_text, IsClaim, IsJob}
use Rattle.claim_id.proofs.Numerals.{no_mark_in}
use Rattle.claim_id.proofs.Pieces.{same_rest, claim_text-pieces, job_text-pieces}
use Rattle.claim_id.proofs.Secrets.{decode-secret}

-- two lists without a mark, each before a mark
cut_at_mark : (mark : ℕ) (ds es xs ys : List ℕ) → ((i : ℕ) → i < length ds → get_or ds i 0 ≢ mark) → ((i : ℕ) → i < length es → get_or es i 0 ≢ mark) → ds ++ mark ∷ xs ≡ es ++ mark ∷ ys → (ds ≡ es) × (xs ≡ ys)
cut_at_mark mark [] [] xs ys ds_without es_without same = (refl, same_rest mark xs ys same)
cut_at_mark mark [] (e ∷ es) xs ys ds_without es_without same = let here : e ≡ mark = cc in absurd (es_without 0 (omega arith) here)
cut_at_mark mark (d ∷ ds) [] xs ys ds_without es_without same = let here : d ≡ mark = cc in absurd (ds_without 0 (omega arith) here)
cut_at_mark mark (d ∷ ds) (e ∷ es) xs ys ds_without es_without same =
    let first : d ≡ e = cc in
    let rest : ds ++ mark ∷ xs ≡ es ++ mark ∷ ys = cc in
    let both = cut_at_mark mark ds es xs ys (λ i inside. ds_without (suc i) (omega arith)) (λ i inside. es_without (suc i) (omega arith)) rest in
    (cc (both.0), both.1)

-- two numbers, each before a mark
cut_number_at : (mark m n : ℕ) (xs ys : List ℕ) → (mark < 48) ⊎ (57 < mark) → m < 2 ^ 64 → n < 2 ^ 64 → decimal m ++ mark ∷ xs ≡ decimal n ++ mark ∷ ys → (m ≡ n) × (xs ≡ ys)
cut_number_at mark m n xs ys outside m_small n_small same =
    let both = cut_at_mark mark (decimal m) (decimal n) xs ys (no_mark_in mark m m_small outside) (no_mark_in mark n n_small outside) same in
    (decimal_injective m n m_small n_small both.0, both.1)

one_secret : (m n : ℕ) → m < 2 ^ 64 → n < 2 ^ 64 → secret_text m ≡ secret_text n → m ≡ n
one_secret m n m_small n_small same =
    let read = sym (decode-secret m) ∙ ap (λ (text : List ℕ). decode_sized text 8) same ∙ decode-secret n in
    let bytes : to_be_bytes w64 m ≡ to_be_bytes w64 n = cc in
    sym (from_be_bytes-to_be_bytes_8 m m_small) ∙ ap (from_be_bytes w64) bytes ∙ from_be_bytes-to_be_bytes_8 n n_small

same_job : (one other : JobId) → one.cluster ≡ other.cluster → one.proc ≡ other.proc → one ≡ other
same_job one other cluster proc = λ i. record { cluster = cluster i; proc = proc i }

same_claim : (one other : ClaimId) → one.no.slot.machine ≡ other.no.slot.machine → one.no.slot.slot ≡ other.no.slot.slot → one.no.boot ≡ other.no.boot → one.no.seq ≡ other.no.seq → one.secret ≡ other.secret → one ≡ other
same_claim one other machine slot boot seq secret = λ i. record { no = record { slot = record { machine = machine i; slot = slot i }; boot = boot i; seq = seq i }; secret = secret i }

pub one_job : (one other : JobId) → IsJob one → IsJob other → job_text one ≡ job_text other → one ≡ other
one_job one other is_one is_other same =
    let text = sym (job_text-pieces one) ∙ same ∙ job_text-pieces other in
    let both = cut_number_at 46 one.cluster other.cluster (decimal one.proc) (decimal other.proc) (inl (omega arith)) (let h = is_one.cluster_to in omega arith) (let h = is_other.cluster_to in omega arith) text in
    same_job one other both.0 (decimal_injective one.proc other.proc (let h = is_one.proc_to in omega arith) (let h = is_other.proc_to in omega arith) both.1)

pub one_claim : (one other : ClaimId) → IsClaim one → IsClaim other → claim_text one ≡ claim_text other → one ≡ other
one_claim one other is_one is_other same =
    let one_no = is_one.no_is in
    let other_no = is_other.no_is in
    let one_slot = one_no.slot_is in
    let other_slot = other_no.slot_is in
    let text = same_rest 60 _ _ (sym (claim_text-pieces one) ∙ same ∙ claim_text-pieces other) in
    let machine = cut_number_at 58 _ _ _ _ (inr (omega arith)) (let h = one_slot.machine_to in omega arith) (let h = other_slot.machine_to in omega arith) text in
    let slot = cut_number_at 62 _ _ _ _ (inr (omega arith)) (let h = one_slot.slot_to in omega arith) (let h = other_slot.slot_to in omega arith) machine.1 in
    let boot = cut_number_at 35 _ _ _ _ (inl (omega arith)) one_no.boot_to other_no.boot_to (same_rest 35 _ _ slot.1) in
    let seq = cut_number_at 35 _ _ _ _ (inl (omega arith)) one_no.seq_to other_no.seq_to boot.1 in
    same_claim one other machine.0 slot.0 boot.0 seq.0 (one_secret one.secret other.secret is_one.secret_to is_other.secret_to seq.1)
