-- Some function reads the texts of claims: it gives the first of all claims with the text.
use Rattle.std.proofs.Common.{◌≡◌, ◌≢◌, ℕ, zero, suc, ◌<◌, ◌^◌, Bool, true, false, ◌&&◌, List, Option, Some, None, is_some, nat_lt, nat_eq, refl, sym, ◌∙◌, ap, subst, arith}
use Rattle.std.specs.Cmp.Lexicographic.{bytes_decides, pointwise}
use Rattle.std.proofs.lemmas.Bool.{lt-ltb, ltb-true}
use Rattle.claim_id.specs.declared.numbers.ClaimId.{ClaimId}
use Rattle.claim_id.specs.Texts.{claim_text, IsClaim}
use Rattle.claim_id.proofs.OneText.{one_claim}
use Rattle.schedd_state.specs.Reopening.{IsReader}

-- ---- the first that a search below a number finds
abbrev or_else : {A : Type 0} → Option A → Option A → Option A
or_else (Some a) other = Some a
or_else None other = other

below : {A : Type 0} → ℕ → (ℕ → Option A) → Option A
below zero f = None
below (suc n) f = or_else (f n) (below n f)

-- what it finds has what all have that it looks at
found_by : {A : Type 0} (P : A → Type 0) (o rest : Option A) → ((b : A) → o ≡ Some b → P b) → ((b : A) → rest ≡ Some b → P b)
    → (a : A) → or_else o rest ≡ Some a → P a
found_by P (Some b) rest here later a is = here a is
found_by P None rest here later a is = later a is

found : {A : Type 0} (P : A → Type 0) (n : ℕ) (f : ℕ → Option A) → ((k : ℕ) (a : A) → k < n → f k ≡ Some a → P a)
    → (a : A) → below n f ≡ Some a → P a
unfolding below
found P zero f each a is = cc
found P (suc n) f each a is =
    found_by P (f n) (below n f) (λ b here. each n b (omega arith) here)
    (found P n f (λ k b small there. each k b (omega (arith, small)) there)) a is

-- it finds something where something is
finds_by : {A : Type 0} (o rest : Option A) → (o ≡ None → is_some rest ≡ true) → is_some (or_else o rest) ≡ true
finds_by (Some b) rest later = refl
finds_by None rest later = later refl

finds : {A : Type 0} (n : ℕ) (f : ℕ → Option A) (k : ℕ) → k < n → is_some (f k) ≡ true → is_some (below n f) ≡ true
unfolding below
finds zero f k small there = absurd (omega (arith, small))
finds (suc n) f k small there =
    let other : f n ≡ None → k ≢ n = λ none same. let clash = sym there ∙ ap (λ i. is_some (f i)) same ∙ ap is_some none in cc in
    finds_by (f n) (below n f) (λ none. finds n f k (omega (arith, small, other none)) there)

-- ---- the first of all claims with the text
abbrev claim_of : ℕ → ℕ → ℕ → ℕ → ℕ → ClaimId
claim_of machine slot boot seq secret = record {
  no = record { slot = record { machine = machine; slot = slot }; boot = boot; seq = seq };
  secret = secret;
}

abbrev has_text : List ℕ → ClaimId → Bool
has_text bytes c = nat_lt 0 c.no.slot.slot && pointwise nat_eq bytes (claim_text c)

abbrev where_so : Bool → ClaimId → Option ClaimId
where_so true c = Some c
where_so false c = None

abbrev at : List ℕ → ClaimId → Option ClaimId
at bytes c = where_so (has_text bytes c) c

abbrev by_secret : List ℕ → ℕ → ℕ → ℕ → ℕ → Option ClaimId
by_secret bytes machine slot boot seq = below (2 ^ 64) (λ secret. at bytes (claim_of machine slot boot seq secret))

abbrev by_seq : List ℕ → ℕ → ℕ → ℕ → Option ClaimId
by_seq bytes machine slot boot = below (2 ^ 64) (λ seq. by_secret bytes machine slot boot seq)

abbrev by_boot : List ℕ → ℕ → ℕ → Option ClaimId
by_boot bytes machine slot = below (2 ^ 64) (λ boot. by_seq bytes machine slot boot)

abbrev by_slot : List ℕ → ℕ → Option ClaimId
by_slot bytes machine = below (2 ^ 16) (λ slot. by_boot bytes machine slot)

abbrev read : List ℕ → Option ClaimId
read bytes = below (2 ^ 16) (λ machine. by_slot bytes machine)

-- ---- what it reads is a claim with the text
abbrev Has : List ℕ → ClaimId → Type 0
Has bytes c = IsClaim c × (bytes ≡ claim_text c)

both_so : (a b : Bool) → a && b ≡ true → (a ≡ true) × (b ≡ true)
both_so true true h = (refl, refl)
both_so true false h = cc
both_so false b h = cc

has : (bytes : List ℕ) (machine slot boot seq secret : ℕ) → machine < 2 ^ 16 → slot < 2 ^ 16 → boot < 2 ^ 64 → seq < 2 ^ 64 → secret < 2 ^ 64
    → (c : ClaimId) → at bytes (claim_of machine slot boot seq secret) ≡ Some c → Has bytes c
has bytes machine slot boot seq secret m s b q x c is = by (has_text bytes (claim_of machine slot boot seq secret)) refl is
  where
    by : (t : Bool) → has_text bytes (claim_of machine slot boot seq secret) ≡ t → where_so t (claim_of machine slot boot seq secret) ≡ Some c → Has bytes c
    by false test is = let clash : None ≡ Some c = is in cc
    by true test is = let parts = both_so (nat_lt 0 slot) (pointwise nat_eq bytes (claim_text (claim_of machine slot boot seq secret))) test in
        let same : claim_of machine slot boot seq secret ≡ c = cc in
        subst (λ c. Has bytes c) same (
          record {
            no_is = record { slot_is = record { machine_to = m; slot_from = ltb-true 0 slot parts.0; slot_to = s }; boot_to = b; seq_to = q };
            secret_to = x;
          },
          (bytes_decides bytes (claim_text (claim_of machine slot boot seq secret))).0 parts.1,
        )

reads : (bytes : List ℕ) (c : ClaimId) → read bytes ≡ Some c → Has bytes c
reads bytes = found (Has bytes) (2 ^ 16) (λ machine. by_slot bytes machine) (λ machine c m.
    found (Has bytes) (2 ^ 16) (λ slot. by_boot bytes machine slot) (λ slot c s.
    found (Has bytes) (2 ^ 64) (λ boot. by_seq bytes machine slot boot) (λ boot c b.
    found (Has bytes) (2 ^ 64) (λ seq. by_secret bytes machine slot boot seq) (λ seq c q.
    found (Has bytes) (2 ^ 64) (λ secret. at bytes (claim_of machine slot boot seq secret)) (λ secret c x.
    has bytes machine slot boot seq secret m s b q x c) c) c) c) c)

-- ---- and it reads each
found_there : (bytes : List ℕ) (c : ClaimId) → IsClaim c → bytes ≡ claim_text c → is_some (at bytes c) ≡ true
found_there bytes c claim text = by (has_text bytes c) refl
  where
    so : has_text bytes c ≡ true
    so = let a : nat_lt 0 c.no.slot.slot ≡ true = lt-ltb 0 c.no.slot.slot claim.no_is.slot_is.slot_from in
        let b = (bytes_decides bytes (claim_text c)).1 text in
        ap (λ t. t && pointwise nat_eq bytes (claim_text c)) a ∙ b

    by : (t : Bool) → has_text bytes c ≡ t → is_some (where_so t c) ≡ true
    by true h = refl
    by false h = let clash = sym so ∙ h in cc

all_read : (bytes : List ℕ) (c : ClaimId) → IsClaim c → bytes ≡ claim_text c → is_some (read bytes) ≡ true
all_read bytes c claim text =
    let slot = claim.no_is.slot_is in
    finds (2 ^ 16) (λ machine. by_slot bytes machine) c.no.slot.machine slot.machine_to (
    finds (2 ^ 16) (λ number. by_boot bytes c.no.slot.machine number) c.no.slot.slot slot.slot_to (
    finds (2 ^ 64) (λ boot. by_seq bytes c.no.slot.machine c.no.slot.slot boot) c.no.boot claim.no_is.boot_to (
    finds (2 ^ 64) (λ seq. by_secret bytes c.no.slot.machine c.no.slot.slot c.no.boot seq) c.no.seq claim.no_is.seq_to (
    finds (2 ^ 64) (λ secret. at bytes (claim_of c.no.slot.machine c.no.slot.slot c.no.boot c.no.seq secret)) c.secret claim.secret_to (
    found_there bytes c claim text)))))

read_is : (bytes : List ℕ) (c : ClaimId) → IsClaim c → bytes ≡ claim_text c → read bytes ≡ Some c
read_is bytes c claim text = by (read bytes) refl
  where
    by : (o : Option ClaimId) → read bytes ≡ o → o ≡ Some c
    by None is = let clash = sym (all_read bytes c claim text) ∙ ap is_some is in cc
    by (Some d) is = let h = reads bytes d is in ap Some (one_claim d c h.0 claim (sym h.1 ∙ text))

pub some_reads : (read : List ℕ → Option ClaimId) × IsReader read
some_reads = (read, λ bytes c. (reads bytes c, λ h. read_is bytes c h.0 h.1))
