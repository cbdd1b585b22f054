-- A startd hears only of claims of its own machine's slots.
use Rattle.std.proofs.Common.{◌≡◌, ℕ, zero, suc, [], ◌∷◌, arith}
use Rattle.std.specs.Prelude.{Contains, IsSomeAnd}
use Rattle.pool_outer.specs.declared.gate.Daemon.TheVariants.{Schedd, Startd, Matchmaker}
use Rattle.claim_id.specs.declared.numbers.ClaimNo.{ClaimNo}
use Rattle.pool_mail.specs.declared.mail.Mail.{Mail}
use Rattle.pool_mail.specs.declared.mail.Mail.TheVariants.{Update, Matched, Ask, Granted, Denied, Activate, Alive, Seen, Stop, Release, Gone, Ended, Remove, Hold, Resume}
use Rattle.pool_mail.specs.Mails.{startd_of, receivers_of, claim_of_mail}

-- what is in a list of one is that one
in_one : {A : Type 0} (x y : A) → Contains (x ∷ []) y → x ≡ y
in_one x y (zero, inside, is) = is
in_one x y (suc k, inside, is) = absurd (omega arith)

-- in a list of two, what isn't the first is the second
in_second : {A : Type 0} (x y z : A) → (x ≡ z → ⊥) → Contains (x ∷ y ∷ []) z → y ≡ z
in_second x y z other (zero, inside, is) = absurd (other is)
in_second x y z other (suc zero, inside, is) = is
in_second x y z other (suc (suc k), inside, is) = absurd (omega arith)

its_machine : (claim : ClaimNo) (machine : ℕ) → startd_of claim ≡ Startd machine → claim.slot.machine ≡ machine
its_machine claim machine is = cc

pub own_claims : (mail : Mail) (machine : ℕ) → Contains (receivers_of mail) (Startd machine) → IsSomeAnd (claim_of_mail mail) (λ claim. claim.slot.machine ≡ machine)
own_claims (Update slot) machine there = let no : Matchmaker ≡ Startd machine = in_one _ _ there in cc
own_claims (Matched found) machine there = its_machine found.claim.no machine (in_second Schedd (startd_of found.claim.no) (Startd machine) (λ no. cc) there)
own_claims (Ask claim job ad by_priority) machine there = its_machine claim.no machine (in_one _ _ there)
own_claims (Granted claim job) machine there = let no : Schedd ≡ Startd machine = in_one _ _ there in cc
own_claims (Denied claim run job why) machine there = let no : Schedd ≡ Startd machine = in_one _ _ there in cc
own_claims (Activate run job ad until) machine there = its_machine run.claim machine (in_one _ _ there)
own_claims (Alive run until) machine there = its_machine run.claim machine (in_one _ _ there)
own_claims (Seen run until) machine there = let no : Schedd ≡ Startd machine = in_one _ _ there in cc
own_claims (Stop run) machine there = its_machine run.claim machine (in_one _ _ there)
own_claims (Release claim) machine there = its_machine claim machine (in_one _ _ there)
own_claims (Gone run kept) machine there = let no : Schedd ≡ Startd machine = in_one _ _ there in cc
own_claims (Ended run how) machine there = let no : Schedd ≡ Startd machine = in_one _ _ there in cc
own_claims (Remove job) machine there = let no : Schedd ≡ Startd machine = in_one _ _ there in absurd (let none : ⊥ = cc in none)
own_claims (Hold job) machine there = let no : Schedd ≡ Startd machine = in_one _ _ there in absurd (let none : ⊥ = cc in none)
own_claims (Resume job) machine there = let no : Schedd ≡ Startd machine = in_one _ _ there in absurd (let none : ⊥ = cc in none)
