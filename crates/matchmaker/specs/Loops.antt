-- What loops have so far.
use Rattle.std.specs.Prelude.{◌≡◌, ℕ, List, [], ◌∷◌, ◌++◌, map, filter, Option, Some, None, refl, cond}
use Rattle.std.specs.List.{best_of}
use Rattle.matchmaker.specs.declared.course.Bidder as code
use Rattle.matchmaker.specs.declared.course.Made.{Made}
use Rattle.matchmaker.specs.declared.snapshot.Offer.{Offer}
use Rattle.pool_mail.specs.declared.matching.Request.{Request}
use Rattle.matchmaker.specs.Cycle.{Bidder, Course, takes_part, goes_before, first_of}

abbrev pub better : ℕ → Request → Option Offer → Offer → Offer
better now r None o = o
better now r (Some b) o = cond (goes_before now r o b) o b

-- the best of what was the best so far, and of the candidates that are left
unfoldable pub best_with : ℕ → Request → Option Offer → List Offer → Option Offer
best_with now r None os = first_of now r os
best_with now r (Some b) os = Some (best_of (goes_before now r) b os)

pub best_with_more : (now : ℕ) (r : Request) (best : Option Offer) (o : Offer) (os : List Offer)
    → best_with now r best (o ∷ os) ≡ best_with now r (Some (better now r best o)) os
unfolding best_with first_of
best_with_more now r None o os = refl
best_with_more now r (Some b) o os = refl

pub best_with_end : (now : ℕ) (r : Request) (best : Option Offer)
    → best_with now r best [] ≡ best
unfolding best_with first_of
best_with_end now r None = refl
best_with_end now r (Some b) = refl

abbrev pub bidder_of : code.Bidder → Bidder
bidder_of b = record { account = b.account; left = b.left.items }

-- of things that stand for bidders
abbrev pub course_of : {X : Type 0} → (X → Bidder) → List X → List Made → Course
course_of f xs ms = record { bidders = map f xs; made = ms }

-- a course whose first bidders had their turn
unfoldable pub after_those : List Bidder → Course → Course
after_those bs c = record { bidders = bs ++ c.bidders; made = c.made }

abbrev pub those_who_play : {X : Type 0} → (X → Bidder) → List Made → List X → List X
those_who_play f ms xs = filter (λ x. takes_part ms (f x)) xs
