-- What a transaction must be so that its text says it: its parts have forms that a log's line has.
use Rattle.std.specs.Prelude.{◌≡◌, ◌≢◌, ℕ, true, List, [], ◌∷◌, IfSome}
use Rattle.claim_id.specs.Texts.{IsJob}
use Rattle.ad_tree.specs.Tree.{Tree}
use Rattle.ad_tree.specs.Ad.{Attributes}
use Rattle.ad_value.specs.Bytes.{code}
use Rattle.ad_token.specs.Names.{is_name}
use Rattle.ad_token.specs.Lexing.{tokens_of}
use Rattle.ad_parse.specs.Grammar.{IsText}
use Rattle.ad_parse.specs.Canon.{canon}
use Rattle.queue_tx.specs.declared.key.Key.{Key}
use Rattle.queue_tx.specs.declared.key.Key.TheVariants.{Header, Proc}
use Rattle.queue_tx.specs.Operations.{Operation, new_ad, destroy_ad, set_attr, delete_attr}
use Rattle.queue_tx.specs.Queues.{KeyedAds, ad_at}

-- a cluster from 1, and numbers of 32 bits
abbrev pub IsPrintableKey : Key → Type 0
IsPrintableKey Header = Unit {0}
IsPrintableKey (Proc job) = IsJob job

-- neither a blank nor the end of a line; perhaps nothing
abbrev pub IsWord : List ℕ → Type 0
IsWord [] = Unit {0}
IsWord (b ∷ bs) = (b ≢ code " ") × (b ≢ 9) × (b ≢ 10) × IsWord bs

-- a name of the expression grammar, which is no word of it
abbrev pub IsPrintableName : List ℕ → Type 0
IsPrintableName name = is_name name ≡ true

-- the expression that its own canonical text spells, however long that is
abbrev pub IsPrintableTree : Tree → Type 0
IsPrintableTree e = IsText (tokens_of (canon e)) e

abbrev pub IsPrintableOp : Operation → Type 0
IsPrintableOp (new_ad key kind other) = IsPrintableKey key × IsWord kind × IsWord other
IsPrintableOp (destroy_ad key) = IsPrintableKey key
IsPrintableOp (set_attr key name e) = IsPrintableKey key × IsPrintableName name × IsPrintableTree e
IsPrintableOp (delete_attr key name) = IsPrintableKey key × IsPrintableName name

abbrev pub IsPrintable : List Operation → Type 0
IsPrintable [] = Unit {0}
IsPrintable (o ∷ os) = IsPrintableOp o × IsPrintable os

-- ---- of what stands in a queue

abbrev pub IsPrintableAd : Attributes → Type 0
IsPrintableAd [] = Unit {0}
IsPrintableAd (a ∷ ad) = IsPrintableName a.0 × IsPrintableTree a.1 × IsPrintableAd ad

abbrev pub IsPrintableQueue : KeyedAds → Type 0
IsPrintableQueue [] = Unit {0}
IsPrintableQueue (e ∷ q) = IsPrintableKey e.0 × IsPrintableAd e.1 × IsPrintableQueue q

-- each key of a queue can be printed
abbrev pub HasPrintableKeys : KeyedAds → Type 0
HasPrintableKeys q = (key : Key) → IfSome (ad_at key q) (λ ad. IsPrintableKey key)
