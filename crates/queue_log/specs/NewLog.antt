-- The log that recovery makes where there is none.
use Rattle.std.specs.Prelude.{ℕ, List, [], ◌∷◌, ◌++◌, codes, decimal}
use Rattle.ad_rows.specs.Rows.{integer_literal}
use Rattle.queue_tx.specs.declared.key.Key.TheVariants.{Header}
use Rattle.queue_tx.specs.declared.names.TheConstants.{NEXT_CLUSTER_NUM, NEXT_RUN_NUM}
use Rattle.queue_tx.specs.Operations.{Operation, new_ad, set_attr}
use Rattle.queue_record.specs.Texts.{tx_text}
use Rattle.queue_log.specs.declared.new_log.TheConstants.{HEADER_KIND, HEADER_OTHER}

-- the header's ad, with the numbers of the cluster and the run that come first
unfoldable pub new_log_tx : List Operation
new_log_tx =
    new_ad Header HEADER_KIND.now HEADER_OTHER.now
    ∷ set_attr Header NEXT_CLUSTER_NUM.now (integer_literal 1)
    ∷ set_attr Header NEXT_RUN_NUM.now (integer_literal 1)
    ∷ []

-- the line of the first log of a series, that is begun at this reading
abbrev pub stamp_line : ℕ → List ℕ
stamp_line reading = codes "107 1 CreationTimestamp " ++ decimal reading

unfoldable pub new_log_text : ℕ → List ℕ
new_log_text reading = stamp_line reading ++ codes "\n" ++ tx_text new_log_tx

-- what recovery begins from: the bytes of the file, or the text of a new log where there are none
abbrev pub opening_of : List ℕ → ℕ → List ℕ
opening_of [] reading = new_log_text reading
opening_of (b ∷ bytes) reading = b ∷ bytes
