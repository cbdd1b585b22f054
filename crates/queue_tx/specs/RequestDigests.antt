-- The digest of a request: it adds up the digests of the attributes in which jobs that make the
-- same request agree. So it hangs neither on their order nor on how names are spelled.
use Rattle.std.specs.Prelude.{ℕ, ◌%◌, ◌^◌, List, sum_by, if◌then◌else◌}
use Rattle.ad_tree.specs.Tree.{Tree}
use Rattle.ad_tree.specs.Ad.{Attributes}
use Rattle.ad_rows.specs.Digests.{attribute_digest}
use Rattle.queue_tx.specs.Requests.{is_asked}

abbrev pub asked_digest : List ℕ × Tree → ℕ
asked_digest a = if is_asked a.0 then attribute_digest a.0 a.1 else 0

-- a number of 64 bits
abbrev pub request_digest : Attributes → ℕ
request_digest ad = sum_by asked_digest ad % 2 ^ 64
