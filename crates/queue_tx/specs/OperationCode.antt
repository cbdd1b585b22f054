-- A code of operations, by which a proof tells them apart where a transaction holds them.
use Rattle.std.specs.Prelude.{◌≡◌, ◌⊎◌, ℕ, List, refl}
use Rattle.std.specs.Coded.{Coded, code_by, coded×, coded⊎, coded_list, coded_ℕ}
use base.Stored.{coded_unit}
use mathlib.Core.Logic.{inl, inr}
use Rattle.ad_tree.specs.Tree.{Tree}
use Rattle.ad_tree.specs.TreeCode.{tree_code}
use Rattle.queue_tx.specs.declared.key.Key.{Key}
use Rattle.queue_tx.specs.declared.key.Key.TheVariants.{Header, Proc}
use Rattle.queue_tx.specs.Operations.{Operation, new_ad, destroy_ad, set_attr, delete_attr}

abbrev KeyParts : Type 0
KeyParts = Unit {0} ⊎ (ℕ × ℕ)

abbrev parts_of_key : Key → KeyParts
parts_of_key Header = inl tt
parts_of_key (Proc job) = inr (job.cluster, job.proc)

abbrev key_of_parts : KeyParts → Key
key_of_parts (inl u) = Header
key_of_parts (inr n) = Proc (record { cluster = n.0; proc = n.1 })

pub key_back : (k : Key) → key_of_parts (parts_of_key k) ≡ k
key_back Header = refl
key_back (Proc job) = refl

abbrev pub key_code : Coded Key
key_code =
    code_by KeyParts (coded⊎ coded_unit (coded× coded_ℕ coded_ℕ))
    parts_of_key key_of_parts key_back

abbrev Bytes : Type 0
Bytes = List ℕ

-- a new ad, or a destroyed one; a set attribute, or a deleted one
abbrev Parts : Type 0
Parts =
    ((Key × (Bytes × Bytes)) ⊎ Key)
    ⊎ ((Key × (Bytes × Tree)) ⊎ (Key × Bytes))

abbrev parts_of : Operation → Parts
parts_of (new_ad key kind other) = inl (inl (key, (kind, other)))
parts_of (destroy_ad key) = inl (inr key)
parts_of (set_attr key name e) = inr (inl (key, (name, e)))
parts_of (delete_attr key name) = inr (inr (key, name))

abbrev of_parts : Parts → Operation
of_parts (inl (inl p)) = new_ad p.0 p.1.0 p.1.1
of_parts (inl (inr key)) = destroy_ad key
of_parts (inr (inl p)) = set_attr p.0 p.1.0 p.1.1
of_parts (inr (inr p)) = delete_attr p.0 p.1

pub parts_back : (o : Operation) → of_parts (parts_of o) ≡ o
parts_back (new_ad key kind other) = refl
parts_back (destroy_ad key) = refl
parts_back (set_attr key name e) = refl
parts_back (delete_attr key name) = refl

abbrev bytes_code : Coded Bytes
bytes_code = coded_list coded_ℕ

abbrev parts_code : Coded Parts
parts_code =
    coded⊎
    (coded⊎ (coded× key_code (coded× bytes_code bytes_code)) key_code)
    (coded⊎ (coded× key_code (coded× bytes_code tree_code)) (coded× key_code bytes_code))

abbrev pub operation_code : Coded Operation
operation_code = code_by Parts parts_code parts_of of_parts parts_back

abbrev pub operations_code : Coded (List Operation)
operations_code = coded_list operation_code
