-- The secrets of a machine's offers, by ChaCha20 (RFC 8439, with 64 bits of stream).
use Rattle.std.specs.Prelude.{ℕ, ◌+◌, ◌*◌, ◌%◌, ◌^◌, List, [], ◌∷◌, slice_index}
use Rattle.std.specs.Int.{w64, to_le_bytes}
use Rattle.rand_chacha.specs.ChaCha.{word_at, key_of}

-- the bytes of the secret key, the lowest first, and 24 zero bytes
unfoldable pub seed_of : ℕ → List ℕ
seed_of secret_key = let key = to_le_bytes w64 secret_key in
    slice_index key 0 ∷ slice_index key 1 ∷ slice_index key 2 ∷ slice_index key 3
    ∷ slice_index key 4 ∷ slice_index key 5 ∷ slice_index key 6 ∷ slice_index key 7
    ∷ 0 ∷ 0 ∷ 0 ∷ 0 ∷ 0 ∷ 0 ∷ 0 ∷ 0 ∷ 0 ∷ 0 ∷ 0 ∷ 0
    ∷ 0 ∷ 0 ∷ 0 ∷ 0 ∷ 0 ∷ 0 ∷ 0 ∷ 0 ∷ 0 ∷ 0 ∷ 0 ∷ 0 ∷ []

-- a word of the machine's stream, which repeats after 2 ^ 68 words; ChaCha20 has ten double rounds
abbrev pub secret_word : ℕ → ℕ → ℕ → ℕ
secret_word secret_key machine place =
    word_at 10 (key_of (seed_of secret_key)) machine (place % 2 ^ 68)

-- the secret of a machine's offer, counted from 0: two words, the upper half first
unfoldable pub secret_of : ℕ → ℕ → ℕ → ℕ
secret_of secret_key machine offer = secret_word secret_key machine (offer * 2) * 2 ^ 32
    + secret_word secret_key machine (offer * 2 + 1)
