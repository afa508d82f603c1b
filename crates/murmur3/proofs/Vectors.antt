-- Hashes by computing, so that a wrong constant, line or step of the definition isn't proved.
use Rattle.std.proofs.Common.{◌≡◌, [], ◌∷◌, codes, refl}
use Rattle.murmur3.specs.Murmur3.{added, body, finalized, fmix64, mix_block, mix_k1, mix_k2, murmur3_x64, murmur3_x64_64, murmur3_x64_128, next_h1, next_h2, with_tail}

-- a word of the tail that has no byte of the message changes nothing
pub mix_k1-zero : mix_k1 0 ≡ 0
unfolding mix_k1
mix_k1-zero = refl

pub mix_k2-zero : mix_k2 0 ≡ 0
unfolding mix_k2
mix_k2-zero = refl

-- the hashes below are those that the tests of Go's package spaolacci/murmur3 state
pub murmur3_x64_128-empty : murmur3_x64_128 42 [] ≡ 0xD1016610DA11CBB9F02AA77DFA1B8523
unfolding added body finalized fmix64 mix_block mix_k1 mix_k2 murmur3_x64 next_h1 next_h2 with_tail
murmur3_x64_128-empty = refl

-- a tail of 5 bytes
pub murmur3_x64_128-tail : murmur3_x64_128 1 (codes "hello") ≡ 0x128900EF20900135A78DDFF5ADAE8D10
unfolding added body finalized fmix64 mix_block mix_k1 mix_k2 murmur3_x64 next_h1 next_h2 with_tail
murmur3_x64_128-tail = refl

-- a block and a tail of 9 bytes
pub murmur3_x64_128-block : murmur3_x64_128 0 (codes "19 Jan 2038 at 3:14:07 AM") ≡ 0x664FC2950231B2CBB89E5988B737AFFC
unfolding added body finalized fmix64 mix_block mix_k1 mix_k2 murmur3_x64 next_h1 next_h2 with_tail
murmur3_x64_128-block = refl

-- two blocks and a tail of 12 bytes
pub murmur3_x64_128-two_blocks : murmur3_x64_128 42 (codes "The quick brown fox jumps over the lazy dog.") ≡ 0x4EC7A891CAF316F074F33C659CDA5AF7
unfolding added body finalized fmix64 mix_block mix_k1 mix_k2 murmur3_x64 next_h1 next_h2 with_tail
murmur3_x64_128-two_blocks = refl

-- the first word, high byte first
pub murmur3_x64_64-hello : murmur3_x64_64 (codes "hello") ≡ 0xCB ∷ 0xD8 ∷ 0xA7 ∷ 0xB3 ∷ 0x41 ∷ 0xBD ∷ 0x9B ∷ 0x02 ∷ []
unfolding added body finalized fmix64 mix_block mix_k1 mix_k2 murmur3_x64 next_h1 next_h2 with_tail
murmur3_x64_64-hello = refl
