-- Multihashes as bytes: what is read is what is encoded, and each multihash has one encoding.
use Rattle.std.proofs.Common.{◌≡◌, ℕ, ◌<◌, ◌≤◌, ◌^◌, List, ◌∷◌, ◌++◌, length, Result, Ok, Err, refl, sym, ap, ◌∙◌, append_assoc, arith}
use Rattle.ipld_cid.specs.declared.error.CidError.{CidError}
use Rattle.ipld_cid.specs.declared.error.CidError.TheVariants.{TrailingBytes}
use Rattle.ipld_cid.specs.Multihash.{HashParts, IsBytes, IsMultihash}
use Rattle.ipld_cid.specs.Varint.{varint_of, read_varint, ◌>>=◌}
use Rattle.ipld_cid.specs.Bytes.{read_digest}
use Rattle.ipld_cid.specs.MultihashBytes.{IsEncodedHash, hash_bytes_of, read_hash}
use Rattle.ipld_cid.proofs.Varints.{varint_alone, varint_encodes, read_varint-sound, read_varint-varint_of, bind_ok, same_ok}
use Rattle.ipld_cid.proofs.Encodings.{read_digest-sound, read_digest-complete, digest_longer, longer}

abbrev parts : ℕ → List ℕ → HashParts
parts code digest = record { code = code; digest = digest }

-- the parts in two groupings
grouped : (code size digest : List ℕ) → code ++ size ++ digest ≡ code ++ (size ++ digest)
grouped code size digest = append_assoc code size digest

-- the one encoding, by the varints of the parts
pub one_hash_encoding : (S : ℕ) (bytes : List ℕ) (hash : HashParts) → IsEncodedHash S bytes hash → bytes ≡ hash_bytes_of hash
unfolding hash_bytes_of
one_hash_encoding S bytes hash is =
    let code = varint_alone hash.code is.code is.code_encoded in
    let size = varint_alone (length hash.digest) is.size is.size_encoded in
    is.encoded ∙ rw (code, size) refl

-- each valid multihash is encoded
pub has_hash_encoding : (S : ℕ) (hash : HashParts) → S < 2 ^ 64 → IsMultihash S hash → IsEncodedHash S (hash_bytes_of hash) hash
unfolding hash_bytes_of
has_hash_encoding S hash below valid = record {
  capacity = valid.1;
  digits = valid.2;
  code = varint_of hash.code;
  size = varint_of (length hash.digest);
  code_encoded = varint_encodes hash.code valid.0;
  size_encoded = varint_encodes (length hash.digest) (omega (arith, valid.1));
  encoded = refl;
}

-- what is encoded is valid
pub encoded_hash_is_valid : (S : ℕ) (bytes : List ℕ) (hash : HashParts) → IsEncodedHash S bytes hash → IsMultihash S hash
encoded_hash_is_valid S bytes hash is = (is.code_encoded.below, is.capacity, is.digits)

-- what is read from the varints of a code and a size, and bytes after them
read_parts : (S code size : ℕ) (rest : List ℕ) → code < 2 ^ 64 → size < 2 ^ 64
    → read_hash S (varint_of code ++ (varint_of size ++ rest)) ≡ (read_digest S size rest >>= λ digest. Ok (parts code digest))
unfolding read_hash
read_parts S code size rest code_fits size_fits =
    rw (read_varint-varint_of code (varint_of size ++ rest) code_fits, read_varint-varint_of size rest size_fits) refl

-- the one encoding and more after it, grouped from the right
regrouped : (code size digest more : List ℕ) → (code ++ size ++ digest) ++ more ≡ code ++ (size ++ (digest ++ more))
regrouped code size digest more = simp append_assoc

-- what is encoded is read
pub encoded_hash_is_read : (S : ℕ) (bytes : List ℕ) (hash : HashParts) → IsEncodedHash S bytes hash → read_hash S bytes ≡ Ok hash
unfolding hash_bytes_of
encoded_hash_is_read S bytes hash is =
    ap (read_hash S) (one_hash_encoding S bytes hash is ∙ grouped (varint_of hash.code) (varint_of (length hash.digest)) hash.digest)
    ∙ read_parts S hash.code (length hash.digest) hash.digest is.code_encoded.below is.size_encoded.below
    ∙ ap (λ (r : Result (List ℕ) CidError). r >>= λ digest. Ok (parts hash.code digest)) (read_digest-complete S (length hash.digest) hash.digest is.capacity refl)

-- bytes after a multihash are trailing bytes
pub hash_trailing : (S : ℕ) (front : List ℕ) (x : ℕ) (more : List ℕ) (hash : HashParts) → IsEncodedHash S front hash → read_hash S (front ++ x ∷ more) ≡ Err TrailingBytes
unfolding hash_bytes_of
hash_trailing S front x more hash is =
    ap (λ (bytes : List ℕ). read_hash S (bytes ++ x ∷ more)) (one_hash_encoding S front hash is)
    ∙ ap (read_hash S) (regrouped (varint_of hash.code) (varint_of (length hash.digest)) hash.digest (x ∷ more))
    ∙ read_parts S hash.code (length hash.digest) (hash.digest ++ x ∷ more) is.code_encoded.below is.size_encoded.below
    ∙ ap (λ (r : Result (List ℕ) CidError). r >>= λ digest. Ok (parts hash.code digest))
    (digest_longer S (length hash.digest) (hash.digest ++ x ∷ more) is.capacity (longer x hash.digest more))

-- the varints that were read encode the parts
made : (S code size : ℕ) (bytes rest digest : List ℕ) → code < 2 ^ 64 → size < 2 ^ 64 → size ≤ S → length digest ≡ size → IsBytes digest
    → bytes ≡ varint_of code ++ rest → rest ≡ varint_of size ++ digest → IsEncodedHash S bytes (parts code digest)
made S code size bytes rest digest code_fits size_fits capacity sized is_bytes first second = record {
  capacity = omega arith;
  digits = is_bytes;
  code = varint_of code;
  size = varint_of (length digest);
  code_encoded = varint_encodes code code_fits;
  size_encoded = varint_encodes (length digest) (omega arith);
  encoded = rw sized (first ∙ ap (λ (r : List ℕ). varint_of code ++ r) second ∙ sym (grouped (varint_of code) (varint_of size) digest));
}

-- what is read is encoded so
pub read_hash_is_encoded : (S : ℕ) (bytes : List ℕ) (hash : HashParts) → IsBytes bytes → read_hash S bytes ≡ Ok hash → IsEncodedHash S bytes hash
unfolding read_hash
read_hash_is_encoded S bytes hash is_bytes read =
    let code = bind_ok (read_varint bytes) (λ code. read_varint code.1 >>= λ size. read_digest S size.0 size.1 >>= λ digest. Ok (parts code.0 digest)) hash read in
    let size = bind_ok (read_varint code.0.1) (λ size. read_digest S size.0 size.1 >>= λ digest. Ok (parts code.0.0 digest)) hash code.2 in
    let digest = bind_ok (read_digest S size.0.0 size.0.1) (λ digest. Ok (parts code.0.0 digest)) hash size.2 in
    let first = read_varint-sound code.0.0 bytes code.0.1 is_bytes code.1 in
    let second = read_varint-sound size.0.0 code.0.1 size.0.1 first.2 size.1 in
    let says = read_digest-sound S size.0.0 size.0.1 digest.0 digest.1 in
    let is = made S code.0.0 size.0.0 bytes code.0.1 size.0.1 first.0 second.0 says.0 says.1 second.2 first.1 second.1 in
    same_ok (λ (h : HashParts). IsEncodedHash S bytes h) (parts code.0.0 size.0.1) hash (ap (λ (d : List ℕ). Ok (parts code.0.0 d)) says.2 ∙ digest.2) is

-- bytes encode no other multihash
pub one_hash : (S : ℕ) (bytes : List ℕ) (hash other : HashParts) → IsEncodedHash S bytes hash → IsEncodedHash S bytes other → hash ≡ other
one_hash S bytes hash other first second =
    same_ok (λ (h : HashParts). h ≡ other) other hash (sym (encoded_hash_is_read S bytes other second) ∙ encoded_hash_is_read S bytes hash first) refl
