use Rattle.std.proofs.Common.{arith, ◌≡◌, ℕ, List, Result, Ok, Err, sym, ◌∙◌}
use Rattle.std.specs.Prelude.{IfOk}
use Rattle.ipld_cid.specs.declared.error.CidError.{CidError}
use Rattle.ipld_cid.specs.Multihash.{HashParts, IsBytes}
use Rattle.ipld_cid.specs.MultihashBytes.{IsEncodedHash, read_hash}
use Rattle.ipld_cid.proofs.MultihashEncodings.{read_hash_is_encoded, encoded_hash_is_read}
use Rattle.ipld_cid.proofs.multihash.Multihash.from_bytes.Goals as goal

found : (S : ℕ) (bytes : List ℕ) (r : Result HashParts CidError) → IsBytes bytes → r ≡ read_hash S bytes → IfOk r (λ hash. IsEncodedHash S bytes hash)
found S bytes (Ok hash) is_bytes exact = read_hash_is_encoded S bytes hash is_bytes (sym exact)
found S bytes (Err error) is_bytes exact = tt

pub returns-clause-found : goal.returns-clause-found
returns-clause-found g c = found g.row.S c.args.bytes.now c.read_hash.result (λ i. omega (arith, c.type_inv.bytes i)) c.read_hash.ensures

pub returns-clause-only : goal.returns-clause-only
returns-clause-only g c = λ hash encoded. c.read_hash.ensures ∙ encoded_hash_is_read g.row.S c.args.bytes.now hash encoded
