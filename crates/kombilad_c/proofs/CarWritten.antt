-- What a section of a CAR has before its block, written.
use Rattle.std.proofs.Common.{◌≡◌, ℕ, zero, suc, ◌+◌, ◌-◌, ◌^◌, ◌<◌, ◌≤◌, List, [], ◌∷◌, ◌++◌, length, take, refl, sym, ap, ◌∙◌, arith, length-append}
use Rattle.std.specs.Prelude.{replicate}
use Rattle.std.proofs.Math.Seq.{take-append_seam}
use Rattle.ipld_cid.specs.Bytes.{bytes_of}
use Rattle.ipld_cid.specs.Cid.{Link}
use Rattle.ipld_cid.specs.LinkOf.{link_of, valid_link}
use Rattle.ipld_cid.specs.declared.cid.CidGeneric.{CidGeneric}
use Rattle.ipld_cid.specs.Varint.{varint_of}
use Rattle.ipld_cid.proofs.Encodings.{has_encoding}
use Rattle.ipld_cid.proofs.Varints.{varint_encodes}
use Rattle.kombilad_c.specs.declared.cid_record.CidBytes.{CidBytes}
use Rattle.kombilad_c.specs.CarWriting.{IsFront}
use Rattle.kombilad_c.specs.CidRecord.{bytes_in, record_of}

-- the bytes in the record of a CID
pub bytes_in_record : (link : Link) → bytes_in (record_of link) ≡ bytes_of link
bytes_in_record link = take-append_seam (bytes_of link) (replicate (87 - length (bytes_of link)) 0)

-- a varint and a CID are a section with every block of the length that the varint counts
pub is_front : (cid : CidGeneric 64) (len : ℕ) (front : List ℕ) → len + length (bytes_of (link_of cid)) < 2 ^ 64
    → front ≡ varint_of (len + length (bytes_of (link_of cid))) ++ bytes_of (link_of cid) → IsFront (link_of cid) len front
is_front cid len front fits e = λ block same.
    let encoded = bytes_of (link_of cid) in
    let total : length (encoded ++ block) ≡ len + length encoded = length-append encoded block ∙ omega (arith, same) in
    record {
      size = varint_of (length (encoded ++ block));
      cid = encoded;
      size_encoded = varint_encodes (length (encoded ++ block)) (rw total fits);
      cid_encoded = has_encoding 64 (link_of cid) (omega arith) (valid_link cid);
      encoded = ap (λ xs. xs ++ block) (e ∙ ap (λ n. varint_of n ++ encoded) (sym total));
    }
