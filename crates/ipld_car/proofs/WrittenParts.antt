-- What is written of a section, all of it or a part.
use Rattle.std.proofs.Common.{◌≡◌, ◌≢◌, ℕ, ◌+◌, ◌^◌, ◌<◌, List, [], ◌∷◌, ◌++◌, length, Option, refl, sym, ap, ◌∙◌, arith, append_assoc, length-append}
use Rattle.std.proofs.KnownBytes.{Appends-nil, Appends-trans}
use Rattle.std.specs.Io.KnownBytes.{Appends}
use Rattle.ipld_cid.specs.Bytes.{bytes_of}
use Rattle.ipld_cid.specs.LinkOf.{link_of, valid_link}
use Rattle.ipld_cid.specs.declared.cid.CidGeneric.{CidGeneric}
use Rattle.ipld_cid.specs.Varint.{varint_of}
use Rattle.ipld_cid.proofs.Encodings.{has_encoding}
use Rattle.ipld_cid.proofs.Varints.{varint_encodes}
use Rattle.ipld_codec.specs.WriteOut.{WritesPart}
use Rattle.ipld_car.specs.Section.{IsSection}
use Rattle.ipld_car.specs.Writing.{WritesSection, WritesSectionPart}
use Rattle.ipld_car.proofs.FramedReading.{not_empty}

-- a varint and a CID, and then the block, are a section
section_is : (cid : CidGeneric 64) (front block : List ℕ) → length (bytes_of (link_of cid)) + length block < 2 ^ 64
    → front ≡ varint_of (length (bytes_of (link_of cid)) + length block) ++ bytes_of (link_of cid) → IsSection (front ++ block) (record { cid = link_of cid; bytes = block })
section_is cid front block fits e =
    let encoded = bytes_of (link_of cid) in
    let total : length (encoded ++ block) ≡ length encoded + length block = length-append encoded block in
    record {
      size = varint_of (length (encoded ++ block));
      cid = encoded;
      size_encoded = varint_encodes (length (encoded ++ block)) (rw total fits);
      cid_encoded = has_encoding 64 (link_of cid) (omega arith) (valid_link cid);
      encoded = ap (λ xs. xs ++ block) (e ∙ ap (λ n. varint_of n ++ encoded) (sym total));
    }

pub writes_section : (old mid new : Option (List ℕ)) (cid : CidGeneric 64) (front block : List ℕ) → length (bytes_of (link_of cid)) + length block < 2 ^ 64
    → front ≡ varint_of (length (bytes_of (link_of cid)) + length block) ++ bytes_of (link_of cid) → Appends old mid front → Appends mid new block
    → WritesSection old new (record { cid = link_of cid; bytes = block })
writes_section old mid new cid front block fits e a b =
    record { section = front ++ block; is_section = section_is cid front block fits e; appends = Appends-trans old mid new front block a b }

-- no byte of it
pub writes_none : (old : Option (List ℕ)) (cid : CidGeneric 64) (block : List ℕ) → length (bytes_of (link_of cid)) + length block < 2 ^ 64
    → WritesSectionPart old old (record { cid = link_of cid; bytes = block })
writes_none old cid block fits =
    let front = varint_of (length (bytes_of (link_of cid)) + length block) ++ bytes_of (link_of cid) in
    let s = section_is cid front block fits refl in
    record {
      section = front ++ block;
      is_section = s;
      part = (
        front ++ block,
        not_empty (length (s.cid ++ block)) s.size (s.cid ++ block) (front ++ block) s.size_encoded (s.encoded ∙ append_assoc s.size s.cid block),
        record { front = []; splits = refl; appends = Appends-nil old },
      );
    }

not_joined : (xs ys : List ℕ) → xs ≢ [] → xs ++ ys ≢ []
not_joined [] ys some none = some refl
not_joined (x ∷ xs) ys some none = absurd (cc)

-- some bytes before the block
pub writes_front_part : (old new : Option (List ℕ)) (cid : CidGeneric 64) (front block : List ℕ) → length (bytes_of (link_of cid)) + length block < 2 ^ 64
    → front ≡ varint_of (length (bytes_of (link_of cid)) + length block) ++ bytes_of (link_of cid) → WritesPart old new front
    → WritesSectionPart old new (record { cid = link_of cid; bytes = block })
writes_front_part old new cid front block fits e (rest, some, part) = record {
  section = front ++ block;
  is_section = section_is cid front block fits e;
  part = (
    rest ++ block,
    not_joined rest block some,
    record { front = part.front; splits = ap (λ xs. xs ++ block) part.splits ∙ append_assoc part.front rest block; appends = part.appends },
  );
}

-- all of them, and some of the block
pub writes_block_part : (old mid new : Option (List ℕ)) (cid : CidGeneric 64) (front block : List ℕ) → length (bytes_of (link_of cid)) + length block < 2 ^ 64
    → front ≡ varint_of (length (bytes_of (link_of cid)) + length block) ++ bytes_of (link_of cid) → Appends old mid front → WritesPart mid new block
    → WritesSectionPart old new (record { cid = link_of cid; bytes = block })
writes_block_part old mid new cid front block fits e a (rest, some, part) = record {
  section = front ++ block;
  is_section = section_is cid front block fits e;
  part = (
    rest,
    some,
    record {
      front = front ++ part.front;
      splits = ap (λ xs. front ++ xs) part.splits ∙ sym (append_assoc front part.front rest);
      appends = Appends-trans old mid new front part.front a part.appends;
    },
  );
}
