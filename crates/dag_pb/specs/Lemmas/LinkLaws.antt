-- Links: what is read is encoded, and what is encoded is read.
use Rattle.std.proofs.Common.{◌≡◌, ℕ, ◌+◌, List, [], ◌∷◌, ◌++◌, length, Option, Some, None, Result, Ok, Err, inl, refl, sym, ap, subst, ◌∙◌, arith}
use Rattle.std.proofs.lemmas.List.{append-nil}
use Rattle.ipld_cid.specs.declared.error.CidError.{CidError}
use Rattle.ipld_cid.specs.Cid.{Link}
use Rattle.ipld_cid.specs.Bytes.{IsCid, read_cid}
use Rattle.ipld_cid.specs.Multihash.{IsBytes}
use Rattle.ipld_cid.proofs.Encodings.{read_is_encoded, encoded_is_read}
use Rattle.pb_wire.specs.declared.error.WireError.{WireError}
use Rattle.dag_pb.specs.declared.error.PbErrorKind.{PbErrorKind}
use Rattle.pb_wire.specs.Steps.{◌>>=◌}
use Rattle.dag_pb.specs.Errors.{at, kind_of, of_wire}
use Rattle.pb_wire.specs.Wire.{IsContent, IsNumberOf, IsContentOf}
use Rattle.dag_pb.specs.Node.{LinkParts, IsName, IsLink}
use Rattle.pb_wire.specs.Reading.{read_varint, after_key, number_field, content_field}
use Rattle.dag_pb.specs.LinkReading.{hash_in, hash_of, read_hash, text_in, name_of, read_name, misplaced, read_end, read_link}
use Rattle.dag_pb.specs.Lemmas.Names.{text_read, text_sound}
use Rattle.pb_wire.proofs.Steps.{bind_ok, same_ok, with_error_ok}
use Rattle.pb_wire.proofs.Varints.{Front}
use Rattle.pb_wire.proofs.Fields.{ContentFront}
use Rattle.pb_wire.proofs.Optional.{ContentOfFront, content_field_sound, content_field_complete, content_there, number_sound, number_complete, from_number, no_key}
use Rattle.dag_pb.specs.Lemmas.FieldSteps.{at_ok, at_wire_ok}

-- ---- the hash

-- a field of a CID
pub record HashFront (link : Link) (bytes rest : List ℕ) : Type 0 where
  pub cid : List ℕ
  pub cid_encoded : IsCid 64 cid link
  pub front : ContentFront 1 cid bytes rest

hash_in-ok : (read : Result Link CidError) (rest : List ℕ) (x : Link × List ℕ) → hash_in read rest ≡ Ok x → (read ≡ Ok x.0) × (rest ≡ x.1)
hash_in-ok (Ok link) rest x e = same_ok (λ (p : Link × List ℕ). (◌≡◌ {A = Result Link CidError} (Ok link) (Ok p.0)) × (rest ≡ p.1)) (link, rest) x e (refl, refl)
hash_in-ok (Err error) rest x e = absurd cc

hash_found : (bytes : List ℕ) (found : Option (List ℕ)) (after : List ℕ) (link : Link) (rest : List ℕ) → ContentOfFront 1 found bytes after → hash_of found after ≡ Ok (link, rest) → HashFront link bytes rest
hash_found bytes None after link rest front e = absurd cc
hash_found bytes (Some content) after link rest front e =
    let read = hash_in-ok (read_cid 64 content) after (link, rest) e in
    let field : ContentFront 1 content bytes after = record { taken = front.taken; is = front.is; parts = front.parts; content_fits = front.content_fits; rest_fits = front.rest_fits } in
    record {
      cid = content;
      cid_encoded = read_is_encoded 64 content link front.content_fits read.0;
      front = subst (λ (r : List ℕ). ContentFront 1 content bytes r) read.1 field;
    }

pub hash_sound : (bytes : List ℕ) (link : Link) (rest : List ℕ) → IsBytes bytes → read_hash bytes ≡ Ok (link, rest) → HashFront link bytes rest
unfolding read_hash
hash_sound bytes link rest whole e =
    let found = bind_ok (of_wire (content_field 10 bytes)) (λ found. hash_of found.0 found.1) (link, rest) e in
    let front = content_field_sound 1 bytes found.0.0 found.0.1 whole (with_error_ok kind_of (content_field 10 bytes) found.0 found.1) in
    hash_found bytes found.0.0 found.0.1 link rest front found.2

hash_complete : (cid taken rest : List ℕ) (link : Link) → IsCid 64 cid link → IsContent 1 cid taken → read_hash (taken ++ rest) ≡ Ok (link, rest)
unfolding read_hash
hash_complete cid taken rest link encoded is =
    ap (λ (r : Result (Option (List ℕ) × List ℕ) WireError). of_wire r >>= λ found. hash_of found.0 found.1) (content_there 1 cid taken rest is)
    ∙ ap (λ (r : Result Link CidError). hash_in r rest) (encoded_is_read 64 cid link encoded)

-- ---- the name

name_found : (bytes : List ℕ) (found : Option (List ℕ)) (after : List ℕ) (name : Option (List ℕ)) (rest : List ℕ) → ContentOfFront 2 found bytes after → name_of found after ≡ Ok (name, rest) → Front (IsName name) bytes rest
name_found bytes None after name rest front e =
    same_ok (λ (p : Option (List ℕ) × List ℕ). Front (IsName p.0) bytes p.1) (None, after) (name, rest) e
    (record { taken = front.taken; is = front.is; parts = front.parts; rest_fits = front.rest_fits })
name_found bytes (Some content) after name rest front e =
    let text = bind_ok (text_in content) (λ name. Ok (Some name, after)) (name, rest) e in
    let said = text_sound content text.0 text.1 in
    same_ok (λ (p : Option (List ℕ) × List ℕ). Front (IsName p.0) bytes p.1) (Some text.0, after) (name, rest) text.2
    (record {
      taken = front.taken;
      is = subst (λ (t : List ℕ). IsName (Some t) front.taken) (sym said.0) (said.1, front.is);
      parts = front.parts;
      rest_fits = front.rest_fits;
    })

pub name_sound : (bytes : List ℕ) (name : Option (List ℕ)) (rest : List ℕ) → IsBytes bytes → read_name bytes ≡ Ok (name, rest) → Front (IsName name) bytes rest
unfolding read_name
name_sound bytes name rest whole e =
    let found = bind_ok (of_wire (content_field 18 bytes)) (λ found. name_of found.0 found.1) (name, rest) e in
    let front = content_field_sound 2 bytes found.0.0 found.0.1 whole (with_error_ok kind_of (content_field 18 bytes) found.0 found.1) in
    name_found bytes found.0.0 found.0.1 name rest front found.2

-- the field of a name
name_field : (name : Option (List ℕ)) (taken : List ℕ) → IsName name taken → IsContentOf 2 name taken
name_field None taken is = is
name_field (Some name) taken is = is.1

-- what the code makes of a name
named : (name : Option (List ℕ)) (taken rest : List ℕ) → IsName name taken → name_of name rest ≡ Ok (name, rest)
named None taken rest is = refl
named (Some name) taken rest is = ap (λ (r : Result (List ℕ) PbErrorKind). r >>= λ name. Ok (Some name, rest)) (text_read name name refl is.0)

name_complete : (name : Option (List ℕ)) (taken rest : List ℕ) → IsName name taken → after_key 18 rest ≡ Ok None → read_name (taken ++ rest) ≡ Ok (name, rest)
unfolding read_name
name_complete name taken rest is none =
    ap (λ (r : Result (Option (List ℕ) × List ℕ) WireError). of_wire r >>= λ found. name_of found.0 found.1) (content_field_complete 2 name taken rest (name_field name taken is) none)
    ∙ named name taken rest is

-- a size isn't a name
no_name : (tsize : Option ℕ) (taken : List ℕ) → IsNumberOf 3 tsize taken → after_key 18 (taken ++ []) ≡ Ok None
no_name tsize taken is = no_key 18 24 (taken ++ []) (omega arith) (from_number 3 24 tsize taken [] is (omega arith) (inl refl))

-- ---- the link

pub end_sound : (bytes : List ℕ) → read_end bytes ≡ Ok tt → bytes ≡ []
unfolding read_end
end_sound [] e = refl
end_sound (b ∷ bytes) e =
    let found = bind_ok (of_wire (read_varint (b ∷ bytes))) (λ found. Err (misplaced found.0)) tt e in
    absurd cc

-- the bytes of a link, put together
pub link_parts : (bytes hash rest name more tsize last : List ℕ) → bytes ≡ hash ++ rest → rest ≡ name ++ more → more ≡ tsize ++ last → last ≡ [] → bytes ≡ hash ++ (name ++ tsize)
link_parts bytes hash rest name more tsize last a b c d =
    a ∙ ap (λ (x : List ℕ). hash ++ x) (b ∙ ap (λ (x : List ℕ). name ++ x) (c ∙ ap (λ (x : List ℕ). tsize ++ x) d ∙ append-nil tsize))

pub link_sound : (bytes : List ℕ) (link : LinkParts) → IsBytes bytes → read_link bytes ≡ Ok link → IsLink link bytes
unfolding read_link
link_sound bytes link whole e =
    let hash = bind_ok (at (length bytes) (read_hash bytes)) (λ hash.
    at (length hash.1) (read_name hash.1) >>= λ name.
    at (length name.1) (of_wire (number_field 24 name.1)) >>= λ tsize.
    at (length tsize.1) (read_end tsize.1) >>= λ end.
    Ok (record { hash = hash.0; name = name.0; tsize = tsize.0 })) link e in
    let name = bind_ok (at (length hash.0.1) (read_name hash.0.1)) (λ name.
    at (length name.1) (of_wire (number_field 24 name.1)) >>= λ tsize.
    at (length tsize.1) (read_end tsize.1) >>= λ end.
    Ok (record { hash = hash.0.0; name = name.0; tsize = tsize.0 })) link hash.2 in
    let tsize = bind_ok (at (length name.0.1) (of_wire (number_field 24 name.0.1))) (λ tsize.
    at (length tsize.1) (read_end tsize.1) >>= λ end.
    Ok (record { hash = hash.0.0; name = name.0.0; tsize = tsize.0 })) link name.2 in
    let end = bind_ok (at (length tsize.0.1) (read_end tsize.0.1)) (λ end.
    Ok (record { hash = hash.0.0; name = name.0.0; tsize = tsize.0.0 })) link tsize.2 in
    let hashed = hash_sound bytes hash.0.0 hash.0.1 whole (at_ok (length bytes) (read_hash bytes) hash.0 hash.1) in
    let named = name_sound hash.0.1 name.0.0 name.0.1 hashed.front.rest_fits (at_ok (length hash.0.1) (read_name hash.0.1) name.0 name.1) in
    let sized = number_sound 3 name.0.1 tsize.0.0 tsize.0.1 named.rest_fits (at_wire_ok (length name.0.1) (number_field 24 name.0.1) tsize.0 tsize.1) in
    let ended = end_sound tsize.0.1 (at_ok (length tsize.0.1) (read_end tsize.0.1) end.0 end.1) in
    same_ok (λ (l : LinkParts). IsLink l bytes) (record { hash = hash.0.0; name = name.0.0; tsize = tsize.0.0 }) link end.2 (record {
      cid = hashed.cid;
      hash = hashed.front.taken;
      name = named.taken;
      tsize = sized.taken;
      cid_encoded = hashed.cid_encoded;
      hash_encoded = hashed.front.is;
      name_encoded = named.is;
      tsize_encoded = sized.is;
      encoded = link_parts bytes hashed.front.taken hash.0.1 named.taken name.0.1 sized.taken tsize.0.1 hashed.front.parts named.parts sized.parts ended;
    })

-- with nothing after the size
regrouped : (hash name tsize : List ℕ) → hash ++ (name ++ tsize) ≡ hash ++ (name ++ (tsize ++ []))
regrouped hash name tsize = ap (λ (x : List ℕ). hash ++ (name ++ x)) (sym (append-nil tsize))

read_whole : (link : LinkParts) (cid hash name tsize : List ℕ) → IsCid 64 cid link.hash → IsContent 1 cid hash → IsName link.name name → IsNumberOf 3 link.tsize tsize
    → read_link (hash ++ (name ++ (tsize ++ []))) ≡ Ok link
unfolding read_link read_end after_key
read_whole link cid hash name tsize encoded is_hash is_name is_tsize =
    rw (
      hash_complete cid hash (name ++ (tsize ++ [])) link.hash encoded is_hash,
      name_complete link.name name (tsize ++ []) is_name (no_name link.tsize tsize is_tsize),
      number_complete 3 link.tsize tsize [] is_tsize refl,
    ) refl

pub link_complete : (bytes : List ℕ) (link : LinkParts) → IsLink link bytes → read_link bytes ≡ Ok link
link_complete bytes link is =
    ap read_link (is.encoded ∙ regrouped is.hash is.name is.tsize)
    ∙ read_whole link is.cid is.hash is.name is.tsize is.cid_encoded is.hash_encoded is.name_encoded is.tsize_encoded
