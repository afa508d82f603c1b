-- Where contents stand that were read.
use Rattle.std.proofs.Common.{◌≡◌, ℕ, ◌+◌, ◌≤◌, List, [], ◌∷◌, ◌++◌, length, Option, Some, None, option_map, Result, Ok, Err, Bor, refl, sym, ap, subst, ◌∙◌, arith, append_assoc, length-append}
use Rattle.std.specs.Prelude.{IfOk}
use Rattle.std.proofs.lemmas.List.{append-nil}
use Rattle.ipld_cid.specs.Bytes.{bytes_of}
use Rattle.ipld_cid.specs.LinkOf.{link_of}
use Rattle.ipld_cid.specs.Multihash.{IsBytes}
use Rattle.ipld_cid.proofs.Encodings.{one_encoding}
use Rattle.dag_pb.specs.declared.error.Fault.{Fault}
use Rattle.dag_pb.specs.declared.link.PlacedLink.{PlacedLink}
use Rattle.dag_pb.specs.declared.reader.NodeField.{NodeField}
use Rattle.dag_pb.specs.declared.reader.NodeField.TheVariants.{Link, Data}
use Rattle.dag_pb.specs.declared.reader.Stage.{Stage}
use Rattle.dag_pb.specs.declared.spans.PbSpan.{PbSpan}
use Rattle.dag_pb.specs.declared.spans.PbLinkSpans.{PbLinkSpans}
use Rattle.dag_pb.specs.declared.spans.PbNodeSpans.{PbNodeSpans}
use Rattle.pb_wire.specs.Steps.{◌>>=◌}
use Rattle.pb_wire.specs.Wire.{IsVarint, IsContent}
use Rattle.dag_pb.specs.Node.{LinkParts, NodeParts, IsName}
use Rattle.dag_pb.specs.LinkReading.{read_hash, read_name, read_end}
use Rattle.pb_wire.specs.Reading.{number_field}
use Rattle.dag_pb.specs.NodeReading.{Field, link, content, with_field, first_some, joined, empty_node}
use Rattle.dag_pb.specs.Views.{parts_of_link, part_of}
use Rattle.dag_pb.specs.Spans.{StandsAt, MayStandAt, LinkStandsAt, LinksStandAt, NodeStandsAt, EndsAt, MayEndAt, LinkIsAt, SpannedField, spanned_link, spanned_data, FieldIsAt, FieldsAreAt, links_among, link_spans_among, data_among, last_or, span_before, spans_of_link, LinkEndsBefore, BeginsBehindKey, BeginsWithField, Spans}
use Rattle.dag_pb.specs.Lemmas.LinkLaws.{hash_sound, name_sound, end_sound, link_parts}
use Rattle.pb_wire.proofs.Fields.{field_parts}
use Rattle.pb_wire.proofs.Optional.{number_sound}

-- ---- what was read

-- a link, all of whose message was read
pub link_ends : (bytes at_name at_tsize at_end : List ℕ) (l : LinkParts) → IsBytes bytes → read_hash bytes ≡ Ok (l.hash, at_name) → read_name at_name ≡ Ok (l.name, at_tsize)
    → number_field 24 at_tsize ≡ Ok (l.tsize, at_end) → read_end at_end ≡ Ok tt → LinkEndsBefore (length at_name) (length at_tsize) 0 l bytes
link_ends bytes at_name at_tsize at_end l whole hash name tsize end =
    let h = hash_sound bytes l.hash at_name whole hash in
    let n = name_sound at_name l.name at_tsize h.front.rest_fits name in
    let t = number_sound 3 at_tsize l.tsize at_end n.rest_fits tsize in
    let none = end_sound at_end end in
    let last : at_tsize ≡ t.taken = t.parts ∙ ap (λ (x : List ℕ). t.taken ++ x) none ∙ append-nil t.taken in
    record {
      cid = h.cid;
      hash = h.front.taken;
      name = n.taken;
      tsize = t.taken;
      cid_encoded = h.cid_encoded;
      hash_encoded = h.front.is;
      name_encoded = n.is;
      tsize_encoded = t.is;
      encoded = link_parts bytes h.front.taken at_name n.taken at_tsize t.taken at_end h.front.parts n.parts t.parts none;
      behind_hash = omega (arith, ap length n.parts, length-append n.taken at_tsize, ap length last);
      behind_name = omega (arith, ap length last);
    }

-- a link, behind which more follows
pub link_more : (hash name : ℕ) (l : LinkParts) (message rest : List ℕ) → LinkEndsBefore hash name 0 l message → LinkEndsBefore (hash + length rest) (name + length rest) (length rest) l message
link_more hash name l message rest is = record {
  cid = is.cid;
  hash = is.hash;
  name = is.name;
  tsize = is.tsize;
  cid_encoded = is.cid_encoded;
  hash_encoded = is.hash_encoded;
  name_encoded = is.name_encoded;
  tsize_encoded = is.tsize_encoded;
  encoded = is.encoded;
  behind_hash = omega (arith, is.behind_hash);
  behind_name = omega (arith, is.behind_name);
}

-- a key before the length and the content
with_key : (number : ℕ) (key bytes after rest : List ℕ) (f : NodeField) → IsVarint number key → bytes ≡ key ++ after → BeginsBehindKey number f after rest → BeginsWithField f bytes rest
with_key number key bytes after rest (Link l) encoded parts is = (
  is.2,
  key ++ (is.1 ++ is.2),
  record { key = key; size = is.1; key_encoded = subst (λ (n : ℕ). IsVarint n key) is.0 encoded; size_encoded = is.3; encoded = refl },
  parts ∙ ap (λ (x : List ℕ). key ++ x) is.4 ∙ sym (field_parts key is.1 is.2 rest),
  is.5,
)
with_key number key bytes after rest (Data d) encoded parts is = (
  key ++ (is.1 ++ d.now),
  record { key = key; size = is.1; key_encoded = subst (λ (n : ℕ). IsVarint n key) is.0 encoded; size_encoded = is.2; encoded = refl },
  parts ∙ ap (λ (x : List ℕ). key ++ x) is.3 ∙ sym (field_parts key is.1 d.now rest),
)

-- of a field that was found
pub found_behind : (number : ℕ) (key bytes after : List ℕ) (result : Result (NodeField × Stage × Bor (List ℕ)) Fault) → IsVarint number key → bytes ≡ key ++ after
    → IfOk result (λ found. BeginsBehindKey number found.0 after found.2.now) → IfOk result (λ found. BeginsWithField found.0 bytes found.2.now)
found_behind number key bytes after (Ok found) encoded parts is = with_key number key bytes after found.2.now found.0 encoded parts is
found_behind number key bytes after (Err fault) encoded parts is = tt

-- ---- where fields are

-- in a block of so many bytes a content that ends before the last so many
span_ends : (size behind end : ℕ) (c : List ℕ) (len : ℕ) → end + behind ≡ size → len ≡ length c → length c ≤ end → EndsAt end c (span_before size behind len)
span_ends size behind end c len all same within = (omega arith, same)

content_within : (field : ℕ) (c bytes : List ℕ) → IsContent field c bytes → length c ≤ length bytes
content_within field c bytes is = omega (arith, ap length is.encoded, length-append is.key (is.size ++ c), length-append is.size c)

name_ends : (size behind start : ℕ) (o : Option (Bor (List ℕ))) (bytes : List ℕ) → IsName (option_map (λ name. name.now) o) bytes → start + length bytes + behind ≡ size
    → MayEndAt (start + length bytes) (option_map (λ name. name.now) o) (option_map (λ name. span_before size behind (length name.now)) o)
name_ends size behind start None bytes is all = tt
name_ends size behind start (Some name) bytes is all =
    let within = content_within 2 name.now bytes is.1 in
    span_ends size behind (start + length bytes) name.now (length name.now) all refl (omega arith)

-- a link is where it was read
link_is : (size start behind : ℕ) (p : PlacedLink) (message : List ℕ) → start + length message + behind ≡ size → length (bytes_of (link_of p.link.hash)) ≤ 86
    → LinkEndsBefore p.behind_hash p.behind_name behind (parts_of_link p.link) message → LinkIsAt start (parts_of_link p.link) message (spans_of_link size p)
link_is size start behind p message all few is =
    let same : length (bytes_of (link_of p.link.hash)) ≡ length is.cid = ap length (sym (one_encoding 64 is.cid (link_of p.link.hash) is.cid_encoded)) in
    let long : length message ≡ length is.hash + (length is.name + length is.tsize) =
    ap length is.encoded ∙ length-append is.hash (is.name ++ is.tsize) ∙ ap (λ (n : ℕ). length is.hash + n) (length-append is.name is.tsize) in
    let within = content_within 1 is.cid is.hash is.hash_encoded in
    record {
      cid = is.cid;
      hash = is.hash;
      name = is.name;
      tsize = is.tsize;
      cid_encoded = is.cid_encoded;
      hash_encoded = is.hash_encoded;
      name_encoded = is.name_encoded;
      tsize_encoded = is.tsize_encoded;
      encoded = is.encoded;
      hash_at = span_ends size p.behind_hash (start + length is.hash) is.cid (length (bytes_of (link_of p.link.hash))) (omega (arith, is.behind_hash)) same (omega arith);
      short = omega arith;
      name_at = name_ends size p.behind_name (start + length is.hash) p.link.name is.name is.name_encoded (omega (arith, is.behind_name));
      tsize_is = refl;
    }

-- the field that is added, with its spans
abbrev pub spanned : (size behind : ℕ) → NodeField → SpannedField
spanned size behind (Link l) = spanned_link (parts_of_link l.link) (spans_of_link size l)
spanned size behind (Data d) = spanned_data d.now (span_before size behind (length d.now))

-- a CID is short
abbrev pub IsShort : NodeField → Type 0
IsShort (Link l) = length (bytes_of (link_of l.link.hash)) ≤ 86
IsShort (Data d) = Unit {0}

pub spans_short : (size behind : ℕ) (f : NodeField) (old new : PbNodeSpans) → Spans size behind f old new → IsShort f
spans_short size behind (Link l) old new is = is.2
spans_short size behind (Data d) old new is = tt

-- a field is where it was read
pub field_is : (size start : ℕ) (f : NodeField) (bytes rest : List ℕ) → start + length bytes ≡ size → IsShort f → BeginsWithField f bytes rest
    → (first : List ℕ) × FieldIsAt start (spanned size (length rest) f) first × (bytes ≡ first ++ rest)
field_is size start (Link l) bytes rest all few is =
    let field = is.2 in
    let long : length is.1 ≡ length field.key + (length field.size + length is.0) =
    ap length field.encoded ∙ length-append field.key (field.size ++ is.0) ∙ ap (λ (n : ℕ). length field.key + n) (length-append field.size is.0) in
    let whole : length bytes ≡ length is.1 + length rest = ap length is.3 ∙ length-append is.1 rest in
    (is.1, (is.0, field, link_is size (start + length field.key + length field.size) (length rest) l is.0 (omega arith) few is.4), is.3)
field_is size start (Data d) bytes rest all few is =
    let whole : length bytes ≡ length is.0 + length rest = ap length is.2 ∙ length-append is.0 rest in
    let within = content_within 1 d.now is.0 is.1 in
    (is.0, (is.1, span_ends size (length rest) (start + length is.0) d.now (length d.now) (omega arith) refl (omega arith)), is.2)

-- ---- fields, one after another

-- a field behind others
pub fields_more : (start : ℕ) (fs : List SpannedField) (front : List ℕ) (f : SpannedField) (first : List ℕ) → FieldsAreAt start fs front → FieldIsAt (start + length front) f first
    → FieldsAreAt start (fs ++ f ∷ []) (front ++ first)
fields_more start [] front f first are is =
    let empty : length front ≡ 0 = ap length are in
    (first, [], subst (λ (n : ℕ). FieldIsAt n f first) (omega arith) is, refl, ap (λ (x : List ℕ). x ++ first) are ∙ sym (append-nil first))
fields_more start (g ∷ fs) front f first are is =
    let long : length front ≡ length are.0 + length are.1 = ap length are.4 ∙ length-append are.0 are.1 in (
      are.0,
      are.1 ++ first,
      are.2,
      fields_more (start + length are.0) fs are.1 f first are.3 (subst (λ (n : ℕ). FieldIsAt n f first) (omega arith) is),
      ap (λ (x : List ℕ). x ++ first) are.4 ∙ append_assoc are.0 are.1 first,
    )

-- the node of fields
abbrev pub node_of : List SpannedField → NodeParts
node_of fs = record { links = links_among fs; content = option_map (λ d. d.0) (data_among fs) }

abbrev pub field_of : SpannedField → Field
field_of (spanned_link l s) = link l
field_of (spanned_data d s) = content d

-- the spans are those of fields
pub record Are (fs : List SpannedField) (s : PbNodeSpans) : Type 0 where
  pub links : s.links.items ≡ link_spans_among fs
  pub content : s.data ≡ option_map (λ d. d.1) (data_among fs)

links_last : (fs : List SpannedField) (l : LinkParts) (s : PbLinkSpans) → links_among (fs ++ spanned_link l s ∷ []) ≡ links_among fs ++ l ∷ []
links_last [] l s = refl
links_last (spanned_link k t ∷ fs) l s = ap (λ (x : List LinkParts). k ∷ x) (links_last fs l s)
links_last (spanned_data d t ∷ fs) l s = links_last fs l s

links_same : (fs : List SpannedField) (d : List ℕ) (s : PbSpan) → links_among (fs ++ spanned_data d s ∷ []) ≡ links_among fs
links_same [] d s = refl
links_same (spanned_link k t ∷ fs) d s = ap (λ (x : List LinkParts). k ∷ x) (links_same fs d s)
links_same (spanned_data c t ∷ fs) d s = links_same fs d s

spans_last : (fs : List SpannedField) (l : LinkParts) (s : PbLinkSpans) → link_spans_among (fs ++ spanned_link l s ∷ []) ≡ link_spans_among fs ++ s ∷ []
spans_last [] l s = refl
spans_last (spanned_link k t ∷ fs) l s = ap (λ (x : List PbLinkSpans). t ∷ x) (spans_last fs l s)
spans_last (spanned_data d t ∷ fs) l s = spans_last fs l s

spans_same : (fs : List SpannedField) (d : List ℕ) (s : PbSpan) → link_spans_among (fs ++ spanned_data d s ∷ []) ≡ link_spans_among fs
spans_same [] d s = refl
spans_same (spanned_link k t ∷ fs) d s = ap (λ (x : List PbLinkSpans). t ∷ x) (spans_same fs d s)
spans_same (spanned_data c t ∷ fs) d s = spans_same fs d s

data_same : (fs : List SpannedField) (l : LinkParts) (s : PbLinkSpans) → data_among (fs ++ spanned_link l s ∷ []) ≡ data_among fs
data_same [] l s = refl
data_same (spanned_link k t ∷ fs) l s = data_same fs l s
data_same (spanned_data d t ∷ fs) l s = ap (λ (o : Option (List ℕ × PbSpan)). Some (last_or (d, t) o)) (data_same fs l s)

data_last : (fs : List SpannedField) (d : List ℕ) (s : PbSpan) → data_among (fs ++ spanned_data d s ∷ []) ≡ Some (d, s)
data_last [] d s = refl
data_last (spanned_link k t ∷ fs) d s = data_last fs d s
data_last (spanned_data c t ∷ fs) d s = ap (λ (o : Option (List ℕ × PbSpan)). Some (last_or (c, t) o)) (data_last fs d s)

-- a field more
pub are_more : (size behind : ℕ) (fs : List SpannedField) (f : NodeField) (old new : PbNodeSpans) → Are fs old → Spans size behind f old new → Are (fs ++ spanned size behind f ∷ []) new
are_more size behind fs (Link l) old new are is = record {
  links = is.0 ∙ ap (λ (x : List PbLinkSpans). x ++ spans_of_link size l ∷ []) are.links ∙ sym (spans_last fs (parts_of_link l.link) (spans_of_link size l));
  content = is.1 ∙ are.content ∙ sym (ap (option_map (λ d. d.1)) (data_same fs (parts_of_link l.link) (spans_of_link size l)));
}
are_more size behind fs (Data d) old new are is =
    let s = span_before size behind (length d.now) in
    record {
      links = is.0 ∙ are.links ∙ sym (spans_same fs d.now s);
      content = is.1 ∙ sym (ap (option_map (λ d. d.1)) (data_last fs d.now s));
    }

same_content : (o : Option (List ℕ)) (d : List ℕ) (p : Option (List ℕ)) → first_some (first_some o (Some d)) p ≡ first_some o (Some d)
same_content None d p = refl
same_content (Some c) d p = refl

node_more : (fs : List SpannedField) (f : SpannedField) (rest : NodeParts) → joined (node_of fs) (with_field (field_of f) rest) ≡ joined (node_of (fs ++ f ∷ [])) rest
node_more fs (spanned_link l s) rest =
    rw (links_last fs l s, data_same fs l s) (ap (λ (ls : List LinkParts). record { links = ls; content = first_some rest.content (option_map (λ d. d.0) (data_among fs)) }) (sym (append_assoc (links_among fs) (l ∷ []) rest.links)))
node_more fs (spanned_data d s) rest =
    rw (links_same fs d s, data_last fs d s) (ap (λ (o : Option (List ℕ)). record { links = links_among fs ++ rest.links; content = o }) (same_content rest.content d (option_map (λ d. d.0) (data_among fs))))

-- a field behind those that came
pub joined_last : (size behind : ℕ) (f : NodeField) (fs : List SpannedField) (rest : NodeParts) → joined (node_of fs) (with_field (part_of f) rest) ≡ joined (node_of (fs ++ spanned size behind f ∷ [])) rest
joined_last size behind (Link l) fs rest = node_more fs (spanned_link (parts_of_link l.link) (spans_of_link size l)) rest
joined_last size behind (Data d) fs rest = node_more fs (spanned_data d.now (span_before size behind (length d.now))) rest

first_none : (o : Option (List ℕ)) → first_some o None ≡ o
first_none None = refl
first_none (Some c) = refl

-- before all fields
pub joined_first : (r : Result NodeParts Fault) → (r >>= λ rest. Ok (joined empty_node rest)) ≡ r
joined_first (Ok n) = ap (λ (o : Option (List ℕ)). Ok (record { links = n.links; content = o })) (first_none n.content)
joined_first (Err e) = refl

-- ---- the contents

stands : (before c behind all : List ℕ) (end : ℕ) (span : PbSpan) → all ≡ before ++ (c ++ behind) → end ≡ length before + length c → EndsAt end c span → StandsAt c all span
stands before c behind all end span parts is at = record { before = before; behind = behind; parts = parts; begins = omega (arith, at.0); long = at.1 }

in_field : (front key size c rest : List ℕ) → front ++ ((key ++ (size ++ c)) ++ rest) ≡ (front ++ (key ++ size)) ++ (c ++ rest)
in_field front key size c rest = simp append_assoc

content_stands : (field : ℕ) (c bytes front rest all : List ℕ) (end : ℕ) (span : PbSpan) → IsContent field c bytes → all ≡ front ++ (bytes ++ rest) → end ≡ length front + length bytes → EndsAt end c span
    → StandsAt c all span
content_stands field c bytes front rest all end span is parts same at =
    let before = front ++ (is.key ++ is.size) in
    let long : length bytes ≡ length is.key + (length is.size + length c) =
    ap length is.encoded ∙ length-append is.key (is.size ++ c) ∙ ap (λ (n : ℕ). length is.key + n) (length-append is.size c) in
    let begun : length before ≡ length front + (length is.key + length is.size) = length-append front (is.key ++ is.size) ∙ ap (λ (n : ℕ). length front + n) (length-append is.key is.size) in
    stands before c rest all end span (parts ∙ ap (λ (x : List ℕ). front ++ (x ++ rest)) is.encoded ∙ in_field front is.key is.size c rest) (omega arith) at

name_stands : (o : Option (List ℕ)) (bytes front rest all : List ℕ) (end : ℕ) (span : Option PbSpan) → IsName o bytes → all ≡ front ++ (bytes ++ rest) → end ≡ length front + length bytes → MayEndAt end o span
    → MayStandAt o all span
name_stands None bytes front rest all end None is parts same at = tt
name_stands None bytes front rest all end (Some span) is parts same at = absurd at
name_stands (Some name) bytes front rest all end None is parts same at = absurd at
name_stands (Some name) bytes front rest all end (Some span) is parts same at = content_stands 2 name bytes front rest all end span is.1 parts same at

in_message : (front hash name tsize rest : List ℕ) → front ++ ((hash ++ (name ++ tsize)) ++ rest) ≡ front ++ (hash ++ ((name ++ tsize) ++ rest))
in_message front hash name tsize rest = simp append_assoc

behind_hash : (front hash name tsize rest : List ℕ) → front ++ ((hash ++ (name ++ tsize)) ++ rest) ≡ (front ++ hash) ++ (name ++ (tsize ++ rest))
behind_hash front hash name tsize rest = simp append_assoc

link_stands : (l : LinkParts) (s : PbLinkSpans) (message front rest all : List ℕ) (start : ℕ) → all ≡ front ++ (message ++ rest) → start ≡ length front → LinkIsAt start l message s → LinkStandsAt l all s
link_stands l s message front rest all start parts begins is =
    let whole = parts ∙ ap (λ (x : List ℕ). front ++ (x ++ rest)) is.encoded in
    let behind : length (front ++ is.hash) ≡ length front + length is.hash = length-append front is.hash in
    record {
      cid = is.cid;
      cid_encoded = is.cid_encoded;
      hash = content_stands 1 is.cid is.hash front ((is.name ++ is.tsize) ++ rest) all (start + length is.hash) s.hash is.hash_encoded (whole ∙ in_message front is.hash is.name is.tsize rest) (omega arith) is.hash_at;
      short = omega (arith, is.short, is.hash_at.1);
      name = name_stands l.name is.name (front ++ is.hash) (is.tsize ++ rest) all (start + length is.hash + length is.name) s.name is.name_encoded
          (whole ∙ behind_hash front is.hash is.name is.tsize rest) (omega arith) is.name_at;
      tsize = is.tsize_is;
    }

-- data that came later
data_stands : (d : List ℕ) (s : PbSpan) (o : Option (List ℕ × PbSpan)) (all : List ℕ) → StandsAt d all s → MayStandAt (option_map (λ x. x.0) o) all (option_map (λ x. x.1) o)
    → StandsAt (last_or (d, s) o).0 all (last_or (d, s) o).1
data_stands d s None all here later = here
data_stands d s (Some x) all here later = later

regrouped : (front first rest behind : List ℕ) → front ++ ((first ++ rest) ++ behind) ≡ (front ++ first) ++ (rest ++ behind)
regrouped front first rest behind = simp append_assoc

within_first : (front first rest behind : List ℕ) → front ++ ((first ++ rest) ++ behind) ≡ front ++ (first ++ (rest ++ behind))
within_first front first rest behind = simp append_assoc

fields_stand : (fs : List SpannedField) (bytes front behind all : List ℕ) (start : ℕ) → all ≡ front ++ (bytes ++ behind) → start ≡ length front → FieldsAreAt start fs bytes
    → LinksStandAt (links_among fs) all (link_spans_among fs) × MayStandAt (option_map (λ x. x.0) (data_among fs)) all (option_map (λ x. x.1) (data_among fs))
fields_stand [] bytes front behind all start parts begins are = (tt, tt)
fields_stand (spanned_link l s ∷ fs) bytes front behind all start parts begins are =
    let whole = parts ∙ ap (λ (x : List ℕ). front ++ (x ++ behind)) are.4 in
    let longer : length (front ++ are.0) ≡ length front + length are.0 = length-append front are.0 in
    let others = fields_stand fs are.1 (front ++ are.0) behind all (start + length are.0) (whole ∙ regrouped front are.0 are.1 behind) (omega arith) are.3 in
    let field = are.2.1 in
    let before : length (front ++ (field.key ++ field.size)) ≡ length front + (length field.key + length field.size) =
    length-append front (field.key ++ field.size) ∙ ap (λ (n : ℕ). length front + n) (length-append field.key field.size) in
    let here = link_stands l s are.2.0 (front ++ (field.key ++ field.size)) (are.1 ++ behind) all (start + length field.key + length field.size)
    (whole ∙ within_first front are.0 are.1 behind ∙ ap (λ (x : List ℕ). front ++ (x ++ (are.1 ++ behind))) field.encoded ∙ in_field front field.key field.size are.2.0 (are.1 ++ behind)) (omega arith) are.2.2 in
    ((here, others.0), others.1)
fields_stand (spanned_data d s ∷ fs) bytes front behind all start parts begins are =
    let whole = parts ∙ ap (λ (x : List ℕ). front ++ (x ++ behind)) are.4 in
    let longer : length (front ++ are.0) ≡ length front + length are.0 = length-append front are.0 in
    let others = fields_stand fs are.1 (front ++ are.0) behind all (start + length are.0) (whole ∙ regrouped front are.0 are.1 behind) (omega arith) are.3 in
    let here = content_stands 1 d are.0 front (are.1 ++ behind) all (start + length are.0) s are.2.0 (whole ∙ within_first front are.0 are.1 behind) (omega arith) are.2.1 in
    (others.0, data_stands d s (data_among fs) all here others.1)

-- of a whole block
pub node_stands : (fs : List SpannedField) (bytes : List ℕ) (s : PbNodeSpans) → FieldsAreAt 0 fs bytes → Are fs s → NodeStandsAt (node_of fs) bytes s
node_stands fs bytes s are is =
    let both = fields_stand fs bytes [] [] bytes 0 (sym (append-nil bytes)) refl are in
    record {
      links = subst (LinksStandAt (links_among fs) bytes) (sym is.links) both.0;
      content = subst (MayStandAt (option_map (λ x. x.0) (data_among fs)) bytes) (sym is.content) both.1;
    }
