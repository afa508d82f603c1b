-- Nodes: what is read is encoded, and what is encoded is read.
use Rattle.std.proofs.Common.{◌≡◌, ℕ, zero, suc, ◌+◌, ◌≤◌, List, [], ◌∷◌, ◌++◌, length, Option, Some, None, Result, Ok, Err, inl, inr, refl, sym, ap, subst, ◌∙◌, arith, append_assoc}
use Rattle.std.proofs.lemmas.Bool.{cases_eq}
use Rattle.std.proofs.lemmas.List.{append-nil}
use Rattle.ipld_cid.specs.Multihash.{IsBytes}
use Rattle.dag_pb.specs.declared.error.PbErrorKind.TheVariants.{UnknownField}
use Rattle.dag_pb.specs.declared.error.Fault.{Fault}
use Rattle.dag_pb.specs.declared.reader.Stage.{Stage}
use Rattle.dag_pb.specs.declared.reader.Stage.TheVariants.{Nothing, Links, Data, LinksAndData}
use Rattle.pb_wire.specs.Steps.{◌>>=◌}
use Rattle.dag_pb.specs.Errors.{at, of_wire, before}
use Rattle.pb_wire.specs.Wire.{IsVarint, IsContent, IsContentOf}
use Rattle.dag_pb.specs.Node.{LinkParts, NodeParts, IsLink, BeginsWithLink, IsLinks, IsNode}
use Rattle.pb_wire.specs.Reading.{read_varint, read_content}
use Rattle.dag_pb.specs.LinkReading.{read_link}
use Rattle.dag_pb.specs.NodeReading.{Field, link, content, after_link, after_data, link_field, data_field, link_part, data_part, keyed, read_part, empty_node, first_some, with_field, run, read_fields, in_block, read_node}
use Rattle.pb_wire.proofs.Steps.{bind_ok, same_ok}
use Rattle.pb_wire.proofs.Varints.{Front, varint_sound, varint_complete}
use Rattle.pb_wire.proofs.Fields.{content_sound, content_complete, other_key, ContentFront, content_front, content_opened, content_has_byte}
use Rattle.dag_pb.specs.Lemmas.FieldSteps.{at_wire_ok, before_ok, ends, goes_on, part_shorter}
use Rattle.dag_pb.specs.Lemmas.LinkLaws.{link_sound, link_complete}

-- ---- one field that was read

-- a link that may come, at the front
pub record LinkFront (stage : Stage) (bytes : List ℕ) (l : LinkParts) (next : Stage) (rest : List ℕ) : Type 0 where
  pub allowed : after_link stage ≡ Some next
  pub begins : BeginsWithLink l bytes rest
  pub rest_fits : IsBytes rest

-- data that may come, at the front
pub record DataFront (stage : Stage) (bytes d : List ℕ) (next : Stage) (rest : List ℕ) : Type 0 where
  pub allowed : after_data stage ≡ Some next
  pub front : ContentFront 1 d bytes rest

-- the field at the front
abbrev pub PartFront : Stage → List ℕ → Field → Stage → List ℕ → Type 0
PartFront stage bytes (link l) next rest = LinkFront stage bytes l next rest
PartFront stage bytes (content d) next rest = DataFront stage bytes d next rest

link_part_sound : (stage : Stage) (left : ℕ) (bytes after : List ℕ) (allowed : Option Stage) (f : Field) (next : Stage) (rest : List ℕ)
    → after_link stage ≡ allowed → Front (IsVarint 18) bytes after → link_part left after allowed ≡ Ok (f, next, rest) → PartFront stage bytes f next rest
unfolding link_field
link_part_sound stage left bytes after None f next rest is front e = absurd cc
link_part_sound stage left bytes after (Some stage') f next rest is front e =
    let found = bind_ok (link_field left after) (λ found. Ok (link found.0, stage', found.1)) (f, next, rest) e in
    let sized_in = bind_ok (at left (of_wire (read_content after))) (λ found. before (length found.1) (read_link found.0) >>= λ l. Ok (l, found.1)) found.0 found.1 in
    let read = bind_ok (before (length sized_in.0.1) (read_link sized_in.0.0)) (λ l. Ok (l, sized_in.0.1)) found.0 sized_in.2 in
    let sized = content_sound after sized_in.0.0 sized_in.0.1 front.rest_fits (at_wire_ok left (read_content after) sized_in.0 sized_in.1) in
    let message = link_sound sized_in.0.0 read.0 sized.content_fits (before_ok (length sized_in.0.1) (read_link sized_in.0.0) read.0 read.1) in
    let field = content_front 2 bytes after sized_in.0.0 sized_in.0.1 front sized in
    let here : LinkFront stage bytes read.0 stage' sized_in.0.1 = record {
      allowed = is;
      begins = record { message = sized_in.0.0; field = field.taken; message_encoded = message; field_encoded = field.is; encoded = field.parts };
      rest_fits = field.rest_fits;
    } in
    let there : LinkFront stage bytes found.0.0 stage' found.0.1 = same_ok (λ (p : LinkParts × List ℕ). LinkFront stage bytes p.0 stage' p.1) (read.0, sized_in.0.1) found.0 read.2 here in
    same_ok (λ (p : Field × Stage × List ℕ). PartFront stage bytes p.0 p.1 p.2) (link found.0.0, stage', found.0.1) (f, next, rest) found.2 there

data_part_sound : (stage : Stage) (left : ℕ) (bytes after : List ℕ) (allowed : Option Stage) (f : Field) (next : Stage) (rest : List ℕ)
    → after_data stage ≡ allowed → Front (IsVarint 10) bytes after → data_part left after allowed ≡ Ok (f, next, rest) → PartFront stage bytes f next rest
unfolding data_field
data_part_sound stage left bytes after None f next rest is front e = absurd cc
data_part_sound stage left bytes after (Some stage') f next rest is front e =
    let found = bind_ok (at left (of_wire (read_content after))) (λ found. Ok (content found.0, stage', found.1)) (f, next, rest) e in
    let sized = content_sound after found.0.0 found.0.1 front.rest_fits (at_wire_ok left (read_content after) found.0 found.1) in
    let here : DataFront stage bytes found.0.0 stage' found.0.1 = record { allowed = is; front = content_front 1 bytes after found.0.0 found.0.1 front sized } in
    same_ok (λ (p : Field × Stage × List ℕ). PartFront stage bytes p.0 p.1 p.2) (content found.0.0, stage', found.0.1) (f, next, rest) found.2 here

-- a key that a node doesn't have
keyed_unknown : (stage : Stage) (left key : ℕ) (after : List ℕ) → (key ≡ 18 → ⊥) → (key ≡ 10 → ⊥) → keyed stage left key after ≡ Err (record { kind = UnknownField key; left = left })
keyed_unknown stage left key after other neither = rw (other_key key 18 other, other_key key 10 neither) refl

keyed_sound : (stage : Stage) (left key : ℕ) (bytes after : List ℕ) (f : Field) (next : Stage) (rest : List ℕ)
    → Front (IsVarint key) bytes after → keyed stage left key after ≡ Ok (f, next, rest) → PartFront stage bytes f next rest
keyed_sound stage left key bytes after f next rest front e =
    elim (cases_eq key 18) [
      | inl links ↦
          link_part_sound stage left bytes after (after_link stage) f next rest refl (subst (λ (k : ℕ). Front (IsVarint k) bytes after) links front)
          (subst (λ (k : ℕ). keyed stage left k after ≡ Ok (f, next, rest)) links e)
      | inr other ↦
          elim (cases_eq key 10) [
            | inl data' ↦
                data_part_sound stage left bytes after (after_data stage) f next rest refl (subst (λ (k : ℕ). Front (IsVarint k) bytes after) data' front)
                (subst (λ (k : ℕ). keyed stage left k after ≡ Ok (f, next, rest)) data' e)
            | inr neither ↦ let unknown = keyed_unknown stage left key after other neither in absurd cc
          ]
    ]

pub part_sound : (stage : Stage) (bytes : List ℕ) (f : Field) (next : Stage) (rest : List ℕ) → IsBytes bytes → read_part stage bytes ≡ Ok (f, next, rest) → PartFront stage bytes f next rest
unfolding read_part
part_sound stage bytes f next rest whole e =
    let key = bind_ok (at (length bytes) (of_wire (read_varint bytes))) (λ key. keyed stage (length bytes) key.0 key.1) (f, next, rest) e in
    let front = varint_sound key.0.0 bytes key.0.1 whole (at_wire_ok (length bytes) (read_varint bytes) key.0 key.1) in
    keyed_sound stage (length bytes) key.0.0 bytes key.0.1 f next rest front key.2

-- ---- all fields that were read

-- links, and then data if there are any
record LinksThenData (n : NodeParts) (bytes : List ℕ) : Type 0 where
  links : List ℕ
  content : List ℕ
  links_encoded : IsLinks n.links links
  content_encoded : IsContentOf 1 n.content content
  encoded : bytes ≡ links ++ content

-- what may be left after what came
abbrev Left : Stage → NodeParts → List ℕ → Type 0
Left Nothing n bytes = IsNode n bytes
Left Links n bytes = LinksThenData n bytes
Left Data n bytes = IsLinks n.links bytes × (n.content ≡ None)
Left LinksAndData n bytes = (n ≡ empty_node) × (bytes ≡ [])

-- nothing is left
left_empty : (stage : Stage) → Left stage empty_node []
left_empty Nothing = record { links = []; content = []; links_encoded = refl; content_encoded = refl; encoded = inl refl }
left_empty Links = record { links = []; content = []; links_encoded = refl; content_encoded = refl; encoded = refl }
left_empty Data = (refl, refl)
left_empty LinksAndData = (refl, refl)

-- a link before links and data
one_more : (l : LinkParts) (m : NodeParts) (bytes rest : List ℕ) → BeginsWithLink l bytes rest → LinksThenData m rest → LinksThenData (with_field (link l) m) bytes
one_more l m bytes rest begins others = record {
  links = begins.field ++ others.links;
  content = others.content;
  links_encoded = (others.links, record { message = begins.message; field = begins.field; message_encoded = begins.message_encoded; field_encoded = begins.field_encoded; encoded = refl }, others.links_encoded);
  content_encoded = others.content_encoded;
  encoded = begins.encoded ∙ ap (λ (x : List ℕ). begins.field ++ x) others.encoded ∙ sym (simp append_assoc);
}

left_link : (stage next : Stage) (l : LinkParts) (m : NodeParts) (bytes rest : List ℕ) → after_link stage ≡ Some next → BeginsWithLink l bytes rest → Left next m rest → Left stage (with_field (link l) m) bytes
left_link Nothing Nothing l m bytes rest e begins others = absurd cc
left_link Nothing Links l m bytes rest e begins others =
    let all = one_more l m bytes rest begins others in
    record { links = all.links; content = all.content; links_encoded = all.links_encoded; content_encoded = all.content_encoded; encoded = inl all.encoded }
left_link Nothing Data l m bytes rest e begins others = absurd cc
left_link Nothing LinksAndData l m bytes rest e begins others = absurd cc
left_link Links Nothing l m bytes rest e begins others = absurd cc
left_link Links Links l m bytes rest e begins others = one_more l m bytes rest begins others
left_link Links Data l m bytes rest e begins others = absurd cc
left_link Links LinksAndData l m bytes rest e begins others = absurd cc
left_link Data Nothing l m bytes rest e begins others = absurd cc
left_link Data Links l m bytes rest e begins others = absurd cc
left_link Data Data l m bytes rest e begins others = ((rest, begins, others.0), others.1)
left_link Data LinksAndData l m bytes rest e begins others = absurd cc
left_link LinksAndData next l m bytes rest e begins others = absurd cc

left_data : (stage next : Stage) (d : List ℕ) (m : NodeParts) (bytes field rest : List ℕ) → after_data stage ≡ Some next → IsContent 1 d field → bytes ≡ field ++ rest → Left next m rest → Left stage (with_field (content d) m) bytes
left_data Nothing Nothing d m bytes field rest e is parts others = absurd cc
left_data Nothing Links d m bytes field rest e is parts others = absurd cc
left_data Nothing Data d m bytes field rest e is parts others = record {
  links = rest;
  content = field;
  links_encoded = others.0;
  content_encoded = subst (λ (o : Option (List ℕ)). IsContentOf 1 (first_some o (Some d)) field) (sym others.1) is;
  encoded = inr parts;
}
left_data Nothing LinksAndData d m bytes field rest e is parts others = absurd cc
left_data Links Nothing d m bytes field rest e is parts others = absurd cc
left_data Links Links d m bytes field rest e is parts others = absurd cc
left_data Links Data d m bytes field rest e is parts others = absurd cc
left_data Links LinksAndData d m bytes field rest e is parts others =
    subst (λ (n : NodeParts). LinksThenData (with_field (content d) n) bytes) (sym others.0) (record {
      links = [];
      content = field;
      links_encoded = refl;
      content_encoded = is;
      encoded = parts ∙ ap (λ (x : List ℕ). field ++ x) others.1 ∙ append-nil field;
    })
left_data Data next d m bytes field rest e is parts others = absurd cc
left_data LinksAndData next d m bytes field rest e is parts others = absurd cc

-- what is read of all fields
part_then : (stage : Stage) (bytes : List ℕ) (f : Field) (next : Stage) (rest : List ℕ) (m : NodeParts) → PartFront stage bytes f next rest → (IsBytes rest → Left next m rest) → Left stage (with_field f m) bytes
part_then stage bytes (link l) next rest m front others = left_link stage next l m bytes rest front.allowed front.begins (others front.rest_fits)
part_then stage bytes (content d) next rest m front others = left_data stage next d m bytes front.front.taken rest front.allowed front.front.is front.front.parts (others front.front.rest_fits)

run_sound : (fields : ℕ) (stage : Stage) (bytes : List ℕ) (n : NodeParts) → IsBytes bytes → length bytes ≤ fields → run fields stage bytes ≡ Ok n → Left stage n bytes
run_sound fields stage [] n whole few e = same_ok (λ (m : NodeParts). Left stage m []) empty_node n e (left_empty stage)
run_sound zero stage (b ∷ bytes) n whole few e = absurd (omega arith)
run_sound (suc fields) stage (b ∷ bytes) n whole few e =
    let part = bind_ok (read_part stage (b ∷ bytes)) (λ part. run fields part.1 part.2 >>= λ node. Ok (with_field part.0 node)) n e in
    let others = bind_ok (run fields part.0.1 part.0.2) (λ node. Ok (with_field part.0.0 node)) n part.2 in
    let less = part_shorter stage (b ∷ bytes) part.0 part.1 in
    let front = part_sound stage (b ∷ bytes) part.0.0 part.0.1 part.0.2 whole part.1 in
    same_ok (λ (m : NodeParts). Left stage m (b ∷ bytes)) (with_field part.0.0 others.0) n others.2
    (part_then stage (b ∷ bytes) part.0.0 part.0.1 part.0.2 others.0 front (λ fits. run_sound fields part.0.1 part.0.2 others.0 fits (omega arith) others.1))

-- a node of a block without an error
in_block_ok : {A : Type 0} (len : ℕ) (r : Result A Fault) (x : A) → in_block len r ≡ Ok x → r ≡ Ok x
in_block_ok {A} len (Ok y) x e = ap Ok (same_ok (λ (z : A). y ≡ z) y x e refl)
in_block_ok len (Err f) x e = absurd cc

pub node_sound : (bytes : List ℕ) (n : NodeParts) → IsBytes bytes → read_node bytes ≡ Ok n → IsNode n bytes
unfolding read_node read_fields
node_sound bytes n whole e = run_sound (length bytes) Nothing bytes n whole (omega arith) (in_block_ok (length bytes) (run (length bytes) Nothing bytes) n e)

-- ---- what is encoded is read

link_read : (stage next : Stage) (l : LinkParts) (message field rest : List ℕ) → after_link stage ≡ Some next → IsLink l message → IsContent 2 message field
    → read_part stage (field ++ rest) ≡ Ok (link l, next, rest)
unfolding read_part link_field
link_read stage next l message field rest allowed is_link is =
    ap (read_part stage) (content_opened 2 message field rest is)
    ∙ rw (varint_complete 18 is.key (is.size ++ (message ++ rest)) is.key_encoded, allowed, content_complete message is.size rest is.size_encoded, link_complete message l is_link) refl

data_read : (stage next : Stage) (d field rest : List ℕ) → after_data stage ≡ Some next → IsContent 1 d field
    → read_part stage (field ++ rest) ≡ Ok (content d, next, rest)
unfolding read_part data_field
data_read stage next d field rest allowed is =
    ap (read_part stage) (content_opened 1 d field rest is)
    ∙ rw (varint_complete 10 is.key (is.size ++ (d ++ rest)) is.key_encoded, allowed, content_complete d is.size rest is.size_encoded) refl

-- a link and then what else is read
link_then : (stage next : Stage) (l : LinkParts) (bytes rest more : List ℕ) (n : NodeParts) → after_link stage ≡ Some next → BeginsWithLink l bytes rest
    → read_fields next (rest ++ more) ≡ Ok n → read_fields stage (bytes ++ more) ≡ Ok (with_field (link l) n)
link_then stage next l bytes rest more n allowed begins others =
    let whole : bytes ++ more ≡ begins.field ++ (rest ++ more) = ap (λ (x : List ℕ). x ++ more) begins.encoded ∙ simp append_assoc in
    ap (read_fields stage) whole
    ∙ goes_on stage (begins.field ++ (rest ++ more)) (link l) next (rest ++ more) (content_has_byte 2 begins.message begins.field (rest ++ more) begins.field_encoded)
    (link_read stage next l begins.message begins.field (rest ++ more) allowed begins.message_encoded begins.field_encoded)
    ∙ ap (λ (r : Result NodeParts Fault). r >>= λ node. Ok (with_field (link l) node)) others

-- links where links go on
links_then : (links : List LinkParts) (stage : Stage) (bytes more : List ℕ) (n : NodeParts) → after_link stage ≡ Some stage → IsLinks links bytes → read_fields stage more ≡ Ok n
    → read_fields stage (bytes ++ more) ≡ Ok (record { links = links ++ n.links; content = n.content })
links_then [] stage bytes more n again is others = ap (λ (x : List ℕ). read_fields stage (x ++ more)) is ∙ others
links_then (l ∷ links) stage bytes more n again is others =
    link_then stage stage l bytes is.0 more (record { links = links ++ n.links; content = n.content }) again is.1 (links_then links stage is.0 more n again is.2 others)

-- data, and nothing after them
data_ends : (stage next : Stage) (o : Option (List ℕ)) (bytes : List ℕ) → after_data stage ≡ Some next → IsContentOf 1 o bytes → read_fields stage bytes ≡ Ok (record { links = []; content = o })
data_ends stage next None bytes allowed is = ap (read_fields stage) is ∙ ends stage [] refl
data_ends stage next (Some d) bytes allowed is =
    ap (read_fields stage) (sym (append-nil bytes))
    ∙ goes_on stage (bytes ++ []) (content d) next [] (content_has_byte 1 d bytes [] is) (data_read stage next d bytes [] allowed is)
    ∙ ap (λ (r : Result NodeParts Fault). r >>= λ node. Ok (with_field (content d) node)) (ends next [] refl)

-- links, and data after them
links_first : (links : List LinkParts) (o : Option (List ℕ)) (bytes more : List ℕ) → IsLinks links bytes → IsContentOf 1 o more → read_fields Nothing (bytes ++ more) ≡ Ok (record { links = links; content = o })
links_first [] o bytes more is_links is_data = ap (λ (x : List ℕ). read_fields Nothing (x ++ more)) is_links ∙ data_ends Nothing Data o more refl is_data
links_first (l ∷ links) o bytes more is_links is_data =
    link_then Nothing Links l bytes is_links.0 more (record { links = links ++ []; content = o }) refl is_links.1
    (links_then links Links is_links.0 more (record { links = []; content = o }) refl is_links.2 (data_ends Links LinksAndData o more refl is_data))
    ∙ ap (λ (ls : List LinkParts). Ok (record { links = l ∷ ls; content = o })) (append-nil links)

-- data, and links after them
data_first : (links : List LinkParts) (o : Option (List ℕ)) (bytes more : List ℕ) → IsContentOf 1 o bytes → IsLinks links more → read_fields Nothing (bytes ++ more) ≡ Ok (record { links = links; content = o })
data_first links None bytes more is_data is_links =
    ap (λ (x : List ℕ). read_fields Nothing (x ++ more)) is_data ∙ ap (read_fields Nothing) (sym (append-nil more)) ∙ links_first links None more [] is_links refl
data_first links (Some d) bytes more is_data is_links =
    goes_on Nothing (bytes ++ more) (content d) Data more (content_has_byte 1 d bytes more is_data) (data_read Nothing Data d bytes more refl is_data)
    ∙ ap (λ (r : Result NodeParts Fault). r >>= λ node. Ok (with_field (content d) node))
    (ap (read_fields Data) (sym (append-nil more)) ∙ links_then links Data more [] empty_node refl is_links (ends Data [] refl))
    ∙ ap (λ (ls : List LinkParts). Ok (record { links = ls; content = Some d })) (append-nil links)

fields_complete : (bytes : List ℕ) (n : NodeParts) → IsNode n bytes → read_fields Nothing bytes ≡ Ok n
fields_complete bytes n is =
    elim is.encoded [
      | inl e ↦ ap (read_fields Nothing) e ∙ links_first n.links n.content is.links is.content is.links_encoded is.content_encoded
      | inr e ↦ ap (read_fields Nothing) e ∙ data_first n.links n.content is.content is.links is.content_encoded is.links_encoded
    ]

pub node_complete : (bytes : List ℕ) (n : NodeParts) → IsNode n bytes → read_node bytes ≡ Ok n
unfolding read_node
node_complete bytes n is = ap (in_block (length bytes)) (fields_complete bytes n is)
