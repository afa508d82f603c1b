-- The item that a block encodes.
use Rattle.std.proofs.Common.{◌≡◌, inl, inr, ℕ, pos, negsuc, suc, ◌^◌, ◌<◌, true, false, List, [], ◌++◌, Option, Some, None, refl, sym, ap, ap₂, subst, ◌∙◌, append-nil}
use Rattle.std.specs.Prelude.{option_map, Result, Ok, Err, IfErr, MatchOption, MatchResult, codes}
use Rattle.std.specs.Borrow.{Bor}
use Rattle.std.specs.Io.KnownBytes.{Appends}
use Rattle.std.specs.declared.io.ErrorKind.{ErrorKind}
use Rattle.ipld_tree.specs.Path.{segments}
use Rattle.ipld_tree.specs.Tree.{Tree, Items, Members}
use Rattle.ipld_tree.specs.Tree as tree
use Rattle.ipld_tokens.specs.ItemTree.{tree_of_atom, key_text, item_before, put_new, tree_of_item, items_of_parts, members_of_pairs}
use Rattle.ipld_tokens.specs.Token as token
use Rattle.ipld_tokens.specs.Item as item
use Rattle.dag_cbor_format.specs.declared.major.Major.TheVariants.{List as Array, Map}
use Rattle.dag_cbor_format.specs.Head.{head}
use Rattle.dag_cbor_format.specs.Encoding.{part_count, pair_count, IsKey}
use Rattle.dag_cbor_format.specs.Encoding as plain
use Rattle.dag_cbor_format.specs.Trace.{error_in}
use Rattle.dag_cbor_format.specs.WithFloats.{EncodesIn, EncodeParts, EncodePairs, EncodesTreeIn}
use Rattle.dag_cbor_format.proofs.ErrorLaws.{no_error_in}
use Rattle.dag_cbor_format.specs.Canonical.{canonical}
use Rattle.dag_cbor_format.proofs.CanonicalEncoding.{writes_encoded}
use Rattle.dag_cbor_format.proofs.CidLaws.{cid_laws}
use Rattle.dag_cbor_format.proofs.FloatLaws.{plain_item}
use Rattle.ipld_block.specs.declared.codec.BlockCodec.{BlockCodec}
use Rattle.ipld_block.specs.declared.codec.BlockCodec.TheVariants.{DagCbor, DagPb, DagJson, Raw}
use Rattle.ipld_block.specs.declared.error.InvalidBlock.{InvalidBlock}
use Rattle.ipld_show.specs.AtPath.{AtPath, found, no_segment, not_a_container, at_segments, LeadsTo}
use Rattle.ipld_block.specs.Blocks.{IsInvalid, IfInvalid}
use Rattle.ipld_block.specs.declared.error.CheckError.{CheckError}
use Rattle.ipld_block.specs.declared.error.CheckError.TheVariants.{Memory as OutOfMemory, Invalid as IsInvalidBlock}
use Rattle.ipld_show.specs.Blocks.{IsNoBlock, IsCborOf, OfBlock, IsShown, IsTreeAt, IsJsonAt, IsUnwritten, IsCidError, IsLineError}
use Rattle.ipld_show.specs.JsonText.{IsJson, IsJsonError}
use Rattle.ipld_show.specs.Node.{node_tree}
use Rattle.ipld_show.specs.Scalars.{IsOutputError}
use Rattle.ipld_show.specs.TreeText.{IsTreeText}
use Rattle.ipld_show.specs.declared.error.ShowError.{ShowError}
use Rattle.ipld_show.specs.declared.error.ShowError.TheVariants.{Memory, Write, Invalid, TooLong, NoSegment, NotAContainer, Reserved, Cid}
use Rattle.ipld_show.specs.DataItem.{DataItem, null, boolean, integer, float, text_string, byte_string, link, list, map, DataItems, no_items, DataEntries, no_entries, entry, item_count, entry_count, string_encoding, encoding, items_encoding, entries_encoding, IsDataItem, AreDataItems, AreDataEntries, BeginsWithItem, tree_of, items_of, members_of}
use Rattle.ipld_show.specs.DataItem as data_item

record ItemOf (t : Option Tree) (bytes : List ℕ) : Type 0 where
  d : DataItem
  reads : t ≡ tree_of d
  is_item : IsDataItem d
  encoded : bytes ≡ encoding d

record ItemsOf (ts : Option Items) (count : ℕ) (bytes : List ℕ) : Type 0 where
  ds : DataItems
  reads : ts ≡ items_of ds
  are_items : AreDataItems ds
  counted : count ≡ item_count ds
  encoded : bytes ≡ items_encoding ds

record EntriesOf (ms : Option Members) (count : ℕ) (bytes : List ℕ) : Type 0 where
  es : DataEntries
  reads : ms ≡ members_of es
  are_entries : AreDataEntries es
  counted : count ≡ entry_count es
  encoded : bytes ≡ entries_encoding es

atom_of : (a : token.Atom) (bytes : List ℕ) → EncodesIn true (item.atom_item a) bytes → ItemOf (tree_of_atom a) bytes
atom_of token.none bytes (inl e) = record { d = null; reads = refl; is_item = tt; encoded = e }
atom_of token.none bytes (inr f) = let f = f.1 in record { d = float f.content; reads = refl; is_item = (f.wide, f.finite); encoded = f.is }
atom_of token.unit bytes e = absurd e.0
atom_of token.unit_struct bytes e = absurd e.0
atom_of (token.boolean false) bytes e = record { d = boolean false; reads = refl; is_item = tt; encoded = e.1 }
atom_of (token.boolean true) bytes e = record { d = boolean true; reads = refl; is_item = tt; encoded = e.1 }
atom_of (token.integer (pos n)) bytes e = record { d = integer (pos n); reads = refl; is_item = e.0; encoded = e.1 }
atom_of (token.integer (negsuc n)) bytes e = record { d = integer (negsuc n); reads = refl; is_item = e.0; encoded = e.1 }
atom_of (token.unsigned n) bytes e = absurd e.0
atom_of (token.character c) bytes e = absurd e.0
atom_of (token.text s) bytes e = record { d = text_string s; reads = refl; is_item = e.0; encoded = e.1 }
atom_of (token.unit_variant s) bytes e = absurd e.0

entry_of : (t : Option Tree) (ms : Option Members) (count : ℕ) (key : item.Item 64) (bytes first more : List ℕ) → IsKey key → ItemOf t first → EntriesOf ms count more → bytes ≡ plain.encoding key ++ (first ++ more)
    → EntriesOf (put_new (key_text key) t ms) (suc count) bytes
entry_of t ms count (item.atom_item token.none) bytes first more k i es e = absurd k
entry_of t ms count (item.atom_item token.unit) bytes first more k i es e = absurd k
entry_of t ms count (item.atom_item token.unit_struct) bytes first more k i es e = absurd k
entry_of t ms count (item.atom_item (token.boolean b)) bytes first more k i es e = absurd k
entry_of t ms count (item.atom_item (token.integer n)) bytes first more k i es e = absurd k
entry_of t ms count (item.atom_item (token.unsigned n)) bytes first more k i es e = absurd k
entry_of t ms count (item.atom_item (token.character c)) bytes first more k i es e = absurd k
entry_of t ms count (item.atom_item (token.text s)) bytes first more k i es e = record {
  es = entry s i.d es.es;
  reads = ap₂ (put_new (Some s)) i.reads es.reads;
  are_entries = (k, i.is_item, es.are_entries);
  counted = ap suc es.counted;
  encoded = e ∙ ap (λ xs. string_encoding s ++ (xs ++ more)) i.encoded ∙ ap (λ xs. string_encoding s ++ (encoding i.d ++ xs)) es.encoded;
}
entry_of t ms count (item.atom_item (token.unit_variant s)) bytes first more k i es e = absurd k
entry_of t ms count (item.bytes_item b) bytes first more k i es e = absurd k
entry_of t ms count (item.some_item j) bytes first more k i es e = absurd k
entry_of t ms count (item.variant_item name j) bytes first more k i es e = absurd k
entry_of t ms count (item.list_item is) bytes first more k i es e = absurd k
entry_of t ms count (item.map_item ps) bytes first more k i es e = absurd k
entry_of t ms count (item.link_item c cid is) bytes first more k i es e = absurd k

list_of : (ts : Option Items) (n : ℕ) (bytes content : List ℕ) → n < 2 ^ 64 → ItemsOf ts n content → bytes ≡ head Array n ++ content → ItemOf (option_map tree.list ts) bytes
list_of ts n bytes content lt ds e = record {
  d = list ds.ds;
  reads = ap (option_map tree.list) ds.reads;
  is_item = (subst (λ (k : ℕ). k < 2 ^ 64) ds.counted lt, ds.are_items);
  encoded = e ∙ ap (λ (k : ℕ). head Array k ++ content) ds.counted ∙ ap (λ xs. head Array (item_count ds.ds) ++ xs) ds.encoded;
}

map_of : (ms : Option Members) (n : ℕ) (bytes content : List ℕ) → n < 2 ^ 64 → EntriesOf ms n content → bytes ≡ head Map n ++ content → ItemOf (option_map tree.entries ms) bytes
map_of ms n bytes content lt es e = record {
  d = map es.es;
  reads = ap (option_map tree.entries) es.reads;
  is_item = (subst (λ (k : ℕ). k < 2 ^ 64) es.counted lt, es.are_entries);
  encoded = e ∙ ap (λ (k : ℕ). head Map k ++ content) es.counted ∙ ap (λ xs. head Map (entry_count es.es) ++ xs) es.encoded;
}

mutual
  item_of : (i : item.Item 64) (bytes : List ℕ) → EncodesIn true i bytes → ItemOf (tree_of_item i) bytes
  item_of (item.atom_item a) bytes e = atom_of a bytes e
  item_of (item.bytes_item b) bytes e = record { d = byte_string b; reads = refl; is_item = e.0; encoded = e.1 }
  item_of (item.some_item i) bytes e = absurd e
  item_of (item.variant_item name i) bytes e = absurd e
  item_of (item.list_item is) bytes e = list_of (items_of_parts is) (part_count is) bytes e.1 e.0 (parts_of is e.1 e.2) e.3
  item_of (item.map_item ps) bytes e = map_of (members_of_pairs ps) (pair_count ps) bytes e.1 e.0 (entries_of ps e.1 e.2) e.3
  item_of (item.link_item encoded cid is) bytes e = record { d = link encoded cid; reads = refl; is_item = (e.0, is); encoded = e.1 }

  parts_of : (is : item.Parts 64) (bytes : List ℕ) → EncodeParts true is bytes → ItemsOf (items_of_parts is) (part_count is) bytes
  parts_of item.no_parts bytes e = record { ds = no_items; reads = refl; are_items = tt; counted = refl; encoded = e }
  parts_of (item.part i is) bytes e =
      let first = item_of i e.0 e.2 in
      let more = parts_of is e.1 e.3 in
      record {
        ds = data_item.item first.d more.ds;
        reads = ap₂ item_before first.reads more.reads;
        are_items = (first.is_item, more.are_items);
        counted = ap suc more.counted;
        encoded = e.4 ∙ ap (λ xs. xs ++ e.1) first.encoded ∙ ap (λ xs. encoding first.d ++ xs) more.encoded;
      }

  entries_of : (ps : item.Pairs 64) (bytes : List ℕ) → EncodePairs true ps bytes → EntriesOf (members_of_pairs ps) (pair_count ps) bytes
  entries_of item.no_pairs bytes e = record { es = no_entries; reads = refl; are_entries = tt; counted = refl; encoded = e }
  entries_of (item.pair key value ps) bytes e = entry_of (tree_of_item value) (members_of_pairs ps) (pair_count ps) key bytes e.0 e.1 e.2 (item_of value e.0 e.3) (entries_of ps e.1 e.4) e.5

-- a block encodes an item
pub block_item : (block : List ℕ) → error_in true block ≡ None → (d : DataItem) × (t : Tree) × BeginsWithItem d block [] × (tree_of d ≡ Some t) × EncodesTreeIn true t block
block_item block none =
    let t = (no_error_in cid_laws true block).0 none in
    let i = item_of t.1.0 block t.1.1 in
    (i.d, t.0, record { is_item = i.is_item; encoded = i.encoded ∙ sym (append-nil (encoding i.d)) }, sym i.reads ∙ t.1.2, t.1)

-- so does the canonical block of a tree
pub canonical_item : (t : Tree) (block : List ℕ) → canonical t ≡ Some block → (d : DataItem) × BeginsWithItem d block [] × (tree_of d ≡ Some t)
canonical_item t block is =
    let w = writes_encoded cid_laws t block is in
    let i = item_of w.0 block (subst (EncodesIn true w.0) (sym w.1.1) (plain_item true w.0 w.1.0)) in
    (i.d, record { is_item = i.is_item; encoded = i.encoded ∙ sym (append-nil (encoding i.d)) }, sym i.reads ∙ w.2)

-- and a block that stands for one of any codec
pub item_in : (codec : BlockCodec) (bytes block : List ℕ) → IsCborOf codec bytes block → (d : DataItem) × BeginsWithItem d block []
item_in DagCbor bytes block h = let i = block_item block (ap (error_in true) h.0 ∙ h.1) in (i.0, i.2)
item_in DagPb bytes block h = let i = canonical_item (node_tree h.node) block h.encodes in (i.0, i.1)
item_in DagJson bytes block h = let i = block_item block h.is_block in (i.0, i.2)
item_in Raw bytes block h = let i = canonical_item (tree.bytes bytes) block h in (i.0, i.1)

-- what was made of it, or itself, is such a block
pub made_of : {V : Type 0} (items : V → List ℕ) (codec : BlockCodec) (bytes block : List ℕ) (o : Option V) → MatchOption o (IsCborOf codec bytes bytes) (λ v. IsCborOf codec bytes (items v))
    → MatchOption o (block ≡ bytes) (λ v. block ≡ items v) → IsCborOf codec bytes block
made_of items codec bytes block None h e = subst (IsCborOf codec bytes) (sym e) h
made_of items codec bytes block (Some v) h e = subst (IsCborOf codec bytes) (sym e) h

-- ---- what is said of the item is said of the block

no_item_invalid : (a : AtPath) (why : InvalidBlock) → LeadsTo a (Err (Invalid why)) → ⊥
no_item_invalid (found d) why h = h
no_item_invalid (no_segment n) why h = absurd (let no : Invalid why ≡ NoSegment n = h in cc)
no_item_invalid (not_a_container n) why h = absurd (let no : Invalid why ≡ NotAContainer n = h in cc)

no_item_too_long : (a : AtPath) → LeadsTo a (Err TooLong) → ⊥
no_item_too_long (found d) h = h
no_item_too_long (no_segment n) h = absurd (let no : TooLong ≡ NoSegment n = h in cc)
no_item_too_long (not_a_container n) h = absurd (let no : TooLong ≡ NotAContainer n = h in cc)

no_item_reserved : (a : AtPath) (n : ℕ) → LeadsTo a (Err (Reserved n)) → ⊥
no_item_reserved (found d) n h = h
no_item_reserved (no_segment m) n h = absurd (let no : Reserved n ≡ NoSegment m = h in cc)
no_item_reserved (not_a_container m) n h = absurd (let no : Reserved n ≡ NotAContainer m = h in cc)

no_item_written : (a : AtPath) (kind : ErrorKind) → LeadsTo a (Err (Write kind)) → ⊥
no_item_written (found d) kind h = h
no_item_written (no_segment n) kind h = absurd (let no : Write kind ≡ NoSegment n = h in cc)
no_item_written (not_a_container n) kind h = absurd (let no : Write kind ≡ NotAContainer n = h in cc)

pub rejected_unwritten : (error : ShowError) (old : Option (List ℕ)) → IsUnwritten error old old
rejected_unwritten Memory old = tt
rejected_unwritten (Write kind) old = tt
rejected_unwritten (Invalid why) old = refl
rejected_unwritten (NoSegment n) old = refl
rejected_unwritten (NotAContainer n) old = refl
rejected_unwritten (Reserved n) old = refl
rejected_unwritten (Cid e) old = refl
rejected_unwritten TooLong old = refl

module _ (codec : BlockCodec) (bytes : List ℕ) where
  pub rejected_block : (T : Type 0) (P : DataItem → Type 0) (error : ShowError) → IsNoBlock codec bytes error → OfBlock {T = T} codec bytes (Err error) P
  rejected_block T P Memory h = tt
  rejected_block T P (Write kind) h = absurd h
  rejected_block T P (Invalid why) h = h
  rejected_block T P (NoSegment n) h = absurd h
  rejected_block T P (NotAContainer n) h = absurd h
  rejected_block T P (Reserved n) h = absurd h
  rejected_block T P (Cid e) h = absurd h
  rejected_block T P TooLong h = h

  module _ (block path : List ℕ) (of : IsCborOf codec bytes block) where
    pub of_block : {T : Type 0} (P : DataItem → Result T ShowError → Type 0) → ((d : DataItem) (why : InvalidBlock) → P d (Err (Invalid why)) → LeadsTo (at_segments 0 (segments path) d) (Err (Invalid why)))
        → ((d : DataItem) → P d (Err TooLong) → LeadsTo (at_segments 0 (segments path) d) (Err TooLong))
        → (r : Result T ShowError) → ((d : DataItem) → BeginsWithItem d block [] → P d r) → OfBlock codec bytes r (λ d. P d r)
    of_block P leads leads_long (Ok x) h = let i = item_in codec bytes block of in (i.0, (block, of, i.1), h i.0 i.1)
    of_block P leads leads_long (Err Memory) h = tt
    of_block P leads leads_long (Err (Write kind)) h = let i = item_in codec bytes block of in (i.0, (block, of, i.1), h i.0 i.1)
    of_block P leads leads_long (Err (Invalid why)) h = let i = item_in codec bytes block of in absurd (no_item_invalid (at_segments 0 (segments path) i.0) why (leads i.0 why (h i.0 i.1)))
    of_block P leads leads_long (Err (NoSegment n)) h = let i = item_in codec bytes block of in (i.0, (block, of, i.1), h i.0 i.1)
    of_block P leads leads_long (Err (NotAContainer n)) h = let i = item_in codec bytes block of in (i.0, (block, of, i.1), h i.0 i.1)
    of_block P leads leads_long (Err (Reserved n)) h = let i = item_in codec bytes block of in (i.0, (block, of, i.1), h i.0 i.1)
    of_block P leads leads_long (Err (Cid e)) h = let i = item_in codec bytes block of in (i.0, (block, of, i.1), h i.0 i.1)
    of_block P leads leads_long (Err TooLong) h = let i = item_in codec bytes block of in absurd (no_item_too_long (at_segments 0 (segments path) i.0) (leads_long i.0 (h i.0 i.1)))

-- ---- what stands at a path, shown

module _ (d : DataItem) (path : List ℕ) (old new : Option (List ℕ)) where
  leads_to : (a : AtPath) (value : Bor (List ℕ)) → LeadsTo a (Ok value) → (e : DataItem) × (a ≡ found e) × (rest : List ℕ) × BeginsWithItem e value.now rest
  leads_to (found e) value h = (e, refl, h.0, h.1)
  leads_to (no_segment n) value h = absurd h
  leads_to (not_a_container n) value h = absurd h

  pub stops_at : (error : ShowError) → LeadsTo (at_segments 0 (segments path) d) (Err error) → IsTreeAt d path (Err error) old new
  stops_at Memory h = tt
  stops_at (Write kind) h = absurd (no_item_written (at_segments 0 (segments path) d) kind h)
  stops_at (Invalid why) h = h
  stops_at (NoSegment n) h = h
  stops_at (NotAContainer n) h = h
  stops_at (Reserved n) h = h
  stops_at (Cid e) h = h
  stops_at TooLong h = h

  pub stops_json_at : (error : ShowError) → LeadsTo (at_segments 0 (segments path) d) (Err error) → IsJsonAt d path (Err error) old new
  stops_json_at Memory h = tt
  stops_json_at (Write kind) h = absurd (no_item_written (at_segments 0 (segments path) d) kind h)
  stops_json_at (Invalid why) h = h
  stops_json_at (NoSegment n) h = h
  stops_json_at (NotAContainer n) h = h
  stops_json_at (Reserved n) h = absurd (no_item_reserved (at_segments 0 (segments path) d) n h)
  stops_json_at (Cid e) h = h
  stops_json_at TooLong h = h

  output_error : (error : ShowError) → IsOutputError error → IsTreeAt d path (Err error) old new
  output_error Memory h = tt
  output_error (Write kind) h = h
  output_error (Invalid why) h = absurd h
  output_error (NoSegment n) h = absurd h
  output_error (NotAContainer n) h = absurd h
  output_error (Reserved n) h = absurd h
  output_error (Cid e) h = absurd h
  output_error TooLong h = absurd h

  output_unwritten : (error : ShowError) → IsOutputError error → IsUnwritten error old new
  output_unwritten Memory h = tt
  output_unwritten (Write kind) h = tt
  output_unwritten (Invalid why) h = absurd h
  output_unwritten (NoSegment n) h = absurd h
  output_unwritten (NotAContainer n) h = absurd h
  output_unwritten (Reserved n) h = absurd h
  output_unwritten (Cid e) h = absurd h
  output_unwritten TooLong h = absurd h

  json_error : (e : DataItem) → at_segments 0 (segments path) d ≡ found e → (error : ShowError) → IsLineError e error old new → IsJsonAt d path (Err error) old new
  json_error e is Memory h = tt
  json_error e is (Write kind) h = h
  json_error e is (Invalid why) h = absurd h
  json_error e is (NoSegment n) h = absurd h
  json_error e is (NotAContainer n) h = absurd h
  json_error e is (Reserved n) h = (e, is, h.0)
  json_error e is (Cid c) h = absurd h
  json_error e is TooLong h = absurd h

  json_unwritten : (e : DataItem) (error : ShowError) → IsLineError e error old new → IsUnwritten error old new
  json_unwritten e (Reserved n) h = h.1
  json_unwritten e Memory h = tt
  json_unwritten e (Write kind) h = tt
  json_unwritten e (Invalid why) h = absurd h
  json_unwritten e (NoSegment n) h = absurd h
  json_unwritten e (NotAContainer n) h = absurd h
  json_unwritten e (Cid c) h = absurd h
  json_unwritten e TooLong h = absurd h

  module _ (value : Bor (List ℕ)) (at : LeadsTo (at_segments 0 (segments path) d) (Ok value)) where
    pub tree_at : (r : Result (Unit {0}) ShowError)
        → ((e : DataItem) (behind : List ℕ) → BeginsWithItem e value.now behind → MatchResult r (λ _. (t : List ℕ) × IsTreeText e t × Appends old new t) IsOutputError)
        → IsTreeAt d path r old new
    tree_at (Ok u) h =
        let l = leads_to (at_segments 0 (segments path) d) value at in
        let text = h l.0 l.2 l.3 in
        (l.0, l.1, text.0, text.1, text.2)
    tree_at (Err error) h = let l = leads_to (at_segments 0 (segments path) d) value at in output_error error (h l.0 l.2 l.3)

    pub tree_unwritten : (r : Result (Unit {0}) ShowError)
        → ((e : DataItem) (behind : List ℕ) → BeginsWithItem e value.now behind → MatchResult r (λ _. (t : List ℕ) × IsTreeText e t × Appends old new t) IsOutputError)
        → IfErr r (λ error. IsUnwritten error old new)
    tree_unwritten (Ok u) h = tt
    tree_unwritten (Err error) h = let l = leads_to (at_segments 0 (segments path) d) value at in output_unwritten error (h l.0 l.2 l.3)

    pub json_at : (r : Result (Unit {0}) ShowError)
        → ((e : DataItem) (behind : List ℕ) → BeginsWithItem e value.now behind → MatchResult r (λ _. (t : List ℕ) × IsJson e t × Appends old new (t ++ codes "\n")) (λ error. IsLineError e error old new))
        → IsJsonAt d path r old new × IfErr r (λ error. IsUnwritten error old new)
    json_at (Ok u) h =
        let l = leads_to (at_segments 0 (segments path) d) value at in
        let text = h l.0 l.2 l.3 in
        ((l.0, l.1, text.0, text.1, text.2), tt)
    json_at (Err error) h =
        let l = leads_to (at_segments 0 (segments path) d) value at in
        let e = h l.0 l.2 l.3 in
        (json_error l.0 l.1 error e, json_unwritten l.0 error e)

-- an error of an item stands for that of its line, where nothing was written
pub json_stops : (d : DataItem) (error : ShowError) (old : Option (List ℕ)) → IsJsonError d error → IsLineError d error old old
json_stops d (Reserved n) old h = (h, refl)
json_stops d Memory old h = h
json_stops d (Write kind) old h = absurd h
json_stops d (Invalid why) old h = absurd h
json_stops d (NoSegment n) old h = absurd h
json_stops d (NotAContainer n) old h = absurd h
json_stops d (Cid c) old h = absurd h
json_stops d TooLong old h = absurd h

-- and so does one of the writer or of an allocation
pub line_failed : (d : DataItem) (error : ShowError) (old new : Option (List ℕ)) → IsOutputError error → IsLineError d error old new
line_failed d Memory old new h = h
line_failed d (Write kind) old new h = h
line_failed d (Reserved n) old new h = absurd h
line_failed d (Invalid why) old new h = absurd h
line_failed d (NoSegment n) old new h = absurd h
line_failed d (NotAContainer n) old new h = absurd h
line_failed d (Cid c) old new h = absurd h
line_failed d TooLong old new h = absurd h

-- ---- the CID of a block

module _ (codec : BlockCodec) (bytes : List ℕ) (old : Option (List ℕ)) where
  pub no_cid : (error : CheckError) (made : ShowError) → IsShown error made → IfInvalid error (IsInvalid codec bytes) → IsCidError codec bytes made old old
  no_cid OutOfMemory made shown h = subst (λ (e : ShowError). IsCidError codec bytes e old old) (sym shown) tt
  no_cid (IsInvalidBlock why) made shown h = subst (λ (e : ShowError). IsCidError codec bytes e old old) (sym shown) (h, refl)

  pub cid_failed : (new : Option (List ℕ)) (error : ShowError) → IsOutputError error → IsCidError codec bytes error old new
  cid_failed new Memory h = tt
  cid_failed new (Write kind) h = h
  cid_failed new (Invalid why) h = absurd h
  cid_failed new (NoSegment n) h = absurd h
  cid_failed new (NotAContainer n) h = absurd h
  cid_failed new (Reserved n) h = absurd h
  cid_failed new (Cid e) h = absurd h
  cid_failed new TooLong h = absurd h
