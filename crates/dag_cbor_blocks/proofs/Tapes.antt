-- A block has one tape, and the writer of one that has taken all its events comes to it.
use Rattle.std.proofs.Common.{◌≡◌, inl, inr, ℕ, pos, negsuc, ◌+◌, Bool, true, false, List, [], ◌∷◌, ◌++◌, length, None, refl, sym, ap, subst, ◌∙◌}
use Rattle.std.specs.Prelude.{if◌then◌else◌}
use Rattle.ipld_tree.specs.Limits.{Within}
use Rattle.ipld_tree.specs.Tree.{Tree}
use Rattle.ipld_tree.specs.declared.limits.Limits.{Limits}
use Rattle.ipld_tokens.specs.Token.{none, unit, unit_struct, boolean, integer, unsigned, character, text, unit_variant}
use Rattle.ipld_tokens.specs.Item.{Item, atom_item, bytes_item, some_item, variant_item, list_item, map_item, link_item, Parts, no_parts, part, Pairs, no_pairs, pair}
use Rattle.dag_cbor_format.specs.declared.major.Major.TheVariants.{Text, List as Array, Map}
use Rattle.dag_cbor_format.specs.declared.error.CborError.TheVariants.{Memory}
use Rattle.dag_cbor_format.specs.Encoding.{part_count, pair_count, encoding, IsKey}
use Rattle.dag_cbor_format.specs.Head.{head}
use Rattle.dag_cbor_format.specs.Trace.{trace_of}
use Rattle.dag_cbor_format.specs.WithFloats.{EncodesIn, EncodeParts, EncodePairs, EncodesTreeIn}
use Rattle.dag_cbor_format.proofs.Complete.{key_text_is}
use Rattle.dag_cbor_format.proofs.ErrorLaws.{error_in_or_tree}
use Rattle.dag_cbor_format.proofs.Sound.{encodes_tree_in}
use Rattle.dag_cbor_blocks.specs.Counting.{limit_passed}
use Rattle.dag_cbor_format.proofs.CidLaws.{cid_laws}
use Rattle.dag_cbor_blocks.specs.Tape.{entry, DescribesText, DescribesKey, Describes, DescribeParts, DescribePairs, IsTapeOf, all_short}
use Rattle.dag_cbor_blocks.specs.TapeWriter.{Tape, Reading, reading, marked, stopped, empty_tape, read_on, reading_of, tape_of, tape_with}
use Rattle.dag_cbor_blocks.specs.Within.{StopsAt, IsLimit}
use Rattle.dag_cbor_blocks.specs.declared.block_error.BlockErrorKind.{BlockErrorKind}
use Rattle.dag_cbor_blocks.specs.declared.block_error.BlockErrorKind.TheVariants.{Cbor, TooDeep, TooMany}
use Rattle.dag_cbor_blocks.specs.declared.tape.TapeEntry.{TapeEntry}
use Rattle.dag_cbor_blocks.specs.declared.tape.TapeWriter.{TapeWriter}
use Rattle.dag_cbor_blocks.proofs.EventReads.{limits_where}
use Rattle.dag_cbor_blocks.proofs.TapeReads.{with_values, tape_read}

-- ---- what is encoded is described, and the other way round

abbrev Has : Item 64 → ℕ → List ℕ → Type 0
Has i at bytes = (es : List TapeEntry) × Describes i at bytes es

mutual
  described : (i : Item 64) (at : ℕ) (bytes : List ℕ) → EncodesIn true i bytes → Has i at bytes
  described (atom_item none) at bytes (inl h) = (_, (_, inl (h, refl), refl))
  described (atom_item none) at bytes (inr h) = (_, (_, inr (h.1, refl), refl))
  described (atom_item unit) at bytes h = absurd h.0
  described (atom_item unit_struct) at bytes h = absurd h.0
  described (atom_item (boolean true)) at bytes h = (_, (_, (h.1, refl), refl))
  described (atom_item (boolean false)) at bytes h = (_, (_, (h.1, refl), refl))
  described (atom_item (integer (pos n))) at bytes h = (_, (_, (h.0, h.1, refl), refl))
  described (atom_item (integer (negsuc n))) at bytes h = (_, (_, (h.0, h.1, refl), refl))
  described (atom_item (unsigned n)) at bytes h = absurd h.0
  described (atom_item (character c)) at bytes h = absurd h.0
  described (atom_item (text s)) at bytes h =
      let e = entry 6 (length s) (at + length (head Text (length s))) in
      (e ∷ [], (e, record { utf8 = h.0.0; fits = h.0.1; is = h.1; entry_is = refl }, refl))
  described (atom_item (unit_variant s)) at bytes h = absurd h.0
  described (bytes_item b) at bytes h = (_, (h.0, h.1, refl))
  described (some_item i) at bytes h = absurd h
  described (variant_item name i) at bytes h = absurd h
  described (list_item is) at bytes h =
      let inner = described_parts is (at + length (head Array (part_count is))) h.1 h.2 in
      (_, (h.0, h.1, inner.0, inner.1, h.3, refl))
  described (map_item ps) at bytes h =
      let inner = described_pairs ps (at + length (head Map (pair_count ps))) h.1 h.2 in
      (_, (h.0, h.1, inner.0, inner.1, h.3, refl))
  described (link_item encoded cid is) at bytes h = (_, (h.0, h.1, refl))

  described_parts : (is : Parts 64) (at : ℕ) (bytes : List ℕ) → EncodeParts true is bytes → (es : List TapeEntry) × DescribeParts is at bytes es
  described_parts no_parts at bytes h = ([], (h, refl))
  described_parts (part i is) at bytes h =
      let here = described i at h.0 h.2 in
      let others = described_parts is (at + length h.0) h.1 h.3 in
      (here.0 ++ others.0, (h.0, h.1, here.0, others.0, here.1, others.1, h.4, refl))

  described_pairs : (ps : Pairs 64) (at : ℕ) (bytes : List ℕ) → EncodePairs true ps bytes → (es : List TapeEntry) × DescribePairs ps at bytes es
  described_pairs no_pairs at bytes h = ([], (h, refl))
  described_pairs (pair k v ps) at bytes h =
      let key = key_text_is k h.2 in
      let s = key.bytes in
      let name = head Text (length s) ++ s in
      let e = entry 11 (length s) (at + length (head Text (length s))) in
      let described_key : DescribesKey (atom_item (text s)) at name e = record { utf8 = key.utf8; fits = key.fits; is = refl; entry_is = refl } in
      let here = described v (at + length name) h.0 h.3 in
      let others = described_pairs ps (at + length name + length h.0) h.1 h.4 in
      let whole : bytes ≡ name ++ (h.0 ++ h.1) = h.5 ∙ ap (λ (x : Item 64). encoding x ++ (h.0 ++ h.1)) key.is in
      (e ∷ (here.0 ++ others.0), (name, h.0, h.1, e, here.0, others.0, subst (λ (x : Item 64). DescribesKey x at name e) (sym key.is) described_key, here.1, others.1, whole, refl))

-- a key that is described is one, and its encoding
key_encoded : (k : Item 64) (at : ℕ) (name : List ℕ) (e : TapeEntry) → DescribesKey k at name e → IsKey k × (name ≡ encoding k)
key_encoded (atom_item none) at name e h = absurd h
key_encoded (atom_item unit) at name e h = absurd h
key_encoded (atom_item unit_struct) at name e h = absurd h
key_encoded (atom_item (boolean b)) at name e h = absurd h
key_encoded (atom_item (integer n)) at name e h = absurd h
key_encoded (atom_item (unsigned n)) at name e h = absurd h
key_encoded (atom_item (character c)) at name e h = absurd h
key_encoded (atom_item (text s)) at name e h = let d : DescribesText 11 s at name e = h in ((d.utf8, d.fits), d.is)
key_encoded (atom_item (unit_variant s)) at name e h = absurd h
key_encoded (bytes_item b) at name e h = absurd h
key_encoded (some_item i) at name e h = absurd h
key_encoded (variant_item name' i) at name e h = absurd h
key_encoded (list_item is) at name e h = absurd h
key_encoded (map_item ps) at name e h = absurd h
key_encoded (link_item encoded cid is) at name e h = absurd h

mutual
  pub encoded_in : (i : Item 64) (at : ℕ) (bytes : List ℕ) (es : List TapeEntry) → Describes i at bytes es → EncodesIn true i bytes
  encoded_in (atom_item none) at bytes es (e, inl h, same) = inl h.0
  encoded_in (atom_item none) at bytes es (e, inr h, same) = inr (refl, h.0)
  encoded_in (atom_item unit) at bytes es h = absurd h.1
  encoded_in (atom_item unit_struct) at bytes es h = absurd h.1
  encoded_in (atom_item (boolean true)) at bytes es h = (tt, h.1.0)
  encoded_in (atom_item (boolean false)) at bytes es h = (tt, h.1.0)
  encoded_in (atom_item (integer (pos n))) at bytes es h = (h.1.0, h.1.1)
  encoded_in (atom_item (integer (negsuc n))) at bytes es h = (h.1.0, h.1.1)
  encoded_in (atom_item (unsigned n)) at bytes es h = absurd h.1
  encoded_in (atom_item (character c)) at bytes es h = absurd h.1
  encoded_in (atom_item (text s)) at bytes es h = let d : DescribesText 6 s at bytes h.0 = h.1 in ((d.utf8, d.fits), d.is)
  encoded_in (atom_item (unit_variant s)) at bytes es h = absurd h.1
  encoded_in (bytes_item b) at bytes es h = (h.0, h.1)
  encoded_in (some_item i) at bytes es h = h
  encoded_in (variant_item name i) at bytes es h = h
  encoded_in (list_item is) at bytes es h = (h.0, h.1, parts_encoded_in is (at + length (head Array (part_count is))) h.1 h.2 h.3, h.4)
  encoded_in (map_item ps) at bytes es h = (h.0, h.1, pairs_encoded_in ps (at + length (head Map (pair_count ps))) h.1 h.2 h.3, h.4)
  encoded_in (link_item encoded cid is) at bytes es h = (h.0, h.1)

  parts_encoded_in : (is : Parts 64) (at : ℕ) (bytes : List ℕ) (es : List TapeEntry) → DescribeParts is at bytes es → EncodeParts true is bytes
  parts_encoded_in no_parts at bytes es h = h.0
  parts_encoded_in (part i is) at bytes es h = (h.0, h.1, encoded_in i at h.0 h.2 h.4, parts_encoded_in is (at + length h.0) h.1 h.3 h.5, h.6)

  pairs_encoded_in : (ps : Pairs 64) (at : ℕ) (bytes : List ℕ) (es : List TapeEntry) → DescribePairs ps at bytes es → EncodePairs true ps bytes
  pairs_encoded_in no_pairs at bytes es h = h.0
  pairs_encoded_in (pair k v ps) at bytes es h =
      let key = key_encoded k at h.0 h.3 h.6 in
      (h.1, h.2, key.0, encoded_in v (at + length h.0) h.1 h.4 h.7, pairs_encoded_in ps (at + length h.0 + length h.1) h.2 h.5 h.8, h.9 ∙ ap (λ xs. xs ++ (h.1 ++ h.2)) key.1)

-- a block with a tape is one
pub tape_encodes : (es : List TapeEntry) (block : List ℕ) → IsTapeOf es block → (t : Tree) × EncodesTreeIn true t block
tape_encodes es block (i, t, tree, describes) = (t, (i, encoded_in i 0 block es describes, tree))

-- a block has a tape
tape_there : (t : Tree) (block : List ℕ) → EncodesTreeIn true t block → (es : List TapeEntry) × IsTapeOf es block
tape_there t block (i, encodes, tree) = let d = described i 0 block encodes in (d.0, (i, t, tree, d.1))

-- ---- a writer that has taken a block's events

abbrev entries_in : Reading → List TapeEntry
entries_in (reading t) = t.entries
entries_in (marked t) = []
entries_in stopped = []

-- where it could write each entry, these are all, and short
abbrev Wrote : Bool → List TapeEntry → List TapeEntry → Type 0
Wrote true written es = (written ≡ es) × (all_short es ≡ true)
Wrote false written es = all_short es ≡ false

wrote_with : (a b : Bool) (w t : Tape) (es : List TapeEntry) → all_short es ≡ b → t.entries ≡ es → (if a then reading w else stopped) ≡ (if b then reading t else stopped) → Wrote a w.entries es
wrote_with true true w t es short same e = (ap entries_in e ∙ same, short)
wrote_with true false w t es short same e = absurd (cc e)
wrote_with false true w t es short same e = absurd (cc e)
wrote_with false false w t es short same e = short

module _ (block : List ℕ) (old new : TapeWriter) (starts : reading_of old ≡ reading (empty_tape (length block))) (taken : tape_with new [] ≡ tape_with old (trace_of true block).events) where
  wrote : (es : List TapeEntry) → IsTapeOf es block → Wrote new.fits new.entries.items es
  wrote es is =
      wrote_with new.fits (all_short es) (tape_of new) (with_values (empty_tape (length block)) es 1 0) es refl refl
      (taken ∙ ap (λ r. read_on r (trace_of true block).events) starts ∙ tape_read cid_laws block es is)

  module _ (none : (trace_of true block).error ≡ None) where
    there : (es : List TapeEntry) × IsTapeOf es block
    there = let t = encodes_tree_in cid_laws true block none in tape_there t.0 block t.1

    -- all entries could be written
    pub tape_written : new.fits ≡ true → IsTapeOf new.entries.items block × (all_short new.entries.items ≡ true)
    tape_written fits =
        let w = subst (λ b. Wrote b new.entries.items there.0) fits (wrote there.0 there.1) in
        (subst (λ es. IsTapeOf es block) (sym w.0) there.1, ap all_short w.0 ∙ w.1)

    -- one of them could not
    pub tape_too_long : new.fits ≡ false → (es : List TapeEntry) × IsTapeOf es block × (all_short es ≡ false)
    tape_too_long fits = (there.0, there.1, subst (λ b. Wrote b new.entries.items there.0) fits (wrote there.0 there.1))

  -- the same of any tape of the block
  pub same_tape : new.fits ≡ true → (es : List TapeEntry) → IsTapeOf es block → new.entries.items ≡ es
  same_tape fits es is = (subst (λ b. Wrote b new.entries.items es) fits (wrote es is)).0

  pub same_too_long : new.fits ≡ false → (es : List TapeEntry) → IsTapeOf es block → all_short es ≡ false
  same_too_long fits es is = subst (λ b. Wrote b new.entries.items es) fits (wrote es is)

-- ---- a block that isn't read

pub stops_at_limit : (limits : Limits) (block : List ℕ) (kind : BlockErrorKind) (offset : ℕ) → StopsAt true limits block kind offset → (t : Tree) → EncodesTreeIn true t block → IsLimit kind
stops_at_limit limits block TooDeep offset h t is = tt
stops_at_limit limits block TooMany offset h t is = tt
stops_at_limit limits block (Cbor error) offset (inl h) t is = h.0
stops_at_limit limits block (Cbor error) offset (inr h) t is = absurd (error_in_or_tree cid_laws true block error h.0 t is)

no_limit : (limits : Limits) (block : List ℕ) (t : Tree) → EncodesTreeIn true t block → Within limits t → limit_passed true limits block ≡ None
no_limit limits block t is within = (limits_where true limits is.0 t block is.1 is.2).1 within

pub only_memory : (limits : Limits) (block : List ℕ) (kind : BlockErrorKind) (offset : ℕ) → StopsAt true limits block kind offset
    → (t : Tree) → EncodesTreeIn true t block → Within limits t → kind ≡ Cbor Memory
only_memory limits block TooDeep offset stops t is within = absurd (let e = sym stops ∙ no_limit limits block t is within in cc)
only_memory limits block TooMany offset stops t is within = absurd (let e = sym stops ∙ no_limit limits block t is within in cc)
only_memory limits block (Cbor error) offset (inl memory) t is within = ap Cbor memory.0
only_memory limits block (Cbor error) offset (inr stops) t is within = absurd (error_in_or_tree cid_laws true block error stops.0 t is)
