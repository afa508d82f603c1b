-- What is read of a block, from its events.
use Rattle.std.proofs.Common.{◌≡◌, inl, inr, ℕ, Bool, true, false, List, [], ◌++◌, length, map, Option, Some, None, option_map, refl, sym, ap, subst, ◌∙◌, arith}
use Rattle.std.specs.Prelude.{◌↔◌, ◌&&◌}
use Rattle.std.proofs.lemmas.List.{append-nil}
use Rattle.ipld_cid.specs.Cid.{Link}
use Rattle.ipld_cid.specs.LinkOf.{link_of}
use Rattle.ipld_tokens.proofs.ItemLinks.{same_links}
use Rattle.ipld_tokens.proofs.TreeEnds.{reads_item}
use Rattle.ipld_tokens.proofs.Verdicts.{LinkLaws, link_laws}
use Rattle.ipld_tokens.specs.Item.{Item, tokens_of, links_in}
use Rattle.ipld_tokens.specs.ItemTree.{tree_of_item}
use Rattle.ipld_tokens.specs.ReadMachine as reading
use Rattle.ipld_tokens.specs.ReadMachine.{done, run}
use Rattle.ipld_tree.specs.Limits.{Within}
use Rattle.ipld_tree.specs.Tree.{Tree}
use Rattle.ipld_tree.specs.declared.limits.Limits.{Limits}
use Rattle.dag_cbor_format.proofs.Complete.{over_block_in}
use Rattle.dag_cbor_format.proofs.CanonicalEncoding.{written_sorted}
use Rattle.dag_cbor_format.proofs.ErrorLaws.{error_in_or_tree}
use Rattle.dag_cbor_format.proofs.EventsOf.{events_tokens}
use Rattle.dag_cbor_format.proofs.FloatLaws.{plain_item, has_encoding, item_encoded}
use Rattle.dag_cbor_format.proofs.Sound.{encodes_tree_in}
use Rattle.dag_cbor_format.proofs.SortedEvents.{block_sorted}
use Rattle.dag_cbor_format.specs.Canonical.{canonical}
use Rattle.dag_cbor_format.specs.Found.{links_among}
use Rattle.dag_cbor_format.specs.KeysAscend.{keys_ascend, is_sorted}
use Rattle.dag_cbor_format.specs.Reading.{unless_error}
use Rattle.dag_cbor_format.specs.Trace.{tokens_in, Trace, trace_of, Position, positions_among, error_in, links_read, positions_read}
use Rattle.dag_cbor_format.specs.WithFloats.{EncodesIn, EncodesTreeIn}
use Rattle.dag_cbor_format.specs.declared.error.CborError.TheVariants.{Memory}
use Rattle.dag_cbor_blocks.proofs.Counting.{limit_is, tree_allowed, tree_within}
use Rattle.dag_cbor_format.proofs.OnlySorted.{only_sorted}
use Rattle.dag_cbor_blocks.specs.Counting.{Passed, start, excess, passed, with_offset, limit_passed}
use Rattle.dag_cbor_blocks.specs.Decoded.{LinksOf}
use Rattle.dag_cbor_format.proofs.CidLaws.{cid_laws}
use Rattle.dag_cbor_blocks.specs.LinkFinder.{links_with}
use Rattle.dag_cbor_blocks.specs.LinkPositions.{position_of, kept, found_with}
use Rattle.dag_cbor_blocks.specs.OrderChecker.{lasts_in, lasts_of, sorted_with}
use Rattle.dag_cbor_blocks.specs.Within.{StopsAt}
use Rattle.dag_cbor_blocks.specs.declared.block_error.BlockErrorKind.{BlockErrorKind}
use Rattle.dag_cbor_blocks.specs.declared.block_error.BlockErrorKind.TheVariants.{Cbor, TooDeep, TooMany}
use Rattle.dag_cbor_blocks.specs.declared.canonical.OrderChecker.{OrderChecker}
use Rattle.dag_cbor_blocks.specs.declared.link_position.PositionFinder.{PositionFinder}
use Rattle.dag_cbor_blocks.specs.declared.links.LinkFinder.{LinkFinder}
use Rattle.dag_cbor_format.proofs.TreeOfBlock.{no_error_where}
use Rattle.dag_cbor_format.proofs.FoundLinks.{read_is, read_only}

none_kept : (b : Bool) → kept b [] ≡ []
none_kept true = refl
none_kept false = refl

and_true : (b : Bool) → (b && true) ≡ b
and_true true = refl
and_true false = refl

module _ (floats : Bool) (block : List ℕ) (whole : (trace_of floats block).error ≡ None) where
  known : {A : Type 0} (x y : A) → y ≡ x → unless_error (trace_of floats block).error (Some x) ≡ Some y
  known x y e = ap (λ o. unless_error o (Some x)) whole ∙ ap Some (sym e)

  pub links_known : (ls : List Link) → ls ≡ links_among (tokens_in (trace_of floats block).events) → links_read floats block ≡ Some ls
  unfolding links_read
  links_known ls e = known (links_among (tokens_in (trace_of floats block).events)) ls e

  pub count_known : (n : ℕ) → n ≡ length (links_among (tokens_in (trace_of floats block).events)) → option_map length (links_read floats block) ≡ Some n
  count_known n e = ap (option_map length) (links_known (links_among (tokens_in (trace_of floats block).events)) refl) ∙ ap Some (sym e)

  pub positions_known : (ps : List Position) → ps ≡ positions_among (length block) (trace_of floats block).events → positions_read floats block ≡ Some ps
  unfolding positions_read
  positions_known ps e = known (positions_among (length block) (trace_of floats block).events) ps e

  pub sorted_known : (sorted : Bool) → sorted ≡ keys_ascend [] (trace_of floats block).events → is_sorted floats block ≡ Some sorted
  unfolding is_sorted
  sorted_known sorted e = known (keys_ascend [] (trace_of floats block).events) sorted e

  pub error_known : error_in floats block ≡ None
  unfolding error_in
  error_known = whole

  -- by what a visitor comes to that has taken the events
  pub counted : (old new : PositionFinder) → old.count ≡ 0 → found_with new [] ≡ found_with old (trace_of floats block).events → option_map length (links_read floats block) ≡ Some new.count
  counted old new zero e = count_known new.count (omega (arith, zero, ap (λ (x : ℕ × List Position). x.0) e))

  pub finder_links : (old new : LinkFinder) → old.links.items ≡ [] → links_with new [] ≡ links_with old (tokens_in (trace_of floats block).events) → links_read floats block ≡ Some (map link_of new.links.items)
  finder_links old new empty e =
      links_known (map link_of new.links.items) (sym (append-nil (map link_of new.links.items)) ∙ e ∙ ap (λ xs. map link_of xs ++ links_among (tokens_in (trace_of floats block).events)) empty)

  pub finder_positions : (old new : PositionFinder) → old.positions.items ≡ [] → old.size ≡ length block → old.is_keeping ≡ true → found_with new [] ≡ found_with old (trace_of floats block).events
      → positions_read floats block ≡ Some (map position_of new.positions.items)
  finder_positions old new empty size keeps e =
      let ps = positions_among (length block) (trace_of floats block).events in
      positions_known (map position_of new.positions.items) (
      sym (ap (λ xs. map position_of new.positions.items ++ xs) (none_kept new.is_keeping) ∙ append-nil (map position_of new.positions.items)) ∙ ap (λ (x : ℕ × List Position). x.1) e
      ∙ ap (λ xs. map position_of xs ++ kept old.is_keeping (positions_among old.size (trace_of floats block).events)) empty
      ∙ ap (λ n. kept old.is_keeping (positions_among n (trace_of floats block).events)) size ∙ ap (λ b. kept b ps) keeps
      )

  pub checker_sorted : (old new : OrderChecker) → old.lasts.items ≡ [] → old.is_sorted ≡ true → sorted_with new [] ≡ sorted_with old (trace_of floats block).events → is_sorted floats block ≡ Some new.is_sorted
  checker_sorted old new empty fresh e =
      sorted_known new.is_sorted (
      sym (and_true new.is_sorted) ∙ e ∙ ap (λ b. b && keys_ascend (lasts_of old) (trace_of floats block).events) fresh
      ∙ ap (λ ks. keys_ascend (lasts_in ks []) (trace_of floats block).events) empty
      )

-- ---- canonical form

pub canonical_where : (block : List ℕ) (sorted : Bool) → is_sorted false block ≡ Some sorted → (sorted ≡ true) ↔ ((t : Tree) × (canonical t ≡ Some block))
unfolding is_sorted
canonical_where block sorted e =
    let w = encodes_tree_in cid_laws false block (no_error_where (trace_of false block).error (Some (keys_ascend [] (trace_of false block).events)) sorted e) in
    let i = w.1.0 in (
      λ yes. (w.0, only_sorted cid_laws i w.0 block (has_encoding false i block w.1.1, item_encoded i block w.1.1) w.1.2 ((block_sorted cid_laws false i w.0 block w.1.1 w.1.2 sorted e).0 yes)),
      λ c.
          let s = written_sorted cid_laws c.0 block c.1 in
          let plain = subst (EncodesIn false s.0) (sym s.1.1) (plain_item false s.0 s.1.0) in
          (block_sorted cid_laws false s.0 c.0 block plain s.3 sorted e).1 s.2,
    )

-- ---- links

-- the links that are read are those of the item that the bytes encode
pub links_encoded : (floats : Bool) (block : List ℕ) (ls : List Link) → links_read floats block ≡ Some ls → LinksOf floats block ls
links_encoded floats block ls e =
    let o = read_only cid_laws floats block ls e in
    (o.0, o.1, o.2, o.3, o.4, same_links o.0 o.1 o.3)

pub links_only : (floats : Bool) (block : List ℕ) (ls : List Link) → links_read floats block ≡ Some ls → (i : Item 64) (t : Tree) → EncodesIn floats i block → tree_of_item i ≡ Some t → ls ≡ links_in i
links_only floats block ls e i t encodes is = let same : Some ls ≡ Some (links_in i) = sym e ∙ read_is cid_laws floats i t block encodes is in cc

-- ---- limits

pub laws : LinkLaws 64
laws = link_laws 64 cid_laws.reads cid_laws.encodes cid_laws.valid cid_laws.once

pub block_tokens : (floats : Bool) (i : Item 64) (t : Tree) (block : List ℕ) → EncodesIn floats i block → tree_of_item i ≡ Some t → tokens_in (trace_of floats block).events ≡ tokens_of i
block_tokens floats i t block encodes has =
    let over = over_block_in cid_laws floats i t block encodes has in
    ap (λ (x : Trace). tokens_in x.events) over.is ∙ ap tokens_in (append-nil over.events) ∙ events_tokens i over.events over.of

-- no block encodes two trees
pub tree_once : (floats : Bool) (t u : Tree) (block : List ℕ) → EncodesTreeIn floats t block → EncodesTreeIn floats u block → t ≡ u
tree_once floats t u block (i, a, is) (j, b, js) =
    let tokens : tokens_of i ≡ tokens_of j = sym (block_tokens floats i t block a is) ∙ block_tokens floats j u block b js in
    let same : done t ≡ done u = sym (reads_item laws i t is) ∙ ap (run reading.start) tokens ∙ reads_item laws j u js in cc

none_if : (size : ℕ) (o : Option Passed) → (with_offset size o ≡ None) ↔ (option_map (λ p. p.0) o ≡ None)
none_if size None = (λ e. refl, λ e. refl)
none_if size (Some p) = (λ e. absurd (cc e), λ e. absurd (cc e))

module _ (floats : Bool) (limits : Limits) (i : Item 64) (t : Tree) (block : List ℕ) (encodes : EncodesIn floats i block) (has : tree_of_item i ≡ Some t) where
  excess_is : excess limits start (tokens_of i) ≡ option_map (λ p. p.0) (passed limits start (length block) (length block) (trace_of floats block).events)
  excess_is =
      ap (excess limits start) (sym (block_tokens floats i t block encodes has)) ∙ limit_is limits start (length block) (length block) (trace_of floats block).events

  pub limits_where : (limit_passed floats limits block ≡ None) ↔ Within limits t
  unfolding limit_passed
  limits_where =
      let events = (trace_of floats block).events in
      let same = none_if (length block) (passed limits start (length block) (length block) events) in (
        λ none. tree_within limits (tokens_of i) t (reads_item laws i t has) (excess_is ∙ same.0 none),
        λ within. same.1 (sym excess_is ∙ tree_allowed limits (tokens_of i) t (reads_item laws i t has) within),
      )

-- of a block within the limits an allocation alone can fail
pub only_memory : (floats : Bool) (limits : Limits) (block : List ℕ) (kind : BlockErrorKind) (offset : ℕ) → StopsAt floats limits block kind offset
    → (t : Tree) → EncodesTreeIn floats t block → Within limits t → kind ≡ Cbor Memory
only_memory floats limits block TooDeep offset stops t is within = absurd (let e = sym stops ∙ (limits_where floats limits is.0 t block is.1 is.2).1 within in cc)
only_memory floats limits block TooMany offset stops t is within = absurd (let e = sym stops ∙ (limits_where floats limits is.0 t block is.1 is.2).1 within in cc)
only_memory floats limits block (Cbor error) offset (inl memory) t is within = ap Cbor memory.0
only_memory floats limits block (Cbor error) offset (inr stops) t is within = absurd (error_in_or_tree cid_laws floats block error stops.0 t is)
