-- Bytes that follow a tree, and a tree in which a name is missing.
use Rattle.std.proofs.Common.{◌≡◌, ◌≤◌, ◌-◌, inr, ℕ, false, List, [], ◌∷◌, ◌++◌, length, Option, Some, None, IsSomeAnd, option_map, codes, refl, sym, ap, subst, ◌∙◌, arith}
use Rattle.std.specs.Prelude.{◌≢◌, ◌==◌}
use Rattle.std.proofs.lemmas.List.{append-nil, length-append}
use Rattle.ipld_tree.specs.Tree.{Tree}
use Rattle.ipld_tree.specs.Limits.{Within}
use Rattle.ipld_tree.specs.declared.limits.Limits.{Limits}
use Rattle.ipld_tokens.specs.Item.{Item, tokens_of}
use Rattle.ipld_tokens.specs.ItemTree.{tree_of_item}
use Rattle.ipld_tokens.proofs.TreeEnds.{reads_item}
use Rattle.ipld_ser.specs.declared.error.SerdeError.{SerdeError}
use Rattle.ipld_de.specs.ImageReader.{BeginsMissing}
use Rattle.ipld_de.specs.Reading.{IsCustom}
use Rattle.dag_cbor_format.specs.Encoding.{encoding, HasEncoding}
use Rattle.dag_cbor_format.specs.FirstError.{first_error}
use Rattle.dag_cbor_format.specs.Reading.{one, item_step_in, Ran}
use Rattle.dag_cbor_format.specs.Trace.{Event, Trace, tokens_in, traced, trace_ahead, trace_of, error_in, error_offset}
use Rattle.dag_cbor_format.specs.declared.error.CborError.TheVariants as cbor
use Rattle.dag_cbor_format.proofs.CidLaws.{cid_laws}
use Rattle.dag_cbor_format.proofs.Complete.{over_item}
use Rattle.dag_cbor_format.proofs.ErrorLaws.{error_or_tree}
use Rattle.dag_cbor_format.proofs.EventsOf.{EventsOf, events_tokens}
use Rattle.dag_cbor_format.proofs.FloatLaws.{plain_item}
use Rattle.dag_cbor_format.proofs.Running.{ran_of, trace_unwound, erased_block}
use Rattle.dag_cbor_blocks.specs.Counting.{Passed, start, excess, passed, with_offset, excess_of_block, limit_passed}
use Rattle.dag_cbor_blocks.proofs.Counting.{limit_is, tree_allowed}
use Rattle.dag_cbor_blocks.proofs.EventReads.{laws}
use Rattle.dag_cbor_blocks.proofs.Fits.{allowed}
use Rattle.dag_cbor.specs.Lemmas.BlockLaws.{block_decodes_encoded}
use Rattle.dag_cbor.specs.Shallow.{Begins}
use Rattle.dag_cbor_serde.specs.Errors.{trailing_at}
use Rattle.dag_cbor_serde.specs.Read.{NotRead}
use Rattle.dag_cbor_serde.specs.declared.error.DecodeError.TheVariants.{Value}
use Rattle.dag_cbor_serde.proofs.PartReads.{whole_begins}
use Rattle.dag_cbor_serde.proofs.Reading.{not_within}

-- ---- bytes that follow an item

-- these events, and then that so many bytes follow
abbrev followed : List Event → ℕ → Trace
followed es left = record { events = es; error = Some cbor.TrailingBytes; left = left }

-- the events of an item, and then that bytes follow
abbrev Followed : Item 64 → List ℕ → List ℕ → Type 0
Followed i block rest = (es : List Event) × EventsOf i es × (trace_of false block ≡ followed (es ++ []) (length rest))

is_followed : (i : Item 64) (t : Tree) (block rest : List ℕ) → HasEncoding i → tree_of_item i ≡ Some t → block ≡ encoding i ++ rest → rest ≢ [] → Followed i block rest
is_followed i t block [] has is e more = absurd (more refl)
is_followed i t block (b ∷ bs) has is e more =
    let o = over_item cid_laws false i t (length block) [] (encoding i) (b ∷ bs) (plain_item false i has) is refl in (
      o.events,
      o.of,
      trace_unwound false cid_laws (one ∷ []) block ∙ ap (λ xs. traced (length block) (trace_ahead false) (item_step_in false [] xs)) e ∙ o.is
          ∙ ap (λ (x : Trace). followed_by o.events x) (trace_unwound false cid_laws [] (b ∷ bs)),
    )
  where
    followed_by : List Event → Trace → Trace
    followed_by es x = record { events = es ++ x.events; error = x.error; left = x.left }

none_passed_at : (size : ℕ) (o : Option Passed) → option_map (λ p. p.0) o ≡ None → with_offset size o ≡ None
none_passed_at size None e = refl
none_passed_at size (Some p) e = absurd (cc e)

module _ (limits : Limits) (i : Item 64) (t : Tree) (block rest : List ℕ) (is : tree_of_item i ≡ Some t) (within : Within limits t) (f : Followed i block rest) where
  error_is : error_in false block ≡ Some cbor.TrailingBytes
  unfolding error_in
  error_is = ap (λ (x : Trace). x.error) f.2

  offset_is : error_offset false block ≡ length block - length rest
  unfolding error_offset
  offset_is = ap (λ (x : Trace). length block - x.left) f.2

  first_is : first_error block ≡ Some cbor.TrailingBytes
  unfolding first_error
  first_is = ap (λ (r : Ran). r.error) (sym (erased_block block) ∙ ap ran_of f.2)

  tokens_are : tokens_in (trace_of false block).events ≡ tokens_of i
  tokens_are = ap (λ (x : Trace). tokens_in x.events) f.2 ∙ ap tokens_in (append-nil f.0) ∙ events_tokens i f.0 f.1

  no_excess : excess limits start (tokens_in (trace_of false block).events) ≡ None
  no_excess = ap (excess limits start) tokens_are ∙ tree_allowed limits (tokens_of i) t (reads_item laws i t is) within

  none_in_block : excess_of_block limits block ≡ None
  unfolding excess_of_block
  none_in_block = ap (λ (r : Ran). excess limits start r.tokens) (sym (erased_block block)) ∙ no_excess

  none_anywhere : limit_passed false limits block ≡ None
  unfolding limit_passed
  none_anywhere =
      let events = (trace_of false block).events in
      none_passed_at (length block) (passed limits start (length block) (length block) events) (sym (limit_is limits start (length block) (length block) events) ∙ no_excess)

  followed_rejected : {C : Type 0} (reads : Tree → Option C) (why : Tree → SerdeError → Type 0) (n : ℕ) → n ≡ length block - length rest → NotRead reads why limits block (trailing_at n)
  followed_rejected reads why n at = (
    λ found. not_within limits block ⊥ (λ u encodes inside. error_or_tree cid_laws block cbor.TrailingBytes first_is u encodes) found,
    inr (first_is, none_in_block),
    inr (error_is, none_anywhere, at ∙ sym offset_is),
    λ q. cc,
    omega (arith, at),
  )

-- ---- what begins a block

begins_within : (limits : Limits) (levels : ℕ) (t : Tree) (block rest : List ℕ) → Begins levels t block rest → levels ≤ limits.levels → length block ≤ limits.values → Within limits t
begins_within limits levels t block rest (i, has, is, e, flat) fits enough =
    allowed limits levels t (encoding i) (i, (has, refl), is) flat fits (omega (arith, ap length e, length-append (encoding i) rest, enough))

-- bytes follow it
pub trailing_rejected : {C : Type 0} (reads : Tree → Option C) (why : Tree → SerdeError → Type 0) (limits : Limits) (levels : ℕ) (t : Tree) (block rest : List ℕ) (n : ℕ) → Begins levels t block rest
    → rest ≢ [] → levels ≤ limits.levels → length block ≤ limits.values → n ≡ length block - length rest → NotRead reads why limits block (trailing_at n)
trailing_rejected reads why limits levels t block rest n (i, has, is, e, flat) more fits enough at =
    followed_rejected limits i t block rest is (begins_within limits levels t block rest (i, has, is, e, flat) fits enough) (is_followed i t block rest has is e more) reads why n at

-- a name is missing in it, and nothing follows it
pub missing_rejected : {C : Type 0} (reads : Tree → Option C) (why : Tree → SerdeError → Type 0) (limits : Limits) (levels : ℕ) (block rest : List ℕ) (e : SerdeError)
    → BeginsMissing (Begins levels) reads why block rest → rest ≡ [] → levels ≤ limits.levels → length block ≤ limits.values → IsCustom (codes "missing field") e → NotRead reads why limits block (Value e)
missing_rejected reads why limits levels block rest e (t, begun, none, rejects) ended fits enough is =
    let whole = whole_begins levels t block rest begun ended in (
      subst (λ o. IsSomeAnd o (λ u. Within limits u × (reads u ≡ None) × why u e)) (sym ((block_decodes_encoded t block).1 whole.0))
          (begins_within limits levels t block rest begun fits enough, none, rejects e is),
      λ q. subst (IsCustom (codes "missing field")) q is,
    )

-- something follows
pub something_over : (rest : List ℕ) → (length rest == 0) ≡ false → rest ≢ []
something_over [] e = absurd cc
something_over (b ∷ bs) e = λ q. cc
