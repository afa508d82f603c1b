-- What is out of range isn't written.
use Rattle.std.proofs.Common.{◌≡◌, ◌⊎◌, inl, inr, ℕ, pos, negsuc, Bool, true, false, List, Option, Some, None, refl, ap, ◌∙◌}
use Rattle.std.specs.Prelude.{if◌then◌else◌, ◌&&◌}
use Rattle.ipld_tree.specs.Tree.{Tree, null, boolean, integer, text, bytes, list, entries, link, Items, no_items, item, Members, no_members, member}
use Rattle.dag_cbor_format.specs.declared.major.Major.TheVariants.{List as Array}
use Rattle.dag_cbor_format.specs.Canonical.{joined, headed, item_count, precedes, Written, written_with, written_map, canonical, canonical_items, canonical_members}
use Rattle.dag_cbor_format.specs.Range.{in_range, items_in_range, members_in_range}
use Rattle.dag_cbor_format.specs.declared.error.CborError.{CborError}
use Rattle.dag_cbor_format.specs.declared.error.CborError.TheVariants.{Memory, IntegerRange}
use Rattle.dag_cbor.proofs.Joining.{joined_none}

either_false : (a b : Bool) → (a && b) ≡ false → (a ≡ false) ⊎ (b ≡ false)
either_false true b e = inr e
either_false false b e = inl refl

none_joined : (p : Option (List ℕ)) → joined None p ≡ None
none_joined p = refl

with_none : (k : List ℕ) (o : Option (List ℕ)) → written_with k o None ≡ None
with_none k None = refl
with_none k (Some b) = refl

none_with : (k : List ℕ) (q : Option Written) → written_with k None q ≡ None
none_with k q = refl

if_none : (b : Bool) (q : Option Written) → q ≡ None → (if b then q else None) ≡ None
if_none true q e = e
if_none false q e = refl

mutual
  pub unwritten : (t : Tree) → in_range t ≡ false → canonical t ≡ None
  unwritten null e = absurd cc
  unwritten (boolean b) e = absurd cc
  unwritten (integer (pos n)) e = rw e
  unwritten (integer (negsuc n)) e = rw e
  unwritten (text s) e = absurd cc
  unwritten (bytes b) e = absurd cc
  unwritten (list ts) e = ap (headed Array (item_count ts)) (items_unwritten ts e)
  unwritten (entries ms) e = ap written_map (members_unwritten ms e)
  unwritten (link cid) e = absurd cc

  items_unwritten : (ts : Items) → items_in_range ts ≡ false → canonical_items ts ≡ None
  items_unwritten no_items e = absurd cc
  items_unwritten (item t ts) e =
      elim (either_false (in_range t) (items_in_range ts) e) [
        | inl first ↦ ap (λ o. joined o (canonical_items ts)) (unwritten t first) ∙ none_joined (canonical_items ts)
        | inr more ↦ ap (joined (canonical t)) (items_unwritten ts more) ∙ joined_none (canonical t)
      ]

  members_unwritten : (ms : Members) → members_in_range ms ≡ false → canonical_members ms ≡ None
  members_unwritten no_members e = absurd cc
  members_unwritten (member k t ms) e =
      elim (either_false (in_range t) (members_in_range ms) e) [
        | inl first ↦
            if_none (precedes k ms) (written_with k (canonical t) (canonical_members ms))
            (ap (λ o. written_with k o (canonical_members ms)) (unwritten t first) ∙ none_with k (canonical_members ms))
        | inr more ↦
            if_none (precedes k ms) (written_with k (canonical t) (canonical_members ms))
            (ap (written_with k (canonical t)) (members_unwritten ms more) ∙ with_none k (canonical t))
      ]

-- why a tree that begins so wasn't written
pub why_unwritten : (error : CborError) (t : Tree) (b : Bool) → in_range t ≡ b → (error ≡ Memory) ⊎ ((error ≡ IntegerRange) × (b ≡ false))
    → (error ≡ Memory) ⊎ ((error ≡ IntegerRange) × (canonical t ≡ None) × (in_range t ≡ false))
why_unwritten error t b same why =
    elim why [
      | inl memory ↦ inl memory
      | inr range ↦ let out : in_range t ≡ false = same ∙ range.1 in inr (range.0, unwritten t out, out)
    ]
