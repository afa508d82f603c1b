-- What is known of the links of a block.
use Rattle.std.proofs.Common.{◌≡◌, ◌⊎◌, inl, inr, ℕ, true, false, List, Some, None, refl, sym, ap, subst, ◌∙◌}
use Rattle.std.specs.Prelude.{MatchOption}
use Rattle.ipld_tree.specs.Tree.{Tree}
use Rattle.ipld_codec.specs.Codec.{memory}
use Rattle.ipld_tokens.specs.Item.{Item}
use Rattle.ipld_tokens.specs.ItemTree.{tree_of_item}
use Rattle.dag_cbor_format.specs.declared.error.CborError.{CborError}
use Rattle.dag_cbor_format.specs.declared.error.CborError.TheVariants.{Memory, Read, Write, End, NotShortest, Float, Unsupported, Utf8, KeyNotText, DuplicateKey, LinkBytes, Cid, TrailingBytes, IntegerRange}
use Rattle.dag_cbor_format.specs.ErrorKinds.{lies_in_bytes}
use Rattle.dag_cbor_format.specs.Encoding.{EncodesItem}
use Rattle.dag_cbor_format.specs.Found.{links_found}
use Rattle.dag_cbor.specs.CodecErrors.{cbor_failure}
use Rattle.dag_cbor_format.proofs.ItemHeaderLaws.{CidLaws}
use Rattle.dag_cbor_format.proofs.FoundLinks.{none_found}

not_memory : (error : CborError) → error ≡ Memory → lies_in_bytes error ≡ true → ⊥
not_memory error e lies = let x : false ≡ true = sym (ap lies_in_bytes e) ∙ lies in absurd (cc x)

-- what an error in the bytes is to a codec
pub in_bytes_is_no_failure : (error : CborError) → lies_in_bytes error ≡ true → cbor_failure error ≡ None
in_bytes_is_no_failure Memory e = absurd (cc e)
in_bytes_is_no_failure Read e = absurd (cc e)
in_bytes_is_no_failure Write e = absurd (cc e)
in_bytes_is_no_failure End e = refl
in_bytes_is_no_failure NotShortest e = refl
in_bytes_is_no_failure Float e = refl
in_bytes_is_no_failure Unsupported e = refl
in_bytes_is_no_failure Utf8 e = refl
in_bytes_is_no_failure KeyNotText e = refl
in_bytes_is_no_failure DuplicateKey e = refl
in_bytes_is_no_failure LinkBytes e = refl
in_bytes_is_no_failure (Cid error) e = refl
in_bytes_is_no_failure TrailingBytes e = refl
in_bytes_is_no_failure IntegerRange e = absurd (cc e)

-- an error reports that an allocation failed, or that there are no links
pub reported : CidLaws → (block : List ℕ) (error : CborError) → ((i : Item 64) (t : Tree) → EncodesItem i block → tree_of_item i ≡ Some t → error ≡ Memory)
    → (error ≡ Memory) ⊎ (lies_in_bytes error ≡ true) → MatchOption (cbor_failure error) (links_found block ≡ None) (λ f. f ≡ memory)
reported laws block error only (inl e) = subst (λ x. MatchOption (cbor_failure x) (links_found block ≡ None) (λ f. f ≡ memory)) (sym e) refl
reported laws block error only (inr lies) =
    subst (λ o. MatchOption o (links_found block ≡ None) (λ f. f ≡ memory)) (sym (in_bytes_is_no_failure error lies))
    (none_found laws block (λ t s. not_memory error (only s.0 t s.1 s.2) lies))
