-- The laws of the codec whose blocks are a version and a content.
use Rattle.std.specs.Prelude.{◌≡◌, ℕ, Bool, true, false, if◌then◌else◌, List, [], ◌∷◌, Some, None}
use Rattle.std.proofs.Common.{refl, sym, ap, ◌∙◌, eqb}
use Rattle.std.proofs.lemmas.Bool.{eqb-true}
use Rattle.std.proofs.lemmas.Option.{same_Some, none-some}
use Rattle.ipld_codec.specs.CodecLaws.{EncodedOnce, DecodesEncoded, WritesEncoded}
use Rattle.examples.specs.Versioned.{EncodesVersioned, versioned_content, versioned_block}

after_first : List ℕ → List ℕ
after_first [] = []
after_first (x ∷ xs) = xs

pub versioned_encoded_once : EncodedOnce EncodesVersioned
unfolding after_first
versioned_encoded_once v w block p q = ap after_first (sym p ∙ q)

-- If a byte and the bytes after it decode as a content, they are the block of that content.
version_encodes : (v : List ℕ) (byte : ℕ) (rest : List ℕ) (one : Bool) → eqb byte 1 ≡ one
    → (if one then Some rest else None) ≡ Some v → EncodesVersioned v (byte ∷ rest)
version_encodes v byte rest true is_one e = ap (λ x. x ∷ rest) (eqb-true byte 1 is_one) ∙ ap (λ xs. 1 ∷ xs) (same_Some _ _ e)
version_encodes v byte rest false is_one e = absurd (none-some v e)

content_encodes : (v block : List ℕ) → versioned_content block ≡ Some v → EncodesVersioned v block
content_encodes v [] e = absurd (none-some v e)
content_encodes v (byte ∷ rest) e = version_encodes v byte rest (eqb byte 1) refl e

pub versioned_decodes_encoded : DecodesEncoded EncodesVersioned versioned_content
versioned_decodes_encoded v block = (content_encodes v block, λ p. ap versioned_content p)

pub versioned_writes_encoded : WritesEncoded EncodesVersioned versioned_block
versioned_writes_encoded v block e = sym (same_Some _ _ e)
