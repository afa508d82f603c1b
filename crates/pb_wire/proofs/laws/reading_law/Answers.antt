use Rattle.std.proofs.Common.{ℕ, List, ◌≡◌, None, Ok, inl, inr, ap, ◌∙◌}
use Rattle.pb_wire.specs.Laws.{HasOtherKey}
use Rattle.pb_wire.specs.Reading.{after_key}
use Rattle.pb_wire.proofs.Fields.{key_other}
use Rattle.pb_wire.proofs.Varints.{varint_sound, varint_complete}
use Rattle.pb_wire.proofs.Optional.{number_sound, number_complete, content_field_sound, content_field_complete, fixed32_sound, fixed32_complete}
use Rattle.pb_wire.proofs.laws.reading_law.Goals as goal

-- a key that isn't there
no_other : (key : ℕ) (bytes : List ℕ) → HasOtherKey key bytes → after_key key bytes ≡ Ok None
unfolding after_key
no_other key bytes (inl none) = ap (after_key key) none
no_other key bytes (inr there) = ap (after_key key) there.3.2 ∙ key_other there.0 key there.3.0 there.1 there.2 there.3.1

pub returns : goal.returns
returns c = record {
  varint_read = λ bytes rest n whole e. let front = varint_sound n bytes rest whole e in (front.taken, front.is, front.parts);
  varint_encoded = λ taken rest n is. varint_complete n taken rest is;
  number_read = λ field bytes rest o whole e. let front = number_sound field bytes o rest whole e in (front.taken, front.is, front.parts);
  number_encoded = λ field taken rest o is others. number_complete field o taken rest is (no_other _ rest others);
  content_read = λ field bytes rest o whole e. let front = content_field_sound field bytes o rest whole e in (front.taken, front.is, front.parts);
  content_encoded = λ field taken rest o is others. content_field_complete field o taken rest is (no_other _ rest others);
  fixed32_read = λ field bytes rest o whole e. let front = fixed32_sound field bytes o rest whole e in (front.taken, front.is, front.parts);
  fixed32_encoded = λ field taken rest o is others. fixed32_complete field o taken rest is (no_other _ rest others);
}
