-- Known bytes, taken buffer by buffer.
use Rattle.std.proofs.Common.{ℕ, List, [], ◌++◌, true, false, Option, Some, None, refl, sym, ap, ◌∙◌}
use Rattle.std.proofs.lemmas.List.{append_assoc, append-nil}
use Rattle.std.specs.Io.KnownBytes.{Consumes}
use Rattle.ipld_codec.specs.ReadOut.{IsRead, TakesBuffer}

pub none_taken : (a : Option (List ℕ)) → Consumes a a []
none_taken None = tt
none_taken (Some xs) = refl

pub buffer_taken : (a b c : Option (List ℕ)) (before after : List ℕ) → Consumes a b before → TakesBuffer false b c before after → Consumes a c after
buffer_taken None b c before after p q = tt
buffer_taken (Some xs) None c before after p q = absurd p
buffer_taken (Some xs) (Some ys) c before after p (buffer, rest, taken, left, grown) =
    rw (left, grown) (p ∙ ap (λ zs. before ++ zs) taken ∙ sym (append_assoc before buffer rest))

pub all_taken : (a b c : Option (List ℕ)) (before after : List ℕ) → Consumes a b before → TakesBuffer true b c before after → IsRead a c after
all_taken None b c before after p q = tt
all_taken (Some xs) None c before after p q = absurd p
all_taken (Some xs) (Some ys) c before after p (ended, left, same) =
    (same ∙ sym (append-nil before) ∙ ap (λ zs. before ++ zs) (sym ended) ∙ sym p, left)
