-- The laws of DAG-PB as a codec.
use Rattle.std.proofs.Common.{◌≡◌, ℕ, zero, suc, Bool, true, false, List, [], ◌∷◌, Option, Some, None, option_and_then, Result, Ok, Err, refl, sym, ap, subst, ◌∙◌, arith}
use Rattle.std.specs.Prelude.{◌&&◌, if◌then◌else◌}
use Rattle.std.specs.Bool.{Decides}
use Rattle.std.specs.Cmp.{unsigned_Decides}
use Rattle.std.specs.Cmp.Lexicographic.{pointwise}
use Rattle.std.specs.Option.{option_eq}
use Rattle.std.specs.Result.{result_ok}
use Rattle.std.specs.Simd.Lanes.{all_below}
use Rattle.std.specs.Str.{bytes_eq}
use Rattle.std.proofs.lemmas.Bool.{and_from, and_parts, lt-ltb, ltb-true}
use Rattle.std.proofs.lemmas.Bool.Decides.{Decides-and, Decides-like}
use Rattle.std.proofs.lemmas.Slice.Eq.{bytes_eq-Decides, slice_eq-Decides}
use Rattle.ipld_cid.specs.Multihash.{IsBytes}
use Rattle.ipld_cid.specs.Order.{link_eq}
use Rattle.ipld_cid.specs.Lemmas.OrderLaws.{link_decides}
use Rattle.ipld_codec.specs.CodecLaws.{EncodedOnce, DecodesEncoded, WritesEncoded}
use Rattle.pb_wire.proofs.Steps.{same_ok}
use Rattle.dag_pb.specs.declared.error.PbError.{PbError}
use Rattle.dag_pb.specs.Codec.{EncodesNode, pb_decoded, if_decoded, pb_written}
use Rattle.dag_pb.specs.Equal.{parts_eq, node_eq}
use Rattle.dag_pb.specs.Node.{LinkParts, NodeParts, IsNode}
use Rattle.dag_pb.specs.NodeReading.{read_node}
use Rattle.dag_pb.specs.Writing.{written}
use Rattle.dag_pb.specs.Lemmas.NodeLaws.{node_sound, node_complete}

-- ---- equality

option_decides : {X : Type 0} (E : X → X → Bool) → ((x y : X) → Decides (E x y) (x ≡ y)) → (a b : Option X) → Decides (option_eq E a b) (a ≡ b)
option_decides E decides None None = (λ e. refl, λ e. refl)
option_decides E decides None (Some y) = (λ e. absurd cc, λ e. absurd cc)
option_decides E decides (Some x) None = (λ e. absurd cc, λ e. absurd cc)
option_decides E decides (Some x) (Some y) = Decides-like (E x y) (ap Some) (λ e. cc) (decides x y)

same_link : (a b : LinkParts) → a.hash ≡ b.hash → a.name ≡ b.name → a.tsize ≡ b.tsize → a ≡ b
same_link a b hash name tsize = λ i. record { hash = hash i; name = name i; tsize = tsize i }

parts_decide : (a b : LinkParts) → Decides (parts_eq a b) (a ≡ b)
parts_decide a b =
    Decides-like (parts_eq a b) (λ p. same_link a b p.0 p.1.0 p.1.1) (λ e. (ap (λ (l : LinkParts). l.hash) e, (ap (λ (l : LinkParts). l.name) e, ap (λ (l : LinkParts). l.tsize) e)))
    (Decides-and (link_eq a.hash b.hash) (option_eq bytes_eq a.name b.name && option_eq _ a.tsize b.tsize) (link_decides a.hash b.hash)
    (Decides-and (option_eq bytes_eq a.name b.name) (option_eq _ a.tsize b.tsize) (option_decides bytes_eq bytes_eq-Decides a.name b.name) (option_decides _ unsigned_Decides a.tsize b.tsize)))

same_node : (a b : NodeParts) → a.links ≡ b.links → a.content ≡ b.content → a ≡ b
same_node a b links content = λ i. record { links = links i; content = content i }

node_decides : (a b : NodeParts) → Decides (node_eq a b) (a ≡ b)
node_decides a b =
    Decides-like (node_eq a b) (λ p. same_node a b p.0 p.1) (λ e. (ap (λ (n : NodeParts). n.links) e, ap (λ (n : NodeParts). n.content) e))
    (Decides-and (pointwise parts_eq a.links b.links) (option_eq bytes_eq a.content b.content) (slice_eq-Decides parts_decide a.links b.links _ refl) (option_decides bytes_eq bytes_eq-Decides a.content b.content))

-- ---- the node that a block decodes to

below_bytes : (xs : List ℕ) → all_below 256 xs ≡ true → IsBytes xs
below_bytes [] e i = omega arith
below_bytes (x ∷ xs) e zero = ltb-true x 256 (and_parts _ _ e).0
below_bytes (x ∷ xs) e (suc i) = below_bytes xs (and_parts _ _ e).1 i

bytes_below : (xs : List ℕ) → IsBytes xs → all_below 256 xs ≡ true
bytes_below [] is = refl
bytes_below (x ∷ xs) is = and_from _ _ (lt-ltb x 256 (is 0)) (bytes_below xs (λ i. is (suc i)))

from_ok : (r : Result NodeParts PbError) (n : NodeParts) → result_ok r ≡ Some n → r ≡ Ok n
from_ok (Ok m) n e = ap Ok cc
from_ok (Err error) n e = absurd cc

decoded_by : (b : Bool) (n : NodeParts) (block : List ℕ) → all_below 256 block ≡ b → (if b then result_ok (read_node block) else None) ≡ Some n → EncodesNode n block
decoded_by false n block below e = absurd cc
decoded_by true n block below e = let is = below_bytes block below in (is, node_sound block n is (from_ok (read_node block) n e))

-- bytes that are read are decoded
pub read_decoded : (block : List ℕ) (r : Result NodeParts PbError) → IsBytes block → read_node block ≡ r → pb_decoded block ≡ result_ok r
unfolding pb_decoded
read_decoded block r is e = ap (λ b. if b then result_ok (read_node block) else None) (bytes_below block is) ∙ ap result_ok e

decoded_encodes : (n : NodeParts) (block : List ℕ) → pb_decoded block ≡ Some n → EncodesNode n block
unfolding pb_decoded
decoded_encodes n block e = decoded_by (all_below 256 block) n block refl e

pub pb_decodes_encoded : DecodesEncoded EncodesNode pb_decoded
pb_decodes_encoded n block = (decoded_encodes n block, λ is. read_decoded block (Ok n) is.0 (node_complete block n is.1))

pub pb_encoded_once : EncodedOnce EncodesNode
pb_encoded_once n m block is also = same_ok (λ (x : NodeParts). x ≡ m) m n (sym (node_complete block m also.1) ∙ node_complete block n is.1) refl

-- ---- the block that is written

if_is : (b : Bool) (x block : List ℕ) → (if b then Some x else None) ≡ Some block → (b ≡ true) × (x ≡ block)
if_is true x block e = (refl, cc)
if_is false x block e = absurd cc

written_encodes : (o : Option (List ℕ)) (n : NodeParts) (block : List ℕ) → option_and_then (if_decoded n) o ≡ Some block → EncodesNode n block
written_encodes None n block e = absurd cc
written_encodes (Some x) n block e =
    let parts = if_is (option_eq node_eq (pb_decoded x) (Some n)) x block e in
    subst (EncodesNode n) parts.1 (decoded_encodes n x ((option_decides node_eq node_decides (pb_decoded x) (Some n)).0 parts.0))

pub pb_writes_encoded : WritesEncoded EncodesNode pb_written
unfolding pb_written
pb_writes_encoded n block e = written_encodes (result_ok (written n)) n block e

-- a block that decodes to its node is written
pub block_written : (n : NodeParts) (block : List ℕ) → written n ≡ Ok block → pb_decoded block ≡ Some n → pb_written n ≡ Some block
unfolding pb_written
block_written n block is decoded =
    ap (λ r. option_and_then (if_decoded n) (result_ok r)) is
    ∙ ap (λ b. if b then Some block else None) ((option_decides node_eq node_decides (pb_decoded block) (Some n)).1 decoded)
