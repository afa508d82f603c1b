-- What is written for a node is the node.
use Rattle.std.proofs.Common.{◌≡◌, ℕ, ◌+◌, ◌<◌, ◌≤◌, ◌^◌, List, [], ◌∷◌, ◌++◌, length, Option, Some, None, Ok, Err, inl, refl, suc, Bool, true, false, cond, sym, ap, subst, ◌∙◌, arith, append_assoc, length-append, map, take, drop, get_or, add-one}
use Rattle.std.proofs.lemmas.List.{append-nil, map_more, drop_more, drop_all}
use Rattle.ipld_cid.specs.Cid.{IsValid}
use Rattle.ipld_cid.specs.Bytes.{bytes_of}
use Rattle.ipld_cid.proofs.Encodings.{has_encoding}
use Rattle.pb_wire.specs.Wire.{IsNumberOf, IsContentOf}
use Rattle.pb_wire.specs.Writing.{content_head, content_bytes}
use Rattle.pb_wire.proofs.Written.{content_written}
use Rattle.dag_pb.specs.declared.link.PbLink.{PbLink}
use Rattle.dag_pb.specs.Views.{parts_of_link}
use Rattle.dag_pb.specs.Node.{LinkParts, NodeParts, IsName, IsLink, IsLinks, IsNode}
use Rattle.dag_pb.specs.Writing.{content_of, number_of, link_bytes, link_field_bytes, links_bytes, node_bytes, precedes, AreSorted, misplaced_after, misplaced_link, unless_misplaced, written}
use Rattle.dag_pb.specs.declared.encode_error.PbEncodeError.TheVariants.{LinkOrder}

-- the parts of a link's field, put together
parts_together : (old head front hash name tsize : List ℕ) → ((((old ++ head) ++ front) ++ hash) ++ name) ++ tsize ≡ old ++ (head ++ ((front ++ hash) ++ (name ++ tsize)))
parts_together old head front hash name tsize = simp append_assoc

-- the field of a link is what was appended
pub link_written : (l : LinkParts) (old a b c d e : List ℕ) (len size : ℕ) → len ≡ length (link_bytes l) → size ≡ length (bytes_of l.hash)
    → a ≡ old ++ content_head 18 len → b ≡ a ++ content_head 10 size → c ≡ b ++ bytes_of l.hash → d ≡ c ++ content_of 18 l.name → e ≡ d ++ number_of 24 l.tsize
    → e ≡ old ++ link_field_bytes l
unfolding link_field_bytes link_bytes content_bytes
link_written l old a b c d e len size len_is size_is a_is b_is c_is d_is e_is =
    rw (e_is, d_is, c_is, b_is, a_is, len_is, size_is) (parts_together old (content_head 18 (length (link_bytes l))) (content_head 10 (length (bytes_of l.hash))) (bytes_of l.hash) (content_of 18 l.name) (number_of 24 l.tsize))

-- as long as its parts
pub link_len_is : (l : LinkParts) (head size name tsize : ℕ) → head ≡ length (content_head 10 size) → size ≡ length (bytes_of l.hash) → name ≡ length (content_of 18 l.name) → tsize ≡ length (number_of 24 l.tsize)
    → head + size + name + tsize ≡ length (link_bytes l)
unfolding link_bytes content_bytes
link_len_is l head size name tsize head_is size_is name_is tsize_is =
    rw (head_is, size_is, name_is, tsize_is) (omega (arith, length-append (content_head 10 (length (bytes_of l.hash)) ++ bytes_of l.hash) (content_of 18 l.name ++ number_of 24 l.tsize), length-append (content_head 10 (length (bytes_of l.hash))) (bytes_of l.hash), length-append (content_of 18 l.name) (number_of 24 l.tsize)))

-- a link whose parts are encoded
pub link_encoded : (l : LinkParts) → IsValid 64 l.hash → length (bytes_of l.hash) < 2 ^ 64 → IsName l.name (content_of 18 l.name) → IsNumberOf 3 l.tsize (number_of 24 l.tsize) → IsLink l (link_bytes l)
unfolding link_bytes
link_encoded l valid short name tsize = record {
  cid = bytes_of l.hash;
  hash = content_bytes 10 (bytes_of l.hash);
  name = content_of 18 l.name;
  tsize = number_of 24 l.tsize;
  cid_encoded = has_encoding 64 l.hash (omega arith) valid;
  hash_encoded = content_written 1 (bytes_of l.hash) (omega arith) short;
  name_encoded = name;
  tsize_encoded = tsize;
  encoded = refl;
}

-- one link more
pub one_more : (ls : List LinkParts) (l : LinkParts) (bytes : List ℕ) → IsLinks ls bytes → IsLink l (link_bytes l) → length (link_bytes l) < 2 ^ 64 → IsLinks (ls ++ l ∷ []) (bytes ++ link_field_bytes l)
unfolding link_field_bytes
one_more [] l bytes are is short =
    subst (λ (b : List ℕ). IsLinks (l ∷ []) (b ++ content_bytes 18 (link_bytes l))) (sym are)
    ([], record { message = link_bytes l; field = content_bytes 18 (link_bytes l); message_encoded = is; field_encoded = content_written 2 (link_bytes l) (omega arith) short; encoded = sym (append-nil (content_bytes 18 (link_bytes l))) }, refl)
one_more (k ∷ ls) l bytes are is short =
    let first = are.1 in (
      are.0 ++ link_field_bytes l,
      record {
        message = first.message;
        field = first.field;
        message_encoded = first.message_encoded;
        field_encoded = first.field_encoded;
        encoded = ap (λ (x : List ℕ). x ++ link_field_bytes l) first.encoded ∙ append_assoc first.field are.0 (link_field_bytes l);
      },
      one_more ls l are.0 are.2 is short,
    )

-- the fields of so many links, and of one more
pub fields_more : (ls : List LinkParts) (l : LinkParts) → links_bytes (ls ++ l ∷ []) ≡ links_bytes ls ++ link_field_bytes l
fields_more [] l = append-nil (link_field_bytes l)
fields_more (k ∷ ls) l = ap (λ (x : List ℕ). link_field_bytes k ++ x) (fields_more ls l) ∙ sym (append_assoc (link_field_bytes k) (links_bytes ls) (link_field_bytes l))

-- the field of a link is as long as its parts
pub field_len_is : (l : LinkParts) (len : ℕ) → len ≡ length (link_bytes l) → length (link_field_bytes l) ≡ length (content_head 18 len) + len
unfolding link_field_bytes content_bytes
field_len_is l len is = rw is (length-append (content_head 18 (length (link_bytes l))) (link_bytes l))

-- so many links, and one more
links_taken : (xs : List PbLink) (i : ℕ) (x d : PbLink) → i < length xs → x ≡ get_or xs i d → map parts_of_link (take (i + 1) xs) ≡ map parts_of_link (take i xs) ++ parts_of_link x ∷ []
links_taken xs i x d more is = map_more parts_of_link xs i d more ∙ ap (λ (y : PbLink). map parts_of_link (take i xs) ++ parts_of_link y ∷ []) (sym is)

-- the bytes of so many links, counted, and of one more
pub counts_more : (xs : List PbLink) (i : ℕ) (x : PbLink) (total len head field next : ℕ) → i < length xs → x ≡ get_or xs i x
    → total ≤ length (links_bytes (map parts_of_link (take i xs))) → len ≡ length (link_bytes (parts_of_link x)) → head ≡ length (content_head 18 len) → field ≤ head + len → next ≤ total + field
    → next ≤ length (links_bytes (map parts_of_link (take (i + 1) xs)))
counts_more xs i x total len head field next more is short len_is head_is field_is next_is =
    let all = ap links_bytes (links_taken xs i x x more is) ∙ fields_more (map parts_of_link (take i xs)) (parts_of_link x) in
    rw all (omega (arith, length-append (links_bytes (map parts_of_link (take i xs))) (link_field_bytes (parts_of_link x)), field_len_is (parts_of_link x) len len_is))

pub encodes_more : (xs : List PbLink) (i : ℕ) (x : PbLink) (len : ℕ) → i < length xs → x ≡ get_or xs i x
    → IsLinks (map parts_of_link (take i xs)) (links_bytes (map parts_of_link (take i xs))) → IsLink (parts_of_link x) (link_bytes (parts_of_link x)) → len ≡ length (link_bytes (parts_of_link x)) → len < 2 ^ 64
    → IsLinks (map parts_of_link (take (i + 1) xs)) (links_bytes (map parts_of_link (take (i + 1) xs)))
encodes_more xs i x len more is are here len_is short =
    let taken = map parts_of_link (take i xs) in
    rw (links_taken xs i x x more is, fields_more taken (parts_of_link x)) (one_more taken (parts_of_link x) (links_bytes taken) are here (omega arith))

-- the node of links and data
pub node_encoded : (n : NodeParts) → IsLinks n.links (links_bytes n.links) → IsContentOf 1 n.content (content_of 10 n.content) → IsNode n (node_bytes n)
unfolding node_bytes
node_encoded n links data' = record { links = links_bytes n.links; content = content_of 10 n.content; links_encoded = links; content_encoded = data'; encoded = inl refl }

-- a test that is false, and what follows
unless_none : (test : Bool) (index : ℕ) (o : Option ℕ) → cond test (Some index) o ≡ None → (test ≡ false) × (o ≡ None)
unless_none true index o e = absurd cc
unless_none false index o e = (refl, e)

-- links of which none is misplaced are sorted
sorted_after : (index : ℕ) (l : LinkParts) (ls : List LinkParts) → misplaced_after index l ls ≡ None → AreSorted (l ∷ ls)
sorted_after index l [] none = tt
sorted_after index l (m ∷ ls) none = let is = unless_none (precedes m l) index (misplaced_after (suc index) m ls) none in (is.0, sorted_after (suc index) m ls is.1)

pub sorted : (ls : List LinkParts) → misplaced_link ls ≡ None → AreSorted ls
sorted [] none = tt
sorted (l ∷ ls) none = sorted_after 1 l ls none

-- what the code tells of a node
pub unsorted_written : (n : NodeParts) (index : ℕ) → misplaced_link n.links ≡ Some index → written n ≡ Err (LinkOrder index)
unfolding written
unsorted_written n index is = ap (λ (o : Option ℕ). unless_misplaced o (node_bytes n)) is

pub node_written : (n : NodeParts) (start links all : List ℕ) → misplaced_link n.links ≡ None → start ≡ [] → links ≡ start ++ links_bytes n.links → all ≡ links ++ content_of 10 n.content
    → (node_bytes n ≡ all) × (written n ≡ Ok all)
unfolding written node_bytes
node_written n start links all sorted empty links_is all_is =
    let same : links_bytes n.links ++ content_of 10 n.content ≡ all = sym (all_is ∙ ap (λ (x : List ℕ). x ++ content_of 10 n.content) (links_is ∙ ap (λ (x : List ℕ). x ++ links_bytes n.links) empty)) in
    (same, ap (λ (o : Option ℕ). unless_misplaced o (links_bytes n.links ++ content_of 10 n.content)) sorted ∙ ap Ok same)

-- ---- the loop over the links

-- the first two of the links after so many
pub misplaced_here : (xs : List PbLink) (i : ℕ) (before x : PbLink) (found : Option ℕ) → i < length xs → x ≡ get_or xs i x
    → misplaced_after (i + 1) (parts_of_link before) (map parts_of_link (drop i xs)) ≡ found
    → (precedes (parts_of_link x) (parts_of_link before) ≡ true → found ≡ Some (i + 1))
    × (precedes (parts_of_link x) (parts_of_link before) ≡ false → misplaced_after (i + 1 + 1) (parts_of_link x) (map parts_of_link (drop (i + 1) xs)) ≡ found)
misplaced_here xs i before x found more is so_far =
    let rest : drop i xs ≡ x ∷ drop (i + 1) xs = drop_more xs i x more ∙ ap (λ (y : PbLink). y ∷ drop (i + 1) xs) (sym is) in
    let here = sym so_far ∙ ap (λ (ys : List PbLink). misplaced_after (i + 1) (parts_of_link before) (map parts_of_link ys)) rest in (
      λ yes. here ∙ ap (λ (b : Bool). cond b (Some (i + 1)) (misplaced_after (suc (i + 1)) (parts_of_link x) (map parts_of_link (drop (i + 1) xs)))) yes,
      λ no. rw add-one (sym (here ∙ ap (λ (b : Bool). cond b (Some (i + 1)) (misplaced_after (suc (i + 1)) (parts_of_link x) (map parts_of_link (drop (i + 1) xs)))) no)),
    )

pub misplaced_nowhere : (xs : List PbLink) (i : ℕ) (before : PbLink) (found : Option ℕ) → length xs ≤ i
    → misplaced_after (i + 1) (parts_of_link before) (map parts_of_link (drop i xs)) ≡ found → found ≡ None
misplaced_nowhere xs i before found done so_far = sym so_far ∙ ap (λ (ys : List PbLink). misplaced_after (i + 1) (parts_of_link before) (map parts_of_link ys)) (drop_all i xs done)
