-- The root of a file names its bytes.
use Rattle.std.proofs.Common.{◌≡◌, ℕ, List, [], ◌∷◌, ◌++◌, length, refl, sym, ap, subst, ◌∙◌, arith, append_assoc, length-append}
use Rattle.std.specs.Prelude.{Bool, true, false, ◌&&◌, if◌then◌else◌, map, sum}
use Rattle.std.specs.List.{All, concat}
use Rattle.std.proofs.lemmas.List.{append-nil, map-append}
use Rattle.std.proofs.lemmas.List.Elements.{All-head, All-tail, All-append, All-cons, All-nil}
use Rattle.std.proofs.lemmas.List.Sums.{sum_by-cons}
use Rattle.std.proofs.lemmas.Grind.{flat_map-append}
use Rattle.ipld_block.specs.Digest.{digest_by}
use Rattle.ipld_cid.specs.declared.cid.Version.{Version}
use Rattle.unixfs.specs.Files.{Names, names, NamesAll, no_child, one_child}
use Rattle.unixfs_build.specs.Blocks.{Built, child_of, sizes_of, raw_leaf, has_none, node_of, node_over, leaf_of, no_attributes, Holds}
use Rattle.unixfs_build.specs.Roots.{nodes_over, joined, HasNode, IsFullGroup, IsRootOver, top, below, IsRootOf, only_leaf, over_leaves, leaf_part, HasLeaf}
use Rattle.unixfs_build.specs.declared.layout.Attributes.{Attributes}
use Rattle.unixfs_build.specs.declared.layout.Layout.{Layout}

-- True if the parts name these bytes.
abbrev pub PartsName : List Built → List ℕ → Type 0
PartsName parts content = NamesAll digest_by (map child_of parts) content

-- True if a part names these bytes, and has this size.
pub record PartNames (part : Built) (content : List ℕ) : Type 0 where
  pub named : Names digest_by part.link content
  pub size : part.size ≡ length content

sized : (parts : List Built) (content : List ℕ) → PartsName parts content → length content ≡ sum (sizes_of parts)
sized [] content (no_child e) = ap length e
sized (part ∷ parts) content (one_child first rest named size all e) =
    omega (arith, ap length e, length-append first rest, size, sized parts rest all, sum_by-cons (λ (x : ℕ). x) part.size (sizes_of parts))

-- a node names what its parts name
node_named : (part : Built) (parts : List Built) (content : List ℕ) → Holds part [] parts → part.size ≡ sum (sizes_of parts) → PartsName parts content → PartNames part content
node_named part parts content holds size all = record {
  named = names [] (map child_of parts) part.size content holds all refl;
  size = size ∙ sym (sized parts content all);
}

-- the first parts, and then the others
record Cut (first others : List Built) (content : List ℕ) : Type 0 where
  a : List ℕ
  b : List ℕ
  first_named : PartsName first a
  others_named : PartsName others b
  is : content ≡ a ++ b

cut : (first others : List Built) (content : List ℕ) → PartsName (first ++ others) content → Cut first others content
cut [] others content all = record { a = []; b = content; first_named = no_child refl; others_named = all; is = refl }
cut (part ∷ first) others content (one_child head rest named size all e) =
    let more = cut first others rest all in
    record {
      a = head ++ more.a;
      b = more.b;
      first_named = one_child head more.a named size more.first_named refl;
      others_named = more.others_named;
      is = e ∙ ap (λ (x : List ℕ). head ++ x) more.is ∙ sym (append_assoc head more.a more.b);
    }

-- a part before others
put_before : (part : Built) (parts : List Built) (a b content : List ℕ) → PartNames part a → PartsName parts b → content ≡ a ++ b → PartsName (part ∷ parts) content
put_before part parts a b content first others e = one_child a b first.named first.size others e

node_size : (layout : Layout) (group : List Built) → (node_over layout group).part.size ≡ sum (sizes_of group)
unfolding node_of
node_size layout group = omega arith

-- the nodes over groups name what the groups name
lifted : (layout : Layout) (groups : List (List Built)) (content : List ℕ) → All (λ (g : List Built). HasNode layout g) groups → PartsName (joined groups) content → PartsName (nodes_over layout groups) content
lifted layout [] content has all = all
lifted layout (group ∷ groups) content has all =
    let c = cut group (joined groups) content all in
    let here = All-head (λ (g : List Built). HasNode layout g) group groups has in
    put_before (node_over layout group).part (nodes_over layout groups) c.a c.b content
    (node_named (node_over layout group).part group c.a here (node_size layout group) c.first_named)
    (lifted layout groups c.b (All-tail (λ (g : List Built). HasNode layout g) group groups has) c.others_named) c.is

have_nodes : (layout : Layout) (groups : List (List Built)) → All (λ (g : List Built). IsFullGroup layout g) groups → All (λ (g : List Built). HasNode layout g) groups
have_nodes layout [] full = All-nil (λ (g : List Built). HasNode layout g)
have_nodes layout (group ∷ groups) full =
    All-cons (λ (g : List Built). HasNode layout g) group groups (All-head (λ (g : List Built). IsFullGroup layout g) group groups full).node
    (have_nodes layout groups (All-tail (λ (g : List Built). IsFullGroup layout g) group groups full))

-- the nodes over groups and over the last parts
level_named : (layout : Layout) (groups : List (List Built)) (last parts : List Built) (content : List ℕ) → parts ≡ joined groups ++ last → All (λ (g : List Built). IsFullGroup layout g) groups → HasNode layout last
    → PartsName parts content → PartsName (nodes_over layout groups ++ (node_over layout last).part ∷ []) content
level_named layout groups last parts content is full has all =
    let each = All-append (λ (g : List Built). HasNode layout g) groups (last ∷ []) (have_nodes layout groups full)
    (All-cons (λ (g : List Built). HasNode layout g) last [] has (All-nil (λ (g : List Built). HasNode layout g))) in
    let same : parts ≡ joined (groups ++ last ∷ [])
    = is ∙ ap (λ (x : List Built). joined groups ++ x) (sym (append-nil last)) ∙ sym (flat_map-append (λ (g : List Built). g) groups (last ∷ [])) in
    subst (λ (ns : List Built). PartsName ns content) (map-append (λ (g : List Built). (node_over layout g).part) groups (last ∷ []))
    (lifted layout (groups ++ last ∷ []) content each (subst (λ (ps : List Built). PartsName ps content) same all))

root_size : (layout : Layout) (attributes : Attributes) (parts : List Built) → (node_of layout.version attributes [] parts).part.size ≡ sum (sizes_of parts)
unfolding node_of
root_size layout attributes parts = omega arith

pub root_named : (layout : Layout) (attributes : Attributes) (parts : List Built) (root : Built) (content : List ℕ) → IsRootOver layout attributes parts root → PartsName parts content → PartNames root content
root_named layout attributes parts root content (top more few is holds) all =
    node_named root parts content holds (ap (λ (p : Built). p.size) is ∙ root_size layout attributes parts) all
root_named layout attributes parts root content (below groups last many is full some few has over) all =
    root_named layout attributes (nodes_over layout groups ++ (node_over layout last).part ∷ []) root content over (level_named layout groups last parts content is full has all)

chosen_size : (raw : Bool) (version : Version) (attributes : Attributes) (chunk : List ℕ) → (if raw then raw_leaf chunk else node_of version attributes chunk []).part.size ≡ length chunk
unfolding raw_leaf node_of
chosen_size true version attributes chunk = refl
chosen_size false version attributes chunk = omega arith

leaf_size : (layout : Layout) (attributes : Attributes) (chunk : List ℕ) → (leaf_of layout attributes chunk).part.size ≡ length chunk
unfolding leaf_of
leaf_size layout attributes chunk = chosen_size (layout.raw_leaves && has_none attributes) layout.version attributes chunk

leaf_named : (layout : Layout) (attributes : Attributes) (chunk : List ℕ) (leaf : Built) → leaf ≡ (leaf_of layout attributes chunk).part → Holds leaf chunk [] → PartNames leaf chunk
leaf_named layout attributes chunk leaf is holds = record {
  named = names chunk [] leaf.size [] holds (no_child refl) (sym (append-nil chunk));
  size = ap (λ (p : Built). p.size) is ∙ leaf_size layout attributes chunk;
}

leaves_named : (layout : Layout) (chunks : List (List ℕ)) → All (λ (c : List ℕ). HasLeaf layout c) chunks → PartsName (map (leaf_part layout) chunks) (concat chunks)
leaves_named layout [] has = no_child refl
leaves_named layout (chunk ∷ chunks) has =
    put_before (leaf_part layout chunk) (map (leaf_part layout) chunks) chunk (concat chunks) (concat (chunk ∷ chunks))
    (leaf_named layout (no_attributes) chunk (leaf_part layout chunk) refl (All-head (λ (c : List ℕ). HasLeaf layout c) chunk chunks has))
    (leaves_named layout chunks (All-tail (λ (c : List ℕ). HasLeaf layout c) chunk chunks has)) refl

pub file_named : (layout : Layout) (attributes : Attributes) (chunks : List (List ℕ)) (root : Built) → IsRootOf layout attributes chunks root → PartNames root (concat chunks)
file_named layout attributes chunks root (only_leaf chunk one is holds) =
    subst (λ (cs : List (List ℕ)). PartNames root (concat cs)) (sym one) (subst (λ (c : List ℕ). PartNames root c) (sym (append-nil chunk)) (leaf_named layout attributes chunk root is holds))
file_named layout attributes chunks root (over_leaves has over) =
    root_named layout attributes (map (leaf_part layout) chunks) root (concat chunks) over (leaves_named layout chunks has)
