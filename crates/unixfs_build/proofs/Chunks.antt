-- The chunks of a builder.
use Rattle.std.proofs.Common.{◌≡◌, ℕ, ◌<◌, List, [], ◌∷◌, ◌++◌, length, map, refl, sym, ap, subst, ◌∙◌, arith}
use Rattle.std.specs.List.{All}
use Rattle.std.proofs.lemmas.List.{map-append}
use Rattle.std.proofs.lemmas.List.Elements.{All-push}
use Rattle.unixfs_build.specs.Blocks.{Built, BuiltBlock, leaf_of, no_attributes, Holds}
use Rattle.unixfs_build.specs.Building.{HasChunks}
use Rattle.unixfs_build.specs.Levels.{Wait, nothing, level}
use Rattle.unixfs_build.specs.Roots.{HasLeaf, leaf_part, IsRootOf, only_leaf, over_leaves, EndsInRoot, EndsInFile}
use Rattle.unixfs_build.specs.declared.builder.FileBuilder.{FileBuilder}
use Rattle.unixfs_build.specs.declared.layout.Attributes.{Attributes}
use Rattle.unixfs_build.specs.declared.layout.Layout.{Layout}
use Rattle.unixfs_build.proofs.Naming.{file_named}

-- the leaf of a chunk
pub record LeafMade (layout : Layout) (chunk : List ℕ) (part : Built) (leaf : BuiltBlock) : Type 0 where
  pub part_is : part ≡ leaf.part
  pub made : leaf ≡ leaf_of layout no_attributes chunk
  pub holds : Holds leaf.part chunk []

has_leaf : (layout : Layout) (chunk : List ℕ) (part : Built) (leaf : BuiltBlock) → LeafMade layout chunk part leaf → HasLeaf layout chunk
has_leaf layout chunk part leaf l = subst (λ (b : BuiltBlock). Holds b.part chunk []) l.made l.holds

is_leaf : (layout : Layout) (chunk : List ℕ) (part : Built) (leaf : BuiltBlock) → LeafMade layout chunk part leaf → part ≡ leaf_part layout chunk
is_leaf layout chunk part leaf l = l.part_is ∙ ap (λ (b : BuiltBlock). b.part) l.made

leaves_with : (layout : Layout) (chunks : List (List ℕ)) (chunk : List ℕ) (part : Built) (leaf : BuiltBlock) → LeafMade layout chunk part leaf → map (leaf_part layout) chunks ++ part ∷ [] ≡ map (leaf_part layout) (chunks ++ chunk ∷ [])
leaves_with layout chunks chunk part leaf l =
    ap (λ (p : Built). map (leaf_part layout) chunks ++ p ∷ []) (is_leaf layout chunk part leaf l) ∙ sym (map-append (leaf_part layout) chunks (chunk ∷ []))

have_leaves : (layout : Layout) (chunks : List (List ℕ)) (chunk : List ℕ) (part : Built) (leaf : BuiltBlock) → LeafMade layout chunk part leaf → All (λ (c : List ℕ). HasLeaf layout c) chunks
    → All (λ (c : List ℕ). HasLeaf layout c) (chunks ++ chunk ∷ [])
have_leaves layout chunks chunk part leaf l leaves = All-push (λ (c : List ℕ). HasLeaf layout c) chunks chunk leaves (has_leaf layout chunk part leaf l)

pub has_one_more : (layout : Layout) (old new : FileBuilder) (chunk : List ℕ) (part : Built) (leaf : BuiltBlock) (chunks : List (List ℕ)) → old.layout ≡ layout → new.layout ≡ layout → LeafMade layout chunk part leaf
    → ((parts : List Built) → 1 < layout.width → Wait layout old.levels.items parts → Wait layout new.levels.items (parts ++ part ∷ []))
    → HasChunks chunks old → HasChunks (chunks ++ chunk ∷ []) new
has_one_more layout old new chunk part leaf chunks was is l waits has =
    let wide = subst (λ (y : Layout). 1 < y.width) was has.wide in
    let leaves = have_leaves layout chunks chunk part leaf l (subst (λ (y : Layout). All (λ (c : List ℕ). HasLeaf y c) chunks) was has.leaves) in
    let waiting = subst (λ (ps : List Built). Wait layout new.levels.items ps) (leaves_with layout chunks chunk part leaf l)
    (waits (map (leaf_part layout) chunks) wide (subst (λ (y : Layout). Wait y old.levels.items (map (leaf_part y) chunks)) was has.waiting)) in
    record {
      wide = subst (λ (y : Layout). 1 < y.width) (sym is) wide;
      leaves = subst (λ (y : Layout). All (λ (c : List ℕ). HasLeaf y c) (chunks ++ chunk ∷ [])) (sym is) leaves;
      waiting = subst (λ (y : Layout). Wait y new.levels.items (map (leaf_part y) (chunks ++ chunk ∷ []))) (sym is) waiting;
    }

-- ---- the root

pub none_there : (levels : List (List Built)) → length levels ≡ 0 → levels ≡ []
none_there [] none = refl
none_there (low ∷ above) none = absurd (omega (arith, none))

no_leaves : (layout : Layout) (chunks : List (List ℕ)) → map (leaf_part layout) chunks ≡ [] → chunks ≡ []
no_leaves layout [] none = refl
no_leaves layout (chunk ∷ chunks) none = absurd cc

no_chunks : (layout : Layout) (levels : List (List Built)) (chunks : List (List ℕ)) → levels ≡ [] → Wait layout levels (map (leaf_part layout) chunks) → chunks ≡ []
no_chunks layout levels chunks none (nothing e parts_none) = no_leaves layout chunks parts_none
no_chunks layout levels chunks none (level low above groups e is short full top wait) = absurd cc

ends_in : (layout : Layout) (attributes : Attributes) (chunks : List (List ℕ)) (others : List BuiltBlock) (root : BuiltBlock) (blocks : List BuiltBlock) → blocks ≡ others ++ root ∷ [] → IsRootOf layout attributes chunks root.part
    → EndsInFile layout attributes chunks blocks
ends_in layout attributes chunks others root blocks last is =
    let named = file_named layout attributes chunks root.part is in
    record { others = others; root = root; is_last = last; is_root = is; named = named.named; size = named.size }

pub ends_in_leaf : (attributes : Attributes) (builder : FileBuilder) (chunk : List ℕ) (root : BuiltBlock) (others blocks : List BuiltBlock) (chunks : List (List ℕ)) → builder.levels.items ≡ []
    → root ≡ leaf_of builder.layout attributes chunk → Holds root.part chunk [] → blocks ≡ others ++ root ∷ [] → HasChunks chunks builder → EndsInFile builder.layout attributes (chunks ++ chunk ∷ []) blocks
ends_in_leaf attributes builder chunk root others blocks chunks empty made holds last has =
    let none = no_chunks builder.layout builder.levels.items chunks empty has.waiting in
    ends_in builder.layout attributes (chunks ++ chunk ∷ []) others root blocks last
    (only_leaf chunk (ap (λ (cs : List (List ℕ)). cs ++ chunk ∷ []) none) (ap (λ (b : BuiltBlock). b.part) made) holds)

pub ends_in_root : (attributes : Attributes) (builder : FileBuilder) (chunk : List ℕ) (part : Built) (leaf : BuiltBlock) (blocks : List BuiltBlock) (chunks : List (List ℕ)) → LeafMade builder.layout chunk part leaf
    → ((parts : List Built) → Wait builder.layout builder.levels.items parts → EndsInRoot builder.layout attributes (parts ++ part ∷ []) blocks)
    → HasChunks chunks builder → EndsInFile builder.layout attributes (chunks ++ chunk ∷ []) blocks
ends_in_root attributes builder chunk part leaf blocks chunks l ends has =
    let e = subst (λ (ps : List Built). EndsInRoot builder.layout attributes ps blocks) (leaves_with builder.layout chunks chunk part leaf l) (ends (map (leaf_part builder.layout) chunks) has.waiting) in
    ends_in builder.layout attributes (chunks ++ chunk ∷ []) e.others e.root blocks e.is_last (over_leaves (have_leaves builder.layout chunks chunk part leaf l has.leaves) e.is_root)
