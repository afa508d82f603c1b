-- The last part of a file, and the root over all.
use Rattle.std.proofs.Common.{◌≡◌, suc, ◌<◌, ◌≤◌, List, [], ◌∷◌, ◌++◌, length, refl, sym, ap, subst, ◌∙◌, arith, append_assoc, length-append}
use Rattle.std.proofs.lemmas.List.Elements.{All-head}
use Rattle.unixfs_build.specs.Blocks.{Built, BuiltBlock, node_of, node_over, Holds}
use Rattle.unixfs_build.specs.Levels.{Wait, nothing, level}
use Rattle.unixfs_build.specs.Roots.{nodes_over, joined, HasNode, IsFullGroup, IsRootOver, top, below, EndsInRoot}
use Rattle.unixfs_build.specs.declared.layout.Attributes.{Attributes}
use Rattle.unixfs_build.specs.declared.layout.Layout.{Layout}
use Rattle.unixfs_build.proofs.Waiting.{AllFull, lowest}

-- groups have at least as many parts as one of them
joined_long : (layout : Layout) (groups : List (List Built)) → AllFull layout groups → 0 < length groups → layout.width ≤ length (joined groups)
joined_long layout [] full some = absurd (omega (arith, some))
joined_long layout (group ∷ groups) full some =
    let first = All-head (λ (g : List Built). IsFullGroup layout g) group groups full in
    omega (arith, first.full, length-append group (joined groups))

nodes_long : (layout : Layout) (groups : List (List Built)) → length (nodes_over layout groups) ≡ length groups
nodes_long layout [] = refl
nodes_long layout (group ∷ groups) = ap suc (nodes_long layout groups)

-- parts wait if there is a level
pub some_wait : (layout : Layout) (levels : List (List Built)) (parts : List Built) → 0 < length levels → 0 < layout.width → Wait layout levels parts → 0 < length parts
some_wait layout levels parts some wide (nothing e none) = absurd (omega (arith, some, ap length e))
some_wait layout levels parts some wide (level low [] groups e is short full top_some wait) =
    omega (arith, ap length is, length-append (joined groups) low, top_some refl)
some_wait layout levels parts some wide (level low (next ∷ above) groups e is short full top_some wait) =
    let up = some_wait layout (next ∷ above) (nodes_over layout groups) (omega arith) wide wait in
    let long = joined_long layout groups full (omega (arith, up, nodes_long layout groups)) in
    omega (arith, ap length is, length-append (joined groups) low, long)

no_groups : (layout : Layout) (levels : List (List Built)) (groups : List (List Built)) → levels ≡ [] → Wait layout levels (nodes_over layout groups) → groups ≡ []
no_groups layout levels [] none wait = refl
no_groups layout levels (group ∷ groups) none (nothing e is) = absurd cc
no_groups layout levels (group ∷ groups) none (level low above others e is short full top_some wait) = absurd cc

pub root_on_top : (layout : Layout) (attributes : Attributes) (low : List Built) (part : Built) (parts : List Built) (root : Built) → Wait layout (low ∷ []) parts
    → root ≡ (node_of layout.version attributes [] (low ++ part ∷ [])).part → Holds root [] (low ++ part ∷ []) → IsRootOver layout attributes (parts ++ part ∷ []) root
root_on_top layout attributes low part parts root wait is holds =
    let o = lowest layout low [] parts wait in
    let all : parts ≡ low = o.is ∙ ap (λ (gs : List (List Built)). joined gs ++ low) (no_groups layout [] o.groups refl o.wait) in
    let long = length-append low (part ∷ []) in
    subst (λ (ps : List Built). IsRootOver layout attributes (ps ++ part ∷ []) root) (sym all)
    (top (omega (arith, long, o.top refl)) (omega (arith, long, o.short)) is holds)

pub ends_above : (layout : Layout) (attributes : Attributes) (low next : List Built) (above : List (List Built)) (part : Built) (parts : List Built) (blocks : List BuiltBlock) → Wait layout (low ∷ next ∷ above) parts
    → HasNode layout (low ++ part ∷ [])
    → ((upper : List Built) → Wait layout (next ∷ above) upper → EndsInRoot layout attributes (upper ++ (node_over layout (low ++ part ∷ [])).part ∷ []) blocks)
    → EndsInRoot layout attributes (parts ++ part ∷ []) blocks
ends_above layout attributes low next above part parts blocks wait has goes_up =
    let o = lowest layout low (next ∷ above) parts wait in
    let up = some_wait layout (next ∷ above) (nodes_over layout o.groups) (omega arith) (omega (arith, o.short)) o.wait in
    let long = joined_long layout o.groups o.full (omega (arith, up, nodes_long layout o.groups)) in
    let more = length-append low (part ∷ []) in
    let is : parts ++ part ∷ [] ≡ joined o.groups ++ (low ++ part ∷ [])
    = ap (λ (ps : List Built). ps ++ part ∷ []) o.is ∙ append_assoc (joined o.groups) low (part ∷ []) in
    let ends = goes_up (nodes_over layout o.groups) o.wait in
    record {
      others = ends.others;
      root = ends.root;
      is_last = ends.is_last;
      is_root = below o.groups (low ++ part ∷ []) (omega (arith, ap length is, length-append (joined o.groups) (low ++ part ∷ []), long, more)) is o.full
          (omega (arith, more)) (omega (arith, more, o.short)) has ends.is_root;
    }
