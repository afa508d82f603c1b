-- A part more waits on the levels.
use Rattle.std.proofs.Common.{◌≡◌, suc, ◌<◌, ◌≤◌, List, [], ◌∷◌, ◌++◌, length, refl, sym, ap, subst, ◌∙◌, arith, append_assoc, length-append}
use Rattle.std.specs.List.{All}
use Rattle.std.proofs.lemmas.List.{append-nil, map-append}
use Rattle.std.proofs.lemmas.List.Elements.{All-nil, All-push}
use Rattle.std.proofs.lemmas.Grind.{flat_map-append}
use Rattle.unixfs_build.specs.Blocks.{Built, node_over}
use Rattle.unixfs_build.specs.Levels.{Wait, nothing, level}
use Rattle.unixfs_build.specs.Roots.{nodes_over, joined, HasNode, IsFullGroup}
use Rattle.unixfs_build.specs.declared.layout.Layout.{Layout}

abbrev pub AllFull : Layout → List (List Built) → Type 0
AllFull layout groups = All (λ (group : List Built). IsFullGroup layout group) groups

pub wait_first : (layout : Layout) (part : Built) (parts : List Built) → 1 < layout.width → Wait layout [] parts → Wait layout ((part ∷ []) ∷ []) (parts ++ part ∷ [])
wait_first layout part parts wide (nothing e none) =
    level (part ∷ []) [] [] refl (ap (λ (ps : List Built). ps ++ part ∷ []) none) wide (All-nil (λ (group : List Built). IsFullGroup layout group)) (λ _. omega arith) (nothing refl refl)
wait_first layout part parts wide (level low above groups e is short full top wait) = absurd cc

-- the levels from their first
pub record Low (layout : Layout) (low : List Built) (above : List (List Built)) (parts : List Built) : Type 0 where
  pub groups : List (List Built)
  pub is : parts ≡ joined groups ++ low
  pub short : length low < layout.width
  pub full : AllFull layout groups
  pub top : above ≡ [] → 0 < length low
  pub wait : Wait layout above (nodes_over layout groups)

opened : (layout : Layout) (low : List Built) (above levels : List (List Built)) (parts : List Built) → levels ≡ low ∷ above → Wait layout levels parts → Low layout low above parts
opened layout low above levels parts same (nothing e none) = absurd cc
opened layout low above levels parts same (level low' above' groups e is short full top wait) =
    let low_is : low' ≡ low = cc in
    let above_is : above' ≡ above = cc in
    record {
      groups = groups;
      is = is ∙ ap (λ (l : List Built). joined groups ++ l) low_is;
      short = subst (λ (l : List Built). length l < layout.width) low_is short;
      full = full;
      top = λ none. subst (λ (l : List Built). 0 < length l) low_is (top (above_is ∙ none));
      wait = subst (λ (a : List (List Built)). Wait layout a (nodes_over layout groups)) above_is wait;
    }

pub lowest : (layout : Layout) (low : List Built) (above : List (List Built)) (parts : List Built) → Wait layout (low ∷ above) parts → Low layout low above parts
lowest layout low above parts wait = opened layout low above (low ∷ above) parts refl wait

pub wait_more : (layout : Layout) (low : List Built) (above : List (List Built)) (part : Built) (parts : List Built) → suc (length low) < layout.width
    → Wait layout (low ∷ above) parts → Wait layout ((low ++ part ∷ []) ∷ above) (parts ++ part ∷ [])
wait_more layout low above part parts room wait =
    let o = lowest layout low above parts wait in
    let longer : length (low ++ part ∷ []) ≡ suc (length low) = omega (arith, length-append low (part ∷ [])) in
    level (low ++ part ∷ []) above o.groups refl (ap (λ (ps : List Built). ps ++ part ∷ []) o.is ∙ append_assoc (joined o.groups) low (part ∷ []))
    (omega (arith, longer)) o.full (λ _. omega (arith, longer)) o.wait

pub wait_full : (layout : Layout) (low : List Built) (above higher : List (List Built)) (part : Built) (parts : List Built) → layout.width ≤ suc (length low)
    → HasNode layout (low ++ part ∷ []) → 0 < length higher
    → ((upper : List Built) → Wait layout above upper → Wait layout higher (upper ++ (node_over layout (low ++ part ∷ [])).part ∷ []))
    → Wait layout (low ∷ above) parts → Wait layout ([] ∷ higher) (parts ++ part ∷ [])
wait_full layout low above higher part parts full has some goes_up wait =
    let o = lowest layout low above parts wait in
    let group = low ++ part ∷ [] in
    let long : length group ≡ layout.width = omega (arith, length-append low (part ∷ []), o.short) in
    let nodes : nodes_over layout (o.groups ++ group ∷ []) ≡ nodes_over layout o.groups ++ (node_over layout group).part ∷ []
    = map-append (λ (g : List Built). (node_over layout g).part) o.groups (group ∷ []) in
    let all : joined (o.groups ++ group ∷ []) ++ [] ≡ parts ++ part ∷ []
    = append-nil (joined (o.groups ++ group ∷ [])) ∙ flat_map-append (λ (g : List Built). g) o.groups (group ∷ [])
    ∙ ap (λ (x : List Built). joined o.groups ++ x) (append-nil group) ∙ sym (append_assoc (joined o.groups) low (part ∷ []))
    ∙ ap (λ (ps : List Built). ps ++ part ∷ []) (sym o.is) in
    level [] higher (o.groups ++ group ∷ []) refl (sym all) (omega (arith, o.short))
    (All-push (λ (g : List Built). IsFullGroup layout g) o.groups group o.full (record { full = long; node = has }))
    (λ none. absurd (omega (arith, some, ap length none)))
    (subst (λ (ns : List Built). Wait layout higher ns) (sym nodes) (goes_up (nodes_over layout o.groups) o.wait))
