-- The steps of the recursions over the levels.
use Rattle.std.proofs.Common.{◌≡◌, ℕ, suc, ◌+◌, ◌<◌, ◌≤◌, List, [], ◌∷◌, ◌++◌, length, map, take, drop, Ok, Err, refl, sym, ap, subst, ◌∙◌, arith}
use Rattle.std.specs.Prelude.{Result, IfErr, OnOk, Bool, true, false, nat_lt, if◌then◌else◌, ◌==◌}
use Rattle.std.proofs.Math.Dec.{ltb}
use Rattle.std.proofs.lemmas.Bool.Decides.{nat_tests}
use Rattle.std.proofs.lemmas.Bool.{ltb-true, ltb-false, le-ltb}
use Rattle.std.proofs.Math.ListN.{get_or, set}
use Rattle.std.proofs.Math.Seq.{drop-append_seam, drop-length}
use Rattle.std.proofs.lemmas.List.{drop_more, drop-set, length-take, length-map}
use Rattle.unixfs_build.specs.Blocks.{Built, BuiltBlock, node_of, node_over, no_attributes, Holds}
use Rattle.unixfs_build.specs.Faults.{IsBlockFault}
use Rattle.unixfs_build.specs.Levels.{added, AddFault, no_memory, of_full, upper, LastFault, no_room, of_root, of_node, higher, Wait}
use Rattle.unixfs_build.specs.Roots.{HasNode, EndsInRoot}
use Rattle.unixfs_build.specs.Views.{built}
use Rattle.unixfs_build.specs.declared.block.BuiltPart.{BuiltPart}
use Rattle.unixfs_build.specs.declared.error.BuildError.{BuildError}
use Rattle.unixfs_build.specs.declared.error.BuildError.TheVariants.{Memory}
use Rattle.unixfs_build.specs.declared.layout.Attributes.{Attributes}
use Rattle.unixfs_build.specs.declared.layout.Layout.{Layout}
use Rattle.unixfs_build.proofs.Finishing.{root_on_top, ends_above}
use Rattle.unixfs_build.proofs.Waiting.{wait_first, wait_more, wait_full}

-- ---- the node over a level and a part

pub node_is : (layout : Layout) (attributes : Attributes) (parts low : List Built) (part : Built) (made : BuiltBlock) → parts ≡ low
    → made ≡ node_of layout.version attributes [] (parts ++ part ∷ []) → made ≡ node_of layout.version attributes [] (low ++ part ∷ [])
node_is layout attributes parts low part made same is = is ∙ ap (λ (ps : List Built). node_of layout.version attributes [] (ps ++ part ∷ [])) same

pub has_node : (layout : Layout) (parts low : List Built) (part : Built) (made : BuiltBlock) → parts ≡ low
    → made ≡ node_of layout.version no_attributes [] (parts ++ part ∷ []) → Holds made.part [] (parts ++ part ∷ []) → HasNode layout (low ++ part ∷ [])
has_node layout parts low part made same is holds =
    subst (λ (ps : List Built). HasNode layout (ps ++ part ∷ [])) same (subst (λ (b : BuiltBlock). Holds b.part [] (parts ++ part ∷ [])) is holds)

pub fault_is : (layout : Layout) (attributes : Attributes) (parts low : List Built) (part : Built) (error : BuildError) → parts ≡ low
    → IsBlockFault attributes (node_of layout.version attributes [] (parts ++ part ∷ [])) error → IsBlockFault attributes (node_of layout.version attributes [] (low ++ part ∷ [])) error
fault_is layout attributes parts low part error same fault = subst (λ (ps : List Built). IsBlockFault attributes (node_of layout.version attributes [] (ps ++ part ∷ [])) error) same fault

-- ---- the last part

pub ends_on_top : (layout : Layout) (attributes : Attributes) (levels above : List (List Built)) (parts low : List Built) (part : Built) (root : BuiltBlock) (old new : List BuiltBlock) (r : Result (Unit {0}) BuildError)
    → levels ≡ low ∷ above → above ≡ [] → parts ≡ low → root ≡ node_of layout.version attributes [] (parts ++ part ∷ []) → Holds root.part [] (parts ++ part ∷ []) → OnOk r (new ≡ old ++ root ∷ [])
    → (all : List Built) → Wait layout levels all → OnOk r (EndsInRoot layout attributes (all ++ part ∷ []) new)
ends_on_top layout attributes levels above parts low part root old new (Err error) is none same root_is holds appended all wait = tt
ends_on_top layout attributes levels above parts low part root old new (Ok done) is none same root_is holds appended all wait = record {
  others = old;
  root = root;
  is_last = appended;
  is_root = root_on_top layout attributes low part all root.part (subst (λ (ls : List (List Built)). Wait layout ls all) (is ∙ ap (λ (a : List (List Built)). low ∷ a) none) wait)
      (ap (λ (b : BuiltBlock). b.part) (node_is layout attributes parts low part root same root_is)) (subst (λ (ps : List Built). Holds root.part [] (ps ++ part ∷ [])) same holds);
}

pub ends_higher : (layout : Layout) (attributes : Attributes) (levels above : List (List Built)) (parts low : List Built) (part upper_part : Built) (node : BuiltBlock) (new : List BuiltBlock) (r : Result (Unit {0}) BuildError)
    → levels ≡ low ∷ above → 0 < length above → parts ≡ low → node ≡ node_of layout.version no_attributes [] (parts ++ part ∷ []) → Holds node.part [] (parts ++ part ∷ []) → upper_part ≡ node.part
    → ((ups : List Built) → 0 < length above → Wait layout above ups → OnOk r (EndsInRoot layout attributes (ups ++ upper_part ∷ []) new))
    → (all : List Built) → Wait layout levels all → OnOk r (EndsInRoot layout attributes (all ++ part ∷ []) new)
ends_higher layout attributes levels above parts low part upper_part node new (Err error) is some same node_is' holds upper_is goes_up all wait = tt
ends_higher layout attributes levels [] parts low part upper_part node new (Ok done) is some same node_is' holds upper_is goes_up all wait = absurd (omega (arith, some))
ends_higher layout attributes levels (next ∷ above) parts low part upper_part node new (Ok done) is some same made holds upper_is goes_up all wait =
    ends_above layout attributes low next above part all new (subst (λ (ls : List (List Built)). Wait layout ls all) is wait) (has_node layout parts low part node same made holds)
    (λ ups waits. subst (λ (p : Built). EndsInRoot layout attributes (ups ++ p ∷ []) new)
    (upper_is ∙ ap (λ (b : BuiltBlock). b.part) (node_is layout no_attributes parts low part node same made)) (goes_up ups some waits))

pub top_fault : (layout : Layout) (attributes : Attributes) (levels above : List (List Built)) (parts low : List Built) (part : Built) (error : BuildError) → levels ≡ low ∷ above → above ≡ [] → parts ≡ low
    → IsBlockFault attributes (node_of layout.version attributes [] (parts ++ part ∷ [])) error → LastFault layout attributes levels part error
top_fault layout attributes levels above parts low part error is none same fault =
    of_root low (is ∙ ap (λ (a : List (List Built)). low ∷ a) none) (fault_is layout attributes parts low part error same fault)

pub node_fault : (layout : Layout) (attributes : Attributes) (levels above : List (List Built)) (parts low : List Built) (part : Built) (error : BuildError) → levels ≡ low ∷ above → 0 < length above → parts ≡ low
    → IsBlockFault no_attributes (node_of layout.version no_attributes [] (parts ++ part ∷ [])) error → LastFault layout attributes levels part error
node_fault layout attributes levels [] parts low part error is some same fault = absurd (omega (arith, some))
node_fault layout attributes levels (next ∷ above) parts low part error is some same fault = of_node low next above is (fault_is layout no_attributes parts low part error same fault)

pub higher_fault : (layout : Layout) (attributes : Attributes) (levels above : List (List Built)) (parts low : List Built) (part upper_part : Built) (node : BuiltBlock) (r : Result (Unit {0}) BuildError) → levels ≡ low ∷ above
    → 0 < length above → parts ≡ low → node ≡ node_of layout.version no_attributes [] (parts ++ part ∷ []) → upper_part ≡ node.part → IfErr r (LastFault layout attributes above upper_part) → IfErr r (LastFault layout attributes levels part)
higher_fault layout attributes levels above parts low part upper_part node (Ok done) is some same made upper_is fault = tt
higher_fault layout attributes levels [] parts low part upper_part node (Err error) is some same made upper_is fault = absurd (omega (arith, some))
higher_fault layout attributes levels (next ∷ above) parts low part upper_part node (Err error) is some same made upper_is fault =
    higher low next above is (subst (λ (p : Built). LastFault layout attributes (next ∷ above) p error)
    (upper_is ∙ ap (λ (b : BuiltBlock). b.part) (node_is layout no_attributes parts low part node same made)) fault)

pub last_memory : (layout : Layout) (attributes : Attributes) (levels : List (List Built)) (part : Built) (r : Result (Unit {0}) BuildError) → IfErr r (λ error. error ≡ Memory) → IfErr r (LastFault layout attributes levels part)
last_memory layout attributes levels part (Ok done) none = tt
last_memory layout attributes levels part (Err error) none = no_room none

-- ---- a part more

pub is_nil : (levels : List (List Built)) → true ≡ (length levels == 0) → levels ≡ []
is_nil [] empty = refl
is_nil (level ∷ levels) empty = absurd (grind (arith, nat_tests, empty))

pub has_some : (levels : List (List Built)) → false ≡ (length levels == 0) → 0 < length levels
has_some [] empty = absurd cc
has_some (level ∷ levels) empty = omega arith

-- a level that is there
pub record Found (levels : List (List Built)) (index : ℕ) (low : List Built) : Type 0 where
  pub inside : index < length levels
  pub from_here : drop index levels ≡ low ∷ drop (index + 1) levels

pub found : (levels seen : List (List Built)) (index : ℕ) (low other : List Built) → seen ≡ levels → true ≡ ltb index (length seen) → low ≡ get_or seen index other → Found levels index low
found levels seen index low other same there is =
    let inside : index < length levels = ltb-true index (length levels) (sym (there ∙ ap (λ (ls : List (List Built)). ltb index (length ls)) same)) in
    record {
      inside = inside;
      from_here = drop_more levels index other inside ∙ ap (λ (l : List Built). l ∷ drop (index + 1) levels) (sym (is ∙ ap (λ (ls : List (List Built)). get_or ls index other) same));
    }

pub at_end : (levels seen : List (List Built)) (index : ℕ) → seen ≡ levels → false ≡ ltb index (length seen) → index ≤ length levels → index ≡ length levels
at_end levels seen index same absent within =
    let over : length levels ≤ index = ltb-false index (length levels) (sym (absent ∙ ap (λ (ls : List (List Built)). ltb index (length ls)) same)) in
    omega (arith, over, within)

-- the level that is changed is the one that was found
pub same_level : (levels : List (List Built)) (index : ℕ) (low now other : List Built) → Found levels index low → now ≡ get_or levels index other → now ≡ low
same_level levels index low now other there is =
    let both : get_or levels index other ∷ drop (index + 1) levels ≡ low ∷ drop (index + 1) levels = sym (drop_more levels index other there.inside) ∙ there.from_here in
    let heads : get_or levels index other ≡ low = cc in
    is ∙ heads

pub kept_inside : (old new : List (List Built)) (index : ℕ) → take (index + 1) new ≡ take (index + 1) old → index < length old → index < length new
kept_inside old new index same inside =
    omega (arith, ap length same, length-take (index + 1) old, length-take (index + 1) new, inside)

pub full_level : (parts : List BuiltPart) (low : List Built) (width : ℕ) → map built parts ≡ low → width ≤ length parts + 1 → width ≤ suc (length low)
full_level parts low width same full = omega (arith, full, ap length same, length-map parts built)

pub room_in : (parts : List BuiltPart) (low : List Built) (width : ℕ) → map built parts ≡ low → length parts + 1 < width → suc (length low) < width
room_in parts low width same room = omega (arith, room, ap length same, length-map parts built)

added_if : (b : Bool) (low : List Built) (above full : List (List Built)) → b ≡ false → (if b then low ∷ above else full) ≡ full
added_if true low above full is = absurd cc
added_if false low above full is = refl

added_full : (layout : Layout) (low : List Built) (above : List (List Built)) (part : Built) → layout.width ≤ suc (length low)
    → added layout (low ∷ above) part ≡ [] ∷ added layout above (node_over layout (low ++ part ∷ [])).part
added_full layout low above part full =
    added_if (nat_lt (suc (length low)) layout.width) (low ++ part ∷ []) above ([] ∷ added layout above (node_over layout (low ++ part ∷ [])).part) (le-ltb (suc (length low)) layout.width full)

some_if : (b : Bool) (low : List Built) (above full : List (List Built)) → 0 < length (if b then low ∷ above else [] ∷ full)
some_if true low above full = omega arith
some_if false low above full = omega arith

added_some : (layout : Layout) (levels : List (List Built)) (part : Built) → 0 < length (added layout levels part)
added_some layout [] part = omega arith
added_some layout (low ∷ above) part =
    some_if (nat_lt (suc (length low)) layout.width) (low ++ part ∷ []) above (added layout above (node_over layout (low ++ part ∷ [])).part)

pub add_memory : (layout : Layout) (levels : List (List Built)) (part : Built) (r : Result (Unit {0}) BuildError) → IfErr r (λ error. error ≡ Memory) → IfErr r (AddFault layout levels part)
add_memory layout levels part (Ok done) none = tt
add_memory layout levels part (Err error) none = no_memory none

pub full_fault : (layout : Layout) (levels above : List (List Built)) (parts low : List Built) (part : Built) (error : BuildError) → levels ≡ low ∷ above → parts ≡ low → layout.width ≤ suc (length low)
    → IsBlockFault no_attributes (node_of layout.version no_attributes [] (parts ++ part ∷ [])) error → AddFault layout levels part error
full_fault layout levels above parts low part error is same full fault = of_full low above is full (fault_is layout no_attributes parts low part error same fault)

pub upper_fault : (layout : Layout) (levels above : List (List Built)) (parts low : List Built) (part upper_part : Built) (node : BuiltBlock) (error : BuildError) → levels ≡ low ∷ above → parts ≡ low
    → layout.width ≤ suc (length low) → node ≡ node_of layout.version no_attributes [] (parts ++ part ∷ []) → upper_part ≡ node.part → AddFault layout above upper_part error → AddFault layout levels part error
upper_fault layout levels above parts low part upper_part node error is same full made upper_is fault =
    upper low above is full (subst (λ (p : Built). AddFault layout above p error) (upper_is ∙ ap (λ (b : BuiltBlock). b.part) (node_is layout no_attributes parts low part node same made)) fault)

pub waits_first : (layout : Layout) (levels new : List (List Built)) (index : ℕ) (part : Built) (r : Result (Unit {0}) BuildError) → index ≡ length levels → OnOk r (new ≡ levels ++ (part ∷ []) ∷ [])
    → (all : List Built) → 1 < layout.width → Wait layout (drop index levels) all → OnOk r (Wait layout (drop index new) (all ++ part ∷ []))
waits_first layout levels new index part (Err error) at_end appended all wide wait = tt
waits_first layout levels new index part (Ok done) at_end appended all wide wait =
    let now : drop index new ≡ (part ∷ []) ∷ []
    = ap (λ (ls : List (List Built)). drop index ls) appended ∙ ap (λ (i : ℕ). drop i (levels ++ (part ∷ []) ∷ [])) at_end ∙ drop-append_seam levels ((part ∷ []) ∷ []) in
    let was : drop index levels ≡ [] = ap (λ (i : ℕ). drop i levels) at_end ∙ drop-length levels in
    subst (λ (ls : List (List Built)). Wait layout ls (all ++ part ∷ [])) (sym now) (wait_first layout part all wide (subst (λ (ls : List (List Built)). Wait layout ls all) was wait))

pub waits_more : (layout : Layout) (levels : List (List Built)) (index : ℕ) (low was now other : List Built) (part : Built) (all : List Built) → Found levels index low → was ≡ get_or levels index other → now ≡ was ++ part ∷ []
    → suc (length low) < layout.width → Wait layout (drop index levels) all → Wait layout (drop index (set levels index now)) (all ++ part ∷ [])
waits_more layout levels index low was now other part all there was_is now_is room wait =
    let after : drop index (set levels index now) ≡ (low ++ part ∷ []) ∷ drop (index + 1) levels
    = drop-set levels index now there.inside ∙ ap (λ (l : List Built). l ∷ drop (index + 1) levels) (now_is ∙ ap (λ (l : List Built). l ++ part ∷ []) (same_level levels index low was other there was_is)) in
    subst (λ (ls : List (List Built)). Wait layout ls (all ++ part ∷ [])) (sym after) (wait_more layout low (drop (index + 1) levels) part all room (subst (λ (ls : List (List Built)). Wait layout ls all) there.from_here wait))

-- what is known of a level that is full, its node and the levels above it
pub record Fills (layout : Layout) (old new : List (List Built)) (index : ℕ) (parts low now : List Built) (part upper_part : Built) (node : BuiltBlock) : Type 0 where
  pub there : Found old index low
  pub full : layout.width ≤ suc (length low)
  pub same : parts ≡ low
  pub made : node ≡ node_of layout.version no_attributes [] (parts ++ part ∷ [])
  pub upper_is : upper_part ≡ node.part
  pub below : take (index + 1) new ≡ take (index + 1) old
  pub above : drop (index + 1) new ≡ added layout (drop (index + 1) old) upper_part
  pub now_is : now ≡ []

upper_node : (layout : Layout) (old new : List (List Built)) (index : ℕ) (parts low now : List Built) (part upper_part : Built) (node : BuiltBlock) → Fills layout old new index parts low now part upper_part node
    → upper_part ≡ (node_over layout (low ++ part ∷ [])).part
upper_node layout old new index parts low now part upper_part node f = f.upper_is ∙ ap (λ (b : BuiltBlock). b.part) (node_is layout no_attributes parts low part node f.same f.made)

cleared : (layout : Layout) (old new : List (List Built)) (index : ℕ) (parts low now : List Built) (part upper_part : Built) (node : BuiltBlock) → Fills layout old new index parts low now part upper_part node
    → drop index (set new index now) ≡ [] ∷ drop (index + 1) new
cleared layout old new index parts low now part upper_part node f =
    drop-set new index now (kept_inside old new index f.below f.there.inside) ∙ ap (λ (l : List Built). l ∷ drop (index + 1) new) f.now_is

pub adds_full : (layout : Layout) (old new : List (List Built)) (index : ℕ) (parts low now : List Built) (part upper_part : Built) (node : BuiltBlock) → Fills layout old new index parts low now part upper_part node
    → drop index (set new index now) ≡ added layout (drop index old) part
adds_full layout old new index parts low now part upper_part node f =
    cleared layout old new index parts low now part upper_part node f
    ∙ ap (λ (ls : List (List Built)). [] ∷ ls) (f.above ∙ ap (λ (p : Built). added layout (drop (index + 1) old) p) (upper_node layout old new index parts low now part upper_part node f))
    ∙ sym (added_full layout low (drop (index + 1) old) part f.full)
    ∙ ap (λ (ls : List (List Built)). added layout ls part) (sym f.there.from_here)

pub waits_full : (layout : Layout) (old new : List (List Built)) (index : ℕ) (parts low now : List Built) (part upper_part : Built) (node : BuiltBlock) (all : List Built) → Fills layout old new index parts low now part upper_part node
    → Holds node.part [] (parts ++ part ∷ []) → 1 < layout.width
    → ((ups : List Built) → 1 < layout.width → Wait layout (drop (index + 1) old) ups → Wait layout (drop (index + 1) new) (ups ++ upper_part ∷ []))
    → Wait layout (drop index old) all → Wait layout (drop index (set new index now)) (all ++ part ∷ [])
waits_full layout old new index parts low now part upper_part node all f holds wide goes_up wait =
    let is = upper_node layout old new index parts low now part upper_part node f in
    let some : 0 < length (drop (index + 1) new) = omega (arith, ap length f.above, added_some layout (drop (index + 1) old) upper_part) in
    subst (λ (ls : List (List Built)). Wait layout ls (all ++ part ∷ [])) (sym (cleared layout old new index parts low now part upper_part node f))
    (wait_full layout low (drop (index + 1) old) (drop (index + 1) new) part all f.full (has_node layout parts low part node f.same f.made holds) some
    (λ ups waits. subst (λ (p : Built). Wait layout (drop (index + 1) new) (ups ++ p ∷ [])) is (goes_up ups wide waits))
    (subst (λ (ls : List (List Built)). Wait layout ls all) f.there.from_here wait))
