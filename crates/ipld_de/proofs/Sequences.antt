-- Lists and tuples, as they are read item by item.
use Rattle.std.proofs.Common.{◌≡◌, inl, inr, is_some, suc, length, List, [], ◌∷◌, ◌++◌, Option, Some, None, option_map, refl, sym, ap, ◌∙◌, append_assoc}
use Rattle.ipld_tree.specs.Tree.{Tree, Items, no_items, item}
use Rattle.ipld_tree.specs.TreeOf.{items_of}
use Rattle.ipld_tree.specs.declared.ipld.Ipld.{Ipld}
use Rattle.ipld_ser.specs.Image.{both, RejectsAs}
use Rattle.ipld_ser.specs.declared.error.SerdeError.{SerdeError}
use Rattle.ipld_de.specs.Composites.{read_all, ItemsError}
use Rattle.ipld_de.specs.Cursors.{read_next, NextError, after_item}
use Rattle.ipld_de.specs.Forms.{count_items}

pub count_items-items_of : (xs : List Ipld) → count_items (items_of xs) ≡ length xs
count_items-items_of [] = refl
count_items-items_of (x ∷ xs) = ap suc (count_items-items_of xs)

-- the reading of a whole list, where this much was read and this is left
abbrev pub read_so_far : {C : Type 0} → (Tree → Option C) → Items → List C → Items → Type 0
read_so_far reads all done rest = read_all reads all ≡ option_map (λ cs. done ++ cs) (read_all reads rest)

regrouped : {C : Type 0} (done : List C) (c : C) (o : Option (List C)) → option_map (λ cs. done ++ cs) (both ◌∷◌ (Some c) o) ≡ option_map (λ cs. (done ++ c ∷ []) ++ cs) o
regrouped done c None = refl
regrouped done c (Some cs) = ap Some (sym (append_assoc done (c ∷ []) cs))

read_at : {C : Type 0} (o : Option C) (c : C) → option_map Some o ≡ Some (Some c) → o ≡ Some c
read_at None c is = cc
read_at (Some d) c is = cc

pub list_more : {C : Type 0} (reads : Tree → Option C) (all rest : Items) (done : List C) (c : C)
    → read_so_far reads all done rest → read_next reads rest ≡ Some (Some c) → read_so_far reads all (done ++ c ∷ []) (after_item rest)
list_more reads all no_items done c so_far next = cc
list_more reads all (item t ts) done c so_far next =
    let read : reads t ≡ Some c = read_at (reads t) c next in
    so_far ∙ ap (λ o. option_map (λ cs. done ++ cs) (both ◌∷◌ o (read_all reads ts))) read ∙ regrouped done c (read_all reads ts)

-- ---- the error

-- the error of the items that are left is that of all of them
abbrev pub ErrorOfRest : {C : Type 0} → (Tree → Option C) → (Tree → SerdeError → Type 0) → Items → Items → Type 0
ErrorOfRest reads error all rest = (e : SerdeError) → ItemsError reads error rest e → ItemsError reads error all e

pub error_more : {C : Type 0} (reads : Tree → Option C) (error : Tree → SerdeError → Type 0) (all rest : Items) (c : C)
    → ErrorOfRest reads error all rest → read_next reads rest ≡ Some (Some c) → ErrorOfRest reads error all (after_item rest)
error_more reads error all no_items c so_far next = absurd cc
error_more reads error all (item t ts) c so_far next = λ e why. so_far e (inr (ap is_some (read_at (reads t) c next), why))

unread : {C : Type 0} (o : Option C) → option_map Some o ≡ None → o ≡ None
unread None is = refl
unread (Some c) is = absurd cc

-- an item is rejected
pub item_rejected : {C : Type 0} (reads : Tree → Option C) (error : Tree → SerdeError → Type 0) (all rest : Items) (done : List C) (e : SerdeError)
    → read_so_far reads all done rest → ErrorOfRest reads error all rest → RejectsAs (read_next reads rest) (NextError error rest) e
    → RejectsAs (read_all reads all) (ItemsError reads error all) e
item_rejected reads error all rest done e so_far others (inl memory) = inl memory
item_rejected reads error all no_items done e so_far others (inr none) = absurd none.1
item_rejected reads error all (item t ts) done e so_far others (inr none) =
    let unread_it : reads t ≡ None = unread (reads t) none.0 in
    inr (so_far ∙ ap (λ o. option_map (λ cs. done ++ cs) (both ◌∷◌ o (read_all reads ts))) unread_it, others e (inl (unread_it, none.1)))
