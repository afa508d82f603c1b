-- What a conversion or a cursor returned, and what that says of the tree.
use Rattle.std.proofs.Common.{◌≡◌, inl, inr, IsSomeAnd, IfOk, IfSome, Result, [], Global, String, string_bytes, Option, Some, None, option_and_then, Ok, Err, MatchOption, refl, ap, sym, subst}
use Rattle.ipld_tree.specs.Tree.{Tree, null, boolean, integer, text, bytes, list, entries, link, Items, no_items, item, Members, no_members, member}
use Rattle.ipld_tree.specs.Convert.{list_in, entries_in}
use Rattle.ipld_tree.specs.TreeOf.{tree_of}
use Rattle.ipld_tree.specs.Kind.{kind_of}
use Rattle.ipld_tree.specs.declared.ipld.Ipld.{Ipld}
use Rattle.ipld_ser.specs.declared.error.SerdeError.{SerdeError}
use Rattle.ipld_de.specs.Cursors.{left, entries_left}
use Rattle.ipld_de.specs.Reading.{Returns, taken, wrong_kind, KindError}
use Rattle.ipld_de.specs.declared.sequence.SeqDeserializer.{SeqDeserializer}
use Rattle.ipld_de.specs.declared.map.MapDeserializer.{MapDeserializer}
use Rattle.ipld_explain.specs.Path.{at_path}
use Rattle.ipld_explain.specs.Failures.{Failure, value, Leads, Explains}
use Rattle.ipld_explain.specs.Composites.{KindFails}
use Rattle.std.specs.declared.alloc.AllocError.{AllocError}
use Rattle.ipld_explain.specs.declared.explanation.Expected.{Expected}
use Rattle.ipld_explain.specs.declared.explanation.Explanation.{Explanation}

pub item_taken : (o : Option Ipld) (rest after : Items) (v : Ipld) → MatchOption o (rest ≡ no_items) (λ w. rest ≡ item (tree_of w) after) → o ≡ Some v → rest ≡ item (tree_of v) after
item_taken o rest after v found is = subst (λ p. MatchOption p (rest ≡ no_items) (λ w. rest ≡ item (tree_of w) after)) is found

pub items_ended : (o : Option Ipld) (rest after : Items) → MatchOption o (rest ≡ no_items) (λ w. rest ≡ item (tree_of w) after) → o ≡ None → rest ≡ no_items
items_ended o rest after found is = subst (λ p. MatchOption p (rest ≡ no_items) (λ w. rest ≡ item (tree_of w) after)) is found

pub entry_taken : (o : Option (String Global × Ipld)) (rest after : Members) (k : String Global) (v : Ipld)
    → MatchOption o (rest ≡ no_members) (λ e. rest ≡ member (string_bytes e.0) (tree_of e.1) after) → o ≡ Some (k, v) → rest ≡ member (string_bytes k) (tree_of v) after
entry_taken o rest after k v found is = subst (λ p. MatchOption p (rest ≡ no_members) (λ e. rest ≡ member (string_bytes e.0) (tree_of e.1) after)) is found

pub entries_ended : (o : Option (String Global × Ipld)) (rest after : Members)
    → MatchOption o (rest ≡ no_members) (λ e. rest ≡ member (string_bytes e.0) (tree_of e.1) after) → o ≡ None → rest ≡ no_members
entries_ended o rest after found is = subst (λ p. MatchOption p (rest ≡ no_members) (λ e. rest ≡ member (string_bytes e.0) (tree_of e.1) after)) is found

pub list_there : (t : Tree) (c : SeqDeserializer) → Returns left (Ok c) (taken list_in t) → t ≡ list (left c)
list_there null c is = absurd cc
list_there (boolean b) c is = absurd cc
list_there (integer n) c is = absurd cc
list_there (text s) c is = absurd cc
list_there (bytes b) c is = absurd cc
list_there (list ts) c is = let same : ts ≡ left c = cc in ap list same
list_there (entries ms) c is = absurd cc
list_there (link l) c is = absurd cc

pub no_list : (t : Tree) (e : SerdeError) → Returns left (Err e) (taken list_in t) → (list_in t ≡ None) × (e ≡ wrong_kind t)
no_list null e is = (refl, cc)
no_list (boolean b) e is = (refl, cc)
no_list (integer n) e is = (refl, cc)
no_list (text s) e is = (refl, cc)
no_list (bytes b) e is = (refl, cc)
no_list (list ts) e is = absurd cc
no_list (entries ms) e is = (refl, cc)
no_list (link l) e is = (refl, cc)

pub map_there : (t : Tree) (c : MapDeserializer) → Returns entries_left (Ok c) (taken entries_in t) → t ≡ entries (entries_left c)
map_there null c is = absurd cc
map_there (boolean b) c is = absurd cc
map_there (integer n) c is = absurd cc
map_there (text s) c is = absurd cc
map_there (bytes b) c is = absurd cc
map_there (list ts) c is = absurd cc
map_there (entries ms) c is = let same : ms ≡ entries_left c = cc in ap entries same
map_there (link l) c is = absurd cc

pub no_map : (t : Tree) (e : SerdeError) → Returns entries_left (Err e) (taken entries_in t) → (entries_in t ≡ None) × (e ≡ wrong_kind t)
no_map null e is = (refl, cc)
no_map (boolean b) e is = (refl, cc)
no_map (integer n) e is = (refl, cc)
no_map (text s) e is = (refl, cc)
no_map (bytes b) e is = (refl, cc)
no_map (list ts) e is = (refl, cc)
no_map (entries ms) e is = absurd cc
no_map (link l) e is = (refl, cc)

-- a tree of another kind
pub other_kind : {C D : Type 0} (expected : Expected) (content : Tree → Option D) (inner : D → Option C) (fails : D → Failure → Type 0) (t : Tree) (f : Failure)
    → (content t ≡ None) × (f.error ≡ wrong_kind t) → f.path ≡ [] → kind_of t ≡ f.found → f.expected ≡ expected → f.wrong ≡ value
    → Explains (λ u. option_and_then inner (content u)) (KindFails expected content fails) t (Some f)
other_kind expected content inner fails t f is path found expects wrong =
    (ap (option_and_then inner) is.0, at_start, inl (is.0, (path, expects, is.1, wrong)))
  where
    at_start : Leads t f
    at_start = subst (λ p. IsSomeAnd (at_path p t) (λ v. kind_of v ≡ f.found)) (sym path) found

-- a tree of the kind that is taken: the error is that of its content
pub kind_error : {D : Type 0} (content : Tree → Option D) (error : D → SerdeError → Type 0) (t : Tree) (d : D) (r : Result (Option Explanation) AllocError) → content t ≡ Some d
    → IfOk r (λ found. IfSome found (λ x. error d x.error)) → IfOk r (λ found. IfSome found (λ x. KindError content error t x.error))
kind_error content error t d (Ok None) there why = why
kind_error content error t d (Ok (Some x)) there why = inr (d, there, why)
kind_error content error t d (Err e) there why = why
