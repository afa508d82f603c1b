-- The trees of nodes of DAG-PB, written part by part.
use Rattle.std.proofs.Common.{◌≡◌, ℕ, suc, pos, ◌+◌, ◌<◌, true, Bool, cond, List, [], ◌∷◌, ◌++◌, map, codes, Option, Some, None, Err, inl, inr, ◌⊎◌, take, get_or, refl, sym, ap, subst, ◌∙◌, append_assoc, append-nil, length}
use Rattle.std.specs.Prelude.{nat_lt, option_map, ◌^◌}
use Rattle.std.specs.Int.{from_bool}
use Rattle.std.specs.Option.{is_some, unwrap_or}
use Rattle.std.proofs.lemmas.Bool.{lt-ltb}
use Rattle.std.proofs.lemmas.List.{take_more, map-append, length-map}
use Rattle.ipld_cid.specs.Cid.{Link}
use Rattle.dag_cbor_format.specs.Writing.{Adds}
use Rattle.dag_cbor_format.specs.Canonical.{canonical, canonical_items, written_text, written_link, written_map, written_with, headed, joined, item_count}
use Rattle.dag_cbor_format.specs.Head.{head}
use Rattle.dag_cbor_format.specs.declared.major.Major.TheVariants.{Map, List as Array}
use Rattle.dag_pb.specs.declared.error.PbError.{PbError}
use Rattle.dag_pb.specs.Node.{LinkParts, NodeParts}
use Rattle.dag_pb.specs.NodeReading.{read_node, links_found}
use Rattle.dag_pb.specs.Views.{IsOutOfMemory, parts_of_link}
use Rattle.dag_pb.specs.declared.link.PbLink.{PbLink}
use Rattle.ipld_block.specs.Blocks.{IsInvalid, MadeOfPb}
use Rattle.ipld_block.specs.declared.codec.BlockCodec.TheVariants.{DagPb}
use Rattle.ipld_block.specs.declared.error.CheckError.{CheckError}
use Rattle.ipld_block.specs.declared.error.CheckError.TheVariants.{Memory, Invalid}
use Rattle.ipld_show.specs.declared.error.ShowError.{ShowError}
use Rattle.ipld_show.specs.Blocks.{IsNoNode, IsShown}
use Rattle.ipld_tree.specs.Tree.{integer, text, bytes, link}
use Rattle.ipld_show.specs.Entries.{written_entry}
use Rattle.ipld_show.specs.Node.{link_tree, link_trees, node_tree}

-- ---- one after the other

joined_nothing : (a : Option (List ℕ)) → joined a (Some []) ≡ a
joined_nothing None = refl
joined_nothing (Some x) = ap Some (append-nil x)

nothing_joined : (a : Option (List ℕ)) → joined (Some []) a ≡ a
nothing_joined None = refl
nothing_joined (Some x) = refl

joined_assoc : (a b c : Option (List ℕ)) → joined a (joined b c) ≡ joined (joined a b) c
joined_assoc None b c = refl
joined_assoc (Some x) None c = refl
joined_assoc (Some x) (Some y) None = refl
joined_assoc (Some x) (Some y) (Some z) = ap Some (sym (append_assoc x y z))

-- ---- links

items_more : (ls : List LinkParts) (l : LinkParts)
    → canonical_items (link_trees (ls ++ l ∷ [])) ≡ joined (canonical_items (link_trees ls)) (canonical (link_tree l))
items_more [] l = joined_nothing (canonical (link_tree l)) ∙ sym (nothing_joined (canonical (link_tree l)))
items_more (k ∷ ks) l =
    ap (joined (canonical (link_tree k))) (items_more ks l)
    ∙ joined_assoc (canonical (link_tree k)) (canonical_items (link_trees ks)) (canonical (link_tree l))

joined_are : (a b : Option (List ℕ)) (x y : List ℕ) → a ≡ Some x → b ≡ Some y → joined a b ≡ Some (x ++ y)
joined_are a b x y e f = rw (e, f) refl

-- no link yet, and one more
pub links_none : (block : List ℕ) → Adds (canonical_items (link_trees [])) block block
links_none block = record { bytes = []; is = refl; appended = sym (append-nil block) }

pub links_more : (ls : List LinkParts) (l : LinkParts) (held mid new : List ℕ) → Adds (canonical_items (link_trees ls)) held mid
    → Adds (canonical (link_tree l)) mid new → Adds (canonical_items (link_trees (ls ++ l ∷ []))) held new
links_more ls l held mid new a b = record {
  bytes = a.bytes ++ b.bytes;
  is = items_more ls l ∙ joined_are (canonical_items (link_trees ls)) (canonical (link_tree l)) a.bytes b.bytes a.is b.is;
  appended = b.appended ∙ ap (λ (t : List ℕ). t ++ b.bytes) a.appended ∙ append_assoc held a.bytes b.bytes;
}

-- ---- entries

-- ---- parts of what was joined

some_same : (a b : List ℕ) → ◌≡◌ {A = Option (List ℕ)} (Some a) (Some b) → b ≡ a
some_same a b e = sym (ap (λ (x : Option (List ℕ)). unwrap_or x a) e)

record Both (a b : Option (List ℕ)) (x : List ℕ) : Type 0 where
  pub first : List ℕ
  pub second : List ℕ
  pub is_first : a ≡ Some first
  pub is_second : b ≡ Some second
  pub are : x ≡ first ++ second

both_of : (a b : Option (List ℕ)) (x : List ℕ) → joined a b ≡ Some x → Both a b x
both_of None b x e = absurd (let no : ◌≡◌ {A = Option (List ℕ)} None (Some x) = e in cc)
both_of (Some p) None x e = absurd (let no : ◌≡◌ {A = Option (List ℕ)} None (Some x) = e in cc)
both_of (Some p) (Some q) x e = record { first = p; second = q; is_first = refl; is_second = refl; are = some_same (p ++ q) x e }

-- ---- the map of a link, by its parts

link_are : (hash : Link) (name : Option (List ℕ)) (tsize : Option ℕ) (k h n t : List ℕ) → written_text (codes "Hash") ≡ Some k → written_link hash ≡ Some h
    → written_entry (codes "Name") (option_map text name) ≡ Some n → written_entry (codes "Tsize") (option_map (λ x. integer (pos x)) tsize) ≡ Some t
    → canonical (link_tree (record { hash = hash; name = name; tsize = tsize }))
    ≡ Some (head Map (1 + from_bool (is_some name) + from_bool (is_some tsize)) ++ (k ++ (h ++ (n ++ t))))
link_are hash None None k h n t ek eh en et =
    rw (some_same [] n en, some_same [] t et)
    (ap (λ (x : Option (List ℕ)). written_map (written_with (codes "Hash") x (Some []))) eh
    ∙ ap (λ (x : Option (List ℕ)). headed Map 1 (joined (joined x (Some h)) (Some []))) ek
    ∙ ap (λ (x : List ℕ). Some (head Map 1 ++ x)) (append_assoc k h []))
link_are hash (Some s) None k h n t ek eh en et =
    let b = both_of (written_text (codes "Name")) (written_text s) n en in
    rw (b.are, some_same [] t et)
    (ap (λ (x : Option (List ℕ)). written_map (written_with (codes "Hash") x (written_with (codes "Name") (written_text s) (Some [])))) eh
    ∙ ap (λ (x : Option (List ℕ)). written_map (written_with (codes "Hash") (Some h) (written_with (codes "Name") x (Some [])))) b.is_second
    ∙ ap (λ (x : Option (List ℕ)). headed Map 2 (joined (joined x (Some h)) (joined (joined (written_text (codes "Name")) (Some b.second)) (Some [])))) ek
    ∙ ap (λ (x : Option (List ℕ)). headed Map 2 (joined (joined (Some k) (Some h)) (joined (joined x (Some b.second)) (Some [])))) b.is_first
    ∙ ap (λ (x : List ℕ). Some (head Map 2 ++ x)) (append_assoc k h (b.first ++ b.second ++ [])))
link_are hash None (Some m) k h n t ek eh en et =
    let b = both_of (written_text (codes "Tsize")) (canonical (integer (pos m))) t et in
    rw (some_same [] n en, b.are)
    (ap (λ (x : Option (List ℕ)). written_map (written_with (codes "Hash") x (written_with (codes "Tsize") (canonical (integer (pos m))) (Some [])))) eh
    ∙ ap (λ (x : Option (List ℕ)). written_map (written_with (codes "Hash") (Some h) (written_with (codes "Tsize") x (Some [])))) b.is_second
    ∙ ap (λ (x : Option (List ℕ)). headed Map 2 (joined (joined x (Some h)) (joined (joined (written_text (codes "Tsize")) (Some b.second)) (Some [])))) ek
    ∙ ap (λ (x : Option (List ℕ)). headed Map 2 (joined (joined (Some k) (Some h)) (joined (joined x (Some b.second)) (Some [])))) b.is_first
    ∙ ap (λ (x : List ℕ). Some (head Map 2 ++ x)) (append_assoc k h (b.first ++ b.second ++ []) ∙ ap (λ (x : List ℕ). k ++ (h ++ x)) (append-nil (b.first ++ b.second))))
link_are hash (Some s) (Some m) k h n t ek eh en et =
    let b = both_of (written_text (codes "Name")) (written_text s) n en in
    let c = both_of (written_text (codes "Tsize")) (canonical (integer (pos m))) t et in
    rw (b.are, c.are)
    (ap (λ (x : Option (List ℕ)). written_map (written_with (codes "Hash") x (written_with (codes "Name") (written_text s) (written_with (codes "Tsize") (canonical (integer (pos m))) (Some []))))) eh
    ∙ ap (λ (x : Option (List ℕ)). written_map (written_with (codes "Hash") (Some h) (written_with (codes "Name") x (written_with (codes "Tsize") (canonical (integer (pos m))) (Some []))))) b.is_second
    ∙ ap (λ (x : Option (List ℕ)). written_map (written_with (codes "Hash") (Some h) (written_with (codes "Name") (Some b.second) (written_with (codes "Tsize") x (Some []))))) c.is_second
    ∙ ap (λ (x : Option (List ℕ)). headed Map 3 (joined (joined x (Some h)) (joined (joined (written_text (codes "Name")) (Some b.second)) (joined (joined (written_text (codes "Tsize")) (Some c.second)) (Some []))))) ek
    ∙ ap (λ (x : Option (List ℕ)). headed Map 3 (joined (joined (Some k) (Some h)) (joined (joined x (Some b.second)) (joined (joined (written_text (codes "Tsize")) (Some c.second)) (Some []))))) b.is_first
    ∙ ap (λ (x : Option (List ℕ)). headed Map 3 (joined (joined (Some k) (Some h)) (joined (joined (Some b.first) (Some b.second)) (joined (joined x (Some c.second)) (Some []))))) c.is_first
    ∙ ap (λ (x : List ℕ). Some (head Map 3 ++ x)) (append_assoc k h (b.first ++ b.second ++ (c.first ++ c.second ++ []))
    ∙ ap (λ (x : List ℕ). k ++ (h ++ (b.first ++ b.second ++ x))) (append-nil (c.first ++ c.second))))

-- the parts of a link were added, one after the other
pub link_adds : (l : LinkParts) (count : ℕ) (a b c d e f : List ℕ) → count ≡ 1 + from_bool (is_some l.name) + from_bool (is_some l.tsize)
    → b ≡ a ++ head Map count → Adds (canonical (text (codes "Hash"))) b c → Adds (canonical (link l.hash)) c d
    → Adds (written_entry (codes "Name") (option_map text l.name)) d e → Adds (written_entry (codes "Tsize") (option_map (λ x. integer (pos x)) l.tsize)) e f
    → Adds (canonical (link_tree l)) a f
link_adds l count a b c d e f counted eb k h n t = record {
  bytes = head Map count ++ (k.bytes ++ (h.bytes ++ (n.bytes ++ t.bytes)));
  is = rw counted (link_are l.hash l.name l.tsize k.bytes h.bytes n.bytes t.bytes k.is h.is n.is t.is);
  appended = t.appended ∙ rw (n.appended, h.appended, k.appended, eb) (simp append_assoc);
}

-- ---- the map of a node, by its parts

node_are : (content : Option (List ℕ)) (links : List LinkParts) (size : ℕ) (d k ls : List ℕ) → written_entry (codes "Data") (option_map bytes content) ≡ Some d
    → written_text (codes "Links") ≡ Some k → canonical_items (link_trees links) ≡ Some ls → item_count (link_trees links) ≡ size → nat_lt size (2 ^ 64) ≡ true
    → canonical (node_tree (record { links = links; content = content }))
    ≡ Some (head Map (1 + from_bool (is_some content)) ++ (d ++ (k ++ (head Array size ++ ls))))
node_are None links size d k ls ed ek el es en =
    rw (some_same [] d ed)
    (ap (λ (x : Option (List ℕ)). written_map (written_with (codes "Links") (headed Array (item_count (link_trees links)) x) (Some []))) el
    ∙ ap (λ (n : ℕ). written_map (written_with (codes "Links") (headed Array n (Some ls)) (Some []))) es
    ∙ ap (λ (x : Bool). written_map (written_with (codes "Links") (cond x (Some (head Array size ++ ls)) None) (Some []))) en
    ∙ ap (λ (x : Option (List ℕ)). headed Map 1 (joined (joined x (Some (head Array size ++ ls))) (Some []))) ek
    ∙ ap (λ (x : List ℕ). Some (head Map 1 ++ x)) (append-nil (k ++ (head Array size ++ ls))))
node_are (Some content) links size d k ls ed ek el es en =
    let b = both_of (written_text (codes "Data")) (canonical (bytes content)) d ed in
    rw b.are
    (ap (λ (x : Option (List ℕ)). written_map (written_with (codes "Data") (canonical (bytes content)) (written_with (codes "Links") (headed Array (item_count (link_trees links)) x) (Some [])))) el
    ∙ ap (λ (n : ℕ). written_map (written_with (codes "Data") (canonical (bytes content)) (written_with (codes "Links") (headed Array n (Some ls)) (Some [])))) es
    ∙ ap (λ (x : Bool). written_map (written_with (codes "Data") (canonical (bytes content)) (written_with (codes "Links") (cond x (Some (head Array size ++ ls)) None) (Some [])))) en
    ∙ ap (λ (x : Option (List ℕ)). written_map (written_with (codes "Data") x (written_with (codes "Links") (Some (head Array size ++ ls)) (Some [])))) b.is_second
    ∙ ap (λ (x : Option (List ℕ)). headed Map 2 (joined (joined x (Some b.second)) (joined (joined (written_text (codes "Links")) (Some (head Array size ++ ls))) (Some [])))) b.is_first
    ∙ ap (λ (x : Option (List ℕ)). headed Map 2 (joined (joined (Some b.first) (Some b.second)) (joined (joined x (Some (head Array size ++ ls))) (Some [])))) ek
    ∙ ap (λ (x : List ℕ). Some (head Map 2 ++ (b.first ++ b.second ++ x))) (append-nil (k ++ (head Array size ++ ls))))

-- the parts of a node were added, one after the other
pub node_adds : (node : NodeParts) (count size : ℕ) (a b c d e f : List ℕ) → count ≡ 1 + from_bool (is_some node.content) → item_count (link_trees node.links) ≡ size
    → size < 2 ^ 64 → b ≡ a ++ head Map count → Adds (written_entry (codes "Data") (option_map bytes node.content)) b c → Adds (canonical (text (codes "Links"))) c d
    → e ≡ d ++ head Array size → Adds (canonical_items (link_trees node.links)) e f → Adds (canonical (node_tree node)) a f
node_adds node count size a b c d e f counted sized few eb n k ee ls = record {
  bytes = head Map count ++ (n.bytes ++ (k.bytes ++ (head Array size ++ ls.bytes)));
  is = rw counted (node_are node.content node.links size n.bytes k.bytes ls.bytes n.is k.is ls.is sized (lt-ltb size (2 ^ 64) few));
  appended = ls.appended ∙ rw (ee, k.appended, n.appended, eb) (simp append_assoc);
}

-- how many trees there are
pub count_is : (ls : List LinkParts) → item_count (link_trees ls) ≡ length ls
count_is [] = refl
count_is (l ∷ ls) = ap suc (count_is ls)

-- ---- what is no node

none_found : (block : List ℕ) (error : PbError) → read_node block ≡ Err error → links_found block ≡ Err error
unfolding links_found
none_found block error e = rw e refl

-- what is said of bytes that are no node
pub no_node : (block : List ℕ) (error : PbError) (checked : CheckError) (made : ShowError) → IsOutOfMemory error ⊎ (read_node block ≡ Err error) → MadeOfPb error checked
    → IsShown checked made → IsNoNode block made
no_node block error Memory made f m is = subst (IsNoNode block) (sym is) tt
no_node block error (Invalid why) made (inl failed) m is = absurd (m.1 (ap (λ (e : PbError). e.kind) failed))
no_node block error (Invalid why) made (inr found) m is =
    subst (IsNoNode block) (sym is) (subst (IsInvalid DagPb block) (sym m.0) (none_found block error found))

-- a link more of those in a slice
pub links_at : (links : List PbLink) (i : ℕ) (x : PbLink) (held mid new : List ℕ) → i < length links → x ≡ get_or links i x
    → Adds (canonical_items (link_trees (map parts_of_link (take i links)))) held mid → Adds (canonical (link_tree (parts_of_link x))) mid new
    → Adds (canonical_items (link_trees (map parts_of_link (take (i + 1) links)))) held new
links_at links i x held mid new within at a b =
    let e : map parts_of_link (take (i + 1) links) ≡ map parts_of_link (take i links) ++ parts_of_link x ∷ [] =
    ap (map parts_of_link) (take_more links i x within ∙ ap (λ (y : PbLink). take i links ++ y ∷ []) (sym at)) ∙ map-append parts_of_link (take i links) (x ∷ []) in
    subst (λ (ls : List LinkParts). Adds (canonical_items (link_trees ls)) held new) (sym e) (links_more (map parts_of_link (take i links)) (parts_of_link x) held mid new a b)

-- how many entries there are
still_some : {A B : Type 0} (f : A → B) (o : Option A) → is_some (option_map f o) ≡ is_some o
still_some f None = refl
still_some f (Some x) = refl

pub two_counted : {A B C : Type 0} (f : A → B) (name : Option A) (tsize : Option C) (a b : ℕ) (p q : Bool) → a ≡ from_bool p → p ≡ is_some name → b ≡ from_bool q → q ≡ is_some tsize
    → 1 + a + b ≡ 1 + from_bool (is_some (option_map f name)) + from_bool (is_some tsize)
two_counted f name tsize a b p q ea ep eb eq = rw (still_some f name, ea, ep, eb, eq) refl

pub one_counted : {A B : Type 0} (f : A → B) (o : Option A) (a : ℕ) (p : Bool) → a ≡ from_bool p → p ≡ is_some o → 1 + a ≡ 1 + from_bool (is_some (option_map f o))
one_counted f o a p ea ep = rw (still_some f o, ea, ep) refl

pub size_is : (links : List PbLink) (size : ℕ) → size ≡ length links → item_count (link_trees (map parts_of_link links)) ≡ size
size_is links size e = count_is (map parts_of_link links) ∙ length-map links parts_of_link ∙ sym e
