-- The links of a tree are what was gathered into an empty vector.
use Rattle.std.proofs.Common.{◌≡◌, Bool, true, List, [], ◌++◌, map, sym, ap, ◌∙◌}
use Rattle.std.proofs.lemmas.List.{append-nil}
use Rattle.ipld_cid.specs.Cid.{Link}
use Rattle.ipld_cid.specs.LinkOf.{link_of}
use Rattle.ipld_cid.specs.declared.cid.CidGeneric.{CidGeneric}
use Rattle.ipld_tree.specs.Appended.{Appends}

pub all_gathered : (before after : List (CidGeneric 64)) (links : List Link) (done : Bool) → Appends before after links done → before ≡ [] → done ≡ true → map link_of after ≡ links
all_gathered before after links done a none whole =
    ap (map link_of) (a.appended ∙ ap (λ xs. xs ++ a.added) none) ∙ sym (append-nil (map link_of a.added)) ∙ ap (λ xs. map link_of a.added ++ xs) (sym (a.whole whole)) ∙ sym a.beginning
