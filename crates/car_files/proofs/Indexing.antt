-- What the index knows, step by step.
use Rattle.std.proofs.Common.{◌≡◌, Bool, true, false, cond, not, ◌||◌, List, [], ◌∷◌, ◌++◌, map, filter, Some, is_some, inl, inr, ◌⊎◌, refl, sym, ap, subst, ◌∙◌, append-nil, append_assoc}
use Rattle.std.proofs.lemmas.List.{map-append}
use Rattle.std.specs.List.{IsDistinct, AllByRecursion}
use Rattle.std.specs.Map.{keys_of, lookup}
use Rattle.std.specs.Ordering.{on}
use Rattle.indexmap.specs.IndexMap.{insert_entry}
use Rattle.ipld_cid.specs.Cid.{Link}
use Rattle.ipld_cid.specs.LinkOf.{link_of}
use Rattle.ipld_cid.specs.Order.{link_eq}
use Rattle.ipld_cid.specs.Lemmas.OrderLaws.{link_decides}
use Rattle.ipld_cid.specs.declared.cid.CidGeneric.{CidGeneric}
use Rattle.car_files.specs.Has.{has}
use Rattle.car_files.specs.Index.{Search, came_in, missing_in, Comes, AddsEach}

-- entries of CIDs
abbrev pub Entries : Type 0
Entries = List (CidGeneric 64 × Bool)

abbrev pub same : CidGeneric 64 → CidGeneric 64 → Bool
same = on link_of link_eq

-- what the index shows by its entries
abbrev pub shown : Entries → Search
shown es = record { came = came_in es; missing = missing_in es }

true_or_false : (b : Bool) → (b ≡ true) ⊎ (b ≡ false)
true_or_false true = inl refl
true_or_false false = inr refl

twice : (a b : Bool) → (a || b) ≡ (a || (a || b))
twice true b = refl
twice false b = refl

swapped : (a b c : Bool) → (a || (b || c)) ≡ (b || (a || c))
swapped true true c = refl
swapped true false c = refl
swapped false b c = refl

-- the CID of a block that came is among those that did
came_put : (l : Link) (es : Entries) (k : CidGeneric 64) → has l (came_in (insert_entry same es k true)) ≡ (link_eq l (link_of k) || has l (came_in es))
came_put l [] k = refl
came_put l ((e, true) ∷ es) k = elim (true_or_false (link_eq (link_of k) (link_of e))) [
  | inl here ↦
      let is : link_of k ≡ link_of e = (link_decides (link_of k) (link_of e)).0 here in
      rw (here, ap (link_eq l) is) (twice (link_eq l (link_of e)) (has l (came_in es)))
  | inr apart ↦ rw apart (ap (λ (b : Bool). link_eq l (link_of e) || b) (came_put l es k) ∙ swapped (link_eq l (link_of e)) (link_eq l (link_of k)) (has l (came_in es)))
]
came_put l ((e, false) ∷ es) k = elim (true_or_false (link_eq (link_of k) (link_of e))) [
  | inl here ↦
      let is : link_of k ≡ link_of e = (link_decides (link_of k) (link_of e)).0 here in
      rw (here, ap (link_eq l) is) refl
  | inr apart ↦ rw apart (came_put l es k)
]

-- whether a link stays among the missing ones when the block of another came
abbrev pub stays : Link → Link → Bool
stays k l = not (link_eq k l)

-- a key that stands nowhere else is not among the missing links that follow
unlike : (k : Link) (e : CidGeneric 64) (es : Entries) → k ≡ link_of e → AllByRecursion (λ y. same e y ≡ false) (keys_of es)
    → missing_in es ≡ filter (stays k) (missing_in es)
unlike k e [] is apart = refl
unlike k e ((o, true) ∷ es) is apart = unlike k e es is apart.1
unlike k e ((o, false) ∷ es) is apart =
    let other : link_eq k (link_of o) ≡ false = ap (λ (j : Link). link_eq j (link_of o)) is ∙ apart.0 in
    rw other (ap (λ (ls : List Link). link_of o ∷ ls) (unlike k e es is apart.1))

-- and is no more missing
missing_put : (es : Entries) (k : CidGeneric 64) → IsDistinct same (keys_of (insert_entry same es k true))
    → missing_in (insert_entry same es k true) ≡ filter (stays (link_of k)) (missing_in es)
unfolding IsDistinct
missing_put [] k d = refl
missing_put ((e, true) ∷ es) k d = elim (true_or_false (link_eq (link_of k) (link_of e))) [
  | inl here ↦
      let d' : IsDistinct same (keys_of ((e, true) ∷ es)) = rw here at d in
      rw here (unlike (link_of k) e es ((link_decides (link_of k) (link_of e)).0 here) d'.0)
  | inr apart ↦
      let d' : IsDistinct same (keys_of ((e, true) ∷ insert_entry same es k true)) = rw apart at d in
      rw apart (missing_put es k d'.1)
]
missing_put ((e, false) ∷ es) k d = elim (true_or_false (link_eq (link_of k) (link_of e))) [
  | inl here ↦
      let d' : IsDistinct same (keys_of ((e, true) ∷ es)) = rw here at d in
      rw here (unlike (link_of k) e es ((link_decides (link_of k) (link_of e)).0 here) d'.0)
  | inr apart ↦
      let d' : IsDistinct same (keys_of ((e, false) ∷ insert_entry same es k true)) = rw apart at d in
      rw apart (ap (λ (ls : List Link). link_of e ∷ ls) (missing_put es k d'.1))
]

-- a block more
pub comes : (es after : Entries) (k : CidGeneric 64) → after ≡ insert_entry same es k true → IsDistinct same (keys_of after) → Comes (link_of k) (shown es) (shown after)
comes es after k is d =
    let d' : IsDistinct same (keys_of (insert_entry same es k true)) = subst (λ (xs : Entries). IsDistinct same (keys_of xs)) is d in
    rw is (record { came = λ l. came_put l es k; missing = missing_put es k d' })

or_middle : (a b c : Bool) → a ≡ true → (b || (a || c)) ≡ true
or_middle true true c e = refl
or_middle true false c e = refl
or_middle false b c e = absurd (let no : false ≡ true = e in cc)

-- a key that is there came or is missing
known_is : (k : CidGeneric 64) (es : Entries) → is_some (lookup (same k) es) ≡ (has (link_of k) (came_in es) || has (link_of k) (missing_in es))
known_is k [] = refl
known_is k ((e, true) ∷ es) = elim (true_or_false (link_eq (link_of k) (link_of e))) [
  | inl here ↦ rw here refl
  | inr apart ↦ rw apart (known_is k es)
]
known_is k ((e, false) ∷ es) = elim (true_or_false (link_eq (link_of k) (link_of e))) [
  | inl here ↦ rw here (sym (or_middle true (has (link_of k) (came_in es)) (has (link_of k) (missing_in es)) refl))
  | inr apart ↦ rw apart (known_is k es)
]

no_some : (b : Bool) → is_some (Some b) ≡ false → false ≡ true
no_some b e = let no : true ≡ false = e in sym no

-- a key that is not there goes last
put_last : (es : Entries) (k : CidGeneric 64) → is_some (lookup (same k) es) ≡ false → insert_entry same es k false ≡ es ++ (k, false) ∷ []
put_last [] k none = refl
put_last (e ∷ es) k none = elim (true_or_false (link_eq (link_of k) (link_of e.0))) [
  | inl here ↦ absurd (let no : false ≡ true = no_some e.1 (rw here at none) in cc)
  | inr apart ↦ rw apart (ap (λ (rest : Entries). e ∷ rest) (put_last es k (rw apart at none)))
]

came_last : (es : Entries) (k : CidGeneric 64) → came_in (es ++ (k, false) ∷ []) ≡ came_in es
came_last [] k = refl
came_last ((e, true) ∷ es) k = ap (λ (ls : List Link). link_of e ∷ ls) (came_last es k)
came_last ((e, false) ∷ es) k = came_last es k

missing_last : (es : Entries) (k : CidGeneric 64) → missing_in (es ++ (k, false) ∷ []) ≡ missing_in es ++ link_of k ∷ []
missing_last [] k = refl
missing_last ((e, true) ∷ es) k = missing_last es k
missing_last ((e, false) ∷ es) k = ap (λ (ls : List Link). link_of e ∷ ls) (missing_last es k)

-- a link more, of which nothing is known yet
pub adds_new : (es : Entries) (k : CidGeneric 64) → is_some (lookup (same k) es) ≡ false → AddsEach (link_of k ∷ []) (shown es) (shown (insert_entry same es k false))
adds_new es k none = record {
  came = ap came_in (put_last es k none) ∙ came_last es k;
  missing = ap missing_in (put_last es k none) ∙ missing_last es k
      ∙ ap (λ (b : Bool). cond b (missing_in es) (missing_in es ++ link_of k ∷ [])) (sym none ∙ known_is k es);
}

-- a link more, of which something is known
pub adds_known : (es : Entries) (k : CidGeneric 64) → is_some (lookup (same k) es) ≡ true → AddsEach (link_of k ∷ []) (shown es) (shown es)
adds_known es k some = record {
  came = refl;
  missing = ap (λ (b : Bool). cond b (missing_in es) (missing_in es ++ link_of k ∷ [])) (sym some ∙ known_is k es);
}

apart_missing : (k : CidGeneric 64) (es : Entries) → AllByRecursion (λ y. same k y ≡ false) (keys_of es)
    → AllByRecursion (λ y. link_eq (link_of k) y ≡ false) (missing_in es)
apart_missing k [] apart = tt
apart_missing k ((other, true) ∷ es) apart = apart_missing k es apart.1
apart_missing k ((other, false) ∷ es) apart = (apart.0, apart_missing k es apart.1)

-- each is missing once
missing_once : (es : Entries) → IsDistinct same (keys_of es) → IsDistinct link_eq (missing_in es)
unfolding IsDistinct
missing_once [] d = tt
missing_once ((k, true) ∷ es) d = missing_once es d.1
missing_once ((k, false) ∷ es) d = (apart_missing k es d.0, missing_once es d.1)

-- no link was put out yet
pub puts_none : (es : Entries) (search : Search) → shown es ≡ search → missing_in es ≡ search.missing
puts_none es search is = ap (λ (s : Search). s.missing) is

-- a link more was
pub puts_link : (cids : List (CidGeneric 64)) (k : CidGeneric 64) (rest : List Link) → map link_of (cids ++ k ∷ []) ++ rest ≡ map link_of cids ++ link_of k ∷ rest
puts_link cids k rest = ap (λ (ls : List Link). ls ++ rest) (map-append link_of cids (k ∷ [])) ∙ append_assoc (map link_of cids) (link_of k ∷ []) rest

-- all were
pub puts_all : (ls missing : List Link) (rest : Entries) → rest ≡ [] → ls ++ missing_in rest ≡ missing → ls ≡ missing
puts_all ls missing rest none e = sym (append-nil ls) ∙ rw none at e

pub puts_once : (ls : List Link) (es : Entries) (search : Search) → shown es ≡ search → IsDistinct same (keys_of es) → ls ≡ search.missing → IsDistinct link_eq ls
puts_once ls es search is d e = subst (IsDistinct link_eq) (puts_none es search is ∙ sym e) (missing_once es d)
