-- Links of blocks, named one block after the other.
use Rattle.std.proofs.Common.{◌≡◌, Bool, true, false, ◌||◌, List, [], ◌∷◌, ◌++◌, map, reverse, inl, inr, ◌⊎◌, refl, sym, ap, subst, ◌∙◌, append_assoc, append-nil}
use Rattle.std.proofs.lemmas.List.{map-append, reverse-append}
use Rattle.ipld_cid.specs.Cid.{Link}
use Rattle.ipld_cid.specs.LinkOf.{link_of}
use Rattle.ipld_cid.specs.Order.{link_eq}
use Rattle.ipld_cid.specs.declared.cid.CidGeneric.{CidGeneric}
use Rattle.ipld_car.specs.Section.{Block}
use Rattle.car_files.specs.Has.{has}
use Rattle.car_files.specs.Carried.{carrier, AreCarried, CarriesFaults}
use Rattle.car_files.specs.Names.{Names}
use Rattle.car_files.specs.Reached.{Reaches, stands, inlined}
use Rattle.car_files.specs.Index.{Search}
use Rattle.car_files.proofs.Taking.{has_append}
use Rattle.car_files.specs.declared.adding.CarriedFault.{CarriedFault}
use Rattle.car_files.specs.Missing.{links_of_block, links_of_blocks, cids_of, Exactly}

true_or_false : (b : Bool) → (b ≡ true) ⊎ (b ≡ false)
true_or_false true = inl refl
true_or_false false = inr refl

or_either : (a b : Bool) → (a || b) ≡ true → (a ≡ true) ⊎ (b ≡ true)
or_either true b e = inl refl
or_either false b e = inr e

or_left : (a b : Bool) → a ≡ true → (a || b) ≡ true
or_left a b e = rw e refl

or_right : (a b : Bool) → b ≡ true → (a || b) ≡ true
or_right true b e = refl
or_right false b e = e

pub or_comm : (a b : Bool) → (a || b) ≡ (b || a)
or_comm true true = refl
or_comm true false = refl
or_comm false true = refl
or_comm false false = refl

-- what is reached from fewer links
pub reaches_from : (xs ys : List Link) (l : Link) → ((k : Link) → has k xs ≡ true → has k ys ≡ true) → Reaches xs l → Reaches ys l
reaches_from xs ys l within (stands k here) = stands k (within k here)
reaches_from xs ys l within (inlined m k r same here) = inlined m k (reaches_from xs ys m within r) same here

in_left : (xs ys : List Link) (k : Link) → has k xs ≡ true → has k (xs ++ ys) ≡ true
in_left xs ys k here = has_append k xs ys ∙ or_left (has k xs) (has k ys) here

in_right : (xs ys : List Link) (k : Link) → has k ys ≡ true → has k (xs ++ ys) ≡ true
in_right xs ys k here = has_append k xs ys ∙ or_right (has k xs) (has k ys) here

-- what is reached from either
reaches_either : (xs ys : List Link) (l : Link) → Reaches (xs ++ ys) l → Reaches xs l ⊎ Reaches ys l
reaches_either xs ys l (stands k here) = elim (or_either (has k xs) (has k ys) (sym (has_append k xs ys) ∙ here)) [
  | inl left ↦ inl (stands k left)
  | inr right ↦ inr (stands k right)
]
reaches_either xs ys l (inlined m k r same here) = elim (reaches_either xs ys m r) [
  | inl left ↦ inl (inlined m k left same here)
  | inr right ↦ inr (inlined m k right same here)
]

-- links of both
pub exactly_both : (xs ys from more : List Link) → Exactly xs from → Exactly ys more → Exactly (xs ++ ys) (from ++ more)
exactly_both xs ys from more p q = λ l. (
  (λ here. elim (or_either (has l xs) (has l ys) (sym (has_append l xs ys) ∙ here)) [
    | inl early ↦ let r = (p l).0 early in (reaches_from from (from ++ more) l (in_left from more) r.0, r.1)
    | inr late ↦ let r = (q l).0 late in (reaches_from more (from ++ more) l (in_right from more) r.0, r.1)
  ]),
  (λ r. elim (reaches_either from more l r.0) [
    | inl early ↦ in_left xs ys l ((p l).1 (early, r.1))
    | inr late ↦ in_right xs ys l ((q l).1 (late, r.1))
  ]),
)

-- nothing is reached from no links
pub reaches_none : (l : Link) → Reaches [] l → ⊥
reaches_none l (stands k here) = let no : ◌≡◌ {A = Bool} false true = here in cc
reaches_none l (inlined m k r same here) = reaches_none m r

pub exactly_none : (from : List Link) → [] ≡ from → Exactly [] from
exactly_none from e = λ l. ((λ here. absurd (let no : ◌≡◌ {A = Bool} false true = here in cc)), (λ r. absurd (reaches_none l (subst (λ xs. Reaches xs l) (sym e) r.0))))

-- the links of the blocks, one more
pub links_more : (blocks : List Block) (block : Block) → links_of_blocks (blocks ++ block ∷ []) ≡ links_of_blocks blocks ++ links_of_block block
links_more [] block = append-nil (links_of_block block)
links_more (b ∷ blocks) block =
    ap (λ ls. links_of_block b ++ ls) (links_more blocks block) ∙ sym (append_assoc (links_of_block b) (links_of_blocks blocks) (links_of_block block))

-- the CIDs of the blocks, one more
pub cids_more : (l : Link) (blocks : List Block) (block : Block) → has l (cids_of (blocks ++ block ∷ [])) ≡ (link_eq l block.cid || has l (cids_of blocks))
cids_more l blocks block =
    ap (has l) (map-append (λ (b : Block). b.cid) blocks (block ∷ [])) ∙ has_append l (cids_of blocks) (block.cid ∷ [])
    ∙ or_comm (has l (cids_of blocks)) (link_eq l block.cid || false) ∙ ap (λ b. b || has l (cids_of blocks)) (or_comm (link_eq l block.cid) false)

-- links in another order
pub has_reverse : (l : Link) (cids : List (CidGeneric 64)) → has l (map link_of (reverse cids)) ≡ has l (map link_of cids)
has_reverse l [] = refl
has_reverse l (c ∷ cids) =
    ap (λ ks. has l (map link_of ks)) (reverse-append (c ∷ []) cids) ∙ ap (has l) (map-append link_of (reverse cids) (c ∷ []))
    ∙ has_append l (map link_of (reverse cids)) (link_of c ∷ []) ∙ or_comm (has l (map link_of (reverse cids))) (link_eq l (link_of c) || false)
    ∙ ap (λ b. b || has l (map link_of (reverse cids))) (or_comm (link_eq l (link_of c)) false) ∙ ap (λ b. link_eq l (link_of c) || b) (has_reverse l cids)

-- what is named by links in another order
pub names_reversed : (cids : List (CidGeneric 64)) (old new : Search) → Names (map link_of (reverse cids)) old new → Names (map link_of cids) old new
names_reversed cids old new n = record {
  added = n.added;
  adds = n.adds;
  exactly = λ l. (
    (λ here. let r = (n.exactly l).0 here in (reaches_from (map link_of (reverse cids)) (map link_of cids) l (λ k h. sym (has_reverse k cids) ∙ h) r.0, r.1)),
    (λ r. (n.exactly l).1 (reaches_from (map link_of cids) (map link_of (reverse cids)) l (λ k h. has_reverse k cids ∙ h) r.0, r.1)),
  );
}

-- what such links carry
carried_from : (xs ys : List Link) (faults : List CarriedFault) → ((k : Link) → has k xs ≡ true → has k ys ≡ true) → AreCarried xs faults → AreCarried ys faults
carried_from xs ys [] within c = tt
carried_from xs ys (fault ∷ faults) within c = ((reaches_from xs ys (carrier fault) within c.0.0, c.0.1, c.0.2), carried_from xs ys faults within c.1)

-- what is at fault in links in another order
pub faults_reversed : (cids : List (CidGeneric 64)) (faults : List CarriedFault) → CarriesFaults (map link_of (reverse cids)) faults → CarriesFaults (map link_of cids) faults
faults_reversed cids faults c = record {
  only = carried_from (map link_of (reverse cids)) (map link_of cids) faults (λ k here. sym (has_reverse k cids) ∙ here) c.only;
  each = λ l r. c.each l (reaches_from (map link_of cids) (map link_of (reverse cids)) l (λ k here. has_reverse k cids ∙ here) r);
}
