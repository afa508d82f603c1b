-- Links, with those of the blocks that they carry, taken one after the other.
use Rattle.std.proofs.Common.{◌≡◌, ℕ, suc, length, Bool, true, false, cond, not, ◌&&◌, ◌||◌, List, [], ◌∷◌, ◌++◌, map, Option, Some, None, inl, inr, ◌⊎◌, refl, sym, ap, subst, ◌∙◌, append-nil}
use Rattle.std.specs.Bool.{Decides}
use Rattle.std.specs.Option.{option_map_or}
use Rattle.std.proofs.lemmas.List.{map-append}
use Rattle.ipld_cid.specs.Cid.{Link}
use Rattle.ipld_cid.specs.LinkOf.{link_of}
use Rattle.ipld_cid.specs.Order.{link_eq}
use Rattle.ipld_cid.specs.Lemmas.OrderLaws.{link_decides}
use Rattle.ipld_cid.specs.declared.cid.CidGeneric.{CidGeneric}
use Rattle.std.specs.Option.{unwrap_or}
use Rattle.std.specs.Result.{result_unwrap_or}
use Rattle.dag_cbor_format.specs.declared.error.CborError.{CborError}
use Rattle.dag_cbor_format.specs.Found.{links_among}
use Rattle.dag_cbor_format.specs.Reading.{unless_error}
use Rattle.dag_cbor_format.specs.Trace.{error_in, links_read, trace_of, tokens_in}
use Rattle.dag_json.proofs.BlockErrors.{no_links_found}
use Rattle.ipld_block.specs.Blocks.{HasLinks, IsInvalid}
use Rattle.ipld_block.specs.Codes.{codec_of_code}
use Rattle.ipld_block.specs.declared.codec.BlockCodec.{BlockCodec}
use Rattle.ipld_block.specs.declared.codec.BlockCodec.TheVariants.{DagCbor, DagPb, DagJson, Raw}
use Rattle.ipld_block.specs.declared.error.InvalidBlock.{InvalidBlock}
use Rattle.ipld_block.specs.declared.error.InvalidBlock.TheVariants.{Cbor, Pb, Json, NotCanonical}
use Rattle.car_files.specs.Blocks.{links_by, links_in, BlockHas, BlockFault, IsBlockOf}
use Rattle.car_files.specs.Carried.{carrier, IsCarried, AreCarried, CarriesFaults}
use Rattle.car_files.specs.Has.{has}
use Rattle.car_files.specs.Index.{Search, with_link, with_links, AddsEach}
use Rattle.car_files.specs.Names.{Names, NamesSome}
use Rattle.car_files.specs.Reached.{is_identity, Reaches, stands, inlined}
use Rattle.car_files.specs.Taking.{Adding, TakesFault, TakesLink}
use Rattle.car_files.specs.declared.adding.CarriedFault.{CarriedFault}

-- those that carry no block
abbrev pub plain : List Link → List Link
plain [] = []
plain (l ∷ ls) = cond (is_identity l) (plain ls) (l ∷ plain ls)

by_codec : (codec : BlockCodec) (bytes : List ℕ) (links : List Link) → HasLinks codec bytes links → links ≡ links_by codec bytes
by_codec DagCbor bytes links h = sym (ap (λ (found : Option (List Link)). unwrap_or found []) h)
by_codec DagPb bytes links h = sym (ap (λ found. result_unwrap_or found []) h)
by_codec DagJson bytes links h = sym (ap (λ (found : Option (List Link)). unwrap_or found []) h)
by_codec Raw bytes links h = h

-- the links that were read
pub read_links : (code : ℕ) (bytes : List ℕ) (links : List Link) → BlockHas code bytes links → links ≡ links_in code bytes
unfolding links_in
read_links code bytes links h = by_codec h.0 bytes links h.2 ∙ sym (ap (λ codec. option_map_or (λ (c : BlockCodec). links_by c bytes) codec []) h.1)

-- a block of another codec has none
pub no_links : (code : ℕ) (bytes : List ℕ) → codec_of_code code ≡ None → [] ≡ links_in code bytes
unfolding links_in
no_links code bytes e = sym (ap (λ codec. option_map_or (λ (c : BlockCodec). links_by c bytes) codec []) e)

-- bytes that are no block have none
unread : (bytes : List ℕ) (error : CborError) → error_in true bytes ≡ Some error → links_read true bytes ≡ None
unfolding links_read error_in
unread bytes error e = ap (λ (found : Option CborError). unless_error found (Some (links_among (tokens_in (trace_of true bytes).events)))) e

none_by : (codec : BlockCodec) (bytes : List ℕ) (why : InvalidBlock) → IsInvalid codec bytes why → [] ≡ links_by codec bytes
none_by DagCbor bytes (Cbor error) w = sym (ap (λ (found : Option (List Link)). unwrap_or found []) (unread bytes w.0 w.2))
none_by DagCbor bytes (Pb error) w = absurd w
none_by DagCbor bytes (Json error) w = absurd w
none_by DagCbor bytes NotCanonical w = absurd w
none_by DagPb bytes (Cbor error) w = absurd w
none_by DagPb bytes (Pb error) w = sym (ap (λ found. result_unwrap_or found []) w)
none_by DagPb bytes (Json error) w = absurd w
none_by DagPb bytes NotCanonical w = absurd w
none_by DagJson bytes (Cbor error) w = absurd w
none_by DagJson bytes (Pb error) w = absurd w
none_by DagJson bytes (Json error) w = sym (ap (λ (found : Option (List Link)). unwrap_or found []) (no_links_found true bytes error w))
none_by DagJson bytes NotCanonical w = absurd w
none_by Raw bytes why w = absurd w

pub fault_links : (code : ℕ) (bytes : List ℕ) (why : InvalidBlock) → BlockFault code bytes why → [] ≡ links_in code bytes
unfolding links_in
fault_links code bytes why f = none_by f.0 bytes why f.2 ∙ sym (ap (λ codec. option_map_or (λ (c : BlockCodec). links_by c bytes) codec []) f.1)

-- bytes whose links were read are a block
pub block_of_links : (code : ℕ) (bytes : List ℕ) (links : List Link) → BlockHas code bytes links → IsBlockOf code bytes
block_of_links code bytes links h = inr (subst (BlockHas code bytes) (read_links code bytes links h) h)

or_assoc : (a b c : Bool) → ((a || b) || c) ≡ (a || (b || c))
or_assoc true b c = refl
or_assoc false b c = refl

or_false : (a : Bool) → (a || false) ≡ a
or_false true = refl
or_false false = refl

false_true : ◌≡◌ {A = Bool} false true → ⊥
false_true e = cc

regroup : (m a r : Bool) → ((m || a) || r) ≡ true → (a || (r || m)) ≡ true
regroup m true r e = refl
regroup m false true e = refl
regroup true false false e = refl
regroup false false false e = e

regroup_back : (m a r : Bool) → (a || (r || m)) ≡ true → ((m || a) || r) ≡ true
regroup_back true a r e = refl
regroup_back false true r e = refl
regroup_back false false true e = refl
regroup_back false false false e = e

or_more : (m a r i : Bool) → ((m || a) || r) ≡ true → ((m || a) || (r || i)) ≡ true
or_more true a r i e = refl
or_more false true r i e = refl
or_more false false true i e = refl
or_more false false false i e = absurd (false_true e)

or_end : (m a r : Bool) → ((m || a) || (r || true)) ≡ true
or_end true a r = refl
or_end false true r = refl
or_end false false true = refl
or_end false false false = refl

or_last : (a r : Bool) → (a || (r || true)) ≡ true
or_last true r = refl
or_last false true = refl
or_last false false = refl

or_nothing : (a : Bool) → (a || false) ≡ true → a ≡ true
or_nothing true e = refl
or_nothing false e = e

or_first : (a : Bool) → a ≡ true → (a || false) ≡ true
or_first true e = refl
or_first false e = e

and_false : (a : Bool) → (a && false) ≡ false
and_false true = refl
and_false false = refl

decided : {P : Type 0} (a i : Bool) → (a ≡ true → P) → (P → a ≡ true) → Decides (a && not i) (P × (i ≡ false))
decided true true f g = (λ e. absurd (false_true e), λ p. absurd (false_true (sym p.1)))
decided true false f g = (λ e. (f refl, refl), λ p. refl)
decided false i f g = (λ e. absurd (false_true e), λ p. g p.0)

eq_self : (l : Link) → link_eq l l ≡ true
eq_self l = (link_decides l l).1 refl

pub has_append : (l : Link) (xs ys : List Link) → has l (xs ++ ys) ≡ (has l xs || has l ys)
has_append l [] ys = refl
has_append l (x ∷ xs) ys = ap (λ b. link_eq l x || b) (has_append l xs ys) ∙ sym (or_assoc (link_eq l x) (has l xs) (has l ys))

true_or_false : (b : Bool) → (b ≡ true) ⊎ (b ≡ false)
true_or_false true = inl refl
true_or_false false = inr refl

-- the link before the others
last_of : (l m : Link) (rest : List Link) → has l (rest ++ m ∷ []) ≡ (has l rest || link_eq l m)
last_of l m rest = has_append l rest (m ∷ []) ∙ ap (λ b. has l rest || b) (or_false (link_eq l m))

-- which of the links that were taken carry bytes that are no block
pub record FaultsSoFar (from taken : List Link) (faults : List CarriedFault) : Type 0 where
  pub only : AreCarried from faults
  pub each : (l : Link) → has l taken ≡ true → is_identity l ≡ true → IsBlockOf l.codec l.digest ⊎ (has l (map carrier faults) ≡ true)

only_more : (from : List Link) (faults : List CarriedFault) (fault : CarriedFault) → AreCarried from faults → IsCarried from fault → AreCarried from (faults ++ fault ∷ [])
only_more from [] fault a c = (c, tt)
only_more from (f ∷ faults) fault a c = (a.0, only_more from faults fault a.1 c)

carriers_more : (l : Link) (faults : List CarriedFault) (fault : CarriedFault) → has l (map carrier (faults ++ fault ∷ [])) ≡ (has l (map carrier faults) || link_eq l (carrier fault))
carriers_more l faults fault = ap (has l) (map-append carrier faults (fault ∷ [])) ∙ last_of l (carrier fault) (map carrier faults)

or_true : (a b : Bool) → b ≡ true → (a || b) ≡ true
or_true true b e = refl
or_true false b e = e

or_before : (a b : Bool) → a ≡ true → (a || b) ≡ true
or_before true b e = refl
or_before false b e = absurd (false_true e)

-- a link more that carries a block
fine_taken : (from taken : List Link) (faults : List CarriedFault) (m : Link) → FaultsSoFar from taken faults → IsBlockOf m.codec m.digest → FaultsSoFar from (m ∷ taken) faults
fine_taken from taken faults m s fine = record {
  only = s.only;
  each = λ l here same. elim (true_or_false (link_eq l m)) [
    | inl is ↦ inl (subst (λ (k : Link). IsBlockOf k.codec k.digest) (sym ((link_decides l m).0 is)) fine)
    | inr apart ↦ s.each l (rw apart at here) same
  ];
}

-- or bytes that are none
fault_taken : (from taken : List Link) (faults : List CarriedFault) (fault : CarriedFault) (m : Link) → FaultsSoFar from taken faults → IsCarried from fault
    → carrier fault ≡ m → FaultsSoFar from (m ∷ taken) (faults ++ fault ∷ [])
fault_taken from taken faults fault m s c carries = record {
  only = only_more from faults fault s.only c;
  each = λ l here same. elim (true_or_false (link_eq l m)) [
    | inl is ↦ inr (carriers_more l faults fault ∙ or_true (has l (map carrier faults)) (link_eq l (carrier fault)) (ap (link_eq l) carries ∙ is))
    | inr apart ↦ elim (s.each l (rw apart at here) same) [
      | inl fine ↦ inl fine
      | inr among ↦ inr (carriers_more l faults fault ∙ or_before (has l (map carrier faults)) (link_eq l (carrier fault)) among)
    ]
  ];
}

carried_taken : (from taken : List Link) (faults more : List CarriedFault) (m : Link) → FaultsSoFar from taken faults → Reaches from m → is_identity m ≡ true
    → TakesFault m faults more → FaultsSoFar from (m ∷ taken) more
carried_taken from taken faults more m s r carries (inl t) =
    subst (FaultsSoFar from (m ∷ taken)) (sym t.1) (fine_taken from taken faults m s t.0)
carried_taken from taken faults more m s r carries (inr t) =
    subst (FaultsSoFar from (m ∷ taken)) (sym t.1) (fault_taken from taken faults t.0 m s
    (subst (λ (k : Link). Reaches from k × (is_identity k ≡ true) × BlockFault k.codec k.digest t.0.why) (sym t.2) (r, carries, t.3)) t.2)

-- or none at all
plain_taken : (from taken : List Link) (faults more : List CarriedFault) (m : Link) → FaultsSoFar from taken faults → is_identity m ≡ false → more ≡ faults
    → FaultsSoFar from (m ∷ taken) more
plain_taken from taken faults more m s other e = subst (FaultsSoFar from (m ∷ taken)) (sym e) (record {
  only = s.only;
  each = λ l here same. elim (true_or_false (link_eq l m)) [
    | inl is ↦ absurd (false_true (sym other ∙ ap is_identity (sym ((link_decides l m).0 is)) ∙ same))
    | inr apart ↦ s.each l (rw apart at here) same
  ];
})

or_comm : (a b : Bool) → (a || b) ≡ (b || a)
or_comm true true = refl
or_comm true false = refl
or_comm false true = refl
or_comm false false = refl

with_append : (xs ys came missing : List Link) → with_links (xs ++ ys) came missing ≡ with_links ys came (with_links xs came missing)
with_append [] ys came missing = refl
with_append (x ∷ xs) ys came missing = with_append xs ys came (with_link x came missing)

-- links were added, and then others
adds_then : (xs ys : List Link) (old mid new : Search) → AddsEach xs old mid → AddsEach ys mid new → AddsEach (xs ++ ys) old new
adds_then xs ys old mid new a b = record {
  came = b.came ∙ a.came;
  missing = b.missing ∙ ap (λ (came : List Link). with_links ys came mid.missing) a.came ∙ ap (with_links ys old.came) a.missing
      ∙ sym (with_append xs ys old.came old.missing);
}

-- so many links were taken, the last first, and these are pending
pub record NamesSoFar (from pending : List Link) (old new : Search) (faults : List CarriedFault) : Type 0 where
  pub taken : List Link
  pub added : List Link
  pub same : (l : Link) → has l added ≡ has l (plain taken)
  pub adds : AddsEach added old new
  pub sound : (l : Link) → (has l taken || has l pending) ≡ true → Reaches from l
  pub begins : (l : Link) → has l from ≡ true → (has l taken || has l pending) ≡ true
  pub closed : (m l : Link) → has m taken ≡ true → is_identity m ≡ true → has l (links_in m.codec m.digest) ≡ true → (has l taken || has l pending) ≡ true
  pub at_fault : FaultsSoFar from taken faults

pub names_none : (from : List Link) (index : Search) → NamesSoFar from from index index []
names_none from index = record {
  taken = [];
  added = [];
  same = λ l. refl;
  adds = record { came = refl; missing = refl };
  sound = λ l here. stands l here;
  begins = λ l here. here;
  closed = λ m l taken same here. absurd (false_true taken);
  at_fault = record { only = tt; each = λ l taken same. absurd (false_true taken) };
}

-- a link that carries no block
names_plain : (from pending rest : List Link) (m : Link) (old mid new : Search) (faults more : List CarriedFault) → NamesSoFar from pending old mid faults
    → pending ≡ rest ++ m ∷ [] → is_identity m ≡ false → AddsEach (m ∷ []) mid new → more ≡ faults
    → NamesSoFar from rest old new more
names_plain from pending rest m old mid new faults more n e other adds none = record {
  taken = m ∷ n.taken;
  added = n.added ++ m ∷ [];
  same = λ l. rw other (last_of l m n.added ∙ ap (λ (b : Bool). b || link_eq l m) (n.same l) ∙ or_comm (has l (plain n.taken)) (link_eq l m));
  adds = adds_then n.added (m ∷ []) old mid new n.adds adds;
  sound = λ l here. n.sound l (rw (ap (has l) e ∙ last_of l m rest) (regroup (link_eq l m) (has l n.taken) (has l rest) here));
  begins = λ l here. regroup_back (link_eq l m) (has l n.taken) (has l rest) (rw (ap (has l) e ∙ last_of l m rest) at (n.begins l here));
  closed = λ m' l taken same here. elim (true_or_false (link_eq m' m)) [
    | inl is ↦ absurd (let equal = (link_decides m' m).0 is in false_true (sym other ∙ ap is_identity (sym equal) ∙ same))
    | inr apart ↦ regroup_back (link_eq l m) (has l n.taken) (has l rest) (rw (ap (has l) e ∙ last_of l m rest) at (n.closed m' l (rw apart at taken) same here))
  ];
  at_fault = plain_taken from n.taken faults more m n.at_fault other none;
}

-- the last of those that are pending is reached
last_reached : (from pending rest : List Link) (m : Link) (old new : Search) (faults : List CarriedFault) → NamesSoFar from pending old new faults
    → pending ≡ rest ++ m ∷ [] → Reaches from m
last_reached from pending rest m old new faults n e = n.sound m (rw (ap (has m) e ∙ last_of m m rest, eq_self m) (or_last (has m n.taken) (has m rest)))

-- a link that carries a block, whose links are pending then
names_inlined : (from pending rest inner : List Link) (m : Link) (old mid new : Search) (faults more : List CarriedFault) → NamesSoFar from pending old mid faults
    → pending ≡ rest ++ m ∷ [] → is_identity m ≡ true → new ≡ mid → inner ≡ links_in m.codec m.digest → TakesFault m faults more
    → NamesSoFar from (rest ++ inner) old new more
names_inlined from pending rest inner m old mid new faults more n e carries all is t = record {
  taken = m ∷ n.taken;
  added = n.added;
  same = λ l. rw carries (n.same l);
  adds = subst (AddsEach n.added old) (sym all) n.adds;
  sound = λ l here. elim (true_or_false (has l inner)) [
    | inl within ↦ inlined m l (last_reached from pending rest m old mid faults n e) carries (rw is at within)
    | inr without ↦ n.sound l (rw (ap (has l) e ∙ last_of l m rest) (regroup (link_eq l m) (has l n.taken) (has l rest)
        (rw (has_append l rest inner, without, or_false (has l rest)) at here)))
  ];
  begins = λ l here. rw (has_append l rest inner) (or_more (link_eq l m) (has l n.taken) (has l rest) (has l inner)
      (regroup_back (link_eq l m) (has l n.taken) (has l rest) (rw (ap (has l) e ∙ last_of l m rest) at (n.begins l here))));
  closed = λ m' l taken same here. rw (has_append l rest inner) (elim (true_or_false (link_eq m' m)) [
    | inl equal ↦
        let within : has l inner ≡ true = rw is (subst (λ (k : Link). has l (links_in k.codec k.digest) ≡ true) ((link_decides m' m).0 equal) here) in
        rw within (or_end (link_eq l m) (has l n.taken) (has l rest))
    | inr apart ↦ or_more (link_eq l m) (has l n.taken) (has l rest) (has l inner)
        (regroup_back (link_eq l m) (has l n.taken) (has l rest) (rw (ap (has l) e ∙ last_of l m rest) at (n.closed m' l (rw apart at taken) same here)))
  ]);
  at_fault = carried_taken from n.taken faults more m n.at_fault (last_reached from pending rest m old mid faults n e) carries t;
}

-- what is reached was taken
reached : (from : List Link) (old new : Search) (faults : List CarriedFault) → (n : NamesSoFar from [] old new faults) (l : Link) → Reaches from l → has l n.taken ≡ true
reached from old new faults n l (stands k here) = or_nothing (has k n.taken) (n.begins k here)
reached from old new faults n l (inlined m k r same here) = or_nothing (has k n.taken) (n.closed m k (reached from old new faults n m r) same here)

at_self : (l : Link) (ls : List Link) (i : Bool) → is_identity l ≡ i → has l (plain ls) ≡ (has l ls && not (is_identity l)) → has l (plain (l ∷ ls)) ≡ (true && not (is_identity l))
at_self l ls true e h = rw e (h ∙ rw e (and_false (has l ls)))
at_self l ls false e h = rw e (ap (λ b. b || has l (plain ls)) (eq_self l))

off_self : (l m : Link) (ls : List Link) (i : Bool) → is_identity m ≡ i → link_eq l m ≡ false → has l (plain (m ∷ ls)) ≡ has l (plain ls)
off_self l m ls true e apart = rw e refl
off_self l m ls false e apart = rw e (ap (λ b. b || has l (plain ls)) apart)

has_plain : (l : Link) (ls : List Link) → has l (plain ls) ≡ (has l ls && not (is_identity l))
has_plain l [] = refl
has_plain l (m ∷ ls) = elim (true_or_false (link_eq l m)) [
  | inl here ↦
      let is : l ≡ m = (link_decides l m).0 here in
      rw here (subst (λ (k : Link). has l (plain (k ∷ ls)) ≡ (true && not (is_identity l))) is (at_self l ls (is_identity l) refl (has_plain l ls)))
  | inr apart ↦ off_self l m ls (is_identity m) refl apart ∙ rw apart (has_plain l ls)
]

-- nothing is pending
pub names_all : (from pending : List Link) (old new : Search) (faults : List CarriedFault) → NamesSoFar from pending old new faults → pending ≡ []
    → Names from old new
names_all from pending old new faults m none =
    let n = subst (λ p. NamesSoFar from p old new faults) none m in
    record {
      added = n.added;
      adds = n.adds;
      exactly = λ l. rw (n.same l ∙ has_plain l n.taken) (decided (has l n.taken) (is_identity l) (λ here. n.sound l (or_first (has l n.taken) here)) (reached from old new faults n l));
    }

pub faults_all : (from pending : List Link) (old new : Search) (faults : List CarriedFault) → NamesSoFar from pending old new faults → pending ≡ []
    → CarriesFaults from faults
faults_all from pending old new faults m none =
    let n = subst (λ p. NamesSoFar from p old new faults) none m in
    record { only = n.at_fault.only; each = λ l r same. n.at_fault.each l (reached from old new faults n l r) same }

-- the links of CIDs, the last of them apart
pub map_last : (cids : List (CidGeneric 64)) (c : CidGeneric 64) (before : List (CidGeneric 64)) → before ≡ cids ++ c ∷ [] → map link_of before ≡ map link_of cids ++ link_of c ∷ []
map_last cids c before e = ap (map link_of) e ∙ map-append link_of cids (c ∷ [])

-- where adding links stands
abbrev pub adding : List Link → Search → List CarriedFault → Adding
adding pending search faults = record { pending = pending; search = search; faults = faults }

-- a link more was taken
pub names_more : (from pending rest after : List Link) (m : Link) (old mid new : Search) (faults more : List CarriedFault) → NamesSoFar from pending old mid faults
    → pending ≡ rest ++ m ∷ [] → TakesLink m (adding rest mid faults) (adding after new more) → NamesSoFar from after old new more
names_more from pending rest after m old mid new faults more n e t = elim (true_or_false (is_identity m)) [
  | inl carries ↦
      let did = rw carries at t in
      subst (λ p. NamesSoFar from p old new more) (sym did.pending)
      (names_inlined from pending rest (links_in m.codec m.digest) m old mid new faults more n e carries did.search refl did.faults)
  | inr other ↦
      let did = rw other at t in
      subst (λ p. NamesSoFar from p old new more) (sym did.pending) (names_plain from pending rest m old mid new faults more n e other did.search did.faults)
]

either_way : {P : Type 0} (a i : Bool) → (a && not i) ≡ true → (a ≡ true → P) → P × (i ≡ false)
either_way true true e f = absurd (false_true e)
either_way true false e f = (f refl, refl)
either_way false i e f = absurd (false_true e)

or_left : (a b : Bool) → a ≡ true → (a || b) ≡ true
or_left true b e = refl
or_left false b e = absurd (false_true e)

-- where it ends early, a part of them was added
pub names_some : (from pending : List Link) (old mid new : Search) (faults : List CarriedFault) → NamesSoFar from pending old mid faults → new ≡ mid
    → NamesSome from old new
names_some from pending old mid new faults n all = record {
  added = n.added;
  adds = subst (AddsEach n.added old) (sym all) n.adds;
  only = λ l here. either_way (has l n.taken) (is_identity l) (sym (n.same l ∙ has_plain l n.taken) ∙ here) (λ taken. n.sound l (or_left (has l n.taken) (has l pending) taken));
}

-- the links of the block that a CID carries
pub takes_links : (m : Link) (index : Search) (before links after : List (CidGeneric 64)) (faults : List CarriedFault) → is_identity m ≡ true
    → BlockHas m.codec m.digest (map link_of links) → after ≡ before ++ links → TakesLink m (adding (map link_of before) index faults) (adding (map link_of after) index faults)
takes_links m index before links after faults carries held e =
    rw carries (record {
      pending = ap (map link_of) e ∙ map-append link_of before links ∙ ap (λ ls. map link_of before ++ ls) (read_links m.codec m.digest (map link_of links) held);
      search = refl;
      faults = inl (block_of_links m.codec m.digest (map link_of links) held, refl);
    })

-- a CID carries a block of another codec
pub takes_none : (m : Link) (index : Search) (before : List Link) (faults : List CarriedFault) → is_identity m ≡ true → codec_of_code m.codec ≡ None
    → TakesLink m (adding before index faults) (adding before index faults)
takes_none m index before faults carries unread =
    rw carries (record {
      pending = sym (append-nil before) ∙ ap (λ ls. before ++ ls) (no_links m.codec m.digest unread);
      search = refl;
      faults = inl (inl unread, refl);
    })

-- or bytes that are no block
pub takes_fault : (m : Link) (index : Search) (before : List Link) (faults more : List CarriedFault) (fault : CarriedFault) → is_identity m ≡ true
    → BlockFault m.codec m.digest fault.why → carrier fault ≡ m → more ≡ faults ++ fault ∷ [] → TakesLink m (adding before index faults) (adding before index more)
takes_fault m index before faults more fault carries wrong is e =
    rw carries (record {
      pending = sym (append-nil before) ∙ ap (λ ls. before ++ ls) (fault_links m.codec m.digest fault.why wrong);
      search = refl;
      faults = inr (fault, e, is, wrong);
    })

-- no CIDs
pub no_cids : (cids : List (CidGeneric 64)) → length cids ≡ 0 → map link_of cids ≡ []
no_cids [] e = refl
no_cids (c ∷ cids) e = absurd (let never : suc (length cids) ≡ 0 = e in cc)
