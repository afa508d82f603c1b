-- Laws of multihashes and CIDs: equality is equality of the parts, the order is total, and the two
-- agree.
use Rattle.std.specs.Prelude.{◌≡◌, ℕ, Bool, ◌==◌, nat_eq, ◌&&◌, List, length}
use Rattle.std.proofs.Common.{refl, sym, ap, ◌∙◌}
use Rattle.std.specs.Bool.{Decides}
use Rattle.std.specs.Cmp.{IsEquivalence, IsPartialOrder, IsTotalOrder, Equal-is, nat_cmp_total, on_total, then_total, partial_order_from_agreeing_total, unsigned_Decides}
use Rattle.std.specs.Cmp.Lexicographic.{slice_cmp, pointwise, pointwise_decides}
use Rattle.std.specs.declared.cmp.Ordering.{Ordering}
use Rattle.std.specs.declared.cmp.Ordering.TheVariants.{Less, Equal, Greater}
use Rattle.std.specs.Ordering.{nat_cmp, ordering_then, is_eq, eq_by_cmp, as_partial_cmp}
use Rattle.std.proofs.lemmas.Bool.Decides.{Decides-and, Decides-like, same_from_decides}
use Rattle.std.proofs.lemmas.Cmp.{nat_list_cmp_total, tied_itself}
use Rattle.std.proofs.lemmas.Map.Lookups.{exact_unsigned, exact_bytes}
use Rattle.ipld_cid.specs.declared.cid.Version.{Version}
use Rattle.ipld_cid.specs.declared.cid.Version.TheVariants.{V0, V1}
use Rattle.ipld_cid.specs.Multihash.{HashParts}
use Rattle.ipld_cid.specs.Cid.{Link, hash_of}
use Rattle.ipld_cid.specs.Order.{hash_eq, hash_cmp, digest_cmp, version_number, link_eq, link_cmp}

-- A test that decides whether two values are equal is an equivalence.
equiv_from_decides : {K : Type 0} (E : K → K → Bool) → ((x y : K) → Decides (E x y) (x ≡ y)) → IsEquivalence E
equiv_from_decides {K} E decides = record {
  refl = λ x. (decides x x).1 refl;
  symm = λ x y. same_from_decides (E x y) (E y x) (decides x y) (Decides-like (E y x) sym sym (decides y x));
  congr = λ x y z h. ap (λ (w : K). E w z) ((decides x y).0 h);
}

-- A total order that ties only equal values decides whether two values are equal.
ties_from_exact : {K : Type 0} (R : K → K → Ordering) → IsTotalOrder R → ((x y : K) → R x y ≡ Equal → x ≡ y) → (x y : K) → Decides (eq_by_cmp R x y) (x ≡ y)
ties_from_exact {K} R total exact x y =
    Decides-like (is_eq (R x y)) (exact x y) (λ e. ap (λ (w : K). R x w) (sym e) ∙ tied_itself total x) (Equal-is (R x y))

-- Two orders, one after the other, tie only if both tie.
then_ties : (o p : Ordering) → ordering_then o p ≡ Equal → (o ≡ Equal) × (p ≡ Equal)
then_ties Less p h = absurd cc
then_ties Equal p h = (refl, h)
then_ties Greater p h = absurd cc

-- ---- multihashes

same_hash : (a b : HashParts) → a.code ≡ b.code → a.digest ≡ b.digest → a ≡ b
same_hash a b code digest = λ i. record { code = code i; digest = digest i }

-- `hash_eq` decides whether two multihashes are equal.
pub hash_decides : (a b : HashParts) → Decides (hash_eq a b) (a ≡ b)
hash_decides a b =
    Decides-like (hash_eq a b) (λ p. same_hash a b p.0 p.1) (λ e. (ap (λ (h : HashParts). h.code) e, ap (λ (h : HashParts). h.digest) e))
    (Decides-and (a.code == b.code) (pointwise nat_eq a.digest b.digest) (unsigned_Decides a.code b.code) (pointwise_decides unsigned_Decides a.digest b.digest))

pub hash_equiv : IsEquivalence hash_eq
hash_equiv = equiv_from_decides hash_eq hash_decides

digest_total : IsTotalOrder digest_cmp
digest_total = then_total (on_total (λ (d : List ℕ). length d) nat_cmp_total) nat_list_cmp_total

pub hash_total : IsTotalOrder hash_cmp
hash_total = then_total (on_total (λ (h : HashParts). h.code) nat_cmp_total) (on_total (λ (h : HashParts). h.digest) digest_total)

hash_exact : (a b : HashParts) → hash_cmp a b ≡ Equal → a ≡ b
hash_exact a b h =
    let codes = then_ties (nat_cmp a.code b.code) (digest_cmp a.digest b.digest) h in
    let digests = then_ties (nat_cmp (length a.digest) (length b.digest)) (slice_cmp nat_cmp a.digest b.digest) codes.1 in
    same_hash a b (exact_unsigned a.code b.code codes.0) (exact_bytes a.digest b.digest digests.1)

-- Two multihashes are equal if and only if the order ties them.
pub hash_ties : (a b : HashParts) → hash_eq a b ≡ eq_by_cmp hash_cmp a b
hash_ties a b = same_from_decides (hash_eq a b) (eq_by_cmp hash_cmp a b) (hash_decides a b) (ties_from_exact hash_cmp hash_total hash_exact a b)

pub hash_order : IsPartialOrder hash_eq (as_partial_cmp hash_cmp)
hash_order = partial_order_from_agreeing_total hash_cmp hash_total (λ a b. refl) hash_ties

-- ---- CIDs

version_decides : (a b : Version) → Decides (version_number a == version_number b) (a ≡ b)
version_decides V0 V0 = (λ _. refl, λ _. refl)
version_decides V0 V1 = (λ e. absurd cc, λ e. absurd cc)
version_decides V1 V0 = (λ e. absurd cc, λ e. absurd cc)
version_decides V1 V1 = (λ _. refl, λ _. refl)

same_link : (a b : Link) → a.version ≡ b.version → a.codec ≡ b.codec → hash_of a ≡ hash_of b → a ≡ b
same_link a b version codec hash = λ i. record { version = version i; codec = codec i; code = (hash i).code; digest = (hash i).digest }

-- `link_eq` decides whether two CIDs are equal.
pub link_decides : (a b : Link) → Decides (link_eq a b) (a ≡ b)
link_decides a b =
    let versions = version_number a.version == version_number b.version in
    Decides-like (link_eq a b) (λ p. same_link a b p.0.0 p.0.1 p.1)
    (λ e. ((ap (λ (l : Link). l.version) e, ap (λ (l : Link). l.codec) e), ap hash_of e))
    (Decides-and (versions && (a.codec == b.codec)) (hash_eq (hash_of a) (hash_of b))
    (Decides-and versions (a.codec == b.codec) (version_decides a.version b.version) (unsigned_Decides a.codec b.codec)) (hash_decides (hash_of a) (hash_of b)))

pub link_equiv : IsEquivalence link_eq
link_equiv = equiv_from_decides link_eq link_decides

pub link_total : IsTotalOrder link_cmp
link_total =
    then_total (on_total (λ (l : Link). version_number l.version) nat_cmp_total)
    (then_total (on_total (λ (l : Link). l.codec) nat_cmp_total) (on_total hash_of hash_total))

pub link_exact : (a b : Link) → link_cmp a b ≡ Equal → a ≡ b
link_exact a b h =
    let versions = then_ties (nat_cmp (version_number a.version) (version_number b.version)) _ h in
    let codecs = then_ties (nat_cmp a.codec b.codec) (hash_cmp (hash_of a) (hash_of b)) versions.1 in
    let numbers = exact_unsigned (version_number a.version) (version_number b.version) versions.0 in
    same_link a b ((version_decides a.version b.version).0 ((unsigned_Decides (version_number a.version) (version_number b.version)).1 numbers)) (exact_unsigned a.codec b.codec codecs.0) (hash_exact (hash_of a) (hash_of b) codecs.1)

-- Two CIDs are equal if and only if the order ties them.
pub link_ties : (a b : Link) → link_eq a b ≡ eq_by_cmp link_cmp a b
link_ties a b = same_from_decides (link_eq a b) (eq_by_cmp link_cmp a b) (link_decides a b) (ties_from_exact link_cmp link_total link_exact a b)
