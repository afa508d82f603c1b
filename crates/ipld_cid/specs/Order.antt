-- Equality and order of multihashes and CIDs. CIDs are ordered by version, codec, hash code, the
-- digest's length, and the digest's bytes.
use Rattle.std.specs.Prelude.{ℕ, Bool, ◌==◌, nat_eq, ◌&&◌, List, ◌++◌, length}
use Rattle.std.specs.Cmp.Lexicographic.{slice_cmp, pointwise}
use Rattle.std.specs.declared.cmp.Ordering.{Ordering}
use Rattle.std.specs.Hash.{HashWrites}
use Rattle.std.specs.Hash as fed
use Rattle.std.specs.Ordering.{nat_cmp, then_cmp, on}
use Rattle.ipld_cid.specs.declared.cid.Version.{Version}
use Rattle.ipld_cid.specs.declared.cid.Version.TheVariants.{V0, V1}
use Rattle.ipld_cid.specs.Multihash.{HashParts}
use Rattle.ipld_cid.specs.Cid.{Link, hash_of}

-- Whether two multihashes have equal hash codes and equal digests
abbrev pub hash_eq : HashParts → HashParts → Bool
hash_eq a b = (a.code == b.code) && pointwise nat_eq a.digest b.digest

abbrev pub digest_cmp : List ℕ → List ℕ → Ordering
digest_cmp = then_cmp (on (λ d. length d) nat_cmp) (slice_cmp nat_cmp)

-- The order of multihashes: by hash code, then by digest
abbrev pub hash_cmp : HashParts → HashParts → Ordering
hash_cmp = then_cmp (on (λ h. h.code) nat_cmp) (on (λ h. h.digest) digest_cmp)

abbrev pub version_number : Version → ℕ
version_number V0 = 0
version_number V1 = 1

-- Whether all parts of two CIDs are equal (this project's own).
abbrev pub link_eq : Link → Link → Bool
link_eq a b = (version_number a.version == version_number b.version) && (a.codec == b.codec) && hash_eq (hash_of a) (hash_of b)

-- The order of CIDs: by version, codec, hash code, digest length and digest bytes (this project's
-- own).
abbrev pub link_cmp : Link → Link → Ordering
link_cmp = then_cmp (on (λ l. version_number l.version) nat_cmp) (then_cmp (on (λ l. l.codec) nat_cmp) (on hash_of hash_cmp))

-- The writes of a multihash into a hasher
abbrev pub hash_fed : HashParts → HashWrites
hash_fed h = fed.u64 h.code ++ fed.slice fed.u8 h.digest

-- The writes of a CID into a hasher (this project's own).
abbrev pub link_fed : Link → HashWrites
link_fed l = fed.u8 (version_number l.version) ++ fed.u64 l.codec ++ hash_fed (hash_of l)
