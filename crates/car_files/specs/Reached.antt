-- The links that are reached from others through blocks that CIDs carry.
use Rattle.std.specs.Prelude.{◌≡◌, ◌==◌, Bool, true, List}
use Rattle.ipld_cid.specs.Cid.{Link}
use Rattle.car_files.specs.Blocks.{links_in}
use Rattle.car_files.specs.Has.{has}

-- whether the CID carries its own block: its hash function is the identity
abbrev pub is_identity : Link → Bool
is_identity l = l.code == 0

-- True if the link is one of `from`, or a link of the block that a reached CID carries.
pub data Reaches (from : List Link) : Link → Type 0 where
  stands : (l : Link) → has l from ≡ true → Reaches from l
  inlined : (m l : Link) → Reaches from m → is_identity m ≡ true → has l (links_in m.codec m.digest) ≡ true → Reaches from l
