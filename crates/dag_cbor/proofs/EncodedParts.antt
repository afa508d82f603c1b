-- What of a block was written where writing it failed.
use Rattle.std.proofs.Common.{◌≡◌, ◌≢◌, ℕ, ◌<◌, List, [], length, Option, Some, None, IfSome, refl, sym, ap, subst, arith}
use Rattle.std.proofs.lemmas.List.{append-nil}
use Rattle.std.specs.Io.KnownBytes.{Appends}
use Rattle.ipld_tree.specs.Tree.{Tree, null, boolean, integer, text, bytes, list, entries, link}
use Rattle.ipld_tree.specs.Walk.{preorder}
use Rattle.ipld_codec.specs.WriteOut.{WritesPart}
use Rattle.dag_cbor_format.specs.Canonical.{canonical}
use Rattle.dag_cbor.specs.Lemmas.BlockLaws.{block_writes_encoded}
use Rattle.dag_cbor_format.specs.Writing.{Adds}
use Rattle.dag_cbor_blocks.proofs.Fits.{values_fit}

some_values : (t : Tree) → 0 < length (preorder t)
some_values null = omega arith
some_values (boolean b) = omega arith
some_values (integer n) = omega arith
some_values (text s) = omega arith
some_values (bytes b) = omega arith
some_values (list ts) = omega arith
some_values (entries ms) = omega arith
some_values (link l) = omega arith

-- a block has bytes
not_empty : (t : Tree) (block : List ℕ) → canonical t ≡ Some block → block ≢ []
not_empty t block is none =
    let fit = values_fit t block (block_writes_encoded t block is) in
    let some = some_values t in
    let zero : length block ≡ 0 = ap length none in absurd (omega arith)

kept : (o : Option (List ℕ)) → Appends o o []
kept None = tt
kept (Some xs) = sym (append-nil xs)

-- nothing was written
pub none_of_block : (t : Tree) (o : Option (List ℕ)) → IfSome (canonical t) (WritesPart o o)
none_of_block t o = at (canonical t) refl
  where
    at : (c : Option (List ℕ)) → canonical t ≡ c → IfSome c (WritesPart o o)
    at None is = tt
    at (Some block) is = (block, not_empty t block is, record { front = []; splits = refl; appends = kept o })

-- a part of the block was
pub part_of_block : (t : Tree) (old new : Option (List ℕ)) (items : List ℕ) → Adds (canonical t) [] items → WritesPart old new items → IfSome (canonical t) (WritesPart old new)
part_of_block t old new items a w = subst (λ c. IfSome c (WritesPart old new)) (sym a.is) (subst (WritesPart old new) a.appended w)
