use Rattle.std.proofs.Common.{◌≡◌, ◌≤◌, length}
use Rattle.ipld_block.specs.Digest.{digest_by}
use Rattle.ipld_cid.specs.LinkOf.{link_of}
use Rattle.unixfs_folders.specs.Lookups.{lookup_parts, LooksIn}
use Rattle.kombilad_c.proofs.lookup.look_up.Given as goal

abbrev pub invariant-loop-block : goal.invariant-loop-block
invariant-loop-block l = record {
  looks : LooksIn digest_by (link_of l.folder) (lookup_parts l.lookup);
  named : (lookup_parts l.lookup).name ≡ l.name;
  deep : (lookup_parts l.lookup).depth ≡ l.block-index;
  within : l.block-index ≤ length l.blocks;
  same_cid : l.cid ≡ l.initial.cid;
  same_place : l.place ≡ l.initial.place;
}
