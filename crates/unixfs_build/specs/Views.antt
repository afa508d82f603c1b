-- The models of blocks, of the links of a node, and of the entries of folders.
use Rattle.std.specs.Prelude.{◌≡◌, ◌+◌, ℕ, List, map, sum, Some}
use Rattle.ipld_cid.specs.LinkOf.{link_of}
use Rattle.dag_pb.specs.Views.{parts_of_link}
use Rattle.unixfs_build.specs.Blocks.{Built, BuiltBlock, link_to, sizes_of, totals_of}
use Rattle.unixfs_folders.specs.Folders.{EntryParts}
use Rattle.unixfs_build.specs.Nodes.{MadeNode}
use Rattle.unixfs_build.specs.declared.block.BuiltPart.{BuiltPart}
use Rattle.unixfs_build.specs.declared.block.FileBlock.{FileBlock}
use Rattle.unixfs_build.specs.declared.entry.NewEntry.{NewEntry}
use Rattle.unixfs_build.specs.declared.folder_node.NodeBlock.{NodeBlock}
use Rattle.unixfs_build.specs.declared.node.Children.{Children}

-- the model of a part
abbrev pub built : BuiltPart → Built
built p = record { link = link_of p.cid; size = p.size; total = p.total }

-- the model of a block
abbrev pub block_of : FileBlock → BuiltBlock
block_of b = record { part = record { link = link_of b.cid; size = b.size; total = b.total }; bytes = b.data.items }

-- True if the links lead to these parts, which have these sizes and totals. `size` counts `head`
-- bytes of the node itself too.
pub record LeadTo (head : ℕ) (parts : List Built) (children : Children) : Type 0 where
  pub links : map parts_of_link children.links.items ≡ map link_to parts
  pub sizes : children.sizes.items ≡ sizes_of parts
  pub size : children.size ≡ head + sum (sizes_of parts)
  pub total : children.total ≡ sum (totals_of parts)

-- the model of an entry, whose link claims its total
abbrev pub entry_of : NewEntry → EntryParts
entry_of e = record { name = e.name.now; link = link_of e.cid; tsize = Some e.total }

-- the model of a block
abbrev pub made : NodeBlock → MadeNode
made b = record { link = link_of b.cid; total = b.total; bytes = b.data.items }
