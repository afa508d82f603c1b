-- The status of an error of a failed allocation.
use Rattle.std.proofs.Common.{◌≡◌, refl, ap}
use Rattle.dag_pb.specs.declared.error.PbError.{PbError}
use Rattle.unixfs.specs.declared.error.UnixFsError.{UnixFsError}
use Rattle.unixfs.specs.declared.node.NodeError.{NodeError}
use Rattle.unixfs.specs.declared.node.NodeError.TheVariants.{Block, NoData, Message}
use Rattle.unixfs.specs.Nodes.{IsNodeMemory}
use Rattle.unixfs_folders.specs.declared.error.FolderErrorKind.{FolderErrorKind}
use Rattle.unixfs_folders.specs.declared.error.FolderErrorKind.TheVariants.{Memory, Codec, Verify, Node, NotFolder, HashFunction, Fanout, InvalidName, NameOrder, InvalidSlot, SlotOrder, BitField, NotShard, WrongSlot, TooDeep, Finished}
use Rattle.unixfs_folders.specs.Views.{IsMemory}
use Rattle.kombilad_c.specs.Status.{pb_status, message_status, node_status, folder_status}

node_memory : (error : NodeError) → IsNodeMemory error → node_status error ≡ 1
node_memory (Block error) is = ap (λ (e : PbError). pb_status e.kind) is
node_memory NoData is = absurd is
node_memory (Message error) is = ap (λ (e : UnixFsError). message_status e.kind) is

pub memory_status : (error : FolderErrorKind) → IsMemory error → folder_status error ≡ 1
memory_status Memory is = refl
memory_status (Codec code) is = absurd is
memory_status (Verify error) is = absurd is
memory_status (Node error) is = node_memory error is
memory_status (NotFolder kind) is = absurd is
memory_status HashFunction is = absurd is
memory_status Fanout is = absurd is
memory_status (InvalidName index) is = absurd is
memory_status (NameOrder index) is = absurd is
memory_status (InvalidSlot index) is = absurd is
memory_status (SlotOrder index) is = absurd is
memory_status BitField is = absurd is
memory_status NotShard is = absurd is
memory_status (WrongSlot index) is = absurd is
memory_status TooDeep is = absurd is
memory_status Finished is = absurd is
