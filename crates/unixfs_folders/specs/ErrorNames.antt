-- The sentences of the errors.
use Rattle.std.specs.Prelude.{ℕ, List, ◌++◌, codes}
use Rattle.std.specs.Fmt.{decimal}
use Rattle.ipld_block.specs.VerifyError as verify
use Rattle.unixfs.specs.Nodes.{node_sentence}
use Rattle.unixfs_folders.specs.declared.error.FolderErrorKind.{FolderErrorKind}
use Rattle.unixfs_folders.specs.declared.error.FolderErrorKind.TheVariants.{Memory, Codec, Verify, Node, NotFolder, HashFunction, Fanout, InvalidName, NameOrder, InvalidSlot, SlotOrder, BitField, NotShard, WrongSlot, TooDeep, Finished}

-- the sentence of an error
abbrev pub sentence_of : FolderErrorKind → List ℕ
sentence_of Memory = codes "out of memory"
sentence_of (Codec code) = codes "a folder is a DAG-PB block, but the CID has the codec " ++ decimal code
sentence_of (Verify error) = verify.sentence_of error
sentence_of (Node error) = node_sentence error
sentence_of (NotFolder kind) = codes "the node is not a folder"
sentence_of HashFunction = codes "the hash function of the shard is not murmur3-x64-64"
sentence_of Fanout = codes "the shard does not have 256 slots"
sentence_of (InvalidName index) = codes "invalid name of an entry in link " ++ decimal index
sentence_of (NameOrder index) = codes "the name of an entry is repeated or out of order in link " ++ decimal index
sentence_of (InvalidSlot index) = codes "the name does not begin with two upper-case hexadecimal digits in link " ++ decimal index
sentence_of (SlotOrder index) = codes "the slot is repeated or out of order in link " ++ decimal index
sentence_of BitField = codes "the bit field of the shard is not that of its slots"
sentence_of NotShard = codes "a plain folder is below a shard"
sentence_of (WrongSlot index) = codes "the hash of the name leads to another slot than that of link " ++ decimal index
sentence_of TooDeep = codes "the folder has more than eight levels of shards"
sentence_of Finished = codes "no block is wanted"
