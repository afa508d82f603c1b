use Rattle.std.proofs.Common.{◌≡◌, ℕ, List, Some}
use Rattle.ipld_cid.specs.Cid.{Link}
use Rattle.ipld_tree.specs.Tree.{Tree, null, boolean, integer, text, bytes, list, entries, link}
use Rattle.ipld_tree.specs.Convert.{bytes_in, link_in}
use Rattle.ipld_de.proofs.laws.links_and_bytes_law.Goals as goal

link_read : (t : Tree) (l : Link) → link_in t ≡ Some l → t ≡ link l
link_read null l is = cc
link_read (boolean b) l is = cc
link_read (integer n) l is = cc
link_read (text s) l is = cc
link_read (bytes b) l is = cc
link_read (list ts) l is = cc
link_read (entries ms) l is = cc
link_read (link k) l is = cc

bytes_read : (t : Tree) (b : List ℕ) → bytes_in t ≡ Some b → t ≡ bytes b
bytes_read null b is = cc
bytes_read (boolean a) b is = cc
bytes_read (integer n) b is = cc
bytes_read (text s) b is = cc
bytes_read (bytes c) b is = cc
bytes_read (list ts) b is = cc
bytes_read (entries ms) b is = cc
bytes_read (link l) b is = cc

pub returns-clause-from_a_link : goal.returns-clause-from_a_link
returns-clause-from_a_link c = link_read

pub returns-clause-from_bytes : goal.returns-clause-from_bytes
returns-clause-from_bytes c = bytes_read
