-- The text of a tree is read as the JSON that stands for it.
use Rattle.ipld_tree.specs.Tree.{Tree, null, boolean, integer, text, bytes, list, entries, link, Items, no_items, item, Members, no_members, member}
use Rattle.ipld_tree.specs.IsWhole.{IsWhole, AreWhole, AreWholeEntries}
use Rattle.json.specs.Tree.{json_tokens, HasNumbers, ItemsHaveNumbers, MembersHaveNumbers}
use Rattle.json.proofs.Printed.Tokens.{tokens-print}
use Rattle.json.proofs.Printed.Trees.{ArePrintable-json_tokens, document-print}
use Rattle.dag_json.specs.Form.{json_of, items_json, members_json, text_of}
use Rattle.dag_json.specs.Read.{IsJsonOf}
use Rattle.dag_json.proofs.Integers.{is_number}

mutual
  numbers : (t : Tree) → IsWhole t → HasNumbers (json_of t)
  numbers null h = tt
  numbers (boolean b) h = tt
  numbers (integer n) h = is_number n h
  numbers (text s) h = tt
  numbers (bytes b) h = ((tt, tt), tt)
  numbers (list ts) h = item_numbers ts h
  numbers (entries ms) h = member_numbers ms h.1
  numbers (link cid) h = (tt, tt)

  item_numbers : (ts : Items) → AreWhole ts → ItemsHaveNumbers (items_json ts)
  item_numbers no_items h = tt
  item_numbers (item t ts) h = (numbers t h.0, item_numbers ts h.1)

  member_numbers : (ms : Members) → AreWholeEntries ms → MembersHaveNumbers (members_json ms)
  member_numbers no_members h = tt
  member_numbers (member k t ms) h = (numbers t h.0, member_numbers ms h.1)

-- the text is the JSON of its tree
pub is_json : (t : Tree) → IsWhole t → IsJsonOf t (text_of t)
unfolding text_of
is_json t h = record {
  tokens = tokens-print (json_tokens (json_of t)) (ArePrintable-json_tokens (json_of t) (numbers t h));
  value = λ shallow. document-print (json_of t) (numbers t h) shallow;
}
