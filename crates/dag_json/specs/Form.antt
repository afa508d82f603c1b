-- DAG-JSON (IPLD's DAG-JSON specification): the JSON that represents a tree, and its text in the
-- strict form.
use Rattle.std.specs.Prelude.{◌≡◌, ℕ, List, ◌++◌, codes}
use Rattle.std.specs.Fmt.{signed_decimal}
use Rattle.base64.specs.GeneralPurpose.{encode_of}
use Rattle.base64.specs.Engines.{standard_no_pad}
use Rattle.ipld_tree.specs.Tree.{Tree, null, boolean, integer, text, bytes, list, entries, link, Items, no_items, item, Members, no_members, member}
use Rattle.json.specs.Json as json
use Rattle.json.specs.Print.{print}
use Rattle.json.specs.Token.{Token}
use Rattle.json.specs.Tree.{json_tokens}
use Rattle.json.specs.Written.{Written}
use Rattle.ipld_cid_text.specs.UsualText.{usual_text}

-- the object that has only this member
abbrev pub only : List ℕ → json.Json → json.Json
only name value = json.object (json.member name value json.no_members)

abbrev mutual
  -- The JSON that represents a tree. A link is an object of the one key `/` with the CID's text.
  -- Bytes are an object of the one key `/`, whose value is an object of the one key `bytes` with
  -- their base64 without padding. An integer is a number in decimal digits. All other values are
  -- themselves (IPLD DAG-JSON; RFC 4648, section 4).
  pub json_of : Tree → json.Json
  json_of null = json.null
  json_of (boolean b) = json.boolean b
  json_of (integer n) = json.number (signed_decimal n)
  json_of (text s) = json.string s
  json_of (bytes b) = only (codes "/") (only (codes "bytes") (json.string (encode_of standard_no_pad b)))
  json_of (list ts) = json.array (items_json ts)
  json_of (entries ms) = json.object (members_json ms)
  json_of (link cid) = only (codes "/") (json.string (usual_text cid))

  pub items_json : Items → json.Items
  items_json no_items = json.no_items
  items_json (item t ts) = json.item (json_of t) (items_json ts)

  -- the members of an object, in the order of the map, which is by the bytes of the keys
  pub members_json : Members → json.Members
  members_json no_members = json.no_members
  members_json (member k t ms) = json.member k (json_of t) (members_json ms)

-- The text of the JSON of a tree, without whitespace. It is the output of `print` of the
-- toolchain's `json`. In a string only quotes, backslashes and the characters below U+0020 are
-- escaped, by a letter if there is one (RFC 8259, section 7).
unfoldable pub text_of : Tree → List ℕ
text_of t = print (json_tokens (json_of t))

-- True if the writer has appended exactly these tokens.
pub record Wrote (old new : Written) (written : List Token) : Type 0 where
  pub before : new.before ≡ old.before
  pub tokens : new.tokens ≡ old.tokens ++ written
