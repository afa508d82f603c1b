-- The JSON that a text is by the grammar of the toolchain's `json` (RFC 8259).
use Rattle.std.specs.Prelude.{◌≡◌, ◌≤◌, ℕ, List, Some}
use Rattle.ipld_tree.specs.Tree.{Tree}
use Rattle.json.specs.Json.{document, max_depth}
use Rattle.json.specs.Lex as lex
use Rattle.json.specs.Tree.{json_tokens, depth}
use Rattle.dag_json.specs.Form.{json_of}

-- True if, by the grammar of the toolchain's `json`, the text has the tokens of the JSON that
-- represents the tree. If that JSON nests at most 128 levels, the text is also read as that JSON
-- (RFC 8259).
pub record IsJsonOf (t : Tree) (text : List ℕ) : Type 0 where
  pub tokens : lex.tokens text ≡ json_tokens (json_of t)
  pub value : depth (json_of t) ≤ max_depth → document text ≡ Some (json_of t)
