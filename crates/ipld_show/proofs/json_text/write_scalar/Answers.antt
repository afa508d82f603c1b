use Rattle.std.proofs.Common.{refl, sym, subst, rules}
use Rattle.std.proofs.lemmas.Int.{to_z-of_z}
use Rattle.std.specs.Int.{w128}
use Rattle.json.specs.Tree.{json_tokens}
use Rattle.ipld_tree.specs.Tree as tree
use Rattle.dag_json.specs.Form.{json_of, Wrote}
use Rattle.ipld_show.specs.JsonFrames.{IsHeadJson}
use Rattle.ipld_show.specs.TreeLevels.{HasCid}
use Rattle.ipld_show.proofs.Jsons.{null_json}
use Rattle.ipld_show.proofs.json_text.write_scalar.Goals as goal

pub returns-in_ok-null-in-Null : goal.returns-in_ok-null-in-Null
returns-in_ok-null-in-Null c = λ cid. (
  json_of tree.null,
  null_json c.args.head.now c.in-Null.is,
  record { before = c.null.ensures.room.0; tokens = c.in_ok-null-in-Null.ensures.ok },
)

pub returns-in_ok-boolean-in-Bool : goal.returns-in_ok-boolean-in-Bool
returns-in_ok-boolean-in-Bool c = λ cid.
    let j = json_of (tree.boolean c.in-Bool.value) in
    (j, subst (λ h. IsHeadJson h j) (sym c.in-Bool.is) refl, record { before = c.boolean.ensures.room.0; tokens = c.in_ok-boolean-in-Bool.ensures.ok })

pub returns-in_ok-write_integer-in-Integer : goal.returns-in_ok-write_integer-in-Integer
returns-in_ok-write_integer-in-Integer c = λ cid.
    let j = json_of (tree.integer c.in-Integer.number) in (
      j,
      subst (λ h. IsHeadJson h j) (sym c.in-Integer.is) refl,
      subst (λ n. Wrote c.args.writer.now c.write_integer.new.writer (json_tokens (json_of (tree.integer n)))) (to_z-of_z w128 c.in-Integer.number (search rules)) c.in_ok-write_integer-in-Integer.ensures,
    )

pub returns-in_ok-string-in-Str : goal.returns-in_ok-string-in-Str
returns-in_ok-string-in-Str c = λ cid.
    let j = json_of (tree.text c.in-Str.text.now) in
    (j, subst (λ h. IsHeadJson h j) (sym c.in-Str.is) refl, record { before = c.string.ensures.room.0; tokens = c.in_ok-string-in-Str.ensures.ok })

pub returns-in_ok-write_bytes-in-Bytes : goal.returns-in_ok-write_bytes-in-Bytes
returns-in_ok-write_bytes-in-Bytes c = λ cid.
    let j = json_of (tree.bytes c.in-Bytes.bytes.now) in
    (j, subst (λ h. IsHeadJson h j) (sym c.in-Bytes.is) refl, c.in_ok-write_bytes-in-Bytes.ensures)

pub returns-in_ok-write_link_of-in-Link : goal.returns-in_ok-write_link_of-in-Link
returns-in_ok-write_link_of-in-Link c = λ cid.
    let is = subst HasCid c.in-Link.is cid in
    let j = json_of (tree.link is.0) in
    (j, subst (λ h. IsHeadJson h j) (sym c.in-Link.is) (is.0, is.1, refl), c.in_ok-write_link_of-in-Link.ensures is.0 is.1)
