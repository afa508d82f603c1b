-- The laws of DAG-JSON as a codec.
use Rattle.std.proofs.Common.{◌≡◌, ◌≤◌, ◌<◌, ℕ, Bool, true, false, List, length, length-append, Option, Some, None, option_map, option_and_then, Result, Ok, Err, refl, sym, ap, subst, ◌∙◌, arith}
use Rattle.std.specs.Prelude.{if◌then◌else◌}
use Rattle.std.specs.Result.{result_ok}
use Rattle.std.specs.Str.{is_utf8}
use Rattle.std.proofs.lemmas.Str.{is_utf8-from_IsUtf8, IsUtf8-from_is_utf8}
use Rattle.ipld_cid.specs.Cid.{Link}
use Rattle.ipld_codec.specs.CodecLaws.{EncodedOnce, DecodesEncoded, WritesEncoded}
use Rattle.ipld_codec.specs.TreeCodec.{SameTrees, LinksWhereDecoded, LinksOfTree}
use Rattle.ipld_tree.specs.LinkTimes.{times}
use Rattle.ipld_tree.specs.Lemmas.EqualLaws.{tree_decides}
use Rattle.ipld_tree.specs.Tree.{Tree}
use Rattle.ipld_tree.specs.TreeOf.{tree_of}
use Rattle.ipld_tree.specs.Walk.{links_of}
use Rattle.json.specs.Json as json
use Rattle.json.specs.Lex.{tokens}
use Rattle.json.specs.Tree.{json_tokens, items_tokens, members_tokens, depth, items_depth, members_depth}
use Rattle.dag_json.specs.Encodes.{EncodesTree, EncodesTreeIn, EncodesWithinIn, count, items_count, members_count}
use Rattle.dag_json.specs.ReadMachine.{read_tokens, run, start}
use Rattle.dag_json.specs.Written.{written}
use Rattle.dag_json.specs.declared.read_error.ReadErrorKind.{ReadErrorKind}
use Rattle.dag_json.specs.Lemmas.Reading.{encoded_once, ok_done, whole_read}
use Rattle.dag_json.specs.Lemmas.Standing.{found}
use Rattle.dag_json.specs.Codec.{no_limits, decoded, decoded_in, links_found, is_decoded, if_decoded, codec_text}

-- ---- JSON has no more levels and values than tokens

mutual
  pub depth_tokens : (j : json.Json) → depth j < length (json_tokens j)
  depth_tokens json.null = omega arith
  depth_tokens (json.boolean b) = omega arith
  depth_tokens (json.number s) = omega arith
  depth_tokens (json.string s) = omega arith
  depth_tokens (json.array js) = let more = items_depth_tokens js in omega arith
  depth_tokens (json.object os) = let more = members_depth_tokens os in omega arith

  items_depth_tokens : (js : json.Items) → items_depth js < length (items_tokens js)
  items_depth_tokens json.no_items = omega arith
  items_depth_tokens (json.item j js) =
      let first = depth_tokens j in let more = items_depth_tokens js in let all = length-append (json_tokens j) (items_tokens js) in omega arith

  members_depth_tokens : (os : json.Members) → members_depth os < length (members_tokens os)
  members_depth_tokens json.no_members = omega arith
  members_depth_tokens (json.member k j os) =
      let first = depth_tokens j in let more = members_depth_tokens os in let all = length-append (json_tokens j) (members_tokens os) in omega arith

mutual
  count_tokens : (j : json.Json) → count j ≤ length (json_tokens j)
  count_tokens json.null = omega arith
  count_tokens (json.boolean b) = omega arith
  count_tokens (json.number s) = omega arith
  count_tokens (json.string s) = omega arith
  count_tokens (json.array js) = let more = items_count_tokens js in omega arith
  count_tokens (json.object os) = let more = members_count_tokens os in omega arith

  pub items_count_tokens : (js : json.Items) → items_count js < length (items_tokens js)
  items_count_tokens json.no_items = omega arith
  items_count_tokens (json.item j js) =
      let first = count_tokens j in let more = items_count_tokens js in let all = length-append (json_tokens j) (items_tokens js) in omega arith

  pub members_count_tokens : (os : json.Members) → members_count os < length (members_tokens os)
  members_count_tokens json.no_members = omega arith
  members_count_tokens (json.member k j os) =
      let first = count_tokens j in let more = members_count_tokens os in let all = length-append (json_tokens j) (members_tokens os) in omega arith

-- A text that encodes a tree does so within `no_limits`.
within_tokens : (floats : Bool) (t : Tree) (s : List ℕ) → EncodesTreeIn floats t s → EncodesWithinIn floats (no_limits s) t s
within_tokens floats t s e =
    let long = ap length e.is_json in
    let levels = depth_tokens e.json in
    let values = count_tokens e.json in
    record { tree = e; within = record { levels = omega arith; values = omega arith } }

-- ---- the tree that a block decodes to

from_ok : (r : Result Tree ReadErrorKind) (t : Tree) → result_ok r ≡ Some t → r ≡ Ok t
from_ok (Ok u) t e = ap Ok cc
from_ok (Err x) t e = absurd cc

decoded_by : (floats b : Bool) (t : Tree) (s : List ℕ) → is_utf8 s ≡ b → (if b then result_ok (read_tokens floats (no_limits s) (tokens s)) else None) ≡ Some t → EncodesTreeIn floats t s
decoded_by floats false t s utf8 e = absurd cc
decoded_by floats true t s utf8 e =
    let read = from_ok (read_tokens floats (no_limits s) (tokens s)) t e in
    let f = found floats (no_limits s) (tokens s) t (ok_done (run floats (no_limits s) start (tokens s)) t read) in
    record { utf8 = IsUtf8-from_is_utf8 s utf8; json = f.0; is_json = f.1; encodes = f.2 }

pub decoded_encodes : (floats : Bool) (t : Tree) (s : List ℕ) → decoded_in floats s ≡ Some t → EncodesTreeIn floats t s
unfolding decoded_in
decoded_encodes floats t s e = decoded_by floats (is_utf8 s) t s refl e

pub encoded_decodes : (floats : Bool) (t : Tree) (s : List ℕ) → EncodesTreeIn floats t s → decoded_in floats s ≡ Some t
unfolding decoded_in
encoded_decodes floats t s e =
    ap (λ b. if b then result_ok (read_tokens floats (no_limits s) (tokens s)) else None) (is_utf8-from_IsUtf8 s e.utf8) ∙ ap result_ok (whole_read floats (no_limits s) t s (within_tokens floats t s e))

pub json_encoded_once : EncodedOnce EncodesTree
json_encoded_once t u s e f = encoded_once t u s e f

pub json_decodes_encoded : DecodesEncoded EncodesTree decoded
json_decodes_encoded t s = (decoded_encodes false t s, encoded_decodes false t s)

-- ---- the text that is written

decoded_is : (t : Tree) (s : List ℕ) (o : Option Tree) → decoded s ≡ o → is_decoded t o ≡ true → EncodesTree t s
decoded_is t s None e is = absurd cc
decoded_is t s (Some u) e is = decoded_encodes false t s (e ∙ ap Some ((tree_decides u t).0 is))

if_is : (b : Bool) (x s : List ℕ) → (if b then Some x else None) ≡ Some s → (b ≡ true) × (x ≡ s)
if_is true x s e = (refl, cc)
if_is false x s e = absurd cc

text_encodes : (o : Option (List ℕ)) (t : Tree) (s : List ℕ) → option_and_then (if_decoded t) o ≡ Some s → EncodesTree t s
text_encodes None t s e = absurd cc
text_encodes (Some x) t s e =
    let parts = if_is (is_decoded t (decoded x)) x s e in
    subst (EncodesTree t) parts.1 (decoded_is t x (decoded x) refl parts.0)

pub json_writes_encoded : WritesEncoded EncodesTree codec_text
unfolding codec_text
json_writes_encoded t s e = text_encodes (written t) t s e

-- ---- trees and links

pub json_same_trees : SameTrees tree_of
json_same_trees v w = (λ e. e, λ e. e)

none_both : (o : Option Tree) → option_map links_of o ≡ None → o ≡ None
none_both None e = refl
none_both (Some t) e = absurd cc

pub json_links_where_decoded : LinksWhereDecoded decoded links_found
json_links_where_decoded s = (λ e. ap (option_map links_of) e, none_both (decoded s))

pub json_links_of_tree : LinksOfTree tree_of decoded links_found
json_links_of_tree v s links e f cid =
    let same : ◌≡◌ {A = Option (List Link)} (Some (links_of (tree_of v))) (Some links) = sym (ap (option_map links_of) e) ∙ f in
    let is : links_of (tree_of v) ≡ links = cc in
    ap (times cid) (sym is)
