-- A block is within its own length, so that reading it comes to its tree or to an error in it.
use Rattle.std.proofs.Common.{◌≡◌, ◌≤◌, ◌<◌, ◌⊎◌, inl, inr, ℕ, suc, Bool, List, length, Option, Some, None, option_map, Err, refl, ap, arith}
use Rattle.std.proofs.Math.Nat.{le-max_left, le-max_right}
use Rattle.ipld_tree.specs.Tree.{Tree}
use Rattle.ipld_tree.specs.Walk.{links_of}
use Rattle.ipld_tree.specs.declared.limits.Limits.{Limits}
use Rattle.json.specs.Json as json
use Rattle.json.specs.Tree.{json_tokens}
use Rattle.dag_json.specs.Codec.{decoded_in, links_in, limits_of, IsBlockError}
use Rattle.dag_json.specs.Encodes.{EncodesTreeIn, EncodesWithinIn, count}
use Rattle.dag_json.specs.ReadContract.{ReadsBytes}
use Rattle.dag_json.specs.Lemmas.CodecLaws.{depth_tokens, items_count_tokens, members_count_tokens, decoded_encodes}
use Rattle.dag_json.specs.Lemmas.Reading.{only_read}
use Rattle.dag_json.specs.declared.read_error.ReadError.{ReadError}
use Rattle.dag_json.specs.declared.read_error.ReadErrorKind.TheVariants as error
use Rattle.dag_json.proofs.Lengths.{length_tokens}

few_values : (j : json.Json) → (count j ≡ 1) ⊎ (count j < length (json_tokens j))
few_values json.null = inl refl
few_values (json.boolean b) = inl refl
few_values (json.number s) = inl refl
few_values (json.string s) = inl refl
few_values (json.array js) = inr (let more = items_count_tokens js in omega arith)
few_values (json.object os) = inr (let more = members_count_tokens os in omega arith)

values_within : (c n k : ℕ) → (c ≡ 1) ⊎ (c < n) → 1 ≤ k → n ≤ suc k → c ≤ k
values_within c n k (inl one) some long = omega arith
values_within c n k (inr few) some long = omega arith

within_length : (floats : Bool) (limits : Limits) (t : Tree) (s : List ℕ) → length s ≤ limits.levels → length s ≤ limits.values → 1 ≤ limits.values → EncodesTreeIn floats t s
    → EncodesWithinIn floats limits t s
within_length floats limits t s deep many some e =
    let long = length_tokens s in
    let same = ap length e.is_json in
    let levels = depth_tokens e.json in
    record {
      tree = e;
      within = record { levels = omega arith; values = values_within (count e.json) (length (json_tokens e.json)) limits.values (few_values e.json) some (omega arith) };
    }

-- bytes whose reading fails by no allocation encode no tree
only_memory : (floats : Bool) (limits : Limits) (s : List ℕ) (e : ReadError) → ReadsBytes floats limits s (Err e) → (t : Tree) → EncodesWithinIn floats limits t s → e.kind ≡ error.Memory
only_memory floats limits s e (inl reads) t within = only_read floats limits s (Err e) reads.1 t within
only_memory floats limits s e (inr other) t within = absurd (other.0 within.tree.utf8)

none_where : (floats : Bool) (s : List ℕ) (o : Option Tree) → decoded_in floats s ≡ o → ((t : Tree) → EncodesTreeIn floats t s → ⊥) → decoded_in floats s ≡ None
none_where floats s None e h = e
none_where floats s (Some t) e h = absurd (h t (decoded_encodes floats t s e))

-- a block with an error decodes to nothing
pub none_decoded : (floats : Bool) (s : List ℕ) (e : ReadError) → IsBlockError floats s e → decoded_in floats s ≡ None
none_decoded floats s e h =
    none_where floats s (decoded_in floats s) refl
    (λ t encodes. h.0 (only_memory floats (limits_of s) s e h.1 t (within_length floats (limits_of s) t s (omega arith) (le-max_left (length s) 1) (le-max_right (length s) 1) encodes)))

-- and has no links
pub no_links_found : (floats : Bool) (s : List ℕ) (e : ReadError) → IsBlockError floats s e → links_in floats s ≡ None
no_links_found floats s e h = ap (option_map links_of) (none_decoded floats s e h)
