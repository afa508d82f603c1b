-- Blocks of DAG-JSON as blocks of DAG-CBOR.
use Rattle.std.proofs.Common.{◌≡◌, ℕ, true, List, None, Err, sym, subst}
use Rattle.ipld_tokens.specs.Item.{Item}
use Rattle.ipld_tree.specs.Tree.{Tree}
use Rattle.ipld_tree.specs.declared.limits.Limits.{Limits}
use Rattle.dag_cbor_blocks.specs.declared.tape.TapeEntry.{TapeEntry}
use Rattle.dag_cbor_format.specs.Trace.{error_in}
use Rattle.dag_cbor_tape.specs.Canonical.{Orders}
use Rattle.dag_cbor_tape.specs.Describes.{Describes}
use Rattle.dag_json.specs.Codec.{limits_of, IsBlockError}
use Rattle.dag_json.specs.Encodes.{EncodesWithinIn}
use Rattle.dag_json.specs.Offset.{SaysWhere}
use Rattle.dag_json.specs.ReadContract.{ReadsBytes}
use Rattle.dag_json.specs.Tape.{IsTape}
use Rattle.dag_json.specs.declared.read_error.ReadError.{ReadError}
use Rattle.dag_json.specs.declared.read_error.ReadErrorKind.TheVariants as json
use Rattle.ipld_block.specs.Blocks.{IsInvalid, MadeOfJson}
use Rattle.ipld_block.specs.declared.codec.BlockCodec.TheVariants.{DagJson}
use Rattle.ipld_block.specs.declared.error.CheckError.{CheckError}
use Rattle.ipld_block.specs.declared.error.CheckError.TheVariants.{Memory, Invalid}
use Rattle.ipld_show.specs.Blocks.{StandsForJson, IsNoBlock, IsShown}
use Rattle.ipld_show.specs.declared.error.ShowError.{ShowError}

block_error : (limits : Limits) (s : List ℕ) (e : ReadError) → limits ≡ limits_of s → (e.kind ≡ json.Memory → ⊥) → ReadsBytes true limits s (Err e) → SaysWhere true limits s e → IsBlockError true s e
block_error limits s e are other exact stopped =
    subst (λ (l : Limits). (e.kind ≡ json.Memory → ⊥) × ReadsBytes true l s (Err e) × SaysWhere true l s e) are (other, exact, stopped)

-- what is said of bytes that are no DAG-JSON
pub no_json : (limits : Limits) (s : List ℕ) (e : ReadError) (checked : CheckError) (made : ShowError) → limits ≡ limits_of s → ReadsBytes true limits s (Err e) → SaysWhere true limits s e
    → MadeOfJson e checked → IsShown checked made → IsNoBlock DagJson s made
no_json limits s e Memory made are exact stopped m is = subst (IsNoBlock DagJson s) (sym is) tt
no_json limits s e (Invalid why) made are exact stopped m is =
    subst (IsNoBlock DagJson s) (sym is) (subst (IsInvalid DagJson s) (sym m.0) (block_error limits s e are m.1 exact stopped))

-- the block of the tape of a text stands for it
pub stands : (limits : Limits) (s over block : List ℕ) (es : List TapeEntry) → (t : Tree) × EncodesWithinIn true limits t s × IsTape over t es
    → (item : Item 64) × (written : List ℕ) × Describes over item es written × Orders item written block → error_in true block ≡ None → StandsForJson s block
stands limits s over block es read made none = record {
  tree = read.0;
  encodes = read.1.tree;
  contents = over;
  entries = es;
  tape = read.2;
  item = made.0;
  in_turn = made.1;
  describes = made.2;
  orders = made.3;
  is_block = none;
}
