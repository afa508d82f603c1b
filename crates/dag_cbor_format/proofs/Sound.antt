-- What is read to the end is encoded.
use Rattle.std.proofs.Common.{◌≡◌, ℕ, zero, suc, Bool, false, List, [], ◌∷◌, ◌++◌, length, None, sym, ap, subst, ◌∙◌}
use Rattle.std.proofs.lemmas.List.{append-nil}
use Rattle.ipld_tree.specs.Tree.{Tree}
use Rattle.ipld_tokens.specs.Token.{TokenModel}
use Rattle.dag_cbor_format.specs.Encoding.{EncodesTree}
use Rattle.dag_cbor_format.specs.WithFloats.{EncodesIn, EncodesTreeIn}
use Rattle.dag_cbor_format.specs.Reading.{Frame, one, Out, ended, rejected, yields, step_in, Ran, ahead, of_block}
use Rattle.dag_cbor_format.specs.Trace.{tokens_in, Trace, traced, trace, trace_of}
use Rattle.dag_cbor_format.proofs.FloatLaws.{has_encoding, item_encoded}
use Rattle.dag_cbor_format.proofs.OpenFrames.{Completes, Forward, forward}
use Rattle.dag_cbor_format.proofs.ItemHeaderLaws.{CidLaws}
use Rattle.dag_cbor_format.proofs.Running.{weight, ran_of, trace_is, erased_ahead, erased_block}

-- the bytes complete what is open, and these are its tokens
abbrev Left : Bool → List Frame → List ℕ → List TokenModel → Type 0
Left floats = Completes floats (Unit {0})

sound_at : (floats : Bool) (k left : ℕ) (wanted : List TokenModel → Type 0) (o : Out)
    → ((fs : List Frame) (bs : List ℕ) → (trace floats k fs bs).error ≡ None → Left floats fs bs (tokens_in (trace floats k fs bs).events))
    → Forward floats (Unit {0}) wanted o → (traced left (trace floats k) o).error ≡ None → wanted (tokens_in (traced left (trace floats k) o).events)
sound_at floats k left wanted ended more h e = h
sound_at floats k left wanted (rejected x) more h e = absurd (cc e)
sound_at floats k left wanted (yields t fs bs) more h e = h (tokens_in (trace floats k fs bs).events) (more fs bs e)

sound : CidLaws → (floats : Bool) (k : ℕ) (fs : List Frame) (bs : List ℕ) → (trace floats k fs bs).error ≡ None → Left floats fs bs (tokens_in (trace floats k fs bs).events)
sound laws floats zero fs bs e = absurd (cc e)
sound laws floats (suc k) fs bs e =
    sound_at floats k (length bs) (Left floats fs bs) (step_in floats fs bs) (sound laws floats k) (forward floats (Unit {0}) laws fs bs) e

-- what is read to the end completes the frames
pub completes : CidLaws → (fs : List Frame) (bs : List ℕ) → (ahead fs bs).error ≡ None → Completes false (Unit {0}) fs bs (ahead fs bs).tokens
completes laws fs bs e =
    let same = ap ran_of (trace_is false fs bs) ∙ erased_ahead fs bs in
    subst (Left false fs bs) (ap (λ (r : Ran). r.tokens) same) (sound laws false (suc (weight fs bs)) fs bs (ap (λ (r : Ran). r.error) same ∙ e))

-- a block that is read to its end encodes a tree
pub encodes_tree_in : CidLaws → (floats : Bool) (bs : List ℕ) → (trace_of floats bs).error ≡ None → (t : Tree) × EncodesTreeIn floats t bs
encodes_tree_in laws floats bs e =
    let same = trace_is floats (one ∷ []) bs in
    let a = sound laws floats (suc (weight (one ∷ []) bs)) (one ∷ []) bs (ap (λ (r : Trace). r.error) same ∙ e) in
    (a.tree, (a.i, subst (EncodesIn floats a.i) (sym (a.encoded tt ∙ ap (λ xs. a.first ++ xs) (a.after.0 tt) ∙ append-nil a.first)) (a.encodes tt), a.is))

-- without floats
pub encodes_tree : CidLaws → (bs : List ℕ) → (of_block bs).error ≡ None → (t : Tree) × EncodesTree t bs
encodes_tree laws bs e =
    let a = encodes_tree_in laws false bs (ap (λ (r : Ran). r.error) (erased_block bs) ∙ e) in
    (a.0, (a.1.0, (has_encoding false a.1.0 bs a.1.1, item_encoded a.1.0 bs a.1.1), a.1.2))
