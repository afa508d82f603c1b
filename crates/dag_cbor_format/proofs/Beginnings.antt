-- The tokens that a reader yields are the beginning of an item that is a tree, also those of bytes that encode none.
use Rattle.std.proofs.Common.{◌≡◌, ℕ, zero, suc, false, List, [], ◌∷◌, ◌++◌, Some, refl, sym, ap, subst, ◌∙◌, arith}
use Rattle.std.proofs.lemmas.List.{append-nil}
use Rattle.ipld_cid.specs.declared.cid.Version.TheVariants.{V1}
use Rattle.ipld_cid.specs.Cid.{Link}
use Rattle.ipld_cid.specs.Bytes.{IsCid, bytes_of}
use Rattle.ipld_tree.specs.Tree.{Tree}
use Rattle.ipld_tree.specs.Tree as tree
use Rattle.ipld_tokens.specs.Token.{TokenModel, atom, none, seq_end, map_end}
use Rattle.ipld_tokens.specs.Token as token
use Rattle.ipld_tokens.specs.Item.{Item, atom_item, tokens_of}
use Rattle.ipld_tokens.specs.ItemTree.{tree_of_item}
use Rattle.dag_cbor_format.specs.Reading.{Frame, one, many, pairs, value, mark, Out, ended, rejected, yields, step, Ran, outcome, run, of_block}
use Rattle.dag_cbor_format.proofs.OpenFrames.{AfterItem, AfterPairs, Completes, Forward, forward, no_parts_then, no_pairs_then}
use Rattle.dag_cbor_format.proofs.ItemHeaderLaws.{CidLaws}
use Rattle.dag_cbor_format.proofs.Running.{ahead_is, weight}

-- ---- each can be completed

null_then : (rest : List ℕ → List TokenModel → Type 0) (bs : List ℕ) (ts : List TokenModel) → rest bs ts → AfterItem false ⊥ rest bs (atom none ∷ ts)
null_then rest bs ts after = record {
  i = atom_item none;
  tree = tree.null;
  first = [];
  bytes = bs;
  tokens = ts;
  is = refl;
  tokens_are = refl;
  encodes = λ x. absurd x;
  encoded = λ x. absurd x;
  after = after;
}

-- an empty digest of the hash with number zero
abbrev some_cid : Link
some_cid = record { version = V1; codec = 0; code = 0; digest = [] }

some_cid_encoded : CidLaws → IsCid 64 (bytes_of some_cid) some_cid
some_cid_encoded laws = laws.encodes some_cid (omega arith, (omega arith, omega arith, λ i. omega arith), tt)

completed : CidLaws → (fs : List Frame) (bs : List ℕ) → (ts : List TokenModel) × Completes false ⊥ fs bs ts
completed laws [] bs = ([], (λ x. absurd x, refl))
completed laws (one ∷ fs) bs = let c = completed laws fs bs in (atom none ∷ c.0, null_then (Completes false ⊥ fs) bs c.0 c.1)
completed laws (many n ∷ fs) bs = let c = completed laws fs bs in (seq_end ∷ c.0, no_parts_then false ⊥ n (Completes false ⊥ fs) bs c.0 (λ x. absurd x) c.1)
completed laws (pairs n seen ∷ fs) bs = let c = completed laws fs bs in (map_end ∷ c.0, no_pairs_then false ⊥ n seen (Completes false ⊥ fs) bs c.0 (λ x. absurd x) c.1)
completed laws (value n seen ∷ fs) bs =
    let c = completed laws fs bs in
    (atom none ∷ map_end ∷ c.0, null_then (AfterPairs false ⊥ n seen (Completes false ⊥ fs)) bs (map_end ∷ c.0) (no_pairs_then false ⊥ n seen (Completes false ⊥ fs) bs c.0 (λ x. absurd x) c.1))
completed laws (mark ∷ fs) bs =
    let c = completed laws fs bs in (
      token.bytes (bytes_of some_cid) ∷ c.0,
      record {
        b = bytes_of some_cid;
        cid = some_cid;
        bytes = bs;
        tokens = c.0;
        is = some_cid_encoded laws;
        tokens_are = refl;
        fits = λ x. absurd x;
        encoded = λ x. absurd x;
        after = c.1;
      },
    )

-- ---- runs

-- the first tokens of a run, and then some that complete what is open
abbrev Goes : List Frame → List ℕ → List TokenModel → Type 0
Goes fs bs taken = (more : List TokenModel) × Completes false ⊥ fs bs (taken ++ more)

abbrev EachGoes : List Frame → List ℕ → Ran → Type 0
EachGoes fs bs ran = (taken rest : List TokenModel) → ran.tokens ≡ taken ++ rest → Goes fs bs taken

no_more : CidLaws → (fs : List Frame) (bs : List ℕ) (taken rest : List TokenModel) → [] ≡ taken ++ rest → Goes fs bs taken
no_more laws fs bs [] rest e = completed laws fs bs
no_more laws fs bs (t ∷ taken) rest e = absurd (cc e)

after_one : CidLaws → (fs next : List Frame) (bs left : List ℕ) (t : TokenModel) (ran : Ran) → ((ts : List TokenModel) → Completes false ⊥ next left ts → Completes false ⊥ fs bs (t ∷ ts)) → EachGoes next left ran
    → (taken rest : List TokenModel) → t ∷ ran.tokens ≡ taken ++ rest → Goes fs bs taken
after_one laws fs next bs left t ran f more [] rest e = completed laws fs bs
after_one laws fs next bs left t ran f more (u ∷ taken) rest e =
    let same : t ≡ u = cc e in
    let tail : ran.tokens ≡ taken ++ rest = cc e in
    let g = more taken rest tail in
    (g.0, subst (λ x. Completes false ⊥ fs bs (x ∷ (taken ++ g.0))) same (f (taken ++ g.0) g.1))

outcome_goes : CidLaws → (k : ℕ) (fs : List Frame) (bs : List ℕ) (o : Out) → Forward false ⊥ (Completes false ⊥ fs bs) o → ((next : List Frame) (left : List ℕ) → EachGoes next left (run k next left)) → EachGoes fs bs (outcome (run k) o)
outcome_goes laws k fs bs ended f more = no_more laws fs bs
outcome_goes laws k fs bs (rejected x) f more = no_more laws fs bs
outcome_goes laws k fs bs (yields t next left) f more = after_one laws fs next bs left t (run k next left) f (more next left)

run_goes : CidLaws → (k : ℕ) (fs : List Frame) (bs : List ℕ) → EachGoes fs bs (run k fs bs)
run_goes laws zero fs bs = no_more laws fs bs
run_goes laws (suc k) fs bs = outcome_goes laws k fs bs (step fs bs) (forward false ⊥ laws fs bs) (run_goes laws k)

-- the first tokens of a block are the first of an item that is a tree
pub begins_tree : CidLaws → (bs : List ℕ) (taken rest : List TokenModel) → (of_block bs).tokens ≡ taken ++ rest
    → (i : Item 64) × (t : Tree) × (more : List TokenModel) × (tokens_of i ≡ taken ++ more) × (tree_of_item i ≡ Some t)
begins_tree laws bs taken rest e =
    let same = ap (λ (r : Ran). r.tokens) (ahead_is (one ∷ []) bs) in
    let g = run_goes laws (suc (weight (one ∷ []) bs)) (one ∷ []) bs taken rest (same ∙ e) in
    let a = g.1 in
    (a.i, a.tree, g.0, sym (a.tokens_are ∙ ap (λ xs. tokens_of a.i ++ xs) a.after.1 ∙ append-nil (tokens_of a.i)), a.is)
