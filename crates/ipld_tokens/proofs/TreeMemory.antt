-- Where reading a tree allocates, by its tokens: at what is copied, and inside a list or a map.
use Rattle.std.proofs.Common.{◌≡◌, ◌⊎◌, ℕ, List, [], ◌∷◌, ◌++◌, Option, Some, None, Result, refl, sym, subst, inl, inr}
use Rattle.ipld_cid.specs.Cid.{Link}
use Rattle.ipld_cid.specs.Bytes.{IsCid, read_cid}
use Rattle.ipld_cid.specs.declared.error.CidError.{CidError}
use Rattle.ipld_tree.specs.Tree.{Tree}
use Rattle.ipld_tree.specs.Tree as tree
use Rattle.ipld_tokens.specs.Token as token
use Rattle.ipld_tokens.specs.Token.{TokenModel, atom, bytes, some, seq, seq_end, map, map_end}
use Rattle.ipld_tokens.specs.LinkBytes.{read_link}
use Rattle.ipld_tokens.specs.ItemTree.{tree_of_atom}
use Rattle.ipld_tokens.specs.CutTrees.{IsCopied, IsMark, EndsAllocating}
use Rattle.ipld_tokens.specs.ReadMachine.{Container, in_list, in_key, in_value, ReadState, open_at, wanted, marked, done, rejected, completed, completed_if, after_link, value_step, PutsValue, PutsReceived, PutsLinked, AllocatesAtom, AllocatesValue, Allocates, step, run, start, IsGoing}
use Rattle.ipld_tokens.proofs.TreeStands.{unfinished}
use Rattle.ipld_tokens.proofs.TreeEnds.{step_last}

-- ---- tokens

-- a value is put into what is open
put_goes : (t : Tree) (ls : List Container) → PutsValue ls → IsGoing (completed t ls)
put_goes t [] p = absurd p
put_goes t (in_list us ∷ ls) p = tt
put_goes t (in_key ms ∷ ls) p = absurd p
put_goes t (in_value ms key ∷ ls) p = rw p tt

received_goes : (o : Option Tree) (ls : List Container) → PutsReceived o ls → IsGoing (completed_if o ls)
received_goes None ls p = absurd p
received_goes (Some t) ls p = put_goes t ls p

linked_goes : (o : Option Link) (r : Result Link CidError) (ls : List Container) → PutsLinked o ls → IsGoing (after_link o r ls)
linked_goes None r ls p = absurd p
linked_goes (Some cid) r ls p = put_goes (tree.link cid) ls p

at_atom : (ls : List Container) (a : token.Atom) → AllocatesAtom a ls → IsCopied (atom a) ⊎ (IsGoing (completed_if (tree_of_atom a) ls) × (IsMark (atom a) → ⊥))
at_atom ls (token.text s) p = inl tt
at_atom ls (token.character c) p = inl tt
at_atom ls a p = inr (received_goes (tree_of_atom a) ls p, λ m. m)

at_value : (ls : List Container) (t : TokenModel) → AllocatesValue ls t → IsCopied t ⊎ (IsGoing (value_step ls t) × (IsMark t → ⊥))
at_value ls (atom a) p = at_atom ls a p
at_value ls (bytes b) p = inl tt
at_value ls seq p = inr (tt, λ m. m)
at_value ls map p = inr (tt, λ m. m)
at_value ls t p = absurd p

-- the token is copied where a value has to come, or reading goes on after it
abbrev EndsAt : ReadState → TokenModel → Type 0
EndsAt s t = (IsGoing (step s some) × IsCopied t) ⊎ (IsGoing (step s t) × (IsMark t → ⊥))

as_value : (s : ReadState) (ls : List Container) (t : TokenModel) → IsGoing (step s some) → step s t ≡ value_step ls t → AllocatesValue ls t → EndsAt s t
as_value s ls t g e p = elim (at_value ls t p) [
  | inl c ↦ inl (g, c)
  | inr (h, m) ↦ inr (subst IsGoing (sym e) h, m)
]

at_state : (s : ReadState) (t : TokenModel) → Allocates s t → EndsAt s t
at_state (open_at []) t p = as_value (open_at []) [] t tt refl p
at_state (open_at (in_list us ∷ ls)) seq_end p = inr (put_goes (tree.list us) ls p, λ m. m)
at_state (open_at (in_list us ∷ ls)) t p = as_value (open_at (in_list us ∷ ls)) (in_list us ∷ ls) t tt refl p
at_state (open_at (in_key ms ∷ ls)) (atom (token.text s)) p = inr (tt, λ m. m)
at_state (open_at (in_key ms ∷ ls)) (atom (token.character c)) p = inr (tt, λ m. m)
at_state (open_at (in_key ms ∷ ls)) map_end p = inr (put_goes (tree.entries ms) ls p, λ m. m)
at_state (open_at (in_key ms ∷ ls)) t p = absurd cc
at_state (open_at (in_value ms key ∷ ls)) t p = as_value (open_at (in_value ms key ∷ ls)) (in_value ms key ∷ ls) t tt refl p
at_state (wanted ls) t p = as_value (wanted ls) ls t tt refl p
at_state (marked ls) (bytes b) p = inr (linked_goes (read_link 64 b) (read_cid 64 b) ls p, λ m. m)
at_state (marked ls) t p = absurd p
at_state (done v) t p = absurd p
at_state (rejected f) t p = absurd p

pub allocates : ((b : List ℕ) (cid : Link) → read_link 64 b ≡ Some cid → IsCid 64 b cid) → (ts : List TokenModel) (t : TokenModel) → Allocates (run start ts) t → EndsAllocating (ts ++ t ∷ [])
allocates encoded ts t p = elim (at_state (run start ts) t p) [
  | inl (g, c) ↦ (ts, t, refl, inl (unfinished encoded (ts ++ some ∷ []) (subst IsGoing (sym (step_last ts some)) g), c))
  | inr (g, m) ↦ (ts, t, refl, inr (unfinished encoded (ts ++ t ∷ []) (subst IsGoing (sym (step_last ts t)) g), m))
]
