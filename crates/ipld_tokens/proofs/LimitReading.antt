-- Reading a tree within limits, by the machine: one token.
use Rattle.std.proofs.Common.{◌≡◌, ℕ, suc, ◌<◌, Bool, true, false, List, [], ◌∷◌, length, Option, Some, None, Result, Ok, Err, refl, sym, ap, subst, ◌∙◌, arith}
use Rattle.std.specs.Prelude.{if◌then◌else◌, ◌≤◌}
use Rattle.std.proofs.lemmas.Bool.{lt-ltb, le-ltb}
use Rattle.ipld_cid.specs.declared.error.CidError.{CidError}
use Rattle.ipld_cid.specs.Cid.{Link}
use Rattle.ipld_cid.specs.Bytes.{read_cid}
use Rattle.ipld_tree.specs.Tree.{Tree, Items, Members}
use Rattle.ipld_tree.specs.Tree as tree
use Rattle.ipld_tree.specs.declared.ipld.Ipld.{Ipld}
use Rattle.ipld_tree.specs.declared.limits.Limits.{Limits}
use Rattle.ipld_tokens.specs.LinkBytes.{read_link}
use Rattle.ipld_tokens.specs.Token.{TokenModel, atom, bytes, some, variant, link, seq, seq_end, map, map_end}
use Rattle.ipld_tokens.specs.ItemTree.{tree_of_atom, has_key}
use Rattle.ipld_tokens.specs.ReadMachine as reading
use Rattle.ipld_tokens.specs.ReadMachine.{ReadState, open_at, wanted, marked, done, rejected, in_list, in_key, in_value, if_new, completed, completed_if, atom_key, after_key, value_step, list_step, key_step, open_step, after_link, link_step, step, IsGoing}
use Rattle.ipld_tokens.specs.Excess as limit
use Rattle.ipld_tokens.specs.Excess.{Position, after, token_excess, excess_of_value, excess_of_container, too_deep}
use Rattle.ipld_tokens.specs.ConsumerMachine.{Takes}
use Rattle.ipld_tokens.specs.OpenTree.{inside, state_from}
use Rattle.ipld_tokens.specs.ReaderSteps.{Rejects}
use Rattle.ipld_tokens.specs.ReaderState.{expecting, levels_of, state_of}
use Rattle.ipld_tokens.specs.LimitMachine.{kinds, position, begun, unless_beyond, within, limit_step, unless_exceeded, Counts, GoesOn, RejectsWithin}
use Rattle.ipld_tokens.specs.declared.consumer.Rejection.{Rejection}
use Rattle.ipld_tokens.specs.declared.open_tree.Container.{Container}
use Rattle.ipld_tokens.specs.declared.open_tree.Container.TheVariants as container
use Rattle.ipld_tokens.specs.declared.tree_reader.Expected.{Expected}
use Rattle.ipld_tokens.specs.declared.tree_reader.Expected.TheVariants.{Any, Value, LinkBytes}
use Rattle.ipld_tokens.specs.declared.tree_reader.TreeReader.{TreeReader}
use Rattle.ipld_tokens.specs.declared.limited_reader.Excess.{Excess}

pub kinds_length : (ls : List reading.Container) → length (kinds ls) ≡ length ls
kinds_length [] = refl
kinds_length (l ∷ ls) = ap suc (kinds_length ls)

pub container_within : (limits : Limits) (ls : List reading.Container) (d n : ℕ) → d ≡ length ls → d < limits.levels → excess_of_value limits n ≡ excess_of_container limits (kinds ls) n
container_within limits ls d n e h = sym (ap (λ b. if b then excess_of_value limits n else Some too_deep) (lt-ltb (length (kinds ls)) limits.levels (let k = kinds_length ls in omega (arith, k, e, h))))

pub container_beyond : (limits : Limits) (ls : List reading.Container) (d n : ℕ) → d ≡ length ls → limits.levels ≤ d → Some too_deep ≡ excess_of_container limits (kinds ls) n
container_beyond limits ls d n e h = sym (ap (λ b. if b then excess_of_value limits n else Some too_deep) (le-ltb (length (kinds ls)) limits.levels (let k = kinds_length ls in omega (arith, k, e, h))))

-- ---- where a token leads

abbrev pub IsAlive : ReadState → Type 0
IsAlive (rejected f) = ⊥
IsAlive s = Unit {0}

alive_in : (x : Expected) (c : Container) (tree : Option Ipld) (ls more : List reading.Container) → IsAlive (expecting x (state_from c tree ls) more)
alive_in Any container.Root tree ls more = tt
alive_in Any (container.List v) tree ls more = tt
alive_in Any (container.Map m) tree ls more = tt
alive_in Any container.Closed None ls more = tt
alive_in Any container.Closed (Some v) ls more = tt
alive_in Value c tree ls more = tt
alive_in LinkBytes c tree ls more = tt

pub alive : (r : TreeReader) → IsAlive (state_of r)
alive r = alive_in r.expected r.tree.innermost r.tree.tree (inside r.tree.outer.items []) (levels_of r)

same_if : (b : Bool) (s : ReadState) (n : ℕ) (p : Position) → IsAlive (if_new b s) → position s n ≡ p → position (if_new b s) n ≡ p
same_if true s n p h e = absurd h
same_if false s n p h e = e

same_completed : (v : Tree) (ls : List reading.Container) (n : ℕ) → IsAlive (completed v ls) → position (completed v ls) n ≡ limit.open_at (limit.completed (kinds ls)) n
same_completed v [] n h = refl
same_completed v (in_list ts ∷ ls) n h = refl
same_completed v (in_key ms ∷ ls) n h = absurd h
same_completed v (in_value ms key ∷ ls) n h = same_if (has_key key ms) _ n _ h refl

same_received : (o : Option Tree) (ls : List reading.Container) (n : ℕ) → IsAlive (completed_if o ls) → position (completed_if o ls) n ≡ limit.open_at (limit.completed (kinds ls)) n
same_received None ls n h = absurd h
same_received (Some v) ls n h = same_completed v ls n h

same_value : (ls : List reading.Container) (n : ℕ) (t : TokenModel) → IsAlive (value_step ls t)
    → position (value_step ls t) (begun (limit.after_value (kinds ls) n t)) ≡ limit.after_value (kinds ls) n t
same_value ls n (atom a) h = same_received (tree_of_atom a) ls (suc n) h
same_value ls n (bytes b) h = same_completed (tree.bytes b) ls (suc n) h
same_value ls n some h = refl
same_value ls n (variant name) h = absurd h
same_value ls n link h = refl
same_value ls n seq h = refl
same_value ls n seq_end h = absurd h
same_value ls n map h = refl
same_value ls n map_end h = absurd h

same_in_list : (ts : Items) (ls : List reading.Container) (n : ℕ) (t : TokenModel) → IsAlive (list_step ts ls t)
    → position (list_step ts ls t) (begun (limit.after_value (limit.in_list ∷ kinds ls) n t)) ≡ limit.after_value (limit.in_list ∷ kinds ls) n t
same_in_list ts ls n seq_end h = same_completed (tree.list ts) ls n h
same_in_list ts ls n t h = same_value (in_list ts ∷ ls) n t h

same_after_key : (o : Option (List ℕ)) (ms : Members) (ls : List reading.Container) (n : ℕ) → IsAlive (after_key o ms ls)
    → position (after_key o ms ls) n ≡ limit.open_at (limit.in_value ∷ kinds ls) n
same_after_key None ms ls n h = absurd h
same_after_key (Some key) ms ls n h = refl

same_key : (ms : Members) (ls : List reading.Container) (n : ℕ) (t : TokenModel) → IsAlive (key_step ms ls t)
    → position (key_step ms ls t) (begun (limit.after_key (kinds ls) n t)) ≡ limit.after_key (kinds ls) n t
same_key ms ls n map_end h = same_completed (tree.entries ms) ls n h
same_key ms ls n t h = same_after_key (atom_key t) ms ls n h

same_open : (ls : List reading.Container) (n : ℕ) (t : TokenModel) → IsAlive (open_step ls t)
    → position (open_step ls t) (begun (limit.after_open (kinds ls) n t)) ≡ limit.after_open (kinds ls) n t
same_open [] n t h = same_value [] n t h
same_open (in_list ts ∷ ls) n t h = same_in_list ts ls n t h
same_open (in_key ms ∷ ls) n t h = same_key ms ls n t h
same_open (in_value ms key ∷ ls) n t h = same_value (in_value ms key ∷ ls) n t h

same_after_link : (o : Option Link) (r : Result Link CidError) (ls : List reading.Container) (n : ℕ) → IsAlive (after_link o r ls)
    → position (after_link o r ls) n ≡ limit.open_at (limit.completed (kinds ls)) n
same_after_link (Some cid) r ls n h = same_completed (tree.link cid) ls n h
same_after_link None (Err cid_error) ls n h = absurd h
same_after_link None (Ok cid) ls n h = absurd h

same_link : (ls : List reading.Container) (n : ℕ) (t : TokenModel) → IsAlive (link_step ls t) → position (link_step ls t) n ≡ limit.open_at (limit.completed (kinds ls)) n
same_link ls n (bytes b) h = same_after_link (read_link 64 b) (read_cid 64 b) ls n h
same_link ls n t h = absurd h

-- a token opens and begins what the machine that reads says
same_position : (s : ReadState) (n : ℕ) (t : TokenModel) → IsGoing s → IsAlive (step s t) → position (step s t) (begun (after (position s n) t)) ≡ after (position s n) t
same_position (open_at ls) n t g h = same_open ls n t h
same_position (wanted ls) n t g h = same_value ls n t h
same_position (marked ls) n t g h = same_link ls n t h
same_position (done v) n t g h = absurd g
same_position (rejected f) n t g h = absurd g

next_is : (limits : Limits) (s : ReadState) (p q : Position) (t : TokenModel) (next : ReadState) → IsGoing s → token_excess limits p t ≡ None → next ≡ step s t → q ≡ after p t
    → within limits next q ≡ limit_step (within limits s p) t
next_is limits (open_at ls) p q t next g e h k = ap (λ s. within limits s q) h ∙ ap (within limits (step (open_at ls) t)) k ∙ sym (ap (λ o. unless_beyond o (within limits (step (open_at ls) t) (after p t))) e)
next_is limits (wanted ls) p q t next g e h k = ap (λ s. within limits s q) h ∙ ap (within limits (step (wanted ls) t)) k ∙ sym (ap (λ o. unless_beyond o (within limits (step (wanted ls) t) (after p t))) e)
next_is limits (marked ls) p q t next g e h k = ap (λ s. within limits s q) h ∙ ap (within limits (step (marked ls) t)) k ∙ sym (ap (λ o. unless_beyond o (within limits (step (marked ls) t) (after p t))) e)
next_is limits (done v) p q t next g e h k = absurd g
next_is limits (rejected f) p q t next g e h k = absurd g

takes_one : {A : Type 0} (limits : Limits) (s : ReadState) (n m : ℕ) (t : TokenModel) (next : ReadState) (r : Result A Rejection) → IsGoing s → IsAlive next
    → token_excess limits (position s n) t ≡ None → m ≡ begun (after (position s n) t) → Takes step Rejects s t next r
    → Takes limit_step RejectsWithin (within limits s (position s n)) t (within limits next (position next m)) r
takes_one limits s n m t next (Ok x) g a e c h =
    next_is limits s (position s n) (position next m) t next g e h
    (ap (λ u. position u m) h ∙ ap (position (step s t)) c ∙ same_position s n t g (subst IsAlive h a))
takes_one limits s n m t next (Err x) g a e c h = (h, e)

pub takes : {A B : Type 0} (limits others : Limits) (o u : Option Excess) (s : ReadState) (n m : ℕ) (t : TokenModel) (next : ReadState) (r : Result A Rejection) (x : B)
    → GoesOn (unless_exceeded limits o s n) → others ≡ limits → u ≡ o → IsAlive next → Counts limits (position s n) t m (Ok x) → Takes step Rejects s t next r
    → Takes limit_step RejectsWithin (unless_exceeded limits o s n) t (unless_exceeded others u next m) r
takes limits others None u s n m t next r x g same none a c h =
    subst (λ l. Takes limit_step RejectsWithin (within limits s (position s n)) t (unless_exceeded l u next m) r) (sym same)
    (subst (λ o. Takes limit_step RejectsWithin (within limits s (position s n)) t (unless_exceeded limits o next m) r) (sym none)
    (takes_one limits s n m t next r g a c.0 c.1 h))
takes limits others (Some e) u s n m t next r x g same none a c h = absurd g
