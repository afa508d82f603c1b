-- Where the machine allocates, in the words of items: at a link that is in no key, and where a list or a map begins.
use Rattle.std.proofs.Common.{◌≡◌, ◌⊎◌, ℕ, Bool, true, false, List, [], ◌∷◌, ◌++◌, Option, Some, None, IsSome, refl, sym, ap, subst, inl, inr, ◌∙◌, append_assoc}
use Rattle.std.proofs.lemmas.List.{append-nil}
use Rattle.ipld_cid.specs.Cid.{Link}
use Rattle.ipld_tokens.specs.Token.{TokenModel, atom, bytes, some, variant, link, seq, seq_end, map, map_end}
use Rattle.ipld_tokens.specs.Item.{parts_tokens, pairs_tokens, tokens_of}
use Rattle.ipld_tokens.specs.Fronts.{IsOpen}
use Rattle.ipld_tokens.specs.LinkBytes.{read_link}
use Rattle.ipld_tokens.specs.LinkPositions.{Outside, whole, inside_option, inside_variant, inside_list, inside_map, tokens_before, EndsInLink, EndsAllocating, EndsTooLarge}
use Rattle.ipld_tokens.specs.ExtractMachine.{ExtractState, open_at, marked, done, rejected, key_frame, closed, list_ended, map_ended, unless_must, item_step, link_read, step, run, start, IsGoing, AddsLink, Allocates}
use Rattle.ipld_tokens.specs.declared.extractor.Frame.{Frame}
use Rattle.ipld_tokens.specs.declared.extractor.Frame.TheVariants.{Whole, Key, InnerKey, Value}
use Rattle.ipld_tokens.specs.declared.extractor.Frame.TheVariants as frame
use Rattle.ipld_tokens.proofs.Runs.{run_append}
use Rattle.ipld_tokens.proofs.Stands.{Wrap, an_option, a_variant, wraps, Ready, Hole, Stands, stands}
use Rattle.ipld_tokens.proofs.Verdicts.{LinkLaws, going_is_open}

-- ---- links are kept where no key is open

abbrev Keeping : Bool → Frame → List Frame → Type 0
Keeping keeps Whole fs = keeps ≡ true
Keeping keeps frame.List [] = ⊥
Keeping keeps frame.List (f ∷ fs) = Keeping keeps f fs
Keeping keeps Key [] = ⊥
Keeping keeps Key (f ∷ fs) = (keeps ≡ false) × Keeping true f fs
Keeping keeps InnerKey [] = ⊥
Keeping keeps InnerKey (f ∷ fs) = (keeps ≡ false) × Keeping false f fs
Keeping keeps Value [] = ⊥
Keeping keeps Value (f ∷ fs) = Keeping keeps f fs

abbrev IsKeeping : ExtractState → Type 0
IsKeeping (open_at must keeps f fs out) = Keeping keeps f fs
IsKeeping (marked keeps f fs out) = Keeping keeps f fs
IsKeeping (done out) = Unit {0}
IsKeeping rejected = Unit {0}

key_keeping : (keeps : Bool) (f : Frame) (fs : List Frame) → Keeping keeps f fs → Keeping false (key_frame keeps) (f ∷ fs)
key_keeping true f fs h = (refl, h)
key_keeping false f fs h = (refl, h)

closed_keeping : (keeps : Bool) (f : Frame) (fs : List Frame) (out : List Link) → Keeping keeps f fs → IsKeeping (closed keeps f fs out)
closed_keeping keeps Whole fs out h = tt
closed_keeping keeps frame.List fs out h = h
closed_keeping keeps Key [] out h = absurd h
closed_keeping keeps Key (f ∷ fs) out h = h.1
closed_keeping keeps InnerKey [] out h = absurd h
closed_keeping keeps InnerKey (f ∷ fs) out h = h.1
closed_keeping keeps Value [] out h = absurd h
closed_keeping keeps Value (f ∷ fs) out h = key_keeping keeps f fs h

list_keeping : (keeps : Bool) (f : Frame) (fs : List Frame) (out : List Link) → Keeping keeps f fs → IsKeeping (list_ended keeps f fs out)
list_keeping keeps Whole fs out h = tt
list_keeping keeps frame.List [] out h = tt
list_keeping keeps frame.List (f ∷ fs) out h = closed_keeping keeps f fs out h
list_keeping keeps Key fs out h = tt
list_keeping keeps InnerKey fs out h = tt
list_keeping keeps Value fs out h = tt

map_keeping : (keeps : Bool) (f : Frame) (fs : List Frame) (out : List Link) → Keeping keeps f fs → IsKeeping (map_ended keeps f fs out)
map_keeping keeps Whole fs out h = tt
map_keeping keeps frame.List fs out h = tt
map_keeping keeps Key [] out h = tt
map_keeping keeps Key (f ∷ fs) out h = closed_keeping true f fs out h.1
map_keeping keeps InnerKey [] out h = tt
map_keeping keeps InnerKey (f ∷ fs) out h = closed_keeping false f fs out h.1
map_keeping keeps Value fs out h = tt

unless_keeping : (must : Bool) (s : ExtractState) → IsKeeping s → IsKeeping (unless_must must s)
unless_keeping true s h = tt
unless_keeping false s h = h

item_keeping : (must keeps : Bool) (f : Frame) (fs : List Frame) (out : List Link) (t : TokenModel) → Keeping keeps f fs
    → IsKeeping (item_step must keeps f fs out t)
item_keeping must keeps f fs out (atom a) h = closed_keeping keeps f fs out h
item_keeping must keeps f fs out (bytes b) h = closed_keeping keeps f fs out h
item_keeping must keeps f fs out some h = h
item_keeping must keeps f fs out (variant name) h = h
item_keeping must keeps f fs out link h = h
item_keeping must keeps f fs out seq h = h
item_keeping must keeps f fs out seq_end h = unless_keeping must (list_ended keeps f fs out) (list_keeping keeps f fs out h)
item_keeping must keeps f fs out map h = key_keeping keeps f fs h
item_keeping must keeps f fs out map_end h = unless_keeping must (map_ended keeps f fs out) (map_keeping keeps f fs out h)

link_keeping : (o : Option Link) (keeps : Bool) (f : Frame) (fs : List Frame) (out : List Link) → Keeping keeps f fs → IsKeeping (link_read o keeps f fs out)
link_keeping None keeps f fs out h = tt
link_keeping (Some cid) keeps f fs out h = closed_keeping keeps f fs _ h

step_keeping : (S : ℕ) (s : ExtractState) (t : TokenModel) → IsKeeping s → IsKeeping (step S s t)
step_keeping S (open_at must keeps f fs out) t h = item_keeping must keeps f fs out t h
step_keeping S (marked keeps f fs out) (bytes b) h = link_keeping (read_link S b) keeps f fs out h
step_keeping S (marked keeps f fs out) t h = tt
step_keeping S (done out) t h = tt
step_keeping S rejected t h = tt

run_keeping : (S : ℕ) (s : ExtractState) (p : List TokenModel) → IsKeeping s → IsKeeping (run S s p)
run_keeping S s [] h = h
run_keeping S s (t ∷ p) h = run_keeping S (step S s t) p (step_keeping S s t h)

-- ---- what is open outside of keys

abbrev wrapped : {S : ℕ} → Outside S → List Wrap → Outside S
wrapped o [] = o
wrapped o (an_option ∷ ws) = wrapped (inside_option o) ws
wrapped o (a_variant name ∷ ws) = wrapped (inside_variant o name) ws

wrapped_before : {S : ℕ} (o : Outside S) (ws : List Wrap) → tokens_before (wrapped o ws) ≡ tokens_before o ++ wraps ws
wrapped_before o [] = sym (append-nil (tokens_before o))
wrapped_before o (an_option ∷ ws) = wrapped_before (inside_option o) ws ∙ append_assoc (tokens_before o) (some ∷ []) (wraps ws)
wrapped_before o (a_variant name ∷ ws) = wrapped_before (inside_variant o name) ws ∙ append_assoc (tokens_before o) (variant name ∷ []) (wraps ws)

-- what follows the options and variants
behind : {S : ℕ} (o : Outside S) (ws : List Wrap) (ts outer more : List TokenModel) → ts ≡ outer ++ (wraps ws ++ more) → outer ≡ tokens_before o
    → ts ≡ tokens_before (wrapped o ws) ++ more
behind o ws ts outer more e h =
    e ∙ ap (λ xs. xs ++ (wraps ws ++ more)) h ∙ sym (append_assoc (tokens_before o) (wraps ws) more)
    ∙ ap (λ xs. xs ++ more) (sym (wrapped_before o ws))

outside : (S : ℕ) (f : Frame) (fs : List Frame) (ts : List TokenModel) → Ready S f fs ts → Keeping true f fs → (o : Outside S) × (ts ≡ tokens_before o)
outside S Whole fs ts r k = (whole, r)
outside S frame.List [] ts r k = absurd r
outside S frame.List (f ∷ fs) ts (outer, ws, is, r, e) k =
    let o = outside S f fs outer r k in
    (inside_list (wrapped o.0 ws) is, behind o.0 ws ts outer (seq ∷ parts_tokens is) e o.1)
outside S Key [] ts r k = absurd r
outside S Key (f ∷ fs) ts r k = let no : true ≡ false = k.0 in absurd cc
outside S InnerKey [] ts r k = absurd r
outside S InnerKey (f ∷ fs) ts r k = let no : true ≡ false = k.0 in absurd cc
outside S Value [] ts r k = absurd r
outside S Value (f ∷ fs) ts (outer, ws, ps, key, r, e) k =
    let o = outside S f fs outer r k in
    (inside_map (wrapped o.0 ws) ps key, behind o.0 ws ts outer (map ∷ (pairs_tokens ps ++ tokens_of key)) e o.1)

outside_hole : (S : ℕ) (f : Frame) (fs : List Frame) (ts : List TokenModel) → Hole S f fs ts → Keeping true f fs → (o : Outside S) × (ts ≡ tokens_before o)
outside_hole S f fs ts (outer, ws, r, e) k =
    let o = outside S f fs outer r k in
    (wrapped o.0 ws, e ∙ ap (λ xs. xs ++ wraps ws) o.1 ∙ sym (wrapped_before o.0 ws))

-- ---- where memory is allocated

some_of : {A : Type 0} (o : Option A) → IsSome o → (x : A) × (o ≡ Some x)
some_of None e = absurd cc
some_of (Some x) e = (x, refl)

module _ (S : ℕ) (laws : LinkLaws S) where
  link_found : (front p : List TokenModel) (b : List ℕ) (o : Outside S) → p ≡ front ++ link ∷ [] → front ≡ tokens_before o → IsSome (read_link S b)
      → EndsInLink S (p ++ bytes b ∷ [])
  link_found front p b o e h is =
      let cid = some_of (read_link S b) is in (
        o,
        b,
        cid.0,
        laws.encoded b cid.0 cid.1,
        ap (λ xs. xs ++ bytes b ∷ []) e ∙ append_assoc front (link ∷ []) (bytes b ∷ []) ∙ ap (λ xs. xs ++ link ∷ bytes b ∷ []) h,
      )

  added : (keeps : Bool) (f : Frame) (fs : List Frame) (front p : List TokenModel) (b : List ℕ) → p ≡ front ++ link ∷ [] → Hole S f fs front → Keeping keeps f fs
      → IsOpen S p → AddsLink S keeps b → EndsAllocating S (p ++ bytes b ∷ []) ⊎ EndsTooLarge S (p ++ bytes b ∷ [])
  added keeps f fs front p b e hole k is_open adds =
      elim adds [
        | inl (kept, is) ↦
            let o = outside_hole S f fs front hole (subst (λ x. Keeping x f fs) kept k) in
            inl (inl (link_found front p b o.0 e o.1 is))
        | inr large ↦
            inr (
              large,
              front,
              b,
              subst (IsOpen S) e is_open,
              ap (λ xs. xs ++ bytes b ∷ []) e ∙ append_assoc front (link ∷ []) (bytes b ∷ []),
            )
      ]

  -- a list or a map begins
  begun : (s : ExtractState) (p : List TokenModel) (t : TokenModel) → run S start p ≡ s → IsGoing (step S s t) → IsOpen S (p ++ t ∷ [])
  begun s p t e g = going_is_open S laws (p ++ t ∷ []) (subst IsGoing (sym (run_append S start p (t ∷ []) ∙ ap (λ x. step S x t) e)) g)

  at_state : (s : ExtractState) (p : List TokenModel) (t : TokenModel) → run S start p ≡ s → Stands S s p → IsKeeping s → Allocates S s t
      → EndsAllocating S (p ++ t ∷ []) ⊎ EndsTooLarge S (p ++ t ∷ [])
  at_state (open_at must keeps f fs out) p seq e h k a = inl (inr (begun (open_at must keeps f fs out) p seq e tt, p, inl refl))
  at_state (open_at must keeps f fs out) p map e h k a = inl (inr (begun (open_at must keeps f fs out) p map e tt, p, inr refl))
  at_state (open_at must keeps f fs out) p t e h k a = absurd a
  at_state (marked keeps f fs out) p (bytes b) e (front, hole, x) k a =
      added keeps f fs front p b x hole k (going_is_open S laws p (subst IsGoing (sym e) tt)) a
  at_state (marked keeps f fs out) p t e h k a = absurd a
  at_state (done out) p t e h k a = absurd a
  at_state rejected p t e h k a = absurd a

  pub allocates : (p : List TokenModel) (t : TokenModel) → Allocates S (run S start p) t → EndsAllocating S (p ++ t ∷ []) ⊎ EndsTooLarge S (p ++ t ∷ [])
  allocates p t a = at_state (run S start p) p t refl (stands S laws.encoded p) (run_keeping S start p refl) a
