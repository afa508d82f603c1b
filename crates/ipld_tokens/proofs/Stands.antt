-- What the tokens that led to a state are: an item, or the beginning of one.
use Rattle.std.proofs.Common.{◌≡◌, ℕ, Bool, true, false, List, [], ◌∷◌, ◌++◌, Option, Some, None, refl, sym, ap, subst, ◌∙◌, append_assoc, lit<}
use Rattle.std.proofs.lemmas.List.{append-nil}
use Rattle.std.proofs.Common.{zero-le}
use Rattle.ipld_cid.specs.declared.cid.Version.TheVariants.{V1}
use Rattle.ipld_cid.specs.Cid.{Link, IsValid}
use Rattle.ipld_cid.specs.Bytes.{IsCid, bytes_of}
use Rattle.ipld_tokens.specs.Token.{TokenModel, none, atom, bytes, some, variant, link, seq, seq_end, map, map_end}
use Rattle.ipld_tokens.specs.Item.{Item, atom_item, bytes_item, some_item, variant_item, list_item, map_item, link_item, Parts, no_parts, part, Pairs, no_pairs, pair, tokens_of, parts_tokens, pairs_tokens}
use Rattle.ipld_tokens.specs.Fronts.{IsItem, IsOpen}
use Rattle.ipld_tokens.specs.LinkBytes.{read_link}
use Rattle.ipld_tokens.specs.ExtractMachine.{ExtractState, open_at, marked, done, rejected, kept, key_frame, closed, list_ended, map_ended, unless_must, item_step, link_read, step, run, start, IsGoing}
use Rattle.ipld_tokens.specs.declared.extractor.Frame.{Frame}
use Rattle.ipld_tokens.specs.declared.extractor.Frame.TheVariants.{Whole, Key, InnerKey, Value}
use Rattle.ipld_tokens.specs.declared.extractor.Frame.TheVariants as frame

-- ---- lists and maps with one more at their end

abbrev pub parts_push : {S : ℕ} → Parts S → Item S → Parts S
parts_push no_parts j = part j no_parts
parts_push (part i is) j = part i (parts_push is j)

abbrev pub pairs_push : {S : ℕ} → Pairs S → Item S → Item S → Pairs S
pairs_push no_pairs k v = pair k v no_pairs
pairs_push (pair i j ps) k v = pair i j (pairs_push ps k v)

pub parts_pushed : {S : ℕ} (is : Parts S) (j : Item S) → parts_tokens (parts_push is j) ≡ parts_tokens is ++ tokens_of j
parts_pushed no_parts j = append-nil (tokens_of j)
parts_pushed (part i is) j = ap (λ ts. tokens_of i ++ ts) (parts_pushed is j) ∙ sym (append_assoc (tokens_of i) (parts_tokens is) (tokens_of j))

pub pairs_pushed : {S : ℕ} (ps : Pairs S) (k v : Item S) → pairs_tokens (pairs_push ps k v) ≡ pairs_tokens ps ++ (tokens_of k ++ tokens_of v)
pairs_pushed no_pairs k v = ap (λ ts. tokens_of k ++ ts) (append-nil (tokens_of v))
pairs_pushed (pair i j ps) k v =
    ap (λ ts. tokens_of i ++ (tokens_of j ++ ts)) (pairs_pushed ps k v) ∙ simp append_assoc

-- ---- what waits for one item: options and variants

pub data Wrap : Type 0 where
  an_option : Wrap
  a_variant : List ℕ → Wrap

abbrev pub wrap_token : Wrap → TokenModel
wrap_token an_option = some
wrap_token (a_variant name) = variant name

abbrev pub wraps : List Wrap → List TokenModel
wraps [] = []
wraps (w ∷ ws) = wrap_token w ∷ wraps ws

abbrev wrap_item : {S : ℕ} → Wrap → Item S → Item S
wrap_item an_option i = some_item i
wrap_item (a_variant name) i = variant_item name i

abbrev wrapped : {S : ℕ} → List Wrap → Item S → Item S
wrapped [] i = i
wrapped (w ∷ ws) i = wrap_item w (wrapped ws i)

wrap_tokens : {S : ℕ} (w : Wrap) (i : Item S) → tokens_of (wrap_item w i) ≡ wrap_token w ∷ tokens_of i
wrap_tokens an_option i = refl
wrap_tokens (a_variant name) i = refl

wrapped_tokens : {S : ℕ} (ws : List Wrap) (i : Item S) → tokens_of (wrapped ws i) ≡ wraps ws ++ tokens_of i
wrapped_tokens [] i = refl
wrapped_tokens (w ∷ ws) i = wrap_tokens w (wrapped ws i) ∙ ap (λ ts. wrap_token w ∷ ts) (wrapped_tokens ws i)

wraps_push : (ws : List Wrap) (w : Wrap) → wraps (ws ++ w ∷ []) ≡ wraps ws ++ wrap_token w ∷ []
wraps_push [] w = refl
wraps_push (v ∷ ws) w = ap (λ ts. wrap_token v ∷ ts) (wraps_push ws w)

-- ---- what stands open

-- an item may come in the frame
abbrev pub Ready : ℕ → Frame → List Frame → List TokenModel → Type 0
Ready S Whole fs ts = ts ≡ []
Ready S frame.List [] ts = ⊥
Ready S frame.List (f ∷ fs) ts = (outer : List TokenModel) × (ws : List Wrap) × (is : Parts S) × Ready S f fs outer × (ts ≡ outer ++ (wraps ws ++ seq ∷ parts_tokens is))
Ready S Key [] ts = ⊥
Ready S Key (f ∷ fs) ts = (outer : List TokenModel) × (ws : List Wrap) × (ps : Pairs S) × Ready S f fs outer × (ts ≡ outer ++ (wraps ws ++ map ∷ pairs_tokens ps))
Ready S InnerKey [] ts = ⊥
Ready S InnerKey (f ∷ fs) ts = (outer : List TokenModel) × (ws : List Wrap) × (ps : Pairs S) × Ready S f fs outer × (ts ≡ outer ++ (wraps ws ++ map ∷ pairs_tokens ps))
Ready S Value [] ts = ⊥
Ready S Value (f ∷ fs) ts = (outer : List TokenModel) × (ws : List Wrap) × (ps : Pairs S) × (k : Item S) × Ready S f fs outer × (ts ≡ outer ++ (wraps ws ++ map ∷ (pairs_tokens ps ++ tokens_of k)))

-- an item may come in the frame, behind options and variants
abbrev pub Hole : ℕ → Frame → List Frame → List TokenModel → Type 0
Hole S f fs ts = (outer : List TokenModel) × (ws : List Wrap) × Ready S f fs outer × (ts ≡ outer ++ wraps ws)

abbrev pub Stands : ℕ → ExtractState → List TokenModel → Type 0
Stands S (open_at true keeps f fs out) ts = Hole S f fs ts
Stands S (open_at false keeps f fs out) ts = Ready S f fs ts
Stands S (marked keeps f fs out) ts = (front : List TokenModel) × Hole S f fs front × (ts ≡ front ++ link ∷ [])
Stands S (done out) ts = IsItem S ts
Stands S rejected ts = Unit {0}

stands_at : (S : ℕ) (s : ExtractState) (ts us : List TokenModel) → ts ≡ us → Stands S s ts → Stands S s us
stands_at S s ts us e h = subst (λ x. Stands S s x) e h

hole_of : (S : ℕ) (f : Frame) (fs : List Frame) (ts : List TokenModel) → Ready S f fs ts → Hole S f fs ts
hole_of S f fs ts r = (ts, [], r, sym (append-nil ts))

ready_key : (S : ℕ) (keeps : Bool) (f : Frame) (fs : List Frame) (ts : List TokenModel) → Ready S Key (f ∷ fs) ts → Ready S (key_frame keeps) (f ∷ fs) ts
ready_key S true f fs ts r = r
ready_key S false f fs ts r = r

key_case : (S : ℕ) (keeps : Bool) (out : List Link) (f : Frame) (fs : List Frame) (ts : List TokenModel)
    → Ready S (key_frame keeps) (f ∷ fs) ts → Stands S (open_at false false (key_frame keeps) (f ∷ fs) out) ts
key_case S keeps out f fs ts r = r

-- an item is complete
take_ready : (S : ℕ) (keeps : Bool) (f : Frame) (fs : List Frame) (out : List Link) (ts : List TokenModel) → Ready S f fs ts → (j : Item S)
    → Stands S (closed keeps f fs out) (ts ++ tokens_of j)
take_ready S keeps Whole fs out ts r j = (j, ap (λ x. x ++ tokens_of j) (sym r))
take_ready S keeps frame.List [] out ts r j = absurd r
take_ready S keeps frame.List (f ∷ fs) out ts (outer, ws, is, r, e) j =
    (outer, ws, parts_push is j, r, rw (e, parts_pushed is j) (simp append_assoc))
take_ready S keeps Key [] out ts r j = absurd r
take_ready S keeps Key (f ∷ fs) out ts (outer, ws, ps, r, e) j = (outer, ws, ps, j, r, rw e (simp append_assoc))
take_ready S keeps InnerKey [] out ts r j = absurd r
take_ready S keeps InnerKey (f ∷ fs) out ts (outer, ws, ps, r, e) j = (outer, ws, ps, j, r, rw e (simp append_assoc))
take_ready S keeps Value [] out ts r j = absurd r
take_ready S keeps Value (f ∷ fs) out ts (outer, ws, ps, k, r, e) j =
    ready_key S keeps f fs (ts ++ tokens_of j) (outer, ws, pairs_push ps k j, r, rw (e, pairs_pushed ps k j) (simp append_assoc))

take_hole : (S : ℕ) (keeps : Bool) (f : Frame) (fs : List Frame) (out : List Link) (ts : List TokenModel) → Hole S f fs ts → (j : Item S)
    → Stands S (closed keeps f fs out) (ts ++ tokens_of j)
take_hole S keeps f fs out ts (outer, ws, r, e) j =
    stands_at S (closed keeps f fs out) (outer ++ tokens_of (wrapped ws j)) (ts ++ tokens_of j)
    (rw (e, wrapped_tokens ws j) (simp append_assoc))
    (take_ready S keeps f fs out outer r (wrapped ws j))

hole_push : (S : ℕ) (f : Frame) (fs : List Frame) (ts : List TokenModel) (w : Wrap) → Hole S f fs ts → Hole S f fs (ts ++ wrap_token w ∷ [])
hole_push S f fs ts w (outer, ws, r, e) = (outer, ws ++ w ∷ [], r, rw (e, wraps_push ws w) (simp append_assoc))

-- ---- ends

list_end : (S : ℕ) (keeps : Bool) (f : Frame) (fs : List Frame) (out : List Link) (ts : List TokenModel) → Ready S f fs ts
    → Stands S (list_ended keeps f fs out) (ts ++ seq_end ∷ [])
list_end S keeps Whole fs out ts r = tt
list_end S keeps frame.List [] out ts r = tt
list_end S keeps frame.List (f ∷ fs) out ts (outer, ws, is, r, e) =
    stands_at S (closed keeps f fs out) (outer ++ tokens_of (wrapped ws (list_item is))) (ts ++ seq_end ∷ [])
    (rw (e, wrapped_tokens ws (list_item is)) (simp append_assoc))
    (take_ready S keeps f fs out outer r (wrapped ws (list_item is)))
list_end S keeps Key fs out ts r = tt
list_end S keeps InnerKey fs out ts r = tt
list_end S keeps Value fs out ts r = tt

map_close : (S : ℕ) (keeps : Bool) (f : Frame) (fs : List Frame) (out : List Link) (ts outer : List TokenModel) (ws : List Wrap) (ps : Pairs S)
    → Ready S f fs outer → ts ≡ outer ++ (wraps ws ++ map ∷ pairs_tokens ps) → Stands S (closed keeps f fs out) (ts ++ map_end ∷ [])
map_close S keeps f fs out ts outer ws ps r e =
    stands_at S (closed keeps f fs out) (outer ++ tokens_of (wrapped ws (map_item ps))) (ts ++ map_end ∷ [])
    (rw (e, wrapped_tokens ws (map_item ps)) (simp append_assoc))
    (take_ready S keeps f fs out outer r (wrapped ws (map_item ps)))

map_ends : (S : ℕ) (keeps : Bool) (f : Frame) (fs : List Frame) (out : List Link) (ts : List TokenModel) → Ready S f fs ts
    → Stands S (map_ended keeps f fs out) (ts ++ map_end ∷ [])
map_ends S keeps Whole fs out ts r = tt
map_ends S keeps frame.List fs out ts r = tt
map_ends S keeps Key [] out ts r = tt
map_ends S keeps Key (f ∷ fs) out ts (outer, ws, ps, r, e) = map_close S true f fs out ts outer ws ps r e
map_ends S keeps InnerKey [] out ts r = tt
map_ends S keeps InnerKey (f ∷ fs) out ts (outer, ws, ps, r, e) = map_close S false f fs out ts outer ws ps r e
map_ends S keeps Value fs out ts r = tt

-- an end, which may come unless an item must
end_allowed : (S : ℕ) (must : Bool) (P : Type 0) (s : ExtractState) (ts : List TokenModel) → (P → Stands S s ts) → (must ≡ false → P) → Stands S (unless_must must s) ts
end_allowed S true P s ts h r = tt
end_allowed S false P s ts h r = h (r refl)

opened_list : (S : ℕ) (f : Frame) (fs : List Frame) (ts : List TokenModel) → Hole S f fs ts → Ready S frame.List (f ∷ fs) (ts ++ seq ∷ [])
opened_list S f fs ts (outer, ws, r, e) = (outer, ws, no_parts, r, rw e (simp append_assoc))

opened_map : (S : ℕ) (f : Frame) (fs : List Frame) (ts : List TokenModel) → Hole S f fs ts → Ready S Key (f ∷ fs) (ts ++ map ∷ [])
opened_map S f fs ts (outer, ws, r, e) = (outer, ws, no_pairs, r, rw e (simp append_assoc))

stands_item : (S : ℕ) (must keeps : Bool) (f : Frame) (fs : List Frame) (out : List Link) (ts : List TokenModel) (t : TokenModel)
    → Hole S f fs ts → (must ≡ false → Ready S f fs ts) → Stands S (item_step must keeps f fs out t) (ts ++ t ∷ [])
stands_item S must keeps f fs out ts (atom a) h r = take_hole S keeps f fs out ts h (atom_item a)
stands_item S must keeps f fs out ts (bytes b) h r = take_hole S keeps f fs out ts h (bytes_item b)
stands_item S must keeps f fs out ts some h r = hole_push S f fs ts an_option h
stands_item S must keeps f fs out ts (variant name) h r = hole_push S f fs ts (a_variant name) h
stands_item S must keeps f fs out ts link h r = (ts, h, refl)
stands_item S must keeps f fs out ts seq h r = opened_list S f fs ts h
stands_item S must keeps f fs out ts seq_end h r =
    end_allowed S must (Ready S f fs ts) (list_ended keeps f fs out) (ts ++ seq_end ∷ []) (list_end S keeps f fs out ts) r
stands_item S must keeps f fs out ts map h r = key_case S keeps out f fs (ts ++ map ∷ []) (ready_key S keeps f fs (ts ++ map ∷ []) (opened_map S f fs ts h))
stands_item S must keeps f fs out ts map_end h r =
    end_allowed S must (Ready S f fs ts) (map_ended keeps f fs out) (ts ++ map_end ∷ []) (map_ends S keeps f fs out ts) r

module _ (S : ℕ) (encoded : (b : List ℕ) (cid : Link) → read_link S b ≡ Some cid → IsCid S b cid) where
  stands_link : (keeps : Bool) (f : Frame) (fs : List Frame) (out : List Link) (ts : List TokenModel) (b : List ℕ) (o : Option Link) → read_link S b ≡ o
      → Hole S f fs ts → Stands S (link_read o keeps f fs out) (ts ++ link ∷ bytes b ∷ [])
  stands_link keeps f fs out ts b None e h = tt
  stands_link keeps f fs out ts b (Some cid) e h = take_hole S keeps f fs (out ++ kept keeps (cid ∷ [])) ts h (link_item b cid (encoded b cid e))

  stands_marked : (keeps : Bool) (f : Frame) (fs : List Frame) (out : List Link) (ts : List TokenModel) (b : List ℕ)
      → Stands S (marked keeps f fs out) ts → Stands S (link_read (read_link S b) keeps f fs out) (ts ++ bytes b ∷ [])
  stands_marked keeps f fs out ts b (front, h, e) =
      stands_at S (link_read (read_link S b) keeps f fs out) (front ++ link ∷ bytes b ∷ []) (ts ++ bytes b ∷ [])
      (rw e (simp append_assoc))
      (stands_link keeps f fs out front b (read_link S b) refl h)

  pub stands_step : (s : ExtractState) (ts : List TokenModel) (t : TokenModel) → Stands S s ts → Stands S (step S s t) (ts ++ t ∷ [])
  stands_step (open_at true keeps f fs out) ts t h = stands_item S true keeps f fs out ts t h (λ e. absurd cc)
  stands_step (open_at false keeps f fs out) ts t r = stands_item S false keeps f fs out ts t (hole_of S f fs ts r) (λ e. r)
  stands_step (marked keeps f fs out) ts (bytes b) h = stands_marked keeps f fs out ts b h
  stands_step (marked keeps f fs out) ts t h = tt
  stands_step (done out) ts t h = tt
  stands_step rejected ts t h = tt

  stands_run : (s : ExtractState) (p q : List TokenModel) → Stands S s p → Stands S (run S s q) (p ++ q)
  stands_run s p [] h = stands_at S s p (p ++ []) (sym (append-nil p)) h
  stands_run s p (t ∷ q) h =
      stands_at S (run S (step S s t) q) ((p ++ t ∷ []) ++ q) (p ++ t ∷ q) (simp append_assoc)
      (stands_run (step S s t) (p ++ t ∷ []) q (stands_step s p t h))

  pub stands : (ts : List TokenModel) → Stands S (run S start ts) ts
  stands ts = stands_run start [] ts ([], [], refl, refl)

-- ---- completions

completes : (S : ℕ) (f : Frame) (fs : List Frame) (ts : List TokenModel) → Ready S f fs ts
    → (back : List TokenModel) × ((j : Item S) → IsItem S (ts ++ (tokens_of j ++ back)))
completes S Whole fs ts r = ([], λ j. (j, rw r (sym (append-nil (tokens_of j)))))
completes S frame.List [] ts r = absurd r
completes S frame.List (f ∷ fs) ts (outer, ws, is, r, e) =
    let c = completes S f fs outer r in (
      seq_end ∷ c.0,
      λ j.
          let d = c.1 (wrapped ws (list_item (parts_push is j))) in
          (d.0, d.1 ∙ rw (e, wrapped_tokens ws (list_item (parts_push is j)), parts_pushed is j) (simp append_assoc)),
    )
completes S Key [] ts r = absurd r
completes S Key (f ∷ fs) ts (outer, ws, ps, r, e) =
    let c = completes S f fs outer r in (
      atom none ∷ map_end ∷ c.0,
      λ j.
          let d = c.1 (wrapped ws (map_item (pairs_push ps j (atom_item none)))) in
          (d.0, d.1 ∙ rw (e, wrapped_tokens ws (map_item (pairs_push ps j (atom_item none))), pairs_pushed ps j (atom_item none)) (simp append_assoc)),
    )
completes S InnerKey [] ts r = absurd r
completes S InnerKey (f ∷ fs) ts (outer, ws, ps, r, e) =
    let c = completes S f fs outer r in (
      atom none ∷ map_end ∷ c.0,
      λ j.
          let d = c.1 (wrapped ws (map_item (pairs_push ps j (atom_item none)))) in
          (d.0, d.1 ∙ rw (e, wrapped_tokens ws (map_item (pairs_push ps j (atom_item none))), pairs_pushed ps j (atom_item none)) (simp append_assoc)),
    )
completes S Value [] ts r = absurd r
completes S Value (f ∷ fs) ts (outer, ws, ps, k, r, e) =
    let c = completes S f fs outer r in (
      map_end ∷ c.0,
      λ j.
          let d = c.1 (wrapped ws (map_item (pairs_push ps k j))) in
          (d.0, d.1 ∙ rw (e, wrapped_tokens ws (map_item (pairs_push ps k j)), pairs_pushed ps k j) (simp append_assoc)),
    )

-- the CID of no bytes, unhashed
abbrev no_content : Link
no_content = record { version = V1; codec = 0x55; code = 0; digest = [] }

no_content_valid : (S : ℕ) → IsValid S no_content
no_content_valid S = (lit< tt, (lit< tt, zero-le, λ i. lit< tt), tt)

hole_open : (S : ℕ) (f : Frame) (fs : List Frame) (ts : List TokenModel) → Hole S f fs ts → IsOpen S ts
hole_open S f fs ts (outer, ws, r, e) =
    let i : Item S = atom_item none in
    let c = completes S f fs outer r in
    let d = c.1 (wrapped ws i) in
    (d.0, atom none, c.0, d.1 ∙ rw (e, wrapped_tokens ws i) (simp append_assoc))

module _ (S : ℕ) (has_encoding : (cid : Link) → IsValid S cid → IsCid S (bytes_of cid) cid) where
  mark_open : (f : Frame) (fs : List Frame) (ts : List TokenModel) → Hole S f fs ts → IsOpen S (ts ++ link ∷ [])
  mark_open f fs ts (outer, ws, r, e) =
      let i : Item S = link_item (bytes_of no_content) no_content (has_encoding no_content (no_content_valid S)) in
      let c = completes S f fs outer r in
      let d = c.1 (wrapped ws i) in
      (d.0, bytes (bytes_of no_content), c.0, d.1 ∙ rw (e, wrapped_tokens ws i) (simp append_assoc))

  pub going_open : (s : ExtractState) (ts : List TokenModel) → IsGoing s → Stands S s ts → IsOpen S ts
  going_open (open_at true keeps f fs out) ts g h = hole_open S f fs ts h
  going_open (open_at false keeps f fs out) ts g r = hole_open S f fs ts (hole_of S f fs ts r)
  going_open (marked keeps f fs out) ts g (front, h, e) = subst (IsOpen S) (sym e) (mark_open f fs front h)
  going_open (done out) ts g h = absurd g
  going_open rejected ts g h = absurd g
