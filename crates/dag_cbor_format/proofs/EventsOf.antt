-- The events of an item: its tokens, wherever they end, and which of them are keys.
use Rattle.std.proofs.Common.{◌≡◌, ℕ, true, false, List, [], ◌∷◌, ◌++◌, refl, sym, ap, ◌∙◌}
use Rattle.ipld_tokens.specs.Token.{atom, text, bytes, link, seq, seq_end, map_end}
use Rattle.ipld_tokens.specs.Token as token
use Rattle.ipld_tokens.specs.Item.{Item, atom_item, bytes_item, some_item, variant_item, list_item, map_item, link_item, Parts, no_parts, part, Pairs, no_pairs, pair, tokens_of, parts_tokens, pairs_tokens}
use Rattle.dag_cbor_format.specs.Trace.{Event, tokens_in}

-- the key is this string
abbrev pub IsText : Item 64 → List ℕ → Type 0
IsText key s = key ≡ atom_item (text s)

abbrev mutual
  pub EventsOf : Item 64 → List Event → Type 0
  EventsOf (atom_item a) es = (n : ℕ) × (es ≡ (atom a, n, false) ∷ [])
  EventsOf (bytes_item b) es = (n : ℕ) × (es ≡ (bytes b, n, false) ∷ [])
  EventsOf (some_item i) es = ⊥
  EventsOf (variant_item name i) es = ⊥
  EventsOf (list_item is) es = (n : ℕ) × (m : ℕ) × (inner : List Event) × PartsEvents is inner × (es ≡ (seq, n, false) ∷ (inner ++ (seq_end, m, false) ∷ []))
  EventsOf (map_item ps) es = (n : ℕ) × (m : ℕ) × (inner : List Event) × PairsEvents ps inner × (es ≡ (token.map, n, false) ∷ (inner ++ (map_end, m, false) ∷ []))
  EventsOf (link_item b cid is) es = (n : ℕ) × (m : ℕ) × (es ≡ (link, n, false) ∷ (bytes b, m, false) ∷ [])

  pub PartsEvents : Parts 64 → List Event → Type 0
  PartsEvents no_parts es = es ≡ []
  PartsEvents (part i is) es = (first : List Event) × (more : List Event) × EventsOf i first × PartsEvents is more × (es ≡ first ++ more)

  pub PairsEvents : Pairs 64 → List Event → Type 0
  PairsEvents no_pairs es = es ≡ []
  PairsEvents (pair key v ps) es =
      (s : List ℕ) × (n : ℕ) × (first : List Event) × (more : List Event) × IsText key s × EventsOf v first × PairsEvents ps more × (es ≡ (atom (text s), n, true) ∷ (first ++ more))

joined : (a b : List Event) → tokens_in (a ++ b) ≡ tokens_in a ++ tokens_in b
joined [] b = refl
joined (e ∷ a) b = ap (λ ts. e.0 ∷ ts) (joined a b)

mutual
  pub events_tokens : (i : Item 64) (es : List Event) → EventsOf i es → tokens_in es ≡ tokens_of i
  events_tokens (atom_item a) es h = ap tokens_in h.1
  events_tokens (bytes_item b) es h = ap tokens_in h.1
  events_tokens (some_item i) es h = absurd h
  events_tokens (variant_item name i) es h = absurd h
  events_tokens (list_item is) es h =
      ap tokens_in h.4 ∙ ap (λ ts. seq ∷ ts) (joined h.2 ((seq_end, h.1, false) ∷ []) ∙ ap (λ ts. ts ++ seq_end ∷ []) (parts_events_tokens is h.2 h.3))
  events_tokens (map_item ps) es h =
      ap tokens_in h.4 ∙ ap (λ ts. token.map ∷ ts) (joined h.2 ((map_end, h.1, false) ∷ []) ∙ ap (λ ts. ts ++ map_end ∷ []) (pairs_events_tokens ps h.2 h.3))
  events_tokens (link_item b cid is) es h = ap tokens_in h.2

  parts_events_tokens : (is : Parts 64) (es : List Event) → PartsEvents is es → tokens_in es ≡ parts_tokens is
  parts_events_tokens no_parts es h = ap tokens_in h
  parts_events_tokens (part i is) es h =
      ap tokens_in h.4 ∙ joined h.0 h.1 ∙ ap (λ ts. ts ++ tokens_in h.1) (events_tokens i h.0 h.2) ∙ ap (λ ts. tokens_of i ++ ts) (parts_events_tokens is h.1 h.3)

  pairs_events_tokens : (ps : Pairs 64) (es : List Event) → PairsEvents ps es → tokens_in es ≡ pairs_tokens ps
  pairs_events_tokens no_pairs es h = ap tokens_in h
  pairs_events_tokens (pair key v ps) es h =
      ap tokens_in h.7 ∙ ap (λ ts. atom (text h.0) ∷ ts) (joined h.2 h.3 ∙ ap (λ ts. ts ++ tokens_in h.3) (events_tokens v h.2 h.5) ∙ ap (λ ts. tokens_of v ++ ts) (pairs_events_tokens ps h.3 h.6))
      ∙ ap (λ (x : Item 64). tokens_of x ++ (tokens_of v ++ pairs_tokens ps)) (sym h.4)
