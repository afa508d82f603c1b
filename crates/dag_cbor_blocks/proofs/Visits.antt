-- What a visitor takes, by the tokens of events.
use Rattle.std.proofs.Common.{◌≡◌, ◌⊎◌, inl, inr, ℕ, Bool, false, List, [], ◌∷◌, ◌++◌, Some, None, Bor, Result, Ok, Err, refl, sym, ap, subst, ◌∙◌}
use Rattle.std.specs.declared.alloc.AllocError.{AllocError}
use Rattle.ipld_cid.specs.declared.cid.CidGeneric.{CidGeneric}
use Rattle.ipld_tokens.specs.Token.{TokenModel}
use Rattle.dag_cbor_format.specs.declared.error.CborError.{CborError}
use Rattle.dag_cbor_format.specs.declared.error.CborError.TheVariants.{Memory}
use Rattle.dag_cbor_format.specs.Found.{links_among}
use Rattle.dag_cbor_format.specs.Reading.{of_block}
use Rattle.dag_cbor_format.specs.Trace.{Event, tokens_in, trace_of, positions_among}
use Rattle.dag_cbor_blocks.specs.Visit.{events_of, Takes}
use Rattle.dag_cbor_blocks.specs.declared.visit.Event as part
use Rattle.dag_cbor_blocks.specs.declared.visit.Event.TheVariants.{Null, Bool as Truth, Integer, Str, Bytes, Link, List as ListBegins, EndOfList, Map, Key, EndOfMap}
use Rattle.dag_cbor_blocks.proofs.BlockSteps.{error_without, tokens_without}

pub tokens-append : (es more : List Event) → tokens_in (es ++ more) ≡ tokens_in es ++ tokens_in more
tokens-append [] more = refl
tokens-append (e ∷ es) more = ap (λ ts. e.0 ∷ ts) (tokens-append es more)

-- tokens, as events
abbrev pub flat : List TokenModel → List Event
flat [] = []
flat (t ∷ ts) = (t, 0, false) ∷ flat ts

pub tokens-flat : (ts : List TokenModel) → tokens_in (flat ts) ≡ ts
tokens-flat [] = refl
tokens-flat (t ∷ ts) = ap (λ us. t ∷ us) (tokens-flat ts)

module _ {V A : Type 0} (answer : V → List TokenModel → A) where
  -- by the tokens of events
  abbrev pub by_tokens : V → List Event → A
  by_tokens v es = answer v (tokens_in es)

  -- events were taken whose tokens were
  pub takes_events : (old new : V) (es : List Event) (r : Result (Unit {0}) AllocError) → Takes answer old (tokens_in es) r new → Takes by_tokens old es r new
  takes_events old new es (Ok u) h = λ more. h (tokens_in more) ∙ ap (answer old) (sym (tokens-append es more))
  takes_events old new es (Err error) h = tt

  -- a part was, of which these are the tokens
  pub takes_part : (old new : V) (e taken : part.Event) (r : Result (Unit {0}) AllocError) (left : ℕ) (key : Bool) → e ≡ taken → Takes answer old (tokens_in (events_of taken left key)) r new
      → Takes by_tokens old (events_of e left key) r new
  takes_part old new e taken r left key is h = subst (λ x. Takes by_tokens old (events_of x left key) r new) (sym is) (takes_events old new (events_of taken left key) r h)

  -- all tokens of a block were, where all its events were
  pub tokens_taken : (block : List ℕ) (old new : V) → ((trace_of false block).error ≡ None) × (by_tokens new [] ≡ by_tokens old (trace_of false block).events)
      → ((of_block block).error ≡ None) × (answer new [] ≡ answer old (of_block block).tokens)
  tokens_taken block old new (none, same) = (sym (error_without block) ∙ none, same ∙ ap (answer old) (tokens_without block))

pub error_taken : (block : List ℕ) (error : CborError) → (error ≡ Memory) ⊎ ((trace_of false block).error ≡ Some error) → (error ≡ Memory) ⊎ ((of_block block).error ≡ Some error)
error_taken block error (inl memory) = inl memory
error_taken block error (inr e) = inr (sym (error_without block) ∙ e)

-- ---- a part that is no link

abbrev pub IsNoLink : part.Event → Type 0
IsNoLink e = (cid : CidGeneric 64) (encoded : Bor (List ℕ)) (behind : ℕ) → e ≡ Link cid encoded behind → ⊥

pub no_links : (e : part.Event) → IsNoLink e → (left : ℕ) (key : Bool) (more : List Event)
    → links_among (tokens_in (events_of e left key ++ more)) ≡ links_among (tokens_in more)
no_links Null other left key more = refl
no_links (Truth truth) other left key more = refl
no_links (Integer number) other left key more = refl
no_links (Str string) other left key more = refl
no_links (Bytes content) other left key more = refl
no_links (Link cid encoded behind) other left key more = absurd (other cid encoded behind refl)
no_links (ListBegins hint) other left key more = refl
no_links EndOfList other left key more = refl
no_links Map other left key more = refl
no_links (Key string) other left key more = refl
no_links EndOfMap other left key more = refl

pub no_positions : (e : part.Event) → IsNoLink e → (size left : ℕ) (key : Bool) (more : List Event)
    → positions_among size (events_of e left key ++ more) ≡ positions_among size more
no_positions Null other size left key more = refl
no_positions (Truth truth) other size left key more = refl
no_positions (Integer number) other size left key more = refl
no_positions (Str string) other size left key more = refl
no_positions (Bytes content) other size left key more = refl
no_positions (Link cid encoded behind) other size left key more = absurd (other cid encoded behind refl)
no_positions (ListBegins hint) other size left key more = refl
no_positions EndOfList other size left key more = refl
no_positions Map other size left key more = refl
no_positions (Key string) other size left key more = refl
no_positions EndOfMap other size left key more = refl
