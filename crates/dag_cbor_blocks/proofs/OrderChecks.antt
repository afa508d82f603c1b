-- The keys that came last, as a checker of their order holds them.
use Rattle.std.proofs.Common.{◌≡◌, ℕ, zero, suc, ◌-◌, Bool, true, false, List, [], ◌∷◌, ◌++◌, length, take, Option, Some, Result, Ok, Err, Bor, refl, sym, ap, ◌∙◌, arith}
use Rattle.std.specs.Prelude.{◌&&◌, OnOk}
use Rattle.std.specs.declared.alloc.AllocError.{AllocError}
use Rattle.std.proofs.lemmas.List.{append-nil}
use Rattle.ipld_tokens.specs.Token.{atom, text}
use Rattle.dag_cbor_format.specs.KeysAscend.{LastKeys, follows, key_follows, with_key, outer_maps, keys_ascend}
use Rattle.dag_cbor_format.specs.Trace.{Event}
use Rattle.dag_cbor_blocks.specs.OrderChecker.{last_of, lasts_in, lasts_of, sorted_with}
use Rattle.dag_cbor_blocks.specs.Visit.{events_of, Takes}
use Rattle.dag_cbor_blocks.specs.declared.visit.Event as part
use Rattle.dag_cbor_blocks.specs.declared.visit.Event.TheVariants.{Null, Bool as Truth, Integer, Str, Bytes, Link, List as ListBegins, EndOfList, Map, Key, EndOfMap}
use Rattle.dag_cbor_blocks.specs.declared.canonical.OrderChecker.{OrderChecker}

abbrev Last : Type 0
Last = Option (Bor (List ℕ))

lasts_in-append : (ks : List Last) (k : Last) (outer : LastKeys) → lasts_in (ks ++ k ∷ []) outer ≡ last_of k ∷ lasts_in ks outer
lasts_in-append [] k outer = refl
lasts_in-append (x ∷ ks) k outer = lasts_in-append ks k (last_of x ∷ outer)

pub pushed : (old new : List Last) (k : Last) → new ≡ old ++ k ∷ [] → lasts_in new [] ≡ last_of k ∷ lasts_in old []
pushed old new k e = ap (λ ks. lasts_in ks []) e ∙ lasts_in-append old k []

popped_in : (k : Last) (ks : List Last) (outer : LastKeys) → lasts_in (take (length ks) (k ∷ ks)) outer ≡ outer_maps (lasts_in (k ∷ ks) outer)
popped_in k [] outer = refl
popped_in k (x ∷ ks) outer = popped_in x ks (last_of k ∷ outer)

take_none : (n : ℕ) → take {A = Last} n [] ≡ []
take_none zero = refl
take_none (suc n) = refl

less_one : (k : Last) (ks : List Last) → length (k ∷ ks) - 1 ≡ length ks
less_one k ks = omega arith

pub popped : (ks rest : List Last) → rest ≡ take (length ks - 1) ks → lasts_in rest [] ≡ outer_maps (lasts_in ks [])
popped [] rest e = ap (λ xs. lasts_in xs []) (e ∙ take_none (length {A = Last} [] - 1))
popped (k ∷ ks) rest e = ap (λ xs. lasts_in xs []) e ∙ ap (λ n. lasts_in (take n (k ∷ ks)) []) (less_one k ks) ∙ popped_in k ks []

pub and_assoc : (a b c : Bool) → ((a && b) && c) ≡ (a && (b && c))
and_assoc true b c = refl
and_assoc false b c = refl

none_open : (ks : List Last) → length ks ≡ 0 → lasts_in ks [] ≡ []
none_open [] e = refl
none_open (k ∷ ks) e = absurd (omega (arith, e))

-- outside of any map a key has nothing to follow
pub key_outside : (sorted : Bool) (old new : List Last) (key : List ℕ) (more : List Event) → length old ≡ 0 → old ≡ new ++ []
    → (sorted && keys_ascend (lasts_in new []) more) ≡ (sorted && (key_follows (lasts_in old []) key && keys_ascend (with_key (lasts_in old []) key) more))
key_outside sorted old new key more empty same =
    let flat = none_open old empty in
    ap (λ ks. sorted && keys_ascend (lasts_in ks []) more) (sym (same ∙ append-nil new)) ∙ ap (λ ls. sorted && keys_ascend ls more) flat
    ∙ sym (ap (λ ls. sorted && (key_follows ls key && keys_ascend (with_key ls key) more)) flat)

-- inside of one it follows the key before it
pub key_taken : (old new : OrderChecker) (mid : List Last) (last : Last) (key : Bor (List ℕ)) (r : Result (Unit {0}) AllocError) (left : ℕ) → old.lasts.items ≡ mid ++ last ∷ []
    → OnOk r (new.lasts.items ≡ mid ++ Some key ∷ []) → OnOk r (new.is_sorted ≡ (old.is_sorted && follows (last_of last) key.now)) → Takes sorted_with old ((atom (text key.now), left, true) ∷ []) r new
key_taken old new mid last key (Ok done) left before after sorted = λ more.
    let f = follows (last_of last) key.now in
    let rest = keys_ascend (Some key.now ∷ lasts_in mid []) more in
    ap (λ b. b && keys_ascend (lasts_of new) more) sorted
    ∙ ap (λ ls. (old.is_sorted && f) && keys_ascend ls more) (pushed mid new.lasts.items (Some key) after)
    ∙ and_assoc old.is_sorted f rest
    ∙ sym (ap (λ ls. old.is_sorted && (key_follows ls key.now && keys_ascend (with_key ls key.now) more)) (pushed mid old.lasts.items last before))
key_taken old new mid last key (Err error) left before after sorted = tt

-- ---- a part that is neither a key nor a map's beginning or end

pub others_ascend : (e : part.Event) → (e ≡ Map → ⊥) → ((key : Bor (List ℕ)) → e ≡ Key key → ⊥) → (e ≡ EndOfMap → ⊥) → (lasts : LastKeys) (left : ℕ) (key : Bool) (more : List Event)
    → keys_ascend lasts (events_of e left key ++ more) ≡ keys_ascend lasts more
others_ascend Null no_map no_key no_end lasts left key more = refl
others_ascend (Truth truth) no_map no_key no_end lasts left key more = refl
others_ascend (Integer number) no_map no_key no_end lasts left key more = refl
others_ascend (Str string) no_map no_key no_end lasts left key more = refl
others_ascend (Bytes content) no_map no_key no_end lasts left key more = refl
others_ascend (Link cid encoded behind) no_map no_key no_end lasts left key more = refl
others_ascend (ListBegins hint) no_map no_key no_end lasts left key more = refl
others_ascend EndOfList no_map no_key no_end lasts left key more = refl
others_ascend Map no_map no_key no_end lasts left key more = absurd (no_map refl)
others_ascend (Key string) no_map no_key no_end lasts left key more = absurd (no_key string refl)
others_ascend EndOfMap no_map no_key no_end lasts left key more = absurd (no_end refl)
