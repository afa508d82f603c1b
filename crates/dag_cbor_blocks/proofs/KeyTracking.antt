-- Keys that came in length-first order, and one more.
use Rattle.std.proofs.Common.{◌≡◌, ℕ, Bool, true, false, List, [], ◌∷◌, ◌++◌, refl, sym, ap, ◌∙◌, not, Ok, length, take, get_or, ◌+◌, ◌<◌, arith}
use Rattle.std.specs.List.{list_any}
use Rattle.std.specs.Cmp.Lexicographic.{slice_cmp}
use Rattle.std.specs.Ordering.{nat_cmp}
use Rattle.std.specs.BTreeSet.{insert_key}
use Rattle.std.specs.BTreeMap.{is_at}
use Rattle.std.specs.Borrow.{Bor}
use Rattle.std.proofs.lemmas.Bool.{both_ways}
use Rattle.std.proofs.lemmas.List.{map-append, take_more}
use Rattle.std.proofs.lemmas.List.Sums.{fold-append}
use Rattle.std.proofs.lemmas.Slice.Eq.{bytes_eq-Decides}
use Rattle.std.specs.Str.{bytes_eq}
use Rattle.ipld_tokens.proofs.Putting.{or}
use Rattle.dag_cbor_format.specs.Canonical.{goes_first}
use Rattle.dag_cbor_format.specs.Reading.{among, and_key}
use Rattle.dag_cbor_format.proofs.KeyOrder.{first_once}
use Rattle.dag_cbor_format.proofs.Keys.{among-and_key}
use Rattle.dag_cbor_blocks.specs.KeyList.{seen_of, keys_now, Adds, IsGreatest}
use Rattle.dag_cbor_blocks.proofs.Frames.{among_keys, keys_inserted, not_true, not_false}

-- one more key
pub seen_more : (all keys : List (Bor (List ℕ))) (key : Bor (List ℕ)) → all ≡ keys ++ key ∷ [] → seen_of (keys_now all) ≡ and_key key.now (seen_of (keys_now keys))
seen_more all keys key e =
    ap (λ ks. seen_of (keys_now ks)) e ∙ ap seen_of (map-append (λ (k : Bor (List ℕ)). k.now) keys (key ∷ []))
    ∙ fold-append (λ seen k. and_key k seen) [] (keys_now keys) (key.now ∷ [])

-- a key doesn't go before itself
pub differs : (key q : List ℕ) → goes_first key q ≡ true → bytes_eq q key ≡ false
differs key q first =
    elim (bytes_eq q key) as (λ b. bytes_eq q key ≡ b → bytes_eq q key ≡ false) [
      | true ↦ λ e. absurd (both_ways (goes_first key q) (ap (goes_first key) ((bytes_eq-Decides q key).0 e) ∙ first_once key key (sym (ap (goes_first key) ((bytes_eq-Decides q key).0 e)) ∙ first)) first)
      | false ↦ λ e. e
    ] refl

-- where none is greater than the greatest, none is greater than one more that is
pub still_greatest : (all keys : List (Bor (List ℕ))) (key : Bor (List ℕ)) → all ≡ keys ++ key ∷ []
    → ((q : List ℕ) → goes_first key.now q ≡ true → among q (seen_of (keys_now keys)) ≡ false) → IsGreatest key.now (keys_now all)
still_greatest all keys key e none q first =
    ap (among q) (seen_more all keys key e) ∙ among-and_key q key.now (seen_of (keys_now keys))
    ∙ ap (λ b. or b (among q (seen_of (keys_now keys)))) (differs key.now q first) ∙ none q first

-- no keys have none
pub none_among : (keys : List (Bor (List ℕ))) (q : List ℕ) → length keys ≡ 0 → among q (seen_of (keys_now keys)) ≡ false
none_among [] q e = refl
none_among (k ∷ keys) q e = absurd (omega arith)

-- a set to which a key was added
pub added_to_set : (key : Bor (List ℕ)) (old new : List (Bor (List ℕ))) (added : Bool)
    → added ≡ not (list_any (is_at (λ x. slice_cmp nat_cmp key.now x.now)) old) → new ≡ insert_key (λ x y. slice_cmp nat_cmp x.now y.now) old key
    → Adds key.now (keys_now old) (Ok added) (keys_now new)
added_to_set key old new true e keys = (sym (among_keys key old) ∙ not_true _ e, ap keys_now keys ∙ keys_inserted key old)
added_to_set key old new false e keys = sym (among_keys key old) ∙ not_false _ e

-- so many keys as a set, and one more
pub set_more : (items lent : List (Bor (List ℕ))) (i : ℕ) (d : Bor (List ℕ)) (old new : List (Bor (List ℕ))) → lent ≡ items → i < length lent
    → keys_now old ≡ seen_of (keys_now (take i items)) → new ≡ insert_key (λ x y. slice_cmp nat_cmp x.now y.now) old (get_or lent i d)
    → keys_now new ≡ seen_of (keys_now (take (i + 1) items))
set_more items lent i d old new same within e keys =
    ap keys_now keys ∙ keys_inserted (get_or lent i d) old ∙ ap (and_key (get_or lent i d).now) e
    ∙ ap (λ xs. and_key (get_or lent i d).now (seen_of (keys_now (take i xs)))) (sym same)
    ∙ sym (seen_more (take (i + 1) lent) (take i lent) (get_or lent i d) (take_more lent i d within))
    ∙ ap (λ xs. seen_of (keys_now (take (i + 1) xs))) same
