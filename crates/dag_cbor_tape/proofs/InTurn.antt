-- Entries whose maps have their pairs in turn: what is written of them one after another is the canonical block.
use Rattle.std.proofs.Common.{◌≡◌, ℕ, zero, suc, ◌+◌, ◌<◌, Bool, true, false, List, [], ◌∷◌, ◌++◌, length, map, take, get_or, Option, Some, None, Result, Ok, refl, sym, ap, subst, ◌∙◌, arith, append_assoc, length-append}
use Rattle.std.specs.Prelude.{if◌then◌else◌}
use Rattle.std.proofs.lemmas.List.{take_at, append-nil}
use Rattle.std.proofs.lemmas.List.Sorted.{IsPermutation-refl}
use Rattle.dag_cbor_format.specs.Canonical.{goes_first}
use Rattle.dag_cbor_format.specs.KeysAscend.{follows}
use Rattle.dag_cbor_format.proofs.KeyOrder.{first_once}
use Rattle.dag_cbor_blocks.specs.declared.tape.TapeEntry.{TapeEntry}
use Rattle.dag_cbor_tape.specs.declared.entry.EntryKind.{EntryKind}
use Rattle.dag_cbor_tape.specs.declared.entry.EntryKind.TheVariants as kind
use Rattle.dag_cbor_tape.specs.declared.error.Fault.{Fault}
use Rattle.dag_cbor_tape.specs.Errors.{◌>>=◌}
use Rattle.dag_cbor_tape.specs.Entry.{kind_of, content_of, written_of}
use Rattle.dag_cbor_tape.specs.Structure.{after_key, after_value, ends, ascending, inner_count, IsInTurn}
use Rattle.dag_cbor_tape.specs.Encoding.{encoded}
use Rattle.dag_cbor_tape.specs.Canonical.{AreInOrder}
use Rattle.dag_cbor_tape.specs.Describes.{AreNarrow}
use Rattle.dag_cbor_tape.specs.Canonicalizing.{Pair, Splits}
use Rattle.dag_cbor_tape.proofs.Results.{bind_ok, ok_same, some_same}
use Rattle.dag_cbor_tape.proofs.Complete.{count_is}
use Rattle.dag_cbor_tape.proofs.Sound.{key_sound, encoded_sound}
use Rattle.dag_cbor_tape.proofs.Ordering.{Good, finished, left_behind, one_written, map_entered}

pub none_narrow : (es : List TapeEntry) → length es ≡ 0 → AreNarrow es
none_narrow [] none = tt
none_narrow (e ∷ es) none = absurd (omega arith)

-- ---- keys of which each comes after the one before it

abbrev Rise : Option (List ℕ) → List (List ℕ) → Type 0
Rise last [] = Unit {0}
Rise last (k ∷ ks) = (follows last k ≡ true) × Rise (Some k) ks

order_at : (last : Option (List ℕ)) (ks : List (List ℕ)) → Rise last ks → (i : ℕ) (d : List ℕ) → suc i < length ks → goes_first (get_or ks (suc i) d) (get_or ks i d) ≡ false
order_at last [] r i d b = absurd (omega arith)
order_at last (j ∷ []) r i d b = absurd (omega arith)
order_at last (j ∷ (k ∷ ks)) r zero d b = first_once j k r.1.0
order_at last (j ∷ (k ∷ ks)) r (suc i) d b = order_at (Some j) (k ∷ ks) r.1 i d (omega arith)

order_of : (ks : List (List ℕ)) → Rise None ks → AreInOrder ks
order_of ks r i d a b =
    let next : i + 1 ≡ suc i = omega arith in
    subst (λ (j : ℕ). goes_first (get_or ks j d) (get_or ks i d) ≡ false) (sym next) (order_at None ks r i d (omega arith))

then_true : (b : Bool) (r : Result Bool Fault) → (if b then r else Ok false) ≡ Ok true → (b ≡ true) × (r ≡ Ok true)
then_true true r e = (refl, e)
then_true false r e = absurd cc

ends_none : (e : TapeEntry) (es all : List TapeEntry) → all ≡ e ∷ es → (ends all >>= λ done. Ok true) ≡ Ok true → ⊥
ends_none e es [] is w = cc
ends_none e es (x ∷ xs) is w = cc

rise : (over : List ℕ) (c : ℕ) (last : Option (List ℕ)) (es : List TapeEntry) (ps : List Pair) → Splits over es ps → ascending over c last es ≡ Ok true → Rise last (map (λ (p : Pair). p.0) ps)
rise over c last es [] s w = tt
rise over zero last es (p ∷ ps) (e, value, rest, es_is, content, after, own, more) w = absurd (ends_none e (value ++ rest) es es_is w)
rise over (suc c) last es (p ∷ ps) (e, value, rest, es_is, content, after, own, more) w =
    let s = bind_ok (after_key over es) (λ k. if follows last k.0 then (after_value k.1 >>= λ rest. ascending over c (Some k.0) rest) else Ok false) true w in
    let key = s.0.0 in
    let behind = s.0.1 in
    let k = key_sound over es behind key s.1 in
    let t = then_true (follows last key) (after_value behind >>= λ rest. ascending over c (Some key) rest) s.2 in
    let u = bind_ok (after_value behind) (λ rest. ascending over c (Some key) rest) true t.1 in
    let both : e ∷ (value ++ rest) ≡ k.0 ∷ behind = sym es_is ∙ k.1 in
    let first : e ≡ k.0 = cc in
    let there : value ++ rest ≡ behind = cc in
    let key_is : key ≡ p.0 = some_same key p.0 (sym k.3 ∙ ap (content_of over) (sym first) ∙ content) in
    let rest_is : u.0 ≡ rest = ok_same u.0 rest (sym u.1 ∙ ap after_value (sym there) ∙ after) in
    let on : ascending over c (Some p.0) rest ≡ Ok true =
    subst (λ (x : List ℕ). ascending over c (Some x) rest ≡ Ok true) key_is (subst (λ (x : List TapeEntry). ascending over c (Some key) x ≡ Ok true) rest_is u.2) in
    (subst (λ (x : List ℕ). follows last x ≡ true) key_is t.0, rise over c (Some p.0) rest ps more on)

-- ---- what is still to be written, in the order of the tape

abbrev pub in_row : List (List TapeEntry) → List TapeEntry
in_row [] = []
in_row (es ∷ rs) = es ++ in_row rs

in_row-append : (rs qs : List (List TapeEntry)) → in_row (rs ++ qs) ≡ in_row rs ++ in_row qs
in_row-append [] qs = refl
in_row-append (es ∷ rs) qs = ap (λ (xs : List TapeEntry). es ++ xs) (in_row-append rs qs) ∙ sym (append_assoc es (in_row rs) (in_row qs))

pairs_row : (over : List ℕ) (es : List TapeEntry) (ps : List Pair) → Splits over es ps → in_row (map (λ (p : Pair). p.1) ps) ≡ es
pairs_row over es [] s = sym s
pairs_row over es (p ∷ ps) (e, value, rest, es_is, content, after, own, more) =
    ap (λ (xs : List TapeEntry). xs ++ in_row (map (λ (q : Pair). q.1) ps)) own ∙ ap (λ (xs : List TapeEntry). e ∷ (value ++ xs)) (pairs_row over rest ps more) ∙ sym es_is

-- these entries are left, and writing them leads to a result
pub record Row (over : List ℕ) (Q : List ℕ → Type 0) (out : List ℕ) (rest : List TapeEntry) : Type 0 where
  pub ranges : List (List TapeEntry)
  pub are : in_row ranges ≡ rest
  pub good : Good over Q out ranges

module _ (over : List ℕ) (Q : List ℕ → Type 0) where
  -- what is written of an entry is what is expected of it
  same_written : (k : EntryKind) (x e : TapeEntry) (es : List TapeEntry) (a b : List ℕ) → x ≡ e → kind_of x.kind ≡ Some k → written_of over k x ≡ Ok a → encoded over e es ≡ Ok b → a ≡ b
  same_written k x e es a b first kind_there is_written w =
      let s = encoded_sound over e es b w in
      let kinds : k ≡ s.0 = some_same k s.0 (sym kind_there ∙ ap (λ (z : TapeEntry). kind_of z.kind) first ∙ s.2) in
      ok_same a b (sym is_written ∙ ap (λ (z : TapeEntry). written_of over k z) first ∙ ap (λ (z : EntryKind). written_of over z e) kinds ∙ s.4)

  stepped : (out b : List ℕ) (e : TapeEntry) (es : List TapeEntry) (rs : List (List TapeEntry)) → in_row rs ≡ e ∷ es → encoded over e es ≡ Ok b
      → ((k : EntryKind) → kind_of e.kind ≡ Some k → IsInTurn over k e es) → Good over Q out rs → Row over Q (out ++ b) es
  stepped out b e es rs is w turn (finished x q) = absurd cc
  stepped out b e es rs is w turn (left_behind x rs' g) = stepped x b e es rs' is w turn g
  stepped out b e es rs is w turn (one_written x b' k e' es' rs' plain kind_there is_written g) =
      let first : e' ≡ e = cc in
      let behind : es' ++ in_row rs' ≡ es = cc in
      let same = same_written k e' e es b' b first kind_there is_written w in
      record { ranges = es' ∷ rs'; are = behind; good = subst (λ (z : List ℕ). Good over Q (x ++ z) (es' ∷ rs')) same g }
  stepped out b e es rs is w turn (map_entered x b' e' inner behind es' rs' pairs kind_there is_written parts spans splits g) =
      let first : e' ≡ e = cc in
      let there : es' ++ in_row rs' ≡ es = cc in
      let same = same_written kind.Map e' e es b' b first kind_there is_written w in
      let whole : inner ++ (behind ++ in_row rs') ≡ es = sym (append_assoc inner behind (in_row rs')) ∙ ap (λ (xs : List TapeEntry). xs ++ in_row rs') (sym parts) ∙ there in
      let long : length es ≡ length (inner ++ (behind ++ in_row rs')) = ap length (sym whole) in
      let counted : inner_count e (length es) ≡ Some (length inner) =
      count_is e (length es) (length inner) (ap (λ (z : TapeEntry). z.len) (sym first) ∙ spans) (omega (arith, long, length-append inner (behind ++ in_row rs'))) in
      let of_map : kind_of e.kind ≡ Some kind.Map = ap (λ (z : TapeEntry). kind_of z.kind) (sym first) ∙ kind_there in
      let cut : take (length inner) es ≡ inner = ap (take (length inner)) (sym whole) ∙ take_at inner (behind ++ in_row rs') (length inner) refl in
      let asc : ascending over e.value None inner ≡ Ok true = subst (λ (xs : List TapeEntry). ascending over e.value None xs ≡ Ok true) cut (turn kind.Map of_map (length inner) counted) in
      let ordered = order_of (map (λ (p : Pair). p.0) pairs) (rise over e.value None inner pairs splits asc) in
      let ranges = map (λ (p : Pair). p.1) pairs ++ (behind ∷ rs') in
      record {
        ranges = ranges;
        are = in_row-append (map (λ (p : Pair). p.1) pairs) (behind ∷ rs') ∙ ap (λ (xs : List TapeEntry). xs ++ (behind ++ in_row rs')) (pairs_row over inner pairs splits) ∙ whole;
        good = subst (λ (z : List ℕ). Good over Q (x ++ z) ranges) same (g pairs (IsPermutation-refl pairs) ordered);
      }

  pub row_step : (out b after : List ℕ) (e : TapeEntry) (es rest : List TapeEntry) → rest ≡ e ∷ es → encoded over e es ≡ Ok b → after ≡ out ++ b
      → ((k : EntryKind) → kind_of e.kind ≡ Some k → IsInTurn over k e es) → Row over Q out rest → Row over Q after es
  row_step out b after e es rest parts w is turn r =
      subst (λ (x : List ℕ). Row over Q x es) (sym is) (stepped out b e es r.ranges (r.are ∙ parts) w turn r.good)

  ended : (out : List ℕ) (rs : List (List TapeEntry)) → in_row rs ≡ [] → Good over Q out rs → Q out
  ended out rs is (finished x q) = q
  ended out rs is (left_behind x rs' g) = ended x rs' is g
  ended out rs is (one_written x b' k e' es' rs' plain kind_there is_written g) = absurd cc
  ended out rs is (map_entered x b' e' inner behind es' rs' pairs kind_there is_written parts spans splits g) = absurd cc

  pub row_ends : (out : List ℕ) (rest : List TapeEntry) → length rest ≡ 0 → Row over Q out rest → Q out
  row_ends out [] none r = ended out r.ranges r.are r.good
  row_ends out (e ∷ es) none r = absurd (omega arith)

  pub row_starts : (out : List ℕ) (es : List TapeEntry) → out ≡ [] → Good over Q [] (es ∷ []) → Row over Q out es
  row_starts out es empty g = record { ranges = es ∷ []; are = append-nil es; good = subst (λ (x : List ℕ). Good over Q x (es ∷ [])) (sym empty) g }
