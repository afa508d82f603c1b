-- Conversions, from the two steps that they share.
use Rattle.std.proofs.Common.{◌≡◌, ℕ, ℤ, pos, negsuc, ◌^◌, ◌-◌, Option, Some, None, Result, Ok, Err, OkIff, option_map, unsigned_abs, FitsSigned, ◌≤ℤ◌, ◌<ℤ◌, Bool, true, false, T, if◌then◌else◌, nat_lt, ◌<◌, refl, sym, ap, subst, arith}
use mir.Val.{hbits}
use Rattle.std.specs.Int.{Width, w128, cast_signed, cast_unsigned}
use Rattle.std.specs.Result.{result_map_both}
use Rattle.std.specs.declared.num.TryFromIntError.{TryFromIntError}
use Rattle.std.proofs.lemmas.Bool.{lt-ltb, ltb-true}
use Rattle.std.proofs.lemmas.Int.{ints, to_z-of_z}
use Rattle.ipld_tree.specs.Tree.{Tree, null, boolean, integer, text, bytes, list, entries, link}
use Rattle.ipld_tree.specs.TreeOf.{tree_of}
use Rattle.ipld_tree.specs.Convert.{Converts, optional, integer_within, signed_at, unsigned_at, not_negative}
use Rattle.ipld_tree.specs.Tried.{Tried, Optional, OptionalAt}
use Rattle.ipld_tree.specs.declared.ipld.Ipld.{Ipld}
use Rattle.ipld_tree.specs.declared.ipld.Ipld.TheVariants.{Integer}
use Rattle.ipld_tree.specs.declared.ipld.IpldKind.TheVariants as Kind
use Rattle.ipld_tree.specs.declared.convert.ConversionError.TheVariants.{FromIpld}
use Rattle.ipld_tree.proofs.Trees.{tree_of-Integer}
use Rattle.ipld_tree.specs.declared.convert.ConversionError.{ConversionError}
use Rattle.ipld_tree.specs.declared.convert.TargetType.{TargetType}

abbrev Converted : Type 0 → Type 0
Converted T = Result T ConversionError

map_some : {T C : Type 0} → (contents : T → C) (r : Converted T) (s : Converted C) (o : Converted (Option T)) → result_map_both contents (λ e. e) r ≡ s → o ≡ result_map_both Some (λ e. e) r
    → result_map_both (option_map contents) (λ e. e) o ≡ result_map_both Some (λ e. e) s
map_some contents (Ok x) s o e f = rw (f) (ap (result_map_both Some (λ e. e)) e)
map_some contents (Err x) s o e f = rw (f) (ap (result_map_both Some (λ e. e)) e)

optional_at : {T C : Type 0} → (contents : T → C) (taken : Tree → Converted C) (t : Tree) (o : Converted (Option T))
    → OptionalAt (λ r. result_map_both contents (λ e. e) r ≡ taken t) t o → result_map_both (option_map contents) (λ e. e) o ≡ optional taken t
optional_at contents taken null o h = rw h refl
optional_at contents taken (boolean b) o h = map_some contents h.0 _ o h.1 h.2
optional_at contents taken (integer n) o h = map_some contents h.0 _ o h.1 h.2
optional_at contents taken (text s) o h = map_some contents h.0 _ o h.1 h.2
optional_at contents taken (bytes b) o h = map_some contents h.0 _ o h.1 h.2
optional_at contents taken (list ts) o h = map_some contents h.0 _ o h.1 h.2
optional_at contents taken (entries ms) o h = map_some contents h.0 _ o h.1 h.2
optional_at contents taken (link l) o h = map_some contents h.0 _ o h.1 h.2

pub optional_converts : {T C : Type 0} → (contents : T → C) (taken : Tree → Converted C) (x : Ipld) (o : Converted (Option T))
    → Optional (Converts contents taken) x o → Converts (option_map contents) (optional taken) x o
optional_converts contents taken x o h = optional_at contents taken (tree_of x) o h

-- ---- integers

-- the number that the conversion of numbers returns, where it returns one just within the range
number_tried : {N : Type 0} → (Fits : ℤ → Type 0) (value : ℤ → N) (within : ℤ → Option N) (target : TargetType)
    → ((n : ℤ) → Fits n → within n ≡ Some (value n)) → ((n : ℤ) → (Fits n → ⊥) → within n ≡ None)
    → (t : Tree) (r : Converted N) → Tried {N = N} (λ n r. OkIff r (Fits n) (value n)) target t r → result_map_both (λ n. n) (λ e. e) r ≡ integer_within within target t
number_tried Fits value within target inside outside null r h = rw h refl
number_tried Fits value within target inside outside (boolean b) r h = rw h refl
number_tried Fits value within target inside outside (integer n) r (Ok x, ok, is) = rw (is, ok.1, inside n ok.0) refl
number_tried Fits value within target inside outside (integer n) r (Err e, never, is) = rw (is, outside n never) refl
number_tried Fits value within target inside outside (text s) r h = rw h refl
number_tried Fits value within target inside outside (bytes b) r h = rw h refl
number_tried Fits value within target inside outside (list ts) r h = rw h refl
number_tried Fits value within target inside outside (entries ms) r h = rw h refl
number_tried Fits value within target inside outside (link l) r h = rw h refl

pub tried : {N : Type 0} → (converts : ℤ → Result N TryFromIntError → Type 0) (target : TargetType) (x : Ipld) (n : ℤ) (t : Result N TryFromIntError) (r : Converted N)
    → x ≡ Integer n → FitsSigned w128 n → converts (cast_signed w128 (cast_unsigned w128 n)) t → r ≡ result_map_both (λ v. v) (λ _. FromIpld Kind.Integer target) t → Tried converts target (tree_of x) r
tried converts target x n t r is fits fact e = rw (is, tree_of-Integer n) (t, subst (λ m. converts m t) (to_z-of_z w128 n fits) fact, e)

non_negative : (n : ℤ) → pos 0 ≤ℤ n → not_negative n ≡ Some (unsigned_abs n)
non_negative (pos n) h = refl
non_negative (negsuc n) h = absurd (omega (arith, ints))

negative : (n : ℤ) → (pos 0 ≤ℤ n → ⊥) → not_negative n ≡ None
negative (pos n) h = absurd (h (omega (arith, ints)))
negative (negsuc n) h = refl

not_so : {N : Type 0} → (b : Bool) (n : N) → (b ≡ true → ⊥) → (if b then Some n else None) ≡ None
not_so true n h = absurd (h refl)
not_so false n h = refl

below : (k b : ℕ) → k ≡ 2 ^ b → (n : ℤ) → (pos 0 ≤ℤ n) × (n <ℤ pos k) → unsigned_at b n ≡ Some (unsigned_abs n)
below k b e (pos n) h = let l : nat_lt n (2 ^ b) ≡ true = lt-ltb n (2 ^ b) (omega (arith, ints, e, h.1)) in rw l refl
below k b e (negsuc n) h = absurd (omega (arith, ints, h.0))

not_below : (k b : ℕ) → k ≡ 2 ^ b → (n : ℤ) → ((pos 0 ≤ℤ n) × (n <ℤ pos k) → ⊥) → unsigned_at b n ≡ None
not_below k b e (pos n) h = not_so (nat_lt n (2 ^ b)) n (λ l. h (omega (arith, ints), omega (arith, ints, e, ltb-true n (2 ^ b) l)))
not_below k b e (negsuc n) h = refl

signed : (w : Width) (b : ℕ) → hbits w ≡ b - 1 → (n : ℤ) → FitsSigned w n → signed_at b n ≡ Some n
signed w b e (pos n) f = let l : nat_lt n (2 ^ (b - 1)) ≡ true = lt-ltb n (2 ^ (b - 1)) (subst (λ k. n < 2 ^ k) e f.sfits) in rw l refl
signed w b e (negsuc n) f = let l : nat_lt n (2 ^ (b - 1)) ≡ true = lt-ltb n (2 ^ (b - 1)) (subst (λ k. n < 2 ^ k) e f.sfits) in rw l refl

not_signed : (w : Width) (b : ℕ) → hbits w ≡ b - 1 → (n : ℤ) → (FitsSigned w n → ⊥) → signed_at b n ≡ None
not_signed w b e (pos n) h = not_so (nat_lt n (2 ^ (b - 1))) (pos n) (λ l. h (record { sfits = subst (λ k. n < 2 ^ k) (sym e) (ltb-true n (2 ^ (b - 1)) l) }))
not_signed w b e (negsuc n) h = not_so (nat_lt n (2 ^ (b - 1))) (negsuc n) (λ l. h (record { sfits = subst (λ k. n < 2 ^ k) (sym e) (ltb-true n (2 ^ (b - 1)) l) }))

pub u128_tried : (target : TargetType) (x : Ipld) (r : Converted ℕ) → Tried {N = ℕ} (λ n r. OkIff r (pos 0 ≤ℤ n) (unsigned_abs n)) target (tree_of x) r
    → Converts (λ n. n) (integer_within not_negative target) x r
u128_tried target x r h = number_tried (λ n. pos 0 ≤ℤ n) unsigned_abs not_negative target non_negative negative (tree_of x) r h

pub unsigned_tried : (target : TargetType) (b k : ℕ) (x : Ipld) (r : Converted ℕ) → Tried {N = ℕ} (λ n r. OkIff r ((pos 0 ≤ℤ n) × (n <ℤ pos k)) (unsigned_abs n)) target (tree_of x) r
    → k ≡ 2 ^ b → Converts (λ n. n) (integer_within (unsigned_at b) target) x r
unsigned_tried target b k x r h e = number_tried (λ n. (pos 0 ≤ℤ n) × (n <ℤ pos k)) unsigned_abs (unsigned_at b) target (below k b e) (not_below k b e) (tree_of x) r h

pub signed_tried : (target : TargetType) (w : Width) (b : ℕ) (x : Ipld) (r : Converted ℤ) → Tried {N = ℤ} (λ n r. OkIff r (FitsSigned w n) n) target (tree_of x) r
    → hbits w ≡ b - 1 → Converts (λ n. n) (integer_within (signed_at b) target) x r
signed_tried target w b x r h e = number_tried (FitsSigned w) (λ n. n) (signed_at b) target (signed w b e) (not_signed w b e) (tree_of x) r h
