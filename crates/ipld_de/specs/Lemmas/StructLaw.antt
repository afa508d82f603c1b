-- Laws for use in ghost members: the image law of structs. A map of fields reads back by their
-- names, from only the laws of the fields. The laws require `named_apart` and `all_named` of the
-- names.
use Rattle.std.proofs.Common.{◌≡◌, ℕ, List, [], ◌∷◌, Bool, true, false, cond, Option, Some, None, option_map, option_and_then, if◌then◌else◌, Ordering, Less, Equal, Greater, is_eq, nat_cmp, refl, sym, ap, ap₂, subst, ◌∙◌}
use Rattle.std.proofs.lemmas.Map.Text.{is_eq-slice_cmp}
use Rattle.std.proofs.lemmas.Slice.Eq.{bytes_eq-Decides}
use Rattle.std.specs.Cmp.Lexicographic.{slice_cmp}
use Rattle.std.specs.Ordering.{match_ordering}
use Rattle.std.specs.Str.{bytes_eq}
use Rattle.ipld_tree.specs.Tree.{Tree, entries, Members, no_members, member}
use Rattle.ipld_tree.specs.Index.{value_at}
use Rattle.ipld_tree.specs.Put.{put}
use Rattle.ipld_ser.specs.Image.{both}
use Rattle.ipld_ser.specs.Composites.{option_image, put_fields, struct_image}
use Rattle.ipld_de.specs.Fields.{reading_or, named_or, field_named, optional_named, and_fields, struct_reading, only_fields, among, all_among}
use Rattle.ipld_de.specs.Law.{ReadsBack, RoundTrip, OptionPlain}
use Rattle.ipld_de.specs.Lemmas.LawOf.{option_round_trip}

-- ---- the members of a map of fields

-- True if every field has an image, and the map has this image under the field's name.
abbrev pub AreHeld : Members → List (List ℕ × Option Tree) → Type 0
AreHeld ms [] = Unit {0}
AreHeld ms (f ∷ fs) = ((t : Tree) × (f.1 ≡ Some t) × (value_at f.0 ms ≡ Some t)) × AreHeld ms fs

-- Returns true if no field has this name.
abbrev pub is_none_of : List ℕ → List (List ℕ × Option Tree) → Bool
is_none_of name [] = true
is_none_of name (f ∷ fs) = if bytes_eq name f.0 then false else is_none_of name fs

-- Returns true if no two fields have the same name. If the names are written out, `λ v. refl`
-- proves it.
abbrev pub named_apart : List (List ℕ × Option Tree) → Bool
named_apart [] = true
named_apart (f ∷ fs) = if is_none_of f.0 fs then named_apart fs else false

-- Returns true if every field has one of `names`. If these are written out, `λ v. refl` proves it.
abbrev pub all_named : List (List ℕ) → List (List ℕ × Option Tree) → Bool
all_named names [] = true
all_named names (f ∷ fs) = if among f.0 names then all_named names fs else false

-- ---- putting a value under a name

both_true : (a b : Bool) → cond a b false ≡ true → (a ≡ true) × (b ≡ true)
both_true true b is = (refl, is)
both_true false b is = absurd cc

not_here : (a b : Bool) → cond a false b ≡ true → (a ≡ false) × (b ≡ true)
not_here true b is = absurd cc
not_here false b is = (refl, is)

equal_key : (k l : List ℕ) → slice_cmp nat_cmp k l ≡ Equal → bytes_eq k l ≡ true
equal_key k l is = sym (is_eq-slice_cmp k l) ∙ ap is_eq is

same_key : (k l : List ℕ) → slice_cmp nat_cmp k l ≡ Equal → k ≡ l
same_key k l is = (bytes_eq-Decides k l).0 (equal_key k l is)

other_key : (k l : List ℕ) → slice_cmp nat_cmp k l ≡ Greater → bytes_eq k l ≡ false
other_key k l is = sym (is_eq-slice_cmp k l) ∙ ap is_eq is

itself : (k : List ℕ) → bytes_eq k k ≡ true
itself k = (bytes_eq-Decides k k).1 refl

put_at : (o : Ordering) (k l : List ℕ) (t u : Tree) (ms more : Members) → slice_cmp nat_cmp k l ≡ o → value_at k more ≡ Some t
    → value_at k (match_ordering o (member k t (member l u ms)) (member l t ms) (member l u more)) ≡ Some t
put_at Less k l t u ms more is deeper = ap (λ b. cond b (Some t) (value_at k (member l u ms))) (itself k)
put_at Equal k l t u ms more is deeper = ap (λ b. cond b (Some t) (value_at k ms)) (equal_key k l is)
put_at Greater k l t u ms more is deeper = ap (λ b. cond b (Some u) (value_at k more)) (other_key k l is) ∙ deeper

pub value_at-put : (k : List ℕ) (t : Tree) (ms : Members) → value_at k (put k t ms) ≡ Some t
value_at-put k t no_members = ap (λ b. cond b (Some t) None) (itself k)
value_at-put k t (member l u ms) = put_at (slice_cmp nat_cmp k l) k l t u ms (put k t ms) refl (value_at-put k t ms)

put_elsewhere : (o : Ordering) (n k l : List ℕ) (t u : Tree) (ms more : Members) → slice_cmp nat_cmp k l ≡ o → bytes_eq n k ≡ false → value_at n more ≡ value_at n ms
    → value_at n (match_ordering o (member k t (member l u ms)) (member l t ms) (member l u more)) ≡ value_at n (member l u ms)
put_elsewhere Less n k l t u ms more is other deeper = ap (λ b. cond b (Some t) (value_at n (member l u ms))) other
put_elsewhere Equal n k l t u ms more is other deeper =
    let apart : bytes_eq n l ≡ false = ap (bytes_eq n) (sym (same_key k l is)) ∙ other in
    ap (λ b. cond b (Some t) (value_at n ms)) apart ∙ sym (ap (λ b. cond b (Some u) (value_at n ms)) apart)
put_elsewhere Greater n k l t u ms more is other deeper = ap (cond (bytes_eq n l) (Some u)) deeper

pub value_at-put_other : (n k : List ℕ) (t : Tree) (ms : Members) → bytes_eq n k ≡ false → value_at n (put k t ms) ≡ value_at n ms
value_at-put_other n k t no_members other = ap (λ b. cond b (Some t) None) other
value_at-put_other n k t (member l u ms) other = put_elsewhere (slice_cmp nat_cmp k l) n k l t u ms (put k t ms) refl other (value_at-put_other n k t ms other)

-- If a field and the fields after it have been put, the field has an image, and the others are put
-- after it.
put_one : (o : Option Tree) (k : List ℕ) (fs : List (List ℕ × Option Tree)) (ms all : Members) → option_and_then (λ t. put_fields fs (put k t ms)) o ≡ Some all
    → (t : Tree) × (o ≡ Some t) × (put_fields fs (put k t ms) ≡ Some all)
put_one None k fs ms all is = absurd cc
put_one (Some t) k fs ms all is = (t, refl, is)

kept : (name : List ℕ) (fs : List (List ℕ × Option Tree)) (ms all : Members) → is_none_of name fs ≡ true → put_fields fs ms ≡ Some all → value_at name all ≡ value_at name ms
kept name [] ms all none is = let same : ms ≡ all = cc in ap (value_at name) (sym same)
kept name (f ∷ fs) ms all none is =
    let others = not_here (bytes_eq name f.0) (is_none_of name fs) none in
    let p = put_one f.1 f.0 fs ms all is in
    kept name fs (put f.0 p.0 ms) all others.1 p.2 ∙ value_at-put_other name f.0 p.0 ms others.0

fields_held : (fs : List (List ℕ × Option Tree)) (ms all : Members) → named_apart fs ≡ true → put_fields fs ms ≡ Some all → AreHeld all fs
fields_held [] ms all apart is = tt
fields_held (f ∷ fs) ms all apart is =
    let others = both_true (is_none_of f.0 fs) (named_apart fs) apart in
    let p = put_one f.1 f.0 fs ms all is in
    ((p.0, p.1, kept f.0 fs (put f.0 p.0 ms) all others.0 p.2 ∙ value_at-put f.0 p.0 ms), fields_held fs (put f.0 p.0 ms) all others.1 p.2)

-- ---- the law of some fields

pub record FieldsRead {V C : Type 0} (fields : V → List (List ℕ × Option Tree)) (contents : V → C) (reads : Members → Option C) (plain : V → Type 0) (v : V) (ms : Members) : Type 0 where
  pub reading : C
  pub read : reads ms ≡ Some reading
  pub same_fields : (w : V) → contents w ≡ reading → fields w ≡ fields v
  pub same : plain v → contents v ≡ reading

-- True if fields read back from every map that has their images under their names.
pub record FieldsRoundTrip {V C : Type 0} (fields : V → List (List ℕ × Option Tree)) (contents : V → C) (reads : Members → Option C) (plain : V → Type 0) : Type 0 where
  pub back : (v : V) (ms : Members) → AreHeld ms (fields v) → FieldsRead fields contents reads plain v ms

abbrev one_named : List ℕ → Option Tree → List (List ℕ × Option Tree)
one_named k o = (k, o) ∷ []

-- ---- a field reads the value under its name

named_held : {C : Type 0} (missing : Option C) (name : List ℕ) (reads : Tree → Option C) (ms : Members) (t : Tree) → value_at name ms ≡ Some t → named_or missing name reads ms ≡ reads t
named_held missing name reads ms t held = ap (reading_or missing reads) held

-- One field reads back if its type round-trips. It has a name, a getter, and contents for a missing
-- name, if any.
pub one_read : {V A C : Type 0} {image : A → Option Tree} {contents : A → C} {reads : Tree → Option C} {plain : A → Type 0} → (name : List ℕ) (get : V → A) (missing : Option C)
    → RoundTrip image contents reads plain → FieldsRoundTrip (λ v. (name, image (get v)) ∷ []) (λ v. contents (get v)) (named_or missing name reads) (λ v. plain (get v))
one_read {reads = reads} name get missing law = record {
  back = λ v ms held.
      let r = law.back (get v) held.0.0 held.0.1 in
      record {
        reading = r.reading;
        read = named_held missing name reads ms held.0.0 held.0.2 ∙ r.read;
        same_fields = λ w same. ap (one_named name) (r.same_image (get w) same ∙ sym held.0.1);
        same = r.same;
      };
}
  where
    one_named : List ℕ → Option Tree → List (List ℕ × Option Tree)
    one_named k o = (k, o) ∷ []

-- A field and others read back if its type round-trips and the others read back.
pub more_read : {V A C D : Type 0} {image : A → Option Tree} {contents : A → C} {reads : Tree → Option C} {plain : A → Type 0}
    {fields : V → List (List ℕ × Option Tree)} {others : V → D} {reads_others : Members → Option D} {plain_others : V → Type 0} → (name : List ℕ) (get : V → A) (missing : Option C)
    → RoundTrip image contents reads plain → FieldsRoundTrip fields others reads_others plain_others
    → FieldsRoundTrip (λ v. (name, image (get v)) ∷ fields v) (λ v. (contents (get v), others v)) (and_fields (named_or missing name reads) reads_others) (λ v. plain (get v) × plain_others v)
more_read {reads = reads} {reads_others = reads_others} name get missing law fields = record {
  back = λ v ms held.
      let r = law.back (get v) held.0.0 held.0.1 in
      let s = fields.back v ms held.1 in
      record {
        reading = (r.reading, s.reading);
        read = both_read (named_or missing name reads ms) (reads_others ms) r.reading s.reading (named_held missing name reads ms held.0.0 held.0.2 ∙ r.read) s.read;
        same_fields = λ w same. ap₂ (more_named name) (r.same_image (get w) (ap (λ z. z.0) same) ∙ sym held.0.1) (s.same_fields w (ap (λ z. z.1) same));
        same = λ plain. ap₂ (λ c d. (c, d)) (r.same plain.0) (s.same plain.1);
      };
}
  where
    more_named : List ℕ → Option Tree → List (List ℕ × Option Tree) → List (List ℕ × Option Tree)
    more_named k o fs = (k, o) ∷ fs

    both_read : {C D : Type 0} (o : Option C) (p : Option D) (c : C) (d : D) → o ≡ Some c → p ≡ Some d → both {C = C × D} (λ x y. (x, y)) o p ≡ Some (c, d)
    both_read o p c d is also = rw (is, also) refl

-- One required field reads back if its type round-trips.
pub one_field : {V A C : Type 0} {image : A → Option Tree} {contents : A → C} {reads : Tree → Option C} {plain : A → Type 0} → (name : List ℕ) (get : V → A)
    → RoundTrip image contents reads plain → FieldsRoundTrip (λ v. (name, image (get v)) ∷ []) (λ v. contents (get v)) (field_named name reads) (λ v. plain (get v))
one_field name get law = one_read name get None law

-- A required field and others read back if its type round-trips and the others read back.
pub more_fields : {V A C D : Type 0} {image : A → Option Tree} {contents : A → C} {reads : Tree → Option C} {plain : A → Type 0}
    {fields : V → List (List ℕ × Option Tree)} {others : V → D} {reads_others : Members → Option D} {plain_others : V → Type 0} → (name : List ℕ) (get : V → A)
    → RoundTrip image contents reads plain → FieldsRoundTrip fields others reads_others plain_others
    → FieldsRoundTrip (λ v. (name, image (get v)) ∷ fields v) (λ v. (contents (get v), others v)) (and_fields (field_named name reads) reads_others) (λ v. plain (get v) × plain_others v)
more_fields name get law fields = more_read name get None law fields

-- One optional field, whose name may be missing, reads back if the type of its content round-trips.
pub one_optional : {V A C : Type 0} {image : A → Option Tree} {contents : A → C} {reads : Tree → Option C} {plain : A → Type 0} → (name : List ℕ) (get : V → Option A)
    → RoundTrip image contents reads plain
    → FieldsRoundTrip (λ v. (name, option_image image (get v)) ∷ []) (λ v. option_map contents (get v)) (optional_named name reads) (λ v. OptionPlain image plain (get v))
one_optional name get law = one_read name get (Some None) (option_round_trip law)

-- An optional field and others read back if the type of its content round-trips and the others read
-- back.
pub more_optional : {V A C D : Type 0} {image : A → Option Tree} {contents : A → C} {reads : Tree → Option C} {plain : A → Type 0}
    {fields : V → List (List ℕ × Option Tree)} {others : V → D} {reads_others : Members → Option D} {plain_others : V → Type 0} → (name : List ℕ) (get : V → Option A)
    → RoundTrip image contents reads plain → FieldsRoundTrip fields others reads_others plain_others
    → FieldsRoundTrip (λ v. (name, option_image image (get v)) ∷ fields v) (λ v. (option_map contents (get v), others v)) (and_fields (optional_named name reads) reads_others)
    (λ v. OptionPlain image plain (get v) × plain_others v)
more_optional name get law fields = more_read name get (Some None) (option_round_trip law) fields

-- ---- the law of a struct

mapped : (o : Option Members) (t : Tree) → option_map entries o ≡ Some t → (ms : Members) × (o ≡ Some ms) × (entries ms ≡ t)
mapped None t is = absurd cc
mapped (Some ms) t is = (ms, refl, cc)

-- A struct round-trips if its fields read back and no two of them have the same name.
pub struct_round_trip : {V C : Type 0} {fields : V → List (List ℕ × Option Tree)} {contents : V → C} {reads : Members → Option C} {plain : V → Type 0}
    → FieldsRoundTrip fields contents reads plain → ((v : V) → named_apart (fields v) ≡ true)
    → RoundTrip (λ v. struct_image (fields v)) contents (struct_reading reads) plain
struct_round_trip {fields = fields} {contents = contents} {reads = reads} {plain = plain} law apart = record {
  back = λ v t is.
      let m = mapped (put_fields (fields v) no_members) t is in
      let r = law.back v m.0 (fields_held (fields v) no_members m.0 (apart v) m.1) in
      subst (λ u. ReadsBack (λ w. struct_image (fields w)) contents (struct_reading reads) plain v u) m.2
      (record {
        reading = r.reading;
        read = r.read;
        same_image = λ w same. ap struct_image (r.same_fields w same) ∙ ap (option_map entries) m.1;
        same = r.same;
      });
}

all_put_at : (o : Ordering) (names : List (List ℕ)) (k l : List ℕ) (t u : Tree) (ms more : Members) → among k names ≡ true → all_among names (member l u ms) ≡ true → all_among names more ≡ true
    → all_among names (match_ordering o (member k t (member l u ms)) (member l t ms) (member l u more)) ≡ true
all_put_at Less names k l t u ms more known all deeper = ap (λ b. cond b (all_among names (member l u ms)) false) known ∙ all
all_put_at Equal names k l t u ms more known all deeper = all
all_put_at Greater names k l t u ms more known all deeper =
    ap (λ b. cond b (all_among names more) false) (both_true (among l names) (all_among names ms) all).0 ∙ deeper

all_among-put : (names : List (List ℕ)) (k : List ℕ) (t : Tree) (ms : Members) → among k names ≡ true → all_among names ms ≡ true → all_among names (put k t ms) ≡ true
all_among-put names k t no_members known all = ap (λ b. cond b true false) known
all_among-put names k t (member l u ms) known all =
    all_put_at (slice_cmp nat_cmp k l) names k l t u ms (put k t ms) known all (all_among-put names k t ms known (both_true (among l names) (all_among names ms) all).1)

all_put : (names : List (List ℕ)) (fs : List (List ℕ × Option Tree)) (ms all : Members) → all_named names fs ≡ true → all_among names ms ≡ true → put_fields fs ms ≡ Some all
    → all_among names all ≡ true
all_put names [] ms all known so_far is = let same : ms ≡ all = cc in ap (all_among names) (sym same) ∙ so_far
all_put names (f ∷ fs) ms all known so_far is =
    let each = both_true (among f.0 names) (all_named names fs) known in
    let p = put_one f.1 f.0 fs ms all is in
    all_put names fs (put f.0 p.0 ms) all each.1 (all_among-put names f.0 p.0 ms each.0 so_far) p.2

-- A struct that rejects other names than `names` round-trips if its fields read back, no two of
-- them have the same name, and all have one of `names`.
pub strict_struct_round_trip : {V C : Type 0} {fields : V → List (List ℕ × Option Tree)} {contents : V → C} {reads : Members → Option C} {plain : V → Type 0} → (names : List (List ℕ))
    → FieldsRoundTrip fields contents reads plain → ((v : V) → named_apart (fields v) ≡ true) → ((v : V) → all_named names (fields v) ≡ true)
    → RoundTrip (λ v. struct_image (fields v)) contents (struct_reading (only_fields names reads)) plain
strict_struct_round_trip {fields = fields} {contents = contents} {reads = reads} {plain = plain} names law apart known = record {
  back = λ v t is.
      let m = mapped (put_fields (fields v) no_members) t is in
      let r = law.back v m.0 (fields_held (fields v) no_members m.0 (apart v) m.1) in
      subst (λ u. ReadsBack (λ w. struct_image (fields w)) contents (struct_reading (only_fields names reads)) plain v u) m.2
      (record {
        reading = r.reading;
        read = ap (λ b. cond b (reads m.0) None) (all_put names (fields v) no_members m.0 (known v) refl m.1) ∙ r.read;
        same_image = λ w same. ap struct_image (r.same_fields w same) ∙ ap (option_map entries) m.1;
        same = r.same;
      });
}
