-- Laws for use in ghost members: the image law of every form of type, from the laws of its parts.
-- They are here since a ghost member may cite only its own crate's specs/. Custom types cite them
-- too.
use Rattle.std.proofs.Common.{◌≡◌, ◌==◌, ℕ, suc, length, ℤ, pos, negsuc, ◌^◌, ◌-◌, nat_lt, Bool, true, false, cond, List, [], ◌∷◌, map, Option, Some, None, option_map, option_and_then, string_bytes, encode_utf8, chars, append-nil, refl, ap, ap₂, sym, subst, ◌∙◌}
use Rattle.std.proofs.lemmas.List.{length-map}
use Rattle.std.proofs.lemmas.Str.{chars-encodes}
use Rattle.std.specs.Prelude.{⊤}
use Rattle.std.specs.Str.{all_scalars}
use Rattle.ipld_tree.specs.Tree.{Tree, null, boolean, integer, text, bytes, list, entries, link, Items, Members, no_members, member}
use Rattle.ipld_tree.specs.TreeOf.{as_items}
use Rattle.ipld_tree.specs.Convert.{boolean_in, integer_in, text_in, bytes_in, link_in, list_in}
use Rattle.ipld_cid.specs.Cid.{Link}
use Rattle.ipld_ser.specs.Image.{both}
use Rattle.ipld_ser.specs.Scalars.{unsigned_image, signed_image, char_image}
use Rattle.ipld_ser.specs.Composites.{option_image, all_of, list_of, list_image, array_image, image_at, images_under, keyed_image, map_image}
use Rattle.ipld_ser.specs.Keys.{any_text}
use Rattle.ipld_de.specs.Scalars.{unsigned_reading, signed_reading, not_negative_reading, char_reading, only_char}
use Rattle.ipld_de.specs.Composites.{option_reading, read_all, list_reading, exactly, array_reading, read_end, read_part, tuple_reading, reading_at, read_entries, keyed_reading, keyed_contents, map_reading, entry_contents}
use Rattle.ipld_de.specs.Law.{ReadsBack, RoundTrip, OptionPlain, ListPlain, EntriesPlain}

-- ---- types whose values read back as they are

-- A type round-trips if it reads every image as the contents of the value, and the contents
-- determine the image.
pub exact_round_trip : {V C : Type 0} {image : V → Option Tree} {contents : V → C} {reads : Tree → Option C}
    → ((v : V) (t : Tree) → image v ≡ Some t → reads t ≡ Some (contents v)) → ((v w : V) → contents w ≡ contents v → image w ≡ image v)
    → RoundTrip image contents reads (λ v. ⊤)
exact_round_trip {contents = contents} exact fixed = record {
  back = λ v t is. record { reading = contents v; read = exact v t is; same_image = λ w same. fixed v w same ∙ is; same = λ _. refl };
}

-- A type around another round-trips if the other does.
pub around_round_trip : {V W C : Type 0} {image : V → Option Tree} {contents : V → C} {reads : Tree → Option C} {plain : V → Type 0}
    → (inner : W → V) → RoundTrip image contents reads plain → RoundTrip (λ w. image (inner w)) (λ w. contents (inner w)) reads (λ w. plain (inner w))
around_round_trip inner law = record {
  back = λ w t is. let r = law.back (inner w) t is in
      record { reading = r.reading; read = r.read; same_image = λ x same. r.same_image (inner x) same; same = r.same };
}

-- A type round-trips if every value is written as the tree of its contents, and this tree is read
-- as these contents.
pub always_round_trip : {V C : Type 0} {contents : V → C} (tree : C → Tree) (reads : Tree → Option C) → ((c : C) → reads (tree c) ≡ Some c)
    → RoundTrip (λ v. Some (tree (contents v))) contents reads (λ v. ⊤)
always_round_trip {contents = contents} tree reads reads_it = exact_round_trip
    (λ v t is. let same : tree (contents v) ≡ t = cc in ap reads (sym same) ∙ reads_it (contents v))
    (λ v w same. ap (λ c. Some (tree c)) same)

-- A type whose values are never written round-trips.
pub never_round_trip : {V C : Type 0} {contents : V → C} {reads : Tree → Option C} → RoundTrip (λ (v : V). None) contents reads (λ v. ⊤)
never_round_trip = exact_round_trip (λ v t is. absurd cc) (λ v w same. refl)

-- An image that is written if a test passes is read as the contents.
written_under : {S C : Type 0} (b : Bool) (s t : S) (reads : S → Option C) (c : C) → reads s ≡ cond b (Some c) None → cond b (Some s) None ≡ Some t → reads t ≡ Some c
written_under true s t reads c reads_it is = let same : s ≡ t = cc in ap reads (sym same) ∙ reads_it
written_under false s t reads c reads_it is = absurd cc

pub unsigned_round_trip : (bits : ℕ) → RoundTrip (unsigned_image bits) (λ n. n) (unsigned_reading bits) (λ n. ⊤)
unsigned_round_trip bits = exact_round_trip
    (λ n t is. written_under (nat_lt n (2 ^ bits)) (integer (pos n)) t (unsigned_reading bits) n refl is)
    (λ v w same. ap (unsigned_image bits) same)

signed_exact : (bits : ℕ) (n : ℤ) (t : Tree) → signed_image bits n ≡ Some t → signed_reading bits t ≡ Some n
signed_exact bits (pos n) t is = written_under (nat_lt n (2 ^ (bits - 1))) (integer (pos n)) t (signed_reading bits) (pos n) refl is
signed_exact bits (negsuc n) t is = written_under (nat_lt n (2 ^ (bits - 1))) (integer (negsuc n)) t (signed_reading bits) (negsuc n) refl is

pub signed_round_trip : (bits : ℕ) → RoundTrip (signed_image bits) (λ n. n) (signed_reading bits) (λ n. ⊤)
signed_round_trip bits = exact_round_trip (signed_exact bits) (λ v w same. ap (signed_image bits) same)

not_negative_exact : (b : Bool) (n : ℕ) (t : Tree) → cond b (Some (integer (pos n))) None ≡ Some t → not_negative_reading t ≡ Some n
not_negative_exact true n t is = let same : integer (pos n) ≡ t = cc in ap not_negative_reading (sym same)
not_negative_exact false n t is = absurd cc

-- An unsigned integer that is written in `bits` bits and read in any size round-trips.
pub not_negative_round_trip : (bits : ℕ) → RoundTrip (unsigned_image bits) (λ n. n) not_negative_reading (λ n. ⊤)
not_negative_round_trip bits = exact_round_trip
    (λ n t is. not_negative_exact (nat_lt n (2 ^ bits)) n t is)
    (λ v w same. ap (unsigned_image bits) same)

whole_under : (b : Bool) (n : ℤ) (t : Tree) → cond b (Some (integer n)) None ≡ Some t → integer_in t ≡ Some n
whole_under true n t is = let same : integer n ≡ t = cc in ap integer_in (sym same)
whole_under false n t is = absurd cc

whole_exact : (bits : ℕ) (n : ℤ) (t : Tree) → signed_image bits n ≡ Some t → integer_in t ≡ Some n
whole_exact bits (pos n) t is = whole_under (nat_lt n (2 ^ (bits - 1))) (pos n) t is
whole_exact bits (negsuc n) t is = whole_under (nat_lt n (2 ^ (bits - 1))) (negsuc n) t is

-- A signed integer that is written in `bits` bits and read in any size round-trips.
pub whole_round_trip : (bits : ℕ) → RoundTrip (signed_image bits) (λ n. n) integer_in (λ n. ⊤)
whole_round_trip bits = exact_round_trip (whole_exact bits) (λ v w same. ap (signed_image bits) same)

-- Bools round-trip, and so do types that are written as strings, bytes, links or trees.
pub boolean_round_trip : RoundTrip (λ b. Some (boolean b)) (λ b. b) boolean_in (λ b. ⊤)
boolean_round_trip = always_round_trip {contents = λ b. b} boolean boolean_in (λ b. refl)

pub text_round_trip : {V : Type 0} → (encoded : V → List ℕ) → RoundTrip (λ v. Some (text (encoded v))) encoded text_in (λ v. ⊤)
text_round_trip encoded = always_round_trip {contents = encoded} text text_in (λ s. refl)

pub bytes_round_trip : {V : Type 0} → (held : V → List ℕ) → RoundTrip (λ v. Some (bytes (held v))) held bytes_in (λ v. ⊤)
bytes_round_trip held = always_round_trip {contents = held} bytes bytes_in (λ b. refl)

pub link_round_trip : {V : Type 0} → (cid : V → Link) → RoundTrip (λ v. Some (link (cid v))) cid link_in (λ v. ⊤)
link_round_trip cid = always_round_trip {contents = cid} link link_in (λ l. refl)

pub tree_round_trip : {V : Type 0} → (seen : V → Tree) → RoundTrip (λ v. Some (seen v)) seen Some (λ v. ⊤)
tree_round_trip seen = always_round_trip {contents = seen} (λ t. t) Some (λ t. refl)

-- ---- options

something_written : {V C : Type 0} (image : V → Option Tree) (contents : V → C) (reading : C) (t : Tree)
    → ((w : V) → contents w ≡ reading → image w ≡ Some t) → (o : Option V) → option_map contents o ≡ Some reading → option_image image o ≡ Some t
something_written image contents reading t same None is = absurd cc
something_written image contents reading t same (Some w) is = same w cc

nothing_written : {V C : Type 0} (image : V → Option Tree) (contents : V → C) (o : Option V) → option_map contents o ≡ None → option_image image o ≡ Some null
nothing_written image contents None is = refl
nothing_written image contents (Some w) is = absurd cc

something_round_trip : {V C : Type 0} {image : V → Option Tree} {contents : V → C} {reads : Tree → Option C} {plain : V → Type 0} (v : V) (t : Tree)
    → option_reading reads t ≡ option_map Some (reads t) → ReadsBack image contents reads plain v t
    → ReadsBack (option_image image) (option_map contents) (option_reading reads) (OptionPlain image plain) (Some v) t
something_round_trip {image = image} {contents = contents} v t inner r = record {
  reading = Some r.reading;
  read = inner ∙ ap (option_map Some) r.read;
  same_image = something_written image contents r.reading t r.same_image;
  same = λ plain. ap Some (r.same plain.0);
}

option_reading_round_trip : {V C : Type 0} {image : V → Option Tree} {contents : V → C} {reads : Tree → Option C} {plain : V → Type 0}
    → RoundTrip image contents reads plain → (o : Option V) (t : Tree) → option_image image o ≡ Some t
    → ReadsBack (option_image image) (option_map contents) (option_reading reads) (OptionPlain image plain) o t
option_reading_round_trip {image = image} {contents = contents} {reads = reads} {plain = plain} law None t is =
    let same : null ≡ t = cc in
    subst (λ u. ReadsBack (option_image image) (option_map contents) (option_reading reads) (OptionPlain image plain) None u) same
    (record { reading = None; read = refl; same_image = nothing_written image contents; same = λ _. refl })
option_reading_round_trip {image = image} {contents = contents} law (Some v) null is =
    record { reading = None; read = refl; same_image = nothing_written image contents; same = λ plain. absurd (plain.1 is) }
option_reading_round_trip law (Some v) (boolean b) is = something_round_trip v (boolean b) refl (law.back v (boolean b) is)
option_reading_round_trip law (Some v) (integer n) is = something_round_trip v (integer n) refl (law.back v (integer n) is)
option_reading_round_trip law (Some v) (text s) is = something_round_trip v (text s) refl (law.back v (text s) is)
option_reading_round_trip law (Some v) (bytes b) is = something_round_trip v (bytes b) refl (law.back v (bytes b) is)
option_reading_round_trip law (Some v) (list ts) is = something_round_trip v (list ts) refl (law.back v (list ts) is)
option_reading_round_trip law (Some v) (entries ms) is = something_round_trip v (entries ms) refl (law.back v (entries ms) is)
option_reading_round_trip law (Some v) (link l) is = something_round_trip v (link l) refl (law.back v (link l) is)

pub option_round_trip : {V C : Type 0} {image : V → Option Tree} {contents : V → C} {reads : Tree → Option C} {plain : V → Type 0}
    → RoundTrip image contents reads plain → RoundTrip (option_image image) (option_map contents) (option_reading reads) (OptionPlain image plain)
option_round_trip law = record { back = option_reading_round_trip law }

char_exact : (b : Bool) (c : ℕ) (t : Tree) → all_scalars (c ∷ []) ≡ b → cond b (Some (text (encode_utf8 c))) None ≡ Some t → char_reading t ≡ Some c
char_exact false c t scalar is = absurd cc
char_exact true c t scalar is =
    let same : text (encode_utf8 c) ≡ t = cc in
    ap char_reading (sym same) ∙ ap only_char (ap chars (sym (append-nil (encode_utf8 c))) ∙ chars-encodes (c ∷ []) scalar)

pub char_round_trip : RoundTrip char_image (λ c. c) char_reading (λ c. ⊤)
char_round_trip = exact_round_trip (λ c t is. char_exact (all_scalars (c ∷ [])) c t refl is) (λ v w same. ap char_image same)

-- ---- two parts that are there

record Parts {A B C : Type 0} (f : A → B → C) (o : Option A) (p : Option B) (c : C) : Type 0 where
  pub left : A
  pub right : B
  pub has_left : o ≡ Some left
  pub has_right : p ≡ Some right
  pub joined : f left right ≡ c

parts_of : {A B C : Type 0} (f : A → B → C) (o : Option A) (p : Option B) (c : C) → both f o p ≡ Some c → Parts f o p c
parts_of f None p c is = absurd cc
parts_of f (Some a) None c is = absurd cc
parts_of f (Some a) (Some b) c is = record { left = a; right = b; has_left = refl; has_right = refl; joined = cc }

both_are : {A B C : Type 0} (f : A → B → C) (o : Option A) (p : Option B) (a : A) (b : B) → o ≡ Some a → p ≡ Some b → both f o p ≡ Some (f a b)
both_are f o p a b left right = rw (left, right) refl

-- ---- lists

-- True if every value whose parts all have images reads back from these images.
pub record PartsRoundTrip {V C : Type 0} (images : V → List (Option Tree)) (contents : V → C) (reads : Items → Option C) (plain : V → Type 0) : Type 0 where
  pub back : (v : V) (ts : List Tree) → all_of (images v) ≡ Some ts → ReadsBack (λ w. all_of (images w)) contents (λ us. reads (as_items us)) plain v ts

listed : (o : Option (List Tree)) (t : Tree) → option_map (λ ts. list (as_items ts)) o ≡ Some t → (ts : List Tree) × (o ≡ Some ts) × (list (as_items ts) ≡ t)
listed None t is = absurd cc
listed (Some ts) t is = (ts, refl, cc)

-- If values read back from the images of their parts, they read back from the list of these images.
pub list_of_round_trip : {V C : Type 0} {images : V → List (Option Tree)} {contents : V → C} {reads : Items → Option C} {plain : V → Type 0}
    → PartsRoundTrip images contents reads plain → RoundTrip (λ v. list_of (images v)) contents (λ t. option_and_then reads (list_in t)) plain
list_of_round_trip {images = images} {contents = contents} {reads = reads} {plain = plain} parts = record {
  back = λ v t is.
      let l = listed (all_of (images v)) t is in
      let r = parts.back v l.0 l.1 in
      subst (λ u. ReadsBack (λ w. list_of (images w)) contents (λ u. option_and_then reads (list_in u)) plain v u) l.2
      (record {
        reading = r.reading;
        read = r.read;
        same_image = λ w same. ap (option_map (λ ts. list (as_items ts))) (r.same_image w same);
        same = r.same;
      });
}

elements_written : {V C : Type 0} (image : V → Option Tree) (contents : V → C) (c : C) (cs : List C) (t : Tree) (ts : List Tree)
    → ((w : V) → contents w ≡ c → image w ≡ Some t) → ((ws : List V) → map contents ws ≡ cs → all_of (map image ws) ≡ Some ts)
    → (ws : List V) → map contents ws ≡ c ∷ cs → all_of (map image ws) ≡ Some (t ∷ ts)
elements_written image contents c cs t ts first rest [] is = absurd cc
elements_written image contents c cs t ts first rest (w ∷ ws) is =
    both_are ◌∷◌ (image w) (all_of (map image ws)) t ts (first w cc) (rest ws cc)

none_written : {V C : Type 0} (image : V → Option Tree) (contents : V → C) (ws : List V) → map contents ws ≡ [] → all_of (map image ws) ≡ Some []
none_written image contents [] is = refl
none_written image contents (w ∷ ws) is = absurd cc

elements_round_trip : {V C : Type 0} {image : V → Option Tree} {contents : V → C} {reads : Tree → Option C} {plain : V → Type 0}
    → RoundTrip image contents reads plain → (vs : List V) (ts : List Tree) → all_of (map image vs) ≡ Some ts
    → ReadsBack (λ ws. all_of (map image ws)) (map contents) (λ us. read_all reads (as_items us)) (ListPlain plain) vs ts
elements_round_trip {image = image} {contents = contents} {reads = reads} {plain = plain} law [] ts is =
    let same : [] ≡ ts = cc in
    subst (λ us. ReadsBack (λ ws. all_of (map image ws)) (map contents) (λ us. read_all reads (as_items us)) (ListPlain plain) [] us) same
    (record { reading = []; read = refl; same_image = none_written image contents; same = λ _. refl })
elements_round_trip {image = image} {contents = contents} {reads = reads} {plain = plain} law (v ∷ vs) ts is =
    let p = parts_of ◌∷◌ (image v) (all_of (map image vs)) ts is in
    let first = law.back v p.left p.has_left in
    let rest = elements_round_trip law vs p.right p.has_right in
    subst (λ us. ReadsBack (λ ws. all_of (map image ws)) (map contents) (λ us. read_all reads (as_items us)) (ListPlain plain) (v ∷ vs) us) p.joined
    (record {
      reading = first.reading ∷ rest.reading;
      read = both_are ◌∷◌ (reads p.left) (read_all reads (as_items p.right)) first.reading rest.reading first.read rest.read;
      same_image = elements_written image contents first.reading rest.reading p.left p.right first.same_image rest.same_image;
      same = λ plain. ap₂ ◌∷◌ (first.same plain.0) (rest.same plain.1);
    })

element_parts : {V C : Type 0} {image : V → Option Tree} {contents : V → C} {reads : Tree → Option C} {plain : V → Type 0}
    → RoundTrip image contents reads plain → PartsRoundTrip (λ vs. map image vs) (map contents) (read_all reads) (ListPlain plain)
element_parts law = record { back = elements_round_trip law }

pub list_round_trip : {V C : Type 0} {image : V → Option Tree} {contents : V → C} {reads : Tree → Option C} {plain : V → Type 0}
    → RoundTrip image contents reads plain → RoundTrip (list_image image) (map contents) (list_reading reads) (ListPlain plain)
list_round_trip law = list_of_round_trip (element_parts law)

-- ---- tuples

-- A tuple without parts reads back.
pub end_parts : PartsRoundTrip (λ (v : Unit {0}). []) (λ v. v) read_end (λ v. ⊤)
end_parts = record {
  back = λ v ts is.
      let none : [] ≡ ts = cc in
      subst (λ us. ReadsBack (λ (w : Unit {0}). all_of []) (λ w. w) (λ us. read_end (as_items us)) (λ w. ⊤) v us) none
      (record { reading = tt; read = refl; same_image = λ w same. refl; same = λ plain. refl });
}

-- A part followed by others reads back if its type round-trips and the others read back.
pub first_part : {V W C D : Type 0} {image : V → Option Tree} {contents : V → C} {reads : Tree → Option C} {plain : V → Type 0}
    {images : W → List (Option Tree)} {others : W → D} {reads_others : Items → Option D} {plain_others : W → Type 0}
    → RoundTrip image contents reads plain → PartsRoundTrip images others reads_others plain_others
    → PartsRoundTrip (λ (v : V × W). image v.0 ∷ images v.1) (λ v. (contents v.0, others v.1)) (read_part reads reads_others) (λ v. plain v.0 × plain_others v.1)
first_part {V = V} {W = W} {C = C} {D = D} {image = image} {contents = contents} {reads = reads} {plain = plain} {images = images} {others = others} {reads_others = reads_others} {plain_others = plain_others} law parts = record {
  back = λ v ts is.
      let p = parts_of ◌∷◌ (image v.0) (all_of (images v.1)) ts is in
      let r = law.back v.0 p.left p.has_left in
      let s = parts.back v.1 p.right p.has_right in
      subst (λ us. ReadsBack (λ (w : V × W). all_of (image w.0 ∷ images w.1)) (λ w. (contents w.0, others w.1)) (λ us. read_part reads reads_others (as_items us)) (λ w. plain w.0 × plain_others w.1) v us) p.joined
      (record {
        reading = (r.reading, s.reading);
        read = both_are (λ (c : C) (d : D). (c, d)) (reads p.left) (reads_others (as_items p.right)) r.reading s.reading r.read s.read;
        same_image = λ w same.
            both_are ◌∷◌ (image w.0) (all_of (images w.1)) p.left p.right (r.same_image w.0 (ap (λ z. z.0) same)) (s.same_image w.1 (ap (λ z. z.1) same));
        same = λ plain. ap₂ (λ (c : C) (d : D). (c, d)) (r.same plain.0) (s.same plain.1);
      });
}

-- A tuple round-trips if its parts read back.
pub tuple_round_trip : {V W C : Type 0} {images : V → List (Option Tree)} {contents : V → C} {reads : Items → Option C} {plain : V → Type 0}
    → (parts : W → V) → PartsRoundTrip images contents reads plain
    → RoundTrip (λ w. list_of (images (parts w))) (λ w. contents (parts w)) (tuple_reading reads) (λ w. plain (parts w))
tuple_round_trip parts law = around_round_trip parts (list_of_round_trip law)

-- The image law holds for another condition of plain values, `other`, if it implies the first.
pub plainly : {V C : Type 0} {image : V → Option Tree} {contents : V → C} {reads : Tree → Option C} {plain : V → Type 0} → (other : V → Type 0) → ((v : V) → other v → plain v)
    → RoundTrip image contents reads plain → RoundTrip image contents reads other
plainly other restated law = record {
  back = λ v t is. let r = law.back v t is in
      record { reading = r.reading; read = r.read; same_image = r.same_image; same = λ plain. r.same (restated v plain) };
}

-- ---- maps

-- If a tested option has a value, the test passed, and the option itself has this value.
under_test : {A : Type 0} (b : Bool) (o : Option A) (a : A) → cond b o None ≡ Some a → (b ≡ true) × (o ≡ Some a)
under_test true o a is = (refl, is)
under_test false o a is = absurd cc

tested : {A : Type 0} (b : Bool) (o : Option A) (a : A) → b ≡ true → o ≡ Some a → cond b o None ≡ Some a
tested true o a holds is = is
tested false o a holds is = absurd cc

module _ {K V C : Type 0} (text_of : K → List ℕ) (is_key : List ℕ → Bool) (image : V → Option Tree) (contents : V → C) where
  member_written : (k : List ℕ) (c : C) (cs : List (List ℕ × C)) (t : Tree) (ms : Members) → is_key k ≡ true
      → ((w : V) → contents w ≡ c → image w ≡ Some t) → ((ws : List (K × V)) → keyed_contents text_of contents ws ≡ cs → images_under text_of is_key image ws ≡ Some ms)
      → (ws : List (K × V)) → keyed_contents text_of contents ws ≡ (k, c) ∷ cs → images_under text_of is_key image ws ≡ Some (member k t ms)
  member_written k c cs t ms key first rest [] is = absurd cc
  member_written k c cs t ms key first rest (w ∷ ws) is =
      let entry : ◌≡◌ {A = List ℕ × C} (text_of w.0, contents w.1) (k, c) = cc in
      let others : keyed_contents text_of contents ws ≡ cs = cc in
      let named : text_of w.0 ≡ k = ap (λ e. e.0) entry in
      both_are (member (text_of w.0)) (image_at is_key image (text_of w.0) w.1) (images_under text_of is_key image ws) t ms
      (tested (is_key (text_of w.0)) (image w.1) t (ap is_key named ∙ key) (first w.1 (ap (λ e. e.1) entry))) (rest ws others)
      ∙ ap (λ l. Some (member l t ms)) named

  nothing_under : (ws : List (K × V)) → keyed_contents text_of contents ws ≡ [] → images_under text_of is_key image ws ≡ Some no_members
  nothing_under [] is = refl
  nothing_under (w ∷ ws) is = absurd cc

members_round_trip : {K V C : Type 0} (text_of : K → List ℕ) (is_key : List ℕ → Bool) {image : V → Option Tree} {contents : V → C} {reads : Tree → Option C} {plain : V → Type 0}
    → RoundTrip image contents reads plain → (es : List (K × V)) (ms : Members) → images_under text_of is_key image es ≡ Some ms
    → ReadsBack (images_under text_of is_key image) (keyed_contents text_of contents) (read_entries is_key reads) (EntriesPlain plain) es ms
members_round_trip text_of is_key {image = image} {contents = contents} {reads = reads} {plain = plain} law [] ms is =
    let same : no_members ≡ ms = cc in
    subst (λ ls. ReadsBack (images_under text_of is_key image) (keyed_contents text_of contents) (read_entries is_key reads) (EntriesPlain plain) [] ls) same
    (record { reading = []; read = refl; same_image = nothing_under text_of is_key image contents; same = λ _. refl })
members_round_trip text_of is_key {image = image} {contents = contents} {reads = reads} {plain = plain} law (e ∷ es) ms is =
    let k = text_of e.0 in
    let p = parts_of (member k) (image_at is_key image k e.1) (images_under text_of is_key image es) ms is in
    let written = under_test (is_key k) (image e.1) p.left p.has_left in
    let first = law.back e.1 p.left written.1 in
    let rest = members_round_trip text_of is_key law es p.right p.has_right in
    subst (λ ls. ReadsBack (images_under text_of is_key image) (keyed_contents text_of contents) (read_entries is_key reads) (EntriesPlain plain) (e ∷ es) ls) p.joined
    (record {
      reading = (k, first.reading) ∷ rest.reading;
      read = both_are (λ c cs. (k, c) ∷ cs) (reading_at is_key reads k p.left) (read_entries is_key reads p.right) first.reading rest.reading (tested (is_key k) (reads p.left) first.reading written.0 first.read) rest.read;
      same_image = member_written text_of is_key image contents k first.reading rest.reading p.left p.right written.0 first.same_image rest.same_image;
      same = λ plain. ap₂ (λ c cs. (k, c) ∷ cs) (first.same plain.0) (rest.same plain.1);
    })

mapped : (o : Option Members) (t : Tree) → option_map entries o ≡ Some t → (ms : Members) × (o ≡ Some ms) × (entries ms ≡ t)
mapped None t is = absurd cc
mapped (Some ms) t is = (ms, refl, cc)

-- A map whose keys are written as texts round-trips if its values do.
pub keyed_round_trip : {K V C : Type 0} (text_of : K → List ℕ) (is_key : List ℕ → Bool) {image : V → Option Tree} {contents : V → C} {reads : Tree → Option C} {plain : V → Type 0}
    → RoundTrip image contents reads plain → RoundTrip (keyed_image text_of is_key image) (keyed_contents text_of contents) (keyed_reading is_key reads) (EntriesPlain plain)
keyed_round_trip text_of is_key {image = image} {contents = contents} {reads = reads} {plain = plain} law = record {
  back = λ es t is.
      let m = mapped (images_under text_of is_key image es) t is in
      let r = members_round_trip text_of is_key law es m.0 m.1 in
      subst (λ u. ReadsBack (keyed_image text_of is_key image) (keyed_contents text_of contents) (keyed_reading is_key reads) (EntriesPlain plain) es u) m.2
      (record {
        reading = r.reading;
        read = r.read;
        same_image = λ w same. ap (option_map entries) (r.same_image w same);
        same = r.same;
      });
}

-- A map with string keys round-trips if its values do.
pub map_round_trip : {V C : Type 0} {image : V → Option Tree} {contents : V → C} {reads : Tree → Option C} {plain : V → Type 0}
    → RoundTrip image contents reads plain → RoundTrip (map_image image) (entry_contents contents) (map_reading reads) (EntriesPlain plain)
map_round_trip law = keyed_round_trip string_bytes any_text law

-- ---- arrays

as_many_images : (os : List (Option Tree)) (ts : List Tree) → all_of os ≡ Some ts → length ts ≡ length os
as_many_images [] ts is = let same : [] ≡ ts = cc in ap length (sym same)
as_many_images (o ∷ os) ts is = let p = parts_of ◌∷◌ o (all_of os) ts is in ap length (sym p.joined) ∙ ap suc (as_many_images os p.right p.has_right)

as_many_read : {C : Type 0} (reads : Tree → Option C) (ts : List Tree) (cs : List C) → read_all reads (as_items ts) ≡ Some cs → length cs ≡ length ts
as_many_read reads [] cs is = let same : [] ≡ cs = cc in ap length (sym same)
as_many_read reads (t ∷ ts) cs is = let p = parts_of ◌∷◌ (reads t) (read_all reads (as_items ts)) cs is in ap length (sym p.joined) ∙ ap suc (as_many_read reads ts p.right p.has_right)

-- An array of `n` elements round-trips if its elements do.
pub array_round_trip : {V C : Type 0} (n : ℕ) {image : V → Option Tree} {contents : V → C} {reads : Tree → Option C} {plain : V → Type 0}
    → RoundTrip image contents reads plain → RoundTrip (array_image n image) (map contents) (array_reading n reads) (ListPlain plain)
array_round_trip n {image = image} {contents = contents} {reads = reads} {plain = plain} law = record {
  back = λ vs t is.
      let written = under_test (length vs == n) (list_image image vs) t is in
      let m = listed (all_of (map image vs)) t written.1 in
      let r = elements_round_trip law vs m.0 m.1 in
      let long : length r.reading ≡ length vs = as_many_read reads m.0 r.reading r.read ∙ as_many_images (map image vs) m.0 m.1 ∙ length-map vs image in
      subst (λ u. ReadsBack (array_image n image) (map contents) (array_reading n reads) (ListPlain plain) vs u) m.2
      (record {
        reading = r.reading;
        read = ap (option_and_then (exactly n)) r.read ∙ tested (length r.reading == n) (Some r.reading) r.reading (ap (λ k. k == n) long ∙ written.0) refl;
        same_image = λ ws same.
            tested (length ws == n) (list_image image ws) (list (as_items m.0)) (ap (λ k. k == n) (sym (length-map ws contents) ∙ ap length same ∙ long) ∙ written.0)
            (ap (option_map (λ ts. list (as_items ts))) (r.same_image ws same));
        same = r.same;
      });
}

-- If every value of a type is plain, so is every list of them.
pub all_plain : {V : Type 0} (vs : List V) → ListPlain (λ v. ⊤) vs
all_plain [] = tt
all_plain (v ∷ vs) = (tt, all_plain vs)
