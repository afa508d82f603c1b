-- Types described once: how their values are written and read, and that they round-trip. Every type
-- and every form has one name. `Serialize`, `Deserialize` and `Lawful` of a custom type consist of
-- the parts of such a description.
use Rattle.std.proofs.Common.{◌≡◌, ℕ, ℤ, List, [], ◌∷◌, map, Bool, true, false, Option, Some, None, option_map, String, Global, string_bytes, encode_utf8, refl}
use Rattle.std.specs.Prelude.{⊤}
use Rattle.std.specs.BTreeMap.{BTreeMap}
use Rattle.std.specs.declared.vec.Vec.{Vec}
use Rattle.ipld_cid.specs.Cid.{Link}
use Rattle.ipld_cid.specs.LinkOf.{link_of}
use Rattle.ipld_cid.specs.declared.cid.CidGeneric.{CidGeneric}
use Rattle.ipld_tree.specs.Tree.{Tree, boolean, text, bytes, link, Items, Members}
use Rattle.ipld_tree.specs.TreeOf.{tree_of}
use Rattle.ipld_tree.specs.Convert.{boolean_in, integer_in, text_in, bytes_in, link_in}
use Rattle.ipld_tree.specs.declared.ipld.Ipld.{Ipld}
use Rattle.ipld_ser.specs.declared.error.SerdeError.{SerdeError}
use Rattle.ipld_ser.specs.declared.error.SerdeError.TheVariants.{U128}
use Rattle.ipld_ser.specs.Image.{NoError}
use Rattle.ipld_ser.specs.Keys.{any_text, one_char}
use Rattle.ipld_ser.specs.Scalars.{unsigned_image, signed_image, char_image}
use Rattle.ipld_ser.specs.Composites.{option_image, list_image, array_image, keyed_image, list_of, struct_image, OptionError, ListError, MapError, StructError}
use Rattle.ipld_de.specs.Reading.{OtherKind}
use Rattle.ipld_de.specs.Scalars.{unsigned_reading, signed_reading, not_negative_reading, char_reading, NumberError, CharError, NotOneCharacter}
use Rattle.ipld_de.specs.Composites.{option_reading, list_reading, array_reading, keyed_reading, read_end, read_part, tuple_reading, TupleReadError, keyed_contents, OptionReadError, ListReadError, ArrayReadError, KeyedReadError, PartError, LeftoverError}
use Rattle.ipld_de.specs.Fields.{named_or, and_fields, struct_reading, Part, part, StructReadError}
use Rattle.ipld_de.specs.Law.{RoundTrip, OptionPlain, ListPlain, EntriesPlain}
use Rattle.ipld_de.specs.Lemmas.LawOf.{around_round_trip, option_round_trip, list_round_trip, array_round_trip, PartsRoundTrip, end_parts, first_part, tuple_round_trip, keyed_round_trip, unsigned_round_trip, signed_round_trip, whole_round_trip, not_negative_round_trip, char_round_trip, boolean_round_trip, text_round_trip, bytes_round_trip, link_round_trip, tree_round_trip}
use Rattle.ipld_de.specs.Lemmas.StructLaw.{FieldsRoundTrip, one_read, more_read, named_apart, struct_round_trip}

-- The description of a type: how its values are written and read, when they are plain, and the law
-- that they round-trip.
pub record Known (V : Type 0) : Type 1 where
  pub Contents : Type 0
  pub image : V → Option Tree
  pub write_error : V → SerdeError → Type 0
  pub contents : V → Contents
  pub reads : Tree → Option Contents
  pub read_error : Tree → SerdeError → Type 0
  pub plain : V → Type 0
  pub law : RoundTrip image contents reads plain

-- ---- scalars

abbrev pub bool : Known Bool
bool = record { Contents = Bool; image = λ b. Some (boolean b); write_error = NoError; contents = λ b. b; reads = boolean_in; read_error = OtherKind; plain = λ b. ⊤; law = boolean_round_trip }

abbrev unsigned : ℕ → Known ℕ
unsigned bits = record {
  Contents = ℕ;
  image = unsigned_image bits;
  write_error = NoError;
  contents = λ n. n;
  reads = unsigned_reading bits;
  read_error = NumberError;
  plain = λ n. ⊤;
  law = unsigned_round_trip bits;
}

abbrev signed : ℕ → Known ℤ
signed bits = record {
  Contents = ℤ;
  image = signed_image bits;
  write_error = NoError;
  contents = λ n. n;
  reads = signed_reading bits;
  read_error = NumberError;
  plain = λ n. ⊤;
  law = signed_round_trip bits;
}

abbrev pub u8 : Known ℕ
u8 = unsigned 8

abbrev pub u16 : Known ℕ
u16 = unsigned 16

abbrev pub u32 : Known ℕ
u32 = unsigned 32

abbrev pub u64 : Known ℕ
u64 = unsigned 64

abbrev pub usize : Known ℕ
usize = unsigned 64

abbrev pub i8 : Known ℤ
i8 = signed 8

abbrev pub i16 : Known ℤ
i16 = signed 16

abbrev pub i32 : Known ℤ
i32 = signed 32

abbrev pub i64 : Known ℤ
i64 = signed 64

abbrev pub isize : Known ℤ
isize = signed 64

abbrev pub i128 : Known ℤ
i128 = record {
  Contents = ℤ;
  image = signed_image 128;
  write_error = NoError;
  contents = λ n. n;
  reads = integer_in;
  read_error = OtherKind;
  plain = λ n. ⊤;
  law = whole_round_trip 128;
}

abbrev pub u128 : Known ℕ
u128 = record {
  Contents = ℕ;
  image = unsigned_image 127;
  write_error = λ n e. e ≡ U128;
  contents = λ n. n;
  reads = not_negative_reading;
  read_error = NumberError;
  plain = λ n. ⊤;
  law = not_negative_round_trip 127;
}

abbrev pub char : Known ℕ
char = record {
  Contents = ℕ;
  image = char_image;
  write_error = NoError;
  contents = λ c. c;
  reads = char_reading;
  read_error = CharError;
  plain = λ c. ⊤;
  law = char_round_trip;
}

abbrev pub string : Known (String Global)
string = record {
  Contents = List ℕ;
  image = λ s. Some (text (string_bytes s));
  write_error = NoError;
  contents = string_bytes;
  reads = text_in;
  read_error = OtherKind;
  plain = λ s. ⊤;
  law = text_round_trip string_bytes;
}

abbrev pub byte_buf : Known (List ℕ)
byte_buf = record {
  Contents = List ℕ;
  image = λ b. Some (bytes b);
  write_error = NoError;
  contents = λ b. b;
  reads = bytes_in;
  read_error = OtherKind;
  plain = λ b. ⊤;
  law = bytes_round_trip (λ b. b);
}

abbrev pub cid : Known (CidGeneric 64)
cid = record {
  Contents = Link;
  image = λ c. Some (link (link_of c));
  write_error = NoError;
  contents = link_of;
  reads = link_in;
  read_error = OtherKind;
  plain = λ c. ⊤;
  law = link_round_trip link_of;
}

abbrev pub ipld : Known Ipld
ipld = record {
  Contents = Tree;
  image = λ t. Some (tree_of t);
  write_error = NoError;
  contents = tree_of;
  reads = Some;
  read_error = NoError;
  plain = λ t. ⊤;
  law = tree_round_trip tree_of;
}

-- ---- forms

-- a type around a value of another, such as a newtype
abbrev pub around : {W V : Type 0} → (W → V) → Known V → Known W
around inner known = record {
  Contents = known.Contents;
  image = λ w. known.image (inner w);
  write_error = λ w. known.write_error (inner w);
  contents = λ w. known.contents (inner w);
  reads = known.reads;
  read_error = known.read_error;
  plain = λ w. known.plain (inner w);
  law = around_round_trip inner known.law;
}

abbrev pub option : {A : Type 0} → Known A → Known (Option A)
option known = record {
  Contents = Option known.Contents;
  image = option_image known.image;
  write_error = OptionError known.write_error;
  contents = option_map known.contents;
  reads = option_reading known.reads;
  read_error = OptionReadError known.read_error;
  plain = OptionPlain known.image known.plain;
  law = option_round_trip known.law;
}

abbrev pub vec : {A : Type 0} → Known A → Known (Vec A Global)
vec known = record {
  Contents = List known.Contents;
  image = λ v. list_image known.image v.items;
  write_error = λ v. ListError known.image known.write_error v.items;
  contents = λ v. map known.contents v.items;
  reads = list_reading known.reads;
  read_error = ListReadError known.reads known.read_error;
  plain = λ v. ListPlain known.plain v.items;
  law = around_round_trip (λ v. v.items) (list_round_trip known.law);
}

-- an array of `n` bytes, written as a list of numbers
abbrev pub byte_array : ℕ → Known (List ℕ)
byte_array n = record {
  Contents = List ℕ;
  image = array_image n (unsigned_image 8);
  write_error = ListError (unsigned_image 8) NoError;
  contents = map (λ b. b);
  reads = array_reading n (unsigned_reading 8);
  read_error = ArrayReadError (unsigned_reading 8) NumberError;
  plain = ListPlain (λ b. ⊤);
  law = array_round_trip n (unsigned_round_trip 8);
}

-- A map whose keys are written as texts by `text_of`. Reading accepts the texts that pass `is_key`,
-- and rejects others with `key_error`.
abbrev pub keyed_map : {K A : Type 0} → (K → List ℕ) → (List ℕ → Bool) → (List ℕ → SerdeError → Type 0) → Known A → Known (BTreeMap K A)
keyed_map text_of is_key key_error known = record {
  Contents = List (List ℕ × known.Contents);
  image = λ m. keyed_image text_of is_key known.image m.entries;
  write_error = λ m. MapError known.image known.write_error m.entries;
  contents = λ m. keyed_contents text_of known.contents m.entries;
  reads = keyed_reading is_key known.reads;
  read_error = KeyedReadError is_key key_error known.reads known.read_error;
  plain = λ m. EntriesPlain known.plain m.entries;
  law = around_round_trip (λ m. m.entries) (keyed_round_trip text_of is_key known.law);
}

-- a map with string keys
abbrev pub btree_map : {A : Type 0} → Known A → Known (BTreeMap (String Global) A)
btree_map known = keyed_map string_bytes any_text NoError known

-- a map with character keys
abbrev pub char_map : {A : Type 0} → Known A → Known (BTreeMap ℕ A)
char_map known = keyed_map encode_utf8 one_char NotOneCharacter known

-- ---- tuples

-- the parts of a tuple, in nested pairs: how they are written and read, one after another
pub record Parts (V : Type 0) : Type 1 where
  pub Contents : Type 0
  pub images : V → List (Option Tree)
  pub errors : V → List {1} (Option Tree × (SerdeError → Type 0))
  pub contents : V → Contents
  pub reads : Items → Option Contents
  pub read_error : Items → SerdeError → Type 0
  pub plain : V → Type 0
  pub law : PartsRoundTrip images contents reads plain

-- no parts
abbrev end : Parts (Unit {0})
end = record {
  Contents = Unit {0};
  images = λ v. [];
  errors = λ v. [];
  contents = λ v. v;
  reads = read_end;
  read_error = LeftoverError;
  plain = λ v. ⊤;
  law = end_parts;
}

-- a part followed by others
abbrev and_parts : {V W : Type 0} → Known V → Parts W → Parts (V × W)
and_parts known others = record {
  Contents = known.Contents × others.Contents;
  images = λ v. known.image v.0 ∷ others.images v.1;
  errors = λ v. (known.image v.0, known.write_error v.0) ∷ others.errors v.1;
  contents = λ v. (known.contents v.0, others.contents v.1);
  reads = read_part known.reads others.reads;
  read_error = PartError known.reads known.read_error others.read_error;
  plain = λ v. known.plain v.0 × others.plain v.1;
  law = first_part known.law others.law;
}

-- a tuple with these parts
abbrev tuple : {V W : Type 0} → (W → V) → Parts V → Known W
tuple parts known = record {
  Contents = known.Contents;
  image = λ v. list_of (known.images (parts v));
  write_error = λ v. StructError (known.errors (parts v));
  contents = λ v. known.contents (parts v);
  reads = tuple_reading known.reads;
  read_error = TupleReadError known.read_error;
  plain = λ v. known.plain (parts v);
  law = tuple_round_trip parts known.law;
}

abbrev pub pair : {A B : Type 0} → Known A → Known B → Known (A × B)
pair a b = tuple (λ v. (v.0, (v.1, tt))) (and_parts a (and_parts b end))

abbrev pub triple : {A B C : Type 0} → Known A → Known B → Known C → Known (A × B × C)
triple a b c = tuple (λ v. (v.0, (v.1, (v.2, tt)))) (and_parts a (and_parts b (and_parts c end)))

abbrev pub quadruple : {A B C D : Type 0} → Known A → Known B → Known C → Known D → Known (A × B × C × D)
quadruple a b c d = tuple (λ v. (v.0, (v.1, (v.2, (v.3, tt))))) (and_parts a (and_parts b (and_parts c (and_parts d end))))

abbrev pub tuple1 : {A : Type 0} → Known A → Known (record { 0 : A })
tuple1 a = tuple (λ v. (v.0, tt)) (and_parts a end)

abbrev pub tuple5 : {A B C D E : Type 0} → Known A → Known B → Known C → Known D → Known E → Known (A × B × C × D × E)
tuple5 a b c d e = tuple (λ v. (v.0, (v.1, (v.2, (v.3, (v.4, tt)))))) (and_parts a (and_parts b (and_parts c (and_parts d (and_parts e end)))))

abbrev pub tuple6 : {A B C D E F : Type 0} → Known A → Known B → Known C → Known D → Known E → Known F → Known (A × B × C × D × E × F)
tuple6 a b c d e f = tuple (λ v. (v.0, (v.1, (v.2, (v.3, (v.4, (v.5, tt))))))) (and_parts a (and_parts b (and_parts c (and_parts d (and_parts e (and_parts f end))))))

abbrev pub tuple7 : {A B C D E F G : Type 0} → Known A → Known B → Known C → Known D → Known E → Known F → Known G → Known (A × B × C × D × E × F × G)
tuple7 a b c d e f g = tuple (λ v. (v.0, (v.1, (v.2, (v.3, (v.4, (v.5, (v.6, tt)))))))) (and_parts a (and_parts b (and_parts c (and_parts d (and_parts e (and_parts f (and_parts g end)))))))

abbrev pub tuple8 : {A B C D E F G H : Type 0} → Known A → Known B → Known C → Known D → Known E → Known F → Known G → Known H → Known (A × B × C × D × E × F × G × H)
tuple8 a b c d e f g h = tuple (λ v. (v.0, (v.1, (v.2, (v.3, (v.4, (v.5, (v.6, (v.7, tt))))))))) (and_parts a (and_parts b (and_parts c (and_parts d (and_parts e (and_parts f (and_parts g (and_parts h end))))))))

abbrev pub tuple9 : {A B C D E F G H I : Type 0} → Known A → Known B → Known C → Known D → Known E → Known F → Known G → Known H → Known I → Known (A × B × C × D × E × F × G × H × I)
tuple9 a b c d e f g h i = tuple (λ v. (v.0, (v.1, (v.2, (v.3, (v.4, (v.5, (v.6, (v.7, (v.8, tt)))))))))) (and_parts a (and_parts b (and_parts c (and_parts d (and_parts e (and_parts f (and_parts g (and_parts h (and_parts i end)))))))))

abbrev pub tuple10 : {A B C D E F G H I J : Type 0} → Known A → Known B → Known C → Known D → Known E → Known F → Known G → Known H → Known I → Known J → Known (A × B × C × D × E × F × G × H × I × J)
tuple10 a b c d e f g h i j = tuple (λ v. (v.0, (v.1, (v.2, (v.3, (v.4, (v.5, (v.6, (v.7, (v.8, (v.9, tt))))))))))) (and_parts a (and_parts b (and_parts c (and_parts d (and_parts e (and_parts f (and_parts g (and_parts h (and_parts i (and_parts j end))))))))))

-- ---- structs

-- A field: its name, its getter, the description of its type, and the contents for a missing name,
-- if any.
pub record Field (V : Type 0) : Type 1 where
  pub name : List ℕ
  pub Got : Type 0
  pub get : V → Got
  pub known : Known Got
  pub missing : Option known.Contents

-- a field whose name is required
abbrev pub field : {V A : Type 0} → List ℕ → (V → A) → Known A → Field V
field {A = A} name get known = record {
  name = name;
  Got = A;
  get = get;
  known = known;
  missing = None;
}

-- an optional field, which is `None` if its name is missing
abbrev pub optional : {V A : Type 0} → List ℕ → (V → Option A) → Known A → Field V
optional {A = A} name get known = record {
  name = name;
  Got = Option A;
  get = get;
  known = option known;
  missing = Some None;
}

-- the names and the images of the fields
abbrev pub fields_of : {V : Type 0} → List {1} (Field V) → V → List (List ℕ × Option Tree)
fields_of [] v = []
fields_of (f ∷ fs) v = (f.name, f.known.image (f.get v)) ∷ fields_of fs v

-- the images and the errors of the fields
abbrev pub written : {V : Type 0} → List {1} (Field V) → V → List {1} (Option Tree × (SerdeError → Type 0))
written [] v = []
written (f ∷ fs) v = (f.known.image (f.get v), f.known.write_error (f.get v)) ∷ written fs v

-- the names of the fields
abbrev pub names_of : {V : Type 0} → List {1} (Field V) → List (List ℕ)
names_of [] = []
names_of (f ∷ fs) = f.name ∷ names_of fs

-- the readings and the errors of the fields
abbrev pub parts_of : {V : Type 0} → List {1} (Field V) → List {1} Part
parts_of [] = []
parts_of (f ∷ fs) = part f.known.reads f.known.read_error ∷ parts_of fs

-- the type of the contents of a field and of the fields after it, in nested pairs
abbrev ContentsFrom : {V : Type 0} → Field V → List {1} (Field V) → Type 0
ContentsFrom f [] = f.known.Contents
ContentsFrom f (g ∷ gs) = f.known.Contents × ContentsFrom g gs

abbrev contents_from : {V : Type 0} → (f : Field V) (fs : List {1} (Field V)) → V → ContentsFrom f fs
contents_from f [] v = f.known.contents (f.get v)
contents_from f (g ∷ gs) v = (f.known.contents (f.get v), contents_from g gs v)

abbrev reads_from : {V : Type 0} → (f : Field V) (fs : List {1} (Field V)) → Members → Option (ContentsFrom f fs)
reads_from f [] = named_or f.missing f.name f.known.reads
reads_from f (g ∷ gs) = and_fields (named_or f.missing f.name f.known.reads) (reads_from g gs)

abbrev PlainFrom : {V : Type 0} → Field V → List {1} (Field V) → V → Type 0
PlainFrom f [] v = f.known.plain (f.get v)
PlainFrom f (g ∷ gs) v = f.known.plain (f.get v) × PlainFrom g gs v

-- the type of the contents of the fields
abbrev pub ContentsOf : {V : Type 0} → List {1} (Field V) → Type 0
ContentsOf [] = Unit {0}
ContentsOf (f ∷ fs) = ContentsFrom f fs

abbrev pub contents_of : {V : Type 0} → (fs : List {1} (Field V)) → V → ContentsOf fs
contents_of [] v = tt
contents_of (f ∷ fs) v = contents_from f fs v

-- the reading of the fields from the entries of a map
abbrev pub reads_of : {V : Type 0} → (fs : List {1} (Field V)) → Members → Option (ContentsOf fs)
reads_of [] = λ ms. Some tt
reads_of (f ∷ fs) = reads_from f fs

-- True if the values of the fields are plain.
abbrev pub PlainOf : {V : Type 0} → List {1} (Field V) → V → Type 0
PlainOf [] v = ⊤
PlainOf (f ∷ fs) v = PlainFrom f fs v

fields_from : {V : Type 0} → (f : Field V) (fs : List {1} (Field V)) → FieldsRoundTrip (fields_of (f ∷ fs)) (contents_from f fs) (reads_from f fs) (PlainFrom f fs)
fields_from f [] = one_read f.name f.get f.missing f.known.law
fields_from f (g ∷ gs) = more_read f.name f.get f.missing f.known.law (fields_from g gs)

pub fields_round_trip : {V : Type 0} → (fs : List {1} (Field V)) → FieldsRoundTrip (fields_of fs) (contents_of fs) (reads_of fs) (PlainOf fs)
fields_round_trip [] = record { back = λ v ms held. record { reading = tt; read = refl; same_fields = λ w same. refl; same = λ plain. refl } }
fields_round_trip (f ∷ fs) = fields_from f fs

-- A struct with these fields. Reading ignores other names. `λ v. refl` proves that no two names are
-- equal.
abbrev pub structure : {V : Type 0} → (fs : List {1} (Field V)) → ((v : V) → named_apart (fields_of fs v) ≡ true) → Known V
structure fs apart = record {
  Contents = ContentsOf fs;
  image = λ v. struct_image (fields_of fs v);
  write_error = λ v. StructError (written fs v);
  contents = contents_of fs;
  reads = struct_reading (reads_of fs);
  read_error = StructReadError false (parts_of fs) (names_of fs);
  plain = PlainOf fs;
  law = struct_round_trip (fields_round_trip fs) apart;
}
