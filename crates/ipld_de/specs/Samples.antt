-- The sample enums: their images, their readings, and the proofs that they round-trip (serde's form
-- of an enum in the IPLD data model).
use Rattle.ipld_tree.specs.Tree.{Tree, boolean, text, Items, entries, no_members, member}
use Rattle.ipld_ser.specs.Builders.{variant_tree}
use Rattle.ipld_ser.specs.Composites.{list_of, struct_image}
use Rattle.ipld_ser.specs.Scalars.{unsigned_image}
use Rattle.ipld_de.specs.declared.samples.MyEnum.{MyEnum}
use Rattle.ipld_de.specs.declared.samples.MyEnum.TheVariants.{One, Two, Three}
use Rattle.ipld_de.specs.declared.samples.MyPair.{MyPair}
use Rattle.ipld_de.specs.declared.samples.MyPair.TheVariants as pairs
use Rattle.std.proofs.Common.{◌≡◌, ◌⊎◌, true, false, Ok, Err, [], ◌∷◌, ℕ, Bool, List, Option, Some, None, option_map, option_and_then, refl, if◌then◌else◌, codes, ap, ap₂, sym, ◌∙◌}
use Rattle.std.specs.Prelude.{⊤, nat_eq, ◌&&◌}
use Rattle.std.specs.Bool.{Decides}
use Rattle.std.specs.Cmp.{unsigned_Decides, booleans_Decides}
use Rattle.std.proofs.lemmas.Bool.Decides.{Decides-and, Decides-like}
use mathlib.Core.Bool.{beq}
use Rattle.std.specs.Result.{result_ok}
use Rattle.std.specs.Str.{bytes_eq}
use Rattle.ipld_tree.specs.Convert.{boolean_in}
use Rattle.ipld_de.specs.contracts.samples.MyEnumPartialEq.TheImpl as my_enum
use Rattle.ipld_de.specs.contracts.samples.MyPairPartialEq.TheImpl as my_pair
use Rattle.ipld_ser.specs.declared.error.SerdeError.{SerdeError}
use Rattle.ipld_ser.specs.declared.error.SerdeError.TheVariants.{VariantContent}
use Rattle.ipld_de.specs.Composites.{read_end, read_part, tuple_reading, PartError, LeftoverError}
use Rattle.ipld_de.specs.Faithful.{EqualByContents}
use Rattle.ipld_de.specs.Fields.{field_named, struct_reading, part, StructReadError}
use Rattle.ipld_de.specs.Forms.{unit_in, tuple_in}
use Rattle.ipld_de.specs.Law.{RoundTrip}
use Rattle.ipld_de.specs.Lemmas.LawOf.{exact_round_trip, unsigned_round_trip, boolean_round_trip, end_parts, first_part, tuple_round_trip}
use Rattle.ipld_de.specs.Enums.{enum_reading, variant_round_trip}
use Rattle.ipld_de.specs.Reading.{OtherKind, ContentError, IsCustom}
use Rattle.ipld_de.specs.Scalars.{unsigned_reading, NumberError}

-- the image of the sample enum
abbrev pub my_enum_image : MyEnum → Option Tree
my_enum_image One = Some (text (codes "One"))
my_enum_image (Two n) = option_map (variant_tree (codes "Two")) (unsigned_image 8 n)
my_enum_image (Three b) = option_map (variant_tree (codes "Three")) (struct_image ((codes "value", Some (boolean b)) ∷ []))

-- the image of the sample enum with a variant of two fields
abbrev pub my_pair_image : MyPair → Option Tree
my_pair_image (pairs.Two n b) = option_map (variant_tree (codes "Two")) (list_of (unsigned_image 8 n ∷ Some (boolean b) ∷ []))

-- the contents of the sample enum: the values themselves, which have no capacities
abbrev pub Variants : Type 0
Variants = MyEnum

-- the contents of the sample enum with a variant of two fields: the values themselves
abbrev pub Pairs : Type 0
Pairs = MyPair

abbrev pub my_enum_variant : List ℕ → Option Tree → Option MyEnum
my_enum_variant name content =
    if bytes_eq name (codes "One") then option_map (λ u. One) (result_ok (unit_in content))
    else if bytes_eq name (codes "Two") then option_map Two (option_and_then (unsigned_reading 8) content)
    else if bytes_eq name (codes "Three") then option_map Three (option_and_then (struct_reading (field_named (codes "value") boolean_in)) content)
    else None

-- the reading of the sample enum
abbrev pub my_enum_reading : Tree → Option MyEnum
my_enum_reading = enum_reading my_enum_variant

-- True if `e` is the error of a variant of the sample enum, by its name and its content.
abbrev pub MyEnumError : List ℕ → Option Tree → SerdeError → Type 0
MyEnumError name content e =
    ((bytes_eq name (codes "One") ≡ true) × (unit_in content ≡ Err e))
    ⊎ ((bytes_eq name (codes "One") ≡ false)
    × (((bytes_eq name (codes "Two") ≡ true) × ContentError VariantContent NumberError content e)
    ⊎ ((bytes_eq name (codes "Two") ≡ false)
    × (((bytes_eq name (codes "Three") ≡ true) × ContentError VariantContent (StructReadError false (part boolean_in OtherKind ∷ []) (codes "value" ∷ [])) content e)
    ⊎ ((bytes_eq name (codes "Three") ≡ false) × IsCustom (codes "unknown variant") e)))))

abbrev pub my_pair_variant : List ℕ → Option Tree → Option MyPair
my_pair_variant name content =
    if bytes_eq name (codes "Two") then option_map (λ p. pairs.Two p.0 p.1.0) (option_and_then (tuple_reading (read_part (unsigned_reading 8) (read_part boolean_in read_end))) content) else None

-- the reading of the sample enum with a variant of two fields
abbrev pub my_pair_reading : Tree → Option MyPair
my_pair_reading = enum_reading my_pair_variant

-- True if `e` is the error of the content of a variant of two fields. It is that of `tuple_in` if
-- the content is not a list of two items, and otherwise that of the first item that is not read.
abbrev pub TwoPartsError : Option Tree → SerdeError → Type 0
TwoPartsError content e = (tuple_in 2 content ≡ Err e)
    ⊎ ((ts : Items) × (tuple_in 2 content ≡ Ok ts) × PartError (unsigned_reading 8) NumberError (PartError boolean_in OtherKind LeftoverError) ts e)

-- True if `e` is the error of a variant of the sample enum with a variant of two fields, by its
-- name and its content.
abbrev pub MyPairError : List ℕ → Option Tree → SerdeError → Type 0
MyPairError name content e =
    ((bytes_eq name (codes "Two") ≡ true) × TwoPartsError content e) ⊎ ((bytes_eq name (codes "Two") ≡ false) × IsCustom (codes "unknown variant") e)

my_enum_exact : (v : MyEnum) (t : Tree) → my_enum_image v ≡ Some t → my_enum_reading t ≡ Some v
my_enum_exact One t is = let same : text (codes "One") ≡ t = cc in ap my_enum_reading (sym same)
my_enum_exact (Two n) t is =
    let b = variant_round_trip (unsigned_round_trip 8) (codes "Two") n t is in
    ap my_enum_reading (sym b.same_tree) ∙ ap (option_map Two) (b.content.read ∙ ap Some (sym (b.content.same tt)))
my_enum_exact (Three b) t is =
    let same : variant_tree (codes "Three") (entries (member (codes "value") (boolean b) no_members)) ≡ t = cc in ap my_enum_reading (sym same)

pub my_enum_round_trip : RoundTrip my_enum_image (λ v. v) my_enum_reading (λ v. ⊤)
my_enum_round_trip = exact_round_trip my_enum_exact (λ v w same. ap my_enum_image same)

my_pair_exact : (v : MyPair) (t : Tree) → my_pair_image v ≡ Some t → my_pair_reading t ≡ Some v
my_pair_exact (pairs.Two n b) t is =
    let v = variant_round_trip (tuple_round_trip (λ (v : ℕ × Bool). (v.0, (v.1, tt))) (first_part (unsigned_round_trip 8) (first_part boolean_round_trip end_parts))) (codes "Two") (n, b) t is in
    ap my_pair_reading (sym v.same_tree) ∙ ap (option_map (λ p. pairs.Two p.0 p.1.0)) (v.content.read ∙ ap Some (sym (v.content.same (tt, (tt, tt)))))

pub my_pair_round_trip : RoundTrip my_pair_image (λ v. v) my_pair_reading (λ v. ⊤)
my_pair_round_trip = exact_round_trip my_pair_exact (λ v w same. ap my_pair_image same)

-- ---- the enums are equal if and only if their contents are

my_enum_decides : (v w : MyEnum) → Decides (my_enum.eq-value.it v w) (v ≡ w)
my_enum_decides One One = (λ e. refl, λ e. refl)
my_enum_decides (Two m) (Two n) = Decides-like (nat_eq m n) (ap Two) (λ e. cc) (unsigned_Decides m n)
my_enum_decides (Three a) (Three b) = Decides-like (beq a b) (ap Three) (λ e. cc) (booleans_Decides a b)
my_enum_decides One (Two n) = (λ e. absurd cc, λ e. absurd cc)
my_enum_decides One (Three b) = (λ e. absurd cc, λ e. absurd cc)
my_enum_decides (Two m) One = (λ e. absurd cc, λ e. absurd cc)
my_enum_decides (Two m) (Three b) = (λ e. absurd cc, λ e. absurd cc)
my_enum_decides (Three a) One = (λ e. absurd cc, λ e. absurd cc)
my_enum_decides (Three a) (Two n) = (λ e. absurd cc, λ e. absurd cc)

pub my_enum_faithful : EqualByContents my_enum.eq-value.it (λ v. v)
my_enum_faithful = record { decides = my_enum_decides }

my_pair_decides : (v w : MyPair) → Decides (my_pair.eq-value.it v w) (v ≡ w)
my_pair_decides (pairs.Two m a) (pairs.Two n b) =
    Decides-like (nat_eq m n && beq a b) (λ p. ap₂ pairs.Two p.0 p.1) (λ e. (cc, cc)) (Decides-and (nat_eq m n) (beq a b) (unsigned_Decides m n) (booleans_Decides a b))

pub my_pair_faithful : EqualByContents my_pair.eq-value.it (λ v. v)
my_pair_faithful = record { decides = my_pair_decides }
