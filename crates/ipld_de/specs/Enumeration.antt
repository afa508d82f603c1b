-- Enums described once: the variants in order, with their names and contents (serde's form of an
-- enum in the IPLD data model).
use Rattle.std.proofs.Common.{◌≡◌, ◌⊎◌, inl, inr, ℕ, List, [], ◌∷◌, Bool, true, false, cond, Option, Some, None, Ok, Err, option_map, option_and_then, if◌then◌else◌, codes, refl, ap, subst, ◌∙◌}
use Rattle.std.specs.Prelude.{⊤}
use Rattle.std.specs.Result.{result_ok}
use Rattle.std.specs.Str.{bytes_eq}
use Rattle.std.proofs.lemmas.Slice.Eq.{bytes_eq-Decides}
use Rattle.ipld_tree.specs.Tree.{Tree, text}
use Rattle.ipld_ser.specs.Builders.{variant_tree}
use Rattle.ipld_ser.specs.Image.{NoError}
use Rattle.ipld_ser.specs.declared.error.SerdeError.{SerdeError}
use Rattle.ipld_ser.specs.declared.error.SerdeError.TheVariants.{VariantContent}
use Rattle.ipld_de.specs.Enums.{enum_reading, EnumReadError}
use Rattle.ipld_de.specs.Forms.{variant_in, unit_in}
use Rattle.ipld_de.specs.Known.{Known, Field, option, structure, fields_of}
use Rattle.ipld_de.specs.Lemmas.StructLaw.{named_apart}
use Rattle.ipld_de.specs.Law.{RoundTrip}
use Rattle.ipld_de.specs.Reading.{IsCustom, ContentError}

-- True if the value `h` of a variant reads back from `t`, which has the name of the variant and its
-- content, if any.
pub record VariantBack {H C : Type 0} (image : H → Option Tree) (contents : H → C) (reads : Option Tree → Option C) (plain : H → Type 0) (name : List ℕ) (h : H) (t : Tree) : Type 0 where
  pub content : Option Tree
  pub named : variant_in t ≡ Ok (name, content)
  pub reading : C
  pub read : reads content ≡ Some reading
  pub same_image : (w : H) → contents w ≡ reading → image w ≡ Some t
  pub same : plain h → contents h ≡ reading

-- a variant: its name, and how its value is written and read
pub record Variant : Type 1 where
  pub name : List ℕ
  pub Held : Type 0
  pub Contents : Type 0
  pub image : Held → Option Tree
  pub write_error : Held → SerdeError → Type 0
  pub contents : Held → Contents
  pub reads : Option Tree → Option Contents
  pub read_error : Option Tree → SerdeError → Type 0
  pub plain : Held → Type 0
  pub back : (h : Held) (t : Tree) → image h ≡ Some t → VariantBack image contents reads plain name h t

pub unit_back : (name : List ℕ) (h : Unit {0}) (t : Tree) → Some (text name) ≡ Some t
    → VariantBack (λ (u : Unit {0}). Some (text name)) (λ u. u) (λ content. result_ok (unit_in content)) (λ u. ⊤) name h t
unit_back name h t is =
    let same : text name ≡ t = cc in
    subst (λ u. VariantBack (λ (v : Unit {0}). Some (text name)) (λ v. v) (λ content. result_ok (unit_in content)) (λ v. ⊤) name h u) same
    (record { content = None; named = refl; reading = tt; read = refl; same_image = λ w is. refl; same = λ p. refl })

-- a variant without content
abbrev pub unit : List ℕ → Variant
unit name = record {
  name = name;
  Held = Unit {0};
  Contents = Unit {0};
  image = λ u. Some (text name);
  write_error = NoError;
  contents = λ u. u;
  reads = λ content. result_ok (unit_in content);
  read_error = λ content e. unit_in content ≡ Err e;
  plain = λ u. ⊤;
  back = unit_back name;
}

beneath : (o : Option Tree) (name : List ℕ) (t : Tree) → option_map (variant_tree name) o ≡ Some t → (u : Tree) × (o ≡ Some u) × (variant_tree name u ≡ t)
beneath None name t is = absurd cc
beneath (Some u) name t is = (u, refl, cc)

pub holds_back : {V C : Type 0} {image : V → Option Tree} {contents : V → C} {reads : Tree → Option C} {plain : V → Type 0} → RoundTrip image contents reads plain
    → (name : List ℕ) (v : V) (t : Tree) → option_map (variant_tree name) (image v) ≡ Some t
    → VariantBack (λ w. option_map (variant_tree name) (image w)) contents (option_and_then reads) plain name v t
holds_back {image = image} {contents = contents} {reads = reads} {plain = plain} law name v t is =
    let b = beneath (image v) name t is in
    let r = law.back v b.0 b.1 in
    subst (λ u. VariantBack (λ w. option_map (variant_tree name) (image w)) contents (option_and_then reads) plain name v u) b.2
    (record {
      content = Some b.0;
      named = refl;
      reading = r.reading;
      read = r.read;
      same_image = λ w same. ap (option_map (variant_tree name)) (r.same_image w same);
      same = r.same;
    })

-- a variant that holds one value, or several in a tuple or a struct
abbrev pub holds : {V : Type 0} → List ℕ → Known V → Variant
holds {V} name known = record {
  name = name;
  Held = V;
  Contents = known.Contents;
  image = λ v. option_map (variant_tree name) (known.image v);
  write_error = known.write_error;
  contents = known.contents;
  reads = option_and_then known.reads;
  read_error = ContentError VariantContent known.read_error;
  plain = known.plain;
  back = holds_back known.law name;
}

-- A named value of a variant: its name, the description of its type, and the contents for a missing
-- name, if any.
pub record Named : Type 1 where
  pub name : List ℕ
  pub Got : Type 0
  pub known : Known Got
  pub missing : Option known.Contents

-- a value whose name is required
abbrev pub named : {A : Type 0} → List ℕ → Known A → Named
named {A} name known = record { name = name; Got = A; known = known; missing = None }

-- an optional value, which is `None` if its name is missing
abbrev pub named_optional : {A : Type 0} → List ℕ → Known A → Named
named_optional {A} name known = record {
  name = name;
  Got = Option A;
  known = option known;
  missing = Some None;
}

-- the field with the name and the type of the named value `n`
abbrev pub field_of : {V : Type 0} → (n : Named) → (V → n.Got) → Field V
field_of n get = record { name = n.name; Got = n.Got; get = get; known = n.known; missing = n.missing }

-- the type of the values of these names, in nested pairs
abbrev pub ValuesFrom : Named → List {1} Named → Type 0
ValuesFrom n [] = n.Got
ValuesFrom n (m ∷ ms) = n.Got × ValuesFrom m ms

abbrev pub fields_from_values : {V : Type 0} → (n : Named) (ns : List {1} Named) → (V → ValuesFrom n ns) → List {1} (Field V)
fields_from_values n [] get = field_of n get ∷ []
fields_from_values n (m ∷ ms) get = field_of n (λ v. (get v).0) ∷ fields_from_values m ms (λ v. (get v).1)

abbrev pub Values : List {1} Named → Type 0
Values [] = Unit {0}
Values (n ∷ ns) = ValuesFrom n ns

abbrev pub fields_named : (ns : List {1} Named) → List {1} (Field (Values ns))
fields_named [] = []
fields_named (n ∷ ns) = fields_from_values n ns (λ v. v)

-- A variant that holds named values. `λ v. refl` proves that no two names are equal.
abbrev pub has_fields : List ℕ → (ns : List {1} Named) → ((v : Values ns) → named_apart (fields_of (fields_named ns) v) ≡ true) → Variant
has_fields name ns apart = holds name (structure (fields_named ns) apart)

-- ---- the variants of an enum

-- the value of one of the variants
abbrev pub OneOf : List {1} Variant → Type 0
OneOf [] = ⊥
OneOf (c ∷ cs) = c.Held ⊎ OneOf cs

-- the contents of the value of one of the variants
abbrev pub OneContents : List {1} Variant → Type 0
OneContents [] = ⊥
OneContents (c ∷ cs) = c.Contents ⊎ OneContents cs

abbrev pub one_contents : (cs : List {1} Variant) → OneOf cs → OneContents cs
one_contents [] o = absurd o
one_contents (c ∷ cs) (inl h) = inl (c.contents h)
one_contents (c ∷ cs) (inr o) = inr (one_contents cs o)

-- the image of the value of one of the variants
abbrev pub one_image : (cs : List {1} Variant) → OneOf cs → Option Tree
one_image [] o = absurd o
one_image (c ∷ cs) (inl h) = c.image h
one_image (c ∷ cs) (inr o) = one_image cs o

abbrev pub OneError : (cs : List {1} Variant) → OneOf cs → SerdeError → Type 0
OneError [] o e = absurd o
OneError (c ∷ cs) (inl h) e = c.write_error h e
OneError (c ∷ cs) (inr o) e = OneError cs o e

abbrev pub OnePlain : (cs : List {1} Variant) → OneOf cs → Type 0
OnePlain [] o = absurd o
OnePlain (c ∷ cs) (inl h) = c.plain h
OnePlain (c ∷ cs) (inr o) = OnePlain cs o

-- the reading of the content of the variant `name`, or nothing for an unknown name
abbrev pub one_reads : (cs : List {1} Variant) → List ℕ → Option Tree → Option (OneContents cs)
one_reads [] name content = None
one_reads (c ∷ cs) name content = if bytes_eq name c.name then option_map inl (c.reads content) else option_map inr (one_reads cs name content)

-- True if `e` is the error of the variant `name`, or "unknown variant" for an unknown name.
abbrev pub OneReadError : List {1} Variant → List ℕ → Option Tree → SerdeError → Type 0
OneReadError [] name content e = IsCustom (codes "unknown variant") e
OneReadError (c ∷ cs) name content e =
    ((bytes_eq name c.name ≡ true) × c.read_error content e) ⊎ ((bytes_eq name c.name ≡ false) × OneReadError cs name content e)

-- Returns true if no variant has this name.
abbrev pub none_named : List ℕ → List {1} Variant → Bool
none_named name [] = true
none_named name (c ∷ cs) = if bytes_eq c.name name then false else none_named name cs

-- Returns true if no two variants have the same name. If the names are written out, `refl` proves
-- it.
abbrev pub variants_apart : List {1} Variant → Bool
variants_apart [] = true
variants_apart (c ∷ cs) = if none_named c.name cs then variants_apart cs else false

both_true : (a b : Bool) → cond a b false ≡ true → (a ≡ true) × (b ≡ true)
both_true true b is = (refl, is)
both_true false b is = absurd cc

not_here : (a b : Bool) → cond a false b ≡ true → (a ≡ false) × (b ≡ true)
not_here true b is = absurd cc
not_here false b is = (refl, is)

-- True if the value `o` of one of the variants reads back from its image `t`.
record OneBack (cs : List {1} Variant) (o : OneOf cs) (t : Tree) : Type 0 where
  name : List ℕ
  content : Option Tree
  named : variant_in t ≡ Ok (name, content)
  elsewhere : (other : List ℕ) → none_named other cs ≡ true → bytes_eq name other ≡ false
  reading : OneContents cs
  read : one_reads cs name content ≡ Some reading
  same_image : (w : OneOf cs) → one_contents cs w ≡ reading → one_image cs w ≡ Some t
  same : OnePlain cs o → one_contents cs o ≡ reading

first_same : (c : Variant) (cs : List {1} Variant) (reading : c.Contents) (t : Tree) → ((w : c.Held) → c.contents w ≡ reading → c.image w ≡ Some t)
    → (w : OneOf (c ∷ cs)) → one_contents (c ∷ cs) w ≡ inl reading → one_image (c ∷ cs) w ≡ Some t
first_same c cs reading t same (inl w) is = same w cc
first_same c cs reading t same (inr w) is = absurd cc

later_same : (c : Variant) (cs : List {1} Variant) (reading : OneContents cs) (t : Tree) → ((w : OneOf cs) → one_contents cs w ≡ reading → one_image cs w ≡ Some t)
    → (w : OneOf (c ∷ cs)) → one_contents (c ∷ cs) w ≡ inr reading → one_image (c ∷ cs) w ≡ Some t
later_same c cs reading t same (inl w) is = absurd cc
later_same c cs reading t same (inr w) is = same w cc

one_back : (cs : List {1} Variant) → variants_apart cs ≡ true → (o : OneOf cs) (t : Tree) → one_image cs o ≡ Some t → OneBack cs o t
one_back [] apart o t is = absurd o
one_back (c ∷ cs) apart (inl h) t is =
    let b = c.back h t is in
    record {
      name = c.name;
      content = b.content;
      named = b.named;
      elsewhere = λ other none. (not_here (bytes_eq c.name other) (none_named other cs) none).0;
      reading = inl b.reading;
      read = ap (λ test. cond test (option_map inl (c.reads b.content)) (option_map inr (one_reads cs c.name b.content))) ((bytes_eq-Decides c.name c.name).1 refl) ∙ ap (option_map inl) b.read;
      same_image = first_same c cs b.reading t b.same_image;
      same = λ plain. ap inl (b.same plain);
    }
one_back (c ∷ cs) apart (inr o) t is =
    let each = both_true (none_named c.name cs) (variants_apart cs) apart in
    let b = one_back cs each.1 o t is in
    record {
      name = b.name;
      content = b.content;
      named = b.named;
      elsewhere = λ other none. b.elsewhere other (not_here (bytes_eq c.name other) (none_named other cs) none).1;
      reading = inr b.reading;
      read = ap (λ test. cond test (option_map inl (c.reads b.content)) (option_map inr (one_reads cs b.name b.content))) (b.elsewhere c.name each.0) ∙ ap (option_map inr) b.read;
      same_image = later_same c cs b.reading t b.same_image;
      same = λ plain. ap inr (b.same plain);
    }

pub enum_round_trip : {V : Type 0} (cs : List {1} Variant) (one : V → OneOf cs) → variants_apart cs ≡ true
    → RoundTrip (λ v. one_image cs (one v)) (λ v. one_contents cs (one v)) (enum_reading (one_reads cs)) (λ v. OnePlain cs (one v))
enum_round_trip cs one apart = record {
  back = λ v t is.
      let b = one_back cs apart (one v) t is in
      record {
        reading = b.reading;
        read = ap (λ r. option_and_then (λ named. one_reads cs named.0 named.1) (result_ok r)) b.named ∙ b.read;
        same_image = λ w same. b.same_image (one w) same;
        same = b.same;
      };
}

-- An enum with these variants. `one` returns the variant of a value. `refl` proves that no two
-- names are equal.
abbrev pub enumeration : {V : Type 0} (cs : List {1} Variant) (one : V → OneOf cs) → variants_apart cs ≡ true → Known V
enumeration cs one apart = record {
  Contents = OneContents cs;
  image = λ v. one_image cs (one v);
  write_error = λ v. OneError cs (one v);
  contents = λ v. one_contents cs (one v);
  reads = enum_reading (one_reads cs);
  read_error = EnumReadError (OneReadError cs);
  plain = λ v. OnePlain cs (one v);
  law = enum_round_trip cs one apart;
}
