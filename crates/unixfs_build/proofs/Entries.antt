-- The names and the sizes of entries.
use Rattle.std.proofs.Common.{◌≡◌, ◌<◌, ◌+◌, ℕ, suc, true, false, List, [], ◌∷◌, length, map, take, drop, Option, Some, None, inl, inr, refl, sym, ap, subst, ◌∙◌, arith}
use Rattle.std.specs.Prelude.{nat_lt, Bool}
use Rattle.std.specs.List.{sum_by}
use Rattle.std.proofs.Math.ListN.{get_or}
use Rattle.std.proofs.lemmas.Bool.Decides.{nat_tests}
use Rattle.std.proofs.lemmas.List.{drop_more}
use Rattle.std.proofs.lemmas.List.Sums.{sum_by_more_le, sum_by-cons}
use Rattle.unixfs_folders.specs.Folders.{EntryParts, AreEntries, ComesAfter}
use Rattle.unixfs_folders.specs.Names.{is_entry_name}
use Rattle.unixfs_folders.specs.Reading.{comes_after}
use Rattle.unixfs_build.specs.Packing.{listed_size, listed_sizes, IsNameFault}
use Rattle.unixfs_build.specs.Views.{entry_of}
use Rattle.unixfs_build.specs.declared.entry.NewEntry.{NewEntry}
use Rattle.unixfs_build.specs.declared.error.BuildError.{BuildError}
use Rattle.unixfs_build.specs.declared.error.BuildError.TheVariants.{InvalidName, NameOrder}

-- ---- names

left_are : (entries : List NewEntry) (item other : NewEntry) (i : ℕ) → i < length entries → item ≡ get_or entries i other
    → map entry_of (drop i entries) ≡ entry_of item ∷ map entry_of (drop (i + 1) entries)
left_are entries item other i inside is =
    ap (λ (es : List NewEntry). map entry_of es) (drop_more entries i other inside ∙ ap (λ (e : NewEntry). e ∷ drop (i + 1) entries) (sym is))

not_after : (before : Option (List ℕ)) (name : List ℕ) → comes_after before name ≡ false → ComesAfter before name → ⊥
unfolding comes_after
not_after None name late after = absurd cc
not_after (Some b) name late after = absurd cc

is_after : (before : Option (List ℕ)) (name : List ℕ) → comes_after before name ≡ true → ComesAfter before name
unfolding comes_after
is_after None name after = tt
is_after (Some b) name after = after

-- what is wrong with the entries from one on is wrong with all
abbrev pub FaultsUp : List NewEntry → ℕ → Option (List ℕ) → Type 0
FaultsUp entries i before = (error : BuildError) → IsNameFault i before (map entry_of (drop i entries)) error → IsNameFault 0 None (map entry_of entries) error

pub order_fault : (entries : List NewEntry) (item other : NewEntry) (i : ℕ) (before : Option (List ℕ)) (named after : Bool) → i < length entries → item ≡ get_or entries i other
    → named ≡ is_entry_name item.name.now → named ≡ true → after ≡ comes_after before item.name.now → after ≡ false → FaultsUp entries i before → IsNameFault 0 None (map entry_of entries) (NameOrder i)
order_fault entries item other i before named after inside is named_is valid after_is late up =
    up (NameOrder i) (subst (λ (es : List EntryParts). IsNameFault i before es (NameOrder i)) (sym (left_are entries item other i inside is))
    (inr (inl (refl, sym named_is ∙ valid, not_after before item.name.now (sym after_is ∙ late)))))

pub name_fault : (entries : List NewEntry) (item other : NewEntry) (i : ℕ) (before : Option (List ℕ)) (named : Bool) → i < length entries → item ≡ get_or entries i other
    → named ≡ is_entry_name item.name.now → named ≡ false → FaultsUp entries i before → IsNameFault 0 None (map entry_of entries) (InvalidName i)
name_fault entries item other i before named inside is named_is invalid up =
    up (InvalidName i) (subst (λ (es : List EntryParts). IsNameFault i before es (InvalidName i)) (sym (left_are entries item other i inside is)) (inl (refl, sym named_is ∙ invalid)))

pub names_go_on : (entries : List NewEntry) (item other : NewEntry) (i : ℕ) (before : Option (List ℕ)) (named after : Bool) → i < length entries → item ≡ get_or entries i other
    → named ≡ is_entry_name item.name.now → named ≡ true → after ≡ comes_after before item.name.now → after ≡ true
    → (AreEntries before (map entry_of (drop i entries)) → AreEntries None (map entry_of entries)) × FaultsUp entries i before
    → (AreEntries (Some item.name.now) (map entry_of (drop (i + 1) entries)) → AreEntries None (map entry_of entries)) × FaultsUp entries (i + 1) (Some item.name.now)
names_go_on entries item other i before named after inside is named_is valid after_is on up =
    let left = left_are entries item other i inside is in
    let name = sym named_is ∙ valid in
    let comes = is_after before item.name.now (sym after_is ∙ on) in
    let next : i + 1 ≡ suc i = omega arith in (
      (λ are. up.0 (subst (λ (es : List EntryParts). AreEntries before es) (sym left) (name, comes, are))),
      (λ error fault. up.1 error (subst (λ (es : List EntryParts). IsNameFault i before es error) (sym left)
          (inr (inr (name, comes, subst (λ (n : ℕ). IsNameFault n (Some item.name.now) (map entry_of (drop (i + 1) entries)) error) next fault))))),
    )

-- ---- sizes

abbrev size_of : NewEntry → ℕ
size_of e = listed_size (entry_of e)

sizes_sum : (entries : List NewEntry) → listed_sizes (map entry_of entries) ≡ sum_by size_of entries
sizes_sum [] = refl
sizes_sum (e ∷ es) = omega (arith, sizes_sum es, sum_by-cons (λ (n : ℕ). n) (size_of e) (map listed_size (map entry_of es)), sum_by-cons size_of e es)

is_less : (n m : ℕ) → n < m → true ≡ nat_lt n m
is_less n m less = grind (arith, nat_tests)

pub too_long : (entries : List NewEntry) (item other : NewEntry) (i above rest : ℕ) → i < length entries → item ≡ get_or entries i other
    → rest + listed_sizes (map entry_of (take i entries)) ≡ above → rest < listed_size (entry_of item) → true ≡ nat_lt above (listed_sizes (map entry_of entries))
too_long entries item other i above rest inside is so_far less =
    is_less above (listed_sizes (map entry_of entries)) (omega (arith, so_far, sizes_sum (take i entries), sum_by_more_le size_of entries i other inside, sizes_sum entries, ap size_of is, less))
