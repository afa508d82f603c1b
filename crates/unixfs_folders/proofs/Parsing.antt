-- What is read of links is what they are.
use Rattle.std.proofs.Common.{◌≡◌, ◌<◌, ◌≤◌, ◌+◌, ◌*◌, ◌/◌, ◌%◌, ◌-◌, ℕ, suc, true, false, not, List, [], ◌∷◌, ◌++◌, length, Option, Some, None, Result, Ok, Err, refl, sym, ap, subst, ◌∙◌, arith, map, inl, inr}
use Rattle.std.specs.Prelude.{◌==◌, ◌⊎◌, nat_lt, if◌then◌else◌, unwrap_or, IfSome, bytes_eq, option_map, option_and_then, IfOk, MatchResult}
use Rattle.std.proofs.lemmas.Bool.{cases_Bool}
use Rattle.std.proofs.lemmas.Bool.Decides.{nat_tests}
use Rattle.std.proofs.lemmas.Slice.Eq.{bytes_eq-Decides}
use Rattle.std.proofs.lemmas.Option.{same_Some}
use Rattle.dag_pb.specs.Node.{LinkParts}
use Rattle.pb_wire.specs.Steps.{◌>>=◌}
use Rattle.unixfs_folders.proofs.Choices.{not_false, unless_error, or_error}
use Rattle.pb_wire.proofs.Steps.{bind_ok, same_ok}
use Rattle.unixfs.specs.declared.data.DataType.{DataType}
use Rattle.unixfs.specs.declared.data.DataType.TheVariants.{Raw, Directory, File, Metadata, Symlink, HamtShard}
use Rattle.unixfs.specs.Data.{DataParts}
use Rattle.unixfs_folders.specs.declared.error.FolderErrorKind.{FolderErrorKind}
use Rattle.unixfs_folders.specs.Names.{is_reserved, is_entry_name, digit, digits, digit_value, digits_value, slot_in, after_digits}
use Rattle.unixfs_folders.specs.Folders.{EntryParts, link_of_entry, ComesAfter, AreEntries, SlotParts, link_of_slot, AreSlots, bit_field, FolderParts, plain, shard, IsFolderOf}
use Rattle.unixfs_folders.specs.Reading.{comes_after, checked_name, entry_name, entries_from, slot_name, slot_number, Place, place_of, slots_from, plain_of, with_bits, slots_of, is_number, shard_of, folder_by, folder_of}
use Rattle.unixfs_folders.specs.declared.folder.Folder.{Folder}
use Rattle.unixfs_folders.specs.declared.error.FolderErrorKind.TheVariants.{HashFunction, Fanout}
use Rattle.unixfs_folders.specs.Views.{folder_parts, IsMemory}
use Rattle.unixfs.specs.Nodes.{UnixFsParts}

-- ---- entries

after_sound : (before : Option (List ℕ)) (name : List ℕ) → comes_after before name ≡ true → ComesAfter before name
unfolding comes_after
after_sound None name is = tt
after_sound (Some b) name is = is

after_complete : (before : Option (List ℕ)) (name : List ℕ) → ComesAfter before name → comes_after before name ≡ true
unfolding comes_after
after_complete None name is = refl
after_complete (Some b) name is = is

name_sound : (i : ℕ) (before o : Option (List ℕ)) (name : List ℕ) → entry_name i before o ≡ Ok name → (o ≡ Some name) × (is_entry_name name ≡ true) × ComesAfter before name
unfolding entry_name checked_name
name_sound i before None name is = absurd cc
name_sound i before (Some n) name is =
    let first = unless_error (not (is_entry_name n)) _ _ name is in
    let second = unless_error (not (comes_after before n)) _ _ name first.1 in
    same_ok (λ (x : List ℕ). (◌≡◌ {A = Option (List ℕ)} (Some n) (Some x)) × (is_entry_name x ≡ true) × ComesAfter before x) n name second.1
    (refl, not_false _ first.0, after_sound before n (not_false _ second.0))

name_complete : (i : ℕ) (before : Option (List ℕ)) (name : List ℕ) → is_entry_name name ≡ true → ComesAfter before name → entry_name i before (Some name) ≡ Ok name
unfolding entry_name checked_name
name_complete i before name valid after = rw (valid, after_complete before name after) refl

-- a link with another name
abbrev named_so : LinkParts → Option (List ℕ) → LinkParts
named_so l name = record { hash = l.hash; name = name; tsize = l.tsize }

entries_sound : (i : ℕ) (before : Option (List ℕ)) (ls : List LinkParts) (es : List EntryParts) → entries_from i before ls ≡ Ok es → (ls ≡ map link_of_entry es) × AreEntries before es
entries_sound i before [] es is = same_ok (λ (xs : List EntryParts). (◌≡◌ {A = List LinkParts} [] (map link_of_entry xs)) × AreEntries before xs) [] es is (refl, tt)
entries_sound i before (l ∷ ls) es is =
    let named = bind_ok (entry_name i before l.name) _ es is in
    let rest = bind_ok (entries_from (suc i) (Some named.0) ls) _ es named.2 in
    let name = name_sound i before l.name named.0 named.1 in
    let more = entries_sound (suc i) (Some named.0) ls rest.0 rest.1 in
    same_ok (λ (xs : List EntryParts). (◌≡◌ {A = List LinkParts} (l ∷ ls) (map link_of_entry xs)) × AreEntries before xs)
    (record { name = named.0; link = l.hash; tsize = l.tsize } ∷ rest.0) es rest.2 (
      ap (λ (n : Option (List ℕ)). named_so l n ∷ ls) name.0 ∙ ap (λ (xs : List LinkParts). named_so l (Some named.0) ∷ xs) more.0,
      (name.1, name.2, more.1),
    )

entries_complete : (i : ℕ) (before : Option (List ℕ)) (es : List EntryParts) → AreEntries before es → entries_from i before (map link_of_entry es) ≡ Ok es
entries_complete i before [] are = refl
entries_complete i before (e ∷ es) are =
    let rest = λ (name : List ℕ). entries_from (suc i) (Some name) (map link_of_entry es) in
    ap (λ (r : Result (List ℕ) FolderErrorKind). r >>= λ name. entries_from (suc i) (Some name) (map link_of_entry es) >>= λ xs. Ok (record { name = name; link = e.link; tsize = e.tsize } ∷ xs)) (name_complete i before e.name are.0 are.1)
    ∙ ap (λ (r : Result (List EntryParts) FolderErrorKind). r >>= λ xs. Ok (e ∷ xs)) (entries_complete (suc i) (Some e.name) es are.2)

-- ---- digits

-- what a digit is, if it is one
digit_sound : (b n : ℕ) → digit_value b ≡ Some n → (n < 16) × (digit n ≡ b)
unfolding digit_value
digit_sound b n is =
    elim (cases_Bool (nat_lt b 48)) [
      | inl low ↦ let e = rw low at is in absurd cc
      | inr from_0 ↦ let e = rw from_0 at is in
          elim (cases_Bool (nat_lt b 58)) [
            | inl number ↦
                let f = rw number at e in
                let same : b - 48 ≡ n = same_Some (b - 48) n f in
                let small : nat_lt n 10 ≡ true = grind (arith, nat_tests) in
                (grind (arith, nat_tests), rw small (grind (arith, nat_tests)))
            | inr past_9 ↦ let f = rw past_9 at e in
                elim (cases_Bool (nat_lt b 65)) [
                  | inl between ↦ let g = rw between at f in absurd cc
                  | inr from_a ↦ let g = rw from_a at f in
                      elim (cases_Bool (nat_lt b 71)) [
                        | inl letter ↦
                            let h = rw letter at g in
                            let same : b - 55 ≡ n = same_Some (b - 55) n h in
                            let large : nat_lt n 10 ≡ false = grind (arith, nat_tests) in
                            (grind (arith, nat_tests), rw large (grind (arith, nat_tests)))
                        | inr past_f ↦ let h = rw past_f at g in absurd cc
                      ]
                ]
          ]
    ]

digit_complete : (n : ℕ) → n < 16 → digit_value (digit n) ≡ Some n
unfolding digit_value
digit_complete n small =
    elim (cases_Bool (nat_lt n 10)) [
      | inl number ↦
          let a : nat_lt (48 + n) 48 ≡ false = grind (arith, nat_tests) in
          let b : nat_lt (48 + n) 58 ≡ true = grind (arith, nat_tests) in
          let e : 48 + n - 48 ≡ n = omega arith in
          rw (number, a, b, e) refl
      | inr letter ↦
          let a : nat_lt (55 + n) 48 ≡ false = grind (arith, nat_tests) in
          let b : nat_lt (55 + n) 58 ≡ false = grind (arith, nat_tests) in
          let c : nat_lt (55 + n) 65 ≡ false = grind (arith, nat_tests) in
          let d : nat_lt (55 + n) 71 ≡ true = grind (arith, nat_tests) in
          let e : 55 + n - 55 ≡ n = omega arith in
          rw (letter, a, b, c, d, e) refl
    ]

-- two digits, if two bytes are
two_digits : (high low : Option ℕ) (slot : ℕ) → option_and_then (λ h. option_map (λ l. 16 * h + l) low) high ≡ Some slot → (h : ℕ) × (l : ℕ) × (high ≡ Some h) × (low ≡ Some l) × (16 * h + l ≡ slot)
two_digits None low slot is = absurd cc
two_digits (Some h) None slot is = absurd cc
two_digits (Some h) (Some l) slot is = (h, l, refl, refl, same_Some (16 * h + l) slot is)

quotient : (h l slot : ℕ) → l < 16 → 16 * h + l ≡ slot → (h ≡ slot / 16) × (l ≡ slot % 16)
quotient h l slot small is = (omega arith, omega arith)

slot_sound : (name : List ℕ) (slot : ℕ) → slot_in name ≡ Some slot → (name ≡ digits slot ++ after_digits name) × (slot < 256)
unfolding slot_in digits_value digits
slot_sound [] slot is = absurd cc
slot_sound (a ∷ []) slot is = absurd cc
slot_sound (a ∷ b ∷ rest) slot is =
    let two = two_digits (digit_value a) (digit_value b) slot is in
    let high = digit_sound a two.0 two.2 in
    let low = digit_sound b two.1 two.3 in
    let parts = quotient two.0 two.1 slot low.0 two.4 in
    let sum = two.4 in
    let high_small = high.0 in
    let low_small = low.0 in
    (ap (λ (x : ℕ). x ∷ b ∷ rest) (sym high.1 ∙ ap digit parts.0) ∙ ap (λ (x : ℕ). digit (slot / 16) ∷ x ∷ rest) (sym low.1 ∙ ap digit parts.1), omega arith)

slot_complete : (slot : ℕ) (rest : List ℕ) → slot < 256 → slot_in (digits slot ++ rest) ≡ Some slot
unfolding slot_in digits_value digits
slot_complete slot rest small =
    let high = digit_complete (slot / 16) (omega arith) in
    let low = digit_complete (slot % 16) (omega arith) in
    let sum : 16 * (slot / 16) + slot % 16 ≡ slot = omega arith in
    rw (high, low) (ap Some sum)

after_is : (slot : ℕ) (rest : List ℕ) → after_digits (digits slot ++ rest) ≡ rest
unfolding digits
after_is slot rest = refl

-- ---- slots

entry_sound : (i : ℕ) (name : List ℕ) (entry : Option (List ℕ)) → slot_name i name ≡ Ok entry → (name ≡ unwrap_or entry []) × IfSome entry (λ n. is_entry_name n ≡ true)
unfolding slot_name
entry_sound i [] entry is = same_ok (λ (o : Option (List ℕ)). (◌≡◌ {A = List ℕ} [] (unwrap_or o [])) × IfSome o (λ n. is_entry_name n ≡ true)) None entry is (refl, tt)
entry_sound i (b ∷ bs) entry is =
    let some : (length (b ∷ bs) == 0) ≡ false = grind (arith, nat_tests) in
    let named = rw some at is in
    let valid = or_error (is_entry_name (b ∷ bs)) _ _ entry named in
    same_ok (λ (o : Option (List ℕ)). (b ∷ bs ≡ unwrap_or o []) × IfSome o (λ n. is_entry_name n ≡ true)) (Some (b ∷ bs)) entry valid.1 (refl, valid.0)

-- no entry has an empty name
empty_name : is_entry_name [] ≡ true → ⊥
unfolding is_entry_name is_reserved
empty_name is = absurd cc

entry_complete : (i : ℕ) (entry : Option (List ℕ)) → IfSome entry (λ n. is_entry_name n ≡ true) → slot_name i (unwrap_or entry []) ≡ Ok entry
unfolding slot_name
entry_complete i None valid = refl
entry_complete i (Some []) valid = absurd (empty_name valid)
entry_complete i (Some (b ∷ bs)) valid =
    let some : (length (b ∷ bs) == 0) ≡ false = grind (arith, nat_tests) in
    rw (some, valid) refl

number_sound : (i least : ℕ) (o : Option ℕ) (slot : ℕ) → slot_number i least o ≡ Ok slot → (o ≡ Some slot) × (least ≤ slot)
unfolding slot_number
number_sound i least None slot is = absurd cc
number_sound i least (Some n) slot is =
    let order = unless_error (nat_lt n least) _ _ slot is in
    let ordered = order.0 in
    same_ok (λ (x : ℕ). (◌≡◌ {A = Option ℕ} (Some n) (Some x)) × (least ≤ x)) n slot order.1 (refl, grind (arith, nat_tests))

number_complete : (i least slot : ℕ) → least ≤ slot → slot_number i least (Some slot) ≡ Ok slot
unfolding slot_number
number_complete i least slot from =
    let test : nat_lt slot least ≡ false = grind (arith, nat_tests) in
    rw test refl

abbrev HasPlace : ℕ → Option (List ℕ) → Place → Type 0
HasPlace least name place = (name ≡ Some (digits place.slot ++ unwrap_or place.name [])) × (least ≤ place.slot) × (place.slot < 256) × IfSome place.name (λ n. is_entry_name n ≡ true)

place_sound : (i least : ℕ) (name : Option (List ℕ)) (place : Place) → place_of i least name ≡ Ok place → HasPlace least name place
unfolding place_of
place_sound i least None place is = absurd cc
place_sound i least (Some name) place is =
    let numbered = bind_ok (slot_number i least (slot_in name)) _ place is in
    let named = bind_ok (slot_name i (after_digits name)) _ place numbered.2 in
    let number = number_sound i least (slot_in name) numbered.0 numbered.1 in
    let slot = slot_sound name numbered.0 number.0 in
    let entry = entry_sound i (after_digits name) named.0 named.1 in
    same_ok (λ (p : Place). HasPlace least (Some name) p) (record { slot = numbered.0; name = named.0 }) place named.2
    (ap (λ (n : List ℕ). Some n) (slot.0 ∙ ap (λ (n : List ℕ). digits numbered.0 ++ n) entry.0), number.1, slot.1, entry.1)

place_complete : (i least slot : ℕ) (entry : Option (List ℕ)) → least ≤ slot → slot < 256 → IfSome entry (λ n. is_entry_name n ≡ true)
    → place_of i least (Some (digits slot ++ unwrap_or entry [])) ≡ Ok (record { slot = slot; name = entry })
unfolding place_of
place_complete i least slot entry from small valid =
    let here = slot_complete slot (unwrap_or entry []) small in
    let number = number_complete i least slot from in
    let rest = after_is slot (unwrap_or entry []) in
    let name = entry_complete i entry valid in
    rw (here, number, rest, name) refl

slots_sound : (i least : ℕ) (ls : List LinkParts) (ss : List SlotParts) → slots_from i least ls ≡ Ok ss → (ls ≡ map link_of_slot ss) × AreSlots least ss
slots_sound i least [] ss is = same_ok (λ (xs : List SlotParts). (◌≡◌ {A = List LinkParts} [] (map link_of_slot xs)) × AreSlots least xs) [] ss is (refl, tt)
slots_sound i least (l ∷ ls) ss is =
    let placed = bind_ok (place_of i least l.name) _ ss is in
    let rest = bind_ok (slots_from (suc i) (suc placed.0.slot) ls) _ ss placed.2 in
    let place = place_sound i least l.name placed.0 placed.1 in
    let more = slots_sound (suc i) (suc placed.0.slot) ls rest.0 rest.1 in
    same_ok (λ (xs : List SlotParts). (◌≡◌ {A = List LinkParts} (l ∷ ls) (map link_of_slot xs)) × AreSlots least xs)
    (record { slot = placed.0.slot; name = placed.0.name; link = l.hash; tsize = l.tsize } ∷ rest.0) ss rest.2 (
      ap (λ (n : Option (List ℕ)). named_so l n ∷ ls) place.0
          ∙ ap (λ (xs : List LinkParts). named_so l (Some (digits placed.0.slot ++ unwrap_or placed.0.name [])) ∷ xs) more.0,
      (place.1, place.2, place.3, more.1),
    )

slots_complete : (i least : ℕ) (ss : List SlotParts) → AreSlots least ss → slots_from i least (map link_of_slot ss) ≡ Ok ss
slots_complete i least [] are = refl
slots_complete i least (s ∷ ss) are =
    ap (λ (r : Result Place FolderErrorKind). r >>= λ place. slots_from (suc i) (suc place.slot) (map link_of_slot ss) >>= λ xs. Ok (record { slot = place.slot; name = place.name; link = s.link; tsize = s.tsize } ∷ xs))
    (place_complete i least s.slot s.name are.0 are.1 are.2)
    ∙ ap (λ (r : Result (List SlotParts) FolderErrorKind). r >>= λ xs. Ok (s ∷ xs)) (slots_complete (suc i) (suc s.slot) ss are.3)

-- ---- folders

number_is : (n : ℕ) (o : Option ℕ) → is_number n o ≡ true → o ≡ Some n
number_is n None is = absurd cc
number_is n (Some m) is = let same : m ≡ n = grind (arith, nat_tests) in ap (λ (x : ℕ). Some x) same

bits_sound : (bits : List ℕ) (ss : List SlotParts) (f : FolderParts) → with_bits bits ss ≡ Ok f → (f ≡ shard ss) × (bits ≡ bit_field ss)
unfolding with_bits
bits_sound bits ss f is =
    let same = or_error (bytes_eq bits (bit_field ss)) _ _ f is in
    same_ok (λ (x : FolderParts). (x ≡ shard ss) × (bits ≡ bit_field ss)) (shard ss) f same.1 (refl, (bytes_eq-Decides bits (bit_field ss)).0 same.0)

bits_complete : (bits : List ℕ) (ss : List SlotParts) → bits ≡ bit_field ss → with_bits bits ss ≡ Ok (shard ss)
unfolding with_bits
bits_complete bits ss is = let test : bytes_eq bits (bit_field ss) ≡ true = (bytes_eq-Decides bits (bit_field ss)).1 is in rw test refl

slots_of_sound : (links : List LinkParts) (bits : List ℕ) (f : FolderParts) → slots_of links bits ≡ Ok f
    → (ss : List SlotParts) × (f ≡ shard ss) × (links ≡ map link_of_slot ss) × AreSlots 0 ss × (bits ≡ bit_field ss)
slots_of_sound links bits f is =
    let read = bind_ok (slots_from 0 0 links) (with_bits bits) f is in
    let slots = slots_sound 0 0 links read.0 read.1 in
    let same = bits_sound bits read.0 f read.2 in
    (read.0, same.0, slots.0, slots.1, same.1)

slots_of_complete : (links : List LinkParts) (bits : List ℕ) (ss : List SlotParts) → links ≡ map link_of_slot ss → AreSlots 0 ss → bits ≡ bit_field ss → slots_of links bits ≡ Ok (shard ss)
slots_of_complete links bits ss is are same =
    ap (λ (ls : List LinkParts). slots_of ls bits) is ∙ ap (λ (r : Result (List SlotParts) FolderErrorKind). r >>= with_bits bits) (slots_complete 0 0 ss are) ∙ bits_complete bits ss same

by_sound : (t : DataType) (links : List LinkParts) (message : DataParts) (f : FolderParts) → message.data_type ≡ t → folder_by t links message ≡ Ok f → IsFolderOf links message f
unfolding plain_of shard_of
by_sound Raw links message f kind is = absurd cc
by_sound Directory links message f kind is =
    let read = bind_ok (entries_from 0 None links) _ f is in
    let entries = entries_sound 0 None links read.0 read.1 in
    same_ok (λ (x : FolderParts). IsFolderOf links message x) (plain read.0) f read.2 (record { is_directory = kind; are_links = entries.0; are_entries = entries.1 })
by_sound File links message f kind is = absurd cc
by_sound Metadata links message f kind is = absurd cc
by_sound Symlink links message f kind is = absurd cc
by_sound HamtShard links message f kind is =
    let hash = unless_error (not (is_number 0x22 message.hash_type)) _ _ f is in
    let fanout = unless_error (not (is_number 256 message.fanout)) _ _ f hash.1 in
    let slots = slots_of_sound links (unwrap_or message.content []) f fanout.1 in
    subst (λ (x : FolderParts). IsFolderOf links message x) (sym slots.1) (record {
      is_shard = kind;
      is_murmur3 = number_is 0x22 message.hash_type (not_false _ hash.0);
      has_fanout = number_is 256 message.fanout (not_false _ fanout.0);
      are_links = slots.2;
      are_slots = slots.3;
      is_bit_field = slots.4;
    })

pub folder_sound : (node : UnixFsParts) (f : FolderParts) → folder_of node ≡ Ok f → IsFolderOf node.links node.message f
unfolding folder_of
folder_sound node f is = by_sound node.message.data_type node.links node.message f refl is

pub folder_complete : (node : UnixFsParts) (f : FolderParts) → IsFolderOf node.links node.message f → folder_of node ≡ Ok f
unfolding folder_of plain_of shard_of
folder_complete node (plain es) is =
    ap (λ (t : DataType). folder_by t node.links node.message) is.is_directory
    ∙ ap (λ (ls : List LinkParts). entries_from 0 None ls >>= λ xs. Ok (plain xs)) is.are_links
    ∙ ap (λ (r : Result (List EntryParts) FolderErrorKind). r >>= λ xs. Ok (plain xs)) (entries_complete 0 None es is.are_entries)
folder_complete node (shard ss) is =
    let read = slots_of_complete node.links (unwrap_or node.message.content []) ss is.are_links is.are_slots is.is_bit_field in
    ap (λ (t : DataType). folder_by t node.links node.message) is.is_shard
    ∙ ap (λ (o : Option ℕ). if not (is_number 0x22 o) then Err HashFunction else if not (is_number 256 node.message.fanout) then Err Fanout else slots_of node.links (unwrap_or node.message.content [])) is.is_murmur3
    ∙ ap (λ (o : Option ℕ). if not (is_number 256 o) then Err Fanout else slots_of node.links (unwrap_or node.message.content [])) is.has_fanout
    ∙ read

-- ---- results

pub found_by : (r : Result Folder FolderErrorKind) (read : Result FolderParts FolderErrorKind) (P : FolderParts → Type 0) → ((f : FolderParts) → read ≡ Ok f → P f)
    → MatchResult r (λ x. read ≡ Ok (folder_parts x)) (λ e. IsMemory e ⊎ (read ≡ Err e)) → IfOk r (λ x. P (folder_parts x))
found_by (Ok x) read P sound told = sound (folder_parts x) told
found_by (Err e) read P sound told = tt

pub only_by : (r : Result Folder FolderErrorKind) (read : Result FolderParts FolderErrorKind) (f : FolderParts) → read ≡ Ok f
    → MatchResult r (λ x. read ≡ Ok (folder_parts x)) (λ e. IsMemory e ⊎ (read ≡ Err e)) → MatchResult r (λ x. folder_parts x ≡ f) IsMemory
only_by (Ok x) read f is told = same_ok (λ (y : FolderParts). folder_parts x ≡ y) (folder_parts x) f (sym told ∙ is) refl
only_by (Err e) read f is (inl memory) = memory
only_by (Err e) read f is (inr told) = absurd (let clash : ◌≡◌ {A = Result FolderParts FolderErrorKind} (Err e) (Ok f) = sym told ∙ is in cc)
