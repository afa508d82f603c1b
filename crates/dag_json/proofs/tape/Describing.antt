-- What is written of a tree are its entries.
use Rattle.std.proofs.Common.{◌≡◌, ◌+◌, ◌-◌, ◌^◌, nat_lt, ℕ, suc, true, false, List, [], ◌∷◌, ◌++◌, length, Option, Some, None, Err, refl, sym, ap, ap₂, subst, ◌∙◌, append_assoc, length-append, arith}
use Rattle.std.specs.Int.{w64, to_be_bytes}
use Rattle.std.proofs.lemmas.Bool.{and_right}
use Rattle.std.proofs.lemmas.List.{append-nil}
use Rattle.ipld_cid.specs.Bytes.{bytes_of}
use Rattle.ipld_tree.specs.Tree.{Tree, null, boolean, integer, text, bytes, list, entries, link, Items, no_items, item, Members, no_members, member}
use Rattle.dag_cbor_blocks.specs.Tape.{entry, all_short}
use Rattle.dag_cbor_blocks.specs.declared.tape.TapeEntry.{TapeEntry}
use Rattle.dag_json.specs.Floats.{number_as}
use Rattle.dag_json.specs.declared.floats.Number.{Number}
use Rattle.dag_json.specs.declared.floats.Number.TheVariants.{Unsigned, Negative, Float}
use Rattle.dag_json.specs.TapeReading.{IsTapeOf, IsTooLong}
use Rattle.dag_json.specs.Tape.{item_count, member_count, HasContent, IsNumberTape, IsTape, AreTapes, ArePairs}
use Rattle.dag_json.specs.TapeWriting.{Written, nothing, front, with_content, keyed, number_written, written, items_written, members_written, tape_view, Writes, WritesTape}
use Rattle.dag_json.specs.declared.tape.Tape.{Tape}
use Rattle.dag_json.specs.declared.tape.write.WriteError.{WriteError}
use Rattle.dag_json.specs.declared.tape.write.WriteError.TheVariants.{Memory, TooLong}

-- Entries come before the others, and data behind the data. They are this, whatever data come behind these.
record Before (P : List ℕ → List TapeEntry → Type 0) (w v : Written) : Type 0 where
  here : List TapeEntry
  more : List ℕ
  entries : v.entries ≡ here ++ w.entries
  contents : v.contents ≡ w.contents ++ more
  holds : (rest : List ℕ) → P (v.contents ++ rest) here

plain_before : (e : TapeEntry) (w : Written) → Before (λ over es. es ≡ e ∷ []) w (front e w)
plain_before e w = record { here = e ∷ []; more = []; entries = refl; contents = sym (append-nil w.contents); holds = λ rest. refl }

content_before : (kind : ℕ) (content : List ℕ) (w : Written) → Before (λ over es. HasContent over kind content es) w (with_content kind content w)
content_before kind content w = record {
  here = entry kind (length content) (length w.contents) ∷ [];
  more = content;
  entries = refl;
  contents = refl;
  holds = λ rest.
      (entry kind (length content) (length w.contents), record { before = w.contents; after = rest; stands = append_assoc w.contents content rest; is = refl }, refl);
}

number_before : (n : Option Number) (w : Written) → Before (λ over es. IsNumberTape over n es) w (number_written n w)
number_before None w = record { here = []; more = []; entries = refl; contents = sym (append-nil w.contents); holds = λ rest. refl }
number_before (Some (Unsigned n)) w = plain_before (entry 3 0 n) w
number_before (Some (Negative n)) w = plain_before (entry 4 0 n) w
number_before (Some (Float bits)) w = content_before 5 (to_be_bytes w64 bits) w

spanned : (here inner behind : List TapeEntry) → inner ≡ here ++ behind → length inner - length behind + 1 ≡ suc (length here)
spanned here inner behind e = omega (arith, ap length e, length-append here behind)

-- what comes behind the data
behind : (first second more rest : List ℕ) → second ≡ first ++ more → first ++ (more ++ rest) ≡ second ++ rest
behind first second more rest e = sym (append_assoc first more rest) ∙ ap (λ c. c ++ rest) (sym e)

mutual
  tape_before : (t : Tree) (w : Written) → Before (λ over es. IsTape over t es) w (written t w)
  tape_before null w = plain_before (entry 0 0 0) w
  tape_before (boolean false) w = plain_before (entry 1 0 0) w
  tape_before (boolean true) w = plain_before (entry 2 0 0) w
  tape_before (integer n) w = number_before (number_as n) w
  tape_before (text s) w = content_before 6 s w
  tape_before (bytes b) w = content_before 7 b w
  tape_before (list ts) w =
      let b = items_before ts w in
      record {
        here = entry 9 (suc (length b.here)) (item_count ts) ∷ b.here;
        more = b.more;
        entries = ap₂ (λ n es. entry 9 n (item_count ts) ∷ es) (spanned b.here (items_written ts w).entries w.entries b.entries) b.entries;
        contents = b.contents;
        holds = λ rest. (b.here, b.holds rest, refl);
      }
  tape_before (entries ms) w =
      let b = members_before ms w in
      record {
        here = entry 10 (suc (length b.here)) (member_count ms) ∷ b.here;
        more = b.more;
        entries = ap₂ (λ n es. entry 10 n (member_count ms) ∷ es) (spanned b.here (members_written ms w).entries w.entries b.entries) b.entries;
        contents = b.contents;
        holds = λ rest. (b.here, b.holds rest, refl);
      }
  tape_before (link l) w = content_before 8 (bytes_of l) w

  items_before : (ts : Items) (w : Written) → Before (λ over es. AreTapes over ts es) w (items_written ts w)
  items_before no_items w = record { here = []; more = []; entries = refl; contents = sym (append-nil w.contents); holds = λ rest. refl }
  items_before (item t ts) w =
      let m = items_written ts w in
      let b = items_before ts w in
      let a = tape_before t m in
      record {
        here = a.here ++ b.here;
        more = b.more ++ a.more;
        entries = a.entries ∙ ap (λ es. a.here ++ es) b.entries ∙ sym (append_assoc a.here b.here w.entries);
        contents = a.contents ∙ ap (λ c. c ++ a.more) b.contents ∙ append_assoc w.contents b.more a.more;
        holds = λ rest.
            (a.here, b.here, a.holds rest, subst (λ over. AreTapes over ts b.here) (behind m.contents (written t m).contents a.more rest a.contents) (b.holds (a.more ++ rest)), refl);
      }

  members_before : (ms : Members) (w : Written) → Before (λ over es. ArePairs over ms es) w (members_written ms w)
  members_before no_members w = record { here = []; more = []; entries = refl; contents = sym (append-nil w.contents); holds = λ rest. refl }
  members_before (member k t ms) w =
      let m = members_written ms w in
      let v = written t m in
      let b = members_before ms w in
      let a = tape_before t m in
      let e = entry 11 (length k) (length v.contents) in
      record {
        here = e ∷ (a.here ++ b.here);
        more = (b.more ++ a.more) ++ k;
        entries = ap (λ es. e ∷ es) (a.entries ∙ ap (λ es. a.here ++ es) b.entries ∙ sym (append_assoc a.here b.here w.entries));
        contents = ap (λ c. c ++ k) (a.contents ∙ ap (λ c. c ++ a.more) b.contents ∙ append_assoc w.contents b.more a.more) ∙ append_assoc w.contents (b.more ++ a.more) k;
        holds = λ rest.
            let behind_value = append_assoc v.contents k rest in (
              e,
              a.here,
              b.here,
              record { before = v.contents; after = rest; stands = behind_value; is = refl },
              subst (λ over. IsTape over t a.here) (sym behind_value) (a.holds (k ++ rest)),
              subst (λ over. ArePairs over ms b.here) (behind m.contents v.contents a.more (k ++ rest) a.contents ∙ sym behind_value) (b.holds (a.more ++ (k ++ rest))),
              refl,
            );
      }

-- the whole of it
whole : (t : Tree) → IsTape (written t nothing).contents t (written t nothing).entries
whole t =
    let b = tape_before t nothing in
    let v = written t nothing in
    subst (λ es. IsTape v.contents t es) (sym (append-nil b.here) ∙ sym b.entries) (subst (λ over. IsTape over t b.here) (append-nil v.contents) (b.holds []))

pub described : (t : Tree) (tape : Tape) → tape_view tape ≡ written t nothing → IsTapeOf t tape
described t tape e = subst (λ (w : Written). IsTape w.contents t w.entries) (sym e) (whole t)

too_long : (t : Tree) → all_short (written t nothing).entries ≡ false → IsTooLong t
too_long t long = ((written t nothing).contents, (written t nothing).entries, whole t, long)

pub failed : (t : Tree) (e : WriteError) (after : Written) → Writes (written t nothing) (Err e) after → WritesTape t (Err e)
failed t Memory after h = tt
failed t TooLong after h = too_long t h

-- ---- an entry that is too long stays there

long_behind : (here es : List TapeEntry) → all_short es ≡ false → all_short (here ++ es) ≡ false
long_behind [] es long = long
long_behind (e ∷ here) es long = and_right (nat_lt e.len (2 ^ 32)) (all_short (here ++ es)) (long_behind here es long)

pub long_written : (t : Tree) (w : Written) → all_short w.entries ≡ false → all_short (written t w).entries ≡ false
long_written t w long =
    let b = tape_before t w in
    ap all_short b.entries ∙ long_behind b.here w.entries long

pub long_keyed : (k : Option (List ℕ)) (w : Written) → all_short w.entries ≡ false → all_short (keyed k w).entries ≡ false
long_keyed None w long = long
long_keyed (Some k) w long = long_behind (entry 11 (length k) (length w.contents) ∷ []) w.entries long
