-- The lines of bytes so far, and what the lines to come add to the output.
use Rattle.std.proofs.Common.{◌≡◌, ◌⊎◌, inl, inr, ℕ, ◌+◌, List, [], ◌∷◌, ◌++◌, length, map, Bool, true, false, Option, None, Some, Result, Ok, Err, IfSome, IfOk, MatchBool, refl, sym, ap, subst, ◌∙◌, append_assoc, append-nil, arith}
use Rattle.std.proofs.lemmas.List.{map-append, length-append}
use Rattle.std.proofs.lemmas.Grind.{flat_map-append}
use Rattle.std.specs.Io.KnownBytes.{Appends}
use Rattle.std.proofs.KnownBytes.{Appends-nil, Appends-trans}
use Rattle.ipld_cid.specs.Cid.{Link}
use Rattle.ipld_cid.specs.Text.{text_of}
use Rattle.dag_cbor_format.specs.declared.error.CborError.{CborError}
use Rattle.dag_cbor_format.specs.declared.error.CborError.TheVariants.{Memory}
use Rattle.dag_cbor_format.specs.ErrorKinds.{lies_in_bytes, name_of}
use Rattle.dag_cbor_format.specs.FirstError.{first_error}
use Rattle.dag_cbor_format.specs.Found.{links_found}
use Rattle.ipld_links_run.specs.declared.status.Status.{Status}
use Rattle.ipld_links_run.specs.declared.status.RunFault.{RunFault}
use Rattle.ipld_links_run.specs.Lines.{lines_of, TakesLine}
use Rattle.ipld_links_run.specs.ByteLines.{LineReading, links, rejected, not_understood, bytes_of_line, of_bytes, block_reading, readings}
use Rattle.ipld_links_run.specs.Output.{written, all_links, EndsWith, LinesOutput, Writes, WritesLinks}
use Rattle.ipld_links_run.specs.Verdict.{Verdict, done, refused, bad_line, last_line, status_of}

-- ---- a block

-- a block has the links that are found in it
pub block_read : (bytes : List ℕ) (found : List Link) → links_found bytes ≡ Some found → block_reading bytes ≡ links found
block_read bytes found e = rw e refl

-- the bytes of no block are rejected for their first error
pub block_rejected : (bytes : List ℕ) (error : CborError) → (error ≡ Memory → ⊥) → (error ≡ Memory) ⊎ (links_found bytes ≡ None)
    → (error ≡ Memory) ⊎ (lies_in_bytes error ≡ true) → (lies_in_bytes error ≡ true → first_error bytes ≡ Some error) → block_reading bytes ≡ rejected (name_of error)
block_rejected bytes error other (inl memory) lies first = absurd (other memory)
block_rejected bytes error other (inr none) (inl memory) first = absurd (other memory)
block_rejected bytes error other (inr none) (inr lies) first = rw (none, first lies) refl

-- ---- lines

pub is_understood : (found : Bool) (line bytes : List ℕ) → MatchBool found (bytes_of_line line ≡ Some bytes) (bytes_of_line line ≡ None) → found ≡ true
    → bytes_of_line line ≡ Some bytes
is_understood found line bytes says is = rw is at says

pub not_understood_line : (found : Bool) (line bytes : List ℕ) → MatchBool found (bytes_of_line line ≡ Some bytes) (bytes_of_line line ≡ None) → found ≡ false
    → bytes_of_line line ≡ None
not_understood_line found line bytes says is = rw is at says

-- so many texts of so many lines were written, and the rest of the input adds what is missing
pub record Continues (reading : List ℕ → LineReading) (input : List ℕ) (left old new : Option (List ℕ)) (texts lines : ℕ) : Type 0 where
  pub rest : List ℕ
  pub before : List (List Link)
  pub left_is : left ≡ Some rest
  pub appended : Appends old new (written (map text_of (all_links before)))
  pub are_lines : readings reading input ≡ map links before ++ readings reading rest
  pub texts_are : texts ≡ length (all_links before)
  pub lines_are : lines ≡ length before

abbrev pub Progress : (reading : List ℕ → LineReading) (old_left left old new : Option (List ℕ)) → ℕ → ℕ → Type 0
Progress reading old_left left old new texts lines = IfSome old_left (λ input. Continues reading input left old new texts lines)

pub progress_start : (reading : List ℕ → LineReading) (left known : Option (List ℕ)) → Progress reading left left known known 0 0
progress_start reading None known = tt
progress_start reading (Some input) known = record {
  rest = input;
  before = [];
  left_is = refl;
  appended = Appends-nil known;
  are_lines = refl;
  texts_are = refl;
  lines_are = refl;
}

next_reading : (reading : List ℕ → LineReading) (input rest line : List ℕ) (r : LineReading) → lines_of input ≡ line ∷ lines_of rest
    → of_bytes reading (bytes_of_line line) ≡ r → readings reading input ≡ r ∷ readings reading rest
next_reading reading input rest line r lines says =
    ap (map (λ line. of_bytes reading (bytes_of_line line))) lines ∙ ap (λ s. s ∷ readings reading rest) says

written-append : (xs ys : List (List ℕ)) → written (xs ++ ys) ≡ written xs ++ written ys
written-append xs ys = flat_map-append (λ line. line ++ 10 ∷ []) xs ys

one_more : (before : List (List Link)) (found : List Link) → all_links (before ++ found ∷ []) ≡ all_links before ++ found
one_more before found = flat_map-append (λ found. found) before (found ∷ []) ∙ ap (λ l. all_links before ++ l) (append-nil found)

pub progress_line : (reading : List ℕ → LineReading) (a b c old mid new : Option (List ℕ)) (n m k : ℕ) (found : Bool) (line bytes : List ℕ) (ls : List Link)
    → Progress reading a b old mid n k → IfSome b (λ input. TakesLine input found line c) → found ≡ true → bytes_of_line line ≡ Some bytes
    → reading bytes ≡ links ls → m ≡ n + length ls → Appends mid new (written (map text_of ls)) → Progress reading a c old new m (k + 1)
progress_line reading None b c old mid new n m k found line bytes ls p taken is digits says counted more = tt
progress_line reading (Some input) b c old mid new n m k found line bytes ls p taken is digits says counted more =
    let (next, left, lines) = rw is at (rw p.left_is at taken) in
    let said = next_reading reading p.rest next line (links ls) lines (ap (of_bytes reading) digits ∙ says) in
    let all = one_more p.before ls in
    let both : written (map text_of (all_links p.before)) ++ written (map text_of ls) ≡ written (map text_of (all_links (p.before ++ ls ∷ []))) =
    sym (ap (λ l. written (map text_of l)) all ∙ ap written (map-append text_of (all_links p.before) ls)
    ∙ written-append (map text_of (all_links p.before)) (map text_of ls)) in
    record {
      rest = next;
      before = p.before ++ ls ∷ [];
      left_is = left;
      appended = subst (λ l. Appends old new l) both (Appends-trans _ _ _ _ _ p.appended more);
      are_lines = p.are_lines ∙ ap (λ l. map links p.before ++ l) said ∙ sym (append_assoc (map links p.before) (links ls ∷ []) (readings reading next))
          ∙ ap (λ l. l ++ readings reading next) (sym (map-append links p.before (ls ∷ [])));
      texts_are = omega (arith, p.texts_are, counted, ap length all, length-append (all_links p.before) ls);
      lines_are = omega (arith, p.lines_are, length-append p.before (ls ∷ []));
    }

finish : (reading : List ℕ → LineReading) (input : List ℕ) (left old mid new : Option (List ℕ)) (n k : ℕ) (verdict : Verdict) (status : Status)
    (p : Continues reading input left old mid n k) → EndsWith p.before (readings reading p.rest) verdict
    → (status ≡ status_of verdict) × Appends mid new (last_line verdict ++ 10 ∷ []) → Writes old new (LinesOutput reading input status)
finish reading input left old mid new n k verdict status p ends wrote =
    let texts = map text_of (all_links p.before) in
    let last = last_line verdict ++ 10 ∷ [] in (
      written texts ++ last,
      record {
        before = p.before;
        rest = readings reading p.rest;
        verdict = verdict;
        are_lines = p.are_lines;
        ends = ends;
        writes = (ap (λ l. written texts ++ l) (sym (append-nil last)) ∙ sym (written-append texts (last_line verdict ∷ [])), wrote.0);
      },
      Appends-trans _ _ _ _ _ p.appended wrote.1,
    )

-- what a run wrote as its last line
abbrev pub WritesLast : Option (List ℕ) → Option (List ℕ) → Verdict → Result Status RunFault → Type 0
WritesLast mid new verdict r = IfOk r (λ status. (status ≡ status_of verdict) × Appends mid new (last_line verdict ++ 10 ∷ []))

abbrev pub WritesAll : (List ℕ → LineReading) → Option (List ℕ) → Option (List ℕ) → Option (List ℕ) → Result Status RunFault → Type 0
WritesAll reading a old new r = IfOk r (λ status. IfSome a (λ input. Writes old new (LinesOutput reading input status)))

-- all lines were read
pub finish_done : (reading : List ℕ → LineReading) (a b c old mid new : Option (List ℕ)) (n k : ℕ) (found : Bool) (line : List ℕ) (r : Result Status RunFault)
    → Progress reading a b old mid n k → IfSome b (λ input. TakesLine input found line c) → found ≡ false → WritesLast mid new (done n) r
    → WritesAll reading a old new r
unfolding lines_of
finish_done reading a b c old mid new n k found line (Err e) p taken is wrote = tt
finish_done reading None b c old mid new n k found line (Ok status) p taken is wrote = tt
finish_done reading (Some input) b c old mid new n k found line (Ok status) p taken is wrote =
    let (none, left) = rw is at (rw p.left_is at taken) in
    finish reading input b old mid new n k (done n) status p
    (subst (λ l. EndsWith p.before (readings reading l) (done n)) (sym none) (ap done p.texts_are)) wrote

-- the line is not understood
pub finish_bad : (reading : List ℕ → LineReading) (a b c old mid new : Option (List ℕ)) (n k : ℕ) (found : Bool) (line : List ℕ) (r : Result Status RunFault)
    → Progress reading a b old mid n k → IfSome b (λ input. TakesLine input found line c) → found ≡ true → bytes_of_line line ≡ None
    → WritesLast mid new (bad_line (k + 1)) r → WritesAll reading a old new r
finish_bad reading a b c old mid new n k found line (Err e) p taken is none wrote = tt
finish_bad reading None b c old mid new n k found line (Ok status) p taken is none wrote = tt
finish_bad reading (Some input) b c old mid new n k found line (Ok status) p taken is none wrote =
    let (next, left, lines) = rw is at (rw p.left_is at taken) in
    let said = next_reading reading p.rest next line not_understood lines (ap (of_bytes reading) none) in
    finish reading input b old mid new n k (bad_line (k + 1)) status p
    (subst (λ l. EndsWith p.before l (bad_line (k + 1))) (sym said) (ap (λ n. bad_line (n + 1)) p.lines_are)) wrote

-- the bytes of the line encode nothing
pub finish_rejected : (reading : List ℕ → LineReading) (a b c old mid new : Option (List ℕ)) (n k : ℕ) (found : Bool) (line bytes name : List ℕ) (r : Result Status RunFault)
    → Progress reading a b old mid n k → IfSome b (λ input. TakesLine input found line c) → found ≡ true → bytes_of_line line ≡ Some bytes
    → reading bytes ≡ rejected name → WritesLast mid new (refused name) r → WritesAll reading a old new r
finish_rejected reading a b c old mid new n k found line bytes name (Err e) p taken is digits says wrote = tt
finish_rejected reading None b c old mid new n k found line bytes name (Ok status) p taken is digits says wrote = tt
finish_rejected reading (Some input) b c old mid new n k found line bytes name (Ok status) p taken is digits says wrote =
    let (next, left, lines) = rw is at (rw p.left_is at taken) in
    let said = next_reading reading p.rest next line (rejected name) lines (ap (of_bytes reading) digits ∙ says) in
    finish reading input b old mid new n k (refused name) status p (subst (λ l. EndsWith p.before l (refused name)) (sym said) refl) wrote

-- ---- an outcome

-- the texts of links, and then the last line
pub outcome_written : (old mid new : Option (List ℕ)) (found : List Link) (n : ℕ) (r : Result Status RunFault) → n ≡ length found
    → Appends old mid (written (map text_of found)) → WritesLast mid new (done n) r → IfOk r (λ status. Writes old new (WritesLinks found (done (length found)) status))
outcome_written old mid new found n (Err e) counted texts wrote = tt
outcome_written old mid new found n (Ok status) counted texts wrote =
    let last = last_line (done (length found)) ++ 10 ∷ [] in
    let (ends, more) = rw counted at wrote in (
      written (map text_of found) ++ last,
      (ap (λ l. written (map text_of found) ++ l) (sym (append-nil last)) ∙ sym (written-append (map text_of found) (last_line (done (length found)) ∷ [])), ends),
      Appends-trans _ _ _ _ _ texts more,
    )
