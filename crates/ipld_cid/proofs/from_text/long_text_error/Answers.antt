use Rattle.std.proofs.Common.{◌≡◌, ℕ, ◌≤◌, true, false, List, ◌++◌, length, take, drop, Option, Some, None, Result, Ok, Err, sym, ap, ◌∙◌, arith}
use Rattle.std.specs.Prelude.{is_some, MatchOption}
use Rattle.std.proofs.lemmas.List.{take-append-drop, length-drop}
use Rattle.ipld_cid.specs.declared.cid.CidGeneric.{CidGeneric}
use Rattle.ipld_cid.specs.LinkOf.{link_of}
use Rattle.ipld_cid.specs.Reads.{Reads}
use Rattle.ipld_cid.specs.declared.error.CidError.{CidError}
use Rattle.ipld_cid.specs.Cid.{Link}
use Rattle.ipld_cid.specs.Bytes.{read_cid}
use Rattle.ipld_cid.specs.TextReading.{decoded, begins_v0, read_decoded}
use Rattle.ipld_cid.proofs.LongTexts.{over, front_invalid, rest_invalid, v0_invalid, long_error}
use Rattle.ipld_cid.proofs.from_text.long_text_error.Goals as goal
use Rattle.ipld_cid.proofs.from_text.long_text_error.Goals.{then-begins_v0-via-then-begins_v0, then-begins_v0-via-else-begins_v0+then-not-are_decodable}

-- what the outcome of decoding says
none : {A : Type 0} (r : Option A) (found : Option (List ℕ)) (bytes : List ℕ) → MatchOption r (found ≡ None) (λ _. found ≡ Some bytes) → is_some r ≡ false → found ≡ None
none None found bytes says e = says
none (Some x) found bytes says e = absurd cc

some : {A : Type 0} (r : Option A) (found : Option (List ℕ)) (bytes : List ℕ) → MatchOption r (found ≡ None) (λ _. found ≡ Some bytes) → is_some r ≡ true → found ≡ Some bytes
some None found bytes says e = absurd cc
some (Some x) found bytes says e = says

-- both parts are the letters
parts : (letters front rest : List ℕ) → front ≡ take 152 letters → rest ≡ drop 152 letters → front ++ rest ≡ letters
parts letters front rest p q = rw (p, q) (take-append-drop 152 letters)

pub returns-then-is_none : goal.returns-then-is_none
returns-then-is_none c =
    let front = c.split_at.result.0.now in
    let rest = c.split_at.result.1.now in
    let fails : is_some c.decode_letters.result ≡ false = rw c.if-is_none.true at c.is_none.ensures in
    ap (λ (letters : List ℕ). read_decoded 64 (decoded letters)) (sym (parts c.args.letters.now front rest c.split_at.ensures.front c.split_at.ensures.back))
    ∙ front_invalid front rest (omega arith) (none c.decode_letters.result (decoded front) c.decode_letters.new.bytes c.decode_letters.ensures fails)

pub returns-then-begins_v0 : goal.returns-then-begins_v0
returns-then-begins_v0 c =
    let front = c.split_at.result.0.now in
    let rest = c.split_at.result.1.now in
    let whole = ap (λ (letters : List ℕ). read_decoded 64 (decoded letters)) (sym (parts c.args.letters.now front rest c.split_at.ensures.front c.split_at.ensures.back)) in
    let makes : is_some c.decode_letters.result ≡ true = rw c.if-is_none.false at c.is_none.ensures in
    let is = some c.decode_letters.result (decoded front) c.decode_letters.new.bytes c.decode_letters.ensures makes in
    elim c.then-begins_v0.branch [
      | then-begins_v0-via-then-begins_v0 w ↦ whole ∙ v0_invalid front rest c.decode_letters.new.bytes (omega arith) is (sym c.begins_v0.ensures ∙ w.if-begins_v0.true)
      | then-begins_v0-via-else-begins_v0+then-not-are_decodable w ↦ whole ∙ rest_invalid front rest (omega arith) (sym w.are_decodable.ensures ∙ w.if-not-are_decodable.true)
    ]

-- the outcome of reading
ok_read : (bytes : List ℕ) (r : Result (CidGeneric 64) CidError) (c : CidGeneric 64) → Reads 64 bytes r → r ≡ Ok c → read_cid 64 bytes ≡ Ok (link_of c)
ok_read bytes (Ok d) c reads is = let same : d ≡ c = cc in reads.exact ∙ ap (λ (x : CidGeneric 64). Ok (link_of x)) same
ok_read bytes (Err error) c reads is = absurd cc

err_read : (bytes : List ℕ) (r : Result (CidGeneric 64) CidError) (error : CidError) → Reads 64 bytes r → r ≡ Err error → read_cid 64 bytes ≡ Err error
err_read bytes (Ok d) error reads is = absurd cc
err_read bytes (Err e) error reads is = let same : e ≡ error = cc in reads.exact ∙ ap (λ (x : CidError). Err x) same

-- the error of the letters, by the outcome of reading
outcome : (letters front rest bytes : List ℕ) (read : Result Link CidError) → 155 ≤ length letters → front ≡ take 152 letters → rest ≡ drop 152 letters → length front ≡ 152
    → decoded front ≡ Some bytes → begins_v0 bytes ≡ false → is_some (decoded rest) ≡ true → read_cid 64 bytes ≡ read → read_decoded 64 (decoded letters) ≡ Err (over read)
outcome letters front rest bytes read enough p q long is not_v0 decodes same =
    ap (λ (letters : List ℕ). read_decoded 64 (decoded letters)) (sym (parts letters front rest p q))
    ∙ long_error front rest bytes long (omega (arith, ap length q, length-drop 152 letters)) is not_v0 decodes ∙ ap (λ (r : Result Link CidError). Err (over r)) same

pub returns-in-Ok : goal.returns-in-Ok
returns-in-Ok c =
    let front = c.split_at.result.0.now in
    let rest = c.split_at.result.1.now in
    let bytes = c.decode_letters.new.bytes in
    let makes : is_some c.decode_letters.result ≡ true = rw c.if-is_none.false at c.is_none.ensures in
    let read = ap (read_cid 64) (sym c.as_slice.ensures) ∙ ok_read c.as_slice.result.now c.try_from.result c.in-Ok.field-0 c.try_from.ensures c.in-Ok.is in
    outcome c.args.letters.now front rest bytes _ c.requires c.split_at.ensures.front c.split_at.ensures.back (omega arith)
    (some c.decode_letters.result (decoded front) bytes c.decode_letters.ensures makes) (sym c.begins_v0.ensures ∙ c.if-begins_v0.false)
    (sym c.are_decodable.ensures ∙ c.if-not-are_decodable.false) read

pub returns-in-Err : goal.returns-in-Err
returns-in-Err c =
    let front = c.split_at.result.0.now in
    let rest = c.split_at.result.1.now in
    let bytes = c.decode_letters.new.bytes in
    let makes : is_some c.decode_letters.result ≡ true = rw c.if-is_none.false at c.is_none.ensures in
    let read = ap (read_cid 64) (sym c.as_slice.ensures) ∙ err_read c.as_slice.result.now c.try_from.result c.in-Err.error c.try_from.ensures c.in-Err.is in
    outcome c.args.letters.now front rest bytes _ c.requires c.split_at.ensures.front c.split_at.ensures.back (omega arith)
    (some c.decode_letters.result (decoded front) bytes c.decode_letters.ensures makes) (sym c.begins_v0.ensures ∙ c.if-begins_v0.false)
    (sym c.are_decodable.ensures ∙ c.if-not-are_decodable.false) read
