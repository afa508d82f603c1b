-- The records of a block's links, cut out of its bytes.
use Rattle.std.proofs.Common.{◌≡◌, ℕ, ◌≤◌, true, List, [], ◌∷◌, length, Option, Some, None, refl, ap, arith}
use Rattle.std.specs.Prelude.{map}
use Rattle.std.specs.List.{All}
use Rattle.std.proofs.lemmas.List.Elements.{All-nil, All-cons}
use Rattle.ipld_cid.specs.Cid.{Link}
use Rattle.ipld_cid.proofs.TextLengths.{cid_short}
use Rattle.ipld_tokens.specs.LinkBytes.{read_link}
use Rattle.dag_cbor_format.specs.declared.error.CborError.{CborError}
use Rattle.dag_cbor_format.specs.Found.{links_among}
use Rattle.dag_cbor_format.specs.Reading.{unless_error}
use Rattle.dag_cbor_format.specs.Trace.{cut, tokens_in, trace_of, links_read, positions_read}
use Rattle.dag_cbor_format.proofs.ItemHeaderLaws.{link_encoded}
use Rattle.dag_cbor_format.proofs.LinkCuts.{positions_cut}
use Rattle.dag_cbor_blocks.specs.LinkPositions.{position_of}
use Rattle.dag_cbor_format.proofs.CidLaws.{cid_laws}
use Rattle.dag_cbor_blocks.specs.declared.link_position.LinkPosition.{LinkPosition}
use Rattle.kombilad_c.specs.CidRecord.{record_of, record_with}

-- what is cut out at the positions, as records, each of which it fits
abbrev pub Cut : List ℕ → List LinkPosition → List Link → Type 0
Cut block ps links = (map (λ p. record_with (cut (position_of p) block)) ps ≡ map record_of links) × All (λ p. length (cut (position_of p) block) ≤ 87) ps

cut_each : (block : List ℕ) (ps : List LinkPosition) (links : List Link) → map (λ p. read_link 64 (cut p block)) (map position_of ps) ≡ map Some links → Cut block ps links
cut_each block [] [] e = (refl, All-nil _)
cut_each block [] (link ∷ links) e = absurd (cc e)
cut_each block (p ∷ ps) [] e = absurd (cc e)
cut_each block (p ∷ ps) (link ∷ links) e =
    let here : read_link 64 (cut (position_of p) block) ≡ Some link = cc in
    let others : map (λ q. read_link 64 (cut q block)) (map position_of ps) ≡ map Some links = cc in
    let is = link_encoded cid_laws (cut (position_of p) block) link here in
    let same : record_with (cut (position_of p) block) ≡ record_of link = ap record_with (cid_laws.once (cut (position_of p) block) link is) in
    let more = cut_each block ps links others in
    let short : length (cut (position_of p) block) ≤ 87 = omega (arith, cid_short (cut (position_of p) block) link is) in
    (rw (same, more.0), All-cons (λ q. length (cut (position_of q) block) ≤ 87) p ps short more.1)

without_error : {A B : Type 0} (o : Option CborError) (x : A) (y z : B) → unless_error o (Some y) ≡ Some z → unless_error o (Some x) ≡ Some x
without_error None x y z e = refl
without_error (Some error) x y z e = absurd (cc e)

-- of a whole block
pub cut_records : (block : List ℕ) (ps : List LinkPosition) → positions_read true block ≡ Some (map position_of ps)
    → (links : List Link) × (links_read true block ≡ Some links) × Cut block ps links
unfolding links_read positions_read
cut_records block ps found =
    let links = links_among (tokens_in (trace_of true block).events) in
    let read = without_error (trace_of true block).error links _ (map position_of ps) found in
    (links, read, cut_each block ps links (positions_cut cid_laws true block links (map position_of ps) read found))
