-- The bytes at the positions of the links of a block are those of its links, in order.
use Rattle.std.proofs.Common.{◌≡◌, ℕ, zero, suc, ◌+◌, ◌-◌, Bool, true, false, cond, List, [], ◌∷◌, ◌++◌, length, take, drop, map, Option, Some, None, refl, sym, ap, subst, ◌∙◌, append_assoc, arith}
use Rattle.std.proofs.lemmas.List.{take_at, drop_at, length-append}
use Rattle.std.proofs.lemmas.Option.{same_Some}
use Rattle.ipld_cid.specs.Cid.{Link}
use Rattle.ipld_tokens.specs.LinkBytes.{read_link}
use Rattle.ipld_tokens.specs.Token.{TokenModel, atom, text, bytes, some, variant, link, seq, seq_end, map_end}
use Rattle.ipld_tokens.specs.Token as token
use Rattle.ipld_tokens.specs.Item.{Item, atom_item, bytes_item, some_item, variant_item, list_item, map_item, link_item, tokens_of}
use Rattle.dag_cbor_format.specs.declared.error.CborError.{CborError}
use Rattle.dag_cbor_format.specs.declared.error.CborError.TheVariants.{DuplicateKey}
use Rattle.dag_cbor_format.specs.declared.major.Major.TheVariants.{Bytes, Text, List as Array, Map, Tag}
use Rattle.dag_cbor_format.specs.Errors.{key_error, link_error}
use Rattle.dag_cbor_format.specs.Floats.{beginning_at, beginning_error}
use Rattle.dag_cbor_format.specs.Found.{link_before, marked_link, links_among}
use Rattle.dag_cbor_format.specs.Head.{head}
use Rattle.dag_cbor_format.specs.ItemHeader.{Beginning, scalar, list, map as map_of, link as link_of, key_at, link_at}
use Rattle.dag_cbor_format.specs.Reading.{Frame, one, many, pairs, value, mark, Out, ended, rejected, yields, begin, begun, among, and_key, after_key, after_link, end_step, step_in, unless_error}
use Rattle.dag_cbor_format.specs.Trace.{Event, tokens_in, Trace, after_a_key, traced, trace, trace_of, Position, position_before, marked_position, positions_among, cut, links_read, positions_read}
use Rattle.dag_cbor_format.proofs.FloatLaws.{BeginningIs, beginning_is}
use Rattle.dag_cbor_format.proofs.ItemHeaderLaws.{CidLaws, read_link-complete}
use Rattle.dag_cbor_format.proofs.ItemHeaders.{key_is, link_is}
use Rattle.dag_cbor_format.proofs.Running.{weight, trace_is}

-- ---- what a step consumes

-- a link's mark opens the frame of its bytes
abbrev LinkFrame : TokenModel → List Frame → Type 0
LinkFrame link (mark ∷ fs) = Unit {0}
LinkFrame link _ = ⊥
LinkFrame _ fs = Unit {0}

-- there the bytes of a CID are given, with which what was consumed ends
abbrev MarkFact : List Frame → TokenModel → List ℕ → List ℕ → Type 0
MarkFact (mark ∷ fs) t bs rest = (b : List ℕ) × (t ≡ bytes b) × (cid : Link) × (read_link 64 b ≡ Some cid) × (a : List ℕ) × (bs ≡ a ++ (b ++ rest))
MarkFact _ t bs rest = Unit {0}

abbrev Fine : List Frame → List ℕ → Out → Type 0
Fine fs bs ended = Unit {0}
Fine fs bs (rejected error) = Unit {0}
Fine fs bs (yields t next rest) = ((c : List ℕ) × (bs ≡ c ++ rest)) × LinkFrame t next × MarkFact fs t bs rest

scalar_no_link : (i : Item 64) (t : TokenModel) (fs : List Frame) → tokens_of i ≡ t ∷ [] → LinkFrame t fs
scalar_no_link (atom_item a) t fs e = let same : atom a ≡ t = cc e in subst (λ x. LinkFrame x fs) same tt
scalar_no_link (bytes_item b) t fs e = let same : bytes b ≡ t = cc e in subst (λ x. LinkFrame x fs) same tt
scalar_no_link (some_item i) t fs e = let same : some ≡ t = cc e in subst (λ x. LinkFrame x fs) same tt
scalar_no_link (variant_item name i) t fs e = let same : variant name ≡ t = cc e in subst (λ x. LinkFrame x fs) same tt
scalar_no_link (list_item is) t fs e = let same : seq ≡ t = cc e in subst (λ x. LinkFrame x fs) same tt
scalar_no_link (map_item ps) t fs e = let same : token.map ≡ t = cc e in subst (λ x. LinkFrame x fs) same tt
scalar_no_link (link_item b cid is) t fs e = absurd (cc e)

-- no frame of a link's bytes is open
abbrev IsPlain : List Frame → Type 0
IsPlain (mark ∷ fs) = ⊥
IsPlain _ = Unit {0}

no_fact : (fs : List Frame) (t : TokenModel) (bs rest : List ℕ) → IsPlain fs → MarkFact fs t bs rest
no_fact [] t bs rest h = tt
no_fact (one ∷ fs) t bs rest h = tt
no_fact (many n ∷ fs) t bs rest h = tt
no_fact (pairs n seen ∷ fs) t bs rest h = tt
no_fact (value n seen ∷ fs) t bs rest h = tt
no_fact (mark ∷ fs) t bs rest h = absurd h

begin_fine : (floats : Bool) (at fs : List Frame) (bs : List ℕ) (l : Beginning) (rest : List ℕ) → IsPlain at → BeginningIs floats l bs rest → Fine at bs (begin fs l rest)
begin_fine floats at fs bs (scalar t) rest plain h = ((h.2, h.5), scalar_no_link h.0 t fs h.6, no_fact at t bs rest plain)
begin_fine floats at fs bs (list n) rest plain h = ((head Array n, h.1), tt, no_fact at seq bs rest plain)
begin_fine floats at fs bs (map_of n) rest plain h = ((head Map n, h.1), tt, no_fact at token.map bs rest plain)
begin_fine floats at fs bs link_of rest plain h = ((head Tag 42, h), tt, no_fact at link bs rest plain)

begun_fine : (floats : Bool) (at fs : List Frame) (bs : List ℕ) (x : CborError) (o : Option (Beginning × List ℕ)) → IsPlain at → beginning_at floats bs ≡ o → Fine at bs (begun fs x o)
begun_fine floats at fs bs x None plain e = tt
begun_fine floats at fs bs x (Some (l, rest)) plain e = begin_fine floats at fs bs l rest plain (beginning_is floats bs l rest e).1

again_fine : (b : Bool) (at : List Frame) (bs : List ℕ) (x : CborError) (o : Out) → Fine at bs o → Fine at bs (cond b (rejected x) o)
again_fine true at bs x o h = tt
again_fine false at bs x o h = h

key_fine : (n : ℕ) (seen : List (List ℕ)) (fs : List Frame) (bs : List ℕ) (x : CborError) (o : Option (List ℕ × List ℕ)) → key_at bs ≡ o → Fine (pairs (suc n) seen ∷ fs) bs (after_key n seen fs x o)
key_fine n seen fs bs x None e = tt
key_fine n seen fs bs x (Some (k, rest)) e = again_fine (among k seen) (pairs (suc n) seen ∷ fs) bs DuplicateKey (yields (atom (text k)) (value n (and_key k seen) ∷ fs) rest) ((head Text (length k) ++ k, (key_is bs k rest e).3), tt, tt)

link_fine : CidLaws → (fs : List Frame) (bs : List ℕ) (x : CborError) (o : Option (List ℕ × List ℕ)) → link_at bs ≡ o → Fine (mark ∷ fs) bs (after_link fs x o)
link_fine laws fs bs x None e = tt
link_fine laws fs bs x (Some (b, rest)) e =
    let l = link_is laws bs b rest e in
    let zeroed = head Bytes (suc (length b)) ++ 0 ∷ [] in
    let same : bs ≡ zeroed ++ (b ++ rest) =
    l.encoded ∙ append_assoc (head Bytes (suc (length b))) (0 ∷ b) rest ∙ sym (append_assoc (head Bytes (suc (length b))) (0 ∷ []) (b ++ rest)) in
    ((head Bytes (suc (length b)) ++ 0 ∷ b, l.encoded), tt, (b, refl, l.cid, read_link-complete laws b l.cid l.is, zeroed, same))

end_fine : (bs : List ℕ) → Fine [] bs (end_step bs)
end_fine [] = tt
end_fine (b ∷ bs) = tt

step_fine : CidLaws → (floats : Bool) (fs : List Frame) (bs : List ℕ) → Fine fs bs (step_in floats fs bs)
step_fine laws floats [] bs = end_fine bs
step_fine laws floats (one ∷ fs) bs = begun_fine floats (one ∷ fs) fs bs (beginning_error floats bs) (beginning_at floats bs) tt refl
step_fine laws floats (many zero ∷ fs) bs = (([], refl), tt, tt)
step_fine laws floats (many (suc n) ∷ fs) bs = begun_fine floats (many (suc n) ∷ fs) (many n ∷ fs) bs (beginning_error floats bs) (beginning_at floats bs) tt refl
step_fine laws floats (pairs zero seen ∷ fs) bs = (([], refl), tt, tt)
step_fine laws floats (pairs (suc n) seen ∷ fs) bs = key_fine n seen fs bs (key_error bs) (key_at bs) refl
step_fine laws floats (value n seen ∷ fs) bs = begun_fine floats (value n seen ∷ fs) (pairs n seen ∷ fs) bs (beginning_error floats bs) (beginning_at floats bs) tt refl
step_fine laws floats (mark ∷ fs) bs = link_fine laws fs bs (link_error bs) (link_at bs) refl

-- ---- the bytes at a position

at_end : (before b rest block : List ℕ) → block ≡ before ++ (b ++ rest) → cut (length block - length rest - length b, length b) block ≡ b
at_end before b rest block e =
    let sizes : length block ≡ length before + (length b + length rest) = ap length e ∙ length-append before (b ++ rest) ∙ ap (λ n. length before + n) (length-append b rest) in
    let offset : length before ≡ length block - length rest - length b = omega (arith, sizes) in
    ap (λ xs. take (length b) (drop (length block - length rest - length b) xs)) e
    ∙ ap (take (length b)) (drop_at before (b ++ rest) (length block - length rest - length b) offset) ∙ take_at b rest (length b) refl

-- ---- runs

module _ (laws : CidLaws) (floats : Bool) (block : List ℕ) where
  abbrev Cuts : List Event → Type 0
  Cuts es = map (λ p. read_link 64 (cut p block)) (positions_among (length block) es) ≡ map Some (links_among (tokens_in es))

  abbrev Marked : Option Position → Option Link → Type 0
  Marked None None = Unit {0}
  Marked None (Some cid) = ⊥
  Marked (Some p) None = ⊥
  Marked (Some p) (Some cid) = read_link 64 (cut p block) ≡ Some cid

  abbrev MarkedIn : List Frame → List Event → Type 0
  MarkedIn (mark ∷ fs) es = Marked (marked_position (length block) es) (marked_link (tokens_in es))
  MarkedIn _ es = Unit {0}

  before_both : (o : Option Position) (q : Option Link) (ps : List Position) (ls : List Link) → Marked o q → map (λ p. read_link 64 (cut p block)) ps ≡ map Some ls
      → map (λ p. read_link 64 (cut p block)) (position_before o ps) ≡ map Some (link_before q ls)
  before_both None None ps ls h e = e
  before_both None (Some cid) ps ls h e = absurd h
  before_both (Some p) None ps ls h e = absurd h
  before_both (Some p) (Some cid) ps ls h e = ap (λ o. o ∷ map (λ p. read_link 64 (cut p block)) ps) h ∙ ap (λ xs. Some cid ∷ xs) e

  event_cuts : (t : TokenModel) (left : ℕ) (key : Bool) (fs : List Frame) (es : List Event) → LinkFrame t fs → Cuts es → MarkedIn fs es → Cuts ((t, left, key) ∷ es)
  event_cuts (atom a) left key fs es h e m = e
  event_cuts (bytes b) left key fs es h e m = e
  event_cuts some left key fs es h e m = e
  event_cuts (variant name) left key fs es h e m = e
  event_cuts seq left key fs es h e m = e
  event_cuts seq_end left key fs es h e m = e
  event_cuts token.map left key fs es h e m = e
  event_cuts map_end left key fs es h e m = e
  event_cuts link left key [] es h e m = absurd h
  event_cuts link left key (one ∷ fs) es h e m = absurd h
  event_cuts link left key (many n ∷ fs) es h e m = absurd h
  event_cuts link left key (pairs n seen ∷ fs) es h e m = absurd h
  event_cuts link left key (value n seen ∷ fs) es h e m = absurd h
  event_cuts link left key (mark ∷ fs) es h e m = before_both (marked_position (length block) es) (marked_link (tokens_in es)) (positions_among (length block) es) (links_among (tokens_in es)) m e

  no_marked : (fs : List Frame) → MarkedIn fs []
  no_marked [] = tt
  no_marked (one ∷ fs) = tt
  no_marked (many n ∷ fs) = tt
  no_marked (pairs n seen ∷ fs) = tt
  no_marked (value n seen ∷ fs) = tt
  no_marked (mark ∷ fs) = tt

  event_marked : (fs : List Frame) (t : TokenModel) (bs rest before : List ℕ) (key : Bool) (es : List Event) → MarkFact fs t bs rest → block ≡ before ++ bs → MarkedIn fs ((t, length rest, key) ∷ es)
  event_marked [] t bs rest before key es h e = tt
  event_marked (one ∷ fs) t bs rest before key es h e = tt
  event_marked (many n ∷ fs) t bs rest before key es h e = tt
  event_marked (pairs n seen ∷ fs) t bs rest before key es h e = tt
  event_marked (value n seen ∷ fs) t bs rest before key es h e = tt
  event_marked (mark ∷ fs) t bs rest before key es h e =
      let b = h.0 in
      let p : Position = (length block - length rest - length b, length b) in
      let whole : block ≡ (before ++ h.4) ++ (b ++ rest) = e ∙ ap (λ xs. before ++ xs) h.5 ∙ sym (append_assoc before h.4 (b ++ rest)) in
      let found : Marked (Some p) (Some h.2) = ap (read_link 64) (at_end (before ++ h.4) b rest block whole) ∙ h.3 in
      let read : Marked (Some p) (read_link 64 b) = subst (Marked (Some p)) (sym h.3) found in
      subst (λ x. Marked (marked_position (length block) ((x, length rest, key) ∷ es)) (marked_link (x ∷ tokens_in es))) (sym h.1) read

  abbrev Run : ℕ → Type 0
  Run k = (fs : List Frame) (bs before : List ℕ) → block ≡ before ++ bs → Cuts (trace floats k fs bs).events × MarkedIn fs (trace floats k fs bs).events

  traced_cuts : (k left : ℕ) (fs : List Frame) (bs before : List ℕ) (o : Out) → Run k → Fine fs bs o → block ≡ before ++ bs
      → Cuts (traced left (trace floats k) o).events × MarkedIn fs (traced left (trace floats k) o).events
  traced_cuts k left fs bs before ended run h e = (refl, no_marked fs)
  traced_cuts k left fs bs before (rejected error) run h e = (refl, no_marked fs)
  traced_cuts k left fs bs before (yields t next rest) run h e =
      let more = run next rest (before ++ h.0.0) (e ∙ ap (λ xs. before ++ xs) h.0.1 ∙ sym (append_assoc before h.0.0 rest)) in
      (event_cuts t (length rest) (after_a_key next) next (trace floats k next rest).events h.1 more.0 more.1, event_marked fs t bs rest before (after_a_key next) (trace floats k next rest).events h.2 e)

  run_cuts : (k : ℕ) → Run k
  run_cuts zero fs bs before e = (refl, no_marked fs)
  run_cuts (suc k) fs bs before e = traced_cuts k (length bs) fs bs before (step_in floats fs bs) (run_cuts k) (step_fine laws floats fs bs) e

  found_with : {A : Type 0} (o : Option CborError) (xs ys : A) → unless_error o (Some xs) ≡ Some ys → xs ≡ ys
  found_with None xs ys e = same_Some xs ys e
  found_with (Some error) xs ys e = absurd (cc e)

  pub positions_cut : (links : List Link) (positions : List Position) → links_read floats block ≡ Some links → positions_read floats block ≡ Some positions
      → map (λ p. read_link 64 (cut p block)) positions ≡ map Some links
  unfolding links_read positions_read
  positions_cut links positions read found =
      let events = (trace_of floats block).events in
      let cuts : Cuts events = subst (λ (t : Trace). Cuts t.events) (trace_is floats (one ∷ []) block) (run_cuts (suc (weight (one ∷ []) block)) (one ∷ []) block [] refl).0 in
      ap (map (λ p. read_link 64 (cut p block))) (sym (found_with (trace_of floats block).error (positions_among (length block) events) positions found)) ∙ cuts
      ∙ ap (map Some) (found_with (trace_of floats block).error (links_among (tokens_in events)) links read)
