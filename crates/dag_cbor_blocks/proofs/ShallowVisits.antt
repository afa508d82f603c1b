-- A recursion hands the values of a block to a visitor.
use Rattle.std.proofs.Common.{◌≡◌, ℕ, suc, ◌+◌, ◌-◌, ◌<◌, ◌≤◌, Bool, true, false, eqb, cond, List, [], ◌∷◌, length, Some, None, Result, Ok, Err, Bor, refl, sym, ap, subst, ◌∙◌, arith}
use Rattle.std.specs.Prelude.{◌==◌, ◌&&◌, IfOk}
use Rattle.std.specs.Str.{IsUtf8}
use Rattle.std.proofs.lemmas.Bool.{eqb-true}
use Rattle.ipld_tokens.specs.Token.{TokenModel, atom, text, link, seq, seq_end, map, map_end}
use Rattle.ipld_tokens.specs.Token as token
use Rattle.ipld_tokens.proofs.Putting.{or}
use Rattle.ipld_tree.specs.Walk.{nest}
use Rattle.ipld_tree.specs.declared.limits.Limits.{Limits}
use Rattle.dag_cbor_format.specs.declared.major.Major.{Major}
use Rattle.dag_cbor_format.specs.declared.major.Major.TheVariants.{List as Array, Map, Tag}
use Rattle.dag_cbor_format.specs.Canonical.{goes_first}
use Rattle.dag_cbor_format.specs.Errors.{item_error, item_header_error, link_error}
use Rattle.dag_cbor_format.specs.Floats.{has_float_head, float_at, float_error}
use Rattle.dag_cbor_format.specs.HeadReading.{head_at, read_head}
use Rattle.dag_cbor_format.specs.ItemHeader.{scalar, item_header_after, item_header_at, key_at, link_at}
use Rattle.dag_cbor_format.specs.Reading.{Frame, many, pairs, value, mark, begun, among, and_key, after_link, item_step_in}
use Rattle.dag_cbor_format.specs.Trace.{Event, Trace, halted, led, after_a_key, traced, trace_ahead, trace_of}
use Rattle.dag_cbor_format.proofs.CidLaws.{cid_laws}
use Rattle.dag_cbor_format.proofs.ItemHeaders.{key_is}
use Rattle.dag_cbor_format.proofs.KeyOrder.{first_trans}
use Rattle.dag_cbor_format.proofs.Keys.{among-and_key}
use Rattle.dag_cbor_format.proofs.Running.{trace_unwound}
use Rattle.dag_cbor_format.proofs.Sound.{encodes_tree_in}
use Rattle.dag_cbor_blocks.specs.declared.shallow.Stop.{Stop}
use Rattle.dag_cbor_blocks.specs.Measuring.{depth_after, depth_at, deepest_in}
use Rattle.dag_cbor_blocks.specs.ShallowVisit.{TakesUntil, VisitsItem, VisitsContent}
use Rattle.dag_cbor_blocks.specs.Within.{TakesWhole}
use Rattle.dag_cbor_blocks.proofs.BlockSteps.{item_headed, ahead_by, block_ahead, none_left}
use Rattle.dag_cbor_blocks.proofs.EventReads.{limits_where}
use Rattle.dag_cbor_blocks.proofs.Fits.{allowed_in}
use Rattle.dag_cbor_blocks.proofs.Frames.{counted, key_taken}
use Rattle.dag_cbor_blocks.proofs.KeyTracking.{differs}
use Rattle.dag_cbor_blocks.proofs.Measuring.{nests}

-- ---- events

module _ {V A : Type 0} (answer : V → List Event → A) where
  taken_none : (levels : ℕ) (v : V) (trace : Trace) → TakesUntil answer levels v v trace trace
  taken_none levels v trace = record { same_error = refl; same_answer = refl; flat = λ depth. omega arith }

  -- first these, and then those
  taken_both : (levels : ℕ) (old mid new : V) (trace between rest : Trace) → TakesUntil answer levels old mid trace between → TakesUntil answer levels mid new between rest → TakesUntil answer levels old new trace rest
  taken_both levels old mid new trace between rest first then = record {
    same_error = then.same_error ∙ first.same_error;
    same_answer = then.same_answer ∙ first.same_answer;
    flat = λ depth. omega (arith, first.flat depth, then.flat depth);
  }

  -- of a trace that is the same
  taken_of : (levels : ℕ) (old new : V) (trace trace' rest : Trace) → trace ≡ trace' → TakesUntil answer levels old new trace' rest → TakesUntil answer levels old new trace rest
  taken_of levels old new trace trace' rest same h = subst (λ tr. TakesUntil answer levels old new tr rest) (sym same) h

  -- an event that opens nothing and ends nothing
  event_taken : (levels : ℕ) (old new : V) (t : TokenModel) (left : ℕ) (key : Bool) (rest : Trace) → ((depth : ℕ) → depth_at t depth ≡ 0) → ((depth : ℕ) → depth_after t depth ≡ depth)
      → ((more : List Event) → answer new more ≡ answer old ((t, left, key) ∷ more)) → TakesUntil answer levels old new (led (t, left, key) rest) rest
  event_taken levels old new t left key rest opens stays taken = record {
    same_error = refl;
    same_answer = taken rest.events;
    flat = λ depth. omega (arith, opens depth, ap (λ d. deepest_in d rest.events) (stays depth));
  }

  -- a list or a map, with what it holds
  module _ (inner levels : ℕ) (old opened filled new : V) (t u : TokenModel) (left behind : ℕ) (key : Bool) (first last rest : Trace) where
    nested_taken : ((depth : ℕ) → depth_at t depth ≡ depth + 1) → ((depth : ℕ) → depth_after t depth ≡ depth + 1) → ((depth : ℕ) → depth_at u depth ≡ 0) → ((depth : ℕ) → depth_after u depth ≡ depth - 1) → suc inner ≤ levels
        → ((more : List Event) → answer opened more ≡ answer old ((t, left, key) ∷ more)) → TakesUntil answer inner opened filled first last → last ≡ led (u, behind, false) rest
        → ((more : List Event) → answer new more ≡ answer filled ((u, behind, false) ∷ more)) → TakesUntil answer levels old new (led (t, left, key) first) rest
    nested_taken stands opens ends closes fits begins holds is finishes = record {
      same_error = sym (ap (λ (x : Trace). x.error) is) ∙ holds.same_error;
      same_answer = finishes rest.events ∙ sym (ap (λ (x : Trace). answer filled x.events) is) ∙ holds.same_answer ∙ begins first.events;
      flat = λ depth.
          let outside : depth_after u (depth + 1) ≡ depth = omega (arith, closes (depth + 1)) in
          omega (
            arith,
            fits,
            stands depth,
            ends (depth + 1),
            holds.flat (depth + 1),
            ap (λ d. deepest_in d first.events) (opens depth),
            ap (λ (x : Trace). deepest_in (depth + 1) x.events) is,
            ap (λ d. deepest_in d rest.events) outside,
          );
    }

-- ---- what a value begins with

no_head : (bs : List ℕ) → head_at (251 ∷ bs) ≡ None
unfolding head_at read_head
no_head bs = refl

no_float : (bytes : List ℕ) (x : Major × ℕ × List ℕ) → head_at bytes ≡ Some x → has_float_head bytes ≡ false
no_float [] x e = refl
no_float (b ∷ bs) x e =
    elim (eqb b 251) as (λ c. eqb b 251 ≡ c → c ≡ false) [
      | true ↦ λ is. absurd (
          let y : None ≡ Some x = sym (no_head bs) ∙ ap (λ a. head_at (a ∷ bs)) (sym (eqb-true b 251 is)) ∙ e in cc y)
      | false ↦ λ is. refl
    ] refl

no_float_read : (floats plain : Bool) → plain ≡ false → (floats && plain) ≡ false
no_float_read true plain e = e
no_float_read false plain e = refl

-- a value steps as its head says
step_headed : (floats : Bool) (fs : List Frame) (bytes content : List ℕ) (major : Major) (n : ℕ) → head_at bytes ≡ Some (major, n, content)
    → item_step_in floats fs bytes ≡ begun fs (item_error major n content) (item_header_after major n content)
step_headed floats fs bytes content major n e =
    ap (λ c. begun fs (cond c (float_error bytes) (item_header_error bytes)) (cond c (float_at bytes) (item_header_at bytes))) (no_float_read floats (has_float_head bytes) (no_float bytes (major, n, content) e))
    ∙ item_headed fs bytes content major n e

-- ---- values

-- so many items of a list are to come
abbrev pub ListLeft : {V A : Type 0} → Bool → (V → List Event → A) → ℕ → V → V → ℕ → List ℕ → ℕ → List ℕ → Type 0
ListLeft floats answer inner opened now count bytes left rest = (fs : List Frame) → TakesUntil answer inner opened now (trace_ahead floats (many count ∷ fs) bytes) (trace_ahead floats (many left ∷ fs) rest)

-- so many pairs of a map are, none of whose keys it has that comes after the last one
pub record MapLeft {V A : Type 0} (floats : Bool) (answer : V → List Event → A) (inner : ℕ) (opened now : V) (count : ℕ) (bytes last : List ℕ) (left : ℕ) (rest : List ℕ) : Type 0 where
  pub utf8 : IsUtf8 last
  seen : List (List ℕ)
  absent : (k : List ℕ) → goes_first last k ≡ true → among k seen ≡ false
  taken : (fs : List Frame) → TakesUntil answer inner opened now (trace_ahead floats (pairs count [] ∷ fs) bytes) (trace_ahead floats (pairs left seen ∷ fs) rest)

module _ {V A : Type 0} (floats : Bool) (answer : V → List Event → A) where
  abbrev Taken : V → V → TokenModel → ℕ → Type 0
  Taken old new t left = (more : List Event) → answer new more ≡ answer old ((t, left, false) ∷ more)

  -- behind its head, where nothing is open that it ends
  outside_key : (levels : ℕ) (old new : V) (fs : List Frame) (t : TokenModel) (rest : List ℕ) (trace : Trace) → ((depth : ℕ) → depth_at t depth ≡ 0) → ((depth : ℕ) → depth_after t depth ≡ depth) → after_a_key fs ≡ false
      → trace ≡ led (t, length rest, after_a_key fs) (trace_ahead floats fs rest) → Taken old new t (length rest) → TakesUntil answer levels old new trace (trace_ahead floats fs rest)
  outside_key levels old new fs t rest trace opens stays outside is taken =
      taken_of answer levels old new trace (led (t, length rest, false) (trace_ahead floats fs rest)) (trace_ahead floats fs rest) (is ∙ ap (λ k. led (t, length rest, k) (trace_ahead floats fs rest)) outside)
      (event_taken answer levels old new t (length rest) false (trace_ahead floats fs rest) opens stays taken)

  pub atom_visited : (levels : ℕ) (old new : V) (major : Major) (n : ℕ) (bytes rest : List ℕ) (a : token.Atom) → item_header_after major n bytes ≡ Some (scalar (atom a), rest) → Taken old new (atom a) (length rest)
      → VisitsContent floats answer levels major n old new bytes rest
  atom_visited levels old new major n bytes rest a e taken = λ fs left outside.
      outside_key levels old new fs (atom a) rest _ (λ depth. refl) (λ depth. refl) outside (ap (λ o. traced left (trace_ahead floats) (begun fs (item_error major n bytes) o)) e) taken

  pub bytes_visited : (levels : ℕ) (old new : V) (major : Major) (n : ℕ) (bytes content rest : List ℕ) → item_header_after major n bytes ≡ Some (scalar (token.bytes content), rest) → Taken old new (token.bytes content) (length rest)
      → VisitsContent floats answer levels major n old new bytes rest
  bytes_visited levels old new major n bytes content rest e taken = λ fs left outside.
      outside_key levels old new fs (token.bytes content) rest _ (λ depth. refl) (λ depth. refl) outside (ap (λ o. traced left (trace_ahead floats) (begun fs (item_error major n bytes) o)) e) taken

  pub link_visited : (levels : ℕ) (old new : V) (n : ℕ) (bytes encoded rest : List ℕ) → n ≡ 42 → link_at bytes ≡ Some (encoded, rest)
      → ((more : List Event) → answer new more ≡ answer old ((link, length bytes, false) ∷ (token.bytes encoded, length rest, false) ∷ more)) → VisitsContent floats answer levels Tag n old new bytes rest
  link_visited levels old new n bytes encoded rest tagged found taken = λ fs left outside.
      let behind = trace_ahead floats fs rest in
      let reads : trace_ahead floats (mark ∷ fs) bytes ≡ led (token.bytes encoded, length rest, false) behind =
      ahead_by cid_laws floats (mark ∷ fs) bytes _ (ap (after_link fs (link_error bytes)) found) ∙ ap (λ k. led (token.bytes encoded, length rest, k) behind) outside in
      taken_of answer levels old new _ (led (link, length bytes, false) (led (token.bytes encoded, length rest, false) behind)) behind
      (ap (λ k. traced left (trace_ahead floats) (begun fs (item_error Tag k bytes) (item_header_after Tag k bytes))) tagged ∙ ap (led (link, length bytes, false)) reads)
      (record { same_error = refl; same_answer = taken behind.events; flat = λ depth. omega arith })

  -- ---- lists

  pub list_opened : (inner : ℕ) (opened : V) (count : ℕ) (bytes : List ℕ) → ListLeft floats answer inner opened opened count bytes count bytes
  list_opened inner opened count bytes = λ fs. taken_none answer inner opened (trace_ahead floats (many count ∷ fs) bytes)

  pub list_goes_on : (inner : ℕ) (opened now new : V) (count left : ℕ) (bytes rest after : List ℕ) → 0 < left → ListLeft floats answer inner opened now count bytes left rest → VisitsItem floats answer inner now new rest after
      → ListLeft floats answer inner opened new count bytes (left - 1) after
  list_goes_on inner opened now new count left bytes rest after some h item = λ fs.
      taken_both answer inner opened now new _ (trace_ahead floats (many left ∷ fs) rest) _ (h fs)
      (taken_of answer inner now new _ _ _ (ahead_by cid_laws floats (many left ∷ fs) rest _ (counted floats left fs rest some)) (item (many (left - 1) ∷ fs) refl))

  pub list_visited : (inner levels : ℕ) (old opened filled new : V) (count left : ℕ) (bytes rest : List ℕ) → left ≡ 0 → suc inner ≤ levels → Taken old opened seq (length bytes) → ListLeft floats answer inner opened filled count bytes left rest
      → Taken filled new seq_end (length rest) → VisitsContent floats answer levels Array count old new bytes rest
  list_visited inner levels old opened filled new count left bytes rest done fits begins holds ends = λ fs before outside.
      nested_taken answer inner levels old opened filled new seq seq_end (length bytes) (length rest) false (trace_ahead floats (many count ∷ fs) bytes) (trace_ahead floats (many left ∷ fs) rest) (trace_ahead floats fs rest)
      (λ depth. refl) (λ depth. refl) (λ depth. refl) (λ depth. refl) fits begins (holds fs)
      (ap (λ k. trace_ahead floats (many k ∷ fs) rest) done ∙ trace_unwound floats cid_laws (many 0 ∷ fs) rest ∙ ap (λ k. led (seq_end, length rest, k) (trace_ahead floats fs rest)) outside) ends

  -- ---- maps

  pub map_opened : (inner : ℕ) (opened : V) (count : ℕ) (bytes : List ℕ) → MapLeft floats answer inner opened opened count bytes [] count bytes
  map_opened inner opened count bytes = record {
    utf8 = ([], (refl, refl));
    seen = [];
    absent = λ k first. refl;
    taken = λ fs. taken_none answer inner opened (trace_ahead floats (pairs count [] ∷ fs) bytes);
  }

  pub map_goes_on : (inner : ℕ) (opened now keyed new : V) (count left : ℕ) (bytes last key rest behind after : List ℕ) → 0 < left → key_at rest ≡ Some (key, behind) → goes_first last key ≡ true
      → MapLeft floats answer inner opened now count bytes last left rest → ((more : List Event) → answer keyed more ≡ answer now ((atom (text key), length behind, true) ∷ more)) → VisitsItem floats answer inner keyed new behind after
      → MapLeft floats answer inner opened new count bytes key (left - 1) after
  map_goes_on inner opened now keyed new count left bytes last key rest behind after some read first h taken item = record {
    utf8 = (key_is rest key behind read).1;
    seen = and_key key h.seen;
    absent = λ k later. among-and_key k key h.seen ∙ ap (λ b. or b (among k h.seen)) (differs key k later) ∙ h.absent k (first_trans last key k first later);
    taken = λ fs.
        let valued = trace_ahead floats (value (left - 1) (and_key key h.seen) ∷ fs) behind in
        taken_both answer inner opened now new _ (trace_ahead floats (pairs left h.seen ∷ fs) rest) _ (h.taken fs)
        (taken_both answer inner now keyed new _ valued _
        (taken_of answer inner now keyed _ (led (atom (text key), length behind, true) valued) _ (ahead_by cid_laws floats (pairs left h.seen ∷ fs) rest _ (key_taken floats left h.seen fs rest key behind some read (h.absent key first)))
        (event_taken answer inner now keyed (atom (text key)) (length behind) true valued (λ depth. refl) (λ depth. refl) taken))
        (taken_of answer inner keyed new _ _ _ (trace_unwound floats cid_laws (value (left - 1) (and_key key h.seen) ∷ fs) behind) (item (pairs (left - 1) (and_key key h.seen) ∷ fs) refl)));
  }

  pub map_visited : (inner levels : ℕ) (old opened filled new : V) (count left : ℕ) (bytes last rest : List ℕ) → left ≡ 0 → suc inner ≤ levels → Taken old opened map (length bytes) → MapLeft floats answer inner opened filled count bytes last left rest
      → Taken filled new map_end (length rest) → VisitsContent floats answer levels Map count old new bytes rest
  map_visited inner levels old opened filled new count left bytes last rest done fits begins holds ends = λ fs before outside.
      nested_taken answer inner levels old opened filled new map map_end (length bytes) (length rest) false (trace_ahead floats (pairs count [] ∷ fs) bytes) (trace_ahead floats (pairs left holds.seen ∷ fs) rest)
      (trace_ahead floats fs rest) (λ depth. refl) (λ depth. refl) (λ depth. refl) (λ depth. refl) fits begins (holds.taken fs)
      (ap (λ k. trace_ahead floats (pairs k holds.seen ∷ fs) rest) done ∙ trace_unwound floats cid_laws (pairs 0 holds.seen ∷ fs) rest ∙ ap (λ k. led (map_end, length rest, k) (trace_ahead floats fs rest)) outside) ends

  -- ---- all of them

  pub headed_visited : (levels : ℕ) (old new : V) (bytes content rest : List ℕ) (major : Major) (n : ℕ) → head_at bytes ≡ Some (major, n, content) → VisitsContent floats answer levels major n old new content rest
      → VisitsItem floats answer levels old new bytes rest
  headed_visited levels old new bytes content rest major n e h = λ fs outside.
      taken_of answer levels old new _ _ _ (ap (traced (length bytes) (trace_ahead floats)) (step_headed floats fs bytes content major n e)) (h fs (length bytes) outside)

  pub headed_result : (levels : ℕ) (old new : V) (bytes content : List ℕ) (major : Major) (n : ℕ) (r : Result (Bor (List ℕ)) Stop) → head_at bytes ≡ Some (major, n, content)
      → IfOk r (λ rest. VisitsContent floats answer levels major n old new content rest.now) → IfOk r (λ rest. VisitsItem floats answer levels old new bytes rest.now)
  headed_result levels old new bytes content major n (Ok rest) e h = headed_visited levels old new bytes content rest.now major n e h
  headed_result levels old new bytes content major n (Err stop) e h = tt

  -- to the end of the block
  pub block_visited : (levels : ℕ) (old new : V) (block rest : List ℕ) → (length rest == 0) ≡ true → VisitsItem floats answer levels old new block rest → TakesUntil answer levels old new (trace_of floats block) (halted None 0)
  block_visited levels old new block rest ended h =
      subst (λ tr. TakesUntil answer levels old new (trace_of floats block) tr) (none_left cid_laws floats rest ended) (taken_of answer levels old new _ _ _ (block_ahead cid_laws floats block) (h [] refl))

  -- within the limits
  whole_visited : (limits : Limits) (levels : ℕ) (old new : V) (block : List ℕ) → levels ≤ limits.levels → length block ≤ limits.values → TakesUntil answer levels old new (trace_of floats block) (halted None 0)
      → TakesWhole floats answer old limits block new
  whole_visited limits levels old new block fits enough h =
      let whole = sym h.same_error in
      let w = encodes_tree_in cid_laws floats block whole in
      let i = w.1.0 in
      let flat : nest w.0 ≤ levels = omega (arith, h.flat 0, nests floats block w.0 w.1) in (
        whole,
        h.same_answer,
        (limits_where floats limits i w.0 block w.1.1 w.1.2).1 (allowed_in floats limits levels i w.0 block w.1.1 w.1.2 flat fits enough),
      )

  pub whole_result : (limits : Limits) (levels : ℕ) (old new : V) (block : List ℕ) (r : Result (Unit {0}) Stop) → levels ≤ limits.levels → length block ≤ limits.values
      → IfOk r (λ done. TakesUntil answer levels old new (trace_of floats block) (halted None 0)) → IfOk r (λ done. TakesWhole floats answer old limits block new)
  whole_result limits levels old new block (Ok done) fits enough h = whole_visited limits levels old new block fits enough h
  whole_result limits levels old new block (Err stop) fits enough h = tt
