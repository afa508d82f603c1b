-- A visitor takes a part of a block, and the rest is ahead.
use Rattle.std.proofs.Common.{◌≡◌, inl, inr, ℕ, suc, ◌+◌, ◌<◌, ◌≤◌, Bool, true, false, List, [], ◌∷◌, length, Option, Some, None, Result, Ok, Err, refl, sym, ap, subst, ◌∙◌, arith}
use Rattle.std.proofs.lemmas.Bool.{eqb-true}
use Rattle.std.proofs.lemmas.List.{length-append}
use Rattle.std.specs.Prelude.{◌==◌}
use Rattle.ipld_tokens.specs.Token.{Atom, TokenModel, atom, none, text, bytes, some, variant, link, seq, seq_end, map, map_end}
use Rattle.dag_cbor_format.specs.declared.error.CborError.{CborError}
use Rattle.dag_cbor_format.specs.declared.error.CborError.TheVariants.{TrailingBytes}
use Rattle.dag_cbor_format.specs.declared.major.Major.{Major}
use Rattle.dag_cbor_format.specs.declared.major.Major.TheVariants.{Bytes, Text, Tag}
use Rattle.dag_cbor_format.specs.Head.{head}
use Rattle.dag_cbor_format.specs.HeadReading.{head_at}
use Rattle.dag_cbor_format.specs.ItemHeader.{front, if_text, bytes_scalar, text_scalar, item_header_of, item_header_after, item_header_at, link_at}
use Rattle.dag_cbor_format.specs.Errors.{head_error, item_error, item_header_error_of, item_header_error, link_error}
use Rattle.dag_cbor_format.specs.Floats.{is_finite, if_finite, error_of_float}
use Rattle.dag_cbor_format.specs.Reading.{Frame, one, mark, Out, rejected, begun, item_step_in, after_link, end_step, step_in, Ran, of_block}
use Rattle.dag_cbor_format.specs.Trace.{Event, tokens_in, Trace, halted, led, after_a_key, traced, trace_ahead, trace_of}
use Rattle.dag_cbor_format.proofs.HeadLaws.{head_encoded, head_some}
use Rattle.dag_cbor_format.proofs.ItemHeaderLaws.{CidLaws}
use Rattle.dag_cbor_format.proofs.ItemHeaders.{front_is, text_is, link_is}
use Rattle.dag_cbor_format.proofs.Running.{trace_unwound, erased_block}
use Rattle.dag_cbor_blocks.specs.Position.{framed, inside, frames_of, kinds_of, is_open_level, is_open, steps_left}
use Rattle.dag_cbor_blocks.specs.BlockReading.{ahead_of, item_ahead, headed, Advances, Fails, Reads}
use Rattle.ipld_tree.specs.declared.limits.Limits.{Limits}
use Rattle.dag_cbor_blocks.specs.Counting.{OpenKind, in_list, in_map, counts, after_atom, outside, next, beyond, earlier, passed_at, passed}
use Rattle.dag_cbor_blocks.specs.Counter.{levels_after, values_after, Ends}
use Rattle.dag_cbor_blocks.specs.declared.counter.PartKind.{PartKind}
use Rattle.dag_cbor_blocks.specs.declared.counter.PartKind.TheVariants.{Scalar, Beginning, Nothing}
use Rattle.dag_cbor_blocks.specs.declared.counter.PartKind.TheVariants as part
use Rattle.dag_cbor_blocks.proofs.Counting.{due_value, within_beyond, none_within, passed_on, passed_any}
use Rattle.dag_cbor_blocks.specs.declared.position.Level.{Level}
use Rattle.dag_cbor_blocks.specs.declared.position.Level.TheVariants as level
use Rattle.dag_cbor_blocks.specs.declared.position.Position.{Position}

-- ---- fewer bytes

pub front_shorter : (n : ℕ) (content b rest : List ℕ) → front n content ≡ Some (b, rest) → length rest ≤ length content
front_shorter n content b rest e =
    let p = front_is n content b rest e in
    omega (arith, ap length p.1, length-append b rest)

pub text_shorter : (n : ℕ) (content s rest : List ℕ) → if_text (front n content) ≡ Some (s, rest) → length rest ≤ length content
text_shorter n content s rest e = front_shorter n content s rest (text_is (front n content) s rest e).0

pub head_shorter : (content rest : List ℕ) (major : Major) (n : ℕ) → head_at content ≡ Some (major, n, rest) → length rest < length content
head_shorter content rest major n e =
    let p = head_encoded content major n rest e in
    omega (arith, ap length p.1, length-append (head major n) rest, head_some major n)

-- ---- an item begins

pub item_headed : (fs : List Frame) (content rest : List ℕ) (major : Major) (n : ℕ) → head_at content ≡ Some (major, n, rest)
    → begun fs (item_header_error content) (item_header_at content) ≡ begun fs (item_error major n rest) (item_header_after major n rest)
unfolding item_header_at item_header_error
item_headed fs content rest major n e = ap (λ o. begun fs (item_header_error_of content o) (item_header_of o)) e

pub item_unheaded : (fs : List Frame) (content : List ℕ) → head_at content ≡ None → begun fs (item_header_error content) (item_header_at content) ≡ rejected (head_error content)
unfolding item_header_at item_header_error
item_unheaded fs content e = ap (λ o. begun fs (item_header_error_of content o) (item_header_of o)) e

-- ---- a visitor takes events

module _ {V A : Type 0} (floats : Bool) (answer : V → List Event → A) where
  -- what is ahead is what was, with the same counts, and fewer steps are left than before
  pub reads_same : (old new : V) (kinds kinds' : List OpenKind) (due due' : Bool) (tr tr' : Trace) (left limit limit' : ℕ) (result : Result PartKind CborError) (after : Position) → tr ≡ tr' → limit' ≤ limit
      → kinds ≡ kinds' → ((limits : Limits) (values from : ℕ) → passed limits (counts kinds due values) from left tr'.events ≡ passed limits (counts kinds due' values) from left tr'.events)
      → Reads floats answer old kinds' due' tr' left limit' result new after → Reads floats answer old kinds due tr left limit result new after
  reads_same old new kinds kinds' due due' tr tr' left limit limit' (Ok part) after same le same_kinds same_counts r =
      let q = subst (λ ks. Advances floats answer old ks due' part tr' left limit' new after) (sym same_kinds) r in
      record {
        same_error = q.same_error ∙ sym (ap (λ (x : Trace). x.error) same);
        same_left = q.same_left ∙ sym (ap (λ (x : Trace). x.left) same);
        same_answer = q.same_answer ∙ sym (ap (λ (x : Trace). answer old x.events) same);
        same_passed = λ limits values from within.
            ap (λ (x : Trace). passed limits (counts kinds due values) from left x.events) same ∙ same_counts limits values from ∙ q.same_passed limits values from within;
        levels = q.levels;
        ends = q.ends;
        fewer = omega (arith, le, q.fewer);
      }
  reads_same old new kinds kinds' due due' tr tr' left limit limit' (Err error) after same le same_kinds same_counts (inl memory) = inl memory
  reads_same old new kinds kinds' due due' tr tr' left limit limit' (Err error) after same le same_kinds same_counts (inr e) =
      let q = subst (λ ks. Fails ks due' tr' left error after.begun) (sym same_kinds) e in
      inr (record {
        same_error = ap (λ (x : Trace). x.error) same ∙ q.same_error;
        same_left = ap (λ (x : Trace). x.left) same ∙ q.same_left;
        none_passed = λ limits values from within.
            ap (λ (x : Trace). passed limits (counts kinds due values) from left x.events) same ∙ same_counts limits values from ∙ q.none_passed limits values from within;
      })

  -- the same after a key
  pub reads_after : (old mid new : V) (kinds kinds' outer : List OpenKind) (tr tr' : Trace) (a : Atom) (left behind : ℕ) (key : Bool) (limit limit' : ℕ) (result : Result PartKind CborError) (after : Position)
      → tr ≡ led (atom a, behind, key) tr' → limit' ≤ limit
      → kinds ≡ in_map ∷ outer → kinds' ≡ in_map ∷ outer
      → ((more : List Event) → answer mid more ≡ answer old ((atom a, behind, key) ∷ more))
      → Reads floats answer mid kinds' true tr' behind limit' result new after → Reads floats answer old kinds false tr left limit result new after
  reads_after old mid new kinds kinds' outer tr tr' a left behind key limit limit' (Ok part) after same le is is' taken r =
      let q = subst (λ ks. Advances floats answer mid ks true part tr' behind limit' new after) is' r in
      subst (λ ks. Advances floats answer old ks false part tr left limit new after) (sym is) (record {
        same_error = q.same_error ∙ sym (ap (λ (x : Trace). x.error) same);
        same_left = q.same_left ∙ sym (ap (λ (x : Trace). x.left) same);
        same_answer = q.same_answer ∙ taken tr'.events ∙ sym (ap (λ (x : Trace). answer old x.events) same);
        same_passed = λ limits values from within.
            ap (λ (x : Trace). passed limits (counts (in_map ∷ outer) false values) from left x.events) same
            ∙ passed_on limits (counts (in_map ∷ outer) false values) from left (atom a) behind key tr'.events within
            ∙ q.same_passed limits values left within;
        levels = q.levels;
        ends = q.ends;
        fewer = omega (arith, le, q.fewer);
      })
  reads_after old mid new kinds kinds' outer tr tr' a left behind key limit limit' (Err error) after same le is is' taken (inl memory) = inl memory
  reads_after old mid new kinds kinds' outer tr tr' a left behind key limit limit' (Err error) after same le is is' taken (inr e) =
      let q = subst (λ ks. Fails ks true tr' behind error after.begun) is' e in
      inr (subst (λ ks. Fails ks false tr left error after.begun) (sym is) (record {
        same_error = ap (λ (x : Trace). x.error) same ∙ q.same_error;
        same_left = ap (λ (x : Trace). x.left) same ∙ q.same_left;
        none_passed = λ limits values from within.
            ap (λ (x : Trace). passed limits (counts (in_map ∷ outer) false values) from left x.events) same
            ∙ passed_on limits (counts (in_map ∷ outer) false values) from left (atom a) behind key tr'.events within
            ∙ q.none_passed limits values left within;
      }))

  -- the place of an event makes no difference, where no limit is passed after it, or it is the same
  abbrev SamePlace : List OpenKind → PartKind → ℕ → Position → Type 0
  SamePlace kinds part left after = (limits : Limits) (values : ℕ) → beyond limits (length kinds) values ≡ None → (es : List Event)
      → passed limits (counts (kinds_of after) false (values_after part values)) left (length after.rest.now) es
      ≡ passed limits (counts (kinds_of after) false (values_after part values)) after.begun (length after.rest.now) es

  -- a token was taken, and this is ahead
  pub token_taken : (old new : V) (kinds : List OpenKind) (due : Bool) (part : PartKind) (tr : Trace) (left limit : ℕ) (after : Position) (t : TokenModel) (key : Bool)
      → tr ≡ led (t, length after.rest.now, key) (ahead_of floats after)
      → ((more : List Event) → answer new more ≡ answer old ((t, length after.rest.now, key) ∷ more))
      → ((values : ℕ) → next (counts kinds due values) t ≡ counts (kinds_of after) false (values_after part values)) → SamePlace kinds part left after
      → length (kinds_of after) ≡ levels_after part (length kinds) → Ends part (length kinds)
      → steps_left after < limit → Advances floats answer old kinds due part tr left limit new after
  token_taken old new kinds due part tr left limit after t key same taken counted place levels ends fewer = record {
    same_error = sym (ap (λ (x : Trace). x.error) same);
    same_left = sym (ap (λ (x : Trace). x.left) same);
    same_answer = taken (ahead_of floats after).events ∙ sym (ap (λ (x : Trace). answer old x.events) same);
    same_passed = λ limits values from within.
        ap (λ (x : Trace). passed limits (counts kinds due values) from left x.events) same
        ∙ passed_on limits (counts kinds due values) from left t (length after.rest.now) key (ahead_of floats after).events within
        ∙ ap (λ c. passed limits c left (length after.rest.now) (ahead_of floats after).events) (counted values)
        ∙ place limits values within (ahead_of floats after).events;
    levels = levels;
    ends = ends;
    fewer = fewer;
  }

  same_place : (kinds : List OpenKind) (part : PartKind) (left : ℕ) (after : Position) → after.begun ≡ left → SamePlace kinds part left after
  same_place kinds part left after begun limits values within es =
      ap (λ b. passed limits (counts (kinds_of after) false (values_after part values)) b (length after.rest.now) es) (sym begun)

  -- a scalar was, where one has to come
  pub scalar_taken : (old new : V) (kinds : List OpenKind) (tr : Trace) (left limit : ℕ) (after : Position) (a : Atom) (key : Bool) → tr ≡ led (atom a, length after.rest.now, key) (ahead_of floats after)
      → ((more : List Event) → answer new more ≡ answer old ((atom a, length after.rest.now, key) ∷ more)) → kinds_of after ≡ kinds → after.begun ≡ left
      → steps_left after < limit → Advances floats answer old kinds true Scalar tr left limit new after
  scalar_taken old new kinds tr left limit after a key same taken is begun fewer =
      token_taken old new kinds true Scalar tr left limit after (atom a) key same taken
      (λ values. ap (λ key. after_atom key (counts kinds true values)) (due_value kinds) ∙ ap (λ ks. counts ks false (values + 1)) (sym is)) (same_place kinds Scalar left after begun) (ap length is) tt fewer

  pub bytes_taken : (old new : V) (kinds : List OpenKind) (tr : Trace) (left limit : ℕ) (after : Position) (b : List ℕ) (key : Bool) → tr ≡ led (bytes b, length after.rest.now, key) (ahead_of floats after)
      → ((more : List Event) → answer new more ≡ answer old ((bytes b, length after.rest.now, key) ∷ more)) → kinds_of after ≡ kinds → after.begun ≡ left
      → steps_left after < limit → Advances floats answer old kinds true Scalar tr left limit new after
  bytes_taken old new kinds tr left limit after b key same taken is begun fewer =
      token_taken old new kinds true Scalar tr left limit after (bytes b) key same taken (λ values. ap (λ ks. counts ks false (values + 1)) (sym is)) (same_place kinds Scalar left after begun) (ap length is) tt fewer

  -- and ends
  pub end_taken : (old new : V) (kinds : List OpenKind) (kind : OpenKind) (tr : Trace) (left limit : ℕ) (after : Position) (t : TokenModel) (key : Bool) → tr ≡ led (t, length after.rest.now, key) (ahead_of floats after)
      → ((more : List Event) → answer new more ≡ answer old ((t, length after.rest.now, key) ∷ more)) → ((values : ℕ) → next (counts kinds false values) t ≡ counts (outside kinds) false values) → kinds ≡ kind ∷ kinds_of after
      → steps_left after < limit → Advances floats answer old kinds false part.End tr left limit new after
  end_taken old new kinds kind tr left limit after t key same taken counted is fewer =
      let longer : length kinds ≡ suc (length (kinds_of after)) = ap length is in
      token_taken old new kinds false part.End tr left limit after t key same taken (λ values. counted values ∙ ap (λ ks. counts (outside ks) false values) is)
      (λ limits values within es.
      let inner = none_within limits (length kinds) values within in
      passed_any limits (counts (kinds_of after) false values) left after.begun (length after.rest.now) es (within_beyond limits (length (kinds_of after)) values (omega (arith, inner.0, longer)) inner.1))
      (omega (arith, longer)) (omega (arith, longer)) fewer

  -- a link was, of two tokens
  pub link_taken : (old new : V) (kinds : List OpenKind) (tr : Trace) (left limit : ℕ) (after : Position) (b : List ℕ) (marks key : Bool)
      → tr ≡ led (link, after.begun, marks) (led (bytes b, length after.rest.now, key) (ahead_of floats after))
      → ((more : List Event) → answer new more ≡ answer old ((link, after.begun, marks) ∷ (bytes b, length after.rest.now, key) ∷ more)) → kinds_of after ≡ kinds
      → steps_left after < limit → Advances floats answer old kinds true Scalar tr left limit new after
  link_taken old new kinds tr left limit after b marks key same taken is fewer = record {
    same_error = sym (ap (λ (x : Trace). x.error) same);
    same_left = sym (ap (λ (x : Trace). x.left) same);
    same_answer = taken (ahead_of floats after).events ∙ sym (ap (λ (x : Trace). answer old x.events) same);
    same_passed = λ limits values from within.
        ap (λ (x : Trace). passed limits (counts kinds true values) from left x.events) same
        ∙ passed_on limits (counts kinds true values) from left link after.begun marks ((bytes b, length after.rest.now, key) ∷ (ahead_of floats after).events) within
        ∙ passed_on limits (counts kinds true values) left after.begun (bytes b) (length after.rest.now) key (ahead_of floats after).events within
        ∙ ap (λ ks. passed limits (counts ks false (values + 1)) after.begun (length after.rest.now) (ahead_of floats after).events) (sym is);
    levels = ap length is;
    ends = tt;
    fewer = fewer;
  }

  -- nothing was open, and no byte was read
  pub nothing_taken : (old : V) (kinds : List OpenKind) (tr : Trace) (left limit : ℕ) (after : Position) → tr ≡ ahead_of floats after → left ≡ length after.rest.now
      → kinds ≡ kinds_of after → steps_left after < limit → Advances floats answer old kinds false Nothing tr left limit old after
  nothing_taken old kinds tr left limit after same place is fewer = record {
    same_error = sym (ap (λ (x : Trace). x.error) same);
    same_left = sym (ap (λ (x : Trace). x.left) same);
    same_answer = sym (ap (λ (x : Trace). answer old x.events) same);
    same_passed = λ limits values from within.
        ap (λ (x : Trace). passed limits (counts kinds false values) from left x.events) same
        ∙ passed_any limits (counts kinds false values) from after.begun left (ahead_of floats after).events within
        ∙ ap (λ n. passed limits (counts kinds false values) after.begun n (ahead_of floats after).events) place
        ∙ ap (λ ks. passed limits (counts ks false values) after.begun (length after.rest.now) (ahead_of floats after).events) is;
    levels = sym (ap length is);
    ends = tt;
    fewer = fewer;
  }

-- an error before any token
pub fails_at_once : (kinds : List OpenKind) (due : Bool) (tr : Trace) (left stop : ℕ) (error : CborError) → tr ≡ halted (Some error) stop → Fails kinds due tr left error stop
fails_at_once kinds due tr left stop error same = record {
  same_error = ap (λ (x : Trace). x.error) same;
  same_left = ap (λ (x : Trace). x.left) same;
  none_passed = λ limits values from within. ap (λ (x : Trace). passed limits (counts kinds due values) from left x.events) same ∙ ap (passed_at from) within;
}

-- an error after the mark of a link
pub fails_in_link : (kinds : List OpenKind) (tr : Trace) (left stop : ℕ) (marks : Bool) (error : CborError) → tr ≡ led (link, stop, marks) (halted (Some error) stop) → Fails kinds true tr left error stop
fails_in_link kinds tr left stop marks error same = record {
  same_error = ap (λ (x : Trace). x.error) same;
  same_left = ap (λ (x : Trace). x.left) same;
  none_passed = λ limits values from within.
      ap (λ (x : Trace). passed limits (counts kinds true values) from left x.events) same ∙ passed_on limits (counts kinds true values) from left link stop marks [] within ∙ ap (passed_at left) within;
}

same_next : (outer : List OpenKind) (values : ℕ) (t : TokenModel) → next (counts (in_list ∷ outer) false values) t ≡ next (counts (in_list ∷ outer) true values) t
same_next outer values (atom a) = refl
same_next outer values (bytes b) = refl
same_next outer values some = refl
same_next outer values (variant name) = refl
same_next outer values link = refl
same_next outer values seq = refl
same_next outer values seq_end = refl
same_next outer values map = refl
same_next outer values map_end = refl

-- in a list it makes no difference that a value is due
due_in_list : (limits : Limits) (outer : List OpenKind) (values from left : ℕ) (es : List Event)
    → passed limits (counts (in_list ∷ outer) false values) from left es ≡ passed limits (counts (in_list ∷ outer) true values) from left es
due_in_list limits outer values from left [] = refl
due_in_list limits outer values from left ((t, behind, key) ∷ es) =
    ap (λ c. earlier (passed_at from (beyond limits (length (in_list ∷ outer)) values)) (passed limits c left behind es)) (same_next outer values t)

pub due_in : (kinds outer : List OpenKind) → kinds ≡ in_list ∷ outer → (left : ℕ) (es : List Event) (limits : Limits) (values from : ℕ)
    → passed limits (counts kinds false values) from left es ≡ passed limits (counts kinds true values) from left es
due_in kinds outer is left es limits values from =
    subst (λ ks. passed limits (counts ks false values) from left es ≡ passed limits (counts ks true values) from left es) (sym is) (due_in_list limits outer values from left es)

-- ---- what is ahead, by what was read

module _ (floats : Bool) (p : Position) where
  abbrev after_head : Out → Trace
  after_head o = traced p.begun (trace_ahead floats) o

  pub bytes_ahead : (n : ℕ) (content rest : List ℕ) → front n p.rest.now ≡ Some (content, rest)
      → headed floats Bytes n p ≡ led (bytes content, length rest, after_a_key (frames_of p)) (trace_ahead floats (frames_of p) rest)
  bytes_ahead n content rest e = ap (λ o. after_head (begun (frames_of p) (item_error Bytes n p.rest.now) (bytes_scalar o))) e

  pub text_ahead : (n : ℕ) (s rest : List ℕ) → if_text (front n p.rest.now) ≡ Some (s, rest)
      → headed floats Text n p ≡ led (atom (text s), length rest, after_a_key (frames_of p)) (trace_ahead floats (frames_of p) rest)
  text_ahead n s rest e = ap (λ o. after_head (begun (frames_of p) (item_error Text n p.rest.now) (text_scalar o))) e

-- behind the head of a float
abbrev pub float_headed : Bool → Position → Trace
float_headed floats p = traced p.begun (trace_ahead floats) (begun (frames_of p) (error_of_float (front 8 p.rest.now)) (if_finite (front 8 p.rest.now)))

float_by : (floats : Bool) (p : Position) (o : Option (List ℕ × List ℕ)) → front 8 p.rest.now ≡ o
    → float_headed floats p ≡ traced p.begun (trace_ahead floats) (begun (frames_of p) (error_of_float o) (if_finite o))
float_by floats p o e = ap (λ x. traced p.begun (trace_ahead floats) (begun (frames_of p) (error_of_float x) (if_finite x))) e

pub finite_ahead : (floats : Bool) (p : Position) (content rest : List ℕ) → front 8 p.rest.now ≡ Some (content, rest) → is_finite content ≡ true
    → float_headed floats p ≡ led (atom none, length rest, after_a_key (frames_of p)) (trace_ahead floats (frames_of p) rest)
finite_ahead floats p content rest e finite = float_by floats p (Some (content, rest)) e ∙ rw finite

module _ (laws : CidLaws) where
  -- a step of the machine
  pub ahead_by : (floats : Bool) (fs : List Frame) (content : List ℕ) (o : Out) → step_in floats fs content ≡ o → trace_ahead floats fs content ≡ traced (length content) (trace_ahead floats) o
  ahead_by floats fs content o e = trace_unwound floats laws fs content ∙ ap (traced (length content) (trace_ahead floats)) e

  pub link_ahead : (floats : Bool) (p : Position) (b rest : List ℕ) → link_at p.rest.now ≡ Some (b, rest)
      → headed floats Tag 42 p ≡ led (link, length p.rest.now, false) (led (bytes b, length rest, after_a_key (frames_of p)) (trace_ahead floats (frames_of p) rest))
  link_ahead floats p b rest e =
      ap (led (link, length p.rest.now, false))
      (ahead_by floats (mark ∷ frames_of p) p.rest.now (after_link (frames_of p) (link_error p.rest.now) (Some (b, rest))) (ap (after_link (frames_of p) (link_error p.rest.now)) e))

  pub link_error_ahead : (floats : Bool) (p : Position) → link_at p.rest.now ≡ None
      → headed floats Tag 42 p ≡ led (link, length p.rest.now, false) (halted (Some (link_error p.rest.now)) (length p.rest.now))
  link_error_ahead floats p e =
      ap (led (link, length p.rest.now, false))
      (ahead_by floats (mark ∷ frames_of p) p.rest.now (rejected (link_error p.rest.now)) (ap (after_link (frames_of p) (link_error p.rest.now)) e))

  pub link_shorter : (content b rest : List ℕ) → link_at content ≡ Some (b, rest) → length rest < length content
  link_shorter content b rest e = (link_is laws content b rest e).shorter

  pub block_ahead : (floats : Bool) (block : List ℕ) → trace_of floats block ≡ traced (length block) (trace_ahead floats) (item_step_in floats [] block)
  block_ahead floats block = trace_unwound floats laws (one ∷ []) block

-- nothing is open
closed_level : (l : Level) (outer : List Level) → is_open_level l outer ≡ false → framed l (inside outer []) ≡ []
closed_level level.Whole [] e = refl
closed_level level.Whole (o ∷ os) e = absurd (cc e)
closed_level (level.List n) outer e = absurd (cc e)
closed_level (level.Map m) outer e = absurd (cc e)

pub closed : (p : Position) → is_open p ≡ false → frames_of p ≡ []
closed p e = closed_level p.innermost p.outer.items e

-- no key was read
framed_no_key : (l : Level) (fs : List Frame) → after_a_key fs ≡ false → after_a_key (framed l fs) ≡ false
framed_no_key level.Whole fs e = e
framed_no_key (level.List n) fs e = refl
framed_no_key (level.Map m) fs e = refl

inside_no_key : (os : List Level) (fs : List Frame) → after_a_key fs ≡ false → after_a_key (inside os fs) ≡ false
inside_no_key [] fs e = e
inside_no_key (o ∷ os) fs e = inside_no_key os (framed o fs) (framed_no_key o fs e)

pub no_key : (p : Position) → after_a_key (frames_of p) ≡ false
no_key p = framed_no_key p.innermost (inside p.outer.items []) (inside_no_key p.outer.items [] refl)

module _ (laws : CidLaws) (floats : Bool) where
  end_ahead : (content : List ℕ) → trace_ahead floats [] content ≡ traced (length content) (trace_ahead floats) (end_step content)
  end_ahead content = trace_unwound floats laws [] content

  -- at the end of the bytes, if nothing is open
  pub none_left : (content : List ℕ) → (length content == 0) ≡ true → trace_ahead floats [] content ≡ halted None 0
  none_left [] e = end_ahead []
  none_left (b ∷ content) e = absurd (cc (eqb-true (length (b ∷ content)) 0 e))

  some_left : (content : List ℕ) → (length content == 0) ≡ false → trace_ahead floats [] content ≡ halted (Some TrailingBytes) (length content)
  some_left [] e = absurd (cc e)
  some_left (b ∷ content) e = end_ahead (b ∷ content)

  -- at the end of the block
  pub at_end : (p : Position) → is_open p ≡ false → (length p.rest.now == 0) ≡ true → ahead_of floats p ≡ halted None 0
  at_end p shut e = ap (λ fs. trace_ahead floats fs p.rest.now) (closed p shut) ∙ none_left p.rest.now e

  -- where bytes are left over
  pub left_over : (p : Position) → is_open p ≡ false → (length p.rest.now == 0) ≡ false → ahead_of floats p ≡ halted (Some TrailingBytes) (length p.rest.now)
  left_over p shut e = ap (λ fs. trace_ahead floats fs p.rest.now) (closed p shut) ∙ some_left p.rest.now e

  -- where the block begins
  pub at_start : (p : Position) (block : List ℕ) → frames_of p ≡ [] → p.rest.now ≡ block → trace_of floats block ≡ item_ahead floats p
  at_start p block flat rest =
      block_ahead laws floats block ∙ ap (λ fs. traced (length block) (trace_ahead floats) (item_step_in floats fs block)) (sym flat)
      ∙ ap (λ bs. traced (length bs) (trace_ahead floats) (item_step_in floats (frames_of p) bs)) (sym rest)

-- ---- without floats, by tokens

pub error_without : (block : List ℕ) → (trace_of false block).error ≡ (of_block block).error
error_without block = ap (λ (r : Ran). r.error) (erased_block block)

pub tokens_without : (block : List ℕ) → tokens_in (trace_of false block).events ≡ (of_block block).tokens
tokens_without block = ap (λ (r : Ran). r.tokens) (erased_block block)
