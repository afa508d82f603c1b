-- A block that is read within limits, part by part.
use Rattle.std.proofs.Common.{◌≡◌, ◌⊎◌, inl, inr, ◌+◌, ◌-◌, ◌≤◌, ◌<◌, ℕ, Bool, true, false, List, [], length, Option, Some, None, option_map, refl, sym, ap, subst, ◌∙◌, arith}
use Rattle.std.specs.Prelude.{◌==◌, ◌^◌}
use Rattle.std.proofs.lemmas.Bool.{le-ltb, lt-ltb}
use Rattle.ipld_tree.specs.declared.limits.Limits.{Limits}
use Rattle.dag_cbor_format.specs.declared.error.CborError.{CborError}
use Rattle.dag_cbor_format.specs.declared.error.CborError.TheVariants.{Memory, TrailingBytes}
use Rattle.dag_cbor_format.specs.FirstError.{first_error}
use Rattle.dag_cbor_format.specs.Trace.{Event, Trace, trace_of, error_in, error_offset}
use Rattle.dag_cbor_blocks.specs.Counting.{OpenKind, counts, start, Excess, too_deep, too_many, beyond, excess, excess_of_block, Passed, passed_at, passed, with_offset, limit_passed}
use Rattle.dag_cbor_blocks.specs.Counter.{levels_after, values_after, Ends, levels_left, values_left, Closes, Fits, Exceeds}
use Rattle.dag_cbor_blocks.specs.Position.{frames_of, kinds_of, kinds_in, is_open}
use Rattle.dag_cbor_blocks.specs.BlockReading.{ahead_of, item_ahead, Advances, Fails}
use Rattle.dag_cbor_blocks.specs.Within.{Stops, StopsAt}
use Rattle.dag_cbor_format.proofs.CidLaws.{cid_laws}
use Rattle.dag_cbor_blocks.specs.declared.block_error.BlockErrorKind.{BlockErrorKind}
use Rattle.dag_cbor_blocks.specs.declared.block_error.BlockErrorKind.TheVariants.{Cbor, TooDeep, TooMany}
use Rattle.dag_cbor_blocks.specs.declared.counter.Counter.{Counter}
use Rattle.dag_cbor_blocks.specs.declared.counter.PartKind.{PartKind}
use Rattle.dag_cbor_blocks.specs.declared.counter.PartKind.TheVariants.{Scalar, Beginning, End, Nothing}
use Rattle.dag_cbor_blocks.specs.declared.position.Position.{Position}
use Rattle.dag_cbor_blocks.proofs.BlockSteps.{at_start, at_end, left_over, error_without, tokens_without}
use Rattle.dag_cbor_blocks.proofs.Counting.{within_beyond, passed_here, limit_is}

-- ---- what the limits leave

-- this limit was passed
abbrev pub StopsFor : BlockErrorKind → Option Excess → Type 0
StopsFor TooDeep passed = passed ≡ Some too_deep
StopsFor TooMany passed = passed ≡ Some too_many
StopsFor (Cbor error) passed = ⊥

deep_beyond : (limits : Limits) (levels values : ℕ) → limits.levels < levels → beyond limits levels values ≡ Some too_deep
deep_beyond limits levels values deep = rw (lt-ltb limits.levels levels deep) refl

many_beyond : (limits : Limits) (levels values : ℕ) → levels ≤ limits.levels → limits.values < values → beyond limits levels values ≡ Some too_many
many_beyond limits levels values deep many = rw (le-ltb limits.levels levels deep, lt-ltb limits.values values many) refl

values_kept : (p : PartKind) (limit : ℕ) (c : Counter) → c.values ≤ limit → Fits p c → limit - values_left p c.values ≡ values_after p (limit - c.values)
values_kept Scalar limit c le fits = omega (arith, le, fits)
values_kept Beginning limit c le fits = omega (arith, le, fits.1)
values_kept End limit c le fits = refl
values_kept Nothing limit c le fits = refl

values_fewer : (p : PartKind) (n : ℕ) → values_left p n ≤ n
values_fewer Scalar n = omega arith
values_fewer Beginning n = omega arith
values_fewer End n = omega arith
values_fewer Nothing n = omega arith

levels_kept : (p : PartKind) (limit depth : ℕ) (c : Counter) → c.levels + depth ≡ limit → Fits p c → Ends p depth → levels_left p c.levels + levels_after p depth ≡ limit
levels_kept Scalar limit depth c e fits ends = e
levels_kept Beginning limit depth c e fits ends = omega (arith, e, fits.0)
levels_kept End limit depth c e fits ends = omega (arith, e, ends)
levels_kept Nothing limit depth c e fits ends = e

may_close : (p : PartKind) (limit depth n : ℕ) → n + depth ≡ limit → limit < 2 ^ 64 → Ends p depth → Closes p n
may_close Scalar limit depth n e bounded ends = tt
may_close Beginning limit depth n e bounded ends = tt
may_close End limit depth n e bounded ends = omega (arith, e, bounded, ends)
may_close Nothing limit depth n e bounded ends = tt

exceeds_stops : (p : PartKind) (limits : Limits) (depth values : ℕ) (c : Counter) (kind : BlockErrorKind) → c.levels + depth ≡ limits.levels → values ≡ limits.values - c.values → Exceeds p c kind
    → StopsFor kind (beyond limits (levels_after p depth) (values_after p values))
exceeds_stops Scalar limits depth values c TooDeep levels come none = absurd none
exceeds_stops Scalar limits depth values c TooMany levels come none = many_beyond limits depth (values + 1) (omega (arith, levels)) (omega (arith, come, none))
exceeds_stops Scalar limits depth values c (Cbor error) levels come none = absurd none
exceeds_stops Beginning limits depth values c TooDeep levels come none = deep_beyond limits (depth + 1) (values + 1) (omega (arith, levels, none))
exceeds_stops Beginning limits depth values c TooMany levels come (some, none) = many_beyond limits (depth + 1) (values + 1) (omega (arith, levels, some)) (omega (arith, come, none))
exceeds_stops Beginning limits depth values c (Cbor error) levels come none = absurd none
exceeds_stops End limits depth values c kind levels come none = absurd none
exceeds_stops Nothing limits depth values c kind levels come none = absurd none

-- ---- reading

-- what is ahead ends as the block does and passes the limits that the block passes, and the visitor comes to what it would come to of the whole block
pub record Goes {V A : Type 0} (floats : Bool) (answer : V → List Event → A) (limits : Limits) (block : List ℕ) (old : V) (kinds : List OpenKind) (due : Bool) (tr : Trace) (from left : ℕ) (counter : Counter) (visitor : V) : Type 0 where
  pub error : tr.error ≡ (trace_of floats block).error
  pub stop : tr.left ≡ (trace_of floats block).left
  pub comes_to : answer visitor tr.events ≡ answer old (trace_of floats block).events
  pub passes : passed limits (counts kinds due (limits.values - counter.values)) from left tr.events ≡ passed limits start (length block) (length block) (trace_of floats block).events
  pub levels : counter.levels + length kinds ≡ limits.levels
  pub values : counter.values ≤ limits.values
  pub bounded : limits.levels < 2 ^ 64

module _ (floats : Bool) (limits : Limits) (block : List ℕ) where
  of_cbor : (error : CborError) (left : ℕ) → (trace_of floats block).error ≡ Some error → (trace_of floats block).left ≡ left
      → passed limits start (length block) (length block) (trace_of floats block).events ≡ None → StopsAt floats limits block (Cbor error) (length block - left)
  unfolding error_in error_offset limit_passed
  of_cbor error left e at none = inr (e, ap (with_offset (length block)) none, ap (λ n. length block - n) (sym at))

  limit_at : (x : Excess) (left : ℕ) → passed limits start (length block) (length block) (trace_of floats block).events ≡ Some (x, left) → limit_passed floats limits block ≡ Some (x, length block - left)
  unfolding limit_passed
  limit_at x left e = ap (with_offset (length block)) e

  none_at : passed limits start (length block) (length block) (trace_of floats block).events ≡ None → limit_passed floats limits block ≡ None
  unfolding limit_passed
  none_at e = ap (with_offset (length block)) e

  of_passed : (kinds : List OpenKind) (due : Bool) (values from left : ℕ) (es : List Event) (kind : BlockErrorKind) → StopsFor kind (beyond limits (length kinds) values)
      → passed limits (counts kinds due values) from left es ≡ passed limits start (length block) (length block) (trace_of floats block).events → StopsAt floats limits block kind (length block - from)
  of_passed kinds due values from left es TooDeep e same = limit_at too_deep from (sym same ∙ passed_here limits (counts kinds due values) from left es too_deep e)
  of_passed kinds due values from left es TooMany e same = limit_at too_many from (sym same ∙ passed_here limits (counts kinds due values) from left es too_many e)
  of_passed kinds due values from left es (Cbor error) e same = absurd e

module _ {V A : Type 0} (floats : Bool) (answer : V → List Event → A) (limits : Limits) (block : List ℕ) (old : V) where
  -- at the beginning
  pub begins : (p : Position) (counter : Counter) → frames_of p ≡ [] → p.rest.now ≡ block → counter ≡ record { levels = limits.levels; values = limits.values } → limits.levels < 2 ^ 64
      → Goes floats answer limits block old (kinds_of p) true (item_ahead floats p) (length block) (length p.rest.now) counter old
  begins p counter none rest new bounded =
      let same = at_start cid_laws floats p block none rest in
      let flat : kinds_of p ≡ [] = ap kinds_in none in
      let come : limits.values - counter.values ≡ 0 = omega (arith, ap (λ (k : Counter). k.values) new) in
      record {
        error = sym (ap (λ (x : Trace). x.error) same);
        stop = sym (ap (λ (x : Trace). x.left) same);
        comes_to = sym (ap (λ (x : Trace). answer old x.events) same);
        passes =
            ap (λ (x : Trace). passed limits (counts (kinds_of p) true (limits.values - counter.values)) (length block) (length p.rest.now) x.events) (sym same)
            ∙ ap (λ bs. passed limits (counts (kinds_of p) true (limits.values - counter.values)) (length block) (length bs) (trace_of floats block).events) rest
            ∙ ap (λ ks. passed limits (counts ks true (limits.values - counter.values)) (length block) (length block) (trace_of floats block).events) flat
            ∙ ap (λ n. passed limits (counts [] true n) (length block) (length block) (trace_of floats block).events) come;
        levels = omega (arith, ap (λ (k : Counter). k.levels) new, ap length flat);
        values = omega (arith, ap (λ (k : Counter). k.values) new);
        bounded = bounded;
      }

  module _ (kinds : List OpenKind) (due : Bool) (tr : Trace) (from left : ℕ) (counter : Counter) (visitor : V) (goes : Goes floats answer limits block old kinds due tr from left counter visitor) where
    in_limits : beyond limits (length kinds) (limits.values - counter.values) ≡ None
    in_limits = within_beyond limits (length kinds) (limits.values - counter.values) (omega (arith, goes.levels)) (omega arith)

    pub failed : (error : CborError) (stop : ℕ) → (error ≡ Memory) ⊎ Fails kinds due tr left error stop → StopsAt floats limits block (Cbor error) (length block - stop)
    failed error stop (inl memory) = inl (memory, omega arith)
    failed error stop (inr fails) =
        of_cbor floats limits block error stop (sym goes.error ∙ fails.same_error) (sym goes.stop ∙ fails.same_left) (sym goes.passes ∙ fails.none_passed limits (limits.values - counter.values) from in_limits)

    module _ (p : PartKind) (limit : ℕ) (new : V) (after : Position) (advances : Advances floats answer visitor kinds due p tr left limit new after) where
      pub may_end : Closes p counter.levels
      may_end = may_close p limits.levels (length kinds) counter.levels goes.levels goes.bounded advances.ends

      later : passed limits (counts (kinds_of after) false (values_after p (limits.values - counter.values))) after.begun (length after.rest.now) (ahead_of floats after).events
          ≡ passed limits start (length block) (length block) (trace_of floats block).events
      later = sym (advances.same_passed limits (limits.values - counter.values) from in_limits) ∙ goes.passes

      pub counted : (next : Counter) → (next ≡ record { levels = levels_left p counter.levels; values = values_left p counter.values }) × Fits p counter
          → Goes floats answer limits block old (kinds_of after) false (ahead_of floats after) after.begun (length after.rest.now) next new
      counted next (is, fits) =
          let levels : next.levels ≡ levels_left p counter.levels = ap (λ (k : Counter). k.levels) is in
          let values : next.values ≡ values_left p counter.values = ap (λ (k : Counter). k.values) is in
          let come : limits.values - next.values ≡ values_after p (limits.values - counter.values) = ap (λ n. limits.values - n) values ∙ values_kept p limits.values counter goes.values fits in
          record {
            error = advances.same_error ∙ goes.error;
            stop = advances.same_left ∙ goes.stop;
            comes_to = advances.same_answer ∙ goes.comes_to;
            passes = ap (λ n. passed limits (counts (kinds_of after) false n) after.begun (length after.rest.now) (ahead_of floats after).events) come ∙ later;
            levels =
                ap (λ n. n + length (kinds_of after)) levels ∙ ap (λ n. levels_left p counter.levels + n) advances.levels
                ∙ levels_kept p limits.levels (length kinds) counter goes.levels fits advances.ends;
            values = omega (arith, values, values_fewer p counter.values, goes.values);
            bounded = goes.bounded;
          }

      pub exceeded : (kind : BlockErrorKind) → Exceeds p counter kind → StopsAt floats limits block kind (length block - after.begun)
      exceeded kind exceeds =
          let stops = exceeds_stops p limits (length kinds) (limits.values - counter.values) counter kind goes.levels refl exceeds in
          of_passed floats limits block (kinds_of after) false (values_after p (limits.values - counter.values)) after.begun (length after.rest.now) (ahead_of floats after).events kind
          (subst (λ n. StopsFor kind (beyond limits n (values_after p (limits.values - counter.values)))) (sym advances.levels) stops) later

  module _ (p : Position) (counter : Counter) (visitor : V) (goes : Goes floats answer limits block old (kinds_of p) false (ahead_of floats p) p.begun (length p.rest.now) counter visitor) (shut : is_open p ≡ false) where
    nothing : (ahead_of floats p).events ≡ [] → passed limits start (length block) (length block) (trace_of floats block).events ≡ None
    nothing e =
        sym goes.passes ∙ ap (passed limits (counts (kinds_of p) false (limits.values - counter.values)) p.begun (length p.rest.now)) e
        ∙ ap (passed_at p.begun) (in_limits (kinds_of p) false (ahead_of floats p) p.begun (length p.rest.now) counter visitor goes)

    pub bytes_left : (length p.rest.now == 0) ≡ false → StopsAt floats limits block (Cbor TrailingBytes) (length block - length p.rest.now)
    bytes_left some =
        let over = left_over cid_laws floats p shut some in
        of_cbor floats limits block TrailingBytes (length p.rest.now) (sym goes.error ∙ ap (λ (x : Trace). x.error) over) (sym goes.stop ∙ ap (λ (x : Trace). x.left) over) (nothing (ap (λ (x : Trace). x.events) over))

    pub whole : (length p.rest.now == 0) ≡ true
        → ((trace_of floats block).error ≡ None) × (answer visitor [] ≡ answer old (trace_of floats block).events) × (limit_passed floats limits block ≡ None)
    whole none =
        let ends = at_end cid_laws floats p shut none in (
          sym goes.error ∙ ap (λ (x : Trace). x.error) ends,
          sym (ap (λ (x : Trace). answer visitor x.events) ends) ∙ goes.comes_to,
          none_at floats limits block (nothing (ap (λ (x : Trace). x.events) ends)),
        )

-- ---- without floats, by tokens

limit_of : Option Passed → Option Excess
limit_of o = option_map (λ p. p.0) o

same_limit : (size : ℕ) (o : Option Passed) → limit_of (with_offset size o) ≡ limit_of o
unfolding limit_of
same_limit size None = refl
same_limit size (Some p) = refl

module _ (limits : Limits) (block : List ℕ) where
  excess_is : excess_of_block limits block ≡ limit_of (limit_passed false limits block)
  unfolding excess_of_block limit_passed limit_of
  excess_is =
      ap (excess limits start) (sym (tokens_without block)) ∙ limit_is limits start (length block) (length block) (trace_of false block).events
      ∙ sym (same_limit (length block) (passed limits start (length block) (length block) (trace_of false block).events))

  first_is : first_error block ≡ error_in false block
  unfolding first_error error_in
  first_is = sym (error_without block)

  pub stops_without : (kind : BlockErrorKind) (offset : ℕ) → StopsAt false limits block kind offset → Stops limits block kind
  unfolding limit_of
  stops_without TooDeep offset e = excess_is ∙ ap limit_of e
  stops_without TooMany offset e = excess_is ∙ ap limit_of e
  stops_without (Cbor error) offset (inl e) = inl e.0
  stops_without (Cbor error) offset (inr e) = inr (first_is ∙ e.0, excess_is ∙ ap limit_of e.1)

  pub none_without : limit_passed false limits block ≡ None → excess_of_block limits block ≡ None
  unfolding limit_of
  none_without e = excess_is ∙ ap limit_of e

abbrev offset_in : Option Passed → ℕ
offset_in None = 0
offset_in (Some p) = p.1

with_offset_le : (size offset : ℕ) (o : Option Passed) (x : Excess) → with_offset size o ≡ Some (x, offset) → offset ≤ size
with_offset_le size offset None x e = absurd (cc e)
with_offset_le size offset (Some (y, left)) x e = let same : size - left ≡ offset = ap offset_in e in omega (arith, same)

pub offset_in_block : (floats : Bool) (limits : Limits) (block : List ℕ) (kind : BlockErrorKind) (offset : ℕ) → StopsAt floats limits block kind offset → offset ≤ length block
unfolding limit_passed error_offset
offset_in_block floats limits block TooDeep offset e = with_offset_le (length block) offset _ too_deep e
offset_in_block floats limits block TooMany offset e = with_offset_le (length block) offset _ too_many e
offset_in_block floats limits block (Cbor error) offset (inl e) = e.1
offset_in_block floats limits block (Cbor error) offset (inr e) = omega (arith, e.2)
