use Rattle.std.proofs.Common.{Bool, List, Some, None, cond, inl, inr, refl, sym, ap, subst, ◌∙◌}
use Rattle.dag_cbor_blocks.specs.declared.tape.TapeEntry.{TapeEntry}
use Rattle.dag_pb.specs.declared.error.PbError.{PbError}
use Rattle.dag_pb.specs.declared.error.PbErrorKind.TheVariants.{Memory}
use Rattle.kombilad_c.specs.Fill.{Fills}
use Rattle.kombilad_c.specs.PbTape.{Entries}
use Rattle.kombilad_c.specs.Status.{pb_status}
use Rattle.kombilad_c.proofs.PbTapes.{node_some, node_none}
use Rattle.kombilad_c.proofs.pb_tape.kombilad_pb_tape.Goals as goal

abbrev choice : Bool → List TapeEntry → Entries
choice b es = cond b (Some es) None

pub returns-then-tape-clause-exact : goal.returns-then-tape-clause-exact
returns-then-tape-clause-exact c =
    let found = c.in-Ok.ensures.found in
    let es = c.in-Ok-node_tape.tape.entries.items in
    let some = sym c.in-Ok-node_tape.ensures ∙ ap (λ (b : Bool). choice b es) c.if-tape.true in
    inl (record {
      node = found.0;
      is_node = found.1;
      entries = es;
      described = node_some c.args.block.now found.0 c.in-Ok.spans es found.2 some;
      spans = c.in-Ok.spans;
      are = c.in-Ok.ensures.places;
      refer = some;
      fills = subst (λ (xs : List TapeEntry). Fills xs c.fill_entries.result c.args.entries.now c.fill_entries.new.buffer c.fill_entries.new.needed) c.deref.ensures.value c.fill_entries.ensures;
      same = refl;
    })

pub returns-in-Ok-node_tape-clause-exact : goal.returns-in-Ok-node_tape-clause-exact
returns-in-Ok-node_tape-clause-exact c =
    let found = c.in-Ok.ensures.found in
    let none = sym c.in-Ok-node_tape.ensures ∙ ap (λ (b : Bool). choice b c.in-Ok-node_tape.tape.entries.items) c.if-tape.false in
    inr (inl (
      record { node = found.0; is_node = found.1; long = node_none c.args.block.now found.0 c.in-Ok.spans found.2 none; failed = refl; same = refl },
      record { buffer = refl; length_needed = refl },
    ))

pub returns-in-Ok-clause-exact : goal.returns-in-Ok-clause-exact
returns-in-Ok-clause-exact c = inr (inr (
  record { error = record { kind = Memory; offset = 0 }; why = inl refl; failed = refl; place = refl },
  record { buffer = refl; length_needed = refl },
))

pub returns-clause-only : goal.returns-clause-only
returns-clause-only c = λ n is.
    inr (inr (inr (c.pb_status.ensures ∙ ap (λ (e : PbError). pb_status e.kind) (c.in-Err.ensures.only n is))))
