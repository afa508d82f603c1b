use Rattle.std.proofs.Common.{◌≡◌, inr, string_bytes, refl, ap, sym, ◌∙◌}
use Rattle.std.proofs.lemmas.Result.{err_from_is_err_and}
use Rattle.ipld_tree.specs.Tree.{member}
use Rattle.ipld_tree.specs.TreeOf.{tree_of}
use Rattle.ipld_de.specs.Cursors.{entries_left}
use Rattle.ipld_de.specs.Fields.{strings, reads_fields}
use Rattle.ipld_de.proofs.FieldErrors.{follows_new, follows_taken, follows_skipped, follows_unknown, follows_rejected, follows_missing, strings_count}
use Rattle.ipld_de.proofs.Naming.{reads_same, offered, rejected, skipped, unknown, among_at, finished, missing}
use Rattle.ipld_de.proofs.fields.read_named.Goals as goal

pub loop-name-init : goal.loop-name-init
loop-name-init g c =
    let names = strings c.args.names.now in
    let all = entries_left c.args.map in
    record {
      read = reads_same c.args.strict names (g.F.Fields.reads c.new-fields.result names) (g.F.Fields.named_reads names) all (c.new-fields.ensures.reads names all);
      follows = follows_new c.args.strict g.F.Fields.parts names (g.F.Fields.waits c.new-fields.result) all g.F.Fields.count (strings_count c.args.names.now ∙ c.requires.count) c.new-fields.ensures.wait;
    }

pub loop-name-preserved : goal.loop-name-preserved
loop-name-preserved g c =
    let names = strings c.args.names.now in
    let rest = entries_left c.loop-name.map in
    let left = entries_left c.next_entry.new.self in
    let k = c.as_str.result.now in
    let t = tree_of c.in-Some.value in
    let entry : rest ≡ member (string_bytes c.in-Some.name) t left = c.in-Some.ensures in
    let taken : rest ≡ member k t left = entry ∙ ap (λ name. member name t left) (sym c.as_str.ensures.value) in
    let at = c.in-Some-position_of.ensures.found in
    record {
      read = offered c.args.strict names (g.F.Fields.reads c.loop-name.fields names) rest left (reads_fields c.args.strict names (g.F.Fields.named_reads names) (entries_left c.args.map)) k t
          taken c.loop-name.invariant.read (g.F.Fields.reads c.offer.new.self names) (c.in_ok-offer.ensures.ok names k c.requires.distinct at)
          (among_at names c.in-Some-position_of.index k at);
      follows = λ ascends.
          follows_taken c.args.strict g.F.Fields.parts names (g.F.Fields.waits c.loop-name.fields) (g.F.Fields.waits c.offer.new.self) (entries_left c.args.map) rest left c.in-Some-position_of.index k t
          c.requires.distinct (c.loop-name.invariant.follows ascends) taken at c.in_ok-offer.ensures.accepts c.offer.ensures.others;
    }

pub loop-name-preserved-in_default-position_of : goal.loop-name-preserved-in_default-position_of
loop-name-preserved-in_default-position_of g c =
    let names = strings c.args.names.now in
    let rest = entries_left c.loop-name.map in
    let left = entries_left c.next_entry.new.self in
    let k = c.as_str.result.now in
    let t = tree_of c.in-Some.value in
    let entry : rest ≡ member (string_bytes c.in-Some.name) t left = c.in-Some.ensures in
    let taken : rest ≡ member k t left = entry ∙ ap (λ name. member name t left) (sym c.as_str.ensures.value) in
    let none = c.in_default-position_of.ensures.none in
    record {
      read = skipped c.args.strict names (g.F.Fields.reads c.loop-name.fields names) rest left (reads_fields c.args.strict names (g.F.Fields.named_reads names) (entries_left c.args.map)) k t
          taken c.loop-name.invariant.read c.if-strict.false (g.met.F.Fields.skips c.loop-name.fields names k t left none);
      follows = λ ascends.
          follows_skipped c.args.strict g.F.Fields.parts names (g.F.Fields.waits c.loop-name.fields) (entries_left c.args.map) rest left k t
          (c.loop-name.invariant.follows ascends) taken c.if-strict.false none;
    }

pub returns-then-strict-clause-err : goal.returns-then-strict-clause-err
returns-then-strict-clause-err g c =
    let names = strings c.args.names.now in
    let rest = entries_left c.loop-name.map in
    let left = entries_left c.next_entry.new.self in
    let k = c.as_str.result.now in
    let t = tree_of c.in-Some.value in
    let entry : rest ≡ member (string_bytes c.in-Some.name) t left = c.in-Some.ensures in
    let taken : rest ≡ member k t left = entry ∙ ap (λ name. member name t left) (sym c.as_str.ensures.value) in
    inr (unknown c.args.strict names (g.F.Fields.reads c.loop-name.fields names) rest left (reads_fields c.args.strict names (g.F.Fields.named_reads names) (entries_left c.args.map)) k t
    taken c.loop-name.invariant.read c.if-strict.true c.in_default-position_of.ensures.none)

pub returns-then-strict-clause-why : goal.returns-then-strict-clause-why
returns-then-strict-clause-why g c = λ ascends.
    let names = strings c.args.names.now in
    let rest = entries_left c.loop-name.map in
    let left = entries_left c.next_entry.new.self in
    let k = c.as_str.result.now in
    let t = tree_of c.in-Some.value in
    let entry : rest ≡ member (string_bytes c.in-Some.name) t left = c.in-Some.ensures in
    let taken : rest ≡ member k t left = entry ∙ ap (λ name. member name t left) (sym c.as_str.ensures.value) in
    inr (follows_unknown c.args.strict g.F.Fields.parts names (g.F.Fields.waits c.loop-name.fields) (entries_left c.args.map) rest left k t _
    (c.loop-name.invariant.follows ascends) taken c.if-strict.true c.in_default-position_of.ensures.none refl)

pub returns-in_err-offer-clause-err : goal.returns-in_err-offer-clause-err
returns-in_err-offer-clause-err g c =
    let names = strings c.args.names.now in
    let rest = entries_left c.loop-name.map in
    let left = entries_left c.next_entry.new.self in
    let k = c.as_str.result.now in
    let t = tree_of c.in-Some.value in
    let entry : rest ≡ member (string_bytes c.in-Some.name) t left = c.in-Some.ensures in
    let taken : rest ≡ member k t left = entry ∙ ap (λ name. member name t left) (sym c.as_str.ensures.value) in
    let p = err_from_is_err_and c.from_residual.result c.from_residual.ensures.1 in
    rw (p.1, p.2) (rejected c.args.strict names (g.F.Fields.reads c.loop-name.fields names) rest left (reads_fields c.args.strict names (g.F.Fields.named_reads names) (entries_left c.args.map)) k t
    taken c.loop-name.invariant.read c.in_err-offer.field-0.0 (c.in_err-offer.ensures.err names k c.in-Some-position_of.ensures.found))

pub returns-in_err-offer-clause-why : goal.returns-in_err-offer-clause-why
returns-in_err-offer-clause-why g c = λ ascends.
    let names = strings c.args.names.now in
    let rest = entries_left c.loop-name.map in
    let left = entries_left c.next_entry.new.self in
    let k = c.as_str.result.now in
    let t = tree_of c.in-Some.value in
    let entry : rest ≡ member (string_bytes c.in-Some.name) t left = c.in-Some.ensures in
    let taken : rest ≡ member k t left = entry ∙ ap (λ name. member name t left) (sym c.as_str.ensures.value) in
    let p = err_from_is_err_and c.from_residual.result c.from_residual.ensures.1 in
    rw (p.1, p.2) (follows_rejected c.args.strict g.F.Fields.parts names (g.F.Fields.waits c.loop-name.fields) (entries_left c.args.map) rest left c.in-Some-position_of.index k t c.in_err-offer.field-0.0
    c.requires.distinct (c.loop-name.invariant.follows ascends) taken c.in-Some-position_of.ensures.found c.in_err-offer.ensures.why)

pub returns-clause-ok : goal.returns-clause-ok
returns-clause-ok g c =
    let names = strings c.args.names.now in
    finished c.args.strict names (g.F.Fields.reads c.loop-name.fields names) (entries_left c.loop-name.map) (reads_fields c.args.strict names (g.F.Fields.named_reads names) (entries_left c.args.map))
    c.in_default.ensures.0 c.loop-name.invariant.read g.F.Fields.contents c.finish.result (c.finish.ensures.ok names (strings_count c.args.names.now ∙ c.requires.count))

pub returns-clause-err : goal.returns-clause-err
returns-clause-err g c =
    let names = strings c.args.names.now in
    missing c.args.strict names (g.F.Fields.reads c.loop-name.fields names) (entries_left c.loop-name.map) (reads_fields c.args.strict names (g.F.Fields.named_reads names) (entries_left c.args.map))
    c.in_default.ensures.0 c.loop-name.invariant.read c.finish.result (c.finish.ensures.err names)

pub returns-clause-why : goal.returns-clause-why
returns-clause-why g c = λ ascends.
    follows_missing c.args.strict g.F.Fields.parts (strings c.args.names.now) (g.F.Fields.waits c.loop-name.fields) (entries_left c.args.map) (entries_left c.loop-name.map)
    c.finish.result (c.loop-name.invariant.follows ascends) c.in_default.ensures.0 c.finish.ensures.missing
