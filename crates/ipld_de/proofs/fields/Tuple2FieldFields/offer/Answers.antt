use Rattle.std.proofs.Common.{[], ◌∷◌, refl}
use Rattle.ipld_tree.specs.TreeOf.{tree_of}
use Rattle.ipld_de.specs.Fields.{found_or_named}
use Rattle.ipld_de.specs.Lemmas.Skipping.{found_skips}
use Rattle.ipld_de.proofs.Naming.{first_offered, first_rejected, others_offered, each_rejected, first_unchanged, others_unchanged}
use Rattle.ipld_de.proofs.fields.Tuple2FieldFields.offer.Goals as goal

pub returns-then-index-eq0-clause-ok : goal.returns-then-index-eq0-clause-ok
returns-then-index-eq0-clause-ok g c = λ names k distinct at.
    first_offered (found_or_named g.T.Deserialize.contents g.T.Deserialize.reads g.M.IfMissing.missing c.args.self.now.0.value) (found_or_named g.T.Deserialize.contents g.T.Deserialize.reads g.M.IfMissing.missing c.offer.new.self.value)
    (g.F.Fields.reads c.args.self.now.1) names c.args.index k (tree_of c.args.value) c.offer.result c.if-index-eq0.true distinct at
    (c.offer.ensures.ok (k ∷ []) k (refl, tt) refl) (λ more ms none. g.met.F.Fields.skips c.args.self.now.1 more k (tree_of c.args.value) ms none)

pub returns-then-index-eq0-clause-err : goal.returns-then-index-eq0-clause-err
returns-then-index-eq0-clause-err g c = λ names k at.
    first_rejected (found_or_named g.T.Deserialize.contents g.T.Deserialize.reads g.M.IfMissing.missing c.args.self.now.0.value) (g.F.Fields.reads c.args.self.now.1) names c.args.index k
    (tree_of c.args.value) c.offer.result c.if-index-eq0.true at (c.offer.ensures.err (k ∷ []) k refl)

pub returns-else-index-eq0-clause-ok : goal.returns-else-index-eq0-clause-ok
returns-else-index-eq0-clause-ok g c = λ names k distinct at.
    others_offered (found_or_named g.T.Deserialize.contents g.T.Deserialize.reads g.M.IfMissing.missing c.args.self.now.0.value) (g.F.Fields.reads c.args.self.now.1)
    (g.F.Fields.reads c.offer-else-index-eq0.new.self) names c.args.index k (tree_of c.args.value) c.offer-else-index-eq0.result c.if-index-eq0.false distinct at
    (λ name ms. found_skips g.T.Deserialize.contents g.T.Deserialize.reads g.M.IfMissing.missing c.args.self.now.0.value k (tree_of c.args.value) ms name)
    (λ more apart here. c.offer-else-index-eq0.ensures.ok more k apart here)

pub returns-else-index-eq0-clause-err : goal.returns-else-index-eq0-clause-err
returns-else-index-eq0-clause-err g c = λ names k at.
    each_rejected (found_or_named g.T.Deserialize.contents g.T.Deserialize.reads g.M.IfMissing.missing c.args.self.now.0.value) (g.F.Fields.reads c.args.self.now.1) names c.args.index k
    (tree_of c.args.value) c.offer-else-index-eq0.result c.if-index-eq0.false at (λ more here. c.offer-else-index-eq0.ensures.err more k here)

pub returns-then-index-eq0-clause-unchanged : goal.returns-then-index-eq0-clause-unchanged
returns-then-index-eq0-clause-unchanged g c =
    first_unchanged (found_or_named g.T.Deserialize.contents g.T.Deserialize.reads g.M.IfMissing.missing c.args.self.now.0.value) (found_or_named g.T.Deserialize.contents g.T.Deserialize.reads g.M.IfMissing.missing c.offer.new.self.value)
    (g.F.Fields.reads c.args.self.now.1) c.offer.result (λ name. c.offer.ensures.unchanged (name ∷ []))

pub returns-else-index-eq0-clause-unchanged : goal.returns-else-index-eq0-clause-unchanged
returns-else-index-eq0-clause-unchanged g c =
    others_unchanged (found_or_named g.T.Deserialize.contents g.T.Deserialize.reads g.M.IfMissing.missing c.args.self.now.0.value) (g.F.Fields.reads c.args.self.now.1)
    (g.F.Fields.reads c.offer-else-index-eq0.new.self) c.offer-else-index-eq0.result c.offer-else-index-eq0.ensures.unchanged
