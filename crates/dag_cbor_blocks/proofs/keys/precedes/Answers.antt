use Rattle.std.proofs.Common.{refl, sym, ◌∙◌, arith}
use Rattle.dag_cbor_blocks.proofs.KeyBytes.{behind, skipped}
use Rattle.dag_cbor_blocks.proofs.keys.precedes.Goals as goal

pub loop-front-init : goal.loop-front-init
loop-front-init c = (refl, c.type_inv.bytes, c.type_inv.others)

pub loop-front-preserved : goal.loop-front-preserved
loop-front-preserved c =
    let a = c.in-Some.ensures.cases in
    let b = c.in-Some-split_first_chunk.ensures.cases in
    let h = c.loop-front.invariant in (
      h.0 ∙ skipped c.loop-front.left.now c.loop-front.right.now _ _ _ _ h.1 h.2 (omega (arith, a.2)) (omega (arith, b.2)) a.0 b.0 a.1 b.1
          (sym c.from_be_bytes.ensures ∙ c.if-from_be_bytes.false ∙ c.from_be_bytes-in-Some.ensures),
      behind c.loop-front.left.now _ a.1 h.1,
      behind c.loop-front.right.now _ b.1 h.2,
    )
