use Rattle.std.proofs.Common.{ℕ, List, inl, inr, refl, subst}
use Rattle.ipld_show.proofs.BlockItems.{block_item}
use Rattle.kombilad_c.specs.BlockAt.{FindsInItem}
use Rattle.kombilad_c.proofs.block_at.kombilad_block_at.Goals as goal

pub returns-in-Ok : goal.returns-in-Ok
returns-in-Ok c =
    let found = block_item c.args.block.now c.in_default.ensures.exact.0 in
    inl (
      found.0,
      record { valid = c.in_default.ensures.exact.0; within = c.in_default.ensures.exact.1; item = found.2 },
      c.in-Ok.ensures.cases.1,
      subst (λ (path : List ℕ). FindsInItem found.0 c.args.block.now path c.find_in_block.result (record { before = c.args.value.now; after = c.find_in_block.new.value })
          (record { before = c.args.rest.now; after = c.find_in_block.new.rest }) (record { before = c.args.place.now; after = c.find_in_block.new.place }))
          c.in-Ok.ensures.cases.0 (c.find_in_block.ensures found.0 found.2),
    )

pub returns-in-Err-from_utf8 : goal.returns-in-Err-from_utf8
returns-in-Err-from_utf8 c =
    let found = block_item c.args.block.now c.in_default.ensures.exact.0 in
    inr (inl (
      found.0,
      record { valid = c.in_default.ensures.exact.0; within = c.in_default.ensures.exact.1; item = found.2 },
      c.in-Err-from_utf8.ensures.cases.0,
      refl,
      refl,
      refl,
      refl,
    ))
