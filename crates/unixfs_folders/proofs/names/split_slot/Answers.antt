use Rattle.std.proofs.Common.{◌≡◌, false, true}
use Rattle.unixfs_folders.proofs.Slots.{after_two}
use Rattle.unixfs_folders.proofs.names.split_slot.Goals as goal

pub returns-in_err-rest : goal.returns-in_err-rest
returns-in_err-rest c =
    let clash : false ≡ true = c.in_err-rest.ensures.variant.1 (after_two c.args.name.now c.as_bytes.result.now c.as_bytes.ensures.value c.utf8.name c.in-len2-up.len_at_least c.in_ok-slot.ensures.ascii) in
    absurd cc
