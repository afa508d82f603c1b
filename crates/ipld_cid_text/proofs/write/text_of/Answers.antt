use Rattle.std.proofs.lemmas.Bool.{false≢true}
use Rattle.std.proofs.lemmas.Str.{IsUtf8-from_ascii}
use Rattle.ipld_cid.specs.LinkOf.{link_of}
use Rattle.ipld_cid.specs.Bytes.{bytes_of}
use Rattle.ipld_cid_text.proofs.Writing.{prefixed-ascii}
use Rattle.ipld_cid_text.proofs.write.text_of.Goals as goal

pub unreachable-requires : goal.unreachable-requires
unreachable-requires c =
    let ascii = prefixed-ascii c.args.base c.args.prefixed (bytes_of (link_of c.args.cid.now)) c.in_ok-letters.letters.items (c.in_ok-letters.ensures {u = tt}) in
    false≢true ((c.in_default.ensures {u = tt}).succeeds (IsUtf8-from_ascii _ ascii))
