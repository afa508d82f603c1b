use Rattle.std.proofs.Common.{◌++◌, List, ℕ, refl, arith, ap, ◌∙◌}
use Rattle.blake2b.proofs.Absorbing.{Holds-long, Holds-short}
use Rattle.blake2b.proofs.state.State.update.Goals as goal

pub returns-then-bytes-room : goal.returns-then-bytes-room
returns-then-bytes-room c = λ initial message held.
    Holds-short initial c.args.self.now _ message c.args.bytes.now held refl c.push.ensures

pub returns : goal.returns
returns c = λ initial message held.
    let front = c.split_at.result.0.now in
    let last = c.split_at-2.result.1.now in
    let parts = c.split_at.ensures.by_index.0 ∙ ap (λ (rest : List ℕ). front ++ rest) c.split_at-2.ensures.by_index.0 in
    let after = c.compress_blocks-2.ensures initial _ (c.compress_blocks.ensures initial held.before held.compressed) in
    Holds-long initial c.args.self.now _ message c.args.bytes.now front c.split_at-2.result.0.now last c.as_slice.result.now held parts
    (c.as_slice.ensures ∙ c.push-2.ensures) after (c.push-3.ensures ∙ ap (λ (kept : List ℕ). kept ++ last) c.clear.ensures) (omega arith)
