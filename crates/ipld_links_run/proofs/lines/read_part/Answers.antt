use Rattle.std.proofs.Common.{◌+◌, length, subst, arith, rules}
use Rattle.std.specs.Io.BufRead.{FillKeeps}
use Rattle.std.proofs.BufReadLemmas.{Consumes_shown}
use Rattle.ipld_links_run.proofs.LineLemmas.{nothing_taken, end_seen, line_ended, line_open}
use Rattle.ipld_links_run.proofs.lines.read_part.Goals as goal

pub returns-in-Err : goal.returns-in-Err
returns-in-Err g c = nothing_taken _ _ _ c.fill_buf.follows.holds-at-none.0

pub returns-then-is_empty : goal.returns-then-is_empty
returns-then-is_empty g c = end_seen _ _ _ c.in-Ok.buffer.now (search rules) c.in-Ok.ensures.end c.fill_buf.follows.holds-at-none.0

pub returns-in_ok-extend_from_slice-in-Some : goal.returns-in_ok-extend_from_slice-in-Some
returns-in_ok-extend_from_slice-in-Some g c =
    let rested = c.fill_buf.follows.lender-at-none in
    let filled = subst (FillKeeps _ (g.R.Read.remaining rested) (g.R.BufRead.consumable_len rested)) c.in-Ok.is c.fill_buf.follows.holds-at-none in
    let within = c.in-Some.ensures.0.high in
    let moved = Consumes_shown _ _ _ _ c.in-Ok.buffer.now (c.in-Some.end + 1) (omega arith) c.in-Ok.ensures.front c.in-Ok.ensures.end filled.0 filled.1 c.consume.ensures.bytes in
    line_ended _ _ _ _ c.in-Ok.buffer.now c.in-Some.end moved.0 c.in-Some.ensures c.in_ok-extend_from_slice-in-Some.ensures.items

pub returns-in_ok-extend_from_slice-in-None : goal.returns-in_ok-extend_from_slice-in-None
returns-in_ok-extend_from_slice-in-None g c =
    let rested = c.fill_buf.follows.lender-at-none in
    let filled = subst (FillKeeps _ (g.R.Read.remaining rested) (g.R.BufRead.consumable_len rested)) c.in-Ok.is c.fill_buf.follows.holds-at-none in
    let moved = Consumes_shown _ _ _ _ c.in-Ok.buffer.now (length c.in-Ok.buffer.now) (omega arith) c.in-Ok.ensures.front c.in-Ok.ensures.end filled.0 filled.1 c.consume-in-None.ensures.bytes in
    line_open _ _ _ _ c.in-Ok.buffer.now moved.0 c.in-None.ensures c.in_ok-extend_from_slice-in-None.ensures.items
