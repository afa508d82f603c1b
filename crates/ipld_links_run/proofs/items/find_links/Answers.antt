use Rattle.std.proofs.Common.{Ok, Some, is_ok, ap, sym, ◌∙◌}
use Rattle.ipld_links_run.proofs.OutcomeLemmas.{found_outcome, error_outcome}
use Rattle.ipld_links_run.proofs.TreeOutcomes.{outcome_by_result, outcome_of_error, all_links, reports_tree}
use Rattle.ipld_links_run.proofs.items.find_links.Goals as goal

pub returns-in-Ok : goal.returns-in-Ok
returns-in-Ok c =
    let e = c.deserialize.ensures in
    rw c.in-Item.is
    (found_outcome _ _ _ c.deserialize.result c.in-Ok.links _ c.new-source.ensures.tokens c.into_vec.ensures c.in-Ok.is e.found e.only e.rejected e.open)

pub returns-in_ok-rejection_of-in-Err : goal.returns-in_ok-rejection_of-in-Err
returns-in_ok-rejection_of-in-Err c =
    let e = c.deserialize.ensures in
    rw c.in-Item.is
    (error_outcome _ _ _ c.deserialize.result c.in-Err.error _ c.new-source.ensures.tokens c.in-Err.is c.in_ok-rejection_of-in-Err.ensures
    e.token e.cid e.end e.no_key e.only e.rejected e.open)

pub returns-in_ok-found-in-Ok-read_ipld : goal.returns-in_ok-found-in-Ok-read_ipld
returns-in_ok-found-in-Ok-read_ipld c =
    let all = all_links _ _ _ _ c.new-links.ensures.items (ap is_ok c.in_ok-found-in-Ok-read_ipld.was) c.references-found.ensures in
    let e = c.read_ipld.ensures in
    rw c.in-Tree.is
    (reports_tree _ _ _ c.read_ipld.result _ c.new-source.ensures.tokens (ap outcome_by_result c.in-Ok-read_ipld.is ∙ ap (λ found. Some (Ok found)) (sym all)) (record {
      found = e.found;
      only = e.only;
      token = e.token;
      cid = e.cid;
      duplicate_key = e.duplicate_key;
      end = e.end;
      wrong = e.wrong;
      bad_cid = e.bad_cid;
      again = e.repeated_key;
      open_end = e.unfinished;
    }))

pub returns-in_ok-rejection_of-in-Err-read_ipld : goal.returns-in_ok-rejection_of-in-Err-read_ipld
returns-in_ok-rejection_of-in-Err-read_ipld c =
    let e = c.read_ipld.ensures in
    rw c.in-Tree.is
    (reports_tree _ _ _ c.read_ipld.result _ c.new-source.ensures.tokens (ap outcome_by_result c.in-Err-read_ipld.is ∙ outcome_of_error _ _ c.in_ok-rejection_of-in-Err-read_ipld.ensures) (record {
      found = e.found;
      only = e.only;
      token = e.token;
      cid = e.cid;
      duplicate_key = e.duplicate_key;
      end = e.end;
      wrong = e.wrong;
      bad_cid = e.bad_cid;
      again = e.repeated_key;
      open_end = e.unfinished;
    }))
