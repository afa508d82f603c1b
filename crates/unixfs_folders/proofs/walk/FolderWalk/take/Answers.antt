use Rattle.std.proofs.Common.{sym, ap, subst, map, vec_len}
use Rattle.std.specs.Prelude.{reverse}
use Rattle.ipld_block.specs.Digest.{digest_by}
use Rattle.unixfs_folders.specs.Listing.{Waiting, Visits}
use Rattle.unixfs_folders.specs.Walks.{waiting_of, remain_from}
use Rattle.unixfs_folders.proofs.Visiting.{went_on, first_is, fault_is}
use Rattle.unixfs_folders.proofs.walk.FolderWalk.take.Goals as goal

pub returns-in-Err-clause-only : goal.returns-in-Err-clause-only
returns-in-Err-clause-only c = λ next others entries below is visits.
    let self = c.args.self.now in
    let same = first_is self.next c.in-Some.next self.others.items next others c.in-Some.is is in
    c.in-Err.ensures.only entries below (subst (λ (w : Waiting). Visits digest_by w c.args.block.now entries below) (sym same) visits)

pub returns-in-Err-clause-why : goal.returns-in-Err-clause-why
returns-in-Err-clause-why c =
    let self = c.args.self.now in
    fault_is self.next c.in-Some.next self.others.items c.args.block.now c.in-Err.error c.in-Some.is c.in-Err.ensures.why

pub returns-clause-takes : goal.returns-clause-takes
returns-clause-takes c =
    let self = c.args.self.now in
    let all = c.append.new.self in
    record {
      next = waiting_of c.in-Some.next;
      others = reverse (map waiting_of self.others.items);
      below = map waiting_of c.in-Ok.visit.below.items;
      is_next = ap (λ o. remain_from o self.others.items) c.in-Some.is;
      visits = c.in-Ok.ensures.found;
      remain = went_on self.others.items c.in-Ok.visit.below.items c.reverse.new.self.items all.items c.pop-self.new.self.items c.pop-self.result (vec_len all) (vec_len c.pop-self.new.self)
          c.reverse.ensures.items c.in_ok-append.ensures.items c.pop-self.ensures.items all.ok.0 c.pop-self.ensures.cases;
    }
