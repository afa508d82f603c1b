use Rattle.std.proofs.Common.{refl, subst, sym, ap, add-one}
use Rattle.ipld_block.specs.Digest.{digest_by}
use Rattle.ipld_cid.specs.Cid.{Link}
use Rattle.ipld_cid.specs.LinkOf.{link_of}
use Rattle.unixfs_folders.specs.Lookups.{Descends}
use Rattle.unixfs_folders.specs.Sayings.{Saying, Says}
use Rattle.unixfs_folders.specs.SayingOf.{saying_of}
use Rattle.unixfs_folders.proofs.Searching.{entry_said, none_said, deeper_said, room, room_more, at_is, one_deeper}
use Rattle.unixfs_folders.proofs.lookup.Lookup.take.Goals as goal

pub invariant_of-self-in-Ok-Deeper : goal.invariant_of-self-in-Ok-Deeper
invariant_of-self-in-Ok-Deeper c =
    let self = c.args.self.now in
    record { in_range = room_more self.depth (room digest_by (link_of c.in-Some.at) self.name.now self.depth c.args.block.now (link_of c.in-Ok-Deeper.next) (subst (λ (s : Saying). Says digest_by (link_of c.in-Some.at) self.name.now self.depth c.args.block.now s) (ap saying_of c.in-Ok-Deeper.field-0-is) c.in-Ok-Deeper.ensures.found)) }

pub returns-in-Ok-Entry-clause-answers : goal.returns-in-Ok-Entry-clause-answers
returns-in-Ok-Entry-clause-answers c =
    let self = c.args.self.now in (
      refl,
      λ root looks.
          entry_said digest_by root (link_of c.in-Some.at) self.name.now self.depth c.args.block.now (link_of c.in-Ok-Entry.cid) self.in_range (subst (λ (s : Saying). Says digest_by (link_of c.in-Some.at) self.name.now self.depth c.args.block.now s) (ap saying_of c.in-Ok-Entry.field-0-is) c.in-Ok-Entry.ensures.found)
          (subst (λ (l : Link). Descends digest_by root self.name.now self.depth l) (sym (at_is self.wanted c.in-Some.at looks.0 c.in-Some.is looks.1)) looks.2),
    )

pub returns-in-Ok-Nothing-clause-answers : goal.returns-in-Ok-Nothing-clause-answers
returns-in-Ok-Nothing-clause-answers c =
    let self = c.args.self.now in (
      refl,
      λ root looks.
          none_said digest_by root (link_of c.in-Some.at) self.name.now self.depth c.args.block.now self.in_range (subst (λ (s : Saying). Says digest_by (link_of c.in-Some.at) self.name.now self.depth c.args.block.now s) (ap saying_of c.in-Ok-Nothing.field-0-is) c.in-Ok-Nothing.ensures.found)
          (subst (λ (l : Link). Descends digest_by root self.name.now self.depth l) (sym (at_is self.wanted c.in-Some.at looks.0 c.in-Some.is looks.1)) looks.2),
    )

pub returns-in-Ok-Deeper-clause-answers : goal.returns-in-Ok-Deeper-clause-answers
returns-in-Ok-Deeper-clause-answers c =
    let self = c.args.self.now in
    let next = link_of c.in-Ok-Deeper.next in (
      add-one self.depth,
      λ root looks. (
        next,
        refl,
        one_deeper digest_by root self.name.now self.depth next
            (deeper_said digest_by root (link_of c.in-Some.at) self.name.now self.depth c.args.block.now next self.in_range (subst (λ (s : Saying). Says digest_by (link_of c.in-Some.at) self.name.now self.depth c.args.block.now s) (ap saying_of c.in-Ok-Deeper.field-0-is) c.in-Ok-Deeper.ensures.found)
            (subst (λ (l : Link). Descends digest_by root self.name.now self.depth l) (sym (at_is self.wanted c.in-Some.at looks.0 c.in-Some.is looks.1)) looks.2)),
      ),
    )

pub returns-in-Err-clause-only : goal.returns-in-Err-clause-only
returns-in-Err-clause-only c = λ at s wanted says.
    let self = c.args.self.now in
    c.in-Err.ensures.only s (subst (λ (l : Link). Says digest_by l self.name.now self.depth c.args.block.now s) (sym (at_is self.wanted c.in-Some.at at c.in-Some.is wanted)) says)
