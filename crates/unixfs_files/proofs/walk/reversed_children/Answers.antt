use Rattle.std.proofs.Common.{map, refl, arith}
use Rattle.dag_pb.specs.Views.{parts_of_link}
use Rattle.unixfs.specs.Files.{children_of}
use Rattle.unixfs_files.proofs.Children.{one_more}
use Rattle.unixfs_files.proofs.walk.reversed_children.Goals as goal

pub loop-link-preserved : goal.loop-link-preserved
loop-link-preserved c =
    one_more c.args.level c.loop-link.links.items c.pop.new.self.items c.loop-link.sizes.items c.pop-in-Some.new.self.items c.loop-link.parts.items c.push.new.self.items
    (children_of (map parts_of_link c.args.links.items) c.args.sizes.items) c.in-Some.link c.pop-in-Some.result (record { cid = c.in-Some.link.hash; size = c.pop-in-Some.result; level = c.args.level })
    c.loop-link.invariant c.in-Some.ensures.items c.pop-in-Some.ensures.items (λ some. c.pop-in-Some.ensures.variant.1 (omega (arith, some, c.loop-link.sizes.ok.0))) refl refl c.in_ok-push.ensures.items
