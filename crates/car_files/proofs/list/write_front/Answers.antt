use Rattle.std.proofs.Common.{◌++◌, map, codes, decimal}
use Rattle.ipld_cid.specs.LinkOf.{link_of}
use Rattle.car_files.specs.Written.{array_text, texts_between}
use Rattle.car_files.proofs.Writing.{both, three}
use Rattle.car_files.proofs.list.write_front.Goals as goal

pub returns-in_ok-write_each-in-Dot-clause-written : goal.returns-in_ok-write_each-in-Dot-clause-written
returns-in_ok-write_each-in-Dot-clause-written g c =
    rw c.in-Dot.is (both _ (g.W.Write.contents c.write_all.new.self) _ (codes "digraph car {\n") (texts_between (codes "  \"") (codes "\" [shape=box];\n") (map link_of c.args.roots.now))
    c.in_ok-write_all-in-Dot.ensures.bytes c.in_ok-write_each-in-Dot.ensures.written)

pub returns-in_ok-write_all-in-Json-clause-written : goal.returns-in_ok-write_all-in-Json-clause-written
returns-in_ok-write_all-in-Json-clause-written g c =
    rw c.in-Json.is (three _ (g.W.Write.contents c.write.new.self) (g.W.Write.contents c.write_array.new.writer) _
    (codes "{\"version\":" ++ (decimal c.args.version ++ codes ",\"roots\":")) (array_text (map link_of c.args.roots.now)) (codes "}\n")
    c.in_ok-write-in-Json.ensures.bytes c.in_ok-write_array-in-Json.ensures.written c.in_ok-write_all-in-Json.ensures.bytes)
