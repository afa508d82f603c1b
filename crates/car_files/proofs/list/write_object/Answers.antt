use Rattle.std.proofs.Common.{◌≡◌, ℕ, List, ◌++◌, length, codes, decimal, Option, ap, subst, ◌∙◌}
use Rattle.std.specs.Io.KnownBytes.{Appends}
use Rattle.ipld_cid.specs.Cid.{Link}
use Rattle.ipld_cid.specs.LinkOf.{link_of}
use Rattle.ipld_car.specs.Section.{Block}
use Rattle.ipld_car.specs.SectionOf.{block_of}
use Rattle.ipld_block.specs.Texts.{usual_text}
use Rattle.car_files.specs.declared.list.Form.TheVariants.{Json}
use Rattle.car_files.specs.Written.{Known, codec_text, member_text, linked_text}
use Rattle.car_files.specs.Views.{known_of}
use Rattle.car_files.proofs.Writing.{three, five}
use Rattle.car_files.proofs.list.write_object.Goals as goal

-- an object was written, by other names of its parts
object_is : (begin size code : ℕ) (cid link : Link) (block : Block) (links : Known) (held holds : Option (List ℕ)) → cid ≡ block.cid → link ≡ block.cid
    → code ≡ link.codec → size ≡ length block.bytes
    → Appends held holds (codes "{\"cid\":\"" ++ usual_text cid ++ codes "\",\"codec\":\"" ++ codec_text code
    ++ (codes "\",\"offset\":" ++ (decimal begin ++ (codes ",\"size\":" ++ decimal size))) ++ member_text links ++ codes "}\n")
    → Appends held holds (linked_text Json begin block links)
object_is begin size code cid link block links held holds c d e f a =
    let codec : code ≡ block.cid.codec = e ∙ ap (λ (l : Link). l.codec) d in
    subst (λ (l : Link). Appends held holds (codes "{\"cid\":\"" ++ usual_text l ++ codes "\",\"codec\":\"" ++ codec_text block.cid.codec
    ++ (codes "\",\"offset\":" ++ (decimal begin ++ (codes ",\"size\":" ++ decimal (length block.bytes)))) ++ member_text links ++ codes "}\n")) c
    (subst (λ (n : ℕ). Appends held holds (codes "{\"cid\":\"" ++ usual_text cid ++ codes "\",\"codec\":\"" ++ codec_text n
    ++ (codes "\",\"offset\":" ++ (decimal begin ++ (codes ",\"size\":" ++ decimal (length block.bytes)))) ++ member_text links ++ codes "}\n")) codec
    (subst (λ (n : ℕ). Appends held holds (codes "{\"cid\":\"" ++ usual_text cid ++ codes "\",\"codec\":\"" ++ codec_text code
    ++ (codes "\",\"offset\":" ++ (decimal begin ++ (codes ",\"size\":" ++ decimal n))) ++ member_text links ++ codes "}\n")) f a))

pub returns-clause-written : goal.returns-clause-written
returns-clause-written g c =
    let front = five _ (g.W.Write.contents c.write_all.new.self) (g.W.Write.contents c.write_cid.new.writer) (g.W.Write.contents c.write_all-2.new.self)
    (g.W.Write.contents c.write_codec.new.writer) (g.W.Write.contents c.write.new.self) (codes "{\"cid\":\"") (usual_text (link_of c.cid.result.now)) (codes "\",\"codec\":\"")
    (codec_text c.codec.result) (codes "\",\"offset\":" ++ (decimal c.args.offset ++ (codes ",\"size\":" ++ decimal (length c.data.result.now))))
    c.in_ok-write_all.ensures.bytes c.in_ok-write_cid.ensures c.in_ok-write_all-2.ensures.bytes c.in_ok-write_codec.ensures.written c.in_ok-write.ensures.bytes in
    object_is c.args.offset (length c.data.result.now) c.codec.result (link_of c.cid.result.now) (link_of c.cid-2.result.now) (block_of c.args.section.now) (known_of c.args.links.now) _ _
    c.cid.ensures c.cid-2.ensures c.codec.ensures (ap length c.data.ensures)
    (three _ (g.W.Write.contents c.write.new.self) (g.W.Write.contents c.write_member.new.writer) _ _ (member_text (known_of c.args.links.now)) (codes "}\n") front
    c.in_ok-write_member.ensures.written c.in_ok-write_all-3.ensures.bytes)
