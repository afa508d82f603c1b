use Rattle.std.proofs.Common.{arith, length, ◌≡◌, ◌+◌}
use Rattle.ipld_car.specs.SectionOf.{taken_of, block_of}
use Rattle.ipld_car.proofs.OnlySections.{only_section}
use Rattle.ipld_car.proofs.Payloads.{version1_read, version2_read}
use Rattle.ipld_car.proofs.reader.CarReader.read_unpadded.Goals as goal

pub returns-in-V1-clause-only : goal.returns-in-V1-clause-only
returns-in-V1-clause-only g c =
    only_section c.args.self.now.limit c.args.self.now.offset c.args.self.now.end _ _ (taken_of c.read_section_at-read.new.section) (block_of c.read_section_at-read.new.section)
    c.read_section_at-read.result c.read_section_at-read.ensures.consumed
    (version1_read _ _ _ 0 0 _ _ _ _ c.read_section_at-read.result c.read_section_at-read.ensures.read).0

pub returns-in-V2-clause-read : goal.returns-in-V2-clause-read
returns-in-V2-clause-read g c =
    let car = c.args.self.now in
    let section = c.read_section_at-read.new.section in
    let took = c.read_section_at-read.ensures in
    let at : car.offset + c.taken.result ≡ car.offset + length (taken_of section) = omega arith in
    rw c.within_payload.ensures (
    (version2_read car.limit car.offset car.start car.end (car.offset + c.taken.result) _ _ (taken_of section) (block_of section) c.read_section_at-read.result
    took.read took.within (omega arith) (omega arith) at).0)

pub returns-in-V2-clause-ends : goal.returns-in-V2-clause-ends
returns-in-V2-clause-ends g c =
    let car = c.args.self.now in
    let section = c.read_section_at-read.new.section in
    let took = c.read_section_at-read.ensures in
    let at : car.offset + c.taken.result ≡ car.offset + length (taken_of section) = omega arith in
    rw (c.within_payload.ensures, c.in-V2.is) (
    (version2_read car.limit car.offset car.start car.end (car.offset + c.taken.result) _ _ (taken_of section) (block_of section) c.read_section_at-read.result
    took.read took.within (omega arith) (omega arith) at).1)

pub returns-in-V2-clause-only : goal.returns-in-V2-clause-only
returns-in-V2-clause-only g c =
    let car = c.args.self.now in
    let section = c.read_section_at-read.new.section in
    let took = c.read_section_at-read.ensures in
    let at : car.offset + c.taken.result ≡ car.offset + length (taken_of section) = omega arith in
    only_section car.limit car.offset car.end _ _ (taken_of section) (block_of section) c.within_payload.result took.consumed
    (rw c.within_payload.ensures (
    (version2_read car.limit car.offset car.start car.end (car.offset + c.taken.result) _ _ (taken_of section) (block_of section) c.read_section_at-read.result
    took.read took.within (omega arith) (omega arith) at).0))
