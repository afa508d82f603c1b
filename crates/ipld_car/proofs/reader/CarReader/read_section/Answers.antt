use Rattle.std.proofs.Common.{arith, length, ap, sym, ◌∙◌, ◌≡◌, ◌≤◌, ◌-◌, ◌++◌, Some}
use Rattle.ipld_car.specs.Section.{content_of}
use Rattle.ipld_car.specs.SectionOf.{taken_of}
use Rattle.ipld_car.proofs.Paddings.{known_kept, no_section, look_fails}
use Rattle.ipld_car.proofs.reader.CarReader.read_section.Goals.{then-self+then-self-2+in-Ok-false, else-self}
use Rattle.ipld_car.proofs.reader.CarReader.read_section.Goals as goal

pub returns-in-Ok-true-clause-only : goal.returns-in-Ok-true-clause-only
returns-in-Ok-true-clause-only g c = λ block bytes rest known is few fits. no_section _ bytes rest block _ c.in-Ok-true.ensures.zero c.in-Ok-true.field-0-test known is

pub returns-in-Err-clause-read : goal.returns-in-Err-clause-read
returns-in-Err-clause-read g c =
    look_fails c.args.self.now.limit _ c.args.self.now.offset _ _ (taken_of c.clear-in-Err.new.self) c.in-Err.kind _ c.in-Err.ensures.fault c.clear-in-Err.ensures.taken (omega arith)
    c.section_error.ensures

pub returns-clause-only : goal.returns-clause-only
returns-clause-only g c = λ block bytes rest known is few fits.
    elim c.if-self.branch [
      | then-self+then-self-2+in-Ok-false w ↦
          let mid = known_kept _ _ (bytes ++ rest) w.is_next_zero.ensures.kept known in
          let reader = ap (λ s. g.R.Read.remaining s.reader) w.self-is ∙ mid in
          let limit = ap (λ s. s.limit) w.self-is in
          let end = ap (λ s. s.end) w.self-is in
          let offset = ap (λ s. s.offset) w.self-is in
          c.read_unpadded.ensures.only block bytes rest reader is (omega arith) (omega arith)
      | else-self w ↦
          let reader = ap (λ s. g.R.Read.remaining s.reader) w.self-is ∙ known in
          let limit = ap (λ s. s.limit) w.self-is in
          let end = ap (λ s. s.end) w.self-is in
          let offset = ap (λ s. s.offset) w.self-is in
          c.read_unpadded.ensures.only block bytes rest reader is (omega arith) (omega arith)
    ]
