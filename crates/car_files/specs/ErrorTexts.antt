-- The sentences of the errors.
use Rattle.std.specs.Prelude.{ℕ, List, codes, Some, None}
use Rattle.std.specs.declared.option.Option.{Option}
use Rattle.ipld_car.specs.ErrorTexts as car
use Rattle.car_files.specs.declared.error.CarFileError.{CarFileError}
use Rattle.car_files.specs.declared.error.CarFileError.TheVariants.{Memory, Write, Car}

-- the sentence of an error, or nothing for an error of a reader or a writer
abbrev pub sentence_of : CarFileError → Option (List ℕ)
sentence_of Memory = Some (codes "out of memory")
sentence_of (Write kind) = None
sentence_of (Car error) = car.sentence_of error
