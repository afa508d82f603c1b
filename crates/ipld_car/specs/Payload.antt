-- The end of a payload of version 2, by the end of the file. The payload has `size` bytes, and
-- `found` of them were read.
use Rattle.std.specs.Prelude.{ℕ, nat_lt, Bool, true, false, Result, Ok, Err}
use Rattle.ipld_car.specs.declared.error.CarError.{CarError}
use Rattle.ipld_car.specs.declared.error.CarErrorKind.{CarErrorKind}
use Rattle.ipld_car.specs.declared.error.CarErrorKind.TheVariants.{UnexpectedEnd, ShortPayload}

-- the kind of an error at the end of the bytes: `ShortPayload` if the file ends before the payload
-- does, and otherwise `UnexpectedEnd`
abbrev pub end_kind : Bool → (size found : ℕ) → CarErrorKind
end_kind true size found = ShortPayload size found
end_kind false size found = UnexpectedEnd

-- the kind of an error, with `ShortPayload` instead of `UnexpectedEnd` if fewer than `size` bytes
-- were read
abbrev pub short_kind : (size found : ℕ) → CarErrorKind → CarErrorKind
short_kind size found UnexpectedEnd = end_kind (nat_lt found size) size found
short_kind size found kind = kind

abbrev pub short_payload : (size found : ℕ) → CarError → CarError
short_payload size found error = record { kind = short_kind size found error.kind; section = error.section; offset = error.offset }

-- the result of reading at the end of the bytes: an error if the file ends before the payload does,
-- and otherwise false
abbrev pub end_result : Bool → (size found offset : ℕ) → Result Bool CarError
end_result true size found offset = Err (record { kind = ShortPayload size found; section = offset; offset = offset })
end_result false size found offset = Ok false

-- the result of reading a section up to the end of the payload, from the result of reading it up to
-- the end of the file
abbrev pub within_payload : (size found offset : ℕ) → Result Bool CarError → Result Bool CarError
within_payload size found offset (Ok true) = Ok true
within_payload size found offset (Ok false) = end_result (nat_lt found size) size found offset
within_payload size found offset (Err error) = Err (short_payload size found error)
