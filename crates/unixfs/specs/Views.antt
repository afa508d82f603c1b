-- The models of messages and times.
use Rattle.std.specs.Prelude.{◌≡◌, option_map}
use Rattle.unixfs.specs.declared.data.Data.{Data}
use Rattle.unixfs.specs.declared.data.UnixTime.{UnixTime}
use Rattle.unixfs.specs.declared.error.UnixFsError.{UnixFsError}
use Rattle.unixfs.specs.declared.error.UnixFsErrorKind.TheVariants.{Memory}
use Rattle.unixfs.specs.declared.reader.Details.{Details}
use Rattle.unixfs.specs.declared.reader.Head.{Head}
use Rattle.unixfs.specs.Data.{TimeParts, DataParts}
use Rattle.unixfs.specs.Reading.{HeadParts, DetailParts}

-- the model of a time
abbrev pub parts_of_time : UnixTime → TimeParts
parts_of_time t = record { seconds = t.seconds; nanoseconds = t.nanoseconds }

-- the model of the first four fields
abbrev pub parts_of_head : Head → HeadParts
parts_of_head h = record { data_type = h.data_type; content = option_map (λ c. c.now) h.content; filesize = h.filesize; blocksizes = h.blocksizes.items }

-- the model of the last four fields
abbrev pub parts_of_details : Details → DetailParts
parts_of_details d = record { hash_type = d.hash_type; fanout = d.fanout; mode = d.mode; mtime = option_map parts_of_time d.mtime }

-- the model of a message
abbrev pub parts_of : Data → DataParts
parts_of d = record {
  data_type = d.data_type;
  content = option_map (λ c. c.now) d.data;
  filesize = d.filesize;
  blocksizes = d.blocksizes.items;
  hash_type = d.hash_type;
  fanout = d.fanout;
  mode = d.mode;
  mtime = option_map parts_of_time d.mtime;
}

-- True if the error is that of a failed allocation.
abbrev pub IsOutOfMemory : UnixFsError → Type 0
IsOutOfMemory error = error ≡ record { kind = Memory; offset = 0 }
