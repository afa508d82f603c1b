-- The name, the message and the sentence of every error, and the one that is printed.
use Rattle.std.specs.Prelude.{ℕ, Bool, List, ◌++◌, codes, Some, None, if◌then◌else◌}
use Rattle.std.specs.declared.option.Option.{Option}
use Rattle.std.specs.Fmt.{decimal}
use Rattle.ipld_cid.specs.Error as cid
use Rattle.ipld_ser.specs.declared.error.SerdeError.{SerdeError}
use Rattle.ipld_ser.specs.declared.error.SerdeError.TheVariants.{Memory, Unit, UnitStruct, U128, KeyNotText, InvalidCid, WrongKind, OutOfRange, NotOneChar, WrongLength, Leftover, MissingValue, NoKey, MoreKeys, VariantContent, Custom}

-- The name of an error, without its content.
abbrev pub name_of : SerdeError → List ℕ
name_of Memory = codes "Memory"
name_of Unit = codes "Unit"
name_of UnitStruct = codes "UnitStruct"
name_of U128 = codes "U128"
name_of KeyNotText = codes "KeyNotText"
name_of (InvalidCid error) = codes "InvalidCid"
name_of (WrongKind kind) = codes "WrongKind"
name_of OutOfRange = codes "OutOfRange"
name_of NotOneChar = codes "NotOneChar"
name_of WrongLength = codes "WrongLength"
name_of (Leftover n) = codes "Leftover"
name_of MissingValue = codes "MissingValue"
name_of NoKey = codes "NoKey"
name_of MoreKeys = codes "MoreKeys"
name_of VariantContent = codes "VariantContent"
name_of (Custom message) = codes "Custom"

-- The message of an error: its name, or `serde error: ` and the message of a custom error
abbrev pub message_of : SerdeError → List ℕ
message_of (Custom message) = codes "serde error: " ++ message.now
message_of error = name_of error

-- The sentence of an error. That of `WrongKind`, which ends in the derived `Debug` of the kind, is
-- not specified.
abbrev pub sentence_of : SerdeError → Option (List ℕ)
sentence_of Memory = Some (codes "out of memory")
sentence_of Unit = Some (codes "() cannot be written: it has no image")
sentence_of UnitStruct = Some (codes "a unit struct cannot be written: it has no image")
sentence_of U128 = Some (codes "a u128 is above 2^127 - 1")
sentence_of KeyNotText = Some (codes "a map key is not a string")
sentence_of (InvalidCid error) = Some (codes "invalid link: not a CID: " ++ cid.sentence_of error)
sentence_of (WrongKind kind) = None
sentence_of OutOfRange = Some (codes "the integer is out of the type's range")
sentence_of NotOneChar = Some (codes "the string is not exactly one character")
sentence_of WrongLength = Some (codes "the list has another length than the type")
sentence_of (Leftover n) = Some (codes "elements or entries left unread: " ++ decimal n)
sentence_of MissingValue = Some (codes "next_value was called before next_key")
sentence_of NoKey = Some (codes "the map of an enum has no key")
sentence_of MoreKeys = Some (codes "the map of an enum has more than one key")
sentence_of VariantContent = Some (codes "the variant has no content")
sentence_of (Custom message) = Some message.now

-- The printed text: the sentence if the option `#` is set (`{error:#}`), and otherwise the message
abbrev pub printed : Bool → SerdeError → Option (List ℕ)
printed alternate error = if alternate then sentence_of error else Some (message_of error)
