-- The numbers of faults of messages.
use Rattle.std.specs.Prelude.{ℕ}
use Rattle.hickory_proto_wire.specs.declared.to_wire_error.ToWireError.{ToWireError}
use Rattle.hickory_proto_wire.specs.declared.to_wire_error.ToWireError.TheVariants as writing
use Rattle.hickory_proto_wire.specs.declared.wire_error.WireFault.{WireFault}
use Rattle.hickory_proto_wire.specs.declared.wire_error.WireFault.TheVariants as reading

abbrev pub reading_number : WireFault → ℕ
reading_number reading.Short = 1
reading_number reading.BadLabel = 2
reading_number reading.NameTooLong = 3
reading_number reading.TooManyPointers = 4
reading_number reading.PointerNotBack = 5
reading_number reading.TrailingData = 6
reading_number reading.OptName = 7
reading_number reading.SecondOpt = 8
reading_number reading.TooManyLabels = 10

abbrev pub writing_number : ToWireError → ℕ
writing_number writing.OutOfMemory = 0
writing_number writing.RelativeName = 17
writing_number writing.StringTooLong = 18
writing_number writing.KnownType = 19
writing_number writing.OpCodeTooLarge = 20
writing_number writing.ResponseCodeTooLarge = 21
writing_number writing.TooManyRecords = 22
writing_number writing.LimitTooSmall = 23
writing_number writing.DataTooLong = 24
writing_number writing.NotSpelledOut = 25
