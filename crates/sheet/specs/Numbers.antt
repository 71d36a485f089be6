-- The number that each fault of a sheet has, its place and its layer. Assumes nothing.
use Rattle.std.specs.Prelude.{ℕ}
use Rattle.label.specs.Numbers.{label_number}
use Rattle.net.specs.Numbers.{net_number}
use Rattle.sheet.specs.declared.faults.BytesFault.{BytesFault}
use Rattle.sheet.specs.declared.faults.BytesFault.TheVariants as bytes
use Rattle.sheet.specs.declared.faults.Layer.{Layer}
use Rattle.sheet.specs.declared.faults.Layer.TheVariants as layer
use Rattle.sheet.specs.declared.faults.SheetFault.{SheetFault}
use Rattle.sheet.specs.declared.faults.SheetFault.TheVariants as sheet
use Rattle.sheet.specs.declared.refusals.WriteRefusal.{WriteRefusal}
use Rattle.sheet.specs.declared.refusals.WriteRefusal.TheVariants as refusal

abbrev pub bytes_number : BytesFault → ℕ
bytes_number bytes.Ends = 1
bytes_number bytes.Malformed = 2
bytes_number bytes.OtherKind = 3
bytes_number bytes.HeadingOutOfRange = 4
bytes_number bytes.LeftOver = 6

abbrev pub fault_number : SheetFault → ℕ
fault_number (sheet.Bytes f) = bytes_number f.fault
fault_number (sheet.Label f) = label_number f.fault
fault_number (sheet.Line f) = net_number f.fault

abbrev pub fault_place : SheetFault → ℕ
fault_place (sheet.Bytes f) = f.place
fault_place (sheet.Label f) = f.place
fault_place (sheet.Line f) = f.place

-- the bytes' faults are of the layer of bytes, labels' of the layer of labels, the net's rules' of the layer of lines
abbrev pub fault_layer : SheetFault → Layer
fault_layer (sheet.Bytes f) = layer.Bytes
fault_layer (sheet.Label f) = layer.Label
fault_layer (sheet.Line f) = layer.Line

-- the bytes are layer 1, labels layer 2, the net's rules layer 3
abbrev pub layer_number : Layer → ℕ
layer_number layer.Bytes = 1
layer_number layer.Label = 2
layer_number layer.Line = 3

abbrev pub write_number : WriteRefusal → ℕ
write_number refusal.OtherLength = 12
write_number refusal.NoWrittenForm = 31
write_number refusal.OutputShort = 9
