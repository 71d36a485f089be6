-- The number that each refusal of the net layer has. Assumes nothing.
use Rattle.std.specs.Prelude.{ℕ}
use Rattle.net.specs.declared.refusals.NetRefusal.{NetRefusal}
use Rattle.net.specs.declared.refusals.NetRefusal.TheVariants as refusal

abbrev pub net_number : NetRefusal → ℕ
net_number refusal.NodesOutOfRange = 4
net_number refusal.NoSuchNode = 7
net_number refusal.IdentityLoop = 10
net_number refusal.InvolutionLoop = 11
net_number refusal.OtherLength = 12
net_number refusal.ListFull = 20
net_number refusal.PortTaken = 22
net_number refusal.PortsFull = 23
net_number refusal.NoLine = 24
