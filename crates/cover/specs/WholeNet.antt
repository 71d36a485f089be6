-- The net over the whole numbers that has the numbers of a net over the wrapping translations. Assumes nothing.
use Rattle.std.specs.Prelude.{map}
use Rattle.lattice.specs.Triples.{Triple}
use Rattle.mesh.specs.Net.{Line, Net}
use Rattle.cover.specs.Whole.{Whole}
use Rattle.cover.specs.Wrap.{unwrapped}

-- the line with the same ends and the same numbers
abbrev pub whole_line : Line Triple → Line Whole
whole_line l = record { tail = l.tail; head = l.head; label = unwrapped l.label }

-- the net with the same nodes and, line by line, the same numbers
abbrev pub whole_net : Net Triple → Net Whole
whole_net net = record { nodes = net.nodes; lines = map whole_line net.lines }
