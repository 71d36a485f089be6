-- The rules of drawing by their refusals, and the order in which they are checked. Assumes nothing.
use Rattle.std.specs.Prelude.{◌≡◌, ℕ, ◌<◌, ◌≤◌, ◌≢◌, ◌⊎◌, List, [], ◌∷◌, ◌++◌, length}
use Rattle.label.specs.Group.{Group}
use Rattle.mesh.specs.Net as mesh
use Rattle.mesh.specs.Drawn.{OffNodes, IdentityLoop, InvolutionLoop, PortTaken, PortsFull}
use Rattle.net.specs.declared.refusals.NetRefusal.{NetRefusal}
use Rattle.net.specs.declared.refusals.NetRefusal.TheVariants as refusal

-- the rule that the line breaks in the net; the list had `room` records at opening and has `lent` now
abbrev pub LineBreaks : {M : Type 0} → Group M → mesh.Net M → (room lent : ℕ) → mesh.Line M → NetRefusal → Type 0
LineBreaks G net room lent l refusal.OtherLength = lent ≢ room
LineBreaks G net room lent l refusal.NoSuchNode = OffNodes net.nodes l
LineBreaks G net room lent l refusal.ListFull = (room ≤ length net.lines) ⊎ (96 ≤ length net.lines)
LineBreaks G net room lent l refusal.IdentityLoop = IdentityLoop G l
LineBreaks G net room lent l refusal.InvolutionLoop = InvolutionLoop G l
LineBreaks G net room lent l refusal.PortTaken = PortTaken G net.lines l
LineBreaks G net room lent l refusal.PortsFull = PortsFull G net.lines l
LineBreaks G net room lent l refusal.NodesOutOfRange = ⊥
LineBreaks G net room lent l refusal.NoLine = ⊥

-- the order of the checks: the list, the nodes and the room, then a loop's label, then the ports
abbrev pub list_rules : List NetRefusal
list_rules = refusal.OtherLength ∷ []

abbrev pub node_rules : List NetRefusal
node_rules = refusal.NoSuchNode ∷ refusal.ListFull ∷ []

abbrev pub place_rules : List NetRefusal
place_rules = list_rules ++ node_rules

abbrev pub loop_rules : List NetRefusal
loop_rules = refusal.IdentityLoop ∷ refusal.InvolutionLoop ∷ []

abbrev pub port_rules : List NetRefusal
port_rules = refusal.PortTaken ∷ refusal.PortsFull ∷ []

abbrev pub line_rules : List NetRefusal
line_rules = place_rules ++ (loop_rules ++ port_rules)

-- the rules of opening
abbrev pub OpenBreaks : ℕ → NetRefusal → Type 0
OpenBreaks nodes refusal.NodesOutOfRange = (nodes < 1) ⊎ (24 < nodes)
OpenBreaks nodes refusal.NoSuchNode = ⊥
OpenBreaks nodes refusal.IdentityLoop = ⊥
OpenBreaks nodes refusal.InvolutionLoop = ⊥
OpenBreaks nodes refusal.OtherLength = ⊥
OpenBreaks nodes refusal.ListFull = ⊥
OpenBreaks nodes refusal.PortTaken = ⊥
OpenBreaks nodes refusal.PortsFull = ⊥
OpenBreaks nodes refusal.NoLine = ⊥

abbrev pub open_rules : List NetRefusal
open_rules = refusal.NodesOutOfRange ∷ []

-- the rules of taking the last line back
abbrev pub BackBreaks : {M : Type 0} → mesh.Net M → (room lent : ℕ) → NetRefusal → Type 0
BackBreaks net room lent refusal.OtherLength = lent ≢ room
BackBreaks net room lent refusal.NoLine = length net.lines ≡ 0
BackBreaks net room lent refusal.NodesOutOfRange = ⊥
BackBreaks net room lent refusal.NoSuchNode = ⊥
BackBreaks net room lent refusal.IdentityLoop = ⊥
BackBreaks net room lent refusal.InvolutionLoop = ⊥
BackBreaks net room lent refusal.ListFull = ⊥
BackBreaks net room lent refusal.PortTaken = ⊥
BackBreaks net room lent refusal.PortsFull = ⊥

abbrev pub back_rules : List NetRefusal
back_rules = refusal.OtherLength ∷ refusal.NoLine ∷ []

-- the rules of asking for the ports of a node
abbrev pub PortsBreaks : {M : Type 0} → mesh.Net M → (room lent node : ℕ) → NetRefusal → Type 0
PortsBreaks net room lent node refusal.OtherLength = lent ≢ room
PortsBreaks net room lent node refusal.NoSuchNode = net.nodes ≤ node
PortsBreaks net room lent node refusal.NodesOutOfRange = ⊥
PortsBreaks net room lent node refusal.IdentityLoop = ⊥
PortsBreaks net room lent node refusal.InvolutionLoop = ⊥
PortsBreaks net room lent node refusal.ListFull = ⊥
PortsBreaks net room lent node refusal.PortTaken = ⊥
PortsBreaks net room lent node refusal.PortsFull = ⊥
PortsBreaks net room lent node refusal.NoLine = ⊥

abbrev pub ports_rules : List NetRefusal
ports_rules = refusal.OtherLength ∷ refusal.NoSuchNode ∷ []
