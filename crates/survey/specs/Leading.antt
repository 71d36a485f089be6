-- The sights to which ports lead. Assumes nothing.
use Rattle.std.specs.Prelude.{ℕ, Bool, cond, List, [], ◌∷◌, map}
use Rattle.label.specs.Group.{Group}
use Rattle.mesh.specs.Net as mesh
use Rattle.mesh.specs.Ports.{Port}
use Rattle.mesh.specs.Target.{target}
use Rattle.growth.specs.Entry.{Sight, about}

-- where ports lead from a junction with the label h, as it is found about v
abbrev pub led : {M : Type 0} → Group M → ℕ → M → List (Port M) → List (Sight M)
led G v h ps = map (about v) (map (target G h) ps)

-- the one thing, or nothing
abbrev pub one_if : {X : Type 0} → Bool → X → List X
one_if {X} b x = let none : List X = [] in cond b (x ∷ none) none

-- the line read from its head to its tail: its port forward is the line's port backward
abbrev pub back : {M : Type 0} → Group M → mesh.Line M → mesh.Line M
back G l = record { tail = l.head; head = l.tail; label = G.inv l.label }
