-- What calls make of a net, in the words of the subject, where each call gets the net's own memory. Assumes nothing.
use Rattle.std.specs.Prelude.{◌≡◌, ℕ, suc, ◌<◌, ◌≤◌, ◌⊎◌, List, [], ◌∷◌, length}
use Rattle.label.specs.Group.{Group}
use Rattle.mesh.specs.Net.{Net}
use Rattle.net.specs.Model.{line_of, with_line}
use Rattle.net.specs.Rules.{LineBreaks, line_rules}
use Rattle.net.specs.Verdict.{NoneOf, First}
use Rattle.net.specs.declared.records.Line.{Line}
use Rattle.net.specs.declared.refusals.NetRefusal.{NetRefusal}
use Rattle.growth.specs.Surveyed.{Balls}
use Rattle.run.specs.Stage.{Stage, drawing, surveyed}
use Rattle.run.specs.After.{without_last}
use Rattle.run.specs.declared.state.Call.{Call}
use Rattle.run.specs.declared.state.Call.TheVariants as call

-- the rule that the line breaks in the net, where the list has `room` records
abbrev pub Breaks : {L M : Type 0} → Group M → (L → M) → ℕ → Net M → Line L → NetRefusal → Type 0
Breaks G stands room net l = LineBreaks G net room room (line_of stands l)

module _ {L M : Type 0} (G : Group M) (stands : L → M) (room space : ℕ) where
  -- the call changes nothing: it is refused, it is a question, or it is not for this stage
  abbrev pub Stays : Call L → Stage M → Type 0
  Stays (call.Line l) (drawing net) = (e : NetRefusal) × First (Breaks G stands room net l) e line_rules
  Stays call.TakeBack (drawing net) = length net.lines ≡ 0
  Stays call.Seal (drawing net) = (space < net.nodes) ⊎ (65535 < space)
  Stays call.Grow (drawing net) = Unit {0}
  Stays (call.Count v k) (drawing net) = Unit {0}
  Stays (call.Member v k i) (drawing net) = Unit {0}
  Stays (call.Next v k floor) (drawing net) = Unit {0}
  Stays (call.Distance v j) (drawing net) = Unit {0}
  Stays call.Reopen (drawing net) = Unit {0}
  Stays (call.Line l) (surveyed net r) = Unit {0}
  Stays call.TakeBack (surveyed net r) = Unit {0}
  Stays call.Seal (surveyed net r) = Unit {0}
  Stays call.Grow (surveyed net r) = (16 ≤ r) ⊎ ((total : ℕ) × Balls G net (suc r) total × (space < total))
  Stays (call.Count v k) (surveyed net r) = Unit {0}
  Stays (call.Member v k i) (surveyed net r) = Unit {0}
  Stays (call.Next v k floor) (surveyed net r) = Unit {0}
  Stays (call.Distance v j) (surveyed net r) = Unit {0}
  Stays call.Reopen (surveyed net r) = ⊥

  -- what one call makes of the net, where list and pool have `room` and `space` records
  pub data Turns : Call L → Stage M → Stage M → Type 0 where
    draws : {net : Net M} {l : Line L} → NoneOf (Breaks G stands room net l) line_rules → Turns (call.Line l) (drawing net) (drawing (with_line net (line_of stands l)))
    takes_back : {net : Net M} → 0 < length net.lines → Turns call.TakeBack (drawing net) (drawing (without_last net))
    seals : {net : Net M} → net.nodes ≤ space → space ≤ 65535 → Turns call.Seal (drawing net) (surveyed net 0)
    grows : {net : Net M} {r : ℕ} (total : ℕ) → r < 16 → Balls G net (suc r) total → total ≤ space → Turns call.Grow (surveyed net r) (surveyed net (suc r))
    reopens : {net : Net M} {r : ℕ} → Turns call.Reopen (surveyed net r) (drawing net)
    stays : {c : Call L} {n : Stage M} → Stays c n → Turns c n n

  -- what the calls make of it, one after another
  pub data Plays : List (Call L) → Stage M → Stage M → Type 0 where
    ends : {n : Stage M} → Plays [] n n
    goes_on : {c : Call L} {cs : List (Call L)} {n m k : Stage M} → Turns c n m → Plays cs m k → Plays (c ∷ cs) n k

  -- any calls make something of any net
  abbrev pub SomeEnd : Type 0
  SomeEnd = (cs : List (Call L)) (n : Stage M) → (m : Stage M) × Plays cs n m

  -- and the same calls make the same of the same net
  abbrev pub OneEnd : Type 0
  OneEnd = (cs : List (Call L)) (n m m' : Stage M) → Plays cs n m → Plays cs n m' → m ≡ m'
