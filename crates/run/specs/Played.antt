-- What the program does for a call, and for a list of calls, over the net's own memory. Assumes nothing.
use Rattle.std.specs.Prelude.{List, length}
use Rattle.label.specs.Group.{Group}
use Rattle.label.specs.Order.{Order}
use Rattle.net.specs.declared.records.Line.{Line}
use Rattle.survey.specs.declared.records.Record.{Record}
use Rattle.run.specs.Stage.{Stage}
use Rattle.run.specs.Run.{Run}
use Rattle.run.specs.Model.{Turns, Plays}
use Rattle.run.specs.declared.state.State.{State}
use Rattle.run.specs.declared.state.Call.{Call}

module _ {L M : Type 0} (G : Group M) (O : Order M) (stands : L → M) where
  -- wherever calls have led, one more leads to what it makes of the net
  abbrev pub TurnClause : State → Call L → List (Line L) → List (Record L) → State → List (Line L) → List (Record L) → Type 0
  TurnClause st c list pool st' list' pool' =
      (n : Stage M) → Run G O stands n st list pool → (m : Stage M) × Turns G stands (length list) (length pool) c n m × Run G O stands m st' list' pool'

  -- and so do any others, one after another
  abbrev pub PlayClause : State → List (Call L) → List (Line L) → List (Record L) → State → List (Line L) → List (Record L) → Type 0
  PlayClause st cs list pool st' list' pool' =
      (n : Stage M) → Run G O stands n st list pool → (m : Stage M) × Plays G stands (length list) (length pool) cs n m × Run G O stands m st' list' pool'
