-- A net: a voltage graph, whose lines carry labels from a group. Assumes nothing.
use Rattle.std.specs.Prelude.{ℕ, List}

-- a line leads from the node tail to the node head and carries a label
pub record Line (M : Type 0) : Type 0 where
  pub tail : ℕ
  pub head : ℕ
  pub label : M

-- a net has the numbers below `nodes` for its nodes, and lines in an order
pub record Net (M : Type 0) : Type 0 where
  pub nodes : ℕ
  pub lines : List (Line M)
