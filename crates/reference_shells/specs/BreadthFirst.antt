-- The shells of a node as lists, found breadth first: each from the shell and the ball before it. Assumes nothing.
use Rattle.std.specs.Prelude.{ℕ, zero, suc, Bool, true, false, cond, ◌&&◌, ◌||◌, List, [], ◌∷◌, ◌++◌, length, ◌==◌}
use Rattle.std.specs.declared.cmp.Ordering.TheVariants.{Less, Equal, Greater}
use Rattle.std.specs.declared.cmp.Ordering.{Ordering}
use Rattle.label.specs.Group.{Group}
use Rattle.label.specs.Order.{Order}
use Rattle.mesh.specs.Net.{Net}
use Rattle.mesh.specs.Junction.{Junction, home}
use Rattle.mesh.specs.Target.{neighbours}

-- whether a comparison says that two things are equal
abbrev pub is_equal : Ordering → Bool
is_equal Less = false
is_equal Equal = true
is_equal Greater = false

-- whether two junctions are the same: their nodes are, and their labels compare as equal
abbrev pub same_junction : {M : Type 0} → Order M → Junction M → Junction M → Bool
same_junction O a b = a.node == b.node && is_equal (O.cmp a.label b.label)

-- whether a junction stands in the list
abbrev pub stands : {M : Type 0} → Order M → Junction M → List (Junction M) → Bool
stands O a [] = false
stands O a (b ∷ bs) = same_junction O a b || stands O a bs

-- what of a list does not stand in the list `seen`, each once
abbrev pub unseen : {M : Type 0} → Order M → List (Junction M) → List (Junction M) → List (Junction M)
unseen O seen [] = []
unseen O seen (b ∷ bs) = cond (stands O b seen) (unseen O seen bs) (b ∷ unseen O (b ∷ seen) bs)

-- the neighbours of the junctions of a list, one list after the other
abbrev pub all_neighbours : {M : Type 0} → Group M → Net M → List (Junction M) → List (Junction M)
all_neighbours G net [] = []
all_neighbours G net (b ∷ bs) = neighbours G net b ++ all_neighbours G net bs

-- what is known after k steps of the search: the ball k and the shell k
pub record Known (M : Type 0) : Type 0 where
  pub ball : List (Junction M)
  pub shell : List (Junction M)

-- before the first step the home is all that is known
abbrev pub begun : {M : Type 0} → Group M → ℕ → Known M
begun G v = record { ball = home G v ∷ []; shell = home G v ∷ [] }

-- one more shell, and the ball with it
abbrev pub joined : {M : Type 0} → List (Junction M) → List (Junction M) → Known M
joined ball new = record { ball = ball ++ new; shell = new }

-- one step of the search: the neighbours of the shell that are not in the ball are the next shell
abbrev pub step : {M : Type 0} → Group M → Order M → Net M → Known M → Known M
step G O net w = joined w.ball (unseen O w.ball (all_neighbours G net w.shell))

-- k steps of the search from the home of v
abbrev pub searched : {M : Type 0} → Group M → Order M → Net M → ℕ → ℕ → Known M
searched G O net v zero = begun G v
searched G O net v (suc k) = step G O net (searched G O net v k)

-- the lengths of n shells, from the one that is known
abbrev pub counts : {M : Type 0} → Group M → Order M → Net M → Known M → ℕ → List ℕ
counts G O net w zero = []
counts G O net w (suc n) = length w.shell ∷ counts G O net (step G O net w) n

-- the lengths of the first n shells that the search finds from the home of v
abbrev pub counted : {M : Type 0} → Group M → Order M → Net M → ℕ → ℕ → List ℕ
counted G O net v n = counts G O net (begun G v) n
