-- What is proved of the net of the cubic lattice. Assumes nothing.
use Rattle.std.specs.Prelude.{◌≡◌, ℕ, ◌≢◌}
use Rattle.mesh.specs.Junction.{Junction}
use Rattle.mesh.specs.Link.{Link}
use Rattle.mesh.specs.Walk.{Walk}
use Rattle.cover.specs.Whole.{Whole, whole}
use Rattle.cover.specs.Wrap.{wrap_junction}
use Rattle.cover.specs.WholeNet.{whole_net}
use Rattle.cover.specs.Small.{SmallLabels}
use Rattle.cover.specs.Cubic.{cubic}

-- the example meets what is asked of a net, and wrapping folds its mesh far away
pub record CubicLaws : Type 0 where
  -- its numbers are from -500 to 500
  pub small : SmallLabels 500 cubic
  -- a walk over the whole numbers joins two different junctions that wrap to one
  pub folds : (n : ℕ) × (a : Junction Whole) × (b : Junction Whole) × Walk (Link whole (whole_net cubic)) n a b × (a ≢ b) × (wrap_junction a ≡ wrap_junction b)
