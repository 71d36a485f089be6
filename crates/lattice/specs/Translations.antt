-- The shifts of space as labels: three wrapping coordinates. Assumes nothing.
use Rattle.label.specs.Group.{Group, pair_group}
use Rattle.label.specs.Order.{Order, pair_order}
use Rattle.lattice.specs.Coord.{coords, coord_order}
use Rattle.lattice.specs.Triples.{Triple}

-- the group of the shifts of space
abbrev pub translations : Group Triple
translations = pair_group coords (pair_group coords coords)

-- by the first coordinate, then by the second, then by the third
abbrev pub translation_order : Order Triple
translation_order = pair_order coord_order (pair_order coord_order coord_order)
