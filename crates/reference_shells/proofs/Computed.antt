-- The shells of the reference meshes: each search is computed, and its counts are the sequence.
use Rattle.std.proofs.Common.{[], ◌∷◌, refl, lit<}
use Rattle.std.specs.Int.{int_wrap}
use Rattle.lattice.specs.Screws.{screws, screw_order, turned}
use Rattle.permutation.specs.Permutations.{perm_group, perm_order}
use Rattle.reference_shells.specs.Sequence.{Sequence}
use Rattle.lattice.specs.Translations.{translations, translation_order}
use Rattle.reference_shells.specs.Square.{square}
use Rattle.reference_shells.specs.Diamond.{diamond}
use Rattle.reference_shells.specs.FourfoldScrew.{fourfold_screw}
use Rattle.reference_shells.specs.Closed.{closed}
use Rattle.reference_shells.specs.ReferenceLaws.{ReferenceLaws}
use Rattle.reference_shells.proofs.Beyond.{beyond}
use Rattle.reference_shells.proofs.Search.{told}

closed_counted : Sequence perm_group closed 0 (1 ∷ 2 ∷ 2 ∷ 2 ∷ 1 ∷ 0 ∷ [])
closed_counted = told perm_group perm_order closed 0 (1 ∷ 2 ∷ 2 ∷ 2 ∷ 1 ∷ 0 ∷ []) refl

pub reference_laws : ReferenceLaws
unfolding int_wrap turned
reference_laws = record {
  square_shells = told translations translation_order square 0 (1 ∷ 4 ∷ 8 ∷ []) refl;
  diamond_shells = told translations translation_order diamond 0 (1 ∷ 4 ∷ 12 ∷ []) refl;
  diamond_shells_other = told translations translation_order diamond 1 (1 ∷ 4 ∷ 12 ∷ []) refl;
  screw_shells = told screws screw_order fourfold_screw 0 (1 ∷ 4 ∷ 12 ∷ []) refl;
  closed_shells = closed_counted;
  closed_beyond = λ k h. beyond perm_group closed 0 5 k (closed_counted 5 (lit< tt)) h;
}
