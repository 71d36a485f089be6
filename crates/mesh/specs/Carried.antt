-- What the deck transformations keep: each is an automorphism of the mesh. Assumes nothing.
use Rattle.std.specs.Prelude.{ℕ, ◌↔◌}
use Rattle.label.specs.Group.{Group}
use Rattle.mesh.specs.Distance.{Distance}
use Rattle.mesh.specs.Exactly.{Many}
use Rattle.mesh.specs.Net.{Net}
use Rattle.mesh.specs.Junction.{Junction, spot, home, carry}
use Rattle.mesh.specs.Link.{Link}
use Rattle.mesh.specs.Shell.{Shell}

-- what is the same of junctions and of the junctions to which h carries them
pub record Carried {M : Type 0} (G : Group M) (net : Net M) : Type 0 where
  -- linked junctions are carried to linked ones, and no others are
  pub links : (h : M) (a b : Junction M) → Link G net a b ↔ Link G net (carry G h a) (carry G h b)
  -- each distance is carried to the same distance, and back
  pub distances : (h : M) (n : ℕ) (a b : Junction M) → Distance (Link G net) n a b ↔ Distance (Link G net) n (carry G h a) (carry G h b)
  -- so the distance of (u, h) and (w, g) is that of the home of u and (w, h⁻¹·g)
  pub from_home : (n u w : ℕ) (h g : M) → Distance (Link G net) n (spot u h) (spot w g) ↔ Distance (Link G net) n (home G u) (spot w (G.mul (G.inv h) g))
  -- as many junctions are k from a as from where h carries a
  pub counts : (h : M) (k n : ℕ) (a : Junction M) → Many (Distance (Link G net) k a) n ↔ Many (Distance (Link G net) k (carry G h a)) n
  -- so as many junctions are k from (u, h) as are in the shell k of u
  pub shell_counts : (u k n : ℕ) (h : M) → Many (Distance (Link G net) k (spot u h)) n ↔ Many (Shell G net u k) n
