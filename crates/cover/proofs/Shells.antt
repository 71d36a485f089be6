-- The shells of a cover correspond. Assumes nothing.
use Rattle.std.proofs.Common.{◌≡◌, ℕ, ◌*◌, ◌≤◌, refl, arith}
use Rattle.mesh.specs.Distance.{Distance}
use Rattle.mesh.specs.WalkLaws.{Symmetric}
use Rattle.cover.specs.Covers.{Covers}
use Rattle.cover.specs.CoverLaws.{CoverLaws}
use Rattle.cover.proofs.Matched.{exactly_kept, exactly_lifts, matched_numbers}
use Rattle.cover.proofs.Distances.{walk_kept, lifted, near_by, distances_kept, distances_lift, distances_back}

module _ {J J' : Type 0} {Link : J → J → Type 0} {Link' : J' → J' → Type 0} {f : J → J'} {R : ℕ} (back : Symmetric Link) (cv : Covers Link Link' f R) where
  shell_apart : (n : ℕ) (a b c : J) → 2 * n ≤ R → Distance Link n a b → Distance Link n a c → f b ≡ f c → b ≡ c
  shell_apart n a b c h p q e = near_by back cv n n a b c (omega arith) p.walk q.walk e

  pub cover_laws : CoverLaws Link Link' f R
  cover_laws = record {
    walks = λ n a b w. walk_kept back cv w;
    walks_lift = λ n a b' w. lifted back cv a refl w;
    distances = distances_kept back cv;
    distances_lift = distances_lift back cv;
    distances_back = distances_back back cv;
    shell_apart = shell_apart;
    shells = λ n a xs h. exactly_kept (Distance Link n a) (Distance Link' n (f a)) f (λ b. distances_kept back cv n a b h) (distances_lift back cv n a) (λ b c. shell_apart n a b c h) xs;
    shells_lift = λ n a ys h. exactly_lifts (Distance Link n a) (Distance Link' n (f a)) f (λ b. distances_kept back cv n a b h) (distances_lift back cv n a) (λ b c. shell_apart n a b c h) ys;
    shell_numbers = λ n a k h. matched_numbers (Distance Link n a) (Distance Link' n (f a)) f (λ b. distances_kept back cv n a b h) (distances_lift back cv n a) (λ b c. shell_apart n a b c h) k;
  }
