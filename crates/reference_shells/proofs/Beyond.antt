-- Beyond an empty shell every shell is empty.
use Rattle.std.proofs.Common.{◌≡◌, ℕ, zero, suc, ◌+◌, ◌-◌, ◌≤◌, List, [], ◌∷◌, length, refl, subst, arith}
use Rattle.label.specs.Group.{Group}
use Rattle.mesh.specs.Listed.{In}
use Rattle.mesh.specs.Exactly.{Many}
use Rattle.mesh.specs.Net.{Net}
use Rattle.mesh.specs.Junction.{Junction}
use Rattle.mesh.specs.Shell.{Shell}
use Rattle.mesh.proofs.Shells.{shell_laws}

-- nothing stands in a list of no places
not_in : {J : Type 0} (b : J) (xs : List J) → length xs ≡ 0 → In b xs → ⊥
not_in b [] e i = i
not_in b (x ∷ xs) e i = omega arith

pub nothing : {J : Type 0} (P : J → Type 0) → Many P 0 → (b : J) → P b → ⊥
nothing P m b p = not_in b m.which m.count (m.exactly.all b p)

pub no_more : {J : Type 0} (P : J → Type 0) → ((b : J) → P b → ⊥) → Many P 0
no_more P f = record {
  which = [];
  exactly = record { distinct = tt; only = λ b i. absurd i; all = λ b p. absurd (f b p) };
  count = refl;
}

module _ {M : Type 0} (G : Group M) (net : Net M) (v : ℕ) where
  empty_on : (k m : ℕ) → ((b : Junction M) → Shell G net v k b → ⊥) → (b : Junction M) → Shell G net v (m + k) b → ⊥
  empty_on k zero f b s = let e : 0 + k ≡ k = omega arith in f b (subst (λ (j : ℕ). Shell G net v j b) e s)
  empty_on k (suc m) f b s =
      let e : suc m + k ≡ suc (m + k) = omega arith in
      let g = ((shell_laws G net).grows v (m + k) b).0 (subst (λ (j : ℕ). Shell G net v j b) e s) in
      empty_on k m f g.0.0 g.0.1

  pub beyond : (k n : ℕ) → Many (Shell G net v k) 0 → k ≤ n → Many (Shell G net v n) 0
  beyond k n z h =
      let e : (n - k) + k ≡ n = omega arith in
      subst (λ (j : ℕ). Many (Shell G net v j) 0) e (no_more (Shell G net v ((n - k) + k)) (empty_on k (n - k) (nothing (Shell G net v k) z)))
