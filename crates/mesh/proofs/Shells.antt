-- How the shells of a mesh follow one another.
use Rattle.std.proofs.Common.{◌≡◌, ℕ, suc, ◌+◌, [], ◌∷◌, sym, refl, subst, inl, inr, arith}
use native.Mathlib.Decide.{dec_le}
use Rattle.label.specs.Group.{Group}
use Rattle.mesh.specs.Distance.{Distance, Within}
use Rattle.mesh.specs.Exactly.{Exactly, Many}
use Rattle.mesh.specs.Net.{Net}
use Rattle.mesh.specs.Junction.{home}
use Rattle.mesh.specs.Link.{Link}
use Rattle.mesh.specs.ShellLaws.{ShellLaws}
use Rattle.mesh.proofs.Walks.{ended, nowhere, shortest, step_laws}
use Rattle.mesh.proofs.Counts.{added}
use Rattle.mesh.proofs.Carries.{link_back}

module _ {J : Type 0} (Link : J → J → Type 0) where
  pub at_zero : (a : J) → Exactly (Distance Link 0 a) (a ∷ [])
  at_zero a = record {
    distinct = (λ i. i, tt);
    only = λ b i. elim i [ inl e ↦ subst (λ (x : J). Distance Link 0 a x) (sym e) (nowhere Link a) | inr f ↦ absurd f ];
    all = λ b d. inl (sym (ended Link d.walk refl));
  }

  pub within_zero : (a : J) → Exactly (Within Link 0 a) (a ∷ [])
  within_zero a = record {
    distinct = (λ i. i, tt);
    only = λ b i. elim i [ inl e ↦ subst (λ (x : J). Within Link 0 a x) (sym e) (record { far = 0; near = omega arith; distance = nowhere Link a }) | inr f ↦ absurd f ];
    all = λ b w. inl (sym (ended Link w.distance.walk (let h = w.near in omega arith)));
  }

  ball_sum : (k : ℕ) (a : J) (m n : ℕ) → Many (Within Link k a) m → Many (Distance Link (suc k) a) n → Many (Within Link (suc k) a) (m + n)
  ball_sum k a =
      added (Within Link k a) (Distance Link (suc k) a) (Within Link (suc k) a)
      (λ b w d. let h = w.near in let s = shortest Link d w.distance.walk in omega arith)
      (λ b s. elim s [
        | inl w ↦ record { far = w.far; near = let h = w.near in omega arith; distance = w.distance }
        | inr d ↦ record { far = suc k; near = omega arith; distance = d }
      ])
      (λ b w. elim (dec_le w.far k) [
        | yes h ↦ inl (record { far = w.far; near = h; distance = w.distance })
        | no f ↦
            let e : w.far ≡ suc k = let h = w.near in omega arith in
            inr (subst (λ (n : ℕ). Distance Link n a b) e w.distance)
      ])

pub shell_laws : {M : Type 0} (G : Group M) (net : Net M) → ShellLaws G net
shell_laws G net =
    let s = step_laws (Link G net) (link_back G net) in
    record {
      first = λ v. at_zero (Link G net) (home G v);
      start = λ v. within_zero (Link G net) (home G v);
      grows = λ v k. s.grows k (home G v);
      beside = λ v j k. s.beside j k (home G v);
      sums = λ v k. ball_sum (Link G net) k (home G v);
    }
