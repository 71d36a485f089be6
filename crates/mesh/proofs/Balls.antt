-- The balls of a mesh are finite: equality of labels is decided by their order.
use Rattle.std.proofs.Common.{◌≡◌, ℕ, length, Ordering, Less, Equal, Greater, sym, refl, ap, ◌∙◌, arith}
use native.Mathlib.Decide.{ℕ_discrete}
use Rattle.label.specs.Group.{Group}
use Rattle.label.specs.Order.{Order}
use Rattle.mesh.specs.Net.{Net}
use Rattle.mesh.specs.Junction.{Junction, home}
use Rattle.mesh.specs.Link.{Link}
use Rattle.mesh.specs.Target.{neighbours}
use Rattle.mesh.specs.ShellLaws.{FiniteLaws}
use Rattle.mesh.proofs.Targets.{leads, led}
use Rattle.mesh.proofs.Carries.{link_back}
use Rattle.mesh.proofs.Finite.{ball_list, shell_list, dec_within, dec_distance, walked, leads_beside}

pub dec_label : {M : Type 0} → Order M → (x y : M) → Dec (x ≡ y)
dec_label {M} O x y = go (O.cmp x y) refl
  where
    other : (o : Ordering) → O.cmp x y ≡ o → (o ≡ Equal → ⊥) → x ≡ y → ⊥
    other o e f p = f (sym e ∙ ap (λ (z : M). O.cmp z y) p ∙ O.itself y)

    go : (o : Ordering) → O.cmp x y ≡ o → Dec (x ≡ y)
    go Less e = no (other Less e (λ q. let z : ◌≡◌ {A = ℕ} 0 1 = cc in omega arith))
    go Equal e = yes (O.same x y e)
    go Greater e = no (other Greater e (λ q. let z : ◌≡◌ {A = ℕ} 0 1 = cc in omega arith))

pub dec_junction : {M : Type 0} → Order M → (a b : Junction M) → Dec (a ≡ b)
dec_junction {M} O a b =
    elim (ℕ_discrete a.node b.node) [
      | yes e ↦ elim (dec_label O a.label b.label) [
        | yes f ↦ yes (λ i. record { node = e i; label = f i })
        | no f ↦ no (λ p. f (ap (λ (c : Junction M). c.label) p))
      ]
      | no f ↦ no (λ p. f (ap (λ (c : Junction M). c.node) p))
    ]

module _ {M : Type 0} (G : Group M) (O : Order M) (net : Net M) where
  pub finite_laws : FiniteLaws G net
  finite_laws = record {
    balls = λ v k. ball_list (Link G net) (dec_junction O) (neighbours G net) (leads G net) (led G net) k (home G v);
    shells = λ v k. shell_list (Link G net) (dec_junction O) (neighbours G net) (leads G net) (led G net) k (home G v);
    coordination = λ v k.
        let r = shell_list (Link G net) (dec_junction O) (neighbours G net) (leads G net) (led G net) k (home G v) in
        (length r.0, record { which = r.0; exactly = r.1; count = refl });
    in_ball = λ v k b. dec_within (Link G net) (dec_junction O) (neighbours G net) (leads G net) (led G net) k (home G v) b;
    in_shell = λ v k b. dec_distance (Link G net) (dec_junction O) (neighbours G net) (leads G net) (led G net) k (home G v) b;
    walked = λ v k n b. walked (Link G net) (dec_junction O) (neighbours G net) (leads G net) (led G net) k n (home G v) b;
    linked = λ v k a b. leads_beside (Link G net) (dec_junction O) (neighbours G net) (leads G net) (led G net) (link_back G net) k (home G v) a b;
  }
