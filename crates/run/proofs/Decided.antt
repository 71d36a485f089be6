-- Which rule a line breaks is decided, as the order of the labels decides which are equal.
use Rattle.std.proofs.Common.{◌≡◌, ℕ, ◌⊎◌, List, [], ◌∷◌, ◌++◌, length, refl, ap, inl, inr}
use mathlib.Core.Logic.Dec
use native.Mathlib.Decide.{ℕ_discrete, dec_le, dec_lt}
use Rattle.label.specs.Group.{Group}
use Rattle.label.specs.Order.{Order}
use Rattle.mesh.specs.Drawn.{Crowded}
use Rattle.mesh.specs.Net.{Line, Net}
use Rattle.mesh.specs.Ports.{Port, ahead, ports_of}
use Rattle.mesh.proofs.Balls.{dec_label}
use Rattle.mesh.proofs.Finite.{dec_in}
use Rattle.net.specs.Rules.{LineBreaks}
use Rattle.net.specs.Verdict.{NoneOf, First, here, later}
use Rattle.net.specs.declared.refusals.NetRefusal.{NetRefusal}
use Rattle.net.specs.declared.refusals.NetRefusal.TheVariants as refusal

dec_or : {A B : Type 0} → Dec A → Dec B → Dec (A ⊎ B)
dec_or (yes a) q = yes (inl a)
dec_or (no f) (yes b) = yes (inr b)
dec_or (no f) (no g) = no (λ s. elim s [ inl a ↦ f a | inr b ↦ g b ])

-- rules that are decided are not broken, or one is the first that is
pub verdict : {E : Type 0} (Broken : E → Type 0) → ((e : E) → Dec (Broken e)) → (es : List E) → NoneOf Broken es ⊎ ((e : E) × First Broken e es)
verdict Broken dec [] = inl tt
verdict Broken dec (e ∷ es) =
    elim (dec e) [
      | yes b ↦ inr (e, here b)
      | no f ↦ elim (verdict Broken dec es) [ inl n ↦ inl (f, n) | inr x ↦ inr (x.0, later f x.1) ]
    ]

module _ {M : Type 0} (G : Group M) (O : Order M) (net : Net M) (room : ℕ) (l : Line M) where
  dec_port : (p q : Port M) → Dec (p ≡ q)
  dec_port p q =
      elim (ℕ_discrete p.to q.to) [
        | yes e ↦ elim (dec_label O p.label q.label) [
          | yes f ↦ yes (λ i. record { to = e i; label = f i })
          | no f ↦ no (λ r. f (ap (λ (x : Port M). x.label) r))
        ]
        | no f ↦ no (λ r. f (ap (λ (x : Port M). x.to) r))
      ]

  dec_crowded : (u : ℕ) → Dec (Crowded G net.lines l u)
  dec_crowded u = dec_lt 12 (length (ports_of G u (net.lines ++ (l ∷ []))))

  pub dec_breaks : (e : NetRefusal) → Dec (LineBreaks G net room room l e)
  dec_breaks refusal.OtherLength = no (λ f. f refl)
  dec_breaks refusal.NoSuchNode = dec_or (dec_le net.nodes l.tail) (dec_le net.nodes l.head)
  dec_breaks refusal.ListFull = dec_or (dec_le room (length net.lines)) (dec_le 96 (length net.lines))
  dec_breaks refusal.IdentityLoop = Dec.and (ℕ_discrete l.tail l.head) (dec_label O l.label G.one)
  dec_breaks refusal.InvolutionLoop = Dec.and (ℕ_discrete l.tail l.head) (dec_label O l.label (G.inv l.label))
  dec_breaks refusal.PortTaken = dec_in dec_port (ahead l) (ports_of G l.tail net.lines)
  dec_breaks refusal.PortsFull = dec_or (dec_crowded l.tail) (dec_crowded l.head)
  dec_breaks refusal.NodesOutOfRange = no (λ f. f)
  dec_breaks refusal.NoLine = no (λ f. f)
