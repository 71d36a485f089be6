-- The ports that lines give a node.
use Rattle.std.proofs.Common.{◌≡◌, ℕ, ◌+◌, Bool, true, false, cond, eqb, ◌⊎◌, List, [], ◌∷◌, ◌++◌, length, sym, refl, ap, ◌∙◌, subst, inl, inr, append_assoc, append-nil, length-append, eq-eqb, eqb-true}
use Rattle.label.specs.Group.{Group}
use Rattle.mesh.specs.Listed.{In}
use Rattle.mesh.specs.Exactly.{Distinct}
use Rattle.mesh.specs.Net.{Line}
use Rattle.mesh.specs.Ports.{Port, ahead, behind, line_ports, ports_of}
use Rattle.mesh.specs.Target.{port_back}
use Rattle.label.specs.Groups.{inv_inv}
use Rattle.mesh.proofs.Lists.{in_left, in_right, in_either, in_none, distinct_join}

if_in : {X : Type 0} (b : Bool) (x y : X) → In y (cond b (x ∷ []) []) → (b ≡ true) × (y ≡ x)
if_in true x y (inl e) = (refl, e)
if_in true x y (inr i) = absurd i
if_in false x y i = absurd i

in_if : {X : Type 0} (b : Bool) (x y : X) → b ≡ true → y ≡ x → In y (cond b (x ∷ []) [])
in_if {X} b x y e f = subst (λ (c : Bool). In y (cond c (x ∷ []) [])) (sym e) (inl f)

if_distinct : {X : Type 0} (b : Bool) (x : X) → Distinct (cond b (x ∷ []) [])
if_distinct true x = (λ i. i, tt)
if_distinct false x = tt

module _ {M : Type 0} (G : Group M) where
  -- the line gives the node u the port p
  abbrev pub Gives : ℕ → Line M → Port M → Type 0
  Gives u l p = ((l.tail ≡ u) × (p ≡ ahead l)) ⊎ ((l.head ≡ u) × (p ≡ behind G l))

  pub in_given : (u : ℕ) (l : Line M) (p : Port M) → In p (line_ports G u l) → Gives u l p
  in_given u l p i =
      elim (in_either p (cond (eqb l.tail u) (ahead l ∷ []) []) (cond (eqb l.head u) (behind G l ∷ []) []) i) [
        | inl j ↦ let r = if_in (eqb l.tail u) (ahead l) p j in inl (eqb-true l.tail u r.0, r.1)
        | inr j ↦ let r = if_in (eqb l.head u) (behind G l) p j in inr (eqb-true l.head u r.0, r.1)
      ]

  pub given_in : (u : ℕ) (l : Line M) (p : Port M) → Gives u l p → In p (line_ports G u l)
  given_in u l p (inl r) =
      in_left p (cond (eqb l.tail u) (ahead l ∷ []) []) (cond (eqb l.head u) (behind G l ∷ []) [])
      (in_if (eqb l.tail u) (ahead l) p (eq-eqb l.tail u r.0) r.1)
  given_in u l p (inr r) =
      in_right p (cond (eqb l.tail u) (ahead l ∷ []) []) (cond (eqb l.head u) (behind G l ∷ []) [])
      (in_if (eqb l.head u) (behind G l) p (eq-eqb l.head u r.0) r.1)

  -- further lines give further ports
  pub ports_append : (u : ℕ) (ls ks : List (Line M)) → ports_of G u (ls ++ ks) ≡ ports_of G u ls ++ ports_of G u ks
  ports_append u [] ks = refl
  ports_append u (l ∷ ls) ks = ap (λ q. line_ports G u l ++ q) (ports_append u ls ks) ∙ sym (append_assoc (line_ports G u l) (ports_of G u ls) (ports_of G u ks))

  -- a last line gives the last ports
  pub ports_push : (u : ℕ) (ls : List (Line M)) (l : Line M) → ports_of G u (ls ++ (l ∷ [])) ≡ ports_of G u ls ++ line_ports G u l
  ports_push u ls l = ports_append u ls (l ∷ []) ∙ ap (λ q. ports_of G u ls ++ q) (append-nil (line_ports G u l))

  pub ports_count_push : (u : ℕ) (ls : List (Line M)) (l : Line M) → length (ports_of G u (ls ++ (l ∷ []))) ≡ length (ports_of G u ls) + length (line_ports G u l)
  ports_count_push u ls l = ap length (ports_push u ls l) ∙ length-append (ports_of G u ls) (line_ports G u l)

  -- a line gives no port to a node that is neither its tail nor its head
  pub gives_none : (u : ℕ) (l : Line M) → (l.tail ≡ u → ⊥) → (l.head ≡ u → ⊥) → line_ports G u l ≡ []
  gives_none u l t h = in_none (line_ports G u l) (λ p i. elim (in_given u l p i) [ inl g ↦ t g.0 | inr g ↦ h g.0 ])

  -- the two ports that a loop gives differ unless its label is its own inverse
  pub given_distinct : (u : ℕ) (l : Line M) → (l.tail ≡ l.head → l.label ≡ G.inv l.label → ⊥) → Distinct (line_ports G u l)
  given_distinct u l turns =
      distinct_join (cond (eqb l.tail u) (ahead l ∷ []) []) (cond (eqb l.head u) (behind G l ∷ []) []) (if_distinct (eqb l.tail u) (ahead l)) (if_distinct (eqb l.head u) (behind G l))
      (λ p i j.
      let r = if_in (eqb l.tail u) (ahead l) p i in
      let s = if_in (eqb l.head u) (behind G l) p j in
      turns (eqb-true l.tail u r.0 ∙ sym (eqb-true l.head u s.0)) (ap (λ (q : Port M). q.label) (sym r.1 ∙ s.1)))

  -- a port is given by a line, and what a line gives is a port
  pub port_line : (u : ℕ) (ls : List (Line M)) (p : Port M) → In p (ports_of G u ls) → (l : Line M) × In l ls × Gives u l p
  port_line u [] p i = absurd i
  port_line u (l ∷ ls) p i =
      elim (in_either p (line_ports G u l) (ports_of G u ls) i) [
        | inl j ↦ (l, inl refl, in_given u l p j)
        | inr j ↦ let r = port_line u ls p j in (r.0, inr r.1, r.2)
      ]

  pub line_port : (u : ℕ) (ls : List (Line M)) (p : Port M) (l : Line M) → In l ls → Gives u l p → In p (ports_of G u ls)
  line_port u [] p l i g = absurd i
  line_port u (k ∷ ls) p l (inl e) g = in_left p (line_ports G u k) (ports_of G u ls) (given_in u k p (subst (λ (x : Line M). Gives u x p) e g))
  line_port u (k ∷ ls) p l (inr i) g = in_right p (line_ports G u k) (ports_of G u ls) (line_port u ls p l i g)

  -- the line that gives a port gives the port back
  gives_back : (u : ℕ) (l : Line M) (p : Port M) → Gives u l p → Gives p.to l (port_back G u p)
  gives_back u l p (inl g) =
      inr (sym (ap (λ (q : Port M). q.to) g.1), λ i. record { to = sym g.0 i; label = G.inv (g.1 i).label })
  gives_back u l p (inr g) =
      inl (sym (ap (λ (q : Port M). q.to) g.1), λ i. record { to = sym g.0 i; label = (ap (λ (q : Port M). G.inv q.label) g.1 ∙ inv_inv G l.label) i })

  pub has_back : (u : ℕ) (ls : List (Line M)) (p : Port M) → In p (ports_of G u ls) → In (port_back G u p) (ports_of G p.to ls)
  has_back u ls p i =
      let r = port_line u ls p i in
      line_port p.to ls (port_back G u p) r.0 r.1 (gives_back u r.0 p r.2)
