-- The links of the mesh go both ways, and the deck transformations keep them.
use Rattle.std.proofs.Common.{◌≡◌, ℕ, sym, ap, ◌∙◌, subst}
use Rattle.label.specs.Group.{Group}
use Rattle.mesh.specs.Walk.{Walk, stay, step}
use Rattle.mesh.specs.Distance.{Distance}
use Rattle.mesh.specs.Exactly.{Many}
use Rattle.mesh.specs.Net.{Line, Net}
use Rattle.mesh.specs.Junction.{Junction, spot, home, carry}
use Rattle.mesh.specs.Carried.{Carried}
use Rattle.mesh.specs.WalkLaws.{Symmetric}
use Rattle.mesh.specs.Link.{Along, Link, forward, backward}
use Rattle.mesh.proofs.Counts.{moved_count}

module _ {M : Type 0} (G : Group M) where
  pub link_back : (net : Net M) → Symmetric (Link G net)
  link_back net a b (forward l i w) = backward l i w
  link_back net a b (backward l i w) = forward l i w

  carry_along : (h : M) (l : Line M) (a b : Junction M) → Along G l a b → Along G l (carry G h a) (carry G h b)
  carry_along h l a b w = record {
    by = G.mul h w.by;
    starts = ap (carry G h) w.starts;
    ends = ap (carry G h) w.ends ∙ ap (spot l.head) (sym (G.assoc h w.by l.label));
  }

  pub carry_link : (net : Net M) (h : M) (a b : Junction M) → Link G net a b → Link G net (carry G h a) (carry G h b)
  carry_link net h a b (forward l i w) = forward l i (carry_along h l a b w)
  carry_link net h a b (backward l i w) = backward l i (carry_along h l b a w)

  pub carry_walk : (net : Net M) (h : M) {n : ℕ} {a b : Junction M} → Walk (Link G net) n a b → Walk (Link G net) n (carry G h a) (carry G h b)
  carry_walk net h stay = stay
  carry_walk net h (step {a = a} {b = b} l w) = step (carry_link net h a b l) (carry_walk net h w)

  pub carried_back : (h : M) (a : Junction M) → carry G (G.inv h) (carry G h a) ≡ a
  carried_back h a = ap (spot a.node) (sym (G.assoc (G.inv h) h a.label) ∙ ap (λ x. G.mul x a.label) (G.undo h) ∙ G.left a.label)

  pub carried_on : (h : M) (a : Junction M) → carry G h (carry G (G.inv h) a) ≡ a
  carried_on h a = ap (spot a.node) (sym (G.assoc h (G.inv h) a.label) ∙ ap (λ x. G.mul x a.label) (G.undone h) ∙ G.left a.label)

  uncarry_walk : (net : Net M) (h : M) {n : ℕ} {a b : Junction M} → Walk (Link G net) n (carry G h a) (carry G h b) → Walk (Link G net) n a b
  uncarry_walk net h {n} {a} {b} w =
      subst (λ x. Walk (Link G net) n x b) (carried_back h a)
      (subst (λ x. Walk (Link G net) n (carry G (G.inv h) (carry G h a)) x) (carried_back h b) (carry_walk net (G.inv h) w))

  pub carry_distance : (net : Net M) (h : M) (n : ℕ) (a b : Junction M) → Distance (Link G net) n a b → Distance (Link G net) n (carry G h a) (carry G h b)
  carry_distance net h n a b d = record {
    walk = carry_walk net h d.walk;
    fewest = λ m l w. d.fewest m l (uncarry_walk net h w);
  }

  pub uncarry_distance : (net : Net M) (h : M) (n : ℕ) (a b : Junction M) → Distance (Link G net) n (carry G h a) (carry G h b) → Distance (Link G net) n a b
  uncarry_distance net h n a b d = record {
    walk = uncarry_walk net h d.walk;
    fewest = λ m l w. d.fewest m l (carry_walk net h w);
  }

  pub carry_count : (net : Net M) (h : M) (k n : ℕ) (a : Junction M) → Many (Distance (Link G net) k a) n → Many (Distance (Link G net) k (carry G h a)) n
  carry_count net h k n a =
      moved_count (Distance (Link G net) k a) (Distance (Link G net) k (carry G h a)) (carry G h) (carry G (G.inv h)) (carried_back h) (carried_on h)
      (carry_distance net h k a)
      (λ b d. uncarry_distance net h k a (carry G (G.inv h) b) (subst (λ x. Distance (Link G net) k (carry G h a) x) (sym (carried_on h b)) d))
      n

  pub uncarry_count : (net : Net M) (h : M) (k n : ℕ) (a : Junction M) → Many (Distance (Link G net) k (carry G h a)) n → Many (Distance (Link G net) k a) n
  uncarry_count net h k n a m =
      subst (λ x. Many (Distance (Link G net) k x) n) (carried_back h a) (carry_count net (G.inv h) k n (carry G h a) m)

  pub uncarry_link : (net : Net M) (h : M) (a b : Junction M) → Link G net (carry G h a) (carry G h b) → Link G net a b
  uncarry_link net h a b k =
      subst (λ x. Link G net x b) (carried_back h a)
      (subst (λ x. Link G net (carry G (G.inv h) (carry G h a)) x) (carried_back h b) (carry_link net (G.inv h) (carry G h a) (carry G h b) k))

  -- the inverse of h carries (u, h) home
  comes_home : (u : ℕ) (h : M) → carry G (G.inv h) (spot u h) ≡ home G u
  comes_home u h = ap (spot u) (G.undo h)

  pub distance_home : (net : Net M) (n u w : ℕ) (h g : M) → Distance (Link G net) n (spot u h) (spot w g) → Distance (Link G net) n (home G u) (spot w (G.mul (G.inv h) g))
  distance_home net n u w h g d =
      subst (λ x. Distance (Link G net) n x (spot w (G.mul (G.inv h) g))) (comes_home u h)
      (carry_distance net (G.inv h) n (spot u h) (spot w g) d)

  pub distance_from_home : (net : Net M) (n u w : ℕ) (h g : M) → Distance (Link G net) n (home G u) (spot w (G.mul (G.inv h) g)) → Distance (Link G net) n (spot u h) (spot w g)
  distance_from_home net n u w h g d =
      uncarry_distance net (G.inv h) n (spot u h) (spot w g)
      (subst (λ x. Distance (Link G net) n x (spot w (G.mul (G.inv h) g))) (sym (comes_home u h)) d)

  pub carried : (net : Net M) → Carried G net
  carried net = record {
    links = λ h a b. (carry_link net h a b, uncarry_link net h a b);
    distances = λ h n a b. (carry_distance net h n a b, uncarry_distance net h n a b);
    from_home = λ n u w h g. (distance_home net n u w h g, distance_from_home net n u w h g);
    counts = λ h k n a. (carry_count net h k n a, uncarry_count net h k n a);
    shell_counts = λ u k n h. (
      λ m. subst (λ x. Many (Distance (Link G net) k x) n) (comes_home u h) (carry_count net (G.inv h) k n (spot u h) m),
      λ m. uncarry_count net (G.inv h) k n (spot u h) (subst (λ x. Many (Distance (Link G net) k x) n) (sym (comes_home u h)) m),
    );
  }
