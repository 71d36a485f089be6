-- The lists of the search are exactly the shells and the balls.
use Rattle.std.proofs.Common.{◌≡◌, ℕ, zero, suc, ◌+◌, ◌<◌, List, ◌++◌, length, get_or, refl, subst, inl, inr, arith}
use native.Mathlib.Decide.{dec_le}
use Rattle.label.specs.Group.{Group}
use Rattle.label.specs.Order.{Order}
use Rattle.mesh.specs.Exactly.{Exactly, Many}
use Rattle.mesh.specs.Distance.{Distance}
use Rattle.mesh.specs.Net.{Net}
use Rattle.mesh.specs.Junction.{Junction, home}
use Rattle.mesh.specs.Link.{Link}
use Rattle.mesh.specs.Shell.{Shell, Ball}
use Rattle.mesh.proofs.Walks.{shortest}
use Rattle.mesh.proofs.Lists.{in_left, in_right, in_either, distinct_join}
use Rattle.mesh.proofs.Targets.{leads, led}
use Rattle.mesh.proofs.Shells.{shell_laws}
use Rattle.reference_shells.specs.BreadthFirst.{Known, unseen, all_neighbours, begun, step, searched, counts, counted}
use Rattle.reference_shells.specs.BreadthFirstLaws.{BreadthFirstLaws}
use Rattle.reference_shells.specs.Sequence.{Sequence}
use Rattle.reference_shells.proofs.Beyond.{beyond}
use Rattle.reference_shells.proofs.Seen.{unseen_is, near_of, of_near}

module _ {M : Type 0} (G : Group M) (O : Order M) (net : Net M) (v : ℕ) where
  -- the lists are the ball k and the shell k
  pub record Right (k : ℕ) (w : Known M) : Type 0 where
    pub ball : Exactly (Ball G net v k) w.ball
    pub shell : Exactly (Shell G net v k) w.shell

  -- the next shell: the neighbours of the shell that are not in the ball
  next : (k : ℕ) (w : Known M) → Right k w → Exactly (Shell G net v (suc k)) (step G O net w).shell
  next k w r =
      let u = unseen_is O w.ball (all_neighbours G net w.shell) in
      record {
        distinct = u.distinct;
        only = λ b i.
            let n = near_of G net b w.shell (u.from b i) in
            ((shell_laws G net).grows v k b).1 ((n.0, r.shell.only n.0 n.1, leads G net n.0 b n.2), λ d. u.new b i (r.ball.all b d));
        all = λ b s.
            let g = ((shell_laws G net).grows v k b).0 s in
            u.kept b (of_near G net b g.0.0 w.shell (r.shell.all g.0.0 g.0.1) (led G net g.0.0 b g.0.2)) (λ i. g.1 (r.ball.only b i));
      }

  -- the ball and the next shell are the next ball
  wider : (k : ℕ) (xs ys : List (Junction M)) → Exactly (Ball G net v k) xs → Exactly (Shell G net v (suc k)) ys → Exactly (Ball G net v (suc k)) (xs ++ ys)
  wider k xs ys x y = record {
    distinct = distinct_join xs ys x.distinct y.distinct (λ b i j.
        let w = x.only b i in
        let h = w.near in
        let s = shortest (Link G net) (y.only b j) w.distance.walk in
        omega arith);
    only = λ b i. elim (in_either b xs ys i) [
      | inl j ↦ let w = x.only b j in record { far = w.far; near = let h = w.near in omega arith; distance = w.distance }
      | inr j ↦ record { far = suc k; near = omega arith; distance = y.only b j }
    ];
    all = λ b w. elim (dec_le w.far k) [
      | yes h ↦ in_left b xs ys (x.all b (record { far = w.far; near = h; distance = w.distance }))
      | no f ↦
          let e : w.far ≡ suc k = let h = w.near in omega arith in
          in_right b xs ys (y.all b (subst (λ (n : ℕ). Distance (Link G net) n (home G v) b) e w.distance))
    ];
  }

  right_begun : Right 0 (begun G v)
  right_begun = record { ball = (shell_laws G net).start v; shell = (shell_laws G net).first v }

  right_step : (k : ℕ) (w : Known M) → Right k w → Right (suc k) (step G O net w)
  right_step k w r =
      let s = next k w r in
      record { ball = wider k w.ball (unseen O w.ball (all_neighbours G net w.shell)) r.ball s; shell = s }

  pub right : (k : ℕ) → Right k (searched G O net v k)
  right zero = right_begun
  right (suc k) = right_step k (searched G O net v k) (right k)

  -- what is counted from the shell k on
  right_counts : (k : ℕ) (w : Known M) → Right k w → (n i : ℕ) → i < length (counts G O net w n) → Many (Shell G net v (k + i)) (get_or (counts G O net w n) i 0)
  right_counts k w r zero i h = absurd (omega arith)
  right_counts k w r (suc n) zero h =
      let e : k ≡ k + 0 = omega arith in
      subst (λ (j : ℕ). Many (Shell G net v j) (length w.shell)) e (record { which = w.shell; exactly = r.shell; count = refl })
  right_counts k w r (suc n) (suc i) h =
      let e : suc k + i ≡ k + suc i = omega arith in
      subst (λ (j : ℕ). Many (Shell G net v j) (get_or (counts G O net (step G O net w) n) i 0)) e
      (right_counts (suc k) (step G O net w) (right_step k w r) n i (omega arith))

  sequence : (n : ℕ) → Sequence G net v (counted G O net v n)
  sequence n i h =
      let e : 0 + i ≡ i = omega arith in
      subst (λ (j : ℕ). Many (Shell G net v j) (get_or (counted G O net v n) i 0)) e (right_counts 0 (begun G v) right_begun n i h)

  -- what the search counts is so
  pub told : (ns : List ℕ) → counted G O net v (length ns) ≡ ns → Sequence G net v ns
  told ns e = subst (λ (ms : List ℕ). Sequence G net v ms) e (sequence (length ns))

pub breadth_first_laws : {M : Type 0} (G : Group M) (O : Order M) (net : Net M) → BreadthFirstLaws G O net
breadth_first_laws G O net = record {
  shells = λ v k. (right G O net v k).shell;
  balls = λ v k. (right G O net v k).ball;
  shell_count = λ v k. record { which = (searched G O net v k).shell; exactly = (right G O net v k).shell; count = refl };
  ball_count = λ v k. record { which = (searched G O net v k).ball; exactly = (right G O net v k).ball; count = refl };
  sequence = sequence G O net;
  beyond = beyond G net;
}
