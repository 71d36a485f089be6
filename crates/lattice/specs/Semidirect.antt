-- The semidirect product of two groups, the second of which acts on the first. Assumes nothing.
use Rattle.std.specs.Prelude.{◌≡◌}
use Rattle.std.proofs.Common.{sym, ap, ◌∙◌}
use Rattle.label.specs.Group.{Group, both}

-- H acts on G: each of its elements moves G as a group, and products move it one after the other
pub record Acts {A B : Type 0} (G : Group A) (H : Group B) (act : B → A → A) : Type 0 where
  pub still : (a : A) → act H.one a ≡ a
  pub twice : (h k : B) (a : A) → act (H.mul h k) a ≡ act h (act k a)
  pub splits : (h : B) (a b : A) → act h (G.mul a b) ≡ G.mul (act h a) (act h b)
  pub fixed : (h : B) → act h G.one ≡ G.one

module _ {A B : Type 0} (G : Group A) (H : Group B) (act : B → A → A) (acts : Acts G H act) where
  -- pairs, whose second part moves the first part of what follows
  abbrev pub semidirect : Group (A × B)
  semidirect = record {
    one = (G.one, H.one);
    mul = λ x y. (G.mul x.0 (act x.1 y.0), H.mul x.1 y.1);
    inv = λ x. (act (H.inv x.1) (G.inv x.0), H.inv x.1);
    left = λ x. both (G.left (act H.one x.0) ∙ acts.still x.0) (H.left x.1);
    right = λ x. both (ap (G.mul x.0) (acts.fixed x.1) ∙ G.right x.0) (H.right x.1);
    assoc = λ x y z. both
        (ap (G.mul (G.mul x.0 (act x.1 y.0))) (acts.twice x.1 y.1 z.0)
        ∙ G.assoc x.0 (act x.1 y.0) (act x.1 (act y.1 z.0))
        ∙ ap (G.mul x.0) (sym (acts.splits x.1 y.0 (act y.1 z.0))))
        (H.assoc x.1 y.1 z.1);
    undo = λ x. both
        (sym (acts.splits (H.inv x.1) (G.inv x.0) x.0) ∙ ap (act (H.inv x.1)) (G.undo x.0) ∙ acts.fixed (H.inv x.1))
        (H.undo x.1);
    undone = λ x. both
        (ap (G.mul x.0) (sym (acts.twice x.1 (H.inv x.1) (G.inv x.0)) ∙ ap (λ h. act h (G.inv x.0)) (H.undone x.1) ∙ acts.still (G.inv x.0))
        ∙ G.undone x.0)
        (H.undone x.1);
  }
