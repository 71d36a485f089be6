-- Sights that are noted one after another in a found list.
use Rattle.std.proofs.Common.{◌≡◌, ℕ, ◌≤◌, List, [], ◌∷◌, ◌++◌, length, take, sym, refl, ap, ◌∙◌, subst, inl, inr, append_assoc, append-nil, arith, length-append}
use Rattle.std.proofs.lemmas.List.{map-append, take_at}
use Rattle.mesh.specs.Listed.{In}
use Rattle.mesh.specs.Exactly.{Distinct}
use Rattle.mesh.proofs.Lists.{in_left, in_right, in_either, distinct_join}
use Rattle.growth.specs.Entry.{Sight, Entry, at_distance, sights}
use Rattle.growth.specs.Noted.{Noted, Overfull}

module _ {M : Type 0} where
  pub sights_append : (E F : List (Entry M)) → sights (E ++ F) ≡ sights E ++ sights F
  sights_append E F = map-append (λ e. e.sight) E F

  -- what was found stays found
  pub sight_before : {d : ℕ} {E F : List (Entry M)} {T : List (Sight M)} → Noted d E T F → (t : Sight M) → In t (sights E) → In t (sights F)
  sight_before {E = E} n t i =
      subst (λ (l : List (Sight M)). In t l) (sym (ap sights n.longer ∙ sights_append E n.new)) (in_left t (sights E) (sights n.new) i)

  pub noted_kept : {d : ℕ} {E F : List (Entry M)} {T : List (Sight M)} → Noted d E T F → take (length E) F ≡ E
  noted_kept {E = E} n = ap (take (length E)) n.longer ∙ take_at E n.new (length E) refl

  pub noted_longer : {d : ℕ} {E F : List (Entry M)} {T : List (Sight M)} → Noted d E T F → length E ≤ length F
  noted_longer {E = E} n = let a = ap length n.longer in let b = length-append E n.new in omega arith

module _ {M : Type 0} (d : ℕ) (E : List (Entry M)) where
  pub noted_none : Noted d E [] E
  noted_none = record {
    new = [];
    longer = sym (append-nil E);
    distances = λ e i. absurd i;
    from_asked = λ e i. i;
    distinct = λ s. s;
    all = λ t i. absurd i;
  }

  pub noted_there : (t : Sight M) → In t (sights E) → Noted d E (t ∷ []) E
  noted_there t here = record {
    new = [];
    longer = sym (append-nil E);
    distances = λ e i. absurd i;
    from_asked = λ e i. absurd i;
    distinct = λ s. s;
    all = λ u i. elim i [ inl e ↦ subst (λ (w : Sight M). In w (sights E)) (sym e) here | inr f ↦ absurd f ];
  }

  pub noted_new : (t : Sight M) → (In t (sights E) → ⊥) → Noted d E (t ∷ []) (E ++ (at_distance d t ∷ []))
  noted_new t away =
      let same = sights_append E (at_distance d t ∷ []) in
      record {
        new = at_distance d t ∷ [];
        longer = refl;
        distances = λ e i. elim i [ inl p ↦ ap (λ (x : Entry M). x.distance) p | inr f ↦ absurd f ];
        from_asked = λ e i. elim i [ inl p ↦ inl (ap (λ (x : Entry M). x.sight) p) | inr f ↦ absurd f ];
        distinct = λ s. subst (λ (l : List (Sight M)). Distinct l) (sym same)
            (distinct_join (sights E) (t ∷ []) s ((λ i. i), tt) (λ u i j. elim j [ inl e ↦ away (subst (λ (w : Sight M). In w (sights E)) e i) | inr f ↦ f ]));
        all = λ u i. subst (λ (l : List (Sight M)). In u l) (sym same) (in_right u (sights E) (t ∷ []) i);
      }

  pub noted_join : (T : List (Sight M)) (F : List (Entry M)) (U : List (Sight M)) (H : List (Entry M)) → Noted d E T F → Noted d F U H → Noted d E (T ++ U) H
  noted_join T F U H m n = record {
    new = m.new ++ n.new;
    longer = n.longer ∙ ap (λ (l : List (Entry M)). l ++ n.new) m.longer ∙ append_assoc E m.new n.new;
    distances = λ e i. elim (in_either e m.new n.new i) [ inl j ↦ m.distances e j | inr j ↦ n.distances e j ];
    from_asked = λ e i. elim (in_either e m.new n.new i) [
      | inl j ↦ in_left e.sight T U (m.from_asked e j)
      | inr j ↦ in_right e.sight T U (n.from_asked e j)
    ];
    distinct = λ s. n.distinct (m.distinct s);
    all = λ t i. elim (in_either t T U i) [ inl j ↦ sight_before n t (m.all t j) | inr j ↦ n.all t j ];
  }

module _ {M : Type 0} (d room : ℕ) (E : List (Entry M)) where
  pub overfull_here : (t : Sight M) → (In t (sights E) → ⊥) → room ≤ length E → Overfull d room E (t ∷ [])
  overfull_here t away full = record {
    held = E;
    before = [];
    noted = noted_none d E;
    before_asked = λ u i. absurd i;
    next = t;
    next_asked = inl refl;
    next_new = away;
    full = full;
  }

  pub overfull_left : (T U : List (Sight M)) → Overfull d room E T → Overfull d room E (T ++ U)
  overfull_left T U o = record {
    held = o.held;
    before = o.before;
    noted = o.noted;
    before_asked = λ t i. in_left t T U (o.before_asked t i);
    next = o.next;
    next_asked = in_left o.next T U o.next_asked;
    next_new = o.next_new;
    full = o.full;
  }

  pub overfull_right : (T : List (Sight M)) (F : List (Entry M)) (U : List (Sight M)) → Noted d E T F → Overfull d room F U → Overfull d room E (T ++ U)
  overfull_right T F U n o = record {
    held = o.held;
    before = T ++ o.before;
    noted = noted_join d E T F o.before o.held n o.noted;
    before_asked = λ t i. elim (in_either t T o.before i) [ inl j ↦ in_left t T U j | inr j ↦ in_right t T U (o.before_asked t j) ];
    next = o.next;
    next_asked = in_right o.next T U o.next_asked;
    next_new = o.next_new;
    full = o.full;
  }
