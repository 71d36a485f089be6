-- What a net that can be drawn tells of each of its lines.
use Rattle.std.proofs.Common.{◌≡◌, ℕ, suc, ◌+◌, ◌<◌, ◌≤◌, List, [], ◌∷◌, ◌++◌, length, ℤ, Some, unwrap_or, sym, refl, ap, ◌∙◌, subst, inl, inr, append_assoc, arith, length-append}
use Rattle.std.proofs.lemmas.List.{same_from_push}
use Rattle.std.proofs.lemmas.Bool.{cases_lt}
use Rattle.label.specs.Group.{Group}
use Rattle.label.specs.Form.{Form}
use Rattle.mesh.specs.Net.{Line}
use Rattle.mesh.specs.Drawn.{Allowed, Drawing, blank, draw}
use Rattle.net.specs.Verdict.{NoneOf}
use Rattle.net.specs.Rules.{LineBreaks, line_rules}
use Rattle.sheet.specs.Stored.{stored, Small, text}
use Rattle.sheet.specs.Codes.{codes}
use Rattle.sheet.specs.Sheet.{label_codes, line_numbers}
use Rattle.sheet.specs.Faults.{ALine}
use Rattle.std.proofs.lemmas.Grind.{flat_map-append}

-- a list with an element has a last one
last_one : {X : Type 0} (x : X) (xs : List X) → (ys : List X) × ((y : X) × (x ∷ xs ≡ ys ++ (y ∷ [])))
last_one x [] = ([], (x, refl))
last_one x (z ∷ xs) = let r = last_one z xs in (x ∷ r.0, (r.1.0, ap (λ q. x ∷ q) r.1.1))

module _ {M : Type 0} (G : Group M) {nodes : ℕ} where
  allowed_from : {ks : List (Line M)} (before : List (Line M)) (l : Line M) (after : List (Line M)) → Drawing G nodes ks → ks ≡ before ++ (l ∷ after) → Allowed G nodes before l
  allowed_from before l after blank e =
      let n : ◌≡◌ {A = ℕ} 0 (length before + suc (length after)) = ap length e ∙ length-append before (l ∷ after) in absurd (let z : ⊥ = omega arith in z)
  allowed_from before l [] (draw {before = bs} {l = k} d a) e =
      let same = same_from_push bs before k l e in
      subst (λ (q : List (Line M)). Allowed G nodes q l) same.0 (subst (Allowed G nodes bs) same.1 a)
  allowed_from before l (x ∷ after) (draw {before = bs} {l = k} d a) e =
      let r = last_one x after in
      let split : bs ++ (k ∷ []) ≡ (before ++ (l ∷ r.0)) ++ (r.1.0 ∷ []) = e ∙ ap (λ q. before ++ (l ∷ q)) r.1.1 ∙ sym (append_assoc before (l ∷ r.0) (r.1.0 ∷ [])) in
      allowed_from before l r.0 d (same_from_push bs (before ++ (l ∷ r.0)) k r.1.0 split).0

  -- each line is allowed after those before it
  pub allowed_at : (before : List (Line M)) (l : Line M) (after : List (Line M)) → Drawing G nodes (before ++ (l ∷ after)) → Allowed G nodes before l
  allowed_at before l after d = allowed_from before l after d refl

module _ {M : Type 0} (G : Group M) (nodes : ℕ) where
  -- with room for it, the line breaks no rule
  pub unbroken : (room : ℕ) (before : List (Line M)) (l : Line M) → length before < room → length before < 96 → Allowed G nodes before l → NoneOf (LineBreaks G (record { nodes = nodes; lines = before }) room room l) line_rules
  unbroken room before l h k a = (λ other. other refl, (a.on_nodes, (λ full. elim full [ inl x ↦ omega arith | inr x ↦ omega arith ], (a.moves, (a.turns, (a.fresh, (a.room, tt)))))))

  -- an end of an allowed line is a small number
  node_small : (n : ℕ) → nodes ≤ 24 → (nodes ≤ n → ⊥) → Small n
  node_small n h off = elim (cases_lt n nodes) [ inl k ↦ omega arith | inr k ↦ absurd (off k) ]

module _ {M : Type 0} (F : Form M) (G : Group M) (nodes : ℕ) where
  -- the numbers of an allowed line with a written label, as bytes, begin with the line
  pub written_line : (before : List (Line M)) (l : Line M) (ns bs rest : List ℕ) → nodes ≤ 24 → Allowed G nodes before l → (xs : List ℤ) × (F.tells l.label ≡ Some xs) → bs ≡ text (line_numbers F l ++ ns) ++ rest → ALine F bs l (text ns ++ rest)
  written_line before l ns bs rest few a w e =
      let told = label_codes F l.label in
      let back = F.back l.label w.0 w.1 in
      let codes_are : told ≡ codes F.slots w.0 = ap (λ o. codes F.slots (unwrap_or o [])) w.1 in
      record {
        tail_small = node_small G nodes l.tail few (λ off. a.on_nodes (inl off));
        head_small = node_small G nodes l.head few (λ off. a.on_nodes (inr off));
        between = text (told ++ ns) ++ rest;
        ends = e ∙ simp append_assoc;
        label = record {
          numbers = w.0;
          ranges = back.0;
          label = back.1;
          bytes = ap (λ cs. text (cs ++ ns) ++ rest) codes_are ∙ ap (λ t. t ++ rest) (flat_map-append stored (codes F.slots w.0) ns) ∙ append_assoc (text (codes F.slots w.0)) (text ns) rest;
        };
      }
