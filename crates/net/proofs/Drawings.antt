-- A line drawn or taken back, on the net that draft and list hold.
use Rattle.std.proofs.Common.{◌≡◌, ℕ, ◌+◌, ◌<◌, ◌≤◌, List, [], ◌∷◌, ◌++◌, map, length, take, set, sym, refl, ap, ◌∙◌, subst, inl, inr, arith}
use Rattle.std.proofs.lemmas.List.{take_more, take_more_set, map_push, same_from_push, length_push}
use Rattle.std.proofs.lemmas.Option.{slice_get_cases}
use Rattle.label.specs.Group.{Group}
use Rattle.mesh.specs.Net as mesh
use Rattle.mesh.specs.Drawn.{Drawing, blank, draw, Drawn}
use Rattle.net.specs.Verdict.{NoneOf}
use Rattle.net.specs.Model.{line_of, lines_of, net_of, with_line}
use Rattle.net.specs.Rules.{LineBreaks, line_rules}
use Rattle.net.specs.Clauses.{DrawnOn, TakenBack}
use Rattle.net.specs.declared.records.Line.{Line}
use Rattle.net.specs.declared.drafts.Draft.{Draft}

-- the last of the first k + 1 of a list
last_of : {X : Type 0} (xs : List X) (k : ℕ) → k < length xs → (x : X) × (take (k + 1) xs ≡ take k xs ++ (x ∷ []))
last_of xs k h =
    elim (slice_get_cases xs k).1 [
      | inl w ↦ (w.0, take_more xs k w.0 h ∙ ap (λ x. take k xs ++ (x ∷ [])) w.3)
      | inr w ↦ absurd (let z : ⊥ = omega (arith, w.0) in z)
    ]

module _ {M : Type 0} (G : Group M) where
  -- what can be drawn can be drawn without its last line
  undrawn_from : {nodes : ℕ} {ks : List (mesh.Line M)} (ls : List (mesh.Line M)) (l : mesh.Line M) → Drawing G nodes ks → ks ≡ ls ++ (l ∷ []) → Drawing G nodes ls
  undrawn_from ls l blank e =
      let n : ◌≡◌ {A = ℕ} 0 (length ls + 1) = ap length e ∙ length_push ls l in absurd (let z : ⊥ = omega arith in z)
  undrawn_from {nodes} ls l (draw {before = before} {l = k} d a) e = subst (Drawing G nodes) (same_from_push before ls k l e).0 d

  pub undrawn : (net : mesh.Net M) (l : mesh.Line M) → Drawn G (with_line net l) → Drawn G net
  undrawn net l d = undrawn_from net.lines l d refl

  -- the rules, not broken, are what drawing asks of the line
  pub drawn_more : (net : mesh.Net M) (room lent : ℕ) (l : mesh.Line M) → NoneOf (LineBreaks G net room lent l) line_rules → Drawn G net → Drawn G (with_line net l)
  drawn_more net room lent l n d = draw d (record {
    on_nodes = n.1.0;
    moves = n.1.1.1.0;
    turns = n.1.1.1.1.0;
    fresh = n.1.1.1.1.1.0;
    room = n.1.1.1.1.1.1.0;
  })

module _ {L M : Type 0} (G : Group M) (stands : L → M) (d d' : Draft) (list : List (Line L)) where
  pub line_drawn : (l : Line L) → d.lines < length list → d'.lines ≡ d.lines + 1 → d'.nodes ≡ d.nodes → d'.room ≡ d.room → NoneOf (LineBreaks G (net_of stands d list) d.room (length list) (line_of stands l)) line_rules → DrawnOn G stands d list l d' (set list d.lines l)
  line_drawn l h counted nodes room n =
      let after = set list d.lines l in
      let lines : lines_of stands d'.lines after ≡ lines_of stands d.lines list ++ (line_of stands l ∷ []) =
      ap (λ k. lines_of stands k after) counted ∙ ap (map (line_of stands)) (take_more_set list d.lines l h) ∙ map_push (line_of stands) (take d.lines list) l in
      let net : net_of stands d' after ≡ with_line (net_of stands d list) (line_of stands l) =
      ap (λ (k : ℕ). let m : mesh.Net M = record { nodes = k; lines = lines_of stands d'.lines after } in m) nodes ∙ ap (λ (ls : List (mesh.Line M)). let m : mesh.Net M = record { nodes = d.nodes; lines = ls } in m) lines in
      record {
        wrote = refl;
        counted = counted;
        same_nodes = nodes;
        same_room = room;
        net = net;
        drawn = λ w. subst (Drawn G) (sym net) (drawn_more G (net_of stands d list) d.room (length list) (line_of stands l) n w);
      }

  pub line_taken_back : d.lines ≤ length list → d'.lines + 1 ≡ d.lines → d'.nodes ≡ d.nodes → d'.room ≡ d.room → TakenBack G stands d list d'
  line_taken_back h counted nodes room =
      let last = last_of list d'.lines (omega arith) in
      let l = line_of stands last.0 in
      let lines : lines_of stands d.lines list ≡ lines_of stands d'.lines list ++ (l ∷ []) =
      ap (λ k. lines_of stands k list) (sym counted) ∙ ap (map (line_of stands)) last.1 ∙ map_push (line_of stands) (take d'.lines list) last.0 in
      let net : net_of stands d list ≡ with_line (net_of stands d' list) l =
      ap (λ (k : ℕ). let m : mesh.Net M = record { nodes = k; lines = lines_of stands d.lines list } in m) (sym nodes) ∙ ap (λ (ls : List (mesh.Line M)). let m : mesh.Net M = record { nodes = d'.nodes; lines = ls } in m) lines in
      record {
        counted = counted;
        same_nodes = nodes;
        same_room = room;
        net = (l, net);
        drawn = λ w. undrawn G (net_of stands d' list) l (subst (Drawn G) net w);
      }
