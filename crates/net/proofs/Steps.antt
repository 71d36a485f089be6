-- One record more of a line list, as lines and as ports.
use Rattle.std.proofs.Common.{◌≡◌, ℕ, zero, suc, ◌+◌, ◌<◌, ◌≤◌, Bool, true, false, List, [], ◌∷◌, ◌++◌, map, length, get_or, take, drop, MatchBool, sym, refl, ap, ◌∙◌, inl, inr, arith}
use Rattle.std.specs.Bool.{Decides}
use Rattle.std.specs.List.{HoldsAt, AllWithin}
use Rattle.std.proofs.lemmas.List.{map_more, map-append, take-append-drop, take-take, length-map, length-take-le}
use Rattle.label.specs.Group.{Group}
use Rattle.mesh.specs.Net as mesh
use Rattle.mesh.specs.Listed.{In}
use Rattle.mesh.specs.Ports.{Port, line_ports, ports_of}
use Rattle.mesh.proofs.Lists.{in_left, in_right, in_either}
use Rattle.mesh.proofs.Ported.{ports_count_push}
use Rattle.net.specs.Model.{line_of, lines_of}
use Rattle.net.specs.declared.records.Line.{Line}

module _ {L M : Type 0} (stands : L → M) (list : List (Line L)) where
  pub lines_count : (k : ℕ) → k ≤ length list → length (lines_of stands k list) ≡ k
  lines_count k h = length-map (take k list) (line_of stands) ∙ length-take-le k list h

  pub lines_more : (i : ℕ) (x : Line L) → i < length list → x ≡ get_or list i x → lines_of stands (i + 1) list ≡ lines_of stands i list ++ (line_of stands x ∷ [])
  lines_more i x h read =
      map_more (line_of stands) list i x h ∙ ap (λ (y : Line L). lines_of stands i list ++ (line_of stands y ∷ [])) (sym read)

  pub lines_split : (i k : ℕ) → i ≤ k → lines_of stands k list ≡ lines_of stands i list ++ map (line_of stands) (drop i (take k list))
  lines_split i k h =
      ap (map (line_of stands)) (sym (take-append-drop i (take k list)) ∙ ap (λ (q : List (Line L)). q ++ drop i (take k list)) (take-take i k list h))
      ∙ map-append (line_of stands) (take i list) (drop i (take k list))

module _ {L M : Type 0} (stands : L → M) (G : Group M) (u : ℕ) where
  -- one record more of the list gives its ports
  pub count_more : (list : List (Line L)) (i : ℕ) (x : Line L) → i < length list → x ≡ get_or list i x → length (ports_of G u (lines_of stands (i + 1) list)) ≡ length (ports_of G u (lines_of stands i list)) + length (line_ports G u (line_of stands x))
  count_more list i x h read = ap (λ (q : List (mesh.Line M)). length (ports_of G u q)) (lines_more stands list i x h read) ∙ ports_count_push G u (lines_of stands i list) (line_of stands x)

  -- the record gives the port
  abbrev pub Gives : Port M → Line L → Type 0
  Gives p x = In p (line_ports G u (line_of stands x))

  -- whether a record of the list gives the port
  pub given_or_none : (p : Port M) (r : Bool) (list : List (Line L)) → MatchBool r ((k : ℕ) × (k < length list) × HoldsAt (Gives p) list k) (AllWithin (λ x. Gives p x → ⊥) list 0 (length list)) →
      Decides r (In p (ports_of G u (map (line_of stands) list)))
  given_or_none p true [] w = absurd (let z : ⊥ = omega (arith, w.1) in z)
  given_or_none p true (x ∷ xs) (zero, h, w) = (λ _. in_left p _ (ports_of G u (map (line_of stands) xs)) (w x), λ _. refl)
  given_or_none p true (x ∷ xs) (suc k, h, w) = (λ _. in_right p (line_ports G u (line_of stands x)) _ ((given_or_none p true xs (k, omega arith, w)).0 refl), λ _. refl)
  given_or_none p false [] none = (λ e. cc, λ i. absurd i)
  given_or_none p false (x ∷ xs) none = (
    λ e. cc,
    λ i. elim (in_either p (line_ports G u (line_of stands x)) _ i) [
      | inl j ↦ absurd (none 0 x (omega arith) (omega arith) j)
      | inr j ↦ (given_or_none p false xs (λ k d a b. none (suc k) d (omega arith) (omega arith))).1 j
    ],
  )
