-- The sights to which the ports of a line, and of the lines of a list, lead.
use Rattle.std.proofs.Common.{◌≡◌, ℕ, ◌+◌, ◌<◌, Bool, true, false, eqb, List, [], ◌∷◌, ◌++◌, map, length, get_or, take, drop, sym, refl, ap, ◌∙◌}
use Rattle.std.proofs.lemmas.List.{map-append, map_push, take_more, take-append-drop}
use Rattle.label.specs.Group.{Group}
use Rattle.mesh.specs.Net as mesh
use Rattle.mesh.specs.Ports.{Port, ahead, behind, line_ports, ports_of}
use Rattle.mesh.specs.Target.{target}
use Rattle.mesh.proofs.Ported.{ports_append, ports_push}
use Rattle.net.specs.Model.{line_of}
use Rattle.net.specs.declared.records.Line.{Line}
use Rattle.growth.specs.Entry.{Sight, about}
use Rattle.survey.specs.Leading.{led, one_if}

module _ {M : Type 0} (G : Group M) (v : ℕ) (h : M) where
  pub led_append : (ps qs : List (Port M)) → led G v h (ps ++ qs) ≡ led G v h ps ++ led G v h qs
  led_append ps qs = ap (map (about v)) (map-append (target G h) ps qs) ∙ map-append (about v) (map (target G h) ps) (map (target G h) qs)

  led_if : (b : Bool) (p : Port M) → led G v h (one_if b p) ≡ one_if b (about v (target G h p))
  led_if true p = refl
  led_if false p = refl

  -- a line leads forward from its tail and backward from its head
  pub led_line : (u : ℕ) (l : mesh.Line M) → one_if (eqb l.tail u) (about v (target G h (ahead l))) ++ one_if (eqb l.head u) (about v (target G h (behind G l))) ≡ led G v h (line_ports G u l)
  led_line u l =
      let first = one_if (eqb l.tail u) (ahead l) in
      let second = one_if (eqb l.head u) (behind G l) in
      sym (led_append first second ∙ ap (λ (ss : List (Sight M)). ss ++ led G v h second) (led_if (eqb l.tail u) (ahead l)) ∙ ap (λ (ss : List (Sight M)). one_if (eqb l.tail u) (about v (target G h (ahead l))) ++ ss) (led_if (eqb l.head u) (behind G l)))

  module _ {L : Type 0} (stands : L → M) (lines : List (Line L)) (u : ℕ) where
    -- what the lines of a part give
    abbrev pub given : List (Line L) → List (Sight M)
    given ls = led G v h (ports_of G u (map (line_of stands) ls))

    -- one line more
    pub led_more : (i : ℕ) (x : Line L) → i < length lines → x ≡ get_or lines i x → given (take i lines) ++ led G v h (line_ports G u (line_of stands x)) ≡ given (take (i + 1) lines)
    led_more i x inside read =
        let more : take i lines ++ (x ∷ []) ≡ take (i + 1) lines = sym (take_more lines i x inside ∙ ap (λ (y : Line L). take i lines ++ (y ∷ [])) (sym read)) in
        sym (led_append (ports_of G u (map (line_of stands) (take i lines))) (line_ports G u (line_of stands x)))
        ∙ ap (led G v h) (sym (ports_push G u (map (line_of stands) (take i lines)) (line_of stands x)) ∙ ap (ports_of G u) (sym (map_push (line_of stands) (take i lines) x)))
        ∙ ap given more

    -- the first lines, and the others
    pub led_split : (i : ℕ) → given (take i lines) ++ given (drop i lines) ≡ given lines
    led_split i =
        let front = map (line_of stands) (take i lines) in
        let rest = map (line_of stands) (drop i lines) in
        sym (led_append (ports_of G u front) (ports_of G u rest))
        ∙ ap (led G v h) (sym (ports_append G u front rest) ∙ ap (ports_of G u) (sym (map-append (line_of stands) (take i lines) (drop i lines))))
        ∙ ap given (take-append-drop i lines)
