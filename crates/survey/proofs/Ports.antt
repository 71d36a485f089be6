-- Steps that note where the ports of a junction lead.
use Rattle.std.proofs.Common.{◌≡◌, ℕ, ◌+◌, ◌<◌, eqb, List, map, length, get_or, take, drop, Ok, Err, Result, subst}
use Rattle.label.specs.Group.{Group}
use Rattle.label.specs.Order.{Order}
use Rattle.mesh.specs.Net as mesh
use Rattle.mesh.specs.Ports.{ahead, behind, line_ports, ports_of}
use Rattle.mesh.specs.Target.{target}
use Rattle.net.specs.Model.{line_of}
use Rattle.net.specs.declared.records.Line.{Line}
use Rattle.growth.specs.Entry.{Sight, about}
use Rattle.survey.specs.Leading.{led, one_if, back}
use Rattle.survey.specs.Stepping.{Stepped}
use Rattle.survey.specs.declared.shelling.Shelling.{Shelling}
use Rattle.survey.specs.declared.search.Exhausted.{Exhausted}
use Rattle.survey.proofs.Leads.{given, led_line, led_more, led_split}
use Rattle.survey.proofs.Steps.{stepped_join, stepped_short}

module _ {L M : Type 0} (G : Group M) (O : Order M) (stands : L → M) (h : M) (u : ℕ) (s s' s'' : Shelling L) where
  module _ (l : mesh.Line M) where
    -- where a line leads forward, and backward
    abbrev pub forward : List (Sight M)
    forward = one_if (eqb l.tail u) (about s.centre (target G h (ahead l)))

    abbrev backward : ℕ → List (Sight M)
    backward v = one_if (eqb l.head u) (about v (target G h (behind G l)))

    -- forward along a line, and then along the line read from its head
    pub line_joined : (k : mesh.Line M) → k ≡ back G l → (r : Result Unit Exhausted) → Stepped O stands s forward (Ok tt) s' →
        Stepped O stands s' (one_if (eqb k.tail u) (about s'.centre (target G h (ahead k)))) r s'' → Stepped O stands s (led G s.centre h (line_ports G u l)) r s''
    line_joined k e r a b =
        subst (λ (ts : List (Sight M)). Stepped O stands s ts r s'') (led_line G s.centre h u l)
        (stepped_join O stands s s' s'' forward (backward s.centre) r a
        (subst (λ (v : ℕ). Stepped O stands s' (backward v) r s'') a.steady.centre
        (subst (λ (m : mesh.Line M). Stepped O stands s' (one_if (eqb m.tail u) (about s'.centre (target G h (ahead m)))) r s'') e b)))

    pub line_short : (e : Exhausted) → Stepped O stands s forward (Err e) s' → Stepped O stands s (led G s.centre h (line_ports G u l)) (Err e) s'
    line_short e a = subst (λ (ts : List (Sight M)). Stepped O stands s ts (Err e) s') (led_line G s.centre h u l) (stepped_short O stands s s' forward (backward s.centre) e a)

  module _ (lines : List (Line L)) where
    -- one line after the others
    pub lines_joined : (i : ℕ) (x : Line L) → i < length lines → x ≡ get_or lines i x → (r : Result Unit Exhausted) →
        Stepped O stands s (led G s.centre h (ports_of G u (map (line_of stands) (take i lines)))) (Ok tt) s' → Stepped O stands s' (led G s'.centre h (line_ports G u (line_of stands x))) r s'' →
        Stepped O stands s (led G s.centre h (ports_of G u (map (line_of stands) (take (i + 1) lines)))) r s''
    lines_joined i x inside read r a b =
        subst (λ (ts : List (Sight M)). Stepped O stands s ts r s'') (led_more G s.centre h stands lines u i x inside read)
        (stepped_join O stands s s' s'' (given G s.centre h stands lines u (take i lines)) (led G s.centre h (line_ports G u (line_of stands x))) r a
        (subst (λ (v : ℕ). Stepped O stands s' (led G v h (line_ports G u (line_of stands x))) r s'') a.steady.centre b))

    -- where the records do not suffice for the first lines, they do not for all
    pub lines_short : (i : ℕ) (e : Exhausted) → Stepped O stands s (led G s.centre h (ports_of G u (map (line_of stands) (take i lines)))) (Err e) s' →
        Stepped O stands s (led G s.centre h (ports_of G u (map (line_of stands) lines))) (Err e) s'
    lines_short i e a =
        subst (λ (ts : List (Sight M)). Stepped O stands s ts (Err e) s') (led_split G s.centre h stands lines u i)
        (stepped_short O stands s s' (given G s.centre h stands lines u (take i lines)) (given G s.centre h stands lines u (drop i lines)) e a)
