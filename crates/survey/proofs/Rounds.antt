-- Steps that note where the ports of a part of the found list lead.
use Rattle.std.proofs.Common.{◌≡◌, ℕ, ◌+◌, ◌-◌, ◌<◌, ◌≤◌, List, [], ◌∷◌, ◌++◌, length, get_or, take, drop, Ok, Err, Result, sym, ap, ◌∙◌, subst, arith}
use Rattle.std.specs.List.{between}
use Rattle.std.proofs.lemmas.Grind.{flat_map-append}
use Rattle.std.proofs.lemmas.List.{map-append, append-nil, get_or-map, get_or-take, length-take-le}
use Rattle.std.proofs.lemmas.List.Edits.{between_more, between_none}
use Rattle.label.specs.Group.{Group}
use Rattle.label.specs.Order.{Order}
use Rattle.mesh.specs.Net.{Net}
use Rattle.mesh.specs.Junction.{Junction}
use Rattle.mesh.specs.Ports.{ports_of}
use Rattle.growth.specs.Entry.{Sight, Entry, junctions}
use Rattle.growth.specs.Surveyed.{targets}
use Rattle.growth.proofs.Parts.{take_between}
use Rattle.survey.specs.Found.{entry_of, found}
use Rattle.survey.specs.Leading.{led}
use Rattle.survey.specs.Stepping.{Stepped, held}
use Rattle.survey.specs.declared.records.Record.{Record}
use Rattle.survey.specs.declared.shelling.Shelling.{Shelling}
use Rattle.survey.specs.declared.search.Exhausted.{Exhausted}
use Rattle.survey.proofs.Trees.{found_count}
use Rattle.survey.proofs.Steps.{stepped_none, stepped_join, stepped_short}

module _ {L M : Type 0} (G : Group M) (O : Order M) (stands : L → M) (net : Net M) (from : ℕ) (s s' s'' : Shelling L) where
  -- what is asked up to a place of the part
  abbrev pub asked : ℕ → List (Sight M)
  asked to = targets G net s.centre (junctions (between from to (held O stands s)))

  targets_append : (es fs : List (Entry M)) → targets G net s.centre (junctions es) ++ targets G net s.centre (junctions fs) ≡ targets G net s.centre (junctions (es ++ fs))
  targets_append es fs =
      sym (ap (targets G net s.centre) (map-append (λ (e : Entry M). e.sight.junction) es fs) ∙ flat_map-append (λ (b : Junction M). led G s.centre b.label (ports_of G b.node net.lines)) (junctions es) (junctions fs))

  targets_one : (e : Entry M) → led G s.centre e.sight.junction.label (ports_of G e.sight.junction.node net.lines) ≡ targets G net s.centre (junctions (e ∷ []))
  targets_one e = sym (append-nil (led G s.centre e.sight.junction.label (ports_of G e.sight.junction.node net.lines)))

  -- the record at a place stands for the entry at that place
  entry_there : (at : ℕ) (x d : Record L) → at < s.used → length s'.pool.now ≡ length s.pool.now → x ≡ get_or s'.pool.now at d → found stands s.used s'.pool.now ≡ held O stands s → get_or (held O stands s) at (entry_of stands x) ≡ entry_of stands x
  entry_there at x d h long read same =
      let room = s.in_room in
      ap (λ (es : List (Entry M)). get_or es at (entry_of stands x)) (sym same)
      ∙ get_or-map (entry_of stands) (take s.used s'.pool.now) at d (entry_of stands x) (let n = length-take-le s.used s'.pool.now (omega arith) in omega arith)
      ∙ ap (entry_of stands) (get_or-take s.used s'.pool.now at d h ∙ sym read)

  -- one record after the others
  pub part_joined : (at next : ℕ) (x d : Record L) → from ≤ at → at < s.used → next ≡ at + 1 → x ≡ get_or s'.pool.now at d → (r : Result Unit Exhausted) →
      Stepped O stands s (asked at) (Ok tt) s' → Stepped O stands s' (led G s'.centre (stands x.junction.label) (ports_of G x.junction.node net.lines)) r s'' → Stepped O stands s (asked next) r s''
  part_joined at next x d le h next_is read r a b =
      let E = held O stands s in
      let few = s.in_room in
      let ports = ports_of G x.junction.node net.lines in
      let more : between from (at + 1) E ≡ between from at E ++ (entry_of stands x ∷ []) =
      between_more E from at (entry_of stands x) le (let n = found_count stands s.used s.pool.now few in omega arith)
      ∙ ap (λ (e : Entry M). between from at E ++ (e ∷ [])) (entry_there at x d h a.steady.long read (a.kept.entries s.used (omega arith))) in
      let whole : asked at ++ led G s.centre (stands x.junction.label) ports ≡ asked next =
      ap (λ (ts : List (Sight M)). asked at ++ ts) (targets_one (entry_of stands x)) ∙ targets_append (between from at E) (entry_of stands x ∷ []) ∙ ap (λ (es : List (Entry M)). targets G net s.centre (junctions es)) (sym more) ∙ ap asked (sym next_is) in
      subst (λ (ts : List (Sight M)). Stepped O stands s ts r s'') whole
      (stepped_join O stands s s' s'' (asked at) (led G s.centre (stands x.junction.label) ports) r a
      (subst (λ (v : ℕ). Stepped O stands s' (led G v (stands x.junction.label) ports) r s'') a.steady.centre b))

  -- where the records do not suffice for a part, they do not for a longer one
  pub part_short : (i to : ℕ) → from ≤ i → i ≤ to → (e : Exhausted) → Stepped O stands s (asked i) (Err e) s' → Stepped O stands s (asked to) (Err e) s'
  part_short i to le h e a =
      let E = held O stands s in
      let rest = between (i - from) (to - from) (drop from E) in
      let whole : between from to E ≡ between from i E ++ rest = take_between (i - from) (to - from) (drop from E) (omega arith) in
      subst (λ (ts : List (Sight M)). Stepped O stands s ts (Err e) s') (targets_append (between from i E) rest ∙ ap (λ (es : List (Entry M)). targets G net s.centre (junctions es)) (sym whole))
      (stepped_short O stands s s' (asked i) (targets G net s.centre (junctions rest)) e a)

  -- nothing is asked by an empty part
  pub part_none : (at : ℕ) → at ≡ from → Stepped O stands s (asked at) (Ok tt) s
  part_none at e =
      subst (λ (ts : List (Sight M)). Stepped O stands s ts (Ok tt) s) (sym (ap asked e ∙ ap (λ (es : List (Entry M)). targets G net s.centre (junctions es)) (between_none (held O stands s) from))) (stepped_none O stands s)

  -- a part up to its end is the part
  pub part_whole : (at to : ℕ) → at ≡ to → Stepped O stands s (asked at) (Ok tt) s' → Stepped O stands s (asked to) (Ok tt) s'
  part_whole at to e a = subst (λ (i : ℕ). Stepped O stands s (asked i) (Ok tt) s') e a
