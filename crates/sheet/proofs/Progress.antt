-- A sheet read as far as some of its lines.
use Rattle.std.proofs.Common.{◌≡◌, ℕ, ◌+◌, ◌<◌, ◌≢◌, List, [], ◌∷◌, ◌++◌, length, drop, ℤ, Some, unwrap_or, sym, refl, ap, ◌∙◌, subst, append_assoc, zero-add, arith, length-append, length-set}
use Rattle.std.proofs.lemmas.List.{drop-drop, drop-set-lt, flat_map_more, length-drop}
use Rattle.label.specs.Group.{Group}
use Rattle.label.specs.Form.{Form}
use Rattle.mesh.specs.Net as mesh
use Rattle.mesh.specs.Drawn.{Drawn, blank}
use Rattle.net.specs.Verdict.{First}
use Rattle.net.specs.Model.{line_of, lines_of, net_of}
use Rattle.net.specs.Rules.{LineBreaks, line_rules}
use Rattle.net.proofs.Steps.{lines_count}
use Rattle.net.specs.declared.records.Line.{Line}
use Rattle.net.specs.declared.drafts.Draft.{Draft}
use Rattle.sheet.specs.Stored.{stored, text}
use Rattle.sheet.specs.Codes.{codes}
use Rattle.sheet.specs.Sheet.{line_numbers, numbers_so_far, AllWritten}
use Rattle.sheet.specs.Faults as faults
use Rattle.sheet.specs.Faults.{at_place, NodesOut, CountOut, NoLine, Begins, Refused}
use Rattle.sheet.specs.Reading.{NumbersAt, HeadingAt, LineAt, Drew, NoDraw, unread_line, refused_line}
use Rattle.sheet.specs.Clauses.{WasRefused}
use Rattle.sheet.specs.declared.reader.Heading.{Heading}
use Rattle.sheet.specs.declared.faults.SheetFault.{SheetFault}
use Rattle.sheet.specs.declared.faults.SheetFault.TheVariants as fault
use Rattle.sheet.specs.declared.faults.BytesFault.TheVariants as bytes
use Rattle.std.proofs.lemmas.Grind.{flat_map-append}

-- numbers after numbers
numbers_append : (bs : List ℕ) (place p q : ℕ) (ns ms : List ℕ) → NumbersAt bs place ns p → NumbersAt bs p ms q → NumbersAt bs place (ns ++ ms) q
numbers_append bs place p q ns ms a b = record {
  bytes_are = a.bytes_are ∙ ap (λ (r : List ℕ). text ns ++ r) b.bytes_are ∙ sym (append_assoc (text ns) (text ms) (drop q bs)) ∙ ap (λ (t : List ℕ). t ++ drop q bs) (sym (flat_map-append stored ns ms));
  next_is =
      let long : length (text (ns ++ ms)) ≡ length (text ns) + length (text ms) = ap length (flat_map-append stored ns ms) ∙ length-append (text ns) (text ms) in
      omega (arith, a.next_is, b.next_is, long);
  within = b.within;
}

module _ {M : Type 0} (F : Form M) where
  written_push : (ls : List (mesh.Line M)) (l : mesh.Line M) (xs : List ℤ) → AllWritten F ls → F.tells l.label ≡ Some xs → AllWritten F (ls ++ (l ∷ []))
  written_push [] l xs w e = ((xs, e), tt)
  written_push (k ∷ ls) l xs w e = (w.0, written_push ls l xs w.1 e)

  so_far_push : (kind nodes count : ℕ) (ls : List (mesh.Line M)) (l : mesh.Line M) → numbers_so_far F kind nodes count (ls ++ (l ∷ [])) ≡ numbers_so_far F kind nodes count ls ++ line_numbers F l
  so_far_push kind nodes count ls l = ap (λ (ns : List ℕ). kind ∷ nodes ∷ count ∷ ns) (sym (flat_map_more (line_numbers F) [] ls l))

module _ {L M : Type 0} (G : Group M) (F : Form M) (stands : L → M) where
  -- a line that was read stands in the bytes as the line's numbers
  line_stands : (bs : List ℕ) (place : ℕ) (l : Line L) (next : ℕ) → LineAt F stands bs place l next → (xs : List ℤ) × (F.tells (stands l.label) ≡ Some xs) × NumbersAt bs place (line_numbers F (line_of stands l)) next
  line_stands bs place l next at =
      let a = at.line in
      let xs = a.label.numbers in
      let ns = codes F.slots xs in
      let told : F.tells (stands l.label) ≡ Some xs = F.again xs (stands l.label) a.label.ranges a.label.label in
      let same : codes F.slots xs ≡ codes F.slots (unwrap_or (F.tells (stands l.label)) []) = ap (λ o. codes F.slots (unwrap_or o [])) (sym told) in
      let whole : NumbersAt bs place (l.tail ∷ l.head ∷ ns) next = record {
        bytes_are = a.ends ∙ ap (λ (r : List ℕ). text (l.tail ∷ l.head ∷ []) ++ r) a.label.bytes ∙ sym (append_assoc (text (l.tail ∷ l.head ∷ [])) (text ns) (drop next bs)) ∙ ap (λ (t : List ℕ). t ++ drop next bs) (sym (flat_map-append stored (l.tail ∷ l.head ∷ []) ns));
        next_is = at.next_is;
        within = at.within;
      } in
      (xs, told, subst (λ (ms : List ℕ). NumbersAt bs place (l.tail ∷ l.head ∷ ms) next) same whole)

  module _ (kind : ℕ) (bs : List ℕ) (list0 : List (Line L)) (count : ℕ) where
    -- reading has come to a place, with k lines drawn
    pub record Underway (d : Draft) (list : List (Line L)) (k place : ℕ) : Type 0 where
      pub nodes_in : NodesOut d.nodes → ⊥
      pub count_in : CountOut count → ⊥
      pub room : d.room ≡ length list0
      pub long : length list ≡ length list0
      pub many : d.lines ≡ k
      pub drawn : Drawn G (net_of stands d list)
      pub written : AllWritten F (lines_of stands d.lines list)
      pub numbers : NumbersAt bs 0 (numbers_so_far F kind d.nodes count (lines_of stands d.lines list)) place
      pub past : drop d.lines list ≡ drop d.lines list0

    -- one line more
    pub underway_more : (d d' : Draft) (list list' : List (Line L)) (k place next : ℕ) → Underway d list k place → Drew F stands G bs place d list next d' list' → Underway d' list' (k + 1) next
    underway_more d d' list list' k place next u w =
        let l = line_of stands w.line in
        let ls = lines_of stands d.lines list in
        let step = line_stands bs place w.line next w.at in
        let lines : lines_of stands d'.lines list' ≡ ls ++ (l ∷ []) = ap (λ (n : mesh.Net M). n.lines) w.drawn.net in
        let one_more : (xs : List (Line L)) → drop 1 (drop d.lines xs) ≡ drop (d.lines + 1) xs = λ xs. drop-drop 1 d.lines xs in
        record {
          nodes_in = subst (λ (n : ℕ). NodesOut n → ⊥) (sym w.drawn.same_nodes) u.nodes_in;
          count_in = u.count_in;
          room = w.drawn.same_room ∙ u.room;
          long = ap length w.drawn.wrote ∙ length-set list d.lines w.line ∙ u.long;
          many = w.drawn.counted ∙ ap (λ n. n + 1) u.many;
          drawn = w.drawn.drawn u.drawn;
          written = subst (AllWritten F) (sym lines) (written_push F ls l step.0 u.written step.1);
          numbers =
              let n = d.nodes in
              let same : numbers_so_far F kind n count ls ++ line_numbers F l ≡ numbers_so_far F kind d'.nodes count (lines_of stands d'.lines list') =
              sym (so_far_push F kind n count ls l) ∙ ap (numbers_so_far F kind n count) (sym lines) ∙ ap (λ (m : ℕ). numbers_so_far F kind m count (lines_of stands d'.lines list')) (sym w.drawn.same_nodes) in
              subst (λ (ns : List ℕ). NumbersAt bs 0 ns next) same (numbers_append bs 0 place next (numbers_so_far F kind n count ls) (line_numbers F l) u.numbers step.2);
          past =
              ap (λ (m : ℕ). drop m list') w.drawn.counted ∙ ap (drop (d.lines + 1)) w.drawn.wrote ∙ drop-set-lt (d.lines + 1) list d.lines w.line (omega arith)
              ∙ sym (one_more list) ∙ ap (drop 1) u.past ∙ one_more list0 ∙ ap (λ (m : ℕ). drop m list0) (sym w.drawn.counted);
        }

    module _ (d : Draft) (list : List (Line L)) (k place : ℕ) (u : Underway d list k place) where
      many_lines : length (lines_of stands d.lines list) ≡ d.lines
      many_lines = lines_count stands list d.lines (omega (arith, d.in_room, u.room, u.long))

      begins : Begins F G kind (length list0) bs d.nodes count (lines_of stands d.lines list) (drop place bs)
      begins = record { nodes_in = u.nodes_in; count_in = u.count_in; drawn = u.drawn; written = u.written; bytes = u.numbers.bytes_are }

      refused : {f : SheetFault} → Refused F G kind (length list0) bs (lines_of stands d.lines list) f → WasRefused G F stands kind bs list0 f list
      refused r = record {
        lines = lines_of stands d.lines list;
        fault = r;
        kept = ap (λ (n : ℕ). lines_of stands n list) many_lines;
        long = u.long;
        past = ap (λ (n : ℕ). drop n list) many_lines ∙ u.past ∙ ap (λ (n : ℕ). drop n list0) (sym many_lines);
      }

      placed : length (text (numbers_so_far F kind d.nodes count (lines_of stands d.lines list))) ≡ place
      placed = sym (u.numbers.next_is ∙ zero-add (length (text (numbers_so_far F kind d.nodes count (lines_of stands d.lines list)))))

      -- the next line is at fault
      pub underway_refused : {f : SheetFault} → k < count → NoDraw F stands G bs place d list f → WasRefused G F stands kind bs list0 f list
      underway_refused h (unread_line f n) =
          refused (faults.line d.nodes count (lines_of stands d.lines list) (drop place bs) f begins (omega (arith, many_lines, u.many)) (subst (λ (p : ℕ). NoLine F p (length bs) (drop place bs) f) (sym placed) n))
      underway_refused h (refused_line l next e at first) =
          let room : d.room ≡ length list0 = u.room in
          let broken = subst (λ (p : ℕ). First (LineBreaks G (net_of stands d list) p (length list) (line_of stands l)) e line_rules) room first in
          let broken2 = subst (λ (p : ℕ). First (LineBreaks G (net_of stands d list) (length list0) p (line_of stands l)) e line_rules) u.long broken in
          refused (subst (λ (p : ℕ). Refused F G kind (length list0) bs (lines_of stands d.lines list) (fault.Line (at_place e p))) placed
          (faults.rule d.nodes count (lines_of stands d.lines list) (line_of stands l) (drop place bs) (drop next bs) e begins (omega (arith, many_lines, u.many)) at.line broken2))

      -- bytes are left over
      pub underway_left : k ≡ count → place < length bs → WasRefused G F stands kind bs list0 (fault.Bytes (at_place bytes.LeftOver place)) list
      underway_left e h =
          let some : drop place bs ≢ [] = λ z. let none : ◌≡◌ {A = ℕ} (length (drop place bs)) 0 = ap length z in omega (arith, none, length-drop place bs) in
          refused (subst (λ (p : ℕ). Refused F G kind (length list0) bs (lines_of stands d.lines list) (fault.Bytes (at_place bytes.LeftOver p))) placed
          (faults.left_over d.nodes count (lines_of stands d.lines list) (drop place bs) begins (many_lines ∙ u.many ∙ e) some))

  -- after the heading
  pub underway_none : (kind : ℕ) (bs : List ℕ) (list : List (Line L)) (h : Heading) (next : ℕ) → HeadingAt kind bs list h next → Underway kind bs list h.lines h.draft list 0 next
  underway_none kind bs list h next at =
      let none : lines_of stands h.draft.lines list ≡ [] = ap (λ (n : ℕ). lines_of stands n list) at.blank in
      record {
        nodes_in = at.nodes_in;
        count_in = at.count_in;
        room = at.room;
        long = refl;
        many = at.blank;
        drawn = subst (λ (ls : List (mesh.Line M)). Drawn G (record { nodes = h.draft.nodes; lines = ls })) (sym none) blank;
        written = subst (AllWritten F) (sym none) tt;
        numbers = subst (λ (ls : List (mesh.Line M)). NumbersAt bs 0 (numbers_so_far F kind h.draft.nodes h.lines ls) next) (sym none) at.numbers;
        past = refl;
      }
