-- Reading and writing undo each other, and a sheet has one answer.
use Rattle.std.proofs.Common.{◌≡◌, ℕ, ◌+◌, ◌≤◌, min, ◌≢◌, List, [], ◌∷◌, ◌++◌, length, take, drop, ℤ, Some, None, Ok, Err, Option, Result, sym, refl, ap, ◌∙◌, inl, inr, append-nil, arith, MatchResult}
use Rattle.std.proofs.lemmas.List.{length-map, length-take, take_at}
use Rattle.std.proofs.lemmas.Bool.{cases_eq}
use Rattle.label.specs.Group.{Group}
use Rattle.label.specs.Form.{Form}
use Rattle.mesh.specs.Net as mesh
use Rattle.mesh.specs.Drawn.{Drawn}
use Rattle.net.specs.Verdict.{First, here, later}
use Rattle.net.specs.Model.{line_of, lines_of, net_of}
use Rattle.net.specs.declared.records.Line.{Line}
use Rattle.net.specs.declared.drafts.Draft.{Draft}
use Rattle.net.proofs.Steps.{lines_count}
use Rattle.sheet.specs.Stored.{Small}
use Rattle.sheet.specs.Sheet.{sheet, AllWritten}
use Rattle.sheet.specs.Clauses.{WasRead, WasRefused, ReadSheet, WriteBreaks, write_rules}
use Rattle.sheet.specs.RoundTrip.{WrittenAgain, ReadAgain, OneNet, OneAnswer}
use Rattle.sheet.specs.declared.faults.SheetFault.{SheetFault}
use Rattle.sheet.specs.declared.refusals.WriteRefusal.{WriteRefusal}
use Rattle.sheet.proofs.Readers.{ok_err}
use Rattle.sheet.proofs.SheetReader.{Reads, reads_one, refused_reads, whole_reads}

-- a label that cannot but be written is written
told : (o : Option (List ℤ)) → (((xs : List ℤ) × (o ≡ Some xs) → ⊥) → ⊥) → (xs : List ℤ) × (o ≡ Some xs)
told None n = absurd (n (λ p. let z : ◌≡◌ {A = ℕ} 0 1 = let e = p.1 in cc in omega arith))
told (Some xs) n = (xs, refl)

module _ {M : Type 0} (F : Form M) where
  all_told : (ls : List (mesh.Line M)) → ((AllWritten F ls → ⊥) → ⊥) → AllWritten F ls
  all_told [] n = tt
  all_told (l ∷ ls) n = (told (F.tells l.label) (λ no_form. n (λ w. no_form w.0)), all_told ls (λ unwritten. n (λ w. unwritten w.1)))

equal : (m n : ℕ) → (m ≢ n → ⊥) → m ≡ n
equal m n h = elim (cases_eq m n) [ inl e ↦ e | inr d ↦ absurd (h d) ]

module _ {L M : Type 0} (G : Group M) (F : Form M) (stands : L → M) (kind : ℕ) (small : Small kind) where
  -- the bytes of a drawn net are read as the net
  sheet_reads : (d : Draft) (list : List (Line L)) (bytes : List ℕ) (room : ℕ) → d.lines ≤ length list → d.lines ≤ room → bytes ≡ sheet F kind (net_of stands d list) → AllWritten F (net_of stands d list).lines → Drawn G (net_of stands d list) → Reads F G kind room bytes (Ok (net_of stands d list))
  sheet_reads d list bytes room h in_room e w drawn =
      let ls = lines_of stands d.lines list in
      let count = lines_count stands list d.lines h in
      whole_reads F G kind room bytes small d.nodes ls (omega arith) (record {
        nodes_in = λ out. elim out [ inl a ↦ omega (arith, d.some_nodes) | inr b ↦ omega (arith, d.few_nodes) ];
        count_in = λ out. omega (arith, d.few_lines);
        drawn = drawn;
        written = w;
        bytes = e ∙ sym (append-nil (sheet F kind (net_of stands d list)));
      })

  read_reads : (bytes : List ℕ) (list : List (Line L)) (d : Draft) (list' : List (Line L)) (room : ℕ) → d.lines ≤ room → WasRead G F stands kind bytes list d list' → Reads F G kind room bytes (Ok (net_of stands d list'))
  read_reads bytes list d list' room in_room was =
      let long = was.long in
      let same = was.room in
      sheet_reads d list' bytes room (omega (arith, d.in_room)) in_room was.bytes_are was.written was.drawn

  -- the lines that a list keeps have room in it
  kept_room : (ls : List (mesh.Line M)) (list : List (Line L)) → lines_of stands (length ls) list ≡ ls → length ls ≤ length list
  kept_room ls list e =
      let n : length ls ≡ min (length ls) (length list) = sym (ap length e) ∙ length-map (take (length ls) list) (line_of stands) ∙ length-take (length ls) list in
      omega arith

  refusal_reads : (bytes : List ℕ) (list list' : List (Line L)) (f : SheetFault) → WasRefused G F stands kind bytes list f list' → Reads F G kind (length list) bytes (Err f)
  refusal_reads bytes list list' f was =
      let within = kept_room was.lines list' was.kept in
      let long = was.long in
      refused_reads F G kind (length list) bytes small was.lines f (omega arith) was.fault

  same_net : (bytes : List ℕ) (room : ℕ) (m n : mesh.Net M) → Reads F G kind room bytes (Ok m) → Reads F G kind room bytes (Ok n) → m ≡ n
  same_net bytes room m n a b = let e : ◌≡◌ {A = Result (mesh.Net M) SheetFault} (Ok m) (Ok n) = reads_one F G kind room bytes (Ok m) (Ok n) a b in cc

  never_both : (bytes : List ℕ) (room : ℕ) (n : mesh.Net M) (f : SheetFault) → Reads F G kind room bytes (Ok n) → Reads F G kind room bytes (Err f) → ⊥
  never_both bytes room n f a b = ok_err n f (reads_one F G kind room bytes (Ok n) (Err f) a b)

  pub one_net : OneNet G F stands kind
  one_net bytes list list' other other' d e a b =
      let room = d.lines + e.lines in
      same_net bytes room (net_of stands d list') (net_of stands e other') (read_reads bytes list d list' room (omega arith) a) (read_reads bytes other e other' room (omega arith) b)

  pub one_answer : OneAnswer G F stands kind
  one_answer bytes list list' other' (Ok d) (Ok e) a b = one_net bytes list list' list other' d e a b
  one_answer bytes list list' other' (Ok d) (Err h) a b =
      let same = a.room in
      never_both bytes (length list) (net_of stands d list') h (read_reads bytes list d list' (length list) (omega (arith, d.in_room)) a) (refusal_reads bytes list other' h b)
  one_answer bytes list list' other' (Err f) (Ok e) a b =
      let same = b.room in
      never_both bytes (length list) (net_of stands e other') f (read_reads bytes list e other' (length list) (omega (arith, e.in_room)) b) (refusal_reads bytes list list' f a)
  one_answer bytes list list' other' (Err f) (Err h) a b =
      let e : ◌≡◌ {A = Result (mesh.Net M) SheetFault} (Err f) (Err h) = reads_one F G kind (length list) bytes (Err f) (Err h) (refusal_reads bytes list list' f a) (refusal_reads bytes list other' h b) in
      cc

  pub read_again : ReadAgain G F stands kind
  read_again d list out out' n other other' r drawn w in_room was =
      let net = net_of stands d list in
      let room = equal (length list) d.room w.0.0 in
      let bytes : take n out' ≡ sheet F kind net = ap (take n) w.1.1 ∙ take_at (sheet F kind net) (drop n out) n (sym w.1.0) in
      let reads = sheet_reads d list (take n out') (length other) (omega (arith, d.in_room)) in_room bytes (all_told F net.lines w.0.1.0) drawn in
      again r was reads
    where
      again : (r : Result Draft SheetFault) → ReadSheet G F stands kind (take n out') other r other' → Reads F G kind (length other) (take n out') (Ok (net_of stands d list)) → MatchResult r (λ e. net_of stands e other' ≡ net_of stands d list) (λ _. ⊥)
      again (Ok e) was reads =
          let same = was.room in
          same_net (take n out') (length other) (net_of stands e other') (net_of stands d list) (read_reads (take n out') other e other' (length other) (omega (arith, e.in_room)) was) reads
      again (Err f) was reads = never_both (take n out') (length other) (net_of stands d list) f reads (refusal_reads (take n out') other other' f was)

  -- writing what was read breaks no rule
  unrefused : (bytes : List ℕ) (list list' : List (Line L)) (d : Draft) (out : List ℕ) (e : WriteRefusal) → WasRead G F stands kind bytes list d list' → length bytes ≤ length out → First (WriteBreaks G F stands kind (net_of stands d list') d.room (length list') (length out)) e (write_rules G F stands kind) → ⊥
  unrefused bytes list list' d out e was h (here other) = other (was.long ∙ sym was.room)
  unrefused bytes list list' d out e was h (later n (here unwritten)) = unwritten was.written
  unrefused bytes list list' d out e was h (later n (later m (here short))) = let long = ap length was.bytes_are in omega arith
  unrefused bytes list list' d out e was h (later n (later m (later k f))) = elim f [ ]

  pub written_again : WrittenAgain G F stands kind
  written_again bytes list list' d out out' (Err e) was w h = absurd (unrefused bytes list list' d out e was h w.0)
  written_again bytes list list' d out out' (Ok n) was w h =
      let same : n ≡ length bytes = w.1.0 ∙ sym (ap length was.bytes_are) in
      (ap Ok same, w.1.1 ∙ ap (λ s. s ++ drop n out) (sym was.bytes_are) ∙ ap (λ k. bytes ++ drop k out) same)
