use Rattle.std.proofs.Common.{◌≡◌, ℕ, List, [], ◌∷◌, length, drop, sym, ◌∙◌, subst, inl, inr, zero-add, arith}
use Rattle.std.proofs.lemmas.Result.{err_from_is_err_and}
use Rattle.net.specs.Verdict.{First, here, later}
use Rattle.net.specs.Rules.{OpenBreaks, open_rules}
use Rattle.net.specs.declared.refusals.NetRefusal.{NetRefusal}
use Rattle.sheet.specs.Stored.{text}
use Rattle.sheet.specs.Faults.{at_place, Unreadable, NoHeading, no_kind, other_kind, no_nodes, nodes_out, no_count, count_out, NodesOut}
use Rattle.sheet.specs.Reading.{NumberAt, NumbersAt}
use Rattle.sheet.specs.declared.faults.Placed.{Placed}
use Rattle.sheet.specs.declared.faults.BytesFault.{BytesFault}
use Rattle.sheet.proofs.Places.{numbers_one, numbers_more}
use Rattle.sheet.proofs.reader.Reader.heading.Goals as goal

open_broken : {n : ℕ} {e : NetRefusal} → First (OpenBreaks n) e open_rules → NodesOut n
open_broken (here b) = b
open_broken (later n f) = elim f [ ]

module _ (bytes : List ℕ) (kind : ℕ) where
  -- the fault after numbers that stand at the front
  moved : (ns : List ℕ) (p : ℕ) (f : Placed BytesFault) → NumbersAt bytes 0 ns p → Unreadable p (length bytes) (drop p bytes) f → Unreadable (length (text ns)) (length bytes) (drop p bytes) f
  moved ns p f at u = subst (λ (q : ℕ). Unreadable q (length bytes) (drop p bytes) f) (at.next_is ∙ zero-add (length (text ns))) u

  placed : (ns : List ℕ) (p : ℕ) (f : BytesFault) → NumbersAt bytes 0 ns p → NoHeading kind (length bytes) bytes (at_place f (length (text ns))) → NoHeading kind (length bytes) bytes (at_place f p)
  placed ns p f at h = subst (λ (q : ℕ). NoHeading kind (length bytes) bytes (at_place f q)) (sym (at.next_is ∙ zero-add (length (text ns)))) h

  -- the kind at the front
  kind_at : (p n q : ℕ) → p ≡ 0 → n ≡ kind → NumberAt bytes p n q → NumbersAt bytes 0 (kind ∷ []) q
  kind_at p n q e f one = subst (λ (k : ℕ). NumbersAt bytes 0 (k ∷ []) q) f (numbers_one bytes 0 n q (omega arith) (subst (λ (z : ℕ). NumberAt bytes z n q) e one))

pub returns-in_err-number : goal.returns-in_err-number
returns-in_err-number g c =
    let p = err_from_is_err_and c.from_residual.result c.from_residual.ensures.1 in
    rw (p.1, p.2) (record { bytes = c.number.ensures.bytes; told = no_kind _ (rw c.requires at c.in_err-number.ensures.told) })

pub returns-then-branch-KIND : goal.returns-then-branch-KIND
returns-then-branch-KIND g c =
    let one = rw c.requires at c.in_ok-number.ensures.told in
    record { bytes = c.number.ensures.bytes; told = rw (c.found_at.ensures, c.requires) (other_kind c.in_ok-number.field-0 (drop c.number.new.self.place c.args.self.now.bytes.now) one.small one.bytes_are (λ e. c.if-branch-KIND.true (e ∙ sym c.KIND.ensures))) }

pub returns-in_err-nodes : goal.returns-in_err-nodes
returns-in_err-nodes g c =
    let bs = c.args.self.now.bytes.now in
    let kind = g.K.SheetKind.KIND in
    let q = c.number.new.self.place in
    let at = kind_at bs kind c.args.self.now.place c.in_ok-number.field-0 q c.requires (c.if-branch-KIND.false ∙ c.KIND.ensures) c.in_ok-number.ensures.told in
    let p = err_from_is_err_and c.from_residual-in_err-nodes.result c.from_residual-in_err-nodes.ensures.1 in
    rw (p.1, p.2) (record { bytes = c.number-2.ensures.bytes ∙ c.number.ensures.bytes; told = no_nodes (drop q bs) _ at.bytes_are (moved bs kind (kind ∷ []) q _ at (rw c.number.ensures.bytes at c.in_err-nodes.ensures.told)) })

pub returns-in_default : goal.returns-in_default
returns-in_default g c =
    let bs = c.args.self.now.bytes.now in
    let kind = g.K.SheetKind.KIND in
    let q = c.number.new.self.place in
    let r = c.number-2.new.self.place in
    let n = c.in_ok-nodes.nodes in
    let at = kind_at bs kind c.args.self.now.place c.in_ok-number.field-0 q c.requires (c.if-branch-KIND.false ∙ c.KIND.ensures) c.in_ok-number.ensures.told in
    let two = rw c.number.ensures.bytes at c.in_ok-nodes.ensures.told in
    let at2 = numbers_more bs 0 (kind ∷ []) q n r at two in
    record { bytes = c.number-2.ensures.bytes ∙ c.number.ensures.bytes; told = rw c.found_at-in_default.ensures (placed bs kind (kind ∷ []) q _ at (nodes_out n (drop r bs) two.small at2.bytes_are (open_broken c.in_default.ensures.0))) }

pub returns-in_err-lines : goal.returns-in_err-lines
returns-in_err-lines g c =
    let bs = c.args.self.now.bytes.now in
    let kind = g.K.SheetKind.KIND in
    let q = c.number.new.self.place in
    let r = c.number-2.new.self.place in
    let n = c.in_ok-nodes.nodes in
    let at = kind_at bs kind c.args.self.now.place c.in_ok-number.field-0 q c.requires (c.if-branch-KIND.false ∙ c.KIND.ensures) c.in_ok-number.ensures.told in
    let at2 = numbers_more bs 0 (kind ∷ []) q n r at (rw c.number.ensures.bytes at c.in_ok-nodes.ensures.told) in
    let p = err_from_is_err_and c.from_residual-in_err-lines.result c.from_residual-in_err-lines.ensures.1 in
    rw (p.1, p.2) (record { bytes = c.number-3.ensures.bytes ∙ c.number-2.ensures.bytes ∙ c.number.ensures.bytes; told = no_count n (drop r bs) _ c.in-Ok.ensures.0.0 at2.bytes_are (moved bs kind (kind ∷ n ∷ []) r _ at2 (rw (c.number-2.ensures.bytes, c.number.ensures.bytes) at c.in_err-lines.ensures.told)) })

pub returns-then-lines : goal.returns-then-lines
returns-then-lines g c =
    let bs = c.args.self.now.bytes.now in
    let kind = g.K.SheetKind.KIND in
    let q = c.number.new.self.place in
    let r = c.number-2.new.self.place in
    let s = c.number-3.new.self.place in
    let n = c.in_ok-nodes.nodes in
    let m = c.in_ok-lines.lines in
    let at = kind_at bs kind c.args.self.now.place c.in_ok-number.field-0 q c.requires (c.if-branch-KIND.false ∙ c.KIND.ensures) c.in_ok-number.ensures.told in
    let at2 = numbers_more bs 0 (kind ∷ []) q n r at (rw c.number.ensures.bytes at c.in_ok-nodes.ensures.told) in
    let three = rw (c.number-2.ensures.bytes, c.number.ensures.bytes) at c.in_ok-lines.ensures.told in
    let at3 = numbers_more bs 0 (kind ∷ n ∷ []) r m s at2 three in
    record { bytes = c.number-3.ensures.bytes ∙ c.number-2.ensures.bytes ∙ c.number.ensures.bytes; told = rw c.found_at-then-lines.ensures (placed bs kind (kind ∷ n ∷ []) r _ at2 (count_out n m (drop s bs) c.in-Ok.ensures.0.0 three.small at3.bytes_are c.if-lines.true)) }

pub returns : goal.returns
returns g c =
    let bs = c.args.self.now.bytes.now in
    let kind = g.K.SheetKind.KIND in
    let q = c.number.new.self.place in
    let r = c.number-2.new.self.place in
    let s = c.number-3.new.self.place in
    let n = c.in_ok-nodes.nodes in
    let m = c.in_ok-lines.lines in
    let opened = c.in-Ok.ensures.1 in
    let at = kind_at bs kind c.args.self.now.place c.in_ok-number.field-0 q c.requires (c.if-branch-KIND.false ∙ c.KIND.ensures) c.in_ok-number.ensures.told in
    let at2 = numbers_more bs 0 (kind ∷ []) q n r at (rw c.number.ensures.bytes at c.in_ok-nodes.ensures.told) in
    let at3 = numbers_more bs 0 (kind ∷ n ∷ []) r m s at2 (rw (c.number-2.ensures.bytes, c.number.ensures.bytes) at c.in_ok-lines.ensures.told) in
    record {
      bytes = c.number-3.ensures.bytes ∙ c.number-2.ensures.bytes ∙ c.number.ensures.bytes;
      told = record {
        nodes_in = λ out. elim out [ inl a ↦ omega (arith, c.in-Ok.draft.some_nodes) | inr b ↦ omega (arith, c.in-Ok.draft.few_nodes) ];
        count_in = λ out. omega (arith, c.if-lines.false);
        blank = opened.blank;
        room = opened.room;
        numbers = subst (λ (x : ℕ). NumbersAt bs 0 (kind ∷ x ∷ m ∷ []) s) (sym opened.same_nodes) at3;
      };
    }
