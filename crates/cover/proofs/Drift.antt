-- A walk of few links does not go far, so that wrapping tells its ends apart. Assumes nothing.
use Rattle.std.proofs.Common.{◌≡◌, ℕ, ◌+◌, ◌*◌, ◌^◌, ◌<◌, ◌≤◌, ℤ, pos, negsuc, ◌+ℤ◌, neg_ℤ, nat_abs, ◌≤ℤ◌, sym, ap, ◌∙◌, subst, mul-le-mul_left, mul-zero, mul-suc, arith, lit<, w32, SFits}
use lib.IntN.{+ℤ_invr}
use Rattle.std.specs.Int.{int_wrap}
use Rattle.std.proofs.lemmas.Int.{ints, int_wrap_fits, int_wrap-add_same}
use Rattle.label.specs.Group.{both}
use Rattle.lattice.specs.Triples.{Triple}
use Rattle.mesh.specs.Listed.{In}
use Rattle.mesh.specs.Net.{Line, Net}
use Rattle.mesh.specs.Junction.{Junction, spot}
use Rattle.mesh.specs.Walk.{Walk, stay, step}
use Rattle.mesh.specs.Link.{Along, Link, forward, backward}
use Rattle.mesh.proofs.Lists.{from_map}
use Rattle.cover.specs.Apart.{Apart}
use Rattle.cover.specs.Whole.{Whole, whole}
use Rattle.cover.specs.Wrap.{wrap_junction}
use Rattle.cover.specs.WholeNet.{whole_line, whole_net}
use Rattle.cover.specs.Small.{SmallLabels}

-- at most k apart
record Close (k : ℕ) (x y : ℤ) : Type 0 where
  up : x ≤ℤ (y +ℤ pos k)
  down : y ≤ℤ (x +ℤ pos k)

close_none : (x : ℤ) → Close 0 x x
close_none x = record { up = omega (arith, ints); down = omega (arith, ints) }

close_join : (j k : ℕ) (x y z : ℤ) → Close j x y → Close k y z → Close (j + k) x z
close_join j k x y z p q =
    let a = p.up in
    let b = p.down in
    let c = q.up in
    let d = q.down in
    record { up = omega (arith, ints); down = omega (arith, ints) }

close_step : (B : ℕ) (x y g : ℤ) → y ≡ x +ℤ g → nat_abs g ≤ B → Close B x y
close_step B x y (pos n) e h = record { up = omega (arith, ints); down = omega (arith, ints) }
close_step B x y (negsuc n) e h = record { up = omega (arith, ints); down = omega (arith, ints) }

fits_small : (m : ℕ) (z : ℤ) → m < 2 ^ 31 → z ≤ℤ pos m → neg_ℤ z ≤ℤ pos m → SFits w32 z
fits_small m (pos n) b h k = record { sfits = omega (arith, ints) }
fits_small m (negsuc n) b h k = record { sfits = omega (arith, ints) }

close_same : (m : ℕ) (x y : ℤ) → m < 2 ^ 31 → Close m x y → int_wrap w32 x ≡ int_wrap w32 y → x ≡ y
close_same m x y h c e =
    let a = c.up in
    let b = c.down in
    let f : SFits w32 (x +ℤ neg_ℤ y) = fits_small m (x +ℤ neg_ℤ y) h (omega (arith, ints)) (omega (arith, ints)) in
    let z : SFits w32 (pos 0) = record { sfits = lit< tt } in
    let p : x +ℤ neg_ℤ y ≡ pos 0 = sym (int_wrap_fits w32 (x +ℤ neg_ℤ y) f) ∙ int_wrap-add_same w32 x y (neg_ℤ y) e ∙ ap (int_wrap w32) (+ℤ_invr y) ∙ int_wrap_fits w32 (pos 0) z in
    omega (arith, ints)

-- each of three numbers
record Drift (k : ℕ) (x y : Whole) : Type 0 where
  first : Close k x.0 y.0
  second : Close k x.1.0 y.1.0
  third : Close k x.1.1 y.1.1

drift_none : (x : Whole) → Drift 0 x x
drift_none x = record { first = close_none x.0; second = close_none x.1.0; third = close_none x.1.1 }

close_back : (k : ℕ) (x y : ℤ) → Close k x y → Close k y x
close_back k x y p = record { up = p.down; down = p.up }

drift_back : (k : ℕ) (x y : Whole) → Drift k x y → Drift k y x
drift_back k x y d = record { first = close_back k x.0 y.0 d.first; second = close_back k x.1.0 y.1.0 d.second; third = close_back k x.1.1 y.1.1 d.third }

drift_join : (j k : ℕ) (x y z : Whole) → Drift j x y → Drift k y z → Drift (j + k) x z
drift_join j k x y z d e = record {
  first = close_join j k x.0 y.0 z.0 d.first e.first;
  second = close_join j k x.1.0 y.1.0 z.1.0 d.second e.second;
  third = close_join j k x.1.1 y.1.1 z.1.1 d.third e.third;
}

module _ (B : ℕ) (net : Net Triple) (small : SmallLabels B net) where
  along_drift : (l : Line Whole) → In l (whole_net net).lines → (a b : Junction Whole) → Along whole l a b → Drift B a.label b.label
  along_drift l i a b w =
      let r = from_map whole_line l net.lines i in
      let h = small r.0 r.1 in
      let e = r.2 in
      let starts : a.label ≡ w.by = ap (λ (j : Junction Whole). j.label) w.starts in
      let ends : b.label ≡ whole.mul w.by l.label = ap (λ (j : Junction Whole). j.label) w.ends in
      let moves : b.label ≡ whole.mul a.label l.label = ends ∙ ap (λ (x : Whole). whole.mul x l.label) (sym starts) in
      record {
        first = close_step B a.label.0 b.label.0 l.label.0 (ap (λ (t : Whole). t.0) moves) (subst (λ (m : Line Whole). nat_abs m.label.0 ≤ B) (sym e) h.first);
        second = close_step B a.label.1.0 b.label.1.0 l.label.1.0 (ap (λ (t : Whole). t.1.0) moves) (subst (λ (m : Line Whole). nat_abs m.label.1.0 ≤ B) (sym e) h.second);
        third = close_step B a.label.1.1 b.label.1.1 l.label.1.1 (ap (λ (t : Whole). t.1.1) moves) (subst (λ (m : Line Whole). nat_abs m.label.1.1 ≤ B) (sym e) h.third);
      }

  link_drift : (a b : Junction Whole) → Link whole (whole_net net) a b → Drift B a.label b.label
  link_drift a b (forward l i w) = along_drift l i a b w
  link_drift a b (backward l i w) = drift_back B b.label a.label (along_drift l i b a w)

  -- a walk of n links changes each number by at most B · n
  walk_drift : {n : ℕ} {a b : Junction Whole} → Walk (Link whole (whole_net net)) n a b → Drift (B * n) a.label b.label
  walk_drift {a = a} stay = subst (λ k. Drift k a.label a.label) (sym (mul-zero B)) (drift_none a.label)
  walk_drift (step {n = n} {a = a} {b = b} {c = c} l w) =
      let e = mul-suc B n in
      subst (λ k. Drift k a.label c.label) (omega arith) (drift_join B (B * n) a.label b.label c.label (link_drift a b l) (walk_drift w))

  pub wrap_apart : (R : ℕ) → B * R < 2 ^ 31 → Apart (Link whole (whole_net net)) wrap_junction R
  wrap_apart R room n a b h w e =
      let d = walk_drift w in
      let m = mul-le-mul_left B h in
      let k : B * n < 2 ^ 31 = omega arith in
      let node : a.node ≡ b.node = ap (λ (j : Junction Triple). j.node) e in
      let label : a.label ≡ b.label = both (close_same (B * n) a.label.0 b.label.0 k d.first (ap (λ (j : Junction Triple). j.label.0.0) e))
      (both (close_same (B * n) a.label.1.0 b.label.1.0 k d.second (ap (λ (j : Junction Triple). j.label.1.0.0) e))
      (close_same (B * n) a.label.1.1 b.label.1.1 k d.third (ap (λ (j : Junction Triple). j.label.1.1.0) e))) in
      λ i. spot (node i) (label i)
