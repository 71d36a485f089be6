-- Rows that tell lists apart, and how lists of one length compare.
use Rattle.std.proofs.Common.{◌≡◌, ℕ, zero, suc, List, [], ◌∷◌, length, refl, ap, ◌∙◌, arith}
use Rattle.std.specs.Ordering.{ordering_then, nat_cmp}
use Rattle.std.specs.Cmp.Lexicographic.{slice_cmp}
use Rattle.label.specs.NumberOrder.{number_order}
use Rattle.symmetric.specs.Images.{Perm}
use Rattle.symmetric.specs.FromLeft.{Row, row, row_order}
use Rattle.symmetric.proofs.Laws.{perm_same, facts}

-- lists of one length whose rows are the same
pub row_apart : (n : ℕ) (xs ys : List ℕ) → length xs ≡ n → length ys ≡ n → row n xs ≡ row n ys → xs ≡ ys
row_apart zero [] [] l m e = refl
row_apart zero [] (y ∷ ys) l m e = absurd (let z : ⊥ = omega arith in z)
row_apart zero (x ∷ xs) ys l m e = absurd (let z : ⊥ = omega arith in z)
row_apart (suc n) [] ys l m e = absurd (let z : ⊥ = omega arith in z)
row_apart (suc n) (x ∷ xs) [] l m e = absurd (let z : ⊥ = omega arith in z)
row_apart (suc n) (x ∷ xs) (y ∷ ys) l m e =
    ap (λ (w : ℕ). w ∷ xs) (ap (λ (r : Row ℕ (suc n)). r.0) e)
    ∙ ap (λ (ws : List ℕ). y ∷ ws) (row_apart n xs ys (omega arith) (omega arith) (ap (λ (r : Row ℕ (suc n)). r.1) e))

pub perms_apart : (p q : Perm) → row 8 p.0 ≡ row 8 q.0 → p ≡ q
perms_apart p q e = perm_same p q (row_apart 8 p.0 q.0 (facts p).len (facts q).len e)

-- lists of one length compare as their rows
pub rows_compare : (n : ℕ) (xs ys : List ℕ) → length xs ≡ n → length ys ≡ n → slice_cmp nat_cmp xs ys ≡ (row_order number_order n).cmp (row n xs) (row n ys)
rows_compare zero [] [] l m = refl
rows_compare zero [] (y ∷ ys) l m = absurd (let z : ⊥ = omega arith in z)
rows_compare zero (x ∷ xs) ys l m = absurd (let z : ⊥ = omega arith in z)
rows_compare (suc n) [] ys l m = absurd (let z : ⊥ = omega arith in z)
rows_compare (suc n) (x ∷ xs) [] l m = absurd (let z : ⊥ = omega arith in z)
rows_compare (suc n) (x ∷ xs) (y ∷ ys) l m = ap (ordering_then (nat_cmp x y)) (rows_compare n xs ys (omega arith) (omega arith))
