-- Eight images read and written again.
use Rattle.std.proofs.Common.{◌≡◌, ℕ, zero, suc, ◌<◌, ◌≤◌, Bool, true, false, ◌&&◌, ltb, leb, List, [], ◌∷◌, map, length, replicate, ℤ, pos, negsuc, Some, None, sym, refl, ap, ◌∙◌, subst, map-id, arith, ltb-true}
use mathlib.Core.List.{map-map}
use Rattle.std.proofs.lemmas.Bool.{and_parts, and_from, le-leb, both_ways}
use Rattle.label.specs.Form.{inside, fit}
use Rattle.symmetric.specs.Images.{points, permutes, Perm}
use Rattle.symmetric.specs.Written.{image_slot, image_slots, point_of, perm_if, perm_of, perm_read, perm_told}
use Rattle.symmetric.proofs.Laws.{facts, perm_same}

perm_if_yes : (xs : List ℕ) (b : Bool) (e : permutes xs ≡ b) (g : permutes xs ≡ true) → perm_if xs b e ≡ Some (xs, g)
perm_if_yes xs true e g = ap Some (perm_same (xs, e) (xs, g) refl)
perm_if_yes xs false e g = absurd (both_ways (permutes xs) e g)

perm_if_no : (xs : List ℕ) (b : Bool) (e : permutes xs ≡ b) → permutes xs ≡ false → perm_if xs b e ≡ None
perm_if_no xs true e g = absurd (both_ways (permutes xs) g e)
perm_if_no xs false e g = refl

perm_if_is : (xs : List ℕ) (b : Bool) (e : permutes xs ≡ b) (m : Perm) → perm_if xs b e ≡ Some m → m.0 ≡ xs
perm_if_is xs true e m s = let t : ◌≡◌ {A = Perm} (xs, e) m = cc in sym (ap (λ (p : Perm). p.0) t)
perm_if_is xs false e m s = absurd (let t : ◌≡◌ {A = ℕ} 0 1 = cc in let z : ⊥ = omega arith in z)

perm_of_yes : (xs : List ℕ) (g : permutes xs ≡ true) → perm_of xs ≡ Some (xs, g)
perm_of_yes xs g = perm_if_yes xs (permutes xs) refl g

perm_of_no : (xs : List ℕ) → permutes xs ≡ false → perm_of xs ≡ None
perm_of_no xs g = perm_if_no xs (permutes xs) refl g

-- numbers in range are images as they stand
told_read : (n : ℕ) (xs : List ℤ) → fit (replicate n image_slot) xs ≡ true → map pos (map point_of xs) ≡ xs
told_read zero [] f = refl
told_read zero (x ∷ xs) f = absurd (let t : ◌≡◌ {A = ℕ} 0 1 = cc in let z : ⊥ = omega arith in z)
told_read (suc n) [] f = refl
told_read (suc n) (pos x ∷ xs) f =
    ap (λ (zs : List ℤ). pos x ∷ zs) (told_read n xs (and_parts (inside image_slot (pos x)) (fit (replicate n image_slot) xs) f).1)
told_read (suc n) (negsuc x ∷ xs) f = absurd (let t : ◌≡◌ {A = ℕ} 0 1 = cc in let z : ⊥ = omega arith in z)

read_told : (xs : List ℕ) → map point_of (map pos xs) ≡ xs
read_told xs = map-map point_of pos xs ∙ map-id xs

pub perm_read_yes : (xs : List ℕ) (g : permutes xs ≡ true) → perm_read (map pos xs) ≡ Some (xs, g)
perm_read_yes xs g = ap perm_of (read_told xs) ∙ perm_of_yes xs g

pub perm_read_no : (xs : List ℕ) → permutes xs ≡ false → perm_read (map pos xs) ≡ None
perm_read_no xs g = ap perm_of (read_told xs) ∙ perm_of_no xs g

-- points are in range
pub fit_points : (n : ℕ) (xs : List ℕ) → length xs ≡ n → points xs ≡ true → fit (replicate n image_slot) (map pos xs) ≡ true
fit_points zero [] l p = refl
fit_points zero (x ∷ xs) l p = absurd (let z : ⊥ = omega arith in z)
fit_points (suc n) [] l p = absurd (let z : ⊥ = omega arith in z)
fit_points (suc n) (x ∷ xs) l p =
    let q = and_parts (ltb x 8) (points xs) p in
    let h : x < 8 = ltb-true x 8 q.0 in
    let low : x ≤ 7 = omega arith in
    and_from (inside image_slot (pos x)) (fit (replicate n image_slot) (map pos xs)) (and_from (leb 0 x) (leb x 7) (le-leb 0 x (omega arith)) (le-leb x 7 low)) (fit_points n xs (omega arith) q.1)

pub written_again : (xs : List ℤ) (m : Perm) → (true && fit image_slots xs) ≡ true → perm_read xs ≡ Some m → perm_told m ≡ Some xs
written_again xs m f e =
    ap (λ (ys : List ℕ). Some (map pos ys)) (perm_if_is (map point_of xs) (permutes (map point_of xs)) refl m e) ∙ ap Some (told_read 8 xs f)

pub read_back : (m : Perm) (xs : List ℤ) → perm_told m ≡ Some xs → ((true && fit image_slots xs) ≡ true) × (perm_read xs ≡ Some m)
read_back m xs e =
    let t : map pos m.0 ≡ xs = cc in (
      subst (λ (zs : List ℤ). fit image_slots zs ≡ true) t (fit_points 8 m.0 (facts m).len (facts m).low),
      subst (λ (zs : List ℤ). perm_read zs ≡ Some m) t (perm_read_yes m.0 m.1),
    )
