-- The permutations of the points 0 to 7 are a group: the laws, for lists of images.
use Rattle.std.proofs.Common.{◌≡◌, ℕ, zero, suc, ◌<◌, true, ◌&&◌, eqb, List, length, get_or, sym, refl, ap, ◌∙◌, subst, map-id, arith, ext_get_or, eq-eqb, eqb-true}
use mathlib.Core.HLevel.{Σ_prop_path}
use mathlib.Core.List.{map-map}
use mathlib.Core.Bool.{Bool-set}
use lib.ListN.{length-map}
use Rattle.std.proofs.lemmas.List.{get_or-map}
use Rattle.std.proofs.lemmas.Bool.{and_parts, and_from}
use Rattle.symmetric.specs.Images.{occ, points, each_once, permutes, Perm, unmoved, followed, place, undone}
use Rattle.symmetric.proofs.Occurrences.{point_at, points_map, map_same, occ_map, place_in, place_read, place_only, once_at, once_from, eqb_iff}

-- what the images of a permutation have
pub record Facts (xs : List ℕ) : Type 0 where
  pub len : length xs ≡ 8
  pub low : points xs ≡ true
  pub one : (k : ℕ) → k < 8 → occ k xs ≡ 1

pub facts_of : (xs : List ℕ) → permutes xs ≡ true → Facts xs
facts_of xs g =
    let p = and_parts (eqb (length xs) 8) (points xs && each_once xs) g in
    let q = and_parts (points xs) (each_once xs) p.1 in
    record { len = eqb-true (length xs) 8 p.0; low = q.0; one = once_at xs q.1 }

pub permutes_from : (xs : List ℕ) → length xs ≡ 8 → points xs ≡ true → each_once xs ≡ true → permutes xs ≡ true
permutes_from xs l p o = and_from (eqb (length xs) 8) (points xs && each_once xs) (eq-eqb (length xs) 8 l) (and_from (points xs) (each_once xs) p o)

permutes_of : (xs : List ℕ) → Facts xs → permutes xs ≡ true
permutes_of xs f = permutes_from xs f.len f.low (once_from xs f.one)

-- what holds of each of the eight points
each_point : (P : ℕ → Type 0) → P 0 → P 1 → P 2 → P 3 → P 4 → P 5 → P 6 → P 7 → (x : ℕ) → x < 8 → P x
each_point P a b c d e f g h zero l = a
each_point P a b c d e f g h (suc zero) l = b
each_point P a b c d e f g h (suc (suc zero)) l = c
each_point P a b c d e f g h (suc (suc (suc zero))) l = d
each_point P a b c d e f g h (suc (suc (suc (suc zero)))) l = e
each_point P a b c d e f g h (suc (suc (suc (suc (suc zero))))) l = f
each_point P a b c d e f g h (suc (suc (suc (suc (suc (suc zero)))))) l = g
each_point P a b c d e f g h (suc (suc (suc (suc (suc (suc (suc zero))))))) l = h
each_point P a b c d e f g h (suc (suc (suc (suc (suc (suc (suc (suc x)))))))) l = absurd (let z : ⊥ = omega arith in z)

unmoved_at : (x : ℕ) → x < 8 → get_or unmoved x 0 ≡ x
unmoved_at = each_point (λ x. get_or unmoved x 0 ≡ x) refl refl refl refl refl refl refl refl

unmoved_one : (x : ℕ) → x < 8 → occ x unmoved ≡ 1
unmoved_one = each_point (λ x. occ x unmoved ≡ 1) refl refl refl refl refl refl refl refl

facts_unmoved : Facts unmoved
facts_unmoved = record { len = refl; low = refl; one = unmoved_one }

-- any eight numbers, read one by one
pub read_again : (p : List ℕ) → length p ≡ 8 → followed unmoved p ≡ p
read_again p l =
    ext_get_or 0 (followed unmoved p) p (sym l)
    (λ i h. get_or-map (λ i. get_or p i 0) unmoved i 0 0 h ∙ ap (λ (j : ℕ). get_or p j 0) (unmoved_at i h))

module _ (p : List ℕ) (P : Facts p) where
  sits : (k : ℕ) → k < 8 → 0 < occ k p
  sits k h = let e = P.one k h in omega arith

  within : (i : ℕ) → i < 8 → i < length p
  within i h = let e = P.len in omega arith

  pub image_below : (i : ℕ) → i < 8 → get_or p i 0 < 8
  image_below i h = point_at p i P.low (within i h)

  pub place_below : (k : ℕ) → k < 8 → place k p < 8
  place_below k h = let e = P.len in let b = place_in k p (sits k h) in omega arith

  pub image_place : (k : ℕ) → k < 8 → get_or p (place k p) 0 ≡ k
  image_place k h = place_read k p (sits k h)

  pub place_image : (i : ℕ) → i < 8 → place (get_or p i 0) p ≡ i
  place_image i h = place_only (get_or p i 0) p i (P.one (get_or p i 0) (image_below i h)) (within i h) refl

  place_test : (k i : ℕ) → k < 8 → i < 8 → eqb (get_or p i 0) k ≡ eqb i (place k p)
  place_test k i hk hi =
      eqb_iff (get_or p i 0) k i (place k p) (λ e. sym (place_image i hi) ∙ ap (λ (j : ℕ). place j p) e) (λ e. ap (λ (j : ℕ). get_or p j 0) e ∙ image_place k hk)

  undone_test : (j k : ℕ) → j < 8 → k < 8 → eqb (place k p) j ≡ eqb k (get_or p j 0)
  undone_test j k hj hk =
      eqb_iff (place k p) j k (get_or p j 0) (λ e. sym (image_place k hk) ∙ ap (λ (i : ℕ). get_or p i 0) e) (λ e. ap (λ (i : ℕ). place i p) e ∙ place_image j hj)

  facts_undone : Facts (undone p)
  facts_undone = record {
    len = refl;
    low = points_map (λ k. place k p) unmoved refl place_below;
    one = λ j h. occ_map (λ k. place k p) j (get_or p j 0) unmoved refl (λ k hk. undone_test j k h hk) ∙ unmoved_one (get_or p j 0) (image_below j h);
  }

  pub undone_at : (x : ℕ) → x < 8 → get_or (undone p) x 0 ≡ place x p
  undone_at x h = get_or-map (λ k. place k p) unmoved x 0 0 h ∙ ap (λ (k : ℕ). place k p) (unmoved_at x h)

  -- different points have different images
  pub images_apart : (i k : ℕ) → i < 8 → k < 8 → get_or p i 0 ≡ get_or p k 0 → i ≡ k
  images_apart i k hi hk e = sym (place_image i hi) ∙ ap (λ (j : ℕ). place j p) e ∙ place_image k hk

  -- what takes each image back to its point is the inverse
  pub undone_is : (r : List ℕ) → length r ≡ 8 → ((k : ℕ) → k < 8 → get_or r (get_or p k 0) 0 ≡ k) → r ≡ undone p
  undone_is r l f =
      ext_get_or 0 r (undone p) l
      (λ j h. let b : j < 8 = omega arith in
      ap (λ (i : ℕ). get_or r i 0) (sym (image_place j b)) ∙ f (place j p) (place_below j b) ∙ sym (undone_at j b))

-- the image of each point's image
pub followed_is : (p q r : List ℕ) → length p ≡ 8 → length r ≡ 8 → ((k : ℕ) → k < 8 → get_or r k 0 ≡ get_or q (get_or p k 0) 0) → r ≡ followed p q
followed_is p q r lp lr f =
    ext_get_or 0 r (followed p q) (lr ∙ sym (length-map p (λ x. get_or q x 0) ∙ lp))
    (λ i h. f i (omega arith) ∙ sym (let l : i < length p = omega arith in get_or-map (λ x. get_or q x 0) p i 0 0 l))

module _ (p q : List ℕ) (P : Facts p) (Q : Facts q) where
  facts_followed : Facts (followed p q)
  facts_followed = record {
    len = length-map p (λ i. get_or q i 0) ∙ P.len;
    low = points_map (λ i. get_or q i 0) p P.low (image_below q Q);
    one = λ k h. occ_map (λ i. get_or q i 0) k (place k q) p P.low (λ x hx. place_test q Q k x h hx) ∙ P.one (place k q) (place_below q Q k h);
  }

-- equal images, equal permutations
pub perm_same : (x y : Perm) → x.0 ≡ y.0 → x ≡ y
perm_same x y e = Σ_prop_path (λ (xs : List ℕ). Bool-set (permutes xs) true) e

pub facts : (p : Perm) → Facts p.0
facts p = facts_of p.0 p.1

pub permutes_unmoved : permutes unmoved ≡ true
permutes_unmoved = permutes_of unmoved facts_unmoved

pub permutes_followed : (p q : Perm) → permutes (followed p.0 q.0) ≡ true
permutes_followed p q = permutes_of (followed p.0 q.0) (facts_followed p.0 q.0 (facts p) (facts q))

pub permutes_undone : (p : Perm) → permutes (undone p.0) ≡ true
permutes_undone p = permutes_of (undone p.0) (facts_undone p.0 (facts p))

pub followed_left : (p : Perm) → followed unmoved p.0 ≡ p.0
followed_left p = read_again p.0 (facts p).len

pub followed_right : (p : Perm) → followed p.0 unmoved ≡ p.0
followed_right p = map_same (λ x. get_or unmoved x 0) (λ x. x) p.0 (facts p).low unmoved_at ∙ map-id p.0

pub followed_assoc : (p q r : Perm) → followed (followed p.0 q.0) r.0 ≡ followed p.0 (followed q.0 r.0)
followed_assoc p q r =
    map-map (λ i. get_or r.0 i 0) (λ i. get_or q.0 i 0) p.0
    ∙ map_same (λ x. get_or r.0 (get_or q.0 x 0) 0) (λ x. get_or (followed q.0 r.0) x 0) p.0 (facts p).low
    (λ x h. sym (get_or-map (λ i. get_or r.0 i 0) q.0 x 0 0 (within q.0 (facts q) x h)))

pub followed_undone : (p : Perm) → followed p.0 (undone p.0) ≡ unmoved
followed_undone p =
    let xs = p.0 in
    let e = length-map xs (λ i. get_or (undone xs) i 0) in
    ext_get_or 0 (followed xs (undone xs)) unmoved (e ∙ (facts p).len)
    (λ i h. let l : i < length xs = subst (λ (n : ℕ). i < n) e h in
    let b : i < 8 = subst (λ (n : ℕ). i < n) (facts p).len l in
    get_or-map (λ i. get_or (undone xs) i 0) xs i 0 0 l ∙ undone_at xs (facts p) (get_or xs i 0) (image_below xs (facts p) i b)
    ∙ place_image xs (facts p) i b ∙ sym (unmoved_at i b))

pub undone_followed : (p : Perm) → followed (undone p.0) p.0 ≡ unmoved
undone_followed p =
    map-map (λ i. get_or p.0 i 0) (λ k. place k p.0) unmoved
    ∙ map_same (λ k. get_or p.0 (place k p.0) 0) (λ k. k) unmoved refl (image_place p.0 (facts p)) ∙ map-id unmoved
