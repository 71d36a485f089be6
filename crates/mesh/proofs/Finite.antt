-- Balls are finite where equality is decided and each junction has a list of what it is linked to.
use Rattle.std.proofs.Common.{◌≡◌, ℕ, zero, suc, ◌≤◌, List, [], ◌∷◌, ◌++◌, sym, refl, subst, inl, inr, arith}
use native.Mathlib.Decide.{dec_le, ℕ_discrete}
use Rattle.mesh.specs.Walk.{Walk}
use Rattle.mesh.specs.Distance.{Distance, Within}
use Rattle.mesh.specs.WalkLaws.{Symmetric}
use Rattle.mesh.specs.Listed.{In}
use Rattle.mesh.specs.Exactly.{Distinct, Exactly}
use Rattle.mesh.proofs.Walks.{then_step, one_distance, no_walk, onward, not_beyond, beside}
use Rattle.mesh.proofs.Shells.{within_zero}
use Rattle.mesh.proofs.Lists.{in_left, in_right, in_either}

module _ {J : Type 0} (same : (a b : J) → Dec (a ≡ b)) where
  pub dec_in : (x : J) (xs : List J) → Dec (In x xs)
  dec_in x [] = no (λ i. i)
  dec_in x (y ∷ ys) =
      elim (same x y) [
        | yes e ↦ yes (inl e)
        | no f ↦ elim (dec_in x ys) [ yes i ↦ yes (inr i) | no g ↦ no (λ k. elim k [ inl e ↦ f e | inr i ↦ g i ]) ]
      ]

  -- the list with each thing in it once
  pub once : (xs : List J) → (ys : List J) × Distinct ys × ((z : J) → In z ys → In z xs) × ((z : J) → In z xs → In z ys)
  once [] = ([], tt, (λ z i. i), (λ z i. i))
  once (x ∷ xs) =
      let r = once xs in
      elim (dec_in x r.0) [
        | yes i ↦ (r.0, r.1, (λ z j. inr (r.2 z j)), (λ z j. elim j [ inl e ↦ subst (λ (w : J). In w r.0) (sym e) i | inr k ↦ r.3 z k ]))
        | no f ↦ (x ∷ r.0, (f, r.1), (λ z j. elim j [ inl e ↦ inl e | inr k ↦ inr (r.2 z k) ]), (λ z j. elim j [ inl e ↦ inl e | inr k ↦ inr (r.3 z k) ]))
      ]

-- what of the list passes a test that decides Q
pub sift : {J : Type 0} (P Q : J → Type 0) → ((b : J) → P b → Dec (Q b)) → ((b : J) → Q b → P b) → (xs : List J) → Exactly P xs → (ys : List J) × Exactly Q ys
sift {J} P Q test sub xs x =
    let r = go xs x.distinct (λ b i. test b (x.only b i)) in
    (r.0, record { distinct = r.1; only = λ b i. (r.2 b i).1; all = λ b q. r.3 b (x.all b (sub b q)) q })
  where
    go : (zs : List J) → Distinct zs → ((b : J) → In b zs → Dec (Q b)) → (ys : List J) × Distinct ys × ((b : J) → In b ys → In b zs × Q b) × ((b : J) → In b zs → Q b → In b ys)
    go [] d t = ([], tt, (λ b i. absurd i), (λ b i q. i))
    go (z ∷ zs) d t =
        let r = go zs d.1 (λ b i. t b (inr i)) in
        elim (t z (inl refl)) [
          | yes p ↦ (
            z ∷ r.0,
            ((λ i. d.0 (r.2 z i).0), r.1),
            (λ b i. elim i [ inl e ↦ (inl e, subst Q (sym e) p) | inr j ↦ let s = r.2 b j in (inr s.0, s.1) ]),
            (λ b i q. elim i [ inl e ↦ inl e | inr j ↦ inr (r.3 b j q) ]),
          )
          | no f ↦ (
            r.0,
            r.1,
            (λ b i. let s = r.2 b i in (inr s.0, s.1)),
            (λ b i q. elim i [ inl e ↦ absurd (f (subst Q e q)) | inr j ↦ r.3 b j q ]),
          )
        ]

-- what the junctions of a list are linked to
all_next : {J : Type 0} → (J → List J) → List J → List J
all_next next [] = []
all_next next (a ∷ cs) = next a ++ all_next next cs

in_next : {J : Type 0} (next : J → List J) (b : J) (cs : List J) → In b (all_next next cs) → (a : J) × In a cs × In b (next a)
unfolding all_next
in_next next b [] i = absurd i
in_next next b (a ∷ cs) i =
    elim (in_either b (next a) (all_next next cs) i) [
      | inl j ↦ (a, inl refl, j)
      | inr j ↦ let r = in_next next b cs j in (r.0, inr r.1, r.2)
    ]

next_in : {J : Type 0} (next : J → List J) (b a : J) (cs : List J) → In a cs → In b (next a) → In b (all_next next cs)
unfolding all_next
next_in next b a [] i j = absurd i
next_in {J} next b a (c ∷ cs) (inl e) j = in_left b (next c) (all_next next cs) (subst (λ (x : J). In b (next x)) e j)
next_in next b a (c ∷ cs) (inr i) j = in_right b (next c) (all_next next cs) (next_in next b a cs i j)

module _ {J : Type 0} (Link : J → J → Type 0) (same : (a b : J) → Dec (a ≡ b)) (next : J → List J)
    (leads : (a b : J) → In b (next a) → Link a b) (led : (a b : J) → Link a b → In b (next a)) where
  wider : (k : ℕ) (a b : J) → Within Link k a b → Within Link (suc k) a b
  wider k a b w = record { far = w.far; near = let h = w.near in omega arith; distance = w.distance }

  pub grow : (k : ℕ) (a : J) (xs : List J) → Exactly (Within Link k a) xs → (ys : List J) × Exactly (Within Link (suc k) a) ys
  grow k a xs x =
      let r = once same (xs ++ all_next next xs) in (
        r.0,
        record {
          distinct = r.1;
          only = λ b i. elim (in_either b xs (all_next next xs) (r.2 b i)) [
            | inl j ↦ wider k a b (x.only b j)
            | inr j ↦ new b j (dec_in same b xs)
          ];
          all = λ b w. r.3 b (kept b w (dec_le w.far k));
        },
      )
    where
      new : (b : J) → In b (all_next next xs) → Dec (In b xs) → Within Link (suc k) a b
      new b j (yes i) = wider k a b (x.only b i)
      new b j (no f) =
          let r = in_next next b xs j in
          let w = x.only r.0 r.1 in
          let far = λ (i : Within Link k a b). f (x.all b i) in
          let v = then_step Link w.distance.walk (leads r.0 b r.2) in
          record {
            far = suc w.far;
            near = let h = w.near in omega arith;
            distance = record { walk = v; fewest = λ m h u. no_walk Link k a b far m (let g = w.near in omega arith) u };
          }

      kept : (b : J) (w : Within Link (suc k) a b) → Dec (w.far ≤ k) → In b (xs ++ all_next next xs)
      kept b w (yes h) = in_left b xs (all_next next xs) (x.all b (record { far = w.far; near = h; distance = w.distance }))
      kept b w (no h) =
          let e : w.far ≡ suc k = let g = w.near in omega arith in
          let o = (onward Link k a b (subst (λ (n : ℕ). Distance Link n a b) e w.distance)).0 in
          in_right b xs (all_next next xs)
          (next_in next b o.0 xs (x.all o.0 (record { far = k; near = omega arith; distance = o.1 })) (led o.0 b o.2))

  pub ball_list : (k : ℕ) (a : J) → (xs : List J) × Exactly (Within Link k a) xs
  ball_list zero a = (a ∷ [], within_zero Link a)
  ball_list (suc k) a = let r = ball_list k a in grow k a r.0 r.1

  -- b is in the ball, or not
  pub dec_within : (k : ℕ) (a b : J) → Dec (Within Link k a b)
  dec_within k a b =
      let r = ball_list k a in
      elim (dec_in same b r.0) [ yes i ↦ yes (r.1.only b i) | no f ↦ no (λ w. f (r.1.all b w)) ]

  pub dec_distance : (k : ℕ) (a b : J) → Dec (Distance Link k a b)
  dec_distance k a b =
      elim (dec_within k a b) [
        | yes w ↦ elim (ℕ_discrete w.far k) [
          | yes e ↦ yes (subst (λ (n : ℕ). Distance Link n a b) e w.distance)
          | no f ↦ no (λ d. f (one_distance Link w.distance d))
        ]
        | no f ↦ no (λ d. f (record { far = k; near = omega arith; distance = d }))
      ]

  pub shell_list : (k : ℕ) (a : J) → (xs : List J) × Exactly (Distance Link k a) xs
  shell_list k a =
      let r = ball_list k a in
      sift (Within Link k a) (Distance Link k a) (λ b w. dec_distance k a b) (λ b d. record { far = k; near = omega arith; distance = d }) r.0 r.1

  -- a walk has a shortest one beside it
  pub walked : (k n : ℕ) (a b : J) → n ≤ k → Walk Link n a b → Within Link k a b
  walked k n a b h w = elim (dec_within k a b) [ yes i ↦ i | no f ↦ absurd (no_walk Link k a b f n h w) ]

  -- a link leads from a shell to a shell beside it
  pub leads_beside : Symmetric Link → (k : ℕ) (a b c : J) → Distance Link k a b → Link b c → (j : ℕ) × (k ≤ suc j) × (j ≤ suc k) × Distance Link j a c
  leads_beside s k a b c d l =
      elim (dec_within (suc k) a c) [
        | yes w ↦ let r = beside Link s d l w.distance in (w.far, r.1, r.0, w.distance)
        | no f ↦ absurd (not_beyond Link k a b c d l f)
      ]
