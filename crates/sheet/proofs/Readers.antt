-- Reading step by step: what a step comes to is a relation, and steps that have one answer each make a reading with one.
use Rattle.std.proofs.Common.{◌≡◌, ℕ, List, Ok, Err, Result, refl, ap, subst, arith}
use Rattle.net.specs.Verdict.{First, NoneOf}
use Rattle.net.proofs.Verdicts.{first_one, first_or_none}

pub ok_err : {X Y : Type 0} (x : X) (y : Y) → ◌≡◌ {A = Result X Y} (Ok x) (Err y) → ⊥
ok_err x y e = let z : ◌≡◌ {A = ℕ} 0 1 = cc in omega arith

-- there is one answer at most
abbrev pub One : {A : Type 0} → (A → Type 0) → Type 0
One {A} R = (r s : A) → R r → R s → r ≡ s

module _ {X Y E : Type 0} where
  -- a first step, then one that goes on with its value and the bytes after it
  pub data Then (P : List ℕ → Result (X × List ℕ) E → Type 0) (Q : X → List ℕ → Result Y E → Type 0) (bs : List ℕ) : Result Y E → Type 0 where
    stops : (f : E) → P bs (Err f) → Then P Q bs (Err f)
    goes : (x : X) (rest : List ℕ) {r : Result Y E} → P bs (Ok (x, rest)) → Q x rest r → Then P Q bs r

  pub then_one : (P : List ℕ → Result (X × List ℕ) E → Type 0) (Q : X → List ℕ → Result Y E → Type 0) (bs : List ℕ) → One (P bs) → ((x : X) (rest : List ℕ) → One (Q x rest)) → One (Then P Q bs)
  then_one P Q bs p q _ _ (stops f a) (stops g b) = let e : ◌≡◌ {A = Result (X × List ℕ) E} (Err f) (Err g) = p _ _ a b in cc
  then_one P Q bs p q _ _ (stops f a) (goes y rest b c) = absurd (ok_err (y, rest) f (p _ _ b a))
  then_one P Q bs p q _ _ (goes x rest a c) (stops g b) = absurd (ok_err (x, rest) g (p _ _ a b))
  then_one P Q bs p q _ _ (goes x rest {r = r} a c) (goes y left b d) =
      let e : ◌≡◌ {A = Result (X × List ℕ) E} (Ok (x, rest)) (Ok (y, left)) = p _ _ a b in
      let same : ◌≡◌ {A = X × List ℕ} (x, rest) (y, left) = cc in
      q y left _ _ (subst (λ (z : X × List ℕ). Q z.0 z.1 r) same c) d

module _ {Y E : Type 0} where
  -- a fault, if something is bad, and else what follows
  pub data Unless (Bad : Type 0) (f : E) (Q : Result Y E → Type 0) : Result Y E → Type 0 where
    bad : Bad → Unless Bad f Q (Err f)
    good : {r : Result Y E} → (Bad → ⊥) → Q r → Unless Bad f Q r

  pub unless_one : (Bad : Type 0) (f : E) (Q : Result Y E → Type 0) → One Q → One (Unless Bad f Q)
  unless_one Bad f Q q _ _ (bad a) (bad b) = refl
  unless_one Bad f Q q _ _ (bad a) (good n b) = absurd (n a)
  unless_one Bad f Q q _ _ (good n a) (bad b) = absurd (n b)
  unless_one Bad f Q q _ _ (good n a) (good m b) = q _ _ a b

  -- the first rule that is broken, if one is, and else what follows
  pub data Ruled {R : Type 0} (Broken : R → Type 0) (rules : List R) (told : R → E) (Q : Result Y E → Type 0) : Result Y E → Type 0 where
    broken : (e : R) → First Broken e rules → Ruled Broken rules told Q (Err (told e))
    kept : {r : Result Y E} → NoneOf Broken rules → Q r → Ruled Broken rules told Q r

  pub ruled_one : {R : Type 0} (Broken : R → Type 0) (rules : List R) (told : R → E) (Q : Result Y E → Type 0) → One Q → One (Ruled Broken rules told Q)
  ruled_one Broken rules told Q q _ _ (broken e a) (broken f b) = ap (λ x. Err (told x)) (first_one Broken a b)
  ruled_one Broken rules told Q q _ _ (broken e a) (kept n b) = absurd (first_or_none Broken a n)
  ruled_one Broken rules told Q q _ _ (kept n a) (broken f b) = absurd (first_or_none Broken b n)
  ruled_one Broken rules told Q q _ _ (kept n a) (kept m b) = q _ _ a b
