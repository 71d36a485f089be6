-- Rules checked one part after another.
use Rattle.std.proofs.Common.{◌≡◌, List, [], ◌∷◌, ◌++◌, Ok, Err, Result, refl}
use Rattle.net.specs.Verdict.{NoneOf, First, here, later, Settled}

module _ {E : Type 0} (Broken : E → Type 0) where
  pub first_left : {e : E} {es : List E} (fs : List E) → First Broken e es → First Broken e (es ++ fs)
  first_left fs (here b) = here b
  first_left fs (later n f) = later n (first_left fs f)

  pub first_right : {e : E} (es : List E) {fs : List E} → NoneOf Broken es → First Broken e fs → First Broken e (es ++ fs)
  first_right [] n f = f
  first_right (x ∷ es) n f = later n.0 (first_right es n.1 f)

  pub none_join : (es fs : List E) → NoneOf Broken es → NoneOf Broken fs → NoneOf Broken (es ++ fs)
  none_join [] fs n m = m
  none_join (x ∷ es) fs n m = (n.0, none_join es fs n.1 m)

  -- what further rules settle, where the first are not broken
  pub settled_right : {Y : Type 0} (es fs : List E) (Done : Y → Type 0) (Kept : Type 0) (r : Result Y E) → NoneOf Broken es → Settled Broken fs Done Kept r → Settled Broken (es ++ fs) Done Kept r
  settled_right es fs Done Kept (Ok y) n s = (none_join es fs n s.0, s.1)
  settled_right es fs Done Kept (Err e) n s = (first_right es n s.0, s.1)

  -- at most one rule is the first that is broken
  pub first_one : {e f : E} {es : List E} → First Broken e es → First Broken f es → e ≡ f
  first_one (here b) (here c) = refl
  first_one (here b) (later n g) = absurd (n b)
  first_one (later n g) (here c) = absurd (n c)
  first_one (later n g) (later m h) = first_one g h

  -- no rule is the first that is broken if none is
  pub first_or_none : {e : E} {es : List E} → First Broken e es → NoneOf Broken es → ⊥
  first_or_none (here b) n = n.0 b
  first_or_none (later m f) n = first_or_none f n.1
