-- What becomes of a found list when sights are asked for one after another and those that are not there are added. Assumes nothing.
use Rattle.std.specs.Prelude.{◌≡◌, ℕ, ◌≤◌, List, ◌++◌, length}
use Rattle.mesh.specs.Listed.{In}
use Rattle.mesh.specs.Exactly.{Distinct}
use Rattle.growth.specs.Entry.{Sight, Entry, sights}

-- each asked sight that was not in the list was added at its end, at the distance d, and nothing else was
pub record Noted {M : Type 0} (d : ℕ) (E : List (Entry M)) (asked : List (Sight M)) (E' : List (Entry M)) : Type 0 where
  pub new : List (Entry M)
  pub longer : E' ≡ E ++ new
  pub distances : (e : Entry M) → In e new → e.distance ≡ d
  pub from_asked : (e : Entry M) → In e new → In e.sight asked
  pub distinct : Distinct (sights E) → Distinct (sights E')
  pub all : (t : Sight M) → In t asked → In t (sights E')

-- the list had all its room when one of the asked sights was not in it
pub record Overfull {M : Type 0} (d room : ℕ) (E : List (Entry M)) (asked : List (Sight M)) : Type 0 where
  pub held : List (Entry M)
  pub before : List (Sight M)
  pub noted : Noted d E before held
  pub before_asked : (t : Sight M) → In t before → In t asked
  pub next : Sight M
  pub next_asked : In next asked
  pub next_new : In next (sights held) → ⊥
  pub full : room ≤ length held
