use Rattle.std.proofs.Common.{◌≡◌, ℕ, suc, ◌<◌, ◌≢◌, ◌⊎◌, ◌++◌, length, take, drop, length-append, length-drop, get_or, refl, ◌∙◌, inl, inr, arith, rules}
use Rattle.std.proofs.lemmas.List.{length-take-le}
use Rattle.net.specs.Verdict.{here, later}
use Rattle.survey.proofs.Seals.{homes_first, seal_done}
use Rattle.survey.proofs.surveys.Survey.seal.Goals as goal

pub returns-then-list-room : goal.returns-then-list-room
returns-then-list-room g c =
    let other : length c.args.list.now ≢ c.args.draft.room = λ e. c.if-list-room.true (let r = c.room.ensures in omega arith) in
    (here other, (refl, refl))

pub returns-then-pool-nodes : goal.returns-then-pool-nodes
returns-then-pool-nodes g c =
    let own : length c.args.list.now ≢ c.args.draft.room → ⊥ = λ n. n (omega arith) in
    let size : (length c.args.pool.now < c.args.draft.nodes) ⊎ (65535 < length c.args.pool.now) = elim c.then-pool-nodes.either [ inl h ↦ inl (omega arith) | inr h ↦ inr h.1 ] in
    (later own (here size), (refl, refl))

pub invariant_of-result : goal.invariant_of-result
invariant_of-result g c =
    let pool = c.args.pool.now in
    let n = c.nodes-nodes.result in
    let nodes = c.nodes-nodes.ensures in
    let homes = c.place_homes.new.homes in
    let first : length homes ≡ n = c.place_homes.auto.homes ∙ length-take-le n pool (omega arith) in
    let whole : length (homes ++ drop n pool) ≡ length pool = let a = length-append homes (drop n pool) in let b = length-drop n pool in omega arith in
    let marks : (v : ℕ) → v < 25 → get_or c.from_fn.result v 0 ≡ v = λ v h. let a = c.from_fn.ensures.items.at v 0 h in search rules in
    record {
      small_radius = omega arith;
      few_records = omega arith;
      homes = omega arith;
      in_room = omega arith;
      ascend = λ k v h l. let z : k ≡ 0 = omega arith in rw z (let a = marks v (omega arith) in let b = marks (suc v) (omega arith) in omega arith);
      inside = λ k v h l. let z : k ≡ 0 = omega arith in rw z (let a = marks v (omega arith) in omega arith);
    }

pub returns : goal.returns
returns g c =
    let pool = c.args.pool.now in
    let n = c.nodes-nodes.result in
    let nodes = c.nodes-nodes.ensures in
    let homes = c.place_homes.new.homes in
    let taken = length-take-le n pool (omega arith) in
    let first : length homes ≡ n = c.place_homes.auto.homes ∙ taken in
    let whole : length (homes ++ drop n pool) ≡ length pool = let a = length-append homes (drop n pool) in let b = length-drop n pool in omega arith in
    let marks : (v : ℕ) → v < 25 → get_or c.from_fn.result v 0 ≡ v = λ v h. let a = c.from_fn.ensures.items.at v 0 h in search rules in (
      ((λ n. n (omega arith)), ((λ s. elim s [ inl h ↦ (let z : ⊥ = omega arith in z) | inr h ↦ (let z : ⊥ = omega arith in z) ]), tt)),
      seal_done g.L.Label.group g.L.Label.order g.L.Label.stands c.args.draft c.args.list.now pool (homes ++ drop n pool) _ (omega arith) whole refl refl nodes whole
          (λ v h. marks v (omega arith))
          (homes_first g.L.Label.group g.L.Label.order g.L.Label.stands c.args.draft.nodes (length (take n pool)) homes (drop n pool) c.place_homes.auto.homes (taken ∙ nodes) c.place_homes.ensures),
    )
