use Rattle.std.proofs.Common.{◌≡◌, ◌+◌, ◌<◌, ◌≤◌, map, get_or, Ok, Err, refl, ap, ◌∙◌, arith, rules}
use Rattle.std.proofs.lemmas.Result.{err_from_is_err_and}
use Rattle.mesh.specs.Net.{Net}
use Rattle.net.specs.Model.{line_of}
use Rattle.survey.proofs.Rounds.{part_none, part_joined, part_short, part_whole}
use Rattle.survey.proofs.shelling.Shelling.note_shell.Goals as goal

pub loop-at-init : goal.loop-at-init
loop-at-init g c =
    let start : c.into_iter-at-iterator.result.start ≡ c.args.shell.start = search rules in
    let end : c.into_iter-at-iterator.result.end ≡ c.args.shell.end = search rules in
    let s = c.args.self.now in (
      end,
      omega arith,
      omega arith,
      λ nodes. part_none g.L.Label.group g.L.Label.order g.L.Label.stands (record { nodes = nodes; lines = map (line_of g.L.Label.stands) c.args.lines.now }) c.args.shell.start s s s c.into_iter-at-iterator.result.start start,
    )

pub bounds-self-at : goal.bounds-self-at
bounds-self-at g c =
    let at : c.in-Some.at ≡ c.loop-at.at-iterator.start = search rules in
    let more : c.loop-at.at-iterator.start < c.loop-at.at-iterator.end = search rules in
    let end = c.loop-at.invariant.0 in
    let used = (c.loop-at.invariant.3 0).more in
    let room = c.loop-at.self.in_room in
    omega arith

pub loop-at-preserved : goal.loop-at-preserved
loop-at-preserved g c =
    let at : c.in-Some.at ≡ c.loop-at.at-iterator.start = search rules in
    let more : c.loop-at.at-iterator.start < c.loop-at.at-iterator.end = search rules in
    let next : c.next.new.self.start ≡ c.loop-at.at-iterator.start + 1 = search rules in
    let end : c.next.new.self.end ≡ c.loop-at.at-iterator.end = search rules in
    let last = c.loop-at.invariant.0 in
    let first = c.loop-at.invariant.1 in (
      end ∙ last,
      omega arith,
      omega arith,
      λ nodes. part_joined g.L.Label.group g.L.Label.order g.L.Label.stands (record { nodes = nodes; lines = map (line_of g.L.Label.stands) c.args.lines.now }) c.args.shell.start c.args.self.now c.loop-at.self c.note_neighbours.new.self
          c.loop-at.at-iterator.start c.next.new.self.start (get_or c.loop-at.self.pool.now c.in-Some.at c.index-self-at.result) c.index-self-at.result first (omega arith) next (ap (λ i. get_or c.loop-at.self.pool.now i c.index-self-at.result) at) (Ok tt) (c.loop-at.invariant.3 nodes) c.in_ok-note_neighbours.ensures,
    )

pub returns-in_err-note_neighbours : goal.returns-in_err-note_neighbours
returns-in_err-note_neighbours g c =
    let p = err_from_is_err_and c.from_residual.result c.from_residual.ensures.1 in
    let at : c.in-Some.at ≡ c.loop-at.at-iterator.start = search rules in
    let more : c.loop-at.at-iterator.start < c.loop-at.at-iterator.end = search rules in
    let last = c.loop-at.invariant.0 in
    let first = c.loop-at.invariant.1 in
    let s = c.args.self.now in
    let there = c.note_neighbours.new.self in
    let i = c.loop-at.at-iterator.start in
    λ nodes.
    let net : Net g.L.Label.Meaning = record { nodes = nodes; lines = map (line_of g.L.Label.stands) c.args.lines.now } in
    rw p.1
    (part_short g.L.Label.group g.L.Label.order g.L.Label.stands net c.args.shell.start s there there (i + 1) c.args.shell.end (omega arith) (omega arith) p.0
    (part_joined g.L.Label.group g.L.Label.order g.L.Label.stands net c.args.shell.start s c.loop-at.self there i (i + 1) (get_or c.loop-at.self.pool.now c.in-Some.at c.index-self-at.result) c.index-self-at.result
    first (omega arith) refl (ap (λ i. get_or c.loop-at.self.pool.now i c.index-self-at.result) at) (Err p.0) (c.loop-at.invariant.3 nodes) c.in_err-note_neighbours.ensures))

pub returns : goal.returns
returns g c =
    let done : c.loop-at.at-iterator.end ≤ c.loop-at.at-iterator.start = search rules in
    let last = c.loop-at.invariant.0 in
    let most = c.loop-at.invariant.2 in
    λ nodes. part_whole g.L.Label.group g.L.Label.order g.L.Label.stands (record { nodes = nodes; lines = map (line_of g.L.Label.stands) c.args.lines.now }) c.args.shell.start c.args.self.now c.loop-at.self c.loop-at.self
    c.loop-at.at-iterator.start c.args.shell.end (omega arith) (c.loop-at.invariant.3 nodes)
