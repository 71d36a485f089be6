use Rattle.std.proofs.Common.{◌<◌, length, get_or, set, refl, ap, ◌∙◌, arith}
use Rattle.std.proofs.lemmas.List.{length-set}
use Rattle.std.proofs.lemmas.Option.{slice_get-get_or}
use Rattle.survey.specs.Stepping.{with_link}
use Rattle.survey.proofs.shelling.Shelling.add.Goals as goal

pub returns : goal.returns
returns g c =
    let pool = c.args.self.now.pool.now in
    let used = c.args.self.now.used in
    let under = c.args.place.under in
    let room = c.args.self.now.in_room in
    let inside : under < length pool = omega arith in
    let parent = get_or pool under c.index-self-place.result in (
      record {
        centre = refl;
        distance = refl;
        same = refl;
        long = length-set (set pool under c.linked.result) used c.unlinked.result ∙ length-set pool under c.linked.result;
      },
      c.if-self.false,
      refl,
      record {
        parent = parent;
        read = slice_get-get_or pool under c.index-self-place.result inside;
        wrote = ap (λ r. set (set pool under r) used c.unlinked.result) c.linked.ensures ∙ ap (λ e. set (set pool under (with_link c.args.place.side used parent)) used e) c.unlinked.ensures;
      },
    )
