use Rattle.std.proofs.Common.{◌≡◌, ℤ, pos, Ok, Option, sym, ap, ◌∙◌, rules}
use Rattle.std.specs.Option.{option_map}
use Rattle.std.specs.List.{slice_get}
use Rattle.std.proofs.lemmas.Option.{slice_get-map}
use Rattle.symmetric.specs.Images.{Perm}
use Rattle.symmetric.specs.Packing.{chosen}
use Rattle.permutation.proofs.kind.PackedNumberLabel.written.Goals as goal

pub returns : goal.returns
returns c =
    let there = c.image.ensures ∙ ap (λ (p : Perm). slice_get p.0 c.args.at) c.from.ensures in
    let widened : c.map.result ≡ option_map pos c.image.result = search rules in
    ap (λ (o : Option ℤ). Ok o) (widened ∙ ap (option_map pos) there ∙ sym (slice_get-map pos (chosen c.args.self.0) c.args.at))
