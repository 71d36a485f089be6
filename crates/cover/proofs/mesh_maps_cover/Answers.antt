use Rattle.cover.proofs.MeshMaps.{mesh_covers}
use Rattle.cover.proofs.mesh_maps_cover.Goals as goal

pub returns : goal.returns
returns g c net under f R mm apart = mesh_covers g.K.AnyGroup.group net g.B.AnyGroup.group under f mm R apart
