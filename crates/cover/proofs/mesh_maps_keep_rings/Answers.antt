use Rattle.cover.proofs.MeshMaps.{mesh_cover_laws}
use Rattle.cover.proofs.mesh_maps_keep_rings.Goals as goal

pub returns : goal.returns
returns g c = record {
  any = λ net under f r mm apart. mesh_cover_laws g.K.AnyGroup.group net g.B.AnyGroup.group under f mm r apart;
  sixteen = λ net under f mm apart. mesh_cover_laws g.K.AnyGroup.group net g.B.AnyGroup.group under f mm 16 apart;
}
