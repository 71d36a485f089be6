-- To wrap goes port by port. Assumes nothing.
use Rattle.std.proofs.Common.{◌≡◌, ℕ, ◌+◌, ◌*◌, ◌^◌, ◌<◌, Bool, true, false, cond, eqb, List, [], ◌∷◌, ◌++◌, map, sym, refl, ap, ◌∙◌, lit<}
use Rattle.std.proofs.lemmas.List.{map-append}
use Rattle.label.specs.Group.{both}
use Rattle.lattice.specs.Coord.{add_coord, coord_back}
use Rattle.label.specs.Groups.{only_inv}
use Rattle.lattice.specs.Triples.{Triple}
use Rattle.mesh.specs.Net.{Line, Net}
use Rattle.mesh.specs.Junction.{spot, home}
use Rattle.mesh.specs.Ports.{Port, ahead, behind, line_ports, ports_of, ports}
use Rattle.mesh.specs.Target.{target}
use Rattle.cover.specs.MeshMap.{MeshMap}
use Rattle.cover.specs.MeshCoverLaws.{MeshCoverLaws}
use Rattle.cover.specs.Whole.{Whole, whole}
use Rattle.lattice.specs.Translations.{translations}
use Rattle.cover.specs.Wrap.{wrap, unwrapped, wrap_junction}
use Rattle.cover.specs.WholeNet.{whole_line, whole_net}
use Rattle.cover.specs.Small.{SmallLabels}
use Rattle.cover.specs.WholeLaws.{WholeLaws}
use Rattle.cover.proofs.MeshMaps.{mesh_covers, mesh_cover_laws}
use Rattle.cover.proofs.Drift.{wrap_apart}

wrap_mul : (x y : Whole) → wrap (whole.mul x y) ≡ translations.mul (wrap x) (wrap y)
wrap_mul x y = both (add_coord x.0 y.0) (both (add_coord x.1.0 y.1.0) (add_coord x.1.1 y.1.1))

wrap_inv : (x : Whole) → wrap (whole.inv x) ≡ translations.inv (wrap x)
wrap_inv x = only_inv translations (wrap (whole.inv x)) (wrap x) (sym (wrap_mul (whole.inv x) x) ∙ ap wrap (whole.undo x))

wrap_back : (t : Triple) → wrap (unwrapped t) ≡ t
wrap_back t = both (coord_back t.0) (both (coord_back t.1.0) (coord_back t.1.1))

-- the port with the wrapped label
abbrev wrap_port : Port Whole → Port Triple
wrap_port p = record { to = p.to; label = wrap p.label }

-- at most one thing, and then at most one other
two_kept : {A B : Type 0} (g : A → B) (s t : Bool) (p q : A) (p' q' : B) → g p ≡ p' → g q ≡ q' → map g (cond s (p ∷ []) [] ++ cond t (q ∷ []) []) ≡ cond s (p' ∷ []) [] ++ cond t (q' ∷ []) []
two_kept g true true p q p' q' d e = cc
two_kept g true false p q p' q' d e = cc
two_kept g false true p q p' q' d e = cc
two_kept g false false p q p' q' d e = refl

line_kept : (u : ℕ) (l : Line Triple) → map wrap_port (line_ports whole u (whole_line l)) ≡ line_ports translations u l
line_kept u l =
    two_kept wrap_port (eqb l.tail u) (eqb l.head u) (ahead (whole_line l)) (behind whole (whole_line l)) (ahead l) (behind translations l)
    (ap (λ (t : Triple). let p : Port Triple = record { to = l.head; label = t } in p) (wrap_back l.label))
    (ap (λ (t : Triple). let p : Port Triple = record { to = l.tail; label = t } in p) (wrap_inv (unwrapped l.label) ∙ ap translations.inv (wrap_back l.label)))

ports_kept : (u : ℕ) (ls : List (Line Triple)) → map wrap_port (ports_of whole u (map whole_line ls)) ≡ ports_of translations u ls
ports_kept u [] = refl
ports_kept u (l ∷ ls) =
    let e = map-append wrap_port (line_ports whole u (whole_line l)) (ports_of whole u (map whole_line ls)) in
    let p = line_kept u l in
    let q = ports_kept u ls in
    cc

-- the targets of wrapped ports
targets_kept : (h : Whole) (ps : List (Port Whole)) → map wrap_junction (map (target whole h) ps) ≡ map (target translations (wrap h)) (map wrap_port ps)
targets_kept h [] = refl
targets_kept h (p ∷ ps) =
    let e : wrap_junction (target whole h p) ≡ target translations (wrap h) (wrap_port p) = ap (spot p.to) (wrap_mul h p.label) in
    let r = targets_kept h ps in
    cc

pub wrap_map : (net : Net Triple) → MeshMap whole (whole_net net) translations net wrap_junction
wrap_map net = record {
  nodes = λ a. refl;
  targets = λ a. targets_kept a.label (ports whole (whole_net net) a.node) ∙ ap (map (target translations (wrap a.label))) (ports_kept a.node net.lines);
}

pub whole_laws : (B r : ℕ) → B * (2 * r + 1) < 2 ^ 31 → (net : Net Triple) → SmallLabels B net → WholeLaws net r
whole_laws B r room net small = record {
  mapped = wrap_map net;
  onto = λ b. (spot b.node (unwrapped b.label), ap (spot b.node) (wrap_back b.label));
  covers = mesh_covers whole (whole_net net) translations net wrap_junction (wrap_map net) (2 * r + 1) (wrap_apart B net small (2 * r + 1) room);
  kept = laws;
  shells = λ v k n h. laws.shell_numbers k (home whole v) n h;
}
  where
    laws : MeshCoverLaws whole (whole_net net) translations net wrap_junction r
    laws = mesh_cover_laws whole (whole_net net) translations net wrap_junction (wrap_map net) r (wrap_apart B net small (2 * r + 1) room)

pub whole_to_16 : (net : Net Triple) → SmallLabels 500 net → WholeLaws net 16
whole_to_16 = whole_laws 500 16 (lit< tt)
