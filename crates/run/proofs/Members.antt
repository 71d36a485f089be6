-- Junctions of a shell, each with as many of the shell before it as its place tells.
use Rattle.std.proofs.Common.{◌≡◌, ℕ, suc, ◌<◌, List, [], ◌∷◌, map, length, Some, Ordering, Less, Equal, Greater, sym, refl, ap, ◌∙◌, subst, arith}
use lib.ListN.{length-map}
use Rattle.std.specs.List.{range_with_len, slice_get}
use Rattle.std.specs.Ordering.{ordering_reverse}
use Rattle.std.proofs.lemmas.Option.{slice_get-get_or, slice_get_within}
use Rattle.std.proofs.lemmas.List.FromFn.{length-map-range_with_len, get_or-map-range_with_len}
use Rattle.label.specs.Group.{Group}
use Rattle.label.specs.Order.{Order}
use Rattle.mesh.specs.Distance.{Distance}
use Rattle.mesh.specs.Exactly.{Distinct, Exactly, Many}
use Rattle.mesh.specs.Junction.{Junction, spot, home, carry}
use Rattle.mesh.specs.JunctionOrder.{junction_order}
use Rattle.mesh.specs.Link.{Link}
use Rattle.mesh.specs.Listed.{In}
use Rattle.mesh.specs.Net.{Net}
use Rattle.mesh.specs.Shell.{Shell}
use Rattle.mesh.proofs.Lists.{from_map, distinct_map}
use Rattle.mesh.proofs.Counts.{one_count, at_most, all_found}
use Rattle.mesh.proofs.Carries.{carry_distance, carried_back, carried}
use Rattle.survey.specs.Clauses.{Before, Member}
use Rattle.survey.proofs.Places.{in_nth}

-- a list of which no two places hold the same has nothing twice
distinct_places : {X : Type 0} (xs : List X) → ((i j : ℕ) (x : X) → i < j → slice_get xs i ≡ Some x → slice_get xs j ≡ Some x → ⊥) → Distinct xs
distinct_places [] apart = tt
distinct_places (x ∷ xs) apart = (
  λ i. let p = in_nth x xs i in apart 0 (suc p.0) x (omega arith) refl p.2,
  distinct_places xs (λ i j y h p q. apart (suc i) (suc j) y (omega arith) p q),
)

module _ {L M : Type 0} (G : Group M) (O : Order M) (stands : L → M) (net : Net M) (v k : ℕ) where
  -- what has fewer before it comes first
  before_by_count : (i j : ℕ) (b c : Junction M) → i < j → Member G O stands net v k i b → Member G O stands net v k j c → Before G O stands b c
  before_by_count i j b c h m n = go ((junction_order O).cmp b c) refl
    where
      -- what the shell has before x
      Under : Junction M → Junction M → Type 0
      Under x y = Shell G net v k y × Before G O stands y x

      go : (o : Ordering) → (junction_order O).cmp b c ≡ o → Before G O stands b c
      go Less e = e
      go Equal e =
          let same = (junction_order O).same b c e in
          let l = one_count (Under c) i j (subst (λ (x : Junction M). Many (Under x) i) same m.before) n.before in
          absurd (let z : ⊥ = omega arith in z)
      go Greater e =
          let f : Before G O stands c b = (junction_order O).turned b c ∙ ap ordering_reverse e in
          let under : (y : Junction M) → In y n.before.which → Under b y = λ y w. let u = n.before.exactly.only y w in (u.0, (junction_order O).chain y c b u.1 f) in
          let l = at_most (Under b) i n.before.which m.before n.before.exactly.distinct under in
          let long = n.before.count in
          absurd (let z : ⊥ = omega arith in z)

  module _ (number : ℕ) (f : ℕ → Junction M) (each : (i : ℕ) → i < number → Member G O stands net v k i (f i)) (all : Many (Shell G net v k) number) where
    abbrev pub members : List (Junction M)
    members = map f (range_with_len 0 number)

    pub members_long : length members ≡ number
    members_long = length-map-range_with_len f 0 number

    pub members_at : (i : ℕ) → i < number → slice_get members i ≡ Some (f i)
    members_at i h =
        let long = members_long in
        slice_get-get_or members i (f i) (omega arith) ∙ ap Some (get_or-map-range_with_len f 0 number i i (f i) h (omega arith))

    -- what a place holds is the member that is told there
    members_told : (i : ℕ) (b : Junction M) → slice_get members i ≡ Some b → (i < number) × (b ≡ f i)
    members_told i b e =
        let h : i < number = let l = slice_get_within members i b e in let long = members_long in omega arith in
        (h, let p = members_at i h in cc)

    pub members_ascend : (i j : ℕ) (b c : Junction M) → i < j → slice_get members i ≡ Some b → slice_get members j ≡ Some c → Before G O stands b c
    members_ascend i j b c h p q =
        let x = members_told i b p in
        let y = members_told j c q in
        before_by_count i j b c h (subst (Member G O stands net v k i) (sym x.1) (each i x.0)) (subst (Member G O stands net v k j) (sym y.1) (each j y.0))

    members_distinct : Distinct members
    members_distinct = distinct_places members (λ i j b h p q. let e = members_ascend i j b b h p q in let s = (junction_order O).itself b in let z : ◌≡◌ {A = ℕ} 0 1 = cc in omega arith)

    members_only : (b : Junction M) → In b members → Shell G net v k b
    members_only b i =
        let p = in_nth b members i in
        let x = members_told p.0 b p.2 in
        subst (Shell G net v k) (sym x.1) (each p.0 x.0).in_shell

    -- the members, carried, are exactly what is k from any junction of the node
    pub members_carried : (h : M) → Exactly (Distance (Link G net) k (spot v h)) (map (carry G h) members)
    members_carried h =
        all_found (Distance (Link G net) k (spot v h)) number (map (carry G h) members) (((carried G net).shell_counts v k number h).1 all)
        (distinct_map (carry G h) (λ a b e. sym (carried_back G h a) ∙ ap (carry G (G.inv h)) e ∙ carried_back G h b) members members_distinct)
        (λ b i.
        let r = from_map (carry G h) b members i in
        let there : carry G h (home G v) ≡ spot v h = ap (spot v) (G.right h) in
        subst (Distance (Link G net) k (spot v h)) (sym r.2)
        (subst (λ (a : Junction M). Distance (Link G net) k a (carry G h r.0)) there (carry_distance G net h k (home G v) r.0 (members_only r.0 r.1))))
        (length-map members (carry G h) ∙ members_long)
