-- Rings are counted by their standard forms. Assumes nothing.
use Rattle.std.proofs.Common.{◌≡◌, ℕ, suc, List, [], ◌∷◌, length, sym, refl, ap, ◌∙◌, subst, inl, inr, arith}
use Rattle.mesh.specs.Listed.{In}
use Rattle.mesh.specs.Exactly.{Distinct, Many}
use Rattle.mesh.proofs.Counts.{one_count, at_most}
use Rattle.rings.specs.SameRing.{SameRing}
use Rattle.rings.specs.Through.{Through}
use Rattle.rings.specs.Standard.{Standard}
use Rattle.rings.specs.RingsOf.{RingsOf}
use Rattle.rings.specs.RingCountLaws.{RingCountLaws}
use Rattle.rings.proofs.Forms.{same_sym, same_trans, form_exists, form_through, form_same}

module _ {J : Type 0} (Link : J → J → Type 0) (back : (a b : J) → Link a b → Link b a) (L : ℕ) (o x y : J) (apart : x ≡ y → ⊥) where
  -- all these lists are rings through both links
  abbrev AllThrough : List (List J) → Type 0
  AllThrough cs = (c : List J) → In c cs → Through Link L o x y c

  -- the standard forms of the rings, one by one
  forms : (cs : List (List J)) → AllThrough cs → List (List J)
  forms [] t = []
  forms (c ∷ cs) t = (form_exists Link back L o x y apart c (t c (inl refl))).0 ∷ forms cs (λ d i. t d (inr i))

  forms_length : (cs : List (List J)) (t : AllThrough cs) → length (forms cs t) ≡ length cs
  unfolding forms
  forms_length [] t = refl
  forms_length (c ∷ cs) t = ap suc (forms_length cs (λ d i. t d (inr i)))

  -- each of them is the form of a ring
  form_of : (cs : List (List J)) (t : AllThrough cs) (e : List J) → In e (forms cs t) → (c : List J) × In c cs × Standard Link L o x y e × SameRing c e
  unfolding forms
  form_of [] t e i = absurd i
  form_of (c ∷ cs) t e (inl p) =
      let f = form_exists Link back L o x y apart c (t c (inl refl)) in
      (c, inl refl, subst (λ z. Standard Link L o x y z) (sym p) f.1, subst (λ z. SameRing c z) (sym p) f.2)
  form_of (c ∷ cs) t e (inr i) = let r = form_of cs (λ d j. t d (inr j)) e i in (r.0, inr r.1, r.2, r.3)

  -- and each ring has its form among them
  form_in : (cs : List (List J)) (t : AllThrough cs) (c : List J) → In c cs → (e : List J) × In e (forms cs t) × Standard Link L o x y e × SameRing c e
  unfolding forms
  form_in [] t c i = absurd i
  form_in (d ∷ cs) t c (inl p) =
      let f = form_exists Link back L o x y apart d (t d (inl refl)) in
      (f.0, inl refl, f.1, subst (λ z. SameRing z f.0) (sym p) f.2)
  form_in (d ∷ cs) t c (inr i) = let r = form_in cs (λ z j. t z (inr j)) c i in (r.0, inr r.1, r.2, r.3)

  forms_distinct : (cs : List (List J)) (t : AllThrough cs) → Distinct cs → ((c d : List J) → In c cs → In d cs → SameRing c d → c ≡ d) → Distinct (forms cs t)
  unfolding forms
  forms_distinct [] t s once = tt
  forms_distinct (c ∷ cs) t s once = (fresh, forms_distinct cs (λ d i. t d (inr i)) s.1 (λ d e i j. once d e (inr i) (inr j)))
    where
      fresh : In (form_exists Link back L o x y apart c (t c (inl refl))).0 (forms cs (λ d i. t d (inr i))) → ⊥
      fresh i =
          let f = form_exists Link back L o x y apart c (t c (inl refl)) in
          let r = form_of cs (λ d j. t d (inr j)) f.0 i in
          let e = once c r.0 (inl refl) (inr r.1) (same_trans {c = c} {d = f.0} {e = r.0} f.2 (same_sym {c = r.0} {d = f.0} r.3)) in
          s.0 (subst (λ z. In z cs) (sym e) r.1)

  pub to_forms : (n : ℕ) → RingsOf Link L o x y n → Many (Standard Link L o x y) n
  to_forms n r = record {
    which = forms r.rings r.through;
    exactly = record {
      distinct = forms_distinct r.rings r.through r.distinct r.once;
      only = λ e i. (form_of r.rings r.through e i).2;
      all = there;
    };
    count = forms_length r.rings r.through ∙ r.count;
  }
    where
      there : (e : List J) → Standard Link L o x y e → In e (forms r.rings r.through)
      there e s =
          let a = r.all e (form_through Link L o x y e s) in
          let f = form_in r.rings r.through a.0 a.1 in
          let p : e ≡ f.0 = form_same Link L o x y e f.0 s f.2 (same_trans {c = e} {d = a.0} {e = f.0} a.2 f.3) in
          subst (λ z. In z (forms r.rings r.through)) (sym p) f.1

  pub from_forms : (n : ℕ) → Many (Standard Link L o x y) n → RingsOf Link L o x y n
  from_forms n m = record {
    rings = m.which;
    count = m.count;
    distinct = m.exactly.distinct;
    through = λ c i. form_through Link L o x y c (m.exactly.only c i);
    once = λ c d i j s. form_same Link L o x y c d (m.exactly.only c i) (m.exactly.only d j) s;
    all = λ c t. let f = form_exists Link back L o x y apart c t in (f.0, m.exactly.all f.0 f.1, f.2);
  }

  none_listed : (cs : List (List J)) → length cs ≡ 0 → (d : List J) → In d cs → ⊥
  none_listed [] h d i = i
  none_listed (c ∷ cs) h d i = omega arith

  no_rings : RingsOf Link L o x y 0 → (c : List J) → Through Link L o x y c → ⊥
  no_rings r c t = let a = r.all c t in none_listed r.rings r.count a.0 a.1

  no_count : ((c : List J) → Through Link L o x y c → ⊥) → RingsOf Link L o x y 0
  no_count f = record {
    rings = [];
    count = refl;
    distinct = tt;
    through = λ c i. absurd i;
    once = λ c d i j s. absurd i;
    all = λ c t. absurd (f c t);
  }

  pub ring_count_laws : RingCountLaws Link L o x y
  ring_count_laws = record {
    counted = λ n. (to_forms n, from_forms n);
    one_number = λ m n r s. one_count (Standard Link L o x y) m n (to_forms m r) (to_forms n s);
    none = (no_rings, no_count);
    at_most = λ n fs r d f. at_most (Standard Link L o x y) n fs (to_forms n r) d f;
  }
