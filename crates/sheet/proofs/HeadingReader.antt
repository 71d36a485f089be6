-- Reading a heading: the kind, the nodes and how many lines, and then what follows.
use Rattle.std.proofs.Common.{◌≡◌, ℕ, ◌-◌, ◌≤◌, ◌≢◌, List, [], ◌∷◌, ◌++◌, length, Err, Result, sym, refl, subst, inl, inr, arith}
use Rattle.std.proofs.lemmas.Bool.{cases_lt}
use Rattle.sheet.specs.Stored.{Small, text}
use Rattle.sheet.specs.Faults.{at_place, Unreadable, NodesOut, CountOut, NoHeading, no_kind, other_kind, no_nodes, nodes_out, no_count, count_out}
use Rattle.sheet.specs.declared.faults.Placed.{Placed}
use Rattle.sheet.specs.declared.faults.BytesFault.{BytesFault}
use Rattle.sheet.specs.declared.faults.BytesFault.TheVariants as bytes
use Rattle.sheet.specs.declared.faults.SheetFault.{SheetFault}
use Rattle.sheet.specs.declared.faults.SheetFault.TheVariants as sheet
use Rattle.sheet.proofs.Readers.{One, Then, stops, goes, then_one, Unless, bad, good, unless_one}
use Rattle.sheet.proofs.NumberReader.{ANumber, some, none, number_one, first_number, place_at, place_between}

-- how many nodes and lines a heading may announce
pub nodes_few : (n : ℕ) → (NodesOut n → ⊥) → n ≤ 24
nodes_few n h = elim (cases_lt 24 n) [ inl k ↦ absurd (h (inr k)) | inr k ↦ k ]

pub count_few : (n : ℕ) → (CountOut n → ⊥) → n ≤ 96
count_few n h = elim (cases_lt 96 n) [ inl k ↦ absurd (h k) | inr k ↦ k ]

module _ {Y : Type 0} (end : ℕ) (Bad : ℕ → Type 0) (fault : BytesFault) (Q : ℕ → List ℕ → Result Y SheetFault → Type 0) where
  -- a number of the heading, which must not be bad, and then what follows
  abbrev Headed : List ℕ → Result Y SheetFault → Type 0
  Headed bs = Then (ANumber end) (λ n rest. Unless (Bad n) (sheet.Bytes (at_place fault (end - length bs))) (Q n rest)) bs

  headed_one : ((n : ℕ) (rest : List ℕ) → One (Q n rest)) → (bs : List ℕ) → One (Headed bs)
  headed_one q bs =
      let f = sheet.Bytes (at_place fault (end - length bs)) in
      then_one (ANumber end) (λ n rest. Unless (Bad n) f (Q n rest)) bs (number_one end bs) (λ n rest. unless_one (Bad n) f (Q n rest) (q n rest))

  headed_in : (n : ℕ) (ns bs rest : List ℕ) (r : Result Y SheetFault) → Small n → (Bad n → ⊥) → bs ≡ text (n ∷ ns) ++ rest → Q n (text ns ++ rest) r → Headed bs r
  headed_in n ns bs rest r small ok e q = goes n (text ns ++ rest) (first_number end n ns bs rest small e) (good ok q)

  headed_out : (n : ℕ) (ns bs rest : List ℕ) → Small n → Bad n → bs ≡ text (n ∷ ns) ++ rest → Headed bs (Err (sheet.Bytes (at_place fault (end - length bs))))
  headed_out n ns bs rest small out e = goes n (text ns ++ rest) (first_number end n ns bs rest small e) (bad out)

module _ {Y : Type 0} (kind : ℕ) (all : List ℕ) (After : (nodes count : ℕ) → List ℕ → Result Y SheetFault → Type 0) where
  abbrev end : ℕ
  end = length all

  abbrev AfterNodes : ℕ → List ℕ → Result Y SheetFault → Type 0
  AfterNodes nodes = Headed end CountOut bytes.HeadingOutOfRange (After nodes)

  abbrev AfterKind : ℕ → List ℕ → Result Y SheetFault → Type 0
  AfterKind k = Headed end NodesOut bytes.HeadingOutOfRange AfterNodes

  -- what reading the bytes comes to: a heading of the kind, and then what follows
  abbrev pub WithHeading : Result Y SheetFault → Type 0
  WithHeading = Headed end (λ k. k ≢ kind) bytes.OtherKind AfterKind all

  pub heading_one : ((nodes count : ℕ) (rest : List ℕ) → One (After nodes count rest)) → One WithHeading
  heading_one one =
      headed_one end (λ k. k ≢ kind) bytes.OtherKind AfterKind (λ k.
      headed_one end NodesOut bytes.HeadingOutOfRange AfterNodes (λ nodes. headed_one end CountOut bytes.HeadingOutOfRange (After nodes) (one nodes))) all

  none_here : (place : ℕ) (rest : List ℕ) (f : Placed BytesFault) → place ≡ end - length rest → Unreadable place end rest f → ANumber end rest (Err (sheet.Bytes f))
  none_here place rest f p u = none f (subst (λ (q : ℕ). Unreadable q end rest f) p u)

  placed : (f : BytesFault) (p q : ℕ) → p ≡ q → WithHeading (Err (sheet.Bytes (at_place f q))) → WithHeading (Err (sheet.Bytes (at_place f p)))
  placed f p q e r = subst (λ (x : ℕ). WithHeading (Err (sheet.Bytes (at_place f x)))) (sym e) r

  module _ (small : Small kind) where
    -- the kind is read
    past_kind : (ns rest : List ℕ) (r : Result Y SheetFault) → all ≡ text (kind ∷ ns) ++ rest → AfterKind kind (text ns ++ rest) r → WithHeading r
    past_kind ns rest r e after = headed_in end (λ k. k ≢ kind) bytes.OtherKind AfterKind kind ns all rest r small (λ other. other refl) e after

    -- the kind and the nodes are read
    past_nodes : (n : ℕ) (ns rest : List ℕ) (r : Result Y SheetFault) → (NodesOut n → ⊥) → all ≡ text (kind ∷ n ∷ ns) ++ rest → AfterNodes n (text ns ++ rest) r → WithHeading r
    past_nodes n ns rest r nodes_in e after =
        let few = nodes_few n nodes_in in
        past_kind (n ∷ ns) rest r e (headed_in end NodesOut bytes.HeadingOutOfRange AfterNodes n ns (text (n ∷ ns) ++ rest) rest r (omega arith) nodes_in refl after)

    -- the heading is read
    pub a_heading : (n m : ℕ) (ns rest : List ℕ) (r : Result Y SheetFault) → (NodesOut n → ⊥) → (CountOut m → ⊥) → all ≡ text (kind ∷ n ∷ m ∷ ns) ++ rest → After n m (text ns ++ rest) r → WithHeading r
    a_heading n m ns rest r nodes_in count_in e after =
        let few = count_few m count_in in
        past_nodes n (m ∷ ns) rest r nodes_in e (headed_in end CountOut bytes.HeadingOutOfRange (After n) m ns (text (m ∷ ns) ++ rest) rest r (omega arith) count_in refl after)

    pub no_heading : (f : Placed BytesFault) → NoHeading kind end all f → WithHeading (Err (sheet.Bytes f))
    no_heading _ (no_kind f u) = stops (sheet.Bytes f) (none_here 0 all f (omega arith) u)
    no_heading _ (other_kind n rest h e other) = placed bytes.OtherKind 0 (end - length all) (omega arith) (goes n rest (some n rest h e) (bad other))
    no_heading _ (no_nodes rest f e u) = past_kind [] rest (Err (sheet.Bytes f)) e (stops (sheet.Bytes f) (none_here (length (text (kind ∷ []))) rest f (place_at all (text (kind ∷ [])) rest e) u))
    no_heading _ (nodes_out n rest h e out) =
        let left = text (n ∷ []) ++ rest in
        placed bytes.HeadingOutOfRange (length (text (kind ∷ []))) (end - length left) (place_between all (kind ∷ []) (n ∷ []) rest e)
        (past_kind (n ∷ []) rest _ e (headed_out end NodesOut bytes.HeadingOutOfRange AfterNodes n [] left rest h out refl))
    no_heading _ (no_count n rest f nodes_in e u) =
        past_nodes n [] rest (Err (sheet.Bytes f)) nodes_in e (stops (sheet.Bytes f) (none_here (length (text (kind ∷ n ∷ []))) rest f (place_at all (text (kind ∷ n ∷ [])) rest e) u))
    no_heading _ (count_out n m rest nodes_in h e out) =
        let left = text (m ∷ []) ++ rest in
        placed bytes.HeadingOutOfRange (length (text (kind ∷ n ∷ []))) (end - length left) (place_between all (kind ∷ n ∷ []) (m ∷ []) rest e)
        (past_nodes n (m ∷ []) rest _ nodes_in e (headed_out end CountOut bytes.HeadingOutOfRange (After n) m [] left rest h out refl))
