-- Any calls make one thing of a net.
use Rattle.std.proofs.Common.{◌≡◌, ℕ, suc, ◌<◌, ◌≤◌, [], ◌∷◌, length, refl, subst, inl, inr, arith}
use native.Mathlib.Decide.{dec_le, dec_lt}
use Rattle.label.specs.Group.{Group}
use Rattle.label.specs.Order.{Order}
use Rattle.mesh.specs.Net.{Net}
use Rattle.net.specs.Model.{line_of, with_line}
use Rattle.net.specs.Rules.{line_rules}
use Rattle.net.proofs.Verdicts.{first_or_none}
use Rattle.growth.specs.Surveyed.{Balls}
use Rattle.growth.proofs.Totals.{balls_one, balls_found}
use Rattle.run.specs.Stage.{Stage, drawing, surveyed}
use Rattle.run.specs.After.{without_last}
use Rattle.run.specs.Model.{Breaks, Stays, Turns, draws, takes_back, seals, grows, reopens, stays, Plays, ends, goes_on, SomeEnd, OneEnd}
use Rattle.run.specs.declared.state.Call.{Call}
use Rattle.run.specs.declared.state.Call.TheVariants as call
use Rattle.run.proofs.Decided.{verdict, dec_breaks}

module _ {L M : Type 0} (G : Group M) (stands : L → M) (room space : ℕ) where
  -- what is sealed or grows is not refused
  seals_freely : (net : Net M) → net.nodes ≤ space → space ≤ 65535 → Stays G stands room space call.Seal (drawing net) → ⊥
  seals_freely net a b (inl f) = omega arith
  seals_freely net a b (inr f) = omega arith

  grows_freely : (net : Net M) (r total : ℕ) → r < 16 → Balls G net (suc r) total → total ≤ space → Stays G stands room space call.Grow (surveyed net r) → ⊥
  grows_freely net r t a b c (inl f) = omega arith
  grows_freely net r t a b c (inr f) = let e = balls_one G net (suc r) t f.0 b f.1 in let l = f.2 in omega arith

  one_turn : {c : Call L} {n m m' : Stage M} → Turns G stands room space c n m → Turns G stands room space c n m' → m ≡ m'
  one_turn (draws a) (draws b) = refl
  one_turn (draws {net = net} {l = l} a) (stays s) = absurd (first_or_none (Breaks G stands room net l) s.1 a)
  one_turn (takes_back a) (takes_back b) = refl
  one_turn (takes_back a) (stays s) = absurd (let z : ⊥ = omega arith in z)
  one_turn (seals a b) (seals c d) = refl
  one_turn (seals {net = net} a b) (stays s) = absurd (seals_freely net a b s)
  one_turn (grows t a b c) (grows u d e f) = refl
  one_turn (grows {net = net} {r = r} t a b c) (stays s) = absurd (grows_freely net r t a b c s)
  one_turn reopens reopens = refl
  one_turn reopens (stays s) = absurd s
  one_turn (stays s) (draws {net = net} {l = l} a) = absurd (first_or_none (Breaks G stands room net l) s.1 a)
  one_turn (stays s) (takes_back b) = absurd (let z : ⊥ = omega arith in z)
  one_turn (stays s) (seals {net = net} a b) = absurd (seals_freely net a b s)
  one_turn (stays s) (grows {net = net} {r = r} t a b c) = absurd (grows_freely net r t a b c s)
  one_turn (stays s) reopens = absurd s
  one_turn (stays s) (stays u) = refl

  pub one_end : OneEnd G stands room space
  one_end [] n m m' ends ends = refl
  one_end (c ∷ cs) n m m' (goes_on {m = k} t p) (goes_on {m = k'} u q) = one_end cs k' m m' (subst (λ (x : Stage M). Plays G stands room space cs x m) (one_turn t u) p) q

module _ {L M : Type 0} (G : Group M) (O : Order M) (stands : L → M) (room space : ℕ) where
  -- any call makes something of any net: the rules are decided, and the balls have a number
  some_turn : (c : Call L) (n : Stage M) → (m : Stage M) × Turns G stands room space c n m
  some_turn (call.Line l) (drawing net) =
      elim (verdict (Breaks G stands room net l) (dec_breaks G O net room (line_of stands l)) line_rules) [
        | inl n ↦ (drawing (with_line net (line_of stands l)), draws n)
        | inr x ↦ (drawing net, stays x)
      ]
  some_turn call.TakeBack (drawing net) =
      elim (dec_lt 0 (length net.lines)) [
        | yes h ↦ (drawing (without_last net), takes_back h)
        | no h ↦ (drawing net, stays (omega arith))
      ]
  some_turn call.Seal (drawing net) =
      elim (dec_le net.nodes space) [
        | yes h ↦ elim (dec_le space 65535) [ yes k ↦ (surveyed net 0, seals h k) | no k ↦ (drawing net, stays (inr (omega arith))) ]
        | no h ↦ (drawing net, stays (inl (omega arith)))
      ]
  some_turn call.Grow (drawing net) = (drawing net, stays tt)
  some_turn (call.Count v k) (drawing net) = (drawing net, stays tt)
  some_turn (call.Member v k i) (drawing net) = (drawing net, stays tt)
  some_turn (call.Next v k floor) (drawing net) = (drawing net, stays tt)
  some_turn (call.Distance v j) (drawing net) = (drawing net, stays tt)
  some_turn call.Reopen (drawing net) = (drawing net, stays tt)
  some_turn (call.Line l) (surveyed net r) = (surveyed net r, stays tt)
  some_turn call.TakeBack (surveyed net r) = (surveyed net r, stays tt)
  some_turn call.Seal (surveyed net r) = (surveyed net r, stays tt)
  some_turn call.Grow (surveyed net r) =
      let b = balls_found O G net (suc r) in
      elim (dec_lt r 16) [
        | yes h ↦ elim (dec_le b.0 space) [
          | yes k ↦ (surveyed net (suc r), grows b.0 h b.1 k)
          | no k ↦ (surveyed net r, stays (inr (b.0, b.1, omega arith)))
        ]
        | no h ↦ (surveyed net r, stays (inl (omega arith)))
      ]
  some_turn (call.Count v k) (surveyed net r) = (surveyed net r, stays tt)
  some_turn (call.Member v k i) (surveyed net r) = (surveyed net r, stays tt)
  some_turn (call.Next v k floor) (surveyed net r) = (surveyed net r, stays tt)
  some_turn (call.Distance v j) (surveyed net r) = (surveyed net r, stays tt)
  some_turn call.Reopen (surveyed net r) = (drawing net, reopens)

  pub some_end : SomeEnd G stands room space
  some_end [] n = (n, ends)
  some_end (c ∷ cs) n =
      let t = some_turn c n in
      let p = some_end cs t.0 in
      (p.0, goes_on t.1 p.1)
