use Rattle.std.proofs.Common.{◌≡◌, ℕ, Bool, true, List, length, take, drop, ◌++◌, IfOk, string_bytes, ap, ◌∙◌, subst, arith}
use Rattle.std.proofs.lemmas.Slice.Eq.{slice_eq-Decides}
use Rattle.std.proofs.Math.Seq.{take-append_seam}
use Rattle.report.specs.Lines.{again_said}
use Rattle.report.proofs.Sayings.{same_again}
use Rattle.report.proofs.saying.ReadNet.again.Goals as goal
use Rattle.std.proofs.lemmas.Bool.Decides.{Decides-eqb}

pub returns-in-Ok : goal.returns-in-Ok
returns-in-Ok g c =
    let bytes = c.args.self.now.bytes.now in
    let room : length c.as_mut_slice.result.now ≡ length bytes = omega (arith, c.as_mut_slice.ensures.len, c.in_ok-out.ensures.len) in
    let t = same_again g.K.Label.group g.K.Label.form g.K.Label.stands g.K.SheetKind.KIND g.K.SheetKind.small bytes c.requires.0 c.args.self.now.list.now c.args.self.now.draft.now c.as_mut_slice.result.now c.write.new.out c.write.result c.requires.1 c.write.ensures room in
    let whole = c.in-Ok.is in
    let said = t.0 in
    let long : c.in-Ok.length ≡ length bytes = cc in
    let filled : c.in_ok-out.out.len ≡ length bytes = c.in_ok-out.ensures.len in
    let part : c.as_slice.result.now ≡ bytes =
    c.as_slice.ensures.value ∙ ap (λ (o : List ℕ). take c.in_ok-out.out.len (o ++ drop (length c.write.new.out) c.in_ok-out.out.items)) t.1
    ∙ ap (λ (n : ℕ). take n (bytes ++ drop (length c.write.new.out) c.in_ok-out.out.items)) filled ∙ take-append_seam bytes (drop (length c.write.new.out) c.in_ok-out.out.items) in
    let same : c.eq.result ≡ true = (slice_eq-Decides Decides-eqb c.as_slice.result.now bytes c.eq.result c.eq.ensures).1 part in
    let first = subst (λ (n : ℕ). IfOk c.again_text.result (λ s. string_bytes s ≡ again_said n c.eq.result)) long c.again_text.ensures in
    subst (λ (b : Bool). IfOk c.again_text.result (λ s. string_bytes s ≡ again_said (length bytes) b)) same first

pub returns : goal.returns
returns g c =
    let room : length c.as_mut_slice.result.now ≡ length c.args.self.now.bytes.now = omega (arith, c.as_mut_slice.ensures.len, c.in_ok-out.ensures.len) in
    let t = same_again g.K.Label.group g.K.Label.form g.K.Label.stands g.K.SheetKind.KIND g.K.SheetKind.small c.args.self.now.bytes.now c.requires.0 c.args.self.now.list.now c.args.self.now.draft.now c.as_mut_slice.result.now c.write.new.out c.write.result c.requires.1 c.write.ensures room in
    let whole = c.in-Err.is in
    let said = t.0 in
    let z : ◌≡◌ {A = ℕ} 0 1 = cc in
    absurd (let no : ⊥ = omega arith in no)
