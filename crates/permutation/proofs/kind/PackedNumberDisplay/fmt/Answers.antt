use Rattle.std.proofs.Common.{◌≡◌, ℕ, ◌≤◌, List, [], ◌∷◌, ◌++◌, length, codes, decimal, get_or, drop, take, sym, ap, ◌∙◌, rules, arith, take_all, append_assoc}
use Rattle.std.specs.Fmt.{HasWritten, IsPlainFormatter}
use Rattle.std.specs.List.{flat_map}
use Rattle.std.proofs.lemmas.List.{append-nil}
use Rattle.std.proofs.lemmas.Grind.{put_three}
use Rattle.symmetric.proofs.Laws.{facts_of}
use Rattle.permutation.specs.Texts.{spaced}
use Rattle.permutation.proofs.kind.PackedNumberDisplay.fmt.Goals as goal

spaced_next : (x : ℕ) (xs : List ℕ) → decimal x ++ flat_map (λ n. 32 ∷ decimal n) xs ≡ spaced (x ∷ xs)
spaced_next x [] = append-nil (decimal x)
spaced_next x (y ∷ ys) = ap (λ t. decimal x ++ (32 ∷ t)) (spaced_next y ys)

told : (xs : List ℕ) (i : ℕ) → length xs ≡ 8 → 7 ≤ i → (codes "[" ++ decimal (get_or xs 0 0)) ++ (flat_map (λ n. 32 ∷ decimal n) (take i (take 7 (drop 1 xs))) ++ codes "]") ≡ codes "[" ++ (spaced xs ++ codes "]")
told [] i l h = absurd (omega arith)
told (x ∷ xs) i l h =
    let all : take i (take 7 xs) ≡ xs = ap (take i) (take_all 7 xs (omega arith)) ∙ take_all i xs (omega arith) in
    ap (λ ys. 91 ∷ (decimal x ++ (flat_map (λ n. 32 ∷ decimal n) ys ++ codes "]"))) all
    ∙ ap (λ t. 91 ∷ t) (sym (append_assoc (decimal x) (flat_map (λ n. 32 ∷ decimal n) xs) (codes "]")) ∙ ap (λ t. t ++ codes "]") (spaced_next x xs))

pub returns-clause-writes : goal.returns-clause-writes
returns-clause-writes g c plain ok =
    let xs = c.images-images.result in
    let l : length xs ≡ 8 = (facts_of xs c.images-images.ensures.1).len in
    let before : HasWritten g.W.Write.write_str_gives c.args.f.now (codes "[" ++ decimal (get_or c.images-images.result 0 0)) c.write.new.self = search rules in
    let plainer : IsPlainFormatter c.write.new.self = search rules in
    let between = c.loop-image.invariant plainer in
    let after : HasWritten g.W.Write.write_str_gives c.loop-image.f (codes "]") c.write-2.new.self = search rules in
    let whole = told xs c.loop-image.image-index l (omega arith) in
    put_three _ _ _ _ _ _ _ _ _ before between after
    (whole ∙ ap (λ ys. codes "[" ++ (spaced ys ++ codes "]")) (c.images-images.ensures.0 ∙ ap (λ p. p.0) c.from.ensures))
