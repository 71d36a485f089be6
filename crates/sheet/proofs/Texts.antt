-- The bytes of the first numbers of a list, one number after another.
use Rattle.std.proofs.Common.{◌≡◌, ℕ, zero, suc, ◌+◌, ◌-◌, ◌*◌, ◌<◌, ◌≤◌, List, [], ◌∷◌, ◌++◌, length, get_or, take, drop, sym, ap, ◌∙◌, append_assoc, arith, length-append}
use borrow.Rule.Slice.PartMut.{put_mid}
use Rattle.std.proofs.lemmas.List.{take_more, take_all, take_at, drop_at, take_rest, length-drop, drop-drop, drop_all, append-nil}
use Rattle.std.proofs.lemmas.List.{drop_more}
use Rattle.std.proofs.lemmas.List.Sums.{sum_by-cons}
use Rattle.std.specs.List.{range_with_len, sum_by}
use Rattle.sheet.specs.Stored.{stored, text}
use Rattle.sheet.proofs.Places.{text_push}
use Rattle.sheet.proofs.Sizes.{bytes_between}

pub text_more : (ns : List ℕ) (i : ℕ) → i < length ns → text (take (i + 1) ns) ≡ text (take i ns) ++ stored (get_or ns i 0)
text_more ns i h = ap text (take_more ns i 0 h) ∙ text_push (take i ns) (get_or ns i 0)

pub text_length_more : (ns : List ℕ) (i : ℕ) → i < length ns → length (text (take (i + 1) ns)) ≡ length (text (take i ns)) + length (stored (get_or ns i 0))
text_length_more ns i h = ap length (text_more ns i h) ∙ length-append (text (take i ns)) (stored (get_or ns i 0))

pub text_whole : (ns : List ℕ) (n : ℕ) → length ns ≡ n → text (take n ns) ≡ text ns
text_whole ns n e = ap text (take_all n ns (omega arith))

-- the first numbers take no more bytes than all
pub text_front : (ns : List ℕ) (i : ℕ) → length (text (take i ns)) ≤ length (text ns)
text_front ns zero = omega arith
text_front [] (suc i) = omega arith
text_front (n ∷ ns) (suc i) = omega (arith, text_front ns i, length-append (stored n) (text (take i ns)), length-append (stored n) (text ns))

-- the bytes of the next number end within what all take
pub next_within : (ns : List ℕ) (i : ℕ) → i < length ns → length (text (take i ns)) + length (stored (get_or ns i 0)) ≤ length (text ns)
next_within ns i h = omega (arith, text_front ns (i + 1), text_length_more ns i h)

-- a number written after the bytes of those before it, over bytes that were kept
pub put_more : (end k : ℕ) (front bytes was out part : List ℕ) → length front ≡ end → length bytes ≡ k → out ≡ front ++ drop end was → part ≡ bytes ++ drop k (take (length out - end) (drop end out)) →
    put_mid end (length out - end) out part ≡ (front ++ bytes) ++ drop (end + k) was
put_more end k front bytes was out part long more is wrote =
    let before : take end out ≡ front = ap (take end) is ∙ take_at front (drop end was) end long in
    let rest : drop end out ≡ drop end was = ap (drop end) is ∙ drop_at front (drop end was) end long in
    let nothing : drop (length out - end) (drop end out) ≡ [] = drop_all (length out - end) (drop end out) (simp length-drop (omega arith)) in
    let tail : drop k (take (length out - end) (drop end out)) ≡ drop (end + k) was = ap (drop k) (take_rest out end ∙ rest) ∙ drop-drop k end was in
    ap (λ (q : List ℕ). q ++ (part ++ drop (length out - end) (drop end out))) before
    ∙ ap (λ (q : List ℕ). front ++ (part ++ q)) nothing
    ∙ ap (λ (q : List ℕ). front ++ q) (append-nil part ∙ wrote ∙ ap (λ (q : List ℕ). bytes ++ q) tail)
    ∙ sym (append_assoc front bytes (drop (end + k) was))

-- the bytes that the numbers take one by one, from a place on
pub lengths_sum : (ns : List ℕ) (n a : ℕ) → a + n ≡ length ns → sum_by (λ (i : ℕ). length (stored (get_or ns i 0))) (range_with_len a n) ≡ length (text (drop a ns))
lengths_sum ns zero a e = ap (λ (q : List ℕ). length (text q)) (sym (drop_all a ns (omega arith)))
lengths_sum ns (suc n) a e =
    let h = λ (i : ℕ). length (stored (get_or ns i 0)) in
    sum_by-cons h a (range_with_len (a + 1) n) ∙ ap (λ (k : ℕ). h a + k) (lengths_sum ns n (a + 1) (omega arith))
    ∙ sym (ap (λ (q : List ℕ). length (text q)) (drop_more ns a 0 (omega arith)) ∙ length-append (stored (get_or ns a 0)) (text (drop (a + 1) ns)))

-- a number takes at most three bytes
pub text_short : (ns : List ℕ) → length (text ns) ≤ 3 * length ns
text_short [] = omega arith
text_short (n ∷ ns) = omega (arith, text_short ns, length-append (stored n) (text ns), (bytes_between n).1)
