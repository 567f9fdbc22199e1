-- Laws on runs and on UTF-8 that `text` does not have. Assumes nothing.
use Prim.Native.Nat.{◌+◌, ◌<◌, ◌≤◌, suc, zero, ℕ}
use native.Mathlib.Omega.{arith}
use mathlib.Core.Bool.{Bool, true}
use mathlib.Core.List.{List, [], ◌++◌, ◌∷◌, append_assoc}
use mathlib.Core.Path.{◌∙◌, ◌≡◌, ap, refl, subst, sym}
use lib.Dec.{ltb}
use lib.ListN.{get_or-append, drop, get_or, length}
use lib.Seq.{get_or-append-add}
use borrow.Author.Tests.{ltb-true}
use Rattle.text.proofs.Choices.{bool_cases, either, lt_or_le}
use Rattle.text.proofs.Utf8Agree.{encoded_text, text_encoded}
use Rattle.text.specs.Runs.{ascii, run}
use Rattle.text.specs.Utf8.{Char, Encoded, Text, encode}
use Rattle.text.specs.Utf8.Char.{utf8_1, utf8_2, utf8_3a, utf8_3b, utf8_3c, utf8_3d, utf8_4a, utf8_4b, utf8_4c}
use Rattle.text.specs.Utf8.Encoded.{ends, next}
use Rattle.text.specs.Utf8.Text.{more, none}

-- ---- runs

-- a wider class runs at least as far
pub run_wider : (p q : ℕ → Bool) → ((b : ℕ) → p b ≡ true → q b ≡ true) → (s : List ℕ) → run p s ≤ run q s
unfolding run
run_wider p q f [] = omega arith
run_wider p q f (b ∷ s) =
    let h = run_wider p q f s in
    either (bool_cases (p b)) (λ e. rw (e, f b e) (omega arith)) (λ e. rw e (omega arith))

-- ---- texts in two parts

three_tail : (a b c : ℕ) → 0x80 ≤ b → 0x80 ≤ c → (k : ℕ) → 0 < k → k < 3 → 0x80 ≤ get_or (a ∷ b ∷ c ∷ []) k 0
three_tail a b c h i zero p q = absurd (omega arith)
three_tail a b c h i (suc zero) p q = h
three_tail a b c h i (suc (suc zero)) p q = i
three_tail a b c h i (suc (suc (suc k))) p q = absurd (omega arith)

four_tail : (a b c d : ℕ) → 0x80 ≤ b → 0x80 ≤ c → 0x80 ≤ d → (k : ℕ) → 0 < k → k < 4 → 0x80 ≤ get_or (a ∷ b ∷ c ∷ d ∷ []) k 0
four_tail a b c d h i j zero p q = absurd (omega arith)
four_tail a b c d h i j (suc zero) p q = h
four_tail a b c d h i j (suc (suc zero)) p q = i
four_tail a b c d h i j (suc (suc (suc zero))) p q = j
four_tail a b c d h i j (suc (suc (suc (suc k)))) p q = absurd (omega arith)

-- a character's bytes behind the first are no ASCII
char_tail : {l : List ℕ} → Char l → (k : ℕ) → 0 < k → k < length l → 0x80 ≤ get_or l k 0
char_tail (utf8_1 h) k p q = absurd (omega arith)
char_tail (utf8_2 h i) zero p q = absurd (omega arith)
char_tail (utf8_2 h i) (suc zero) p q = omega arith
char_tail (utf8_2 h i) (suc (suc k)) p q = absurd (omega arith)
char_tail (utf8_3a {a} {b} {c} e h i) k p q = three_tail a b c (omega arith) (omega arith) k p q
char_tail (utf8_3b {a} {b} {c} e h i) k p q = three_tail a b c (omega arith) (omega arith) k p q
char_tail (utf8_3c {a} {b} {c} e h i) k p q = three_tail a b c (omega arith) (omega arith) k p q
char_tail (utf8_3d {a} {b} {c} e h i) k p q = three_tail a b c (omega arith) (omega arith) k p q
char_tail (utf8_4a {a} {b} {c} {d} e h i j) k p q = four_tail a b c d (omega arith) (omega arith) (omega arith) k p q
char_tail (utf8_4b {a} {b} {c} {d} e h i j) k p q = four_tail a b c d (omega arith) (omega arith) (omega arith) k p q
char_tail (utf8_4c {a} {b} {c} {d} e h i j) k p q = four_tail a b c d (omega arith) (omega arith) (omega arith) k p q

-- where two lists agree, the longer front holds the shorter
pub align : (l s u v : List ℕ) → l ++ s ≡ u ++ v → length l ≤ length u → (w : List ℕ) × (u ≡ l ++ w) × (s ≡ w ++ v)
align [] s u v e h = (u, refl, e)
align (a ∷ l) s [] v e h = absurd (omega arith)
align (a ∷ l) s (b ∷ u) v e h =
    let same : a ≡ b = cc in
    let rest : l ++ s ≡ u ++ v = cc in
    let r = align l s u v rest (omega arith) in
    (r.0, (let q = r.1 in cc), r.2)

-- a text is cut where no character's inside stands
text_cut : {t : List ℕ} → Text t → (u v : List ℕ) → t ≡ u ++ v → get_or v 0 0 < 0x80 → Text u × Text v
text_cut none [] [] e h = (none, none)
text_cut none [] (b ∷ v) e h = let z : length {A = ℕ} [] ≡ length (b ∷ v) = ap length e in absurd (omega arith)
text_cut none (b ∷ u) v e h = let z : length {A = ℕ} [] ≡ length (b ∷ u ++ v) = ap length e in absurd (omega arith)
text_cut (more {l} {s} ch x) [] v e h = (none, subst Text e (more ch x))
text_cut (more {l} {s} ch x) (b ∷ u) v e h = cut_on l s (b ∷ u) v ch e (omega arith) h (λ w q. text_cut x w v q h)
  where
    cut_on : (l s u v : List ℕ) → Char l → l ++ s ≡ u ++ v → 0 < length u → get_or v 0 0 < 0x80 → ((w : List ℕ) → s ≡ w ++ v → Text w × Text v) → Text u × Text v
    cut_on l s u v ch e p h rest =
        either (lt_or_le (length u) (length l))
        (λ k. let here : get_or (u ++ v) (length u + 0) 0 ≡ get_or v 0 0 = get_or-append-add u v 0 0 in
        let n : length u + 0 ≡ length u = omega arith in
        let there : get_or (u ++ v) (length u) 0 ≡ get_or l (length u) 0 = ap (λ (x : List ℕ). get_or x (length u) 0) (sym e) ∙ get_or-append l s 0 (length u) k in
        absurd (omega (arith, rw n at here, there, char_tail ch (length u) p k)))
        (λ k. let r = align l s u v e k in
        let t = rest r.0 r.2 in
        (subst Text (sym r.1) (more ch t.0), t.1))

pub encoded_cut : (u v : List ℕ) → Encoded (u ++ v) → get_or v 0 0 < 0x80 → Encoded u × Encoded v
encoded_cut u v e h = let r = text_cut (encoded_text e) u v refl h in (text_encoded r.0, text_encoded r.1)

pub encoded_join : {u v : List ℕ} → Encoded u → Encoded v → Encoded (u ++ v)
encoded_join ends y = y
encoded_join {v = v} (next c {s} sc x) y = subst Encoded (sym (append_assoc (encode c) s v)) (next c sc (encoded_join x y))

-- a byte of ASCII in front of a text is a character by itself
behind_one : {t : List ℕ} → Text t → (a : ℕ) (s : List ℕ) → t ≡ a ∷ s → a < 0x80 → Encoded s
behind_one none a s e h = let z : length {A = ℕ} [] ≡ length (a ∷ s) = ap length e in absurd (omega arith)
behind_one (more {s = r} (utf8_1 {a = x} i) y) a s e h = let q : r ≡ s = cc in subst Encoded q (text_encoded y)
behind_one (more (utf8_2 {a = x} i j) y) a s e h = let q : x ≡ a = cc in absurd (omega arith)
behind_one (more (utf8_3a {a = x} i j k) y) a s e h = let q : x ≡ a = cc in absurd (omega arith)
behind_one (more (utf8_3b {a = x} i j k) y) a s e h = let q : x ≡ a = cc in absurd (omega arith)
behind_one (more (utf8_3c {a = x} i j k) y) a s e h = let q : x ≡ a = cc in absurd (omega arith)
behind_one (more (utf8_3d {a = x} i j k) y) a s e h = let q : x ≡ a = cc in absurd (omega arith)
behind_one (more (utf8_4a {a = x} i j k l) y) a s e h = let q : x ≡ a = cc in absurd (omega arith)
behind_one (more (utf8_4b {a = x} i j k l) y) a s e h = let q : x ≡ a = cc in absurd (omega arith)
behind_one (more (utf8_4c {a = x} i j k l) y) a s e h = let q : x ≡ a = cc in absurd (omega arith)

-- a text behind bytes of ASCII
pub encoded_behind : (n : ℕ) (s : List ℕ) → Encoded s → n ≤ run ascii s → Encoded (drop n s)
unfolding run
encoded_behind zero s e h = e
encoded_behind (suc n) [] e h = e
encoded_behind (suc n) (b ∷ s) e h =
    either (bool_cases (ltb b 0x80))
    (λ t. let i : suc n ≤ suc (run ascii s) = rw t at h in encoded_behind n s (behind_one (encoded_text e) b s refl (ltb-true b 0x80 t)) (omega arith))
    (λ t. let i : suc n ≤ 0 = rw t at h in absurd (omega arith))
