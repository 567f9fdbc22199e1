-- The fronts of a part that begins with no gap: none of them does either, and where no token starts with its first character, those that have it whole are refused
-- at once. Assumes nothing.
use Prim.Native.Nat.{ℕ, suc, ◌+◌, ◌<◌, ◌≤◌}
use native.Mathlib.Omega.{arith}
use mathlib.Core.Bool.{Bool, true, false, cond, ◌&&◌}
use mathlib.Core.List.{List, [], ◌++◌, ◌∷◌, append-nil}
use mathlib.Core.Path.{◌≡◌, ap, refl, subst, sym, ◌∙◌}
use lib.Dec.{eqb, ltb}
use lib.ListN.{drop, get_or, length, length-append, take, take-append-drop}
use lib.Seq.{length-take-le}
use borrow.Author.Tests.{lt-ltb}
use Rattle.text.proofs.CharFronts.{len_short}
use Rattle.text.proofs.Choices.{bool_cases, either}
use Rattle.text.proofs.Utf8Agree.{Head, char_len_char, char_len_le, head_view}
use Rattle.text.proofs.Utf8Agree.Head.{a_char, no_char}
use Rattle.text.proofs.Utf8Laws.{char_len_ascii}
use Rattle.text.specs.Ahead.{char_if}
use Rattle.text.specs.Classes.{ident_first}
use Rattle.text.specs.Refusals.{unexpected_char}
use Rattle.text.specs.Utf8.{char_len}
use Rattle.comments.proofs.GapLaws.{Sized, gap_ends, item_sized, on_blank}
use Rattle.comments.specs.Gaps.{gap_from, gap_of, item_of}
use Rattle.comments.specs.declared.gap.Gap.TheVariants as gap
use Rattle.comments.specs.declared.gap.Item.TheVariants.{Blank, Other}
use Rattle.octets.proofs.Exactly.{Lies, lies}
use Rattle.octets.proofs.Exactly.Lies.{past, within}
use Rattle.gaps.proofs.Items.{Front, fronts, item_more, item_space}
use Rattle.gaps.proofs.Standing.{clear_least}
use Rattle.reading.specs.Tokens.{refuse, stop}
use Rattle.tokens.specs.Lexemes.{lexeme_of}
use Rattle.tokens.specs.Ron.{by_gap, lexeme_behind, ron_token}
use Rattle.tokens.specs.Token.{token_of}
use Rattle.tokens.specs.declared.shape.Shape.{Shape}
use Rattle.tokens.specs.declared.token.Token.{Token}
use Rattle.settled.proofs.CharEnds.{if_more, len_more}
use Rattle.settled.proofs.GapStays.{slash_none}
use Rattle.settled.proofs.NothingEnds.{nothing, nothing_stays, shape_first}
use Rattle.settled.proofs.WordEnds.{stop_ascii}
use Rattle.settled.specs.Bytes.{stops_byte}
use Rattle.settled.specs.Settled.{is_word, once_behind, ron_once, shape_in, starts_nothing}

-- ---- no gap stands in front

no_blank : (s : List ℕ) (n : ℕ) → item_of s ≡ Blank n → gap_of s ≡ gap.Clear 0 → ⊥
unfolding gap_of
no_blank s n i h =
    let z : Sized s (Blank n) = subst (Sized s) i (item_sized s) in
    let e : gap_from (drop n s) 0 (0 + n) ≡ gap.Clear 0 = sym (on_blank s 0 n i z.0 z.1) ∙ h in
    omega (arith, z.0, clear_least (drop n s) (0 + n) 0 e)

gap_other : (s : List ℕ) → item_of s ≡ Other → gap_of s ≡ gap.Clear 0
unfolding gap_of gap_from
gap_other [] i = refl
gap_other (a ∷ s) i = gap_ends (a ∷ s) 0 Other (omega arith) i

pub gap_front : (u v : List ℕ) → gap_of (u ++ v) ≡ gap.Clear 0 → gap_of u ≡ gap.Clear 0
gap_front u v h = go (fronts u)
  where
    slashed : (w : List ℕ) → u ≡ 0x2f ∷ w → ⊥
    slashed w e = slash_none (w ++ v) (ap (λ (x : List ℕ). gap_of (x ++ v)) (sym e) ∙ h)

    go : Front u → gap_of u ≡ gap.Clear 0
    go (Front.space w e) = absurd (no_blank (u ++ v) (suc w) (item_more u v (suc w) (item_space u w e)) h)
    go (Front.ended e) = absurd (slashed [] e)
    go (Front.line t e) = absurd (slashed (0x2f ∷ t) e)
    go (Front.block t e) = absurd (slashed (0x2a ∷ t) e)
    go (Front.odd b t m n e) = absurd (slashed (b ∷ t) e)
    go (Front.other e) = gap_other u e

pub gap_take : (s : List ℕ) (i : ℕ) → gap_of s ≡ gap.Clear 0 → gap_of (take i s) ≡ gap.Clear 0
gap_take s i h = gap_front (take i s) (drop i s) (ap gap_of (take-append-drop i s) ∙ h)

-- ---- at once

pub once_is : (s : List ℕ) → gap_of s ≡ gap.Clear 0 → ron_once s ≡ starts_nothing s
unfolding ron_once
once_is s h = ap (once_behind s) h

pub once_take : (s : List ℕ) (i : ℕ) → gap_of s ≡ gap.Clear 0 → ron_once (take i s) ≡ starts_nothing (take i s)
once_take s i h = once_is (take i s) (gap_take s i h)

-- ---- a character with which no token starts

told_alike : (p q : List ℕ) → char_len p ≡ char_len q → shape_in p ≡ shape_in q → char_if ident_first p ≡ char_if ident_first q → starts_nothing p ≡ starts_nothing q
unfolding starts_nothing
told_alike p q a b c =
    ap (λ (n : ℕ). ltb 0 n && (is_word (shape_in p) && eqb (char_if ident_first p) 0)) a
    ∙ ap (λ (k : Shape). ltb 0 (char_len q) && (is_word k && eqb (char_if ident_first p) 0)) b
    ∙ ap (λ (n : ℕ). ltb 0 (char_len q) && (is_word (shape_in q) && eqb n 0)) c

shape_more : (u v : List ℕ) → 0 < length u → char_if ident_first u ≡ 0 → shape_in (u ++ v) ≡ shape_in u
shape_more [] v l e = absurd (omega arith)
shape_more (a ∷ t) v l e = shape_first a t e (get_or (t ++ v) 0 0) (get_or (t ++ v) 1 0) (get_or t 0 0) (get_or t 1 0)

-- the character has come whole in a front that is as long
len_front : (u v : List ℕ) → 0 < char_len (u ++ v) → char_len (u ++ v) ≤ length u → char_len u ≡ char_len (u ++ v)
len_front u v l h = go (char_len (u ++ v)) (head_view (u ++ v)) l h
  where
    go : (n : ℕ) → Head (u ++ v) n → 0 < n → n ≤ length u → char_len u ≡ n
    go n no_char l h = absurd (omega arith)
    go n (a_char {l} t c e q) _ h = by (lies u v l t q)
      where
        by : Lies u v l t → char_len u ≡ n
        by (within r x y) = ap char_len x ∙ char_len_char l r c ∙ e
        by (past b r x y) = absurd (omega (arith, ap length x, length-append u (b ∷ r)))

alike : (u v : List ℕ) → 0 < char_len u → char_if ident_first u ≡ 0 → starts_nothing (u ++ v) ≡ starts_nothing u
alike u v l e = told_alike (u ++ v) u (len_more u v l) (shape_more u v (omega (arith, char_len_le u)) e) (if_more u v l ident_first)

pub nothing_more : (u v : List ℕ) → starts_nothing u ≡ true → starts_nothing (u ++ v) ≡ true
nothing_more u v h = let k = nothing u h in alike u v k.come k.none ∙ h

pub nothing_front : (u v : List ℕ) → starts_nothing (u ++ v) ≡ true → char_len (u ++ v) ≤ length u → starts_nothing u ≡ true
nothing_front u v h le =
    let k = nothing (u ++ v) h in
    let n = len_front u v k.come le in
    let l : 0 < char_len u = omega (arith, k.come) in
    sym (alike u v l (sym (if_more u v l ident_first) ∙ k.none)) ∙ h

-- before it has come whole, nothing is told of it
pub nothing_short : (u v : List ℕ) → length u < char_len (u ++ v) → starts_nothing u ≡ false
nothing_short u v h =
    either (bool_cases (starts_nothing u)) (λ t. absurd (omega (arith, char_len_le u, len_more u v (nothing u t).come))) (λ t. t)

-- ---- the same of the first i bytes

module _ (s : List ℕ) (i : ℕ) where
  whole : take i s ++ drop i s ≡ s
  whole = take-append-drop i s

  pub nothing_take : starts_nothing s ≡ false → starts_nothing (take i s) ≡ false
  nothing_take h =
      either (bool_cases (starts_nothing (take i s)))
      (λ t. let z : true ≡ false = sym (nothing_more (take i s) (drop i s) t) ∙ ap starts_nothing whole ∙ h in let k : ◌≡◌ {A = ℕ} 0 1 = cc in absurd (omega arith))
      (λ t. t)

  module _ (le : i ≤ length s) where
    pub nothing_come : starts_nothing s ≡ true → char_len s ≤ i → starts_nothing (take i s) ≡ true
    nothing_come h c = nothing_front (take i s) (drop i s) (ap starts_nothing whole ∙ h) (omega (arith, ap char_len whole, length-take-le i s le))

    pub nothing_yet : i < char_len s → starts_nothing (take i s) ≡ false
    nothing_yet h = nothing_short (take i s) (drop i s) (omega (arith, ap char_len whole, length-take-le i s le))

-- no byte of a character of several bytes stops
pub stop_no_char : (x v : List ℕ) (b : ℕ) → stops_byte b ≡ true → char_len (x ++ b ∷ v) ≤ suc (length x)
stop_no_char [] v b h = omega (arith, char_len_ascii (b ∷ v) (omega arith) (stop_ascii b h))
stop_no_char (a ∷ x) v b h = omega (arith, len_short b (stop_ascii b h) (a ∷ x) v (omega arith))

-- ---- its refusal

pub nothing_token : (s : List ℕ) → gap_of s ≡ gap.Clear 0 → starts_nothing s ≡ true → ron_token s ≡ refuse (unexpected_char 0)
unfolding ron_token
nothing_token s g h =
    let k = nothing s h in
    let l : 0 < length s = omega (arith, k.come, char_len_le s) in
    let t = ap token_of (sym (append-nil s)) ∙ nothing_stays s [] k in
    ap (by_gap s) g ∙ ap (λ (b : Bool). cond b (lexeme_behind 0 (lexeme_of (token_of s))) stop) (lt-ltb 0 (length s) l) ∙ ap (λ (x : Token). lexeme_behind 0 (lexeme_of x)) t
