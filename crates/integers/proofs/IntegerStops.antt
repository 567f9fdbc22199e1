-- Nothing behind a byte outside of the raw name's class, such as a quiet byte or a slash, changes what an integer reads as, refusals included. Assumes nothing.
use Rattle.std.proofs.Common.{Err}
use Rattle.text.specs.Refusals.{Told, eof}
use Prim.Native.Nat.{◌+◌, ◌<◌, ◌≤◌, ℕ}
use native.Mathlib.Omega.{arith}
use mathlib.Core.Bool.{Bool, ◌||◌, cond, false, true, ◌&&◌, not}
use mathlib.Core.List.{List, [], ◌∷◌, ◌++◌}
use mathlib.Core.Path.{◌∙◌, ◌≡◌, ap, refl, sym}
use lib.Dec.{eqb, ltb}
use lib.ListN.{drop, length}
use borrow.Author.Tests.{ne_eqb, ltb-true, not-true}
use Rattle.digits.specs.Digits.{run_of}
use Rattle.integers.proofs.Fronts.{prefix_by_le, sign_by_le}
use Rattle.integers.proofs.WordStops.{first_stopped}
use Rattle.integers.specs.Front.{behind_sign, front_of, prefix_of, sign_of}
use Rattle.integers.specs.Integer.{any_as, any_behind, any_of, behind_run, chosen_of, numeral_of, typed_as, typed_behind, typed_of}
use Rattle.integers.specs.Width.{code_of, limit_at, suffix_of, suffix_word, widest, width_at}
use Rattle.integers.specs.declared.front.Front.{Front}
use Rattle.integers.specs.declared.front.Prefix.{Prefix}
use Rattle.integers.specs.declared.front.Sign.{Sign}
use Rattle.integers.specs.declared.ident.Found.{Found}
use Rattle.integers.specs.declared.integer.Integer.{Integer}
use Rattle.integers.specs.declared.width.Width.{Width}
use Rattle.text.proofs.Choices.{bool_cases, either, or_left, or_right, and_true}
use Rattle.text.proofs.ClassLaws.{inside, within_true}
use Rattle.text.proofs.Stops.{Stopped, Reach, on, on₂, bind, part, behind, sum, run_reach, empty_stopped}
use Rattle.text.specs.Classes.{digit, hex_digit, ascii_next, ascii_raw, int_char, letter, within}
use Rattle.text.specs.Runs.{run}
use Rattle.integers.specs.declared.integer.Integer.TheVariants as integer

-- ---- such a byte is of none of the other classes

narrow : (lo hi lo' hi' c : ℕ) → lo ≤ lo' → hi' ≤ hi → within lo hi c ≡ false → within lo' hi' c ≡ false
narrow lo hi lo' hi' c a b e =
    either (bool_cases (within lo' hi' c))
    (λ p. let q = within_true lo' hi' c p in
    let z : true ≡ false = sym (inside lo hi c (omega (arith, q.0)) (omega (arith, q.1))) ∙ e in let k : ◌≡◌ {A = ℕ} 0 1 = cc in absurd (omega arith))
    (λ p. p)

pub record Outside (c : ℕ) : Type 0 where
  pub raw : ascii_raw c ≡ false
  pub low : c < 0x80

-- told by a test that computes
abbrev pub outside : ℕ → Bool
outside c = not (ascii_raw c) && ltb c 0x80

pub told_outside : (c : ℕ) → outside c ≡ true → Outside c
told_outside c e =
    let o = and_true (not (ascii_raw c)) (ltb c 0x80) e in
    record { raw = not-true (ascii_raw c) o.0; low = ltb-true c 0x80 o.1 }

pub slash_outside : Outside 0x2f
unfolding ascii_raw ascii_next letter digit within
slash_outside = told_outside 0x2f refl

module _ {c : ℕ} (o : Outside c) where
  pub out_next : ascii_next c ≡ false
  unfolding ascii_raw
  out_next = or_right (eqb c 0x2e || (eqb c 0x2b || (eqb c 0x2d || false))) (ascii_next c) o.raw

  pub out_letter : letter c ≡ false
  unfolding ascii_next
  out_letter = or_left (letter c) (digit c || eqb c 0x5f) out_next

  pub out_digit : digit c ≡ false
  unfolding ascii_next
  out_digit = or_left (digit c) (eqb c 0x5f) (or_right (letter c) (digit c || eqb c 0x5f) out_next)

  pub out_underscore : eqb c 0x5f ≡ false
  unfolding ascii_next
  out_underscore = or_right (digit c) (eqb c 0x5f) (or_right (letter c) (digit c || eqb c 0x5f) out_next)

  pub out_sign : (eqb c 0x2e ≡ false) × (eqb c 0x2b ≡ false) × (eqb c 0x2d ≡ false)
  unfolding ascii_raw
  out_sign =
      let s = or_left (eqb c 0x2e || (eqb c 0x2b || (eqb c 0x2d || false))) (ascii_next c) o.raw in
      let t = or_right (eqb c 0x2e) (eqb c 0x2b || (eqb c 0x2d || false)) s in
      (or_left (eqb c 0x2e) (eqb c 0x2b || (eqb c 0x2d || false)) s, or_left (eqb c 0x2b) (eqb c 0x2d || false) t, or_left (eqb c 0x2d) false (or_right (eqb c 0x2b) (eqb c 0x2d || false) t))

  pub out_int : int_char c ≡ false
  unfolding int_char hex_digit letter
  out_int =
      let l = out_letter in
      rw (out_digit, out_underscore, narrow 0x41 0x5a 0x41 0x46 c (omega arith) (omega arith) (or_left (within 0x41 0x5a c) (within 0x61 0x7a c) l), narrow 0x61 0x7a 0x61 0x66 c (omega arith) (omega arith) (or_right (within 0x41 0x5a c) (within 0x61 0x7a c) l))

-- ---- the parts of an integer

module _ (c : ℕ) (o : Outside c) where
  pub int_reach : Reach c (run int_char)
  int_reach = run_reach int_char (out_int o)

  sign_same : (u v v' : List ℕ) → sign_of (u ++ c ∷ v) ≡ sign_of (u ++ c ∷ v')
  unfolding sign_of
  sign_same [] v v' = refl
  sign_same (x ∷ u) v v' = refl

  sign_short : (u v : List ℕ) → (sign_of (u ++ c ∷ v)).end ≤ length u
  unfolding sign_of
  sign_short [] v = rw ((out_sign o).1, (out_sign o).2) (omega arith)
  sign_short (x ∷ u) v = omega (arith, sign_by_le x)

  pub sign_stopped : Stopped c sign_of
  sign_stopped = record { same = sign_same }

  pub sign_reach : Reach c (λ s. (sign_of s).end)
  sign_reach = record { stopped = on (λ (g : Sign). g.end) sign_stopped; short = sign_short }

  zero_out : eqb c 0x30 ≡ false
  unfolding digit
  zero_out = ne_eqb c 0x30 (λ e. let q : within 0x30 0x39 0x30 ≡ false = ap (within 0x30 0x39) (sym e) ∙ out_digit o in let z : true ≡ false = sym (inside 0x30 0x39 0x30 (omega arith) (omega arith)) ∙ q in let k : ◌≡◌ {A = ℕ} 0 1 = cc in absurd (omega arith))

  -- no letter of a prefix is such a byte
  letter_out : (l : ℕ) → 0x61 ≤ l → l ≤ 0x7a → eqb c l ≡ false
  unfolding letter
  letter_out l a b = ne_eqb c l (λ e.
      let q : within 0x61 0x7a l ≡ false = ap (within 0x61 0x7a) (sym e) ∙ or_right (within 0x41 0x5a c) (within 0x61 0x7a c) (out_letter o) in
      let z : true ≡ false = sym (inside 0x61 0x7a l a b) ∙ q in let k : ◌≡◌ {A = ℕ} 0 1 = cc in absurd (omega arith))

  prefix_same : (u v v' : List ℕ) → prefix_of (u ++ c ∷ v) ≡ prefix_of (u ++ c ∷ v')
  unfolding prefix_of
  prefix_same [] v v' = rw zero_out
  prefix_same (x ∷ []) v v' = refl
  prefix_same (x ∷ y ∷ u) v v' = refl

  prefix_short : (u v : List ℕ) → (prefix_of (u ++ c ∷ v)).end ≤ length u
  unfolding prefix_of
  prefix_short [] v = rw zero_out (omega arith)
  prefix_short (x ∷ []) v =
      rw (letter_out 0x62 (omega arith) (omega arith), letter_out 0x6f (omega arith) (omega arith), letter_out 0x78 (omega arith) (omega arith))
      (either (bool_cases (eqb x 0x30)) (λ p. rw p (omega arith)) (λ p. rw p (omega arith)))
  prefix_short (x ∷ y ∷ u) v = either (bool_cases (eqb x 0x30)) (λ p. rw p (omega (arith, (prefix_by_le y).0))) (λ p. rw p (omega arith))

  prefix_stopped : Stopped c prefix_of
  prefix_stopped = record { same = prefix_same }

  prefix_reach : Reach c (λ s. (prefix_of s).end)
  prefix_reach = record { stopped = on (λ (p : Prefix). p.end) prefix_stopped; short = prefix_short }

  front_stopped : Stopped c front_of
  unfolding front_of
  front_stopped =
      bind (λ (g : Sign) (s : List ℕ). behind_sign g (drop (sign_of s).end s)) sign_stopped
      (λ g. behind sign_reach (on (λ (p : Prefix). record { minus = g.minus; base = p.base; end = g.end + p.end }) prefix_stopped))

  front_reach : Reach c (λ s. (front_of s).end)
  unfolding front_of
  front_reach = sum sign_reach prefix_reach

  suffix_stopped : Stopped c suffix_of
  unfolding suffix_of suffix_word ascii_raw ascii_next letter digit within width_at
  suffix_stopped = first_stopped ascii_raw c o.low (out_next o) o.raw _ refl

  numeral_stopped : (asked : ℕ) (minus : Bool) (base : ℕ) → Stopped c (numeral_of asked minus base)
  unfolding numeral_of
  numeral_stopped asked minus base =
      on₂ (λ (p : List ℕ) (f : Found). behind_run f.code (length p + f.end) (run_of (limit_at (chosen_of f.code asked) minus) base p))
      (part int_reach) (behind int_reach suffix_stopped)

  -- ---- the whole

  pub typed_stopped : (width : Width) → Stopped c (typed_of width)
  unfolding typed_of
  typed_stopped width =
      on₂ (λ (e : Bool) (r : Integer). cond e (integer.Refused (eof 0)) r) (empty_stopped c)
      (bind (λ (g : Front) (s : List ℕ). typed_behind (code_of width) g (drop (front_of s).end s)) front_stopped
      (λ g. behind front_reach (on (typed_as (code_of width) g.minus g.end) (numeral_stopped (code_of width) g.minus g.base))))

  pub integer_stopped : Stopped c any_of
  unfolding any_of
  integer_stopped =
      on₂ (λ (e : Bool) (r : Told (Width × ℕ)). cond e (Err (eof 0)) r) (empty_stopped c)
      (bind (λ (g : Front) (s : List ℕ). any_behind g (drop (front_of s).end s)) front_stopped
      (λ g. behind front_reach (on (any_as g.minus g.end) (numeral_stopped (widest g.minus) g.minus g.base))))
