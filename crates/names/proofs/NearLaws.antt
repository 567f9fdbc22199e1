-- Characters that are told without the table: they are of the class, and behind a run of them the class's own run goes on. Assumes nothing.
use Prim.Native.Nat.{ℕ, zero, suc, ◌+◌, ◌*◌, ◌%◌, ◌≤◌, ◌<◌}
use native.Mathlib.Omega.{arith}
use mathlib.Core.Bool.{Bool, true, false, cond, ◌&&◌, ◌||◌}
use mathlib.Core.List.{List, [], ◌∷◌}
use mathlib.Core.Path.{◌∙◌, ◌≡◌, ap, refl, subst, sym}
use lib.Dec.{ltb}
use lib.ListN.{drop, get_or, length}
use borrow.Author.Tests.{le-ltb, lt-leb, lt-ltb, ltb-false, ne_eqb}
use Rattle.names.specs.Characters.{ascii_char, by_char_width, char_if, chars, chars_from, ident_char, near, usual_pair, wide_ahead}
use Rattle.names.specs.Identifiers.{name_len}
use Rattle.names.specs.declared.Class.{Class}
use Rattle.names.specs.declared.Class.TheVariants.{First, Next, Raw}
use Rattle.text.proofs.AheadLaws.{char_ascii, char_nil}
use Rattle.text.proofs.Choices.{and_false, and_true, bool_cases, chosen, either, or_true}
use Rattle.text.proofs.ClassLaws.{above, below, first_ascii, inside, next_ascii, raw_ascii, within_true}
use Rattle.text.proofs.Lists.{front}
use Rattle.text.proofs.NameClasses.{usual_first, usual_next, usual_raw}
use Rattle.text.proofs.Utf8Laws.{char_len_at}
use Rattle.text.specs.Classes.{ident_first, ident_next, within}
use Rattle.text.specs.Utf8.{char_len, code_of, code_of4, width_of}
use Rattle.xid.specs.Xid.{usual}

pub wide_nil : (s : List ℕ) → length s ≡ 0 → wide_ahead s ≡ false
unfolding wide_ahead
wide_nil [] e = refl
wide_nil (a ∷ s) e = absurd (omega arith)

-- ---- one character

ascii-char : (class : Class) (c : ℕ) → c < 0x80 → ident_char class c ≡ ascii_char class c
ascii-char First c h = first_ascii c h
ascii-char Next c h = next_ascii c h
ascii-char Raw c h = raw_ascii c h

usual_char : (class : Class) (c : ℕ) → usual c ≡ true → ident_char class c ≡ true
usual_char First c e = usual_first c e
usual_char Next c e = usual_next c e
usual_char Raw c e = usual_raw c e

pub near_below : (class : Class) (c : ℕ) → c < 0x80 → near (ident_char class) c ≡ ascii_char class c
near_below class c h = rw (lt-ltb c 0x80 h) (ascii-char class c h)

pub near_wide : (class : Class) (c : ℕ) → 0x80 ≤ c → near (ident_char class) c ≡ usual c
near_wide class c h =
    either (bool_cases (usual c)) (λ e. rw (le-ltb c 0x80 h, e, usual_char class c e)) (λ e. rw (le-ltb c 0x80 h, e))

-- the byte at a place, where it is up to U+007F
pub near_at : (class : Class) (s : List ℕ) (i : ℕ) → i < length s → get_or s i 0 < 0x80 → char_if (near (ident_char class)) (drop i s) ≡ cond (ascii_char class (get_or s i 0)) 1 0
near_at class s i h l =
    rw (front s i h)
    (char_ascii (near (ident_char class)) (get_or s i 0 ∷ drop (i + 1) s) (omega arith) l ∙ ap (λ (t : Bool). cond t 1 0) (near_below class (get_or s i 0) l))

-- ---- two bytes that are a usual letter, range by range

module _ (a b : ℕ) where
  pub pair_below : a < 0xc3 → usual_pair a b ≡ false
  unfolding usual_pair
  pair_below h = rw (below 0xc3 0xd2 a h)

  pub pair_above : 0xd2 < a → usual_pair a b ≡ false
  unfolding usual_pair
  pair_above h = rw (above 0xc3 0xd2 a h)

  pub pair_low : b < 0x80 → usual_pair a b ≡ false
  unfolding usual_pair
  pair_low h = rw (below 0x80 0xbf b h) (and_false (within 0xc3 0xd2 a))

  pub pair_high : 0xbf < b → usual_pair a b ≡ false
  unfolding usual_pair
  pair_high h = rw (above 0x80 0xbf b h) (and_false (within 0xc3 0xd2 a))

  pub pair_is : 0xc3 ≤ a → a ≤ 0xd2 → 0x80 ≤ b → b ≤ 0xbf → usual_pair a b ≡ usual (a % 32 * 64 + b % 64)
  unfolding usual_pair
  pair_is h k l m = rw (inside 0xc3 0xd2 a h k, inside 0x80 0xbf b l m)

-- such a letter is near, and two bytes wide
pub pair_char : (class : Class) (s : List ℕ) → 2 ≤ length s → usual_pair (get_or s 0 0) (get_or s 1 0) ≡ true → char_if (near (ident_char class)) s ≡ 2
unfolding usual_pair char_if code_of code_of4 width_of
pair_char class s h e =
    let a = get_or s 0 0 in
    let b = get_or s 1 0 in
    let x = and_true (within 0xc3 0xd2 a) (within 0x80 0xbf b && usual (a % 32 * 64 + b % 64)) e in
    let y = and_true (within 0x80 0xbf b) (usual (a % 32 * 64 + b % 64)) x.1 in
    let r = within_true 0xc3 0xd2 a x.0 in
    rw (
      char_len_at s (omega arith),
      le-ltb a 0x80 (omega (arith, r.0)),
      lt-ltb a 0xE0 (omega (arith, r.1)),
      y.1,
      usual_char class _ y.1,
      or_true (ltb (a % 32 * 64 + b % 64) 0x80),
      lt-leb a 0x7F (omega (arith, r.0)),
      inside 0xC2 0xDF a (omega (arith, r.0)) (omega (arith, r.1)),
      y.0,
    )

module _ (p : ℕ → Bool) where
  near_of : (c : ℕ) → near p c ≡ true → p c ≡ true
  near_of c e = (and_true (ltb c 0x80 || usual c) (p c) e).1

  near_low : (c : ℕ) → c < 0x80 → near p c ≡ p c
  near_low c h = rw (lt-ltb c 0x80 h)

  -- ---- at the front

  pub near_char : (s : List ℕ) (n : ℕ) → char_if (near p) s ≡ n → 0 < n → char_if p s ≡ n
  unfolding char_if
  near_char s n e h =
      let l : 0 < cond (near p (code_of s)) (char_len s) 0 = subst (λ (k : ℕ). 0 < k) (sym e) h in
      let w = chosen (near p (code_of s)) (char_len s) l in
      rw (near_of (code_of s) w.0) (sym w.1 ∙ e)

  -- where the character at the front is up to U+007F, or none stands there, nothing else is of the class
  pub near_all : (s : List ℕ) → wide_ahead s ≡ false → char_if p s ≡ char_if (near p) s
  unfolding wide_ahead
  near_all [] w = char_nil p [] refl ∙ sym (char_nil (near p) [] refl)
  near_all (a ∷ s) w =
      let l : a < 0x80 = let z = ltb-false 0x7f a w in omega arith in
      char_ascii p (a ∷ s) (omega arith) l ∙ ap (λ (t : Bool). cond t 1 0) (sym (near_low a l)) ∙ sym (char_ascii (near p) (a ∷ s) (omega arith) l)

  pub far_none : (s : List ℕ) → wide_ahead s ≡ false → char_if (near p) s ≡ 0 → char_if p s ≡ 0
  far_none s w e = near_all s w ∙ e

  -- ---- runs

  near_split : (s : List ℕ) (n : ℕ) → chars_from p s n ≡ chars_from (near p) s n + chars p (drop (chars_from (near p) s n) s)
  unfolding chars_from chars
  near_split [] n = refl
  near_split (a ∷ s) (suc n) = let ih = near_split s n in omega arith
  near_split (a ∷ s) zero = by (char_if (near p) (a ∷ s)) refl (λ k. near_split s k)
    where
      by : (k : ℕ) → char_if (near p) (a ∷ s) ≡ k → ((n : ℕ) → chars_from p s n ≡ chars_from (near p) s n + chars p (drop (chars_from (near p) s n) s))
          → chars_from p (a ∷ s) 0 ≡ by_char_width k (λ (n : ℕ). suc (chars_from (near p) s n)) + chars p (drop (by_char_width k (λ (n : ℕ). suc (chars_from (near p) s n))) (a ∷ s))
      by zero e f = omega arith
      by (suc k) e f =
          let ih = f k in
          ap (λ (j : ℕ). by_char_width j (λ (n : ℕ). suc (chars_from p s n))) (near_char (a ∷ s) (suc k) e (omega arith)) ∙ omega arith

  pub near_run : (s : List ℕ) → chars p s ≡ chars (near p) s + chars p (drop (chars (near p) s) s)
  unfolding chars
  near_run s = near_split s 0

  -- behind a run of the class none of it stands
  stops_from : (s : List ℕ) (n : ℕ) → char_if p (drop (chars_from p s n) s) ≡ 0
  unfolding chars_from
  stops_from [] n = char_nil p [] refl
  stops_from (a ∷ s) (suc n) = stops_from s n
  stops_from (a ∷ s) zero = by (char_if p (a ∷ s)) refl (λ k. stops_from s k)
    where
      by : (k : ℕ) → char_if p (a ∷ s) ≡ k → ((n : ℕ) → char_if p (drop (chars_from p s n) s) ≡ 0) → char_if p (drop (by_char_width k (λ (n : ℕ). suc (chars_from p s n))) (a ∷ s)) ≡ 0
      by zero e f = e
      by (suc k) e f = f k

  pub run_done : (s : List ℕ) → char_if p (drop (chars p s) s) ≡ 0
  unfolding chars
  run_done s = stops_from s 0

-- ---- names

-- a name that no near character begins, and no wide one
pub no_name : (s : List ℕ) → wide_ahead s ≡ false → char_if (near ident_first) s ≡ 0 → name_len s ≡ 0
unfolding name_len
no_name s w e = rw (far_none ident_first s w e)

-- a name that a near character of n bytes begins
pub near_name : (s : List ℕ) (n : ℕ) → char_if (near ident_first) s ≡ n → (n ≡ 0 → ⊥) → name_len s ≡ n + chars ident_next (drop n s)
unfolding name_len
near_name s n e h = rw (near_char ident_first s n e (omega arith), ne_eqb n 0 h)
