-- Names stop: nothing behind a byte that no name takes in, a quiet byte or `/`, changes what is read in front of it. Assumes nothing.
use Prim.Native.Nat.{◌+◌, ◌<◌, ◌≤◌, ℕ}
use native.Mathlib.Omega.{arith}
use mathlib.Core.Bool.{Bool, ◌&&◌, ◌||◌, false, not, true, cond}
use mathlib.Core.List.{List, [], ◌++◌, ◌∷◌}
use mathlib.Core.Path.{◌∙◌, ◌≡◌, ap, ap₂, refl, sym}
use lib.Dec.{eqb, ltb}
use lib.ListN.{length, drop}
use borrow.Author.Tests.{ltb-true, not-true}
use Rattle.names.proofs.CharStops.{chars_reach}
use Rattle.text.proofs.AheadLaws.{char_reach}
use Rattle.names.specs.Characters.{char_if, chars}
use Rattle.names.specs.Classify.{begins_float, by_identifier, float_words, missing, named, suffixed, word_of}
use Rattle.names.specs.Identifiers.{identifier_of, name_len, plain_of, raw_of, skip_identifier_of, strict_of}
use Rattle.names.specs.Starts.{begins_raw, begins_string, starts_with_one, string_starts}
use Rattle.names.specs.declared.Identifier.{Identifier}
use Rattle.names.specs.declared.Identifier.TheVariants.{Missing, Name, RawName}
use Rattle.names.specs.declared.Word.{Word}
use Rattle.names.specs.declared.Word.TheVariants.{Float, Plain, Raw, Refused as NotName}
use Rattle.text.proofs.Choices.{and_true, or_left, or_right, cond_cases}
use Rattle.text.proofs.Stops.{Stopped, always, on₂, Reach, bind, on, sum}
use Rattle.text.proofs.ClassLaws.{all_of, first_ascii, next_ascii, raw_ascii}
use Rattle.text.proofs.WordLaws.{differs, starts_past, starts_stopped}
use Rattle.text.specs.Classes.{digit, ascii_first, ascii_next, ascii_raw, ident_first, ident_next, ident_raw, letter, one_of, within}
use Rattle.text.specs.Refusals.{expected_string, unexpected_char}

-- a byte of ASCII that is no character of a name or raw name, no quote and no `#`
unfoldable pub name_stop : ℕ → Bool
name_stop c = ltb c 0x80 && not (one_of (0x22 ∷ 0x23 ∷ 0x27 ∷ []) c || ascii_raw c)

-- any other byte
abbrev pub kept : ℕ → Bool
kept w = not (name_stop w)

abbrev pub kept_in : List (List ℕ) → Bool
kept_in [] = true
kept_in (w ∷ ws) = all_of kept w && kept_in ws

module _ (c : ℕ) (is : name_stop c ≡ true) where
  -- ---- what such a byte is not
  pub stop_ascii : c < 0x80
  unfolding name_stop
  stop_ascii = ltb-true c 0x80 (and_true (ltb c 0x80) (not (one_of (0x22 ∷ 0x23 ∷ 0x27 ∷ []) c || ascii_raw c)) is).0

  raw_out : ascii_raw c ≡ false
  unfolding name_stop
  raw_out =
      let q = (and_true (ltb c 0x80) (not (one_of (0x22 ∷ 0x23 ∷ 0x27 ∷ []) c || ascii_raw c)) is).1 in
      or_right (one_of (0x22 ∷ 0x23 ∷ 0x27 ∷ []) c) (ascii_raw c) (not-true (one_of (0x22 ∷ 0x23 ∷ 0x27 ∷ []) c || ascii_raw c) q)

  next_out : ascii_next c ≡ false
  unfolding ascii_raw
  next_out = or_right (one_of (0x2e ∷ 0x2b ∷ 0x2d ∷ []) c) (ascii_next c) raw_out

  first_out : ascii_first c ≡ false
  unfolding ascii_first ascii_next
  first_out = rw (or_left (letter c) (digit c || eqb c 0x5f) next_out) (or_right (digit c) (eqb c 0x5f) (or_right (letter c) (digit c || eqb c 0x5f) next_out))

  not_raw : ident_raw c ≡ false
  not_raw = raw_ascii c stop_ascii ∙ raw_out

  not_next : ident_next c ≡ false
  not_next = next_ascii c stop_ascii ∙ next_out

  not_first : ident_first c ≡ false
  not_first = first_ascii c stop_ascii ∙ first_out

  -- ---- words
  kept_out : kept c ≡ false
  kept_out = rw is

  pub not_byte : (w : ℕ) → kept w ≡ true → eqb c w ≡ false
  not_byte = differs kept c kept_out

  one_stopped : (ws : List (List ℕ)) → kept_in ws ≡ true → Stopped c (starts_with_one ws)
  one_stopped [] n = always false
  one_stopped (w ∷ []) n = starts_stopped kept c kept_out w (and_true (all_of kept w) true n).0
  one_stopped (w ∷ x ∷ ws) n =
      let no = and_true (all_of kept w) (kept_in (x ∷ ws)) n in
      on₂ (λ (a b : Bool). a || b) (starts_stopped kept c kept_out w no.0) (one_stopped (x ∷ ws) no.1)

  string_stopped : Stopped c begins_string
  unfolding begins_string name_stop ascii_raw ascii_next letter digit within
  string_stopped = one_stopped string_starts refl

  raw_stopped : Stopped c begins_raw
  unfolding begins_raw name_stop ascii_raw ascii_next letter digit within
  raw_stopped = starts_stopped kept c kept_out (0x72 ∷ 0x23 ∷ []) refl

  no_raw : (u v : List ℕ) → length u < 2 → begins_raw (u ++ c ∷ v) ≡ false
  unfolding begins_raw name_stop ascii_raw ascii_next letter digit within
  no_raw u v l = starts_past kept c kept_out (0x72 ∷ 0x23 ∷ []) refl u v l

  -- ---- lengths
  pub name_reach : Reach c name_len
  unfolding name_len
  name_reach =
      let first = char_reach c stop_ascii ident_first not_first in
      let whole = sum first (chars_reach c stop_ascii ident_next not_next) in
      record {
        stopped = on₂ (λ (a b : ℕ). cond (eqb a 0) 0 b) first.stopped whole.stopped;
        short = λ u v. (let s : List ℕ = u ++ c ∷ v in
            let n : ℕ = char_if ident_first s in
            cond_cases (λ (k : ℕ). k ≤ length u) (eqb n 0) 0 (n + chars ident_next (drop n s)) (λ e. omega arith) (λ e. whole.short u v));
      }

  raw_reach : Reach c (chars ident_raw)
  raw_reach = chars_reach c stop_ascii ident_raw not_raw

  -- ---- names
  plain_stopped : Stopped c plain_of
  unfolding plain_of
  plain_stopped = on (λ (n : ℕ). cond (eqb n 0) Missing (Name n)) name_reach.stopped

  strict_stopped : Stopped c strict_of
  unfolding strict_of
  strict_stopped = on₂ (λ (n m : ℕ). cond (eqb n 0) Missing (cond (ltb n m) Missing (Name n))) name_reach.stopped raw_reach.stopped

  -- ---- a raw name, behind its `r#`
  behind_hash : List ℕ → Identifier
  behind_hash t = let n = chars ident_raw t in cond (eqb n 0) Missing (RawName (2 + n))

  hash_is : (x y : ℕ) (t : List ℕ) → raw_of (x ∷ y ∷ t) ≡ behind_hash t
  unfolding raw_of behind_hash
  hash_is x y t = refl

  hash_stopped : Stopped c behind_hash
  unfolding behind_hash
  hash_stopped = on (λ (n : ℕ). cond (eqb n 0) Missing (RawName (2 + n))) raw_reach.stopped

  raw_or_same : {f : List ℕ → Identifier} → Stopped c f → (u v v' : List ℕ)
      → cond (begins_raw (u ++ c ∷ v)) (raw_of (u ++ c ∷ v)) (f (u ++ c ∷ v)) ≡ cond (begins_raw (u ++ c ∷ v')) (raw_of (u ++ c ∷ v')) (f (u ++ c ∷ v'))
  raw_or_same e [] v v' = rw (no_raw [] v (omega arith), no_raw [] v' (omega arith)) (e.same [] v v')
  raw_or_same e (x ∷ []) v v' = rw (no_raw (x ∷ []) v (omega arith), no_raw (x ∷ []) v' (omega arith)) (e.same (x ∷ []) v v')
  raw_or_same {f} e (x ∷ y ∷ u) v v' =
      let s : List ℕ = (x ∷ y ∷ u) ++ c ∷ v in
      let s' : List ℕ = (x ∷ y ∷ u) ++ c ∷ v' in
      let r : raw_of s ≡ raw_of s' = hash_is x y (u ++ c ∷ v) ∙ hash_stopped.same u v v' ∙ sym (hash_is x y (u ++ c ∷ v')) in
      ap (λ (t : Bool). cond t (raw_of s) (f s)) (raw_stopped.same (x ∷ y ∷ u) v v')
      ∙ ap₂ (λ (a b : Identifier). cond (begins_raw s') a b) r (e.same (x ∷ y ∷ u) v v')

  raw_or_stopped : {f : List ℕ → Identifier} → Stopped c f → Stopped c (λ s. cond (begins_string s) Missing (cond (begins_raw s) (raw_of s) (f s)))
  raw_or_stopped e = on₂ (λ (t : Bool) (i : Identifier). cond t Missing i) string_stopped (record { same = raw_or_same e })

  -- ---- names and raw names
  pub skip_stopped : Stopped c skip_identifier_of
  unfolding skip_identifier_of
  skip_stopped = raw_or_stopped plain_stopped

  pub identifier_stopped : Stopped c identifier_of
  unfolding identifier_of
  identifier_stopped = raw_or_stopped strict_stopped

  -- ---- `inf` and `NaN`
  float_stopped : Stopped c begins_float
  unfolding begins_float name_stop ascii_raw ascii_next letter digit within
  float_stopped = one_stopped float_words refl

  no_float : (u v : List ℕ) → length u < 3 → begins_float (u ++ c ∷ v) ≡ false
  unfolding begins_float name_stop ascii_raw ascii_next letter digit within
  no_float u v l = rw (starts_past kept c kept_out (0x69 ∷ 0x6e ∷ 0x66 ∷ []) refl u v l) (starts_past kept c kept_out (0x4e ∷ 0x61 ∷ 0x4e ∷ []) refl u v l)

  suffixed_stopped : (n : ℕ) → Stopped c (λ t. suffixed t n)
  unfolding suffixed name_stop ascii_raw ascii_next letter digit within
  suffixed_stopped n =
      on₂ (λ (a b : Bool). cond a (Float n 32) (cond b (Float n 64) (Plain n)))
      (starts_stopped kept c kept_out (0x66 ∷ 0x33 ∷ 0x32 ∷ []) refl) (starts_stopped kept c kept_out (0x66 ∷ 0x36 ∷ 0x34 ∷ []) refl)

  named_same : (n : ℕ) (u v v' : List ℕ) → named (u ++ c ∷ v) n ≡ named (u ++ c ∷ v') n
  unfolding named
  named_same n [] v v' = rw (no_float [] v (omega arith), no_float [] v' (omega arith))
  named_same n (x ∷ []) v v' = rw (no_float (x ∷ []) v (omega arith), no_float (x ∷ []) v' (omega arith))
  named_same n (x ∷ y ∷ []) v v' = rw (no_float (x ∷ y ∷ []) v (omega arith), no_float (x ∷ y ∷ []) v' (omega arith))
  named_same n (x ∷ y ∷ z ∷ u) v v' =
      ap₂ (λ (t : Bool) (w : Word). cond t (cond (eqb n 3) (Float n 0) (cond (eqb n 6) w (Plain n))) (Plain n))
      (float_stopped.same (x ∷ y ∷ z ∷ u) v v') ((suffixed_stopped n).same u v v')

  by_stopped : (i : Identifier) → Stopped c (λ s. by_identifier s i)
  unfolding missing
  by_stopped Missing = on (λ (t : Bool). NotName (cond t (expected_string 2) (unexpected_char 0))) raw_stopped
  by_stopped (Name n) = record { same = named_same n }
  by_stopped (RawName n) = always (Raw n)

  -- ---- the token that begins as a name does
  pub word_stopped : Stopped c word_of
  unfolding word_of
  word_stopped = bind (λ (i : Identifier) (s : List ℕ). by_identifier s i) skip_stopped by_stopped
