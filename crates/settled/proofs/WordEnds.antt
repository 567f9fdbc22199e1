-- Names stop at a stop byte, quotes among them: crates/names/proofs/NameStops.antt with a wider class. An accepted word ends before such a byte. Assumes nothing.
use Prim.Native.Nat.{◌+◌, ◌<◌, ◌≤◌, ℕ}
use native.Mathlib.Omega.{arith}
use mathlib.Core.Bool.{Bool, ◌&&◌, ◌||◌, false, not, true, cond}
use mathlib.Core.List.{List, [], ◌++◌, ◌∷◌}
use mathlib.Core.Path.{◌∙◌, ◌≡◌, ap, ap₂, refl, subst, sym}
use lib.Dec.{eqb, ltb}
use lib.ListN.{length, drop}
use borrow.Author.Tests.{ltb-true, not-true}
use Rattle.names.proofs.CharStops.{chars_reach}
use Rattle.text.proofs.AheadLaws.{char_reach}
use Rattle.names.specs.Characters.{char_if, chars}
use Rattle.names.specs.Classify.{begins_float, by_identifier, float_words, missing, named, suffixed, word_of}
use Rattle.names.specs.Identifiers.{identifier_of, name_len, plain_of, raw_of, skip_identifier_of, strict_of}
use Rattle.names.specs.Starts.{begins_raw, begins_string, starts_with_one, string_starts}
use Rattle.names.specs.declared.Identifier.{Identifier}
use Rattle.names.specs.declared.Identifier.TheVariants.{Missing, Name, RawName}
use Rattle.names.specs.declared.Word.{Word}
use Rattle.names.specs.declared.Word.TheVariants.{Float, Plain, Raw, Refused as NotName}
use Rattle.text.proofs.Choices.{and_true, or_left, or_right, cond_cases}
use Rattle.text.proofs.Stops.{Stopped, always, on₂, Reach, bind, on, sum}
use Rattle.text.proofs.ClassLaws.{first_ascii, next_ascii, raw_ascii}
use Rattle.text.proofs.WordLaws.{differs, starts_past, starts_stopped}
use Rattle.text.specs.Classes.{digit, ascii_first, ascii_next, ascii_raw, ident_first, ident_next, ident_raw, letter, one_of, within}
use Rattle.text.specs.Refusals.{expected_string, unexpected_char}
use Rattle.text.specs.Words.{starts_with}
use Rattle.settled.specs.Bytes.{stops_byte}

-- any other byte
abbrev pub kept : ℕ → Bool
kept w = not (stops_byte w)

-- all letters of a word but the last
abbrev all_but : (ℕ → Bool) → List ℕ → Bool
all_but p [] = true
all_but p (w ∷ []) = true
all_but p (w ∷ x ∷ ws) = p w && all_but p (x ∷ ws)

abbrev pub kept_in : List (List ℕ) → Bool
kept_in [] = true
kept_in (w ∷ ws) = all_but kept w && kept_in ws

-- a word that has c as its last letter at most
starts_last : (p : ℕ → Bool) (c : ℕ) → p c ≡ false → (word : List ℕ) → all_but p word ≡ true → (u v v' : List ℕ) → starts_with word (u ++ c ∷ v) ≡ starts_with word (u ++ c ∷ v')
unfolding starts_with
starts_last p c out [] h u v v' = refl
starts_last p c out (w ∷ []) h [] v v' = refl
starts_last p c out (w ∷ []) h (x ∷ u) v v' = refl
starts_last p c out (w ∷ z ∷ ws) h [] v v' = rw (differs p c out w (and_true (p w) (all_but p (z ∷ ws)) h).0)
starts_last p c out (w ∷ z ∷ ws) h (x ∷ u) v v' = ap (λ (b : Bool). eqb x w && b) (starts_last p c out (z ∷ ws) (and_true (p w) (all_but p (z ∷ ws)) h).1 u v v')

module _ (c : ℕ) (is : stops_byte c ≡ true) where
  -- ---- what such a byte is not
  pub stop_ascii : c < 0x80
  unfolding stops_byte
  stop_ascii = ltb-true c 0x80 (and_true (ltb c 0x80) (not (one_of (0x23 ∷ 0x5c ∷ []) c || ascii_raw c)) is).0

  pub raw_out : ascii_raw c ≡ false
  unfolding stops_byte
  raw_out =
      let q = (and_true (ltb c 0x80) (not (one_of (0x23 ∷ 0x5c ∷ []) c || ascii_raw c)) is).1 in
      or_right (one_of (0x23 ∷ 0x5c ∷ []) c) (ascii_raw c) (not-true (one_of (0x23 ∷ 0x5c ∷ []) c || ascii_raw c) q)

  next_out : ascii_next c ≡ false
  unfolding ascii_raw
  next_out = or_right (one_of (0x2e ∷ 0x2b ∷ 0x2d ∷ []) c) (ascii_next c) raw_out

  first_out : ascii_first c ≡ false
  unfolding ascii_first ascii_next
  first_out = rw (or_left (letter c) (digit c || eqb c 0x5f) next_out) (or_right (digit c) (eqb c 0x5f) (or_right (letter c) (digit c || eqb c 0x5f) next_out))

  not_raw : ident_raw c ≡ false
  not_raw = raw_ascii c stop_ascii ∙ raw_out

  not_next : ident_next c ≡ false
  not_next = next_ascii c stop_ascii ∙ next_out

  not_first : ident_first c ≡ false
  not_first = first_ascii c stop_ascii ∙ first_out

  -- ---- words
  pub kept_out : kept c ≡ false
  kept_out = rw is

  pub not_byte : (w : ℕ) → kept w ≡ true → eqb c w ≡ false
  not_byte = differs kept c kept_out

  last_stopped : (word : List ℕ) → all_but kept word ≡ true → Stopped c (starts_with word)
  last_stopped word h = record { same = starts_last kept c kept_out word h }

  one_stopped : (ws : List (List ℕ)) → kept_in ws ≡ true → Stopped c (starts_with_one ws)
  one_stopped [] n = always false
  one_stopped (w ∷ []) n = last_stopped w (and_true (all_but kept w) true n).0
  one_stopped (w ∷ x ∷ ws) n =
      let no = and_true (all_but kept w) (kept_in (x ∷ ws)) n in
      on₂ (λ (a b : Bool). a || b) (last_stopped w no.0) (one_stopped (x ∷ ws) no.1)

  string_stopped : Stopped c begins_string
  unfolding begins_string stops_byte ascii_raw ascii_next letter digit within
  string_stopped = one_stopped string_starts refl

  raw_stopped : Stopped c begins_raw
  unfolding begins_raw stops_byte ascii_raw ascii_next letter digit within
  raw_stopped = starts_stopped kept c kept_out (0x72 ∷ 0x23 ∷ []) refl

  no_raw : (u v : List ℕ) → length u < 2 → begins_raw (u ++ c ∷ v) ≡ false
  unfolding begins_raw stops_byte ascii_raw ascii_next letter digit within
  no_raw u v l = starts_past kept c kept_out (0x72 ∷ 0x23 ∷ []) refl u v l

  -- ---- lengths
  pub name_reach : Reach c name_len
  unfolding name_len
  name_reach =
      let first = char_reach c stop_ascii ident_first not_first in
      let whole = sum first (chars_reach c stop_ascii ident_next not_next) in
      record {
        stopped = on₂ (λ (a b : ℕ). cond (eqb a 0) 0 b) first.stopped whole.stopped;
        short = λ u v. (let s : List ℕ = u ++ c ∷ v in
            let n : ℕ = char_if ident_first s in
            cond_cases (λ (k : ℕ). k ≤ length u) (eqb n 0) 0 (n + chars ident_next (drop n s)) (λ e. omega arith) (λ e. whole.short u v));
      }

  raw_reach : Reach c (chars ident_raw)
  raw_reach = chars_reach c stop_ascii ident_raw not_raw

  -- ---- names
  plain_stopped : Stopped c plain_of
  unfolding plain_of
  plain_stopped = on (λ (n : ℕ). cond (eqb n 0) Missing (Name n)) name_reach.stopped

  strict_stopped : Stopped c strict_of
  unfolding strict_of
  strict_stopped = on₂ (λ (n m : ℕ). cond (eqb n 0) Missing (cond (ltb n m) Missing (Name n))) name_reach.stopped raw_reach.stopped

  -- ---- a raw name, behind its `r#`
  behind_hash : List ℕ → Identifier
  behind_hash t = let n = chars ident_raw t in cond (eqb n 0) Missing (RawName (2 + n))

  hash_is : (x y : ℕ) (t : List ℕ) → raw_of (x ∷ y ∷ t) ≡ behind_hash t
  unfolding raw_of behind_hash
  hash_is x y t = refl

  hash_stopped : Stopped c behind_hash
  unfolding behind_hash
  hash_stopped = on (λ (n : ℕ). cond (eqb n 0) Missing (RawName (2 + n))) raw_reach.stopped

  raw_or_same : {f : List ℕ → Identifier} → Stopped c f → (u v v' : List ℕ)
      → cond (begins_raw (u ++ c ∷ v)) (raw_of (u ++ c ∷ v)) (f (u ++ c ∷ v)) ≡ cond (begins_raw (u ++ c ∷ v')) (raw_of (u ++ c ∷ v')) (f (u ++ c ∷ v'))
  raw_or_same e [] v v' = rw (no_raw [] v (omega arith), no_raw [] v' (omega arith)) (e.same [] v v')
  raw_or_same e (x ∷ []) v v' = rw (no_raw (x ∷ []) v (omega arith), no_raw (x ∷ []) v' (omega arith)) (e.same (x ∷ []) v v')
  raw_or_same {f} e (x ∷ y ∷ u) v v' =
      let s : List ℕ = (x ∷ y ∷ u) ++ c ∷ v in
      let s' : List ℕ = (x ∷ y ∷ u) ++ c ∷ v' in
      let r : raw_of s ≡ raw_of s' = hash_is x y (u ++ c ∷ v) ∙ hash_stopped.same u v v' ∙ sym (hash_is x y (u ++ c ∷ v')) in
      ap (λ (t : Bool). cond t (raw_of s) (f s)) (raw_stopped.same (x ∷ y ∷ u) v v')
      ∙ ap₂ (λ (a b : Identifier). cond (begins_raw s') a b) r (e.same (x ∷ y ∷ u) v v')

  raw_or_stopped : {f : List ℕ → Identifier} → Stopped c f → Stopped c (λ s. cond (begins_string s) Missing (cond (begins_raw s) (raw_of s) (f s)))
  raw_or_stopped e = on₂ (λ (t : Bool) (i : Identifier). cond t Missing i) string_stopped (record { same = raw_or_same e })

  -- ---- names and raw names
  pub skip_stopped : Stopped c skip_identifier_of
  unfolding skip_identifier_of
  skip_stopped = raw_or_stopped plain_stopped

  pub identifier_stopped : Stopped c identifier_of
  unfolding identifier_of
  identifier_stopped = raw_or_stopped strict_stopped

  -- ---- `inf` and `NaN`
  float_stopped : Stopped c begins_float
  unfolding begins_float stops_byte ascii_raw ascii_next letter digit within
  float_stopped = one_stopped float_words refl

  no_float : (u v : List ℕ) → length u < 3 → begins_float (u ++ c ∷ v) ≡ false
  unfolding begins_float stops_byte ascii_raw ascii_next letter digit within
  no_float u v l = rw (starts_past kept c kept_out (0x69 ∷ 0x6e ∷ 0x66 ∷ []) refl u v l) (starts_past kept c kept_out (0x4e ∷ 0x61 ∷ 0x4e ∷ []) refl u v l)

  suffixed_stopped : (n : ℕ) → Stopped c (λ t. suffixed t n)
  unfolding suffixed stops_byte ascii_raw ascii_next letter digit within
  suffixed_stopped n =
      on₂ (λ (a b : Bool). cond a (Float n 32) (cond b (Float n 64) (Plain n)))
      (starts_stopped kept c kept_out (0x66 ∷ 0x33 ∷ 0x32 ∷ []) refl) (starts_stopped kept c kept_out (0x66 ∷ 0x36 ∷ 0x34 ∷ []) refl)

  named_same : (n : ℕ) (u v v' : List ℕ) → named (u ++ c ∷ v) n ≡ named (u ++ c ∷ v') n
  unfolding named
  named_same n [] v v' = rw (no_float [] v (omega arith), no_float [] v' (omega arith))
  named_same n (x ∷ []) v v' = rw (no_float (x ∷ []) v (omega arith), no_float (x ∷ []) v' (omega arith))
  named_same n (x ∷ y ∷ []) v v' = rw (no_float (x ∷ y ∷ []) v (omega arith), no_float (x ∷ y ∷ []) v' (omega arith))
  named_same n (x ∷ y ∷ z ∷ u) v v' =
      ap₂ (λ (t : Bool) (w : Word). cond t (cond (eqb n 3) (Float n 0) (cond (eqb n 6) w (Plain n))) (Plain n))
      (float_stopped.same (x ∷ y ∷ z ∷ u) v v') ((suffixed_stopped n).same u v v')

  by_stopped : (i : Identifier) → Stopped c (λ s. by_identifier s i)
  unfolding missing
  by_stopped Missing = on (λ (t : Bool). NotName (cond t (expected_string 2) (unexpected_char 0))) raw_stopped
  by_stopped (Name n) = record { same = named_same n }
  by_stopped (RawName n) = always (Raw n)

  -- ---- the token that begins as a name does
  pub word_stopped : Stopped c word_of
  unfolding word_of
  word_stopped = bind (λ (i : Identifier) (s : List ℕ). by_identifier s i) skip_stopped by_stopped

  -- ---- an accepted word ends before the byte
  abbrev pub EndsBy : ℕ → Word → Type 0
  EndsBy n (Plain k) = k ≤ n
  EndsBy n (Raw k) = k ≤ n
  EndsBy n (Float k suffix) = k ≤ n
  EndsBy n (NotName r) = Unit {0}

  -- the same of an identifier
  abbrev NameBy : ℕ → Identifier → Type 0
  NameBy n Missing = Unit {0}
  NameBy n (Name k) = k ≤ n
  NameBy n (RawName k) = k ≤ n

  plain_by : (u v : List ℕ) → NameBy (length u) (plain_of (u ++ c ∷ v))
  unfolding plain_of
  plain_by u v = let n : ℕ = name_len (u ++ c ∷ v) in cond_cases (NameBy (length u)) (eqb n 0) Missing (Name n) (λ e. tt) (λ e. name_reach.short u v)

  hash_by : (u v : List ℕ) → NameBy (2 + length u) (behind_hash (u ++ c ∷ v))
  unfolding behind_hash
  hash_by u v =
      let n : ℕ = chars ident_raw (u ++ c ∷ v) in
      cond_cases (NameBy (2 + length u)) (eqb n 0) Missing (RawName (2 + n)) (λ e. tt) (λ e. omega (arith, raw_reach.short u v))

  raw_by : (u v : List ℕ) → begins_raw (u ++ c ∷ v) ≡ true → NameBy (length u) (raw_of (u ++ c ∷ v))
  raw_by [] v h = let z : true ≡ false = sym h ∙ no_raw [] v (omega arith) in let y : ◌≡◌ {A = ℕ} 0 1 = cc in absurd (omega arith)
  raw_by (x ∷ []) v h = let z : true ≡ false = sym h ∙ no_raw (x ∷ []) v (omega arith) in let y : ◌≡◌ {A = ℕ} 0 1 = cc in absurd (omega arith)
  raw_by (x ∷ y ∷ u) v h =
      let e : 2 + length u ≡ length (x ∷ y ∷ u) = omega arith in
      subst (λ (n : ℕ). NameBy n (raw_of (x ∷ y ∷ u ++ c ∷ v))) e (subst (NameBy (2 + length u)) (sym (hash_is x y (u ++ c ∷ v))) (hash_by u v))

  skip_by : (u v : List ℕ) → NameBy (length u) (skip_identifier_of (u ++ c ∷ v))
  unfolding skip_identifier_of
  skip_by u v =
      let s : List ℕ = u ++ c ∷ v in
      cond_cases (NameBy (length u)) (begins_string s) Missing (cond (begins_raw s) (raw_of s) (plain_of s)) (λ e. tt)
      (λ e. cond_cases (NameBy (length u)) (begins_raw s) (raw_of s) (plain_of s) (λ f. raw_by u v f) (λ f. plain_by u v))

  suffixed_by : (m n : ℕ) (t : List ℕ) → n ≤ m → EndsBy m (suffixed t n)
  unfolding suffixed
  suffixed_by m n t h =
      cond_cases (EndsBy m) (starts_with (0x66 ∷ 0x33 ∷ 0x32 ∷ []) t) (Float n 32) (cond (starts_with (0x66 ∷ 0x36 ∷ 0x34 ∷ []) t) (Float n 64) (Plain n)) (λ e. h)
      (λ e. cond_cases (EndsBy m) (starts_with (0x66 ∷ 0x36 ∷ 0x34 ∷ []) t) (Float n 64) (Plain n) (λ f. h) (λ f. h))

  named_by : (m n : ℕ) (s : List ℕ) → n ≤ m → EndsBy m (named s n)
  unfolding named
  named_by m n s h =
      cond_cases (EndsBy m) (begins_float s) (cond (eqb n 3) (Float n 0) (cond (eqb n 6) (suffixed (drop 3 s) n) (Plain n))) (Plain n)
      (λ e. cond_cases (EndsBy m) (eqb n 3) (Float n 0) (cond (eqb n 6) (suffixed (drop 3 s) n) (Plain n)) (λ f. h)
      (λ f. cond_cases (EndsBy m) (eqb n 6) (suffixed (drop 3 s) n) (Plain n) (λ g. suffixed_by m n (drop 3 s) h) (λ g. h)))
      (λ e. h)

  word_by : (m : ℕ) (s : List ℕ) (i : Identifier) → NameBy m i → EndsBy m (by_identifier s i)
  word_by m s Missing h = tt
  word_by m s (Name n) h = named_by m n s h
  word_by m s (RawName n) h = h

  pub word_short : (u v : List ℕ) → EndsBy (length u) (word_of (u ++ c ∷ v))
  unfolding word_of
  word_short u v = word_by (length u) (u ++ c ∷ v) (skip_identifier_of (u ++ c ∷ v)) (skip_by u v)
