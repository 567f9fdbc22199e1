-- Names as they are computed (specs/Identifiers.antt) are exactly the names of specs/Names.antt, over any bytes.
--     chars_run, run_chars     how far the characters of a class reach
--     name_agrees, no_name     names
--     raw_agrees               raw names
--     wide_nothing, wide_name  the token at a character above U+007F
-- Assumes nothing.
use Prim.Native.Nat.{ℕ, zero, suc, ◌+◌, ◌≤◌, ◌<◌}
use native.Mathlib.Omega.{arith}
use mathlib.Core.Bool.{Bool, true, false, true≢false, ◌&&◌}
use mathlib.Core.List.{List, [], ◌∷◌, ◌++◌, append_assoc}
use mathlib.Core.Logic.{◌↔◌}
use mathlib.Core.Path.{◌≡◌, refl, sym, ap, ◌∙◌, subst, fun_ext}
use lib.Dec.{eqb, ltb}
use lib.ListN.{length, get_or, take, drop, length-append, take-append-drop}
use lib.Seq.{drop_at, length-take-le, take-append-add}
use borrow.Author.Tests.{eqb-true, eqb-false, ne_eqb}
use Rattle.names.proofs.CharLaws.{chars_first, chars_le, chars_none}
use Rattle.names.proofs.NearLaws.{run_done}
use Rattle.names.specs.Characters.{char_if, chars}
use Rattle.names.specs.Classify.{begins_float, missing, named, word_of}
use Rattle.names.specs.Identifiers.{name_len, plain_of, raw_of, skip_identifier_of}
use Rattle.names.specs.Names.{Ends, IsName, IsRawName, Run, in_raw_name, starts_name}
use Rattle.names.specs.Names.Run.{none, more}
use Rattle.names.specs.Starts.{begins_raw, begins_string}
use Rattle.names.specs.declared.Identifier.{Identifier}
use Rattle.names.specs.declared.Identifier.TheVariants.{Missing, RawName}
use Rattle.names.specs.declared.Word.TheVariants.{Plain, Refused}
use Rattle.text.proofs.Choices.{and_true, chosen, cond_cases, either, lt_or_le}
use Rattle.text.proofs.NameClasses.{ident-first, ident-next, ident-raw}
use Rattle.text.proofs.Utf8Agree.{Head, char_encode, char_pos, char_scalar, char_len_char, decode_encode, head_view}
use Rattle.text.proofs.Utf8Agree.Head.{a_char, no_char}
use Rattle.text.proofs.WordLaws.{starts_other}
use Rattle.text.specs.Classes.{ident_first, ident_next, ident_raw}
use Rattle.text.specs.Refusals.{unexpected_char}
use Rattle.text.specs.Utf8.{Scalar, char_len, code_of, encode}
use Rattle.text.specs.Words.{starts_with}
use Rattle.xid.specs.Xid.{xid_continue, xid_start}

-- ---- the character at the front

encode_pos : (c : ℕ) → Scalar c → 0 < length (encode c)
encode_pos c sc = char_pos (char_encode c sc)

module _ (p : ℕ → Bool) where
  -- an encoded character has its own width where it is of the class, else 0
  front_char : (c : ℕ) (t : List ℕ) → Scalar c → p c ≡ true → char_if p (encode c ++ t) ≡ length (encode c)
  unfolding char_if
  front_char c t sc e = rw (decode_encode c t sc, e) (char_len_char (encode c) t (char_encode c sc))

  front_other : (c : ℕ) (t : List ℕ) → Scalar c → p c ≡ false → char_if p (encode c ++ t) ≡ 0
  unfolding char_if
  front_other c t sc e = rw (decode_encode c t sc, e)

  -- a width of the class that is not 0 is that of an encoded character of it
  record Front (s : List ℕ) : Type 0 where
    c : ℕ
    t : List ℕ
    scalar : Scalar c
    is : p c ≡ true
    split : s ≡ encode c ++ t

  front_view : (s : List ℕ) → 0 < char_if p s → Front s
  unfolding char_if
  front_view s h = let w = chosen (p (code_of s)) (char_len s) h in go (char_len s) w.0 (omega (arith, w.1)) (head_view s)
    where
      go : (n : ℕ) → p (code_of s) ≡ true → 0 < n → Head s n → Front s
      go n e l no_char = absurd (omega arith)
      go n e l (a_char {l = b} t ch f q) =
          let k = char_scalar b ch in
          let r : s ≡ encode (code_of b) ++ t = q ∙ ap (λ (u : List ℕ). u ++ t) (sym k.1) in
          record { c = code_of b; t = t; scalar = k.0; is = ap p (sym (ap code_of r ∙ decode_encode (code_of b) t k.0)) ∙ e; split = r }

  -- none of the class stands there exactly where the width is 0
  ends_none : (s : List ℕ) → Ends p s → char_if p s ≡ 0
  ends_none s stop = go (char_if p s) (λ h. front_view s h)
    where
      go : (n : ℕ) → (0 < n → Front s) → n ≡ 0
      go zero f = refl
      go (suc n) f = let v = f (omega arith) in absurd (stop v.c v.t v.scalar v.is v.split)

  none_ends : (s : List ℕ) → char_if p s ≡ 0 → Ends p s
  none_ends s z c t sc e q = omega (arith, encode_pos c sc, front_char c t sc e, ap (char_if p) q)

  -- ---- how far the characters of a class reach

  -- behind a first character they go on
  chars_more : (c : ℕ) (t : List ℕ) → Scalar c → p c ≡ true → chars p (encode c ++ t) ≡ length (encode c) + chars p t
  chars_more c t sc e =
      chars_first p (encode c ++ t) (length (encode c)) (front_char c t sc e) (encode_pos c sc)
      ∙ ap (λ (u : List ℕ). length (encode c) + chars p u) (drop_at (encode c) t (length (encode c)) refl)

  -- what is counted is a run: a first character, and the run behind it
  run_front : (s : List ℕ) → ((t : List ℕ) → length t < length s → Run p (take (chars p t) t)) → Run p (take (chars p s) s)
  run_front s rec = go (char_if p s) refl
    where
      go : (n : ℕ) → char_if p s ≡ n → Run p (take (chars p s) s)
      go zero e = rw (chars_none p s e) none
      go (suc n) e =
          let v = front_view s (omega arith) in
          let l : length v.t < length s = omega (arith, ap length v.split, length-append (encode v.c) v.t, encode_pos v.c v.scalar) in
          rw (v.split, chars_more v.c v.t v.scalar v.is, take-append-add) (more v.c v.scalar v.is (rec v.t l))

  run_fuel : (fuel : ℕ) (s : List ℕ) → length s ≤ fuel → Run p (take (chars p s) s)
  run_fuel zero s h = run_front s (λ t l. absurd (omega arith))
  run_fuel (suc f) s h = run_front s (λ t l. run_fuel f t (omega arith))

  -- and where the count stops the run ends
  pub chars_run : (s : List ℕ) → Run p (take (chars p s) s) × Ends p (drop (chars p s) s)
  chars_run s = (run_fuel (length s) s (omega arith), none_ends (drop (chars p s) s) (run_done p s))

  -- a run is counted whole, up to where it ends
  run_reaches : {u : List ℕ} → Run p u → (r : List ℕ) → Ends p r → chars p (u ++ r) ≡ length u
  run_reaches none r stop = chars_none p r (ends_none r stop)
  run_reaches (more c {t} sc e x) r stop =
      ap (chars p) (append_assoc (encode c) t r)
      ∙ chars_more c (t ++ r) sc e
      ∙ omega (arith, run_reaches x r stop, length-append (encode c) t)

  pub run_chars : (s : List ℕ) (n : ℕ) → n ≤ length s → Run p (take n s) → Ends p (drop n s) → chars p s ≡ n
  run_chars s n h x stop = ap (chars p) (sym (take-append-drop n s)) ∙ run_reaches x (drop n s) stop ∙ length-take-le n s h

-- ---- names, by Unicode's classes

-- the reader's three classes are Unicode's
first_class : ident_first ≡ starts_name
first_class = fun_ext ident-first

next_class : ident_next ≡ xid_continue
next_class = fun_ext ident-next

raw_class : ident_raw ≡ in_raw_name
raw_class = fun_ext ident-raw

-- the length of a name that a first character begins
name_sum : (c : ℕ) (t : List ℕ) → Scalar c → starts_name c ≡ true → name_len (encode c ++ t) ≡ length (encode c) + chars xid_continue t
unfolding name_len
name_sum c t sc e =
    rw (first_class, next_class, front_char starts_name c t sc e, ne_eqb (length (encode c)) 0 (λ z. omega (arith, encode_pos c sc)), drop_at (encode c) t (length (encode c)) refl)

-- a name has a first character, so its length is not 0
name_pos : (s : List ℕ) (n : ℕ) → IsName s n → 0 < n
name_pos s n m = omega (arith, m.size, length-append (encode m.first) m.next, encode_pos m.first m.scalar)

-- its length is what is computed
name_is : (s : List ℕ) (n : ℕ) → IsName s n → name_len s ≡ n
name_is s n m =
    ap name_len (m.split ∙ append_assoc (encode m.first) m.next m.rest)
    ∙ name_sum m.first (m.next ++ m.rest) m.scalar m.starts
    ∙ omega (arith, run_reaches xid_continue m.goes-on m.rest m.ends, length-append (encode m.first) m.next, m.size)

-- and that name: its next characters are the run behind the first
name_from : (c : ℕ) (t : List ℕ) → Scalar c → starts_name c ≡ true → IsName (encode c ++ t) (name_len (encode c ++ t))
name_from c t sc e =
    let k : ℕ = chars xid_continue t in
    let run = chars_run xid_continue t in
    record {
      first = c;
      next = take k t;
      rest = drop k t;
      split = ap (λ (u : List ℕ). encode c ++ u) (sym (take-append-drop k t)) ∙ sym (append_assoc (encode c) (take k t) (drop k t));
      size = name_sum c t sc e ∙ omega (arith, length-append (encode c) (take k t), length-take-le k t (chars_le xid_continue t));
      scalar = sc;
      starts = e;
      goes-on = run.0;
      ends = run.1;
    }

-- a first character stands where a name does
name_first : (s : List ℕ) → 0 < name_len s → 0 < char_if starts_name s
unfolding name_len
name_first s =
    cond_cases (λ (k : ℕ). 0 < k → 0 < char_if starts_name s) (eqb (char_if ident_first s) 0) 0 _ (λ e l. absurd (omega arith))
    (λ e l. rw (← first_class) (let z = eqb-false (char_if ident_first s) 0 e in omega arith))

name_of : (s : List ℕ) → 0 < name_len s → IsName s (name_len s)
name_of s h = let v = front_view starts_name s (name_first s h) in rw v.split (name_from v.c v.t v.scalar v.is)

-- a name stands there exactly with the length that is computed
pub name_agrees : (s : List ℕ) (n : ℕ) → 0 < n → (name_len s ≡ n) ↔ IsName s n
name_agrees s n h = ((λ e. subst (IsName s) e (name_of s (omega arith))), name_is s n)

-- and none stands there exactly where that is 0
pub no_name : (s : List ℕ) → (name_len s ≡ 0) ↔ ((n : ℕ) → IsName s n → ⊥)
no_name s = (
  (λ e n m. omega (arith, name_is s n m, name_pos s n m)),
  (λ f. either (lt_or_le 0 (name_len s)) (λ l. absurd (f (name_len s) (name_of s l))) (λ l. omega arith)),
)

-- ---- raw names

-- the two bytes that were asked for stand in front
raw_split : (s : List ℕ) → begins_raw s ≡ true → s ≡ 0x72 ∷ 0x23 ∷ drop 2 s
unfolding begins_raw starts_with
raw_split [] e = absurd (true≢false (sym e))
raw_split (x ∷ []) e = absurd (true≢false (sym (and_true (eqb x 0x72) false e).1))
raw_split (x ∷ y ∷ t) e =
    let a = and_true (eqb x 0x72) (eqb y 0x23 && true) e in
    rw (eqb-true x 0x72 a.0, eqb-true y 0x23 (and_true (eqb y 0x23) true a.1).0)

-- a raw name is read as one of its length
raw_is : (s : List ℕ) (n : ℕ) → IsRawName s n → (begins_raw s ≡ true) × (raw_of s ≡ RawName n)
unfolding begins_raw starts_with raw_of
raw_is s n m =
    let k : chars in_raw_name (m.next ++ m.rest) ≡ length m.next = run_reaches in_raw_name m.goes-on m.rest m.ends in
    rw (m.split, m.size) (refl, rw (raw_class, k, ne_eqb (length m.next) 0 (λ z. omega (arith, m.some))))

-- and what is read is one
raw-of : (s : List ℕ) (n : ℕ) → begins_raw s ≡ true → raw_of s ≡ RawName n → IsRawName s n
unfolding raw_of
raw-of s n h =
    rw raw_class
    (cond_cases (λ (i : Identifier). i ≡ RawName n → IsRawName s n) (eqb k 0) Missing (RawName (2 + k)) (λ e q. let z : ◌≡◌ {A = ℕ} 0 1 = cc in absurd (omega arith))
    (λ e q. (let z = eqb-false k 0 e in record {
      next = take k (drop 2 s);
      rest = drop k (drop 2 s);
      split = raw_split s h ∙ ap (λ (u : List ℕ). 0x72 ∷ 0x23 ∷ u) (sym (take-append-drop k (drop 2 s)));
      size = sized (cc);
      some = omega (arith, long);
      goes-on = (chars_run in_raw_name (drop 2 s)).0;
      ends = (chars_run in_raw_name (drop 2 s)).1;
    })))
  where
    k : ℕ
    k = chars in_raw_name (drop 2 s)

    long : length (take k (drop 2 s)) ≡ k
    long = length-take-le k (drop 2 s) (chars_le in_raw_name (drop 2 s))

    sized : 2 + k ≡ n → n ≡ 2 + length (take k (drop 2 s))
    sized e = omega (arith, long)

-- a raw name stands exactly where `r#` does and one is read
pub raw_agrees : (s : List ℕ) (n : ℕ) → ((begins_raw s ≡ true) × (raw_of s ≡ RawName n)) ↔ IsRawName s n
raw_agrees s n = ((λ e. raw-of s n e.0 e.1), raw_is s n)

-- ---- the token at a character above U+007F

-- its first byte is above 7F
pub wide_byte : (c : ℕ) (t : List ℕ) → 0x80 ≤ c → 0x80 ≤ get_or (encode c ++ t) 0 0
unfolding encode
wide_byte c t h =
    cond_cases Wide (ltb c 0x80) _ _ (λ e. h)
    (λ e. cond_cases Wide (ltb c 0x800) _ _ (λ f. omega arith) (λ f. cond_cases Wide (ltb c 0x10000) _ _ (λ g. omega arith) (λ g. omega arith)))
  where
    Wide : List ℕ → Type 0
    Wide l = 0x80 ≤ get_or (l ++ t) 0 0

-- so no word of ASCII stands there
module _ (s : List ℕ) (wide : 0x80 ≤ get_or s 0 0) where
  no_word : (w : ℕ) → w < 0x80 → (ws : List ℕ) → starts_with (w ∷ ws) s ≡ false
  no_word w l ws = starts_other w ws s (ne_eqb (get_or s 0 0) w (λ e. omega arith))

  no_raw : begins_raw s ≡ false
  unfolding begins_raw
  no_raw = no_word 0x72 (omega arith) (0x23 ∷ [])

  no_string : begins_string s ≡ false
  unfolding begins_string
  no_string = simp (no_word 0x62 (omega arith), no_word 0x72 (omega arith))

  no_float : begins_float s ≡ false
  unfolding begins_float
  no_float = simp (no_word 0x69 (omega arith), no_word 0x4e (omega arith))

  -- and the token is what the name there is
  nothing_there : name_len s ≡ 0 → word_of s ≡ Refused (unexpected_char 0)
  unfolding word_of skip_identifier_of plain_of missing
  nothing_there e = rw (no_string, no_raw, e) (rw no_raw)

  name_there : 0 < name_len s → word_of s ≡ Plain (name_len s)
  unfolding word_of skip_identifier_of plain_of named
  name_there h = rw (no_string, no_raw, ne_eqb (name_len s) 0 (λ e. omega arith)) (rw no_float)

module _ (c : ℕ) (t : List ℕ) (sc : Scalar c) (wide : 0x80 ≤ c) where
  -- `_` is below them
  starts_wide : starts_name c ≡ xid_start c
  starts_wide = rw (ne_eqb c 0x5f (λ e. omega arith))

  -- one that is not of XID_Start is refused where it stands
  pub wide_nothing : xid_start c ≡ false → word_of (encode c ++ t) ≡ Refused (unexpected_char 0)
  unfolding name_len
  wide_nothing e =
      nothing_there (encode c ++ t) (wide_byte c t wide) (rw (first_class, front_other starts_name c t sc (starts_wide ∙ e)))

  -- one of XID_Start begins a name
  pub wide_name : xid_start c ≡ true → (n : ℕ) × (word_of (encode c ++ t) ≡ Plain n) × IsName (encode c ++ t) n
  wide_name e =
      let s : List ℕ = encode c ++ t in
      let m : IsName s (name_len s) = name_from c t sc (starts_wide ∙ e) in
      (name_len s, name_there s (wide_byte c t wide) (name_pos s (name_len s) m), m)
