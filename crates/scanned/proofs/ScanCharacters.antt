-- The scan by bytes is the scan by characters wherever the text is UTF-8 (`scan-characters`). Assumes nothing.
use Rattle.std.proofs.Common.{Ok, Err}
use Rattle.text.specs.Refusals.{Told, eof}
use Rattle.structs.specs.declared.kinds.StructType.{StructType}
use Prim.Native.Nat.{ℕ, zero, suc, pred, ◌+◌, ◌-◌, ◌/◌, ◌%◌, ◌<◌, ◌≤◌}
use native.Mathlib.Nat.{add-zero, le_of_suc-le-suc, not-suc-le-zero}
use native.Mathlib.Omega.{arith}
use mathlib.Core.Bool.{cond}
use mathlib.Core.List.{List, [], ◌∷◌, ◌++◌}
use mathlib.Core.Path.{◌≡◌, ◌∙◌, ap, refl, subst, sym}
use lib.Dec.{eqb}
use lib.ListN.{drop, get_or, length, length-append, length-drop}
use lib.Seq.{drop-append_seam, drop-drop}
use borrow.Author.Tests.{le-ltb, lt-ltb}
use Rattle.text.proofs.Choices.{cond_cases, either, lt_or_le}
use Rattle.text.proofs.Lists.{head_at}
use Rattle.text.proofs.Utf8Agree.{char_encode, char_len_char, decode_encode, encode_1, encode_2, encode_3, encode_4}
use Rattle.text.specs.Classes.{one_of}
use Rattle.text.specs.Utf8.{Encoded, Tail, char_len, code_of, encode}
use Rattle.text.specs.Utf8.Encoded.{ends, next}
use Rattle.scanned.proofs.Spurious.{Cut, marked_wide, spurious_cut, tail_step}
use Rattle.scanned.specs.Characters.{scan_chars_from, scan_chars_of, step_chars}
use Rattle.structs.specs.Kinds.{placed_kind}
use Rattle.structs.specs.Scan.{after_comma, by_step, marked_by, past_spurious, scan_from, scan_of, step_of}
use Rattle.structs.specs.declared.kinds.StructType.TheVariants as kind
use Rattle.structs.specs.declared.steps.Step.{Step}
use Rattle.structs.specs.declared.steps.Step.TheVariants.{Closing, Comma, Opening, Plain, Refused}

-- ---- the character in front

-- bytes inside a character
abbrev Tails : List ℕ → Type 0
Tails [] = Unit {0}
Tails (a ∷ l) = Tail a × Tails l

-- UTF-8 begins with a byte of ASCII, or with a byte above it and those inside its character
data First (u : List ℕ) : Type 0 where
  ascii : (c : ℕ) (r : List ℕ) → u ≡ c ∷ r → c < 0x80 → code_of u ≡ c → char_len u ≡ 1 → Encoded r → First u
  wide : (a : ℕ) (l r : List ℕ) → u ≡ a ∷ l ++ r → 0x80 ≤ a → Tails l → 0x80 ≤ code_of u → char_len u ≡ suc (length l) → Encoded r → First u

-- so it does where it isn't empty
first : {u : List ℕ} → Encoded u → 0 < length u → First u
first ends h = absurd (omega arith)
first (next c {s} sc e) h =
    let code = decode_encode c s sc in
    let len = char_len_char (encode c) s (char_encode c sc) in
    either (lt_or_le c 0x80)
    (λ h1. let w = encode_1 c h1 in ascii c s (ap (λ (l : List ℕ). l ++ s) w) h1 code (len ∙ ap length w) e)
    (λ l1. either (lt_or_le c 0x800)
    (λ h2. let w = encode_2 c l1 h2 in
    wide (0xC0 + c / 64) ((0x80 + c % 64) ∷ []) s (ap (λ (l : List ℕ). l ++ s) w) (omega arith) ((omega arith, omega arith), tt) (omega (arith, code)) (len ∙ ap length w) e)
    (λ l2. either (lt_or_le c 0x10000)
    (λ h3. let w = encode_3 c l2 h3 in
    wide (0xE0 + c / 4096) ((0x80 + c / 64 % 64) ∷ (0x80 + c % 64) ∷ []) s (ap (λ (l : List ℕ). l ++ s) w) (omega arith) ((omega arith, omega arith), ((omega arith, omega arith), tt)) (omega (arith, code)) (len ∙ ap length w) e)
    (λ l3. let w = encode_4 c l3 in
    wide (0xF0 + c / 262144) ((0x80 + c / 4096 % 64) ∷ (0x80 + c / 64 % 64) ∷ (0x80 + c % 64) ∷ []) s (ap (λ (l : List ℕ). l ++ s) w) (omega arith)
    ((omega arith, omega arith), ((omega arith, omega arith), ((omega arith, omega arith), tt))) (omega (arith, code)) (len ∙ ap length w) e)))

-- ---- the bytes of a step are passed

-- as `stepped` of ScanLaws, for both scans
passed_bytes : (s : List ℕ) (k b at : ℕ) → k ≤ length s → scan_from s k b at ≡ scan_from (drop k s) 0 b (at + k)
unfolding scan_from
passed_bytes s zero b at p = rw (add-zero at)
passed_bytes [] (suc k) b at p = absurd (not-suc-le-zero p)
passed_bytes (a ∷ s) (suc k) b at p =
    let e : at + 1 + k ≡ at + suc k = omega arith in
    passed_bytes s k b (at + 1) (le_of_suc-le-suc p) ∙ ap (λ (n : ℕ). scan_from (drop k s) 0 b n) e

bytes_behind : (a : ℕ) (s : List ℕ) (n b at : ℕ) → 0 < n → n ≤ length (a ∷ s) → scan_from s (pred n) b (at + 1) ≡ scan_from (drop n (a ∷ s)) 0 b (at + n)
bytes_behind a s zero b at p q = absurd (omega arith)
bytes_behind a s (suc m) b at p q =
    let e : at + 1 + m ≡ at + suc m = omega arith in
    passed_bytes s m b (at + 1) (le_of_suc-le-suc q) ∙ ap (λ (n : ℕ). scan_from (drop m s) 0 b n) e

passed_chars : (s : List ℕ) (k b at : ℕ) → k ≤ length s → scan_chars_from s k b at ≡ scan_chars_from (drop k s) 0 b (at + k)
unfolding scan_chars_from
passed_chars s zero b at p = rw (add-zero at)
passed_chars [] (suc k) b at p = absurd (not-suc-le-zero p)
passed_chars (a ∷ s) (suc k) b at p =
    let e : at + 1 + k ≡ at + suc k = omega arith in
    passed_chars s k b (at + 1) (le_of_suc-le-suc p) ∙ ap (λ (n : ℕ). scan_chars_from (drop k s) 0 b n) e

chars_behind : (a : ℕ) (s : List ℕ) (n b at : ℕ) → 0 < n → n ≤ length (a ∷ s) → scan_chars_from s (pred n) b (at + 1) ≡ scan_chars_from (drop n (a ∷ s)) 0 b (at + n)
chars_behind a s zero b at p q = absurd (omega arith)
chars_behind a s (suc m) b at p q =
    let e : at + 1 + m ≡ at + suc m = omega arith in
    passed_chars s m b (at + 1) (le_of_suc-le-suc q) ∙ ap (λ (n : ℕ). scan_chars_from (drop m s) 0 b n) e

-- bytes inside a character are passed one by one
tails_passed : (l r : List ℕ) (b at : ℕ) → Tails l → scan_from (l ++ r) 0 b at ≡ scan_from r 0 b (at + length l)
unfolding scan_from
tails_passed [] r b at h = rw (add-zero at)
tails_passed (a ∷ l) r b at h =
    let e : at + 1 + length l ≡ at + suc (length l) = omega arith in
    rw (tail_step a (l ++ r) h.0) (tails_passed l r b (at + 1) h.1 ∙ ap (λ (n : ℕ). scan_from r 0 b n) e)

-- ---- one step

-- a step of k bytes, where the scan goes on alike behind them
marked_same : (c k b : ℕ) (f g : ℕ → ℕ → Told StructType) (comma : ℕ → Told StructType) (at : ℕ) → ((level : ℕ) → f k level ≡ g k level) → by_step (marked_by c k) b f comma at ≡ by_step (marked_by c k) b g comma at
unfolding marked_by
marked_same c k b f g comma at h =
    let P : Step → Type 0 = λ x. by_step x b f comma at ≡ by_step x b g comma at in
    cond_cases P (one_of (0x28 ∷ 0x5B ∷ 0x7B ∷ []) c) (Opening k) _ (λ e. h (b + 1))
    (λ e. cond_cases P (one_of (0x29 ∷ 0x5D ∷ 0x7D ∷ []) c) (Closing k) _ (λ e. ap (λ (x : Told StructType). cond (eqb (b - 1) 0) (Ok kind.NewtypeTuple) x) (h (b - 1)))
    (λ e. cond_cases P (eqb c 0x2C) (Comma k) (Plain k) (λ e. ap (cond (eqb b 1) (comma k)) (h b)) (λ e. h b)))

-- what both steps are, by the place that was reached
module _ (t : List ℕ) where
  byte_refused : (r : _) → past_spurious t ≡ Err r → step_of t ≡ Refused r
  unfolding step_of
  byte_refused r h = rw h

  char_refused : (r : _) → past_spurious t ≡ Err r → step_chars t ≡ Refused r
  unfolding step_chars
  char_refused r h = rw h

  module _ (n : ℕ) (h : past_spurious t ≡ Ok n) where
    byte_ended : length t ≤ n → step_of t ≡ Refused (eof n)
    unfolding step_of
    byte_ended l = rw (h, le-ltb n (length t) l)

    char_ended : length t ≤ n → step_chars t ≡ Refused (eof n)
    unfolding step_chars
    char_ended l = rw (h, le-ltb n (length t) l)

    byte_taken : n < length t → step_of t ≡ marked_by (get_or t n 0) (n + 1)
    unfolding step_of
    byte_taken l = rw (h, lt-ltb n (length t) l)

    char_taken : n < length t → step_chars t ≡ marked_by (code_of (drop n t)) (n + char_len (drop n t))
    unfolding step_chars
    char_taken l = rw (h, lt-ltb n (length t) l)

-- ---- step by step

module _ (a : ℕ) (s : List ℕ) (b at : ℕ)
    (on : (n level : ℕ) → 0 < n → Encoded (drop n (a ∷ s)) → scan_from (drop n (a ∷ s)) 0 level (at + n) ≡ scan_chars_from (drop n (a ∷ s)) 0 level (at + n)) where
  abbrev comma : ℕ → Told StructType
  comma n = placed_kind (at + n) (after_comma (drop n (a ∷ s)))

  byte_by : (x : Step) → step_of (a ∷ s) ≡ x → scan_from (a ∷ s) 0 b at ≡ by_step x b (λ n level. scan_from s (pred n) level (at + 1)) comma at
  unfolding scan_from
  byte_by x h = ap (λ (y : Step). by_step y b (λ n level. scan_from s (pred n) level (at + 1)) comma at) h

  char_by : (x : Step) → step_chars (a ∷ s) ≡ x → scan_chars_from (a ∷ s) 0 b at ≡ by_step x b (λ n level. scan_chars_from s (pred n) level (at + 1)) comma at
  unfolding scan_chars_from
  char_by x h = ap (λ (y : Step). by_step y b (λ n level. scan_chars_from s (pred n) level (at + 1)) comma at) h

  -- a character of ASCII is one byte in both; of any other the scan by bytes passes the bytes one by one
  by_first : (n : ℕ) → past_spurious (a ∷ s) ≡ Ok n → n < length (a ∷ s) → First (drop n (a ∷ s)) → scan_from (a ∷ s) 0 b at ≡ scan_chars_from (a ∷ s) 0 b at
  by_first n h l (ascii c r q hc code len e) =
      let t = a ∷ s in
      let x : get_or t n 0 ≡ c = sym (head_at t n) ∙ ap (λ (u : List ℕ). get_or u 0 0) q in
      let rest : r ≡ drop (n + 1) t = ap (drop 1) (sym q) ∙ drop-drop 1 n t in
      let k : n + char_len (drop n t) ≡ n + 1 = ap (λ (m : ℕ). n + m) len in
      let bs : step_of t ≡ marked_by c (n + 1) = byte_taken t n h l ∙ ap (λ (m : ℕ). marked_by m (n + 1)) x in
      let cs : step_chars t ≡ marked_by c (n + 1) = char_taken t n h l ∙ ap (λ (m : ℕ). marked_by m (n + char_len (drop n t))) code ∙ ap (marked_by c) k in
      byte_by (marked_by c (n + 1)) bs
      ∙ marked_same c (n + 1) b _ _ comma at
      (λ level. bytes_behind a s (n + 1) level at (omega arith) (omega arith) ∙ on (n + 1) level (omega arith) (subst Encoded rest e) ∙ sym (chars_behind a s (n + 1) level at (omega arith) (omega arith)))
      ∙ sym (char_by (marked_by c (n + 1)) cs)
  by_first n h l (wide x m r q hx ht code len e) =
      let t = a ∷ s in
      let y : get_or t n 0 ≡ x = sym (head_at t n) ∙ ap (λ (u : List ℕ). get_or u 0 0) q in
      let k = n + suc (length m) in
      let j : n + char_len (drop n t) ≡ k = ap (λ (i : ℕ). n + i) len in
      let behind : drop (n + 1) t ≡ m ++ r = sym (ap (drop 1) (sym q) ∙ drop-drop 1 n t) in
      let i : n + 1 + length m ≡ k = omega arith in
      let rest : r ≡ drop k t = sym (drop-append_seam m r) ∙ ap (drop (length m)) (sym behind) ∙ drop-drop (length m) (n + 1) t ∙ ap (λ (z : ℕ). drop z t) i in
      let fits : k ≤ length t = omega (arith, ap length q, length-drop n t, length-append m r) in
      let bs : step_of t ≡ Plain (n + 1) = byte_taken t n h l ∙ marked_wide (get_or t n 0) (n + 1) (omega arith) in
      let cs : step_chars t ≡ Plain k = char_taken t n h l ∙ marked_wide (code_of (drop n t)) (n + char_len (drop n t)) code ∙ ap Plain j in
      let w : at + (n + 1) + length m ≡ at + k = omega arith in
      byte_by (Plain (n + 1)) bs
      ∙ bytes_behind a s (n + 1) b at (omega arith) (omega arith)
      ∙ ap (λ (u : List ℕ). scan_from u 0 b (at + (n + 1))) behind
      ∙ tails_passed m r b (at + (n + 1)) ht
      ∙ ap (λ (z : ℕ). scan_from r 0 b z) w
      ∙ ap (λ (u : List ℕ). scan_from u 0 b (at + k)) rest
      ∙ on k b (omega arith) (subst Encoded rest e)
      ∙ sym (char_by (Plain k) cs ∙ chars_behind a s k b at (omega arith) fits)

  by_passed : (p : Told ℕ) → past_spurious (a ∷ s) ≡ p → Cut (a ∷ s) p → scan_from (a ∷ s) 0 b at ≡ scan_chars_from (a ∷ s) 0 b at
  by_passed (Err r) h c = byte_by (Refused r) (byte_refused (a ∷ s) r h) ∙ sym (char_by (Refused r) (char_refused (a ∷ s) r h))
  by_passed (Ok n) h c =
      either (lt_or_le n (length (a ∷ s))) (λ l. by_first n h l (first c (omega (arith, length-drop n (a ∷ s)))))
      (λ l. byte_by (Refused (eof n)) (byte_ended (a ∷ s) n h l) ∙ sym (char_by (Refused (eof n)) (char_ended (a ∷ s) n h l)))

-- step by step to the end
scan_fuel : (fuel : ℕ) (t : List ℕ) (b at : ℕ) → length t ≤ fuel → Encoded t → scan_from t 0 b at ≡ scan_chars_from t 0 b at
unfolding scan_from scan_chars_from
scan_fuel zero [] b at h e = refl
scan_fuel (suc fuel) [] b at h e = refl
scan_fuel zero (a ∷ s) b at h e = absurd (omega arith)
scan_fuel (suc fuel) (a ∷ s) b at h e =
    by_passed a s b at (λ n level l d. scan_fuel fuel (drop n (a ∷ s)) level (at + n) (omega (arith, length-drop n (a ∷ s))) d) (past_spurious (a ∷ s)) refl (spurious_cut (a ∷ s) e)

-- the scan says the same, whether it takes a byte a step or a character
pub scan_characters : (s : List ℕ) (at : ℕ) → Encoded (drop at s) → scan_of s at ≡ scan_chars_of s at
unfolding scan_of scan_chars_of
scan_characters s at e = scan_fuel (length (drop at s)) (drop at s) 1 at (omega arith) e
