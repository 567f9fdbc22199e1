-- The bytes of a name: none of them, nor the blank behind it, is a quote or a `#`, and its first begins no gap, no mark and no number. Assumes nothing.
use Prim.Native.Nat.{ℕ, zero, suc, ◌+◌, ◌/◌, ◌%◌, ◌≤◌, ◌<◌}
use native.Mathlib.Omega.{arith}
use mathlib.Core.Bool.{Bool, true, false, true≢false, ◌||◌}
use mathlib.Core.List.{List, [], ◌∷◌, ◌++◌}
use mathlib.Core.Logic.{◌⊎◌, inl, inr}
use mathlib.Core.Path.{◌≡◌, refl, ap, subst, sym, ◌∙◌}
use lib.Dec.{eqb}
use lib.ListN.{get_or, length, get_or-append}
use lib.Seq.{get_or_at}
use borrow.Author.Tests.{ne_eqb}
use Rattle.xid.specs.Xid.{in_rows, xid_continue, xid_start}
use Rattle.xid.specs.Table.{table}
use Rattle.text.proofs.Choices.{either, lt_or_le}
use Rattle.text.proofs.ClassLaws.{above, below, first_ascii, next_ascii}
use Rattle.text.proofs.NameClasses.{ident-first, ident-next}
use Rattle.text.proofs.Utf8Agree.{encode_1, encode_2, encode_3, encode_4}
use Rattle.text.specs.Classes.{ascii_first, ascii_next, blank, letter, within}
use Rattle.text.specs.Utf8.{encode}
use Rattle.names.proofs.Agree.{wide_byte}
use Rattle.names.specs.Names.{Run, starts_name}
use Rattle.names.specs.Names.Run.{none, more}
use Rattle.plain_names.proofs.NameRuns.{first_next}

-- a byte of a name: a letter, a digit or `_`, or a byte above 7F
abbrev pub NameByte : ℕ → Type 0
NameByte b = (ascii_next b ≡ true) ⊎ (0x80 ≤ b)

-- each byte of a part is one
pub data Bytes : List ℕ → Type 0 where
  end : Bytes []
  byte : {b : ℕ} {s : List ℕ} → NameByte b → Bytes s → Bytes (b ∷ s)

joined : {u v : List ℕ} → Bytes u → Bytes v → Bytes (u ++ v)
joined end y = y
joined (byte b x) y = byte b (joined x y)

wide : (b : ℕ) {s : List ℕ} → 0x80 ≤ b → Bytes s → Bytes (b ∷ s)
wide b h x = byte (inr h) x

-- those of a character are
char_bytes : (c : ℕ) → (c < 0x80 → ascii_next c ≡ true) → Bytes (encode c)
char_bytes c h =
    either (lt_or_le c 0x80) (λ l. rw (encode_1 c l) (byte (inl (h l)) end)) λ l1.
    either (lt_or_le c 0x800) (λ l. rw (encode_2 c l1 l) (wide (0xC0 + c / 64) (omega arith) (wide (0x80 + c % 64) (omega arith) end))) λ l2.
    either (lt_or_le c 0x10000)
    (λ l. rw (encode_3 c l2 l) (wide (0xE0 + c / 4096) (omega arith) (wide (0x80 + c / 64 % 64) (omega arith) (wide (0x80 + c % 64) (omega arith) end))))
    (λ l3. rw (encode_4 c l3) (wide (0xF0 + c / 262144) (omega arith) (wide (0x80 + c / 4096 % 64) (omega arith) (wide (0x80 + c / 64 % 64) (omega arith) (wide (0x80 + c % 64) (omega arith) end)))))

ascii-first : (c : ℕ) → starts_name c ≡ true → c < 0x80 → ascii_first c ≡ true
ascii-first c e l = sym (first_ascii c l) ∙ ident-first c ∙ e

pub first_bytes : (c : ℕ) → starts_name c ≡ true → Bytes (encode c)
first_bytes c e = char_bytes c (λ l. first_next c (ascii-first c e l))

pub run_bytes : {w : List ℕ} → Run xid_continue w → Bytes w
run_bytes none = end
run_bytes (more c sc e x) = joined (char_bytes c (λ l. sym (next_ascii c l) ∙ ident-next c ∙ e)) (run_bytes x)

name_bytes : (c : ℕ) {w : List ℕ} → starts_name c ≡ true → Run xid_continue w → Bytes (encode c ++ w)
name_bytes c e x = joined (first_bytes c e) (run_bytes x)

byte_at : {u : List ℕ} → Bytes u → (i : ℕ) → i < length u → NameByte (get_or u i 0)
byte_at end i h = absurd (omega arith)
byte_at (byte b x) zero h = b
byte_at (byte b x) (suc i) h = byte_at x i (omega arith)

-- a byte that is neither a name's nor the blank
pub other_byte : (b w : ℕ) → NameByte b ⊎ (b ≡ 0x20) → ascii_next w ≡ false → w < 0x80 → (w ≡ 0x20 → ⊥) → eqb b w ≡ false
other_byte b w (inl (inl e)) i l n = ne_eqb b w (λ q. true≢false (sym e ∙ ap ascii_next q ∙ i))
other_byte b w (inl (inr e)) i l n = ne_eqb b w (λ q. omega arith)
other_byte b w (inr e) i l n = ne_eqb b w (λ q. n (sym q ∙ e))

-- up to the blank behind a name stand only such bytes
pub bytes_to : (c : ℕ) (w s : List ℕ) → starts_name c ≡ true → Run xid_continue w → (i : ℕ) → i ≤ length (encode c ++ w)
    → NameByte (get_or ((encode c ++ w) ++ 0x20 ∷ s) i 0) ⊎ (get_or ((encode c ++ w) ++ 0x20 ∷ s) i 0 ≡ 0x20)
bytes_to c w s e x i h =
    let u : List ℕ = encode c ++ w in
    either (lt_or_le i (length u))
    (λ l. inl (subst NameByte (sym (get_or-append u (0x20 ∷ s) 0 i l)) (byte_at (name_bytes c e x) i l)))
    (λ l. inr (get_or_at u 0x20 s 0 i (omega arith)))

-- ---- the first byte

-- a character that starts a name is no blank
no_start_85 : xid_start 0x85 ≡ false
unfolding xid_start in_rows table within
no_start_85 = refl

no_start_200e : xid_start 0x200e ≡ false
unfolding xid_start in_rows table within
no_start_200e = refl

no_start_200f : xid_start 0x200f ≡ false
unfolding xid_start in_rows table within
no_start_200f = refl

no_start_2028 : xid_start 0x2028 ≡ false
unfolding xid_start in_rows table within
no_start_2028 = refl

no_start_2029 : xid_start 0x2029 ≡ false
unfolding xid_start in_rows table within
no_start_2029 = refl

-- an ASCII one is a letter or `_`
pub ascii_low : (a : ℕ) → ascii_first a ≡ true → 0x41 ≤ a
unfolding ascii_first letter
ascii_low a is =
    either (lt_or_le a 0x41)
    (λ h. absurd (true≢false (sym is ∙ rw (below 0x41 0x5a a (omega arith), below 0x61 0x7a a (omega arith), ne_eqb a 0x5f (λ e. omega arith)))))
    (λ h. h)

-- a range of two that holds neither of its numbers
not_two : (lo c : ℕ) → (c ≡ lo → ⊥) → (c ≡ lo + 1 → ⊥) → within lo (lo + 1) c ≡ false
not_two lo c n m = either (lt_or_le c lo) (λ l. below lo (lo + 1) c l) (λ l. above lo (lo + 1) c (omega arith))

pub start_no_blank : (c : ℕ) → starts_name c ≡ true → blank c ≡ false
unfolding blank
start_no_blank c e =
    either (lt_or_le c 0x80)
    (λ l. let low = ascii_low c (ascii-first c e l) in
    rw (above 0x09 0x0d c (omega arith), ne_eqb c 0x20 (λ q. omega arith), ne_eqb c 0x85 (λ q. omega arith), below 0x200e 0x200f c (omega arith), below 0x2028 0x2029 c (omega arith)))
    (λ l. let is : xid_start c ≡ true = sym (ap (λ (t : Bool). t || xid_start c) (ne_eqb c 0x5f (λ q. omega arith))) ∙ e in
    let not : (b : ℕ) → xid_start b ≡ false → c ≡ b → ⊥ = λ b n q. true≢false (sym is ∙ ap xid_start q ∙ n) in
    rw (above 0x09 0x0d c (omega arith), ne_eqb c 0x20 (λ q. omega arith), ne_eqb c 0x85 (not 0x85 no_start_85))
    (rw (not_two 0x200e c (not 0x200e no_start_200e) (not 0x200f no_start_200f), not_two 0x2028 c (not 0x2028 no_start_2028) (not 0x2029 no_start_2029))))

-- the first byte of a name is `A` or above
pub first_low : (c : ℕ) (t : List ℕ) → starts_name c ≡ true → 0x41 ≤ get_or (encode c ++ t) 0 0
first_low c t e =
    either (lt_or_le c 0x80)
    (λ l. rw (encode_1 c l) (ascii_low c (ascii-first c e l)))
    (λ l. omega (arith, wide_byte c t l))
