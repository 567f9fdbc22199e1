-- Laws of the characters at a cursor. Assumes nothing.
use Rattle.std.proofs.Common.{Ok, Err}
use Rattle.text.specs.Refusals.{Told, eof}
use Prim.Native.Nat.{◌<◌, ◌≤◌, ℕ}
use mathlib.Core.Bool.{false, true, true≢false}
use mathlib.Core.List.{List}
use native.Mathlib.Omega.{arith}
use mathlib.Core.Path.{◌∙◌, ◌≡◌, ap, ap₂, refl, sym}
use lib.Dec.{eqb}
use lib.ListN.{get_or-eq_default, drop, drop_of_length-le, get_or, length, length-drop}
use borrow.Author.Tests.{ne_eqb}
use Rattle.cursor.specs.inner.Chars.{begins_with, consumed_of, expected_of, next_in, next_of}
use Rattle.cursor.specs.Cursor.{moved_by}
use Rattle.cursor.specs.declared.ParserCursor.{ParserCursor}
use Rattle.cursor.specs.declared.chars.Consumed.{Consumed}
use Rattle.text.proofs.CharFronts.{code_ascii}
use Rattle.text.proofs.Choices.{cond_cases, either, lt_or_le}
use Rattle.text.proofs.Lists.{front, head_at}
use Rattle.text.proofs.Utf8Laws.{char_len_ascii}
use Rattle.text.specs.Utf8.{char_len, code_of}
use Rattle.text.specs.declared.refusal.Refusal.{Refusal}

module _ (text : List ℕ) (c : ParserCursor) where
  pub next_end : length text ≤ c.cursor → next_of text c ≡ Err (eof c.cursor)
  unfolding next_of next_in
  next_end h = rw (drop_of_length-le text h)

  pub next_here : c.cursor < length text → next_of text c ≡ Ok (code_of (drop c.cursor text), moved_by (char_len (drop c.cursor text)) c)
  unfolding next_of next_in
  next_here h = rw (front text c.cursor h)

  -- an ASCII character is its byte
  pub next_ascii : c.cursor < length text → get_or text c.cursor 0 < 0x80 → next_of text c ≡ Ok (get_or text c.cursor 0, moved_by 1 c)
  next_ascii h k =
      let low : get_or (drop c.cursor text) 0 0 < 0x80 = omega (arith, head_at text c.cursor, k) in
      next_here h
      ∙ ap₂ (λ (x : ℕ) (y : ParserCursor). Ok (x, y)) (code_ascii (drop c.cursor text) low ∙ head_at text c.cursor)
      (ap (λ (n : ℕ). moved_by n c) (char_len_ascii (drop c.cursor text) (omega (arith, length-drop c.cursor text, h)) low))

-- where the part is empty, and where it is not
pub begins_end : (b : ℕ) (text : List ℕ) (at : ℕ) → length text ≤ at → begins_with b (drop at text) ≡ false
unfolding begins_with
begins_end b text at h = rw (drop_of_length-le text h)

pub begins_here : (b : ℕ) (text : List ℕ) (at : ℕ) → at < length text → begins_with b (drop at text) ≡ eqb (get_or text at 0) b
unfolding begins_with
begins_here b text at h = rw (front text at h)

-- past the end stands 0, which is no character that is asked for
pub begins_at : (b : ℕ) (text : List ℕ) (at : ℕ) → 0 < b → begins_with b (drop at text) ≡ eqb (get_or text at 0) b
begins_at b text at h =
    either (lt_or_le at (length text)) (λ l. begins_here b text at l)
    (λ l. begins_end b text at l ∙ sym (ap (λ (x : ℕ). eqb x b) (get_or-eq_default text 0 l) ∙ ne_eqb 0 b (λ e. omega (arith, e, h))))

-- what is found stands there, and the cursor is behind it; what is not found does not
module _ (text : List ℕ) (c : ParserCursor) (b : ℕ) (some : 0 < b) where
  pub found_here : (x : Consumed) → x ≡ consumed_of text c b → x.found ≡ true → (x.cursor ≡ moved_by 1 c) × (eqb (get_or text c.cursor 0) b ≡ true)
  unfolding consumed_of
  found_here x e =
      rw e (cond_cases (λ (y : Consumed). y.found ≡ true → (y.cursor ≡ moved_by 1 c) × (eqb (get_or text c.cursor 0) b ≡ true)) (begins_with b (drop c.cursor text)) _ _
      (λ t h. (refl, sym (begins_at b text c.cursor some) ∙ t))
      (λ t h. absurd (true≢false (sym h))))

  pub lost_here : (x : Consumed) → x ≡ consumed_of text c b → x.found ≡ false → eqb (get_or text c.cursor 0) b ≡ false
  unfolding consumed_of
  lost_here x e =
      rw e (cond_cases (λ (y : Consumed). y.found ≡ false → eqb (get_or text c.cursor 0) b ≡ false) (begins_with b (drop c.cursor text)) _ _
      (λ t h. cc)
      (λ t h. sym (begins_at b text c.cursor some) ∙ t))

-- the same of a character that has to stand there
abbrev pub Expected : List ℕ → ParserCursor → ℕ → Refusal → Told ParserCursor → Type 0
Expected text c b r (Ok k) = (k ≡ moved_by 1 c) × (eqb (get_or text c.cursor 0) b ≡ true)
Expected text c b r (Err q) = (q ≡ r) × (eqb (get_or text c.cursor 0) b ≡ false)

pub expected_here : (text : List ℕ) (c : ParserCursor) (b : ℕ) (r : Refusal) → 0 < b → Expected text c b r (expected_of text c b r)
unfolding expected_of
expected_here text c b r some =
    cond_cases (Expected text c b r) (begins_with b (drop c.cursor text)) _ _
    (λ t. (refl, sym (begins_at b text c.cursor some) ∙ t))
    (λ t. (refl, sym (begins_at b text c.cursor some) ∙ t))

-- what is found was taken, and what is not leaves the cursor
pub found_taken : (text : List ℕ) (c : ParserCursor) (b : ℕ) (r : Refusal) → (consumed_of text c b).found ≡ true → expected_of text c b r ≡ Ok (consumed_of text c b).cursor
unfolding consumed_of expected_of
found_taken text c b r =
    cond_cases (λ (x : Consumed). x.found ≡ true → expected_of text c b r ≡ Ok x.cursor) (begins_with b (drop c.cursor text)) _ _ (λ e h. rw e) (λ e h. let z : true ≡ false = sym h in cc)

pub lost_kept : (text : List ℕ) (c : ParserCursor) (b : ℕ) (r : Refusal) → (consumed_of text c b).found ≡ false → expected_of text c b r ≡ Err r
unfolding consumed_of expected_of
lost_kept text c b r =
    cond_cases (λ (x : Consumed). x.found ≡ false → expected_of text c b r ≡ Err r) (begins_with b (drop c.cursor text)) _ _ (λ e h. cc) (λ e h. rw e)
