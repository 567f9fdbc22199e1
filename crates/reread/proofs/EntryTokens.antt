-- An entry of a complete reading is a token of the text, read at the entry's start; and what a call at that place asks first. Assumes nothing.
use Rattle.std.proofs.Common.{Ok, Err}
use Rattle.text.specs.Refusals.{Told}
use Prim.Native.Nat.{ℕ, zero, suc, ◌+◌, ◌<◌, ◌≤◌}
use native.Mathlib.Omega.{arith}
use mathlib.Core.Bool.{true, false}
use mathlib.Core.List.{List, [], ◌∷◌}
use mathlib.Core.Path.{◌≡◌, ap, refl, subst, sym, ◌∙◌}
use lib.ListN.{length, get_or, drop, length-drop}
use borrow.Author.Tests.{le-leb}
use Rattle.text.proofs.Lists.{head_at}
use Rattle.text.specs.Classes.{within}
use Rattle.text.specs.Judged.{judged_of, place_fits}
use Rattle.rows.proofs.RowLaws.{entries_at, length_entries}
use Rattle.rows.specs.Rows.{entries_of, entry_at}
use Rattle.rows.specs.declared.Entry.{Entry}
use Rattle.reading.proofs.Steps.{drop_on, first}
use Rattle.reading.specs.Owed.{quiet_byte}
use Rattle.reading.specs.Readings.{◌▸◌, Reading, complete, placed, read_from, read_part}
use Rattle.reading.specs.Tokens.{Token, reach, token}
use Rattle.tokens.proofs.RonLaws.{laws, token_is}
use Rattle.tokens.specs.Lexemes.{lexeme, lexeme_of}
use Rattle.tokens.specs.Ron.{ron_token}
use Rattle.tokens.specs.Token.{token_of}
use Rattle.read.proofs.ReadLaws.{read_refused}
use Rattle.read.specs.Read.{read_answer}
use Rattle.mending.proofs.Again.{Held}

-- the token at an entry's start has its kind and detail, and reaches to its end
pub record EntryToken (text : List ℕ) (e : Entry) : Type 0 where
  pub len : ℕ
  pub inside : e.start < length text
  pub ends : e.end ≡ e.start + len
  pub lexeme_is : lexeme_of (token_of (drop e.start text)) ≡ lexeme len e.kind e.detail

placed_token : (text : List ℕ) (at : ℕ) (t : Token) → ron_token (drop at text) ≡ token t → EntryToken text (placed at t)
placed_token text at t h =
    let a = token_is (drop at text) t h in
    record {
      len = t.len;
      inside = omega (arith, a.inside, length-drop at text);
      ends = omega arith;
      lexeme_is = ap (λ (s : List ℕ). lexeme_of (token_of s)) (sym (drop_on at t.gap (at + t.gap) text refl)) ∙ a.lexeme_is;
    }

found : (es : List Entry) (k at : ℕ) (text : List ℕ) (r : Reading) (d : Entry) → read_from ron_token text at ≡ es ▸ r → k < length es → EntryToken text (get_or es k d)
found [] k at text r d h i = absurd (omega arith)
found (e ∷ es) zero at text r d h i =
    let f = first ron_token quiet_byte laws at (drop at text) e (es ▸ r) h in
    subst (EntryToken text) (sym f.entry_is) (placed_token text at f.this f.answer)
found (e ∷ es) (suc k) at text r d h i =
    let f = first ron_token quiet_byte laws at (drop at text) e (es ▸ r) h in
    let n : ℕ = at + reach f.this in
    found es k n text r d (sym (f.rest_is ∙ ap (read_part ron_token n) (drop_on at (reach f.this) n text refl))) (omega arith)

-- a row of a tape that holds the reading of a text
pub row_token : (text tape : List ℕ) (count k : ℕ) → Held text tape count → k < count → EntryToken text (entry_at tape k)
row_token text tape count k held i =
    subst (EntryToken text) (entries_at count k tape (entry_at tape k) i)
    (found (entries_of count tape) k 0 text complete (entry_at tape k) held.holds (omega (arith, length_entries count tape)))

-- ---- what the calls ask first

-- an accepted read is of a text that is fit
pub accepted_fit : (text : List ℕ) (numbers n : ℕ) → read_answer text numbers ≡ Ok n → judged_of text ≡ Ok tt
accepted_fit text numbers n h = go (judged_of text) refl
  where
    go : (j : Told Unit) → judged_of text ≡ j → judged_of text ≡ Ok tt
    go (Ok tt) e = e
    go (Err r) e = let z : ◌≡◌ {A = Told ℕ} (Err r) (Ok n) = sym (read_refused text numbers r e) ∙ h in let y : ◌≡◌ {A = ℕ} 0 1 = cc in absurd (omega arith)

-- a place within the text where a byte stands that is inside no character
pub place-fits : (text : List ℕ) (p : ℕ) → p ≤ length text → within 0x80 0xBF (get_or (drop p text) 0 0) ≡ false → place_fits text p ≡ true
unfolding place_fits
place-fits text p h w = simp (le-leb p (length text) h, ap (within 0x80 0xBF) (sym (head_at text p)) ∙ w)
