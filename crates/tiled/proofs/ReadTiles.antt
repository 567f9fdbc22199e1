-- The entries of an accepted read and the gaps between them tile the text, and each entry's bytes have the form of its kind and detail. Assumes nothing.
use Rattle.std.proofs.Common.{Ok, Err}
use Rattle.text.specs.Refusals.{Told, placed_behind}
use Rattle.tokens.specs.declared.lexeme.Lexeme.{Lexeme}
use Prim.Native.Nat.{ℕ, ◌+◌}
use native.Mathlib.Omega.{arith}
use mathlib.Core.List.{List, [], ◌∷◌}
use mathlib.Core.Logic.{inl, inr}
use mathlib.Core.Path.{◌≡◌, ap, refl, subst, sym, ◌∙◌}
use lib.ListN.{drop, drop_of_length-le, length, length-drop}
use Rattle.text.proofs.Choices.{either, lt_or_le}
use Rattle.comments.specs.Gaps.{gap_of}
use Rattle.comments.specs.declared.gap.Gap.{Gap as Answered}
use Rattle.comments.specs.declared.gap.Gap.TheVariants as gap
use Rattle.rows.specs.Rows.{entries_of}
use Rattle.rows.specs.declared.Entry.{Entry}
use Rattle.reading.proofs.Steps.{drop_on, first, not_complete, read_refuse, read_token}
use Rattle.reading.specs.Owed.{quiet_byte}
use Rattle.reading.specs.Readings.{◌▸◌, broken, complete, placed, read_from, read_part}
use Rattle.reading.specs.Tokens.{Answer, Token, reach, refuse, stop, token}
use Rattle.tokens.proofs.RonLaws.{gap_token, laws, token_is}
use Rattle.tokens.specs.Lexemes.{lexeme_of}
use Rattle.tokens.specs.Ron.{lexeme_behind, by_gap, ron_token}
use Rattle.tokens.specs.Token.{token_of}
use Rattle.read.specs.Read.{read_answer, read_tape}
use Rattle.mending.proofs.Again.{after_read}
use Rattle.gapped.proofs.Exactly.{clear_exactly, line_exactly}
use Rattle.gapped.specs.Gap.{Gap}
use Rattle.tiled.specs.Forms.{Form}
use Rattle.tiled.specs.Tiles.{LastGap, Tile, Tiles}
use Rattle.tiled.specs.Tiles.Tiles.{ends, tile}
use Rattle.tiled.proofs.TokenForms.{Says, token_says}

-- ---- the end

-- where no token is left nothing but a gap is
no_lexeme : (g : ℕ) (a : Told Lexeme) {X : Type 0} → lexeme_behind g a ≡ stop → X
no_lexeme g (Ok l) h = let z : ◌≡◌ {A = ℕ} 0 1 = cc in absurd (omega arith)
no_lexeme g (Err r) h = let z : ◌≡◌ {A = ℕ} 0 1 = cc in absurd (omega arith)

by-gap : (s : List ℕ) (a : Answered) → gap_of s ≡ a → by_gap s a ≡ stop → LastGap s
by-gap s (gap.Clear g) e h =
    either (lt_or_le g (length s))
    (λ l. no_lexeme g (lexeme_of (token_of (drop g s))) (sym (gap_token s g l) ∙ h))
    (λ l. inl (subst (Gap s) (drop_of_length-le s l) ((clear_exactly s g).0 e).1.0))
by-gap s (gap.InLine n) e h = inr ((line_exactly s n).0 e).1
by-gap s (gap.Refused r) e h = let z : ◌≡◌ {A = ℕ} 0 1 = cc in absurd (omega arith)

stop_gap : (s : List ℕ) → ron_token s ≡ stop → LastGap s
unfolding ron_token
stop_gap s h = by-gap s (gap_of s) refl h

-- a reading without entries that is complete stopped at once
stopped : (at : ℕ) (s : List ℕ) → read_part ron_token at s ≡ complete → ron_token s ≡ stop
stopped at s h = go (ron_token s) refl
  where
    go : (a : Answer) → ron_token s ≡ a → ron_token s ≡ stop
    go stop q = q
    go (refuse d) q = let w : broken (placed_behind at d) ≡ complete = sym (read_refuse ron_token quiet_byte laws at s d q) ∙ h in let z : ◌≡◌ {A = ℕ} 0 1 = cc in absurd (omega arith)
    go (token t) q = not_complete (sym h ∙ read_token ron_token quiet_byte laws at s t q)

-- ---- one token

-- a token stands behind a gap, and its bytes have its form
pub token_form : (s : List ℕ) (t : Token) → ron_token s ≡ token t → Gap s (drop t.gap s) × Form t.kind t.detail (drop t.gap s) (drop (reach t) s)
token_form s t h =
    let a = token_is s t h in
    let f : Form t.kind t.detail (drop t.gap s) (drop t.len (drop t.gap s)) = subst (Says (drop t.gap s)) a.lexeme_is (token_says (drop t.gap s)) in
    (((clear_exactly s t.gap).0 a.gap_is).1.0, subst (Form t.kind t.detail (drop t.gap s)) (drop_on t.gap t.len (reach t) s refl) f)

-- its entry is a tile
token_tile : (text : List ℕ) (at : ℕ) (t : Token) → ron_token (drop at text) ≡ token t → Tile text at (placed at t)
token_tile text at t h =
    let some = laws.grows (drop at text) t h in
    let inside = laws.inside (drop at text) t h in
    let f = token_form (drop at text) t h in
    let g : drop t.gap (drop at text) ≡ drop (at + t.gap) text = drop_on at t.gap (at + t.gap) text refl in
    let r : drop (reach t) (drop at text) ≡ drop (at + reach t) text = drop_on at (reach t) (at + reach t) text refl in
    record {
      behind = omega arith;
      distance = refl;
      some = omega arith;
      within = omega (arith, length-drop at text);
      gap = subst (Gap (drop at text)) g f.0;
      form = subst (λ (x : List ℕ). Form t.kind t.detail x (drop (at + reach t) text)) g (subst (Form t.kind t.detail (drop t.gap (drop at text))) r f.1);
    }

-- ---- all of them

reading_tiles : (es : List Entry) (text : List ℕ) (at : ℕ) → read_from ron_token text at ≡ es ▸ complete → Tiles text at es
reading_tiles [] text at h = ends (stop_gap (drop at text) (stopped at (drop at text) h))
reading_tiles (e ∷ es) text at h =
    let f = first ron_token quiet_byte laws at (drop at text) e (es ▸ complete) h in
    let n : ℕ = at + reach f.this in
    let rest : read_from ron_token text n ≡ es ▸ complete = sym (f.rest_is ∙ ap (read_part ron_token n) (drop_on at (reach f.this) n text refl)) in
    let is : placed at f.this ≡ e = sym f.entry_is in
    tile (subst (Tile text at) is (token_tile text at f.this f.answer)) (subst (λ (x : Entry). Tiles text x.end es) is (reading_tiles es text n rest))

-- the entries of an accepted read and the gaps between them tile the text
pub read_tiles : (text tape : List ℕ) (n : ℕ) → read_answer text (length tape) ≡ Ok n → Tiles text 0 (entries_of n (read_tape text tape))
read_tiles text tape n h = reading_tiles (entries_of n (read_tape text tape)) text 0 (after_read text tape n h).holds
