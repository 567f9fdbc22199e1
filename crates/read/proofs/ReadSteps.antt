-- One turn of a loop that reads a text from a place on: what the token found there makes of the reading. Assumes nothing.
use Prim.Native.Nat.{ℕ, ◌+◌, ◌-◌, ◌<◌, ◌≤◌}
use native.Mathlib.Omega.{arith}
use mathlib.Core.List.{List}
use mathlib.Core.Path.{◌≡◌, ap, ap₂, subst, sym, ◌∙◌}
use lib.ListN.{drop, length, take, length-drop}
use Rattle.text.proofs.Lists.{tail_part}
use Rattle.text.proofs.RunLaws.{run_le}
use Rattle.text.specs.Classes.{blank1}
use Rattle.text.specs.Refusals.{placed_behind}
use Rattle.text.specs.Runs.{run}
use Rattle.text.specs.declared.refusal.Refusal.{Refusal}
use Rattle.plain.proofs.PlainBlanks.{from_blanks, widened}
use Rattle.plain.proofs.PlainLaws.{plain_token}
use Rattle.plain.specs.inner.Plain.{plain_of}
use Rattle.reading.proofs.Steps.{from_token, from_stop, from_refuse}
use Rattle.reading.specs.Owed.{quiet_byte}
use Rattle.reading.specs.Readings.{Reading, broken, complete, entry, read_from}
use Rattle.rows.specs.declared.Entry.{Entry}
use Rattle.reading.specs.Tokens.{Token as Answered, token}
use Rattle.tokens.proofs.RonLaws.{laws, lexed, refused_within}
use Rattle.tokens.specs.Ron.{answer_of, ron_token}
use Rattle.tokens.specs.declared.following.Following.{Following}
use Rattle.tokens.specs.declared.following.Following.TheVariants.{End, Refused, Token}
use Rattle.tokens.specs.declared.lexeme.Lexeme.{Lexeme}

-- a lexeme with a gap in front, in the words of the theory
abbrev pub token_at : ℕ → Lexeme → Answered
token_at g l = record { gap = g; len = l.len; kind = l.kind; detail = l.detail }

module _ (text : List ℕ) (at : ℕ) (f : Following) (h : answer_of f ≡ ron_token (take (length text - at) (drop at text))) where
  here : ron_token (drop at text) ≡ answer_of f
  here = sym (h ∙ ap ron_token (tail_part text at))

  module _ (g : ℕ) (l : Lexeme) (e : f ≡ Token g l) where
    pub step_token : read_from ron_token text at ≡ entry (record { kind = l.kind; start = at + g; end = at + g + l.len; detail = l.detail; gap = g }) (read_from ron_token text (at + g + l.len))
    step_token =
        let z : at + (g + l.len) ≡ at + g + l.len = omega arith in
        from_token ron_token quiet_byte laws text at (token_at g l) (here ∙ ap answer_of e)
        ∙ ap (λ (n : ℕ). entry (record { kind = l.kind; start = at + g; end = n; detail = l.detail; gap = g }) (read_from ron_token text n)) z

    pub step_within : (0 < l.len) × (at + g + l.len ≤ length text) × (l.detail < length text + 0x110000)
    step_within =
        let w = lexed (drop at text) (token_at g l) (here ∙ ap answer_of e) in
        let n = length-drop at text in
        (w.0, omega (arith, w.0, w.1), omega (arith, w.4))

  pub step_stop : f ≡ End → read_from ron_token text at ≡ complete
  step_stop e = from_stop ron_token quiet_byte laws text at (here ∙ ap answer_of e)

  pub step_refuse : (r : Refusal) → f ≡ Refused r → read_from ron_token text at ≡ broken (placed_behind at r)
  step_refuse r e = from_refuse ron_token quiet_byte laws text at r (here ∙ ap answer_of e)

  pub refuse_within : (r : Refusal) → f ≡ Refused r → r.place ≤ length text - at
  refuse_within r e = omega (arith, refused_within (drop at text) r (here ∙ ap answer_of e), length-drop at text)

-- ---- a plain token there

module _ (text : List ℕ) (at : ℕ) (l : Lexeme) (e : l ≡ plain_of (take (length text - at) (drop at text))) (h : 0 < l.len) where
  stands : ron_token (drop at text) ≡ token (token_at 0 l)
  stands =
      let is : l ≡ plain_of (drop at text) = e ∙ ap plain_of (tail_part text at) in
      subst (λ (x : Lexeme). 0 < x.len → ron_token (drop at text) ≡ token (token_at 0 x)) (sym is) (plain_token (drop at text)) h

  pub step_plain : read_from ron_token text at ≡ entry (record { kind = l.kind; start = at; end = at + l.len; detail = l.detail; gap = 0 }) (read_from ron_token text (at + l.len))
  step_plain =
      let start : at + 0 ≡ at = omega arith in
      let end : at + (0 + l.len) ≡ at + l.len = omega arith in
      from_token ron_token quiet_byte laws text at (token_at 0 l) stands
      ∙ ap₂ (λ (b c : ℕ). entry (record { kind = l.kind; start = b; end = c; detail = l.detail; gap = 0 }) (read_from ron_token text c)) start end

  pub plain_within : (at + l.len ≤ length text) × (l.detail < length text + 0x110000)
  plain_within =
      let w = lexed (drop at text) (token_at 0 l) stands in
      let n = length-drop at text in
      (omega (arith, w.1), omega (arith, w.4))

-- ---- blanks there

module _ (text : List ℕ) (at front : ℕ) (e : front ≡ at + run blank1 (drop at text)) where
  step_blanks : read_from ron_token text at ≡ widened (front - at) (read_from ron_token text front)
  step_blanks = from_blanks text at ∙ ap₂ (λ (n k : ℕ). widened n (read_from ron_token text k)) (omega arith) (sym e)

  -- what is read behind them is read from in front of them, its gap counted from there
  pub blanks_entry : (x : Entry) (r : Reading) → x.start ≡ front + x.gap → read_from ron_token text front ≡ entry x r
      → read_from ron_token text at ≡ entry (record { kind = x.kind; start = x.start; end = x.end; detail = x.detail; gap = x.start - at }) r
  blanks_entry x r s h =
      step_blanks
      ∙ ap (widened (front - at)) h
      ∙ ap (λ (g : ℕ). entry (record { kind = x.kind; start = x.start; end = x.end; detail = x.detail; gap = g }) r) (omega arith)

  pub blanks_complete : read_from ron_token text front ≡ complete → read_from ron_token text at ≡ complete
  blanks_complete h = step_blanks ∙ ap (widened (front - at)) h

  pub blanks_broken : (r : Refusal) → read_from ron_token text front ≡ broken r → read_from ron_token text at ≡ broken r
  blanks_broken r h = step_blanks ∙ ap (widened (front - at)) h

  pub blanks_within : at ≤ length text → front ≤ length text
  blanks_within h = omega (arith, run_le blank1 (drop at text), length-drop at text)
