-- How far a text was read: one token more, and the end. Assumes nothing.
use Prim.Native.Nat.{ℕ, ◌≤◌}
use mathlib.Core.List.{List}
use mathlib.Core.Path.{◌≡◌, ap, refl, sym, ◌∙◌}
use lib.ListN.{length}
use Rattle.reading.proofs.Steps.{from_end}
use Rattle.reading.specs.Owed.{quiet_byte}
use Rattle.reading.specs.Readings.{Reading, broken, complete, entry, read_from, entries, end_of}
use Rattle.rows.specs.declared.Entry.{Entry}
use Rattle.text.specs.declared.refusal.Refusal.{Refusal}
use Rattle.tokens.proofs.RonLaws.{laws}
use Rattle.tokens.specs.Ron.{ron_token}
use Rattle.opened.specs.Begun.{reached_of}

-- what is left gives the whole
abbrev pub Reaches : List ℕ → ℕ → Type 0
Reaches text at = end_of at (entries (read_from ron_token text at)) ≡ reached_of text

module _ (text : List ℕ) where
  pub reach_starts : Reaches text 0
  unfolding reached_of
  reach_starts = refl

  module _ (at : ℕ) (so_far : Reaches text at) where
    pub reach_token : (e : Entry) → read_from ron_token text at ≡ entry e (read_from ron_token text e.end) → Reaches text e.end
    unfolding entries end_of
    reach_token e h = sym (ap (λ (r : Reading). end_of at (entries r)) h) ∙ so_far

    pub reach_complete : read_from ron_token text at ≡ complete → at ≡ reached_of text
    unfolding entries end_of
    reach_complete h = sym (ap (λ (r : Reading). end_of at (entries r)) h) ∙ so_far

    pub reach_broken : (d : Refusal) → read_from ron_token text at ≡ broken d → at ≡ reached_of text
    unfolding entries end_of
    reach_broken d h = sym (ap (λ (r : Reading). end_of at (entries r)) h) ∙ so_far

    pub reach_out : length text ≤ at → at ≡ reached_of text
    reach_out h = reach_complete (from_end ron_token quiet_byte laws text at h)
