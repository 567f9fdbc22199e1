-- Entries that tile a text (document 01): "Whitespace and comments make no entry." Gap, entry, gap, entry, .. to the end of the text.
use Rattle.std.specs.Prelude.{ℕ, ◌+◌, ◌<◌, ◌≤◌, List, [], ◌∷◌, ◌⊎◌, ◌≡◌, drop, length}
use Rattle.rows.specs.declared.Entry.{Entry}
use Rattle.gapped.specs.Gap.{Gap, OpenLine}
use Rattle.tiled.specs.Forms.{Form}

-- Nothing but a gap is left, whose last line comment the text's end may leave open.
abbrev pub LastGap : List ℕ → Type 0
LastGap s = Gap s [] ⊎ OpenLine s

-- One entry at its places: behind the place `at` a gap, as long as the entry says (document 02, CR 6), then bytes of its kind and detail, up to its end.
pub record Tile (text : List ℕ) (at : ℕ) (e : Entry) : Type 0 where
  pub behind : at ≤ e.start
  pub distance : at + e.gap ≡ e.start
  pub some : e.start < e.end
  pub within : e.end ≤ length text
  pub gap : Gap (drop at text) (drop e.start text)
  pub form : Form e.kind e.detail (drop e.start text) (drop e.end text)

-- The entries and the gaps between them are the text from the place `at` on.
pub data Tiles (text : List ℕ) : ℕ → List Entry → Type 0 where
  ends : {at : ℕ} → LastGap (drop at text) → Tiles text at []
  tile : {at : ℕ} {e : Entry} {es : List Entry} → Tile text at e → Tiles text e.end es → Tiles text at (e ∷ es)
