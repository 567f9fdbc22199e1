-- What is known of a read that was accepted. Assumes nothing.
use Rattle.std.proofs.Common.{Ok, Err}
use Prim.Native.Nat.{ℕ, ◌≤◌}
use native.Mathlib.Omega.{arith}
use mathlib.Core.Bool.{Bool, true, false, cond}
use mathlib.Core.List.{List}
use mathlib.Core.Path.{◌≡◌, refl, sym, ◌∙◌}
use lib.Dec.{ltb}
use borrow.Author.Tests.{ltb-false}
use Rattle.text.specs.Judged.{judged_of}
use Rattle.text.specs.Refusals.{Told, no_room}
use Rattle.rows.specs.Rows.{room_of}
use Rattle.reading.specs.Readings.{counted}
use Rattle.read.specs.Read.{read_answer, reading_of, room_for}
use Rattle.read.proofs.ReadLaws.{read_fit, read_refused}

-- an accepted read found the text fit, and room for its entries
pub record Accepted (text : List ℕ) (numbers n : ℕ) : Type 0 where
  pub counts : counted 0 (reading_of text) ≡ Ok n
  pub fits : n ≤ room_of numbers

by-room : (r : ℕ) (x : Told ℕ) (n : ℕ) → room_for r x ≡ Ok n → (x ≡ Ok n) × (n ≤ r)
by-room r (Err d) n h = let z : ◌≡◌ {A = ℕ} 0 1 = cc in absurd (omega arith)
by-room r (Ok m) n h = go (ltb r m) refl h
  where
    go : (t : Bool) → ltb r m ≡ t → ◌≡◌ {A = Told _} (cond t (Err no_room) (Ok m)) (Ok n) → (◌≡◌ {A = Told _} (Ok m) (Ok n)) × (n ≤ r)
    go true e h = let z : ◌≡◌ {A = ℕ} 0 1 = cc in absurd (omega arith)
    go false e h = let k : m ≡ n = cc in (h, omega (arith, ltb-false r m e))

pub read_accepted : (text : List ℕ) (numbers n : ℕ) → read_answer text numbers ≡ Ok n → Accepted text numbers n
read_accepted text numbers n h = go (judged_of text) refl
  where
    go : (x : Told Unit) → judged_of text ≡ x → Accepted text numbers n
    go (Ok tt) e = let w = by-room (room_of numbers) (counted 0 (reading_of text)) n (sym (read_fit text numbers e) ∙ h) in record { counts = w.0; fits = w.1 }
    go (Err d) e = let z : ◌≡◌ {A = Told ℕ} (Err d) (Ok n) = sym (read_refused text numbers d e) ∙ h in let y : ◌≡◌ {A = ℕ} 0 1 = cc in absurd (omega arith)
