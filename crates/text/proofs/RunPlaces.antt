-- A run is as long as the place of the first byte outside its class, or as its text. Assumes nothing.
use Prim.Native.Nat.{ℕ}
use mathlib.Core.Bool.{Bool, cond, not}
use mathlib.Core.List.{List}
use mathlib.Core.Path.{◌≡◌, sym}
use lib.Dec.{ltb}
use lib.ListN.{length}
use Rattle.std.proofs.Common.{None, Option, Some}
use Rattle.std.specs.List.{position_or_len}
use Rattle.std.specs.Option.{unwrap_or}
use Rattle.text.specs.Runs.{run}
use Rattle.text.proofs.RunLaws.{run_found, run_whole}

pub run_place : (p : ℕ → Bool) (s : List ℕ) (found : Option ℕ)
    → found ≡ cond (ltb (position_or_len (λ b. not (p b)) s) (length s)) (Some (position_or_len (λ b. not (p b)) s)) None → unwrap_or found (length s) ≡ run p s
run_place p s (Some n) e = sym (run_found p s n e)
run_place p s None e = sym (run_whole p s e)
