-- The place of a refusal of `integers` has 32 bits where the list has no more than 2^32 items: it is an item's number, or lies within the text. Assumes nothing.
use Rattle.std.proofs.Common.{Ok, Err}
use Prim.Native.Nat.{ℕ, ◌^◌, ◌≤◌, ◌<◌}
use native.Mathlib.Omega.{arith}
use mathlib.Core.List.{List}
use mathlib.Core.Path.{◌≡◌, ap}
use lib.ListN.{length}
use Rattle.text.specs.Judged.{behind_judged, judged_of}
use Rattle.text.specs.Refusals.{Told}
use Rattle.text.specs.declared.refusal.Refusal.{Refusal}
use Rattle.sarridok.specs.declared.items.Coded.{Coded}
use Rattle.sarridok.specs.Integers.{done, integers_of}
use Rattle.sarridok.specs.Listed.{ListRefused, by_count, by_item, by_room, by_text}
use Rattle.sarridok.proofs.IntegersMeans.{integers_refused}
use Rattle.sarridok.proofs.ItemLaws.{apart}
use Rattle.sarridok_c.specs.Whole.{done_parts}
use Rattle.sarridok_c.proofs.Unpacking.{Low, behind-judged}

-- the judgement's place lies within the text
judged_place : (text : List ℕ) (r : Refusal) → judged_of text ≡ Err r → r.place < 2 ^ 32
judged_place text r e =
    let low : Low done_parts (behind_judged (judged_of text) (Ok tt)) = behind-judged done_parts text (Ok tt) (λ l. (omega arith, omega arith)) in
    let here : Low done_parts (Err r) = rw e at low in
    omega arith

refused_place : (text tape : List ℕ) (count : ℕ) (items : List ℕ) (m c : ℕ) → length items ≤ 2 ^ 32 → (r : Refusal) → ListRefused text tape count items m c r → r.place < 2 ^ 32
refused_place text tape count items m c h r (by_text j) = judged_place text r j
refused_place text tape count items m c h r (by_count j l) = omega arith
refused_place text tape count items m c h r (by_item k s g f) = let i = f.inside in omega arith
refused_place text tape count items m c h r (by_room cs g l s) = omega arith

-- a refusal is told as it is
pub done_refused : (t : Told (List Coded)) (r : Refusal) → done t ≡ Err r → t ≡ Err r
done_refused (Ok cs) r e = absurd (apart tt r e)
done_refused (Err q) r e = let same : q ≡ r = cc in ap Err same

pub list_place : (text tape : List ℕ) (count : ℕ) (items : List ℕ) (m c : ℕ) → length items ≤ 2 ^ 32 → (r : Refusal) → done (integers_of text tape count items m c) ≡ Err r → r.place < 2 ^ 32
list_place text tape count items m c h r e =
    refused_place text tape count items m c h r ((integers_refused text tape count items m c r).0 (done_refused (integers_of text tape count items m c) r e))
