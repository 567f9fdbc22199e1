-- A repair behind the judgement of its text. Assumes nothing.
use Rattle.std.proofs.Common.{Ok, Err}
use Prim.Native.Nat.{ℕ}
use mathlib.Core.List.{List}
use mathlib.Core.Path.{◌≡◌, ap, sym, ◌∙◌}
use Rattle.text.specs.Judged.{behind_judged, judged_of}
use Rattle.text.specs.Refusals.{Told}
use Rattle.text.specs.declared.refusal.Refusal.{Refusal}
use Rattle.repair.specs.Repair.{repair_answer_of, repair_of, repair_tape_of, repaired_tape, unless_refused}
use Rattle.repair.specs.declared.repairer.Repaired.{Repaired}

module _ (tape : List ℕ) (count o a b : ℕ) (text : List ℕ) where
  abbrev pub Promised : Told Repaired → List ℕ → Type 0
  Promised r after = (r ≡ repair_of tape count o a b text) × (after ≡ repaired_tape tape count o a b text)

  pub behind : (j : Told Unit) → judged_of text ≡ j
      → (repair_of tape count o a b text ≡ behind_judged j (repair_answer_of tape count o a b text)) × (repaired_tape tape count o a b text ≡ unless_refused j tape (repair_tape_of tape count o a b text))
  unfolding repair_of repaired_tape
  behind j h = (ap (λ (x : Told Unit). behind_judged x (repair_answer_of tape count o a b text)) h, ap (λ (x : Told Unit). unless_refused x tape (repair_tape_of tape count o a b text)) h)

  pub call_refused : (r : Refusal) → judged_of text ≡ Err r → Promised (Err r) tape
  call_refused r h = let w = behind (Err r) h in (sym w.0, sym w.1)

  pub call_fit : judged_of text ≡ Ok tt → (r : Told Repaired) (after : List ℕ) → (r ≡ repair_answer_of tape count o a b text) × (after ≡ repair_tape_of tape count o a b text) → Promised r after
  call_fit h r after p = let w = behind (Ok tt) h in (p.0 ∙ sym w.0, p.1 ∙ sym w.1)
