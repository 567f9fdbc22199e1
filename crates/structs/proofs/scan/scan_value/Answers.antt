use Rattle.std.proofs.Common.{Err}
use Prim.Native.Nat.{◌+◌, ◌≤◌, ℕ}
use native.Mathlib.Omega.{arith}
use mathlib.Core.Path.{◌∙◌, ◌≡◌, ap, refl, sym}
use lib.ListN.{drop, length, length-drop}
use borrow.Author.Tests.{eq-eqb, ne_eqb}
use Rattle.structs.proofs.ScanLaws.{comma_fits, scan_at}
use Rattle.structs.proofs.StepLaws.{Sized, step_sized}
use Rattle.structs.specs.Kinds.{placed_kind}
use Rattle.structs.specs.Scan.{after_comma, by_step, scan_from, scan_of, step_of}
use Rattle.structs.specs.declared.steps.Step.{Step}
use Rattle.structs.specs.declared.steps.Step.TheVariants.{Closing, Comma, Opening, Plain, Refused}
use Rattle.text.proofs.Lists.{tail_part, on_part}
use Rattle.structs.proofs.scan.scan_value.Goals as goal

pub loop-n-init : goal.loop-n-init
unfolding scan_of
loop-n-init c = (c.requires, omega arith, omega arith, refl)

pub slice_bounds-next_step-count : goal.slice_bounds-next_step-count
slice_bounds-next_step-count c = c.loop-n.invariant.0

pub slice_bounds-next_step-start : goal.slice_bounds-next_step-start
slice_bounds-next_step-start c = c.loop-n.invariant.0

pub overflow_add-braces : goal.overflow_add-braces
overflow_add-braces c =
    let step_is : (x : Step) → c.next_step-step.result ≡ x → step_of (drop (c.loop-n.i) (c.args.s.now)) ≡ x = λ x e. on_part step_of (c.args.s.now) (c.loop-n.i) _ x c.next_step-step.ensures e in
    let sized : (x : Step) → c.next_step-step.result ≡ x → Sized (drop (c.loop-n.i) (c.args.s.now)) x = λ x e. step_sized (drop (c.loop-n.i) (c.args.s.now)) x (step_is x e) in
    let fits : (n : ℕ) → n ≤ length (drop (c.loop-n.i) (c.args.s.now)) → c.loop-n.i + n ≤ length (c.args.s.now) = λ n h. omega (arith, length-drop (c.loop-n.i) (c.args.s.now), c.loop-n.invariant.0) in
    let z = sized (Opening _) c.in-Opening.is in omega (arith, fits _ z.1, z.0, c.loop-n.invariant.0, c.loop-n.invariant.1, c.loop-n.invariant.2)

pub overflow_add-i : goal.overflow_add-i
overflow_add-i c =
    let step_is : (x : Step) → c.next_step-step.result ≡ x → step_of (drop (c.loop-n.i) (c.args.s.now)) ≡ x = λ x e. on_part step_of (c.args.s.now) (c.loop-n.i) _ x c.next_step-step.ensures e in
    let sized : (x : Step) → c.next_step-step.result ≡ x → Sized (drop (c.loop-n.i) (c.args.s.now)) x = λ x e. step_sized (drop (c.loop-n.i) (c.args.s.now)) x (step_is x e) in
    let fits : (n : ℕ) → n ≤ length (drop (c.loop-n.i) (c.args.s.now)) → c.loop-n.i + n ≤ length (c.args.s.now) = λ n h. omega (arith, length-drop (c.loop-n.i) (c.args.s.now), c.loop-n.invariant.0) in
    let z = sized (Opening _) c.in-Opening.is in omega (arith, fits _ z.1, z.0, c.loop-n.invariant.0, c.loop-n.invariant.1, c.loop-n.invariant.2)

pub loop-n-smaller-in-Opening : goal.loop-n-smaller-in-Opening
loop-n-smaller-in-Opening c =
    let step_is : (x : Step) → c.next_step-step.result ≡ x → step_of (drop (c.loop-n.i) (c.args.s.now)) ≡ x = λ x e. on_part step_of (c.args.s.now) (c.loop-n.i) _ x c.next_step-step.ensures e in
    let sized : (x : Step) → c.next_step-step.result ≡ x → Sized (drop (c.loop-n.i) (c.args.s.now)) x = λ x e. step_sized (drop (c.loop-n.i) (c.args.s.now)) x (step_is x e) in
    let fits : (n : ℕ) → n ≤ length (drop (c.loop-n.i) (c.args.s.now)) → c.loop-n.i + n ≤ length (c.args.s.now) = λ n h. omega (arith, length-drop (c.loop-n.i) (c.args.s.now), c.loop-n.invariant.0) in
    let z = sized (Opening _) c.in-Opening.is in omega (arith, fits _ z.1, z.0, c.loop-n.invariant.0, c.loop-n.invariant.1, c.loop-n.invariant.2)

pub loop-n-preserved-in-Opening : goal.loop-n-preserved-in-Opening
loop-n-preserved-in-Opening c =
    let step_is : (x : Step) → c.next_step-step.result ≡ x → step_of (drop (c.loop-n.i) (c.args.s.now)) ≡ x = λ x e. on_part step_of (c.args.s.now) (c.loop-n.i) _ x c.next_step-step.ensures e in
    let sized : (x : Step) → c.next_step-step.result ≡ x → Sized (drop (c.loop-n.i) (c.args.s.now)) x = λ x e. step_sized (drop (c.loop-n.i) (c.args.s.now)) x (step_is x e) in
    let fits : (n : ℕ) → n ≤ length (drop (c.loop-n.i) (c.args.s.now)) → c.loop-n.i + n ≤ length (c.args.s.now) = λ n h. omega (arith, length-drop (c.loop-n.i) (c.args.s.now), c.loop-n.invariant.0) in
    let comes : (x : Step) → c.next_step-step.result ≡ x → by_step x (c.loop-n.braces) (λ n braces. scan_from (drop (c.loop-n.i + n) (c.args.s.now)) 0 braces (c.loop-n.i + n)) (λ n. placed_kind (c.loop-n.i + n) (after_comma (drop (c.loop-n.i + n) (c.args.s.now)))) (c.loop-n.i) ≡ scan_of (c.args.s.now) c.args.at = λ x e. sym (scan_at (c.args.s.now) (c.loop-n.i) (c.loop-n.braces) x (step_is x e)) ∙ c.loop-n.invariant.3 in
    let z = sized (Opening _) c.in-Opening.is in (fits _ z.1, omega arith, omega (arith, z.0, c.loop-n.invariant.2), comes (Opening _) c.in-Opening.is)

pub overflow_sub-braces : goal.overflow_sub-braces
overflow_sub-braces c = c.loop-n.invariant.1

pub overflow_add-i-in-Closing : goal.overflow_add-i-in-Closing
overflow_add-i-in-Closing c =
    let step_is : (x : Step) → c.next_step-step.result ≡ x → step_of (drop (c.loop-n.i) (c.args.s.now)) ≡ x = λ x e. on_part step_of (c.args.s.now) (c.loop-n.i) _ x c.next_step-step.ensures e in
    let sized : (x : Step) → c.next_step-step.result ≡ x → Sized (drop (c.loop-n.i) (c.args.s.now)) x = λ x e. step_sized (drop (c.loop-n.i) (c.args.s.now)) x (step_is x e) in
    let fits : (n : ℕ) → n ≤ length (drop (c.loop-n.i) (c.args.s.now)) → c.loop-n.i + n ≤ length (c.args.s.now) = λ n h. omega (arith, length-drop (c.loop-n.i) (c.args.s.now), c.loop-n.invariant.0) in
    let z = sized (Closing _) c.in-Closing.is in omega (arith, fits _ z.1, z.0, c.loop-n.invariant.0, c.loop-n.invariant.1, c.loop-n.invariant.2)

pub loop-n-smaller-else-braces-eq0 : goal.loop-n-smaller-else-braces-eq0
loop-n-smaller-else-braces-eq0 c =
    let step_is : (x : Step) → c.next_step-step.result ≡ x → step_of (drop (c.loop-n.i) (c.args.s.now)) ≡ x = λ x e. on_part step_of (c.args.s.now) (c.loop-n.i) _ x c.next_step-step.ensures e in
    let sized : (x : Step) → c.next_step-step.result ≡ x → Sized (drop (c.loop-n.i) (c.args.s.now)) x = λ x e. step_sized (drop (c.loop-n.i) (c.args.s.now)) x (step_is x e) in
    let fits : (n : ℕ) → n ≤ length (drop (c.loop-n.i) (c.args.s.now)) → c.loop-n.i + n ≤ length (c.args.s.now) = λ n h. omega (arith, length-drop (c.loop-n.i) (c.args.s.now), c.loop-n.invariant.0) in
    let z = sized (Closing _) c.in-Closing.is in omega (arith, fits _ z.1, z.0, c.loop-n.invariant.0, c.loop-n.invariant.1, c.loop-n.invariant.2)

pub loop-n-preserved-else-braces-eq0 : goal.loop-n-preserved-else-braces-eq0
loop-n-preserved-else-braces-eq0 c =
    let step_is : (x : Step) → c.next_step-step.result ≡ x → step_of (drop (c.loop-n.i) (c.args.s.now)) ≡ x = λ x e. on_part step_of (c.args.s.now) (c.loop-n.i) _ x c.next_step-step.ensures e in
    let sized : (x : Step) → c.next_step-step.result ≡ x → Sized (drop (c.loop-n.i) (c.args.s.now)) x = λ x e. step_sized (drop (c.loop-n.i) (c.args.s.now)) x (step_is x e) in
    let fits : (n : ℕ) → n ≤ length (drop (c.loop-n.i) (c.args.s.now)) → c.loop-n.i + n ≤ length (c.args.s.now) = λ n h. omega (arith, length-drop (c.loop-n.i) (c.args.s.now), c.loop-n.invariant.0) in
    let comes : (x : Step) → c.next_step-step.result ≡ x → by_step x (c.loop-n.braces) (λ n braces. scan_from (drop (c.loop-n.i + n) (c.args.s.now)) 0 braces (c.loop-n.i + n)) (λ n. placed_kind (c.loop-n.i + n) (after_comma (drop (c.loop-n.i + n) (c.args.s.now)))) (c.loop-n.i) ≡ scan_of (c.args.s.now) c.args.at = λ x e. sym (scan_at (c.args.s.now) (c.loop-n.i) (c.loop-n.braces) x (step_is x e)) ∙ c.loop-n.invariant.3 in
    let z = sized (Closing _) c.in-Closing.is in (fits _ z.1, (let d = c.if-braces-eq0.false in omega arith), omega (arith, z.0, c.loop-n.invariant.2), rw (ne_eqb _ _ c.if-braces-eq0.false) at (comes (Closing _) c.in-Closing.is))

pub overflow_add-i-in-Comma : goal.overflow_add-i-in-Comma
overflow_add-i-in-Comma c =
    let step_is : (x : Step) → c.next_step-step.result ≡ x → step_of (drop (c.loop-n.i) (c.args.s.now)) ≡ x = λ x e. on_part step_of (c.args.s.now) (c.loop-n.i) _ x c.next_step-step.ensures e in
    let sized : (x : Step) → c.next_step-step.result ≡ x → Sized (drop (c.loop-n.i) (c.args.s.now)) x = λ x e. step_sized (drop (c.loop-n.i) (c.args.s.now)) x (step_is x e) in
    let fits : (n : ℕ) → n ≤ length (drop (c.loop-n.i) (c.args.s.now)) → c.loop-n.i + n ≤ length (c.args.s.now) = λ n h. omega (arith, length-drop (c.loop-n.i) (c.args.s.now), c.loop-n.invariant.0) in
    let z = sized (Comma _) c.in-Comma.is in omega (arith, fits _ z.1, z.0, c.loop-n.invariant.0, c.loop-n.invariant.1, c.loop-n.invariant.2)

pub slice_bounds-behind_comma-count : goal.slice_bounds-behind_comma-count
slice_bounds-behind_comma-count c =
    let step_is : (x : Step) → c.next_step-step.result ≡ x → step_of (drop (c.loop-n.i) (c.args.s.now)) ≡ x = λ x e. on_part step_of (c.args.s.now) (c.loop-n.i) _ x c.next_step-step.ensures e in
    let sized : (x : Step) → c.next_step-step.result ≡ x → Sized (drop (c.loop-n.i) (c.args.s.now)) x = λ x e. step_sized (drop (c.loop-n.i) (c.args.s.now)) x (step_is x e) in
    let fits : (n : ℕ) → n ≤ length (drop (c.loop-n.i) (c.args.s.now)) → c.loop-n.i + n ≤ length (c.args.s.now) = λ n h. omega (arith, length-drop (c.loop-n.i) (c.args.s.now), c.loop-n.invariant.0) in
    fits _ (sized (Comma _) c.in-Comma.is).1

pub slice_bounds-behind_comma-start : goal.slice_bounds-behind_comma-start
slice_bounds-behind_comma-start c =
    let step_is : (x : Step) → c.next_step-step.result ≡ x → step_of (drop (c.loop-n.i) (c.args.s.now)) ≡ x = λ x e. on_part step_of (c.args.s.now) (c.loop-n.i) _ x c.next_step-step.ensures e in
    let sized : (x : Step) → c.next_step-step.result ≡ x → Sized (drop (c.loop-n.i) (c.args.s.now)) x = λ x e. step_sized (drop (c.loop-n.i) (c.args.s.now)) x (step_is x e) in
    let fits : (n : ℕ) → n ≤ length (drop (c.loop-n.i) (c.args.s.now)) → c.loop-n.i + n ≤ length (c.args.s.now) = λ n h. omega (arith, length-drop (c.loop-n.i) (c.args.s.now), c.loop-n.invariant.0) in
    fits _ (sized (Comma _) c.in-Comma.is).1

pub placed-found-requires : goal.placed-found-requires
placed-found-requires c =
    let step_is : (x : Step) → c.next_step-step.result ≡ x → step_of (drop (c.loop-n.i) (c.args.s.now)) ≡ x = λ x e. on_part step_of (c.args.s.now) (c.loop-n.i) _ x c.next_step-step.ensures e in
    let sized : (x : Step) → c.next_step-step.result ≡ x → Sized (drop (c.loop-n.i) (c.args.s.now)) x = λ x e. step_sized (drop (c.loop-n.i) (c.args.s.now)) x (step_is x e) in
    let fits : (n : ℕ) → n ≤ length (drop (c.loop-n.i) (c.args.s.now)) → c.loop-n.i + n ≤ length (c.args.s.now) = λ n h. omega (arith, length-drop (c.loop-n.i) (c.args.s.now), c.loop-n.invariant.0) in
    rw (c.behind_comma.ensures ∙ ap after_comma (tail_part c.args.s.now (c.loop-n.i + c.in-Comma.n))) (comma_fits c.args.s.now (c.loop-n.i + c.in-Comma.n) (fits _ (sized (Comma _) c.in-Comma.is).1) (omega arith))

pub loop-n-smaller-else-braces-eq1 : goal.loop-n-smaller-else-braces-eq1
loop-n-smaller-else-braces-eq1 c =
    let step_is : (x : Step) → c.next_step-step.result ≡ x → step_of (drop (c.loop-n.i) (c.args.s.now)) ≡ x = λ x e. on_part step_of (c.args.s.now) (c.loop-n.i) _ x c.next_step-step.ensures e in
    let sized : (x : Step) → c.next_step-step.result ≡ x → Sized (drop (c.loop-n.i) (c.args.s.now)) x = λ x e. step_sized (drop (c.loop-n.i) (c.args.s.now)) x (step_is x e) in
    let fits : (n : ℕ) → n ≤ length (drop (c.loop-n.i) (c.args.s.now)) → c.loop-n.i + n ≤ length (c.args.s.now) = λ n h. omega (arith, length-drop (c.loop-n.i) (c.args.s.now), c.loop-n.invariant.0) in
    let z = sized (Comma _) c.in-Comma.is in omega (arith, fits _ z.1, z.0, c.loop-n.invariant.0, c.loop-n.invariant.1, c.loop-n.invariant.2)

pub loop-n-preserved-else-braces-eq1 : goal.loop-n-preserved-else-braces-eq1
loop-n-preserved-else-braces-eq1 c =
    let step_is : (x : Step) → c.next_step-step.result ≡ x → step_of (drop (c.loop-n.i) (c.args.s.now)) ≡ x = λ x e. on_part step_of (c.args.s.now) (c.loop-n.i) _ x c.next_step-step.ensures e in
    let sized : (x : Step) → c.next_step-step.result ≡ x → Sized (drop (c.loop-n.i) (c.args.s.now)) x = λ x e. step_sized (drop (c.loop-n.i) (c.args.s.now)) x (step_is x e) in
    let fits : (n : ℕ) → n ≤ length (drop (c.loop-n.i) (c.args.s.now)) → c.loop-n.i + n ≤ length (c.args.s.now) = λ n h. omega (arith, length-drop (c.loop-n.i) (c.args.s.now), c.loop-n.invariant.0) in
    let comes : (x : Step) → c.next_step-step.result ≡ x → by_step x (c.loop-n.braces) (λ n braces. scan_from (drop (c.loop-n.i + n) (c.args.s.now)) 0 braces (c.loop-n.i + n)) (λ n. placed_kind (c.loop-n.i + n) (after_comma (drop (c.loop-n.i + n) (c.args.s.now)))) (c.loop-n.i) ≡ scan_of (c.args.s.now) c.args.at = λ x e. sym (scan_at (c.args.s.now) (c.loop-n.i) (c.loop-n.braces) x (step_is x e)) ∙ c.loop-n.invariant.3 in
    let z = sized (Comma _) c.in-Comma.is in (fits _ z.1, c.loop-n.invariant.1, omega (arith, z.0, c.loop-n.invariant.2), rw (ne_eqb _ _ c.if-braces-eq1.false) at (comes (Comma _) c.in-Comma.is))

pub overflow_add-i-in-Plain : goal.overflow_add-i-in-Plain
overflow_add-i-in-Plain c =
    let step_is : (x : Step) → c.next_step-step.result ≡ x → step_of (drop (c.loop-n.i) (c.args.s.now)) ≡ x = λ x e. on_part step_of (c.args.s.now) (c.loop-n.i) _ x c.next_step-step.ensures e in
    let sized : (x : Step) → c.next_step-step.result ≡ x → Sized (drop (c.loop-n.i) (c.args.s.now)) x = λ x e. step_sized (drop (c.loop-n.i) (c.args.s.now)) x (step_is x e) in
    let fits : (n : ℕ) → n ≤ length (drop (c.loop-n.i) (c.args.s.now)) → c.loop-n.i + n ≤ length (c.args.s.now) = λ n h. omega (arith, length-drop (c.loop-n.i) (c.args.s.now), c.loop-n.invariant.0) in
    let z = sized (Plain _) c.in-Plain.is in omega (arith, fits _ z.1, z.0, c.loop-n.invariant.0, c.loop-n.invariant.1, c.loop-n.invariant.2)

pub loop-n-smaller : goal.loop-n-smaller
loop-n-smaller c =
    let step_is : (x : Step) → c.next_step-step.result ≡ x → step_of (drop (c.loop-n.i) (c.args.s.now)) ≡ x = λ x e. on_part step_of (c.args.s.now) (c.loop-n.i) _ x c.next_step-step.ensures e in
    let sized : (x : Step) → c.next_step-step.result ≡ x → Sized (drop (c.loop-n.i) (c.args.s.now)) x = λ x e. step_sized (drop (c.loop-n.i) (c.args.s.now)) x (step_is x e) in
    let fits : (n : ℕ) → n ≤ length (drop (c.loop-n.i) (c.args.s.now)) → c.loop-n.i + n ≤ length (c.args.s.now) = λ n h. omega (arith, length-drop (c.loop-n.i) (c.args.s.now), c.loop-n.invariant.0) in
    let z = sized (Plain _) c.in-Plain.is in omega (arith, fits _ z.1, z.0, c.loop-n.invariant.0, c.loop-n.invariant.1, c.loop-n.invariant.2)

pub loop-n-preserved : goal.loop-n-preserved
loop-n-preserved c =
    let step_is : (x : Step) → c.next_step-step.result ≡ x → step_of (drop (c.loop-n.i) (c.args.s.now)) ≡ x = λ x e. on_part step_of (c.args.s.now) (c.loop-n.i) _ x c.next_step-step.ensures e in
    let sized : (x : Step) → c.next_step-step.result ≡ x → Sized (drop (c.loop-n.i) (c.args.s.now)) x = λ x e. step_sized (drop (c.loop-n.i) (c.args.s.now)) x (step_is x e) in
    let fits : (n : ℕ) → n ≤ length (drop (c.loop-n.i) (c.args.s.now)) → c.loop-n.i + n ≤ length (c.args.s.now) = λ n h. omega (arith, length-drop (c.loop-n.i) (c.args.s.now), c.loop-n.invariant.0) in
    let comes : (x : Step) → c.next_step-step.result ≡ x → by_step x (c.loop-n.braces) (λ n braces. scan_from (drop (c.loop-n.i + n) (c.args.s.now)) 0 braces (c.loop-n.i + n)) (λ n. placed_kind (c.loop-n.i + n) (after_comma (drop (c.loop-n.i + n) (c.args.s.now)))) (c.loop-n.i) ≡ scan_of (c.args.s.now) c.args.at = λ x e. sym (scan_at (c.args.s.now) (c.loop-n.i) (c.loop-n.braces) x (step_is x e)) ∙ c.loop-n.invariant.3 in
    let z = sized (Plain _) c.in-Plain.is in (fits _ z.1, c.loop-n.invariant.1, omega (arith, z.0, c.loop-n.invariant.2), comes (Plain _) c.in-Plain.is)

pub placed_behind-requires : goal.placed_behind-requires
placed_behind-requires c =
    let step_is : (x : Step) → c.next_step-step.result ≡ x → step_of (drop (c.loop-n.i) (c.args.s.now)) ≡ x = λ x e. on_part step_of (c.args.s.now) (c.loop-n.i) _ x c.next_step-step.ensures e in
    let sized : (x : Step) → c.next_step-step.result ≡ x → Sized (drop (c.loop-n.i) (c.args.s.now)) x = λ x e. step_sized (drop (c.loop-n.i) (c.args.s.now)) x (step_is x e) in
    let fits : (n : ℕ) → n ≤ length (drop (c.loop-n.i) (c.args.s.now)) → c.loop-n.i + n ≤ length (c.args.s.now) = λ n h. omega (arith, length-drop (c.loop-n.i) (c.args.s.now), c.loop-n.invariant.0) in
    let z = sized (Refused _) c.in-Refused.is in omega (arith, fits _ z)

pub returns-then-braces-eq0 : goal.returns-then-braces-eq0
returns-then-braces-eq0 c =
    let step_is : (x : Step) → c.next_step-step.result ≡ x → step_of (drop (c.loop-n.i) (c.args.s.now)) ≡ x = λ x e. on_part step_of (c.args.s.now) (c.loop-n.i) _ x c.next_step-step.ensures e in
    let comes : (x : Step) → c.next_step-step.result ≡ x → by_step x (c.loop-n.braces) (λ n braces. scan_from (drop (c.loop-n.i + n) (c.args.s.now)) 0 braces (c.loop-n.i + n)) (λ n. placed_kind (c.loop-n.i + n) (after_comma (drop (c.loop-n.i + n) (c.args.s.now)))) (c.loop-n.i) ≡ scan_of (c.args.s.now) c.args.at = λ x e. sym (scan_at (c.args.s.now) (c.loop-n.i) (c.loop-n.braces) x (step_is x e)) ∙ c.loop-n.invariant.3 in
    rw (eq-eqb _ _ c.if-braces-eq0.true) at (comes (Closing _) c.in-Closing.is)

pub returns-then-braces-eq1 : goal.returns-then-braces-eq1
returns-then-braces-eq1 c =
    let step_is : (x : Step) → c.next_step-step.result ≡ x → step_of (drop (c.loop-n.i) (c.args.s.now)) ≡ x = λ x e. on_part step_of (c.args.s.now) (c.loop-n.i) _ x c.next_step-step.ensures e in
    let comes : (x : Step) → c.next_step-step.result ≡ x → by_step x (c.loop-n.braces) (λ n braces. scan_from (drop (c.loop-n.i + n) (c.args.s.now)) 0 braces (c.loop-n.i + n)) (λ n. placed_kind (c.loop-n.i + n) (after_comma (drop (c.loop-n.i + n) (c.args.s.now)))) (c.loop-n.i) ≡ scan_of (c.args.s.now) c.args.at = λ x e. sym (scan_at (c.args.s.now) (c.loop-n.i) (c.loop-n.braces) x (step_is x e)) ∙ c.loop-n.invariant.3 in
    c.placed-found.ensures ∙ ap (placed_kind (c.loop-n.i + c.in-Comma.n)) (c.behind_comma.ensures ∙ ap after_comma (tail_part c.args.s.now (c.loop-n.i + c.in-Comma.n))) ∙ (rw (eq-eqb _ _ c.if-braces-eq1.true) at (comes (Comma _) c.in-Comma.is))

pub returns-in-Refused : goal.returns-in-Refused
returns-in-Refused c =
    let step_is : (x : Step) → c.next_step-step.result ≡ x → step_of (drop (c.loop-n.i) (c.args.s.now)) ≡ x = λ x e. on_part step_of (c.args.s.now) (c.loop-n.i) _ x c.next_step-step.ensures e in
    let comes : (x : Step) → c.next_step-step.result ≡ x → by_step x (c.loop-n.braces) (λ n braces. scan_from (drop (c.loop-n.i + n) (c.args.s.now)) 0 braces (c.loop-n.i + n)) (λ n. placed_kind (c.loop-n.i + n) (after_comma (drop (c.loop-n.i + n) (c.args.s.now)))) (c.loop-n.i) ≡ scan_of (c.args.s.now) c.args.at = λ x e. sym (scan_at (c.args.s.now) (c.loop-n.i) (c.loop-n.braces) x (step_is x e)) ∙ c.loop-n.invariant.3 in
    ap Err c.placed_behind.ensures ∙ comes (Refused _) c.in-Refused.is
