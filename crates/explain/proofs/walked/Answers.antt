use Prim.Native.Nat.{ℕ}
use mathlib.Core.List.{List}
use lib.ListN.{length}
use Rattle.sarridok.specs.Walked.{walk_of}
use Rattle.text.specs.Refusals.{Told}
use Rattle.explain.proofs.ExplainLaws.{walked_accepted, walked_refused}
use Rattle.explain.proofs.walked.Goals as goal

pub returns-in-Ok : goal.returns-in-Ok
returns-in-Ok c =
    let s : List ℕ = c.args.s.now in
    let t : List ℕ = c.args.tape.now in
    let n : ℕ = c.args.count in
    let answer : Told Unit = walk_of s t n 128 (length c.args.links.now) in
    let out : List ℕ × ℕ = (c.args.o.now, 0) in
    record {
      said = walked_accepted s t n answer c.walk-r.result c.walk-r.ensures.answer out _ c.in-Ok.is c.deepest.result c.deepest.ensures c.accepted.ensures;
      left = c.walk-r.ensures.left;
    }

pub returns-in-Err : goal.returns-in-Err
returns-in-Err c =
    let s : List ℕ = c.args.s.now in
    let t : List ℕ = c.args.tape.now in
    let n : ℕ = c.args.count in
    let answer : Told Unit = walk_of s t n 128 (length c.args.links.now) in
    let out : List ℕ × ℕ = (c.args.o.now, 0) in
    record {
      said = walked_refused s t n answer c.walk-r.result c.walk-r.ensures.answer out _ c.in-Err.f c.in-Err.is c.walk_place-place.result c.walk_begun-begun.result c.walk_place-place.ensures c.walk_begun-begun.ensures c.refused.ensures;
      left = c.walk-r.ensures.left;
    }
