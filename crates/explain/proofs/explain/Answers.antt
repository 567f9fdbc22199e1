use Prim.Native.Nat.{ℕ}
use native.Mathlib.Omega.{arith}
use mathlib.Core.List.{List}
use mathlib.Core.Path.{refl}
use lib.ListN.{length}
use Rattle.read.specs.Read.{read_answer}
use Rattle.text.specs.Refusals.{Told}
use Rattle.explain.proofs.ExplainLaws.{room_after, explained_accepted, explained_refused, links_accepted, links_refused}
use Rattle.explain.proofs.explain.Goals as goal

pub walked-requires : goal.walked-requires
walked-requires c = room_after c.args.s.now c.args.tape.now _ c.read-r.result c.read-r.ensures.0 c.read-r.ensures.1 c.in-Ok.n c.in-Ok.is (omega arith)

pub returns-in-Ok : goal.returns-in-Ok
returns-in-Ok c =
    let s : List ℕ = c.args.s.now in
    let t : List ℕ = c.args.tape.now in
    let links : List ℕ = c.args.links.now in
    let answer : Told ℕ = read_answer s (length t) in
    let out : List ℕ × ℕ = (c.args.o.now, 0) in
    record {
      said = explained_accepted s t _ c.read-r.result c.read-r.ensures.0 c.read-r.ensures.1 out _ (length links) c.in-Ok.n c.in-Ok.is c.walked.ensures.said;
      tape = c.read-r.ensures.1;
      left = links_accepted s _ links _ answer c.read-r.result c.read-r.ensures.0 c.in-Ok.n c.in-Ok.is c.walked.ensures.left;
    }

pub returns-in-Err : goal.returns-in-Err
returns-in-Err c =
    let s : List ℕ = c.args.s.now in
    let t : List ℕ = c.args.tape.now in
    let links : List ℕ = c.args.links.now in
    let answer : Told ℕ = read_answer s (length t) in
    let out : List ℕ × ℕ = (c.args.o.now, 0) in
    record {
      said = explained_refused s t _ c.read-r.result c.read-r.ensures.0 c.read-r.ensures.1 out _ (length links) c.in-Err.f c.in-Err.is c.read_begun.result c.read_begun.ensures c.refused.ensures;
      tape = c.read-r.ensures.1;
      left = links_refused s _ links _ answer c.read-r.result c.read-r.ensures.0 c.in-Err.f c.in-Err.is refl;
    }
