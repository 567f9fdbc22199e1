use native.Mathlib.Omega.{arith}
use mathlib.Core.Path.{sym, ap, ◌∙◌}
use Rattle.text.proofs.Utf8Agree.{bad_means}
use Rattle.octets.specs.Octets.{allowed_of, by_place}
use Rattle.octets.proofs.front.allowed.Goals as goal

pub at_bad-requires : goal.at_bad-requires
at_bad-requires c = omega (arith, (bad_means c.args.s.now c.in-Some.k (sym c.first_bad-found.ensures ∙ c.in-Some.is)).0)

pub returns-in-None : goal.returns-in-None
unfolding allowed_of
returns-in-None c = sym (ap (by_place c.args.s.now) (sym c.first_bad-found.ensures ∙ c.in-None.is))

pub returns-in-Some : goal.returns-in-Some
unfolding allowed_of
returns-in-Some c = c.at_bad.ensures ∙ sym (ap (by_place c.args.s.now) (sym c.first_bad-found.ensures ∙ c.in-Some.is))
