use Rattle.explain.proofs.sentence.+line.Given as goal

abbrev pub decreases-line : goal.decreases-line
decreases-line l = l.n
