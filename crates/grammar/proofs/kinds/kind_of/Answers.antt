use borrow.Author.Tests.{ne_eqb, eq-eqb, le-ltb, lt-ltb}
use Rattle.grammar.specs.Kinds.{kind_of}
use Rattle.grammar.proofs.kinds.kind_of.Goals as goal

pub returns-then-k-eq-OPEN_PAREN : goal.returns-then-k-eq-OPEN_PAREN
unfolding kind_of
returns-then-k-eq-OPEN_PAREN c = simp (eq-eqb _ _ c.if-k-eq-OPEN_PAREN.true)

pub returns-then-k-eq-CLOSE_PAREN : goal.returns-then-k-eq-CLOSE_PAREN
unfolding kind_of
returns-then-k-eq-CLOSE_PAREN c = simp (ne_eqb _ _ c.if-k-eq-OPEN_PAREN.false, eq-eqb _ _ c.if-k-eq-CLOSE_PAREN.true)

pub returns-then-k-eq-OPEN_BRACKET : goal.returns-then-k-eq-OPEN_BRACKET
unfolding kind_of
returns-then-k-eq-OPEN_BRACKET c = simp (ne_eqb _ _ c.if-k-eq-OPEN_PAREN.false, ne_eqb _ _ c.if-k-eq-CLOSE_PAREN.false, eq-eqb _ _ c.if-k-eq-OPEN_BRACKET.true)

pub returns-then-k-eq-CLOSE_BRACKET : goal.returns-then-k-eq-CLOSE_BRACKET
unfolding kind_of
returns-then-k-eq-CLOSE_BRACKET c = simp (ne_eqb _ _ c.if-k-eq-OPEN_PAREN.false, ne_eqb _ _ c.if-k-eq-CLOSE_PAREN.false, ne_eqb _ _ c.if-k-eq-OPEN_BRACKET.false, eq-eqb _ _ c.if-k-eq-CLOSE_BRACKET.true)

pub returns-then-k-eq-OPEN_BRACE : goal.returns-then-k-eq-OPEN_BRACE
unfolding kind_of
returns-then-k-eq-OPEN_BRACE c = simp (ne_eqb _ _ c.if-k-eq-OPEN_PAREN.false, ne_eqb _ _ c.if-k-eq-CLOSE_PAREN.false, ne_eqb _ _ c.if-k-eq-OPEN_BRACKET.false, ne_eqb _ _ c.if-k-eq-CLOSE_BRACKET.false, eq-eqb _ _ c.if-k-eq-OPEN_BRACE.true)

pub returns-then-k-eq-CLOSE_BRACE : goal.returns-then-k-eq-CLOSE_BRACE
unfolding kind_of
returns-then-k-eq-CLOSE_BRACE c = simp (ne_eqb _ _ c.if-k-eq-OPEN_PAREN.false, ne_eqb _ _ c.if-k-eq-CLOSE_PAREN.false, ne_eqb _ _ c.if-k-eq-OPEN_BRACKET.false, ne_eqb _ _ c.if-k-eq-CLOSE_BRACKET.false, ne_eqb _ _ c.if-k-eq-OPEN_BRACE.false, eq-eqb _ _ c.if-k-eq-CLOSE_BRACE.true)

pub returns-then-k-eq-COMMA : goal.returns-then-k-eq-COMMA
unfolding kind_of
returns-then-k-eq-COMMA c = simp (ne_eqb _ _ c.if-k-eq-OPEN_PAREN.false, ne_eqb _ _ c.if-k-eq-CLOSE_PAREN.false, ne_eqb _ _ c.if-k-eq-OPEN_BRACKET.false, ne_eqb _ _ c.if-k-eq-CLOSE_BRACKET.false, ne_eqb _ _ c.if-k-eq-OPEN_BRACE.false, ne_eqb _ _ c.if-k-eq-CLOSE_BRACE.false, eq-eqb _ _ c.if-k-eq-COMMA.true)

pub returns-then-k-eq-COLON : goal.returns-then-k-eq-COLON
unfolding kind_of
returns-then-k-eq-COLON c = simp (ne_eqb _ _ c.if-k-eq-OPEN_PAREN.false, ne_eqb _ _ c.if-k-eq-CLOSE_PAREN.false, ne_eqb _ _ c.if-k-eq-OPEN_BRACKET.false, ne_eqb _ _ c.if-k-eq-CLOSE_BRACKET.false, ne_eqb _ _ c.if-k-eq-OPEN_BRACE.false, ne_eqb _ _ c.if-k-eq-CLOSE_BRACE.false, ne_eqb _ _ c.if-k-eq-COMMA.false, eq-eqb _ _ c.if-k-eq-COLON.true)

pub returns-then-k-lt-INTEGER : goal.returns-then-k-lt-INTEGER
unfolding kind_of
returns-then-k-lt-INTEGER c = simp (ne_eqb _ _ c.if-k-eq-OPEN_PAREN.false, ne_eqb _ _ c.if-k-eq-CLOSE_PAREN.false, ne_eqb _ _ c.if-k-eq-OPEN_BRACKET.false, ne_eqb _ _ c.if-k-eq-CLOSE_BRACKET.false, ne_eqb _ _ c.if-k-eq-OPEN_BRACE.false, ne_eqb _ _ c.if-k-eq-CLOSE_BRACE.false, ne_eqb _ _ c.if-k-eq-COMMA.false, ne_eqb _ _ c.if-k-eq-COLON.false, lt-ltb _ _ c.if-k-lt-INTEGER.true)

pub returns-then-k-lt-ATTRIBUTE : goal.returns-then-k-lt-ATTRIBUTE
unfolding kind_of
returns-then-k-lt-ATTRIBUTE c = simp (ne_eqb _ _ c.if-k-eq-OPEN_PAREN.false, ne_eqb _ _ c.if-k-eq-CLOSE_PAREN.false, ne_eqb _ _ c.if-k-eq-OPEN_BRACKET.false, ne_eqb _ _ c.if-k-eq-CLOSE_BRACKET.false, ne_eqb _ _ c.if-k-eq-OPEN_BRACE.false, ne_eqb _ _ c.if-k-eq-CLOSE_BRACE.false, ne_eqb _ _ c.if-k-eq-COMMA.false, ne_eqb _ _ c.if-k-eq-COLON.false, le-ltb _ _ c.if-k-lt-INTEGER.false, lt-ltb _ _ c.if-k-lt-ATTRIBUTE.true)

pub returns : goal.returns
unfolding kind_of
returns c = simp (ne_eqb _ _ c.if-k-eq-OPEN_PAREN.false, ne_eqb _ _ c.if-k-eq-CLOSE_PAREN.false, ne_eqb _ _ c.if-k-eq-OPEN_BRACKET.false, ne_eqb _ _ c.if-k-eq-CLOSE_BRACKET.false, ne_eqb _ _ c.if-k-eq-OPEN_BRACE.false, ne_eqb _ _ c.if-k-eq-CLOSE_BRACE.false, ne_eqb _ _ c.if-k-eq-COMMA.false, ne_eqb _ _ c.if-k-eq-COLON.false, le-ltb _ _ c.if-k-lt-INTEGER.false, le-ltb _ _ c.if-k-lt-ATTRIBUTE.false)
