use Rattle.sarridok.proofs.items.coded_item.Goals as goal

pub returns-in-Read : goal.returns-in-Read
returns-in-Read c = rw (c.in-Read.is, c.code_for-code.ensures)

pub returns-in-OtherSuffix : goal.returns-in-OtherSuffix
returns-in-OtherSuffix c = rw (c.in-OtherSuffix.is, c.at_item.ensures, c.other_kind.ensures)

pub returns-in-Refused : goal.returns-in-Refused
returns-in-Refused c = rw (c.in-Refused.is, c.at_item-in-Refused.ensures)
