-- By what a store shows of a world, and what functions of a table answer.
use Rattle.cedar_asking.proofs.Facts.{store_has_facts, table_is_served, facts_are_made}
use Rattle.cedar_asking.proofs.worlds_are_shown.Goals as goal

pub returns-clause-stores : goal.returns-clause-stores
returns-clause-stores c = store_has_facts

pub returns-clause-tables : goal.returns-clause-tables
returns-clause-tables c = table_is_served

pub returns-clause-made : goal.returns-clause-made
returns-clause-made c = facts_are_made
