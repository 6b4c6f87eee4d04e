-- By the parts of a tree: each operator gives a literal, a part of its operands, or what is read or called.
use Rattle.cedar_world.proofs.Grown.{answers_stay_within}
use Rattle.cedar_world.proofs.Unread.{bound_trees_grow_alike, unread_is_never_too_deep}
use Rattle.cedar_world.proofs.Written.{held_is_within, grows_by_highest}
use Rattle.cedar_world.proofs.answers_stay_within.Goals as goal

pub returns-clause-answers : goal.returns-clause-answers
returns-clause-answers c = answers_stay_within

pub returns-clause-held : goal.returns-clause-held
returns-clause-held c = held_is_within

pub returns-clause-grows : goal.returns-clause-grows
returns-clause-grows c = grows_by_highest

pub returns-clause-bound : goal.returns-clause-bound
returns-clause-bound c = bound_trees_grow_alike

pub returns-clause-unread : goal.returns-clause-unread
returns-clause-unread c = unread_is_never_too_deep
