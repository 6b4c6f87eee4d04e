-- That a reference means no entity is told by the first error, which else tells of memory.
use Rattle.cedar_grammar.specs.Converting.{ref_entity}
use Rattle.cedar_cst.specs.LeafView.{shown_ref}
use Rattle.cedar_faults.specs.Reasons.{reason}
use Rattle.cedar_parser.specs.Errors.{cause_of}
use Rattle.cedar_parser.proofs.Reading.{told_lacks}
use Rattle.cedar_parser.proofs.Faults.{refused_tells}
use Rattle.cedar_parser.proofs.leaves.converted.Goals as goal

pub returns-in-Err-clause-uid : goal.returns-in-Err-clause-uid
returns-in-Err-clause-uid c =
    told_lacks (reason c.in-Err.error) (cause_of c.refused.result.0.head) (ref_entity (shown_ref c.args.tree.now)) c.refused.ensures.cause c.in-Err.ensures.uid

pub returns-in-Err-clause-shown : goal.returns-in-Err-clause-shown
returns-in-Err-clause-shown c = refused_tells c.refused.result c.in-Err.error _ c.refused.ensures.faults c.refused.ensures.alone c.in-Err.ensures.shown
