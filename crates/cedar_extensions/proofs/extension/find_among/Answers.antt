-- Where an extension has no function of the name, what is found is found in those behind it.
use Rattle.cedar_extensions.proofs.Finding.{found_next}
use Rattle.cedar_extensions.proofs.extension.find_among.Goals as goal

pub returns-in-Some : goal.returns-in-Some
returns-in-Some g c = found_next c.args.extensions.now c.loop-extension.extension-index c.extension-item.result c.args.name.now _ c.loop-extension-test.true c.extension-item.is c.in-Some.ensures c.loop-extension.invariant

pub loop-extension-preserved : goal.loop-extension-preserved
loop-extension-preserved g c = found_next c.args.extensions.now c.loop-extension.extension-index c.extension-item.result c.args.name.now _ c.loop-extension-test.true c.extension-item.is c.in_default.ensures c.loop-extension.invariant
