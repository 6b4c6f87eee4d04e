-- An entity is open where its attributes or its tags are, and else shows the version that its body is.
use Rattle.cedar_extensions.specs.Table.{as_table}
use Rattle.cedar_held.specs.Entities.{written_of}
use Rattle.cedar_held.proofs.Versions as versions
use Rattle.cedar_held.proofs.making.entity_of.Goals as goal

pub returns-in-None : goal.returns-in-None
returns-in-None g c =
    let attributes = rw c.in-None.is at c.in_ok-attrs.ensures in
    versions.attribute_open (as_table g.F.ExtensionFunctionObject.answers c.args.extensions.now) c.args.depth (written_of c.args.body.now) c.in_ok-tags.tags attributes c.in_ok-tags.ensures

pub returns-in-None-tags : goal.returns-in-None-tags
returns-in-None-tags g c =
    let tags = rw c.in-None-tags.is at c.in_ok-tags.ensures in
    versions.tag_open (as_table g.F.ExtensionFunctionObject.answers c.args.extensions.now) c.args.depth (written_of c.args.body.now) c.in_ok-attrs.attrs c.in_ok-attrs.ensures tags

pub returns-in_ok-entity-in-Some-tags : goal.returns-in_ok-entity-in-Some-tags
returns-in_ok-entity-in-Some-tags g c =
    let attributes = rw c.in-Some.is at c.in_ok-attrs.ensures in
    let tags = rw c.in-Some-tags.is at c.in_ok-tags.ensures in
    versions.made (as_table g.F.ExtensionFunctionObject.answers c.args.extensions.now) c.args.depth (written_of c.args.body.now) c.in-Some.attrs c.in-Some-tags.tags c.in_ok-entity-in-Some-tags.field-0 c.in_ok-entity-in-Some-tags.ensures attributes tags
