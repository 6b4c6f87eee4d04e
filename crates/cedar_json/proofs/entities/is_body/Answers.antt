use Rattle.std.proofs.Common.{◌≡◌, true, false, is_some, sym, ◌∙◌, arith}
use Rattle.std.specs.Prelude.{codes}
use Rattle.json.specs.Value.{members_view}
use Rattle.cedar_world.specs.Bodies.{and_then}
use Rattle.cedar_json.specs.Entities.{entity_in, parents_in, fields_in, under, if_there}
use Rattle.cedar_json.proofs.Sound.{some_body, first_false, second_false, third_false, fourth_is}
use Rattle.cedar_json.proofs.entities.is_body.Goals as goal

pub returns-then-not-has_uid : goal.returns-then-not-has_uid
returns-then-not-has_uid c =
    let ms = members_view c.args.members.now.items in
    let uid = is_some (and_then (under (codes "uid") ms) entity_in) in
    let parents = is_some (if_there parents_in (under (codes "parents") ms)) in
    let attributes = is_some (if_there fields_in (under (codes "attrs") ms)) in
    let tags = is_some (if_there fields_in (under (codes "tags") ms)) in
    let no : c.has_uid.result ≡ false = grind arith in
    λ u. sym (some_body ms ∙ first_false uid parents attributes tags (sym c.has_uid.ensures ∙ no))

pub returns-then-not-has_parents : goal.returns-then-not-has_parents
returns-then-not-has_parents c =
    let ms = members_view c.args.members.now.items in
    let uid = is_some (and_then (under (codes "uid") ms) entity_in) in
    let parents = is_some (if_there parents_in (under (codes "parents") ms)) in
    let attributes = is_some (if_there fields_in (under (codes "attrs") ms)) in
    let tags = is_some (if_there fields_in (under (codes "tags") ms)) in
    let no : c.has_parents.result ≡ false = grind arith in
    λ u. sym (some_body ms ∙ second_false uid parents attributes tags (sym c.has_parents.ensures ∙ no))

pub returns-then-not-has_fields : goal.returns-then-not-has_fields
returns-then-not-has_fields c =
    let ms = members_view c.args.members.now.items in
    let uid = is_some (and_then (under (codes "uid") ms) entity_in) in
    let parents = is_some (if_there parents_in (under (codes "parents") ms)) in
    let attributes = is_some (if_there fields_in (under (codes "attrs") ms)) in
    let tags = is_some (if_there fields_in (under (codes "tags") ms)) in
    let no : c.has_fields.result ≡ false = grind arith in
    λ u. sym (some_body ms ∙ third_false uid parents attributes tags (sym (c.has_fields.ensures u) ∙ no))

pub returns : goal.returns
returns c =
    let ms = members_view c.args.members.now.items in
    let uid = is_some (and_then (under (codes "uid") ms) entity_in) in
    let parents = is_some (if_there parents_in (under (codes "parents") ms)) in
    let attributes = is_some (if_there fields_in (under (codes "attrs") ms)) in
    let tags = is_some (if_there fields_in (under (codes "tags") ms)) in
    let one : c.has_uid.result ≡ true = grind arith in
    let two : c.has_parents.result ≡ true = grind arith in
    let three : c.has_fields.result ≡ true = grind arith in
    λ u. c.has_fields-2.ensures u ∙ sym
    (some_body ms ∙ fourth_is uid parents attributes tags (sym c.has_uid.ensures ∙ one) (sym c.has_parents.ensures ∙ two)
    (sym (c.has_fields.ensures u) ∙ three))
