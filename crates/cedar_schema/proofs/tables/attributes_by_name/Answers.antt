-- Each that is put is new, or none is the record's.
use Rattle.std.proofs.Common.{Some, sym, ap, ◌∙◌, length}
use Rattle.std.specs.Prelude.{is_some}
use Rattle.cedar_schema.specs.Types.{named_views}
use Rattle.cedar_schema.proofs.Puts.{shown, put_all, put_from_none, put_on_nothing, put_popped, put_new, put_again, len_again, len_more}
use Rattle.cedar_schema.proofs.tables.attributes_by_name.Goals as goal

pub loop-name-init : goal.loop-name-init
loop-name-init c =
    let fs = named_views c.args.typed.items in
    record { same = put_from_none fs ∙ ap (λ es. put_all fs (Some (shown es))) (sym c.new-by_name.ensures.empty) }

pub returns-then-is_some : goal.returns-then-is_some
returns-then-is_some c =
    let left = c.pop.new.self.items in
    let es = c.loop-name.by_name.entries in
    let new = c.insert.new.self.entries in
    let made = c.in_ok-insert.ensures in
    let same = len_again (is_some c.in_ok-insert.field-0) c.is_some.result (length new) (length es) c.is_some.ensures c.if-is_some.true made.len in
    sym (c.loop-name.invariant.same ∙ put_popped c.loop-name.left.items left c.in-Some.name c.in-Some.attribute es c.in-Some.ensures.items
    ∙ ap (put_all (named_views left)) (put_again c.in-Some.name c.in-Some.attribute es new made.entries same) ∙ put_on_nothing (named_views left))

pub loop-name-preserved : goal.loop-name-preserved
loop-name-preserved c =
    let left = c.pop.new.self.items in
    let es = c.loop-name.by_name.entries in
    let new = c.insert.new.self.entries in
    let made = c.in_ok-insert.ensures in
    let more = len_more (is_some c.in_ok-insert.field-0) c.is_some.result (length new) (length es) c.is_some.ensures c.if-is_some.false made.len in
    record {
      same = c.loop-name.invariant.same ∙ put_popped c.loop-name.left.items left c.in-Some.name c.in-Some.attribute es c.in-Some.ensures.items
          ∙ ap (put_all (named_views left)) (put_new c.in-Some.name c.in-Some.attribute es new made.entries more);
    }
