-- Each part is read by its rule of the grammar, and nests and is as high as its parts and one more.
use Rattle.std.proofs.Common.{◌≡◌, ◌∙◌, suc, ◌-◌, length, map, sym, ap, subst, arith}
use Rattle.std.proofs.lemmas.List.{map_push}
use Rattle.std.specs.Rc.{rc_str_bytes}
use Rattle.cedar_language.specs.Tree.{Tree, Lit, Entity}
use Rattle.cedar_grammar.specs.Build.{Keyed}
use Rattle.cedar_grammar.specs.Grammar.{Entry, Unary, Within, inner}
use Rattle.cedar_grammar.specs.Token as token
use Rattle.cedar_grammar.specs.Token.{mark}
use Rattle.cedar_trees.specs.Bare.{bare, bare_entries}
use Rattle.cedar_data.specs.Classes.{mark_of}
use Rattle.cedar_data.specs.Data.{IsData, ReadsTree, ReadsPathTo}
use Rattle.cedar_data.specs.Takes.{Takes, Reads}
use Rattle.cedar_data.proofs.Rules.{within, boolean_read, entity_read}
use Rattle.cedar_data.proofs.Lists.{none_so_far, closed, last_closed, one_more, all_and, list_read, record_read, call_read, entry_read}
use Rattle.cedar_data.proofs.reader.Reader.+data.Goals as goal

pub data-returns : goal.data-returns
data-returns t c =
    let is : c.args.levels ≡ suc (c.args.levels - 1) = omega arith in
    within c.args.styles.now c.args.levels (c.args.levels - 1) c.args.self.now c.operand.new.self (bare c.in_ok-operand.operand) is c.in_ok-operand.ensures

pub operand-returns-in_ok-literal-in-34 : goal.operand-returns-in_ok-literal-in-34
operand-returns-in_ok-literal-in-34 t c =
    subst (λ x. ReadsTree (Unary (inner c.args.styles.now c.args.levels)) (suc c.args.levels) c.args.self.now x c.literal.new.self) (sym c.val.ensures) (c.in_ok-literal-in-34.ensures c.args.levels c.args.styles.now)

pub list-returns : goal.list-returns
list-returns t c = list_read c.args.styles.now c.args.levels c.args.self.now c.expect.new.self c.items.new.self c.in_ok-items.items.items _ c.in_ok-expect.ensures c.in_ok-items.ensures c.in_ok-set.ensures

pub record-returns-in-Ok : goal.record-returns-in-Ok
record-returns-in-Ok t c =
    record_read c.args.styles.now c.args.levels c.args.self.now c.expect.new.self c.entries.new.self c.in_ok-entries.entries.items c.in-Ok.record c.in_ok-expect.ensures c.in_ok-entries.ensures c.in-Ok.ensures

pub named-returns-in-Some : goal.named-returns-in-Some
named-returns-in-Some t c =
    boolean_read (bare c.val.result) c.args.self.now c.word.new.self c.in_ok-word.word.now c.in-Some.value c.in_ok-word.ensures c.in-Some.ensures.written c.val.ensures c.args.levels c.args.styles.now

pub used-returns-in_ok-uid-in-EntityType : goal.used-returns-in_ok-uid-in-EntityType
used-returns-in_ok-uid-in-EntityType t c =
    let path = subst (λ p. ReadsPathTo c.args.first.now c.args.self.now p c.path.new.self) c.in-EntityType.is c.in_ok-path.ensures in
    entity_read c.args.first.now c.args.self.now (inner c.args.styles.now c.args.levels) c.args.levels c.in-EntityType.entity_type c.path.new.self c.string.new.self c.in_ok-id-in-EntityType.ensures.raw (rc_str_bytes c.in_ok-id-in-EntityType.id) _ path c.in_ok-id-in-EntityType.ensures.takes c.in_ok-id-in-EntityType.ensures.is
    (c.val.ensures ∙ ap (λ u. Lit (Entity u)) c.in_ok-uid-in-EntityType.ensures)

pub used-returns-in_ok-call_extension_fn-in-Called : goal.used-returns-in_ok-call_extension_fn-in-Called
used-returns-in_ok-call_extension_fn-in-Called t c =
    let path = subst (λ p. ReadsPathTo c.args.first.now c.args.self.now p c.path.new.self) c.in-Called.is c.in_ok-path.ensures in
    call_read c.args.styles.now c.args.levels c.args.first.now c.args.self.now c.path.new.self c.expect.new.self c.items.new.self c.in-Called.function c.in_ok-arguments-in-Called.arguments.items _ path
    (sym c.is_function.ensures ∙ c.if-not-is_function.false) c.in_ok-expect-in-Called.ensures c.in_ok-arguments-in-Called.ensures c.in_ok-call_extension_fn-in-Called.ensures

pub items-items-init : goal.items-items-init
items-items-init t c = record {
  so_far = rw c.new-items.ensures.items (none_so_far (mark_of c.args.close) (Within c.args.styles.now c.args.levels) c.args.self.now);
  are_data = rw c.new-items.ensures.items tt;
}

pub items-items-preserved : goal.items-items-preserved
items-items-preserved t c =
    let item = c.in_ok-item.ensures in
    let reads : Reads (Within c.args.styles.now c.args.levels) c.items.self (bare c.in_ok-item.item) c.data.new.self =
    subst (λ x. Reads (Within c.args.styles.now c.args.levels) x (bare c.in_ok-item.item) c.data.new.self) c.items-test.ensures item.reads
    in
    let takes : Takes (mark token.Comma) c.data.new.self c.expect.new.self = subst (λ x. Takes (mark token.Comma) x c.expect.new.self) c.if-eat.ensures c.in_ok-expect.ensures in
    record {
      so_far = rw (c.in_ok-push.ensures.items, map_push) (one_more (mark_of c.args.close) (Within c.args.styles.now c.args.levels) c.args.self.now (map bare c.items.items.items) c.items.self c.expect.new.self c.items.invariant.so_far (bare c.in_ok-item.item) c.data.new.self reads takes);
      are_data = rw (c.in_ok-push.ensures.items, map_push) (all_and (IsData c.args.levels) (map bare c.items.items.items) (bare c.in_ok-item.item) c.items.invariant.are_data item.is_data);
    }

pub items-items-smaller : goal.items-items-smaller
items-items-smaller t c =
    let one = c.in_ok-expect.ensures.shorter in
    let two = ap length c.if-eat.ensures in
    let three = c.in_ok-item.ensures.reads.shorter in
    let four = ap length c.items-test.ensures in
    omega arith

pub items-returns-then-eat : goal.items-returns-then-eat
items-returns-then-eat t c =
    let item = c.in_ok-item.ensures in
    let reads : Reads (Within c.args.styles.now c.args.levels) c.items.self (bare c.in_ok-item.item) c.data.new.self =
    subst (λ x. Reads (Within c.args.styles.now c.args.levels) x (bare c.in_ok-item.item) c.data.new.self) c.items-test.ensures item.reads
    in
    record {
      reads = rw (c.in_ok-push.ensures.items, map_push) (last_closed (mark_of c.args.close) (Within c.args.styles.now c.args.levels) c.args.self.now (map bare c.items.items.items) c.items.self c.eat-in-items.new.self c.items.invariant.so_far (bare c.in_ok-item.item) c.data.new.self reads c.if-eat.ensures);
      are_data = rw (c.in_ok-push.ensures.items, map_push) (all_and (IsData c.args.levels) (map bare c.items.items.items) (bare c.in_ok-item.item) c.items.invariant.are_data item.is_data);
    }

pub items-returns : goal.items-returns
items-returns t c = record {
  reads = closed (mark_of c.args.close) (Within c.args.styles.now c.args.levels) c.args.self.now (map bare c.items.items.items) c.items.self c.eat.new.self c.items.invariant.so_far c.items-test.ensures;
  are_data = c.items.invariant.are_data;
}

pub entries-entries-init : goal.entries-entries-init
entries-entries-init t c = record {
  so_far = rw c.new-entries.ensures.items (none_so_far token.RightBrace (Entry (Within c.args.styles.now c.args.levels)) c.args.self.now);
  are_data = rw c.new-entries.ensures.items tt;
}

pub entries-entries-preserved : goal.entries-entries-preserved
entries-entries-preserved t c =
    let entry = c.in_ok-entry.ensures in
    let made : Keyed Tree = (rc_str_bytes c.in_ok-entry.entry.0, bare c.in_ok-entry.entry.1) in
    let reads : Reads (Entry (Within c.args.styles.now c.args.levels)) c.entries.self made c.entry.new.self =
    subst (λ x. Reads (Entry (Within c.args.styles.now c.args.levels)) x made c.entry.new.self) c.entries-test.ensures entry.reads
    in
    let takes : Takes (mark token.Comma) c.entry.new.self c.expect.new.self = subst (λ x. Takes (mark token.Comma) x c.expect.new.self) c.if-eat.ensures c.in_ok-expect.ensures in
    record {
      so_far = rw (c.in_ok-push.ensures.items, map_push) (one_more token.RightBrace (Entry (Within c.args.styles.now c.args.levels)) c.args.self.now (bare_entries c.entries.entries.items) c.entries.self c.expect.new.self c.entries.invariant.so_far made c.entry.new.self reads takes);
      are_data = rw (c.in_ok-push.ensures.items, map_push) (all_and (λ (e : Keyed Tree). IsData c.args.levels e.1) (bare_entries c.entries.entries.items) made c.entries.invariant.are_data entry.is_data);
    }

pub entries-entries-smaller : goal.entries-entries-smaller
entries-entries-smaller t c =
    let one = c.in_ok-expect.ensures.shorter in
    let two = ap length c.if-eat.ensures in
    let three = c.in_ok-entry.ensures.reads.shorter in
    let four = ap length c.entries-test.ensures in
    omega arith

pub entries-returns-then-eat : goal.entries-returns-then-eat
entries-returns-then-eat t c =
    let entry = c.in_ok-entry.ensures in
    let made : Keyed Tree = (rc_str_bytes c.in_ok-entry.entry.0, bare c.in_ok-entry.entry.1) in
    let reads : Reads (Entry (Within c.args.styles.now c.args.levels)) c.entries.self made c.entry.new.self =
    subst (λ x. Reads (Entry (Within c.args.styles.now c.args.levels)) x made c.entry.new.self) c.entries-test.ensures entry.reads
    in
    record {
      reads = rw (c.in_ok-push.ensures.items, map_push) (last_closed token.RightBrace (Entry (Within c.args.styles.now c.args.levels)) c.args.self.now (bare_entries c.entries.entries.items) c.entries.self c.eat-in-entries.new.self c.entries.invariant.so_far made c.entry.new.self reads c.if-eat.ensures);
      are_data = rw (c.in_ok-push.ensures.items, map_push) (all_and (λ (e : Keyed Tree). IsData c.args.levels e.1) (bare_entries c.entries.entries.items) made c.entries.invariant.are_data entry.is_data);
    }

pub entries-returns : goal.entries-returns
entries-returns t c = record {
  reads = closed token.RightBrace (Entry (Within c.args.styles.now c.args.levels)) c.args.self.now (bare_entries c.entries.entries.items) c.entries.self c.eat.new.self c.entries.invariant.so_far c.entries-test.ensures;
  are_data = c.entries.invariant.are_data;
}

pub entry-returns : goal.entry-returns
entry-returns t c = record {
  reads =
      entry_read (Within c.args.styles.now c.args.levels) c.args.self.now c.key.new.self c.expect_colon.new.self c.data.new.self (rc_str_bytes c.in_ok-key.key) (bare c.in_ok-value.value)
      c.in_ok-key.ensures c.in_ok-expect_colon.ensures c.in_ok-value.ensures.reads;
  is_data = c.in_ok-value.ensures.is_data;
}
