-- The words so far, the last of them and those that follow are the whole name; each turn leaves fewer tokens.
use Rattle.std.proofs.Common.{Ok, map, ap, sym, ◌∙◌}
use Rattle.std.proofs.lemmas.Result.{err_from_is_err_and}
use Rattle.std.proofs.lemmas.List.{map_push}
use Rattle.cedar_cst.specs.LeafView.{shown_ident, view_name}
use Rattle.cedar_grammar.specs.Loose as loose
use Rattle.cedar_grammar.specs.LooseReading.{name_of}
use Rattle.cedar_cst.proofs.Views.{seen}
use Rattle.cedar_loose.proofs.NameLoop.{words_start, words_first_fails, words_done, words_fail, words_fewer, words_more}
use Rattle.cedar_loose.proofs.cursor.Cursor.name.Goals as goal

pub returns-in_err-name : goal.returns-in_err-name
returns-in_err-name c =
    let p = err_from_is_err_and c.from_residual.result c.from_residual.ensures.1 in
    rw (p.1, p.2) (words_first_fails c.in_err-name.field-0.0 c.args.self.now c.in_err-name.ensures)

pub words-init : goal.words-init
words-init c = rw c.new-path.ensures.items (words_start c.args.self.now c.ident.new.self (shown_ident c.in_ok-name.name) c.in_ok-name.ensures)

pub returns-in_err-next : goal.returns-in_err-next
returns-in_err-next c =
    let p = err_from_is_err_and c.from_residual-in_err-next.result c.from_residual-in_err-next.ensures.1 in
    rw (p.1, p.2) (words_fail (map shown_ident c.words.path.items) (shown_ident c.words.name) c.words.self (name_of c.args.self.now) c.words.invariant c.eat_separator.new.self c.words-test.ensures c.in_err-next.field-0.0 c.in_err-next.ensures)

pub words-preserved : goal.words-preserved
words-preserved c = rw (c.in_ok-push.ensures.items, map_push) (words_more (map shown_ident c.words.path.items) (shown_ident c.words.name) c.words.self (name_of c.args.self.now) c.words.invariant c.eat_separator.new.self c.words-test.ensures (shown_ident c.in_ok-next.next) c.ident-in-words.new.self c.in_ok-next.ensures)

pub words-smaller : goal.words-smaller
words-smaller c = words_fewer (map shown_ident c.words.path.items) (shown_ident c.words.name) c.words.self (name_of c.args.self.now) c.words.invariant c.eat_separator.new.self c.words-test.ensures (shown_ident c.in_ok-next.next) c.ident-in-words.new.self c.in_ok-next.ensures

pub returns : goal.returns
returns c =
    words_done (map shown_ident c.words.path.items) (shown_ident c.words.name) c.words.self (name_of c.args.self.now) c.words.invariant c.eat_separator.new.self c.words-test.ensures
    ∙ ap (λ n. Ok (n, c.eat_separator.new.self)) (sym (seen loose.missing_name view_name c.in_ok-node.field-0 _ c.in_ok-node.ensures))
