-- Texts as lines, and scripts with one line more.
use Rattle.std.proofs.Common.{◌≡◌, ℕ, suc, ◌+◌, ◌<◌, List, [], ◌∷◌, ◌++◌, length, take, drop, get_or, refl, sym, ap, subst, ◌∙◌, arith}
use Rattle.std.proofs.lemmas.List.{drop_more, take-append-drop, length-take-le, take_more}
use Rattle.std.specs.Str.Lines.{lines}
use Rattle.cedar_language.specs.Uid.{Text}
use Rattle.cedar_scripts.specs.declared.fault.ScriptError.{ScriptError}
use Rattle.cedar_scripts.specs.declared.fault.ScriptError.TheVariants.{Fault, Memory}
use Rattle.cedar_scripts.specs.ScriptLines.{Said, Says, SayInTurn}
use Rattle.cedar_scripts.specs.ScriptTexts.{ScriptText, AreScript, ScriptGoesOn, TextGoesOn}
use Rattle.cedar_scripts.specs.ScriptFaults.{IsRefusal, RefusesLine, last_step}

-- ---- one line more

length-say : (lines : List Text) (said : List Said) → SayInTurn lines said → length said ≡ length lines
length-say [] [] say = refl
length-say (line ∷ lines) (s ∷ said) say = ap suc (length-say lines said say.1)
length-say [] (s ∷ said) say = absurd say
length-say (line ∷ lines) [] say = absurd say

say-push : (lines : List Text) (said : List Said) (line : Text) (s : Said) → SayInTurn lines said → Says line s → SayInTurn (lines ++ line ∷ []) (said ++ s ∷ [])
say-push [] [] line s say here = (here, tt)
say-push (l ∷ lines) (x ∷ said) line s say here = (say.0, say-push lines said line s say.1 here)
say-push [] (x ∷ said) line s say here = absurd say
say-push (l ∷ lines) [] line s say here = absurd say

pub goes_on : (number : ℕ) (line : Text) (said : Said) (old new : ScriptText) → Says line said → ScriptGoesOn number said old new → TextGoesOn number line old new
goes_on number line said old new here go lines e script =
    let counted : number ≡ length script.0 + 1 = omega (arith, e, length-say lines script.0 script.1) in
    (script.0 ++ said ∷ [], say-push lines script.0 line said script.1 here, go script.0 counted script.2)

pub script_more : (text : Text) (at number : ℕ) (line : Text) (old new : ScriptText) → at < length (lines text) → line ≡ get_or (lines text) at line → number ≡ at + 1
    → AreScript (take at (lines text)) old → TextGoesOn number line old new → AreScript (take (at + 1) (lines text)) new
script_more text at number line old new within read e script go =
    let counted : number ≡ length (take at (lines text)) + 1 = omega (arith, e, length-take-le at (lines text)) in
    let more : take at (lines text) ++ line ∷ [] ≡ take (at + 1) (lines text) = ap (λ x. take at (lines text) ++ x ∷ []) read ∙ sym (take_more (lines text) at line within) in
    subst (λ l. AreScript l new) more (go (take at (lines text)) counted script)

-- ---- the line that can't stand where it does

pub cut_at : (all : List Text) (at : ℕ) (line : Text) → at < length all → line ≡ get_or all at line → all ≡ take at all ++ line ∷ drop (at + 1) all
cut_at all at line within read =
    sym (take-append-drop at all) ∙ ap (λ l. take at all ++ l) (drop_more all at line within ∙ ap (λ x. x ∷ drop (at + 1) all) (sym read))

pub refusal_from : (text : Text) (at number : ℕ) (line : Text) (script : ScriptText) (error : ScriptError) → at < length (lines text) → line ≡ get_or (lines text) at line
    → number ≡ at + 1 → AreScript (take at (lines text)) script → RefusesLine number (last_step script) line error → IsRefusal text error
refusal_from text at number line script Memory within read e reads why = tt
refusal_from text at number line script (Fault where_to fault) within read e reads why = record {
  before = take at (lines text);
  line = line;
  after = drop (at + 1) (lines text);
  are = cut_at (lines text) at line within read;
  counted = omega (arith, why.0, e, length-take-le at (lines text));
  script = script;
  reads = reads;
  why = why.1;
}
