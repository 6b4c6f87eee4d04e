-- Calls of functions by the number of their arguments.
use Rattle.std.proofs.Common.{◌≡◌, ◌≢◌, suc, List, [], ◌∷◌, length, refl, ap, sym, ◌∙◌}
use Rattle.std.proofs.lemmas.Bool.{ne_eqb}
use Rattle.std.specs.Prelude.{Some, cond, true, false}
use Rattle.cedar_language.specs.Facts.{Function}
use Rattle.cedar_language.specs.Value.{Value, FailedExtensionFunctionExecution, WrongNumArguments, Fails}
use Rattle.cedar_language.specs.Order.{all_of}
use Rattle.cedar_language.specs.Operators.{count, called, or_fails, takes}
use Rattle.cedar_grammar.specs.Functions.{one_string, unknown_function}

count_all : (vs : List Value) → count (all_of vs) ≡ length vs
count_all [] = refl
count_all (v ∷ vs) = ap suc (count_all vs)

-- they are refused
pub called_others : (vs : List Value) → length vs ≢ 1 → called (Some unknown_function) (all_of vs) ≡ Fails WrongNumArguments
called_others vs others =
    ap
    (λ b. cond b (or_fails FailedExtensionFunctionExecution (one_string (all_of vs))) (Fails WrongNumArguments))
    (ne_eqb 1 (count (all_of vs)) (λ one. others (sym (count_all vs) ∙ sym one)))

-- calls of any function with as many arguments as it takes, and with another number
pub called_right : (f : Function) (vs : List Value) → takes f.takes (length vs) ≡ true → called (Some f) (all_of vs) ≡ or_fails FailedExtensionFunctionExecution (f.answer (all_of vs))
called_right f vs fits =
    ap
    (λ b. cond b (or_fails FailedExtensionFunctionExecution (f.answer (all_of vs))) (Fails WrongNumArguments))
    (ap (takes f.takes) (count_all vs) ∙ fits)

pub called_wrong : (f : Function) (vs : List Value) → takes f.takes (length vs) ≡ false → called (Some f) (all_of vs) ≡ Fails WrongNumArguments
called_wrong f vs other =
    ap
    (λ b. cond b (or_fails FailedExtensionFunctionExecution (f.answer (all_of vs))) (Fails WrongNumArguments))
    (ap (takes f.takes) (count_all vs) ∙ other)
