-- What is refused for a cause is refused for what is told of it.
use Rattle.std.proofs.Common.{ℕ, List, Result, inl, inr, sym, subst}
use Rattle.cedar_language.specs.Uid.{Text}
use Rattle.cedar_grammar.specs.Token.{Token}
use Rattle.cedar_grammar.specs.LooseReading.{Fault}
use Rattle.cedar_loose.specs.Errors.{Cause, outside_the_grammar, means_nothing, nested_too_deep, out_of_memory}
use Rattle.cedar_loose.specs.Texts.{IsRefused, IsOutside, IsTold}

pub told_refusal : {A : Type 0} (read : ℕ → List Token → Result A Fault) (limit : ℕ) (bytes : Text) (cause told : Cause) → IsTold cause told → IsRefused read limit bytes cause → IsRefused read limit bytes told
told_refusal read limit bytes outside_the_grammar told (inl same) refused = subst (IsRefused read limit bytes) (sym same) refused
told_refusal read limit bytes outside_the_grammar told (inr memory) refused = subst (IsRefused read limit bytes) (sym memory) tt
told_refusal read limit bytes means_nothing told same refused = absurd refused
told_refusal read limit bytes nested_too_deep told same refused = subst (IsRefused read limit bytes) (sym same) refused
told_refusal read limit bytes out_of_memory told same refused = subst (IsRefused read limit bytes) (sym same) refused

pub told_outside : {A : Type 0} (read : ℕ → List Token → Result A Fault) (bytes : Text) (cause told : Cause) → IsTold cause told → IsOutside read bytes cause → IsOutside read bytes told
told_outside read bytes outside_the_grammar told (inl same) outside = subst (IsOutside read bytes) (sym same) outside
told_outside read bytes outside_the_grammar told (inr memory) outside = subst (IsOutside read bytes) (sym memory) tt
told_outside read bytes means_nothing told same outside = absurd outside
told_outside read bytes nested_too_deep told same outside = subst (IsOutside read bytes) (sym same) outside
told_outside read bytes out_of_memory told same outside = subst (IsOutside read bytes) (sym same) outside
