-- The names that texts may call, as a session keeps them.
use Rattle.std.specs.Prelude.{◌≡◌}
use Rattle.std.specs.Option.{ForSome}
use Rattle.cedar_grammar.specs.Functions.{Functions, body_names, policy_names}
use Rattle.cedar_session.specs.declared.called_names.CalledNames.{CalledNames}

-- Those that are made are the names that bodies, and that policies, may call by these functions.
pub record AreNamesOf (functions : Functions) (names : CalledNames) : Type 0 where
  pub bodies : ForSome names.bodies (λ made. made ≡ body_names functions)
  pub policies : ForSome names.policies (λ made. made ≡ policy_names functions)
