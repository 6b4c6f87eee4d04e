-- The table and the limit that a session lends are those of its setting.
use Rattle.std.proofs.Common.{◌≡◌, ℕ, ap, ◌∙◌}
use Rattle.cedar_extensions.specs.declared.extensions.Extensions.{Extensions}
use Rattle.cedar_extensions.specs.declared.objects.ExtensionFunctionObject.{Ghosts}
use Rattle.cedar_session.specs.Owning.{owned_setting}
use Rattle.cedar_session.specs.Settings.{setting_with}
use Rattle.cedar_session.specs.declared.owned.OwnedSession.{OwnedSession}

module _ {F : Type 0} {functions : Ghosts F} where
  pub lent_setting : (table : Extensions F) (depth : ℕ) (session : OwnedSession F functions) → table ≡ session.extensions
      → depth ≡ (owned_setting session).depth → setting_with functions.answers table depth ≡ owned_setting session
  lent_setting table depth session e f = ap (λ t. setting_with functions.answers t depth) e ∙ ap (λ d. setting_with functions.answers session.extensions d) f
