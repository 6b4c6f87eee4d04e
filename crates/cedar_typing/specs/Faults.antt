-- Why an expression has no type, by the names of the Cedar validator. (Cedar language reference, "Policy validation".)

pub data TypingFault : Type 0 where
  -- an entity type that isn't declared
  UnrecognizedEntityType : TypingFault
  -- an action that isn't declared
  UnrecognizedActionId : TypingFault
  -- an entity that its enumeration doesn't list
  InvalidEnumEntity : TypingFault
  -- an operand, a part of `&&`, `||` or `if`, or an argument of another type than may stand there
  UnexpectedType : TypingFault
  -- types without a least one above them
  IncompatibleTypes : TypingFault
  -- an attribute that isn't declared
  UnsafeAttributeAccess : TypingFault
  -- an optional attribute, where no test gave it
  UnsafeOptionalAttributeAccess : TypingFault
  -- a tag, where no test gave it
  UnsafeTagAccess : TypingFault
  -- a tag of a type that declares none
  NoTagsAllowed : TypingFault
  -- an extension function that has no signature
  UndefinedFunction : TypingFault
  WrongNumberArguments : TypingFault
  -- a text of which a constructor makes no value
  FunctionArgumentValidation : TypingFault
  -- an argument of a constructor that is no literal
  NonLitExtConstructor : TypingFault
  EmptySetForbidden : TypingFault
  -- a slot that isn't bound in the environment
  UnboundSlot : TypingFault
  UnknownNotAllowed : TypingFault
  -- a record's key that stands twice
  DuplicateKeys : TypingFault
