-- A name in a namespace, and the reserved identifier.
use Rattle.std.proofs.Common.{◌≡◌, ◌≢◌, ◌==◌, ◌++◌, ◌∷◌, [], length, Bool, true, false, Option, Some, None, refl, if◌then◌else◌, arith, length-append}
use Rattle.std.proofs.lemmas.List.Folds.{list_any-append}
use Rattle.cedar_language.specs.Uid.{Name}
use Rattle.cedar_names.specs.Identifiers.{is_reserved}
use Rattle.cedar_names.specs.Names.{qualified, is_reserved_name, is_unqualified}

by_case : (b : Bool) (m n : Name) → is_reserved_name m ≡ false → is_reserved_name n ≡ false → is_reserved_name (if b then m ++ n else n) ≡ false
by_case true m n h k = rw (list_any-append is_reserved m n, h) k
by_case false m n h k = k

pub unreserved_qualified : (m n : Name) → is_reserved_name m ≡ false → is_reserved_name n ≡ false → is_reserved_name (qualified (Some m) n) ≡ false
unreserved_qualified m n h k = by_case (length n == 1) m n h k

pub kept : (namespace : Option Name) (n : Name) → is_unqualified n ≡ false → qualified namespace n ≡ n
kept None n h = refl
kept (Some m) n h = rw h refl

long : (m n : Name) → m ≢ [] → n ≢ [] → is_unqualified (m ++ n) ≡ false
long [] n h k = absurd (h refl)
long (x ∷ xs) [] h k = absurd (k refl)
long (x ∷ xs) (y ∷ ys) h k = grind (arith, length-append)

once_by_case : (other : Option Name) (m n : Name) → m ≢ [] → n ≢ [] → (b : Bool) → is_unqualified n ≡ b → qualified other (if b then m ++ n else n) ≡ (if b then m ++ n else n)
once_by_case other m n h k true is = kept other (m ++ n) (long m n h k)
once_by_case other m n h k false is = kept other n is

pub once : (other : Option Name) (m n : Name) → m ≢ [] → n ≢ [] → qualified other (qualified (Some m) n) ≡ qualified (Some m) n
once other m n h k = once_by_case other m n h k (is_unqualified n) refl
