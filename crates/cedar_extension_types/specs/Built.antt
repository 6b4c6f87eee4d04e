-- Answers of these functions are values whose keys are bytes.
use Rattle.std.specs.Prelude.{◌≡◌, ℤ, ◌<◌, Bool, Option, Some, None}
use Rattle.std.proofs.Common.{subst, refl, arith}
use Rattle.std.specs.Option.{option_map}
use Rattle.std.specs.List.{AllByRecursion}
use Rattle.cedar_language.specs.Uid.{Name, Text}
use Rattle.cedar_language.specs.Value.{Value}
use Rattle.cedar_extensions.specs.Answering.{IsBuilt}
use Rattle.cedar_scalars.specs.Keys.{key_of}
use Rattle.cedar_scalars.specs.Ranges.{range_of}
use Rattle.cedar_scalars.specs.declared.ip_ranges.IpRange.{IpRange}
use Rattle.cedar_scalars.proofs.RangeKeys.{key_is_bytes}
use Rattle.cedar_extension_types.specs.Types.{numbered, boolean_value, long_value, onward}
use Rattle.cedar_extension_types.specs.Answers.{range_value}

keys_are_bytes : (n : ℤ) → AllByRecursion (λ b. b < 256) (key_of n)
keys_are_bytes n = (omega arith, (omega arith, (omega arith, (omega arith, (omega arith, (omega arith, (omega arith, (omega arith, tt))))))))

pub numbers_built : {A : Type 0} (name : Name) (ordered : Bool) (g : A → ℤ) (o : Option A) (v : Value) →
    option_map (λ a. numbered name ordered (g a)) o ≡ Some v → IsBuilt v
numbers_built name ordered g (Some a) v is = let e : numbered name ordered (g a) ≡ v = cc in subst IsBuilt e (keys_are_bytes (g a))
numbers_built name ordered g None v is = cc

pub booleans_built : {A : Type 0} (g : A → Bool) (o : Option A) (v : Value) → option_map (λ a. boolean_value (g a)) o ≡ Some v → IsBuilt v
booleans_built g (Some a) v is = let e : boolean_value (g a) ≡ v = cc in subst IsBuilt e tt
booleans_built g None v is = cc

pub longs_built : {A : Type 0} (g : A → ℤ) (o : Option A) (v : Value) → option_map (λ a. long_value (g a)) o ≡ Some v → IsBuilt v
longs_built g (Some a) v is = let e : long_value (g a) ≡ v = cc in subst IsBuilt e tt
longs_built g None v is = cc

pub ranges_built : (o : Option Text) (v : Value) → option_map range_value (onward range_of o) ≡ Some v → IsBuilt v
ranges_built None v is = cc
ranges_built (Some t) v is = by (range_of t) refl is
  where
    by : (r : Option IpRange) → range_of t ≡ r → option_map range_value r ≡ Some v → IsBuilt v
    by None q is = cc
    by (Some r) q is = let e : range_value r ≡ v = cc in subst IsBuilt e (key_is_bytes t r q)
