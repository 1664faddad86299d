-- What follows from an optional value that another was made of, or that stands under a test.
-- Assumes nothing.
use mathlib.Core.Path.{◌≡◌, refl}
use mathlib.Core.Bool.{Bool, true, false, cond}
use mathlib.Core.Option.{Option, none, some, none-ne-some}
use Rattle.model.specs.Text.{and_then}

-- the value from which f's was made
pub record Via {A B : Type 0} (o : Option A) (f : A → Option B) (b : B) : Type 0 where
  pub value : A
  pub given : o ≡ some value
  pub made : f value ≡ some b

pub and_then_lem : {A B : Type 0} (o : Option A) (f : A → Option B) {b : B} → and_then o f ≡ some b → Via o f b
and_then_lem none f p = absurd (none-ne-some _ p)
and_then_lem (some a) f p = record { value = a; given = refl; made = p }

-- a value under a test is there only where the test passes
pub record Passed {A : Type 0} (t : Bool) (o : Option A) (a : A) : Type 0 where
  pub test : t ≡ true
  pub kept : o ≡ some a

pub passed : {A : Type 0} (t : Bool) (o : Option A) {a : A} → cond t o none ≡ some a → Passed t o a
passed true o p = record { test = refl; kept = p }
passed false o p = absurd (none-ne-some _ p)
