-- What the answers of the tests and of the passes stand for. Assumes nothing.
use Rattle.std.specs.Prelude.{ℕ, Result, Ok, Err, Some, None}
use Rattle.std.specs.Prelude as rust
use Rattle.std.proofs.Math.Option.{Option, none, some}
use Rattle.model.specs.declared.numbers.Edge.{Edge}
use Rattle.model.specs.declared.numbers.Vertex.{Vertex}
use Rattle.model.specs.declared.refusal.Refusal.{Refusal}
use Rattle.model.specs.Refusals.{Test}

-- a test passes, or fails with its refusal
abbrev pub test_of : Result Unit Refusal → Test
test_of (Ok u) = none
test_of (Err n) = some n

-- the number of what a pass finds
abbrev pub found : {A : Type 0} → (A → ℕ) → rust.Option A → Option ℕ
found number (Some a) = some (number a)
found number None = none

-- a number itself, and that of an edge, of a vertex
abbrev pub number_found : rust.Option ℕ → Option ℕ
number_found = found (λ n. n)

abbrev pub edge_found : rust.Option Edge → Option ℕ
edge_found = found (λ e. e.0)

abbrev pub vertex_found : rust.Option Vertex → Option ℕ
vertex_found = found (λ v. v.0)
