-- Every vertex of the torus lies in a row and a column, and every edge is of the first or of the second kind at a vertex; so what holds in
-- each row and column for both kinds holds of all edges.
-- Assumes nothing.
use Prim.Native.Nat.{ℕ, ◌+◌, ◌*◌, ◌/◌, ◌%◌, ◌≤◌, ◌<◌}
use mathlib.Core.Path.{◌≡◌, subst}
use native.Mathlib.Nat.{mod-lt, div-add-mod'}
use native.Mathlib.Decide.{ℕ_discrete}
use native.Mathlib.Omega.{arith}
use Rattle.model.specs.Torus.{row, column}
use Rattle.model.specs.Faces.{first_kind, second_kind}
use Rattle.torus.proofs.Numbering.{row_less}

pub every_vertex : (L : ℕ) → 1 ≤ L → (P : ℕ → Type 0) → ((r c : ℕ) → r < L → c < L → P (r * L + c)) → (v : ℕ) → v < L * L → P v
every_vertex L some P each v h = subst P (div-add-mod' v L) (each (row L v) (column L v) (row_less L v some h) (mod-lt v some))

pub every_edge : (n : ℕ) (P : ℕ → Type 0) → ((v : ℕ) → v < n → P (first_kind v)) → ((v : ℕ) → v < n → P (second_kind v))
    → (e : ℕ) → e < 2 * n → P e
every_edge n P first second e h =
    elim (ℕ_discrete (e % 2) 0) [
      | yes q ↦ let even : first_kind (e / 2) ≡ e = omega arith in subst P even (first (e / 2) (omega arith))
      | no q ↦ let odd : second_kind (e / 2) ≡ e = omega arith in subst P odd (second (e / 2) (omega arith))
    ]
