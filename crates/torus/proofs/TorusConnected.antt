-- The torus is one part: from each vertex the edges of its row lead to column 0, and those of column 0 to row 0. So where there is no
-- correction vertex 0 is shown. Assumes nothing.
use Prim.Native.Nat.{ℕ, zero, suc, ◌+◌, ◌*◌, ◌%◌, ◌≤◌, ◌<◌}
use mathlib.Core.Path.{◌≡◌, refl, sym, ap, ◌∙◌}
use mathlib.Core.Bool.{true}
use mathlib.Core.Option.{some}
use native.Mathlib.Nat.{mod-eq_of_lt}
use native.Mathlib.Numerals.{add-one}
use native.Mathlib.Omega.{arith}
use Rattle.model.specs.Sums.{Set}
use Rattle.model.specs.Board.{edges}
use Rattle.model.specs.Decoding.{smallest_odd}
use Rattle.model.specs.Torus.{torus}
use Rattle.model.specs.Faces.{first_kind, second_kind}
use Rattle.theory.proofs.Connected.{Connected, along, back, chain, connected_equal}
use Rattle.theory.proofs.SmallestOdd.{smallest_odd_exactly, smallest_of_part}
use Rattle.torus.specs.Sides.{SideWithin}
use Rattle.torus.proofs.EveryEdge.{every_vertex}
use Rattle.torus.proofs.TorusRows.{edge_count, inside, first_from, first_to, second_from, second_to}
use Rattle.torus.proofs.TorusValid.{torus_valid}

module _ (L : ℕ) (side : 1 ≤ L) where
  -- u and v are connected on the torus
  abbrev Joined : ℕ → ℕ → Type 0
  Joined = Connected (torus L) (λ e. true) (edges (torus L))

  equal : {u v : ℕ} → u ≡ v → Joined u v
  equal = connected_equal (torus L) (λ e. true) (edges (torus L))

  -- to the column before, and to the row before
  to_the_left : (r c : ℕ) → r < L → suc c < L → Joined (r * L + suc c) (r * L + c)
  to_the_left r c in_row in_column =
      let here : c < L = omega arith in
      let e : first_kind (r * L + c) < edges (torus L) = omega (arith, edge_count L, inside L r c in_row here) in
      let to : r * L + (c + 1) % L ≡ r * L + suc c = ap (λ k. r * L + k) (ap (λ k. k % L) (add-one c) ∙ mod-eq_of_lt in_column) in
      back (chain (equal (sym (first_from L r c in_row here)))
      (chain (along (first_kind (r * L + c)) e refl) (equal (first_to L r c in_row here ∙ to))))

  upwards : (r c : ℕ) → suc r < L → c < L → Joined (suc r * L + c) (r * L + c)
  upwards r c in_row in_column =
      let here : r < L = omega arith in
      let e : second_kind (r * L + c) < edges (torus L) = omega (arith, edge_count L, inside L r c here in_column) in
      let to : (r + 1) % L * L + c ≡ suc r * L + c = ap (λ k. k * L + c) (ap (λ k. k % L) (add-one r) ∙ mod-eq_of_lt in_row) in
      back (chain (equal (sym (second_from L r c here in_column)))
      (chain (along (second_kind (r * L + c)) e refl) (equal (second_to L r c here in_column ∙ to))))

  to_vertex_0 : (r c : ℕ) → r < L → c < L → Joined (r * L + c) 0
  to_vertex_0 zero zero in_row in_column = equal (omega arith)
  to_vertex_0 (suc r) zero in_row in_column = chain (upwards r 0 in_row in_column) (to_vertex_0 r zero (omega arith) in_column)
  to_vertex_0 r (suc c) in_row in_column = chain (to_the_left r c in_row in_column) (to_vertex_0 r c in_row (omega arith))

  pub torus_connected : (v : ℕ) → v < L * L → Joined v 0
  torus_connected = every_vertex L side (λ v. Joined v 0) to_vertex_0

-- Theorem: number 10 shows vertex 0.
pub torus_shows_0 : (L : ℕ) → SideWithin L → (S : Set) (v : ℕ) → smallest_odd (torus L) S ≡ some v → v ≡ 0
unfolding torus
torus_shows_0 L w S v p =
    let less = ((smallest_odd_exactly (torus L) S v).0 p).less in
    let least = (smallest_of_part (torus L) (torus_valid L w).inside S v p).least in
    omega (arith, least 0 (torus_connected L w.least v less))
