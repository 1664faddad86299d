-- How large the values of an answer are. Assumes nothing.
use Prim.Native.Nat.{ℕ, ◌+◌, ◌*◌, ◌≤◌, ◌<◌}
use mathlib.Core.Path.{◌≡◌}
use mathlib.Core.Bool.{Bool, ◌&&◌}
use mathlib.Core.List.{List}
use mathlib.Core.Option.{some}
use native.Mathlib.Omega.{arith}
use Rattle.model.specs.Sums.{Set, bit, ones, odd_up_to}
use Rattle.model.specs.Board.{Board, Sheet, edges}
use Rattle.model.specs.Winding.{crosses_a, crosses_b, crossings, winds, size}
use Rattle.model.specs.Growth.{Policy}
use Rattle.model.specs.Decoding.{grown_by}
use Rattle.model.specs.Verdict.{differs}
use Rattle.model.specs.Distance.{fewest_where, fewest}
use Rattle.model.specs.Traps.{traps, fewest_trap}
use Rattle.model.proofs.Bits.{bit_bound}
use Rattle.model.proofs.SumLaws.{count_bound, first_found}
use Rattle.theory.proofs.GrowthRun.{grown_ends}
use Rattle.theory.proofs.FewestSets.{where_reached}

-- Decoding, by weighted growth or in rounds

-- at most twice for each edge
pub count_limit : (policy : Board → Set → Policy) (X : Sheet) → (grown_by policy X).count ≤ 2 * edges X.board
unfolding grown_by
count_limit policy X = omega (arith, (grown_ends X.board (policy X.board (ones X.syndrome)) (ones X.loss)).few)

pub size_bound : (B : Board) (D : Set) → size B D ≤ edges B
size_bound B D = count_bound (edges B) D

-- The verdict

pub differs_bound : (B : Board) (S H : Set) (v : ℕ) → differs B S H ≡ some v → v < B.vertices
unfolding differs
differs_bound B S H v p = (first_found B.vertices _ v p).less

pub crossings_bound : (B : Board) (D : Set) → crossings B D ≤ 3
unfolding crossings
crossings_bound B D =
    two_bits (odd_up_to (edges B) (λ e. D e && crosses_a B e)) (odd_up_to (edges B) (λ e. D e && crosses_b B e))
  where
    two_bits : (a b : Bool) → bit a + 2 * bit b ≤ 3
    two_bits a b = omega (arith, bit_bound a, bit_bound b)

-- The distance and the fewest edges of a trap

where_bound : (B : Board) (P : Set → Bool) (d : ℕ) → fewest_where B P ≡ some d → d ≤ edges B
where_bound B P d p =
    let member = where_reached B P d p in
    omega (arith, size_bound B member.set, member.count)

pub fewest_bound : (B : Board) (d : ℕ) → fewest B ≡ some d → d ≤ edges B
unfolding fewest
fewest_bound B d p = where_bound B (winds B) d p

pub trap_bound : (B : Board) (loss : List ℕ) (k : ℕ) → fewest_trap B loss ≡ some k → k ≤ edges B
unfolding fewest_trap
trap_bound B loss k p = where_bound B (traps B loss) k p
