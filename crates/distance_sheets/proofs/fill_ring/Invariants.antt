-- `distance_sheets::fill_ring` is safe and ends. The loop's invariant: v stays small. Assumes nothing.
use Rattle.std.proofs.Common.{◌≤◌}
use Rattle.distance_sheets.proofs.fill_ring.Given as goal

abbrev pub invariant-loop-pair : goal.invariant-loop-pair
invariant-loop-pair l = l.v ≤ 1025
