use Prim.Native.Nat.{◌+◌, ◌≤◌}
use mathlib.Core.Path.{sym}
use native.Mathlib.Omega.{arith}
use Rattle.decoder.specs.Choices.{block_length}
use Rattle.decoder.proofs.Choosing.{Looked, best_taken, best_kept, best_none, best_chosen}
use Rattle.decoder.proofs.choice.choose.Goals.{Left-loop-from, else-loop-from-test, then-loop-from-test+else-vertices-from-gt64, else-smallest-least, then-smallest-least}
use Rattle.decoder.proofs.choice.choose.Goals as goal

-- the loop ends where it begins, or after a block behind which there is none
looked : (c : Left-loop-from) → Looked c.args.vertices c.args.figure.now c.loop-from-test.least c.loop-from-test.block
looked c =
    elim c.loop-from-test.branch [
      | else-loop-from-test w ↦ rw (w.least-is, w.block-is) (record { from = c.loop-from.from; all = w.loop-from-test.false; best = c.loop-from.invariant })
      | then-loop-from-test+else-vertices-from-gt64 w ↦
          let all : c.args.vertices ≤ c.loop-from.from + block_length = omega arith in
          elim w.if-smallest-least.branch [
            | then-smallest-least z ↦ rw (w.least-is, w.block-is, z.least-is, z.block-is) (record {
              from = c.loop-from.from + block_length;
              all = all;
              best = best_taken _ _ c.requires _ _ _ c.loop-from.invariant w.loop-from-test.true _ w.smallest_in-smallest.ensures z.if-smallest-least.true;
            })
            | else-smallest-least z ↦ rw (w.least-is, w.block-is, z.least-is, z.block-is) (record {
              from = c.loop-from.from + block_length;
              all = all;
              best = best_kept _ _ c.requires _ _ _ c.loop-from.invariant w.loop-from-test.true _ w.smallest_in-smallest.ensures z.if-smallest-least.false;
            })
          ]
    ]

pub returns-then-least-eq-EVEN : goal.returns-then-least-eq-EVEN
returns-then-least-eq-EVEN c =
    let x = looked (goal.at.returns-then-least-eq-EVEN c).Left-loop-from in
    sym (best_none _ _ c.requires _ _ _ x.best x.all c.if-least-eq-EVEN.true)

pub returns : goal.returns
returns c =
    let x = looked (goal.at.returns c).Left-loop-from in
    sym (best_chosen _ _ c.requires _ _ _ x.best x.all c.if-least-eq-EVEN.false _ c.first_equal-chosen.ensures)
