use Prim.Native.Nat.{ℕ, ◌*◌, ◌<◌}
use mathlib.Core.Path.{refl}
use native.Mathlib.Numerals.{add-one}
use native.Mathlib.Omega.{arith}
use lib.ListN.{length, length-replicate}
use Rattle.model.specs.Board.{vertex_limit, edge_limit}
use Rattle.decoder.proofs.EndCounts.{ends_none}
use Rattle.decoder.proofs.RunLaws.{none_listed, listable, countable, run_begins, run_done, growths_left, growable, run_more}
use Rattle.decoder.proofs.growth.run.Goals as goal

pub count_ends-requires : goal.count_ends-requires
count_ends-requires c = record { ends_within = countable c.args.growth _ _ _ _ _ _ c.requires _ c.lose.ensures; exposures = ends_none _ _ vertex_limit refl }

pub list-requires : goal.list-requires
list-requires c = record { ends_within = listable c.args.growth _ _ _ _ _ _ c.requires; unlisted = none_listed }

pub loop-growing-init : goal.loop-growing-init
loop-growing-init c = (
  length-replicate {A = ℕ} edge_limit 0,
  run_begins c.args.growth _ _ _ _ _ _ c.requires _ c.lose.ensures _ c.count_ends.ensures _ _ c.gathered-book.ensures,
)

pub grow-grown-requires : goal.grow-grown-requires
grow-grown-requires c = growable _ _ _ _ _ _ _ c.requires _ _ _ _ _ c.loop-growing.invariant.1 _ c.in-Some.ensures _ _ _
    c.list.ensures c.loop-growing.invariant.0

pub loop-growing-smaller : goal.loop-growing-smaller
loop-growing-smaller c =
    let more : c.loop-growing.count < 2 * length c.args.sheet.loss.now =
    growths_left _ _ _ _ _ _ _ c.requires _ _ _ _ _ c.loop-growing.invariant.1 _ c.in-Some.ensures in
    omega (arith, more)

pub loop-growing-preserved : goal.loop-growing-preserved
loop-growing-preserved c = (
  c.grow-grown.ensures.room,
  rw add-one
      (run_more _ _ _ _ _ _ _ c.requires _ _ _ _ _ c.loop-growing.invariant.1 _ c.in-Some.ensures _ _ _ _ _ c.grow-grown.ensures),
)

pub returns : goal.returns
returns c = run_done _ _ _ _ _ _ _ c.requires _ _ _ _ _ c.loop-growing.invariant.1 c.in_default.ensures
