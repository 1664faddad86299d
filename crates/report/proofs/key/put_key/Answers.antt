-- `report::key::put_key` meets its contract: growths, correction edges, distance, one after the other. Assumes nothing.
use native.Mathlib.Omega.{arith}
use Rattle.text.proofs.PutLaws.{then, long}
use Rattle.report.proofs.ReportLineLaws.{fronts}
use Rattle.report.proofs.KeyLaws.{measured, key_room, key_short}
use Rattle.report.proofs.key.put_key.Goals as goal

pub put_line-correction_at-requires : goal.put_line-correction_at-requires
put_line-correction_at-requires c = omega (arith, key_room _ _ _ _ _ c.requires)

pub put_listed-distance_at-requires : goal.put_listed-distance_at-requires
put_listed-distance_at-requires c =
    let line = c.put_line-correction_at.ensures in
    omega (arith, key_room _ _ _ _ _ c.requires, line.position, long line)

pub put_distance-requires : goal.put_distance-requires
put_distance-requires c =
    let w = c.requires in
    let line = c.put_line-correction_at.ensures in
    let lines = c.put_listed-distance_at.ensures in
    rw (measured _ _ _ w.board w.shown_long c.distance.ensures.result)
    (omega (arith, key_room _ _ _ _ _ w, line.position, long line, lines.position, long lines))

pub returns : goal.returns
returns c =
    let w = c.requires in
    fronts
    (rw (← measured _ _ _ w.board w.shown_long c.distance.ensures.result)
    (then (then c.put_line-correction_at.ensures c.put_listed-distance_at.ensures) c.put_distance.ensures))
    (key_short _ _ _ _ _ w)
