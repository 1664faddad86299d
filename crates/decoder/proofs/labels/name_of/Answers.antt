-- `name_of` meets its contract. Assumes nothing.
use mathlib.Core.Path.{sym, ap, ◌∙◌}
use native.Mathlib.Omega.{arith}
use Rattle.union_find.specs.Trees.{at}
use Rattle.union_find.proofs.Roots.{root_inside}
use Rattle.decoder.specs.Figures.{names_by}
use Rattle.decoder.proofs.NamesTold.{told_at}
use Rattle.decoder.proofs.labels.name_of.Goals as goal

pub name_at-requires : goal.name_at-requires
name_at-requires c =
    let pre = c.requires in
    let climbs = pre.nameable.rooted.climbs in
    omega (arith, c.root_of-root.ensures, root_inside climbs _ pre.vertex, climbs.limit)

pub returns : goal.returns
returns c =
    let pre = c.requires in
    let climbs = pre.nameable.rooted.climbs in
    let figure = c.args.figure.now in
    let is =
    c.name_at.ensures
    ∙ sym (told_at figure _ (omega (arith, c.root_of-root.ensures, root_inside climbs _ pre.vertex, climbs.limit)))
    ∙ ap (at (names_by figure)) c.root_of-root.ensures in
    record { is = is; small = omega (arith, is, pre.nameable.lows.below _ pre.vertex, climbs.limit, pre.vertex) }
