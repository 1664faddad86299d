use mathlib.Core.Path.{◌≡◌, sym, ◌∙◌}
use native.Mathlib.Numerals.{add-one}
use native.Mathlib.Omega.{arith}
use lib.ListN.{length}
use Rattle.decoder.specs.Books.{BothKept}
use Rattle.decoder.proofs.BookLaws.{united_together}
use Rattle.decoder.proofs.Fusing.{both_rooted, both_named, joined_rings}
use Rattle.decoder.proofs.Gathering.{fresh_rings, gather_none, gather_kept, gather_full, gather_other, gather_all}
use Rattle.decoder.proofs.book.Book.gathered.Goals.{After-second_end-y, else-is_full, then-is_full+else-apart, then-is_full+then-apart}
use Rattle.decoder.proofs.book.Book.gathered.Goals as goal

-- the ends of the full edge are vertices of the book
kept : (c : After-second_end-y) → BothKept c.loop-e.book c.first_end-x.result.0 c.second_end-y.result.0
kept c =
    gather_kept _ _ _ _ _ _ _ c.requires _ c.fresh-book.ensures _ c.loop-e-test.true _ c.loop-e.invariant.0 _ _ c.first_end-x.ensures c.second_end-y.ensures

pub fresh-book-requires : goal.fresh-book-requires
fresh-book-requires c =
    let pre = c.requires in
    record { few = pre.lent.vertices_limited; open_bytes = pre.open_bytes; lit = pre.lit; counts_long = pre.counts.long }

pub loop-e-init : goal.loop-e-init
loop-e-init c = (gather_none _ _ _ _ _ _ _ c.requires _ c.fresh-book.ensures, fresh_rings _ _ _ _ _ _ _ c.requires _ c.fresh-book.ensures)

pub first_end-x-requires : goal.first_end-x-requires
first_end-x-requires c = omega (arith, c.loop-e-test.true, c.requires.lent.two_ends)

pub second_end-y-requires : goal.second_end-y-requires
second_end-y-requires c = omega (arith, c.loop-e-test.true, c.requires.lent.two_ends)

pub apart-requires : goal.apart-requires
apart-requires c = both_rooted _ _ _ (kept (goal.at.apart-requires c).After-second_end-y)

pub join_rings-requires : goal.join_rings-requires
join_rings-requires c = both_named _ _ _ (kept (goal.at.join_rings-requires c).After-second_end-y)

pub fuse-requires : goal.fuse-requires
fuse-requires c = kept (goal.at.fuse-requires c).After-second_end-y

pub loop-e-preserved : goal.loop-e-preserved
loop-e-preserved c =
    let fresh = c.fresh-book.ensures in
    let now = c.loop-e.invariant.0 in
    rw add-one
    (elim c.if-is_full.branch [
      | then-is_full+then-apart w ↦ rw (w.ring-is, w.book-is) (
        gather_full _ _ _ _ _ _ _ c.requires _ fresh _ c.loop-e-test.true _ now (sym c.is_full.ensures ∙ w.if-is_full.true) _ _
            w.first_end-x.ensures w.second_end-y.ensures _ w.fuse.ensures.unites,
        joined_rings _ _ _
            (gather_kept _ _ _ _ _ _ _ c.requires _ fresh _ c.loop-e-test.true _ now _ _ w.first_end-x.ensures w.second_end-y.ensures)
            _ w.apart.ensures w.if-apart.true _ _ _ w.join_rings.ensures _ w.fuse.ensures.unites c.loop-e.invariant.1,
      )
      | then-is_full+else-apart w ↦ rw (w.ring-is, w.book-is) (
        gather_full _ _ _ _ _ _ _ c.requires _ fresh _ c.loop-e-test.true _ now (sym c.is_full.ensures ∙ w.if-is_full.true) _ _
            w.first_end-x.ensures w.second_end-y.ensures _ (united_together c.loop-e.book _ _ _ now.good w.apart.ensures w.if-apart.false),
        c.loop-e.invariant.1,
      )
      | else-is_full w ↦ rw (w.ring-is, w.book-is) (
        gather_other _ _ _ _ _ _ _ c.requires _ fresh _ c.loop-e-test.true _ now (sym c.is_full.ensures ∙ w.if-is_full.false),
        c.loop-e.invariant.1,
      )
    ])

pub returns : goal.returns
returns c =
    let fresh = c.fresh-book.ensures in
    let p : c.loop-e.e ≡ length c.args.support.now = omega arith in
    record { book = gather_all _ _ _ _ _ _ _ c.requires _ fresh _ (rw p at c.loop-e.invariant.0); rings = c.loop-e.invariant.1 }
