use Prim.Native.Nat.{ℕ, ◌+◌, ◌*◌, ◌<◌}
use mathlib.Core.Path.{◌≡◌, sym, ap}
use native.Mathlib.Numerals.{add-one}
use native.Mathlib.Omega.{arith}
use lib.ListN.{length, get_or, take}
use Rattle.decoder.specs.declared.book.Book.{Book}
use Rattle.decoder.specs.Books.{BothKept}
use Rattle.decoder.proofs.BookLaws.{united_together}
use Rattle.decoder.proofs.Fusing.{fuse_next, both_rooted, both_named, joined_rings}
use Rattle.decoder.proofs.GrowthStep.{raisable, few_listed, edges_listed, growable_listed, shut_begins, shut_rings, next_kept, grows}
use Rattle.decoder.proofs.book.Book.grow.Invariants.{made}
use Rattle.decoder.proofs.book.Book.grow.Goals.{In-loop-number, After-second_end-b, else-apart, then-apart}
use Rattle.decoder.proofs.book.Book.grow.Goals as goal

-- a book with its own number of vertices is that book
with-count : (b : Book) (n : ℕ) → b.vertices ≡ n → made n b.tree b.figure ≡ b
with-count b n q = ap (λ k. made k b.tree b.figure) (sym q)

-- the next listed edge is one
inside : (c : In-loop-number)
    → 2 * get_or (take c.raise-count.result c.raise-count.new.filled) c.loop-number.number-index 0 + 1 < length c.args.ends.now
inside c = omega (arith, edges_listed c.args.self _ _ _ _ _ _ _ _ c.requires _ c.raise-count.new.ring c.raise-count.new.support c.raise-count.new.filled c.raise-count.ensures _ c.loop-number-test.true, c.requires.lent.two_ends)

-- its ends are vertices of the book
kept : (c : After-second_end-b) → BothKept (made c.args.self.vertices c.loop-number.tree c.loop-number.figure) c.first_end-a.result.0 c.second_end-b.result.0
kept c = next_kept c.args.self _ _ _ _ _ _ _ _ c.requires _ c.raise-count.new.ring c.raise-count.new.support c.raise-count.new.filled c.raise-count.ensures
    c.shut_listed.new.exposure c.shut_listed.new.figure c.shut_listed.ensures _ _ c.loop-number.invariant.0 c.loop-number-test.true _ _ c.first_end-a.ensures c.second_end-b.ensures

pub raise-count-requires : goal.raise-count-requires
raise-count-requires c = raisable c.args.self _ _ _ _ _ _ _ _ c.requires

pub shared_ref_as_front-listed : goal.shared_ref_as_front-listed
shared_ref_as_front-listed c = few_listed c.args.self _ _ _ _ _ _ _ _ c.requires _ c.raise-count.new.ring c.raise-count.new.support c.raise-count.new.filled c.raise-count.ensures

pub shut_listed-requires : goal.shut_listed-requires
shut_listed-requires c = growable_listed c.args.self _ _ _ _ _ _ _ _ c.requires _ c.raise-count.new.ring c.raise-count.new.support c.raise-count.new.filled c.raise-count.ensures

pub loop-number-init : goal.loop-number-init
loop-number-init c = (
  shut_begins c.args.self _ _ _ _ _ _ _ _ c.requires _ c.raise-count.new.ring c.raise-count.new.support c.raise-count.new.filled c.raise-count.ensures
      c.shut_listed.new.exposure c.shut_listed.new.figure c.shut_listed.ensures,
  shut_rings c.args.self _ _ _ _ _ _ _ _ c.requires _ c.raise-count.new.ring c.raise-count.new.support c.raise-count.new.filled c.raise-count.ensures
      c.shut_listed.new.exposure c.shut_listed.new.figure c.shut_listed.ensures,
)

pub first_end-a-requires : goal.first_end-a-requires
first_end-a-requires c = inside (goal.at.first_end-a-requires c).In-loop-number

pub second_end-b-requires : goal.second_end-b-requires
second_end-b-requires c = inside (goal.at.second_end-b-requires c).In-loop-number

pub apart-requires : goal.apart-requires
apart-requires c = both_rooted _ _ _ (kept (goal.at.apart-requires c).After-second_end-b)

pub join_rings-requires : goal.join_rings-requires
join_rings-requires c = both_named _ _ _ (kept (goal.at.join_rings-requires c).After-second_end-b)

pub fuse-requires : goal.fuse-requires
fuse-requires c = kept (goal.at.fuse-requires c).After-second_end-b

pub loop-number-preserved : goal.loop-number-preserved
loop-number-preserved c =
    let now = c.loop-number.invariant.0 in
    rw add-one
    (elim c.if-apart.branch [
      | then-apart w ↦ let unites = w.fuse.ensures.unites in
          let same = with-count w.fuse.result.book _ unites.vertices in
          rw (w.ring-is, w.tree-is, w.figure-is) (
            rw same (fuse_next _ _ _ _ _ now _ _ _ c.first_end-a.ensures c.second_end-b.ensures unites),
            rw (sym unites.vertices) (joined_rings _ _ _ (kept (goal.at.loop-number-preserved c).After-second_end-b) _ c.apart.ensures w.if-apart.true
                _ _ _ w.join_rings.ensures _ unites c.loop-number.invariant.1),
          )
      | else-apart w ↦ rw (w.ring-is, w.tree-is, w.figure-is) (
        fuse_next _ _ _ _ _ now _ _ _ c.first_end-a.ensures c.second_end-b.ensures
            (united_together (made c.args.self.vertices c.loop-number.tree c.loop-number.figure) _ _ _ now.good c.apart.ensures w.if-apart.false),
        c.loop-number.invariant.1,
      )
    ])

pub returns : goal.returns
returns c =
    let p : c.loop-number.number-index ≡ length (take c.raise-count.result c.raise-count.new.filled) = omega arith in
    grows c.args.self _ _ _ _ _ _ _ _ c.requires _ c.raise-count.new.ring c.raise-count.new.support c.raise-count.new.filled c.raise-count.ensures
    c.shut_listed.new.exposure c.shut_listed.new.figure c.shut_listed.ensures _ _ (rw p at c.loop-number.invariant.0) c.loop-number.invariant.1
