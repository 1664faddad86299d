-- `board::counts::check_counts` meets its contract: each return has the facts of the tests that led to it. Assumes nothing.
use borrow.Author.Tests.{ltb-true, ltb-false, le-leb, lt-leb, eq-eqb, ne_eqb, not-true, not-false}
use Rattle.board.proofs.counts.check_counts.Goals.{then-count-ne0-via-else-count-ne0+then-count-gt-ENDS, then-count-ne0-via-then-count-ne0, then-vertices-lt1-via-else-vertices-lt1+then-vertices-gt-VERTICES, then-vertices-lt1-via-then-vertices-lt1}
use Rattle.board.proofs.counts.check_counts.Goals as goal

pub returns-then-vertices-lt1 : goal.returns-then-vertices-lt1
returns-then-vertices-lt1 c = elim c.then-vertices-lt1.branch [ then-vertices-lt1-via-then-vertices-lt1 w ↦ rw (lt-leb _ _ w.if-vertices-lt1.true) | then-vertices-lt1-via-else-vertices-lt1+then-vertices-gt-VERTICES w ↦ rw (le-leb _ _ w.if-vertices-lt1.false, lt-leb _ _ (ltb-true _ _ w.if-vertices-gt-VERTICES.true-raw)) ]

pub returns-then-count-ne0 : goal.returns-then-count-ne0
returns-then-count-ne0 c = rw (le-leb _ _ c.if-vertices-lt1.false, le-leb _ _ (ltb-false _ _ c.if-vertices-gt-VERTICES.false-raw))
    (elim c.then-count-ne0.branch [ then-count-ne0-via-then-count-ne0 w ↦ rw (ne_eqb _ _ w.if-count-ne0.true) | then-count-ne0-via-else-count-ne0+then-count-gt-ENDS w ↦ rw (eq-eqb _ _ w.if-count-ne0.false, lt-leb _ _ (ltb-true _ _ w.if-count-gt-ENDS.true-raw)) ])

pub returns-then-not-fit : goal.returns-then-not-fit
returns-then-not-fit c = rw (
  le-leb _ _ c.if-vertices-lt1.false,
  le-leb _ _ (ltb-false _ _ c.if-vertices-gt-VERTICES.false-raw),
  eq-eqb _ _ c.if-count-ne0.false,
  le-leb _ _ (ltb-false _ _ c.if-count-gt-ENDS.false-raw),
  not-true c.args.fit c.if-not-fit.true-raw,
)

pub returns : goal.returns
returns c = rw (
  le-leb _ _ c.if-vertices-lt1.false,
  le-leb _ _ (ltb-false _ _ c.if-vertices-gt-VERTICES.false-raw),
  eq-eqb _ _ c.if-count-ne0.false,
  le-leb _ _ (ltb-false _ _ c.if-count-gt-ENDS.false-raw),
  not-false c.args.fit c.if-not-fit.false-raw,
)
