use mathlib.Core.Path.{◌≡◌, ap, ◌∙◌}
use native.Mathlib.Omega.{arith}
use borrow.Author.Tests.{eq-eqb, ne_eqb}
use lib.ListN.{length}
use Rattle.model.specs.Sums.{count_up_to}
use Rattle.model.proofs.SumLaws.{count_bound}
use Rattle.model.proofs.CountLaws.{count_in, count_out}
use Rattle.board.proofs.counting.count.Invariants.{valued}
use Rattle.board.proofs.counting.count.Goals.{else-byte-value, then-byte-value}
use Rattle.board.proofs.counting.count.Goals as goal

pub loop-byte-init : goal.loop-byte-init
unfolding count_up_to
loop-byte-init c = omega arith

pub overflow_add-total : goal.overflow_add-total
overflow_add-total c =
    let a = c.args in
    record { fits = omega (arith, c.loop-byte.invariant, count_bound c.loop-byte.byte-index (valued a.bytes.now a.value)) }

pub loop-byte-preserved : goal.loop-byte-preserved
loop-byte-preserved c =
    let i = c.loop-byte.byte-index in
    let f = valued c.args.bytes.now c.args.value in
    elim c.if-byte-value.branch [ then-byte-value w ↦ omega (arith, w.total-is, c.loop-byte.invariant, count_in i f (eq-eqb _ _ w.if-byte-value.true)) | else-byte-value w ↦ omega (arith, w.total-is, c.loop-byte.invariant, count_out i f (ne_eqb _ _ w.if-byte-value.false)) ]

pub returns : goal.returns
returns c =
    let a = c.args in
    let all : c.loop-byte.byte-index ≡ length a.bytes.now = omega arith in
    c.loop-byte.invariant ∙ ap (λ n. count_up_to n (valued a.bytes.now a.value)) all
