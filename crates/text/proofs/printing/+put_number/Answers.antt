-- `text::printing::put_number` meets its contract: one digit, or those of the tens and then the last one. Assumes nothing.
use Prim.Native.Nat.{ℕ, ◌+◌, ◌/◌, ◌%◌, ◌≤◌}
use mathlib.Core.Path.{◌≡◌, ap, ◌∙◌}
use mathlib.Core.List.{[], ◌∷◌}
use native.Mathlib.Omega.{arith}
use lib.ListN.{length, length-append}
use Rattle.model.specs.Text.{digit_zero, decimal}
use Rattle.theory.proofs.Decimals.{decimal_digit}
use Rattle.text.proofs.DecimalLaws.{decimal_step}
use Rattle.text.proofs.PutLaws.{then, put_one, long}
use Rattle.text.proofs.printing.+put_number.Goals as goal

-- one digit more than the tens have
one_more : (n : ℕ) → 10 ≤ n → length (decimal n) ≡ length (decimal (n / 10)) + 1
one_more n h = ap length (decimal_step n h) ∙ length-append (decimal (n / 10)) ((digit_zero + n % 10) ∷ [])

pub bounds-out-at : goal.bounds-out-at
bounds-out-at t c = let one = ap length (decimal_digit c.args.n c.if-n-lt10.true) in omega arith

pub returns-then-n-lt10 : goal.returns-then-n-lt10
returns-then-n-lt10 t c = rw (decimal_digit c.args.n c.if-n-lt10.true) (put_one (digit_zero + c.args.n) c.args.out.now c.args.at)

pub put_number-last-requires : goal.put_number-last-requires
put_number-last-requires t c = let more = one_more c.args.n c.if-n-lt10.false in (omega (arith, c.decreases), omega arith)

pub bounds-out-last : goal.bounds-out-last
bounds-out-last t c =
    let done = c.put_number-last.ensures in
    let more = one_more c.args.n c.if-n-lt10.false in
    omega (arith, done.position, long done)

pub overflow_add-result-2 : goal.overflow_add-result-2
overflow_add-result-2 t c =
    let done = c.put_number-last.ensures in
    let more = one_more c.args.n c.if-n-lt10.false in
    omega (arith, done.position)

pub returns : goal.returns
returns t c =
    let n = c.args.n in
    rw (decimal_step n c.if-n-lt10.false) (then c.put_number-last.ensures (put_one (digit_zero + n % 10) _ _))
