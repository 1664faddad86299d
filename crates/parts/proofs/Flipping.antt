-- The pass over the vertices: each syndrome vertex flips its root's parity. Assumes nothing.
use Prim.Native.Nat.{ℕ, ◌+◌, ◌-◌, ◌<◌}
use mathlib.Core.Path.{◌≡◌, refl, sym, ap, ◌∙◌}
use mathlib.Core.Logic.{◌≢◌}
use mathlib.Core.List.{List}
use native.Mathlib.Decide.{ℕ_discrete}
use native.Mathlib.Numerals.{add-one}
use native.Mathlib.Omega.{arith}
use borrow.Author.Tests.{eq-eqb, ne_eqb}
use lib.ListN.{get_or, set, replicate, length-set, length-replicate, get_or-replicate}
use lib.Seq.{get_or-set_same, get_or-set_other}
use Rattle.model.specs.Sums.{bit, odd_up_to}
use Rattle.model.specs.Board.{vertex_limit}
use Rattle.model.proofs.Xor.{xor_false}
use Rattle.model.proofs.Bits.{bit_flip}
use Rattle.union_find.specs.Trees.{root_of}
use Rattle.parts.specs.RootParities.{odd_at_root, Parities}

-- at first every parity is even
pub parities_none : {parent syndrome : List ℕ} (m : ℕ) → m ≡ vertex_limit → Parities 0 parent syndrome (replicate m 0)
unfolding odd_up_to
parities_none m long =
    record { long = length-replicate m 0 ∙ long; at = λ r h. get_or-replicate m r 0 0 (omega arith) }

-- a syndrome vertex flips the parity at its root
pub parities_flip :
    {k r : ℕ} {parent syndrome odd : List ℕ} → Parities k parent syndrome odd → get_or syndrome k 0 ≡ 1 → r ≡ root_of parent k
    → r < vertex_limit → Parities (k + 1) parent syndrome (set odd r (1 - get_or odd r 0))
unfolding odd_up_to
parities_flip {k} {r} {parent} {syndrome} {odd} w lit is-root inside =
    let new = 1 - get_or odd r 0 in
    rw (add-one k)
    (record {
      long = length-set odd r new ∙ w.long;
      at = λ x h. rw (eq-eqb _ _ lit, ← is-root) (elim (ℕ_discrete r x) [
        | yes q ↦
            rw (← q, eq-eqb r r refl)
            (get_or-set_same odd r new 0 (omega (arith, w.long)) ∙ ap (λ y. 1 - y) (w.at r inside) ∙ bit_flip (odd_at_root k parent syndrome r))
        | no q ↦
            rw (ne_eqb r x q)
            (get_or-set_other odd r x new 0 (λ e. q (sym e)) ∙ w.at x h ∙ ap bit (sym (xor_false (odd_at_root k parent syndrome x))))
      ]);
    })

-- any other vertex leaves them
pub parities_pass :
    {k : ℕ} {parent syndrome odd : List ℕ} → Parities k parent syndrome odd → get_or syndrome k 0 ≢ 1 → Parities (k + 1) parent syndrome odd
unfolding odd_up_to
parities_pass {k} {parent} {syndrome} {odd} w dark =
    rw (add-one k)
    (record {
      long = w.long;
      at = λ r h. w.at r h ∙ sym (rw (ne_eqb _ _ dark) (ap bit (xor_false (odd_at_root k parent syndrome r))));
    })
