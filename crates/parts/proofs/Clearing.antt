-- The pass over the vertices: each open vertex clears the entry of its root. Assumes nothing.
use Prim.Native.Nat.{ℕ, ◌+◌, ◌<◌}
use mathlib.Core.Path.{◌≡◌, refl, sym, ap, ◌∙◌}
use mathlib.Core.Logic.{◌≢◌}
use mathlib.Core.Bool.{cond, or-false, or-true}
use mathlib.Core.List.{List}
use native.Mathlib.Decide.{ℕ_discrete}
use native.Mathlib.Numerals.{add-one}
use native.Mathlib.Omega.{arith}
use borrow.Author.Tests.{eq-eqb, ne_eqb}
use lib.ListN.{length, get_or, set, length-set}
use lib.Seq.{get_or-set_same, get_or-set_other}
use Rattle.model.specs.Sums.{some_up_to}
use Rattle.model.specs.Board.{vertex_limit}
use Rattle.union_find.specs.Trees.{root_of}
use Rattle.parts.specs.RootParities.{open_at_root, Cleared}

-- at first nothing is cleared
pub cleared_none : {parent opened odd : List ℕ} → length odd ≡ vertex_limit → Cleared 0 parent opened odd odd
unfolding some_up_to
cleared_none long = record { long = long; at = λ r h. refl }

-- an open vertex clears the entry of its root
pub cleared_one :
    {k r : ℕ} {parent opened odd odd' : List ℕ} → Cleared k parent opened odd odd' → get_or opened k 0 ≡ 1 → r ≡ root_of parent k
    → r < vertex_limit → Cleared (k + 1) parent opened odd (set odd' r 0)
unfolding some_up_to
cleared_one {k} {r} {parent} {opened} {odd} {odd'} w lit is-root inside =
    rw (add-one k)
    (record {
      long = length-set odd' r 0 ∙ w.long;
      at = λ x h. rw (eq-eqb _ _ lit, ← is-root) (elim (ℕ_discrete r x) [
        | yes q ↦
            rw (← q, eq-eqb r r refl, or-true (open_at_root k parent opened r)) (get_or-set_same odd' r 0 0 (omega (arith, w.long)))
        | no q ↦
            rw (ne_eqb r x q, or-false (open_at_root k parent opened x)) (get_or-set_other odd' r x 0 0 (λ e. q (sym e)) ∙ w.at x h)
      ]);
    })

-- any other vertex leaves them
pub cleared_pass :
    {k : ℕ} {parent opened odd odd' : List ℕ} → Cleared k parent opened odd odd' → get_or opened k 0 ≢ 1 → Cleared (k + 1) parent opened odd odd'
unfolding some_up_to
cleared_pass {k} {parent} {opened} {odd} w shut =
    rw (add-one k)
    (record {
      long = w.long;
      at = λ r h. w.at r h ∙ sym (rw (ne_eqb _ _ shut) (ap (λ t. cond t 0 (get_or odd r 0)) (or-false (open_at_root k parent opened r))));
    })
