-- One turn of the tally. Assumes nothing.
use Prim.Native.Nat.{ℕ, suc, ◌+◌, ◌≤◌, ◌<◌}
use mathlib.Core.Path.{◌≡◌, refl, ◌∙◌}
use mathlib.Core.Bool.{Bool, true, false, cond, ◌&&◌}
use mathlib.Core.List.{List}
use native.Mathlib.Omega.{arith}
use lib.ListN.{get_or, set, replicate, length-set, length-replicate, get_or-replicate}
use lib.Dec.{eqb}
use borrow.Author.Tests.{eqb-true, eq-eqb, ne_eqb}
use Rattle.model.specs.Sums.{bit, ones, count_up_to}
use Rattle.model.specs.Board.{vertex_limit}
use Rattle.model.specs.Components.{label, within}
use Rattle.model.proofs.SumLaws.{count_bound}
use Rattle.decoder.specs.Tallies.{Tallies}
use Rattle.model.proofs.ListLaws.{get_d_set}

pub tally_none : (labels members : List ℕ) (n : ℕ) → n ≡ vertex_limit → Tallies 0 labels members (replicate n 0)
unfolding count_up_to
tally_none labels members n p = record { long = length-replicate n 0 ∙ p; at = λ a h. get_or-replicate n a 0 0 (omega arith) }

-- no count is above the number of vertices
pub tally_bound : {k : ℕ} {labels members l : List ℕ} → Tallies k labels members l → (a : ℕ) → a < vertex_limit → get_or l a 0 ≤ k
tally_bound {k} {labels} {members} t a h = rw (t.at a h) (count_bound k (λ v. ones members v && within labels a v))

-- a member adds one to its label's count
pub tally_member : (k : ℕ) (labels members l : List ℕ) → label labels k < vertex_limit → get_or members k 0 ≡ 1 → Tallies k labels members l
    → Tallies (suc k) labels members (set l (label labels k) (get_or l (label labels k) 0 + 1))
unfolding count_up_to
tally_member k labels members l h p before =
    record {
      long = simp length-set before.long;
      at = λ a i. rw (get_d_set l (label labels k) a (get_or l (label labels k) 0 + 1) 0 (omega arith), eq-eqb _ _ p) (go a i (eqb (label labels k) a) refl);
    }
  where
    go : (a : ℕ) → a < vertex_limit → (t : Bool) → eqb (label labels k) a ≡ t
        → cond t (get_or l (label labels k) 0 + 1) (get_or l a 0) ≡ count_up_to k (λ v. ones members v && within labels a v) + bit t
    go a i true q = rw (eqb-true (label labels k) a q, before.at a i)
    go a i false q = before.at a i ∙ omega arith

-- others add nothing
pub tally_other : (k : ℕ) (labels members l : List ℕ) → (get_or members k 0 ≡ 1 → ⊥) → Tallies k labels members l → Tallies (suc k) labels members l
unfolding count_up_to
tally_other k labels members l p before =
    record { long = before.long; at = λ a h. rw (ne_eqb _ _ p) (before.at a h ∙ omega arith) }
