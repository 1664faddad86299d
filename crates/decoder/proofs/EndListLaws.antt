-- The lists of ends, one for each vertex: what stands at their heads, and one end listed after the other. Assumes nothing.
use Prim.Native.Nat.{ℕ, zero, suc, ◌*◌, ◌≤◌, ◌<◌}
use mathlib.Core.Path.{◌≡◌, refl, sym, ◌∙◌}
use mathlib.Core.Logic.{◌≢◌}
use mathlib.Core.Bool.{Bool, true, false, cond}
use mathlib.Core.List.{List}
use native.Mathlib.Nat.{not-suc-le-zero, le_refl, suc-ne-zero}
use native.Mathlib.Decide.{ℕ_discrete}
use native.Mathlib.Omega.{arith}
use borrow.Author.Tests.{eqb-true, eqb-false, eq-eqb, ne_eqb}
use lib.ListN.{get_or, set, length-set}
use lib.Seq.{get_or-set_same, get_or-set_other}
use lib.Dec.{eqb}
use Rattle.model.specs.Board.{vertex_limit, edge_limit}
use Rattle.model.proofs.SumLaws.{below_suc}
use Rattle.union_find.specs.Trees.{at}
use Rattle.decoder.specs.EndLists.{latest_end, Unlisted, ListedUpTo}

-- The last end at a vertex

-- it is the last of the first i + 1 ends, or the last of the first i
latest_here : (ends : List ℕ) (v i : ℕ) → get_or ends i 0 ≡ v → latest_end ends v (suc i) ≡ suc i
unfolding latest_end
latest_here ends v i p = rw (eq-eqb (get_or ends i 0) v p)

latest_passed : (ends : List ℕ) (v i : ℕ) → get_or ends i 0 ≢ v → latest_end ends v (suc i) ≡ latest_end ends v i
unfolding latest_end
latest_passed ends v i p = rw (ne_eqb (get_or ends i 0) v p)

pub latest_bound : (ends : List ℕ) (v k : ℕ) → latest_end ends v k ≤ k
unfolding latest_end
latest_bound ends v zero = le_refl _
latest_bound ends v (suc k) = go (latest_bound ends v k) (eqb (get_or ends k 0) v)
  where
    go : latest_end ends v k ≤ k → (t : Bool) → cond t (suc k) (latest_end ends v k) ≤ suc k
    go h true = le_refl _
    go h false = omega arith

-- where there is one, it is at v
pub latest_at : (ends : List ℕ) (v k i : ℕ) → latest_end ends v k ≡ suc i → get_or ends i 0 ≡ v
unfolding latest_end
latest_at ends v zero i p = absurd (suc-ne-zero i (sym p))
latest_at ends v (suc k) i p = go (latest_at ends v k i) (eqb (get_or ends k 0) v) refl p
  where
    go : (latest_end ends v k ≡ suc i → get_or ends i 0 ≡ v) → (t : Bool) → eqb (get_or ends k 0) v ≡ t → cond t (suc k) (latest_end ends v k) ≡ suc i
        → get_or ends i 0 ≡ v
    go earlier true q r = let same : i ≡ k = omega arith in rw same (eqb-true (get_or ends k 0) v q)
    go earlier false q r = earlier r

-- behind it there is none
pub latest_after : (ends : List ℕ) (v k j : ℕ) → latest_end ends v k ≤ j → j < k → get_or ends j 0 ≢ v
unfolding latest_end
latest_after ends v zero j h l = absurd (not-suc-le-zero l)
latest_after ends v (suc k) j h l = go (latest_after ends v k j) (eqb (get_or ends k 0) v) refl h
  where
    go : (latest_end ends v k ≤ j → j < k → get_or ends j 0 ≢ v) → (t : Bool) → eqb (get_or ends k 0) v ≡ t → cond t (suc k) (latest_end ends v k) ≤ j
        → get_or ends j 0 ≢ v
    go earlier true q r = λ e. omega arith
    go earlier false q r = below_suc k j l (earlier r) (λ e. rw e (eqb-false (get_or ends k 0) v q))

-- One end after the other

pub list_none : (ends : List ℕ) {latest earlier : List ℕ} → Unlisted latest earlier → ListedUpTo 0 ends latest earlier
unfolding latest_end
list_none ends w =
    record { latest_long = w.latest_long; earlier_long = w.earlier_long; last = w.none; before = λ i h. absurd (not-suc-le-zero h) }

-- end i becomes the head of its vertex's list
pub list_one : (i : ℕ) (ends latest earlier : List ℕ) → i < 2 * edge_limit → get_or ends i 0 < vertex_limit → ListedUpTo i ends latest earlier
    → ListedUpTo (suc i) ends (set latest (get_or ends i 0) (suc i)) (set earlier i (at latest (get_or ends i 0)))
list_one i ends latest earlier room inside w =
    record {
      latest_long = simp length-set w.latest_long;
      earlier_long = simp length-set w.earlier_long;
      last = λ u h. elim (ℕ_discrete v u) [
        | yes q ↦ rw (sym q) (get_or-set_same latest v (suc i) 0 (omega (arith, w.latest_long)) ∙ sym (latest_here ends v i refl))
        | no q ↦ get_or-set_other latest v u (suc i) 0 (λ r. q (sym r)) ∙ w.last u h ∙ sym (latest_passed ends u i q)
      ];
      before = λ j h. below_suc i j h
          (λ l. get_or-set_other earlier i j (at latest v) 0 (λ q. omega arith) ∙ w.before j l)
          (λ q. rw q (get_or-set_same earlier i (at latest v) 0 (omega (arith, w.earlier_long)) ∙ w.last v inside));
    }
  where
    v : ℕ
    v = get_or ends i 0
