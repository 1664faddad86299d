-- The argument's books on the clusters: every vertex has a reach and a credit, and any two vertices of one cluster are joined by a walk
-- that their cluster's credit pays for. A potential says, for each line, how often such a walk crosses it, modulo 2.
-- Assumes nothing.
use Prim.Native.Nat.{ℕ, ◌+◌, ◌*◌, ◌≤◌, ◌<◌}
use mathlib.Core.Path.{◌≡◌, refl, sym, ap, ap₂, ◌∙◌}
use mathlib.Core.Bool.{Bool, true, false, cond}
use mathlib.Core.List.{List, [], ◌∷◌, ◌++◌}
use native.Mathlib.Nat.{le_refl}
use native.Mathlib.Omega.{arith}
use borrow.Author.Tests.{eqb-true, eq-eqb}
use lib.ListN.{length, length-append}
use lib.Dec.{eqb}
use Rattle.model.specs.Sums.{Set, ◌⊕◌, bit}
use Rattle.model.specs.Board.{Board, edges, first_end, second_end}
use Rattle.theory.proofs.Totals.{sum_up_to, sum_mono, sum_add, sum_zero, only, sum_only}
use Rattle.theory.proofs.CrossedLines.{Line, crosses}
use Rattle.theory.proofs.Walks.{Along, Walk, stop, step, append, odd_along_append, walk_crosses}
use Rattle.theory.proofs.Potentials.{difference}

-- each vertex's cluster, by a label, and a potential for each line
pub record Clustering : Type 0 where
  pub cluster : ℕ → ℕ
  pub potential : Line → Set

-- edge e lies inside a cluster, and the potentials fit it
pub record Settled (B : Board) (K : Clustering) (e : ℕ) : Type 0 where
  pub inside : K.cluster (first_end B e) ≡ K.cluster (second_end B e)
  pub fits : (x : Line) → crosses B x e ≡ difference B (K.potential x) e

-- a walk from u to v that c pays for: twice its length and the reach of its two ends are at most twice c; m says which lines it
-- crosses an odd number of times
pub record Paid (B : Board) (reach : ℕ → ℕ) (c u v : ℕ) (m : Line → Bool) : Type 0 where
  pub route : List ℕ
  pub walk : Walk B u route v
  pub short : 2 * length route + reach u + reach v ≤ 2 * c
  pub crossing : (x : Line) → walk_crosses B x route ≡ m x

-- what vertex v adds to the cluster labelled k
abbrev pub share : Clustering → (ℕ → ℕ) → ℕ → ℕ → ℕ
share K credit k v = cond (eqb (K.cluster v) k) (credit v) 0

-- the credit of the cluster labelled k, and of all clusters
unfoldable pub worth : Board → Clustering → (ℕ → ℕ) → ℕ → ℕ
worth B K credit k = sum_up_to B.vertices (share K credit k)

unfoldable pub total : Board → (ℕ → ℕ) → ℕ
total B credit = sum_up_to B.vertices credit

-- the books balance: within each cluster every walk is paid for
pub record Balanced (B : Board) (K : Clustering) (reach credit : ℕ → ℕ) : Type 0 where
  pub paid : (u v : ℕ) → u < B.vertices → v < B.vertices → K.cluster u ≡ K.cluster v
      → Paid B reach (worth B K credit (K.cluster u)) u v (λ x. K.potential x u ⊕ K.potential x v)

-- more credit pays too
pub paid_more : {B : Board} {reach : ℕ → ℕ} {c d u v : ℕ} {m n : Line → Bool} → Paid B reach c u v m
    → c ≤ d → ((x : Line) → m x ≡ n x) → Paid B reach d u v n
paid_more p less same =
    record { route = p.route; walk = p.walk; short = omega arith; crossing = λ x. p.crossing x ∙ same x }

-- two walks with edge e between them
pub paid_through : {B : Board} {reach : ℕ → ℕ} {b c e u p q v : ℕ} {m n : Line → Bool}
    → (d : ℕ) → Paid B reach b u p m → e < edges B → Along B e p q → 2 ≤ 2 * d + reach p + reach q → Paid B reach c q v n
    → Paid B reach (b + c + d) u v (λ x. m x ⊕ (crosses B x e ⊕ n x))
paid_through {B} {e = e} d one h a enough two =
    record {
      route = one.route ++ (e ∷ two.route);
      walk = append one.walk (step h a two.walk);
      short = omega (arith, length-append one.route (e ∷ two.route));
      crossing = λ x.
          odd_along_append (crosses B x) one.route (e ∷ two.route)
          ∙ ap₂ (λ y z. y ⊕ (crosses B x e ⊕ z)) (one.crossing x) (two.crossing x);
    }

-- a cluster has at most all the credit
pub worth_bound : (B : Board) (K : Clustering) (credit : ℕ → ℕ) (k : ℕ) → worth B K credit k ≤ total B credit
unfolding worth total
worth_bound B K credit k =
    sum_mono B.vertices (share K credit k) credit (λ v h. part (eqb (K.cluster v) k) (credit v))
  where
    part : (t : Bool) (c : ℕ) → cond t c 0 ≤ c
    part true c = le_refl _
    part false c = omega arith

-- at the start every vertex is a cluster of its own, and nothing is reached or owned
abbrev pub apart : Clustering
apart = record { cluster = λ v. v; potential = λ x v. false }

pub apart_balanced : (B : Board) → Balanced B apart (λ v. 0) (λ v. 0)
apart_balanced B = record { paid = λ u v h k same. rw (sym same) (alone u) }
  where
    alone : (u : ℕ) → Paid B (λ v. 0) (worth B apart (λ v. 0) u) u u (λ x. false)
    alone u = record { route = []; walk = stop; short = omega arith; crossing = λ x. refl }

pub total_zero : (B : Board) → total B (λ v. 0) ≡ 0
unfolding total
total_zero B = sum_zero B.vertices

-- d more credit at vertex x
abbrev pub raised : (ℕ → ℕ) → ℕ → ℕ → ℕ → ℕ
raised credit x d v = credit v + only x d v

pub raised_total : (B : Board) (credit : ℕ → ℕ) (x d : ℕ) → x < B.vertices → total B (raised credit x d) ≡ total B credit + d
unfolding total
raised_total B credit x d h =
    sum_add B.vertices credit (only x d) ∙ ap (λ y. sum_up_to B.vertices credit + y) (sum_only B.vertices x d h)

-- a cluster's credit rises with that of its vertices
pub worth_raised : (B : Board) (K : Clustering) (credit : ℕ → ℕ) (x d k : ℕ) → x < B.vertices
    → worth B K credit k + cond (eqb (K.cluster x) k) d 0 ≤ worth B K (raised credit x d) k
unfolding worth
worth_raised B K credit x d k h =
    let more = cond (eqb (K.cluster x) k) d 0 in
    omega (
      arith,
      sum_add B.vertices (share K credit k) (only x more),
      sum_only B.vertices x more h,
      sum_mono B.vertices (λ v. share K credit k v + only x more v) (share K (raised credit x d) k) (λ v l. at v (eqb x v) refl),
    )
  where
    both : (t : Bool) (c : ℕ) → cond t c 0 + cond t d 0 ≤ cond t (c + d) 0
    both true c = le_refl _
    both false c = omega arith

    one : (t : Bool) (c : ℕ) → cond t c 0 + 0 ≤ cond t (c + 0) 0
    one true c = le_refl _
    one false c = omega arith

    at : (v : ℕ) (s : Bool) → eqb x v ≡ s
        → share K credit k v + cond s (cond (eqb (K.cluster x) k) d 0) 0 ≤ cond (eqb (K.cluster v) k) (credit v + cond s d 0) 0
    at v true q = rw (eqb-true x v q) (both (eqb (K.cluster v) k) (credit v))
    at v false q = one (eqb (K.cluster v) k) (credit v)

-- Tick: where the vertices of R, all of one cluster, reach one further, one more credit at a vertex of that cluster pays for it.
pub tick : (B : Board) (K : Clustering) (reach credit : ℕ → ℕ) → Balanced B K reach credit → (R : Set) (x : ℕ) → x < B.vertices
    → ((v : ℕ) → v < B.vertices → R v ≡ true → K.cluster v ≡ K.cluster x)
    → Balanced B K (λ v. reach v + bit (R v)) (raised credit x 1)
tick B K reach credit b R x h one =
    record { paid = λ u v hu hv same. further u v (b.paid u v hu hv same) (rise u u hu refl) (rise u v hv same) }
  where
    rise : (u v : ℕ) → v < B.vertices → K.cluster u ≡ K.cluster v → bit (R v) ≤ cond (eqb (K.cluster x) (K.cluster u)) 1 0
    rise u v l same = go (R v) refl
      where
        go : (t : Bool) → R v ≡ t → bit t ≤ cond (eqb (K.cluster x) (K.cluster u)) 1 0
        go true q = rw (eq-eqb (K.cluster x) (K.cluster u) (sym (one v l q) ∙ sym same)) (le_refl _)
        go false q = omega arith

    further : (u v : ℕ) {m : Line → Bool} → Paid B reach (worth B K credit (K.cluster u)) u v m
        → bit (R u) ≤ cond (eqb (K.cluster x) (K.cluster u)) 1 0 → bit (R v) ≤ cond (eqb (K.cluster x) (K.cluster u)) 1 0
        → Paid B (λ w. reach w + bit (R w)) (worth B K (raised credit x 1) (K.cluster u)) u v m
    further u v p s t =
        let rises = worth_raised B K credit x 1 (K.cluster u) h in
        record { route = p.route; walk = p.walk; short = omega arith; crossing = p.crossing }
