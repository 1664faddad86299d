-- Insertion of a set: its edges are inserted one after another, each for d. Assumes nothing.
use Prim.Native.Nat.{ℕ, zero, suc, ◌+◌, ◌*◌, ◌≤◌, ◌<◌}
use mathlib.Core.Path.{◌≡◌, refl, sym, ◌∙◌}
use mathlib.Core.Bool.{Bool, true, false, false≢true}
use native.Mathlib.Nat.{le_refl, not-suc-le-zero, mul-add}
use native.Mathlib.Omega.{arith}
use Rattle.model.specs.Sums.{Set, bit, count_up_to}
use Rattle.model.specs.Board.{Board, Inside, edges, first_end, second_end}
use Rattle.model.specs.Winding.{size}
use Rattle.model.proofs.SumLaws.{below_suc}
use Rattle.theory.proofs.ShortLoops.{ShortWalksUnmarked}
use Rattle.theory.proofs.Clusters.{Clustering, Settled, total, Balanced, apart, apart_balanced, total_zero}
use Rattle.theory.proofs.Insertion.{Keeps, insert}

-- the books with the edges of G below k settled as well
pub record InsertedUpTo (B : Board) (K : Clustering) (reach credit : ℕ → ℕ) (d : ℕ) (G : Set) (k : ℕ) : Type 0 where
  pub clustering : Clustering
  pub credits : ℕ → ℕ
  pub balanced : Balanced B clustering reach credits
  pub cost : total B credits ≤ total B credit + d * count_up_to k G
  pub keeps : Keeps B K clustering
  pub settles : (e : ℕ) → e < k → G e ≡ true → Settled B clustering e

-- each edge of G can be inserted for d
pub record Reaches (B : Board) (reach : ℕ → ℕ) (d : ℕ) (G : Set) : Type 0 where
  pub enough : (e : ℕ) → e < edges B → G e ≡ true → 2 ≤ 2 * d + reach (first_end B e) + reach (second_end B e)

-- what the edges below suc k cost
price : (d k : ℕ) (G : Set) → d * count_up_to (suc k) G ≡ d * count_up_to k G + d * bit (G k)
unfolding count_up_to
price d k G = mul-add d (count_up_to k G) (bit (G k))

pub insert_up_to : (B : Board) → Inside B → (K : Clustering) (reach credit : ℕ → ℕ) (T d : ℕ) (G : Set) → ShortWalksUnmarked B T
    → Balanced B K reach credit → Reaches B reach d G → (k : ℕ) → k ≤ edges B
    → total B credit + d * count_up_to k G ≤ T → InsertedUpTo B K reach credit d G k
insert_up_to B r K reach credit T d G short b far zero h fits =
    record {
      clustering = K;
      credits = credit;
      balanced = b;
      cost = omega arith;
      keeps = λ i s. s;
      settles = λ e l. absurd (not-suc-le-zero l);
    }
insert_up_to B r K reach credit T d G short b far (suc k) h fits =
    go (insert_up_to B r K reach credit T d G short b far k (omega arith) (omega (arith, price d k G))) (G k) refl
  where
    go : InsertedUpTo B K reach credit d G k → (t : Bool) → G k ≡ t → InsertedUpTo B K reach credit d G (suc k)
    go i true q =
        let cost : d * count_up_to (suc k) G ≡ d * count_up_to k G + d = price d k G ∙ rw q (omega arith) in
        let next = insert B r i.clustering reach i.credits T d k short i.balanced h (far.enough k h q) (omega (arith, i.cost)) in
        record {
          clustering = next.clustering;
          credits = next.credits;
          balanced = next.balanced;
          cost = omega (arith, i.cost, next.cost);
          keeps = λ j s. next.keeps j (i.keeps j s);
          settles = λ e l p. below_suc k e l (λ less. next.keeps e (i.settles e less p)) (λ same. rw same next.settles);
        }
    go i false q =
        let cost : d * count_up_to (suc k) G ≡ d * count_up_to k G = price d k G ∙ rw q (omega arith) in
        record {
          clustering = i.clustering;
          credits = i.credits;
          balanced = i.balanced;
          cost = omega (arith, i.cost);
          keeps = i.keeps;
          settles = λ e l p. below_suc k e l (λ less. i.settles e less p) (λ same. absurd (false≢true (sym q ∙ (rw same at p))));
        }

-- Insertion of the edges of G.
pub insert_all : (B : Board) → Inside B → (K : Clustering) (reach credit : ℕ → ℕ) (T d : ℕ) (G : Set) → ShortWalksUnmarked B T
    → Balanced B K reach credit → Reaches B reach d G → total B credit + d * size B G ≤ T → InsertedUpTo B K reach credit d G (edges B)
insert_all B r K reach credit T d G short b far fits = insert_up_to B r K reach credit T d G short b far (edges B) (le_refl _) fits

-- For 1 any edge can be inserted.
pub reaches_for_one : (B : Board) (reach : ℕ → ℕ) (G : Set) → Reaches B reach 1 G
reaches_for_one B reach G = record { enough = λ e h p. omega arith }

-- Insertion of the edges of G, each for 1, from clusters of one vertex each.
pub insert_first : (B : Board) → Inside B → (T : ℕ) (G : Set) → ShortWalksUnmarked B T → size B G ≤ T
    → InsertedUpTo B apart (λ v. 0) (λ v. 0) 1 G (edges B)
insert_first B r T G short few =
    insert_all B r apart (λ v. 0) (λ v. 0) T 1 G short (apart_balanced B) (reaches_for_one B (λ v. 0) G) (omega (arith, total_zero B))
