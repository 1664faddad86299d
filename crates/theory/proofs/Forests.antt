-- The spanning forest: it has the parts of the set that it is taken from, an edge is in it exactly where it joins two parts of the
-- edges below it, and no subset of it but the empty one is closed.
-- Assumes nothing.
use Prim.Native.Nat.{ℕ, zero, suc, ◌+◌, ◌≤◌, ◌<◌, min, max}
use mathlib.Core.Path.{◌≡◌, refl, sym, ap, ap₂, ◌∙◌, subst}
use mathlib.Core.Bool.{Bool, true, false, cond, not, ◌&&◌, and-false, true≢false}
use mathlib.Core.Logic.{⊎_elim}
use mathlib.Core.List.{List, [], ◌∷◌}
use native.Mathlib.Nat.{le_of_lt, eq-or-lt_of_le}
use native.Mathlib.Omega.{arith}
use borrow.Author.Tests.{eqb-true, eq-eqb, ne_eqb, not-true, not-false, ltb-true, ltb-false}
use lib.Dec.{eqb, ltb}
use Rattle.std.proofs.lemmas.Bool.{false_from_ne_true, and_from}
use Rattle.model.specs.Sums.{Set, ◌⊕◌, odd_up_to}
use Rattle.model.specs.Board.{Board, Inside, edges, first_end, second_end}
use Rattle.model.specs.Syndrome.{odd_end, HasOddEnds}
use Rattle.model.specs.Components.{label, merge, join, labels_up_to, within}
use Rattle.model.specs.Forest.{parted, taken_up_to, forest}
use Rattle.model.proofs.Xor.{xor_self, and_left, and_right}
use Rattle.model.proofs.SumLaws.{odd_none}
use Rattle.theory.proofs.OddMembers.{odd_one}
use Rattle.theory.proofs.Syndromes.{cut}
use Rattle.theory.proofs.Connected.{Connected}
use Rattle.theory.proofs.Components.{edge_label, connected_label, label_equal_connected}

-- Taken edges

-- two vertices of one part: joining them changes nothing
merge_same : (x : ℕ) (l : List ℕ) → merge x x l ≡ l
merge_same x [] = refl
merge_same x (z ∷ l) = ap₂ ◌∷◌ (go (eqb z (max x x)) refl) (merge_same x l)
  where
    go : (t : Bool) → eqb z (max x x) ≡ t → cond t (min x x) z ≡ z
    go true p = let q = eqb-true z (max x x) p in omega arith
    go false p = refl

module _ (B : Board) (F : Set) where
  -- the labels by the taken edges are the labels by all edges
  pub taken_labels : (k : ℕ) → taken_up_to B F k ≡ labels_up_to B F k
  unfolding taken_up_to labels_up_to
  taken_labels zero = refl
  taken_labels (suc e) = rw (taken_labels e) (go (labels_up_to B F e) (F e) (parted B (labels_up_to B F e) e) refl)
    where
      go : (l : List ℕ) (f t : Bool) → parted B l e ≡ t → cond (f && t) (join B e l) l ≡ cond f (join B e l) l
      go l true true p = refl
      go l true false p =
          sym (merge_same (label l (first_end B e)) l) ∙ ap (λ y. merge (label l (first_end B e)) y l) (eqb-true _ _ (not-false _ p))
      go l false t p = refl

  -- they are the labels by the forest, which so has the parts of F at every stage
  pub taken_forest : (k : ℕ) → taken_up_to B F k ≡ labels_up_to B (forest B F) k
  unfolding taken_up_to labels_up_to forest
  taken_forest zero = refl
  taken_forest (suc e) = rw (taken_forest e)

  pub forest_labels : (k : ℕ) → labels_up_to B (forest B F) k ≡ labels_up_to B F k
  forest_labels k = sym (taken_forest k) ∙ taken_labels k

  -- an edge is in the forest exactly where it is in F and joins two parts of the edges of F below it
  pub forest_is : (e : ℕ) → forest B F e ≡ (F e && parted B (labels_up_to B F e) e)
  unfolding forest
  forest_is e = ap (λ l. F e && parted B l e) (taken_labels e)

  pub forest_inside : (e : ℕ) → forest B F e ≡ true → F e ≡ true
  forest_inside e p = and_left _ _ (sym (forest_is e) ∙ p)

  pub forest_parted : (e : ℕ) → forest B F e ≡ true → label (labels_up_to B F e) (first_end B e) ≡ label (labels_up_to B F e) (second_end B e) → ⊥
  forest_parted e p q = true≢false (sym (eq-eqb _ _ q) ∙ not-true _ (and_right (F e) _ (sym (forest_is e) ∙ p)))

  pub forest_apart : (e : ℕ) → forest B F e ≡ true → Connected B F e (first_end B e) (second_end B e) → ⊥
  forest_apart e p c = forest_parted e p (connected_label B F e c)

  pub forest_takes : Inside B → (e : ℕ) → e < edges B → F e ≡ true → (Connected B F e (first_end B e) (second_end B e) → ⊥)
      → forest B F e ≡ true
  forest_takes r e h p apart =
      forest_is e ∙ and_from _ _ p (ap not (ne_eqb _ _ (λ q. apart (connected q))))
    where
      connected : label (labels_up_to B F e) (first_end B e) ≡ label (labels_up_to B F e) (second_end B e) → Connected B F e (first_end B e) (second_end B e)
      connected = label_equal_connected B F r e (le_of_lt h) (first_end B e) (second_end B e) (r.first_in_range e h) (r.second_in_range e h)

-- Closed sets

-- the edges of D lie in G, below the edge count
pub record Within (B : Board) (D G : Set) : Type 0 where
  pub holds : (e : ℕ) → e < edges B → D e ≡ true → G e ≡ true

-- The largest edge of a closed set joins two vertices that smaller edges connect: across the part of its first end, only it could cross.
pub cycle_closes : (B : Board) → Inside B → (D F : Set) (e : ℕ) → HasOddEnds B D (λ v. false) → e < edges B → D e ≡ true
    → ((i : ℕ) → i < e → D i ≡ true → F i ≡ true) → ((i : ℕ) → e < i → i < edges B → D i ≡ false)
    → label (labels_up_to B F e) (first_end B e) ≡ label (labels_up_to B F e) (second_end B e)
cycle_closes B r D F e closed h here below above = sym (eqb-true _ _ (not-false _ (sym crosses ∙ sym (cut B r A D) ∙ none)))
  where
    l : List ℕ
    l = labels_up_to B F e

    A : Set
    A v = within l (label l (first_end B e)) v

    none : odd_up_to B.vertices (λ v. A v && odd_end B D v) ≡ false
    none = odd_none B.vertices (λ v. A v && odd_end B D v) (λ v u. ap (λ t. A v && t) (closed.at v u) ∙ and-false (A v))

    inner : (i : ℕ) → i < e → (t : Bool) → D i ≡ t → (D i && (A (first_end B i) ⊕ A (second_end B i))) ≡ false
    inner i u true p = rw (p, edge_label B F e i u (below i u p)) (xor_self (A (second_end B i)))
    inner i u false p = rw p

    others : (i : ℕ) → i < edges B → (e ≡ i → ⊥) → (t : Bool) → ltb i e ≡ t → (D i && (A (first_end B i) ⊕ A (second_end B i))) ≡ false
    others i u apart true p = inner i (ltb-true i e p) (D i) refl
    others i u apart false p = let q = ltb-false i e p in rw (above i (omega arith) u)

    crosses : odd_up_to (edges B) (λ i. D i && (A (first_end B i) ⊕ A (second_end B i))) ≡ not (A (second_end B e))
    crosses =
        odd_one (edges B) e (λ i. D i && (A (first_end B i) ⊕ A (second_end B i))) h (λ i u apart. others i u apart (ltb i e) refl)
        ∙ rw (here, eq-eqb (label l (first_end B e)) (label l (first_end B e)) refl)

-- Acyclic: a closed subset of the forest is empty.
pub forest_acyclic : (B : Board) → Inside B → (F D : Set) → Within B D (forest B F) → HasOddEnds B D (λ v. false) → (e : ℕ) → e < edges B
    → D e ≡ false
forest_acyclic B r F D sub closed e h = from (edges B) 0 (omega arith) e (omega arith) h
  where
    here : (e : ℕ) → e < edges B → ((i : ℕ) → e < i → i < edges B → D i ≡ false) → D e ≡ false
    here e h above =
        false_from_ne_true (D e) (λ p. forest_parted B F e (sub.holds e h p)
        (cycle_closes B r D F e closed h p (λ i u q. forest_inside B F i (sub.holds i (omega arith) q)) above))

    -- every edge from e on is out
    from : (n e : ℕ) → edges B ≤ e + n → (i : ℕ) → e ≤ i → i < edges B → D i ≡ false
    from zero e all i low high = absurd (omega arith)
    from (suc n) e all i low high =
        let later = from n (suc e) (omega arith) in
        ⊎_elim (λ q. subst (λ j. D j ≡ false) q (here e (omega arith) later)) (λ u. later i u high) (eq-or-lt_of_le low)
