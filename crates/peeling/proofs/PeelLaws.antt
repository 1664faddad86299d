-- Cutting the forest in falling edge number: what hangs at the link of an edge is odd, in what is left, exactly where the edge is in the
-- correction.
-- Assumes nothing.
use Prim.Native.Nat.{ℕ, zero, suc, ◌+◌, ◌≤◌, ◌<◌}
use mathlib.Core.Path.{◌≡◌, refl, sym, ap, ap₂, ◌∙◌}
use mathlib.Core.Logic.{◌≢◌, ⊎_elim}
use mathlib.Core.Bool.{Bool, true, false, ◌&&◌, and-true, and-false, and_comm, and_assoc, false≢true}
use mathlib.Core.List.{List}
use native.Mathlib.Decide.{ℕ_discrete, dec_lt}
use native.Mathlib.Omega.{arith}
use borrow.Author.Tests.{eq-eqb, ne_eqb, lt-ltb, le-ltb}
use lib.ListN.{length}
use lib.Dec.{eqb, ltb}
use Rattle.std.proofs.lemmas.Bool.{false_from_ne_true}
use Rattle.model.specs.Sums.{Set, ◌⊕◌, bit, odd_up_to, count_up_to}
use Rattle.model.specs.Board.{Board, Inside, edges, first_end, second_end}
use Rattle.model.specs.Syndrome.{meets, odd_end, HasOddEnds}
use Rattle.model.specs.Winding.{together}
use Rattle.model.specs.Components.{label, labels_up_to}
use Rattle.model.specs.Forest.{forest}
use Rattle.model.proofs.Xor.{xor_false, xor_and, equal_xor, xor_twice}
use Rattle.model.proofs.SumLaws.{odd_cong, odd_xor, odd_and, odd_none}
use Rattle.theory.proofs.Syndromes.{odd_end_cong, odd_end_together, odd_end_edge, ends_parity, cut}
use Rattle.theory.proofs.Components.{edge_label}
use Rattle.theory.proofs.Forests.{Within, forest_inside, forest_parted}
use Rattle.union_find.specs.Trees.{at, under}
use Rattle.peeling.specs.TreeFlips.{odd_below, AllFlipped}
use Rattle.peeling.specs.Links.{HungBy, place}
use Rattle.peeling.specs.Peeling.{ends_under, marked, Cuts, Clear}
use Rattle.peeling.proofs.CutLaws.{marked_here, marked_other}

-- the edges of D below k
abbrev pub lower : ℕ → Set → Set
lower k D e = ltb e k && D e

-- one edge more
lower_next : (k : ℕ) (D : Set) (e : ℕ) → lower (suc k) D e ≡ together (lower k D) (λ i. D k && eqb k i) e
lower_next k D e =
    elim (dec_lt e k) [
      | yes h ↦ rw (lt-ltb e (suc k) (omega arith), lt-ltb e k h, ne_eqb k e (λ q. omega arith), and-false (D k)) (sym (xor_false (D e)))
      | no h ↦ elim (ℕ_discrete k e) [
        | yes q ↦ rw (lt-ltb e (suc k) (omega arith), le-ltb e k (omega arith), eq-eqb k e q, and-true (D k)) (sym (ap D q))
        | no q ↦ rw (le-ltb e (suc k) (omega arith), le-ltb e k (omega arith), ne_eqb k e q, and-false (D k))
      ]
    ]

-- the parity, over the vertices of A, of what the edges of D below k are still to flip
pub left_in : Board → Set → Set → ℕ → Bool
left_in B D A k = odd_up_to B.vertices (λ u. odd_end B (lower k D) u && A u)

module _ (B : Board) (r : Inside B) (D : Set) where
  -- edge k flips its ends
  ends_next : (k : ℕ) → k < edges B → (u : ℕ) → odd_end B (lower (suc k) D) u ≡ odd_end B (lower k D) u ⊕ (D k && meets B k u)
  ends_next k h u =
      odd_end_cong B (lower (suc k) D) (together (lower k D) (λ i. D k && eqb k i)) (λ e l. lower_next k D e) u
      ∙ odd_end_together B (lower k D) (λ i. D k && eqb k i) u
      ∙ ap (λ b. odd_end B (lower k D) u ⊕ b) (odd_end_edge B (D k) k h u)

  left_next : (A : Set) (k : ℕ) → k < edges B → left_in B D A (suc k) ≡ left_in B D A k ⊕ (D k && (A (first_end B k) ⊕ A (second_end B k)))
  unfolding left_in
  left_next A k h =
      odd_cong n (λ u. odd_end B (lower (suc k) D) u && A u) (λ u. (odd_end B (lower k D) u && A u) ⊕ (D k && (A u && meets B k u)))
      (λ u l.
      ap (λ b. b && A u) (ends_next k h u)
      ∙ xor_and (odd_end B (lower k D) u) (D k && meets B k u) (A u)
      ∙ ap (λ b. (odd_end B (lower k D) u && A u) ⊕ b)
      (and_assoc (D k) (meets B k u) (A u) ∙ ap (λ b. D k && b) (and_comm (meets B k u) (A u))))
      ∙ odd_xor n (λ u. odd_end B (lower k D) u && A u) (λ u. D k && (A u && meets B k u))
      ∙ ap (λ b. left_in B D A k ⊕ b) (odd_and n (D k) (λ u. A u && meets B k u) ∙ ap (λ b. D k && b) (ends_parity B r A k h))
    where
      n : ℕ
      n = B.vertices

  -- what no edge below k leaves is even
  left_closed : (A : Set) (k : ℕ) → ((e : ℕ) → e < edges B → e < k → D e ≡ true → A (first_end B e) ≡ A (second_end B e))
      → left_in B D A k ≡ false
  unfolding left_in
  left_closed A k same =
      odd_cong B.vertices (λ u. odd_end B (lower k D) u && A u) (λ u. A u && odd_end B (lower k D) u)
      (λ u l. and_comm (odd_end B (lower k D) u) (A u))
      ∙ cut B r A (lower k D)
      ∙ odd_none (edges B) (λ e. lower k D e && (A (first_end B e) ⊕ A (second_end B e))) each
    where
      inside : (e : ℕ) → e < edges B → e < k → (t : Bool) → D e ≡ t → (t && (A (first_end B e) ⊕ A (second_end B e))) ≡ false
      inside e h l true q = equal_xor _ _ (same e h l q)
      inside e h l false q = refl

      each : (e : ℕ) → e < edges B → (lower k D e && (A (first_end B e) ⊕ A (second_end B e))) ≡ false
      each e h =
          elim (dec_lt e k) [
            | yes l ↦ rw (lt-ltb e k l) (inside e h l (D e) refl)
            | no l ↦ rw (le-ltb e k (omega arith))
          ]

  -- What hangs at the link of edge k is one side of it in the forest of the edges up to k: no edge below k leaves it, so it is odd exactly
  -- where D has edge k.
  link_odd : (F : Set) → Within B D (forest B F) → (p : List ℕ) (k x : ℕ) → k < edges B → HungBy B F p k x
      → left_in B D (under p x) (suc k) ≡ D k
  link_odd F sub p k x h w =
      left_next (under p x) k h
      ∙ rw (left_closed (under p x) k (λ e l less d. together_below e l less d), apart) (and-true (D k))
    where
      l : List ℕ
      l = labels_up_to B F k

      together_below : (e : ℕ) → e < edges B → e < k → D e ≡ true → under p x (first_end B e) ≡ under p x (second_end B e)
      together_below e u less d =
          w.below (first_end B e) (r.first_in_range e u)
          ∙ ap (λ a. eqb a (label l w.end)) (edge_label B F k e less (forest_inside B F e (sub.holds e u d)))
          ∙ sym (w.below (second_end B e) (r.second_in_range e u))

      differ : label l (first_end B k) ≡ label l (second_end B k) → ⊥
      differ = forest_parted B F k w.in_forest

      at_end : {c : ℕ} → w.end ≡ c → label l w.end ≡ label l c
      at_end q = ap (label l) q

      apart : (under p x (first_end B k) ⊕ under p x (second_end B k)) ≡ true
      apart =
          ap₂ ◌⊕◌ (w.below (first_end B k) (r.first_in_range k h)) (w.below (second_end B k) (r.second_in_range k h))
          ∙ ⊎_elim
          (λ q. ap₂ ◌⊕◌ (eq-eqb _ _ (sym (at_end q))) (ne_eqb _ _ (λ e. differ (sym (e ∙ at_end q)))))
          (λ q. ap₂ ◌⊕◌ (ne_eqb _ _ (λ e. differ (e ∙ at_end q))) (eq-eqb _ _ (sym (at_end q))))
          w.is_end

-- The forest's edges, in falling number

-- The edges from k on are cut: D is written there, the bytes below k are still 0, and what the edges below k are still to flip hangs in the
-- trees.
pub record Peeling (B : Board) (D : Set) (p : List ℕ) (k : ℕ) (below : List Bool) (written : List ℕ) (count : ℕ) : Type 0 where
  pub parity : (z : ℕ) → z < B.vertices → at p z ≢ z → odd_below below z ≡ left_in B D (under p z) k
  pub bits : (e : ℕ) → k ≤ e → e < edges B → at written e ≡ bit (D e)
  pub clear : Clear k written
  pub counted : count + count_up_to k D ≡ count_up_to (edges B) D

pub peeling_start : (B : Board) (D S : Set) (p : List ℕ) (fresh below : List Bool) (written : List ℕ) → HasOddEnds B D S
    → ((z : ℕ) → odd_below fresh z ≡ false) → AllFlipped p B.vertices S fresh below → Clear (edges B) written
    → Peeling B D p (edges B) below written 0
unfolding left_in
peeling_start B D S p fresh below written has none all zeros =
    record {
      parity = λ z h top.
          all.each z top
          ∙ rw (none z)
          (odd_cong B.vertices (λ u. S u && under p z u) (λ u. odd_end B (lower (edges B) D) u && under p z u)
          (λ u l.
          ap (λ b. b && under p z u)
          (sym (has.at u l) ∙ odd_end_cong B D (lower (edges B) D) (λ e i. rw (lt-ltb e (edges B) i)) u)));
      bits = λ e from h. absurd (omega arith);
      clear = zeros;
      counted = omega arith;
    }

-- Of n edges of the forest that are left, the last is the next that is cut. With none left, all edges are done.
pub data Reached (B : Board) (F D : Set) (p : List ℕ) (below : List Bool) (written : List ℕ) (count n : ℕ) : Type 0 where
  last : (e : ℕ) → e < edges B → forest B F e ≡ true → n ≡ place B F e + 1 → Peeling B D p (suc e) below written count
      → Reached B F D p below written count n
  done : n ≡ 0 → Peeling B D p 0 below written count → Reached B F D p below written count n

module _ (B : Board) (r : Inside B) (F D : Set) (sub : Within B D (forest B F)) {p : List ℕ} where
  -- an edge that is not in the forest is not in D, and is passed
  peeling_passed : {k : ℕ} {below : List Bool} {written : List ℕ} {count : ℕ} → k < edges B → forest B F k ≡ false
      → Peeling B D p (suc k) below written count → Peeling B D p k below written count
  unfolding count_up_to
  peeling_passed {k} {below} {written} {count} h out w =
      record {
        parity = λ z i top. w.parity z i top ∙ left_next B r D (under p z) k h ∙ rw is (xor_false (left_in B D (under p z) k));
        bits = λ e from i. elim (ℕ_discrete e k) [
          | yes q ↦ w.clear.each e (omega arith) ∙ sym (ap bit (ap D q ∙ is))
          | no q ↦ w.bits e (omega arith) i
        ];
        clear = record { each = λ e l. w.clear.each e (omega arith) };
        counted = omega (arith, w.counted, ap bit is);
      }
    where
      is : D k ≡ false
      is = false_from_ne_true (D k) (λ q. false≢true (sym out ∙ sub.holds k h q))

  -- an edge of the forest is cut exactly where D has it
  pub peeling_next : {k link : ℕ} {below : List Bool} {written : List ℕ} {count : ℕ} {c : Bool} {below' : List Bool} {written' : List ℕ}
      → k < edges B → length written ≡ edges B → HungBy B F p k link → Cuts B.ends p below written k link c below' written'
      → Peeling B D p (suc k) below written count → Peeling B D p k below' written' (count + bit c)
  unfolding count_up_to
  peeling_next {k} {link} {below} {written} {count} {c} {below'} {written'} h long hung cuts w =
      record {
        parity = λ z i top.
            cuts.each z top
            ∙ ap₂ (λ a b. a ⊕ (b && ends_under B.ends p k z)) (w.parity z i top ∙ left_next B r D (under p z) k h) is
            ∙ xor_twice (left_in B D (under p z) k) (D k && ends_under B.ends p k z);
        bits = λ e from i. elim (ℕ_discrete e k) [
          | yes q ↦ rw (q, bytes) (marked_here (D k) k written (omega arith) (w.clear.each k (omega arith)))
          | no q ↦ rw bytes (marked_other (D k) k e written q ∙ w.bits e (omega arith) i)
        ];
        clear = record { each = λ e l. rw bytes (marked_other (D k) k e written (λ q. omega arith) ∙ w.clear.each e (omega arith)) };
        counted = omega (arith, w.counted, ap bit cuts.answer, ap bit is);
      }
    where
      is : odd_below below link ≡ D k
      is = w.parity link hung.vertex hung.not_root ∙ link_odd B r D F sub p k link h hung

      bytes : written' ≡ marked (D k) k written
      bytes = cuts.bytes_are ∙ ap (λ t. marked t k written) is

  -- from the edges from k on, over those that are not in the forest
  pub reach : (k n : ℕ) {below : List Bool} {written : List ℕ} {count : ℕ} → k ≤ edges B → n ≡ place B F k
      → Peeling B D p k below written count → Reached B F D p below written count n
  unfolding count_up_to
  reach zero n h left w = done left w
  reach (suc k) n {below} {written} {count} h left w = go (forest B F k) refl (λ left w. reach k n (omega arith) left w)
    where
      go : (t : Bool) → forest B F k ≡ t
          → (n ≡ place B F k → Peeling B D p k below written count → Reached B F D p below written count n)
          → Reached B F D p below written count n
      go true q further = last k (omega arith) q (left ∙ ap (λ b. place B F k + bit b) q) w
      go false q further = further (left ∙ ap (λ b. place B F k + bit b) q ∙ omega arith) (peeling_passed (omega arith) q w)
