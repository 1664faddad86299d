-- What flipping a vertex does to the parities below, step by step on the way up. Assumes nothing.
use Prim.Native.Nat.{ℕ, ◌+◌, ◌<◌}
use mathlib.Core.Path.{◌≡◌, refl, sym, ap, ◌∙◌}
use mathlib.Core.Logic.{◌≢◌}
use mathlib.Core.Bool.{Bool, true, false, not, ◌&&◌}
use mathlib.Core.List.{List}
use native.Mathlib.Numerals.{add-one}
use native.Mathlib.Decide.{ℕ_discrete}
use native.Mathlib.Omega.{arith}
use borrow.Author.Tests.{eq-eqb, ne_eqb}
use lib.ListN.{length, set, length-set}
use lib.Seq.{get_or-set_same, get_or-set_other}
use lib.Dec.{eqb}
use Rattle.model.specs.Sums.{Set, ◌⊕◌, odd_up_to}
use Rattle.model.proofs.Xor.{xor_false, xor_assoc, xor_comm}
use Rattle.union_find.specs.Trees.{at, InTrees, under}
use Rattle.union_find.proofs.Subtrees.{under_root, under_parent}
use Rattle.peeling.specs.TreeFlips.{odd_below, Flippable, Flipped, AllFlippable, AllFlipped}

-- vertex v flips, and the way up has reached w: what lies from w on is still to do
pub record Flipping (p : List ℕ) (v : ℕ) (odd₀ : List Bool) (w : ℕ) (odd : List Bool) : Type 0 where
  pub ready : Flippable p odd w
  pub same_length : length odd ≡ length odd₀
  pub each : (z : ℕ) → at p z ≢ z → odd_below odd z ⊕ under p z w ≡ odd_below odd₀ z ⊕ under p z v
  pub roots : (z : ℕ) → at p z ≡ z → odd_below odd z ≡ odd_below odd₀ z

-- an entry that flips
entry : (l : List Bool) (w z : ℕ) → w < length l → odd_below (set l w (not (odd_below l w))) z ≡ odd_below l z ⊕ eqb w z
entry l w z h =
    elim (ℕ_discrete z w) [
      | yes e ↦ rw (eq-eqb w z (sym e), e) (get_or-set_same l w _ false h ∙ xor_comm true (odd_below l w))
      | no e ↦ rw (ne_eqb w z (λ q. e (sym q))) (get_or-set_other l w z _ false e ∙ sym (xor_false (odd_below l z)))
    ]

pub flipping_up : {p : List ℕ} {v : ℕ} {odd₀ odd : List Bool} {w : ℕ} → Flipping p v odd₀ w odd → at p w ≢ w
    → Flipping p v odd₀ (at p w) (set odd w (not (odd_below odd w)))
flipping_up {p} {v} {odd₀} {odd} {w} f q =
    record {
      ready = record {
        way = record { count = i.count; size = i.size; climbs = i.climbs; vertex = i.climbs.inside w i.vertex };
        room = rw (length-set odd w (not (odd_below odd w))) f.ready.room;
      };
      same_length = length-set odd w _ ∙ f.same_length;
      each = λ z top.
          ap (λ b. b ⊕ under p z (at p w)) (entry odd w z (omega (arith, i.vertex, f.ready.room)))
          ∙ xor_assoc (odd_below odd z) (eqb w z) (under p z (at p w))
          ∙ ap (λ b. odd_below odd z ⊕ b) (sym (under_parent i.climbs z w i.vertex q))
          ∙ f.each z top;
      roots = λ z top. get_or-set_other odd w z _ false (λ e. q (sym (ap (at p) e) ∙ top ∙ e)) ∙ f.roots z top;
    }
  where
    i : InTrees p w
    i = f.ready.way

pub flipping_done : {p : List ℕ} {v : ℕ} {odd₀ odd : List Bool} {w : ℕ} → Flipping p v odd₀ w odd → at p w ≡ w → Flipped p v odd₀ odd
flipping_done {p} {v} {odd₀} {odd} {w} f top =
    record {
      same_length = f.same_length;
      each = λ z q.
          sym (xor_false (odd_below odd z))
          ∙ ap (λ b. odd_below odd z ⊕ b) (sym (under_root p z w top ∙ ne_eqb w z (λ e. q (sym (ap (at p) e) ∙ top ∙ e))))
          ∙ f.each z q;
      roots = f.roots;
    }

-- any vertex of the trees
pub all_flippable : {n : ℕ} {p : List ℕ} {odd : List Bool} → AllFlippable n p odd → (v : ℕ) → v < n → Flippable p odd v
all_flippable {n} a v h = record { way = record { count = n; size = a.size; climbs = a.climbs; vertex = h }; room = a.room }

-- flips keep the room
pub still_flippable : {n : ℕ} {p : List ℕ} {odd odd' : List Bool} → AllFlippable n p odd → length odd' ≡ length odd → AllFlippable n p odd'
still_flippable a q = record { size = a.size; climbs = a.climbs; room = rw q a.room }

pub none_flipped : (p : List ℕ) (S : Set) (odd : List Bool) → AllFlipped p 0 S odd odd
unfolding odd_up_to
none_flipped p S odd = record { same_length = refl; each = λ z q. sym (xor_false (odd_below odd z)); roots = λ z q. refl }

-- the next vertex is in S
pub flipped_next : {p : List ℕ} {n : ℕ} {S : Set} {odd₀ odd odd' : List Bool} → AllFlipped p n S odd₀ odd → S n ≡ true
    → Flipped p n odd odd' → AllFlipped p (n + 1) S odd₀ odd'
unfolding odd_up_to
flipped_next {p} {n} {S} {odd₀} {odd} {odd'} a q f =
    rw (add-one n)
    (record {
      same_length = f.same_length ∙ a.same_length;
      each = λ z top.
          f.each z top
          ∙ ap (λ b. b ⊕ under p z n) (a.each z top)
          ∙ xor_assoc (odd_below odd₀ z) (odd_up_to n (λ u. S u && under p z u)) (under p z n)
          ∙ ap (λ b. odd_below odd₀ z ⊕ (odd_up_to n (λ u. S u && under p z u) ⊕ (b && under p z n))) (sym q);
      roots = λ z top. f.roots z top ∙ a.roots z top;
    })

-- the next vertex is not in S
pub flipped_passed : {p : List ℕ} {n : ℕ} {S : Set} {odd₀ odd : List Bool} → AllFlipped p n S odd₀ odd → S n ≡ false
    → AllFlipped p (n + 1) S odd₀ odd
unfolding odd_up_to
flipped_passed {p} {n} {S} {odd₀} {odd} a q =
    rw (add-one n)
    (record {
      same_length = a.same_length;
      each = λ z top.
          a.each z top
          ∙ ap (λ b. odd_below odd₀ z ⊕ b) (sym (ap (λ b. odd_up_to n (λ u. S u && under p z u) ⊕ (b && under p z n)) q ∙ xor_false _));
      roots = a.roots;
    })
