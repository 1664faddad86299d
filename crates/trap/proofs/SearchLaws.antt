-- Going through all masks of a size goes through all sets of that many edges; a trap that is found when none is smaller is one of fewest
-- edges. Assumes nothing.
use Prim.Native.Nat.{ℕ, ◌+◌, ◌*◌, ◌^◌, ◌≤◌, ◌<◌}
use mathlib.Core.Path.{◌≡◌, sym, ap, ◌∙◌}
use mathlib.Core.Bool.{Bool, true, false, ◌&&◌, false≢true}
use mathlib.Core.List.{List}
use mathlib.Core.Logic.{◌≢◌}
use mathlib.Core.Option.{none, some}
use native.Mathlib.Decide.{dec_lt}
use native.Mathlib.Omega.{arith}
use borrow.Author.Tests.{eqb-true, eq-eqb, ne_eqb}
use lib.Count as counted
use lib.Dec.{eqb}
use lib.ListN.{length}
use Rattle.model.specs.Sums.{Set, bytes, ones, count_up_to, first_up_to}
use Rattle.model.specs.Board.{Board, Inside, edges}
use Rattle.model.specs.Words.{bit_of, number_with}
use Rattle.model.specs.Winding.{size}
use Rattle.model.specs.Demand3.{lost_edges, kept_edges}
use Rattle.model.specs.Distance.{fewest}
use Rattle.model.specs.Traps.{traps}
use Rattle.model.proofs.Xor.{and_left, and_right}
use Rattle.model.proofs.ListLaws.{length_values}
use Rattle.model.proofs.SumLaws.{count_cong, count_mono, none_first, first_found}
use Rattle.theory.proofs.BitLaws.{ones_counted, number_below, number_bit}
use Rattle.theory.proofs.Traps.{traps_cong, trap_heavy, loop_traps, least_trap}
use Rattle.trap.specs.Searching.{trap_of_size, LeastSize, ShowsShortest, ShowsSmallest}

-- no trap has fewer than k edges
pub record NoneBelow (B : Board) (loss : List ℕ) (k : ℕ) : Type 0 where
  pub least : (E : Set) → traps B loss E ≡ true → k ≤ size B E

module _ (B : Board) (loss : List ℕ) where
  -- the edges of a mask are counted by count_ones
  module _ {k x : ℕ} (within : x < 2 ^ edges B) where
    pub this_size : {r : Bool} → counted.ones x ≡ k → r ≡ traps B loss (bit_of x) → r ≡ trap_of_size B loss k x
    this_size {r} is p = p ∙ sym (ap (λ t. t && traps B loss (bit_of x)) (eq-eqb _ k (sym (ones_counted (edges B) x within) ∙ is)))

    pub other_size : counted.ones x ≢ k → false ≡ trap_of_size B loss k x
    other_size apart = sym (ap (λ t. t && traps B loss (bit_of x)) (ne_eqb _ k (λ q. apart (ones_counted (edges B) x within ∙ q))))

  -- every set is that of a mask
  size_missed : (k : ℕ) → first_up_to (2 ^ edges B) (trap_of_size B loss k) ≡ none → (E : Set) → traps B loss E ≡ true → size B E ≢ k
  size_missed k out E p q =
      let m = edges B in
      let x = number_with m E in
      let same = number_bit m E in
      let counted = eq-eqb _ k (count_cong m (bit_of x) E same ∙ q) in
      let trapped = traps_cong B loss (bit_of x) E same ∙ p in
      false≢true (sym (none_first (2 ^ m) (trap_of_size B loss k) out x (number_below m E)) ∙ rw (counted, trapped))

  -- the next size
  pub none_below_next : {k : ℕ} → first_up_to (2 ^ edges B) (trap_of_size B loss k) ≡ none → NoneBelow B loss k → NoneBelow B loss (k + 1)
  none_below_next {k} out w = record { least = λ E p. above (w.least E p) (size_missed k out E p) }
    where
      above : {a : ℕ} → k ≤ a → a ≢ k → k + 1 ≤ a
      above h q = omega (arith, q)

  -- the size to begin with: t + 2s of a smaller set is below the distance
  pub none_below_start : Inside B → {d t k : ℕ} → fewest B ≡ some d → t ≡ lost_edges B (ones loss) → LeastSize d t k → NoneBelow B loss k
  none_below_start r {d} {t} {k} is lost w =
      record {
        least = λ E p. elim (dec_lt (size B E) k) [
          | yes h ↦ absurd (light (w.light (size B E) h) lost (trap_heavy B loss r E d p is) (kept E))
          | no h ↦ omega arith
        ];
      }
    where
      kept : (E : Set) → kept_edges B (ones loss) E ≤ size B E
      kept E = count_mono (edges B) _ E (λ e h q. and_left (E e) _ q)

      light : {a l s : ℕ} → t + 2 * a < d → t ≡ l → d ≤ l + 2 * s → s ≤ a → ⊥
      light h q g f = omega arith

  module _ {d : ℕ} {old : List ℕ} (s : ShowsShortest B d old) where
    pub shown_long : length old ≡ edges B
    shown_long = ap length s.shown.written ∙ length_values (edges B) _

    -- a set of the size that is looked at
    pub found_smallest : {k x : ℕ} {held new : List ℕ} → NoneBelow B loss k → some x ≡ first_up_to (2 ^ edges B) (trap_of_size B loss k)
        → held ≡ old → new ≡ bytes (length held) (bit_of x) → ShowsSmallest B loss k new
    found_smallest {k} {x} {held} {new} w is same filled =
        let at = (first_found (2 ^ edges B) (trap_of_size B loss k) x (sym is)).holds in
        let counted = eqb-true _ k (and_left _ _ at) in
        let trapped = and_right (eqb (count_up_to (edges B) (bit_of x)) k) _ at in
        record {
          least = least_trap B loss k (record { reached = record { set = bit_of x; holds = trapped; count = counted }; least = w.least });
          shown = record { set = bit_of x; trap = trapped; fewest = counted; written = filled ∙ ap (λ m. bytes m (bit_of x)) (ap length same ∙ shown_long) };
        }

    -- no smaller one is: the loop
    pub loop_smallest : {k : ℕ} → NoneBelow B loss k → (k < d → ⊥) → ShowsSmallest B loss d old
    loop_smallest {k} w end =
        let D = s.shown.set in
        let trapped = loop_traps B loss D s.shown.winding in
        record {
          least = least_trap B loss d
              (record { reached = record { set = D; holds = trapped; count = s.shown.fewest }; least = λ E p. reach (w.least E p) });
          shown = record { set = D; trap = trapped; fewest = s.shown.fewest; written = s.shown.written };
        }
      where
        reach : {a : ℕ} → k ≤ a → d ≤ a
        reach h = elim (dec_lt k d) [ yes l ↦ absurd (end l) | no l ↦ omega arith ]
