-- Supports along the run of growth: at most two half-edges each, never falling, and two from the start where an edge is lost.
-- Assumes nothing.
use Prim.Native.Nat.{ℕ, ◌+◌, ◌≤◌, ◌<◌, min}
use mathlib.Core.Path.{◌≡◌, sym}
use mathlib.Core.Bool.{Bool, true, false, cond}
use mathlib.Core.List.{List}
use native.Mathlib.Omega.{arith}
use borrow.Author.Tests.{eqb-true, eq-eqb}
use lib.ListN.{length, get_or}
use Rattle.model.specs.Sums.{Set, bit}
use Rattle.model.specs.Board.{Board, Inside, edges, first_end, second_end}
use Rattle.model.specs.Growth.{start, full, swell, Policy}
use Rattle.model.proofs.ListLaws.{length_values, get_d_values, values_cong, values_are}
use Rattle.theory.proofs.GrowthRun.{Reached, reached_holds}

-- one support for each edge, at most 2, and 2 where the edge is lost
pub record Supports (B : Board) (lost : Set) (s : List ℕ) : Type 0 where
  pub long : length s ≡ edges B
  pub bounded : (e : ℕ) → e < edges B → get_or s e 0 ≤ 2
  pub lost_full : (e : ℕ) → e < edges B → lost e ≡ true → full s e ≡ true

pub start_at : (B : Board) (lost : Set) (e : ℕ) → e < edges B → get_or (start B lost) e 0 ≡ cond (lost e) 2 0
unfolding start
start_at B lost e h = get_d_values (edges B) (λ e. cond (lost e) 2 0) e 0 h

pub swell_at : (B : Board) (s : List ℕ) (R : Set) (e : ℕ) → e < edges B
    → get_or (swell B s R) e 0 ≡ min 2 (get_or s e 0 + bit (R (first_end B e)) + bit (R (second_end B e)))
unfolding swell
swell_at B s R e h = get_d_values (edges B) (λ e. min 2 (get_or s e 0 + bit (R (first_end B e)) + bit (R (second_end B e)))) e 0 h

-- only the board's vertices matter
pub swell_cong : (B : Board) → Inside B → (s : List ℕ) (R R' : Set) → ((v : ℕ) → v < B.vertices → R v ≡ R' v) → swell B s R ≡ swell B s R'
unfolding swell
swell_cong B r s R R' same =
    values_cong (edges B)
    (λ e. min 2 (get_or s e 0 + bit (R (first_end B e)) + bit (R (second_end B e))))
    (λ e. min 2 (get_or s e 0 + bit (R' (first_end B e)) + bit (R' (second_end B e))))
    (λ e h. rw (same (first_end B e) (r.first_in_range e h), same (second_end B e) (r.second_in_range e h)))

-- one growth after another, of other vertices, is a growth of both
pub swell_twice : (B : Board) → Inside B → (s : List ℕ) (R T U : Set) → ((v : ℕ) → v < B.vertices → bit (U v) ≡ bit (R v) + bit (T v))
    → swell B (swell B s R) T ≡ swell B s U
unfolding swell
swell_twice B r s R T U both =
    values_cong (edges B)
    (λ e. min 2 (get_or (swell B s R) e 0 + bit (T (first_end B e)) + bit (T (second_end B e))))
    (λ e. min 2 (get_or s e 0 + bit (U (first_end B e)) + bit (U (second_end B e))))
    (λ e h. omega (
      arith,
      swell_at B s R e h,
      both (first_end B e) (r.first_in_range e h),
      both (second_end B e) (r.second_in_range e h),
    ))

pub start_supports : (B : Board) (lost : Set) → Supports B lost (start B lost)
unfolding start
start_supports B lost =
    record {
      long = length_values (edges B) (λ e. cond (lost e) 2 0);
      bounded = λ e h. rw (start_at B lost e h)
          (small (lost e));
      lost_full = λ e h p. rw (start_at B lost e h, p);
    }
  where
    small : (t : Bool) → cond t 2 0 ≤ 2
    small true = omega arith
    small false = omega arith

module _ (B : Board) (lost : Set) (s : List ℕ) (R : Set) (w : Supports B lost s) where
  -- growth takes no support back
  pub swell_keeps : (e : ℕ) → e < edges B → get_or s e 0 ≤ get_or (swell B s R) e 0
  swell_keeps e h = omega (arith, swell_at B s R e h, w.bounded e h)

  pub swell_full : (e : ℕ) → e < edges B → full s e ≡ true → full (swell B s R) e ≡ true
  swell_full e h p =
      eq-eqb (get_or (swell B s R) e 0) 2 (omega (arith, swell_at B s R e h, eqb-true (get_or s e 0) 2 p))

  pub swell_supports : Supports B lost (swell B s R)
  unfolding swell
  swell_supports =
      record {
        long = length_values (edges B) (λ e. min 2 (get_or s e 0 + bit (R (first_end B e)) + bit (R (second_end B e))));
        bounded = λ e h. omega (arith, swell_at B s R e h);
        lost_full = λ e h p. swell_full e h (w.lost_full e h p);
      }

pub reached_supports : (B : Board) (p : Policy) (lost : Set) {s : List ℕ} {g : ℕ} → Reached B p lost s g → Supports B lost s
reached_supports B p lost r =
    reached_holds B p lost (λ s g. Supports B lost s) (start_supports B lost) (λ s g R q w. swell_supports B lost s R w) r

-- where nothing grows the supports stay
pub swell_none : (B : Board) → Inside B → (lost : Set) (s : List ℕ) → Supports B lost s → (R : Set) → ((v : ℕ) → v < B.vertices → R v ≡ false)
    → swell B s R ≡ s
unfolding swell
swell_none B r lost s w R none =
    sym (values_are (edges B) (λ e. min 2 (get_or s e 0 + bit (R (first_end B e)) + bit (R (second_end B e)))) s w.long
    (λ e h. rw (none (first_end B e) (r.first_in_range e h), none (second_end B e) (r.second_in_range e h)) (omega (arith, w.bounded e h))))
