-- A vertex gives a half-edge to each of its ends, from the last to the first. Assumes nothing.
use Prim.Native.Nat.{ℕ, suc, ◌+◌, ◌*◌, ◌/◌, ◌≤◌, ◌<◌}
use mathlib.Core.Path.{◌≡◌, refl, sym, ap, ◌∙◌}
use mathlib.Core.Bool.{Bool, true, false, ◌&&◌}
use mathlib.Core.List.{List}
use native.Mathlib.Decide.{ℕ_discrete, dec_lt}
use native.Mathlib.Omega.{arith}
use borrow.Author.Tests.{leb-true, eq-eqb, ne_eqb, le-leb, lt-leb}
use lib.ListN.{length, get_or}
use lib.Dec.{eqb, leb}
use Rattle.model.specs.Sums.{Set, bit}
use Rattle.model.specs.Board.{edge_limit}
use Rattle.union_find.specs.Trees.{at}
use Rattle.decoder.specs.EndLists.{latest_end}
use Rattle.decoder.specs.Gains.{Raised, Liftable, Lifts, RaisableAt}
use Rattle.decoder.proofs.EndListLaws.{latest_bound, latest_at, latest_after}
use Rattle.decoder.proofs.Lifting.{raised_cong, liftable, lift_one}

-- the ends at v from the k-th on
abbrev pub from : List ℕ → ℕ → ℕ → Set
from ends v k j = leb k j && eqb (get_or ends j 0) v

-- how many of them are e's
abbrev pub ends_from : List ℕ → ℕ → ℕ → ℕ → ℕ
ends_from ends v k e = bit (from ends v k (2 * e)) + bit (from ends v k (2 * e + 1))

-- the ends at v from `place` on have got their half-edges, and the end before `place` is the next one
pub record RaisedFrom {latest earlier : List ℕ} {v : ℕ} {s₀ filled₀ : List ℕ} {count : ℕ} (w : RaisableAt latest earlier v s₀ filled₀ count)
    (place : ℕ) (total : ℕ) (s filled : List ℕ) : Type 0 where
  pub bound : place ≤ length w.ends
  pub next : (i : ℕ) → place ≡ suc i → get_or w.ends i 0 ≡ v
  pub raised : Raised w.start (λ e. w.gains e + ends_from w.ends v place e) s filled total

-- Ends

-- there is none behind the last
none_behind : (ends : List ℕ) (v k j : ℕ) → j < k → from ends v (latest_end ends v k) j ≡ false
none_behind ends v k j h = go (leb (latest_end ends v k) j) refl
  where
    go : (t : Bool) → leb (latest_end ends v k) j ≡ t → (t && eqb (get_or ends j 0) v) ≡ false
    go true p = ne_eqb (get_or ends j 0) v (latest_after ends v k j (leb-true (latest_end ends v k) j p) h)
    go false p = refl

-- one end more: i
one_more : (ends : List ℕ) (v i j : ℕ) → get_or ends i 0 ≡ v → bit (from ends v (latest_end ends v i) j) ≡ bit (from ends v (suc i) j) + bit (eqb i j)
one_more ends v i j here = elim (ℕ_discrete i j) [
  | yes q ↦
      rw (sym q)
      (rw (le-leb (latest_end ends v i) i (latest_bound ends v i), lt-leb (suc i) i (omega arith), eq-eqb (get_or ends i 0) v here, eq-eqb i i refl))
  | no q ↦
      rw (ne_eqb i j q)
      (elim (dec_lt j i) [
        | yes l ↦ rw (none_behind ends v i j l, lt-leb (suc i) j (omega arith))
        | no l ↦
            rw (le-leb (latest_end ends v i) j (omega (arith, latest_bound ends v i)), le-leb (suc i) j (omega arith))
            (omega arith)
      ])
]

-- end i is one of the two of its edge
one_edge : (i e : ℕ) → bit (eqb i (2 * e)) + bit (eqb i (2 * e + 1)) ≡ bit (eqb (i / 2) e)
one_edge i e = elim (ℕ_discrete (i / 2) e) [
  | yes q ↦
      rw (eq-eqb (i / 2) e q)
      (elim (ℕ_discrete i (2 * e)) [
        | yes r ↦ rw (eq-eqb i (2 * e) r, ne_eqb i (2 * e + 1) (λ t. omega arith))
        | no r ↦ rw (ne_eqb i (2 * e) r, eq-eqb i (2 * e + 1) (omega arith))
      ])
  | no q ↦ rw (ne_eqb (i / 2) e q, ne_eqb i (2 * e) (λ t. omega arith), ne_eqb i (2 * e + 1) (λ t. omega arith))
]

-- A vertex

module _ {latest earlier : List ℕ} {v : ℕ} {s₀ filled₀ : List ℕ} {count : ℕ} (w : RaisableAt latest earlier v s₀ filled₀ count) where
  -- no end has got its half-edge yet
  pub raise_first : (place : ℕ) → place ≡ at latest v → RaisedFrom w place count s₀ filled₀
  raise_first place p =
      record {
        bound = rw is (latest_bound w.ends v (length w.ends));
        next = λ i q. latest_at w.ends v (length w.ends) i (sym is ∙ q);
        raised = raised_cong w.gains (λ e. w.gains e + ends_from w.ends v place e) (λ e h q. omega (arith, none e h)) w.supports w.raised;
      }
    where
      is : place ≡ latest_end w.ends v (length w.ends)
      is = p ∙ w.lists.last v w.vertex

      none_at : (j : ℕ) → j < length w.ends → from w.ends v place j ≡ false
      none_at j h = rw is (none_behind w.ends v (length w.ends) j h)

      none : (e : ℕ) → e < length w.start → ends_from w.ends v place e ≡ 0
      none e h =
          rw (none_at (2 * e) (omega (arith, w.lent.two_ends, w.raised.long)), none_at (2 * e + 1) (omega (arith, w.lent.two_ends, w.raised.long)))

  module _ (place total : ℕ) (s filled : List ℕ) (r : RaisedFrom w place total s filled) (i : ℕ) (p : place ≡ suc i) where
    -- the next end's edge is one of those that have a support
    edge : i / 2 < length s
    edge = omega (arith, r.bound, w.lent.two_ends, w.raised.long, r.raised.long)

    limit : length s ≤ edge_limit
    limit = omega (arith, w.lent.edges_limited, w.raised.long, r.raised.long)

    -- the edge of the next end may be lifted
    pub raise_liftable : Liftable s (i / 2) total
    raise_liftable = liftable _ _ s filled total r.raised limit (i / 2) edge

    -- the end before it at v
    earlier_is : at earlier i ≡ latest_end w.ends v i
    earlier_is = w.lists.before i (omega (arith, r.bound)) ∙ ap (λ u. latest_end w.ends u i) (r.next i p)

    -- the end before it has a smaller number
    pub goes_down : at earlier i < place
    goes_down = omega (arith, earlier_is, latest_bound w.ends v i)

    -- then that end has got its half-edge
    pub raise_next : (total' : ℕ) (s' filled' : List ℕ) → Lifts s filled (i / 2) total total' s' filled' → RaisedFrom w (at earlier i) total' s' filled'
    raise_next total' s' filled' l =
        record {
          bound = omega (arith, goes_down, r.bound);
          next = λ j q. latest_at w.ends v i j (sym earlier_is ∙ q);
          raised = raised_cong _ (λ e. w.gains e + ends_from w.ends v (at earlier i) e) (λ e h q. more e) w.supports
              (lift_one _ _ s filled total r.raised limit (i / 2) edge l);
        }
      where
        more_at : (j : ℕ) → bit (from w.ends v (at earlier i) j) ≡ bit (from w.ends v place j) + bit (eqb i j)
        more_at j = rw (earlier_is, p) (one_more w.ends v i j (r.next i p))

        more : (e : ℕ) → (w.gains e + ends_from w.ends v place e) + bit (eqb (i / 2) e) ≡ w.gains e + ends_from w.ends v (at earlier i) e
        more e = omega (arith, more_at (2 * e), more_at (2 * e + 1), one_edge i e)
