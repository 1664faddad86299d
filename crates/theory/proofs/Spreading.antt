-- Growths that each lie in one part, and what the books of Clusters say of them: each lost edge is inserted for 1, each growth is one tick,
-- after which the newly full edges cost nothing, and what never became full is inserted for 1 in the end. Nothing here rests on which part
-- grows, nor on a syndrome. Assumes nothing.
use Prim.Native.Nat.{ℕ, suc, ◌+◌, ◌*◌, ◌≤◌, ◌<◌}
use mathlib.Core.Path.{◌≡◌, refl, sym, ap, ◌∙◌}
use mathlib.Core.Bool.{Bool, true, false, cond, not, ◌&&◌}
use mathlib.Core.List.{List}
use native.Mathlib.Nat.{le_refl, add-zero, add-suc}
use native.Mathlib.Omega.{arith}
use borrow.Author.Tests.{eqb-true, eqb-false, ne_eqb, not-true}
use lib.ListN.{get_or}
use lib.Dec.{eqb}
use Rattle.std.proofs.lemmas.Bool.{and_from}
use Rattle.model.specs.Sums.{Set, bit}
use Rattle.model.specs.Board.{Board, Inside, edges, first_end, second_end}
use Rattle.model.specs.Winding.{winds, size}
use Rattle.model.specs.Growth.{start, full, swell}
use Rattle.model.specs.Demand3.{lost_edges, EveryLoopAbove}
use Rattle.model.proofs.Xor.{and_left, and_right}
use Rattle.theory.proofs.Syndromes.{Sealed}
use Rattle.theory.proofs.Connected.{Connected, connected_keeps}
use Rattle.theory.proofs.CrossedLines.{Closed}
use Rattle.theory.proofs.Supports.{start_at, swell_at}
use Rattle.theory.proofs.ShortLoops.{ShortWalksUnmarked, loops_above_walks}
use Rattle.theory.proofs.Potentials.{potential_unwound}
use Rattle.theory.proofs.Clusters.{Clustering, Settled, total, Balanced, total_zero, raised, raised_total, tick}
use Rattle.theory.proofs.InsertAll.{InsertedUpTo, insert_all, reaches_for_one, insert_first}

-- full edges connect every vertex of R with a
pub record OnePart (B : Board) (s : List ℕ) (R : Set) (a : ℕ) : Type 0 where
  pub vertex : a < B.vertices
  pub holds : (v : ℕ) → v < B.vertices → R v ≡ true → Connected B (full s) (edges B) v a

-- supports s are reached from the start by g growths, each within one part
pub data Spread (B : Board) (lost : Set) : List ℕ → ℕ → Type 0 where
  unspread : Spread B lost (start B lost) 0
  spreads : {s : List ℕ} {g a : ℕ} {R : Set} → Spread B lost s g → OnePart B s R a → Spread B lost (swell B s R) (suc g)

-- induction along them
spread_holds : (B : Board) (lost : Set) (P : List ℕ → ℕ → Type 0) → P (start B lost) 0
    → ((s : List ℕ) (g a : ℕ) (R : Set) → OnePart B s R a → P s g → P (swell B s R) (suc g))
    → {s : List ℕ} {g : ℕ} → Spread B lost s g → P s g
spread_holds B lost P first next unspread = first
spread_holds B lost P first next (spreads {s} {g} {a} {R} c part) = next s g a R part (spread_holds B lost P first next c)

-- Books that fit the supports s, with at most c of credit in all: every full edge is settled, and the support of any other is no more
-- than its ends reach.
pub record Books (B : Board) (s : List ℕ) (c : ℕ) : Type 0 where
  pub clustering : Clustering
  pub reach : ℕ → ℕ
  pub credits : ℕ → ℕ
  pub balanced : Balanced B clustering reach credits
  pub cost : total B credits ≤ c
  pub settles : (e : ℕ) → e < edges B → full s e ≡ true → Settled B clustering e
  pub covers : (e : ℕ) → e < edges B → full s e ≡ false → get_or s e 0 ≤ reach (first_end B e) + reach (second_end B e)

-- at the start the lost edges are full
start_full : (B : Board) (lost : Set) (e : ℕ) → e < edges B → full (start B lost) e ≡ lost e
start_full B lost e h = ap (λ x. eqb x 2) (start_at B lost e h) ∙ go (lost e)
  where
    go : (t : Bool) → eqb (cond t 2 0) 2 ≡ t
    go true = refl
    go false = refl

module _ (B : Board) (r : Inside B) (T : ℕ) (short : ShortWalksUnmarked B T) where
  -- At the start the lost edges are inserted, each for 1.
  start_books : (lost : Set) → lost_edges B lost ≤ T → Books B (start B lost) (lost_edges B lost)
  start_books lost few =
      let i = insert_first B r T lost short few in
      record {
        clustering = i.clustering;
        reach = λ v. 0;
        credits = i.credits;
        balanced = i.balanced;
        cost = omega (arith, i.cost, total_zero B);
        settles = λ e h p. i.settles e h (sym (start_full B lost e h) ∙ p);
        covers = λ e h p. rw (start_at B lost e h, sym (start_full B lost e h) ∙ p) (le_refl _);
      }

  -- One growth: a tick of the part that grows, then the newly full edges at no cost.
  module _ (s : List ℕ) (c a : ℕ) (R : Set) (part : OnePart B s R a) (fits : suc c ≤ T) (b : Books B s c) where
    -- the supports after it, how far each vertex then reaches, and the newly full edges
    abbrev next : List ℕ
    next = swell B s R

    abbrev further : ℕ → ℕ
    further v = b.reach v + bit (R v)

    abbrev fresh : Set
    fresh e = full next e && not (full s e)

    -- what grows lies in one cluster of the books, since full edges are settled
    one_cluster : (v : ℕ) → v < B.vertices → R v ≡ true → b.clustering.cluster v ≡ b.clustering.cluster a
    one_cluster v l p =
        connected_keeps B (full s) (edges B) b.clustering.cluster (λ e k q. (b.settles e k q).inside) (part.holds v l p)

    ticked : Balanced B b.clustering further (raised b.credits a 1)
    ticked = tick B b.clustering b.reach b.credits b.balanced R a part.vertex one_cluster

    -- a newly full edge is reached far enough to cost nothing, and an edge that is not full still has no more than its ends reach
    fresh_reach : (e : ℕ) → e < edges B → fresh e ≡ true → 2 ≤ 2 * 0 + further (first_end B e) + further (second_end B e)
    fresh_reach e l p =
        let open-before = not-true (full s e) (and_right (full next e) _ p) in
        let full-after = eqb-true (get_or next e 0) 2 (and_left _ (not (full s e)) p) in
        omega (arith, swell_at B s R e l, b.covers e l open-before)

    open_reach : (e : ℕ) → e < edges B → full next e ≡ false → get_or next e 0 ≤ further (first_end B e) + further (second_end B e)
    open_reach e l p =
        let at = swell_at B s R e l in
        let open-before = ne_eqb (get_or s e 0) 2 (λ q. eqb-false (get_or next e 0) 2 p (omega arith)) in
        omega (arith, b.covers e l open-before)

    inserted : InsertedUpTo B b.clustering further (raised b.credits a 1) 0 fresh (edges B)
    inserted =
        insert_all B r b.clustering further (raised b.credits a 1) T 0 fresh short ticked (record { enough = fresh_reach })
        (omega (arith, raised_total B b.credits a 1 part.vertex, b.cost))

    swell_books : Books B next (suc c)
    swell_books =
        record {
          clustering = inserted.clustering;
          reach = further;
          credits = inserted.credits;
          balanced = inserted.balanced;
          cost = omega (arith, inserted.cost, raised_total B b.credits a 1 part.vertex, b.cost);
          settles = λ e l p. settled e l p (full s e) refl;
          covers = open_reach;
        }
      where
        settled : (e : ℕ) → e < edges B → full next e ≡ true → (t : Bool) → full s e ≡ t → Settled B inserted.clustering e
        settled e l p true q = inserted.keeps e (b.settles e l q)
        settled e l p false q = inserted.settles e l (and_from _ (not (full s e)) p (ap not q))

-- After g growths there are books with t + g of credit, as long as T allows that.
spread_books : (B : Board) → Inside B → (T : ℕ) → ShortWalksUnmarked B T → (lost : Set) {s : List ℕ} {g : ℕ} → Spread B lost s g
    → lost_edges B lost + g ≤ T → Books B s (lost_edges B lost + g)
spread_books B r T short lost c =
    spread_holds B lost (λ s g. lost_edges B lost + g ≤ T → Books B s (lost_edges B lost + g)) first next c
  where
    first : lost_edges B lost + 0 ≤ T → Books B (start B lost) (lost_edges B lost + 0)
    first few = rw (add-zero (lost_edges B lost)) (start_books B r T short lost (omega arith))

    next : (s : List ℕ) (g a : ℕ) (R : Set) → OnePart B s R a → (lost_edges B lost + g ≤ T → Books B s (lost_edges B lost + g))
        → lost_edges B lost + suc g ≤ T → Books B (swell B s R) (lost_edges B lost + suc g)
    next s g a R part before few =
        rw (add-suc (lost_edges B lost) g) (swell_books B r T short s (lost_edges B lost + g) a R part (omega arith) (before (omega arith)))

-- A closed set of full edges and of others, which are left, does not wind where every winding loop has more than T edges, and the lost
-- edges, the growths and the edges left are together no more.
pub spread_unwound : (B : Board) → Inside B → Sealed B → (lost : Set) {s : List ℕ} {g : ℕ} → Spread B lost s g → (T : ℕ) → EveryLoopAbove B T
    → (D left : Set) → Closed B D → ((e : ℕ) → e < edges B → D e ≡ true → full s e ≡ false → left e ≡ true)
    → lost_edges B lost + g + size B left ≤ T → winds B D ≡ false
spread_unwound B r w lost {s} {g} c T above D left closed covers few =
    potential_unwound B r w i.clustering.potential D
    (record { fits = λ x e h p. (settled e h p (full s e) refl).fits x }) closed
  where
    short : ShortWalksUnmarked B T
    short = loops_above_walks B T above

    b : Books B s (lost_edges B lost + g)
    b = spread_books B r T short lost c (omega arith)

    i : InsertedUpTo B b.clustering b.reach b.credits 1 left (edges B)
    i =
        insert_all B r b.clustering b.reach b.credits T 1 left short b.balanced (reaches_for_one B b.reach left)
        (omega (arith, b.cost))

    -- an edge of D is full, or was inserted last
    settled : (e : ℕ) → e < edges B → D e ≡ true → (t : Bool) → full s e ≡ t → Settled B i.clustering e
    settled e h p true q = i.keeps e (b.settles e h q)
    settled e h p false q = i.settles e h (covers e h p q)
