-- The cases of `join`: what its code shows in each is what its contract says. Assumes nothing.
use Prim.Native.Nat.{ℕ, ◌≤◌, ◌<◌}
use mathlib.Core.Path.{◌≡◌, refl, ◌∙◌}
use mathlib.Core.Logic.{◌≢◌}
use mathlib.Core.List.{List}
use native.Mathlib.Omega.{arith}
use borrow.Author.Tests.{eq-eqb, ne_eqb, lt-ltb, le-ltb}
use lib.ListN.{length}
use Rattle.model.specs.Board.{vertex_limit}
use Rattle.model.specs.declared.numbers.Vertex.{Vertex}
use Rattle.union_find.specs.declared.Joined.{Joined}
use Rattle.union_find.specs.declared.Joined.TheVariants.{Already}
use Rattle.union_find.specs.Trees.{at, root_of, Climbs, TwoRoots}
use Rattle.union_find.specs.Joining.{joined}
use Rattle.union_find.specs.Packed.{parents_of, sizes_of, Joinable, Hangable, Hangs, JoinsIn}
use Rattle.union_find.proofs.Roots.{root_top, root_inside}
use Rattle.union_find.proofs.Hanging.{two_swapped}
use Rattle.union_find.proofs.Packing.{parents_long, sizes_at, mark_here}

-- x and y are the roots of a and b
module _ {t : List ℕ} {a b : ℕ} (j : Joinable t a b) {x y : Vertex} (is_x : x.0 ≡ root_of (parents_of t) a) (is_y : y.0 ≡ root_of (parents_of t) b) where
  climbs : Climbs j.count (parents_of t) j.packed.size
  climbs = j.packed.trees.climbs

  x_inside : x.0 < j.count
  x_inside = rw is_x (root_inside climbs a j.first)

  y_inside : y.0 < j.count
  y_inside = rw is_y (root_inside climbs b j.second)

  x_root : at (parents_of t) x.0 ≡ x.0
  x_root = rw is_x (root_top climbs a j.first)

  y_root : at (parents_of t) y.0 ≡ y.0
  y_root = rw is_y (root_top climbs b j.second)

  -- both are in the array
  pub limits : (x.0 < vertex_limit) × (y.0 < vertex_limit)
  limits = (omega (arith, x_inside, climbs.limit), omega (arith, y_inside, climbs.limit))

  two_roots : x.0 ≢ y.0 → TwoRoots j.count (parents_of t) x.0 y.0
  two_roots apart = record { x_inside = x_inside; y_inside = y_inside; x_root = x_root; y_root = y_root; apart = apart }

  pub hangable : x.0 ≢ y.0 → Hangable t x.0 y.0
  hangable apart = record { count = j.count; packed = j.packed; roots = two_roots apart }

  pub hangable_back : x.0 ≢ y.0 → Hangable t y.0 x.0
  hangable_back apart = record { count = j.count; packed = j.packed; roots = two_swapped (two_roots apart) }

  pub joins_already : x.0 ≡ y.0 → JoinsIn t a b (Already x) t
  unfolding joined
  joins_already e = record { answer = rw (← is_x, ← is_y, eq-eqb _ _ e); after = refl }

  room : j.count ≤ length t
  room = omega (arith, climbs.parents, parents_long t)

  -- the larger of two entries is that of the larger tree
  less : at t x.0 < at t y.0 → at (sizes_of t) x.0 < at (sizes_of t) y.0
  less h =
      omega (
        arith,
        sizes_at t x.0 (omega (arith, room, x_inside)),
        sizes_at t y.0 (omega (arith, room, y_inside)),
        mark_here t climbs x.0 x_inside x_root,
      )

  more : at t y.0 ≤ at t x.0 → at (sizes_of t) y.0 ≤ at (sizes_of t) x.0
  more h = omega (arith, sizes_at t x.0 (omega (arith, room, x_inside)), sizes_at t y.0 (omega (arith, room, y_inside)))

  pub joins_first : {r : Joined} {t' : List ℕ} → x.0 ≢ y.0 → at t x.0 < at t y.0 → Hangs t x y r t' → JoinsIn t a b r t'
  unfolding joined
  joins_first apart h w =
      record { answer = w.answer ∙ rw (← is_x, ← is_y, ne_eqb _ _ apart, lt-ltb _ _ (less h)); after = w.after ∙ rw w.answer }

  pub joins_second : {r : Joined} {t' : List ℕ} → x.0 ≢ y.0 → at t y.0 ≤ at t x.0 → Hangs t y x r t' → JoinsIn t a b r t'
  unfolding joined
  joins_second apart h w =
      record { answer = w.answer ∙ rw (← is_x, ← is_y, ne_eqb _ _ apart, le-ltb _ _ (more h)); after = w.after ∙ rw w.answer }
