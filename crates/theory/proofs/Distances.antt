-- The distance (model, Distance): it is reached by a winding loop, none is smaller, and there is none exactly where nothing winds. It is
-- the length of a shortest closed walk that crosses some line an odd number of times, where no vertex is open. Assumes nothing.
use Prim.Native.Nat.{ℕ, suc}
use mathlib.Core.Path.{◌≡◌}
use mathlib.Core.Bool.{true, false}
use mathlib.Core.List.{List}
use mathlib.Core.Option.{none, some}
use native.Mathlib.Omega.{arith}
use lib.ListN.{length}
use Rattle.model.specs.Sums.{Set}
use Rattle.model.specs.Board.{Board, Inside}
use Rattle.model.specs.Winding.{winds, size}
use Rattle.model.specs.Distance.{fewest}
use Rattle.theory.proofs.Syndromes.{Sealed}
use Rattle.theory.proofs.CrossedLines.{Line, winds_cong}
use Rattle.theory.proofs.FewestSets.{Member, LeastWhere, where_least, where_none, least_where, none_where}
use Rattle.theory.proofs.Walks.{Walk, walk_crosses, passed_oddly}
use Rattle.theory.proofs.ShortLoops.{passed_size, walk_winds, ShortWalksUnmarked}
use Rattle.theory.proofs.LoopBound.{walks_above_loops}

-- a winding loop of d edges
abbrev pub LoopOf : Board → ℕ → Type 0
LoopOf B d = Member B (winds B) d

-- d is the fewest edges of a winding loop
abbrev pub Least : Board → ℕ → Type 0
Least B d = LeastWhere B (winds B) d

-- it is reached by a winding loop, and no winding loop is smaller
pub fewest_least : (B : Board) (d : ℕ) → fewest B ≡ some d → Least B d
unfolding fewest
fewest_least B d p = where_least B (winds B) (winds_cong B) d p

-- where there is none, nothing winds
pub fewest_none : (B : Board) → fewest B ≡ none → (D : Set) → winds B D ≡ false
unfolding fewest
fewest_none B p = where_none B (winds B) (winds_cong B) p

-- and the reverse of both
pub least_fewest : (B : Board) (d : ℕ) → Least B d → fewest B ≡ some d
unfolding fewest
least_fewest B d l = least_where B (winds B) (winds_cong B) d l

pub none_fewest : (B : Board) → ((D : Set) → winds B D ≡ false) → fewest B ≡ none
unfolding fewest
none_fewest B out = none_where B (winds B) (winds_cong B) out

-- From walks

-- A closed walk that crosses some line an odd number of times, where no shorter one does: its odd edges are a winding loop with as many
-- edges as the walk, and that is the distance.
pub record Shortest (B : Board) (l : List ℕ) : Type 0 where
  pub is_winding : winds B (passed_oddly l) ≡ true
  pub count : size B (passed_oddly l) ≡ length l
  pub distance : fewest B ≡ some (length l)

pub shortest_walk : (B : Board) → Inside B → Sealed B → (u k : ℕ) (l : List ℕ) (x : Line) → Walk B u l u → walk_crosses B x l ≡ true
    → length l ≡ suc k → ShortWalksUnmarked B k → Shortest B l
shortest_walk B r shut u k l x p c long short =
    let above = (walks_above_loops B r shut k short).above in
    let w = walk_winds p x c in
    let count : size B (passed_oddly l) ≡ length l = omega (arith, passed_size B l, above (passed_oddly l) w) in
    record {
      is_winding = w;
      count = count;
      distance = least_fewest B (length l) (record {
        reached = record { set = passed_oddly l; holds = w; count = count };
        least = λ D v. omega (arith, above D v);
      });
    }
