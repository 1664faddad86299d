-- Supports: how they start, and what is added to them in a growth. Internal: no part of what a reader of a product call must believe.
-- Assumes nothing.
use Rattle.std.specs.Prelude.{ℕ, ◌+◌, ◌*◌, ◌≤◌, ◌<◌, min, ◌≡◌, ◌≢◌, false, cond, not, ◌&&◌, ◌||◌, List, length, get_or, set, eqb}
use Rattle.model.specs.Sums.{Set, bit, count_up_to, ones, some_up_to, values}
use Rattle.model.specs.Board.{vertex_limit, edge_limit, EndsWithin}
use Rattle.model.specs.Growth.{full}
use Rattle.decoder.specs.EndLists.{Listed}

-- every support is at most 2
pub record Supports (s : List ℕ) : Type 0 where
  pub small : (e : ℕ) → e < length s → get_or s e 0 ≤ 2

-- e is one of the first k entries of a list of edges
abbrev pub listed : ℕ → List ℕ → Set
listed k l e = some_up_to k (λ i. eqb (get_or l i 0) e)

-- the set F and the first k listed edges
abbrev pub with_listed : Set → ℕ → List ℕ → Set
with_listed F k filled e = F e || listed k filled e

-- edge e's support after so many half-edges more, up to that of a full edge
abbrev pub lifted : List ℕ → (ℕ → ℕ) → ℕ → ℕ
lifted s gains e = min 2 (get_or s e 0 + gains e)

-- from the supports s on, each edge has gained so many half-edges, and the edges that became full are listed, each once
pub record Raised (s : List ℕ) (gains : ℕ → ℕ) (s' filled : List ℕ) (count : ℕ) : Type 0 where
  pub long : length s' ≡ length s
  pub room : length filled ≡ edge_limit
  pub each : (e : ℕ) → e < length s → get_or s' e 0 ≡ lifted s gains e
  pub count_is : count ≡ count_up_to (length s) (λ e. full s' e && not (full s e))
  pub edges : (i : ℕ) → i < count → get_or filled i 0 < length s
  pub outside : (i : ℕ) → i < count → full s (get_or filled i 0) ≡ false
  pub distinct : (i j : ℕ) → i < j → j < count → get_or filled i 0 ≢ get_or filled j 0
  pub becomes_full : (e : ℕ) → e < length s → full s' e ≡ with_listed (full s) count filled e

-- One half-edge more

-- e has a support, and there is room to list it, unless it is full already
pub record Liftable (s : List ℕ) (e count : ℕ) : Type 0 where
  pub edge : e < length s
  pub small : get_or s e 0 ≤ 2
  pub room : full s e ≡ false → count < edge_limit

-- e gains one, unless it is full; if it becomes full, it is listed
pub record Lifts (s filled : List ℕ) (e count : ℕ) (r : ℕ) (s' filled' : List ℕ) : Type 0 where
  pub support : s' ≡ set s e (min 2 (get_or s e 0 + 1))
  pub lists : filled' ≡ cond (eqb (get_or s e 0) 1) (set filled count e) filled
  pub counts : r ≡ count + bit (eqb (get_or s e 0) 1)

-- The ends at a vertex

-- how many ends of e are v
abbrev pub ends_at : List ℕ → ℕ → ℕ → ℕ
ends_at ends v e = bit (eqb (get_or ends (2 * e) 0) v) + bit (eqb (get_or ends (2 * e + 1) 0) v)

-- v is a vertex with a list of its ends, and there were growths from the supports `start` on
pub record RaisableAt (latest earlier : List ℕ) (v : ℕ) (s filled : List ℕ) (count : ℕ) : Type 0 where
  pub ends : List ℕ
  pub lent : EndsWithin vertex_limit (length s) ends
  pub lists : Listed ends latest earlier
  pub vertex : v < vertex_limit
  pub start : List ℕ
  pub gains : ℕ → ℕ
  pub supports : Supports start
  pub raised : Raised start gains s filled count

-- each edge gains as many half-edges as it has ends at v
pub record RaisesAt (latest earlier : List ℕ) (v : ℕ) (s filled : List ℕ) (count r : ℕ) (s' filled' : List ℕ) : Type 0 where
  pub each : (w : RaisableAt latest earlier v s filled count) → Raised w.start (λ e. w.gains e + ends_at w.ends v e) s' filled' r

-- lost edges start full, others with nothing
abbrev pub start_of : List ℕ → List ℕ
start_of loss = values (length loss) (λ e. cond (ones loss e) 2 0)
