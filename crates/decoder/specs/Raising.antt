-- The half-edges of a growth, vertex after vertex of the rings. Internal: no part of what a reader of a product call must believe.
-- Assumes nothing.
use Rattle.std.specs.Prelude.{ℕ, ◌+◌, ◌*◌, ◌≤◌, ◌<◌, ◌≡◌, true, not, ◌&&◌, List, length, get_or, ltb}
use Rattle.model.specs.Sums.{Set, bit}
use Rattle.model.specs.Board.{vertex_limit, edge_limit, EndsWithin}
use Rattle.model.specs.Growth.{full}
use Rattle.std.specs.declared.ops.Range.{Range}
use Rattle.decoder.specs.EndLists.{Listed}
use Rattle.decoder.specs.Exposures.{Exposures}
use Rattle.decoder.specs.Figures.{Lows, name_of, odd_figure}
use Rattle.decoder.specs.Gains.{Supports, Raised}
use Rattle.decoder.specs.Rings.{Passes, times, Distinct, Rings}

-- One ring

-- a round from a, and growths from the supports `start` on
pub record RingRaisable (latest earlier ring : List ℕ) (a : ℕ) (s filled : List ℕ) (count : ℕ) : Type 0 where
  pub ends : List ℕ
  pub lent : EndsWithin vertex_limit (length s) ends
  pub lists : Listed ends latest earlier
  pub long : length ring ≡ vertex_limit
  pub vertex : a < vertex_limit
  pub round : List ℕ
  pub passes : Passes ring a round a
  pub begins : 1 ≤ times a round
  pub distinct : Distinct vertex_limit round
  pub start : List ℕ
  pub gains : ℕ → ℕ
  pub supports : Supports start
  pub raised : Raised start gains s filled count

-- how many ends of edge e are passed
abbrev pub ends_in : List ℕ → List ℕ → ℕ → ℕ
ends_in ends l e = times (get_or ends (2 * e) 0) l + times (get_or ends (2 * e + 1) 0) l

-- each edge gains as many half-edges as it has ends in the round
pub record RaisesRing (latest earlier ring : List ℕ) (a : ℕ) (s filled : List ℕ) (count r : ℕ) (s' filled' : List ℕ) : Type 0 where
  pub each :
      (w : RingRaisable latest earlier ring a s filled count) →
      Raised w.start (λ e. w.gains e + ends_in w.ends w.round e) s' filled' r

-- What grows

-- the vertices of the odd clusters whose names are from `from` to before `to`
abbrev pub growers : (ℕ → ℕ) → List ℕ → ℕ → ℕ → Set
growers name figure from to v = not (ltb (name v) from) && (ltb (name v) to && odd_figure figure (name v))

-- how many ends of edge e are in R
abbrev pub ends_of : List ℕ → Set → ℕ → ℕ
ends_of ends R e = bit (R (get_or ends (2 * e) 0)) + bit (R (get_or ends (2 * e + 1) 0))

-- some trees with their names, rings and odd figures, and the supports of some edges with what is counted of their ends
pub record Raisable (latest earlier figure : List ℕ) (r : Range ℕ) (x ring s filled : List ℕ) : Type 0 where
  pub vertices : ℕ
  pub parent : List ℕ
  pub low : List ℕ
  pub ends : List ℕ
  pub lent : EndsWithin vertices (length s) ends
  pub lists : Listed ends latest earlier
  pub supports : Supports s
  pub room : length filled ≡ edge_limit
  pub counts : Exposures (length s) ends (full s) x
  pub lows : Lows vertices parent low
  pub rings : Rings vertices parent low x ring
  pub figures_long : length figure ≡ vertex_limit
  pub leads : (a : ℕ) → a < vertices → odd_figure figure a ≡ true → name_of parent low a ≡ a
  pub ordered : r.start ≤ r.end
  pub inside : r.end ≤ vertices

-- each edge has gained as many half-edges as it has ends in what grows, and the rings are those of the same trees
pub record RaisedBy {latest earlier figure : List ℕ} {r : Range ℕ} {x ring s filled : List ℕ}
    (w : Raisable latest earlier figure r x ring s filled) (to : ℕ) (count : ℕ) (ring' s' filled' : List ℕ) : Type 0 where
  pub raised : Raised s (ends_of w.ends (growers (name_of w.parent w.low) figure r.start to)) s' filled' count
  pub rings : Rings w.vertices w.parent w.low x ring'

pub record Raises (latest earlier figure : List ℕ) (r : Range ℕ) (x ring s filled : List ℕ) (count : ℕ) (ring' s' filled' : List ℕ) : Type 0 where
  pub each : (w : Raisable latest earlier figure r x ring s filled) → RaisedBy w r.end count ring' s' filled'
